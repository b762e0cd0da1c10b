-- A list of sizes that is sent as a stream of bytes is read as itself.
use Prim.Native.Nat.{ℕ, zero, suc, ◌+◌, ◌*◌, ◌/◌, ◌%◌, ◌≤◌, ◌<◌}
use mathlib.Core.Path.{◌≡◌, refl, sym, ap, ◌∙◌}
use mathlib.Core.Bool.{true}
use mathlib.Core.List.Memᴰ
use mathlib.Core.List.{List, [], ◌∷◌, ◌++◌, map, flatten, Memᴰ}
use native.Mathlib.Omega.{arith}
use native.Mathlib.Nat.{mod-add-div, mod-lt, div-div-eq-div-mul, div-lt_iff_lt-mul}
use borrow.Author.Tests.{le-ltb}
use lib.ListN.{length, length-map}
use Rattle.packing.specs.declared.{Opening.Opening}
use Rattle.packing.specs.declared.Command.TheVariants.{Shelve}
use Rattle.packing.specs.Limits.{opening_good, most_commands}
use Rattle.packing.specs.Streams.{widths, lookup, whole, front_of, opening_of, accepted, follow, commands, read, verdict, lent}
use Rattle.packing.proofs.Limits.{in_limits}
use Rattle.packing.proofs.Tests.{each_cons}
use Rattle.packing.proofs.Fronts.{front_whole}
use Rattle.packing.proofs.Openings.{read_good}
use Rattle.packing.proofs.Walking.{commands_whole, commands_none}
use Rattle.worst_lists.specs.Streams.{four, two, shelving, sending}

-- The bytes of a number make it up again.
abbrev of_four : ℕ → ℕ
of_four n = (((0 * 256 + n / 16777216) * 256 + n / 65536 % 256) * 256 + n / 256 % 256) * 256 + n % 256

abbrev of_two : ℕ → ℕ
of_two n = (0 * 256 + n / 256) * 256 + n % 256

four_is : (n : ℕ) → of_four n ≡ n
four_is n =
    omega
    (arith, mod-add-div n 256, mod-add-div (n / 256) 256, mod-add-div (n / 65536) 256, div-div-eq-div-mul n 256 256, div-div-eq-div-mul n 65536 256)

two_is : (n : ℕ) → of_two n ≡ n
two_is n = omega (arith, mod-add-div n 256)

item_front : (s : ℕ) (rest : List ℕ) → front_of (shelving s ++ rest) ≡ whole (Shelve s) 4
unfolding widths lookup
item_front s rest =
    front_whole (shelving s ++ rest) 4 (record { known = refl; no_opening = refl; inside = omega arith; names_one = refl }) ∙ ap (λ n. whole (Shelve n) 4) (four_is s)

items_read : (o : Opening) (ss : List ℕ) (left offset : ℕ) → length ss ≤ left → commands o left offset (flatten (map shelving ss)) ≡ accepted o (map Shelve ss)
unfolding flatten
items_read o [] left offset few = commands_none o offset left [] refl
items_read o (s ∷ ss) zero offset few = absurd (omega arith)
items_read o (s ∷ ss) (suc left) offset few =
    commands_whole o offset left (shelving s ++ flatten (map shelving ss)) (Shelve s) 4 (item_front s (flatten (map shelving ss)))
    ∙ ap (follow (Shelve s)) (items_read o ss left (offset + 5) (omega arith))

module _ (o : Opening) (plain : o.trailer ≡ 0) (good : opening_good o ≡ true) (ss : List ℕ) where
  abbrev items : List ℕ
  items = flatten (map shelving ss)

  opening_is : opening_of 0x01 (four o.capacity ++ two o.stock ++ o.m ∷ items) ≡ o
  opening_is =
      let one : 0 * 256 + o.m ≡ o.m = omega arith in
      ap (λ c. made c (of_two o.stock) (0 * 256 + o.m) 0) (four_is o.capacity) ∙ ap (λ s. made o.capacity s (0 * 256 + o.m) 0) (two_is o.stock)
      ∙ ap (λ m. made o.capacity o.stock m 0) one ∙ ap (made o.capacity o.stock o.m) (sym plain)
    where
      made : (c s m t : ℕ) → Opening
      made c s m t = record { capacity = c; stock = s; m = m; trailer = t }

  stream_read : length ss ≤ most_commands → read (sending o ss) ≡ accepted o (map Shelve ss)
  stream_read few =
      read_good (sending o ss) (omega arith) refl (ap opening_good opening_is ∙ good) ∙ ap (λ o. commands o most_commands 8 items) opening_is
      ∙ items_read o ss most_commands 8 few

  pub stream_accepted : length ss ≤ most_commands → verdict (sending o ss) (length ss) ≡ accepted o (map Shelve ss)
  stream_accepted few =
      ap (lent (length ss) (length (sending o ss))) (stream_read few)
      ∙ rw (le-ltb (length ss) (length (map Shelve ss)) (omega (arith, length-map ss Shelve)))

-- And they are bytes.
abbrev Byte : ℕ → Type 0
Byte b = b < 256

four_bytes : (n : ℕ) → n < 4294967296 → (rest : List ℕ) → ((b : ℕ) → Memᴰ b rest → Byte b) → (b : ℕ) → Memᴰ b (four n ++ rest) → Byte b
four_bytes n h rest r =
    each_cons Byte ((div-lt_iff_lt-mul {k = 16777216} {x = n} {y = 256} (omega arith)).1 (omega arith))
    (each_cons Byte (mod-lt (n / 65536) (omega arith)) (each_cons Byte (mod-lt (n / 256) (omega arith)) (each_cons Byte (mod-lt n (omega arith)) r)))

items_bytes : (ss : List ℕ) → ((s : ℕ) → Memᴰ s ss → s < 4294967296) → (b : ℕ) → Memᴰ b (flatten (map shelving ss)) → Byte b
unfolding flatten
items_bytes [] h = λ b m. absurd (Memᴰ.not-nil m)
items_bytes (s ∷ ss) h =
    each_cons Byte (omega arith)
    (four_bytes s (h s (Memᴰ.head refl)) (flatten (map shelving ss)) (items_bytes ss (λ s m. h s (Memᴰ.tail m))))

pub stream_bytes : (o : Opening) → opening_good o ≡ true → (ss : List ℕ) → ((s : ℕ) → Memᴰ s ss → s < 4294967296) → (b : ℕ) → Memᴰ b (sending o ss) → Byte b
stream_bytes o good ss h =
    let limits = in_limits o good in
    let two-few : o.stock / 256 < 256 = (div-lt_iff_lt-mul {k = 256} {x = o.stock} {y = 256} (omega arith)).1 (omega (arith, limits.stock)) in
    each_cons Byte (omega arith)
    (four_bytes o.capacity (omega (arith, limits.capacity)) (two o.stock ++ o.m ∷ flatten (map shelving ss))
    (each_cons Byte two-few (each_cons Byte (mod-lt o.stock (omega arith)) (each_cons Byte (omega (arith, limits.m)) (items_bytes ss h)))))

-- "Looks per placement": h is least, the looks of each command by what fits, and the largest of them.
use Prim.Native.Nat.{ℕ, zero, suc, ◌+◌, ◌^◌, ◌≤◌, ◌<◌, max}
use mathlib.Core.Path.{◌≡◌, refl, sym, ap, subst, ◌∙◌}
use mathlib.Core.Logic.{⊎_elim}
use mathlib.Core.Bool.{Bool, true, false, ◌||◌}
use Rattle.std.specs.Prelude.{Option, None, Some}
use mathlib.Core.List.Memᴰ
use mathlib.Core.List.{List, [], ◌∷◌, ◌++◌, map, map-id, Memᴰ}
use mathlib.Mathlib.Data.Bool.Basic.{dichotomy}
use native.Mathlib.Nat.{two-pow-succ}
use native.Mathlib.Decide.{dec_le}
use native.Mathlib.Omega.{arith}
use lib.Dec.{leb, ltb}
use lib.ListN.{length, take, drop}
use borrow.Author.Tests.{lt-ltb, le-ltb, leb-true, leb-false}
use Rattle.std.specs.Prelude.{if◌then◌else◌}
use Rattle.packing.specs.Prelude.{greatest, any, Opening, Command, ItemReason}
use Rattle.packing.specs.Bins.{Item, Bin, Packing}
use Rattle.packing.specs.Placing.{first_fit, takes}
use Rattle.packing.specs.Looks.{height_from, height, fits, looks}
use Rattle.packing.specs.Shelves.{own}
use Rattle.packing.specs.Sending.{shelves_item, size_of, fault, item_of}
use Rattle.packing.specs.Run.{Step, looks_to, run, looks_taken, most_looks, shelf, current, packing}
use Rattle.packing.specs.Claims.{Taker, IsHeight, Looks}
use Rattle.packing.proofs.Searching.{found, any_member}
use Rattle.packing.proofs.Numbers.{at_most_greatest}
use Rattle.packing.proofs.Running.{told_at, mapped_more}

-- A power of two is above its exponent.
below_power : (h : ℕ) → h < 2 ^ h
below_power zero = omega arith
below_power (suc h) = omega (arith, two-pow-succ h, below_power h)

-- h is the least. (It is looked for up to e, which is far enough.)
least_from : (h more e stock : ℕ) → e ≡ h + more → ((k : ℕ) → stock ≤ 2 ^ k → h ≤ k) → stock ≤ 2 ^ e → IsHeight stock (height_from h more stock)
unfolding height_from
least_from h zero e stock at_end least enough = let last : e ≡ h = omega arith in record { enough = rw last at enough; least = least }
least_from h (suc more) e stock at_end least enough = go (leb stock (2 ^ h)) refl (least_from (suc h) more e stock)
  where
    go : (t : Bool) → leb stock (2 ^ h) ≡ t
        → (e ≡ suc h + more → ((k : ℕ) → stock ≤ 2 ^ k → suc h ≤ k) → stock ≤ 2 ^ e → IsHeight stock (height_from (suc h) more stock))
        → IsHeight stock (elim t [ true ↦ h | false ↦ height_from (suc h) more stock ])
    go true q r = record { enough = leb-true stock (2 ^ h) q; least = least }
    go false q r = r (omega arith) (λ k l. elim (dec_le (suc h) k) [
      | yes y ↦ y
      | no y ↦ (let same : k ≡ h = omega (arith, least k l) in absurd (omega (arith, leb-false stock (2 ^ h) q, rw same at l)))
    ]) enough

pub height_least : (stock : ℕ) → IsHeight stock (height stock)
height_least stock = least_from 0 stock stock stock (omega arith) (λ k q. omega arith) (omega (arith, below_power stock))

-- There is no other.
pub height_unique : (stock h : ℕ) → IsHeight stock h → h ≡ height stock
height_unique stock h i = let own = height_least stock in omega (arith, i.least (height stock) own.enough, own.least h i.enough)

-- Some bin takes the item exactly if first fit stops before the last.
pub fits_first : (test : Bin → Bool) (bins : List Bin) → any test bins ≡ ltb (first_fit test bins) (length bins)
unfolding any first_fit
fits_first test [] = refl
fits_first test (b ∷ bs) = go (test b) (fits_first test bs)
  where
    go : (t : Bool) → any test bs ≡ ltb (first_fit test bs) (length bs) → (t || any test bs) ≡ ltb (if t then 0 else suc (first_fit test bs)) (suc (length bs))
    go true e = sym (lt-ltb 0 (suc (length bs)) (omega arith))
    go false e = e ∙ elim (dec_le (suc (first_fit test bs)) (length bs)) [
      | yes y ↦ lt-ltb (first_fit test bs) (length bs) y ∙ sym (lt-ltb (suc (first_fit test bs)) (suc (length bs)) (omega arith))
      | no y ↦ le-ltb (first_fit test bs) (length bs) (omega (arith, y)) ∙ sym (le-ltb (suc (first_fit test bs)) (suc (length bs)) (omega (arith, y)))
    ]

module _ (o : Opening) (p : Packing) (i : Item) where
  pub looks_faulty : (fault : Option ItemReason) → (fault ≡ None → ⊥) → looks o p i fault ≡ 0
  unfolding looks
  looks_faulty (Some reason) e = refl
  looks_faulty None e = absurd (e refl)

  pub looks_above : (fault : Option ItemReason) → o.capacity < i.size → looks o p i fault ≡ 0
  unfolding looks
  looks_above (Some reason) l = refl
  looks_above None l = rw (lt-ltb o.capacity i.size l)

  -- It passes the checks before 10.
  pub looks_by : (fault : Option ItemReason) → fault ≡ None → i.size ≤ o.capacity → looks o p i fault ≡ (if fits o p i then 1 + height o.stock else 1)
  unfolding looks
  looks_by fault faultless within = rw (faultless, le-ltb o.capacity i.size within)

  looks_few : (fault : Option ItemReason) → looks o p i fault ≤ 1 + height o.stock
  unfolding looks
  looks_few (Some reason) = omega arith
  looks_few None = go (ltb o.capacity i.size) (fits o p i)
    where
      go : (b d : Bool) → (if b then 0 else if d then 1 + height o.stock else 1) ≤ 1 + height o.stock
      go true d = omega arith
      go false true = omega arith
      go false false = omega arith

-- One more command.
greatest_more : (ns : List ℕ) (n : ℕ) → greatest (ns ++ n ∷ []) ≡ max (greatest ns) n
unfolding greatest
greatest_more [] n = omega arith
greatest_more (a ∷ ns) n = omega (arith, greatest_more ns n)

-- A greatest that is not 0 is a member.
greatest_member : (ns : List ℕ) → 1 ≤ greatest ns → Memᴰ (greatest ns) ns
unfolding greatest
greatest_member [] l = absurd (omega arith)
greatest_member (n ∷ ns) l = elim (dec_le (greatest ns) n) [
  | yes y ↦ (let first : max n (greatest ns) ≡ n = omega (arith, y) in Memᴰ.head first)
  | no y ↦ (let later : max n (greatest ns) ≡ greatest ns = omega (arith, y) in subst (λ m. Memᴰ m (n ∷ ns)) (sym later) (Memᴰ.tail (greatest_member ns (omega (arith, y)))))
]

module _ (o : Opening) where
  -- No command takes more than a search can.
  looks_most : (p : Packing) (n : ℕ) (c : Command) → looks_to o p n c ≤ 1 + height o.stock
  looks_most p n c = go (shelves_item c)
    where
      go : (t : Bool) → (if t then looks o p (item_of o n c) (fault c) else 0) ≤ 1 + height o.stock
      go true = looks_few o p (item_of o n c) (fault c)
      go false = omega arith

  mapped_most : (ts : List Step) (n : ℕ) → Memᴰ n (map (λ t. looks_to o t.before t.number t.command) ts) → n ≤ 1 + height o.stock
  mapped_most [] n m = absurd (Memᴰ.not-nil m)
  mapped_most (t ∷ ts) n m =
      ⊎_elim (λ e. omega (arith, e, looks_most t.before t.number t.command)) (λ later. mapped_most ts n later) (Memᴰ.cases_cons m)

  -- The largest after one more command.
  pub most_more : (cs : List Command) (c : Command) → most_looks o (cs ++ c ∷ []) ≡ max (most_looks o cs) (looks_to o (own (shelf o cs)) (suc (length cs)) c)
  most_more cs c = ap greatest (mapped_more o cs c (λ t. looks_to o t.before t.number t.command)) ∙ greatest_more (looks_taken o cs) _

  pub most_few : (cs : List Command) → most_looks o cs ≤ 1 + height o.stock
  most_few cs = elim (dec_le 1 (most_looks o cs)) [
    | yes y ↦ mapped_most (run o cs) (most_looks o cs) (greatest_member (looks_taken o cs) y)
    | no y ↦ omega (arith, y)
  ]

  -- What the command at a place takes.
  module _ (j : ℕ) (cs : List Command) where
    abbrev p : Packing
    p = packing o (current o (take j cs)) (take j cs)

    looks_at : (c : Command) (later : List Command) → drop j cs ≡ c ∷ later → take 1 (drop j (looks_taken o cs)) ≡ looks_to o p (suc j) c ∷ []
    looks_at c later d = told_at o (λ t. looks_to o t.before t.number t.command) j cs c later d

    none_else : (c : Command) → shelves_item c ≡ false → looks_to o p (suc j) c ≡ 0
    none_else c e = rw e

    module _ (c : Command) (later : List Command) (d : drop j cs ≡ c ∷ later) where
      abbrev it : Item
      it = item_of o (suc j) c

      taking : {n : ℕ} → shelves_item c ≡ true → looks o p it (fault c) ≡ n → take 1 (drop j (looks_taken o cs)) ≡ n ∷ []
      taking shelves e = looks_at c later d ∙ ap (λ n. n ∷ []) (rw shelves e)

      if_fits : shelves_item c ≡ true → fault c ≡ None → size_of c + o.trailer ≤ o.capacity → (t : Bool) → fits o p it ≡ t
          → take 1 (drop j (looks_taken o cs)) ≡ (if t then 1 + height o.stock else 1) ∷ []
      if_fits shelves faultless within t e = taking shelves (looks_by o p it (fault c) faultless within ∙ ap (λ t. if t then 1 + height o.stock else 1) e)

      -- Whatever the command is.
      no_search : looks o p it (fault c) ≡ 0 → take 1 (drop j (looks_taken o cs)) ≡ 0 ∷ []
      no_search e = looks_at c later d ∙ ap (λ n. n ∷ []) (go (shelves_item c))
        where
          go : (t : Bool) → ◌≡◌ {A = ℕ} (if t then looks o p it (fault c) else 0) 0
          go true = e
          go false = refl

      some_fits : Taker o p it → fits o p it ≡ true
      some_fits t = any_member (takes o p it) p.bins t.bin t.among t.takes_item

      none_fits : (Taker o p it → ⊥) → fits o p it ≡ false
      none_fits nowhere =
          ⊎_elim (λ e. e)
          (λ e. let f = found (takes o p it) p.bins e in absurd (nowhere (record { bin = f.member; among = f.among; takes_item = f.passes })))
          (dichotomy (fits o p it))

pub looks_taken_lem : (o : Opening) (cs : List Command) → Looks o cs
looks_taken_lem o cs =
    record {
      height_is = height_least o.stock;
      nothing_fits = λ j c later d shelves faultless within none. if_fits o j cs c later d shelves faultless within false (none_fits o j cs c later d none);
      fits = λ j c later d shelves faultless within t. if_fits o j cs c later d shelves faultless within true (some_fits o j cs c later d t);
      not_searched = λ j c later d why.
          no_search o j cs c later d (⊎_elim (looks_faulty o _ (item_of o (suc j) c) (fault c)) (looks_above o _ (item_of o (suc j) c) (fault c)) why);
      others = λ j c later d e. looks_at o j cs c later d ∙ ap (λ n. n ∷ []) (none_else o j cs c e);
      at_most = mapped_most o (run o cs);
      none_larger = λ n m. rw (map-id (looks_taken o cs)) at (at_most_greatest (λ k. k) (looks_taken o cs) n m);
      one_of_them = greatest_member (looks_taken o cs);
    }

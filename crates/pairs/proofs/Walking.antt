-- The walk, one sound after the other: where it starts, what one more sound adds, where it ends. What is still to come leads from the pairs and the answers
-- so far to those at the end.
use mathlib.Core.Path.{◌≡◌, refl, sym, ◌∙◌, ap}
use mathlib.Core.Bool.{Bool}
use Rattle.std.specs.Prelude.{if◌then◌else◌}
use mathlib.Core.List.{List, [], ◌∷◌, ◌++◌, map, reverse, map-append, reverse-append}
use Prim.Native.Nat.{ℕ, suc, ◌+◌, ◌-◌, ◌%◌, ◌≤◌, ◌<◌}
use native.Mathlib.Omega.{arith}
use native.Mathlib.Decide.{dec_le}
use lib.ListN.{length, drop, get_or, set, length-set, drop_of_length-le}
use lib.Seq.{drop-cons}
use native.Mathlib.Numerals.{add-one}
use Rattle.std.proofs.lemmas.List.{nil_from_length}
use Rattle.packing.specs.Limits.{most_rows}
use Rattle.packing.specs.Bins.{Item}
use Rattle.matching.specs.Pairs.{Pair, matched}
use Rattle.matching.specs.Written.{written}
use Rattle.matching.proofs.Steps as steps
use Rattle.pairs.specs.Walked.{item, Tried, pairs_of, Walked}

module _ (c : ℕ) (pictures sounds : List ℕ) where
  -- The pairs still to come, where so many pictures are paired and these sounds are left.
  abbrev rest : (paired : ℕ) (left : List ℕ) → List Pair
  rest paired left = matched c (map (item c) (drop paired pictures)) (reverse (map (item c) left))

  pub record Underway (row₀ row : List ℕ) (paired : ℕ) (left : List ℕ) : Type 0 where
    pub in_row : paired ≤ length pictures
    pub words : length row ≡ length row₀
    pub to_count : length (pairs_of c pictures sounds) ≡ paired + length (rest paired left)
    pub to_write : written (pairs_of c pictures sounds) row₀ ≡ written (rest paired left) row

  pub underway_start : (row left : List ℕ) → left ≡ sounds → Underway row row 0 left
  underway_start row left e = rw e (record { in_row = omega arith; words = refl; to_count = omega arith; to_write = refl })

  module _ {row₀ row : List ℕ} {paired : ℕ} {left : List ℕ} (u : Underway row₀ row paired left) where
    finished : rest paired left ≡ [] → Walked c pictures sounds row₀ paired row
    unfolding written
    finished e = record {
      counted = omega (arith, u.to_count, ap length e);
      places_written = sym (u.to_write ∙ ap (λ ps. written ps row) e);
    }

    pub no_picture_left : length pictures ≤ paired → Walked c pictures sounds row₀ paired row
    unfolding matched
    no_picture_left h = finished (let none : drop paired pictures ≡ [] = drop_of_length-le pictures h in rw none)

    module _ (l : paired < length pictures) where
      y : Item
      y = item c (get_or pictures paired 0)

      ys : List Item
      ys = map (item c) (drop (paired + 1) pictures)

      next_picture : map (item c) (drop paired pictures) ≡ y ∷ ys
      unfolding y ys
      next_picture = rw (drop-cons pictures paired 0 l, add-one)

      none_behind : left ≡ [] → Walked c pictures sounds row₀ paired row
      none_behind h =
          let none : reverse (map (item c) left) ≡ [] = rw h in
          finished (rw (next_picture, none) (steps.no_sound c y ys))

      -- The last sound, behind the others.
      module _ (others : List ℕ) (sound : ℕ) (here : left ≡ others ++ (sound ∷ [])) {fits : Bool} {exit : List ℕ}
          (t : Tried c (get_or pictures paired 0) sound row fits exit) where
        z : Item
        z = item c sound

        zs : List Item
        zs = reverse (map (item c) others)

        next_sound : reverse (map (item c) left) ≡ z ∷ zs
        unfolding z zs
        next_sound =
            ap (λ l. reverse (map (item c) l)) here ∙ ap reverse (map-append (item c) others (sound ∷ [])) ∙ reverse-append (map (item c) others) (item c sound ∷ [])

        both : rest paired left ≡ matched c (y ∷ ys) (z ∷ zs)
        both = rw (next_picture, next_sound)

        pub underway_next : Underway row₀ exit (if fits then paired + 1 else paired) others
        unfolding y ys z zs written
        underway_next = elim (dec_le (y.size + z.size) c) [
          | yes h ↦
              let p = t.paired h in
              let e = both ∙ steps.one_pair c y ys z zs h in
              let before : suc (get_or pictures paired 0 % most_rows) - 1 ≡ get_or pictures paired 0 % most_rows = omega arith in
              rw (p.0, p.1)
              record {
                in_row = omega arith;
                words = length-set row _ _ ∙ u.words;
                to_count = omega (arith, u.to_count, ap length e);
                to_write =
                    u.to_write ∙ ap (λ ps. written ps row) e
                    ∙ ap (λ j. written (rest (paired + 1) others) (set row j (suc (sound % most_rows)))) before;
              }
          | no h ↦
              let p = t.passed (omega arith) in
              let e : rest paired left ≡ rest paired others = both ∙ steps.too_large c y ys z zs (omega arith) ∙ rw next_picture in
              rw (p.0, p.1)
              record {
                in_row = u.in_row;
                words = u.words;
                to_count = omega (arith, u.to_count, ap length e);
                to_write = u.to_write ∙ ap (λ ps. written ps row) e;
              }
        ]

    -- In the end no sound is left, and maybe no picture.
    pub no_sound_left : length left ≡ 0 → Walked c pictures sounds row₀ paired row
    no_sound_left h = elim (dec_le (suc paired) (length pictures)) [
      | yes l ↦ none_behind l (nil_from_length left h)
      | no l ↦ no_picture_left (omega arith)
    ]

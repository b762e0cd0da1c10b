-- What is matched: items of the two rows that fit together, none of them twice.
use Prim.Native.Nat.{ℕ, ◌+◌, ◌≤◌}
use mathlib.Core.List.{List, [], ◌∷◌, reverse}
use native.Mathlib.Omega.{arith}
use native.Mathlib.Decide.{dec_le}
use Rattle.packing.specs.Bins.{Item}
use Rattle.worst_case.proofs.Lists.{All, Pairs, all_map}
use Rattle.ordering.specs.declared.Order.TheVariants.{SmallestFirst}
use Rattle.ordering.specs.Items.{items}
use Rattle.ordering.specs.Ordered.{smallest_first}
use Rattle.ordering.proofs.Lists.{reverse_all, reverse_pairs, pairs_map}
use Rattle.ordering.proofs.Items.{There, items_there, Apart, items_apart}
use Rattle.ordering.proofs.Ordered.{ordered_all, ordered_two}
use Rattle.matching.specs.Pairs.{Pair, matched, pairs}
use Rattle.matching.proofs.Steps.{no_sound, one_pair, too_large}

module _ (c : ℕ) where
  -- What holds of every picture and of every sound holds of each pair, and the two fit.
  module _ (Q T : Item → Type 0) where
    abbrev Each : Pair → Type 0
    Each p = Q p.picture × T p.sound × (p.picture.size + p.sound.size ≤ c)

    pub matched_all : (ys zs : List Item) → All Q ys → All T zs → All Each (matched c ys zs)
    unfolding matched
    matched_all [] zs h k = tt
    matched_all (y ∷ ys) [] h k = rw (no_sound c y ys) tt
    matched_all (y ∷ ys) (z ∷ zs) h k = go (matched_all ys zs h.1 k.1) (matched_all (y ∷ ys) zs h k.1)
      where
        go : All Each (matched c ys zs) → All Each (matched c (y ∷ ys) zs) → All Each (matched c (y ∷ ys) (z ∷ zs))
        go r s = elim (dec_le (y.size + z.size) c) [
          | yes e ↦ rw (one_pair c y ys z zs e) ((h.0, k.0, e), r)
          | no e ↦ rw (too_large c y ys z zs (omega arith)) s
        ]

  -- What holds of every two pictures and of every two sounds holds of every two pairs.
  module _ (Q T : Item → Item → Type 0) where
    abbrev Two : (p q : Pair) → Type 0
    Two p q = Q p.picture q.picture × T p.sound q.sound

    pub matched_two : (ys zs : List Item) → Pairs Q ys → Pairs T zs → Pairs Two (matched c ys zs)
    unfolding matched
    matched_two [] zs h k = tt
    matched_two (y ∷ ys) [] h k = rw (no_sound c y ys) tt
    matched_two (y ∷ ys) (z ∷ zs) h k = go (matched_two ys zs h.1 k.1) (matched_two (y ∷ ys) zs h k.1)
      where
        go : Pairs Two (matched c ys zs) → Pairs Two (matched c (y ∷ ys) zs) → Pairs Two (matched c (y ∷ ys) (z ∷ zs))
        go r s = elim (dec_le (y.size + z.size) c) [
          | yes e ↦ rw (one_pair c y ys z zs e) (all_map (λ p q. (q.0, q.1)) (matched c ys zs) (matched_all (Q y) (T z) ys zs h.0 k.0), r)
          | no e ↦ rw (too_large c y ys z zs (omega arith)) s
        ]

module _ (c : ℕ) (pictures sounds : List ℕ) where
  pub record Fair (p : Pair) : Type 0 where
    pub picture : There 1 pictures p.picture
    pub sound : There 1 sounds p.sound
    pub fits : p.picture.size + p.sound.size ≤ c

  pub pairs_fair : All Fair (pairs c pictures sounds)
  pairs_fair =
      all_map (λ p h. record { picture = h.0; sound = h.1; fits = h.2 }) (pairs c pictures sounds)
      (matched_all c (There 1 pictures) (There 1 sounds) (smallest_first (items 1 pictures)) (reverse (smallest_first (items 1 sounds)))
      (ordered_all SmallestFirst (There 1 pictures) (items 1 pictures) (items_there 1 pictures))
      (reverse_all (There 1 sounds) (smallest_first (items 1 sounds)) (ordered_all SmallestFirst (There 1 sounds) (items 1 sounds) (items_there 1 sounds))))

-- Neither the picture nor the sound is the other's.
abbrev pub Aparts : (p q : Pair) → Type 0
Aparts p q = Apart p.picture q.picture × Apart p.sound q.sound

apart_turned : (i j : Item) → Apart i j → Apart j i
apart_turned i j h e = h (omega arith)

row_apart : (sizes : List ℕ) → Pairs Apart (smallest_first (items 1 sizes))
row_apart sizes = ordered_two SmallestFirst Apart apart_turned (items 1 sizes) (items_apart 1 sizes)

pub pairs_apart : (c : ℕ) (pictures sounds : List ℕ) → Pairs Aparts (pairs c pictures sounds)
pairs_apart c pictures sounds =
    matched_two c Apart Apart (smallest_first (items 1 pictures)) (reverse (smallest_first (items 1 sounds))) (row_apart pictures)
    (reverse_pairs Apart (smallest_first (items 1 sounds)) (pairs_map apart_turned (smallest_first (items 1 sounds)) (row_apart sounds)))

-- The pairs reach one of these figures: for some t there are as many as pictures below t and sounds that fit beside t.
use Prim.Native.Nat.{ℕ, suc, ◌+◌, ◌-◌, ◌≤◌, ◌<◌}
use mathlib.Core.Path.{◌≡◌, refl}
use mathlib.Core.Bool.{Bool, true, false}
use mathlib.Core.List.{List, [], ◌∷◌, map}
use native.Mathlib.Omega.{arith}
use native.Mathlib.Decide.{dec_le}
use borrow.Author.Tests.{le-leb, lt-leb, le-ltb}
use lib.ListN.{length}
use Rattle.std.specs.Prelude.{if◌then◌else◌}
use Rattle.packing.specs.Prelude.{total}
use Rattle.packing.specs.Bins.{Item}
use Rattle.packing.proofs.Weights.{one_for}
use Rattle.worst_case.proofs.Lists.{All, Pairs, all_map}
use Rattle.ordering.specs.declared.Order.TheVariants.{LargestFirst, SmallestFirst}
use Rattle.ordering.proofs.Ordered.{Follows}
use Rattle.matching.specs.Pairs.{matched}
use Rattle.matching.proofs.Steps.{one_pair, too_large}
use Rattle.matching.proofs.Cover.{is_below, is_beside}

-- How many items have a size that passes a test.
abbrev pub tally : (test : ℕ → Bool) → List Item → ℕ
tally test is = total (map (λ i. one_for test i.size) is)

module _ (test : ℕ → Bool) where
  one_most : (s : ℕ) → one_for test s ≤ 1
  one_most s = go (test s)
    where
      go : (t : Bool) → (if t then 1 else 0) ≤ 1
      go true = omega arith
      go false = omega arith

  tally_most : (is : List Item) → tally test is ≤ length is
  unfolding total
  tally_most [] = omega arith
  tally_most (i ∷ is) = omega (arith, one_most i.size, tally_most is)

  tally_all : (is : List Item) → All (λ i. test i.size ≡ true) is → tally test is ≡ length is
  unfolding total
  tally_all [] h = refl
  tally_all (i ∷ is) h = rw h.0 (omega (arith, tally_all is h.1))

  tally_none : (is : List Item) → All (λ i. test i.size ≡ false) is → tally test is ≡ 0
  unfolding total
  tally_none [] h = refl
  tally_none (i ∷ is) h = rw h.0 (omega (arith, tally_none is h.1))

module _ (c : ℕ) where
  abbrev below : (t : ℕ) → List Item → ℕ
  below t ys = tally (is_below c t) ys

  abbrev beside : (t : ℕ) → List Item → ℕ
  beside t zs = tally (is_beside c t) zs

  none_below : (t : ℕ) (ys : List Item) → All (λ y. t ≤ y.size) ys → below t ys ≡ 0
  none_below t ys h = tally_none (is_below c t) ys (all_map (λ y r. le-ltb y.size t r) ys h)

  none_below_0 : (ys : List Item) → below 0 ys ≡ 0
  unfolding total
  none_below_0 [] = refl
  none_below_0 (y ∷ ys) = rw (le-ltb y.size 0 (omega arith)) (omega (arith, none_below_0 ys))

  none_beside : (zs : List Item) → beside (suc c) zs ≡ 0
  unfolding total
  none_beside [] = refl
  none_beside (z ∷ zs) = rw (lt-leb (z.size + suc c) c (omega arith)) (omega (arith, none_beside zs))

  -- Where a sound fits beside t, so do all behind it, which are no larger.
  all_beside : (t : ℕ) (z : Item) (zs : List Item) → z.size + t ≤ c → All (Follows LargestFirst z) zs → beside t zs ≡ length zs
  all_beside t z zs h falls = tally_all (is_beside c t) zs (all_map (λ a r. le-leb (a.size + t) c (omega arith)) zs falls)

  pub record Threshold (ys zs : List Item) : Type 0 where
    pub t : ℕ
    pub reached : below t ys + beside t zs ≤ length (matched c ys zs)

  module _ (y z : Item) (ys zs : List Item) (falls : All (Follows LargestFirst z) zs) where
    -- The two are paired: t stays where it counts at most one of them. Else it counts every sound, and 0 counts no picture.
    paired : y.size + z.size ≤ c → Threshold ys zs → Threshold (y ∷ ys) (z ∷ zs)
    unfolding total
    paired h r = elim (dec_le (suc y.size) r.t) [
      | no p ↦ record {
        t = r.t;
        reached = rw (one_pair c y ys z zs h, le-ltb y.size r.t (omega arith)) (omega (arith, r.reached, one_most (is_beside c r.t) z.size));
      }
      | yes p ↦ elim (dec_le (z.size + r.t) c) [
        | no q ↦ record {
          t = r.t;
          reached = rw (one_pair c y ys z zs h, lt-leb (z.size + r.t) c (omega arith)) (omega (arith, r.reached, one_most (is_below c r.t) y.size));
        }
        | yes q ↦ record {
          t = 0;
          reached =
              rw (one_pair c y ys z zs h)
              (omega (arith, r.reached, all_beside r.t z zs q falls, none_below_0 (y ∷ ys), tally_most (is_beside c 0) (z ∷ zs)));
        }
      ]
    ]

    -- The sound is too large: t stays where it does not count it. Else it counts every other sound, and one more than fits beside z counts no picture.
    passed : c < y.size + z.size → All (Follows SmallestFirst y) ys → Threshold (y ∷ ys) zs → Threshold (y ∷ ys) (z ∷ zs)
    unfolding total
    passed h rises r = elim (dec_le (z.size + r.t) c) [
      | no q ↦ record { t = r.t; reached = rw (too_large c y ys z zs h, lt-leb (z.size + r.t) c (omega arith)) (omega (arith, r.reached)) }
      | yes q ↦ record {
        t = suc (c - z.size);
        reached =
            let none = none_below (suc (c - z.size)) (y ∷ ys) (omega arith, all_map (λ a p. omega arith) ys rises) in
            rw (too_large c y ys z zs h, lt-leb (z.size + suc (c - z.size)) c (omega arith))
            (omega (arith, r.reached, none, all_beside r.t z zs q falls, tally_most (is_beside c (suc (c - z.size))) zs));
      }
    ]

  pub threshold : (ys zs : List Item) → Pairs (Follows SmallestFirst) ys → Pairs (Follows LargestFirst) zs → Threshold ys zs
  unfolding total
  threshold ys [] h k = record { t = 0; reached = omega (arith, none_below_0 ys) }
  threshold [] (z ∷ zs) h k = record { t = suc c; reached = omega (arith, none_beside (z ∷ zs)) }
  threshold (y ∷ ys) (z ∷ zs) h k = go (threshold ys zs h.1 k.1) (threshold (y ∷ ys) zs h k.1)
    where
      go : Threshold ys zs → Threshold (y ∷ ys) zs → Threshold (y ∷ ys) (z ∷ zs)
      go p q = elim (dec_le (y.size + z.size) c) [
        | yes e ↦ paired y z ys zs k.0 e p
        | no e ↦ passed y z ys zs k.0 (omega arith) h.0 q
      ]

-- What is promised of a pairing.
use Prim.Native.Nat.{ℕ, ◌≤◌}
use mathlib.Core.Path.{◌≡◌, refl}
use mathlib.Core.List.{List, [], ◌∷◌, map, reverse, Memᴰ}
use native.Mathlib.Omega.{arith}
use lib.ListN.{length}
use Rattle.packing.proofs.Tests.{each_map}
use Rattle.packing.proofs.Weights.{one_for}
use Rattle.worst_case.proofs.Lists.{Pairs}
use Rattle.ordering.specs.declared.Order.TheVariants.{LargestFirst, SmallestFirst}
use Rattle.ordering.specs.Items.{items}
use Rattle.ordering.specs.Ordered.{smallest_first}
use Rattle.ordering.proofs.Lists.{each_member, pairs_map, reverse_pairs, reverse_sum}
use Rattle.ordering.proofs.Items.{items_sum}
use Rattle.ordering.proofs.Ordered.{Follows, ordered_sum, ordered_follows}
use Rattle.matching.specs.Pairs.{Pair, pairs, pair_count}
use Rattle.matching.specs.Claims.{Once, Places, places_of, Fit, Pairing, PairsPromised}
use Rattle.matching.proofs.Matched.{Fair, pairs_fair, pairs_apart}
use Rattle.matching.proofs.Cover.{is_below, is_beside, pairing_few}
use Rattle.matching.proofs.Threshold.{threshold}
use Rattle.matching.proofs.Answers.{fair_fit, one_each, named_fit, sounds_once, counted}

-- Numbers that are apart stand once.
once : (f : Places → ℕ) (ps : List Pair) → Pairs (λ p q. f (places_of p) ≡ f (places_of q) → ⊥) ps → Once (map f (map places_of ps))
once f [] h = tt
once f (p ∷ ps) h = (none, once f ps h.1)
  where
    none : Memᴰ (f (places_of p)) (map f (map places_of ps)) → ⊥
    none m =
        each_map f (λ n. f (places_of p) ≡ n → ⊥) (map places_of ps)
        (each_map places_of (λ q. f (places_of p) ≡ f q → ⊥) ps (each_member (λ q. f (places_of p) ≡ f (places_of q) → ⊥) ps h.0)) (f (places_of p)) m refl

module _ (c : ℕ) (pictures sounds : List ℕ) where
  is_pairing : Pairing c pictures sounds (map places_of (pairs c pictures sounds))
  is_pairing = record {
    pictures_once = once (λ p. p.picture) (pairs c pictures sounds) (pairs_map (λ p q h. h.0) (pairs c pictures sounds) (pairs_apart c pictures sounds));
    sounds_once = once (λ p. p.sound) (pairs c pictures sounds) (pairs_map (λ p q h. h.1) (pairs c pictures sounds) (pairs_apart c pictures sounds));
    each_fits =
        each_map places_of (λ p. Fit c pictures sounds p.picture p.sound) (pairs c pictures sounds)
        (λ p m. fair_fit c pictures sounds p (each_member (Fair c pictures sounds) (pairs c pictures sounds) (pairs_fair c pictures sounds) p m));
  }

  none_more : (ps : List Places) → Pairing c pictures sounds ps → length ps ≤ pair_count c pictures sounds
  none_more ps h =
      let ys = smallest_first (items 1 pictures) in
      let zs = smallest_first (items 1 sounds) in
      let falls = reverse_pairs (Follows LargestFirst) zs (ordered_follows SmallestFirst (items 1 sounds)) in
      let meets = threshold c ys (reverse zs) (ordered_follows SmallestFirst (items 1 pictures)) falls in
      let low = is_below c meets.t in
      let slim = is_beside c meets.t in
      omega (
        arith,
        meets.reached,
        pairing_few c meets.t pictures sounds ps h,
        ordered_sum SmallestFirst (λ i. one_for low i.size) (items 1 pictures),
        items_sum (one_for low) 1 pictures,
        reverse_sum (λ i. one_for slim i.size) zs,
        ordered_sum SmallestFirst (λ i. one_for slim i.size) (items 1 sounds),
        items_sum (one_for slim) 1 sounds,
      )

pub pairs_promised : PairsPromised
pairs_promised c pictures sounds = record {
  one_each = one_each c pictures sounds;
  named_fit = named_fit c pictures sounds;
  sounds_once = sounds_once c pictures sounds;
  counted = counted c pictures sounds;
  is_pairing = is_pairing c pictures sounds;
  none_more = none_more c pictures sounds;
}

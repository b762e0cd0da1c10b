-- The answers by the pairs: a word above 0 names the sound of a pair, and there are as many such words as pairs.
use Prim.Native.Nat.{ℕ, zero, suc, ◌+◌, ◌-◌, ◌≤◌, ◌<◌}
use mathlib.Core.Path.{◌≡◌, refl, sym, ap, ◌∙◌, subst}
use mathlib.Core.Bool.{Bool, true, false}
use mathlib.Core.List.Memᴰ
use mathlib.Core.List.{List, [], ◌∷◌, map, Memᴰ}
use native.Mathlib.Omega.{arith}
use native.Mathlib.Decide.{dec_le, ℕ_discrete}
use borrow.Author.Tests.{lt-ltb, eqb-true, eq-eqb, ne_eqb}
use lib.Dec.{eqb, ltb}
use lib.ListN.{length, get_or, length-map, get_or-eq_default}
use Rattle.std.specs.Prelude.{if◌then◌else◌}
use Rattle.packing.specs.Prelude.{total, keep}
use Rattle.packing.specs.Bins.{Item}
use Rattle.packing.proofs.Weights.{one_for, total_passing}
use Rattle.worst_case.proofs.Lists.{All, Pairs, all_map}
use Rattle.ordering.specs.Items.{items}
use Rattle.ordering.proofs.Lists.{each_member}
use Rattle.ordering.proofs.Items.{items_length, items_at, times, times_one}
use Rattle.matching.specs.Pairs.{Pair, sound_of, pairs, sound_places, pair_count}
use Rattle.matching.specs.Claims.{at, Fit}
use Rattle.matching.proofs.Matched.{Fair, pairs_fair, Aparts, pairs_apart}

-- A pair of the picture of this place.
record Named (place : ℕ) (ps : List Pair) : Type 0 where
  pair : Pair
  member : Memᴰ pair ps
  its_picture : pair.picture.command ≡ place
  its_sound : pair.sound.command ≡ sound_of place ps

named : (n : ℕ) (ps : List Pair) → 1 ≤ sound_of n ps → Named n ps
unfolding sound_of
named n [] h = absurd (omega arith)
named n (p ∷ ps) h = go (eqb p.picture.command n) refl h (named n ps)
  where
    go : (t : Bool) → eqb p.picture.command n ≡ t → 1 ≤ (if t then p.sound.command else sound_of n ps) → (1 ≤ sound_of n ps → Named n ps) → Named n (p ∷ ps)
    go true e h r = record { pair = p; member = Memᴰ.head refl; its_picture = eqb-true p.picture.command n e; its_sound = rw e }
    go false e h r =
        let later = r h in
        record { pair = later.pair; member = Memᴰ.tail later.member; its_picture = later.its_picture; its_sound = rw e later.its_sound }

-- Where no pair has the picture there is no sound.
pub none_named : (n : ℕ) (ps : List Pair) → All (λ p. p.picture.command ≡ n → ⊥) ps → sound_of n ps ≡ 0
unfolding sound_of
none_named n [] h = refl
none_named n (p ∷ ps) h = rw (ne_eqb p.picture.command n h.0) (none_named n ps h.1)

-- Pairs with one sound have one picture.
same_picture : (ps : List Pair) → Pairs Aparts ps → (p q : Pair) → Memᴰ p ps → Memᴰ q ps → p.sound.command ≡ q.sound.command
    → p.picture.command ≡ q.picture.command
same_picture [] h p q m n e = absurd (Memᴰ.not-nil m)
same_picture (x ∷ ps) h p q (Memᴰ.head a) (Memᴰ.head b) e = ap (λ y. y.picture.command) (a ∙ sym b)
same_picture (x ∷ ps) h p q (Memᴰ.head a) (Memᴰ.tail n) e =
    absurd ((each_member (Aparts x) ps h.0 q n).1 (sym (ap (λ y. y.sound.command) a) ∙ e))
same_picture (x ∷ ps) h p q (Memᴰ.tail m) (Memᴰ.head b) e =
    absurd ((each_member (Aparts x) ps h.0 p m).1 (sym (e ∙ ap (λ y. y.sound.command) b)))
same_picture (x ∷ ps) h p q (Memᴰ.tail m) (Memᴰ.tail n) e = same_picture ps h.1 p q m n e

at_before : (row : List ℕ) (n : ℕ) → 1 ≤ n → at row n ≡ get_or row (n - 1) 0
at_before row zero h = absurd (omega arith)
at_before row (suc n) h = let before : suc n - 1 ≡ n = omega arith in rw before

module _ (c : ℕ) (pictures sounds : List ℕ) where
  abbrev answers : List ℕ
  answers = sound_places c pictures sounds

  abbrev all : List Pair
  all = pairs c pictures sounds

  pub fair_fit : (p : Pair) → Fair c pictures sounds p → Fit c pictures sounds p.picture.command p.sound.command
  fair_fit p f =
      let y = f.picture in
      let z = f.sound in
      record {
        picture_there = omega (arith, y.from, y.to);
        sound_there = omega (arith, z.from, z.to);
        fits =
            rw (at_before pictures p.picture.command y.from, at_before sounds p.sound.command z.from, y.its_size, z.its_size) f.fits;
      }

  pub one_each : length answers ≡ length pictures
  one_each = length-map (items 1 pictures) (λ i. sound_of i.command all) ∙ items_length 1 pictures

  pub answer_at : (n : ℕ) → n < length pictures → get_or answers n 0 ≡ sound_of (suc n) all
  answer_at n l = let place : 1 + n ≡ suc n = omega arith in items_at (λ k. sound_of k all) 1 pictures n l ∙ ap (λ k. sound_of k all) place

  -- The pair that a word above 0 names.
  answered : (i : ℕ) → 1 ≤ at answers i → (at answers i ≡ sound_of i all) × Named i all
  answered zero h = absurd (omega arith)
  answered (suc n) h = elim (dec_le (suc n) (length pictures)) [
    | yes l ↦ (answer_at n l, named (suc n) all (omega (arith, answer_at n l)))
    | no l ↦ absurd (omega (arith, get_or-eq_default answers 0 {n = n} (omega (arith, one_each))))
  ]

  pub named_fit : (i : ℕ) → 1 ≤ at answers i → Fit c pictures sounds i (at answers i)
  named_fit i h =
      let a = answered i h in
      let n = a.1 in
      let fits = fair_fit n.pair (each_member (Fair c pictures sounds) all (pairs_fair c pictures sounds) n.pair n.member) in
      subst (λ j. Fit c pictures sounds j (at answers i)) n.its_picture
      (subst (λ s. Fit c pictures sounds n.pair.picture.command s) (n.its_sound ∙ sym a.0) fits)

  pub sounds_once : (i j : ℕ) → 1 ≤ at answers i → at answers i ≡ at answers j → i ≡ j
  sounds_once i j h e =
      let a = answered i h in
      let b = answered j (omega arith) in
      let p = a.1 in
      let q = b.1 in
      let same = same_picture all (pairs_apart c pictures sounds) p.pair q.pair p.member q.member (p.its_sound ∙ sym a.0 ∙ e ∙ b.0 ∙ sym q.its_sound) in
      sym p.its_picture ∙ same ∙ q.its_picture

-- How many words are above 0: each pair adds one, at its picture's place.
above : (is : List Item) (ps : List Pair) → ℕ
above is ps = total (map (λ i. one_for (ltb 0) (sound_of i.command ps)) is)

module _ (p : Pair) (ps : List Pair) (some : 1 ≤ p.sound.command) (fresh : All (λ q. q.picture.command ≡ p.picture.command → ⊥) ps) where
  one_word : (k : ℕ) → one_for (ltb 0) (sound_of k (p ∷ ps)) ≡ one_for (ltb 0) (sound_of k ps) + (if eqb k p.picture.command then 1 else 0)
  unfolding sound_of
  one_word k = elim (ℕ_discrete k p.picture.command) [
    | yes e ↦
        let none : sound_of k ps ≡ 0 = rw e (none_named p.picture.command ps fresh) in
        rw (eq-eqb p.picture.command k (sym e), eq-eqb k p.picture.command e, lt-ltb 0 p.sound.command some, none) refl
    | no e ↦ rw (ne_eqb p.picture.command k (λ q. e (sym q)), ne_eqb k p.picture.command e) (omega arith)
  ]

  one_more : (is : List Item) → above is (p ∷ ps) ≡ above is ps + times p.picture.command is
  unfolding above total
  one_more [] = refl
  one_more (i ∷ is) = omega (arith, one_word i.command, one_more is)

none_above : (is : List Item) → above is [] ≡ 0
unfolding above total sound_of
none_above [] = refl
none_above (i ∷ is) = omega (arith, none_above is)

words_above : (is : List Item) (ps : List Pair) → total (map (one_for (ltb 0)) (map (λ i. sound_of i.command ps) is)) ≡ above is ps
unfolding above total
words_above [] ps = refl
words_above (i ∷ is) ps = omega (arith, words_above is ps)

module _ (c : ℕ) (pictures sounds : List ℕ) where
  counted_from : (ps : List Pair) → All (Fair c pictures sounds) ps → Pairs Aparts ps → above (items 1 pictures) ps ≡ length ps
  counted_from [] f a = none_above (items 1 pictures)
  counted_from (p ∷ ps) f a =
      let y = f.0.picture in
      let fresh : All (λ q. q.picture.command ≡ p.picture.command → ⊥) ps = all_map (λ q h e. h.0 (sym e)) ps a.0 in
      omega (arith, one_more p ps f.0.sound.from fresh (items 1 pictures), times_one p.picture.command 1 pictures y.from y.to, counted_from ps f.1 a.1)

  pub counted : length (keep (ltb 0) (sound_places c pictures sounds)) ≡ pair_count c pictures sounds
  counted =
      total_passing (ltb 0) (sound_places c pictures sounds) ∙ words_above (items 1 pictures) (pairs c pictures sounds)
      ∙ counted_from (pairs c pictures sounds) (pairs_fair c pictures sounds) (pairs_apart c pictures sounds)

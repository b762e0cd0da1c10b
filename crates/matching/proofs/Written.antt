-- The answers written pair after pair are those of the pairs: a picture's word is written once, and the words behind the last picture never.
use Prim.Native.Nat.{ℕ, suc, ◌+◌, ◌-◌, ◌≤◌, ◌<◌}
use mathlib.Core.Path.{◌≡◌, refl, sym, ap, ◌∙◌, subst}
use mathlib.Core.List.{List, [], ◌∷◌, ◌++◌}
use native.Mathlib.Omega.{arith}
use native.Mathlib.Decide.{dec_le, ℕ_discrete}
use borrow.Author.Tests.{eq-eqb, ne_eqb}
use lib.ListN.{length, get_or, set, replicate, length-append, length-set, length-replicate, get_or-replicate, get_or-append}
use lib.Seq.{get_or-set_same, get_or-set_other, get_or-append-add, ext_get_or}
use Rattle.worst_case.proofs.Lists.{All, Pairs, all_map}
use Rattle.matching.specs.Pairs.{Pair, sound_of, pairs, sound_places}
use Rattle.matching.specs.Written.{written}
use Rattle.matching.specs.Claims.{WrittenAll}
use Rattle.matching.proofs.Matched.{Fair, pairs_fair, Aparts, pairs_apart}
use Rattle.matching.proofs.Answers.{one_each, answer_at}

-- How many words stand before a picture's.
abbrev before : Pair → ℕ
before p = p.picture.command - 1

-- The row with one pair.
abbrev noted : Pair → List ℕ → List ℕ
noted p row = set row (before p) p.sound.command

pub written_length : (ps : List Pair) (row : List ℕ) → length (written ps row) ≡ length row
unfolding written
written_length [] row = refl
written_length (p ∷ ps) row = written_length ps (noted p row) ∙ simp length-set

-- A word is left alone where no pair has its place.
left_alone : (n : ℕ) (ps : List Pair) (row : List ℕ) → All (λ p. n ≡ before p → ⊥) ps → get_or (written ps row) n 0 ≡ get_or row n 0
unfolding written
left_alone n [] row h = refl
left_alone n (p ∷ ps) row h = left_alone n ps (noted p row) h.1 ∙ get_or-set_other row (before p) n p.sound.command 0 h.0

-- Where 0 stood, the word is then the sound's place, if a pair has the picture.
word : (n : ℕ) (ps : List Pair) (row : List ℕ) → All (λ p. 1 ≤ p.picture.command) ps → Pairs Aparts ps → n < length row → get_or row n 0 ≡ 0
    → get_or (written ps row) n 0 ≡ sound_of (suc n) ps
unfolding written sound_of
word n [] row f a l e = e
word n (p ∷ ps) row f a l e = elim (ℕ_discrete p.picture.command (suc n)) [
  | yes h ↦
      let here : before p ≡ n = omega arith in
      let others : All (λ q. n ≡ before q → ⊥) ps = apart_from ps f.1 a.0 h in
      let now : get_or (noted p row) n 0 ≡ p.sound.command = rw here (get_or-set_same row n p.sound.command 0 l) in
      rw (eq-eqb p.picture.command (suc n) h) (left_alone n ps (noted p row) others ∙ now)
  | no h ↦
      let other : n ≡ before p → ⊥ = λ k. h (omega (arith, f.0)) in
      let same : get_or (noted p row) n 0 ≡ 0 = get_or-set_other row (before p) n p.sound.command 0 other ∙ e in
      rw (ne_eqb p.picture.command (suc n) h) (word n ps (noted p row) f.1 a.1 (omega (arith, length-set row (before p) p.sound.command)) same)
]
  where
    apart_from : (qs : List Pair) → All (λ q. 1 ≤ q.picture.command) qs → All (Aparts p) qs → p.picture.command ≡ suc n → All (λ q. n ≡ before q → ⊥) qs
    apart_from [] g b h = tt
    apart_from (q ∷ qs) g b h = ((λ k. b.0.0 (omega (arith, g.0))), apart_from qs g.1 b.1 h)

module _ (c : ℕ) (pictures sounds rest : List ℕ) where
  abbrev zeros : List ℕ
  zeros = replicate (length pictures) 0

  abbrev Same : ℕ → Type 0
  Same n = get_or (written (pairs c pictures sounds) (zeros ++ rest)) n 0 ≡ get_or (sound_places c pictures sounds ++ rest) n 0

  fair : All (Fair c pictures sounds) (pairs c pictures sounds)
  fair = pairs_fair c pictures sounds

  same_inside : (n : ℕ) → n < length pictures → Same n
  same_inside n l =
      let blank : get_or (zeros ++ rest) n 0 ≡ 0 = get_or-append zeros rest 0 n (omega (arith, length-replicate {A = ℕ} (length pictures) 0)) ∙ get_or-replicate (length pictures) n 0 0 l in
      let inside : n < length (zeros ++ rest) = omega (arith, length-append zeros rest, length-replicate {A = ℕ} (length pictures) 0) in
      word n (pairs c pictures sounds) (zeros ++ rest) (all_map (λ p f. f.picture.from) (pairs c pictures sounds) fair) (pairs_apart c pictures sounds) inside blank
      ∙ sym (get_or-append (sound_places c pictures sounds) rest 0 n (omega (arith, one_each c pictures sounds)) ∙ answer_at c pictures sounds n l)

  same_after : (m : ℕ) → Same (length pictures + m)
  same_after m =
      let none : All (λ p. length pictures + m ≡ before p → ⊥) (pairs c pictures sounds) =
      all_map (λ p f k. omega (arith, f.picture.from, f.picture.to)) (pairs c pictures sounds) fair in
      left_alone (length pictures + m) (pairs c pictures sounds) (zeros ++ rest) none
      ∙ ap (λ k. get_or (zeros ++ rest) (k + m) 0) (sym (length-replicate (length pictures) 0)) ∙ get_or-append-add zeros rest m 0
      ∙ sym (ap (λ k. get_or (sound_places c pictures sounds ++ rest) (k + m) 0) (sym (one_each c pictures sounds)) ∙ get_or-append-add (sound_places c pictures sounds) rest m 0)

  same : (n : ℕ) → Same n
  same n = elim (dec_le (suc n) (length pictures)) [
    | yes l ↦ same_inside n l
    | no l ↦ subst Same (omega arith) (same_after (n - length pictures))
  ]

pub written_all : WrittenAll
written_all c pictures sounds rest =
    let zeros : List ℕ = replicate (length pictures) 0 in
    let first = written_length (pairs c pictures sounds) (zeros ++ rest) in
    ext_get_or 0 _ _
    (omega (arith, first, length-append zeros rest, length-replicate {A = ℕ} (length pictures) 0, length-append (sound_places c pictures sounds) rest, one_each c pictures sounds))
    (λ n l. same c pictures sounds rest n)

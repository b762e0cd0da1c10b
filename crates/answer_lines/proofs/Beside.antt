-- A walk over two rows side by side, each pair with its number: after so many pairs, what is left of each row is what stands from there on.
use Rattle.std.proofs.Common.{◌≡◌, ℕ, ◌+◌, ◌≤◌, List, ◌∷◌, length, drop, get_or, Some, None, Bor, sym, ap, ◌∙◌, arith, refl}
use Rattle.std.proofs.iter.Yields.{fronts}
use Rattle.std.proofs.lemmas.Iterator.{zips, empty_from_Zip}
use Rattle.std.proofs.lemmas.List.{drop-drop, length-drop, get_or-drop}
use Rattle.std.specs.Iterator.Adapters.{zip_first, zip_second, enumerate_source, enumerate_count, enumerate_steps}
use Rattle.std.specs.Slice.Iter.{iter_rest}
use Rattle.std.specs.declared.iter.Enumerate.{Enumerate}
use Rattle.std.specs.declared.iter.Zip.{Zip}
use Rattle.std.specs.declared.slice.Iter.{Iter}

pub record Beside (words free : List ℕ) (it : Enumerate (Zip (Iter ℕ) (Iter ℕ))) : Type 0 where
  pub words_left : iter_rest (zip_first (enumerate_source it)) ≡ drop (enumerate_count it) words
  pub free_left : iter_rest (zip_second (enumerate_source it)) ≡ drop (enumerate_count it) free

-- At the start all is left.
pub beside_start : {words free : List ℕ} (it made : Enumerate (Zip (Iter ℕ) (Iter ℕ))) (pairs : Zip (Iter ℕ) (Iter ℕ)) → it ≡ made → enumerate_source made ≡ pairs → enumerate_count made ≡ 0
    → iter_rest (zip_first pairs) ≡ words → iter_rest (zip_second pairs) ≡ free → (enumerate_count it ≡ 0) × Beside words free it
beside_start {words} {free} it made pairs same source none first second =
    let count : enumerate_count it ≡ 0 = ap enumerate_count same ∙ none in
    let pair : enumerate_source it ≡ pairs = ap enumerate_source same ∙ source in (
      count,
      record {
        words_left = ap (λ z. iter_rest (zip_first z)) pair ∙ first ∙ ap (λ (k : ℕ). drop k words) (sym count);
        free_left = ap (λ z. iter_rest (zip_second z)) pair ∙ second ∙ ap (λ (k : ℕ). drop k free) (sym count);
      },
    )

-- The first of what is left of a row stands at the place, and the others behind it.
module _ (row : List ℕ) (place : ℕ) (x : ℕ) (rest : List ℕ) (left : drop place row ≡ x ∷ rest) where
  first_is : x ≡ get_or row place 0
  first_is =
      let e : place + 0 ≡ place = omega arith in
      sym (ap (λ (l : List ℕ). get_or l 0 0) left) ∙ get_or-drop place row 0 0 ∙ ap (λ (k : ℕ). get_or row k 0) e

  others_are : rest ≡ drop (place + 1) row
  others_are = sym (ap (drop 1) left) ∙ drop-drop 1 place row

-- A pair of the walk: it is numbered by the pairs before it, and stands there.
pub record Pair (words free : List ℕ) (place number word unit : ℕ) (it' : Enumerate (Zip (Iter ℕ) (Iter ℕ))) : Type 0 where
  pub number_is : number ≡ place
  pub word_is : word ≡ get_or words place 0
  pub unit_is : unit ≡ get_or free place 0
  pub count : enumerate_count it' ≡ place + 1
  pub beside : Beside words free it'

module _ {words free : List ℕ} {it : Enumerate (Zip (Iter ℕ) (Iter ℕ))} (g : Beside words free it) where
  pub beside_next : (number : ℕ) (word unit : Bor ℕ) (it' : Enumerate (Zip (Iter ℕ) (Iter ℕ))) → enumerate_steps (zips fronts fronts) it (Some (number, (word, unit))) it'
      → Pair words free (enumerate_count it) number word.now unit.now it'
  beside_next number word unit it' step =
      let place = enumerate_count it in
      record {
        number_is = step.1;
        word_is = first_is words place word.now _ (sym g.words_left ∙ step.0.0);
        unit_is = first_is free place unit.now _ (sym g.free_left ∙ step.0.1);
        count = step.2;
        beside = record {
          words_left = others_are words place word.now _ (sym g.words_left ∙ step.0.0) ∙ ap (λ (k : ℕ). drop k words) (sym step.2);
          free_left = others_are free place unit.now _ (sym g.free_left ∙ step.0.1) ∙ ap (λ (k : ℕ). drop k free) (sym step.2);
        };
      }

  -- None is left.
  pub beside_end : (it' : Enumerate (Zip (Iter ℕ) (Iter ℕ))) → length words ≡ length free → enumerate_steps (zips fronts fronts) it None it' → length words ≤ enumerate_count it
  beside_end it' same step =
      let rests : length (iter_rest (zip_first (enumerate_source it))) ≡ length (iter_rest (zip_second (enumerate_source it))) =
      omega (arith, ap length g.words_left, ap length g.free_left, length-drop (enumerate_count it) words, length-drop (enumerate_count it) free) in
      let none = empty_from_Zip (enumerate_source it) (enumerate_source it') None refl step.0 rests in
      omega (arith, ap length g.words_left, length-drop (enumerate_count it) words, ap length none.0)

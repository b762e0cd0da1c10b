-- A numbered walk over two rows side by side: where it is, and where it ends.
use mathlib.Core.Path.{◌≡◌, refl, sym, ap, ◌∙◌}
use mathlib.Core.List.{List, [], ◌∷◌, map}
use Prim.Native.Nat.{ℕ, min, ◌+◌, ◌<◌}
use native.Mathlib.Omega.{arith}
use lib.ListN.{length, get_or, length-map}
use denote.Ref.{Bor}
use Rattle.std.specs.Prelude.{Option, Some, None}
use Rattle.std.specs.Iterator.{Yields}
use Rattle.std.specs.Iterator.Adapters.{enumerate_source, enumerate_count, enumerate_steps, zip_first, zip_second}
use Rattle.std.specs.Slice.Iter.{iter_rest}
use Rattle.std.proofs.iter.Yields.{fronts}
use Rattle.std.proofs.lemmas.Iterator.{zips}
use Rattle.std.proofs.lemmas.Slice.Zip.{zip_turn, zip_end}

-- without the numbers, and the number that comes next
numbered : {S A : Type 0} (steps : S → Option A → S → Type 0) (s : _) (xs : List (ℕ × A)) (t : _) → Yields (enumerate_steps steps) s xs t
    → Yields steps (enumerate_source s) (map (λ p. p.1) xs) (enumerate_source t) × (enumerate_count t ≡ enumerate_count s + length xs)
numbered steps s [] t y = (ap enumerate_source y, sym (ap enumerate_count y) ∙ (omega arith))
numbered steps s (x ∷ xs) t y =
    let rest = numbered steps y.0 xs t y.2 in
    ((enumerate_source y.0, y.1.0, rest.0), omega (arith, rest.1, y.1.2))

module _ {A B : Type 0} (ks : List A) (vs : List B) (xs : List (ℕ × (Bor A × Bor B))) (s t : _)
    (first : iter_rest (zip_first (enumerate_source s)) ≡ ks) (second : iter_rest (zip_second (enumerate_source s)) ≡ vs) (zero : enumerate_count s ≡ 0)
    (y : Yields (enumerate_steps (zips fronts fronts)) s xs t) where
  short : length (map (λ p. p.1) xs) ≡ length xs
  short = length-map xs (λ p. p.1)

  pub at_pair : (u : _) (r : Option (ℕ × (Bor A × Bor B))) (p : ℕ × (Bor A × Bor B)) → r ≡ Some p → enumerate_steps (zips fronts fronts) t r u
      → (length xs < length ks) × (length xs < length vs) × (p.0 ≡ length xs) × ((d : A) → p.1.0.now ≡ get_or ks (length xs) d) × ((d : B) → p.1.1.now ≡ get_or vs (length xs) d)
  at_pair u r p e steps =
      let here : enumerate_steps (zips fronts fronts) t (Some p) u = rw e at steps in
      let n = numbered (zips fronts fronts) s xs t y in
      let turn = zip_turn ks vs (map (λ p. p.1) xs) (enumerate_source s) (enumerate_source t) (enumerate_source u) (Some p.1) first second n.0 p.1 refl here.0 in
      (omega (arith, turn.0, short), omega (arith, turn.1, short), here.1 ∙ omega (arith, n.1, zero), (λ d. rw (← short) (turn.2 d)), (λ d. rw (← short) (turn.3 d)))

  pub at_end : (u : _) (r : Option (ℕ × (Bor A × Bor B))) → r ≡ None → enumerate_steps (zips fronts fronts) t r u → length xs ≡ min (length ks) (length vs)
  at_end u r e steps =
      let here : enumerate_steps (zips fronts fronts) t None u = rw e at steps in
      let n = numbered (zips fronts fronts) s xs t y in
      sym short ∙ zip_end ks vs (map (λ p. p.1) xs) (enumerate_source s) (enumerate_source t) (enumerate_source u) None first second n.0 refl here.0

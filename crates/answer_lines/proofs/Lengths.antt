-- How long the line of an answer is at most: the figures beside the command's number are at most the stock and the capacity, or the number of a
-- refusal or of a production.
use mathlib.Core.List.{[], ◌∷◌}
use Prim.Native.Nat.{ℕ, ◌≤◌}
use Prim.Native.Char.{code}
use native.Mathlib.Omega.{arith}
use lib.ListN.{length}
use Rattle.packing.specs.declared.{Opening.Opening, Production.Production, Command.Command, Outcome.Outcome, ItemReason.ItemReason}
use Rattle.packing.specs.declared.Production.TheVariants.{First, Second}
use Rattle.packing.specs.declared.Outcome.TheVariants.{Switched, Refused}
use Rattle.packing.specs.Limits.{most_capacity}
use Rattle.packing.specs.Refusals.{item_number}
use Rattle.packing.proofs.Given.{item_number_few, Told, placed_in, counted, withdrawn_from, switched_to, settled_in, refused_item, refused_out, refused_settling}
use Rattle.text.specs.Lines.{line}
use Rattle.text.proofs.Lengths.{line_few, long_line_few}
use Rattle.answer_lines.specs.Lines.{line_of, most_of_a_line}

refused_few : (number : ℕ) → number ≤ 4096 → (reason : ItemReason) → length (line_of number (Refused reason)) ≤ most_of_a_line
refused_few number l reason = omega (arith, line_few (code "R") 3 2 number (item_number reason) (omega arith) (omega (arith, item_number_few reason)))

-- Whichever number of a production stands on the line.
switched_few : (number : ℕ) → number ≤ 4096 → (r : Production) → length (line_of number (Switched r)) ≤ most_of_a_line
switched_few number l r = go r
  where
    few : (k : ℕ) → k ≤ 1 → length (line (code "S") (number ∷ k ∷ [])) ≤ most_of_a_line
    few k h = omega (arith, line_few (code "S") 3 2 number k (omega arith) (omega arith))

    go : (r : Production) → length (line_of number (Switched r)) ≤ most_of_a_line
    go First = omega (arith, few 0 (omega arith), few 1 (omega arith))
    go Second = omega (arith, few 0 (omega arith), few 1 (omega arith))

pub answer_line_few : (o : Opening) → o.stock ≤ 512 → o.capacity ≤ most_capacity → (number : ℕ) → number ≤ 4096 → (c : Command) (a : Outcome)
    → Told o c a → length (line_of number a) ≤ most_of_a_line
answer_line_few o stock capacity number l c a (placed_in {bin = bin} {free = free} e m r) =
    long_line_few (code "P") 3 2 7 number bin free (omega arith) (omega arith) (omega arith)
answer_line_few o stock capacity number l c a (counted {count = count} m) = omega (arith, line_few (code "C") 3 2 number count (omega arith) (omega arith))
answer_line_few o stock capacity number l c a (withdrawn_from {bin = bin} m r) = omega (arith, line_few (code "O") 3 2 number bin (omega arith) (omega arith))
answer_line_few o stock capacity number l c a (switched_to {r = r}) = switched_few number l r
answer_line_few o stock capacity number l c a (settled_in {bin = bin} m r) = omega (arith, line_few (code "F") 3 2 number bin (omega arith) (omega arith))
answer_line_few o stock capacity number l c a (refused_item {reason = reason} e) = refused_few number l reason
answer_line_few o stock capacity number l c a (refused_out {reason = reason}) = refused_few number l reason
answer_line_few o stock capacity number l c a (refused_settling {reason = reason}) = refused_few number l reason

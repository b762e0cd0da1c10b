-- The lines that `shelve` prints of answers, as rows of bytes in ASCII.
use mathlib.Core.List.{List, [], ◌∷◌, map, flatten}
use Rattle.std.specs.Prelude.{ℕ, ◌*◌}
use Prim.Native.Char.{code}
use Rattle.packing.specs.declared.{Outcome.Outcome, Answer.Answer}
use Rattle.packing.specs.declared.Outcome.TheVariants.{Placed, Counted, Withdrawn, Switched, Settled, Refused}
use Rattle.packing.specs.Limits.{most_commands}
use Rattle.packing.specs.Productions.{production_number}
use Rattle.packing.specs.Refusals.{item_number}
use Rattle.text.specs.Lines.{line}

-- "`P` command cartridge; `C` command count; `R` command refusal", "`P` lines gain the figure at their end", "`shelve` prints `O` command cartridge",
-- without the free units, 05 is "printed as `S` command production", and 07 "as `F` command cartridge", without them too: by what the command of this
-- number comes to. 06 "prints a `P` line".
abbrev pub line_of : (number : ℕ) → Outcome → List ℕ
line_of number (Placed bin free) = line (code "P") (number ∷ bin ∷ free ∷ [])
line_of number (Counted opened) = line (code "C") (number ∷ opened ∷ [])
line_of number (Withdrawn bin free) = line (code "O") (number ∷ bin ∷ [])
line_of number (Switched r) = line (code "S") (number ∷ production_number r ∷ [])
line_of number (Settled bin free) = line (code "F") (number ∷ bin ∷ [])
line_of number (Refused reason) = line (code "R") (number ∷ item_number reason ∷ [])

abbrev pub answer_line : Answer → List ℕ
answer_line a = line_of a.number a.outcome

-- The lines of answers, in their order.
abbrev pub lines : List Answer → List ℕ
lines rows = flatten (map answer_line rows)

-- No line of an answer or of the totals is longer than this ("P 4096 512 16777215" and its newline), and so not the lines of all answers.
abbrev pub most_of_a_line : ℕ
most_of_a_line = 20

abbrev pub most_of_answers : ℕ
most_of_answers = most_of_a_line * most_commands

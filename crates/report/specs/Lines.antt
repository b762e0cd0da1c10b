-- "Worked shelves", last paragraph: what `shelve` prints, as a row of bytes in ASCII.
use Rattle.std.specs.Prelude.{List, [], ◌∷◌, ◌++◌, ℕ, ◌+◌, length, if◌then◌else◌}
use Prim.Native.Char.{code}
use Rattle.packing.specs.declared.{Opening.Opening, Command.Command, StreamReason.StreamReason}
use Rattle.packing.specs.declared.Production.TheVariants.{First, Second}
use Rattle.packing.specs.Prelude.{◌<?◌}
use Rattle.packing.specs.Limits.{most_commands}
use Rattle.packing.specs.Refusals.{stream_number}
use Rattle.packing.specs.Bins.{opened}
use Rattle.packing.specs.Streams.{Read, accepted, refused, verdict}
use Rattle.packing.specs.Run.{answers, packing, still_shelved, most_looks}
use Rattle.text.specs.Lines.{line}
use Rattle.answer_lines.specs.Lines.{lines, most_of_a_line, most_of_answers}

-- "At the end `T` masters-accepted cartridges-opened": the masters "are of masters still shelved", and both figures "total both" productions; "`T` gains at
-- its end the largest" looks.
abbrev pub totals : Opening → List Command → List ℕ
totals o cs = (length (still_shelved o First cs) + length (still_shelved o Second cs)) ∷ (opened (packing o First cs) + opened (packing o Second cs)) ∷ most_looks o cs ∷ []

abbrev pub answers_text : Opening → List Command → List ℕ
answers_text o cs = lines (answers o cs) ++ line (code "T") (totals o cs)

-- "A refused stream prints only `X` number offset."
abbrev pub refusal : StreamReason → (offset : ℕ) → List ℕ
refusal reason offset = line (code "X") (stream_number reason ∷ offset ∷ [])

-- "`shelve` reads a stream of at most 32,768 bytes from standard input; a longer one prints only `L 32768`."
abbrev pub most_bytes : ℕ
most_bytes = 32_768

abbrev pub overlong : List ℕ
overlong = line (code "L") (most_bytes ∷ [])

-- What a program prints that makes such a text of an accepted stream. It lends as many words as there can be commands, so refusal 7 never comes.
module _ (made : Opening → List Command → List ℕ) where
  unfoldable pub text : Read → List ℕ
  text (accepted o cs) = made o cs
  text (refused reason offset) = refusal reason offset

  unfoldable pub printing : (stream : List ℕ) → List ℕ
  printing stream = if most_bytes <? length stream then overlong else text (verdict stream most_commands)

unfoldable pub printed : (stream : List ℕ) → List ℕ
printed stream = printing answers_text stream

-- Neither the line of a refusal ("X 18 18446744073709551615" and its newline) nor that of an overlong stream is longer than this.
abbrev pub most_of_a_refusal : ℕ
most_of_a_refusal = 26

-- No text is longer: the lines of all answers, and the totals.
abbrev pub most_of_a_text : ℕ
most_of_a_text = most_of_answers + most_of_a_line

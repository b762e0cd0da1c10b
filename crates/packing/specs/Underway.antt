-- How far the answering of an accepted stream has come: what the functions of a run promise to each other. No promise about the shelf rests on it.
use Rattle.std.specs.Prelude.{◌+◌, ◌-◌, ◌≤◌, ◌≡◌, ◌++◌}
use Rattle.packing.specs.Prelude.{ℕ, List, map, length, drop, Opening, Command}
use Rattle.packing.specs.Refusals.{word, free_units}
use Rattle.packing.specs.Limits.{most_commands}
use Rattle.packing.specs.Streams.{accepted, commands, words_lent}
use Rattle.packing.specs.Run.{outcomes}

-- The rows were lent so; the commands past are answered, those later are to come, and `rest` is what is left of the stream.
pub record Underway (o : Opening) (row free_row : List ℕ) (past later : List Command) (words free rest : List ℕ) (done : ℕ) : Type 0 where
  -- Each command past has its word in both rows; behind these the rows are as they were.
  pub done_are : done ≡ length past
  pub words_are : words ≡ map word (outcomes o past) ++ drop (length past) row
  pub free_are : free ≡ map free_units (outcomes o past) ++ drop (length past) free_row
  -- What is left reads as those to come. They are few enough, and have words.
  pub offset : ℕ
  pub reads : commands o (most_commands - length past) offset rest ≡ accepted o later
  pub few : length past + length later ≤ most_commands
  pub enough : length past + length later ≤ words_lent row free_row

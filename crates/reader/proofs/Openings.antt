-- The opening in the reader's terms: its width in the table, its operands, and that an accepted stream has one.
use mathlib.Core.Path.{◌≡◌, refl}
use mathlib.Core.Bool.{Bool, true, false, ◌||◌, false≢true}
use mathlib.Core.List.{List}
use Prim.Native.Nat.{ℕ}
use lib.Dec.{eqb}
use borrow.Author.Tests.{eqb-true}
use Rattle.packing.specs.declared.{Opening.Opening, Command.Command}
use Rattle.packing.specs.Streams.{is_opening, opening_width, widths, lookup}
use Rattle.packing.specs.Claims.{WholeStream}
use Rattle.fronts.specs.Fronts.{table_width}
use Rattle.reader.specs.Reading.{Opened}

-- The table gives an opening's opcode the width that its operands have together.
pub width_there : (opcode : ℕ) → is_opening opcode ≡ true → table_width opcode ≡ opening_width opcode
unfolding widths lookup
width_there opcode h = go (eqb opcode 0x01) (eqb opcode 0x11) refl refl h
  where
    go : (s t : Bool) → eqb opcode 0x01 ≡ s → eqb opcode 0x11 ≡ t → (s || t) ≡ true → table_width opcode ≡ opening_width opcode
    go true t e f h = rw (eqb-true opcode 0x01 e)
    go false true e f h = rw (eqb-true opcode 0x11 f)
    go false false e f h = absurd (false≢true h)

-- An accepted stream has a whole opening.
pub whole_opened : (stream : List ℕ) (words : ℕ) (o : Opening) (cs : List Command) → WholeStream stream words o cs → Opened stream
whole_opened stream words o cs w = record { first = w.opening_first; all = w.opening_whole }

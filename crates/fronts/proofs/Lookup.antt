-- The lookup in any table of rows, one row at a time: rows can be added without touching this.
use mathlib.Core.Path.{◌≡◌}
use Prim.Native.Nat.{ℕ, ◌+◌, ◌<◌}
use native.Mathlib.Numerals.{add-one}
use mathlib.Core.List.{List}
use lib.ListN.{length, drop, get_or}
use lib.Seq.{drop-cons}
use borrow.Author.Tests.{eq-eqb, ne_eqb}
use Rattle.packing.specs.declared.{WidthRow.WidthRow}
use Rattle.std.specs.Prelude.{Some}
use Rattle.packing.specs.Streams.{lookup}

module _ (opcode : ℕ) (rows : List WidthRow) (i : ℕ) (d : WidthRow) where
  -- The row at i has the opcode: the answer is its width.
  pub found : i < length rows → (get_or rows i d).opcode ≡ opcode → lookup opcode (drop i rows) ≡ Some (get_or rows i d).width
  unfolding lookup
  found h e = rw (drop-cons rows i d h, eq-eqb _ _ e)

  -- It has not: the answer is that of the rows after it.
  pub skipped : i < length rows → ((get_or rows i d).opcode ≡ opcode → ⊥) → lookup opcode (drop i rows) ≡ lookup opcode (drop (i + 1) rows)
  unfolding lookup
  skipped h e = rw (drop-cons rows i d h, ne_eqb _ _ e, add-one)

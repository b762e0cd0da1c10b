-- `width_of` meets its contract: a row that has the opcode gives the answer of the rows from it on, one that has not leaves it to the rows after it.
use Rattle.std.proofs.Common.{refl, sym, ◌∙◌, rules}
use Rattle.std.proofs.lemmas.List.{drop_all}
use Rattle.packing.specs.declared.WidthRow.{WidthRow}
use Rattle.packing.specs.Streams.{widths, lookup}
use Rattle.fronts.proofs.Lookup.{found, skipped}
use Rattle.fronts.proofs.width_of.Goals as goal

abbrev none : WidthRow
none = record { opcode = 0; width = 0 }

pub returns-then-row-opcode : goal.returns-then-row-opcode
unfolding widths
returns-then-row-opcode c = sym (c.loop-row.invariant ∙ found _ widths c.loop-row.row-index none c.loop-row-test.true c.if-row-opcode.true)

pub loop-row-preserved : goal.loop-row-preserved
unfolding widths
loop-row-preserved c = c.loop-row.invariant ∙ skipped _ widths c.loop-row.row-index none c.loop-row-test.true c.if-row-opcode.false

pub returns : goal.returns
unfolding widths lookup
returns c = sym (c.loop-row.invariant ∙ rw (drop_all c.loop-row.row-index widths (search rules)) refl)

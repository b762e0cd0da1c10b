-- `behind_opening` meets its contract: the table gives the opening's opcode the width that the definition has.
use Rattle.std.proofs.Common.{◌≡◌, ◌+◌, drop, ap, ◌∙◌, arith}
use Rattle.packing.specs.Streams.{first_byte, opening_length}
use Rattle.packing.proofs.Walking.{part_is}
use Rattle.reader.proofs.Openings.{width_there}
use Rattle.reader.proofs.behind_opening.Goals as goal

pub returns : goal.returns
returns c =
    let s = c.args.stream.now in
    let begin : c.table_width-width.result + 1 ≡ opening_length s = omega (arith, c.table_width-width.ensures, width_there (first_byte s) c.requires.first) in
    part_is s (c.table_width-width.result + 1) (omega (arith, c.requires.all)) ∙ ap (λ k. drop k s) begin

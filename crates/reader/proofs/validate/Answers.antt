-- `validate` meets its contract: each way out is one of the ways that the opening can be (packing's Openings), and then what `scan` ensures.
use Rattle.std.proofs.Common.{◌≡◌, Bool, true, ℕ, ◌+◌, ◌≤◌, List, length, sym, ap, ◌∙◌, arith}
use Rattle.packing.specs.Limits.{opening_good}
use Rattle.packing.specs.Streams.{is_opening, first_byte, opening_length}
use Rattle.packing.proofs.Openings.{read_none, read_other, read_cut, read_outside, read_good}
use Rattle.packing.proofs.Walking.{read_behind}
use Rattle.fronts.specs.Fronts.{table_width}
use Rattle.reader.specs.Reading.{Opened, summary}
use Rattle.reader.proofs.Openings.{width_there}
use Rattle.reader.proofs.validate.Goals as goal

-- The opcode at the front is an opening's, and this is its width.
module _ (s : List ℕ) {opcode width : ℕ} {is : Bool} (first : opcode ≡ first_byte s) (told : is ≡ is_opening opcode) (opens : is ≡ true) (w : width ≡ table_width opcode) where
  opening_first : is_opening (first_byte s) ≡ true
  opening_first = ap is_opening (sym first) ∙ sym told ∙ opens

  length_is : width + 1 ≡ opening_length s
  length_is = omega (arith, w ∙ ap table_width first ∙ width_there (first_byte s) opening_first)

  opened : width + 1 ≤ length s → Opened s
  opened inside = record { first = opening_first; all = omega (arith, length_is) }

pub returns-in_default : goal.returns-in_default
returns-in_default c = sym (ap summary (read_none _ (omega (arith, c.in_default.ensures.item.3))))

pub returns-then-not-is_opening : goal.returns-then-not-is_opening
returns-then-not-is_opening c =
    let first = c.in-Some.ensures.item.4 (omega arith) 0 in
    sym (ap summary (read_other _ (ap is_opening (sym first) ∙ sym c.is_opening.ensures ∙ c.if-not-is_opening.true)))

pub returns-then-stream-table_width : goal.returns-then-stream-table_width
returns-then-stream-table_width c =
    let s = c.args.stream.now in
    let first = c.in-Some.ensures.item.4 (omega arith) 0 in
    let opens = opening_first s first c.is_opening.ensures c.if-not-is_opening.false c.table_width.ensures in
    let length_there = length_is s first c.is_opening.ensures c.if-not-is_opening.false c.table_width.ensures in
    sym (ap summary (read_cut s opens (omega (arith, length_there))))

pub opening_of-opening-requires : goal.opening_of-opening-requires
opening_of-opening-requires c =
    let first = c.in-Some.ensures.item.4 (omega arith) 0 in
    opened _ first c.is_opening.ensures c.if-not-is_opening.false c.table_width.ensures (omega (arith, c.in-Some.ensures.item.3.0))

pub scan-requires : goal.scan-requires
scan-requires c =
    let first = c.in-Some.ensures.item.4 (omega arith) 0 in
    opened _ first c.is_opening.ensures c.if-not-is_opening.false c.table_width.ensures (omega (arith, c.in-Some.ensures.item.3.0))

pub returns-then-not-opening_good : goal.returns-then-not-opening_good
returns-then-not-opening_good c =
    let s = c.args.stream.now in
    let first = c.in-Some.ensures.item.4 (omega arith) 0 in
    let there = opened s first c.is_opening.ensures c.if-not-is_opening.false c.table_width.ensures (omega (arith, c.in-Some.ensures.item.3.0)) in
    let bad = ap opening_good (sym c.opening_of-opening.ensures) ∙ sym c.opening_good.ensures ∙ c.if-not-opening_good.true in
    sym (ap summary (read_outside s there.all there.first bad))

pub returns : goal.returns
returns c =
    let s = c.args.stream.now in
    let first = c.in-Some.ensures.item.4 (omega arith) 0 in
    let there = opened s first c.is_opening.ensures c.if-not-is_opening.false c.table_width.ensures (omega (arith, c.in-Some.ensures.item.3.0)) in
    let good = ap opening_good (sym c.opening_of-opening.ensures) ∙ sym c.opening_good.ensures ∙ c.if-not-opening_good.false in
    c.scan.ensures ∙ ap (λ o. summary (read_behind o s)) c.opening_of-opening.ensures ∙ sym (ap summary (read_good s there.all there.first good))

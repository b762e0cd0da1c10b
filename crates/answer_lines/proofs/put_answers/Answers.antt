-- `put_answers` meets its contract: each turn reads the next command, tells its answer by the words at its place, and writes the line of it.
use Rattle.std.proofs.Common.{◌≡◌, ℕ, ◌+◌, ◌≤◌, ◌==◌, ◌∙◌, false, List, length, sym, ap, arith, rules}
use borrow.Author.Tests.{eqb-true, eqb-false}
use Rattle.std.specs.Iterator.Adapters.{zip_first, zip_second}
use Rattle.std.specs.Slice.Iter.{iter_rest}
use Rattle.packing.specs.declared.{Command.Command, Outcome.Outcome}
use Rattle.packing.specs.Refusals.{outcome_of}
use Rattle.packing.specs.Streams.{whole, front_of}
use Rattle.packing.proofs.Fronts.{whole_passed}
use Rattle.packing.proofs.Walking.{part_is}
use Rattle.reader.proofs.Openings.{whole_opened}
use Rattle.answer_lines.proofs.Listing.{listable_whole, listing_start, listing_whole, listing_room, listing_next, listing_end, listing_all}
use Rattle.answer_lines.proofs.Beside.{beside_start, beside_next, beside_end}
use Rattle.answer_lines.proofs.put_answers.Goals as goal

-- A command that is read stands inside the rest.
inside : (rest : List ℕ) (command : Command) (width : ℕ) → whole command width ≡ front_of rest → width + 1 ≤ length rest
inside rest command width e = (whole_passed rest command width (sym e)).inside

-- The words beside the command tell its answer.
told : (command : Command) (a : Outcome) (w u w' u' : ℕ) → a ≡ outcome_of command w u → w ≡ w' → u ≡ u' → a ≡ outcome_of command w' u'
told command a w u w' u' e p q = cc

some : (n : ℕ) → n == 0 ≡ false → 1 ≤ n
some n h = let e : (n ≡ 0 → ⊥) = eqb-false n 0 h in omega arith

pub behind_opening-rest-requires : goal.behind_opening-rest-requires
behind_opening-rest-requires c = whole_opened _ _ _ _ (listable_whole c.requires)

pub loop-done-init : goal.loop-done-init
loop-done-init c =
    let e = c.enumerate-done-items.ensures in
    let first : iter_rest (zip_first c.zip.result) ≡ c.args.words.now = ap iter_rest c.zip.ensures.first ∙ c.iter.ensures.rest in
    let second : iter_rest (zip_second c.zip.result) ≡ c.args.free.now = search rules in
    let start = beside_start c.into_iter-done-iterator.result c.enumerate-done-items.result c.zip.result c.into_iter-done-iterator.ensures.into_iter_gives e.source e.count first second in
    record { lines = rw start.0 (listing_start _ c.requires c.behind_opening-rest.ensures); beside = start.1 }

pub accepted_front-front-requires : goal.accepted_front-front-requires
accepted_front-front-requires c = listing_whole c.loop-done.invariant.lines (some _ (sym c.is_empty.ensures ∙ c.if-is_empty.false))

pub put_answer-requires : goal.put_answer-requires
put_answer-requires c =
    let g = c.loop-done.invariant in
    let here = c.in-Some in
    let pair = beside_next g.beside here.done here.word here.units c.next.new.self here.ensures.steps in
    rw pair.number_is (listing_room g.lines _ _ (sym c.accepted_front-front.ensures) _ (told _ _ _ _ _ _ c.outcome_of-outcome.ensures pair.word_is pair.unit_is))

pub overflow_add-rest : goal.overflow_add-rest
overflow_add-rest c = omega (arith, inside _ _ _ c.accepted_front-front.ensures)

pub slice_bounds-rest-count : goal.slice_bounds-rest-count
slice_bounds-rest-count c = inside _ _ _ c.accepted_front-front.ensures

pub slice_bounds-rest-start : goal.slice_bounds-rest-start
slice_bounds-rest-start c = omega (arith, inside _ _ _ c.accepted_front-front.ensures)

pub loop-done-preserved : goal.loop-done-preserved
loop-done-preserved c =
    let g = c.loop-done.invariant in
    let here = c.in-Some in
    let pair = beside_next g.beside here.done here.word here.units c.next.new.self here.ensures.steps in
    let f = c.accepted_front-front in
    let rest = c.loop-done.rest.now in
    let outcome = told _ _ _ _ _ _ c.outcome_of-outcome.ensures pair.word_is pair.unit_is in
    let written = rw pair.number_is at c.put_answer.ensures in
    record {
      lines =
          rw pair.count
          (listing_next g.lines f.result.command f.result.width (sym f.ensures) _ outcome _ written
          (part_is rest (f.result.width + 1) (inside rest f.result.command f.result.width f.ensures)));
      beside = pair.beside;
    }

pub returns-in-None : goal.returns-in-None
returns-in-None c =
    let g = c.loop-done.invariant in
    listing_end g.lines (listing_all g.lines (omega (arith, beside_end g.beside c.next.new.self (omega arith) c.in-None.ensures.steps)))

pub returns-then-is_empty : goal.returns-then-is_empty
returns-then-is_empty c = listing_end c.loop-done.invariant.lines (omega (arith, eqb-true (length c.loop-done.rest.now) 0 (sym c.is_empty.ensures ∙ c.if-is_empty.true)))

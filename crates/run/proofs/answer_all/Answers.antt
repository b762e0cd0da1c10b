-- `answer_all` meets its contract: the first stretch is production 0's, and if it does not end the stream the turns that follow do.
use Rattle.std.proofs.Common.{sym, ◌∙◌, arith}
use borrow.Author.Tests.{eqb-true}
use Rattle.packing.proofs.Walking.{part_is}
use Rattle.reader.proofs.Openings.{whole_opened}
use Rattle.turns.proofs.Going.{runnable_whole, going_start, going_end, first_startable, first_next}
use Rattle.run.proofs.answer_all.Goals as goal

pub behind_opening-commands-requires : goal.behind_opening-commands-requires
behind_opening-commands-requires c = whole_opened _ _ _ _ (runnable_whole c.requires)

pub answer_stretch-turn-requires : goal.answer_stretch-turn-requires
answer_stretch-turn-requires c = rw c.blank-store.ensures (first_startable _ (going_start c.requires _ c.behind_opening-commands.ensures) c.terms_beside-terms.ensures)

pub returns-then-is_empty : goal.returns-then-is_empty
returns-then-is_empty c =
    let one = c.answer_stretch-turn in
    going_end
    (first_next _ (going_start c.requires _ c.behind_opening-commands.ensures) c.terms_beside-terms.ensures
    (rw c.blank-store.ensures at one.ensures) (part_is _ one.result.passed one.ensures.inside))
    (omega (arith, eqb-true _ 0 (sym c.is_empty.ensures ∙ c.if-is_empty.true)))

pub answer_turns-requires : goal.answer_turns-requires
answer_turns-requires c =
    let one = c.answer_stretch-turn in
    record {
      stream = c.args.stream.now;
      row = c.args.answers.now;
      free_row = c.args.free.now;
      going =
          first_next _ (going_start c.requires _ c.behind_opening-commands.ensures) c.terms_beside-terms.ensures
          (rw c.blank-store.ensures at one.ensures) (part_is _ one.result.passed one.ensures.inside);
    }

pub returns : goal.returns
returns c =
    let one = c.answer_stretch-turn in
    c.answer_turns.ensures _ _ _
    (first_next _ (going_start c.requires _ c.behind_opening-commands.ensures) c.terms_beside-terms.ensures
    (rw c.blank-store.ensures at one.ensures) (part_is _ one.result.passed one.ensures.inside))

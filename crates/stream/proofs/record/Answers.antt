-- `record` meets its contract: where there are words enough no refusal stops the stream, and it is what `answer_all` ensures.
use Rattle.std.proofs.Common.{◌≡◌, true, ℕ, ◌≤◌, List, Ok, arith}
use Rattle.packing.specs.declared.{Opening.Opening}
use Rattle.packing.specs.Streams.{words_lent, read}
use Rattle.packing.specs.Limits.{opening_good}
use Rattle.packing.proofs.Limits.{in_limits}
use Rattle.packing.proofs.Accepted.{accepted_whole}
use Rattle.engine.proofs.Empty.{empty_store}
use Rattle.reader.specs.declared.{Accepted.Accepted}
use Rattle.reader.specs.Reading.{summary}
use Rattle.stream.proofs.Verdicts.{Passes, verdict_accepted}
use Rattle.stream.proofs.Ran.{ran_result}
use Rattle.stream.proofs.record.Goals as goal

-- Where there are words enough: no refusal stops the stream, and its opening is good.
module _ (stream row free_row : List ℕ) {a : Accepted} {words : ℕ} (told : Ok a ≡ summary (read stream)) (shorter : words ≡ words_lent row free_row) (enough : a.commands ≤ words) where
  passes : Passes stream (words_lent row free_row) a told
  passes = verdict_accepted stream (words_lent row free_row) a told (rw shorter at enough)

  good : opening_good a.opening ≡ true
  good = (accepted_whole (words_lent row free_row) a.opening passes.commands stream passes.accepts).opening_is_good

pub shape_of-shape-requires : goal.shape_of-shape-requires
shape_of-shape-requires c =
    let limits = in_limits c.in_ok-accepted.accepted.opening (good c.args.stream.now c.args.answers.now c.args.free.now c.in_ok-accepted.ensures c.min-words.ensures c.if-words-accepted.false) in
    omega (arith, limits.stock.1)

pub answer_all-totals-requires : goal.answer_all-totals-requires
answer_all-totals-requires c =
    let all = passes c.args.stream.now c.args.answers.now c.args.free.now c.in_ok-accepted.ensures c.min-words.ensures c.if-words-accepted.false in
    let opens = good c.args.stream.now c.args.answers.now c.args.free.now c.in_ok-accepted.ensures c.min-words.ensures c.if-words-accepted.false in
    record {
      commands = all.commands;
      accepts = all.accepts;
      first_empty = rw c.requires.first (empty_store _ _ opens c.shape_of-shape.ensures);
      second_empty = rw c.requires.second (empty_store _ _ opens c.shape_of-shape.ensures);
    }

pub returns-clause-result : goal.returns-clause-result
returns-clause-result c = rw c.count.ensures (ran_result c.answer_all-totals.ensures).0

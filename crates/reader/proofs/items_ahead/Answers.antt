-- `items_ahead` meets its contract: where an item has room and its opcode is there, it is one more, and what is left stands behind it.
use Rattle.std.proofs.Common.{◌≤◌, length, ◌∙◌, arith}
use Rattle.packing.proofs.Walking.{part_is}
use Rattle.reader.specs.Items.{item_length}
use Rattle.reader.proofs.Items.{one_ahead, behind_one}
use Rattle.reader.proofs.items_ahead.Goals as goal

pub loop-count-preserved : goal.loop-count-preserved
loop-count-preserved c =
    let passed = c.loop-count.invariant in
    let used = passed.used_is in
    let here : item_length ≤ length c.loop-count.behind.now = omega arith in
    record {
      used_is = used;
      ahead = one_ahead _ _ _ passed.ahead c.loop-count-test.true _ passed.behind_is here c.if-behind-eq2.true;
      behind_is = rw used (part_is _ item_length here ∙ behind_one _ _ _ passed.behind_is);
    }

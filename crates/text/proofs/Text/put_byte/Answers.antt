-- `put_byte` meets its contract: the byte stands where the text ended.
use Rattle.std.proofs.Common.{◌+◌, ◌∙◌, refl, sym, arith, length-set}
use Rattle.std.proofs.lemmas.Grind.{common_steps}
use Rattle.std.proofs.lemmas.List.{drop-drop, drop-set-lt}
use Rattle.text.proofs.Text.put_byte.Goals as goal

pub returns : goal.returns
returns c =
    let t = c.args.self.now in
    record {
      same_row = refl;
      same_length = simp length-set;
      longer = refl;
      text = grind (arith, common_steps);
      untouched = drop-set-lt (t.end + 1) t.row.now t.end c.args.byte (omega arith) ∙ sym (drop-drop 1 t.end t.row.now);
    }

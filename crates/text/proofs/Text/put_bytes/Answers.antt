-- `put_bytes` meets its contract: the bytes stand where the text ended.
use Rattle.std.proofs.Common.{refl, ◌+◌, ◌-◌, ◌∙◌, length, sym, arith}
use Rattle.std.proofs.lemmas.List.{drop-drop}
use Rattle.std.proofs.lemmas.Slice.{take-put_mid, drop-put_mid}
use borrow.Rule.Slice.PartMut.{same_len_mid}
use Rattle.text.proofs.Text.put_bytes.Goals as goal

pub returns : goal.returns
returns c =
    let k = length c.args.bytes.now in
    let t = c.args.self.now in
    let e = c.copy_from_slice.ensures.after in
    record {
      same_row = refl;
      same_length = same_len_mid t.end (t.end + k - t.end) t.row.now _ c.copy_from_slice.ensures.len;
      longer = refl;
      text = rw e (take-put_mid t.end (t.end + k - t.end) t.row.now c.args.bytes.now (t.end + k) refl (omega arith));
      untouched =
          rw e (drop-put_mid t.end (t.end + k - t.end) t.row.now c.args.bytes.now (t.end + k) (omega arith) (omega arith) (omega arith)
          ∙ sym (drop-drop k t.end t.row.now));
    }

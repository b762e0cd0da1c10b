-- `put_end` meets its contract: spaces, and behind them the newline.
use Rattle.text.proofs.Texts.{appended_both}
use Rattle.fields.proofs.put_end.Goals as goal

pub returns : goal.returns
returns c = appended_both c.put_spaces.ensures c.put_byte.ensures

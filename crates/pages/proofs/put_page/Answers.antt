-- `put_page` meets its contract: the four letters, the number in its field, and the end of the line.
use Rattle.std.proofs.Common.{arith}
use Rattle.text.proofs.Texts.{appended_both}
use Rattle.pages.proofs.Legible.{page_field, page_is}
use Rattle.pages.proofs.put_page.Goals as goal

pub put_right-requires : goal.put_right-requires
put_right-requires c = omega (arith, (page_field c.args.number c.requires.few).wider)

pub put_end-requires : goal.put_end-requires
put_end-requires c = omega (arith, (page_field c.args.number c.requires.few).wider)

pub returns : goal.returns
returns c =
    rw (page_is c.args.number c.requires.few) (appended_both c.put_bytes.ensures (appended_both c.put_right.ensures c.put_end.ensures))

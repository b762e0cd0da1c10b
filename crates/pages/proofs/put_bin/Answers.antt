-- `put_bin` meets its contract: five fields one behind the other, and the end of the line.
use Rattle.std.proofs.Common.{arith}
use Rattle.text.proofs.Texts.{appended_both}
use Rattle.pages.proofs.Legible.{number_field, class_field, load_field, free_field, held_field, bin_is}
use Rattle.pages.proofs.put_bin.Goals as goal

pub put_right-requires : goal.put_right-requires
put_right-requires c = let l = c.requires.legible in omega (arith, (number_field l).wide)

pub put_right-requires-2 : goal.put_right-requires-2
put_right-requires-2 c = let l = c.requires.legible in omega (arith, (number_field l).wide, (class_field l).wider)

pub put_right-requires-3 : goal.put_right-requires-3
put_right-requires-3 c = let l = c.requires.legible in omega (arith, (number_field l).wide, (class_field l).wider, (load_field l).wider)

pub put_right-requires-4 : goal.put_right-requires-4
put_right-requires-4 c =
    let l = c.requires.legible in
    omega (arith, (number_field l).wide, (class_field l).wider, (load_field l).wider, (free_field l).wider)

pub put_right-requires-5 : goal.put_right-requires-5
put_right-requires-5 c =
    let l = c.requires.legible in
    omega (arith, (number_field l).wide, (class_field l).wider, (load_field l).wider, (free_field l).wider, (held_field l).wider)

pub put_end-requires : goal.put_end-requires
put_end-requires c =
    let l = c.requires.legible in
    omega (arith, (number_field l).wide, (class_field l).wider, (load_field l).wider, (free_field l).wider, (held_field l).wider)

pub returns : goal.returns
returns c =
    rw (bin_is c.requires.legible)
    (appended_both c.put_right.ensures
    (appended_both c.put_right-2.ensures
    (appended_both c.put_right-3.ensures
    (appended_both c.put_right-4.ensures (appended_both c.put_right-5.ensures c.put_end.ensures)))))

-- "What demand 3 compares", of one production, with the constant as a parameter: 15 is demand 3 ("5k + 15 is kept for each"), 12 is point 7 ("show 3 times
-- the opened count to be at most 5k + 12, for the same streams and plans as the older figure"), and 5 is the least that holds (ExactFive). Proved in
-- ../proofs/WorstCase.antt for every C from 5 up, of every opening within its limits, of both productions and of every list of commands, refused ones
-- included.
use Rattle.std.specs.Prelude.{◌+◌, ◌*◌, ◌≤◌, ◌≡◌}
use Rattle.packing.specs.Prelude.{ℕ, true, List, take}
use Rattle.packing.specs.declared.{Opening.Opening, Production.Production, Command.Command, Entry.Entry}
use Rattle.packing.specs.Refusing.{pass}
use Rattle.packing.specs.Plans.{check}
use Rattle.packing.specs.Compared.{accepted_sizes, number_opened, none_altered, used}

-- After the first j commands, if none of them is an accepted withdrawal or settling of the production, and for every plan that the checker passes at the
-- opening's capacity, with whatever k, against the items that the production accepted by them, "by greatest sizes": 3 times the number that it opened is at
-- most 5 times the number of bins that the plan uses, plus C. What the other production does in between, withdrawals and settlings too, is no matter.
abbrev pub WorstCase : (C : ℕ) → Opening → Production → List Command → Type 0
WorstCase C o q cs =
    (j k : ℕ) (plan : List Entry) → none_altered o q (take j cs) ≡ true
    → check o.capacity k plan (accepted_sizes o q (take j cs)) ≡ pass
    → 3 * number_opened o q (take j cs) ≤ 5 * used plan + C

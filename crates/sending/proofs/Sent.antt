-- What a fault, and the least that is noted, tell of a command.
use mathlib.Core.Path.{◌≡◌, refl, sym, ◌∙◌}
use Rattle.std.specs.Prelude.{None, Some}
use native.Mathlib.Omega.{arith}
use borrow.Author.Tests.{ne_eqb}
use lib.Dec.{eqb}
use Rattle.packing.specs.declared.{Opening.Opening, Command.Command, ItemReason.ItemReason}
use Rattle.packing.specs.declared.Command.TheVariants.{Shelve, Count, Withdraw, Switch, Reserve, Settle}
use Rattle.std.specs.Prelude.{if◌then◌else◌}
use Rattle.packing.specs.Bins.{stored}
use Rattle.packing.specs.Sending.{least_of, fault}
use Rattle.packing.proofs.Tests.{clash}
use Rattle.packing.proofs.Sending.{range_good}
use Rattle.sending.specs.Sent.{least_word}

-- With a fault.
pub some_fault : (c : Command) {reason : ItemReason} → fault c ≡ Some reason → fault c ≡ None → ⊥
some_fault c e z = let both : Some _ ≡ None = sym e ∙ z in clash (cc)

-- The word of the least gives the least back.
pub word_back : (o : Opening) (c : Command) → fault c ≡ None → (if eqb (least_word o c) 0 then None else Some (least_word o c)) ≡ least_of o c
word_back o (Shelve size) e = refl
word_back o Count e = refl
word_back o (Withdraw named) e = refl
word_back o (Switch r) e = refl
word_back o (Reserve least greatest) e = rw (ne_eqb (stored o least) 0 (λ z. omega (arith, range_good least greatest e)))
word_back o (Settle named size) e = refl

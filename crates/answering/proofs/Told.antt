-- A count is answered: the store stays.
use mathlib.Core.Path.{refl, ap}
use Prim.Native.Nat.{ℕ}
use native.Mathlib.Omega.{arith}
use Rattle.packing.specs.declared.{Opening.Opening, Tally.Tally}
use Rattle.packing.specs.declared.Outcome.TheVariants.{Counted}
use Rattle.packing.specs.declared.Command.TheVariants.{Count}
use Rattle.tournament.specs.declared.Shape.{Shape}
use Rattle.ledger.specs.Counting.{Tallied}
use Rattle.engine.specs.Store.{State, Sound}
use Rattle.engine.specs.Done.{answering, Done}

pub done_count : {o : Opening} {left : ℕ} {shape : Shape} {w : State} {number : ℕ} {t : Tally} → Sound o shape w → Tallied w.ledger o.stock t
    → Done o left shape w number Count (answering number (Counted t.figure)) 0 w
done_count {o} sound m = record {
  sound = sound;
  numbered = refl;
  model = λ p r. record {
    looked = refl;
    answered = ap (λ (x : Tally). Counted x.figure) (m.model o p r.records (omega (arith, r.bins, sound.within)));
    represents = r;
  };
  refused = λ reason e. refl;
}

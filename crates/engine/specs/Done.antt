-- What a step promises: at every packing that the state represents, the model's answer, the model's looks and the model's next packing, with so much of the
-- stock left for it.
use Rattle.std.specs.Prelude.{◌≡◌, ℕ}
use Rattle.packing.specs.declared.{Opening.Opening, Command.Command, Outcome.Outcome, Answer.Answer, ItemReason.ItemReason}
use Rattle.packing.specs.declared.Outcome.TheVariants.{Refused}
use Rattle.packing.specs.Bins.{Packing}
use Rattle.packing.specs.Run.{answer_to, next, looks_to}
use Rattle.tournament.specs.declared.Shape.{Shape}
use Rattle.tournament.specs.declared.looks.Looks.{Looks}
use Rattle.aim.specs.declared.Counters.{Counters}
use Rattle.engine.specs.declared.Answered.{Answered}
use Rattle.engine.specs.Store.{State, Sound, Represents}

-- "An answer joins the command's number with placed, counted or refused", or withdrawn, switched or settled.
abbrev pub answering : ℕ → Outcome → Answer
answering number a = record { number = number; outcome = a }

-- with the counters after it, and the looks
abbrev pub giving : ℕ → Outcome → Counters → Looks → Answered
giving number a c taken = record { answer = answering number a; next = c; looks = taken }

-- No look was taken.
abbrev pub none : Looks
none = record { count = 0 }

pub record Modelled (o : Opening) (left number : ℕ) (command : Command) (a : Outcome) (looks : ℕ) (u : State) (p : Packing) : Type 0 where
  pub answered : a ≡ answer_to o left p number command
  pub looked : looks ≡ looks_to o p number command
  pub represents : Represents o u (next o left p number command)

-- From the state s, the command of this number is answered so, takes so many looks and leaves the state u.
pub record Done (o : Opening) (left : ℕ) (shape : Shape) (s : State) (number : ℕ) (command : Command) (r : Answer) (looks : ℕ) (u : State) : Type 0 where
  pub sound : Sound o shape u
  pub numbered : r.number ≡ number
  pub model : (p : Packing) → Represents o s p → Modelled o left number command r.outcome looks u p
  -- A refused command leaves every word as it was.
  pub refused : (reason : ItemReason) → r.outcome ≡ Refused reason → u ≡ s

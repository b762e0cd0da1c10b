-- The turns that the two productions take: how far a stream has come when one of them has had its stretch.
use Rattle.std.specs.Prelude.{◌≡◌, List, ◌++◌, ℕ, ◌≤◌, length}
use Rattle.packing.specs.declared.{Opening.Opening, Production.Production, Command.Command}
use Rattle.packing.specs.declared.Production.TheVariants.{First, Second}
use Rattle.packing.specs.Streams.{accepted, words_lent, verdict}
use Rattle.packing.specs.Run.{current, packing, most_looks}
use Rattle.packing.specs.Underway.{Underway}
use Rattle.tournament.specs.declared.Shape.{Shape}
use Rattle.aim.specs.declared.Counters.{Counters}
use Rattle.engine.specs.Store.{State, state, Sound, Represents, at_opening, blank_store}
use Rattle.turns.specs.Running.{Ran}
use Rattle.ledger.specs.declared.Row.{Row}

-- The commands past are answered, the largest of their looks is kept, and each state stands for the packing of its production after them. A command that is to come, if there is one, belongs
-- to q.
pub record Going (o : Opening) (shape : Shape) (q : Production) (words free rest : List ℕ) (done looks : ℕ) (first second : State) (stream row free_row : List ℕ) : Type 0 where
  pub past : List Command
  pub later : List Command
  pub accepts : verdict stream (words_lent row free_row) ≡ accepted o (past ++ later)
  pub underway : Underway o row free_row past later words free rest done
  pub looks_are : looks ≡ most_looks o past
  pub whose : 1 ≤ length rest → current o past ≡ q
  pub first_sound : Sound o shape first
  pub second_sound : Sound o shape second
  pub first_is : Represents o first (packing o First past)
  pub second_is : Represents o second (packing o Second past)

-- Production 1 may have its first turn: some stream has come so far, and in that production nothing has been done yet.
pub record Turnable (o : Opening) (shape : Shape) (rest words free : List ℕ) (done looks : ℕ) (first : State) (other : List Row) : Type 0 where
  pub stream : List ℕ
  pub row : List ℕ
  pub free_row : List ℕ
  pub going : Going o shape Second words free rest done looks first (state blank_store other at_opening) stream row free_row

-- After all turns every stream that had come so far has been answered whole.
abbrev pub Turned : (o : Opening) (shape : Shape) (rest words free : List ℕ) (done looks : ℕ) (first : State) (other : List Row) (words' free' : List ℕ)
    (counters0 : Counters) (ledger0 : List Row) (counters1 : Counters) (ledger1 : List Row) (looks' : ℕ) → Type 0
Turned o shape rest words free done looks first other words' free' counters0 ledger0 counters1 ledger1 looks' =
    (stream row free_row : List ℕ) → Going o shape Second words free rest done looks first (state blank_store other at_opening) stream row free_row
    → Ran stream row free_row o words' free' counters0 ledger0 counters1 ledger1 looks'

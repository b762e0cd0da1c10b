-- A stretch: commands of one production that follow each other, up to the 05 that goes to the other one or to the end.
use Rattle.std.specs.Prelude.{◌≡◌, List, ◌++◌, ℕ, ◌-◌, ◌≤◌, length, drop}
use Rattle.packing.specs.declared.{Opening.Opening, Production.Production, Command.Command}
use Rattle.packing.specs.Productions.{other}
use Rattle.packing.specs.Bins.{opened}
use Rattle.packing.specs.Run.{current, packing, most_looks}
use Rattle.packing.specs.Underway.{Underway}
use Rattle.tournament.specs.declared.looks.Looks.{Looks}
use Rattle.aim.specs.declared.Counters.{Counters}
use Rattle.engine.specs.declared.Terms.{Terms}
use Rattle.engine.specs.Store.{State, Sound, Represents}
use Rattle.stretch.specs.declared.Stretch.{Stretch}

module _ (o : Opening) (q : Production) where
  -- Where a stretch of the production q begins: the commands past are answered, the largest of their looks is kept, the state stands for its packing after
  -- them, and of the stock is left what the other production has not opened. Another command, if one is to come, belongs to q.
  pub record Begun (left : ℕ) (rest words free : List ℕ) (done looks : ℕ) (s : State) (row free_row : List ℕ) (past later : List Command) : Type 0 where
    pub underway : Underway o row free_row past later words free rest done
    pub looks_are : looks ≡ most_looks o past
    pub whose : 1 ≤ length rest → current o past ≡ q
    pub left_is : left ≡ o.stock - opened (packing o (other q) past)
    pub represents : Represents o s (packing o q past)

  -- So many of those that were to come are answered then, and the state stands for the packing after them too. The other production's packing is as it
  -- was. Another command, if one is to come, belongs to r.
  pub record Gone (r : Production) (rest words free : List ℕ) (done looks : ℕ) (s : State) (row free_row : List ℕ) (past later : List Command) : Type 0 where
    pub mine : List Command
    pub still : List Command
    pub later_are : later ≡ mine ++ still
    pub underway : Underway o row free_row (past ++ mine) still words free rest done
    pub looks_are : looks ≡ most_looks o (past ++ mine)
    pub whose : 1 ≤ length rest → current o (past ++ mine) ≡ r
    pub represents : Represents o s (packing o q (past ++ mine))
    pub other_same : packing o (other q) (past ++ mine) ≡ packing o (other q) past

-- The stretch may begin: whatever was sent and lent before, there is a run that has come so far.
pub record Startable (t : Terms) (q : Production) (rest words free : List ℕ) (done looks : ℕ) (s : State) : Type 0 where
  pub sound : Sound t.opening t.shape s
  pub row : List ℕ
  pub free_row : List ℕ
  pub past : List Command
  pub later : List Command
  pub begun : Begun t.opening q t.left rest words free done looks s row free_row past later

-- What it leaves: every run that had come so far at its beginning has come to the next stretch.
pub record Stretched (t : Terms) (q : Production) (rest words free : List ℕ) (done looks : ℕ) (s : State) (words' free' : List ℕ) (passed done' looks' : ℕ) (s' : State) : Type 0 where
  pub sound : Sound t.opening t.shape s'
  pub inside : passed ≤ length rest
  pub onward : 1 ≤ length rest → 1 ≤ passed
  pub ends : (row free_row : List ℕ) (past later : List Command) → Begun t.opening q t.left rest words free done looks s row free_row past later
      → Gone t.opening q (other q) (drop passed rest) words' free' done' looks' s' row free_row past later

-- What a stretch leaves, in numbers.
abbrev pub leaving : Counters → (done : ℕ) → Looks → (passed : ℕ) → Stretch
leaving c done looks passed = record { counters = c; done = done; looks = looks; passed = passed }

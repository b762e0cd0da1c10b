-- What the public call promises of a stream beyond its result and its rows, which are equations: a field a promise. The statements themselves are in the
-- specs of packing, alike and worst_case. Proved in ../proofs/Promises.antt.
use Rattle.std.specs.Prelude.{◌≡◌}
use Rattle.packing.specs.Prelude.{ℕ, List}
use Rattle.packing.specs.declared.{Opening.Opening, Production.Production, Command.Command}
use Rattle.packing.specs.Streams.{accepted, verdict}
use Rattle.packing.specs.Claims.{HoldsAnswered, NeverOverfull, TrueSizesFit, LowestPermitted, FreeUnits, Looks, LoadsAddUp, Withdrawals, Settlings, Stays, AnswersInRange, Opened, Counts, Productions}
use Rattle.alike.specs.Claims.{ByStoredSizes, RefusedLeftOut}
use Rattle.alike.specs.Independent.{IndependentStreams}
use Rattle.worst_case.specs.OwnPlan.{OwnPlan}
use Rattle.worst_case.specs.WorstCase.{WorstCase}
use Rattle.worst_case.specs.ExactFive.{Least}

-- Of the packings of both productions.
pub record OfBoth (o : Opening) (cs : List Command) : Type 0 where
  -- Every count is of the bins that its production has opened by then; both together open no more than the stock; the totals are of both.
  pub counts : Counts o cs
  -- The first command is of production 0, each later one of the production of the one before it or of the one that this names, and it leaves the other's
  -- packing as it is.
  pub productions : Productions o cs
  -- Each item goes to the lowest permitted bin with space under the loads then present.
  pub lowest_permitted : LowestPermitted o cs
  -- Each item that passes the checks before 10 is searched for once, with 1 look if nothing fits and 1 + h otherwise; the largest is returned.
  pub looks : Looks o cs
  -- All is as without a trailer, with the stored sizes sent.
  pub by_stored_sizes : ByStoredSizes o cs
  -- A withdrawal is refused exactly when the item that it names is not on its production's shelf, and else answers the bin of that item.
  pub withdrawals : Withdrawals o cs
  -- A settling is refused with 20 exactly when the item that it names is not an unsettled one of 06 on its production's shelf, and with 21 exactly when it is
  -- and the size is outside its range; else it answers the bin of that item.
  pub settlings : Settlings o cs
  -- Without the refused commands the others are answered as they were.
  pub refused_left_out : RefusedLeftOut o cs
  -- Whatever m is, 5 is the least constant that serves in demand 3.
  pub none_sharper : Least o.m 5

-- Of the packing of one production.
pub record OfOne (o : Opening) (q : Production) (cs : List Command) : Type 0 where
  -- The bins that it has opened have no gaps among their numbers.
  pub opened : Opened o q cs
  -- Bin n holds the items still shelved that were answered n.
  pub holds_answered : HoldsAnswered o q cs
  -- No bin is overfull.
  pub never_overfull : NeverOverfull o q cs
  -- Nor is one for any true sizes of the unsettled items within their ranges.
  pub true_sizes_fit : TrueSizesFit o q cs
  -- The free units beside an answer are those of its bin, until an item goes there, leaves it or is settled there.
  pub free_units : FreeUnits o q cs
  -- The loads add up to the stored sizes still shelved, each as it is settled, or its greatest till then.
  pub loads_add_up : LoadsAddUp o q cs
  -- A bin keeps its number and class, and no B2 is uncounted.
  pub stays : Stays o q cs
  -- Every bin answered is one of those opened.
  pub answers_in_range : AnswersInRange o q cs
  -- The checker passes the plan of the items still shelved.
  pub own_plan_passes : OwnPlan o q cs
  -- Demand 3: after each command up to which nothing of it was withdrawn or settled, 3 times the number that it has opened is at most 5k + 15, for every plan
  -- of its items that passes and uses k bins. With 12 it is point 7 of document 02, and with 5 the figure that holds.
  pub worst_case : WorstCase 15 o q cs
  pub sharper : WorstCase 12 o q cs
  pub sharpest : WorstCase 5 o q cs

-- "An accepted stream is one that no stream refusal stops", with so many words lent in both rows.
pub record Promises (stream : List ℕ) (words : ℕ) : Type 0 where
  pub of_both : (o : Opening) (cs : List Command) → verdict stream words ≡ accepted o cs → OfBoth o cs
  pub of_each : (o : Opening) (cs : List Command) → verdict stream words ≡ accepted o cs → (q : Production) → OfOne o q cs
  -- Beside every other stream, however many words are lent for that: if the two differ in commands of one production alone, and neither has a refusal 10,
  -- the words of the other production are equal.
  pub independent : (r : Production) (other : List ℕ) (its-words : ℕ) → IndependentStreams r stream other words its-words

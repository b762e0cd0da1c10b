-- `items_ahead`: so many items are passed, and what is left is behind them. The measure is the number that may still be counted.
use Rattle.std.proofs.Common.{◌≡◌, ℕ, ◌-◌, ◌*◌, List, drop}
use Rattle.reader.specs.Items.{item_length, ItemsAhead}
use Rattle.reader.proofs.items_ahead.Given as goal

pub record Passed (rest : List ℕ) (most used : ℕ) (behind : List ℕ) (count : ℕ) : Type 0 where
  pub used_is : used ≡ item_length
  pub ahead : ItemsAhead rest most count
  pub behind_is : behind ≡ drop (item_length * count) rest

abbrev pub invariant-loop-count : goal.invariant-loop-count
invariant-loop-count l = Passed l.rest l.most l.used l.behind l.count

abbrev pub decreases-loop-count : goal.decreases-loop-count
decreases-loop-count l = l.most - l.count

-- The row of loads that the checker keeps, and what the step at one entry does with it.
use Rattle.std.specs.Prelude.{◌≡◌, List, ◌∷◌, ℕ, ◌+◌, ◌≤◌, length, get_or}
use Rattle.std.specs.Prelude.{Option, Some, None}
use Rattle.packing.specs.declared.{Entry.Entry, PlanReason.PlanReason}
use Rattle.packing.specs.Refusing.{PlanResult, refuse, pass}
use Rattle.packing.specs.Limits.{most_capacity, most_rows}
use Rattle.packing.specs.Plans.{on_bin, fault}

-- One load for each bin number, none above the capacity. Place 0 is no bin's.
pub record LoadsKept (capacity k : ℕ) (loads : List ℕ) : Type 0 where
  pub capacity_most : capacity ≤ most_capacity
  pub k_most : k ≤ most_rows
  pub places : length loads ≡ most_rows + 1
  pub not_overfull : (n : ℕ) → get_or loads n 0 ≤ capacity

-- The loads are those of these entries.
abbrev pub LoadsOf : (loads : List ℕ) (before : List Entry) → Type 0
LoadsOf loads before = (n : ℕ) → n ≤ most_rows → get_or loads n 0 ≡ on_bin n before

-- The model's fault of the entry after the first i, as the step answers it.
abbrev pub finding : (i : ℕ) → Option PlanReason → PlanResult
finding i None = pass
finding i (Some reason) = refuse reason (i + 1)

-- From these loads, entry e after the first i, whose item has this size, is answered so, and leaves the loads at exit.
pub record Checked (capacity k : ℕ) (loads : List ℕ) (e : Entry) (item i : ℕ) (answer : PlanResult) (exit : List ℕ) : Type 0 where
  pub kept : LoadsKept capacity k exit
  -- for all entries that the loads may stand for
  pub answered : (before : List Entry) → LoadsOf loads before → answer ≡ finding i (fault capacity k before e item)
  pub added : answer ≡ pass → (before : List Entry) → LoadsOf loads before → LoadsOf exit (e ∷ before)
  pub refused : (reason : PlanReason) (place : ℕ) → answer ≡ refuse reason place → exit ≡ loads

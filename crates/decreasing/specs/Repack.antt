-- First-Fit-Decreasing: the items of a row, largest first, each into the first bin with space or into a new one; and what the call of a repacking gives.
use Rattle.std.specs.Prelude.{◌+◌, ◌++◌}
use Rattle.packing.specs.Prelude.{ℕ, suc, Bool, List, [], map, foldl, length, drop, ◌≤?◌, Ok, Err}
use Rattle.packing.specs.declared.{Entry.Entry}
use Rattle.packing.specs.Refusing.{RowResult, RepackResult}
use Rattle.packing.specs.Bins.{Item, Bin, Packing, empty, opened, load}
use Rattle.packing.specs.Placing.{first_fit, put}
use Rattle.packing.specs.Withdrawing.{bin_holding}
use Rattle.packing.specs.Plans.{plan_of}
use Rattle.ordering.specs.Items.{items}
use Rattle.ordering.specs.Ordered.{largest_first}

module _ (capacity : ℕ) where
  -- The bin's load plus the size is at most the capacity.
  abbrev pub has_space : Item → Bin → Bool
  has_space i b = load b + i.size ≤? capacity

  -- The number of the first bin with space; if there is none, of a new bin.
  abbrev pub bin_for : Item → Packing → ℕ
  bin_for i p = suc (first_fit (has_space i) p.bins)

  -- "First fit in one class": every bin is of class 1, and no B2 is counted.
  abbrev pub next : Packing → Item → Packing
  next p i = record { bins = put (has_space i) (record { class = 1; items = [] }) i p.bins; b2s = p.b2s }

  module _ (sizes : List ℕ) where
    -- The items of the row, their places counted from 1, on "fresh cartridges".
    abbrev pub repacked : Packing
    repacked = foldl next empty (largest_first (items 1 sizes))

    -- "Each master's new cartridge in the original order", and "the new count".
    abbrev pub new_bins : List ℕ
    new_bins = map (λ i. bin_holding i.command repacked) (items 1 sizes)

    abbrev pub new_count : ℕ
    new_count = opened repacked

    abbrev pub new_plan : List Entry
    new_plan = plan_of sizes new_bins

    -- "Exactly if the new count is not below the old one given by the caller, the answer also says that the move saves nothing."
    abbrev pub saves_nothing : (old : ℕ) → Bool
    saves_nothing old = old ≤? new_count

    -- What is returned, by what the checks of the row come to.
    abbrev pub repack_result : (old : ℕ) → RowResult → RepackResult
    repack_result old (Ok passed) = Ok (record { count = new_count; saves_nothing = saves_nothing old })
    repack_result old (Err refusal) = Err refusal

    -- The answer row at exit: "words past the last answer are untouched", and of a refused call "nothing is written".
    abbrev pub answers_at_exit : RowResult → (row : List ℕ) → List ℕ
    answers_at_exit (Ok passed) row = new_bins ++ drop (length sizes) row
    answers_at_exit (Err refusal) row = row

-- What is promised of a repacking, of every row that is not refused.
use Rattle.std.specs.Prelude.{◌*◌, ◌≤◌, ◌≡◌, ◌++◌}
use Rattle.packing.specs.Prelude.{ℕ, List, length, drop, greatest, Memᴰ}
use Rattle.packing.specs.declared.{Opening.Opening, Production.Production, Command.Command, Entry.Entry}
use Rattle.packing.specs.Refusing.{pass}
use Rattle.packing.specs.Bins.{empty}
use Rattle.packing.specs.Plans.{check}
use Rattle.packing.specs.Compared.{used, shelf_plan, shelved_sizes}
use Rattle.packing.specs.Rows.{check_row}
use Rattle.ordering.specs.Items.{items}
use Rattle.ordering.specs.Ordered.{largest_first}
use Rattle.decreasing.specs.Repack.{new_bins, new_count, new_plan}
use Rattle.decreasing.specs.Written.{written}

module _ (capacity : ℕ) (sizes : List ℕ) where
  -- "Twice its cartridges is at most three times the k of any plan that passes for the same row and capacity": of every plan, with whatever k, twice the
  -- new count is at most three times the bins that the plan uses, of which its k may be more.
  abbrev pub ThreeHalves : Type 0
  ThreeHalves =
      (k : ℕ) (plan : List Entry) → check capacity k plan sizes ≡ pass
      → (2 * new_count capacity sizes ≤ 3 * used plan) × (2 * new_count capacity sizes ≤ 3 * k)

  pub record RepackPromises : Type 0 where
    -- "The plan passes the checker", with k the new count.
    pub plan_passes : check capacity (new_count capacity sizes) (new_plan capacity sizes) sizes ≡ pass
    -- No plan that passes has fewer than two thirds of its bins.
    pub three_halves : ThreeHalves
    -- A number for each size, each from 1 to the count, and none of these left out: the count is the greatest answered, 0 of an empty row.
    pub one_each : length (new_bins capacity sizes) ≡ length sizes
    pub is_in_range : (n : ℕ) → Memᴰ n (new_bins capacity sizes) → (1 ≤ n) × (n ≤ new_count capacity sizes)
    pub no_gaps : (n : ℕ) → 1 ≤ n → n ≤ new_count capacity sizes → Memᴰ n (new_bins capacity sizes)
    pub count_greatest : new_count capacity sizes ≡ greatest (new_bins capacity sizes)

-- Proved in ../proofs/Promises.antt.
abbrev pub Promised : Type 0
Promised = (capacity words : ℕ) (sizes : List ℕ) → check_row capacity words sizes ≡ pass → RepackPromises capacity sizes

-- The answers written one by one, into a row that has a word for each size, are the new bins. Proved in ../proofs/Written.antt.
abbrev pub WrittenAll : Type 0
WrittenAll =
    (capacity : ℕ) (sizes row : List ℕ) → length sizes ≤ length row
    → written capacity empty (largest_first (items 1 sizes)) row ≡ new_bins capacity sizes ++ drop (length sizes) row

-- Own shelves can be repacked: the sizes that a production has still shelved are a row that no check refuses, if a word is lent for each. So what is
-- promised holds of it, and against the shelf's own plan too. Proved in ../proofs/OwnShelf.antt of every opening within its limits and every list of
-- commands that a stream can have.
pub record OwnShelf (o : Opening) (q : Production) (cs : List Command) : Type 0 where
  pub sound : (words : ℕ) → length (shelved_sizes o q cs) ≤ words → check_row o.capacity words (shelved_sizes o q cs) ≡ pass
  pub no_worse : 2 * new_count o.capacity (shelved_sizes o q cs) ≤ 3 * used (shelf_plan o q cs)

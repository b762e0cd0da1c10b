-- Repackings computed: equal sizes in row order; a row for which three new bins stand against a plan of two, so that 3 / 2 is met; and what the call
-- gives.
use Rattle.std.specs.Prelude.{◌*◌, ◌≡◌, ◌∷◌}
use Rattle.packing.specs.Prelude.{ℕ, refl, List, [], length, zip_with, total, any}
use Rattle.packing.specs.Refusing.{pass}
use Rattle.packing.specs.Placing.{first_fit, put}
use Rattle.packing.specs.Plans.{plan_of, limits, fault, entries, check}
use Rattle.packing.specs.Refusals.{Returned, figures, refusal, repack_gives}
use Rattle.packing.specs.Compared.{used}
use Rattle.packing.specs.Rows.{check_limits, check_sizes, check_row}
use Rattle.ordering.specs.Items.{items}
use Rattle.ordering.specs.Ordered.{insert, ordered}
use Rattle.decreasing.specs.Repack.{new_bins, new_count, repack_result, answers_at_exit}

pub in_row_order : new_bins 10 (2 ∷ 5 ∷ 4 ∷ 5 ∷ 4 ∷ 6 ∷ []) ≡ 3 ∷ 2 ∷ 1 ∷ 2 ∷ 3 ∷ 1 ∷ []
unfolding items insert ordered first_fit put total any
in_row_order = refl

-- Document 02's figure is met: no plan of the row has one bin, one of two bins passes, and three are made.
abbrev pub row : List ℕ
row = 3 ∷ 3 ∷ 4 ∷ 3 ∷ 4 ∷ 3 ∷ []

pub record Met : Type 0 where
  pub passes : check 10 2 (plan_of row (1 ∷ 1 ∷ 1 ∷ 2 ∷ 2 ∷ 2 ∷ [])) row ≡ pass
  pub equal : 2 * new_count 10 row ≡ 3 * used (plan_of row (1 ∷ 1 ∷ 1 ∷ 2 ∷ 2 ∷ 2 ∷ []))

pub met : Met
unfolding items insert ordered first_fit put total any used zip_with limits fault entries check
met = record { passes = refl; equal = refl }

-- What the call gives: the count, and 1 if the move saves nothing, which is so exactly if the count is not below the old one.
abbrev pub given : (capacity old : ℕ) (sizes : List ℕ) → Returned
given capacity old sizes = repack_gives (repack_result capacity sizes old (check_row capacity (length sizes) sizes))

pub record Gives : Type 0 where
  pub saves : given 10 4 row ≡ figures (3 ∷ 0 ∷ [])
  pub nothing_saved : given 10 3 row ≡ figures (3 ∷ 1 ∷ [])
  pub nothing_there : given 10 0 [] ≡ figures (0 ∷ 1 ∷ [])
  pub bad_size : given 10 0 (3 ∷ 11 ∷ []) ≡ refusal 13 2
  -- Words past the last answer, and those of a refused call.
  pub past_the_last : answers_at_exit 10 (5 ∷ 6 ∷ []) (check_row 10 3 (5 ∷ 6 ∷ [])) (7 ∷ 7 ∷ 7 ∷ []) ≡ 2 ∷ 1 ∷ 7 ∷ []
  pub none_written : answers_at_exit 10 (5 ∷ 0 ∷ []) (check_row 10 3 (5 ∷ 0 ∷ [])) (7 ∷ 7 ∷ 7 ∷ []) ≡ 7 ∷ 7 ∷ 7 ∷ []

pub gives : Gives
unfolding items insert ordered first_fit put total any check_limits check_sizes
gives = record { saves = refl; nothing_saved = refl; nothing_there = refl; bad_size = refl; past_the_last = refl; none_written = refl }

-- "What demand 3 compares", after a list of commands and for one production: the accepted items and the number opened on one side, the bins that a plan
-- uses on the other. And the production's own plan, which is of the items still shelved.
use Rattle.std.specs.Prelude.{◌+◌, ◌||◌, ◌∷◌, if◌then◌else◌}
use Rattle.packing.specs.Prelude.{ℕ, Bool, not, List, [], map, greatest, any, keep, ◌=?◌, Opening, Production, Command, Outcome, Entry}
use Rattle.packing.specs.Refusals.{is_withdrawn, is_settled}
use Rattle.packing.specs.Run.{entry_of, steps, placements, still_shelved}

-- An item that was shelved before is taken out or settled.
abbrev pub is_altered : Outcome → Bool
is_altered a = is_withdrawn a || is_settled a

module _ (o : Opening) (q : Production) (cs : List Command) where
  -- "The accepted masters": the stored sizes, in the stream's order, of the commands that shelve an item and are not refused, "by greatest sizes".
  abbrev pub accepted_sizes : List ℕ
  accepted_sizes = map (λ e. e.size) (placements o q cs)

  -- "The number opened": the greatest bin number answered to these items, or 0 if there are none.
  abbrev pub number_opened : ℕ
  number_opened = greatest (map (λ e. e.bin) (placements o q cs))

  -- "The 5k + 15 figure is for streams without withdrawals", and "with no settling": none of this production that is accepted. A refused one alters
  -- nothing.
  abbrev pub none_altered : Bool
  none_altered = not (any (λ t. is_altered t.outcome) (steps o q cs))

  -- "The loads' sum and the shelf's plan are of masters still shelved": each with the bin that it was answered, in the order of their commands. They "take
  -- settled sizes, or the greatest till then".
  abbrev pub shelf_plan : List Entry
  shelf_plan = map entry_of (still_shelved o q cs)

  abbrev pub shelved_sizes : List ℕ
  shelved_sizes = map (λ e. e.size) shelf_plan

-- The sizes of the entries with bin number n, in their order.
abbrev pub sizes_in : (n : ℕ) → List Entry → List ℕ
sizes_in n es = map (λ e. e.size) (keep (λ e. e.bin =? n) es)

-- "A plan uses the cartridges whose numbers stand in its entries, each counted once."
unfoldable pub used : List Entry → ℕ
used [] = 0
used (e ∷ es) = (if any (λ f. f.bin =? e.bin) es then 0 else 1) + used es

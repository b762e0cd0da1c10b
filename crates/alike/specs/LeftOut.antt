-- A run with some of its commands left out: "every other refused command is left out too, and one that names a master is taken to name the same one".
use Rattle.packing.specs.declared.{Command.Command, Outcome.Outcome}
use Rattle.packing.specs.declared.Command.TheVariants.{Shelve, Count, Withdraw, Switch, Reserve, Settle}
use Rattle.std.specs.Prelude.{◌||◌, ◌&&◌}
use Rattle.packing.specs.Prelude.{ℕ, Bool, not, List, map, length, keep, ◌≤?◌}
use Rattle.packing.specs.Refusals.{is_refused, is_placed, is_switched}
use Rattle.packing.specs.Bins.{Item, Bin, Packing}
use Rattle.packing.specs.Shelves.{Shelf}
use Rattle.packing.specs.Run.{Shelved, Step}
use Rattle.packing.specs.Compared.{is_altered}

-- Those that are not refused.
abbrev pub not_refused : Step → Bool
not_refused t = not (is_refused t.outcome)

-- Those that shelve an item, take one out, settle one or go to a production: counts are left out too.
abbrev pub changes : Step → Bool
changes t = is_placed t.outcome || is_altered t.outcome || is_switched t.outcome

-- The command with the number that it names replaced.
abbrev pub renamed : (ℕ → ℕ) → Command → Command
renamed f (Shelve s) = Shelve s
renamed f Count = Count
renamed f (Withdraw named) = Withdraw (f named)
renamed f (Switch r) = Switch r
renamed f (Reserve least greatest) = Reserve least greatest
renamed f (Settle named size) = Settle (f named) size

module _ (kept : Step → Bool) (ts : List Step) where
  -- The number that a command has when only these are kept: of so many up to it, it is the last.
  abbrev pub new_number : ℕ → ℕ
  new_number n = length (keep (λ t. kept t && (t.number ≤? n)) ts)

  -- The commands that are kept, each naming the item that it named.
  abbrev pub resent : List Command
  resent = map (λ t. renamed new_number t.command) (keep kept ts)

  abbrev pub outcomes_kept : List Outcome
  outcomes_kept = map (λ t. t.outcome) (keep kept ts)

-- Items, and both packings, under other command numbers: sizes, ranges, bins, classes and the B2 counts are the same.
module _ (f : ℕ → ℕ) where
  abbrev pub renumber : Item → Item
  renumber i = record { command = f i.command; size = i.size; greatest = i.greatest; least = i.least }

  abbrev pub renumbered_bin : Bin → Bin
  renumbered_bin b = record { class = b.class; items = map renumber b.items }

  abbrev pub renumbered : Packing → Packing
  renumbered p = record { bins = map renumbered_bin p.bins; b2s = p.b2s }

  abbrev pub renumbered_shelf : Shelf → Shelf
  renumbered_shelf s = record { first = renumbered s.first; second = renumbered s.second; current = s.current }

  abbrev pub renumbered_shelved : Shelved → Shelved
  renumbered_shelved s = record { item = renumber s.item; bin = s.bin }

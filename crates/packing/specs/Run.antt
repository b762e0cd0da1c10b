-- What an accepted stream does: each command gets the shelf that the one before it left, the first the empty one, and works on its production's packing.
use Rattle.std.specs.Prelude.{◌+◌, ◌∷◌, ◌++◌, if◌then◌else◌}
use Rattle.packing.specs.Prelude.{ℕ, suc, true, false, not, List, [], map, foldl, flatten, length, drop, keep, greatest}
use Rattle.packing.specs.Prelude.{Opening, Production, First, Second, Command, Shelve, Count, Withdraw, Switch, Reserve, Settle}
use Rattle.packing.specs.Prelude.{Outcome, Placed, Counted, Withdrawn, Switched, Settled, Refused, Answer, Entry, Ok}
use Rattle.packing.specs.Refusing.{StreamResult, refuse}
use Rattle.packing.specs.Productions.{is_same}
use Rattle.packing.specs.Refusals.{is_refused}
use Rattle.packing.specs.Bins.{Item, Packing, opened, free_on, stored}
use Rattle.packing.specs.Placing.{Decision, into, refusing, decision, placed}
use Rattle.packing.specs.Looks.{looks}
use Rattle.packing.specs.Withdrawing.{is_named, without, withdrawal}
use Rattle.packing.specs.Settling.{settled, settling, settlement}
use Rattle.packing.specs.Sending.{shelves_item, size_of, name_of, fault, item_of}
use Rattle.packing.specs.Shelves.{Shelf, empty_shelf, of, own, stock_left, put_back, belonging}
use Rattle.packing.specs.Streams.{Read, accepted, refused}

-- What is decided of an item, as it is answered: with its bin, the free units that it leaves there. (The packing is the one with the item.)
abbrev pub told : Opening → Packing → Decision → Outcome
told o p (into bin) = Placed bin (free_on o bin p)
told o p (refusing reason) = Refused reason

-- One command of the run: its number from 1, the production that it belongs to and that one's packing, which it gets, and what it comes to.
pub record Step : Type 0 where
  pub number : ℕ
  pub production : Production
  pub command : Command
  pub before : Packing
  pub outcome : Outcome

module _ (o : Opening) where
  -- In one production's packing, for which so much of the stock is left. 02 and 06 are answered as their item is decided of.
  abbrev pub shelved_as : (left : ℕ) → Packing → (number : ℕ) → Command → Outcome
  shelved_as left p n c = told o (placed o p (item_of o n c)) (decision o p (item_of o n c) left (fault c))

  abbrev pub answer_to : (left : ℕ) → Packing → (number : ℕ) → Command → Outcome
  answer_to left p n (Shelve size) = shelved_as left p n (Shelve size)
  answer_to left p n Count = Counted (opened p)
  answer_to left p n (Withdraw named) = withdrawal o p named
  answer_to left p n (Switch r) = Switched r
  answer_to left p n (Reserve least greatest) = shelved_as left p n (Reserve least greatest)
  answer_to left p n (Settle named size) = settlement o p named (stored o size)

  -- What a command does to its production, if it is not refused.
  abbrev pub done : Packing → (number : ℕ) → Command → Packing
  done p n (Shelve size) = placed o p (item_of o n (Shelve size))
  done p n Count = p
  done p n (Withdraw named) = without named p
  done p n (Switch r) = p
  done p n (Reserve least greatest) = placed o p (item_of o n (Reserve least greatest))
  done p n (Settle named size) = settling named (stored o size) p

  -- A refused command changes nothing: loads, classes and the B2 count are as they were.
  abbrev pub next : (left : ℕ) → Packing → (number : ℕ) → Command → Packing
  next left p n c = if is_refused (answer_to left p n c) then p else done p n c

  -- The looks that a command takes: only one that shelves an item makes a search.
  abbrev pub looks_to : Packing → (number : ℕ) → Command → ℕ
  looks_to p n c = if shelves_item c then looks o p (item_of o n c) (fault c) else 0

  -- On the shelf a command is answered by its production, and leaves the other as it is.
  abbrev pub answer_on : Shelf → (number : ℕ) → Command → Outcome
  answer_on s n c = answer_to (stock_left o s) (own s) n c

  abbrev pub next_shelf : Shelf → (number : ℕ) → Command → Shelf
  next_shelf s n c = put_back s.current (next (stock_left o s) (own s) n c) s (belonging s.current c)

  unfoldable pub run_from : Shelf → (number : ℕ) → List Command → List Step
  run_from s n [] = []
  run_from s n (c ∷ cs) = record { number = n; production = s.current; command = c; before = own s; outcome = answer_on s n c } ∷ run_from (next_shelf s n c) (suc n) cs

  unfoldable pub shelf_from : Shelf → (number : ℕ) → List Command → Shelf
  shelf_from s n [] = s
  shelf_from s n (c ∷ cs) = shelf_from (next_shelf s n c) (suc n) cs

-- An item on the shelf, as the answers tell of it: with the bin that it was answered.
pub record Shelved : Type 0 where
  pub item : Item
  pub bin : ℕ

-- The same, with this size if it is the item named.
abbrev pub settled_there : (named size : ℕ) → Shelved → Shelved
settled_there named size s = record { item = settled named size s.item; bin = s.bin }

abbrev pub entry_of : Shelved → Entry
entry_of s = record { size = s.item.size; bin = s.bin }

-- The commands after the opening are numbered from 1; an answer joins the command's number with placed, counted, withdrawn, switched, settled or refused.
abbrev pub answer_of : Step → Answer
answer_of t = record { number = t.number; outcome = t.outcome }

-- The steps of one production, 05 with those before it. (An `elim`, not `keep`: the checker computes what is kept once.)
unfoldable pub steps_of : Production → List Step → List Step
steps_of q [] = []
steps_of q (t ∷ ts) = elim (is_same q t.production) [
  | true ↦ t ∷ steps_of q ts
  | false ↦ steps_of q ts
]

module _ (o : Opening) where
  -- A command that shelves an item and is not refused gives its stored size, which is the greatest of 06, and its bin.
  abbrev pub placement : Command → Outcome → List Entry
  placement c (Placed bin free) = record { size = stored o (size_of c); bin = bin } ∷ []
  placement c (Counted opened) = []
  placement c (Withdrawn bin free) = []
  placement c (Switched r) = []
  placement c (Settled bin free) = []
  placement c (Refused reason) = []

  -- What the answer to a command makes of the items on the shelf: one that is placed joins them as the last, the one that is taken out leaves them, and
  -- the one that is settled has its size.
  abbrev pub shelving : (number : ℕ) → Command → Outcome → List Shelved → List Shelved
  shelving n c (Placed bin free) on = on ++ record { item = item_of o n c; bin = bin } ∷ []
  shelving n c (Counted opened) on = on
  shelving n c (Withdrawn bin free) on = keep (λ s. not (is_named (name_of c) s.item)) on
  shelving n c (Switched r) on = on
  shelving n c (Settled bin free) on = map (settled_there (name_of c) (stored o (size_of c))) on
  shelving n c (Refused reason) on = on

  -- Of some steps: the accepted items, each with its bin, whatever became of them.
  abbrev pub entries_of : List Step → List Entry
  entries_of ts = flatten (map (λ t. placement t.command t.outcome) ts)

  -- The items on the shelf after some steps, where these were on it before.
  abbrev pub shelved_by : List Step → List Shelved → List Shelved
  shelved_by ts on = foldl (λ before t. shelving t.number t.command t.outcome before) on ts

-- After the commands cs: the run, and what is read off it: the answers, and the looks of each command. And the shelf, with the production that the next
-- command belongs to.
module _ (o : Opening) (cs : List Command) where
  abbrev pub run : List Step
  run = run_from o empty_shelf 1 cs

  abbrev pub outcomes : List Outcome
  outcomes = map (λ t. t.outcome) run

  abbrev pub answers : List Answer
  answers = map answer_of run

  abbrev pub looks_taken : List ℕ
  looks_taken = map (λ t. looks_to o t.before t.number t.command) run

  -- "The largest over the stream, 0 if no search was made": over both productions.
  abbrev pub most_looks : ℕ
  most_looks = greatest looks_taken

  abbrev pub shelf : Shelf
  shelf = shelf_from o empty_shelf 1 cs

  abbrev pub current : Production
  current = shelf.current

-- Of one production: its steps; its accepted items and those still shelved, in the stream's order; its packing.
module _ (o : Opening) (q : Production) (cs : List Command) where
  abbrev pub steps : List Step
  steps = steps_of q (run o cs)

  abbrev pub placements : List Entry
  placements = entries_of o steps

  abbrev pub still_shelved : List Shelved
  still_shelved = shelved_by o steps []

  abbrev pub packing : Packing
  packing = of q (shelf o cs)

-- What the call returns: the items still shelved and the bins opened, of both productions, and the largest looks; or the refusal.
abbrev pub result : Read → StreamResult
result (accepted o cs) =
    Ok
    (record {
      items = length (still_shelved o First cs) + length (still_shelved o Second cs);
      opened = opened (packing o First cs) + opened (packing o Second cs);
      looks = most_looks o cs;
    })
result (refused reason offset) = refuse reason offset

-- A row at exit, by what it tells of an outcome: the answer row by `word`, the row of free units by `freeUnits`. Word n is of command n, and words past
-- the last command are untouched; all are where the stream is refused.
abbrev pub row_at_exit : (tells : Outcome → ℕ) → Read → List ℕ → List ℕ
row_at_exit tells (accepted o cs) row = map tells (outcomes o cs) ++ drop (length cs) row
row_at_exit tells (refused reason offset) row = row

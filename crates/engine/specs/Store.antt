-- The engine's state: trees, notes, ledger and counters. Ledger and notes, with the counters, record a packing; the trees are an index over the ledger.
use Rattle.std.specs.Prelude.{◌≡◌, true, None, List, ℕ, ◌%◌, ◌≤◌, ◌<◌, replicate}
use Rattle.packing.specs.declared.{Opening.Opening, Command.Command}
use Rattle.packing.specs.Bins.{Packing, empty, opened, stored}
use Rattle.packing.specs.Sending.{shelves_item, size_of, fault}
use Rattle.tournament.specs.declared.Shape.{Shape}
use Rattle.tournament.specs.Shapes.{Fitted}
use Rattle.tournament.specs.Trees.{row_words}
use Rattle.aim.specs.declared.Counters.{Counters}
use Rattle.aim.specs.Aims.{b2_tree}
use Rattle.engine.specs.declared.Store.{Store}
use Rattle.ledger.specs.declared.Row.{Row}
use Rattle.ledger.specs.Notes.{numbers, unnoted, note_at, Noted}
use Rattle.ledger.specs.Records.{items_held, Records}
use Rattle.index.specs.Trees.{Indexes}

-- What the engine holds between two commands: the store, and the ledger and the counters beside it.
pub record State : Type 0 where
  pub store : Store
  pub ledger : List Row
  pub counters : Counters

abbrev pub state : Store → List Row → Counters → State
state s ledger c = record { store = s; ledger = ledger; counters = c }

-- The packing that the state represents: the counters, the ledger and the notes say it. Bin i + 1 stands at place i.
pub record Represents (o : Opening) (s : State) (p : Packing) : Type 0 where
  pub bins : s.counters.opened ≡ opened p
  pub b2s : s.counters.phase ≡ p.b2s % o.m
  pub items : s.counters.items ≡ items_held p
  pub records : Records o s.ledger p
  pub noted : Noted s.store.notes p

-- What the state is, whatever packing it represents; and it represents one.
pub record Sound (o : Opening) (shape : Shape) (s : State) : Type 0 where
  pub index : Indexes shape s.store.trees s.ledger
  -- So the height is the h that "looks per placement" goes by.
  pub fitted : Fitted o.stock shape
  pub capacity : o.capacity ≤ 16_777_216
  pub within : s.counters.opened ≤ o.stock
  pub phase : s.counters.phase < o.m
  pub b2 : s.counters.b2 ≡ b2_tree s.counters.phase o.m
  pub packing : Packing
  pub represents : Represents o s packing

-- The command of this number may come: no item has the number yet, and the count of items can take one more. The commands of a stream are far fewer.
pub record Ready (o : Opening) (left : ℕ) (shape : Shape) (number : ℕ) (s : State) : Type 0 where
  pub sound : Sound o shape s
  -- What is left of the stock for this packing is no more than the stock.
  pub left_few : left ≤ o.stock
  pub room : s.counters.items < 4294967295
  pub numbered : number < numbers
  pub new : (note_at s.store.notes number).bin ≡ 0

-- It shelves an item, which has no fault, and which a bin can hold with its trailer.
pub record Placeable (o : Opening) (left : ℕ) (shape : Shape) (number : ℕ) (command : Command) (s : State) : Type 0 where
  pub ready : Ready o left shape number s
  pub sends : shelves_item command ≡ true
  pub faultless : fault command ≡ None
  pub fits : stored o (size_of command) ≤ o.capacity

-- The counters and the store before the first command; and that with them and this ledger a state stands for the empty packing.
abbrev pub at_opening : Counters
at_opening = record { opened = 0; phase = 0; items = 0; b2 = 3 }

abbrev pub blank_store : Store
blank_store = record { trees = replicate row_words 0; notes = replicate numbers unnoted }

pub record EmptyStore (o : Opening) (shape : Shape) (ledger : List Row) : Type 0 where
  pub sound : Sound o shape (state blank_store ledger at_opening)
  pub represents : Represents o (state blank_store ledger at_opening) empty

-- What is promised of the model, as statements; ../proofs shows each of every opening and every list of commands. Demand 3 and the plan of a packing's
-- own answers are stated in the crate worst_case.
use Rattle.std.specs.Prelude.{◌+◌, ◌*◌, ◌^◌, ◌≤◌, ◌<◌, ◌≡◌, ◌↔◌, ◌⊎◌, ◌||◌, ◌∷◌, ◌++◌, if◌then◌else◌}
use Rattle.packing.specs.Prelude.{ℕ, suc, min, Bool, true, false, None}
use Rattle.packing.specs.Prelude.{List, [], map, zip_with, flatten, reverse, length, take, drop, Memᴰ, total, any, keep, ◌=?◌}
use Rattle.packing.specs.Prelude.{Opening, SizeClass, A, B1, B2, X, Production, First, Second, Command, Shelve, Count, Withdraw, Switch, Reserve, Settle, Outcome, Placed, Withdrawn, Switched, Settled, Refused, ItemReason, SizeZero, AboveCapacity, StockSpent, NotShelved, RangeWrong, NotReserved, OutsideRange}
use Rattle.packing.specs.Refusing.{StreamResult, PlanResult, RepackResult, PairResult}
use Rattle.packing.specs.Productions.{other}
use Rattle.packing.specs.Refusals.{is_refused, is_placed, is_withdrawn, is_settled, bins_named, word, free_units, outcome_of, figures, stream_gives, plan_gives, repack_gives, pair_gives}
use Rattle.packing.specs.SizeClasses.{size_class, count_b2}
use Rattle.packing.specs.Bins.{Item, Bin, Packing, opened, load, items_of, kind, stored, unsettled, in_range}
use Rattle.packing.specs.Placing.{permitted, target, takes}
use Rattle.packing.specs.Looks.{height}
use Rattle.packing.specs.Shelves.{Shelf, own, is_switch}
use Rattle.packing.specs.Sending.{shelves_item, size_of, fault, item_of}
use Rattle.packing.specs.Limits.{opening_good, most_commands}
use Rattle.packing.specs.Streams.{is_opening, first_byte, opening_length, opening_of, behind_opening, accepted, commands, verdict}
use Rattle.packing.specs.Run.{Step, answer_on, next_shelf, outcomes, answers, looks_taken, most_looks, current, steps, placements, still_shelved, packing, result}
use Rattle.packing.specs.Counting.{stock_places, walk}
use Rattle.packing.specs.Compared.{accepted_sizes, number_opened, none_altered, shelf_plan, shelved_sizes, sizes_in}

-- The inequalities of each size class: the tests before it failed.
abbrev pub Bounds : (c s : ℕ) → SizeClass → Type 0
Bounds c s A = c < 2 * s
Bounds c s B1 = (2 * s ≤ c) × (2 * c < 5 * s)
Bounds c s B2 = (5 * s ≤ 2 * c) × (c < 3 * s)
Bounds c s X = 3 * s ≤ c

-- The bins that an item of a size class may lie in, by their class.
abbrev pub may_lie_in : SizeClass → (class : ℕ) → Bool
may_lie_in A n = n =? 1
may_lie_in B1 n = n =? 2
may_lie_in B2 n = (n =? 1) || (n =? 3)
may_lie_in X n = n =? 4

-- What every bin is that was ever opened; it may have been emptied.
pub record SoundBin (o : Opening) (b : Bin) : Type 0 where
  pub not_overfull : load b ≤ o.capacity
  pub from_class_1 : 1 ≤ b.class
  pub to_class_4 : b.class ≤ 4
  pub is_in_class : (i : Item) → Memᴰ i b.items → may_lie_in (kind o i) b.class ≡ true
  -- An item counts by "the greatest till then".
  pub till_settled : (i : Item) → Memᴰ i b.items → unsettled i ≡ true → i.size ≡ i.greatest

-- In a packing the bin of this number has so many free units: with its load they make up the capacity, and it takes an item that is permitted there, as
-- first fit asks, exactly if the size is at most so many.
pub record FreeOf (o : Opening) (p : Packing) (number free : ℕ) : Type 0 where
  pub before : List Bin
  pub bin : Bin
  pub behind : List Bin
  pub bins_are : p.bins ≡ before ++ bin ∷ behind
  pub numbered : number ≡ suc (length before)
  pub with_load : free + load bin ≡ o.capacity
  pub takes_up_to : (i : Item) → permitted o (target o p i) bin ≡ true → (takes o p i bin ≡ true) ↔ (i.size ≤ free)

-- The bin answered to an item takes it, and no lower one does: "the lowest permitted cartridge with space under the loads then present". If none takes
-- it, it is a new one.
pub record Lowest (o : Opening) (p : Packing) (i : Item) (bin : ℕ) : Type 0 where
  pub lower : ℕ
  pub numbered : bin ≡ suc lower
  pub at_most_new : bin ≤ suc (opened p)
  pub none_lower : (b : Bin) → Memᴰ b (take lower p.bins) → takes o p i b ≡ false
  pub takes_item : (b : Bin) (later : List Bin) → drop lower p.bins ≡ b ∷ later → takes o p i b ≡ true

-- A bin of the packing takes the item.
pub record Taker (o : Opening) (p : Packing) (i : Item) : Type 0 where
  pub bin : Bin
  pub among : Memᴰ bin p.bins
  pub takes_item : takes o p i bin ≡ true

-- h is "the least number with 2 to the power h at least the stock".
pub record IsHeight (stock h : ℕ) : Type 0 where
  pub enough : stock ≤ 2 ^ h
  pub least : (k : ℕ) → stock ≤ 2 ^ k → h ≤ k

-- A step shelved the item of this number in this bin.
pub record ShelvedIn (ts : List Step) (number bin : ℕ) : Type 0 where
  pub step : Step
  pub among : Memᴰ step ts
  pub of_number : step.number ≡ number
  pub placed : is_placed step.outcome ≡ true
  pub its_bin : bins_named step.outcome ≡ bin ∷ []

-- The item of this number is on the shelf, by the answers alone: a step shelved it, and none took it out.
pub record OnShelf (ts : List Step) (named : ℕ) : Type 0 where
  pub bin : ℕ
  pub shelved : ShelvedIn ts named bin
  pub not_out : (t : Step) → Memᴰ t ts → t.command ≡ Withdraw named → is_refused t.outcome ≡ true

-- The item of this number is on the shelf and unsettled, by the answers alone: a step of 06 with these bare sizes shelved it, and none settled it.
pub record Unsettled (ts : List Step) (named least greatest : ℕ) : Type 0 where
  pub on_shelf : OnShelf ts named
  pub ranged : on_shelf.shelved.step.command ≡ Reserve least greatest
  pub not_settled : (t : Step) (size : ℕ) → Memᴰ t ts → t.command ≡ Settle named size → is_refused t.outcome ≡ true

-- The stored size that an item turns out to have, where `truth` gives the bare size of each command's: any that is settled has its own.
abbrev pub true_size : Opening → (truth : (number : ℕ) → ℕ) → Item → ℕ
true_size o truth i = if unsettled i then stored o (truth i.command) else i.size

-- The true size of each of these items is within its range.
abbrev pub WithinRanges : Opening → (truth : (number : ℕ) → ℕ) → List Item → Type 0
WithinRanges o truth items = (i : Item) → Memᴰ i items → unsettled i ≡ true → in_range (stored o (truth i.command)) i ≡ true

-- The classes of the bins, by number.
abbrev pub classes_of : Packing → List ℕ
classes_of p = map (λ b. b.class) p.bins

-- Of one production.
module _ (o : Opening) (q : Production) (cs : List Command) where
  -- After each command bin n holds the items still shelved that were answered n, in the stream's order, and no others. (The last item of a bin stands
  -- first.)
  abbrev pub HoldsAnswered : Type 0
  HoldsAnswered = (j n : ℕ) → items_of n (packing o q (take j cs)) ≡ reverse (map (λ s. s.item) (keep (λ s. s.bin =? n) (still_shelved o q (take j cs))))

  pub record NeverOverfull : Type 0 where
    -- After each command the items still shelved that were answered n are together no larger than the capacity, whatever the number n.
    pub shown : (j n : ℕ) → total (sizes_in n (shelf_plan o q (take j cs))) ≤ o.capacity
    -- Nor does the load of a bin exceed it; every bin has its class, 1 to 4.
    pub bins : (j : ℕ) (b : Bin) → Memᴰ b (packing o q (take j cs)).bins → SoundBin o b

  -- "For any true sizes of unsettled masters within their ranges, no cartridge is overfilled": after each command the items still shelved that were
  -- answered n turn out to be together no larger than the capacity, and so do those in a bin.
  pub record TrueSizesFit : Type 0 where
    pub shown : (truth : (number : ℕ) → ℕ) (j n : ℕ) → WithinRanges o truth (map (λ s. s.item) (still_shelved o q (take j cs)))
        → total (map (λ s. true_size o truth s.item) (keep (λ s. s.bin =? n) (still_shelved o q (take j cs)))) ≤ o.capacity
    pub bins : (truth : (number : ℕ) → ℕ) (j : ℕ) (b : Bin) → Memᴰ b (packing o q (take j cs)).bins → WithinRanges o truth b.items
        → total (map (true_size o truth) b.items) ≤ o.capacity

  -- Where command j + 1, of this production, is answered by a bin and its free units, these are that bin's after every command up to which it is opened
  -- and the items still shelved that were answered its number are the same: from that command on, until an item goes there, leaves it or is settled there.
  abbrev pub FreeUnits : Type 0
  FreeUnits =
      (j i bin : ℕ) (a : Outcome) (later : List Outcome) → current o (take j cs) ≡ q → drop j (outcomes o cs) ≡ a ∷ later → bins_named a ≡ bin ∷ []
      → bin ≤ number_opened o q (take i cs) → sizes_in bin (shelf_plan o q (take i cs)) ≡ sizes_in bin (shelf_plan o q (take (suc j) cs))
      → FreeOf o (packing o q (take i cs)) bin (free_units a)

  -- The loads always add up to the sizes of the items still shelved.
  abbrev pub LoadsAddUp : Type 0
  LoadsAddUp = (j : ℕ) → total (map load (packing o q (take j cs)).bins) ≡ total (shelved_sizes o q (take j cs))

  -- Where no withdrawal and no settling is accepted, the items still shelved are those accepted.
  abbrev pub OneList : Type 0
  OneList = none_altered o q cs ≡ true → shelf_plan o q cs ≡ placements o q cs

  pub record Stays : Type 0 where
    -- "The B2 count never goes back": it is of all items accepted, whatever became of them.
    pub b2_count : (j : ℕ) → (packing o q (take j cs)).b2s ≡ total (map (λ s. count_b2 (size_class o.capacity s)) (accepted_sizes o q (take j cs)))
    -- "An emptied cartridge stays opened, keeps its number and class": the classes by number are those of before, and then some.
    pub classes_stay : (i j : ℕ) → take (opened (packing o q (take i cs))) (classes_of (packing o q (take (i + j) cs))) ≡ classes_of (packing o q (take i cs))

  -- After each command every bin number answered by then is from 1 to the number opened.
  abbrev pub AnswersInRange : Type 0
  AnswersInRange = (j bin : ℕ) → Memᴰ bin (flatten (map (λ t. bins_named t.outcome) (steps o q (take j cs)))) → (1 ≤ bin) × (bin ≤ number_opened o q (take j cs))

  -- "Opened ones have no gaps among them": after each command a number was answered to an accepted item exactly if it is from 1 to the number opened,
  -- which is the number of bins.
  pub record Opened : Type 0 where
    pub bins : opened (packing o q cs) ≡ number_opened o q cs
    pub no_gaps : (j n : ℕ) → (any (λ e. e.bin =? n) (placements o q (take j cs)) ≡ true) ↔ ((1 ≤ n) × (n ≤ number_opened o q (take j cs)))

  -- After each command the walk over the places of the stock finds the number opened, and has read "the lesser of the stock and the figure plus one".
  abbrev pub EarlyCount : Type 0
  EarlyCount =
      (j : ℕ) → walk (stock_places o.stock (packing o q (take j cs)).bins)
      ≡ record { figure = number_opened o q (take j cs); read = min o.stock (number_opened o q (take j cs) + 1) }

-- Of both. A command's production is the one that is current where it comes.
module _ (o : Opening) (cs : List Command) where
  -- Each item goes to the lowest permitted bin with space under the loads then present, of its production.
  abbrev pub LowestPermitted : Type 0
  LowestPermitted =
      (j bin free : ℕ) (c : Command) (later : List Command) (others : List Outcome) → drop j cs ≡ c ∷ later
      → drop j (outcomes o cs) ≡ Placed bin free ∷ others → Lowest o (packing o (current o (take j cs)) (take j cs)) (item_of o (suc j) c) bin

  pub record Withdrawals : Type 0 where
    -- Refused with 17 exactly when the item named is not on the shelf of the production: "a master of the other cannot be taken out".
    pub exactly : (j named : ℕ) (later : List Command) → drop j cs ≡ Withdraw named ∷ later
        → (take 1 (drop j (outcomes o cs)) ≡ Refused NotShelved ∷ []) ↔ (OnShelf (steps o (current o (take j cs)) (take j cs)) named → ⊥)
    -- "It is the only check for 04": an item that is on the shelf is taken out.
    pub only_check : (j named : ℕ) (a : Outcome) (later : List Command) (others : List Outcome) → drop j cs ≡ Withdraw named ∷ later
        → drop j (outcomes o cs) ≡ a ∷ others → OnShelf (steps o (current o (take j cs)) (take j cs)) named → is_withdrawn a ≡ true
    -- Its answer is the very bin that the command it names was answered.
    pub same_bin : (j named bin free : ℕ) (later : List Command) (others : List Outcome) → drop j cs ≡ Withdraw named ∷ later
        → drop j (outcomes o cs) ≡ Withdrawn bin free ∷ others → ShelvedIn (steps o (current o (take j cs)) (take j cs)) named bin

  pub record Settlings : Type 0 where
    -- Refused with 20 exactly when the item named is "not an earlier 06 master of the same production, still shelved and unsettled".
    pub exactly : (j named size : ℕ) (later : List Command) → drop j cs ≡ Settle named size ∷ later
        → (take 1 (drop j (outcomes o cs)) ≡ Refused NotReserved ∷ [])
        ↔ ((least greatest : ℕ) → Unsettled (steps o (current o (take j cs)) (take j cs)) named least greatest → ⊥)
    -- With 21 exactly when it is one and the size is outside the range that its command gave, both as they were sent: "after 20".
    pub outside : (j named size least greatest : ℕ) (later : List Command) → drop j cs ≡ Settle named size ∷ later
        → Unsettled (steps o (current o (take j cs)) (take j cs)) named least greatest
        → (take 1 (drop j (outcomes o cs)) ≡ Refused OutsideRange ∷ []) ↔ ((size < least) ⊎ (greatest < size))
    -- There is no other check: one that is within its range is settled.
    pub within : (j named size least greatest : ℕ) (a : Outcome) (later : List Command) (others : List Outcome) → drop j cs ≡ Settle named size ∷ later
        → drop j (outcomes o cs) ≡ a ∷ others → Unsettled (steps o (current o (take j cs)) (take j cs)) named least greatest
        → least ≤ size → size ≤ greatest → is_settled a ≡ true
    -- Its answer is the very bin that the 06 it names was answered.
    pub same_bin : (j named size bin free : ℕ) (later : List Command) (others : List Outcome) → drop j cs ≡ Settle named size ∷ later
        → drop j (outcomes o cs) ≡ Settled bin free ∷ others → ShelvedIn (steps o (current o (take j cs)) (take j cs)) named bin

  -- The answers to the first j commands depend on the opening and those j alone.
  abbrev pub Prefix : Type 0
  Prefix = (j : ℕ) → take j (answers o cs) ≡ answers o (take j cs)

  -- A count answered equals the number opened there by its production; after the last command, the total returned is of both, and both together are at
  -- most the stock.
  pub record Counts : Type 0 where
    pub answered : (j : ℕ) (later : List Command) → drop j cs ≡ Count ∷ later
        → take 1 (drop j (map word (outcomes o cs))) ≡ number_opened o (current o (take j cs)) (take j cs) ∷ []
    pub returned : stream_gives (result (accepted o cs))
        ≡ figures ((length (shelved_sizes o First cs) + length (shelved_sizes o Second cs)) ∷ (number_opened o First cs + number_opened o Second cs) ∷ most_looks o cs ∷ [])
    pub to_stock : number_opened o First cs + number_opened o Second cs ≤ o.stock

  -- A bin that is on the shelf of its production when command j + 1, which is c, comes takes the item that it sends.
  abbrev pub Fitting : (j : ℕ) → Command → Type 0
  Fitting j c = Taker o (packing o (current o (take j cs)) (take j cs)) (item_of o (suc j) c)

  -- The looks of each command, and the largest.
  pub record Looks : Type 0 where
    pub height_is : IsHeight o.stock (height o.stock)
    -- "Every master that passes the checks before 10 makes exactly one search, of 1 look if nothing fits and of 1 + h otherwise."
    pub nothing_fits : (j : ℕ) (c : Command) (later : List Command) → drop j cs ≡ c ∷ later → shelves_item c ≡ true → fault c ≡ None
        → size_of c + o.trailer ≤ o.capacity → (Fitting j c → ⊥) → take 1 (drop j (looks_taken o cs)) ≡ 1 ∷ []
    pub fits : (j : ℕ) (c : Command) (later : List Command) → drop j cs ≡ c ∷ later → shelves_item c ≡ true → fault c ≡ None
        → size_of c + o.trailer ≤ o.capacity → Fitting j c → take 1 (drop j (looks_taken o cs)) ≡ (1 + height o.stock) ∷ []
    -- One that does not pass them makes none, and no other command does.
    pub not_searched : (j : ℕ) (c : Command) (later : List Command) → drop j cs ≡ c ∷ later → (fault c ≡ None → ⊥) ⊎ (o.capacity < size_of c + o.trailer)
        → take 1 (drop j (looks_taken o cs)) ≡ 0 ∷ []
    pub others : (j : ℕ) (c : Command) (later : List Command) → drop j cs ≡ c ∷ later → shelves_item c ≡ false → take 1 (drop j (looks_taken o cs)) ≡ 0 ∷ []
    -- "No placement takes more than 1 + h looks."
    pub at_most : (n : ℕ) → Memᴰ n (looks_taken o cs) → n ≤ 1 + height o.stock
    -- The figure returned is "the largest over the stream, 0 if no search was made".
    pub none_larger : (n : ℕ) → Memᴰ n (looks_taken o cs) → n ≤ most_looks o cs
    pub one_of_them : 1 ≤ most_looks o cs → Memᴰ (most_looks o cs) (looks_taken o cs)

  -- "A stream starts in 0"; 05 "makes the commands after it belong to that production", and "its answer is that byte"; after any other command the same
  -- production is current. And a command leaves the packing of the other production as it is.
  pub record Productions : Type 0 where
    pub starts : current o [] ≡ First
    pub goes : (j : ℕ) (r : Production) (later : List Command) → drop j cs ≡ Switch r ∷ later → current o (take (suc j) cs) ≡ r
    pub stays : (j : ℕ) (c : Command) (later : List Command) → drop j cs ≡ c ∷ later → is_switch c ≡ false → current o (take (suc j) cs) ≡ current o (take j cs)
    pub switched : (j : ℕ) (r : Production) (later : List Command) → drop j cs ≡ Switch r ∷ later → take 1 (drop j (outcomes o cs)) ≡ Switched r ∷ []
    pub other_stays : (j : ℕ) → packing o (other (current o (take j cs))) (take (suc j) cs) ≡ packing o (other (current o (take j cs))) (take j cs)

-- Document 01's numbers give a result back: no two results share them.
abbrev pub StreamGivesBack : Type 0
StreamGivesBack = (r s : StreamResult) → stream_gives r ≡ stream_gives s → r ≡ s

abbrev pub PlanGivesBack : Type 0
PlanGivesBack = (r s : PlanResult) → plan_gives r ≡ plan_gives s → r ≡ s

abbrev pub RepackGivesBack : Type 0
RepackGivesBack = (r s : RepackResult) → repack_gives r ≡ repack_gives s → r ≡ s

abbrev pub PairGivesBack : Type 0
PairGivesBack = (r s : PairResult) → pair_gives r ≡ pair_gives s → r ≡ s

-- So do the words of both rows, beside their commands.
abbrev pub WordsGiveBack : Opening → List Command → Type 0
WordsGiveBack o cs =
    opening_good o ≡ true → zip_with (λ given free. given free) (zip_with outcome_of cs (map word (outcomes o cs))) (map free_units (outcomes o cs)) ≡ outcomes o cs

-- What no stream refusal leaves of a stream for which so many words are lent: the opening at its front, within its limits, a whole command at every
-- place after it, and no more commands than 4,096 and than there are words.
pub record WholeStream (stream : List ℕ) (words : ℕ) (o : Opening) (cs : List Command) : Type 0 where
  pub opening_is_good : opening_good o ≡ true
  pub opening_first : is_opening (first_byte stream) ≡ true
  pub opening_whole : opening_length stream ≤ length stream
  pub opening_is : opening_of (first_byte stream) (drop 1 stream) ≡ o
  pub commands_whole : commands o most_commands (opening_length stream) (behind_opening stream) ≡ accepted o cs
  pub commands_few : length cs ≤ most_commands
  pub words_enough : length cs ≤ words

-- An accepted stream is whole.
abbrev pub AcceptedWhole : (stream : List ℕ) (words : ℕ) (o : Opening) (cs : List Command) → Type 0
AcceptedWhole stream words o cs = verdict stream words ≡ accepted o cs → WholeStream stream words o cs

-- A new bin is called for and the stock is spent: no permitted bin of the production has space, and "both together have opened it all".
pub record Spent (o : Opening) (s : Shelf) (i : Item) : Type 0 where
  pub within_capacity : i.size ≤ o.capacity
  pub no_space : (b : Bin) → Memᴰ b (own s).bins → permitted o (target o (own s) i) b ≡ true → o.capacity < load b + i.size
  pub all_opened : o.stock ≤ opened s.first + opened s.second

-- An item is refused in the order 8, 9, 10, each under exactly its condition: "refusal 8 goes by the bare size", 9 by the stored one, whatever the
-- trailer is, and 10 comes where the stock is spent.
pub record RefusedExactly (o : Opening) (s : Shelf) (n size : ℕ) : Type 0 where
  pub zero : (answer_on o s n (Shelve size) ≡ Refused SizeZero) ↔ (size ≡ 0)
  pub above : (answer_on o s n (Shelve size) ≡ Refused AboveCapacity) ↔ ((1 ≤ size) × (o.capacity < size + o.trailer))
  pub spent : (answer_on o s n (Shelve size) ≡ Refused StockSpent) ↔ ((1 ≤ size) × Spent o s (item_of o n (Shelve size)))

-- One of 06 in the order 19, 9, 10, where 19 comes "in place of 8" and 9 goes by the greatest size.
pub record RangeRefusedExactly (o : Opening) (s : Shelf) (n least greatest : ℕ) : Type 0 where
  pub wrong : (answer_on o s n (Reserve least greatest) ≡ Refused RangeWrong) ↔ ((least ≡ 0) ⊎ (greatest < least))
  pub above : (answer_on o s n (Reserve least greatest) ≡ Refused AboveCapacity) ↔ ((1 ≤ least) × (least ≤ greatest) × (o.capacity < greatest + o.trailer))
  pub spent : (answer_on o s n (Reserve least greatest) ≡ Refused StockSpent) ↔ ((1 ≤ least) × (least ≤ greatest) × Spent o s (item_of o n (Reserve least greatest)))
  pub never_8 : answer_on o s n (Reserve least greatest) ≡ Refused SizeZero → ⊥

-- A refused command changes nothing.
abbrev pub RefusedChangesNothing : Opening → Shelf → (number : ℕ) → Command → Type 0
RefusedChangesNothing o s n c = (reason : ItemReason) → answer_on o s n c ≡ Refused reason → next_shelf o s n c ≡ s

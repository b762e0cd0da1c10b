-- "What a refusal gives": the number of each refusal, the answer word of an outcome, and what a result gives in document 01's numbers.
use Rattle.std.specs.Prelude.{◌+◌, ◌-◌, ◌∷◌, if◌then◌else◌}
use Rattle.packing.specs.Prelude.{ℕ, Bool, true, false, List, [], ◌=?◌, ◌<?◌, Command, Shelve, Count, Withdraw, Switch, Reserve, Settle, RowReason, Ok, Err}
use Rattle.packing.specs.Prelude.{Outcome, Placed, Counted, Withdrawn, Switched, Settled, Refused, ItemReason, SizeZero, AboveCapacity, StockSpent, NotShelved, RangeWrong, NotReserved, OutsideRange}
use Rattle.packing.specs.Prelude.{StreamReason, NoOpening, UnknownOpcode, CutShort, SecondOpening, OutsideLimits, TooManyCommands, TooFewWords, NoProduction}
use Rattle.packing.specs.Prelude.{PlanReason, CapacityOutside, TooLong, SizeOutside, BinOutside, Overfull, OtherItems}
use Rattle.packing.specs.Refusing.{StreamResult, PlanResult, RepackResult, PairResult}
use Rattle.packing.specs.Productions.{production_number, production_of}

abbrev pub stream_number : StreamReason → ℕ
stream_number NoOpening = 1
stream_number UnknownOpcode = 2
stream_number CutShort = 3
stream_number SecondOpening = 4
stream_number OutsideLimits = 5
stream_number TooManyCommands = 6
stream_number TooFewWords = 7
stream_number NoProduction = 18

abbrev pub item_number : ItemReason → ℕ
item_number SizeZero = 8
item_number AboveCapacity = 9
item_number StockSpent = 10
item_number NotShelved = 17
item_number RangeWrong = 19
item_number NotReserved = 20
item_number OutsideRange = 21

abbrev pub plan_number : PlanReason → ℕ
plan_number CapacityOutside = 11
plan_number TooLong = 12
plan_number SizeOutside = 13
plan_number BinOutside = 14
plan_number Overfull = 15
plan_number OtherItems = 16

-- "22 with place 0, answer row shorter than the sizes, after the checker's 11, 12 (the row alone) and 13."
abbrev pub row_number : RowReason → ℕ
row_number RowReason.CapacityOutside = 11
row_number RowReason.TooLong = 12
row_number RowReason.SizeOutside = 13
row_number RowReason.TooFewWords = 22

abbrev pub is_refused : Outcome → Bool
is_refused (Placed bin free) = false
is_refused (Counted opened) = false
is_refused (Withdrawn bin free) = false
is_refused (Switched r) = false
is_refused (Settled bin free) = false
is_refused (Refused reason) = true

abbrev pub is_placed : Outcome → Bool
is_placed (Placed bin free) = true
is_placed (Counted opened) = false
is_placed (Withdrawn bin free) = false
is_placed (Switched r) = false
is_placed (Settled bin free) = false
is_placed (Refused reason) = false

abbrev pub is_withdrawn : Outcome → Bool
is_withdrawn (Placed bin free) = false
is_withdrawn (Counted opened) = false
is_withdrawn (Withdrawn bin free) = true
is_withdrawn (Switched r) = false
is_withdrawn (Settled bin free) = false
is_withdrawn (Refused reason) = false

abbrev pub is_switched : Outcome → Bool
is_switched (Placed bin free) = false
is_switched (Counted opened) = false
is_switched (Withdrawn bin free) = false
is_switched (Switched r) = true
is_switched (Settled bin free) = false
is_switched (Refused reason) = false

abbrev pub is_settled : Outcome → Bool
is_settled (Placed bin free) = false
is_settled (Counted opened) = false
is_settled (Withdrawn bin free) = false
is_settled (Switched r) = false
is_settled (Settled bin free) = true
is_settled (Refused reason) = false

-- The numbers of the bins that an answer names: one, if an item went there, left it or is settled there.
abbrev pub bins_named : Outcome → List ℕ
bins_named (Placed bin free) = bin ∷ []
bins_named (Counted opened) = []
bins_named (Withdrawn bin free) = bin ∷ []
bins_named (Switched r) = []
bins_named (Settled bin free) = bin ∷ []
bins_named (Refused reason) = []

-- "Word n holds the cartridge number or the count for command n, or 32,768 plus the refusal number." A withdrawal "answers the cartridge it left"; of
-- 05 the "answer is that byte", and of 07 "the cartridge".
abbrev pub word : Outcome → ℕ
word (Placed bin free) = bin
word (Counted opened) = opened
word (Withdrawn bin free) = bin
word (Switched r) = production_number r
word (Settled bin free) = bin
word (Refused reason) = 32_768 + item_number reason

-- "Each answer carries the free units left on the named cartridge just after the master, and 0 for counted or refused"; for a withdrawal "the second
-- row gives the free units left on that cartridge"; 05 has "0 in the second row", and 07 the "free units in the second row".
abbrev pub free_units : Outcome → ℕ
free_units (Placed bin free) = free
free_units (Counted opened) = 0
free_units (Withdrawn bin free) = free
free_units (Switched r) = 0
free_units (Settled bin free) = free
free_units (Refused reason) = 0

-- The refusal of a command that has this number.
abbrev pub item_reason : (number : ℕ) → ItemReason
item_reason n =
    if n =? 8 then SizeZero else
    if n =? 9 then AboveCapacity else
    if n =? 10 then StockSpent else
    if n =? 17 then NotShelved else
    if n =? 19 then RangeWrong else
    if n =? 20 then NotReserved else
    OutsideRange

-- The outcome that a word and the free units beside it stand for. The word alone does not tell a bin's number from a count: the command does.
abbrev pub outcome_of : Command → (word free : ℕ) → Outcome
outcome_of (Shelve size) w free = if w <? 32_768 then Placed w free else Refused (item_reason (w - 32_768))
outcome_of Count w free = Counted w
outcome_of (Withdraw named) w free = if w <? 32_768 then Withdrawn w free else Refused (item_reason (w - 32_768))
outcome_of (Switch r) w free = Switched (production_of w)
outcome_of (Reserve least greatest) w free = if w <? 32_768 then Placed w free else Refused (item_reason (w - 32_768))
outcome_of (Settle named size) w free = if w <? 32_768 then Settled w free else Refused (item_reason (w - 32_768))

-- What a call returns, in document 01's numbers: its figures; or the number of a refusal, with its offset or its place.
pub data Returned : Type 0 where
  figures : List ℕ → Returned
  refusal : (number place : ℕ) → Returned

-- "An accepted stream returns the masters accepted and the cartridges opened": of the masters "those returned … are of masters still shelved", and they
-- "total both" productions; the last figure is the largest looks.
abbrev pub stream_gives : StreamResult → Returned
stream_gives (Ok totals) = figures (totals.items ∷ totals.opened ∷ totals.looks ∷ [])
stream_gives (Err r) = refusal (stream_number r.reason) r.place

-- "The answer is passed alone, without number or place."
abbrev pub plan_gives : PlanResult → Returned
plan_gives (Ok passed) = figures []
plan_gives (Err r) = refusal (plan_number r.reason) r.place

-- "The new count is returned", and "the answer also says that the move saves nothing": 1 if it does, else 0.
abbrev pub repack_gives : RepackResult → Returned
repack_gives (Ok repacked) = figures (repacked.count ∷ (if repacked.saves_nothing then 1 else 0) ∷ [])
repack_gives (Err r) = refusal (row_number r.reason) r.place

-- "The number of pairs is returned."
abbrev pub pair_gives : PairResult → Returned
pair_gives (Ok pairs) = figures (pairs ∷ [])
pair_gives (Err r) = refusal (row_number r.reason) r.place

-- The words that the model is written in: the library's, the types shared with the code, tests on numbers, and four functions on lists.
pub use Rattle.std.specs.Prelude.{ℕ, zero, suc, min, max, refl, Bool, true, false, not, Option, Some, None, Result, Ok, Err, length, take, drop, replicate, get_or}
pub use mathlib.Core.List.{List, [], map, foldl, reverse, Memᴰ}
unfoldable pub use mathlib.Core.List.{zip_with, flatten}
pub use Rattle.packing.specs.declared.{Opening.Opening, SizeClass.SizeClass, PerClass.PerClass, Production.Production, Command.Command, WidthRow.WidthRow}
pub use Rattle.packing.specs.declared.{ItemReason.ItemReason, Outcome.Outcome, Answer.Answer, Tally.Tally, StreamReason.StreamReason, StreamTotals.StreamTotals}
pub use Rattle.packing.specs.declared.{Entry.Entry, PlanReason.PlanReason, RowReason.RowReason, Repacked.Repacked, Refusal.Refusal}
pub use Rattle.packing.specs.declared.SizeClass.TheVariants.{A, B1, B2, X}
pub use Rattle.packing.specs.declared.Production.TheVariants.{First, Second}
pub use Rattle.packing.specs.declared.Command.TheVariants.{Shelve, Count, Withdraw, Switch, Reserve, Settle}
pub use Rattle.packing.specs.declared.Outcome.TheVariants.{Placed, Counted, Withdrawn, Switched, Settled, Refused}
pub use Rattle.packing.specs.declared.ItemReason.TheVariants.{SizeZero, AboveCapacity, StockSpent, NotShelved, RangeWrong, NotReserved, OutsideRange}
pub use Rattle.packing.specs.declared.StreamReason.TheVariants.{NoOpening, UnknownOpcode, CutShort, SecondOpening, OutsideLimits, TooManyCommands, TooFewWords, NoProduction}
pub use Rattle.packing.specs.declared.PlanReason.TheVariants.{CapacityOutside, TooLong, SizeOutside, BinOutside, Overfull, OtherItems}
use Rattle.std.specs.Prelude.{◌+◌, ◌||◌, ◌∷◌, if◌then◌else◌, eqb, leb, ltb}

infix 40 ◌=?◌ ◌≤?◌ ◌<?◌
-- tests: equal, at most, below
abbrev pub ◌=?◌ : ℕ → ℕ → Bool
a =? b = eqb a b

abbrev pub ◌≤?◌ : ℕ → ℕ → Bool
a ≤? b = leb a b

abbrev pub ◌<?◌ : ℕ → ℕ → Bool
a <? b = ltb a b

unfoldable pub total : List ℕ → ℕ
total [] = 0
total (n ∷ ns) = n + total ns

-- the greatest member, 0 of none
unfoldable pub greatest : List ℕ → ℕ
greatest [] = 0
greatest (n ∷ ns) = max n (greatest ns)

unfoldable pub any : {A : Type 0} → (A → Bool) → List A → Bool
any test [] = false
any test (a ∷ rest) = test a || any test rest

-- the members that pass
unfoldable pub keep : {A : Type 0} → (A → Bool) → List A → List A
keep test [] = []
keep test (a ∷ rest) = if test a then a ∷ keep test rest else keep test rest

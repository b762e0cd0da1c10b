-- A result as one 64-bit number, for C and Rust.
use Rattle.std.specs.Prelude.{◌≡◌, ◌↔◌, List, ℕ, ◌+◌, ◌*◌, ◌^◌, ◌<◌, Ok, Err, if◌then◌else◌}
use Rattle.packing.specs.declared.{Entry.Entry}
use Rattle.packing.specs.Refusing.{StreamResult, PlanResult, RepackResult, PairResult}
use Rattle.packing.specs.Refusals.{stream_number, plan_number, row_number}
use Rattle.worst_case.specs.PlanFits.{Fits}

-- A refusal of any call, with its offset or place: 2^63 + number x 2^32 + place.
abbrev pub refusal_code : (number place : ℕ) → ℕ
refusal_code number place = 2 ^ 63 + number * 2 ^ 32 + place

-- Accepted: looks x 2^32 + items x 65,536 + bins, the latter both totals of the two productions.
abbrev pub stream_code : StreamResult → ℕ
stream_code (Ok totals) = totals.looks * 2 ^ 32 + totals.items * 65_536 + totals.opened
stream_code (Err r) = refusal_code (stream_number r.reason) r.place

-- Each figure fits its place in the number.
abbrev pub FiguresFit : StreamResult → Type 0
FiguresFit (Ok totals) = (totals.items < 65_536) × ((totals.opened < 65_536) × (totals.looks < 2 ^ 31))
FiguresFit (Err r) = r.place < 2 ^ 32

-- Passed: 0.
abbrev pub plan_code : PlanResult → ℕ
plan_code (Ok passed) = 0
plan_code (Err r) = refusal_code (plan_number r.reason) r.place

abbrev pub PlaceFits : PlanResult → Type 0
PlaceFits (Ok passed) = Unit {0}
PlaceFits (Err r) = r.place < 2 ^ 32

-- Repacked: 2^32 if the move saves nothing, and the new count.
abbrev pub repack_code : RepackResult → ℕ
repack_code (Ok repacked) = (if repacked.saves_nothing then 2 ^ 32 else 0) + repacked.count
repack_code (Err r) = refusal_code (row_number r.reason) r.place

abbrev pub RepackFits : RepackResult → Type 0
RepackFits (Ok repacked) = repacked.count < 2 ^ 32
RepackFits (Err r) = r.place < 2 ^ 32

-- Paired: the number of pairs.
abbrev pub pair_code : PairResult → ℕ
pair_code (Ok pairs) = pairs
pair_code (Err r) = refusal_code (row_number r.reason) r.place

abbrev pub PairFits : PairResult → Type 0
PairFits (Ok pairs) = pairs < 2 ^ 32
PairFits (Err r) = r.place < 2 ^ 32

-- The number gives the result back: of the results whose figures fit, no two share a number. Proved in ../proofs/Back.antt.
abbrev pub StreamCodeBack : Type 0
StreamCodeBack = (r s : StreamResult) → FiguresFit r → FiguresFit s → stream_code r ≡ stream_code s → r ≡ s

abbrev pub PlanCodeBack : Type 0
PlanCodeBack = (r s : PlanResult) → PlaceFits r → PlaceFits s → plan_code r ≡ plan_code s → r ≡ s

abbrev pub RepackCodeBack : Type 0
RepackCodeBack = (r s : RepackResult) → RepackFits r → RepackFits s → repack_code r ≡ repack_code s → r ≡ s

abbrev pub PairCodeBack : Type 0
PairCodeBack = (r s : PairResult) → PairFits r → PairFits s → pair_code r ≡ pair_code s → r ≡ s

-- The number is 0 exactly when the plan fits.
abbrev pub ZeroExactly : (capacity k : ℕ) (plan : List Entry) (sizes : List ℕ) (code : ℕ) → Type 0
ZeroExactly capacity k plan sizes code = (code ≡ 0) ↔ Fits capacity k plan sizes

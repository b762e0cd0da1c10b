-- Results that may be refusals: tests, one after another, and what each call returns.
use Rattle.std.specs.Prelude.{if◌then◌else◌}
use Rattle.std.specs.Result.{result_and}
use Rattle.packing.specs.Prelude.{ℕ, Bool, Result, Ok, Err, Refusal, StreamTotals, StreamReason, PlanReason, RowReason, Repacked}

abbrev pub StreamResult : Type 0
StreamResult = Result StreamTotals (Refusal StreamReason)

abbrev pub PlanResult : Type 0
PlanResult = Result (Unit {0}) (Refusal PlanReason)

abbrev pub RowResult : Type 0
RowResult = Result (Unit {0}) (Refusal RowReason)

abbrev pub RepackResult : Type 0
RepackResult = Result Repacked (Refusal RowReason)

abbrev pub PairResult : Type 0
PairResult = Result ℕ (Refusal RowReason)

abbrev pub refuse : {T R : Type 0} → R → (place : ℕ) → Result T (Refusal R)
refuse reason place = Err (record { reason = reason; place = place })

-- Nothing is refused.
abbrev pub pass : {R : Type 0} → Result (Unit {0}) (Refusal R)
pass = Ok tt

-- One test, and one test after another: the first that refuses answers.
abbrev pub pass_if : {R : Type 0} → (good : Bool) → R → (place : ℕ) → Result (Unit {0}) (Refusal R)
pass_if good reason place = if good then pass else refuse reason place

infixr 20 ◌and_then◌
abbrev pub ◌and_then◌ : {R : Type 0} → Result (Unit {0}) (Refusal R) → Result (Unit {0}) (Refusal R) → Result (Unit {0}) (Refusal R)
first and_then later = result_and first later

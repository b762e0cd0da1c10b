-- Two lists of commands that differ in one production: "the other production's answers are equal".
use Rattle.packing.specs.declared.{Opening.Opening, Production.Production, Command.Command, Outcome.Outcome}
use Rattle.packing.specs.declared.Production.TheVariants.{First}
use Rattle.packing.specs.declared.Outcome.TheVariants.{Placed, Counted, Withdrawn, Switched, Settled, Refused}
use Rattle.packing.specs.declared.ItemReason.TheVariants.{SizeZero, AboveCapacity, StockSpent, NotShelved, RangeWrong, NotReserved, OutsideRange}
use Rattle.std.specs.Prelude.{◌<◌, ◌≡◌, ◌∷◌}
use Rattle.packing.specs.Prelude.{ℕ, Bool, true, false, not, List, [], map, length, take, drop, get_or, any}
use Rattle.packing.specs.Productions.{other}
use Rattle.packing.specs.Shelves.{is_switch, belonging}
use Rattle.packing.specs.Streams.{accepted, verdict}
use Rattle.packing.specs.Run.{answer_of, current, run, outcomes, steps, packing, row_at_exit}

-- "Two accepted streams differ only in commands of one production, replaced one for one, none of them 05": r is that production, q the one that the
-- first of the commands belongs to.
pub data Replaced (r : Production) : (q : Production) (cs ds : List Command) → Type 0 where
  none : {q : Production} → Replaced r q [] []
  same : {q : Production} (c : Command) {cs ds : List Command} → Replaced r (belonging q c) cs ds → Replaced r q (c ∷ cs) (c ∷ ds)
  replaced : (c d : Command) {cs ds : List Command} → is_switch c ≡ false → is_switch d ≡ false → Replaced r r cs ds → Replaced r r (c ∷ cs) (d ∷ ds)

abbrev pub is_spent : Outcome → Bool
is_spent (Placed bin free) = false
is_spent (Counted opened) = false
is_spent (Withdrawn bin free) = false
is_spent (Switched r) = false
is_spent (Settled bin free) = false
is_spent (Refused SizeZero) = false
is_spent (Refused AboveCapacity) = false
is_spent (Refused StockSpent) = true
is_spent (Refused NotShelved) = false
is_spent (Refused RangeWrong) = false
is_spent (Refused NotReserved) = false
is_spent (Refused OutsideRange) = false

-- "Neither stream has a refusal 10": this one has none.
abbrev pub none_spent : Opening → List Command → Bool
none_spent o cs = not (any (λ t. is_spent t.outcome) (run o cs))

-- Two lists of commands that differ in commands of r alone, and neither with a refusal 10.
pub record Differing (o : Opening) (r : Production) (cs ds : List Command) : Type 0 where
  pub differ : Replaced r First cs ds
  pub first_unspent : none_spent o cs ≡ true
  pub second_unspent : none_spent o ds ≡ true

-- "The other production's answers are equal": at every command of it the outcomes, and so the words of both rows; and its packing is the same.
pub record Independence (o : Opening) (r : Production) (cs ds : List Command) : Type 0 where
  pub same_answers : map answer_of (steps o (other r) cs) ≡ map answer_of (steps o (other r) ds)
  pub same_place : (j : ℕ) → current o (take j cs) ≡ other r → take 1 (drop j (outcomes o cs)) ≡ take 1 (drop j (outcomes o ds))
  pub same_packing : packing o (other r) cs ≡ packing o (other r) ds

-- So of two accepted streams with the same opening, in a row of what tells of outcomes.
abbrev pub IndependentStreams : (r : Production) (stream other-stream : List ℕ) (words other-words : ℕ) → Type 0
IndependentStreams r s s' words words' =
    (o : Opening) (cs ds : List Command) → verdict s words ≡ accepted o cs → verdict s' words' ≡ accepted o ds → Differing o r cs ds
    → (tells : Outcome → ℕ) (row row' : List ℕ) (j : ℕ) → j < length cs → current o (take j cs) ≡ other r
    → get_or (row_at_exit tells (verdict s words) row) j 0 ≡ get_or (row_at_exit tells (verdict s' words') row') j 0

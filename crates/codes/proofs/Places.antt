-- The place of a plan's refusal is at most one more than the most rows.
use mathlib.Core.Path.{◌≡◌, refl}
use mathlib.Core.Bool.{Bool, true, false}
use Rattle.std.specs.Prelude.{Option, None, Some}
use mathlib.Core.List.{List, [], ◌∷◌}
use Prim.Native.Nat.{ℕ, suc, ◌+◌, ◌≤◌, min}
use native.Mathlib.Omega.{arith}
use lib.Dec.{eqb}
use lib.ListN.{length}
use Rattle.packing.specs.declared.{Entry.Entry, PlanReason.PlanReason}
use Rattle.packing.specs.declared.PlanReason.TheVariants.{CapacityOutside, TooLong, OtherItems}
use Rattle.packing.specs.Prelude.{Ok, Err}
use Rattle.packing.specs.Refusing.{PlanResult, pass_if, ◌and_then◌}
use Rattle.packing.specs.Limits.{capacity_good, most_rows}
use Rattle.packing.specs.Plans.{lengths_good, limits, fault, entries, check}
use Rattle.worst_case.proofs.PlanFits.{none_above, passed_within}
use Rattle.codes.specs.Codes.{PlaceFits}

module _ (capacity k : ℕ) where
  entries_place : (before plan : List Entry) (sizes : List ℕ) → length before + length plan ≤ most_rows → PlaceFits (entries capacity k before plan sizes)
  unfolding entries
  entries_place before [] sizes h = tt
  entries_place before (e ∷ es) [] h = tt
  entries_place before (e ∷ es) (s ∷ ss) h = go (fault capacity k before e s) refl (entries_place (e ∷ before) es ss)
    where
      go : (f : Option PlanReason) → fault capacity k before e s ≡ f → (length (e ∷ before) + length es ≤ most_rows → PlaceFits (entries capacity k (e ∷ before) es ss))
          → PlaceFits (entries capacity k before (e ∷ es) (s ∷ ss))
      go (Some reason) q r = rw (q, entries) (omega arith)
      go None q r = rw (q, entries) (r (omega arith))

  limits_place : (rows items : ℕ) → PlaceFits (limits capacity k rows items)
  unfolding limits
  limits_place rows items = go (capacity_good capacity) (lengths_good (k ∷ rows ∷ items ∷ [])) (eqb rows items) refl
    where
      go : (a b d : Bool) → lengths_good (k ∷ rows ∷ items ∷ []) ≡ b
          → PlaceFits (pass_if a CapacityOutside 0 and_then pass_if b TooLong 0 and_then pass_if d OtherItems (suc (min rows items)))
      go false b d e = omega arith
      go true false d e = omega arith
      go true true false e = omega (arith, none_above capacity k rows items e)
      go true true true e = tt

  pub place_fits : (plan : List Entry) (sizes : List ℕ) → PlaceFits (check capacity k plan sizes)
  unfolding check
  place_fits plan sizes = go (limits capacity k (length plan) (length sizes)) refl (limits_place (length plan) (length sizes))
    where
      go : (l : PlanResult) → limits capacity k (length plan) (length sizes) ≡ l → PlaceFits l → PlaceFits (l and_then entries capacity k [] plan sizes)
      go (Ok passed) e f = entries_place [] plan sizes (omega (arith, (passed_within capacity k (length plan) (length sizes) e).rows_good))
      go (Err r) e f = f

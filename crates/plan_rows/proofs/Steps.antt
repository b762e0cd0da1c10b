-- What the step at one entry leaves, at a fault and at none: the loads at exit stand for one entry more only where it is sound.
use mathlib.Core.Path.{◌≡◌, refl, sym, ap, ◌∙◌}
use Rattle.std.specs.Prelude.{Some, None}
use mathlib.Core.List.{List, ◌∷◌}
use Prim.Native.Nat.{ℕ, ◌+◌, ◌≤◌, ◌<◌}
use native.Mathlib.Decide.{ℕ_discrete}
use native.Mathlib.Omega.{arith}
use borrow.Author.Tests.{eq-eqb, ne_eqb}
use lib.ListN.{length, get_or, set, length-set}
use lib.Seq.{get_or-set_same, get_or-set_other}
use Rattle.packing.proofs.Tests.{clash}
use Rattle.packing.specs.declared.{Entry.Entry, PlanReason.PlanReason}
use Rattle.packing.specs.Prelude.{total}
use Rattle.packing.specs.Refusing.{refuse, pass}
use Rattle.packing.specs.Limits.{most_rows}
use Rattle.packing.specs.Plans.{on_bin, fault}
use Rattle.plan_rows.specs.Loads.{LoadsKept, LoadsOf, finding, Checked}

-- An entry counts for its own bin and for no other.
on_own : (e : Entry) (before : List Entry) → on_bin e.bin (e ∷ before) ≡ e.size + on_bin e.bin before
unfolding total
on_own e before = simp (eq-eqb e.bin e.bin refl)

on_other : (n : ℕ) (e : Entry) (before : List Entry) → (e.bin ≡ n → ⊥) → on_bin n (e ∷ before) ≡ on_bin n before
unfolding total
on_other n e before h = simp (ne_eqb e.bin n h) (omega arith)

-- The load of the entry's bin with the entry.
pub summed : (loads : List ℕ) (e : Entry) → e.bin ≤ most_rows → (before : List Entry) → LoadsOf loads before
    → on_bin e.bin (e ∷ before) ≡ get_or loads e.bin 0 + e.size
summed loads e low before r = omega (arith, on_own e before, r e.bin low)

module _ (capacity k : ℕ) (loads : List ℕ) (e : Entry) (item i : ℕ) (kept : LoadsKept capacity k loads) where
  pub faulty : (reason : PlanReason) → ((before : List Entry) → LoadsOf loads before → fault capacity k before e item ≡ Some reason)
      → Checked capacity k loads e item i (refuse reason (i + 1)) loads
  faulty reason f = record {
    kept = kept;
    answered = λ before r. sym (ap (finding i) (f before r));
    added = λ q. clash (cc);
    refused = λ other place q. refl;
  }

  module _ (low : e.bin ≤ most_rows) (fits : get_or loads e.bin 0 + e.size ≤ capacity) where
    abbrev sum : ℕ
    sum = get_or loads e.bin 0 + e.size

    abbrev exit : List ℕ
    exit = set loads e.bin sum

    inside : e.bin < length loads
    inside = omega (arith, kept.places, low)

    none_over : (n : ℕ) → get_or exit n 0 ≤ capacity
    none_over n = elim (ℕ_discrete n e.bin) [
      | yes q ↦ rw (q, get_or-set_same loads e.bin sum 0 inside) fits
      | no q ↦ rw (get_or-set_other loads e.bin n sum 0 q) (kept.not_overfull n)
    ]

    stands : (before : List Entry) → LoadsOf loads before → LoadsOf exit (e ∷ before)
    stands before r n l = elim (ℕ_discrete n e.bin) [
      | yes q ↦ ap (λ (m : ℕ). get_or exit m 0) q ∙ get_or-set_same loads e.bin sum 0 inside ∙ sym (summed loads e low before r) ∙ ap (λ (m : ℕ). on_bin m (e ∷ before)) (sym q)
      | no q ↦ get_or-set_other loads e.bin n sum 0 q ∙ r n l ∙ sym (on_other n e before (λ p. q (sym p)))
    ]

    pub sound : ((before : List Entry) → LoadsOf loads before → fault capacity k before e item ≡ None)
        → Checked capacity k loads e item i pass exit
    sound f = record {
      kept = record {
        capacity_most = kept.capacity_most;
        k_most = kept.k_most;
        places = length-set loads e.bin sum ∙ kept.places;
        not_overfull = none_over;
      };
      answered = λ before r. sym (ap (finding i) (f before r));
      added = λ q. stands;
      refused = λ reason place q. clash (cc);
    }

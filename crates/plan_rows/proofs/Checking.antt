-- The walk over the entries: what is still to come of them, with those that the loads stand for before it, is what the whole check comes to. Of any plan:
-- the core walks two rows, and the checker over entries the entries.
use mathlib.Core.Path.{◌≡◌, refl, ap, ◌∙◌}
use Rattle.std.specs.Prelude.{Option, Some, None}
use mathlib.Core.List.{List, [], ◌∷◌, zip_with}
use Prim.Native.Nat.{ℕ, zero, suc, min, ◌+◌, ◌≤◌, ◌<◌}
use native.Mathlib.Numerals.{add-one}
use native.Mathlib.Omega.{arith}
use lib.ListN.{length, get_or, drop, drop_of_length-le, replicate, length-replicate}
use lib.Seq.{drop-cons}
use Rattle.packing.specs.declared.{Entry.Entry, PlanReason.PlanReason, Refusal.Refusal}
use Rattle.packing.specs.Prelude.{total, Err}
use Rattle.packing.specs.Refusing.{pass}
use Rattle.packing.specs.Limits.{most_capacity, most_rows}
use Rattle.packing.specs.Plans.{plan_of, limits, fault, entries, check}
use Rattle.packing.proofs.Limits.{within_limits}
use Rattle.packing.proofs.Tests.{clash}
use Rattle.worst_case.proofs.PlanFits.{passed_within}
use Rattle.plan_rows.specs.Loads.{LoadsKept, LoadsOf, finding, Checked}

abbrev pub blank : Entry
blank = record { size = 0; bin = 0 }

-- The entries before place i + 1, where nothing has been refused.
pub record Checking (capacity k : ℕ) (plan : List Entry) (items loads : List ℕ) (i : ℕ) : Type 0 where
  pub before : List Entry
  pub limited : limits capacity k (length plan) (length items) ≡ pass
  pub kept : LoadsKept capacity k loads
  pub stands : LoadsOf loads before
  pub places : length before ≡ i
  pub to_come : entries capacity k before (drop i plan) (drop i items) ≡ check capacity k plan items

zeros : (n i : ℕ) → ◌≡◌ {A = ℕ} (get_or (replicate n 0) i 0) 0
zeros zero i = refl
zeros (suc n) zero = refl
zeros (suc n) (suc i) = zeros n i

module _ (capacity k : ℕ) (plan : List Entry) (items : List ℕ) where
  -- what the limits refuse
  pub limits_refused : (r : Refusal PlanReason) → Err r ≡ limits capacity k (length plan) (length items) → Err r ≡ check capacity k plan items
  unfolding check
  limits_refused r e = rw (← e)

  pub checking_start : limits capacity k (length plan) (length items) ≡ pass → Checking capacity k plan items (replicate (most_rows + 1) 0) 0
  unfolding total check
  checking_start passed =
      let w = passed_within capacity k (length plan) (length items) passed in
      record {
        before = [];
        limited = passed;
        kept = record {
          capacity_most = (within_limits 1 most_capacity capacity w.capacity_is_good).1;
          k_most = w.k_good;
          places = length-replicate {A = ℕ} (most_rows + 1) 0;
          not_overfull = λ j. omega (arith, zeros (most_rows + 1) j);
        };
        stands = λ j l. zeros (most_rows + 1) j;
        places = refl;
        to_come = rw passed refl;
      }

  module _ (loads : List ℕ) (i : ℕ) (g : Checking capacity k plan items loads i) where
    pub one_length : length plan ≡ length items
    one_length = (passed_within capacity k (length plan) (length items) g.limited).one_length

    module _ (h : i < length items) (e : Entry) (here : get_or plan i blank ≡ e) where
      -- the first of the entries to come
      now_here : entries capacity k g.before (e ∷ drop (suc i) plan) (get_or items i 0 ∷ drop (suc i) items) ≡ check capacity k plan items
      now_here = rw (drop-cons plan i blank (omega (arith, one_length)), here, drop-cons items i 0 h) at g.to_come

      abbrev fault_here : Option PlanReason
      fault_here = fault capacity k g.before e (get_or items i 0)

      pub checking_next : (exit : List ℕ) → Checked capacity k loads e (get_or items i 0) i pass exit → Checking capacity k plan items exit (i + 1)
      unfolding entries
      checking_next exit d = go fault_here refl (d.answered g.before g.stands)
        where
          go : (f : Option PlanReason) → fault capacity k g.before e (get_or items i 0) ≡ f → pass ≡ finding i f → Checking capacity k plan items exit (i + 1)
          go None p q = record {
            before = e ∷ g.before;
            limited = g.limited;
            kept = d.kept;
            stands = d.added refl g.before g.stands;
            places = rw add-one (ap suc g.places);
            to_come = rw add-one (rw (p, entries) at now_here);
          }
          go (Some reason) p q = clash (cc)

      pub checking_refused : (r : Refusal PlanReason) (exit : List ℕ) → Checked capacity k loads e (get_or items i 0) i (Err r) exit
          → Err r ≡ check capacity k plan items
      unfolding entries
      checking_refused r exit d = go fault_here refl (d.answered g.before g.stands)
        where
          go : (f : Option PlanReason) → fault capacity k g.before e (get_or items i 0) ≡ f → Err r ≡ finding i f → Err r ≡ check capacity k plan items
          go None p q = clash (cc)
          go (Some reason) p q = q ∙ (rw (p, entries, g.places, ← add-one) at now_here)

    pub checking_passed : length items ≤ i → pass ≡ check capacity k plan items
    unfolding entries
    checking_passed h = rw (drop_of_length-le plan {i = i} (omega (arith, one_length))) at g.to_come

-- The plan of two rows, place by place.
pub plan_length : (sizes bins : List ℕ) → length (plan_of sizes bins) ≡ min (length sizes) (length bins)
unfolding zip_with
plan_length [] bins = omega arith
plan_length (s ∷ ss) [] = omega arith
plan_length (s ∷ ss) (b ∷ bs) = omega (arith, plan_length ss bs)

abbrev pub entry_at : (sizes bins : List ℕ) (i : ℕ) → Entry
entry_at sizes bins i = record { size = get_or sizes i 0; bin = get_or bins i 0 }

pub plan_at : (sizes bins : List ℕ) (i : ℕ) → i < length sizes → i < length bins → get_or (plan_of sizes bins) i blank ≡ entry_at sizes bins i
unfolding zip_with
plan_at [] bins i h g = absurd (omega arith)
plan_at (s ∷ ss) [] i h g = absurd (omega arith)
plan_at (s ∷ ss) (b ∷ bs) zero h g = refl
plan_at (s ∷ ss) (b ∷ bs) (suc i) h g = plan_at ss bs i (omega arith) (omega arith)

-- The walk over two rows.
module _ (capacity k : ℕ) (sizes bins items : List ℕ) where
  pub rows_refused : (r : Refusal PlanReason) → Err r ≡ limits capacity k (min (length sizes) (length bins)) (length items)
      → Err r ≡ check capacity k (plan_of sizes bins) items
  rows_refused r e = limits_refused capacity k (plan_of sizes bins) items r (rw (plan_length sizes bins) e)

  pub rows_start : limits capacity k (min (length sizes) (length bins)) (length items) ≡ pass
      → Checking capacity k (plan_of sizes bins) items (replicate (most_rows + 1) 0) 0
  rows_start passed = checking_start capacity k (plan_of sizes bins) items (rw (plan_length sizes bins) passed)

  module _ (loads : List ℕ) (i : ℕ) (g : Checking capacity k (plan_of sizes bins) items loads i) (h : i < length items) where
    pub rows_inside : (i < length sizes) × (i < length bins)
    rows_inside =
        let same = one_length capacity k (plan_of sizes bins) items loads i g in
        (omega (arith, same, plan_length sizes bins), omega (arith, same, plan_length sizes bins))

    pub rows_at : get_or (plan_of sizes bins) i blank ≡ entry_at sizes bins i
    rows_at = plan_at sizes bins i rows_inside.0 rows_inside.1

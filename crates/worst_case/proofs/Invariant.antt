-- What every packing has that Refined First-Fit made, class by class. The empty packing has it, placing an item keeps it, and so every
-- trace reaches it in which nothing is taken out and nothing is settled.
use Prim.Native.Nat.{ℕ, suc, ◌+◌, ◌%◌, ◌≤◌, ◌<◌}
use mathlib.Core.Path.{◌≡◌, refl, subst}
use mathlib.Core.Bool.{Bool, true, false, true≢false}
use mathlib.Core.List.Memᴰ
use mathlib.Core.List.{List, []}
use native.Mathlib.Omega.{arith}
use borrow.Author.Tests.{eqb-true, eqb-false}
use lib.Dec.{eqb}
use Rattle.packing.specs.declared.{Opening.Opening, SizeClass.SizeClass, Command.Command}
use Rattle.packing.specs.declared.SizeClass.TheVariants.{A, B1, B2, X}
use Rattle.std.specs.Prelude.{if◌then◌else◌}
use Rattle.packing.specs.Prelude.{any}
use Rattle.packing.specs.SizeClasses.{count_b2}
use Rattle.packing.specs.Bins.{Item, Bin, Packing, empty, kind}
use Rattle.packing.specs.Placing.{Target, to_class, beside_a, class_of, target_of, placed}
use Rattle.packing.specs.Sending.{item_of}
use Rattle.packing.specs.Run.{Step}
use Rattle.packing.specs.Compared.{is_altered}
use Rattle.packing.specs.Claims.{Bounds}
use Rattle.packing.proofs.Tests.{each_cons}
use Rattle.packing.proofs.SizeClasses.{class_bounds}
use Rattle.packing.proofs.Putting.{fresh, put_each}
use Rattle.packing.proofs.Moves.{places, withdraws, settles, counts, switches, refuses, Trace, ends, moves}
use Rattle.worst_case.proofs.Lists.{weighs}
use Rattle.worst_case.proofs.ByBounds.{b2}
use Rattle.worst_case.proofs.OneKind.{OneKind, one_kind_kept}
use Rattle.worst_case.proofs.ClassOne.{ClassOne, kept_by_a, kept_by_b2}
use Rattle.worst_case.proofs.EveryMth.{Turn, turn, no_turn}
use Rattle.worst_case.proofs.InClass.{in_class}
use Rattle.worst_case.proofs.FourClasses.{Class, one, two, three, four, Classed}
use Rattle.worst_case.proofs.Targets.{WholeBin, Whole, fits, placed_at, to_class_lem, to_beside, elsewhere, class_weight}

-- The size class of the items in class 2, 3 or 4.
abbrev pub kind_in : (κ : ℕ) → SizeClass
kind_in κ = if eqb κ 2 then B1 else if eqb κ 3 then B2 else X

-- n is the number of B2 items placed: q of them in class 1, the others in class 3. Each item has the size that it was shelved by, so that the argument goes
-- by sizes alone.
pub record Inv (c m : ℕ) (bins : List Bin) (n : ℕ) : Type 0 where
  pub classed : Classed bins
  pub whole : Whole bins
  pub class_one : ClassOne c (in_class 1 bins)
  pub class_own : (κ : ℕ) → 1 < κ → OneKind c (kind_in κ) (in_class κ bins)
  pub turns : Turn m (weighs (b2 c) (in_class 1 bins)) (weighs (b2 c) (in_class 3 bins)) n

inv_empty : (c m : ℕ) → 1 ≤ m → Inv c m [] 0
unfolding in_class
inv_empty c m h =
    record {
      classed = λ b m. absurd (Memᴰ.not-nil m);
      whole = λ b m. absurd (Memᴰ.not-nil m);
      class_one = record { bins = tt; apart = tt };
      class_own = λ κ l. record { filled = tt; kinds = tt; first = tt; not_overfull = tt };
      turns = omega arith;
    }

module _ (o : Opening) (i : Item) (as_shelved : i.size ≡ i.greatest) (bins : List Bin) (n : ℕ) (r : Inv o.capacity o.m bins n) where
  abbrev c : ℕ
  c = o.capacity

  abbrev s : ℕ
  s = i.size

  abbrev q : ℕ
  q = weighs (b2 c) (in_class 1 bins)

  abbrev d : ℕ
  d = weighs (b2 c) (in_class 3 bins)

  -- With an item of size class k at the target t.
  abbrev Kept : Target → SizeClass → Type 0
  Kept t k = Inv c o.m (placed_at o i t bins) (n + count_b2 k)

  classed_kept : (t : Target) → Class (class_of t) → Classed (placed_at o i t bins)
  classed_kept t k = put_each (fits o i t) (fresh (class_of t)) i (λ b. Class b.class) (λ b e h. h) k bins r.classed

  whole_kept : (t : Target) → Whole (placed_at o i t bins)
  whole_kept t =
      put_each (fits o i t) (fresh (class_of t)) i WholeBin (λ b e. each_cons (λ j. j.size ≡ j.greatest) as_shelved)
      (each_cons (λ j. j.size ≡ j.greatest) as_shelved (λ j m. absurd (Memᴰ.not-nil m))) bins r.whole

  -- To class 1 goes an A, or an m-th B2: the other classes stay.
  to_one : (t : Target) (k : SizeClass) → class_of t ≡ 1 → ClassOne c (in_class 1 (placed_at o i t bins)) → Turn o.m (q + b2 c s) d (n + count_b2 k) → Kept t k
  to_one t k e one_kept turned =
      record {
        classed = classed_kept t (rw e one);
        whole = whole_kept t;
        class_one = one_kept;
        class_own = λ κ l. rw (elsewhere o i t κ (λ e'. omega arith) bins) (r.class_own κ l);
        turns = rw (class_weight o i (b2 c) t 1 bins r.whole, elsewhere o i t 3 (λ e'. omega arith) bins, e) turned;
      }

  -- To class 2, 3 or 4 go items of its one size class: class 1 and the others of these stay.
  own_kept : (κ : ℕ) → 1 < κ → Bounds c s (kind_in κ) → s ≤ c → (κ' : ℕ) → 1 < κ' → OneKind c (kind_in κ') (in_class κ' (placed_at o i (to_class κ) bins))
  own_kept κ l h few κ' l' = go (eqb κ κ') refl
    where
      go : (t : Bool) → eqb κ κ' ≡ t → OneKind c (kind_in κ') (in_class κ' (placed_at o i (to_class κ) bins))
      go true e =
          subst (λ n. OneKind c (kind_in n) (in_class n (placed_at o i (to_class κ) bins))) (eqb-true κ κ' e)
          (one_kind_kept c s (kind_in κ) h few (to_class_lem o i κ bins) (r.class_own κ l))
      go false e = rw (elsewhere o i (to_class κ) κ' (eqb-false κ κ' e) bins) (r.class_own κ' l')

  to_own : (κ : ℕ) (k : SizeClass) → Class κ → 1 < κ → Bounds c s (kind_in κ) → s ≤ c → Turn o.m q (d + (if eqb κ 3 then b2 c s else 0)) (n + count_b2 k)
      → Kept (to_class κ) k
  to_own κ k class l h few turned =
      record {
        classed = classed_kept (to_class κ) class;
        whole = whole_kept (to_class κ);
        class_one = rw (elsewhere o i (to_class κ) 1 (λ e. omega arith) bins) r.class_one;
        class_own = own_kept κ l h few;
        turns = rw (elsewhere o i (to_class κ) 1 (λ e. omega arith) bins, class_weight o i (b2 c) (to_class κ) 3 bins r.whole) turned;
      }

  -- The table of targets.
  kept : 1 ≤ o.m → (k : SizeClass) → b2 c s ≡ count_b2 k → Bounds c s k → Kept (target_of o n k) k
  kept p A e h = to_one (to_class 1) A refl (kept_by_a c s h (to_class_lem o i 1 bins) r.class_one) (rw e (omega (arith, r.turns)))
  kept p B1 e h = to_own 2 B1 two (omega arith) h (omega arith) (omega (arith, r.turns))
  kept p B2 e h = go (eqb (suc n % o.m) 0) refl
    where
      go : (t : Bool) → eqb (suc n % o.m) 0 ≡ t → Kept (if t then beside_a else to_class 3) B2
      go true u =
          to_one beside_a B2 refl (kept_by_b2 c s h (to_beside o i bins r.whole) r.class_one)
          (rw e (turn o.m q d n r.turns p (eqb-true (suc n % o.m) 0 u)))
      go false u = to_own 3 B2 three (omega arith) h (omega arith) (rw e (no_turn o.m q d n r.turns p (eqb-false (suc n % o.m) 0 u)))
  kept p X e h = to_own 4 X four (omega arith) h (omega arith) (omega (arith, r.turns))

module _ (o : Opening) (some : 1 ≤ o.m) where
  abbrev InvOf : Packing → Type 0
  InvOf p = Inv o.capacity o.m p.bins p.b2s

  placed_kept : (p : Packing) (n : ℕ) (c : Command) → InvOf p → InvOf (placed o p (item_of o n c))
  unfolding placed
  placed_kept p n c r = let i = item_of o n c in kept o i refl p.bins p.b2s r some (kind o i) refl (class_bounds o.capacity i.size)

  -- An item that is taken out, or settled, would leave a bin that first fit did not fill: so no step does that.
  trace_kept : {n end : ℕ} {p q : Packing} {ts : List Step} → Trace o n p ts end q → any (λ t. is_altered t.outcome) ts ≡ false → InvOf p → InvOf q
  unfolding any
  trace_kept (ends l) e h = h
  trace_kept (moves {k = k} {p = p} l few (places {c = c} a) r) e h = trace_kept r e (placed_kept p k c h)
  trace_kept (moves l few (withdraws x) r) e h = absurd (true≢false e)
  trace_kept (moves l few (settles x) r) e h = absurd (true≢false e)
  trace_kept (moves l few counts r) e h = trace_kept r e h
  trace_kept (moves l few switches r) e h = trace_kept r e h
  trace_kept (moves l few (refuses z) r) e h = trace_kept r e h

  pub trace_invariant : {n end : ℕ} {q : Packing} {ts : List Step} → Trace o n empty ts end q → any (λ t. is_altered t.outcome) ts ≡ false
      → Inv o.capacity o.m q.bins q.b2s
  trace_invariant r e = trace_kept r e (inv_empty o.capacity o.m some)

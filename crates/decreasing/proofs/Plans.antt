-- The plan of a row of sizes and a row of bin numbers: a number that stands in it is one with a load.
use Prim.Native.Nat.{ℕ, ◌≤◌}
use mathlib.Core.Path.{◌≡◌, refl, sym}
use mathlib.Core.Bool.{Bool, true, false}
use mathlib.Core.List.Memᴰ
use mathlib.Core.List.{List, [], ◌∷◌, map, zip_with, Memᴰ}
use native.Mathlib.Omega.{arith}
use borrow.Author.Tests.{eqb-true, eq-eqb}
use lib.Dec.{eqb}
use lib.ListN.{length}
use Rattle.packing.specs.declared.{Entry.Entry}
use Rattle.packing.specs.Prelude.{total}
use Rattle.packing.specs.Plans.{plan_of, on_bin}
use Rattle.packing.proofs.Tests.{each_cons}

pub plan_sizes : (sizes bins : List ℕ) → length bins ≡ length sizes → map (λ e. e.size) (plan_of sizes bins) ≡ sizes
unfolding zip_with
plan_sizes [] bins h = refl
plan_sizes (s ∷ ss) [] h = absurd (omega arith)
plan_sizes (s ∷ ss) (n ∷ ns) h = rw (plan_sizes ss ns (omega arith))

pub plan_members : (sizes bins : List ℕ) (e : Entry) → Memᴰ e (plan_of sizes bins) → Memᴰ e.size sizes × Memᴰ e.bin bins
unfolding zip_with
plan_members [] bins e m = absurd (Memᴰ.not-nil m)
plan_members (s ∷ ss) [] e m = absurd (Memᴰ.not-nil m)
plan_members (s ∷ ss) (n ∷ ns) e m =
    each_cons (λ e. Memᴰ e.size (s ∷ ss) × Memᴰ e.bin (n ∷ ns)) (Memᴰ.head refl, Memᴰ.head refl)
    (λ x r. let both = plan_members ss ns x r in (Memᴰ.tail both.0, Memᴰ.tail both.1)) e m

-- A number stands among the bins if the plan puts something on it, and only then.
pub on_bin_named : (n : ℕ) (sizes bins : List ℕ) → 1 ≤ on_bin n (plan_of sizes bins) → Memᴰ n bins
unfolding zip_with total
on_bin_named n [] bins h = absurd (omega arith)
on_bin_named n (s ∷ ss) [] h = absurd (omega arith)
on_bin_named n (s ∷ ss) (b ∷ bs) h = go (eqb b n) refl (on_bin_named n ss bs)
  where
    go : (t : Bool) → eqb b n ≡ t → (1 ≤ on_bin n (plan_of ss bs) → Memᴰ n bs) → Memᴰ n (b ∷ bs)
    go true e r = Memᴰ.head (sym (eqb-true b n e))
    go false e r = let rest = rw e at h in Memᴰ.tail (r (omega arith))

pub named_on_bin : (sizes bins : List ℕ) → length bins ≡ length sizes → ((s : ℕ) → Memᴰ s sizes → 1 ≤ s)
    → (n : ℕ) → Memᴰ n bins → 1 ≤ on_bin n (plan_of sizes bins)
unfolding zip_with total
named_on_bin [] [] l h n m = absurd (Memᴰ.not-nil m)
named_on_bin [] (b ∷ bs) l h n m = absurd (omega arith)
named_on_bin (s ∷ ss) [] l h n m = absurd (omega arith)
named_on_bin (s ∷ ss) (b ∷ bs) l h n m =
    each_cons (λ n. 1 ≤ on_bin n (plan_of (s ∷ ss) (b ∷ bs))) (rw (eq-eqb b b refl) (omega (arith, h s (Memᴰ.head refl))))
    (λ x r. omega (arith, named_on_bin ss bs (omega arith) (λ x m. h x (Memᴰ.tail m)) x r)) n m

-- Two tests of the items beside the halves, of the run and of the plan, for each number of bins that they open; both are computed over all that are needed.
use Prim.Native.Nat.{ℕ, zero, suc, ◌+◌, ◌*◌, ◌≤◌, max}
use mathlib.Core.Path.{◌≡◌, refl}
use mathlib.Core.Bool.{Bool, true, ◌&&◌}
use mathlib.Core.List.{List, flatten}
use native.Mathlib.Omega.{arith}
use native.Mathlib.Decide.{dec_le}
use borrow.Author.Tests.{leb-true}
use lib.Dec.{leb}
use lib.ListN.{length}
use Rattle.packing.specs.SizeClasses.{size_class}
use Rattle.packing.proofs.Tests.{both_true}
use Rattle.worst_lists.specs.Lists.{capacity, half, distance, near, front}
use Rattle.worst_lists.proofs.Onward.{Standing, onward}
use Rattle.worst_lists.proofs.Planned.{above_quarter, below_quarter, paired}

-- Halves stand, each in a bin of its own, and so many bins are yet to be opened.
abbrev pub standing : (class load yet : ℕ) → Standing
standing class load yet =
    record { least1 = half; least2 = suc capacity; least3 = suc capacity; least4 = suc capacity; class = class; load = load; b2s = 0; yet = yet }

-- The items go on as foretold, and open so many bins.
goes : (bins : ℕ) → Bool
goes bins = onward capacity (standing 1 half bins) (front bins)

-- On either side of a quarter are no more of them than halves, and each pair goes in beside a half.
abbrev few_enough : (bins : ℕ) → List ℕ → Bool
few_enough bins ss = leb (2 * length ss + 4) (max 6 (3 * bins))

fits : (bins : ℕ) → Bool
fits bins =
    let ss = front bins in
    paired (below_quarter ss) (above_quarter ss) && (few_enough bins (below_quarter ss) && few_enough bins (above_quarter ss))

pub record Passes (bins : ℕ) : Type 0 where
  pub goes_on : onward capacity (standing 1 half bins) (front bins) ≡ true
  pub pairs : paired (below_quarter (front bins)) (above_quarter (front bins)) ≡ true
  pub few_below : 2 * length (below_quarter (front bins)) + 4 ≤ max 6 (3 * bins)
  pub few_above : 2 * length (above_quarter (front bins)) + 4 ≤ max 6 (3 * bins)

-- From 0 up: where a test fails, it is found at the shortest list.
up_to : (ℕ → Bool) → ℕ → Bool
up_to test zero = test zero
up_to test (suc n) = up_to test n && test (suc n)

up_to_each : (test : ℕ → Bool) (n : ℕ) → up_to test n ≡ true → (i : ℕ) → i ≤ n → test i ≡ true
unfolding up_to
up_to_each test zero h i l = let e : i ≡ 0 = omega arith in rw e h
up_to_each test (suc n) h i l =
    let both = both_true (up_to test n) (test (suc n)) h in
    elim (dec_le i n) [
      | yes q ↦ up_to_each test n both.0 i q
      | no q ↦ (let e : i ≡ suc n = omega arith in rw e both.1)
    ]

-- Never more than 205 bins are opened besides those of the halves.
all_go : up_to goes 205 ≡ true
unfolding up_to goes onward size_class distance near flatten
all_go = refl

all_fit : up_to fits 205 ≡ true
unfolding up_to fits paired above_quarter below_quarter distance near flatten
all_fit = refl

pub table : (bins : ℕ) → bins ≤ 205 → Passes bins
unfolding goes fits
table bins few =
    let ss = front bins in
    let b = both_true (paired (below_quarter ss) (above_quarter ss)) _ (up_to_each fits 205 all_fit bins few) in
    let c = both_true (few_enough bins (below_quarter ss)) (few_enough bins (above_quarter ss)) b.1 in
    record {
      goes_on = up_to_each goes 205 all_go bins few;
      pairs = b.0;
      few_below = leb-true (2 * length (below_quarter ss) + 4) (max 6 (3 * bins)) c.0;
      few_above = leb-true (2 * length (above_quarter ss) + 4) (max 6 (3 * bins)) c.1;
    }

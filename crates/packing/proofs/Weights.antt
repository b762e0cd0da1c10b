-- Sums of a weight over items: over those that pass a test, over the items of all bins, and what placing an item and taking one out do to them.
use Prim.Native.Nat.{ℕ, zero, suc, ◌+◌, ◌≤◌}
use mathlib.Core.Path.{◌≡◌, refl}
use mathlib.Core.Bool.{Bool, true, false, not, ◌||◌}
use mathlib.Core.List.{List, [], ◌∷◌, ◌++◌, map}
use native.Mathlib.Omega.{arith}
use borrow.Author.Tests.{lt-ltb}
use lib.Dec.{ltb}
use lib.ListN.{length}
use Rattle.std.specs.Prelude.{if◌then◌else◌}
use Rattle.packing.specs.Prelude.{total, any, keep}
use Rattle.packing.specs.Bins.{Item, Bin, add}
use Rattle.packing.specs.Placing.{put}
use Rattle.packing.specs.Withdrawing.{is_named, emptied_of}
use Rattle.packing.proofs.Putting.{fresh}

module _ {A : Type 0} (w : A → ℕ) where
  pub total_append : (l r : List A) → total (map w (l ++ r)) ≡ total (map w l) + total (map w r)
  unfolding total
  total_append [] r = omega arith
  total_append (a ∷ l) r = omega (arith, total_append l r)

  -- Over those that pass a test, and those that do not.
  pub total_split : (test : A → Bool) (l : List A) → total (map w l) ≡ total (map w (keep test l)) + total (map w (keep (λ a. not (test a)) l))
  unfolding total keep
  total_split test [] = refl
  total_split test (a ∷ l) = go (test a) (total_split test l)
    where
      go : (t : Bool) → total (map w l) ≡ total (map w (keep test l)) + total (map w (keep (λ a. not (test a)) l))
          → w a + total (map w l)
          ≡ total (map w (if t then a ∷ keep test l else keep test l))
          + total (map w (if not t then a ∷ keep (λ a. not (test a)) l else keep (λ a. not (test a)) l))
      go true r = omega arith
      go false r = omega arith

  -- Those that do not pass weigh what all weigh, if the others weigh nothing.
  pub total_others : (test : A → Bool) (l : List A) → total (map w (keep (λ a. not (test a)) l)) ≡ total (map (λ a. if test a then 0 else w a) l)
  unfolding total keep
  total_others test [] = refl
  total_others test (a ∷ l) = go (test a) (total_others test l)
    where
      go : (t : Bool) → total (map w (keep (λ a. not (test a)) l)) ≡ total (map (λ a. if test a then 0 else w a) l)
          → total (map w (if not t then a ∷ keep (λ a. not (test a)) l else keep (λ a. not (test a)) l))
          ≡ (if t then 0 else w a) + total (map (λ a. if test a then 0 else w a) l)
      go true r = omega arith
      go false r = omega arith

module _ {A : Type 0} where
  -- Each weighs 1.
  pub total_ones : (l : List A) → total (map (λ a. 1) l) ≡ length l
  unfolding total
  total_ones [] = refl
  total_ones (a ∷ l) = omega (arith, total_ones l)

  -- 1 for each that passes.
  abbrev pub one_for : (A → Bool) → A → ℕ
  one_for test a = if test a then 1 else 0

  pub total_passing : (test : A → Bool) (l : List A) → length (keep test l) ≡ total (map (one_for test) l)
  unfolding total keep
  total_passing test [] = refl
  total_passing test (a ∷ l) = go (test a) (total_passing test l)
    where
      go : (t : Bool) → length (keep test l) ≡ total (map (one_for test) l)
          → length (if t then a ∷ keep test l else keep test l) ≡ (if t then 1 else 0) + total (map (one_for test) l)
      go true r = omega arith
      go false r = omega arith

  -- Some pass exactly where these weigh something.
  pub any_weighs : (test : A → Bool) (l : List A) → any test l ≡ ltb 0 (total (map (one_for test) l))
  unfolding total any
  any_weighs test [] = refl
  any_weighs test (a ∷ l) = go (test a) (any_weighs test l)
    where
      go : (t : Bool) → any test l ≡ ltb 0 (total (map (one_for test) l)) → (t || any test l) ≡ ltb 0 ((if t then 1 else 0) + total (map (one_for test) l))
      go true r = rw (lt-ltb 0 (1 + total (map (one_for test) l)) (omega arith))
      go false r = let same : 0 + total (map (one_for test) l) ≡ total (map (one_for test) l) = omega arith in rw same r

  pub keep_few : (test : A → Bool) (l : List A) → length (keep test l) ≤ length l
  keep_few test l = omega (arith, ones_split)
    where
      ones_split : length l ≡ length (keep test l) + length (keep (λ a. not (test a)) l)
      ones_split =
          omega (arith, total_ones l, total_ones (keep test l), total_ones (keep (λ a. not (test a)) l), total_split (λ a. 1) test l)

-- The sum over the items of a bin, and over all bins. The weight that is the size gives the loads.
abbrev pub bin_weight : (Item → ℕ) → Bin → ℕ
bin_weight w b = total (map w b.items)

abbrev pub weight_of : (Item → ℕ) → List Bin → ℕ
weight_of w bins = total (map (bin_weight w) bins)

-- Where each item weighs 1, the bins weigh as many as they hold.
pub weight_ones : (bins : List Bin) → weight_of (λ i. 1) bins ≡ total (map (λ b. length b.items) bins)
unfolding total
weight_ones [] = refl
weight_ones (b ∷ bs) = omega (arith, total_ones b.items, weight_ones bs)

-- Every weight grows by the item's.
pub put_weight : (w : Item → ℕ) (takes : Bin → Bool) (class : ℕ) (i : Item) (bins : List Bin)
    → weight_of w (put takes (fresh class) i bins) ≡ weight_of w bins + w i
unfolding put total
put_weight w takes class i [] = omega arith
put_weight w takes class i (b ∷ bs) = go (takes b) (put_weight w takes class i bs)
  where
    go : (t : Bool) → weight_of w (put takes (fresh class) i bs) ≡ weight_of w bs + w i
        → weight_of w (if t then add i b ∷ bs else b ∷ put takes (fresh class) i bs) ≡ weight_of w (b ∷ bs) + w i
    go true r = omega arith
    go false r = omega arith

-- Without the items of a number the others weigh what they did.
pub out_weight : (w : Item → ℕ) (named : ℕ) (bins : List Bin) → weight_of w (map (emptied_of named) bins) ≡ weight_of (λ i. if is_named named i then 0 else w i) bins
unfolding total
out_weight w named [] = refl
out_weight w named (b ∷ bs) = omega (arith, total_others w (is_named named) b.items, out_weight w named bs)

-- A bin with items that pass weighs something, and so do the bins.
pub any_bin_weighs : (test : Item → Bool) (bins : List Bin) → any (λ b. any test b.items) bins ≡ ltb 0 (weight_of (one_for test) bins)
unfolding total any
any_bin_weighs test [] = refl
any_bin_weighs test (b ∷ bs) = rw (any_weighs test b.items) (go (total (map (one_for test) b.items)) (any_bin_weighs test bs))
  where
    go : (n : ℕ) → any (λ b. any test b.items) bs ≡ ltb 0 (weight_of (one_for test) bs)
        → (ltb 0 n || any (λ b. any test b.items) bs) ≡ ltb 0 (n + weight_of (one_for test) bs)
    go zero r = let same : 0 + weight_of (one_for test) bs ≡ weight_of (one_for test) bs = omega arith in rw same r
    go (suc n) r = rw (lt-ltb 0 (suc n) (omega arith), lt-ltb 0 (suc n + weight_of (one_for test) bs) (omega arith))

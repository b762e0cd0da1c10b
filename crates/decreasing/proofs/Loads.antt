-- The load of the bin with a given number: what an item adds to it, and which numbers have a load.
use Prim.Native.Nat.{ℕ, zero, suc, ◌+◌, ◌≤◌}
use mathlib.Core.Path.{◌≡◌, refl}
use mathlib.Core.Bool.{Bool, true, false}
use mathlib.Core.List.{List, [], ◌∷◌, map}
use native.Mathlib.Omega.{arith}
use lib.Dec.{eqb, eqb-zero-suc, eqb-suc-zero, eqb-suc-suc}
use lib.ListN.{length, get_or}
use Rattle.std.specs.Prelude.{if◌then◌else◌}
use Rattle.packing.specs.Bins.{Item, Bin, Packing, add}
use Rattle.packing.specs.Placing.{first_fit, put}
use Rattle.packing.proofs.Putting.{fresh}
use Rattle.worst_case.proofs.Lists.{All, sum}
use Rattle.worst_case.proofs.InClass.{sizes}
use Rattle.decreasing.specs.Repack.{has_space, bin_for, next}
use Rattle.decreasing.proofs.Lists.{Within}
use Rattle.decreasing.proofs.Filling.{lists}

-- The load of the bin with so many before it, 0 if there is none; and of bin n, as bins are numbered from 1.
abbrev load_at : (before : ℕ) → List (List ℕ) → ℕ
load_at before L = sum (get_or L before [])

abbrev pub load_of : (n : ℕ) → List (List ℕ) → ℕ
load_of zero L = 0
load_of (suc before) L = load_at before L

pub none_load : (n : ℕ) → load_of n [] ≡ 0
none_load zero = refl
none_load (suc n) = refl

-- What an item adds to bin n: its size, if it goes there.
abbrev pub share : (bin n size : ℕ) → ℕ
share bin n size = if eqb bin n then size else 0

module _ (takes : Bin → Bool) (class : ℕ) (i : Item) where
  put_load : (n : ℕ) (bins : List Bin)
      → load_at n (map sizes (put takes (fresh class) i bins)) ≡ load_at n (map sizes bins) + share (first_fit takes bins) n i.size
  unfolding put first_fit
  put_load zero [] = omega arith
  put_load (suc n) [] = rw (eqb-zero-suc n)
  put_load zero (b ∷ bs) = go (takes b)
    where
      go : (t : Bool)
          → load_at 0 (map sizes (if t then add i b ∷ bs else b ∷ put takes (fresh class) i bs))
          ≡ sum (sizes b) + share (if t then 0 else suc (first_fit takes bs)) 0 i.size
      go true = omega arith
      go false = rw (eqb-suc-zero (first_fit takes bs)) (omega arith)
  put_load (suc n) (b ∷ bs) = go (takes b) (put_load n bs)
    where
      go : (t : Bool) → load_at n (map sizes (put takes (fresh class) i bs)) ≡ load_at n (map sizes bs) + share (first_fit takes bs) n i.size
          → load_at (suc n) (map sizes (if t then add i b ∷ bs else b ∷ put takes (fresh class) i bs))
          ≡ load_at n (map sizes bs) + share (if t then 0 else suc (first_fit takes bs)) (suc n) i.size
      go true r = rw (eqb-zero-suc n) (omega arith)
      go false r = rw (eqb-suc-suc (first_fit takes bs) n) r

pub next_load : (c n : ℕ) (p : Packing) (i : Item) → load_of n (lists (next c p i)) ≡ load_of n (lists p) + share (bin_for c i p) n i.size
next_load c zero p i = rw (eqb-suc-zero (first_fit (has_space c i) p.bins))
next_load c (suc n) p i = rw (eqb-suc-suc (first_fit (has_space c i) p.bins) n) (put_load (has_space c i) 1 i n p.bins)

-- Where every bin has a load within the capacity: the numbers from 1 to the last bin's, and no others, have one.
module _ (c : ℕ) where
  abbrev Good : List (List ℕ) → Type 0
  Good L = All (λ b. Within c (sum b)) L

  most_at : (n : ℕ) (L : List (List ℕ)) → Good L → load_at n L ≤ c
  most_at n [] h = omega arith
  most_at zero (b ∷ L) h = h.0.1
  most_at (suc n) (b ∷ L) h = most_at n L h.1

  pub load_most : (n : ℕ) (L : List (List ℕ)) → Good L → load_of n L ≤ c
  load_most zero L h = omega arith
  load_most (suc n) L h = most_at n L h

  some_at : (n : ℕ) (L : List (List ℕ)) → Good L → suc n ≤ length L → 1 ≤ load_at n L
  some_at n [] h l = omega arith
  some_at zero (b ∷ L) h l = h.0.0
  some_at (suc n) (b ∷ L) h l = some_at n L h.1 (omega arith)

  pub load_some : (n : ℕ) (L : List (List ℕ)) → Good L → 1 ≤ n → n ≤ length L → 1 ≤ load_of n L
  load_some zero L h from to = omega arith
  load_some (suc n) L h from to = some_at n L h to

range_at : (n : ℕ) (L : List (List ℕ)) → 1 ≤ load_at n L → suc n ≤ length L
range_at n [] h = omega arith
range_at zero (b ∷ L) h = omega arith
range_at (suc n) (b ∷ L) h = omega (arith, range_at n L h)

pub load_range : (n : ℕ) (L : List (List ℕ)) → 1 ≤ load_of n L → (1 ≤ n) × (n ≤ length L)
load_range zero L h = omega arith
load_range (suc n) L h = (omega arith, range_at n L h)

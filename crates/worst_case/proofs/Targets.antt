-- Where an item goes, by its target: first fit by space in a class, or among the bins of class 1 that hold an A. The other classes stay as they are.
use Prim.Native.Nat.{ℕ, ◌+◌, ◌≤◌, ◌<◌}
use mathlib.Core.Path.{◌≡◌, refl, ap, subst}
use mathlib.Core.Bool.{Bool, true, false, ◌&&◌}
use mathlib.Core.List.{List, [], ◌∷◌, map, Memᴰ}
use native.Mathlib.Omega.{arith}
use borrow.Author.Tests.{eqb-true, eqb-false, eq-eqb, ne_eqb, leb-true, leb-false}
use lib.Dec.{eqb, leb}
use Rattle.packing.specs.declared.{Opening.Opening}
use Rattle.std.specs.Prelude.{if◌then◌else◌}
use Rattle.packing.specs.Prelude.{any}
use Rattle.packing.specs.SizeClasses.{is_a}
use Rattle.packing.specs.Bins.{Item, Bin, load, kind, holds_a}
use Rattle.packing.specs.Placing.{Target, to_class, beside_a, class_of, put, permitted}
use Rattle.packing.proofs.Tests.{both_true}
use Rattle.packing.proofs.Putting.{fresh}
use Rattle.worst_case.proofs.Lists.{sum, weighs, total_weigh}
use Rattle.worst_case.proofs.FirstFit.{Fit, put_weighs}
use Rattle.worst_case.proofs.ClassOne.{has_a, Beside}
use Rattle.worst_case.proofs.InClass.{sizes, in_class, put_class, put_others}

-- No item has been settled: each has the size that it was shelved by. In a bin, and in bins.
abbrev pub WholeBin : Bin → Type 0
WholeBin b = (i : Item) → Memᴰ i b.items → i.size ≡ i.greatest

abbrev pub Whole : List Bin → Type 0
Whole bins = (b : Bin) → Memᴰ b bins → WholeBin b

-- The model's test for an A, over the sizes.
any_has : (o : Opening) (l : List Item) → ((i : Item) → Memᴰ i l → i.size ≡ i.greatest)
    → any (λ i. is_a (kind o i)) l ≡ has_a o.capacity (map (λ i. i.size) l)
unfolding any
any_has o [] whole = refl
any_has o (i ∷ l) whole = rw (any_has o l (λ j m. whole j (Memᴰ.tail m)), whole i (Memᴰ.head refl))

-- Two tests by which the bins are told alike put an item in the same bin.
put_alike : (test other : Bin → Bool) (new : Bin) (i : Item) (bins : List Bin) → ((b : Bin) → Memᴰ b bins → test b ≡ other b)
    → put test new i bins ≡ put other new i bins
unfolding put
put_alike test other new i [] same = refl
put_alike test other new i (b ∷ bs) same = rw (same b (Memᴰ.head refl), put_alike test other new i bs (λ x m. same x (Memᴰ.tail m)))

module _ (o : Opening) (i : Item) where
  abbrev c : ℕ
  c = o.capacity

  abbrev s : ℕ
  s = i.size

  abbrev pub fits : Target → Bin → Bool
  fits t b = permitted o t b && leb (load b + i.size) o.capacity

  -- The bins with the item where its target says.
  abbrev pub placed_at : Target → List Bin → List Bin
  placed_at t bins = put (fits t) (fresh (class_of t)) i bins

  space : (b : Bin) → leb (load b + s) c ≡ true → sum (sizes b) + s ≤ c
  space b h = omega (arith, leb-true (load b + s) c h, total_weigh (λ i. i.size) (λ s. s) b.items)

  no_space : (b : Bin) → leb (load b + s) c ≡ false → c < sum (sizes b) + s
  no_space b h = omega (arith, leb-false (load b + s) c h, total_weigh (λ i. i.size) (λ s. s) b.items)

  -- To a class: a bin of it takes the item where it has space.
  class_taken : (κ : ℕ) (b : Bin) → fits (to_class κ) b ≡ true → (b.class ≡ κ) × (sum (sizes b) + s ≤ c)
  class_taken κ b h =
      let t = both_true (eqb b.class κ) (leb (load b + s) c) h in
      (eqb-true b.class κ t.0, space b t.1)

  class_left : (κ : ℕ) (b : Bin) → b.class ≡ κ → fits (to_class κ) b ≡ false → c < sum (sizes b) + s
  class_left κ b k h = no_space b (rw (eq-eqb b.class κ k) at h)

  pub to_class_lem : (κ : ℕ) (bins : List Bin) → Fit o.capacity i.size (in_class κ bins) (in_class κ (placed_at (to_class κ) bins))
  to_class_lem κ bins = put_class (fits (to_class κ)) κ i (λ b. sum b + s ≤ c) (λ b. c < sum b + s) (class_taken κ) (class_left κ) bins

  -- Beside an A: a bin of class 1 takes the item where it holds an A and has space. Where none is settled, the sizes tell of an A.
  abbrev fits_beside : Bin → Bool
  fits_beside b = (eqb b.class 1 && has_a c (sizes b)) && leb (load b + s) c

  beside_taken : (b : Bin) → fits_beside b ≡ true → (b.class ≡ 1) × ((has_a c (sizes b) ≡ true) × (sum (sizes b) + s ≤ c))
  beside_taken b h =
      let t = both_true (eqb b.class 1 && has_a c (sizes b)) (leb (load b + s) c) h in
      let u = both_true (eqb b.class 1) (has_a c (sizes b)) t.0 in
      (eqb-true b.class 1 u.0, (u.1, space b t.1))

  beside_left : (b : Bin) → b.class ≡ 1 → fits_beside b ≡ false → has_a c (sizes b) ≡ true → c < sum (sizes b) + s
  beside_left b k h a = no_space b (rw (eq-eqb b.class 1 k, a) at h)

  pub to_beside : (bins : List Bin) → Whole bins → Beside o.capacity i.size (in_class 1 bins) (in_class 1 (placed_at beside_a bins))
  to_beside bins whole =
      rw (put_alike (fits beside_a) fits_beside (fresh 1) i bins (λ b m. ap (λ t. (eqb b.class 1 && t) && leb (load b + s) c) (any_has o b.items (whole b m))))
      (put_class fits_beside 1 i (λ b. (has_a c b ≡ true) × (sum b + s ≤ c)) (λ b. has_a c b ≡ true → c < sum b + s) beside_taken beside_left bins)

  -- The classes that are not the target's stay as they are.
  taken_class : (t : Target) (b : Bin) → fits t b ≡ true → b.class ≡ class_of t
  taken_class (to_class κ) b h = (class_taken κ b h).0
  taken_class beside_a b h =
      eqb-true b.class 1 (both_true (eqb b.class 1) (holds_a o b) (both_true (eqb b.class 1 && holds_a o b) (leb (load b + s) c) h).0).0

  pub elsewhere : (t : Target) (κ : ℕ) → (class_of t ≡ κ → ⊥) → (bins : List Bin) → in_class κ (placed_at t bins) ≡ in_class κ bins
  elsewhere t κ unlike bins = put_others (fits t) (class_of t) i κ (ne_eqb (class_of t) κ unlike) (taken_class t) bins

  -- Every weight grows by the item's in the target's class, and in no other.
  class_grows : (w : ℕ → ℕ) (t : Target) (bins : List Bin) → Whole bins
      → weighs w (in_class (class_of t) (placed_at t bins)) ≡ weighs w (in_class (class_of t) bins) + w s
  class_grows w (to_class κ) bins whole = put_weighs w (to_class_lem κ bins)
  class_grows w beside_a bins whole = put_weighs w (to_beside bins whole)

  pub class_weight : (w : ℕ → ℕ) (t : Target) (κ : ℕ) (bins : List Bin) → Whole bins
      → weighs w (in_class κ (placed_at t bins)) ≡ weighs w (in_class κ bins) + (if eqb (class_of t) κ then w i.size else 0)
  class_weight w t κ bins whole = go (eqb (class_of t) κ) refl
    where
      go : (d : Bool) → eqb (class_of t) κ ≡ d → weighs w (in_class κ (placed_at t bins)) ≡ weighs w (in_class κ bins) + (if d then w s else 0)
      go true e = subst (λ n. weighs w (in_class n (placed_at t bins)) ≡ weighs w (in_class n bins) + w s) (eqb-true (class_of t) κ e) (class_grows w t bins whole)
      go false e = rw (elsewhere t κ (eqb-false (class_of t) κ e) bins) (omega arith)

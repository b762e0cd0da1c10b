-- What the fault of a command says of the bare sizes that it sends, and what is known of the item that a command without one shelves.
use Prim.Native.Nat.{ℕ, ◌≤◌, ◌<◌}
use mathlib.Core.Path.{◌≡◌, refl}
use mathlib.Core.Logic.{◌⊎◌, inl, inr}
use mathlib.Core.Bool.{Bool, true, false, ◌||◌, false≢true}
use Rattle.std.specs.Prelude.{None, Some}
use native.Mathlib.Omega.{arith}
use borrow.Author.Tests.{eqb-true, eqb-false, eq-eqb, ne_eqb, ltb-true, ltb-false, lt-ltb, le-ltb, leb-true}
use lib.Dec.{eqb, ltb}
use Rattle.std.specs.Prelude.{if◌then◌else◌}
use Rattle.packing.specs.Prelude.{◌≤?◌, Opening, Command, Shelve, Count, Withdraw, Switch, Reserve, Settle, ItemReason, SizeZero, RangeWrong}
use Rattle.packing.specs.Bins.{stored, ranges}
use Rattle.packing.specs.Sending.{shelves_item, size_of, least_of, fault}
use Rattle.packing.proofs.Tests.{clash, both_true}

-- Refusal 8.
pub size_fault : (size : ℕ) → 1 ≤ size → fault (Shelve size) ≡ None
size_fault size l = rw (ne_eqb size 0 (λ e. omega arith))

pub size_faulty : (size : ℕ) → size ≡ 0 → fault (Shelve size) ≡ Some SizeZero
size_faulty size e = rw (eq-eqb size 0 e)

pub size_some : (size : ℕ) → fault (Shelve size) ≡ None → 1 ≤ size
size_some size = go (eqb size 0) refl
  where
    go : (t : Bool) → eqb size 0 ≡ t → (if t then Some SizeZero else None) ≡ None → 1 ≤ size
    go true q e = clash (cc)
    go false q e = omega (arith, eqb-false size 0 q)

pub size_zero : (size : ℕ) (reason : ItemReason) → fault (Shelve size) ≡ Some reason → size ≡ 0
size_zero size reason = go (eqb size 0) refl
  where
    go : (t : Bool) → eqb size 0 ≡ t → (if t then Some SizeZero else None) ≡ Some reason → size ≡ 0
    go true q e = eqb-true size 0 q
    go false q e = clash (cc)

-- Refusal 19.
module _ (least greatest : ℕ) where
  pub range_fault : 1 ≤ least → least ≤ greatest → fault (Reserve least greatest) ≡ None
  range_fault l m = rw (ne_eqb least 0 (λ e. omega arith), le-ltb greatest least m)

  pub range_faulty : (least ≡ 0) ⊎ (greatest < least) → fault (Reserve least greatest) ≡ Some RangeWrong
  range_faulty (inl e) = rw (eq-eqb least 0 e)
  range_faulty (inr l) = rw (lt-ltb greatest least l) (either (eqb least 0))
    where
      either : (t : Bool) → (if t || true then Some RangeWrong else None) ≡ Some RangeWrong
      either true = refl
      either false = refl

  pub range_good : fault (Reserve least greatest) ≡ None → (1 ≤ least) × (least ≤ greatest)
  range_good = go (eqb least 0) (ltb greatest least) refl refl
    where
      go : (t u : Bool) → eqb least 0 ≡ t → ltb greatest least ≡ u → (if t || u then Some RangeWrong else None) ≡ None → (1 ≤ least) × (least ≤ greatest)
      go true u p q e = clash (cc)
      go false true p q e = clash (cc)
      go false false p q e = (omega (arith, eqb-false least 0 p), ltb-false greatest least q)

  pub range_wrong : (reason : ItemReason) → fault (Reserve least greatest) ≡ Some reason → (least ≡ 0) ⊎ (greatest < least)
  range_wrong reason = go (eqb least 0) (ltb greatest least) refl refl
    where
      go : (t u : Bool) → eqb least 0 ≡ t → ltb greatest least ≡ u → (if t || u then Some RangeWrong else None) ≡ Some reason → (least ≡ 0) ⊎ (greatest < least)
      go true u p q e = inl (eqb-true least 0 p)
      go false true p q e = inr (ltb-true greatest least q)
      go false false p q e = clash (cc)

-- A fault is one of the two, of the command that it belongs to.
pub zero_only : (size : ℕ) (reason : ItemReason) → fault (Shelve size) ≡ Some reason → reason ≡ SizeZero
zero_only size reason = go (eqb size 0)
  where
    go : (t : Bool) → (if t then Some SizeZero else None) ≡ Some reason → reason ≡ SizeZero
    go true e = cc
    go false e = clash (cc)

pub wrong_only : (least greatest : ℕ) (reason : ItemReason) → fault (Reserve least greatest) ≡ Some reason → reason ≡ RangeWrong
wrong_only least greatest reason = go (eqb least 0 || ltb greatest least)
  where
    go : (t : Bool) → (if t then Some RangeWrong else None) ≡ Some reason → reason ≡ RangeWrong
    go true e = cc
    go false e = clash (cc)

-- An item without a fault has a size, and so has it whatever size within its range it turns out to have.
pub sent_some : (c : Command) → shelves_item c ≡ true → fault c ≡ None → 1 ≤ size_of c
sent_some (Shelve size) s e = size_some size e
sent_some Count s e = absurd (false≢true s)
sent_some (Withdraw named) s e = absurd (false≢true s)
sent_some (Switch r) s e = absurd (false≢true s)
sent_some (Reserve least greatest) s e = let good = range_good least greatest e in omega (arith, good)
sent_some (Settle named size) s e = absurd (false≢true s)

pub sent_least : (o : Opening) (c : Command) → fault c ≡ None → (size : ℕ) → ranges (least_of o c) (stored o (size_of c)) size ≡ true → 1 ≤ size
sent_least o (Shelve s) e size r = absurd (false≢true r)
sent_least o Count e size r = absurd (false≢true r)
sent_least o (Withdraw named) e size r = absurd (false≢true r)
sent_least o (Switch q) e size r = absurd (false≢true r)
sent_least o (Reserve least greatest) e size r =
    let good = range_good least greatest e in
    omega (arith, good, leb-true (stored o least) size (both_true (stored o least ≤? size) (size ≤? stored o greatest) r).0)
sent_least o (Settle named s) e size r = absurd (false≢true r)

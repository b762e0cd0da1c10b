-- A row of the ledger is shown: its free space is stored in the tree of its class; then, if that is class 1, what it offers beside an A in tree 0.
use mathlib.Core.Path.{◌≡◌, refl, sym, ◌∙◌}
use mathlib.Core.Bool.{◌&&◌, and-false}
use mathlib.Core.List.{List}
use Prim.Native.Nat.{ℕ, zero, suc, ◌<◌}
use native.Mathlib.Decide.{ℕ_discrete}
use native.Mathlib.Omega.{arith}
use lib.Dec.{eqb}
use borrow.Author.Tests.{eq-eqb, ne_eqb}
use Rattle.std.specs.Prelude.{if◌then◌else◌}
use Rattle.tournament.specs.declared.Shape.{Shape}
use Rattle.climb.specs.Stored.{Stored}
use Rattle.aim.specs.Aims.{home}
use Rattle.ledger.specs.declared.Row.{Row}
use Rattle.ledger.specs.Offers.{offers}
use Rattle.index.specs.Trees.{base, shown_at, Forest}
use Rattle.index.specs.Shown.{Showable, Shown}
use Rattle.index.proofs.Forests.{still, stored}

module _ {shape : Shape} {t u : List ℕ} {place : ℕ} {row : Row} (h : Showable shape t place row)
    (s : Stored (base row.class) shape t place row.free u) where
  first_forest : Forest shape u
  first_forest = still h.forest h.class_few h.inside s

  pub still_showable : Showable shape u place row
  still_showable = record { forest = first_forest; inside = h.inside; classed = h.classed; class_few = h.class_few }

  first : (n j : ℕ) → j < shape.places → shown_at u shape n j ≡ (if eqb j place && eqb row.class n then row.free else shown_at t shape n j)
  first = stored h.forest h.class_few h.inside s

  -- Every tree but 0 shows the row if it is of its class, and tree 0 shows what it did.
  first_others : (k j : ℕ) → j < shape.places
      → shown_at u shape (suc k) j ≡ (if eqb j place && eqb (suc k) row.class then offers (suc k) row else shown_at t shape (suc k) j)
  first_others k j l = first (suc k) j l ∙ elim (ℕ_discrete row.class (suc k)) [
    | yes e ↦ rw (eq-eqb row.class (suc k) e, eq-eqb (suc k) row.class (sym e))
    | no e ↦ rw (ne_eqb row.class (suc k) e, ne_eqb (suc k) row.class (λ z. e (sym z)), and-false)
  ]

  first_zero : (j : ℕ) → j < shape.places → shown_at u shape 0 j ≡ shown_at t shape 0 j
  first_zero j l = first 0 j l ∙ rw (ne_eqb row.class 0 (λ z. omega (arith, h.classed)), and-false)

  pub shown_once : (row.class ≡ 1 → ⊥) → Shown shape t place row u
  shown_once z = record { forest = first_forest; shown = λ n j m l. go n j l }
    where
      go : (n j : ℕ) → j < shape.places → shown_at u shape n j ≡ (if eqb j place && eqb (home n) row.class then offers n row else shown_at t shape n j)
      go zero j l = first_zero j l ∙ rw (ne_eqb 1 row.class (λ q. z (sym q)), and-false)
      go (suc k) j l = first_others k j l

  pub shown_twice : {v : List ℕ} → row.class ≡ 1 → Stored 0 shape u place (offers 0 row) v → Shown shape t place row v
  shown_twice {v} e r = record { forest = still first_forest few h.inside r; shown = λ n j m l. go n j l }
    where
      few : 0 < 5
      few = omega arith

      second : (n j : ℕ) → j < shape.places → shown_at v shape n j ≡ (if eqb j place && eqb 0 n then offers 0 row else shown_at u shape n j)
      second = stored first_forest few h.inside r

      go : (n j : ℕ) → j < shape.places → shown_at v shape n j ≡ (if eqb j place && eqb (home n) row.class then offers n row else shown_at t shape n j)
      go zero j l = second 0 j l ∙ rw (first_zero j l, eq-eqb 1 row.class (sym e), eq-eqb 0 0 refl)
      go (suc k) j l = second (suc k) j l ∙ rw (ne_eqb 0 (suc k) (λ q. omega arith), and-false) (first_others k j l)

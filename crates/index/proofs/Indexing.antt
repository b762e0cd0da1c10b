-- The trees, once a row is shown at its place, index the ledger with that row there.
use mathlib.Core.Path.{◌≡◌, refl, sym, ◌∙◌}
use mathlib.Core.Logic.{◌⊎◌, ⊎_elim}
use mathlib.Core.List.{List}
use Prim.Native.Nat.{ℕ, ◌<◌}
use native.Mathlib.Decide.{ℕ_discrete}
use native.Mathlib.Omega.{arith}
use lib.Dec.{eqb}
use lib.ListN.{length, set}
use lib.Seq.{get_or-set_same, get_or-set_other}
use borrow.Author.Tests.{eq-eqb, ne_eqb}
use Rattle.std.specs.Prelude.{if◌then◌else◌}
use Rattle.tournament.specs.declared.Shape.{Shape}
use Rattle.aim.specs.Aims.{home}
use Rattle.aim.proofs.Aiming.{home_positive}
use Rattle.ledger.specs.declared.Row.{Row}
use Rattle.ledger.specs.Rows.{blank, row_at}
use Rattle.ledger.specs.Offers.{offers}
use Rattle.ledger.proofs.Offering.{no_offer}
use Rattle.index.specs.Trees.{shown_at, Indexes}
use Rattle.index.specs.Shown.{Shown}

-- The row before was of the same class, or of no bin: so in every other tree nothing was shown there.
pub indexes_set : {shape : Shape} {t u : List ℕ} {ledger : List Row} {place : ℕ} {row : Row} → Indexes shape t ledger → place < length ledger
    → ((row_at ledger place).class ≡ 0) ⊎ ((row_at ledger place).class ≡ row.class) → Shown shape t place row u → Indexes shape u (set ledger place row)
indexes_set {shape} {t} {u} {ledger} {place} {row} k inside old d = record {
  forest = d.forest;
  leaf = λ n j m l. d.shown n j m l ∙ elim (ℕ_discrete j place) [
    | yes q ↦ rw (q, eq-eqb place place refl, get_or-set_same ledger place row blank inside) (here n m (rw q at l))
    | no q ↦ rw (ne_eqb j place q, get_or-set_other ledger place j row blank q) (k.leaf n j m l)
  ];
}
  where
    here : (n : ℕ) → n < 5 → place < shape.places → (if eqb (home n) row.class then offers n row else shown_at t shape n place) ≡ offers n row
    here n m l = elim (ℕ_discrete (home n) row.class) [
      | yes e ↦ rw (eq-eqb (home n) row.class e)
      | no e ↦ rw (ne_eqb (home n) row.class e)
          (k.leaf n place m l
          ∙ no_offer n (row_at ledger place) (λ z. ⊎_elim (λ o. omega (arith, home_positive n, z, o)) (λ s. e (sym z ∙ s)) old)
          ∙ sym (no_offer n row (λ z. e (sym z))))
    ]

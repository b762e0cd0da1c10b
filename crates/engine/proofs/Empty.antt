-- The state at the opening: with counters at 0 it is sound and represents the empty packing.
use mathlib.Core.Path.{◌≡◌, refl, sym, ◌∙◌}
use mathlib.Core.Bool.{true}
use Prim.Native.Nat.{ℕ, ◌+◌, ◌*◌, ◌≤◌, ◌<◌}
use native.Mathlib.Nat.{zero-mod}
use native.Mathlib.Omega.{arith}
use borrow.Author.Tests.{ne_eqb}
use lib.ListN.{replicate, get_or-replicate}
use Rattle.packing.specs.declared.Opening.{Opening}
use Rattle.packing.specs.Limits.{opening_good}
use Rattle.packing.specs.Bins.{empty}
use Rattle.packing.proofs.Limits.{in_limits}
use Rattle.tournament.specs.declared.Shape.{Shape}
use Rattle.tournament.specs.Shapes.{Fitted}
use Rattle.tournament.specs.Trees.{row_words}
use Rattle.tournament.proofs.Powers.{places_few}
use Rattle.tournament.proofs.Empty.{zero_tree, zero_place}
use Rattle.ledger.specs.Rows.{places, blank, row_at}
use Rattle.ledger.proofs.Offering.{offers_blank}
use Rattle.ledger.proofs.Empty.{empty_records, empty_held, empty_noted}
use Rattle.index.specs.Trees.{base}
use Rattle.engine.specs.Store.{state, Represents, at_opening, blank_store, EmptyStore}

module _ (o : Opening) (shape : Shape) (good : opening_good o ≡ true) (fitted : Fitted o.stock shape) where
  few : shape.places ≤ 512
  few = places_few fitted 9 (in_limits o good).stock.1

  room : (k : ℕ) → k < 5 → base k + 2 * shape.places ≤ row_words
  room k h = omega (arith, few)

  blank_at : (i : ℕ) → i < places → row_at (replicate places blank) i ≡ blank
  blank_at i l = get_or-replicate places i blank blank l

  nothing : Represents o (state blank_store (replicate places blank) at_opening) empty
  nothing = record { bins = refl; b2s = sym (zero-mod o.m); items = sym empty_held; records = empty_records o; noted = empty_noted }

  pub empty_store : EmptyStore o shape (replicate places blank)
  empty_store = record {
    sound = record {
      index = record {
        forest = record { few = few; tree = λ k h. zero_tree row_words refl (base k) shape (room k h) fitted.power };
        leaf = λ k i a b. zero_place row_words refl (base k) shape (room k a) i b ∙ sym (rw (blank_at i (omega (arith, few))) (offers_blank k));
      };
      fitted = fitted;
      capacity = (in_limits o good).capacity.1;
      within = omega arith;
      phase = omega (arith, (in_limits o good).m);
      b2 = rw (ne_eqb 1 o.m (λ e. omega (arith, (in_limits o good).m)));
      packing = empty;
      represents = nothing;
    };
    represents = nothing;
  }

-- An item that a bin can hold, and the tree that is searched for it: what the model makes of them.
use mathlib.Core.Path.{◌≡◌, sym, ap, ◌∙◌}
use mathlib.Core.List.{List}
use Rattle.std.specs.Prelude.{Option}
use Prim.Native.Nat.{ℕ, ◌%◌, ◌≤◌, ◌<◌}
use Rattle.packing.specs.declared.Opening.{Opening}
use Rattle.packing.specs.SizeClasses.{size_class}
use Rattle.packing.specs.Bins.{Packing}
use Rattle.packing.specs.Placing.{target, placed}
use Rattle.packing.specs.Sending.{item}
use Rattle.aim.specs.declared.Counters.{Counters}
use Rattle.aim.specs.Aims.{aim, home, tree_for, a_for, phase_after}
use Rattle.aim.proofs.Aiming.{aims, as_for, phases, phase_below, tree_below, home_below}
use Rattle.ledger.specs.declared.{Row.Row, Note.Note}
use Rattle.ledger.proofs.Entering.{one_a}
use Rattle.engine.specs.Store.{Represents}
use Rattle.engine.proofs.States.{state_of}

-- What the code has found out of an item before it searches: that a bin can hold it, and the tree n.
pub record Aimed (o : Opening) (c : Counters) (size n : ℕ) : Type 0 where
  pub some : 1 ≤ size
  pub fits : size ≤ o.capacity
  pub phase : c.phase < o.m
  pub tree : n ≡ tree_for (size_class o.capacity size) c.phase o.m

module _ {o : Opening} {c : Counters} {size n : ℕ} (a : Aimed o c size n) where
  pub tree_few : n < 5
  tree_few = rw a.tree (tree_below c.phase o.m (size_class o.capacity size))

  pub home_few : home n < 5
  home_few = home_below n tree_few

  pub phase_few : phase_after n c.phase < o.m
  phase_few = rw a.tree (phase_below c.phase o.m (size_class o.capacity size) a.phase)

  pub a_more : (number : ℕ) (least : Option ℕ) → a_for n ≡ one_a o (item number size least)
  a_more number least = rw a.tree (as_for c.phase o.m (size_class o.capacity size))

  module _ {t : List ℕ} {ledger : List Row} {notes : List Note} {p : Packing} (r : Represents o (state_of t ledger notes c) p) (number : ℕ) (least : Option ℕ) where
    pub aimed : target o p (item number size least) ≡ aim n
    aimed = aims o p.b2s c.phase (size_class o.capacity size) r.b2s a.phase ∙ ap aim (sym a.tree)

    pub phase_after_lem : phase_after n c.phase ≡ (placed o p (item number size least)).b2s % o.m
    unfolding placed
    phase_after_lem = rw a.tree (phases p.b2s c.phase o.m (size_class o.capacity size) r.b2s a.phase)

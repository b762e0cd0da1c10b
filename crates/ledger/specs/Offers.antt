-- What a row of the ledger offers to an item: the free space of its bin, where the item may join that.
use Rattle.std.specs.Prelude.{Bool, ◌&&◌, ℕ, zero, suc, if◌then◌else◌}
use Rattle.packing.specs.Prelude.{◌=?◌, ◌<?◌}
use Rattle.ledger.specs.declared.Row.{Row}

-- Group n, for n from 1 to 4, is the bins of class n; group 0 those of class 1 that hold an A.
abbrev pub in_group : (n : ℕ) → Row → Bool
in_group zero row = (row.class =? 1) && (0 <? row.held_a)
in_group (suc n) row = row.class =? suc n

-- The free space, where the bin is of the group, else 0.
abbrev pub offers : (n : ℕ) → Row → ℕ
offers n row = if in_group n row then row.free else 0

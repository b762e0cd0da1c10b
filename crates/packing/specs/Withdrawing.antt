-- "Withdrawn masters" (document 02, point 4): command 04, which names an item by the number of the command that shelved it.
use Rattle.std.specs.Prelude.{if◌then◌else◌}
use Rattle.packing.specs.Prelude.{ℕ, suc, Bool, not, map, any, keep, ◌=?◌, Opening, Outcome, Withdrawn, Refused, NotShelved}
use Rattle.packing.specs.Bins.{Item, Bin, Packing, free_on, holds}
use Rattle.packing.specs.Placing.{first_fit}

module _ (named : ℕ) where
  abbrev pub is_named : Item → Bool
  is_named i = i.command =? named

  abbrev pub holds_named : Bin → Bool
  holds_named b = holds is_named b

  -- The number of the bin that holds the item.
  abbrev pub bin_holding : Packing → ℕ
  bin_holding p = suc (first_fit holds_named p.bins)

  -- A bin "stays opened, keeps its number and class".
  abbrev pub emptied_of : Bin → Bin
  emptied_of b = record { class = b.class; items = keep (λ i. not (is_named i)) b.items }

  -- "Takes out the master shelved by that command." The B2 count is as it was.
  unfoldable pub without : Packing → Packing
  without p = record { bins = map emptied_of p.bins; b2s = p.b2s }

-- "17 … when the named command is not an earlier shelved master, or it is already out; it is the only check for 04": no such item is in a bin. The answer
-- is "the cartridge it left", with "the free units left on that cartridge".
unfoldable pub withdrawal : Opening → Packing → (named : ℕ) → Outcome
withdrawal o p named =
    if not (any (holds_named named) p.bins) then Refused NotShelved else
    Withdrawn (bin_holding named p) (free_on o (bin_holding named p) (without named p))

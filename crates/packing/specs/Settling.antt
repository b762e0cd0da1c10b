-- "Sizes known within a range" (document 02, point 9): command 07, which names an item of 06 by the number of that command and tells its size. The size is
-- the stored one here, as those of the range are: "the trailer is added to each".
use Rattle.std.specs.Prelude.{◌&&◌, if◌then◌else◌}
use Rattle.packing.specs.Prelude.{ℕ, Bool, not, None, map, any, Opening, Outcome, Settled, Refused, NotReserved, OutsideRange}
use Rattle.packing.specs.Bins.{Item, Bin, Packing, free_on, holds, unsettled, in_range}
use Rattle.packing.specs.Withdrawing.{is_named, bin_holding}

-- An item with this size for good.
abbrev pub settled_to : (size : ℕ) → Item → Item
settled_to size i = record { command = i.command; size = size; greatest = i.greatest; least = None }

module _ (named : ℕ) where
  -- The item is "still shelved and unsettled".
  abbrev pub awaits : Item → Bool
  awaits i = is_named named i && unsettled i

  module _ (size : ℕ) where
    -- It is, and the size is within its range.
    abbrev pub admits : Item → Bool
    admits i = is_named named i && in_range size i

    -- "Its load drops to the true size, the class of master … remains": the size that it was shelved by is as it was.
    abbrev pub settled : Item → Item
    settled i = if admits i then settled_to size i else i

    -- The class of the "cartridge remains" too.
    abbrev pub settled_bin : Bin → Bin
    settled_bin b = record { class = b.class; items = map settled b.items }

    -- The B2 count is as it was.
    unfoldable pub settling : Packing → Packing
    settling p = record { bins = map settled_bin p.bins; b2s = p.b2s }

-- "20, the named command is not an earlier 06 master of the same production, still shelved and unsettled; 21, settled size outside its range, after 20."
-- "The answer is the cartridge, with its free units in the second row."
unfoldable pub settlement : Opening → Packing → (named size : ℕ) → Outcome
settlement o p named size =
    if not (any (holds (awaits named)) p.bins) then Refused NotReserved else
    if not (any (holds (admits named size)) p.bins) then Refused OutsideRange else
    Settled (bin_holding named p) (free_on o (bin_holding named p) (settling named size p))

-- A ledger of zeros records the empty packing, which holds no item, and so do notes of zeros.
use mathlib.Core.Path.{◌≡◌, refl, sym}
use mathlib.Core.List.Memᴰ
use Prim.Native.Nat.{ℕ, zero, suc}
use native.Mathlib.Omega.{arith}
use borrow.Author.Tests.{ne_eqb}
use lib.ListN.{replicate, length-replicate, get_or-replicate}
use Rattle.packing.specs.declared.Opening.{Opening}
use Rattle.packing.specs.Prelude.{total, keep}
use Rattle.packing.specs.Bins.{empty}
use Rattle.ledger.specs.Rows.{places, blank}
use Rattle.ledger.specs.Notes.{numbers, unnoted, note_at, Noted}
use Rattle.ledger.specs.Records.{items_held, Records}

pub empty_records : (o : Opening) → Records o (replicate places blank) empty
empty_records o =
    record { whole = length-replicate places blank; row = λ i l. get_or-replicate places i blank blank l; sound = λ b m. absurd (Memᴰ.not-nil m) }

pub empty_held : items_held empty ≡ 0
unfolding total
empty_held = refl

-- Among the notes and past them.
unnoted_at : (count number : ℕ) → (note_at (replicate count unnoted) number).bin ≡ 0
unnoted_at zero number = refl
unnoted_at (suc count) zero = refl
unnoted_at (suc count) (suc number) = unnoted_at count number

pub empty_noted : Noted (replicate numbers unnoted) empty
unfolding keep
empty_noted =
    record {
      whole = length-replicate numbers unnoted;
      note = λ number place. sym (rw (unnoted_at numbers number, ne_eqb 0 (suc place) (λ e. omega arith)));
    }

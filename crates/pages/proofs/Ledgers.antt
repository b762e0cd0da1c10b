-- A ledger that records a printable packing: its rows are legible, and what they tell is the packing's pages.
use mathlib.Core.Path.{◌≡◌, refl, sym, ap, subst, ◌∙◌}
use mathlib.Core.List.{List, [], ◌∷◌, map, Memᴰ}
use Prim.Native.Nat.{ℕ, zero, suc, ◌+◌, ◌≤◌, ◌<◌}
use native.Mathlib.Omega.{arith}
use lib.ListN.{length, get_or}
use Rattle.packing.specs.declared.Opening.{Opening}
use Rattle.packing.specs.Bins.{Bin, Packing, opened}
use Rattle.ledger.specs.declared.Row.{Row as LedgerRow}
use Rattle.ledger.specs.Rows.{places, blank}
use Rattle.ledger.specs.Records.{row_of as ledgerRow, Records}
use Rattle.ledger.proofs.Rows.{bins_rows}
use Rattle.text.specs.declared.Text.{Text}
use Rattle.text.specs.Writing.{Room}
use Rattle.pages.specs.Pages.{Row, rows, lines, lines_text}
use Rattle.pages.specs.Writing.{told_from, Legible, lines_length, ledger_text, Legibles}
use Rattle.pages.proofs.Bins.{Printable, bin_legible, told_rows}

-- The bin at a place, where there is one, has what each bin has.
at_place : (P : LedgerRow → Type 0) (f : Bin → LedgerRow) (d : LedgerRow) (bins : List Bin) (i : ℕ) → i < length bins
    → ((b : Bin) → Memᴰ b bins → P (f b)) → P (get_or (map f bins) i d)
at_place P f d [] i l h = absurd (omega arith)
at_place P f d (b ∷ bs) zero l h = h b (Memᴰ.head refl)
at_place P f d (b ∷ bs) (suc i) l h = at_place P f d bs i (omega arith) (λ x m. h x (Memᴰ.tail m))

module _ {o : Opening} {p : Packing} (h : Printable o p) {ledger : List LedgerRow} (k : Records o ledger p) (pages : ℕ) where
  pub ledger_legible : pages ≤ places → (text : Text) → Room text (lines_length (opened p)) → Legibles ledger o.capacity (opened p) pages text
  ledger_legible few text room =
      record {
        whole = k.whole;
        opened_few = h.bins_few;
        pages_few = few;
        legible =
            λ place l. subst (Legible o.capacity (place + 1)) (sym (k.row place (omega (arith, h.bins_few))))
            (at_place (Legible o.capacity (place + 1)) (ledgerRow o) blank p.bins place l
            (λ b m. bin_legible h (place + 1) (omega (arith, h.bins_few)) b m));
        room = room;
      }

  pub ledger_text_lem : ledger_text ledger o.capacity (opened p) pages ≡ lines_text (lines pages (rows o p))
  ledger_text_lem =
      ap (λ (rs : List Row). lines_text (lines pages rs))
      (ap (told_from o.capacity 1) (bins_rows k h.bins_few) ∙ told_rows o 1 p.bins (λ b m. (h.sound b m).not_overfull))

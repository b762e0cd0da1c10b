-- `put_entry` meets its contract: with a page's line before the cartridge's, or without.
use Rattle.std.proofs.Common.{◌≡◌, ℕ, ◌+◌, ◌/◌, ◌%◌, ◌<◌, length, ap, ◌∙◌, arith, length-append}
use Rattle.ledger.specs.declared.Row.{Row as LedgerRow}
use Rattle.text.proofs.Texts.{appended_both}
use Rattle.pages.specs.Pages.{page, bin, line_text}
use Rattle.pages.specs.Writing.{told, entry_text}
use Rattle.pages.proofs.Entries.{entry_paged, entry_plain, page_line, bin_line}
use Rattle.pages.proofs.put_entry.Goals as goal
use Rattle.pages.proofs.put_entry.Goals.{then-number-eq1, else-number-eq1}

-- The lengths of the two lines where a page opens.
paged_length : (capacity pages number : ℕ) (row : LedgerRow) → number % 50 ≡ 1
    → length (entry_text pages (told capacity number row)) ≡ length (line_text (page (pages + number / 50 + 1))) + length (line_text (bin (told capacity number row)))
paged_length capacity pages number row h =
    let entry = told capacity number row in
    ap length (entry_paged pages entry h) ∙ length-append (line_text (page (pages + number / 50 + 1))) (line_text (bin entry))

pub put_page-requires-clause-room : goal.put_page-requires-clause-room
put_page-requires-clause-room c =
    let s = c.args in
    let r = c.requires in
    let few : s.pages + s.number / 50 + 1 < 1000 = omega (arith, r.legible.number_few, r.pages_few) in
    omega (arith, r.room, paged_length s.capacity s.pages s.number s.row c.if-number-eq1.true, page_line (s.pages + s.number / 50 + 1) few)

pub put_bin-requires-clause-room : goal.put_bin-requires-clause-room
put_bin-requires-clause-room c =
    let s = c.args in
    let one = bin_line c.requires.legible in
    elim c.if-number-eq1.branch [
      | then-number-eq1 w ↦
          omega (arith, paged_length s.capacity s.pages s.number s.row w.if-number-eq1.true, one, ap (λ t. t.end) w.text-is, ap (λ t. length t.row.now) w.text-is)
      | else-number-eq1 w ↦
          omega (arith, ap length (entry_plain s.pages (told s.capacity s.number s.row) w.if-number-eq1.false), one, ap (λ t. t.end) w.text-is, ap (λ t. length t.row.now) w.text-is)
    ]

pub returns : goal.returns
returns c =
    let s = c.args in
    let entry = told s.capacity s.number s.row in
    elim c.if-number-eq1.branch [
      | then-number-eq1 w ↦
          rw (entry_paged s.pages entry w.if-number-eq1.true) (appended_both w.put_page.ensures (rw w.text-is at c.put_bin.ensures))
      | else-number-eq1 w ↦ rw (entry_plain s.pages entry w.if-number-eq1.false) (rw w.text-is at c.put_bin.ensures)
    ]

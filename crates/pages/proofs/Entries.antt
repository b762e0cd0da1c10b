-- The text of a row with the page that it opens, if it does, and how long it is.
use mathlib.Core.Path.{◌≡◌, refl, ap, ◌∙◌}
use mathlib.Core.Bool.{Bool, true, false}
use mathlib.Core.List.{List, [], ◌∷◌, ◌++◌, map, flatten, map-append, append-nil}
use Prim.Native.Nat.{ℕ, ◌+◌, ◌/◌, ◌%◌, ◌≤◌, ◌<◌}
use Prim.Native.Char.{code}
use native.Mathlib.Omega.{arith}
use borrow.Author.Tests.{eq-eqb, ne_eqb, eqb-true, eqb-false}
use lib.Dec.{eqb}
use lib.ListN.{length, length-append}
use Rattle.packing.proofs.Running.{flatten_append}
use Rattle.ledger.specs.declared.Row.{Row as LedgerRow}
use Rattle.ledger.specs.Rows.{places}
use Rattle.pages.specs.Pages.{Row, Line, page, bin, characters, line_text}
use Rattle.pages.specs.Claims.{with_page}
use Rattle.pages.specs.Writing.{told, Legible, line_length, lines_length, entry_text, entries_text}
use Rattle.pages.proofs.Legible.{page_length, bin_length}

module _ (pages : ℕ) (r : Row) where
  pub entry_paged : r.number % 50 ≡ 1 → entry_text pages r ≡ line_text (page (pages + r.number / 50 + 1)) ++ line_text (bin r)
  unfolding flatten
  entry_paged h = rw (eq-eqb (r.number % 50) 1 h, append-nil)

  pub entry_plain : (r.number % 50 ≡ 1 → ⊥) → entry_text pages r ≡ line_text (bin r)
  unfolding flatten
  entry_plain h = rw (ne_eqb (r.number % 50) 1 h, append-nil)

  pub entries_more : (rs : List Row) → entries_text pages (r ∷ rs) ≡ entry_text pages r ++ entries_text pages rs
  unfolding flatten
  entries_more rs =
      ap flatten (map-append line_text (with_page pages r) (flatten (map (with_page pages) rs)))
      ∙ flatten_append (map line_text (with_page pages r)) (map line_text (flatten (map (with_page pages) rs)))

pub line_length_lem : (l : Line) → length (characters l) ≡ 40 → length (line_text l) ≡ line_length
line_length_lem l h = omega (arith, length-append (characters l) (code "\n" ∷ []))

pub page_line : (number : ℕ) → number < 1000 → length (line_text (page number)) ≡ line_length
page_line number few = line_length_lem (page number) (page_length number few)

pub bin_line : {capacity number : ℕ} {row : LedgerRow} → Legible capacity number row → length (line_text (bin (told capacity number row))) ≡ line_length
bin_line {capacity = capacity} {number = number} {row = row} l = line_length_lem (bin (told capacity number row)) (bin_length l)

module _ {capacity : ℕ} {row : LedgerRow} (pages : ℕ) (few : pages ≤ places) (place : ℕ) (l : Legible capacity (place + 1) row) where
  abbrev r : Row
  r = told capacity (place + 1) row

  -- With it, the lines so far are one more, and one more again where it opens a page.
  pub entry_length : lines_length place + length (entry_text pages r) ≡ lines_length (place + 1)
  entry_length = go (eqb ((place + 1) % 50) 1) refl
    where
      go : (t : Bool) → eqb ((place + 1) % 50) 1 ≡ t → lines_length place + length (entry_text pages r) ≡ lines_length (place + 1)
      go true e =
          let h = eqb-true ((place + 1) % 50) 1 e in
          let opening = page (pages + (place + 1) / 50 + 1) in
          omega (
            arith,
            ap length (entry_paged pages r h),
            length-append (line_text opening) (line_text (bin r)),
            page_line (pages + (place + 1) / 50 + 1) (omega (arith, l.number_few)),
            bin_line l,
          )
      go false e =
          let h : ((place + 1) % 50 ≡ 1 → ⊥) = eqb-false ((place + 1) % 50) 1 e in
          omega (arith, ap length (entry_plain pages r h), bin_line l)

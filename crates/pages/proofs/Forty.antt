-- "Each line has exactly 40 characters", and so the text of a packing's lines is as long as their number tells.
use mathlib.Core.Path.{◌≡◌, refl, ap, subst}
use mathlib.Core.Logic.{⊎_elim}
use mathlib.Core.Bool.{Bool, true, false}
use mathlib.Core.List.Memᴰ
use mathlib.Core.List.{List, [], ◌∷◌, ◌++◌, map, flatten, Memᴰ}
use Prim.Native.Nat.{ℕ, ◌+◌, ◌*◌, ◌/◌, ◌%◌, ◌≤◌}
use native.Mathlib.Omega.{arith}
use lib.Dec.{eqb}
use lib.ListN.{length, length-append}
use Rattle.packing.specs.declared.Opening.{Opening}
use Rattle.std.specs.Prelude.{if◌then◌else◌}
use Rattle.packing.specs.Bins.{Packing, opened}
use Rattle.packing.proofs.Tests.{each_cons}
use Rattle.ledger.specs.declared.Row.{Row as LedgerRow}
use Rattle.ledger.specs.Rows.{places}
use Rattle.pages.specs.Pages.{Row, Line, page, bin, rows, lines, characters, line_text, lines_text}
use Rattle.pages.specs.Claims.{with_page}
use Rattle.pages.specs.Writing.{told, Legible, line_length, lines_length}
use Rattle.pages.proofs.Legible.{page_length, bin_length}
use Rattle.pages.proofs.Lined.{lines_count}
use Rattle.pages.proofs.Entries.{line_length_lem}
use Rattle.pages.proofs.Bins.{Printable, bin_legible, bins_count, bins_lined, bins_pages, told_is, each_row}

text_length : (ls : List Line) → ((l : Line) → Memᴰ l ls → length (characters l) ≡ 40) → length (lines_text ls) ≡ line_length * length ls
unfolding flatten
text_length [] h = refl
text_length (l ∷ ls) h =
    omega (
      arith,
      length-append (line_text l) (lines_text ls),
      line_length_lem l (h l (Memᴰ.head refl)),
      text_length ls (λ x m. h x (Memᴰ.tail m)),
    )

module _ (pages : ℕ) (few : pages ≤ places) where
  -- What holds of the lines of each row holds of all.
  each_line : (P : Line → Type 0) (rs : List Row) → ((r : Row) → Memᴰ r rs → (l : Line) → Memᴰ l (with_page pages r) → P l)
      → (l : Line) → Memᴰ l (flatten (map (with_page pages) rs)) → P l
  unfolding flatten
  each_line P [] h l m = absurd (Memᴰ.not-nil m)
  each_line P (r ∷ rs) h l m =
      ⊎_elim (h r (Memᴰ.head refl) l) (each_line P rs (λ x n. h x (Memᴰ.tail n)) l) (Memᴰ.append_cases (with_page pages r) m)

  -- A row's line has 40 characters, and so has that of the page which it opens.
  abbrev Lines40 : Row → Type 0
  Lines40 r = (l : Line) → Memᴰ l (with_page pages r) → length (characters l) ≡ 40

  row_40 : {capacity number : ℕ} {row : LedgerRow} → Legible capacity number row → Lines40 (told capacity number row)
  row_40 {capacity = capacity} {number = number} {row = row} h = go (eqb (number % 50) 1)
    where
      alone : (l : Line) → Memᴰ l (bin (told capacity number row) ∷ []) → length (characters l) ≡ 40
      alone = each_cons (λ l. length (characters l) ≡ 40) (bin_length h) (λ l m. absurd (Memᴰ.not-nil m))

      go : (t : Bool) → (l : Line) → Memᴰ l ((if t then page (pages + number / 50 + 1) ∷ [] else []) ++ bin (told capacity number row) ∷ [])
          → length (characters l) ≡ 40
      go true = each_cons (λ l. length (characters l) ≡ 40) (page_length (pages + number / 50 + 1) (omega (arith, h.number_few))) alone
      go false = alone

  pub lines_40 : {o : Opening} {p : Packing} → Printable o p → (l : Line) → Memᴰ l (lines pages (rows o p)) → length (characters l) ≡ 40
  lines_40 {o = o} {p = p} h =
      rw (bins_lined o pages p).opens
      (each_line (λ l. length (characters l) ≡ 40) (rows o p)
      (each_row o Lines40 1 p.bins (λ number n b m.
      subst Lines40 (told_is o number b (h.sound b m).not_overfull) (row_40 (bin_legible h number (omega (arith, n, h.bins_few)) b m)))))

  pub lines_length_lem : {o : Opening} {p : Packing} → Printable o p → length (lines_text (lines pages (rows o p))) ≡ lines_length (opened p)
  lines_length_lem {o = o} {p = p} h =
      let ls = lines pages (rows o p) in
      omega (arith, text_length ls (lines_40 h), lines_count ls, ap length (bins_lined o pages p).rows_are, bins_count o p, bins_pages o pages p)

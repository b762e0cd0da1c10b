-- The statements of ../specs/Claims.antt, proved: the pages by what is left of the last one, and by the rows' numbers.
use mathlib.Core.Path.{◌≡◌, refl, sym, ap, ◌∙◌}
use mathlib.Core.List.{List, [], ◌∷◌, ◌++◌, map, flatten}
use Prim.Native.Nat.{ℕ, zero, suc, ◌+◌, ◌*◌, ◌-◌, ◌/◌, ◌%◌, ◌<◌}
use native.Mathlib.Omega.{arith}
use borrow.Author.Tests.{eq-eqb, ne_eqb}
use lib.ListN.{length}
use Rattle.pages.specs.Pages.{Row, Line, page, bin, paged, page_numbers, pages_on, rows_on}
use Rattle.pages.specs.Claims.{count_up, with_page, Lined}

-- So many numbers are so many.
pub count_length : (first count : ℕ) → length (count_up first count) ≡ count
unfolding count_up
count_length first zero = refl
count_length first (suc count) = ap suc (count_length (suc first) count)

-- Each line is a page's or a row's.
pub lines_count : (ls : List Line) → length ls ≡ length (rows_on ls) + pages_on ls
unfolding page_numbers rows_on
lines_count [] = refl
lines_count (page number ∷ ls) = omega (arith, lines_count ls)
lines_count (bin r ∷ ls) = omega (arith, lines_count ls)

-- One row, that opens a page or not.
module _ (before : ℕ) (r : Row) where
  starts : r.number % 50 ≡ 1 → with_page before r ≡ page (before + r.number / 50 + 1) ∷ bin r ∷ []
  starts h = rw (eq-eqb (r.number % 50) 1 h)

  follows : (r.number % 50 ≡ 1 → ⊥) → with_page before r ≡ bin r ∷ []
  follows h = rw (ne_eqb (r.number % 50) 1 h)

-- After n rows so many pages are begun, with those before, and the last has so much room.
opens_from : (before : ℕ) (rs : List Row) (n pages room : ℕ) → map (λ r. r.number) rs ≡ count_up (suc n) (length rs) → 50 * before + n + room ≡ 50 * pages → room < 50
    → paged pages room rs ≡ flatten (map (with_page before) rs)
unfolding paged count_up flatten
opens_from before [] n pages room e h l = refl
opens_from before (r ∷ rs) n pages zero e h l =
    let number : r.number ≡ suc n = cc in
    let later : map (λ r. r.number) rs ≡ count_up (suc (suc n)) (length rs) = cc in
    let page_is : before + r.number / 50 + 1 ≡ suc pages = omega arith in
    ap (λ (ls : List Line). page (suc pages) ∷ bin r ∷ ls) (opens_from before rs (suc n) (suc pages) 49 later (omega arith) (omega arith))
    ∙ ap (λ (k : ℕ). page k ∷ bin r ∷ flatten (map (with_page before) rs)) (sym page_is)
    ∙ ap (λ (ls : List Line). ls ++ flatten (map (with_page before) rs)) (sym (starts before r (omega arith)))
opens_from before (r ∷ rs) n pages (suc room) e h l =
    let number : r.number ≡ suc n = cc in
    let later : map (λ r. r.number) rs ≡ count_up (suc (suc n)) (length rs) = cc in
    ap (λ (ls : List Line). bin r ∷ ls) (opens_from before rs (suc n) pages room later (omega arith) (omega arith))
    ∙ ap (λ (ls : List Line). ls ++ flatten (map (with_page before) rs)) (sym (follows before r (λ z. omega arith)))

-- The pages that the rows open, where the last page has so much room for them.
numbered_from : (rs : List Row) (pages room : ℕ) → room < 50 → page_numbers (paged pages room rs) ≡ count_up (suc pages) ((length rs + 49 - room) / 50)
unfolding paged page_numbers count_up
numbered_from [] pages room l = let e : 0 ≡ (0 + 49 - room) / 50 = omega arith in ap (count_up (suc pages)) e
numbered_from (r ∷ rs) pages zero l =
    let e : suc ((length rs + 49 - 49) / 50) ≡ (suc (length rs) + 49 - 0) / 50 = omega arith in
    ap (λ (ns : List ℕ). suc pages ∷ ns) (numbered_from rs (suc pages) 49 (omega arith)) ∙ ap (count_up (suc pages)) e
numbered_from (r ∷ rs) pages (suc room) l =
    let e : (length rs + 49 - room) / 50 ≡ (suc (length rs) + 49 - suc room) / 50 = omega arith in
    numbered_from rs pages room (omega arith) ∙ ap (count_up (suc pages)) e

rows_from_lem : (rs : List Row) (pages room : ℕ) → rows_on (paged pages room rs) ≡ rs
unfolding paged rows_on
rows_from_lem [] pages room = refl
rows_from_lem (r ∷ rs) pages zero = ap (λ (l : List Row). r ∷ l) (rows_from_lem rs (suc pages) 49)
rows_from_lem (r ∷ rs) pages (suc room) = ap (λ (l : List Row). r ∷ l) (rows_from_lem rs pages room)

pub lined : (pages : ℕ) (rs : List Row) → map (λ r. r.number) rs ≡ count_up 1 (length rs) → Lined pages rs
lined pages rs rising =
    let all : (length rs + 49 - 0) / 50 ≡ (length rs + 49) / 50 = omega arith in
    record {
      rows_are = rows_from_lem rs pages 0;
      opens = opens_from pages rs 0 pages 0 rising (omega arith) (omega arith);
      numbered = numbered_from rs pages 0 (omega arith) ∙ ap (count_up (suc pages)) all;
    }

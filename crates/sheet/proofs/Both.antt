-- The lines of one list of rows behind those of another, and what is read off both.
use mathlib.Core.Path.{◌≡◌, refl, ap, ◌∙◌}
use mathlib.Core.List.{List, [], ◌∷◌, ◌++◌, map, flatten, map-append}
use Prim.Native.Nat.{ℕ, zero, suc, ◌+◌}
use native.Mathlib.Omega.{arith}
use Rattle.packing.proofs.Running.{flatten_append}
use Rattle.pages.specs.Pages.{Row, Line, page, bin, page_numbers, rows_on, line_text, lines_text}
use Rattle.pages.specs.Claims.{count_up}

pub numbers_both : (a b : List Line) → page_numbers (a ++ b) ≡ page_numbers a ++ page_numbers b
unfolding page_numbers
numbers_both [] b = refl
numbers_both (page number ∷ a) b = ap (λ (ns : List ℕ). number ∷ ns) (numbers_both a b)
numbers_both (bin r ∷ a) b = numbers_both a b

pub rows_both : (a b : List Line) → rows_on (a ++ b) ≡ rows_on a ++ rows_on b
unfolding rows_on
rows_both [] b = refl
rows_both (page number ∷ a) b = rows_both a b
rows_both (bin r ∷ a) b = ap (λ (rs : List Row). r ∷ rs) (rows_both a b)

pub text_both : (a b : List Line) → lines_text (a ++ b) ≡ lines_text a ++ lines_text b
text_both a b = ap flatten (map-append line_text a b) ∙ flatten_append (map line_text a) (map line_text b)

-- Numbers that rise on.
pub count_on : (first m n : ℕ) → count_up first m ++ count_up (first + m) n ≡ count_up first (m + n)
unfolding count_up
count_on first zero n =
    let e : first + 0 ≡ first = omega arith in
    let z : n ≡ 0 + n = omega arith in
    ap (λ (k : ℕ). count_up k n) e ∙ ap (count_up first) z
count_on first (suc m) n =
    let e : first + suc m ≡ suc first + m = omega arith in
    let z : suc (m + n) ≡ suc m + n = omega arith in
    ap (λ (k : ℕ). first ∷ (count_up (suc first) m ++ count_up k n)) e
    ∙ ap (λ (ns : List ℕ). first ∷ ns) (count_on (suc first) m n)
    ∙ ap (count_up first) z

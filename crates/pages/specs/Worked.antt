-- How many pages so many rows have, worked: ../proofs/Worked.antt computes over these counts.
use Rattle.std.specs.Prelude.{List, [], ◌∷◌, ℕ}
use Rattle.pages.specs.Pages.{Row}

-- Some row.
abbrev pub some_row : Row
some_row = record { number = 1; class = 1; load = 60; free = 0; held = 1 }

-- So many rows beside so many pages: none has none, and 50 fill a page.
unfoldable pub counts : List (ℕ × ℕ)
counts = (0, 0) ∷ (1, 1) ∷ (50, 1) ∷ (51, 2) ∷ (100, 2) ∷ (101, 3) ∷ (512, 11) ∷ []

-- "Numbers are right-aligned with spaces": a number in a field of a width.
use Rattle.std.specs.Prelude.{List, [], ◌∷◌, ◌++◌, ℕ, ◌-◌, length, replicate}
use Prim.Native.Char.{code}
use Rattle.text.specs.Lines.{decimal}

abbrev pub spaces : ℕ → List ℕ
spaces n = replicate n (code " ")

-- The end of a line: so many spaces, and a newline.
abbrev pub ending : ℕ → List ℕ
ending n = spaces n ++ code "\n" ∷ []

-- A number with more digits than the width stands whole, with no space before it.
abbrev pub right : (width n : ℕ) → List ℕ
right width n = spaces (width - length (decimal n)) ++ decimal n

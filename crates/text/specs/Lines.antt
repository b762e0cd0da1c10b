-- Numbers in base ten and lines of figures, as rows of bytes in ASCII.
use Rattle.std.specs.Prelude.{true, false, List, [], ◌∷◌, ◌++◌, ℕ, zero, suc, ◌+◌, ◌/◌, ◌%◌, ltb}
use Prim.Native.Char.{code}

-- "0" to "9"
abbrev pub digit : ℕ → ℕ
digit d = code "0" + d

-- A number in base ten, most significant digit first, of so many digits at most.
unfoldable pub digits : (most n : ℕ) → List ℕ
digits zero n = []
digits (suc most) n = elim (ltb n 10) [
  | true ↦ digit n ∷ []
  | false ↦ digits most (n / 10) ++ digit (n % 10) ∷ []
]

-- "Numbers are in base ten": no number has more digits than one more than itself. 0 is "0", and no other number begins with a 0.
unfoldable pub decimal : ℕ → List ℕ
decimal n = digits (suc n) n

-- A figure stands behind a space.
abbrev pub figure : ℕ → List ℕ
figure n = code " " ∷ decimal n

-- The figures of a line, which ends in a newline.
abbrev pub figures : List ℕ → List ℕ
figures [] = code "\n" ∷ []
figures (n ∷ rest) = figure n ++ figures rest

-- "Lines": a letter and its figures.
unfoldable pub line : (letter : ℕ) → List ℕ → List ℕ
line letter ns = letter ∷ figures ns

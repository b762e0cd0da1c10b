-- How long a line is at most.
use mathlib.Core.List.{List, [], ◌∷◌}
use Prim.Native.Nat.{ℕ, suc, ◌+◌, ◌^◌, ◌≤◌, ◌<◌}
use native.Mathlib.Omega.{arith}
use lib.ListN.{length, length-append}
use Rattle.text.specs.Lines.{figure, figures, line}
use Rattle.text.proofs.Decimals.{decimal_few}

-- A figure of so many digits, behind its space, before the others.
figures_few : (k a : ℕ) (ns : List ℕ) → a < 10 ^ suc k → length (figures (a ∷ ns)) ≤ k + 2 + length (figures ns)
figures_few k a ns h = omega (arith, length-append (figure a) (figures ns), decimal_few k a h)

-- Two figures, and three: with them stand a letter and a newline.
pub line_few : (letter j k : ℕ) (a b : ℕ) → a < 10 ^ suc j → b < 10 ^ suc k → length (line letter (a ∷ b ∷ [])) ≤ j + k + 6
unfolding line
line_few letter j k a b h r = omega (arith, figures_few j a (b ∷ []) h, figures_few k b [] r)

pub long_line_few : (letter i j k : ℕ) (a b c : ℕ) → a < 10 ^ suc i → b < 10 ^ suc j → c < 10 ^ suc k → length (line letter (a ∷ b ∷ c ∷ [])) ≤ i + j + k + 8
unfolding line
long_line_few letter i j k a b c h r q = omega (arith, figures_few i a (b ∷ c ∷ []) h, figures_few j b (c ∷ []) r, figures_few k c [] q)

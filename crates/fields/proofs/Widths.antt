-- How wide a field is: its width, where the digits of its number fit, as those of a number below 10 ^ width do.
use mathlib.Core.Path.{◌≡◌, ap}
use mathlib.Core.List.{[], ◌∷◌, ◌++◌}
use Prim.Native.Nat.{ℕ, suc, ◌+◌, ◌-◌, ◌^◌, ◌≤◌, ◌<◌}
use Prim.Native.Char.{code}
use native.Mathlib.Omega.{arith}
use lib.ListN.{length, length-append, length-replicate, replicate-append-replicate}
use Rattle.text.specs.Lines.{decimal}
use Rattle.text.proofs.Decimals.{decimal_few}
use Rattle.fields.specs.Fields.{spaces, right}

pub spaces_length : (n : ℕ) → length (spaces n) ≡ n
spaces_length n = length-replicate n (code " ")

-- One more, at the end.
pub spaces_more : (n : ℕ) → spaces n ++ code " " ∷ [] ≡ spaces (n + 1)
spaces_more n = replicate-append-replicate n 1 (code " ")

module _ (width n : ℕ) (fits : length (decimal n) ≤ width) where
  pub right_length : length (right width n) ≡ width
  right_length = omega (arith, fits, length-append (spaces (width - length (decimal n))) (decimal n), spaces_length (width - length (decimal n)))

  -- One place wider is one space more in front.
  pub right_wider : right (suc width) n ≡ spaces 1 ++ right width n
  right_wider =
      let e : suc width - length (decimal n) ≡ suc (width - length (decimal n)) = omega (arith, fits) in
      ap (λ (k : ℕ). spaces k ++ decimal n) e

-- A number below 10 ^ w, for a w from 1 on, fills a field of the width w and no more.
pub right_fills : (k n : ℕ) → n < 10 ^ suc k → length (right (suc k) n) ≡ suc k
right_fills k n h = right_length (suc k) n (decimal_few k n h)

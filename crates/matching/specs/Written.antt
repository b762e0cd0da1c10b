-- The answers as they are written: pair after pair, the sound's place goes to the place of the picture. It is what a function that makes one pair after the
-- other promises; Claims says that a row of zeros then has the answers of Pairs.
use Rattle.std.specs.Prelude.{◌-◌, set, ◌∷◌}
use Rattle.packing.specs.Prelude.{ℕ, List, []}
use Rattle.matching.specs.Pairs.{Pair}

unfoldable pub written : List Pair → (row : List ℕ) → List ℕ
written [] row = row
written (p ∷ ps) row = written ps (set row (p.picture.command - 1) p.sound.command)

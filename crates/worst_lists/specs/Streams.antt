-- A list of sizes as a stream: the opening 01, and a command 02 for each.
use Rattle.std.specs.Prelude.{◌/◌, ◌%◌, ◌∷◌, ◌++◌}
use Rattle.packing.specs.Prelude.{ℕ, List, [], map, flatten}
use Rattle.packing.specs.declared.{Opening.Opening}

-- Numbers of four bytes and of two, the most significant first.
abbrev pub four : ℕ → List ℕ
four n = n / 16777216 ∷ n / 65536 % 256 ∷ n / 256 % 256 ∷ n % 256 ∷ []

abbrev pub two : ℕ → List ℕ
two n = n / 256 ∷ n % 256 ∷ []

abbrev pub shelving : (size : ℕ) → List ℕ
shelving s = 0x02 ∷ four s

abbrev pub sending : Opening → List ℕ → List ℕ
sending o sizes = 0x01 ∷ four o.capacity ++ two o.stock ++ o.m ∷ flatten (map shelving sizes)

-- An operand read byte by byte: what is read so far, with the bytes still to come, is the operand.
use mathlib.Core.Path.{◌≡◌}
use mathlib.Core.List.{List, ◌∷◌, foldl}
use Prim.Native.Nat.{ℕ, ◌+◌, ◌*◌, ◌^◌, ◌≤◌, ◌<◌}
use native.Mathlib.Nat.{pow-suc, pow-le-pow_right}
use native.Mathlib.Numerals.{add-one}
use native.Mathlib.Omega.{arith}
use lib.ListN.{length, drop, get_or}
use lib.Seq.{drop-cons}

-- n is the number that the first i bytes give.
pub record Begun (bytes : List ℕ) (n i : ℕ) : Type 0 where
  pub to_come : foldl (λ n b. n * 256 + b) n (drop i bytes) ≡ foldl (λ n b. n * 256 + b) 0 bytes
  pub small : n < 256 ^ i

module _ {bytes : List ℕ} {n i : ℕ} (b : Begun bytes n i) (inside : i < length bytes) where
  pub begun_next : get_or bytes i 0 < 256 → Begun bytes (n * 256 + get_or bytes i 0) (i + 1)
  begun_next byte =
      let next : drop i bytes ≡ get_or bytes i 0 ∷ drop (i + 1) bytes = rw add-one (drop-cons bytes i 0 inside) in
      let power : 256 ^ (i + 1) ≡ 256 ^ i * 256 = rw add-one (pow-suc 256 i) in
      record { to_come = rw next at b.to_come; small = omega (arith, b.small) }

  -- Of up to 4 bytes it fits 32 bits with one more.
  pub begun_fits : length bytes ≤ 4 → n < 256 ^ 3
  begun_fits few =
      let some : 0 < 256 = omega arith in
      let up_to_3 : i ≤ 3 = omega arith in
      omega (arith, b.small, pow-le-pow_right some up_to_3)

-- Powers of two, doubled as long as they stay below the number of bins; and so at most the next power.
use mathlib.Core.Path.{◌≡◌}
use Prim.Native.Nat.{ℕ, zero, suc, ◌*◌, ◌/◌, ◌^◌, ◌≤◌, ◌<◌, max}
use native.Mathlib.Nat.{two-pow-succ}
use native.Mathlib.Decide.{dec_le}
use native.Mathlib.Omega.{arith}
use lib.Pow.{pow_mono, pow_pos, pow-lt}
use Rattle.tournament.specs.declared.Shape.{Shape}
use Rattle.std.specs.Int.{IsPowerOfTwo}
use Rattle.tournament.specs.Shapes.{Fitted}

-- A power of two is above its exponent.
pub below_power : (h : ℕ) → h < 2 ^ h
below_power zero = omega arith
below_power (suc h) = omega (arith, two-pow-succ h, below_power h)

exactly : (h k : ℕ) → 2 ^ k ≤ 2 ^ h → 2 ^ h < 2 ^ suc k → h ≡ k
exactly h k low high = elim (dec_le (suc k) h) [
  | yes y ↦ absurd (omega (arith, pow_mono y))
  | no y ↦ elim (dec_le k h) [
    | yes z ↦ omega arith
    | no z ↦ (let l : h < k = omega arith in absurd (omega (arith, pow-lt l)))
  ]
]

-- The power of two that std finds for a number of bins has the height that std finds for it, and no lower power reaches the number.
pub fitted : {bins places height : ℕ} → IsPowerOfTwo places → bins ≤ places → places / 2 < max 1 bins
    → 2 ^ height ≤ places → places < 2 * 2 ^ height → Fitted bins (record { places = places; height = height })
fitted {bins} {places} {height} (h, power) enough few low high =
    let same : h ≡ height = exactly h height (omega arith) (omega (arith, two-pow-succ height)) in
    record {
      power = rw same at power;
      enough = enough;
      least = λ k q. elim (dec_le height k) [
        | yes y ↦ y
        | no n ↦ (let up : suc k ≤ height = omega arith in absurd (omega (arith, pow_mono up, two-pow-succ k, pow_pos k)))
      ];
    }

-- The least power is at most any that is enough.
pub places_few : {bins : ℕ} {shape : Shape} → Fitted bins shape → (k : ℕ) → bins ≤ 2 ^ k → shape.places ≤ 2 ^ k
places_few f k enough = omega (arith, f.power, pow_mono (f.least k enough))

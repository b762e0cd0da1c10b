-- Numbers in base ten: the digits by tens and ones, how many there are, and what they are read as.
use mathlib.Core.Path.{◌≡◌, sym, ap, ◌∙◌}
use mathlib.Core.List.{List, [], ◌∷◌, ◌++◌, foldl, foldl-append}
use Prim.Native.Nat.{ℕ, zero, suc, ◌+◌, ◌*◌, ◌-◌, ◌/◌, ◌%◌, ◌^◌, ◌≤◌, ◌<◌}
use native.Mathlib.Nat.{pow-succ', one-le-pow}
use native.Mathlib.Omega.{arith}
use native.Mathlib.Decide.{dec_le}
use borrow.Author.Tests.{lt-ltb, le-ltb}
use lib.ListN.{length, get_or, length-append, get_or-append}
use Rattle.text.specs.Lines.{digit, digits, decimal}

digits_one : (most n : ℕ) → n < 10 → digits (suc most) n ≡ digit n ∷ []
unfolding digits
digits_one most n h = rw (lt-ltb n 10 h, digits)

digits_more : (most n : ℕ) → 10 ≤ n → digits (suc most) n ≡ digits most (n / 10) ++ digit (n % 10) ∷ []
unfolding digits
digits_more most n h = rw (le-ltb n 10 h, digits)

-- More digits than the number itself says are enough, so any such limit gives the same.
digits_enough : (f g n : ℕ) → n < f → n < g → digits f n ≡ digits g n
digits_enough zero g n h k = absurd (omega arith)
digits_enough (suc f) zero n h k = absurd (omega arith)
digits_enough (suc f) (suc g) n h k = elim (dec_le 10 n) [
  | yes large ↦
      digits_more f n large ∙ ap (λ (l : List ℕ). l ++ digit (n % 10) ∷ []) (digits_enough f g (n / 10) (omega arith) (omega arith))
      ∙ sym (digits_more g n large)
  | no small ↦ digits_one f n (omega arith) ∙ sym (digits_one g n (omega arith))
]

pub decimal_small : (n : ℕ) → n < 10 → decimal n ≡ digit n ∷ []
unfolding decimal
decimal_small n h = digits_one n n h

pub decimal_large : (n : ℕ) → 10 ≤ n → decimal n ≡ decimal (n / 10) ++ digit (n % 10) ∷ []
unfolding decimal
decimal_large n h =
    digits_more n n h ∙ ap (λ (l : List ℕ). l ++ digit (n % 10) ∷ []) (digits_enough n (suc (n / 10)) (n / 10) (omega arith) (omega arith))

pub decimal_longer : (n : ℕ) → 10 ≤ n → length (decimal n) ≡ length (decimal (n / 10)) + 1
decimal_longer n h = ap length (decimal_large n h) ∙ length-append (decimal (n / 10)) (digit (n % 10) ∷ [])

-- A number by its tens, if it has any, and its last digit.
pub ruleset by_tens = (decimal_small, decimal_large, decimal_longer)

-- A number below 10 ^ k, for a k from 1 on, has at most k digits.
pub decimal_few : (k n : ℕ) → n < 10 ^ suc k → length (decimal n) ≤ suc k
decimal_few zero n h = omega (arith, ap length (decimal_small n (omega arith)))
decimal_few (suc k) n h = elim (dec_le 10 n) [
  | yes large ↦
      let tens = decimal_few k (n / 10) (omega (arith, pow-succ' 10 (suc k))) in
      omega (arith, decimal_longer n large)
  | no small ↦ omega (arith, ap length (decimal_small n (omega arith)))
]

pub decimal_some : (n : ℕ) → 1 ≤ length (decimal n)
decimal_some n = elim (dec_le 10 n) [
  | yes large ↦ omega (arith, decimal_longer n large)
  | no small ↦ omega (arith, ap length (decimal_small n (omega arith)))
]

-- One from 10 ^ k on has more than k.
pub decimal_many : (k n : ℕ) → 10 ^ k ≤ n → suc k ≤ length (decimal n)
decimal_many zero n h = decimal_some n
decimal_many (suc k) n h =
    let more : 10 * 10 ^ k ≤ n = rw (pow-succ' 10 k) at h in
    let large : 10 ≤ n = omega (arith, one-le-pow k 10 (omega arith)) in
    let tens = decimal_many k (n / 10) (omega arith) in
    omega (arith, decimal_longer n large)

-- One between two powers has so many.
pub decimal_length : (k n : ℕ) → 10 ^ k ≤ n → n < 10 * 10 ^ k → length (decimal n) ≡ k + 1
decimal_length k n least most = omega (arith, decimal_few k n (omega (arith, pow-succ' 10 k)), decimal_many k n least)

-- What digits are read as.
abbrev pub read_as : List ℕ → ℕ
read_as l = foldl (λ v d. v * 10 + (d - digit 0)) 0 l

-- The digits of a number are read as the number.
pub decimal_reads : (n : ℕ) → read_as (decimal n) ≡ n
decimal_reads n = go (suc n) n (omega arith)
  where
    go : (f n : ℕ) → n < f → read_as (decimal n) ≡ n
    go zero n h = absurd (omega arith)
    go (suc f) n h = elim (dec_le 10 n) [
      | yes large ↦
          ap read_as (decimal_large n large) ∙ foldl-append (λ v d. v * 10 + (d - digit 0)) 0 (decimal (n / 10)) (digit (n % 10) ∷ [])
          ∙ omega (arith, go f (n / 10) (omega arith))
      | no small ↦ ap read_as (decimal_small n (omega arith)) ∙ omega arith
    ]

-- A number from 1 on does not begin with a 0.
pub decimal_leads : (n : ℕ) → 1 ≤ n → digit 1 ≤ get_or (decimal n) 0 0
decimal_leads n = go (suc n) n (omega arith)
  where
    go : (f n : ℕ) → n < f → 1 ≤ n → digit 1 ≤ get_or (decimal n) 0 0
    go zero n h k = absurd (omega arith)
    go (suc f) n h k = elim (dec_le 10 n) [
      | yes large ↦
          let tens = go f (n / 10) (omega arith) (omega arith) in
          omega (arith, tens, ap (λ (l : List ℕ). get_or l 0 0) (decimal_large n large), get_or-append (decimal (n / 10)) (digit (n % 10) ∷ []) 0 0 (decimal_some (n / 10)))
      | no small ↦ omega (arith, ap (λ (l : List ℕ). get_or l 0 0) (decimal_small n (omega arith)))
    ]

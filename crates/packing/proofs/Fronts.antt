-- The command at the front of a stream: the tests that a whole one has passed.
use mathlib.Core.Path.{◌≡◌, refl, ap, ◌∙◌}
use mathlib.Core.Bool.{Bool, true, false}
use mathlib.Core.List.{List, [], ◌∷◌}
use Prim.Native.Nat.{ℕ, ◌+◌, ◌≤◌}
use native.Mathlib.Omega.{arith}
use lib.Dec.{ltb}
use lib.ListN.{length, drop}
use borrow.Author.Tests.{le-ltb, ltb-false}
use Rattle.std.specs.Prelude.{if◌then◌else◌}
use Rattle.packing.specs.Prelude.{Command, Option, None, Some, CutShort, SecondOpening, NoProduction}
use Rattle.packing.specs.Streams.{is_opening, first_byte, widths, lookup, command_of, names_none, whole, faulty, front, front_of}
use Rattle.packing.proofs.Tests.{clash}

-- The tests that a whole front has passed.
pub record Passing (s : List ℕ) (w : ℕ) : Type 0 where
  pub known : lookup (first_byte s) widths ≡ Some w
  pub no_opening : is_opening (first_byte s) ≡ false
  pub inside : w + 1 ≤ length s
  pub names_one : names_none (first_byte s) (drop 1 s) ≡ false

pub front_whole : (s : List ℕ) (w : ℕ) → Passing s w → front_of s ≡ whole (command_of (first_byte s) (drop 1 s)) w
front_whole [] w p = absurd (omega (arith, p.inside))
front_whole (b ∷ s) w p =
    let long : w ≤ length s = omega (arith, p.inside) in
    ap (front b s) p.known ∙ rw (p.no_opening, le-ltb (length s) w long, p.names_one)

pub whole_passed : (s : List ℕ) (c : Command) (w : ℕ) → front_of s ≡ whole c w → Passing s w
whole_passed [] c w e = clash (cc)
whole_passed (b ∷ s) c w e = go (lookup b widths) refl e
  where
    fits : (v : ℕ) (t u n : Bool) → lookup b widths ≡ Some v → is_opening b ≡ t → ltb (length s) v ≡ u → names_none b s ≡ n
        → (if t then faulty SecondOpening else if u then faulty CutShort else if n then faulty NoProduction else whole (command_of b s) v) ≡ whole c w
        → Passing (b ∷ s) w
    fits v true u n k o p x q = clash (cc)
    fits v false true n k o p x q = clash (cc)
    fits v false false true k o p x q = clash (cc)
    fits v false false false k o p x q =
        let same : v ≡ w = cc in
        record { known = k ∙ ap Some same; no_opening = o; inside = omega (arith, ltb-false (length s) v p); names_one = x }

    go : (k : Option ℕ) → lookup b widths ≡ k → front b s k ≡ whole c w → Passing (b ∷ s) w
    go None p q = clash (cc)
    go (Some v) p q = fits v (is_opening b) (ltb (length s) v) (names_none b s) p refl refl refl q

-- A stream is refused at its 4,097th command at the latest, and no command is longer than the longer opening: so an offset is small.
use mathlib.Core.Path.{◌≡◌, refl}
use mathlib.Core.Bool.{Bool, true, false, not, ◌||◌}
use mathlib.Core.List.{List, [], ◌∷◌}
use Prim.Native.Nat.{ℕ, zero, suc, ◌+◌, ◌*◌, ◌≤◌}
use native.Mathlib.Omega.{arith}
use lib.Dec.{eqb, ltb}
use lib.ListN.{length, drop, length-drop}
use borrow.Author.Tests.{ltb-false}
use Rattle.std.specs.Prelude.{if◌then◌else◌}
use Rattle.packing.specs.Prelude.{any, Opening, Command, WidthRow, Some, NoOpening, CutShort, OutsideLimits, TooFewWords}
use Rattle.packing.specs.Limits.{opening_good, most_commands}
use Rattle.packing.specs.Streams.{is_opening, opening_width, widths, lookup, opening_of, Front, whole, faulty, front_of}
use Rattle.packing.specs.Streams.{Read, accepted, refused, follow, commands, read, lent, verdict}
use Rattle.packing.proofs.Tests.{clash}
use Rattle.packing.proofs.Fronts.{Passing, whole_passed}

-- The width of the longer opening, and its length with the opcode.
abbrev pub widest : ℕ
widest = opening_width 0x11

abbrev pub longest : ℕ
longest = suc widest

-- No row of a table that passes this test is wider.
abbrev wider : WidthRow → Bool
wider row = ltb widest row.width

lookup_most : (b w : ℕ) (rows : List WidthRow) → any wider rows ≡ false → lookup b rows ≡ Some w → w ≤ widest
unfolding lookup any
lookup_most b w [] t e = clash (cc)
lookup_most b w (row ∷ rows) t e = go (eqb row.opcode b) (wider row) refl t e (lookup_most b w rows)
  where
    go : (s x : Bool) → wider row ≡ x → (x || any wider rows) ≡ false → (if s then Some row.width else lookup b rows) ≡ Some w
        → (any wider rows ≡ false → lookup b rows ≡ Some w → w ≤ widest) → w ≤ widest
    go s true p q r h = clash (cc)
    go true false p q r h = let same : row.width ≡ w = cc in omega (arith, ltb-false widest row.width p)
    go false false p q r h = h q r

widths_most : (b w : ℕ) → lookup b widths ≡ Some w → w ≤ widest
unfolding widths any
widths_most b w e = lookup_most b w widths refl e

-- What is read with so many commands left: a refusal's offset, and the length of what is accepted.
abbrev pub Short : (left offset : ℕ) → List ℕ → Read → Type 0
Short left offset s (accepted o cs) = length s ≤ longest * left
Short left offset s (refused reason at) = at ≤ offset + longest * left

follow_short : (left offset w : ℕ) (b : ℕ) (s : List ℕ) (c : Command) (r : Read) → Passing (b ∷ s) w → Short left (offset + suc w) (drop w s) r
    → Short (suc left) offset (b ∷ s) (follow c r)
follow_short left offset w b s c (accepted o cs) f h = omega (arith, widths_most b w f.known, f.inside, length-drop w s)
follow_short left offset w b s c (refused reason at) f h = omega (arith, widths_most b w f.known)

commands_short : (o : Opening) (left offset : ℕ) (s : List ℕ) → Short left offset s (commands o left offset s)
unfolding commands
commands_short o zero offset [] = omega arith
commands_short o zero offset (b ∷ s) = omega arith
commands_short o (suc left) offset [] = omega arith
commands_short o (suc left) offset (b ∷ s) = go (front_of (b ∷ s)) refl (commands_short o left)
  where
    go : (f : Front) → front_of (b ∷ s) ≡ f → ((offset : ℕ) (s : List ℕ) → Short left offset s (commands o left offset s))
        → Short (suc left) offset (b ∷ s) (commands o (suc left) offset (b ∷ s))
    go (faulty reason) q h = rw (q, commands) (omega arith)
    go (whole c w) q h =
        rw (q, commands)
        (follow_short left offset w b s c (commands o left (offset + suc w) (drop w s)) (whole_passed (b ∷ s) c w q) (h (offset + suc w) (drop w s)))

-- With the opening, its own length more.
opening_most : (b : ℕ) → opening_width b ≤ widest
opening_most b = go (eqb b 0x11)
  where
    go : (t : Bool) → (if t then 9 else 7) ≤ widest
    go true = omega arith
    go false = omega arith

read_short : (stream : List ℕ) → Short (suc most_commands) 0 stream (read stream)
unfolding read
read_short [] = omega arith
read_short (b ∷ s) = go (is_opening b) (ltb (length s) (opening_width b)) (opening_good (opening_of b s)) refl
  where
    rest : Read
    rest = commands (opening_of b s) most_commands (suc (opening_width b)) (drop (opening_width b) s)

    later : (r : Read) → opening_width b ≤ length s → Short most_commands (suc (opening_width b)) (drop (opening_width b) s) r → Short (suc most_commands) 0 (b ∷ s) r
    later (accepted o cs) l h = omega (arith, length-drop (opening_width b) s, opening_most b)
    later (refused reason at) l h = omega (arith, opening_most b)

    go : (t u v : Bool) → ltb (length s) (opening_width b) ≡ u
        → Short (suc most_commands) 0 (b ∷ s)
        (if not t then refused NoOpening 0 else if u then refused CutShort 0 else if not v then refused OutsideLimits 0 else rest)
    go false u v p = omega arith
    go true true v p = omega arith
    go true false false p = omega arith
    go true false true p =
        later rest (ltb-false (length s) (opening_width b) p) (commands_short (opening_of b s) most_commands (suc (opening_width b)) (drop (opening_width b) s))

-- Nor does refusal 7, at the stream's length, change that.
pub verdict_short : (stream : List ℕ) (words : ℕ) → Short (suc most_commands) 0 stream (verdict stream words)
verdict_short stream words = go (read stream) (read_short stream)
  where
    go : (r : Read) → Short (suc most_commands) 0 stream r → Short (suc most_commands) 0 stream (lent words (length stream) r)
    go (accepted o cs) h = enough (ltb words (length cs))
      where
        enough : (t : Bool) → Short (suc most_commands) 0 stream (if t then refused TooFewWords (length stream) else accepted o cs)
        enough true = h
        enough false = h
    go (refused reason at) h = h

-- A stream that begins with 01, and the same with 11 and a trailer of 0: the opening and the commands are read alike, each command two bytes later.
use mathlib.Core.Path.{◌≡◌, refl, sym, ap, ◌∙◌}
use mathlib.Core.Bool.{Bool, true, false}
use mathlib.Core.List.{List, [], ◌∷◌}
use Prim.Native.Nat.{ℕ, zero, suc, ◌+◌}
use native.Mathlib.Omega.{arith}
use lib.Dec.{ltb}
use lib.ListN.{length, take, drop, length-append, take-append-drop}
use Rattle.packing.specs.declared.{Opening.Opening, Command.Command, Outcome.Outcome}
use Rattle.packing.specs.declared.StreamReason.TheVariants.{TooFewWords}
use Rattle.std.specs.Prelude.{if◌then◌else◌}
use Rattle.packing.specs.Limits.{opening_good, most_commands}
use Rattle.packing.specs.Streams.{opening_width, opening_of, Front, whole, faulty, front_of, Read, accepted, refused, follow, commands, read, lent, verdict}
use Rattle.alike.specs.Openings.{without_trailer, with_zero_trailer, moved}
use Rattle.packing.specs.Run.{row_at_exit}
use Rattle.alike.specs.Claims.{OpenedAlike}
use Rattle.packing.proofs.Openings.{read_outside, read_good}
use Rattle.packing.proofs.Accepted.{accepted_whole}

follow_moved : (c : Command) (r : Read) → follow c (moved r) ≡ moved (follow c r)
follow_moved c (accepted o cs) = refl
follow_moved c (refused reason offset) = refl

-- Behind the opening, every offset is two more.
commands_moved : (o : Opening) (left before : ℕ) (s : List ℕ) → commands o left (suc before + 2) s ≡ moved (commands o left (suc before) s)
unfolding commands
commands_moved o zero before [] = refl
commands_moved o zero before (b ∷ s) = refl
commands_moved o (suc left) before [] = refl
commands_moved o (suc left) before (b ∷ s) = go (front_of (b ∷ s)) refl (commands_moved o left)
  where
    go : (f : Front) → front_of (b ∷ s) ≡ f → ((before : ℕ) (s : List ℕ) → commands o left (suc before + 2) s ≡ moved (commands o left (suc before) s))
        → commands o (suc left) (suc before + 2) (b ∷ s) ≡ moved (commands o (suc left) (suc before) (b ∷ s))
    go (faulty reason) q h = rw (q, commands)
    go (whole c width) q h =
        let there : suc before + 2 + suc width ≡ suc (before + suc width) + 2 = omega arith in
        let here : suc (before + suc width) ≡ suc before + suc width = omega arith in
        rw (q, commands) (ap (follow c) (ap (λ n. commands o left n (drop width s)) there ∙ h (before + suc width) (drop width s))
        ∙ follow_moved c (commands o left (suc (before + suc width)) (drop width s)) ∙ ap (λ n. moved (follow c (commands o left n (drop width s)))) here)

-- The opening and what follows it, where the operands of 01 are whole.
module _ (a b c d e f g : ℕ) (rest : List ℕ) where
  abbrev operands : List ℕ
  operands = a ∷ b ∷ c ∷ d ∷ e ∷ f ∷ g ∷ rest

  whole_moved : read (with_zero_trailer operands) ≡ moved (read (without_trailer operands))
  whole_moved = go (opening_good (opening_of 0x01 operands)) refl
    where
      go : (t : Bool) → opening_good (opening_of 0x01 operands) ≡ t → read (with_zero_trailer operands) ≡ moved (read (without_trailer operands))
      go true q =
          read_good (with_zero_trailer operands) (omega arith) refl q ∙ commands_moved (opening_of 0x01 operands) most_commands 7 rest
          ∙ ap moved (sym (read_good (without_trailer operands) (omega arith) refl q))
      go false q =
          read_outside (with_zero_trailer operands) (omega arith) refl q ∙ ap moved (sym (read_outside (without_trailer operands) (omega arith) refl q))

-- Where they are cut short, so they are with the trailer.
read_moved : (s : List ℕ) → read (with_zero_trailer s) ≡ moved (read (without_trailer s))
unfolding read
read_moved [] = refl
read_moved (a ∷ []) = refl
read_moved (a ∷ b ∷ []) = refl
read_moved (a ∷ b ∷ c ∷ []) = refl
read_moved (a ∷ b ∷ c ∷ d ∷ []) = refl
read_moved (a ∷ b ∷ c ∷ d ∷ e ∷ []) = refl
read_moved (a ∷ b ∷ c ∷ d ∷ e ∷ f ∷ []) = refl
read_moved (a ∷ b ∷ c ∷ d ∷ e ∷ f ∷ g ∷ rest) = whole_moved a b c d e f g rest

-- Refusal 7 stands at the end of the stream, which is two bytes longer.
lent_moved : (words bytes : ℕ) (r : Read) → lent words (suc bytes + 2) (moved r) ≡ moved (lent words (suc bytes) r)
lent_moved words bytes (accepted o cs) = go (ltb words (length cs))
  where
    go : (t : Bool) → (if t then refused TooFewWords (suc bytes + 2) else accepted o cs) ≡ moved (if t then refused TooFewWords (suc bytes) else accepted o cs)
    go true = refl
    go false = refl
lent_moved words bytes (refused reason offset) = refl

two_longer : (s : List ℕ) → length (with_zero_trailer s) ≡ suc (length s) + 2
two_longer s =
    let first = take (opening_width 0x01) s in
    omega (arith, length-append first (0 ∷ 0 ∷ drop (opening_width 0x01) s), length-append first (drop (opening_width 0x01) s), ap length (take-append-drop (opening_width 0x01) s))

verdict_moved : (s : List ℕ) (words : ℕ) → verdict (with_zero_trailer s) words ≡ moved (verdict (without_trailer s) words)
verdict_moved s words =
    ap (lent words (length (with_zero_trailer s))) (read_moved s) ∙ ap (λ n. lent words n (moved (read (without_trailer s)))) (two_longer s)
    ∙ lent_moved words (length s) (read (without_trailer s))

rows_moved : (tells : Outcome → ℕ) (row : List ℕ) (r : Read) → row_at_exit tells (moved r) row ≡ row_at_exit tells r row
rows_moved tells row (accepted o cs) = refl
rows_moved tells row (refused reason offset) = refl

pub opened_alike : (s : List ℕ) (words : ℕ) → OpenedAlike s words
opened_alike s words =
    record {
      has_no_trailer = λ o cs e. ap (λ (x : Opening). x.trailer) (sym (accepted_whole words o cs (without_trailer s) e).opening_is);
      same_reading = verdict_moved s words;
      same_rows = λ tells row. ap (λ r. row_at_exit tells r row) (verdict_moved s words) ∙ rows_moved tells row (verdict (without_trailer s) words);
    }

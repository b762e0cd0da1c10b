-- A walk over the commands of a stream: those read so far, and the rest, with what it reads as and where it stands. The first pass, the run and the
-- report each make one.
use mathlib.Core.Path.{◌≡◌, refl, sym, ap, ◌∙◌}
use mathlib.Core.List.{List, [], ◌∷◌, ◌++◌, append_assoc, append-nil}
use Prim.Native.Nat.{ℕ, zero, suc, ◌+◌, ◌-◌, ◌≤◌, ◌<◌}
use native.Mathlib.Decide.{ℕ_discrete}
use native.Mathlib.Omega.{arith}
use lib.ListN.{length, take, drop, length-drop, length-append}
use lib.Seq.{take_all}
use Rattle.packing.specs.Prelude.{Opening, Command, StreamReason, TooManyCommands}
use Rattle.packing.specs.Limits.{most_commands}
use Rattle.packing.specs.Streams.{opening_length, behind_opening, Front, whole, faulty, front_of, WholeFront, Read, accepted, refused, follow, commands}
use Rattle.packing.proofs.Tests.{clash}
use Rattle.packing.proofs.Fronts.{whole_passed}
use Rattle.packing.proofs.Accepted.{refused_accepted}

-- One command, by what stands at the front.
module _ (o : Opening) (offset : ℕ) where
  pub commands_whole : (left : ℕ) (s : List ℕ) (c : Command) (w : ℕ) → front_of s ≡ whole c w
      → commands o (suc left) offset s ≡ follow c (commands o left (offset + suc w) (drop (suc w) s))
  unfolding commands
  commands_whole left [] c w e = clash (cc)
  commands_whole left (b ∷ s) c w e = rw (e, commands)

  pub commands_faulty : (left : ℕ) (s : List ℕ) (reason : StreamReason) → 1 ≤ length s → front_of s ≡ faulty reason → commands o (suc left) offset s ≡ refused reason offset
  unfolding commands
  commands_faulty left [] reason h e = absurd (omega arith)
  commands_faulty left (b ∷ s) reason h e = rw (e, commands)

  pub commands_full : (s : List ℕ) → 1 ≤ length s → commands o 0 offset s ≡ refused TooManyCommands offset
  unfolding commands
  commands_full [] h = absurd (omega arith)
  commands_full (b ∷ s) h = refl

  pub commands_none : (left : ℕ) (s : List ℕ) → length s ≡ 0 → commands o left offset s ≡ accepted o []
  unfolding commands
  commands_none zero [] h = refl
  commands_none (suc left) [] h = refl
  commands_none left (b ∷ s) h = absurd (omega arith)

-- Behind some commands.
abbrev behind : List Command → Read → Read
behind cs (accepted o ds) = accepted o (cs ++ ds)
behind cs (refused reason offset) = refused reason offset

behind_none : (r : Read) → behind [] r ≡ r
behind_none (accepted o cs) = refl
behind_none (refused reason offset) = refl

behind_one : (cs : List Command) (c : Command) (r : Read) → behind cs (follow c r) ≡ behind (cs ++ c ∷ []) r
behind_one cs c (accepted o ds) = ap (accepted o) (sym (append_assoc cs (c ∷ []) ds))
behind_one cs c (refused reason offset) = refl

-- What the commands behind the opening are read as.
abbrev pub read_behind : Opening → List ℕ → Read
read_behind o stream = commands o most_commands (opening_length stream) (behind_opening stream)

-- What follows the first n bytes, in the words of code that hands it on as a part of the slice.
pub part_is : (s : List ℕ) (n : ℕ) → n ≤ length s → take (length s - n) (drop n s) ≡ drop n s
part_is s n h = take_all (length s - n) (drop n s) (omega (arith, length-drop n s))

pub record Walk (o : Opening) (stream rest : List ℕ) (offset : ℕ) (past : List Command) : Type 0 where
  pub few : length past ≤ most_commands
  pub place : offset + length rest ≡ length stream
  pub to_come : read_behind o stream ≡ behind past (commands o (most_commands - length past) offset rest)

pub walk_start : (o : Opening) (stream rest : List ℕ) → opening_length stream ≤ length stream → rest ≡ behind_opening stream
    → Walk o stream rest (length stream - length rest) []
walk_start o stream rest h e =
    let passed : length stream - length rest ≡ opening_length stream = omega (arith, ap length e, length-drop (opening_length stream) stream) in
    record {
      few = omega arith;
      place = omega (arith, ap length e, length-drop (opening_length stream) stream);
      to_come = rw (passed, e, behind_none);
    }

module _ {o : Opening} {stream rest : List ℕ} {offset : ℕ} {past : List Command} (g : Walk o stream rest offset past) where
  -- Nothing is left: these are all.
  pub walk_end : length rest ≤ 0 → read_behind o stream ≡ accepted o past
  walk_end h =
      g.to_come ∙ ap (behind past) (commands_none o offset (most_commands - length past) rest (omega arith)) ∙ ap (accepted o) (append-nil past)

  -- As many are read as there may be.
  pub walk_full : 1 ≤ length rest → length past ≡ most_commands → read_behind o stream ≡ refused TooManyCommands offset
  walk_full some n =
      let none : most_commands - length past ≡ 0 = omega arith in
      g.to_come ∙ ap (λ k. behind past (commands o k offset rest)) none ∙ ap (behind past) (commands_full o offset rest some)

  -- More may come.
  module _ (more : length past < most_commands) where
    abbrev left : ℕ
    left = most_commands - (length past + 1)

    to_come_next : read_behind o stream ≡ behind past (commands o (suc left) offset rest)
    to_come_next = let one : most_commands - length past ≡ suc left = omega arith in g.to_come ∙ ap (λ k. behind past (commands o k offset rest)) one

    pub walk_faulty : 1 ≤ length rest → (reason : StreamReason) → front_of rest ≡ faulty reason → read_behind o stream ≡ refused reason offset
    walk_faulty some reason e = to_come_next ∙ ap (behind past) (commands_faulty o offset left rest reason some e)

    module _ (c : Command) (w : ℕ) (e : front_of rest ≡ whole c w) where
      pub walk_next : Walk o stream (drop (w + 1) rest) (offset + (w + 1)) (past ++ c ∷ [])
      walk_next =
          let count : length (past ++ c ∷ []) ≡ length past + 1 = length-append past (c ∷ []) in
          let used : suc w ≡ w + 1 = omega arith in
          record {
            few = omega arith;
            place = omega (arith, g.place, length-drop (w + 1) rest, (whole_passed rest c w e).inside);
            to_come =
                to_come_next ∙ ap (behind past) (commands_whole o offset left rest c w e)
                ∙ behind_one past c (commands o left (offset + suc w) (drop (suc w) rest)) ∙ rw (used, count);
          }

      -- The same, with the rest as code hands it on (part-is).
      pub walk_on : Walk o stream (take (length rest - (w + 1)) (drop (w + 1) rest)) (offset + (w + 1)) (past ++ c ∷ [])
      walk_on = rw (part_is rest (w + 1) (whole_passed rest c w e).inside) walk_next

  -- Over an accepted stream.
  module _ (all : List Command) (accepts : read_behind o stream ≡ accepted o all) where
    pub walked_all : length rest ≤ 0 → past ≡ all
    walked_all h = let e = walk_end h in cc

    -- Those past are the first of all.
    pub record Coming : Type 0 where
      pub later : List Command
      pub all_are : all ≡ past ++ later

    pub walk_coming : Coming
    walk_coming = go (commands o (most_commands - length past) offset rest) (sym g.to_come ∙ accepts)
      where
        go : (r : Read) → behind past r ≡ accepted o all → Coming
        go (accepted o' later) q = record { later = later; all_are = cc }
        go (refused reason n) q = refused_accepted q

    module _ (some : 1 ≤ length rest) where
      -- So there may be more.
      pub walk_more : length past < most_commands
      walk_more = elim (ℕ_discrete (length past) most_commands) [
        | yes n ↦ refused_accepted (sym (walk_full some n) ∙ accepts)
        | no n ↦ omega (arith, g.few, n)
      ]

      -- A whole command stands at the front.
      pub walk_whole : WholeFront rest
      walk_whole = go (front_of rest) refl
        where
          go : (f : Front) → front_of rest ≡ f → WholeFront rest
          go (whole c w) q = record { command = c; width = w; front_is = q }
          go (faulty reason) q = refused_accepted (sym (walk_faulty walk_more some reason q) ∙ accepts)

-- The run over the commands of an accepted stream: where it starts, what one more command adds, and where it ends. What stands for the shelf after the
-- commands past is said beside it, by whoever runs: a store that is lent or any other.
use mathlib.Core.Path.{◌≡◌, refl, sym, ap, ◌∙◌}
use mathlib.Core.List.{List, [], ◌∷◌, ◌++◌, map, map-append, append_assoc}
use Prim.Native.Nat.{ℕ, zero, suc, ◌+◌, ◌-◌, ◌≤◌, ◌<◌}
use native.Mathlib.Omega.{arith}
use lib.ListN.{length, drop, set, length-append, length-drop}
use lib.Seq.{drop-cons, set_at}
use Rattle.packing.specs.Prelude.{Opening, Command, Outcome}
use Rattle.packing.specs.Refusals.{word, free_units}
use Rattle.packing.specs.Limits.{most_commands}
use Rattle.packing.specs.Streams.{opening_length, behind_opening, words_lent, Front, whole, faulty, front_of, WholeFront, Read, accepted, refused, follow, commands}
use Rattle.packing.specs.Run.{answer_on, run_from, shelf, outcomes}
use Rattle.packing.specs.Underway.{Underway}
use Rattle.packing.specs.Claims.{WholeStream}
use Rattle.packing.proofs.Accepted.{refused_accepted}
use Rattle.packing.proofs.Fronts.{whole_passed}
use Rattle.packing.proofs.Running.{told_length, mapped_more}
use Rattle.packing.proofs.Walking.{commands_whole, commands_faulty, commands_full, commands_none}

-- A row that tells of outcomes, as far as it is written: the words of the commands past, and behind them those that were there.
abbrev Written : (tells : Outcome → ℕ) → Opening → List Command → (row words : List ℕ) → Type 0
Written tells o past row words = words ≡ map tells (outcomes o past) ++ drop (length past) row

module _ (tells : Outcome → ℕ) (o : Opening) (past : List Command) (row words : List ℕ) (h : Written tells o past row words) where
  -- It keeps its length.
  written_same : length past ≤ length row → length words ≡ length row
  written_same few =
      omega (arith, ap length h, length-append (map tells (outcomes o past)) (drop (length past) row), told_length o past tells, length-drop (length past) row)

  -- One more command writes the next word.
  written_next : length past < length row → (c : Command) (v : ℕ) → v ≡ tells (answer_on o (shelf o past) (suc (length past)) c)
      → Written tells o (past ++ c ∷ []) row (set words (length past) v)
  written_next left c v e =
      let before = map tells (outcomes o past) in
      let rest : drop (length past) row ≡ _ ∷ drop (suc (length past)) row = drop-cons row (length past) 0 left in
      let more : length (past ++ c ∷ []) ≡ suc (length past) = omega (arith, length-append past (c ∷ [])) in
      ap (λ l. set l (length past) v) (h ∙ ap (λ l. before ++ l) rest)
      ∙ set_at before _ (drop (suc (length past)) row) v (length past) (told_length o past tells)
      ∙ rw (mapped_more o past c (λ t. t.outcome), map-append, append_assoc, more, ← e)

-- It starts behind the opening, with all commands to come.
pub underway_start : {o : Opening} {stream row free_row : List ℕ} {all : List Command} → WholeStream stream (words_lent row free_row) o all → (rest : List ℕ)
    → rest ≡ behind_opening stream → Underway o row free_row [] all row free_row rest 0
unfolding run_from
underway_start {stream = stream} w rest e =
    record {
      done_are = refl;
      words_are = refl;
      free_are = refl;
      offset = opening_length stream;
      reads = rw e w.commands_whole;
      few = omega (arith, w.commands_few);
      enough = omega (arith, w.words_enough);
    }

module _ {o : Opening} {row free_row : List ℕ} {past later : List Command} {words free rest : List ℕ} {done : ℕ}
    (g : Underway o row free_row past later words free rest done) where
  pub underway_few : done ≤ most_commands
  underway_few = omega (arith, g.done_are, g.few)

  -- The rows keep their lengths.
  pub underway_same : (length words ≡ length row) × (length free ≡ length free_row)
  underway_same = (
    written_same word o past row words g.words_are (omega (arith, g.enough)),
    written_same free_units o past free_row free g.free_are (omega (arith, g.enough)),
  )

  -- Nothing is left: no command is to come.
  pub underway_end : length rest ≤ 0 → later ≡ []
  underway_end none = let e = sym (commands_none o g.offset (most_commands - length past) rest (omega arith)) ∙ g.reads in sym (cc)

  -- More is left: another command may come, and it is whole.
  more_left : 1 ≤ length rest → length past < most_commands
  more_left some = go (most_commands - length past) refl g.reads
    where
      go : (left : ℕ) → most_commands - length past ≡ left → commands o left g.offset rest ≡ accepted o later → length past < most_commands
      go zero e r = refused_accepted (sym (commands_full o g.offset rest some) ∙ r)
      go (suc left) e r = omega arith

  abbrev pub left : ℕ
  left = most_commands - (length past + 1)

  reads_next : 1 ≤ length rest → commands o (suc left) g.offset rest ≡ accepted o later
  reads_next some = let one : most_commands - length past ≡ suc left = omega (arith, more_left some) in sym (ap (λ k. commands o k g.offset rest) one) ∙ g.reads

  pub underway_whole : 1 ≤ length rest → WholeFront rest
  underway_whole some = go (front_of rest) refl
    where
      go : (f : Front) → front_of rest ≡ f → WholeFront rest
      go (whole c w) q = record { command = c; width = w; front_is = q }
      go (faulty reason) q = refused_accepted (sym (commands_faulty o g.offset left rest reason some q) ∙ reads_next some)

  -- The command at the front is the first of those to come.
  module _ (c : Command) (width : ℕ) (f : front_of rest ≡ whole c width) where
    some : 1 ≤ length rest
    some = omega (arith, (whole_passed rest c width f).inside)

    pub record Coming : Type 0 where
      pub after : List Command
      pub later_are : later ≡ c ∷ after
      pub reads : commands o left (g.offset + suc width) (drop (suc width) rest) ≡ accepted o after

    pub coming : Coming
    coming = go (commands o left (g.offset + suc width) (drop (suc width) rest)) refl (sym (commands_whole o g.offset left rest c width f) ∙ reads_next some)
      where
        go : (r : Read) → commands o left (g.offset + suc width) (drop (suc width) rest) ≡ r → follow c r ≡ accepted o later → Coming
        go (accepted o' after) e q = let same : o' ≡ o = cc in record { after = after; later_are = sym (cc); reads = e ∙ ap (λ x. accepted x after) same }
        go (refused reason offset) e q = refused_accepted q

    -- It is one of at most 4,096, and has a word in both rows.
    pub underway_more : done < most_commands
    underway_more = omega (arith, g.done_are, more_left some)

    word_left : length past < words_lent row free_row
    word_left = omega (arith, g.enough, ap length coming.later_are)

    pub underway_word : (done < length words) × (done < length free)
    underway_word = (omega (arith, word_left, g.done_are, underway_same.0), omega (arith, word_left, g.done_are, underway_same.1))

    -- The command is answered by its word in each.
    pub underway_next : (a : Outcome) (v f' : ℕ) (behind : List ℕ) → a ≡ answer_on o (shelf o past) (suc (length past)) c → v ≡ word a → f' ≡ free_units a
        → behind ≡ drop (width + 1) rest → Underway o row free_row (past ++ c ∷ []) coming.after (set words done v) (set free done f') behind (done + 1)
    underway_next a v f' behind e ev ef b =
        let more : length (past ++ c ∷ []) ≡ length past + 1 = length-append past (c ∷ []) in
        let used : suc width ≡ width + 1 = omega arith in
        record {
          done_are = omega (arith, g.done_are, more);
          words_are = rw g.done_are (written_next word o past row words g.words_are (omega (arith, word_left)) c v (ev ∙ ap word e));
          free_are = rw g.done_are (written_next free_units o past free_row free g.free_are (omega (arith, word_left)) c f' (ef ∙ ap free_units e));
          offset = g.offset + suc width;
          reads = rw (b, more, ← used) coming.reads;
          few = omega (arith, g.few, more, ap length coming.later_are);
          enough = omega (arith, g.enough, more, ap length coming.later_are);
        }

-- The lines of the answers, written one behind the other on a walk over an accepted stream.
use mathlib.Core.Path.{◌≡◌, refl, sym, ap, subst, ◌∙◌}
use mathlib.Core.List.{List, [], ◌∷◌, ◌++◌, flatten, map-append, append_assoc, append-nil}
use Prim.Native.Nat.{ℕ, suc, ◌+◌, ◌*◌, ◌≤◌, ◌<◌}
use native.Mathlib.Omega.{arith}
use native.Mathlib.Decide.{dec_le}
use lib.ListN.{length, drop, get_or, length-append}
use Rattle.packing.specs.declared.{Opening.Opening, Command.Command, Outcome.Outcome, Answer.Answer}
use Rattle.packing.specs.Limits.{most_commands}
use Rattle.packing.specs.Refusals.{word, free_units, outcome_of}
use Rattle.packing.specs.Streams.{behind_opening, whole, front_of, WholeFront}
use Rattle.packing.specs.Shelves.{Shelf}
use Rattle.packing.specs.Run.{answer_of, answer_on, run_from, shelf, answers}
use Rattle.packing.specs.Claims.{WholeStream}
use Rattle.packing.proofs.Limits.{in_limits}
use Rattle.packing.proofs.Accepted.{accepted_whole}
use Rattle.packing.proofs.Reached.{reached}
use Rattle.packing.proofs.Running.{flatten_append, mapped_more, word_ahead}
use Rattle.packing.proofs.Given.{Told, told_to, word_gives_back}
use Rattle.packing.proofs.Fronts.{whole_passed}
use Rattle.packing.proofs.Walking.{Walk, walk_start, walk_next, walk_coming, walked_all, walk_more, walk_whole}
use Rattle.text.specs.declared.Text.{Text}
use Rattle.text.specs.Writing.{Room, Appended}
use Rattle.text.proofs.Texts.{appended_none, appended_both}
use Rattle.answer_lines.specs.Lines.{line_of, answer_line, lines, most_of_a_line}
use Rattle.answer_lines.specs.Writing.{Listable, Listed}
use Rattle.answer_lines.proofs.Lengths.{answer_line_few}

pub listable_whole : {stream words free : List ℕ} {text : Text} (a : Listable stream words free text) → WholeStream stream most_commands a.opening a.commands
listable_whole {stream = stream} a = accepted_whole most_commands a.opening a.commands stream a.accepts

-- So many commands are past, and their lines stand behind the text.
pub record Listing (stream words free : List ℕ) (text₀ text : Text) (rest : List ℕ) (done : ℕ) : Type 0 where
  pub from : Listable stream words free text₀
  pub past : List Command
  pub offset : ℕ
  pub walk : Walk from.opening stream rest offset past
  pub done_are : done ≡ length past
  pub few : length (lines (answers from.opening past)) ≤ most_of_a_line * done
  pub wrote : Appended text₀ (lines (answers from.opening past)) text

pub listing_start : {stream words free : List ℕ} {text : Text} (rest : List ℕ) → Listable stream words free text → rest ≡ behind_opening stream
    → Listing stream words free text text rest 0
unfolding run_from flatten
listing_start {stream = stream} {text = text} rest a b = record {
  from = a;
  past = [];
  offset = _;
  walk = walk_start a.opening stream rest (listable_whole a).opening_whole b;
  done_are = refl;
  few = omega arith;
  wrote = appended_none text;
}

module _ {stream words free : List ℕ} {text₀ text : Text} {rest : List ℕ} {done : ℕ} (g : Listing stream words free text₀ text rest done) where
  abbrev o : Opening
  o = g.from.opening

  abbrev all : List Command
  all = g.from.commands

  ok : WholeStream stream most_commands o all
  ok = listable_whole g.from

  pub listing_end : length rest ≤ 0 → Listed stream text₀ text
  listing_end none =
      let same : g.past ≡ all = walked_all g.walk all ok.commands_whole none in
      record {
        opening = o;
        commands = all;
        accepts = g.from.accepts;
        wrote = subst (λ (cs : List Command). Appended text₀ (lines (answers o cs)) text) same g.wrote;
        few = omega (arith, ap (λ (cs : List Command). length (lines (answers o cs))) same, g.few, g.done_are, g.walk.few);
      }

  pub listing_whole : 1 ≤ length rest → WholeFront rest
  listing_whole some = walk_whole g.walk all ok.commands_whole some

  module _ (c : Command) (w : ℕ) (f : front_of rest ≡ whole c w) where
    more : length g.past < most_commands
    more = walk_more g.walk all ok.commands_whole (omega (arith, (whole_passed rest c w f).inside))

    pub listing_index : done < 4096
    listing_index = omega (arith, g.done_are, more)

    module _ (a : Outcome) (e : a ≡ outcome_of c (get_or words done 0) (get_or free done 0)) where
      abbrev before : Shelf
      before = shelf o g.past

      -- What the model answers.
      abbrev given : Outcome
      given = answer_on o before (suc (length g.past)) c

      can_be : Told o c given
      can_be = told_to o before (suc (length g.past)) (λ q. reached o q g.past) c

      stock : o.stock ≤ 512
      stock = (in_limits o ok.opening_is_good).stock.1

      -- The words at the command's place tell it.
      told : a ≡ given
      told =
          let coming = walk_coming (walk_next g.walk more c w f) all ok.commands_whole in
          let all_are : all ≡ g.past ++ c ∷ coming.later = coming.all_are ∙ append_assoc g.past (c ∷ []) coming.later in
          let here = word_ahead o g.past c word coming.later words g.from.others done (rw (← all_are) g.from.answers) g.done_are in
          let beside = word_ahead o g.past c free_units coming.later free g.from.other_frees done (rw (← all_are) g.from.frees) g.done_are in
          e ∙ ap (λ (n : ℕ). outcome_of c n (get_or free done 0)) here ∙ ap (outcome_of c (word given)) beside ∙ word_gives_back o stock c given can_be

      -- Its line, and with it the lines so far.
      abbrev printing : Answer
      printing = record { number = done + 1; outcome = a }

      line_few : length (answer_line printing) ≤ most_of_a_line
      line_few = rw told (answer_line_few o stock (in_limits o ok.opening_is_good).capacity.1 (done + 1) (omega (arith, listing_index)) c given can_be)

      lines_more : lines (answers o (g.past ++ c ∷ [])) ≡ lines (answers o g.past) ++ answer_line printing
      unfolding flatten
      lines_more =
          let number : suc (length g.past) ≡ done + 1 = omega (arith, g.done_are) in
          rw (mapped_more o g.past c answer_of, map-append, flatten_append, append-nil)
          (ap (λ (l : List ℕ). lines (answers o g.past) ++ l) (ap (λ (k : ℕ). line_of k given) number ∙ ap (line_of (done + 1)) (sym told)))

      pub listing_room : Room text (length (answer_line printing))
      listing_room = omega (arith, line_few, g.few, g.from.room, g.wrote, listing_index)

      pub listing_next : {text' : Text} (rest' : List ℕ) → Appended text (answer_line printing) text' → rest' ≡ drop (w + 1) rest
          → Listing stream words free text₀ text' rest' (done + 1)
      listing_next rest' wrote b = record {
        from = g.from;
        past = g.past ++ c ∷ [];
        offset = g.offset + (w + 1);
        walk = rw b (walk_next g.walk more c w f);
        done_are = omega (arith, g.done_are, length-append g.past (c ∷ []));
        few = omega (arith, ap length lines_more, length-append (lines (answers o g.past)) (answer_line printing), line_few, g.few);
        wrote = rw lines_more (appended_both g.wrote wrote);
      }

  -- A walk over all words is at the end of the stream.
  pub listing_all : 4096 ≤ done → length rest ≤ 0
  listing_all all = elim (dec_le 1 (length rest)) [
    | yes more ↦ let f = listing_whole more in absurd (omega (arith, listing_index f.command f.width f.front_is))
    | no none ↦ omega arith
  ]

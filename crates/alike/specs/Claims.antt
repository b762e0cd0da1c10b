-- What is the same of two lists of commands, or of two streams, as statements; ../proofs shows each of every opening and every list, or of every stream.
-- Those about two productions are beside their definitions (Independent).
use Rattle.std.specs.Prelude.{◌≡◌}
use Rattle.packing.specs.Prelude.{ℕ, Bool, List, map}
use Rattle.packing.specs.declared.{Opening.Opening, Production.Production, Command.Command, Outcome.Outcome}
use Rattle.packing.specs.Streams.{accepted, verdict}
use Rattle.packing.specs.Run.{Step, run, outcomes, shelf, still_shelved, placements, row_at_exit}
use Rattle.alike.specs.Openings.{without_trailer, with_zero_trailer, moved, no_trailer, by_stored}
use Rattle.alike.specs.LeftOut.{not_refused, changes, new_number, resent, outcomes_kept, renumbered_shelf, renumbered_shelved}

module _ (o : Opening) (cs : List Command) where
  -- "Class, load, the loads' sum, free units, refusal 9 and every plan go by the stored size": all is as without a trailer, with the stored sizes sent.
  pub record ByStoredSizes : Type 0 where
    pub same_outcomes : outcomes o cs ≡ outcomes (no_trailer o) (map (by_stored o) cs)
    pub same_shelf : shelf o cs ≡ shelf (no_trailer o) (map (by_stored o) cs)
    pub same_shelved : (q : Production) → still_shelved o q cs ≡ still_shelved (no_trailer o) q (map (by_stored o) cs)
    pub same_accepted : (q : Production) → placements o q cs ≡ placements (no_trailer o) q (map (by_stored o) cs)

  -- The commands that are kept, each naming the item that it named, are answered as they were, and leave the items as they lay, under their new numbers.
  pub record SameWithout (kept : Step → Bool) : Type 0 where
    pub same_outcomes : outcomes o (resent kept (run o cs)) ≡ outcomes_kept kept (run o cs)
    pub same_shelf : shelf o (resent kept (run o cs)) ≡ renumbered_shelf (new_number kept (run o cs)) (shelf o cs)
    pub same_shelved : (q : Production) → still_shelved o q (resent kept (run o cs)) ≡ map (renumbered_shelved (new_number kept (run o cs))) (still_shelved o q cs)

  -- So it is if the refused commands had not been sent; and if the accepted items, withdrawals and settlings alone had been sent, and the commands 05.
  pub record RefusedLeftOut : Type 0 where
    pub refused : SameWithout not_refused
    pub alone : SameWithout changes

-- "A stream opened with 01 has trailer 0, so its answers are as before": with 11 and a trailer of 0 in its place the same opening and commands are read,
-- or the same refusal, and so every word of a row is the same.
pub record OpenedAlike (s : List ℕ) (words : ℕ) : Type 0 where
  pub has_no_trailer : (o : Opening) (cs : List Command) → verdict (without_trailer s) words ≡ accepted o cs → o.trailer ≡ 0
  pub same_reading : verdict (with_zero_trailer s) words ≡ moved (verdict (without_trailer s) words)
  pub same_rows : (tells : Outcome → ℕ) (row : List ℕ) → row_at_exit tells (verdict (with_zero_trailer s) words) row ≡ row_at_exit tells (verdict (without_trailer s) words) row

-- The statements of ../specs/Claims.antt, proved.
use mathlib.Core.Path.{◌≡◌, refl, sym, ap, ◌∙◌}
use mathlib.Core.Bool.{false≢true}
use mathlib.Core.List.{List, [], ◌∷◌, map, map-map}
use native.Mathlib.Omega.{arith}
use lib.ListN.{take, drop, length-map}
use Rattle.packing.specs.Prelude.{ℕ, suc, total, Opening, Production, First, Second, Command, Count, Switch}
use Rattle.packing.specs.Refusals.{word}
use Rattle.packing.specs.Shelves.{Shelf, belonging}
use Rattle.packing.specs.Run.{answer_of, run, packing, outcomes, shelf_from, shelf, current, still_shelved}
use Rattle.packing.specs.Claims.{HoldsAnswered, NeverOverfull, LoadsAddUp, Stays, Opened, Withdrawals, Settlings, Prefix, AnswersInRange, Counts, EarlyCount, Productions, RefusedChangesNothing}
use Rattle.packing.proofs.Productions.{current_after, stays_current}
use Rattle.packing.proofs.Moves.{trace, is_change, unchanged_shelf}
use Rattle.packing.proofs.Reached.{reached, both_in_stock}
use Rattle.packing.proofs.Numbers.{b2s_are, trace_named, opened_is}
use Rattle.packing.proofs.Shelved.{lying}
use Rattle.packing.proofs.Holding.{holds, shown_few}
use Rattle.packing.proofs.Withdrawals.{withdrawn_exactly, withdrawn_if_there, withdrawn_from}
use Rattle.packing.proofs.Settlings.{settled_exactly, settled_outside, settled_within, settled_in}
use Rattle.packing.proofs.Classes.{classes_stay}
use Rattle.packing.proofs.Counting.{numbers_answered, walk_finds}
use Rattle.packing.proofs.Running.{take_mapped, drop_mapped, run_prefix, answer_at, shelf_at, other_stays}
pub use Rattle.packing.proofs.SizeClasses.{class_bounds, bounds_class}
pub use Rattle.packing.proofs.Lowest.{lowest_permitted}
pub use Rattle.packing.proofs.Stock.{refused_exactly, range_refused_exactly}
pub use Rattle.packing.proofs.FreeUnits.{free_units_lem}
pub use Rattle.packing.proofs.TrueSizes.{true_sizes_fit}
pub use Rattle.packing.proofs.Looks.{looks_taken_lem}
pub use Rattle.packing.proofs.Shelved.{one_list}
pub use Rattle.packing.proofs.Numbers.{opened_is}
pub use Rattle.packing.proofs.Accepted.{accepted_whole}
pub use Rattle.packing.proofs.Given.{stream_gives_back, plan_gives_back, repack_gives_back, pair_gives_back, words_give_back}
pub use Rattle.packing.proofs.Rows.{rows_exact}

-- Of one production.
module _ (o : Opening) (q : Production) (cs : List Command) where
  pub never_overfull : NeverOverfull o q cs
  never_overfull =
      record {
        shown = λ j n. shown_few o q (take j cs) n;
        bins = λ j. (reached o q (take j cs)).bins_sound;
      }

  pub holds_answered : HoldsAnswered o q cs
  holds_answered j n = holds o q (take j cs) n

  pub loads_add_up : LoadsAddUp o q cs
  loads_add_up j = (lying o q (take j cs)).weighs (λ i. i.size) ∙ ap total (sym (map-map (λ e. e.size) _ (still_shelved o q (take j cs))))

  pub stays : Stays o q cs
  stays = record { b2_count = λ j. b2s_are o q (take j cs); classes_stay = classes_stay o q cs }

  pub answers_in_range : AnswersInRange o q cs
  answers_in_range j bin m = rw (← opened_is o q (take j cs)) (trace_named o (trace o q (take j cs)) bin m)

  pub opened : Opened o q cs
  opened = record { bins = opened_is o q cs; no_gaps = λ j n. numbers_answered o q (take j cs) n }

  pub early_count : EarlyCount o q cs
  early_count j =
      let r = reached o q (take j cs) in
      rw (← opened_is o q (take j cs)) (walk_finds o.stock (packing o q (take j cs)).bins (λ b m. (r.bins_sound b m).from_class_1) r.stock_lasts)

-- Of both.
module _ (o : Opening) (cs : List Command) where
  pub prefix : Prefix o cs
  prefix j = take_mapped answer_of j (run o cs) ∙ ap (map answer_of) (run_prefix o j cs)

  pub withdrawals : Withdrawals o cs
  withdrawals =
      record {
        exactly = withdrawn_exactly o cs;
        only_check = λ j named a later others here. withdrawn_if_there o cs j named later here a others;
        same_bin = λ j named bin free later others c a. withdrawn_from o cs j named later c bin free others a;
      }

  pub settlings : Settlings o cs
  settlings =
      record {
        exactly = settled_exactly o cs;
        outside = λ j named size least greatest later here. settled_outside o cs j named size later here least greatest;
        within = λ j named size least greatest a later others here. settled_within o cs j named size later here least greatest a others;
        same_bin = λ j named size bin free later others here. settled_in o cs j named size later here bin free others;
      }

  pub counts : Counts o cs
  counts =
      record {
        answered = λ j later e.
            rw (drop_mapped word j (outcomes o cs), take_mapped word 1 (drop j (outcomes o cs)), answer_at o j cs Count later e)
            (ap (λ n. n ∷ []) (opened_is o (current o (take j cs)) (take j cs)));
        returned = rw (opened_is o First cs, opened_is o Second cs, length-map, length-map, length-map, length-map);
        to_stock = omega (arith, opened_is o First cs, opened_is o Second cs, both_in_stock o cs);
      }

  -- The production that is current after the command at a place.
  after : (j : ℕ) (c : Command) (later : List Command) → drop j cs ≡ c ∷ later → current o (take (suc j) cs) ≡ belonging (current o (take j cs)) c
  after j c later e = ap (λ (s : Shelf). s.current) (shelf_at o j cs c later e) ∙ current_after o (shelf o (take j cs)) _ c

  pub productions : Productions o cs
  unfolding shelf_from
  productions =
      record {
        starts = refl;
        goes = λ j r later e. after j (Switch r) later e;
        stays = λ j c later e z. after j c later e ∙ stays_current (current o (take j cs)) c z;
        switched = λ j r later e. answer_at o j cs (Switch r) later e;
        other_stays = λ j. other_stays o j cs;
      }

-- A refused command leaves the shelf as it was: its production's packing, the other's, and the production that is current.
pub refused_changes_nothing : (o : Opening) (s : Shelf) (n : ℕ) (c : Command) → RefusedChangesNothing o s n c
refused_changes_nothing o s n c reason e =
    unchanged_shelf o s n c (λ z. false≢true (sym (ap is_change e) ∙ z))

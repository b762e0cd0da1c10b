-- Document 01's numbers give a refusal back, so results that give the same are the same; and the words of both rows give the outcomes back, beside
-- their commands.
use Prim.Native.Nat.{ℕ, suc, ◌+◌, ◌-◌, ◌≤◌, ◌<◌}
use mathlib.Core.Path.{◌≡◌, refl, sym, ap, ◌∙◌}
use mathlib.Core.Bool.{Bool, true, false, false≢true}
use mathlib.Core.List.{List, [], ◌∷◌, map, zip_with}
use native.Mathlib.Omega.{arith}
use borrow.Author.Tests.{lt-ltb, le-ltb}
use lib.Dec.{eqb, ltb}
use Rattle.std.specs.Prelude.{if◌then◌else◌}
use Rattle.packing.specs.Prelude.{Opening, Production, First, Second, Command, Shelve, Count, Withdraw, Switch, Reserve, Settle, Outcome, Placed, Counted, Withdrawn, Switched, Settled, Refused}
use Rattle.packing.specs.Prelude.{ItemReason, SizeZero, AboveCapacity, StockSpent, NotShelved, RangeWrong, NotReserved, OutsideRange}
use Rattle.packing.specs.Prelude.{StreamReason, NoOpening, UnknownOpcode, CutShort, SecondOpening, OutsideLimits, TooManyCommands, TooFewWords, NoProduction}
use Rattle.packing.specs.Prelude.{PlanReason, CapacityOutside, TooLong, SizeOutside, BinOutside, Overfull, OtherItems, RowReason, Result, Ok, Err, Refusal}
use Rattle.packing.specs.Refusals.{stream_number, item_number, plan_number, row_number, word, free_units, item_reason, outcome_of}
use Rattle.packing.specs.Productions.{production_number, production_of, other}
use Rattle.packing.specs.Bins.{Packing, free_on, stored}
use Rattle.packing.specs.Placing.{bin_for, placed}
use Rattle.packing.specs.Withdrawing.{holds_named, bin_holding, without}
use Rattle.packing.specs.Settling.{settling}
use Rattle.packing.specs.Shelves.{Shelf, empty_shelf, of, own, stock_left}
use Rattle.packing.specs.Sending.{shelves_item, item_of}
use Rattle.packing.specs.Run.{next, answer_on, next_shelf, run_from}
use Rattle.packing.specs.Claims.{StreamGivesBack, PlanGivesBack, RepackGivesBack, PairGivesBack, WordsGiveBack}
use Rattle.packing.proofs.Limits.{in_limits}
use Rattle.packing.proofs.Tests.{clash}
use Rattle.packing.proofs.Productions.{Whose, its_own, the_others, whose, own_after, other_after}
use Rattle.packing.proofs.Settling.{admits_named}
use Rattle.packing.proofs.Moves.{Move, places, withdraws, settles, counts, switches, refuses, an_item, a_withdrawal, a_settling, move}
use Rattle.packing.proofs.Reached.{first_any, in_stock, Reached, reached_empty, reached_move}

-- The refusal of a number, and that it is the one that has it.
stream_reason : (number : ℕ) → StreamReason
stream_reason n =
    if eqb n 1 then NoOpening else
    if eqb n 2 then UnknownOpcode else
    if eqb n 3 then CutShort else
    if eqb n 4 then SecondOpening else
    if eqb n 5 then OutsideLimits else
    if eqb n 6 then TooManyCommands else
    if eqb n 7 then TooFewWords else
    NoProduction

stream_reason_lem : (reason : StreamReason) → stream_reason (stream_number reason) ≡ reason
unfolding stream_reason
stream_reason_lem NoOpening = refl
stream_reason_lem UnknownOpcode = refl
stream_reason_lem CutShort = refl
stream_reason_lem SecondOpening = refl
stream_reason_lem OutsideLimits = refl
stream_reason_lem TooManyCommands = refl
stream_reason_lem TooFewWords = refl
stream_reason_lem NoProduction = refl

plan_reason : (number : ℕ) → PlanReason
plan_reason n =
    if eqb n 11 then CapacityOutside else
    if eqb n 12 then TooLong else
    if eqb n 13 then SizeOutside else
    if eqb n 14 then BinOutside else
    if eqb n 15 then Overfull else
    OtherItems

plan_reason_lem : (reason : PlanReason) → plan_reason (plan_number reason) ≡ reason
unfolding plan_reason
plan_reason_lem CapacityOutside = refl
plan_reason_lem TooLong = refl
plan_reason_lem SizeOutside = refl
plan_reason_lem BinOutside = refl
plan_reason_lem Overfull = refl
plan_reason_lem OtherItems = refl

row_reason : (number : ℕ) → RowReason
row_reason n =
    if eqb n 11 then RowReason.CapacityOutside else
    if eqb n 12 then RowReason.TooLong else
    if eqb n 13 then RowReason.SizeOutside else
    RowReason.TooFewWords

row_reason_lem : (reason : RowReason) → row_reason (row_number reason) ≡ reason
unfolding row_reason
row_reason_lem RowReason.CapacityOutside = refl
row_reason_lem RowReason.TooLong = refl
row_reason_lem RowReason.SizeOutside = refl
row_reason_lem RowReason.TooFewWords = refl

item_reason_lem : (reason : ItemReason) → item_reason (item_number reason) ≡ reason
item_reason_lem SizeZero = refl
item_reason_lem AboveCapacity = refl
item_reason_lem StockSpent = refl
item_reason_lem NotShelved = refl
item_reason_lem RangeWrong = refl
item_reason_lem NotReserved = refl
item_reason_lem OutsideRange = refl

-- No two refusals share a number.
pub stream_number_back : (r s : StreamReason) → stream_number r ≡ stream_number s → r ≡ s
stream_number_back r s e = sym (stream_reason_lem r) ∙ ap stream_reason e ∙ stream_reason_lem s

pub plan_number_back : (r s : PlanReason) → plan_number r ≡ plan_number s → r ≡ s
plan_number_back r s e = sym (plan_reason_lem r) ∙ ap plan_reason e ∙ plan_reason_lem s

pub row_number_back : (r s : RowReason) → row_number r ≡ row_number s → r ≡ s
row_number_back r s e = sym (row_reason_lem r) ∙ ap row_reason e ∙ row_reason_lem s

-- Refusals of one reason and place are one.
pub same_refusal : {T R : Type 0} (r s : Refusal R) → r.reason ≡ s.reason → r.place ≡ s.place → ◌≡◌ {A = Result T (Refusal R)} (Err r) (Err s)
same_refusal r s e f = λ i. Err (record { reason = e i; place = f i })

pub stream_gives_back : StreamGivesBack
stream_gives_back (Ok t) (Ok u) e =
    let items : t.items ≡ u.items = cc in
    let opened : t.opened ≡ u.opened = cc in
    let looks : t.looks ≡ u.looks = cc in
    λ i. Ok (record { items = items i; opened = opened i; looks = looks i })
stream_gives_back (Ok t) (Err s) e = clash (cc)
stream_gives_back (Err r) (Ok u) e = clash (cc)
stream_gives_back (Err r) (Err s) e = let same : stream_number r.reason ≡ stream_number s.reason = cc in same_refusal r s (stream_number_back r.reason s.reason same) cc

pub plan_gives_back : PlanGivesBack
plan_gives_back (Ok a) (Ok b) e = refl
plan_gives_back (Ok a) (Err s) e = clash (cc)
plan_gives_back (Err r) (Ok b) e = clash (cc)
plan_gives_back (Err r) (Err s) e = let same : plan_number r.reason ≡ plan_number s.reason = cc in same_refusal r s (plan_number_back r.reason s.reason same) cc

pub repack_gives_back : RepackGivesBack
repack_gives_back (Ok t) (Ok u) e =
    let counts : t.count ≡ u.count = cc in
    let flags : ◌≡◌ {A = ℕ} (if t.saves_nothing then 1 else 0) (if u.saves_nothing then 1 else 0) = cc in
    let saves = same_flag t.saves_nothing u.saves_nothing flags in
    λ i. Ok (record { count = counts i; saves_nothing = saves i })
  where
    same_flag : (a b : Bool) → ◌≡◌ {A = ℕ} (if a then 1 else 0) (if b then 1 else 0) → a ≡ b
    same_flag true true q = refl
    same_flag false false q = refl
    same_flag true false q = absurd (omega (arith, q))
    same_flag false true q = absurd (omega (arith, q))
repack_gives_back (Ok t) (Err s) e = clash (cc)
repack_gives_back (Err r) (Ok u) e = clash (cc)
repack_gives_back (Err r) (Err s) e = let same : row_number r.reason ≡ row_number s.reason = cc in same_refusal r s (row_number_back r.reason s.reason same) cc

pub pair_gives_back : PairGivesBack
pair_gives_back (Ok pairs) (Ok pairs') e = cc
pair_gives_back (Ok pairs) (Err s) e = clash (cc)
pair_gives_back (Err r) (Ok pairs) e = clash (cc)
pair_gives_back (Err r) (Err s) e = let same : row_number r.reason ≡ row_number s.reason = cc in same_refusal r s (row_number_back r.reason s.reason same) cc

-- How large they are.
pub item_number_few : (reason : ItemReason) → item_number reason ≤ 21
item_number_few SizeZero = omega arith
item_number_few AboveCapacity = omega arith
item_number_few StockSpent = omega arith
item_number_few NotShelved = omega arith
item_number_few RangeWrong = omega arith
item_number_few NotReserved = omega arith
item_number_few OutsideRange = omega arith

pub stream_number_few : (reason : StreamReason) → stream_number reason ≤ 18
stream_number_few NoOpening = omega arith
stream_number_few UnknownOpcode = omega arith
stream_number_few CutShort = omega arith
stream_number_few SecondOpening = omega arith
stream_number_few OutsideLimits = omega arith
stream_number_few TooManyCommands = omega arith
stream_number_few TooFewWords = omega arith
stream_number_few NoProduction = omega arith

-- So the word of a refusal gives it back.
refused_back : (other : Outcome) (reason : ItemReason)
    → (if ltb (32_768 + item_number reason) 32_768 then other else Refused (item_reason (32_768 + item_number reason - 32_768))) ≡ Refused reason
refused_back other reason =
    let k : 32_768 + item_number reason - 32_768 ≡ item_number reason = omega arith in
    rw (le-ltb (32_768 + item_number reason) 32_768 (omega arith), k, item_reason_lem)

-- Of a command that shelves an item.
item_back : (c : Command) → shelves_item c ≡ true → (bin free : ℕ) → bin < 32_768 → outcome_of c bin free ≡ Placed bin free
item_back (Shelve size) e bin free l = rw (lt-ltb bin 32_768 l)
item_back Count e bin free l = absurd (false≢true e)
item_back (Withdraw named) e bin free l = absurd (false≢true e)
item_back (Switch r) e bin free l = absurd (false≢true e)
item_back (Reserve least greatest) e bin free l = rw (lt-ltb bin 32_768 l)
item_back (Settle named size) e bin free l = absurd (false≢true e)

item_refused_back : (c : Command) → shelves_item c ≡ true → (reason : ItemReason) → outcome_of c (32_768 + item_number reason) 0 ≡ Refused reason
item_refused_back (Shelve size) e reason = refused_back (Placed (32_768 + item_number reason) 0) reason
item_refused_back Count e reason = absurd (false≢true e)
item_refused_back (Withdraw named) e reason = absurd (false≢true e)
item_refused_back (Switch r) e reason = absurd (false≢true e)
item_refused_back (Reserve least greatest) e reason = refused_back (Placed (32_768 + item_number reason) 0) reason
item_refused_back (Settle named size) e reason = absurd (false≢true e)

-- The number of a production gives it back.
production_back : (r : Production) → production_of (production_number r) ≡ r
production_back First = refl
production_back Second = refl

-- What the answer to a command can be, in a packing that commands can reach: a bin within the stock with free units within the capacity, a count within
-- the stock, a production, or a refusal.
module _ (o : Opening) where
  pub data Told : Command → Outcome → Type 0 where
    placed_in : {c : Command} {bin free : ℕ} → shelves_item c ≡ true → bin ≤ o.stock → free ≤ o.capacity → Told c (Placed bin free)
    counted : {count : ℕ} → count ≤ o.stock → Told Count (Counted count)
    withdrawn_from : {named bin free : ℕ} → bin ≤ o.stock → free ≤ o.capacity → Told (Withdraw named) (Withdrawn bin free)
    switched_to : {r : Production} → Told (Switch r) (Switched r)
    settled_in : {named size bin free : ℕ} → bin ≤ o.stock → free ≤ o.capacity → Told (Settle named size) (Settled bin free)
    refused_item : {c : Command} {reason : ItemReason} → shelves_item c ≡ true → Told c (Refused reason)
    refused_out : {named : ℕ} {reason : ItemReason} → Told (Withdraw named) (Refused reason)
    refused_settling : {named size : ℕ} {reason : ItemReason} → Told (Settle named size) (Refused reason)

  told_by : {left n : ℕ} {p : Packing} {c : Command} {q : Packing} {a : Outcome} → Move o left p n c a q → left ≤ o.stock → Reached o p → Told c a
  told_by {left = left} {n = n} {p = p} (places {c = c} i) few h =
      let bin = bin_for o p (item_of o n c) in
      placed_in {bin = bin} {free = free_on o bin (placed o p (item_of o n c))}
      i.shelves (omega (arith, in_stock o p (item_of o n c) left o.stock i.was_placed.not_spent few h.stock_lasts)) (omega arith)
  told_by counts few h = counted h.stock_lasts
  told_by {p = p} (withdraws {named = named} e) few h =
      let bin = bin_holding named p in
      withdrawn_from {bin = bin} {free = free_on o bin (without named p)} (omega (arith, first_any (holds_named named) p.bins e, h.stock_lasts)) (omega arith)
  told_by {p = p} (settles {named = named} {size = size} e) few h =
      let bin = bin_holding named p in
      settled_in {bin = bin} {free = free_on o bin (settling named (stored o size) p)}
      (omega (arith, first_any (holds_named named) p.bins (admits_named named (stored o size) p.bins e), h.stock_lasts)) (omega arith)
  told_by switches few h = switched_to
  told_by (refuses (an_item e)) few h = refused_item e
  told_by (refuses a_withdrawal) few h = refused_out
  told_by (refuses a_settling) few h = refused_settling

  -- On a shelf where both packings are such.
  abbrev pub BothReached : Shelf → Type 0
  BothReached s = (q : Production) → Reached o (of q s)

  pub told_to : (s : Shelf) (n : ℕ) → BothReached s → (c : Command) → Told c (answer_on o s n c)
  told_to s n h c = told_by (move o (stock_left o s) (own s) n c) (omega arith) (h s.current)

  both_next : (s : Shelf) (n : ℕ) (c : Command) → BothReached s → BothReached (next_shelf o s n c)
  both_next s n c h q = go (whose s.current q)
    where
      after : Reached o (next o (stock_left o s) (own s) n c)
      after = reached_move o (move o (stock_left o s) (own s) n c) (omega arith) (h s.current)

      go : {q : Production} → Whose s.current q → Reached o (of q (next_shelf o s n c))
      go its_own = rw (own_after o s n c) after
      go the_others = rw (other_after o s n c) (h (other s.current))

  -- A bin's number is below 32,768, so the word tells it from a refusal.
  pub word_gives_back : o.stock ≤ 512 → (c : Command) (a : Outcome) → Told c a → outcome_of c (word a) (free_units a) ≡ a
  word_gives_back most c a (placed_in {bin = bin} {free = free} e l m) = item_back c e bin free (omega arith)
  word_gives_back most c a (counted l) = refl
  word_gives_back most c a (withdrawn_from {bin = bin} l m) = rw (lt-ltb bin 32_768 (omega arith))
  word_gives_back most c a (switched_to {r = r}) = ap Switched (production_back r)
  word_gives_back most c a (settled_in {bin = bin} l m) = rw (lt-ltb bin 32_768 (omega arith))
  word_gives_back most c a (refused_item {reason = reason} e) = item_refused_back c e reason
  word_gives_back most c a (refused_out {reason = reason}) = refused_back (Withdrawn (32_768 + item_number reason) 0) reason
  word_gives_back most c a (refused_settling {reason = reason}) = refused_back (Settled (32_768 + item_number reason) 0) reason

  words_from : o.stock ≤ 512 → (cs : List Command) (s : Shelf) (n : ℕ) → BothReached s
      → zip_with (λ given free. given free) (zip_with outcome_of cs (map word (map (λ t. t.outcome) (run_from o s n cs)))) (map free_units (map (λ t. t.outcome) (run_from o s n cs)))
      ≡ map (λ t. t.outcome) (run_from o s n cs)
  unfolding zip_with run_from
  words_from stock [] s n h = refl
  words_from stock (c ∷ cs) s n h =
      rw (word_gives_back stock c (answer_on o s n c) (told_to s n h c), words_from stock cs (next_shelf o s n c) (suc n) (both_next s n c h))

  none_yet : BothReached empty_shelf
  none_yet First = reached_empty o
  none_yet Second = reached_empty o

pub words_give_back : (o : Opening) (cs : List Command) → WordsGiveBack o cs
words_give_back o cs good = words_from o (in_limits o good).stock.1 cs empty_shelf 1 (none_yet o)

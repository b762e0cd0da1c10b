-- A run goes on where it ends: what one more command adds to it, what the first commands alone give, and the command at a place.
use Prim.Native.Nat.{ℕ, zero, suc, ◌+◌, ◌≤◌}
use mathlib.Core.Path.{◌≡◌, refl, sym, ap, ◌∙◌}
use mathlib.Core.Bool.{true, false}
use mathlib.Core.List.{List, [], ◌∷◌, ◌++◌, map, flatten, map-append, append_assoc}
use native.Mathlib.Omega.{arith}
use lib.ListN.{length, take, drop, get_or, length-map}
use lib.Seq.{get_or_at}
use Rattle.packing.specs.Prelude.{Opening, Production, First, Second, Command, Outcome}
use Rattle.packing.specs.Productions.{other, is_same}
use Rattle.packing.specs.Shelves.{Shelf, empty_shelf, of, own, stock_left}
use Rattle.packing.specs.Run.{Step, answer_on, next_shelf, steps_of, run_from, shelf_from, run, outcomes, shelf, current, steps, still_shelved, packing}
use Rattle.packing.proofs.Tests.{clash}
use Rattle.packing.proofs.Productions.{own_after, other_after}
use Rattle.packing.proofs.Moves.{Move, move}
use Rattle.packing.proofs.Numbers.{shelved_steps}

pub flatten_append : {A : Type 0} (xs ys : List (List A)) → flatten (xs ++ ys) ≡ flatten xs ++ flatten ys
unfolding flatten
flatten_append [] ys = refl
flatten_append (x ∷ xs) ys = ap (λ rest. x ++ rest) (flatten_append xs ys) ∙ sym (append_assoc x (flatten xs) (flatten ys))

module _ {A B : Type 0} (f : A → B) where
  pub take_mapped : (j : ℕ) (l : List A) → take j (map f l) ≡ map f (take j l)
  take_mapped zero l = refl
  take_mapped (suc j) [] = refl
  take_mapped (suc j) (a ∷ l) = ap (λ rest. f a ∷ rest) (take_mapped j l)

  pub drop_mapped : (j : ℕ) (l : List A) → drop j (map f l) ≡ map f (drop j l)
  drop_mapped zero l = refl
  drop_mapped (suc j) [] = refl
  drop_mapped (suc j) (a ∷ l) = drop_mapped j l

-- Each step is of one production or of the other.
steps_both : (ts : List Step) → length (steps_of First ts) + length (steps_of Second ts) ≡ length ts
unfolding steps_of
steps_both [] = refl
steps_both (t ∷ ts) = go t.production (steps_both ts)
  where
    go : (r : Production) → length (steps_of First ts) + length (steps_of Second ts) ≡ length ts
        → length {A = Step} (elim (is_same First r) [ true ↦ t ∷ steps_of First ts | false ↦ steps_of First ts ]) + length {A = Step} (elim (is_same Second r) [ true ↦ t ∷ steps_of Second ts | false ↦ steps_of Second ts ])
        ≡ suc (length ts)
    go First e = omega arith
    go Second e = omega arith

module _ (o : Opening) where
  -- One step for each command.
  pub run_length : (cs : List Command) (s : Shelf) (n : ℕ) → length (run_from o s n cs) ≡ length cs
  unfolding run_from
  run_length [] s n = refl
  run_length (c ∷ cs) s n = ap suc (run_length cs (next_shelf o s n c) (suc n))

  -- And one word, in a row of what tells of outcomes.
  pub told_length : (cs : List Command) (tells : Outcome → ℕ) → length (map tells (outcomes o cs)) ≡ length cs
  told_length cs tells = length-map (outcomes o cs) tells ∙ length-map (run o cs) (λ t. t.outcome) ∙ run_length cs empty_shelf 1

  -- So no more items are shelved than commands are sent, in both productions together.
  pub shelved_few : (cs : List Command) → length (still_shelved o First cs) + length (still_shelved o Second cs) ≤ length cs
  shelved_few cs =
      omega (arith, shelved_steps o (steps o First cs) [], shelved_steps o (steps o Second cs) [], steps_both (run o cs), run_length cs empty_shelf 1)

  run_append : (cs ds : List Command) (s : Shelf) (n e : ℕ) → e ≡ length cs + n → run_from o s n (cs ++ ds) ≡ run_from o s n cs ++ run_from o (shelf_from o s n cs) e ds
  unfolding run_from shelf_from
  run_append [] ds s n e h = let same : n ≡ e = omega arith in ap (λ k. run_from o s k ds) same
  run_append (c ∷ cs) ds s n e h =
      ap (λ rest. record { number = n; production = s.current; command = c; before = own s; outcome = answer_on o s n c } ∷ rest)
      (run_append cs ds (next_shelf o s n c) (suc n) e (omega arith))

  pub shelf_append : (cs ds : List Command) (s : Shelf) (n e : ℕ) → e ≡ length cs + n → shelf_from o s n (cs ++ ds) ≡ shelf_from o (shelf_from o s n cs) e ds
  unfolding shelf_from
  shelf_append [] ds s n e h = let same : n ≡ e = omega arith in ap (λ k. shelf_from o s k ds) same
  shelf_append (c ∷ cs) ds s n e h = shelf_append cs ds (next_shelf o s n c) (suc n) e (omega arith)

  -- With one more command.
  module _ (cs : List Command) (c : Command) where
    abbrev pub step_after : Step
    step_after =
        record {
          number = suc (length cs);
          production = current o cs;
          command = c;
          before = own (shelf o cs);
          outcome = answer_on o (shelf o cs) (suc (length cs)) c;
        }

    pub run_ahead : (later : List Command)
        → run o (cs ++ c ∷ later) ≡ run o cs ++ step_after ∷ run_from o (next_shelf o (shelf o cs) (suc (length cs)) c) (suc (suc (length cs))) later
    unfolding run_from
    run_ahead later = run_append cs (c ∷ later) empty_shelf 1 (suc (length cs)) (omega arith)

    run_more : run o (cs ++ c ∷ []) ≡ run o cs ++ step_after ∷ []
    unfolding run_from
    run_more = run_ahead []

    pub shelf_more : shelf o (cs ++ c ∷ []) ≡ next_shelf o (shelf o cs) (suc (length cs)) c
    unfolding shelf_from
    shelf_more = shelf_append cs (c ∷ []) empty_shelf 1 (suc (length cs)) (omega arith)

    -- What is read off the run, step by step.
    pub mapped_more : {A : Type 0} (f : Step → A) → map f (run o (cs ++ c ∷ [])) ≡ map f (run o cs) ++ f step_after ∷ []
    mapped_more f = ap (map f) run_more ∙ map-append f (run o cs) (step_after ∷ [])

    -- Where others follow it, its word stands behind those before, in a row of what tells of outcomes.
    pub word_ahead : (tells : Outcome → ℕ) (later : List Command) (words behind : List ℕ) (done : ℕ) → words ≡ map tells (outcomes o (cs ++ c ∷ later)) ++ behind
        → done ≡ length cs → get_or words done 0 ≡ tells (answer_on o (shelf o cs) (suc (length cs)) c)
    word_ahead tells later words behind done e d =
        let before = map tells (outcomes o cs) in
        let after = map tells (map (λ t. t.outcome) (run_from o (next_shelf o (shelf o cs) (suc (length cs)) c) (suc (suc (length cs))) later)) in
        rw (e, run_ahead later, map-append, map-append, append_assoc)
        (get_or_at before (tells (answer_on o (shelf o cs) (suc (length cs)) c)) (after ++ behind) 0 done (told_length cs tells ∙ sym d))

  -- The first steps are those of the first commands alone.
  prefix_from : (j n : ℕ) (s : Shelf) (cs : List Command) → take j (run_from o s n cs) ≡ run_from o s n (take j cs)
  unfolding run_from
  prefix_from zero n s cs = refl
  prefix_from (suc j) n s [] = refl
  prefix_from (suc j) n s (c ∷ cs) =
      ap (λ rest. record { number = n; production = s.current; command = c; before = own s; outcome = answer_on o s n c } ∷ rest)
      (prefix_from j (suc n) (next_shelf o s n c) cs)

  pub run_prefix : (j : ℕ) (cs : List Command) → take j (run o cs) ≡ run o (take j cs)
  run_prefix j cs = prefix_from j 1 empty_shelf cs

  -- The step of the command at a place, on the shelf that those before it left.
  abbrev step_on : Shelf → (number : ℕ) → Command → Step
  step_on s n c = record { number = n; production = s.current; command = c; before = own s; outcome = answer_on o s n c }

  step_from : (j n e : ℕ) (s : Shelf) (cs : List Command) (c : Command) (later : List Command) → e ≡ j + n → drop j cs ≡ c ∷ later
      → take 1 (drop j (run_from o s n cs)) ≡ step_on (shelf_from o s n (take j cs)) e c ∷ []
  unfolding run_from shelf_from
  step_from zero n e s [] c later h d = clash (cc)
  step_from zero n e s (b ∷ cs) c later h d =
      let same : n ≡ e = omega arith in
      let here : b ≡ c = cc in
      rw (same, here)
  step_from (suc j) n e s [] c later h d = clash (cc)
  step_from (suc j) n e s (b ∷ cs) c later h d = step_from j (suc n) e (next_shelf o s n b) cs c later (omega arith) d

  -- What is read off it.
  pub told_at : {A : Type 0} (f : Step → A) (j : ℕ) (cs : List Command) (c : Command) (later : List Command) → drop j cs ≡ c ∷ later
      → take 1 (drop j (map f (run o cs))) ≡ f (step_on (shelf o (take j cs)) (suc j) c) ∷ []
  told_at f j cs c later d = rw (drop_mapped f j (run o cs), take_mapped f 1 (drop j (run o cs)), step_from j 1 (suc j) empty_shelf cs c later (omega arith) d)

  pub answer_at : (j : ℕ) (cs : List Command) (c : Command) (later : List Command) → drop j cs ≡ c ∷ later
      → take 1 (drop j (outcomes o cs)) ≡ answer_on o (shelf o (take j cs)) (suc j) c ∷ []
  answer_at j cs c later d = told_at (λ t. t.outcome) j cs c later d

  -- The shelf after the command at a place.
  shelf_from_lem : (j n e : ℕ) (s : Shelf) (cs : List Command) (c : Command) (later : List Command) → e ≡ j + n → drop j cs ≡ c ∷ later
      → shelf_from o s n (take (suc j) cs) ≡ next_shelf o (shelf_from o s n (take j cs)) e c
  unfolding shelf_from
  shelf_from_lem zero n e s [] c later h d = clash (cc)
  shelf_from_lem zero n e s (b ∷ cs) c later h d =
      let same : n ≡ e = omega arith in
      let here : b ≡ c = cc in
      rw (same, here)
  shelf_from_lem (suc j) n e s [] c later h d = clash (cc)
  shelf_from_lem (suc j) n e s (b ∷ cs) c later h d = shelf_from_lem j (suc n) e (next_shelf o s n b) cs c later (omega arith) d

  pub shelf_at : (j : ℕ) (cs : List Command) (c : Command) (later : List Command) → drop j cs ≡ c ∷ later
      → shelf o (take (suc j) cs) ≡ next_shelf o (shelf o (take j cs)) (suc j) c
  shelf_at j cs c later d = shelf_from_lem j 1 (suc j) empty_shelf cs c later (omega arith) d

  -- It has the packing of the other production as it was.
  other_from : (j n : ℕ) (s : Shelf) (cs : List Command) → let q = other (shelf_from o s n (take j cs)).current in
      of q (shelf_from o s n (take (suc j) cs)) ≡ of q (shelf_from o s n (take j cs))
  unfolding shelf_from
  other_from zero n s [] = refl
  other_from zero n s (c ∷ cs) = other_after o s n c
  other_from (suc j) n s [] = refl
  other_from (suc j) n s (c ∷ cs) = other_from j (suc n) (next_shelf o s n c) cs

  pub other_stays : (j : ℕ) (cs : List Command) → let q = other (current o (take j cs)) in packing o q (take (suc j) cs) ≡ packing o q (take j cs)
  other_stays j cs = other_from j 1 empty_shelf cs

  -- The command at a place that comes to this: its move in the packing of its production, and the shelf after it.
  pub record MoveAt (s : Shelf) (number : ℕ) (rest : List Command) (a : Outcome) (s' : Shelf) : Type 0 where
    pub command : Command
    pub later : List Command
    pub rest_is : rest ≡ command ∷ later
    pub moved : Move o (stock_left o s) (own s) number command a (of s.current s')
    pub after : s' ≡ next_shelf o s number command

  move_from : (j n e : ℕ) (s : Shelf) (cs : List Command) (a : Outcome) (others : List Outcome) → e ≡ j + n
      → drop j (map (λ t. t.outcome) (run_from o s n cs)) ≡ a ∷ others → MoveAt (shelf_from o s n (take j cs)) e (drop j cs) a (shelf_from o s n (take (suc j) cs))
  unfolding run_from shelf_from
  move_from zero n e s [] a others h d = clash (cc)
  move_from zero n e s (c ∷ cs) a others h d =
      let same : n ≡ e = omega arith in
      let here : a ≡ answer_on o s n c = cc in
      record { command = c; later = cs; rest_is = refl; moved = rw (← same, here, own_after o s n c) (move o (stock_left o s) (own s) n c); after = rw (← same) refl }
  move_from (suc j) n e s [] a others h d = clash (cc)
  move_from (suc j) n e s (c ∷ cs) a others h d = move_from j (suc n) e (next_shelf o s n c) cs a others (omega arith) d

  pub move_at : (j : ℕ) (cs : List Command) (a : Outcome) (others : List Outcome) → drop j (outcomes o cs) ≡ a ∷ others
      → MoveAt (shelf o (take j cs)) (suc j) (drop j cs) a (shelf o (take (suc j) cs))
  move_at j cs a others d = move_from j 1 (suc j) empty_shelf cs a others (omega arith) d

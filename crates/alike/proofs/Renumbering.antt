-- A command under another number: an item is placed as before, since placing reads no number; and a withdrawal takes out the same item, and a settling
-- settles the same one, since the new numbers tell the items on the shelf apart.
use Prim.Native.Nat.{ℕ, zero, suc, ◌-◌, ◌<◌}
use mathlib.Core.Path.{◌≡◌, refl, sym, ap, subst, ◌∙◌}
use mathlib.Core.Logic.{⊎_elim}
use mathlib.Core.Bool.{Bool, true, false, not, ◌&&◌, false≢true}
use mathlib.Core.List.{List, [], ◌∷◌, map, map-map, map-append}
use mathlib.Core.List.Memᴰ
use mathlib.Core.List.{Memᴰ}
use native.Mathlib.Decide.{dec_lt}
use native.Mathlib.Omega.{arith}
use borrow.Author.Tests.{eqb-true, eqb-false, eq-eqb, ne_eqb}
use lib.Dec.{eqb}
use lib.ListN.{length-map}
use Rattle.packing.specs.declared.{Opening.Opening, Production.Production, Command.Command, Outcome.Outcome}
use Rattle.packing.specs.declared.Production.TheVariants.{First, Second}
use Rattle.packing.specs.declared.Command.TheVariants.{Shelve, Count, Withdraw, Switch, Reserve, Settle}
use Rattle.std.specs.Prelude.{if◌then◌else◌}
use Rattle.packing.specs.Prelude.{total, any}
use Rattle.packing.specs.Refusals.{is_refused}
use Rattle.packing.specs.SizeClasses.{is_a}
use Rattle.packing.specs.Bins.{Item, Bin, Packing, load, add, kind, free_on, stored, holds, unsettled, in_range}
use Rattle.packing.specs.Placing.{Target, to_class, beside_a, class_of, first_fit, put, permitted, target, takes, placed}
use Rattle.packing.specs.Withdrawing.{is_named, holds_named, emptied_of, without, withdrawal}
use Rattle.packing.specs.Settling.{settled_to, awaits, admits, settled, settled_bin, settling, settlement}
use Rattle.packing.specs.Sending.{shelves_item, fault, item_of}
use Rattle.packing.specs.Productions.{other}
use Rattle.packing.specs.Shelves.{Shelf, of, own, stock_left, put_back, belonging}
use Rattle.packing.specs.Run.{Shelved, settled_there, shelving, shelved_as, answer_to, done, next, answer_on, next_shelf}
use Rattle.alike.specs.LeftOut.{renamed, renumber, renumbered_bin, renumbered, renumbered_shelf, renumbered_shelved}
use Rattle.packing.proofs.Tests.{each_cons, each_map, each_keep}
use Rattle.packing.proofs.Keeping.{if_map, keep_map}
use Rattle.packing.proofs.Searching.{found, any_map}
use Rattle.packing.proofs.Decided.{IsPlaced, goes_in, decides}
use Rattle.packing.proofs.Putting.{fresh, put_each}
use Rattle.packing.proofs.Settling.{admits_named, admits_awaits, settled_command}
use Rattle.packing.proofs.Productions.{Whose, its_own, the_others, whose, own_after, other_after}
use Rattle.packing.proofs.Moves.{Move, places, withdraws, settles, counts, switches, refuses, move}

-- Two functions, one after the other, in either order.
maps_meet : {A B : Type 0} (g : A → B) (h : A → A) (k : B → B) (l : List A) → ((a : A) → Memᴰ a l → k (g a) ≡ g (h a)) → map k (map g l) ≡ map g (map h l)
maps_meet g h k [] r = refl
maps_meet g h k (a ∷ l) r = cc (r a (Memᴰ.head refl), maps_meet g h k l (λ x m. r x (Memᴰ.tail m)))

-- A command that shelves an item is answered as its item is decided of.
item_answered : (o : Opening) (left : ℕ) (p : Packing) (n : ℕ) (c : Command) → shelves_item c ≡ true
    → (answer_to o left p n c ≡ shelved_as o left p n c) × (done o p n c ≡ placed o p (item_of o n c))
item_answered o left p n (Shelve s) e = (refl, refl)
item_answered o left p n Count e = absurd (false≢true e)
item_answered o left p n (Withdraw named) e = absurd (false≢true e)
item_answered o left p n (Switch r) e = absurd (false≢true e)
item_answered o left p n (Reserve least greatest) e = (refl, refl)
item_answered o left p n (Settle named size) e = absurd (false≢true e)

module _ (f : ℕ → ℕ) where
  -- A number whose new one is greater than those of all numbers before it.
  abbrev pub Marks : ℕ → Type 0
  Marks n = (m : ℕ) → m < n → f m < f n

  abbrev pub MarkedBin : Bin → Type 0
  MarkedBin b = (i : Item) → Memᴰ i b.items → Marks i.command

  -- Every item has such a number, in the bins of a packing and on a list of those shelved.
  abbrev pub Marked : Packing → Type 0
  Marked p = (b : Bin) → Memᴰ b p.bins → MarkedBin b

  abbrev pub Listed : List Shelved → Type 0
  Listed on = (s : Shelved) → Memᴰ s on → Marks s.item.command

  -- Two such numbers are told apart by their new ones.
  told_apart : {a b : ℕ} → Marks a → Marks b → eqb (f a) (f b) ≡ eqb a b
  told_apart {a} {b} h k = go (eqb a b) refl
    where
      go : (t : Bool) → eqb a b ≡ t → eqb (f a) (f b) ≡ t
      go true e = eq-eqb (f a) (f b) (ap f (eqb-true a b e))
      go false e = ne_eqb (f a) (f b) (λ x. elim (dec_lt a b) [ yes l ↦ omega (arith, k a l) | no l ↦ omega (arith, h b (omega (arith, eqb-false a b e))) ])

  -- The number that a withdrawal or a settling finds is that of an item.
  name_marked : (named : ℕ) (bins : List Bin) → ((b : Bin) → Memᴰ b bins → MarkedBin b) → any (holds_named named) bins ≡ true → Marks named
  name_marked named bins h e =
      let bin = found (holds_named named) bins e in
      let it = found (is_named named) bin.member.items bin.passes in
      subst Marks (eqb-true it.member.command named it.passes) (h bin.member bin.among it.member it.among)

  load_renumbered : (b : Bin) → load (renumbered_bin f b) ≡ load b
  load_renumbered b = ap total (map-map (λ i. i.size) (renumber f) b.items)

  -- The bins when an item is named: whether and where it is found, and what they are without it.
  bins_naming : (named : ℕ) → Marks named → (bins : List Bin) → ((b : Bin) → Memᴰ b bins → MarkedBin b)
      → (any (holds_named (f named)) (map (renumbered_bin f) bins) ≡ any (holds_named named) bins)
      × (first_fit (holds_named (f named)) (map (renumbered_bin f) bins) ≡ first_fit (holds_named named) bins)
      × (map (emptied_of (f named)) (map (renumbered_bin f) bins) ≡ map (renumbered_bin f) (map (emptied_of named) bins))
  unfolding any first_fit
  bins_naming named k [] h = (refl, refl, refl)
  bins_naming named k (b ∷ bs) h =
      let rest = bins_naming named k bs (λ x m. h x (Memᴰ.tail m)) in
      let marked = h b (Memᴰ.head refl) in
      let held = any_map (renumber f) (is_named named) (is_named (f named)) b.items (λ i m. told_apart (marked i m) k) in
      let left = keep_map (renumber f) (λ i. not (is_named named i)) (λ i. not (is_named (f named) i)) b.items (λ i m. ap not (told_apart (marked i m) k)) in
      (cc, cc, cc)

  -- So with one that is settled: whether it awaits its size and admits this one, and what it and the bins are then.
  module _ (named size : ℕ) (k : Marks named) where
    admits_renumbered : (i : Item) → Marks i.command → admits (f named) size (renumber f i) ≡ admits named size i
    admits_renumbered i m = ap (λ t. t && in_range size i) (told_apart m k)

    awaits_renumbered : (i : Item) → Marks i.command → awaits (f named) (renumber f i) ≡ awaits named i
    awaits_renumbered i m = ap (λ t. t && unsettled i) (told_apart m k)

    settled_renumbered : (i : Item) → Marks i.command → settled (f named) size (renumber f i) ≡ renumber f (settled named size i)
    settled_renumbered i m =
        ap (λ t. if t then settled_to size (renumber f i) else renumber f i) (admits_renumbered i m)
        ∙ sym (if_map (renumber f) (admits named size i) (settled_to size i) i)

    bins_settling : (bins : List Bin) → ((b : Bin) → Memᴰ b bins → MarkedBin b)
        → (any (holds (awaits (f named))) (map (renumbered_bin f) bins) ≡ any (holds (awaits named)) bins)
        × (any (holds (admits (f named) size)) (map (renumbered_bin f) bins) ≡ any (holds (admits named size)) bins)
        × (map (settled_bin (f named) size) (map (renumbered_bin f) bins) ≡ map (renumbered_bin f) (map (settled_bin named size) bins))
    unfolding any
    bins_settling [] h = (refl, refl, refl)
    bins_settling (b ∷ bs) h =
        let rest = bins_settling bs (λ x m. h x (Memᴰ.tail m)) in
        let marked = h b (Memᴰ.head refl) in
        let awaited = any_map (renumber f) (awaits named) (awaits (f named)) b.items (λ i m. awaits_renumbered i (marked i m)) in
        let admitted = any_map (renumber f) (admits named size) (admits (f named) size) b.items (λ i m. admits_renumbered i (marked i m)) in
        let after = maps_meet (renumber f) (settled named size) (settled (f named) size) b.items (λ i m. settled_renumbered i (marked i m)) in
        (cc, cc, cc)

  -- A command that shelves an item is sent as it was: it names none.
  renamed_item : (c : Command) → shelves_item c ≡ true → renamed f c ≡ c
  renamed_item (Shelve s) e = refl
  renamed_item Count e = refl
  renamed_item (Withdraw named) e = absurd (false≢true e)
  renamed_item (Switch r) e = refl
  renamed_item (Reserve least greatest) e = refl
  renamed_item (Settle named size) e = absurd (false≢true e)

  module _ (o : Opening) where
    -- The free units of a bin, for which the B2 count is nothing.
    free_renumbered : (m : ℕ) (bins : List Bin)
        → free_on o (suc m) (record { bins = map (renumbered_bin f) bins; b2s = 0 }) ≡ free_on o (suc m) (record { bins = bins; b2s = 0 })
    free_renumbered m [] = refl
    free_renumbered zero (b ∷ bs) = ap (λ n. o.capacity - n) (load_renumbered b)
    free_renumbered (suc m) (b ∷ bs) = free_renumbered m bs

    permitted_renumbered : (t : Target) (b : Bin) → permitted o t (renumbered_bin f b) ≡ permitted o t b
    permitted_renumbered (to_class n) b = refl
    permitted_renumbered beside_a b = cc (any_map (renumber f) (λ i. is_a (kind o i)) (λ i. is_a (kind o i)) b.items (λ i m. refl))

    module _ (p : Packing) where
      -- The bins when an item is placed: which is the first that takes it, and what they are with it.
      bins_placing : (i : Item) (new : Bin) (bins : List Bin)
          → (first_fit (takes o (renumbered f p) (renumber f i)) (map (renumbered_bin f) bins) ≡ first_fit (takes o p i) bins)
          × (put (takes o (renumbered f p) (renumber f i)) (renumbered_bin f new) (renumber f i) (map (renumbered_bin f) bins)
          ≡ map (renumbered_bin f) (put (takes o p i) new i bins))
      unfolding first_fit put
      bins_placing i new [] = (refl, refl)
      bins_placing i new (b ∷ bs) =
          let rest = bins_placing i new bs in
          let here : takes o (renumbered f p) (renumber f i) (renumbered_bin f b) ≡ takes o p i b = cc (permitted_renumbered (target o p i) b, load_renumbered b) in
          (cc, cc (if_map (map (renumbered_bin f)) (takes o p i b) (add i b ∷ bs) (b ∷ put (takes o p i) new i bs)))

      module _ (left n : ℕ) where
        -- Under its new number and name a command comes to the same and does the same; and every item after it is marked.
        pub record Same (c : Command) (a : Outcome) (q : Packing) : Type 0 where
          pub answer : answer_to o left (renumbered f p) (f n) (renamed f c) ≡ a
          pub after : next o left (renumbered f p) (f n) (renamed f c) ≡ renumbered f q
          pub marked : Marked q

        same_move : Marked p → Marks n → {c : Command} {a : Outcome} {q : Packing} → Move o left p n c a q → not (is_refused a) ≡ true → Same c a q
        unfolding placed without withdrawal settling settlement
        same_move h k (places {c = c} g) r =
            let d = g.was_placed in
            let i = item_of o n c in
            let new = fresh (class_of (target o p i)) in
            let bins = bins_placing i new p.bins in
            let opened = length-map p.bins (renumbered_bin f) in
            let again : IsPlaced o (renumbered f p) (renumber f i) left (fault c) =
            record { faultless = d.faultless; within_capacity = d.within_capacity; not_spent = cc d.not_spent } in
            let decided = decides o (renumbered f p) (renumber f i) left (fault c) _ (goes_in again) in
            let sent = renamed_item c g.shelves in
            let as-item = item_answered o left (renumbered f p) (f n) c g.shelves in
            let free = free_renumbered (first_fit (takes o p i) p.bins) (placed o p i).bins in
            record {
              answer = cc;
              after = cc;
              marked =
                  put_each (takes o p i) new i MarkedBin (λ b t. each_cons (λ j. Marks j.command) k)
                  (each_cons (λ j. Marks j.command) k (λ j m. absurd (Memᴰ.not-nil m))) p.bins h;
            }
        same_move h k (withdraws {named = named} e) r =
            let marks = name_marked named p.bins h e in
            let bins = bins_naming named marks p.bins h in
            let free = free_renumbered (first_fit (holds_named named) p.bins) (without named p).bins in
            record {
              answer = cc;
              after = cc;
              marked =
                  each_map (emptied_of named) MarkedBin p.bins (λ b m. each_keep (λ i. not (is_named named i)) (λ i. Marks i.command) b.items (h b m));
            }
        same_move h k (settles {named = named} {size = size} e) r =
            let s = stored o size in
            let there = admits_named named s p.bins e in
            let unsettled-there = admits_awaits named s p.bins e in
            let marks = name_marked named p.bins h there in
            let found-there = bins_naming named marks p.bins h in
            let bins = bins_settling named s marks p.bins h in
            let free = free_renumbered (first_fit (holds_named named) p.bins) (settling named s p).bins in
            record {
              answer = cc;
              after = cc;
              marked =
                  each_map (settled_bin named s) MarkedBin p.bins
                  (λ b m. each_map (settled named s) (λ i. Marks i.command) b.items (λ i x. subst Marks (sym (settled_command named s i)) (h b m i x)));
            }
        same_move h k counts r = record { answer = cc (length-map p.bins (renumbered_bin f)); after = refl; marked = h }
        same_move h k switches r = record { answer = refl; after = refl; marked = h }
        same_move h k (refuses z) r = absurd (false≢true r)

        -- And it makes the same of the items on the shelf.
        pub record SameList (on : List Shelved) (c : Command) (a : Outcome) : Type 0 where
          pub shelved : shelving o (f n) (renamed f c) a (map (renumbered_shelved f) on) ≡ map (renumbered_shelved f) (shelving o n c a on)
          pub listed : Listed (shelving o n c a on)

        pub same_list : Marked p → Marks n → (on : List Shelved) → Listed on → {c : Command} {a : Outcome} {q : Packing} → Move o left p n c a q → SameList on c a
        same_list h k on l (places {c = c} d) =
            record {
              shelved = rw (renamed_item c d.shelves) (sym (map-append (renumbered_shelved f) on _));
              listed = λ x m. ⊎_elim (l x) (λ e. subst (λ y. Marks y.item.command) (sym (Memᴰ.eq_of_singleton e)) k) (Memᴰ.append_cases on m);
            }
        same_list h k on l (withdraws {named = named} e) =
            let marks = name_marked named p.bins h e in
            record {
              shelved =
                  keep_map (renumbered_shelved f) (λ s. not (is_named named s.item)) (λ s. not (is_named (f named) s.item)) on (λ s m. ap not (told_apart (l s m) marks));
              listed = each_keep (λ s. not (is_named named s.item)) (λ s. Marks s.item.command) on l;
            }
        same_list h k on l (settles {named = named} {size = size} e) =
            let s = stored o size in
            let marks = name_marked named p.bins h (admits_named named s p.bins e) in
            record {
              shelved =
                  maps_meet (renumbered_shelved f) (settled_there named s) (settled_there (f named) s) on
                  (λ x m. ap (λ i. record { item = i; bin = x.bin }) (settled_renumbered named s marks x.item (l x m)));
              listed = each_map (settled_there named s) (λ x. Marks x.item.command) on (λ x m. subst Marks (sym (settled_command named s x.item)) (l x m));
            }
        same_list h k on l counts = record { shelved = refl; listed = l }
        same_list h k on l switches = record { shelved = refl; listed = l }
        same_list h k on l (refuses z) = record { shelved = refl; listed = l }

    -- On a shelf: the packing of a production and what is left of the stock are those of the renumbered shelf.
    of_renumbered : (q : Production) (s : Shelf) → of q (renumbered_shelf f s) ≡ renumbered f (of q s)
    of_renumbered First s = refl
    of_renumbered Second s = refl

    left_renumbered : (s : Shelf) → stock_left o (renumbered_shelf f s) ≡ stock_left o s
    left_renumbered s =
        rw (of_renumbered (other s.current) s) (ap (λ n. o.stock - n) (length-map (of (other s.current) s).bins (renumbered_bin f)))

    put_renumbered : (q : Production) (p : Packing) (s : Shelf) (r : Production) → put_back q (renumbered f p) (renumbered_shelf f s) r ≡ renumbered_shelf f (put_back q p s r)
    put_renumbered First p s r = refl
    put_renumbered Second p s r = refl

    belonging_renamed : (q : Production) (c : Command) → belonging q (renamed f c) ≡ belonging q c
    belonging_renamed q (Shelve s) = refl
    belonging_renamed q Count = refl
    belonging_renamed q (Withdraw named) = refl
    belonging_renamed q (Switch r) = refl
    belonging_renamed q (Reserve least greatest) = refl
    belonging_renamed q (Settle named size) = refl

    module _ (s : Shelf) (n : ℕ) (c : Command) where
      pub record SameOn : Type 0 where
        pub answer : answer_on o (renumbered_shelf f s) (f n) (renamed f c) ≡ answer_on o s n c
        pub after : next_shelf o (renumbered_shelf f s) (f n) (renamed f c) ≡ renumbered_shelf f (next_shelf o s n c)
        pub marked : (q : Production) → Marked (of q (next_shelf o s n c))

      pub same_on : ((q : Production) → Marked (of q s)) → Marks n → not (is_refused (answer_on o s n c)) ≡ true → SameOn
      same_on h k accepted =
          let q = s.current in
          let left = stock_left o s in
          let p = own s in
          let there = same_move p left n (h q) k (move o left p n c) accepted in
          record {
            answer = rw (left_renumbered s, of_renumbered q s) there.answer;
            after =
                rw (left_renumbered s, of_renumbered q s, there.after, belonging_renamed q c) (put_renumbered q (next o left p n c) s (belonging q c));
            marked = λ r. whose_marked (whose q r) there.marked;
          }
        where
          whose_marked : {r : Production} → Whose s.current r → Marked (next o (stock_left o s) (own s) n c) → Marked (of r (next_shelf o s n c))
          whose_marked its_own m = rw (own_after o s n c) m
          whose_marked the_others m = rw (other_after o s n c) (h (other s.current))

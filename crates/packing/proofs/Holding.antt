-- Bin n holds the items still shelved that were answered n: each item of the trace goes to the bin of the number that it is answered, and leaves no
-- other. So what is answered n is no larger than the capacity.
use Prim.Native.Nat.{ℕ, zero, suc, ◌+◌, ◌≤◌}
use mathlib.Core.Path.{◌≡◌, refl, sym, ap, ◌∙◌}
use mathlib.Core.Bool.{Bool, true, false, not}
use mathlib.Core.List.{List, [], ◌∷◌, ◌++◌, map, reverse, reverse_aux, map-append, map-map, append-nil, reverse-append, Memᴰ}
use native.Mathlib.Omega.{arith}
use lib.Dec.{eqb, eqb-zero-suc, eqb-suc-zero, eqb-suc-suc}
use lib.ListN.{get_or}
use Rattle.std.specs.Prelude.{if◌then◌else◌}
use Rattle.packing.specs.Prelude.{total, keep, Opening, Production, Command, Outcome}
use Rattle.packing.specs.Bins.{Item, Bin, Packing, empty, load, items_of, add, stored}
use Rattle.packing.specs.Placing.{first_fit, put, target, class_of, takes, bin_for, placed}
use Rattle.packing.specs.Withdrawing.{is_named, emptied_of, without}
use Rattle.packing.specs.Settling.{settled, settled_bin, settling}
use Rattle.packing.specs.Sending.{item_of}
use Rattle.packing.specs.Run.{Shelved, settled_there, entry_of, shelving, packing, still_shelved}
use Rattle.packing.specs.Compared.{shelf_plan, sizes_in}
use Rattle.packing.proofs.Putting.{fresh}
use Rattle.packing.proofs.Keeping.{keep_append, keep_reversed, keep_map, keep_swap}
use Rattle.packing.proofs.Moves.{Move, places, withdraws, settles, counts, switches, refuses, trace, carried}
use Rattle.packing.proofs.Reached.{reached}

-- The items of the bin with so many before it.
abbrev items_of_place : (before : ℕ) → List Bin → List Item
items_of_place n bins = get_or (map (λ b. b.items) bins) n []

-- With one more at the front, if it is this bin's.
abbrev pub grown : Bool → Item → List Item → List Item
grown here i items = if here then i ∷ items else items

module _ (test : Bin → Bool) (class : ℕ) (i : Item) where
  put_items_at : (n : ℕ) (bins : List Bin) → items_of_place n (put test (fresh class) i bins) ≡ grown (eqb (first_fit test bins) n) i (items_of_place n bins)
  unfolding put first_fit
  put_items_at zero [] = refl
  put_items_at (suc n) [] = rw (eqb-zero-suc n)
  put_items_at zero (b ∷ bs) = go (test b)
    where
      go : (t : Bool) → items_of_place 0 (if t then add i b ∷ bs else b ∷ put test (fresh class) i bs) ≡ grown (eqb (if t then 0 else suc (first_fit test bs)) 0) i b.items
      go true = refl
      go false = rw (eqb-suc-zero (first_fit test bs))
  put_items_at (suc n) (b ∷ bs) = go (test b) (put_items_at n bs)
    where
      go : (t : Bool) → items_of_place n (put test (fresh class) i bs) ≡ grown (eqb (first_fit test bs) n) i (items_of_place n bs)
          → items_of_place (suc n) (if t then add i b ∷ bs else b ∷ put test (fresh class) i bs)
          ≡ grown (eqb (if t then 0 else suc (first_fit test bs)) (suc n)) i (items_of_place n bs)
      go true r = rw (eqb-zero-suc n)
      go false r = rw (eqb-suc-suc (first_fit test bs) n) r

module _ (o : Opening) where
  -- Bins are numbered from 1.
  pub placed_items : (n : ℕ) (p : Packing) (i : Item) → items_of n (placed o p i) ≡ grown (eqb (bin_for o p i) n) i (items_of n p)
  unfolding placed
  placed_items zero p i = rw (eqb-suc-zero (first_fit (takes o p i) p.bins))
  placed_items (suc n) p i = rw (eqb-suc-suc (first_fit (takes o p i) p.bins) n) (put_items_at (takes o p i) (class_of (target o p i)) i n p.bins)

-- The others of a bin are as they were when an item is taken out.
pub without_items : (n named : ℕ) (p : Packing) → items_of n (without named p) ≡ keep (λ i. not (is_named named i)) (items_of n p)
unfolding without keep
without_items zero named p = refl
without_items (suc n) named p = at n p.bins
  where
    at : (n : ℕ) (bins : List Bin) → items_of_place n (map (emptied_of named) bins) ≡ keep (λ i. not (is_named named i)) (items_of_place n bins)
    at n [] = refl
    at zero (b ∷ bs) = refl
    at (suc n) (b ∷ bs) = at n bs

-- And all that are settled stand where they stood.
pub settling_items : (n named size : ℕ) (p : Packing) → items_of n (settling named size p) ≡ map (settled named size) (items_of n p)
unfolding settling
settling_items zero named size p = refl
settling_items (suc n) named size p = at n p.bins
  where
    at : (n : ℕ) (bins : List Bin) → items_of_place n (map (settled_bin named size) bins) ≡ map (settled named size) (items_of_place n bins)
    at n [] = refl
    at zero (b ∷ bs) = refl
    at (suc n) (b ∷ bs) = at n bs

-- What the answers say that bin n holds, the last first.
abbrev pub held_by : (n : ℕ) → List Shelved → List Item
held_by n on = reverse (map (λ s. s.item) (keep (λ s. eqb s.bin n) on))

abbrev pub Holds : Packing → List Shelved → Type 0
Holds p on = (n : ℕ) → items_of n p ≡ held_by n on

held_more : (n bin : ℕ) (i : Item) (on : List Shelved) → held_by n (on ++ record { item = i; bin = bin } ∷ []) ≡ grown (eqb bin n) i (held_by n on)
unfolding keep
held_more n bin i on = ap (λ l. reverse (map (λ s. s.item) l)) (keep_append (λ s. eqb s.bin n) on (record { item = i; bin = bin } ∷ [])) ∙ go (eqb bin n)
  where
    before : List Shelved
    before = keep (λ s. eqb s.bin n) on

    go : (t : Bool) → reverse (map (λ s. s.item) (before ++ (if t then record { item = i; bin = bin } ∷ [] else []))) ≡ grown t i (held_by n on)
    go true = ap reverse (map-append (λ s. s.item) before (record { item = i; bin = bin } ∷ [])) ∙ reverse-append (map (λ s. s.item) before) (i ∷ [])
    go false = ap (λ l. reverse (map (λ s. s.item) l)) (append-nil before)

held_less : (n named : ℕ) (on : List Shelved) → held_by n (keep (λ s. not (is_named named s.item)) on) ≡ keep (λ i. not (is_named named i)) (held_by n on)
unfolding keep
held_less n named on =
    let here : Shelved → Bool = λ s. eqb s.bin n in
    let others : Item → Bool = λ i. not (is_named named i) in
    ap (λ l. reverse (map (λ s. s.item) l)) (keep_swap here (λ s. others s.item) on)
    ∙ ap reverse (sym (keep_map (λ s. s.item) (λ s. others s.item) others (keep here on) (λ s m. refl)))
    ∙ sym (keep_reversed others (map (λ s. s.item) (keep here on)) [])

map_reversed : {A B : Type 0} (f : A → B) (l r : List A) → map f (reverse_aux l r) ≡ reverse_aux (map f l) (map f r)
map_reversed f [] r = refl
map_reversed f (a ∷ l) r = map_reversed f l (a ∷ r)

held_settled : (n named size : ℕ) (on : List Shelved) → held_by n (map (settled_there named size) on) ≡ map (settled named size) (held_by n on)
held_settled n named size on =
    let here : Shelved → Bool = λ s. eqb s.bin n in
    ap (λ l. reverse (map (λ s. s.item) l)) (keep_map (settled_there named size) here here on (λ s m. refl))
    ∙ ap reverse (map-map (λ s. s.item) (settled_there named size) (keep here on) ∙ sym (map-map (settled named size) (λ s. s.item) (keep here on)))
    ∙ sym (map_reversed (settled named size) (map (λ s. s.item) (keep here on)) [])

module _ (o : Opening) where
  holds_move : (left n : ℕ) (p : Packing) (c : Command) (q : Packing) (a : Outcome) (on : List Shelved) → Move o left p n c a q → Holds p on → Holds q (shelving o n c a on)
  holds_move left n p c q a on (places d) h k =
      placed_items o k p (item_of o n c) ∙ ap (grown (eqb (bin_for o p (item_of o n c)) k) (item_of o n c)) (h k) ∙ sym (held_more k (bin_for o p (item_of o n c)) (item_of o n c) on)
  holds_move left n p c q a on (withdraws {named = named} e) h k =
      without_items k named p ∙ ap (keep (λ i. not (is_named named i))) (h k) ∙ sym (held_less k named on)
  holds_move left n p c q a on (settles {named = named} {size = size} e) h k =
      settling_items k named (stored o size) p ∙ ap (map (settled named (stored o size))) (h k) ∙ sym (held_settled k named (stored o size) on)
  holds_move left n p c q a on counts h k = h k
  holds_move left n p c q a on switches h k = h k
  holds_move left n p c q a on (refuses z) h k = h k

  pub holds : (q : Production) (cs : List Command) → Holds (packing o q cs) (still_shelved o q cs)
  unfolding keep
  holds q cs = carried o (λ n. Holds) (λ n k p on l h. h) holds_move (trace o q cs) [] none
    where
      none : (n : ℕ) → items_of n empty ≡ held_by n []
      none zero = refl
      none (suc n) = refl

-- What holds of every bin's load holds of the items of every number.
items_at_most : (c n : ℕ) (bins : List Bin) → ((b : Bin) → Memᴰ b bins → load b ≤ c) → total (map (λ i. i.size) (items_of_place n bins)) ≤ c
unfolding total
items_at_most c n [] h = omega arith
items_at_most c zero (b ∷ bs) h = h b (Memᴰ.head refl)
items_at_most c (suc n) (b ∷ bs) h = items_at_most c n bs (λ x m. h x (Memᴰ.tail m))

pub items_most : (c n : ℕ) (p : Packing) → ((b : Bin) → Memᴰ b p.bins → load b ≤ c) → total (map (λ i. i.size) (items_of n p)) ≤ c
unfolding total
items_most c zero p h = omega arith
items_most c (suc n) p h = items_at_most c n p.bins h

total_reversed : (xs ys : List ℕ) → total (reverse_aux xs ys) ≡ total xs + total ys
unfolding total
total_reversed [] ys = omega arith
total_reversed (x ∷ xs) ys = omega (arith, total_reversed xs (x ∷ ys))

module _ (o : Opening) (q : Production) (cs : List Command) (n : ℕ) where
  -- The sizes in bin n are those of the shelf's own plan.
  pub sizes_held : map (λ i. i.size) (items_of n (packing o q cs)) ≡ reverse (sizes_in n (shelf_plan o q cs))
  sizes_held =
      let here : List Shelved = keep (λ s. eqb s.bin n) (still_shelved o q cs) in
      ap (map (λ i. i.size)) (holds o q cs n) ∙ map_reversed (λ i. i.size) (map (λ s. s.item) here) []
      ∙ ap reverse (map-map (λ i. i.size) (λ s. s.item) here ∙ sym (map-map (λ e. e.size) entry_of here)
      ∙ ap (map (λ e. e.size)) (sym (keep_map entry_of (λ s. eqb s.bin n) (λ e. eqb e.bin n) (still_shelved o q cs) (λ s m. refl))))

  -- So what is answered n is no larger than the capacity.
  pub shown_few : total (sizes_in n (shelf_plan o q cs)) ≤ o.capacity
  unfolding total
  shown_few =
      let few = items_most o.capacity n (packing o q cs) (λ b m. ((reached o q cs).bins_sound b m).not_overfull) in
      omega (arith, few, ap total sizes_held, total_reversed (sizes_in n (shelf_plan o q cs)) [])

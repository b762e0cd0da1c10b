-- The items still shelved, by the trace: every weight of them is that of the bins, each has an earlier number, a size and an opened bin, and a step that
-- shelved it there.
use Prim.Native.Nat.{ℕ, suc, ◌≤◌, ◌<◌}
use mathlib.Core.Path.{◌≡◌, refl, sym, ap, ◌∙◌}
use mathlib.Core.Bool.{Bool, true, false, not, ◌||◌, true≢false, false≢true}
use mathlib.Core.List.Memᴰ
use mathlib.Core.List.{List, [], ◌∷◌, ◌++◌, map, flatten, map-append, map-map, append_assoc, append-nil, Memᴰ}
use native.Mathlib.Omega.{arith}
use native.Mathlib.Decide.{ℕ_discrete}
use borrow.Author.Tests.{not-true, eq-eqb, ne_eqb}
use lib.Dec.{eqb, ltb}
use lib.ListN.{length}
use Rattle.std.specs.Prelude.{if◌then◌else◌}
use Rattle.packing.specs.Prelude.{total, any, Opening, Production, Command, Outcome, Placed, Counted, Withdrawn, Switched, Settled, Refused}
use Rattle.packing.specs.Bins.{Item, Packing, empty, opened, stored, holds, unsettled, in_range}
use Rattle.packing.specs.Placing.{target, class_of, takes, bin_for, placed}
use Rattle.packing.specs.Withdrawing.{is_named, without}
use Rattle.packing.specs.Settling.{settled, settling}
use Rattle.packing.specs.Sending.{item_of}
use Rattle.packing.specs.Run.{Step, Shelved, settled_there, shelving, entry_of, shelved_by, placement, entries_of, steps, packing, still_shelved}
use Rattle.packing.specs.Compared.{is_altered}
use Rattle.packing.specs.Claims.{OneList}
use Rattle.packing.proofs.Tests.{both_true, each_cons, each_append, each_keep, each_map}
use Rattle.packing.proofs.Weights.{total_append, total_split, total_others, total_ones, one_for, any_weighs, weight_of, weight_ones, put_weight, out_weight, any_bin_weighs}
use Rattle.packing.proofs.Moves.{Move, places, withdraws, settles, counts, switches, refuses, Trace, trace, carried}
use Rattle.packing.proofs.Settling.{by_admits, in_range_most, settled_command, settled_weight}
use Rattle.packing.proofs.Sending.{sent_some, sent_least}
use Rattle.packing.proofs.Reached.{opened_placed, opened_without, opened_settling}

module _ (o : Opening) where
  -- An item of this list, when the next command has number n: within its limits, whatever size in its range it turns out to have, and in a bin that is
  -- opened.
  pub record Lies (n : ℕ) (p : Packing) (s : Shelved) : Type 0 where
    pub some : 1 ≤ s.item.size
    pub within_capacity : s.item.size ≤ o.capacity
    pub till_settled : unsettled s.item ≡ true → s.item.size ≡ s.item.greatest
    pub in_limits : (size : ℕ) → in_range size s.item ≡ true → (1 ≤ size) × (size ≤ o.capacity)
    pub from_one : 1 ≤ s.bin
    pub to_opened : s.bin ≤ opened p
    pub earlier : s.item.command < n

  pub record Lying (n : ℕ) (p : Packing) (on : List Shelved) : Type 0 where
    -- Whatever the weight: so sizes add up to loads, and what is named is in a bin.
    pub weighs : (w : Item → ℕ) → weight_of w p.bins ≡ total (map (λ s. w s.item) on)
    pub each : (s : Shelved) → Memᴰ s on → Lies n p s
    -- No number has two.
    pub once : (named : ℕ) → total (map (λ s. one_for (is_named named) s.item) on) ≤ 1

  -- No item has a number that is to come.
  none_named : (n named : ℕ) (on : List Shelved) → ((s : Shelved) → Memᴰ s on → s.item.command < n) → n ≤ named → total (map (λ s. one_for (is_named named) s.item) on) ≡ 0
  unfolding total
  none_named n named [] h l = refl
  none_named n named (s ∷ on) h l =
      let first : one_for (is_named named) s.item ≡ 0 = rw (ne_eqb s.item.command named (λ e. omega (arith, h s (Memᴰ.head refl)))) in
      omega (arith, none_named n named on (λ x m. h x (Memᴰ.tail m)) l)

  -- So with a new one each number has one at most.
  once_more : (n named : ℕ) (i : Item) (bin : ℕ) (on : List Shelved) → i.command ≡ n → ((s : Shelved) → Memᴰ s on → s.item.command < n)
      → total (map (λ s. one_for (is_named named) s.item) on) ≤ 1 → total (map (λ s. one_for (is_named named) s.item) (on ++ record { item = i; bin = bin } ∷ [])) ≤ 1
  unfolding total
  once_more n named i bin on e h few =
      let sum = total_append (λ s. one_for (is_named named) s.item) on (record { item = i; bin = bin } ∷ []) in
      elim (ℕ_discrete i.command named) [
        | yes q ↦ (let one : one_for (is_named named) i ≡ 1 = rw (eq-eqb i.command named q) in omega (arith, sum, none_named n named on h (omega arith)))
        | no q ↦ (let zero : one_for (is_named named) i ≡ 0 = rw (ne_eqb i.command named q) in omega (arith, sum))
      ]

  -- With more bins and later numbers each lies where it did.
  still_there : {n k : ℕ} {p : Packing} {on : List Shelved} (q : Packing) → n ≤ k → opened p ≤ opened q → ((s : Shelved) → Memᴰ s on → Lies n p s)
      → (s : Shelved) → Memᴰ s on → Lies k q s
  still_there q later l h s m =
      let lies = h s m in
      record {
        some = lies.some;
        within_capacity = lies.within_capacity;
        till_settled = lies.till_settled;
        in_limits = lies.in_limits;
        from_one = lies.from_one;
        to_opened = omega (arith, lies.to_opened);
        earlier = omega (arith, lies.earlier);
      }

  pub lying_later : (n k : ℕ) (p : Packing) (on : List Shelved) → n ≤ k → Lying n p on → Lying k p on
  lying_later n k p on l h = record { weighs = h.weighs; each = still_there p l (omega arith) h.each; once = h.once }

  -- Settled items have the numbers that they had.
  same_marks : (named size k : ℕ) (on : List Shelved) → map (λ x. one_for (is_named k) (settled named size x.item)) on ≡ map (λ x. one_for (is_named k) x.item) on
  same_marks named size k [] = refl
  same_marks named size k (x ∷ on) = cc (ap {B = ℕ} (λ n. if eqb n k then 1 else 0) (settled_command named size x.item), same_marks named size k on)

  -- One that admits a size lies there with it.
  lies_settled : {n : ℕ} {p : Packing} (named size : ℕ) (x : Shelved) → Lies n p x → Lies n p (settled_there named size x)
  lies_settled {n = n} {p = p} named size x lies =
      by_admits named size (λ i. Lies n p (record { item = i; bin = x.bin })) x.item
      (λ e.
      let fits = lies.in_limits size (both_true (is_named named x.item) (in_range size x.item) e).1 in
      record {
        some = fits.0;
        within_capacity = fits.1;
        till_settled = λ z. absurd (false≢true z);
        in_limits = λ k r. absurd (false≢true r);
        from_one = lies.from_one;
        to_opened = lies.to_opened;
        earlier = lies.earlier;
      })
      (λ e. lies)

  pub lying_move : (left n : ℕ) (p : Packing) (c : Command) (q : Packing) (a : Outcome) (on : List Shelved) → Move o left p n c a q → Lying n p on → Lying (suc n) q (shelving o n c a on)
  unfolding placed without settling total
  lying_move left n p c q a on (places d) h =
      let i = item_of o n c in
      let more = opened_placed o p i in
      record {
        weighs = λ w.
            omega (
              arith,
              put_weight w (takes o p i) (class_of (target o p i)) i p.bins,
              h.weighs w,
              total_append (λ s. w s.item) on (record { item = i; bin = bin_for o p i } ∷ []),
            );
        each =
            each_append (Lies (suc n) q) on _ (still_there q (omega arith) (omega arith) h.each)
            (each_cons (Lies (suc n) q)
            (record {
              some = omega (arith, sent_some c d.shelves d.was_placed.faultless);
              within_capacity = d.was_placed.within_capacity;
              till_settled = λ z. refl;
              in_limits = λ size r. (sent_least o c d.was_placed.faultless size r, omega (arith, in_range_most size i r, d.was_placed.within_capacity));
              from_one = omega arith;
              to_opened = omega arith;
              earlier = omega arith;
            })
            (λ s m. absurd (Memᴰ.not-nil m)));
        once = λ named. once_more n named i (bin_for o p i) on refl (λ s m. (h.each s m).earlier) (h.once named);
      }
  lying_move left n p c q a on (withdraws {named = named} e) h =
      record {
        weighs = λ w.
            out_weight w named p.bins ∙ h.weighs (λ i. if is_named named i then 0 else w i) ∙ sym (total_others (λ s. w s.item) (λ s. is_named named s.item) on);
        each =
            each_keep (λ s. not (is_named named s.item)) (Lies (suc n) q) on (still_there q (omega arith) (omega (arith, opened_without o named p)) h.each);
        once = λ k. omega (arith, h.once k, total_split (λ s. one_for (is_named k) s.item) (λ s. is_named named s.item) on);
      }
  lying_move left n p c q a on (settles {named = named} {size = size} e) h =
      let s = stored o size in
      record {
        weighs = λ w.
            settled_weight named s w p.bins ∙ h.weighs (λ i. w (settled named s i)) ∙ ap total (sym (map-map (λ x. w x.item) (settled_there named s) on));
        each =
            each_map (settled_there named s) (Lies (suc n) q) on
            (λ x m. lies_settled named s x (still_there q (omega arith) (omega (arith, opened_settling o named s p)) h.each x m));
        once = λ k.
            rw (map-map (λ x. one_for (is_named k) x.item) (settled_there named s) on, same_marks named s k on) (h.once k);
      }
  lying_move left n p c q a on counts h = lying_later n (suc n) p on (omega arith) h
  lying_move left n p c q a on switches h = lying_later n (suc n) p on (omega arith) h
  lying_move left n p c q a on (refuses z) h = lying_later n (suc n) p on (omega arith) h

  pub lying_start : Lying 1 empty []
  unfolding total
  lying_start = record { weighs = λ w. refl; each = λ s m. absurd (Memᴰ.not-nil m); once = λ named. omega arith }

  pub trace_lying : {e : ℕ} {q : Packing} {ts : List Step} → Trace o 1 empty ts e q → Lying e q (shelved_by o ts [])
  trace_lying r = carried o Lying lying_later lying_move r [] lying_start

  pub lying : (q : Production) (cs : List Command) → Lying (suc (length cs)) (packing o q cs) (still_shelved o q cs)
  lying q cs = trace_lying (trace o q cs)

  -- As many are in the bins as are still shelved.
  pub held_shelved : (q : Production) (cs : List Command) → total (map (λ b. length b.items) (packing o q cs).bins) ≡ length (still_shelved o q cs)
  held_shelved q cs = sym (weight_ones (packing o q cs).bins) ∙ (lying q cs).weighs (λ i. 1) ∙ total_ones (still_shelved o q cs)

  -- An item that passes a test is in a bin exactly where one is still shelved.
  pub any_shelved : {n : ℕ} {p : Packing} {on : List Shelved} → Lying n p on → (test : Item → Bool) → any (holds test) p.bins ≡ any (λ s. test s.item) on
  any_shelved {p = p} {on = on} h test = any_bin_weighs test p.bins ∙ ap (ltb 0) (h.weighs (one_for test)) ∙ sym (any_weighs (λ s. test s.item) on)

-- Where no step takes an item out or settles one, those still shelved are those accepted.
pub entries_shelved : (o : Opening) (ts : List Step) (on : List Shelved) → any (λ t. is_altered t.outcome) ts ≡ false
    → map entry_of (shelved_by o ts on) ≡ map entry_of on ++ entries_of o ts
unfolding any flatten
entries_shelved o [] on e = sym (append-nil _)
entries_shelved o (t ∷ ts) on e = go t.outcome e (entries_shelved o ts)
  where
    go : (a : Outcome) → (is_altered a || any (λ t. is_altered t.outcome) ts) ≡ false
        → ((on : List Shelved) → any (λ t. is_altered t.outcome) ts ≡ false → map entry_of (shelved_by o ts on) ≡ map entry_of on ++ entries_of o ts)
        → map entry_of (shelved_by o ts (shelving o t.number t.command a on)) ≡ map entry_of on ++ (placement o t.command a ++ entries_of o ts)
    go (Placed bin free) e r = r _ e ∙ ap (λ l. l ++ entries_of o ts) (map-append entry_of on _) ∙ append_assoc (map entry_of on) _ (entries_of o ts)
    go (Counted n) e r = r on e
    go (Withdrawn bin free) e r = absurd (true≢false e)
    go (Switched p) e r = r on e
    go (Settled bin free) e r = absurd (true≢false e)
    go (Refused reason) e r = r on e

pub one_list : (o : Opening) (q : Production) (cs : List Command) → OneList o q cs
one_list o q cs e = entries_shelved o (steps o q cs) [] (not-true (any (λ t. is_altered t.outcome) (steps o q cs)) e)

-- The numbers answered to a production in a run, by its trace: the number of bins is the greatest of them, and every one is that of a bin.
use Prim.Native.Nat.{ℕ, suc, ◌+◌, ◌≤◌, max}
use mathlib.Core.Path.{◌≡◌}
use mathlib.Core.Bool.{not}
use mathlib.Core.List.Memᴰ
use mathlib.Core.List.{List, [], ◌∷◌, map, flatten, Memᴰ}
use native.Mathlib.Omega.{arith}
use lib.ListN.{length, length-append, length-map}
use Rattle.packing.specs.Prelude.{total, greatest, Opening, Production, Command, Outcome, Placed, Counted, Withdrawn, Switched, Settled, Refused, Entry}
use Rattle.packing.specs.Refusals.{bins_named}
use Rattle.packing.specs.SizeClasses.{size_class, count_b2}
use Rattle.packing.specs.Bins.{Packing, opened, stored}
use Rattle.packing.specs.Placing.{placed}
use Rattle.packing.specs.Withdrawing.{is_named, holds_named, without}
use Rattle.packing.specs.Settling.{settling}
use Rattle.packing.specs.Sending.{item_of, name_of, size_of}
use Rattle.packing.specs.Run.{Step, Shelved, shelving, shelved_by, settled_there, entries_of, packing}
use Rattle.packing.specs.Compared.{accepted_sizes, number_opened}
use Rattle.packing.proofs.Tests.{each_cons, each_append}
use Rattle.packing.proofs.Weights.{keep_few}
use Rattle.packing.proofs.Settling.{admits_named}
use Rattle.packing.proofs.Moves.{Move, places, withdraws, settles, counts, switches, refuses, Trace, ends, moves, trace}
use Rattle.packing.proofs.Reached.{first_any, opened_placed, opened_without, opened_settling}

module _ (o : Opening) where
  -- The number of bins is the greatest number answered to an item, where that is more than there were.
  pub trace_opened : {n e : ℕ} {p q : Packing} {ts : List Step} → Trace o n p ts e q → opened q ≡ max (opened p) (greatest (map (λ e. e.bin) (entries_of o ts)))
  unfolding greatest flatten
  trace_opened (ends l) = omega arith
  trace_opened (moves {k = k} {p = p} l b (places {c = c} h) r) = omega (arith, trace_opened r, opened_placed o p (item_of o k c))
  trace_opened (moves {p = p} l b (withdraws {named = named} e) r) = omega (arith, trace_opened r, opened_without o named p)
  trace_opened (moves {p = p} l b (settles {named = named} {size = size} e) r) = omega (arith, trace_opened r, opened_settling o named (stored o size) p)
  trace_opened (moves l b counts r) = trace_opened r
  trace_opened (moves l b switches r) = trace_opened r
  trace_opened (moves l b (refuses z) r) = trace_opened r

  -- The B2 items are counted as they are accepted, and no withdrawal uncounts one.
  trace_b2s : {n e : ℕ} {p q : Packing} {ts : List Step} → Trace o n p ts e q
      → q.b2s ≡ p.b2s + total (map (λ s. count_b2 (size_class o.capacity s)) (map (λ e. e.size) (entries_of o ts)))
  unfolding total flatten placed without settling
  trace_b2s (ends l) = omega arith
  trace_b2s (moves l b (places h) r) = omega (arith, trace_b2s r)
  trace_b2s (moves l b (withdraws e) r) = trace_b2s r
  trace_b2s (moves l b (settles e) r) = trace_b2s r
  trace_b2s (moves l b counts r) = trace_b2s r
  trace_b2s (moves l b switches r) = trace_b2s r
  trace_b2s (moves l b (refuses z) r) = trace_b2s r

  pub b2s_are : (q : Production) (cs : List Command) → (packing o q cs).b2s ≡ total (map (λ s. count_b2 (size_class o.capacity s)) (accepted_sizes o q cs))
  b2s_are q cs = omega (arith, trace_b2s (trace o q cs))

  -- Every number that a move answers is that of a bin which then is opened.
  move_named : {left n : ℕ} {p : Packing} {c : Command} {q : Packing} {a : Outcome} → Move o left p n c a q → (bin : ℕ) → Memᴰ bin (bins_named a) → (1 ≤ bin) × (bin ≤ opened q)
  move_named {n = n} {p = p} (places {c = c} h) =
      each_cons (λ bin. (1 ≤ bin) × (bin ≤ _)) (omega (arith, opened_placed o p (item_of o n c))) (λ bin m. absurd (Memᴰ.not-nil m))
  move_named {p = p} (withdraws {named = named} e) =
      each_cons (λ bin. (1 ≤ bin) × (bin ≤ _)) (omega (arith, opened_without o named p, first_any (holds_named named) p.bins e)) (λ bin m. absurd (Memᴰ.not-nil m))
  move_named {p = p} (settles {named = named} {size = size} e) =
      each_cons (λ bin. (1 ≤ bin) × (bin ≤ _)) (omega (arith, opened_settling o named (stored o size) p, first_any (holds_named named) p.bins (admits_named named (stored o size) p.bins e)))
      (λ bin m. absurd (Memᴰ.not-nil m))
  move_named counts = λ bin m. absurd (Memᴰ.not-nil m)
  move_named switches = λ bin m. absurd (Memᴰ.not-nil m)
  move_named (refuses z) = λ bin m. absurd (Memᴰ.not-nil m)

  -- So is every number that a production is answered, at its end: bins are never closed.
  pub trace_named : {n e : ℕ} {p q : Packing} {ts : List Step} → Trace o n p ts e q → (bin : ℕ) → Memᴰ bin (flatten (map (λ t. bins_named t.outcome) ts))
      → (1 ≤ bin) × (bin ≤ opened q)
  unfolding flatten
  trace_named (ends l) = λ bin m. absurd (Memᴰ.not-nil m)
  trace_named {q = q} (moves {a = a} l b m r) =
      each_append (λ bin. (1 ≤ bin) × (bin ≤ opened q)) (bins_named a) _ (λ bin x. omega (arith, move_named m bin x, trace_opened r)) (trace_named r)

  -- An item is answered no number below 1.
  pub trace_entries : {n e : ℕ} {p q : Packing} {ts : List Step} → Trace o n p ts e q → (f : Entry) → Memᴰ f (entries_of o ts) → 1 ≤ f.bin
  unfolding flatten
  trace_entries (ends l) = λ f m. absurd (Memᴰ.not-nil m)
  trace_entries (moves l b (places h) r) = each_cons (λ e. 1 ≤ e.bin) (omega arith) (trace_entries r)
  trace_entries (moves l b (withdraws e) r) = trace_entries r
  trace_entries (moves l b (settles e) r) = trace_entries r
  trace_entries (moves l b counts r) = trace_entries r
  trace_entries (moves l b switches r) = trace_entries r
  trace_entries (moves l b (refuses z) r) = trace_entries r

-- The number of bins is the greatest number answered.
pub opened_is : (o : Opening) (q : Production) (cs : List Command) → opened (packing o q cs) ≡ number_opened o q cs
opened_is o q cs = omega (arith, trace_opened o (trace o q cs))

-- No more items are on the shelf than were before, and than there are steps.
pub shelved_steps : (o : Opening) (ts : List Step) (on : List Shelved) → length (shelved_by o ts on) ≤ length ts + length on
shelved_steps o [] on = omega arith
shelved_steps o (t ∷ ts) on = omega (arith, shelved_steps o ts (shelving o t.number t.command t.outcome on), go t.outcome)
  where
    go : (a : Outcome) → length (shelving o t.number t.command a on) ≤ suc (length on)
    go (Placed bin free) = omega (arith, length-append on (record { item = item_of o t.number t.command; bin = bin } ∷ []))
    go (Counted n) = omega arith
    go (Withdrawn bin free) = omega (arith, keep_few (λ s. not (is_named (name_of t.command) s.item)) on)
    go (Switched r) = omega arith
    go (Settled bin free) = omega (arith, length-map on (settled_there (name_of t.command) (stored o (size_of t.command))))
    go (Refused reason) = omega arith

-- A member is at most the greatest.
pub at_most_greatest : {A : Type 0} (f : A → ℕ) (l : List A) (a : A) → Memᴰ a l → f a ≤ greatest (map f l)
unfolding greatest
at_most_greatest f [] = λ a m. absurd (Memᴰ.not-nil m)
at_most_greatest f (b ∷ l) = each_cons (λ a. f a ≤ max (f b) (greatest (map f l))) (omega arith) (λ a m. omega (arith, at_most_greatest f l a m))

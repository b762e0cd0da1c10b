-- The count: the numbers answered have no gaps among them, and the walk over the places of the stock finds how many bins there are.
use Prim.Native.Nat.{ℕ, zero, suc, ◌+◌, ◌≤◌, ◌<◌, min}
use mathlib.Core.Path.{◌≡◌, refl}
use mathlib.Core.Logic.{◌↔◌}
use mathlib.Core.Bool.{true, false≢true}
use mathlib.Core.List.Memᴰ
use mathlib.Core.List.{List, [], ◌∷◌, map, flatten, Memᴰ}
use native.Mathlib.Decide.{ℕ_discrete}
use native.Mathlib.Omega.{arith}
use borrow.Author.Tests.{eq-eqb, ne_eqb}
use lib.Dec.{eqb}
use lib.ListN.{length}
use Rattle.packing.specs.Prelude.{any, greatest, Opening, Production, Command, Entry, Tally}
use Rattle.packing.specs.Bins.{Item, Bin, Packing, opened, kind, stored}
use Rattle.packing.specs.Placing.{target, class_of, takes, bin_for, placed}
use Rattle.packing.specs.Sending.{item_of}
use Rattle.packing.specs.Run.{Step, entries_of, placements}
use Rattle.packing.specs.Counting.{stock_places, walk}
use Rattle.packing.specs.Compared.{number_opened}
use Rattle.packing.proofs.Putting.{fresh, put_each}
use Rattle.packing.proofs.Moves.{places, withdraws, settles, counts, switches, refuses, Trace, ends, moves, trace}
use Rattle.packing.proofs.Reached.{first_few, opens_class, opened_placed, opened_without, opened_settling}
use Rattle.packing.proofs.Numbers.{trace_opened, trace_entries}

-- Some entry has the number n.
abbrev Answered : ℕ → List Entry → Type 0
Answered n es = any (λ e. eqb e.bin n) es ≡ true

-- Then n is at most the greatest, and at least what each number is.
answered_within : (n : ℕ) (es : List Entry) → ((e : Entry) → Memᴰ e es → 1 ≤ e.bin) → Answered n es → (1 ≤ n) × (n ≤ greatest (map (λ e. e.bin) es))
unfolding any greatest
answered_within n [] some h = absurd (false≢true h)
answered_within n (e ∷ es) some h = elim (ℕ_discrete e.bin n) [
  | yes q ↦ omega (arith, q, some e (Memᴰ.head refl))
  | no q ↦ let later = answered_within n es (λ f m. some f (Memᴰ.tail m)) (rw (ne_eqb e.bin n q) at h) in omega (arith, later)
]

module _ (o : Opening) where
  -- Each bin is opened for an item, which is answered its number.
  opened_answered : (bin : ℕ) {n e : ℕ} {p q : Packing} {ts : List Step} → Trace o n p ts e q → opened p < bin → bin ≤ opened q → Answered bin (entries_of o ts)
  unfolding any flatten
  opened_answered bin (ends z) l m = absurd (omega arith)
  opened_answered bin (moves {k = k} {p = p} f b (places {c = c} h) r) l m = elim (ℕ_discrete (bin_for o p (item_of o k c)) bin) [
    | yes q ↦ rw (eq-eqb (bin_for o p (item_of o k c)) bin q)
    | no q ↦
        let further = opened_answered bin r (omega (arith, q, opened_placed o p (item_of o k c), first_few (takes o p (item_of o k c)) p.bins)) m in
        rw (ne_eqb (bin_for o p (item_of o k c)) bin q) further
  ]
  opened_answered bin (moves {p = p} f b (withdraws {named = named} e) r) l m = opened_answered bin r (omega (arith, opened_without o named p)) m
  opened_answered bin (moves {p = p} f b (settles {named = named} {size = size} e) r) l m = opened_answered bin r (omega (arith, opened_settling o named (stored o size) p)) m
  opened_answered bin (moves f b counts r) l m = opened_answered bin r l m
  opened_answered bin (moves f b switches r) l m = opened_answered bin r l m
  opened_answered bin (moves f b (refuses z) r) l m = opened_answered bin r l m

  pub numbers_answered : (q : Production) (cs : List Command) (n : ℕ) → Answered n (placements o q cs) ↔ ((1 ≤ n) × (n ≤ number_opened o q cs))
  numbers_answered q cs n = (
    answered_within n (placements o q cs) (trace_entries o (trace o q cs)),
    λ w. opened_answered n (trace o q cs) (omega (arith, w)) (omega (arith, w, trace_opened o (trace o q cs))),
  )

-- Every bin has a class, which is not 0.
abbrev pub Classed : List Bin → Type 0
Classed bins = (b : Bin) → Memᴰ b bins → 1 ≤ b.class

pub classed_none : Classed []
classed_none b m = absurd (Memᴰ.not-nil m)

pub classed_placed : (o : Opening) (p : Packing) (i : Item) → Classed p.bins → Classed (placed o p i).bins
unfolding placed
classed_placed o p i h =
    put_each (takes o p i) (fresh (class_of (target o p i))) i (λ b. 1 ≤ b.class) (λ b t c. c) (opens_class o p.b2s (kind o i)).0 p.bins h

pub tallied : {a b c d : ℕ} → a ≡ b → c ≡ d → ◌≡◌ {A = Tally} (record { figure = a; read = c }) (record { figure = b; read = d })
tallied e f = cc

-- The walk passes the opened bins, and stops at the first place without one or at the end of the stock.
pub walk_finds : (stock : ℕ) (bins : List Bin) → Classed bins → length bins ≤ stock
    → walk (stock_places stock bins) ≡ record { figure = length bins; read = min stock (length bins + 1) }
unfolding stock_places walk
walk_finds zero [] c l = tallied refl (omega arith)
walk_finds zero (b ∷ bs) c l = absurd (omega arith)
walk_finds (suc stock) [] c l = tallied refl (omega arith)
walk_finds (suc stock) (b ∷ bs) c l = go b.class (c b (Memᴰ.head refl)) (walk_finds stock bs (λ x m. c x (Memᴰ.tail m)) (omega arith))
  where
    go : (class : ℕ) → 1 ≤ class → walk (stock_places stock bs) ≡ record { figure = length bs; read = min stock (length bs + 1) }
        → walk (class ∷ stock_places stock bs) ≡ record { figure = suc (length bs); read = min (suc stock) (suc (length bs) + 1) }
    go zero l r = absurd (omega arith)
    go (suc class) l r = rw r (tallied refl (omega arith))

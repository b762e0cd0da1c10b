-- Weighing: if the items that go into one bin never weigh more than `most`, the items of a plan that passes weigh at most `most` for each bin that it uses.
-- The bins that a plan names are listed, each once, as `used` counts them; every entry's weight lies on one of them.
use Prim.Native.Nat.{ℕ, ◌+◌, ◌*◌, ◌≤◌}
use mathlib.Core.Path.{◌≡◌, refl, sym}
use mathlib.Core.Bool.{Bool, true, false, ◌||◌, false≢true}
use mathlib.Core.List.Memᴰ
use mathlib.Core.List.{List, [], ◌∷◌, map, Memᴰ}
use native.Mathlib.Omega.{arith}
use borrow.Author.Tests.{eqb-true, eq-eqb}
use lib.Dec.{eqb}
use lib.ListN.{length}
use Rattle.packing.specs.declared.{Entry.Entry}
use Rattle.std.specs.Prelude.{if◌then◌else◌}
use Rattle.packing.specs.Prelude.{total, any}
use Rattle.packing.specs.Refusing.{pass}
use Rattle.packing.specs.Plans.{on_bin, check}
use Rattle.packing.specs.Compared.{used}
use Rattle.worst_case.proofs.Lists.{weigh, sum}
use Rattle.worst_case.proofs.PlanFits.{passed_fits}

-- The sizes that the entries put on a bin; their sum is what the checker adds up.
part : ℕ → List Entry → List ℕ
part n [] = []
part n (e ∷ es) = if eqb e.bin n then e.size ∷ part n es else part n es

part_sum : (n : ℕ) (es : List Entry) → sum (part n es) ≡ on_bin n es
unfolding part total
part_sum n [] = refl
part_sum n (e ∷ es) = go (eqb e.bin n) (part_sum n es)
  where
    go : (a : Bool) → sum (part n es) ≡ on_bin n es → sum (if a then e.size ∷ part n es else part n es) ≡ (if a then e.size else 0) + on_bin n es
    go true h = omega arith
    go false h = omega arith

-- Some entry names the bin.
abbrev named : ℕ → List Entry → Bool
named n es = any (λ f. eqb f.bin n) es

-- The bins that the entries name, each once.
used_bins : List Entry → List ℕ
used_bins [] = []
used_bins (e ∷ es) = if named e.bin es then used_bins es else e.bin ∷ used_bins es

used_bins_count : (es : List Entry) → length (used_bins es) ≡ used es
unfolding used_bins used
used_bins_count [] = refl
used_bins_count (e ∷ es) = go (named e.bin es) (used_bins_count es)
  where
    go : (a : Bool) → length (used_bins es) ≡ used es → length (if a then used_bins es else e.bin ∷ used_bins es) ≡ (if a then 0 else 1) + used es
    go true h = omega arith
    go false h = omega arith

used_bins_have : (es : List Entry) (n : ℕ) → named n es ≡ true → Memᴰ n (used_bins es)
unfolding used_bins any
used_bins_have [] n h = absurd (false≢true h)
used_bins_have (e ∷ es) n h = go (named e.bin es) (eqb e.bin n) refl refl h (used_bins_have es)
  where
    go : (a b : Bool) → named e.bin es ≡ a → eqb e.bin n ≡ b → (b || named n es) ≡ true
        → ((m : ℕ) → named m es ≡ true → Memᴰ m (used_bins es)) → Memᴰ n (if a then used_bins es else e.bin ∷ used_bins es)
    go true true p q r has = Memᴰ.cast (sym (eqb-true e.bin n q)) (has e.bin p)
    go true false p q r has = has n r
    go false true p q r has = Memᴰ.head (sym (eqb-true e.bin n q))
    go false false p q r has = Memᴰ.tail (has n r)

module _ (w : ℕ → ℕ) where
  -- The weight on each of some bins, summed.
  on : List ℕ → List Entry → ℕ
  on [] es = 0
  on (n ∷ ns) es = weigh w (part n es) + on ns es

  -- One entry more adds its weight to the part of its own bin, and takes none from any.
  part_grows : (n : ℕ) (e : Entry) (es : List Entry) → weigh w (part n es) ≤ weigh w (part n (e ∷ es))
  unfolding part
  part_grows n e es = go (eqb e.bin n)
    where
      go : (a : Bool) → weigh w (part n es) ≤ weigh w (if a then e.size ∷ part n es else part n es)
      go true = omega arith
      go false = omega arith

  part_adds : (n : ℕ) (e : Entry) (es : List Entry) → e.bin ≡ n → weigh w (part n (e ∷ es)) ≡ w e.size + weigh w (part n es)
  unfolding part
  part_adds n e es h = rw (eq-eqb e.bin n h)

  on_grows : (ns : List ℕ) (e : Entry) (es : List Entry) → on ns es ≤ on ns (e ∷ es)
  unfolding on
  on_grows [] e es = omega arith
  on_grows (n ∷ ns) e es = omega (arith, part_grows n e es, on_grows ns e es)

  on_adds : (e : Entry) (ns : List ℕ) (es : List Entry) → Memᴰ e.bin ns → w e.size + on ns es ≤ on ns (e ∷ es)
  unfolding on
  on_adds e ns es (Memᴰ.head {x = n} {xs = ns'} h) = omega (arith, part_adds n e es h, on_grows ns' e es)
  on_adds e ns es (Memᴰ.tail {x = n} {xs = ns'} m) = omega (arith, part_grows n e es, on_adds e ns' es m)

  -- Every entry lies on one of the bins.
  on_all : (es : List Entry) → weigh w (map (λ e. e.size) es) ≤ on (used_bins es) es
  unfolding on used_bins
  on_all [] = omega arith
  on_all (e ∷ es) = go (named e.bin es) refl (on_all es)
    where
      go : (a : Bool) → named e.bin es ≡ a → weigh w (map (λ e. e.size) es) ≤ on (used_bins es) es
          → w e.size + weigh w (map (λ e. e.size) es) ≤ on (if a then used_bins es else e.bin ∷ used_bins es) (e ∷ es)
      go true p h = omega (arith, on_adds e (used_bins es) es (used_bins_have es e.bin p))
      go false p h = omega (arith, part_adds e.bin e es refl, on_grows (used_bins es) e es)

  on_most : (most : ℕ) (es : List Entry) → ((n : ℕ) → weigh w (part n es) ≤ most) → (ns : List ℕ) → on ns es ≤ most * length ns
  unfolding on
  on_most most es h [] = omega arith
  on_most most es h (n ∷ ns) = omega (arith, h n, on_most most es h ns)

  -- Sizes that go into one bin, by their sum, weigh at most this.
  abbrev pub MostInABin : (c most : ℕ) → Type 0
  MostInABin c most = (l : List ℕ) → sum l ≤ c → weigh w l ≤ most

  pub weighing : (c k : ℕ) (plan : List Entry) (sizes : List ℕ) → check c k plan sizes ≡ pass
      → (most : ℕ) → MostInABin c most → weigh w sizes ≤ most * used plan
  weighing c k plan sizes ok most bound =
      let fits = passed_fits c k plan sizes ok in
      let each : (n : ℕ) → weigh w (part n plan) ≤ most = λ n. bound (part n plan) (omega (arith, part_sum n plan, fits.none_overfull n)) in
      rw (← fits.items_in_order, ← (used_bins_count plan)) (omega (arith, on_all plan, on_most most plan each (used_bins plan)))

-- The bound of a trace, which is of one production, in which nothing is taken out and nothing is settled. From the empty packing it reaches one with the
-- invariant. Its items weigh what the items of any plan that passes weigh, so the bound of one packing applies. Every theorem that compares a packing with
-- a plan is a corollary.
use Prim.Native.Nat.{ℕ, ◌+◌, ◌*◌, ◌≤◌}
use mathlib.Core.Path.{◌≡◌, sym, ap, ◌∙◌}
use mathlib.Core.Bool.{true, false}
use mathlib.Core.List.{List, [], map, map-map}
use native.Mathlib.Omega.{arith}
use Rattle.packing.specs.declared.{Opening.Opening, Entry.Entry}
use Rattle.packing.specs.Prelude.{total, greatest, any}
use Rattle.packing.specs.Refusing.{pass}
use Rattle.packing.specs.Limits.{opening_good}
use Rattle.packing.specs.Bins.{Packing, empty}
use Rattle.packing.specs.Run.{Step, entry_of, shelved_by, entries_of}
use Rattle.packing.specs.Plans.{check}
use Rattle.packing.specs.Compared.{is_altered, used}
use Rattle.packing.proofs.Limits.{in_limits}
use Rattle.packing.proofs.Weights.{weight_of}
use Rattle.packing.proofs.Moves.{Trace}
use Rattle.packing.proofs.Numbers.{trace_opened}
use Rattle.packing.proofs.Shelved.{trace_lying, entries_shelved}
use Rattle.worst_case.proofs.Lists.{weigh, total_weigh}
use Rattle.worst_case.proofs.Above.{above, above_few}
use Rattle.worst_case.proofs.Sixths.{twice, heavy, heavy_apart, heavy_most}
use Rattle.worst_case.proofs.Weighing.{MostInABin, weighing}
use Rattle.worst_case.proofs.FourClasses.{of_size}
use Rattle.worst_case.proofs.Invariant.{trace_invariant}
use Rattle.worst_case.proofs.Bound.{Weighed, bound}

module _ (o : Opening) {e : ℕ} {q : Packing} {ts : List Step} (r : Trace o 1 empty ts e q) (none : any (λ t. is_altered t.outcome) ts ≡ false) where
  -- The sizes of the items that it places.
  abbrev sizes : List ℕ
  sizes = map (λ e. e.size) (entries_of o ts)

  -- The packing weighs what they weigh.
  trace_weighs : (w : ℕ → ℕ) → weight_of (of_size w) q.bins ≡ weigh w sizes
  trace_weighs w =
      (trace_lying o r).weighs (of_size w) ∙ ap total (sym (map-map (λ e. w e.size) entry_of (shelved_by o ts [])))
      ∙ ap (λ es. total (map (λ e. w e.size) es)) (entries_shelved o ts [] none) ∙ total_weigh (λ e. e.size) w (entries_of o ts)

  module _ (k : ℕ) (plan : List Entry) (ok : check o.capacity k plan sizes ≡ pass) where
    weighed_plan : (w : ℕ → ℕ) (most : ℕ) → MostInABin w o.capacity most → weigh w sizes ≤ most * used plan
    weighed_plan w = weighing w o.capacity k plan sizes ok

    weighed_trace : Weighed o.capacity (used plan) q.bins
    weighed_trace =
        let c = o.capacity in
        let sixths = weighed_plan (heavy c) (3 * c) (heavy_most c) in
        record {
          by_size = rw (trace_weighs (λ s. s)) (weighed_plan (λ s. s) c (λ l h. h));
          by_halves = rw (trace_weighs (above c 2)) (weighed_plan (above c 2) 1 (λ l h. omega (arith, above_few c 2 l (omega arith) h)));
          by_thirds = rw (trace_weighs (above c 3)) (weighed_plan (above c 3) 2 (λ l h. omega (arith, above_few c 3 l (omega arith) h)));
          by_sixths = rw (trace_weighs (above c 2), trace_weighs (above c 3), trace_weighs (twice c)) (omega (arith, heavy_apart c sizes));
        }

    -- The bins of the packing are as many as the greatest number answered.
    pub trace_five : opening_good o ≡ true → 3 * greatest (map (λ e. e.bin) (entries_of o ts)) ≤ 5 * used plan + 5
    trace_five good =
        let m = (in_limits o good).m in
        let inv = trace_invariant o (omega arith) r none in
        omega (arith, trace_opened o r, bound o.capacity o.m q.b2s (used plan) q.bins inv m.0 m.1 weighed_trace)

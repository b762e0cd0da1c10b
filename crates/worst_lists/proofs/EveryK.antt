-- Every k is met. The halves open a bin each, and what comes after them goes as the tables tell, whatever k and m are. That no plan uses fewer than k bins
-- is the halves' doing: no two of them go into one.
use Prim.Native.Nat.{ℕ, zero, suc, ◌+◌, ◌-◌, ◌*◌, ◌/◌, ◌≤◌}
use mathlib.Core.Path.{◌≡◌, refl, sym, ap, ◌∙◌}
use mathlib.Core.Bool.{true}
use mathlib.Core.List.{List, [], ◌∷◌, ◌++◌, map, Memᴰ}
use native.Mathlib.Omega.{arith}
use native.Mathlib.Nat.{div-mul-le_self, lt-div-mul-add, le-div_iff_mul-le}
use borrow.Author.Tests.{lt-ltb}
use lib.ListN.{length, take, replicate}
use Rattle.packing.specs.declared.{Entry.Entry}
use Rattle.packing.specs.declared.Production.TheVariants.{First}
use Rattle.packing.specs.declared.Command.TheVariants.{Shelve}
use Rattle.packing.specs.Prelude.{not}
use Rattle.packing.specs.Refusing.{pass}
use Rattle.packing.specs.Limits.{m_good, opening_good}
use Rattle.packing.specs.SizeClasses.{size_class}
use Rattle.packing.specs.Bins.{empty, stored}
use Rattle.packing.specs.Plans.{check}
use Rattle.packing.specs.Compared.{number_opened, used}
use Rattle.packing.proofs.Limits.{within_limits, in_limits}
use Rattle.packing.proofs.Reached.{reached}
use Rattle.packing.proofs.Numbers.{opened_is}
use Rattle.worst_case.proofs.Lists.{weigh}
use Rattle.worst_case.proofs.Above.{above, above_few}
use Rattle.worst_case.proofs.Weighing.{weighing}
use Rattle.worst_case.proofs.Used.{used_few}
use Rattle.worst_case.proofs.WorstCase.{worst_case}
use Rattle.worst_lists.specs.Lists.{stock, capacity, opening, half, front, most, worst, plan}
use Rattle.worst_lists.specs.EveryK.{MetBy, EveryKMet, NeverMore}
use Rattle.worst_lists.proofs.Onward.{onward, stands_empty}
use Rattle.worst_lists.proofs.Sent.{Sent, sent_from}
use Rattle.worst_lists.proofs.Planned.{below_quarter, above_quarter, few_items, plan_numbered, plan_passes}
use Rattle.worst_lists.proofs.Table.{standing, Passes, table}
use Rattle.worst_lists.proofs.Streams.{stream_accepted, stream_bytes}

-- Each half opens a bin, and the next finds bins that stand as before.
module _ (ss : List ℕ) where
  more_halves : (k yet : ℕ) → onward capacity (standing 1 half (k + yet)) (replicate k half ++ ss) ≡ onward capacity (standing 1 half yet) ss
  unfolding onward size_class
  more_halves zero yet = let same : 0 + yet ≡ yet = omega arith in rw same
  more_halves (suc k) yet =
      let less : suc k + yet - 1 ≡ k + yet = omega arith in
      rw (lt-ltb 0 (suc k + yet) (omega arith), less) (more_halves k yet)

  all_halves : (k yet : ℕ) → 1 ≤ k → onward capacity (standing 0 0 (k + yet)) (replicate k half ++ ss) ≡ onward capacity (standing 1 half yet) ss
  unfolding onward size_class
  all_halves zero yet h = absurd (omega arith)
  all_halves (suc k) yet h =
      let less : suc k + yet - 1 ≡ k + yet = omega arith in
      rw (lt-ltb 0 (suc k + yet) (omega arith), less) (more_halves k yet)

  -- They are so many above a half.
  halves_weigh : (k : ℕ) → k ≤ weigh (above capacity 2) (replicate k half ++ ss)
  halves_weigh zero = omega arith
  halves_weigh (suc k) = omega (arith, halves_weigh k)

-- Without a trailer the stored size is the size.
as_sent : (m : ℕ) (ss : List ℕ) → map (stored (opening m)) ss ≡ ss
as_sent m [] = refl
as_sent m (s ∷ ss) = let same : s + 0 ≡ s = omega arith in cc (same, as_sent m ss)

module _ (m k : ℕ) (good : m_good m ≡ true) (some : 1 ≤ k) (few : k ≤ stock) where
  abbrev bins : ℕ
  bins = most k - k

  -- The figures: k halves and these bins are the most, which the stock has.
  record Figures : Type 0 where
    together : k + bins ≡ most k
    in_stock : most k ≤ stock
    in_table : bins ≤ 205
    few_pairs : 3 * bins ≤ 2 * k + 5

  figures : Figures
  figures =
      let least = div-mul-le_self (5 * k + 5) 3 in
      let next = lt-div-mul-add {a = 5 * k + 5} {b = 3} (omega arith) in
      record { together = omega arith; in_stock = omega arith; in_table = omega arith; few_pairs = omega arith }

  passes_test : Passes bins
  passes_test = table bins figures.in_table

  goes_on : onward capacity (standing 0 0 (most k)) (map (stored (opening m)) (worst k)) ≡ true
  goes_on =
      ap (onward capacity (standing 0 0 (most k))) (as_sent m (worst k)) ∙ ap (λ yet. onward capacity (standing 0 0 yet) (worst k)) (sym figures.together)
      ∙ all_halves (front bins) k bins some ∙ passes_test.goes_on

  opening_is_good : opening_good (opening m) ≡ true
  opening_is_good = rw good

  six : 6 ≤ m
  six = (within_limits 6 9 m good).0

  sent : Sent (opening m) refl six (most k) figures.in_stock (worst k) empty 1
  sent =
      sent_from (opening m) refl six (most k) figures.in_stock (worst k) (standing 0 0 (most k)) empty 1
      (stands_empty (opening m) six (most k) figures.in_stock (standing 0 0 (most k)) refl refl refl) goes_on

  -- The plan, by what the tables tell of it.
  each_good : (s : ℕ) → Memᴰ s (worst k) → (1 ≤ s) × (s ≤ capacity)
  each_good s mem = let h = sent.each_good s mem in omega (arith, h.0, h.1)

  few_below : length (below_quarter (front bins)) ≤ k
  few_below = omega (arith, passes_test.few_below, figures.few_pairs)

  few_above : length (above_quarter (front bins)) ≤ k
  few_above = omega (arith, passes_test.few_above, figures.few_pairs)

  plan_good : check capacity k (plan k) (worst k) ≡ pass
  plan_good = plan_passes k (front bins) (omega arith) each_good few_below few_above passes_test.pairs

  none_fewer : (j : ℕ) (other : List Entry) → check capacity j other (worst k) ≡ pass → k ≤ used other
  none_fewer j other ok =
      omega (arith, halves_weigh (front bins) k, weighing (above capacity 2) capacity j other (worst k) ok 1 (λ l h. omega (arith, above_few capacity 2 l (omega arith) h)))

  met : MetBy m k
  met =
      record {
        bytes = stream_bytes (opening m) opening_is_good (worst k) (λ s mem. omega (arith, each_good s mem));
        is_read =
            stream_accepted (opening m) refl opening_is_good (worst k)
            (few_items k (front bins) (omega arith) each_good few_below few_above passes_test.pairs);
        all_accepted = sent.all_accepted ∙ as_sent m (worst k);
        none_is_altered = ap not sent.none_is_altered;
        opens = sym (opened_is (opening m) First (map Shelve (worst k))) ∙ sent.all_opened;
        passes = plan_good;
        uses =
            omega (arith, used_few k (plan k) (plan_numbered k (front bins) (omega arith) each_good few_below few_above passes_test.pairs), none_fewer k (plan k) plan_good);
        none_uses_fewer = λ j other ok. omega (arith, none_fewer j other ok);
      }

pub every_k_met : EveryKMet
every_k_met m k good some few = met m k good some few

pub never_more : NeverMore
never_more o q cs good j k plan none ok =
    let n = number_opened o q (take j cs) in
    let figure : 3 * n ≤ 5 * used plan + 5 = worst_case 5 (omega arith) o q cs good j k plan none ok in
    let in-thirds : n ≤ (5 * used plan + 5) / 3 = (le-div_iff_mul-le {k = 3} {x = n} {y = 5 * used plan + 5} (omega arith)).1 (omega arith) in
    omega (arith, in-thirds, (in_limits o good).stock, opened_is o q (take j cs), (reached o q (take j cs)).stock_lasts)

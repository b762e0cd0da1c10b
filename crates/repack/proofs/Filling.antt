-- The row that is sorted and packed is the repacking of the sizes.
use mathlib.Core.Path.{◌≡◌, ◌∙◌, ap}
use mathlib.Core.List.{List, ◌++◌, foldl}
use Prim.Native.Nat.{ℕ}
use native.Mathlib.Omega.{arith}
use lib.ListN.{length, drop}
use Rattle.packing.specs.Bins.{empty, opened}
use Rattle.packing.specs.Rows.{SoundRow}
use Rattle.ordering.specs.declared.Order.TheVariants.{LargestFirst}
use Rattle.sorted_sizes.specs.Words.{InLimits}
use Rattle.sorted_sizes.specs.Sorted.{Sorted}
use Rattle.sorted_sizes.proofs.Sorting.{sound_limits}
use Rattle.decreasing.specs.Repack.{next, new_bins, new_count}
use Rattle.decreasing.specs.Written.{written}
use Rattle.decreasing.proofs.Written.{written_all}
use Rattle.repack.specs.Packed.{Packable, Packed}

module _ (c : ℕ) (sizes answers : List ℕ) (g : SoundRow c (length answers) sizes) where
  pub row_limits : InLimits c sizes
  row_limits = sound_limits c sizes g.capacity_is_good g.rows_good g.sizes_good

  module _ {sorted : List ℕ} (s : Sorted LargestFirst c sizes sorted) where
    pub sorted_packable : Packable c sorted answers
    sorted_packable = record {
      few = omega (arith, s.whole, g.rows_good);
      capacity_most = row_limits.capacity_most;
      each = λ k l. let w = s.each k (omega (arith, s.whole)) in (w.0, omega (arith, w.1, g.words_enough));
    }

    module _ {bins : ℕ} {exit : List ℕ} (p : Packed c sorted answers bins exit) where
      pub packed_count : bins ≡ new_count c sizes
      packed_count = p.counted ∙ ap (λ is. opened (foldl (next c) empty is)) s.in_order

      pub packed_answers : exit ≡ new_bins c sizes ++ drop (length sizes) answers
      packed_answers = p.numbers_written ∙ ap (λ is. written c empty is answers) s.in_order ∙ written_all c sizes answers g.words_enough

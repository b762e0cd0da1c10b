-- The new count of a repacking is no more than the row has sizes, there are no more pairs than pictures, and the place of a bad size is in the rows: all fit
-- their place in the number.
use mathlib.Core.Path.{◌≡◌, refl}
use mathlib.Core.Bool.{Bool, true, false}
use mathlib.Core.List.{List, [], ◌∷◌, ◌++◌}
use Prim.Native.Nat.{ℕ, suc, ◌+◌, ◌^◌, ◌≤◌, ◌<◌, max}
use native.Mathlib.Omega.{arith}
use borrow.Author.Tests.{leb-true}
use lib.Dec.{leb, ltb}
use lib.ListN.{length, length-append}
use Rattle.std.specs.Prelude.{if◌then◌else◌}
use Rattle.packing.specs.declared.{RowReason.RowReason}
use Rattle.packing.specs.Prelude.{Ok, Err}
use Rattle.packing.specs.Refusing.{RowResult, refuse, pass_if, ◌and_then◌}
use Rattle.packing.specs.Limits.{within, capacity_good, most_rows}
use Rattle.packing.specs.Rows.{check_limits, check_sizes, check_words, check_row, check_pair}
use Rattle.packing.proofs.Rows.{passed_sound, passed_pair}
use Rattle.packing.proofs.Weights.{keep_few}
use Rattle.decreasing.specs.Repack.{repack_result}
use Rattle.decreasing.proofs.Repacked.{repacked_few}
use Rattle.matching.specs.Pairs.{sound_places, pair_result}
use Rattle.matching.proofs.Promises.{pairs_promised}
use Rattle.codes.specs.Codes.{RepackFits, PairFits}

-- A refusal's place is below so many.
abbrev Below : ℕ → RowResult → Type 0
Below n (Ok passed) = Unit {0}
Below n (Err r) = r.place < n

module _ (c : ℕ) where
  sizes_place : (place : ℕ) (sizes : List ℕ) → Below (suc (place + length sizes)) (check_sizes c place sizes)
  unfolding check_sizes
  sizes_place place [] = tt
  sizes_place place (s ∷ ss) = go (within 1 c s) (check_sizes c (suc place) ss) (sizes_place (suc place) ss)
    where
      go : (t : Bool) (r : RowResult) → Below (suc (suc place + length ss)) r
          → Below (suc (place + suc (length ss))) (if t then r else refuse RowReason.SizeOutside place)
      go true (Ok passed) h = tt
      go true (Err r) h = omega arith
      go false r h = omega arith

  -- 11, 12 and 22 have place 0; and where 12 does not refuse, there are few sizes.
  chain_place : (longest : ℕ) (sizes : List ℕ) (needed words : ℕ) → (longest ≤ most_rows → length sizes ≤ 8_192)
      → Below (2 ^ 32) (check_limits c longest and_then check_sizes c 1 sizes and_then check_words needed words)
  unfolding check_limits
  chain_place longest sizes needed words few = go (capacity_good c) (leb longest most_rows) refl (check_sizes c 1 sizes) (leb needed words) (sizes_place 1 sizes)
    where
      go : (t u : Bool) → leb longest most_rows ≡ u → (sized : RowResult) (v : Bool) → Below (suc (1 + length sizes)) sized
          → Below (2 ^ 32) ((pass_if t RowReason.CapacityOutside 0 and_then pass_if u RowReason.TooLong 0) and_then sized and_then pass_if v RowReason.TooFewWords 0)
      go false u e sized v h = omega arith
      go true false e sized v h = omega arith
      go true true e (Err r) v h = omega (arith, few (leb-true longest most_rows e))
      go true true e (Ok passed) true h = tt
      go true true e (Ok passed) false h = omega arith

  pub repack_fits : (words old : ℕ) (sizes : List ℕ) → RepackFits (repack_result c sizes old (check_row c words sizes))
  repack_fits words old sizes =
      go (check_row c words sizes) refl (chain_place (length sizes) sizes (length sizes) words (λ h. omega (arith, h)))
    where
      go : (r : RowResult) → check_row c words sizes ≡ r → Below (2 ^ 32) r → RepackFits (repack_result c sizes old r)
      go (Ok passed) e h = omega (arith, repacked_few c sizes, (passed_sound c words sizes e).rows_good)
      go (Err r) e h = h

  pub pair_fits : (words : ℕ) (pictures sounds : List ℕ) → PairFits (pair_result c pictures sounds (check_pair c words pictures sounds))
  pair_fits words pictures sounds =
      go (check_pair c words pictures sounds) refl
      (chain_place (max (length pictures) (length sounds)) (pictures ++ sounds) (length pictures) words (λ h. omega (arith, length-append pictures sounds)))
    where
      go : (r : RowResult) → check_pair c words pictures sounds ≡ r → Below (2 ^ 32) r → PairFits (pair_result c pictures sounds r)
      go (Ok passed) e h =
          let p = pairs_promised c pictures sounds in
          omega (arith, p.counted, p.one_each, keep_few (ltb 0) (sound_places c pictures sounds), (passed_pair c words pictures sounds e).pictures_few)
      go (Err r) e h = h

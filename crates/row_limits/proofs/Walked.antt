-- The walk for the first bad size: what is still to come of it at a place of the row, there and one further on.
use mathlib.Core.Path.{◌≡◌}
use mathlib.Core.Bool.{true, false}
use mathlib.Core.List.{List}
use Prim.Native.Nat.{ℕ, suc, ◌+◌, ◌<◌}
use native.Mathlib.Numerals.{add-one}
use native.Mathlib.Omega.{arith}
use lib.ListN.{length, drop, get_or}
use lib.Seq.{drop-cons, drop-length}
use Rattle.packing.specs.declared.{RowReason.RowReason}
use Rattle.packing.specs.Refusing.{RowResult, refuse, pass}
use Rattle.packing.specs.Limits.{within}
use Rattle.packing.specs.Rows.{check_sizes}

abbrev pub rest : (c first i : ℕ) (sizes : List ℕ) → RowResult
rest c first i sizes = check_sizes c (first + i) (drop i sizes)

module _ (c first : ℕ) (sizes : List ℕ) where
  pub at_end : (i : ℕ) → i ≡ length sizes → rest c first i sizes ≡ pass
  unfolding check_sizes
  at_end i e = rw (e, drop-length sizes)

  module _ (i : ℕ) (h : i < length sizes) where
    pub bad_here : within 1 c (get_or sizes i 0) ≡ false → rest c first i sizes ≡ refuse RowReason.SizeOutside (first + i)
    unfolding check_sizes
    bad_here e = rw (drop-cons sizes i 0 h, e)

    pub good_here : within 1 c (get_or sizes i 0) ≡ true → rest c first i sizes ≡ rest c first (i + 1) sizes
    unfolding check_sizes
    good_here e =
        let z : first + (i + 1) ≡ suc (first + i) = omega arith in
        rw (drop-cons sizes i 0 h, e, z, add-one)

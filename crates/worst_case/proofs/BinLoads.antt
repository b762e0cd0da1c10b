-- What a production's own plan puts into a bin is never above the capacity: it is the total of the sizes still shelved and answered its number (packing,
-- Holding).
use Prim.Native.Nat.{ℕ, ◌+◌, ◌≤◌}
use mathlib.Core.Path.{◌≡◌, refl}
use mathlib.Core.Bool.{Bool, true, false}
use mathlib.Core.List.{List, [], ◌∷◌, map}
use native.Mathlib.Omega.{arith}
use lib.Dec.{eqb}
use Rattle.packing.specs.declared.{Opening.Opening, Production.Production, Command.Command, Entry.Entry}
use Rattle.std.specs.Prelude.{if◌then◌else◌}
use Rattle.packing.specs.Prelude.{total, keep}
use Rattle.packing.specs.Plans.{on_bin}
use Rattle.packing.specs.Compared.{shelf_plan, sizes_in}
use Rattle.packing.proofs.Holding.{shown_few}

on_bin_is : (n : ℕ) (es : List Entry) → on_bin n es ≡ total (sizes_in n es)
unfolding total keep
on_bin_is n [] = refl
on_bin_is n (e ∷ es) = go (eqb e.bin n) (on_bin_is n es)
  where
    go : (t : Bool) → on_bin n es ≡ total (sizes_in n es)
        → (if t then e.size else 0) + on_bin n es
        ≡ total (map (λ f. f.size) (if t then e ∷ keep (λ f. eqb f.bin n) es else keep (λ f. eqb f.bin n) es))
    go true r = omega arith
    go false r = omega arith

pub shelf_on_bin : (o : Opening) (q : Production) (cs : List Command) (n : ℕ) → on_bin n (shelf_plan o q cs) ≤ o.capacity
shelf_on_bin o q cs n = omega (arith, on_bin_is n (shelf_plan o q cs), shown_few o q cs n)

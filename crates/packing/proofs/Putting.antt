-- One item goes into the first bin that takes it, or into a new one: what this does to the number of bins, and to what holds of each.
use Prim.Native.Nat.{ℕ, suc, max}
use mathlib.Core.Path.{◌≡◌, refl}
use mathlib.Core.Bool.{Bool, true, false}
use mathlib.Core.List.{List, [], ◌∷◌, Memᴰ}
use native.Mathlib.Omega.{arith}
use lib.ListN.{length}
use Rattle.std.specs.Prelude.{if◌then◌else◌}
use Rattle.packing.specs.Bins.{Item, Bin, add}
use Rattle.packing.specs.Placing.{first_fit, put}
use Rattle.packing.proofs.Tests.{each_cons}

-- the new bin of a class
abbrev pub fresh : (class : ℕ) → Bin
fresh n = record { class = n; items = [] }

module _ (takes : Bin → Bool) (new : Bin) (i : Item) where
  -- The bin that takes the item, or the new one, is counted.
  pub put_length : (bins : List Bin) → length (put takes new i bins) ≡ max (length bins) (suc (first_fit takes bins))
  unfolding put first_fit
  put_length [] = refl
  put_length (b ∷ bs) = go (takes b) (put_length bs)
    where
      go : (t : Bool) → length (put takes new i bs) ≡ max (length bs) (suc (first_fit takes bs))
          → length (if t then add i b ∷ bs else b ∷ put takes new i bs) ≡ max (suc (length bs)) (suc (if t then 0 else suc (first_fit takes bs)))
      go true r = omega arith
      go false r = omega arith

  -- What every bin is, and stays when it takes the item, and what the new bin is with the item alone, every bin is after.
  pub put_each : (T : Bin → Type 0) → ((b : Bin) → takes b ≡ true → T b → T (add i b)) → T (add i new) → (bins : List Bin)
      → ((b : Bin) → Memᴰ b bins → T b) → (b : Bin) → Memᴰ b (put takes new i bins) → T b
  unfolding put
  put_each T keep opens [] h = each_cons T opens h
  put_each T keep opens (b ∷ bs) h = go (takes b) refl (put_each T keep opens bs (λ x m. h x (Memᴰ.tail m)))
    where
      go : (t : Bool) → takes b ≡ t → ((x : Bin) → Memᴰ x (put takes new i bs) → T x)
          → (x : Bin) → Memᴰ x (if t then add i b ∷ bs else b ∷ put takes new i bs) → T x
      go true e r = each_cons T (keep b e (h b (Memᴰ.head refl))) (λ x m. h x (Memᴰ.tail m))
      go false e r = each_cons T (h b (Memᴰ.head refl)) r

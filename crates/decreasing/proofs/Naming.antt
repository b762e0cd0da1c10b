-- The number of the bin that holds an item is the one found for it when it is packed: of an item of another number, first fit finds the same bin before and
-- after.
use Prim.Native.Nat.{ℕ, suc, ◌+◌, ◌≤◌}
use mathlib.Core.Path.{◌≡◌, refl, ap, ◌∙◌}
use mathlib.Core.Bool.{Bool, true, false, ◌||◌, true≢false, false≢true}
use mathlib.Core.List.{List, [], ◌∷◌, foldl}
use native.Mathlib.Omega.{arith}
use borrow.Author.Tests.{eq-eqb, ne_eqb, lt-ltb, le-ltb}
use Rattle.std.specs.Prelude.{if◌then◌else◌}
use Rattle.packing.specs.Prelude.{total, any}
use Rattle.packing.specs.Bins.{Item, Bin, Packing, empty, add}
use Rattle.packing.specs.Placing.{first_fit, put}
use Rattle.packing.specs.Withdrawing.{is_named, holds_named, bin_holding}
use Rattle.packing.proofs.Putting.{fresh}
use Rattle.packing.proofs.Weights.{one_for, weight_of, put_weight, any_bin_weighs}
use Rattle.ordering.specs.Items.{items}
use Rattle.ordering.specs.Ordered.{largest_first}
use Rattle.decreasing.specs.Repack.{has_space, bin_for, next}
use Rattle.ordering.specs.declared.Order.TheVariants.{LargestFirst}
use Rattle.ordering.proofs.Ordered.{ordered_sum}
use Rattle.ordering.proofs.Items.{times, times_few}

module _ (takes : Bin → Bool) (class : ℕ) (i : Item) where
  -- The item itself, where no item of its number was held.
  put_found : (bins : List Bin) → any (holds_named i.command) bins ≡ false
      → first_fit (holds_named i.command) (put takes (fresh class) i bins) ≡ first_fit takes bins
  unfolding put first_fit any
  put_found [] h = rw (eq-eqb i.command i.command refl)
  put_found (b ∷ bs) h = go (takes b) (holds_named i.command b) refl h (put_found bs)
    where
      go : (t u : Bool) → holds_named i.command b ≡ u → (u || any (holds_named i.command) bs) ≡ false
          → (any (holds_named i.command) bs ≡ false → first_fit (holds_named i.command) (put takes (fresh class) i bs) ≡ first_fit takes bs)
          → first_fit (holds_named i.command) (if t then add i b ∷ bs else b ∷ put takes (fresh class) i bs) ≡ (if t then 0 else suc (first_fit takes bs))
      go t true e h r = absurd (true≢false h)
      go true false e h r = rw (eq-eqb i.command i.command refl)
      go false false e h r = rw e (ap suc (r h))

  -- An item of another number that was held.
  put_finds : (named : ℕ) → (i.command ≡ named → ⊥) → (bins : List Bin) → any (holds_named named) bins ≡ true
      → first_fit (holds_named named) (put takes (fresh class) i bins) ≡ first_fit (holds_named named) bins
  unfolding put first_fit any
  put_finds named z [] h = absurd (false≢true h)
  put_finds named z (b ∷ bs) h = go (takes b) (holds_named named b) refl h (put_finds named z bs)
    where
      go : (t u : Bool) → holds_named named b ≡ u → (u || any (holds_named named) bs) ≡ true
          → (any (holds_named named) bs ≡ true → first_fit (holds_named named) (put takes (fresh class) i bs) ≡ first_fit (holds_named named) bs)
          → first_fit (holds_named named) (if t then add i b ∷ bs else b ∷ put takes (fresh class) i bs) ≡ (if u then 0 else suc (first_fit (holds_named named) bs))
      go true u e h r = rw (ne_eqb i.command named z, e)
      go false true e h r = rw e
      go false false e h r = rw e (ap suc (r h))

-- How often the bins hold an item of a number.
abbrev held : (named : ℕ) → Packing → ℕ
held named p = weight_of (one_for (is_named named)) p.bins

-- No number is held twice, with these items still to come.
abbrev pub Apart : Packing → List Item → Type 0
Apart p is = (named : ℕ) → held named p + times named is ≤ 1

-- The items of a row have different numbers, in whatever order.
pub row_apart : (sizes : List ℕ) → Apart empty (largest_first (items 1 sizes))
unfolding total
row_apart sizes named = omega (arith, ordered_sum LargestFirst (one_for (is_named named)) (items 1 sizes), times_few named 1 sizes)

module _ (c : ℕ) where
  next_held : (named : ℕ) (p : Packing) (i : Item) → held named (next c p i) ≡ held named p + one_for (is_named named) i
  next_held named p i = put_weight (one_for (is_named named)) (has_space c i) 1 i p.bins

  pub next_apart : (i : Item) (is : List Item) (p : Packing) → Apart p (i ∷ is) → Apart (next c p i) is
  unfolding total
  next_apart i is p h named = omega (arith, next_held named p i, h named)

  -- What is held stays where it is.
  stays : (named : ℕ) (is : List Item) (p : Packing) → 1 ≤ held named p → Apart p is → bin_holding named (foldl (next c) p is) ≡ bin_holding named p
  unfolding total
  stays named [] p h a = refl
  stays named (i ∷ is) p h a =
      let some : any (holds_named named) p.bins ≡ true = any_bin_weighs (is_named named) p.bins ∙ lt-ltb 0 (held named p) h in
      let other : i.command ≡ named → ⊥ = λ e. let one : one_for (is_named named) i ≡ 1 = rw (eq-eqb i.command named e) in omega (arith, a named) in
      stays named is (next c p i) (omega (arith, next_held named p i)) (next_apart i is p a) ∙ ap suc (put_finds (has_space c i) 1 i named other p.bins some)

  -- At the end of a run an item is in the bin that was found for it.
  pub found_for : (i : Item) (is : List Item) (p : Packing) → Apart p (i ∷ is) → bin_holding i.command (foldl (next c) p (i ∷ is)) ≡ bin_for c i p
  unfolding total
  found_for i is p a =
      let one : one_for (is_named i.command) i ≡ 1 = rw (eq-eqb i.command i.command refl) in
      let none : any (holds_named i.command) p.bins ≡ false =
      any_bin_weighs (is_named i.command) p.bins ∙ le-ltb 0 (held i.command p) (omega (arith, a i.command)) in
      stays i.command is (next c p i) (omega (arith, next_held i.command p i)) (next_apart i is p a) ∙ ap suc (put_found (has_space c i) 1 i p.bins none)

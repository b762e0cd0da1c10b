-- One item is placed: the first place of the tree with enough is that of the first bin with space, and the tree then shows the packing with the item.
use mathlib.Core.Path.{◌≡◌, refl, sym, ap, subst, ◌∙◌}
use mathlib.Core.Bool.{Bool, true, false, cond}
use mathlib.Core.List.{List, [], ◌∷◌, ◌++◌, Memᴰ}
use Prim.Native.Nat.{ℕ, zero, suc, ◌+◌, ◌-◌, ◌≤◌, ◌<◌, max}
use native.Mathlib.Omega.{arith}
use borrow.Author.Tests.{leb-true, leb-false, le-leb, lt-leb, ltb-true, ltb-false, lt-ltb, le-ltb}
use lib.Dec.{leb, ltb}
use lib.ListN.{length, get_or, replicate, set}
use Rattle.std.specs.Prelude.{if◌then◌else◌, Option, Some, None}
use Rattle.std.specs.Option.{option_map}
use Rattle.packing.specs.Prelude.{total}
use Rattle.packing.specs.Bins.{Item, Bin, Packing, load, add}
use Rattle.packing.specs.Placing.{first_fit, put}
use Rattle.packing.proofs.Tests.{clash}
use Rattle.packing.proofs.Putting.{fresh, put_length, put_each}
use Rattle.packing.proofs.Reached.{first_few}
use Rattle.tournament.specs.declared.Shape.{Shape}
use Rattle.tournament.specs.Trees.{leaves}
use Rattle.tournament.specs.LowestFit.{lowest_fit}
use Rattle.tournament.proofs.Fits.{Lowest, Meaning, meaning, fit_cons}
use Rattle.tournament.proofs.Leaves.{leaves_length}
use Rattle.climb.specs.Stored.{Stored}
use Rattle.decreasing.specs.Repack.{has_space}
use Rattle.repack.specs.Shown.{frees, Shows, Placed}

-- Place f, if it is among so many.
abbrev spot : (f n : ℕ) → Option ℕ
spot f n = if ltb f n then Some f else None

spot_further : (f n : ℕ) → option_map suc (spot f n) ≡ spot (suc f) (suc n)
spot_further f n = go (ltb f n) refl
  where
    go : (t : Bool) → ltb f n ≡ t → option_map suc (if t then Some f else None) ≡ spot (suc f) (suc n)
    go true e = rw (lt-ltb (suc f) (suc n) (omega (arith, ltb-true f n e)))
    go false e = rw (le-ltb (suc f) (suc n) (omega (arith, ltb-false f n e)))

spot_at_lem : (f n j : ℕ) → spot f n ≡ Some j → (f < n) × (f ≡ j)
spot_at_lem f n j e = go (ltb f n) refl e
  where
    go : (t : Bool) → ltb f n ≡ t → (if t then Some f else None) ≡ Some j → (f < n) × (f ≡ j)
    go true q e = (ltb-true f n q, cc)
    go false q e = clash (cc)

spot_nothing : (f n : ℕ) → spot f n ≡ None → n ≤ f
spot_nothing f n e = go (ltb f n) refl e
  where
    go : (t : Bool) → ltb f n ≡ t → (if t then Some f else None) ≡ None → n ≤ f
    go true q e = clash (cc)
    go false q e = ltb-false f n q

module _ (c : ℕ) (i : Item) where
  abbrev takes : Bin → Bool
  takes b = has_space c i b

  abbrev after : List Bin → List Bin
  after bins = put takes (fresh 1) i bins

  -- A bin has space where its free space is enough.
  same_test : (b : Bin) → load b ≤ c → leb i.size (c - load b) ≡ takes b
  same_test b l = go (takes b) refl
    where
      go : (t : Bool) → takes b ≡ t → leb i.size (c - load b) ≡ t
      go true e = le-leb i.size (c - load b) (omega (arith, leb-true (load b + i.size) c e))
      go false e = lt-leb i.size (c - load b) (omega (arith, leb-false (load b + i.size) c e))

  -- Among places without a bin nothing is found.
  none_free : 1 ≤ i.size → (k : ℕ) → lowest_fit i.size (replicate k 0) ≡ None
  unfolding lowest_fit
  none_free some zero = refl
  none_free some (suc k) = rw (fit_cons, lt-leb i.size 0 some, none_free some k)

  first_found : 1 ≤ i.size → (bins : List Bin) (k : ℕ) → ((b : Bin) → Memᴰ b bins → load b ≤ c)
      → lowest_fit i.size (frees c bins ++ replicate k 0) ≡ spot (first_fit takes bins) (length bins)
  unfolding first_fit
  first_found some [] k h = none_free some k
  first_found some (b ∷ bs) k h =
      rw (fit_cons, same_test b (h b (Memᴰ.head refl))) (go (takes b) (first_found some bs k (λ x m. h x (Memᴰ.tail m))))
    where
      go : (t : Bool) → lowest_fit i.size (frees c bs ++ replicate k 0) ≡ spot (first_fit takes bs) (length bs)
          → cond t (Some 0) (option_map suc (lowest_fit i.size (frees c bs ++ replicate k 0))) ≡ spot (if t then 0 else suc (first_fit takes bs)) (suc (length bs))
      go true r = rw (lt-ltb 0 (suc (length bs)) (omega arith))
      go false r = ap (option_map suc) r ∙ spot_further (first_fit takes bs) (length bs)

  -- What the places show then: in a bin with space so much less; or a new bin.
  shown_there : (bins : List Bin) (k : ℕ) → first_fit takes bins < length bins
      → set (frees c bins ++ replicate k 0) (first_fit takes bins) (get_or (frees c bins ++ replicate k 0) (first_fit takes bins) 0 - i.size)
      ≡ frees c (after bins) ++ replicate k 0
  unfolding first_fit put total
  shown_there [] k l = absurd (omega arith)
  shown_there (b ∷ bs) k l = go (takes b) l (shown_there bs k)
    where
      go : (t : Bool) → (if t then 0 else suc (first_fit takes bs)) < suc (length bs)
          → (first_fit takes bs < length bs → set (frees c bs ++ replicate k 0) (first_fit takes bs) (get_or (frees c bs ++ replicate k 0) (first_fit takes bs) 0 - i.size)
          ≡ frees c (after bs) ++ replicate k 0)
          → set (frees c (b ∷ bs) ++ replicate k 0) (if t then 0 else suc (first_fit takes bs))
          (get_or (frees c (b ∷ bs) ++ replicate k 0) (if t then 0 else suc (first_fit takes bs)) 0 - i.size)
          ≡ frees c (if t then add i b ∷ bs else b ∷ after bs) ++ replicate k 0
      go true q r = let less : c - load b - i.size ≡ c - (i.size + load b) = omega arith in ap (λ n. n ∷ frees c bs ++ replicate k 0) less
      go false q r = ap (λ l. (c - load b) ∷ l) (r (omega arith))

  shown_anew : (bins : List Bin) (k : ℕ) → length bins ≤ first_fit takes bins
      → set (frees c bins ++ replicate (suc k) 0) (length bins) (c - i.size) ≡ frees c (after bins) ++ replicate k 0
  unfolding first_fit put total
  shown_anew [] k l = let less : c - i.size ≡ c - (i.size + 0) = omega arith in ap (λ n. n ∷ replicate k 0) less
  shown_anew (b ∷ bs) k l = go (takes b) l (shown_anew bs k)
    where
      go : (t : Bool) → suc (length bs) ≤ (if t then 0 else suc (first_fit takes bs))
          → (length bs ≤ first_fit takes bs → set (frees c bs ++ replicate (suc k) 0) (length bs) (c - i.size) ≡ frees c (after bs) ++ replicate k 0)
          → set (frees c (b ∷ bs) ++ replicate (suc k) 0) (suc (length bs)) (c - i.size) ≡ frees c (if t then add i b ∷ bs else b ∷ after bs) ++ replicate k 0
      go true q r = absurd (omega arith)
      go false q r = ap (λ l. (c - load b) ∷ l) (r (omega arith))

  none_over_after : i.size ≤ c → (bins : List Bin) → ((b : Bin) → Memᴰ b bins → load b ≤ c) → (b : Bin) → Memᴰ b (after bins) → load b ≤ c
  unfolding total
  none_over_after fits = put_each takes (fresh 1) i (λ b. load b ≤ c) (λ b e h. omega (arith, leb-true (load b + i.size) c e)) (omega arith)

  module _ {shape : Shape} {count : ℕ} {t : List ℕ} {p : Packing} (s : Shows c shape count t p) (some : 1 ≤ i.size) (fits : i.size ≤ c) where
    spotted : lowest_fit i.size (leaves t 0 shape.places) ≡ spot (first_fit takes p.bins) (length p.bins)
    spotted = ap (lowest_fit i.size) s.shown ∙ first_found some p.bins (shape.places - count) s.none_over

    pub into_found : (j : ℕ) (u : List ℕ) → lowest_fit i.size (leaves t 0 shape.places) ≡ Some j
        → Stored 0 shape t j (get_or (leaves t 0 shape.places) j 0 - i.size) u → Placed c shape count p i (j + 1) u
    into_found j u e w =
        let here = spot_at_lem (first_fit takes p.bins) (length p.bins) j (sym spotted ∙ e) in
        let counted = s.counted in
        let same : max count (j + 1) ≡ count = omega (arith, here.0, here.1) in
        record {
          by_first_fit = omega (arith, here.1);
          in_tree = omega (arith, here.0, here.1, s.few);
          shows = record {
            tree = w.tree;
            counted = omega (arith, same, put_length takes (fresh 1) i p.bins, here.0);
            few = omega (arith, same, s.few);
            shown = rw same
                (w.leaf ∙ ap (λ l. set l j (get_or l j 0 - i.size)) s.shown
                ∙ ap (λ f. set (frees c p.bins ++ replicate (shape.places - count) 0) f (get_or (frees c p.bins ++ replicate (shape.places - count) 0) f 0 - i.size)) (sym here.1)
                ∙ shown_there p.bins (shape.places - count) here.0);
            none_over = none_over_after fits p.bins s.none_over;
          };
        }

    pub into_new : (u : List ℕ) → lowest_fit i.size (leaves t 0 shape.places) ≡ None → count < shape.places
        → Stored 0 shape t count (c - i.size) u → Placed c shape count p i (count + 1) u
    into_new u e room w =
        let counted = s.counted in
        let none = spot_nothing (first_fit takes p.bins) (length p.bins) (sym spotted ∙ e) in
        let few = first_few takes p.bins in
        let more : max count (count + 1) ≡ count + 1 = omega arith in
        let one : shape.places - count ≡ suc (shape.places - (count + 1)) = omega arith in
        record {
          by_first_fit = omega (arith, none, few);
          in_tree = omega arith;
          shows = record {
            tree = w.tree;
            counted = omega (arith, more, put_length takes (fresh 1) i p.bins, none, few);
            few = omega (arith, more);
            shown = rw more
                (w.leaf ∙ ap (λ l. set l count (c - i.size)) s.shown
                ∙ ap (λ k. set (frees c p.bins ++ replicate k 0) count (c - i.size)) one
                ∙ ap (λ n. set (frees c p.bins ++ replicate (suc (shape.places - (count + 1))) 0) n (c - i.size)) counted
                ∙ shown_anew p.bins (shape.places - (count + 1)) none);
            none_over = none_over_after fits p.bins s.none_over;
          };
        }

-- Of what a tree shows.
module _ {c : ℕ} {shape : Shape} {count : ℕ} {t : List ℕ} {p : Packing} (s : Shows c shape count t p) where
  pub place_count : length (leaves t 0 shape.places) ≡ shape.places
  place_count = leaves_length t 0 shape.places (omega (arith, s.tree.room, s.tree.words))

  -- The place that is found is one of the tree's, and has enough.
  found_lowest : (need : ℕ) {j : ℕ} {f : Option ℕ} → f ≡ lowest_fit need (leaves t 0 shape.places) → f ≡ Some j → Lowest need (leaves t 0 shape.places) j
  found_lowest need e at = subst (Meaning need (leaves t 0 shape.places)) (sym e ∙ at) (meaning need (leaves t 0 shape.places))

  pub found_inside : (need : ℕ) {j : ℕ} {f : Option ℕ} → f ≡ lowest_fit need (leaves t 0 shape.places) → f ≡ Some j → j < shape.places
  found_inside need e at = omega (arith, (found_lowest need e at).inside, place_count)

  pub found_enough : (need : ℕ) {j : ℕ} {f : Option ℕ} → f ≡ lowest_fit need (leaves t 0 shape.places) → f ≡ Some j → need ≤ get_or (leaves t 0 shape.places) j 0
  found_enough need e at = (found_lowest need e at).enough

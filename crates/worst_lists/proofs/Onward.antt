-- Items each of which goes into the bin opened last or into a new one. A test tells them that is quick to compute: in place of the bins it carries the
-- least load of those left behind, by class, and the last one's class and load. What it foretells is what the method does, one item at a time.
use Prim.Native.Nat.{ℕ, suc, ◌+◌, ◌-◌, ◌%◌, ◌≤◌, ◌<◌, min}
use mathlib.Core.Path.{◌≡◌, refl, sym, ap, ◌∙◌}
use mathlib.Core.Bool.{Bool, true, false, ◌&&◌}
use mathlib.Core.List.Memᴰ
use mathlib.Core.List.{List, [], ◌∷◌, ◌++◌, Memᴰ}
use native.Mathlib.Omega.{arith}
use native.Mathlib.Nat.{mod-eq_of_lt}
use borrow.Author.Tests.{eqb-true, leb-true, ltb-true, lt-leb, ne_eqb, eq-eqb, le-ltb}
use lib.Dec.{eqb, leb, ltb}
use lib.ListN.{length, length-append}
use Rattle.packing.specs.declared.{Opening.Opening, SizeClass.SizeClass}
use Rattle.packing.specs.declared.SizeClass.TheVariants.{A, B1, B2, X}
use Rattle.std.specs.Prelude.{if◌then◌else◌}
use Rattle.packing.specs.Prelude.{total}
use Rattle.packing.specs.SizeClasses.{size_class, count_b2}
use Rattle.packing.specs.Bins.{Item, Bin, Packing, empty, opened, load, add, kind}
use Rattle.packing.specs.Placing.{to_class, class_of, target_of, permitted, target, has_space, first_fit, put, takes, bin_for, spent, placed}
use Rattle.packing.proofs.Tests.{both_true, each_cons, each_append}
use Rattle.packing.proofs.Putting.{fresh}

-- The class of the bins that an item goes to, if it is no m-th B2.
abbrev pub class_for : SizeClass → ℕ
class_for A = 1
class_for B1 = 2
class_for B2 = 3
class_for X = 4

-- How the bins stand: of each class the least load of those left behind; class and load of the last; the B2 items so far; and the bins yet to be opened.
pub record Standing : Type 0 where
  pub least1 : ℕ
  pub least2 : ℕ
  pub least3 : ℕ
  pub least4 : ℕ
  pub class : ℕ
  pub load : ℕ
  pub b2s : ℕ
  pub yet : ℕ

abbrev pub least_of : Standing → SizeClass → ℕ
least_of t A = t.least1
least_of t B1 = t.least2
least_of t B2 = t.least3
least_of t X = t.least4

-- The least load of a class when the last bin too is left behind.
abbrev leaving : Standing → (class least : ℕ) → ℕ
leaving t n least = if eqb t.class n then min least t.load else least

abbrev pub opens : Standing → (size : ℕ) → SizeClass → Standing
opens t s k =
    record {
      least1 = leaving t 1 t.least1;
      least2 = leaving t 2 t.least2;
      least3 = leaving t 3 t.least3;
      least4 = leaving t 4 t.least4;
      class = class_for k;
      load = s;
      b2s = t.b2s + count_b2 k;
      yet = t.yet - 1;
    }

abbrev pub joins : Standing → (size : ℕ) → SizeClass → Standing
joins t s k =
    record {
      least1 = t.least1;
      least2 = t.least2;
      least3 = t.least3;
      least4 = t.least4;
      class = t.class;
      load = t.load + s;
      b2s = t.b2s + count_b2 k;
      yet = t.yet;
    }

-- The size is within its limits, no bin left behind takes it, and it is no sixth B2.
abbrev pub passes_by : (c : ℕ) → Standing → (size : ℕ) → SizeClass → Bool
passes_by c t s k = leb 1 s && (leb s c && (ltb c (least_of t k + s) && ltb (t.b2s + count_b2 k) 6))

-- The last bin takes it.
abbrev pub fits_last : (c : ℕ) → Standing → (size : ℕ) → SizeClass → Bool
fits_last c t s k = eqb t.class (class_for k) && leb (t.load + s) c

-- All items go so, and open as many bins as were yet to be opened.
unfoldable pub onward : (c : ℕ) → Standing → List ℕ → Bool
onward c t [] = eqb t.yet 0
onward c t (s ∷ ss) = let k = size_class c s in passes_by c t s k && elim (fits_last c t s k) [
  | true ↦ onward c (joins t s k) ss
  | false ↦ ltb 0 t.yet && onward c (opens t s k) ss
]

-- The last bin, if there is one.
pub data Last (class l : ℕ) : List Bin → Type 0 where
  none_yet : class ≡ 0 → Last class l []
  is_last : {b : Bin} → b.class ≡ class → load b ≡ l → Last class l (b ∷ [])

-- Bins none of which takes the item are passed over.
module _ (test : Bin → Bool) (new : Bin) (i : Item) where
  put_past : (earlier rest : List Bin) → ((b : Bin) → Memᴰ b earlier → test b ≡ false) → put test new i (earlier ++ rest) ≡ earlier ++ put test new i rest
  unfolding put
  put_past [] rest none = refl
  put_past (b ∷ earlier) rest none = rw (none b (Memᴰ.head refl)) (ap (λ bs. b ∷ bs) (put_past earlier rest (λ x m. none x (Memᴰ.tail m))))

  first_past : (earlier rest : List Bin) → ((b : Bin) → Memᴰ b earlier → test b ≡ false) → first_fit test (earlier ++ rest) ≡ length earlier + first_fit test rest
  unfolding first_fit
  first_past [] rest none = omega arith
  first_past (b ∷ earlier) rest none = rw (none b (Memᴰ.head refl)) (omega (arith, first_past earlier rest (λ x m. none x (Memᴰ.tail m))))

  -- Where none takes it, it opens a new one.
  put_new : (bins : List Bin) → ((b : Bin) → Memᴰ b bins → test b ≡ false) → put test new i bins ≡ bins ++ add i new ∷ []
  unfolding put
  put_new [] none = refl
  put_new (b ∷ bins) none = rw (none b (Memᴰ.head refl)) (ap (λ bs. b ∷ bs) (put_new bins (λ x m. none x (Memᴰ.tail m))))

-- Up to five B2 items none is an m-th.
module _ (o : Opening) (six : 6 ≤ o.m) where
  no_turn : (n : ℕ) → suc n < 6 → eqb (suc n % o.m) 0 ≡ false
  no_turn n h = rw (mod-eq_of_lt {n = suc n} {m = o.m} (omega arith)) (ne_eqb (suc n) 0 (λ e. omega arith))

  goes_to : (n : ℕ) (k : SizeClass) → n + count_b2 k < 6 → target_of o n k ≡ to_class (class_for k)
  goes_to n A h = refl
  goes_to n B1 h = refl
  goes_to n B2 h = rw (no_turn n (omega arith))
  goes_to n X h = refl

  -- The standing tells of the packing: bins behind, and the last; with those yet to be opened they are so many, which the stock has.
  module _ (all : ℕ) (enough : all ≤ o.stock) where
    pub record Stands (t : Standing) (p : Packing) : Type 0 where
      pub earlier : List Bin
      pub last : List Bin
      pub bins_are : p.bins ≡ earlier ++ last
      pub behind : (k : SizeClass) (b : Bin) → Memᴰ b earlier → b.class ≡ class_for k → least_of t k ≤ load b
      pub last_is : Last t.class t.load last
      pub to_open : length earlier + length last + t.yet ≡ all
      pub b2s_are : p.b2s ≡ t.b2s

    -- No bin is behind, so whatever their least load is said to be.
    pub stands_empty : (t : Standing) → t.class ≡ 0 → t.b2s ≡ 0 → t.yet ≡ all → Stands t empty
    stands_empty t no_class no-b2 yet =
        record {
          earlier = [];
          last = [];
          bins_are = refl;
          behind = λ k b m e. absurd (Memᴰ.not-nil m);
          last_is = none_yet no_class;
          to_open = omega arith;
          b2s_are = sym no-b2;
        }

    -- One item of class k more.
    module _ (t : Standing) (p : Packing) (i : Item) (st : Stands t p) (ok : passes_by o.capacity t i.size (kind o i) ≡ true) where
      pub record Passed : Type 0 where
        pub some : 1 ≤ i.size
        pub within_capacity : i.size ≤ o.capacity
        past_all : o.capacity < least_of t (kind o i) + i.size
        no_sixth : t.b2s + count_b2 (kind o i) < 6

      pub passed : Passed
      passed =
          let s = i.size in
          let c = o.capacity in
          let k = kind o i in
          let a = both_true (leb 1 s) (leb s c && (ltb c (least_of t k + s) && ltb (t.b2s + count_b2 k) 6)) ok in
          let b = both_true (leb s c) (ltb c (least_of t k + s) && ltb (t.b2s + count_b2 k) 6) a.1 in
          let d = both_true (ltb c (least_of t k + s)) (ltb (t.b2s + count_b2 k) 6) b.1 in
          record {
            some = leb-true 1 s a.0;
            within_capacity = leb-true s c b.0;
            past_all = ltb-true c (least_of t k + s) d.0;
            no_sixth = ltb-true (t.b2s + count_b2 k) 6 d.1;
          }

      its_target : target o p i ≡ to_class (class_for (kind o i))
      its_target = goes_to p.b2s (kind o i) (omega (arith, st.b2s_are, passed.no_sixth))

      -- A bin takes it if it is of the class and has space.
      abbrev takes_it : Bin → Bool
      takes_it b = eqb b.class (class_for (kind o i)) && leb (load b + i.size) o.capacity

      takes_is : (b : Bin) → takes o p i b ≡ takes_it b
      takes_is b = ap (λ g. permitted o g b && has_space o p i b) its_target

      none_behind : (b : Bin) → Memᴰ b st.earlier → takes o p i b ≡ false
      none_behind b m = takes_is b ∙ go (eqb b.class (class_for (kind o i))) refl
        where
          go : (a : Bool) → eqb b.class (class_for (kind o i)) ≡ a → (a && leb (load b + i.size) o.capacity) ≡ false
          go true e = lt-leb (load b + i.size) o.capacity (omega (arith, passed.past_all, st.behind (kind o i) b m (eqb-true b.class (class_for (kind o i)) e)))
          go false e = refl

      abbrev new : Bin
      new = fresh (class_for (kind o i))

      bins_after : (placed o p i).bins ≡ st.earlier ++ put (takes o p i) new i st.last
      unfolding placed
      bins_after =
          ap (λ g. put (takes o p i) (fresh (class_of g)) i p.bins) its_target ∙ ap (put (takes o p i) new i) st.bins_are
          ∙ put_past (takes o p i) new i st.earlier st.last none_behind

      bin_for_lem : bin_for o p i ≡ suc (length st.earlier + first_fit (takes o p i) st.last)
      bin_for_lem = ap (λ bs. suc (first_fit (takes o p i) bs)) st.bins_are ∙ ap suc (first_past (takes o p i) new i st.earlier st.last none_behind)

      opened_is : opened p ≡ length st.earlier + length st.last
      opened_is = ap length st.bins_are ∙ length-append st.earlier st.last

      b2s_after : (placed o p i).b2s ≡ t.b2s + count_b2 (kind o i)
      unfolding placed
      b2s_after = ap (λ n. n + count_b2 (kind o i)) st.b2s_are

      -- The last bin takes it.
      module _ (f : fits_last o.capacity t i.size (kind o i) ≡ true) where
        record Joined (last : List Bin) : Type 0 where
          bin : Bin
          last_was : last ≡ bin ∷ []
          class_is : bin.class ≡ t.class
          load_is : load bin ≡ t.load
          takes_item : takes o p i bin ≡ true

        joined : {last : List Bin} → Last t.class t.load last → Joined last
        joined (none_yet z) = absurd (no_class (kind o i) (sym z ∙ eqb-true t.class (class_for (kind o i)) (both_true _ _ f).0))
          where
            no_class : (k : SizeClass) → 0 ≡ class_for k → ⊥
            no_class A e = omega (arith, e)
            no_class B1 e = omega (arith, e)
            no_class B2 e = omega (arith, e)
            no_class X e = omega (arith, e)
        joined (is_last {b = b} e l) = record { bin = b; last_was = refl; class_is = e; load_is = l; takes_item = takes_is b ∙ rw (e, l) f }

        least_joins : (k : SizeClass) → least_of (joins t i.size (kind o i)) k ≡ least_of t k
        least_joins A = refl
        least_joins B1 = refl
        least_joins B2 = refl
        least_joins X = refl

        pub stands_join : Stands (joins t i.size (kind o i)) (placed o p i)
        unfolding put total
        stands_join =
            let j = joined st.last_is in
            record {
              earlier = st.earlier;
              last = add i j.bin ∷ [];
              bins_are = bins_after ∙ ap (λ l. st.earlier ++ put (takes o p i) new i l) j.last_was ∙ ap (λ t. st.earlier ++ (if t then add i j.bin ∷ [] else j.bin ∷ put (takes o p i) new i [])) j.takes_item;
              behind = λ k b m e. omega (arith, least_joins k, st.behind k b m e);
              last_is = is_last {b = add i j.bin} j.class_is (omega (arith, j.load_is));
              to_open = omega (arith, st.to_open, ap length j.last_was);
              b2s_are = b2s_after;
            }

        pub join_not_spent : spent o p i o.stock ≡ false
        unfolding first_fit
        join_not_spent =
            let j = joined st.last_is in
            let here : first_fit (takes o p i) st.last ≡ 0 = ap (first_fit (takes o p i)) j.last_was ∙ ap (λ t. if t then 0 else 1) j.takes_item in
            rw (le-ltb (opened p) (bin_for o p i) (omega (arith, bin_for_lem, here, opened_is, ap length j.last_was)))

      -- It does not, and there is one more to open.
      module _ (f : fits_last o.capacity t i.size (kind o i) ≡ false) (more : ltb 0 t.yet ≡ true) where
        abbrev Behind : Bin → Type 0
        Behind b = (b.class ≡ t.class) × (load b ≡ t.load)

        last_each : {last : List Bin} → Last t.class t.load last → (b : Bin) → Memᴰ b last → Behind b
        last_each (none_yet z) = λ b m. absurd (Memᴰ.not-nil m)
        last_each (is_last e l) = each_cons Behind (e, l) (λ b m. absurd (Memᴰ.not-nil m))

        none_takes : (b : Bin) → Memᴰ b (st.earlier ++ st.last) → takes o p i b ≡ false
        none_takes =
            each_append (λ b. takes o p i b ≡ false) st.earlier st.last none_behind
            (λ b m. let h = last_each st.last_is b m in takes_is b ∙ rw (h.0, h.1) f)

        least_opens : (k : SizeClass) → least_of (opens t i.size (kind o i)) k ≡ leaving t (class_for k) (least_of t k)
        least_opens A = refl
        least_opens B1 = refl
        least_opens B2 = refl
        least_opens X = refl

        leaving_few : (n least : ℕ) → leaving t n least ≤ least
        leaving_few n least = go (eqb t.class n)
          where
            go : (a : Bool) → (if a then min least t.load else least) ≤ least
            go true = omega arith
            go false = omega arith

        leaving_last : (n least : ℕ) → t.class ≡ n → leaving t n least ≤ t.load
        leaving_last n least e = rw (eq-eqb t.class n e) (omega arith)

        abbrev Least : SizeClass → Bin → Type 0
        Least k b = b.class ≡ class_for k → least_of (opens t i.size (kind o i)) k ≤ load b

        behind_all : (k : SizeClass) (b : Bin) → Memᴰ b (st.earlier ++ st.last) → Least k b
        behind_all k =
            each_append (Least k) st.earlier st.last
            (λ b m e. omega (arith, least_opens k, leaving_few (class_for k) (least_of t k), st.behind k b m e))
            (λ b m e. let h = last_each st.last_is b m in omega (arith, least_opens k, leaving_last (class_for k) (least_of t k) (sym h.0 ∙ e), h.1))

        pub stands_open : Stands (opens t i.size (kind o i)) (placed o p i)
        unfolding placed total
        stands_open =
            let one : length (st.earlier ++ st.last) ≡ length st.earlier + length st.last = length-append st.earlier st.last in
            record {
              earlier = st.earlier ++ st.last;
              last = add i new ∷ [];
              bins_are =
                  ap (λ g. put (takes o p i) (fresh (class_of g)) i p.bins) its_target ∙ ap (put (takes o p i) new i) st.bins_are
                  ∙ put_new (takes o p i) new i (st.earlier ++ st.last) none_takes;
              behind = behind_all;
              last_is = is_last {b = add i new} refl (omega arith);
              to_open = omega (arith, one, st.to_open, ltb-true 0 t.yet more);
              b2s_are = b2s_after;
            }

        pub open_not_spent : spent o p i o.stock ≡ false
        open_not_spent =
            rw (lt-leb o.stock (opened p) (omega (arith, opened_is, st.to_open, ltb-true 0 t.yet more))) (never (ltb (opened p) (bin_for o p i)))
          where
            never : (a : Bool) → (a && false) ≡ false
            never true = refl
            never false = refl

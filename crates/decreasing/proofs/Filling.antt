-- One item goes into the first bin with space: what every bin and every two bins in order keep. A bin is here the list of its sizes, the last item first.
use Prim.Native.Nat.{ℕ, zero, suc, ◌+◌, ◌*◌, ◌≤◌, ◌<◌}
use mathlib.Core.Path.{◌≡◌, refl}
use mathlib.Core.Bool.{Bool, true, false}
use mathlib.Core.List.{List, [], ◌∷◌, map}
use native.Mathlib.Omega.{arith}
use borrow.Author.Tests.{leb-true, leb-false}
use lib.ListN.{drop}
use lib.Seq.{drop-nil}
use Rattle.std.specs.Prelude.{if◌then◌else◌}
use Rattle.packing.specs.Bins.{Item, Bin, Packing, opened, load, add}
use Rattle.packing.specs.Placing.{put}
use Rattle.packing.proofs.Putting.{fresh, put_length}
use Rattle.packing.proofs.Reached.{first_few}
use Rattle.worst_case.proofs.Lists.{All, all_map, sum, total_weigh, FirstFitted}
use Rattle.worst_case.proofs.FirstFit.{Fit, opens, joins, passes, put_all, put_pairs}
use Rattle.worst_case.proofs.InClass.{sizes}
use Rattle.decreasing.specs.Repack.{has_space, next}
use Rattle.decreasing.proofs.Lists.{Within}

abbrev pub lists : Packing → List (List ℕ)
lists p = map sizes p.bins

module _ (c : ℕ) (i : Item) where
  put_fit : (bins : List Bin) → Fit c i.size (map sizes bins) (map sizes (put (has_space c i) (fresh 1) i bins))
  unfolding put
  put_fit [] = opens
  put_fit (b ∷ bs) = go (has_space c i b) refl (put_fit bs)
    where
      loaded : load b ≡ sum (sizes b)
      loaded = total_weigh (λ j. j.size) (λ s. s) b.items

      go : (t : Bool) → has_space c i b ≡ t → Fit c i.size (map sizes bs) (map sizes (put (has_space c i) (fresh 1) i bs))
          → Fit c i.size (sizes b ∷ map sizes bs) (map sizes (if t then add i b ∷ bs else b ∷ put (has_space c i) (fresh 1) i bs))
      go true e r = joins {b = sizes b} (omega (arith, loaded, leb-true (load b + i.size) c e))
      go false e r = passes {b = sizes b} (omega (arith, loaded, leb-false (load b + i.size) c e)) r

  pub next_fit : (p : Packing) → Fit c i.size (lists p) (lists (next c p i))
  next_fit p = put_fit p.bins

  -- At most one bin more.
  pub next_opened : (p : Packing) → opened (next c p i) ≤ suc (opened p)
  next_opened p = omega (arith, put_length (has_space c i) (fresh 1) i p.bins, first_few (has_space c i) p.bins)

-- No bin is empty or overfull, and no size goes into an earlier bin.
pub record Kept (c : ℕ) (L : List (List ℕ)) : Type 0 where
  pub loads_good : All (λ b. Within c (sum b)) L
  pub first : FirstFitted c L

pub fit_kept : (c s : ℕ) → Within c s → {L M : List (List ℕ)} → Fit c s L M → Kept c L → Kept c M
fit_kept c s h p r =
    record {
      loads_good = put_all (λ b. Within c (sum b)) (λ b q t. (omega arith, omega arith)) (omega arith, omega arith) p r.loads_good;
      first =
          put_pairs (λ b. Within c (sum b)) (λ b b'. All (λ t. c < sum b + t) b') (λ b b' f q t. all_map (λ x l. omega arith) b' q)
          (λ b b' f q n t. (n, q)) (λ b f n. (n, tt)) p r.loads_good r.first;
    }

-- The bins after the first k have sizes up to a half only.
abbrev pub Halved : (c k : ℕ) → List (List ℕ) → Type 0
Halved c k L = All (All (λ t. 2 * t ≤ c)) (drop k L)

pub fit_halved : (c s k : ℕ) → 2 * s ≤ c → {L M : List (List ℕ)} → Fit c s L M → Halved c k L → Halved c k M
fit_halved c s zero h p r = put_all (All (λ t. 2 * t ≤ c)) (λ b q t. (h, q)) (h, tt) p r
fit_halved c s (suc k) h opens r = rw (drop-nil {A = List ℕ} k) tt
fit_halved c s (suc k) h (joins t) r = r
fit_halved c s (suc k) h (passes n q) r = fit_halved c s k h q r

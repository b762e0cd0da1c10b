-- Each item goes to the lowest-numbered permitted bin with space: first fit passes only bins that do not take it.
use Prim.Native.Nat.{ℕ, suc}
use mathlib.Core.Path.{◌≡◌, refl, sym, subst, ◌∙◌}
use mathlib.Core.Bool.{Bool, true, false}
use mathlib.Core.List.Memᴰ
use mathlib.Core.List.{List, [], ◌∷◌, Memᴰ}
use native.Mathlib.Omega.{arith}
use lib.ListN.{take, drop}
use Rattle.std.specs.Prelude.{if◌then◌else◌}
use Rattle.packing.specs.Prelude.{Opening, Command, Outcome, Placed}
use Rattle.packing.specs.Bins.{Bin, Packing}
use Rattle.packing.specs.Placing.{first_fit, takes, bin_for}
use Rattle.packing.specs.Sending.{item_of}
use Rattle.packing.specs.Claims.{Lowest, LowestPermitted}
use Rattle.packing.proofs.Tests.{clash, each_cons}
use Rattle.packing.proofs.Moves.{Move, places, withdraws, settles, counts, switches, refuses}
use Rattle.packing.proofs.Reached.{first_few}
use Rattle.packing.proofs.Running.{move_at}

none_before : (test : Bin → Bool) (bins : List Bin) (b : Bin) → Memᴰ b (take (first_fit test bins) bins) → test b ≡ false
unfolding first_fit
none_before test [] = λ b m. absurd (Memᴰ.not-nil m)
none_before test (b ∷ bs) = go (test b) refl (none_before test bs)
  where
    go : (t : Bool) → test b ≡ t → ((x : Bin) → Memᴰ x (take (first_fit test bs) bs) → test x ≡ false)
        → (x : Bin) → Memᴰ x (take (if t then 0 else suc (first_fit test bs)) (b ∷ bs)) → test x ≡ false
    go true e r = λ x m. absurd (Memᴰ.not-nil m)
    go false e r = each_cons (λ x. test x ≡ false) e r

stops_there : (test : Bin → Bool) (bins : List Bin) (b : Bin) (later : List Bin) → drop (first_fit test bins) bins ≡ b ∷ later → test b ≡ true
unfolding first_fit
stops_there test [] b later e = clash (cc)
stops_there test (a ∷ bs) b later e = go (test a) refl e (stops_there test bs b later)
  where
    go : (t : Bool) → test a ≡ t → drop (if t then 0 else suc (first_fit test bs)) (a ∷ bs) ≡ b ∷ later
        → (drop (first_fit test bs) bs ≡ b ∷ later → test b ≡ true) → test b ≡ true
    go true q e r = let same : a ≡ b = cc in subst (λ x. test x ≡ true) same q
    go false q e r = r e

lowest_by : {o : Opening} {left n : ℕ} {p : Packing} {c : Command} {q : Packing} {a : Outcome} (bin free : ℕ) → Move o left p n c a q → a ≡ Placed bin free → Lowest o p (item_of o n c) bin
lowest_by {o = o} {n = n} {p = p} bin free (places {c = c} h) f =
    let here : bin_for o p (item_of o n c) ≡ bin = cc in
    rw (← here)
    (record {
      lower = first_fit (takes o p (item_of o n c)) p.bins;
      numbered = refl;
      at_most_new = omega (arith, first_few (takes o p (item_of o n c)) p.bins);
      none_lower = none_before (takes o p (item_of o n c)) p.bins;
      takes_item = stops_there (takes o p (item_of o n c)) p.bins;
    })
lowest_by bin free (withdraws h) f = clash (cc)
lowest_by bin free (settles h) f = clash (cc)
lowest_by bin free counts f = clash (cc)
lowest_by bin free switches f = clash (cc)
lowest_by bin free (refuses z) f = clash (cc)

pub lowest_permitted : (o : Opening) (cs : List Command) → LowestPermitted o cs
lowest_permitted o cs j bin free c later others e a =
    let m = move_at o j cs (Placed bin free) others a in
    let first : m.command ∷ m.later ≡ c ∷ later = sym m.rest_is ∙ e in
    let same : m.command ≡ c = cc in
    rw same at (lowest_by bin free m.moved refl)

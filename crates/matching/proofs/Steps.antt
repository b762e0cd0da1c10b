-- The pairs, sound after sound from the largest down: each is paired with the next picture, or is too large for it. And a sound that is too large for a
-- picture is too large for all that follow.
use Prim.Native.Nat.{ℕ, ◌+◌, ◌≤◌, ◌<◌}
use mathlib.Core.Path.{◌≡◌, refl}
use mathlib.Core.Bool.{Bool, true, false}
use mathlib.Core.List.{List, [], ◌∷◌}
use native.Mathlib.Omega.{arith}
use borrow.Author.Tests.{le-leb, lt-leb, leb-false}
use lib.Dec.{leb}
use Rattle.std.specs.Prelude.{if◌then◌else◌}
use Rattle.packing.specs.Bins.{Item}
use Rattle.packing.proofs.Tests.{clash}
use Rattle.matching.specs.Pairs.{fitting, matched}
use Rattle.matching.specs.Claims.{NoneLater}

module _ (c : ℕ) (y : Item) (ys : List Item) where
  pub no_sound : matched c (y ∷ ys) [] ≡ []
  unfolding matched fitting
  no_sound = refl

  module _ (z : Item) (zs : List Item) where
    pub one_pair : y.size + z.size ≤ c → matched c (y ∷ ys) (z ∷ zs) ≡ record { picture = y; sound = z } ∷ matched c ys zs
    unfolding matched fitting
    one_pair h = let here : fitting c y (z ∷ zs) ≡ z ∷ zs = rw (le-leb (y.size + z.size) c h) in rw (here, matched)

    pub too_large : c < y.size + z.size → matched c (y ∷ ys) (z ∷ zs) ≡ matched c (y ∷ ys) zs
    unfolding matched fitting
    too_large h = let later : fitting c y (z ∷ zs) ≡ fitting c y zs = rw (lt-leb (y.size + z.size) c h) in rw (later, matched)

pub none_later : NoneLater
unfolding fitting
none_later c y later [] l h = refl
none_later c y later (z ∷ zs) l h = go (leb (y.size + z.size) c) refl h (none_later c y later zs l)
  where
    go : (t : Bool) → leb (y.size + z.size) c ≡ t → (if t then z ∷ zs else fitting c y zs) ≡ [] → (fitting c y zs ≡ [] → fitting c later zs ≡ [])
        → fitting c later (z ∷ zs) ≡ []
    go true e h r = clash (cc)
    go false e h r = rw (lt-leb (later.size + z.size) c (omega (arith, leb-false (y.size + z.size) c e))) (r h)

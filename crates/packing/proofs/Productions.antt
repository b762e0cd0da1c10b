-- Of two productions: whose a command is, and what it leaves of the shelf in the packing of each.
use Prim.Native.Nat.{ℕ, ◌-◌}
use mathlib.Core.Path.{◌≡◌, refl, sym, ap, subst, ◌∙◌}
use mathlib.Core.Bool.{true, false, true≢false}
use mathlib.Core.List.{List, ◌∷◌}
use Rattle.packing.specs.Prelude.{Opening, Production, First, Second, Command, Shelve, Count, Withdraw, Switch, Reserve, Settle}
use Rattle.packing.specs.Productions.{other, is_same}
use Rattle.packing.specs.Bins.{Packing, opened}
use Rattle.packing.specs.Shelves.{Shelf, of, own, stock_left, put_back, is_switch, belonging}
use Rattle.packing.specs.Run.{Step, answer_to, next, answer_on, next_shelf, steps_of}

-- A production is the one that is current, or the other.
pub data Whose (current : Production) : Production → Type 0 where
  its_own : Whose current current
  the_others : Whose current (other current)

pub whose : (current q : Production) → Whose current q
whose First First = its_own
whose First Second = the_others
whose Second First = the_others
whose Second Second = its_own

pub same_self : (q : Production) → is_same q q ≡ true
same_self First = refl
same_self Second = refl

pub same_other : (q : Production) → is_same (other q) q ≡ false
same_other First = refl
same_other Second = refl

pub other_apart : (q : Production) → other q ≡ q → ⊥
other_apart First e = true≢false (ap (is_same Second) e)
other_apart Second e = true≢false (ap (is_same First) e)

-- A command that is not 05 leaves the production current.
pub stays_current : (q : Production) (c : Command) → is_switch c ≡ false → belonging q c ≡ q
stays_current q (Shelve s) e = refl
stays_current q Count e = refl
stays_current q (Withdraw named) e = refl
stays_current q (Switch r) e = absurd (true≢false e)
stays_current q (Reserve least greatest) e = refl
stays_current q (Settle named size) e = refl

-- A step is among those of its own production, and not of the other.
module _ (t : Step) (ts : List Step) where
  pub steps_own : steps_of t.production (t ∷ ts) ≡ t ∷ steps_of t.production ts
  unfolding steps_of
  steps_own = rw (same_self t.production, steps_of)

  pub steps_other : steps_of (other t.production) (t ∷ ts) ≡ steps_of (other t.production) ts
  unfolding steps_of
  steps_other = rw (same_other t.production, steps_of)

-- What is put back is the current production's, and the other's is as it was.
put_own : (current : Production) (p : Packing) (s : Shelf) (after : Production) → of current (put_back current p s after) ≡ p
put_own First p s after = refl
put_own Second p s after = refl

put_other : (current : Production) (p : Packing) (s : Shelf) (after : Production) → of (other current) (put_back current p s after) ≡ of (other current) s
put_other First p s after = refl
put_other Second p s after = refl

put_current : (current : Production) (p : Packing) (s : Shelf) (after : Production) → (put_back current p s after).current ≡ after
put_current First p s after = refl
put_current Second p s after = refl

-- The shelf as it was.
pub put_same : (s : Shelf) → put_back s.current (own s) s s.current ≡ s
put_same s = go s.current refl
  where
    during : Production → Shelf
    during q = record { first = s.first; second = s.second; current = q }

    go : (q : Production) → s.current ≡ q → put_back q (of q s) s q ≡ s
    go First e = ap during (sym e)
    go Second e = ap during (sym e)

module _ (o : Opening) (s : Shelf) (n : ℕ) (c : Command) where
  pub own_after : of s.current (next_shelf o s n c) ≡ next o (stock_left o s) (own s) n c
  own_after = put_own s.current _ s _

  pub other_after : of (other s.current) (next_shelf o s n c) ≡ of (other s.current) s
  other_after = put_other s.current _ s _

  pub current_after : (next_shelf o s n c).current ≡ belonging s.current c
  current_after = put_current s.current _ s _

-- The same where it is known which production is current.
module _ (o : Opening) (s : Shelf) (n : ℕ) (c : Command) (q : Production) (e : s.current ≡ q) where
  pub left_of : stock_left o s ≡ o.stock - opened (of (other q) s)
  left_of = ap (λ x. o.stock - opened (of (other x) s)) e

  pub answer_of_lem : answer_on o s n c ≡ answer_to o (stock_left o s) (of q s) n c
  answer_of_lem = ap (λ x. answer_to o (stock_left o s) (of x s) n c) e

  pub own_of : of q (next_shelf o s n c) ≡ next o (stock_left o s) (of q s) n c
  own_of = subst (λ x. of x (next_shelf o s n c) ≡ next o (stock_left o s) (of x s) n c) e (own_after o s n c)

  pub other_of : of (other q) (next_shelf o s n c) ≡ of (other q) s
  other_of = subst (λ x. of (other x) (next_shelf o s n c) ≡ of (other x) s) e (other_after o s n c)

  pub current_of : (next_shelf o s n c).current ≡ belonging q c
  current_of = current_after o s n c ∙ ap (λ x. belonging x c) e

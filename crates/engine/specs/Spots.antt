-- Where an item goes that is searched for in a tree, by what first fit finds there and by what is left of the stock.
use Rattle.std.specs.Prelude.{◌≡◌, List, ℕ, ◌+◌, ◌-◌, leb, if◌then◌else◌, Option, Some, None}
use Rattle.packing.specs.declared.Opening.{Opening}
use Rattle.tournament.specs.declared.Shape.{Shape}
use Rattle.tournament.specs.LowestFit.{lowest_fit}
use Rattle.tournament.specs.Looking.{looks_of}
use Rattle.engine.specs.declared.{Terms.Terms, Spot.Spot, Offered.Offered}
use Rattle.index.specs.Trees.{shown_by, shown_at}

module _ (o : Opening) (left : ℕ) (shape : Shape) (trees : List ℕ) (opened tree size : ℕ) where
  -- in the bin at place i
  abbrev pub joined : (i : ℕ) → Spot
  joined i = record { place = i; free = shown_at trees shape tree i - size; opened = opened }

  -- in a new bin
  abbrev pub anew : Spot
  anew = record { place = opened; free = o.capacity - size; opened = opened + 1 }

  abbrev pub spot_at : Option ℕ → Option Spot
  spot_at (Some i) = Some (joined i)
  spot_at None = if leb left opened then None else Some anew

  abbrev pub spot_for : Option Spot
  spot_for = spot_at (lowest_fit size (shown_by trees shape tree))

-- What is offered, and the looks of the search.
pub record Offers (t : Terms) (trees : List ℕ) (opened tree size : ℕ) (r : Offered) : Type 0 where
  pub spot_is : r.spot ≡ spot_for t.opening t.left t.shape trees opened tree size
  pub counted : r.looks.count ≡ looks_of t.shape.height (lowest_fit size (shown_by trees t.shape tree))

-- "One at the root, then, while it fits, one at the left half of each level": the looks that a search takes, and what its parts promise to each other.
use Rattle.std.specs.Prelude.{◌≡◌, List, ℕ, ◌+◌, get_or, Option, Some, None}
use Rattle.tournament.specs.declared.Shape.{Shape}
use Rattle.tournament.specs.Trees.{leaves}
use Rattle.tournament.specs.LowestFit.{lowest_fit}
use Rattle.tournament.specs.Descent.{First}

-- All looks of a search, by what it finds in a tree of this height.
abbrev pub looks_of : (height : ℕ) → Option ℕ → ℕ
looks_of height (Some i) = 1 + height
looks_of height None = 1

-- So many looks were taken before, and so many after.
module _ (t : List ℕ) where
  -- A look at a word of the row.
  pub record Looked (word before r after : ℕ) : Type 0 where
    pub seen : r ≡ get_or t word 0
    pub counted : after ≡ before + 1

  -- The descent from a node ends at the first leaf with enough, and takes a look a level.
  pub record Descended (b n h need before r after : ℕ) : Type 0 where
    pub first : First t b n h need r
    pub counted : after ≡ before + h

  -- The whole search finds the lowest place with enough.
  pub record Finds (b : ℕ) (shape : Shape) (need : ℕ) (r : Option ℕ) (after : ℕ) : Type 0 where
    pub lowest : r ≡ lowest_fit need (leaves t b shape.places)
    pub counted : after ≡ looks_of shape.height r

-- The tree of a repacking shows the free space of the bins, one a place in order of opening, and 0 where none is opened.
use Rattle.std.specs.Prelude.{◌-◌, ◌≤◌, ◌<◌, ◌≡◌, ◌++◌}
use Rattle.packing.specs.Prelude.{ℕ, max, List, map, replicate, Memᴰ}
use Rattle.packing.specs.Bins.{Item, Bin, Packing, opened, load}
use Rattle.tournament.specs.declared.Shape.{Shape}
use Rattle.tournament.specs.Trees.{leaves, Tree}
use Rattle.decreasing.specs.Repack.{bin_for, next}

module _ (capacity : ℕ) where
  abbrev pub frees : List Bin → List ℕ
  frees bins = map (λ b. capacity - load b) bins

  -- So many bins are those of a packing, and the tree shows them.
  pub record Shows (shape : Shape) (count : ℕ) (t : List ℕ) (p : Packing) : Type 0 where
    pub tree : Tree 0 shape t
    pub counted : count ≡ opened p
    pub few : count ≤ shape.places
    pub shown : leaves t 0 shape.places ≡ frees p.bins ++ replicate (shape.places - count) 0
    pub none_over : (b : Bin) → Memᴰ b p.bins → load b ≤ capacity

  -- An item of this size can be placed: it has a size, a bin can hold it, and there is a place for a new bin.
  pub record Placeable (shape : Shape) (count size : ℕ) (t : List ℕ) : Type 0 where
    pub packing : Packing
    pub shows : Shows shape count t packing
    pub some : 1 ≤ size
    pub fits : size ≤ capacity
    pub room : count < shape.places
    pub places_few : shape.places ≤ 4096

  -- The bin of an item is first fit's, and the tree then shows the packing with it.
  pub record Placed (shape : Shape) (count : ℕ) (p : Packing) (i : Item) (bin : ℕ) (u : List ℕ) : Type 0 where
    pub by_first_fit : bin ≡ bin_for capacity i p
    pub in_tree : bin ≤ shape.places
    pub shows : Shows shape (max count bin) u (next capacity p i)

  -- Of every packing that the tree shows, and every item of this size.
  abbrev pub Places : (shape : Shape) (count size : ℕ) (t : List ℕ) (bin : ℕ) (u : List ℕ) → Type 0
  Places shape count size t bin u = (p : Packing) (i : Item) → Shows shape count t p → i.size ≡ size → Placed shape count p i bin u

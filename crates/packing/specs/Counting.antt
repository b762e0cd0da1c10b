-- "Counting that ends early" (document 02, point 3): the walk over the places of the stock.
use Rattle.std.specs.Prelude.{◌∷◌}
use Rattle.packing.specs.Prelude.{ℕ, zero, suc, List, [], Tally}
use Rattle.packing.specs.Bins.{Bin}

-- What stands at the places of a stock, place 1 first: the class of each bin, and 0 where none is opened yet.
unfoldable pub stock_places : (stock : ℕ) → List Bin → List ℕ
stock_places zero bins = []
stock_places (suc stock) [] = 0 ∷ stock_places stock []
stock_places (suc stock) (b ∷ bins) = b.class ∷ stock_places stock bins

-- An opened bin more, and a place more that was read.
abbrev pub onward : Tally → Tally
onward t = record { figure = suc t.figure; read = suc t.read }

-- "Let the walk stop at the first cartridge not yet opened": that place is read too, and no place past the stock.
unfoldable pub walk : (places : List ℕ) → Tally
walk [] = record { figure = 0; read = 0 }
walk (zero ∷ rest) = record { figure = 0; read = 1 }
walk (suc class ∷ rest) = onward (walk rest)

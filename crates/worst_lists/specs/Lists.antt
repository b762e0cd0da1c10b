-- For each k from 1 to the stock a list for which k bins are enough, and the method opens as many as it ever does then; with a plan of k bins.
--
-- In the plan every bin has an item just above a half. The first two have a B1 and a B2 beside it, each with a small item that fills the bin; each of the
-- others that have more has two items near a quarter, one on either side of it. The method puts the B1, the B2 and the items near a quarter into bins of
-- their own classes, the latter three to a bin: the excess of each bin shuts out all that come later.
use Rattle.std.specs.Prelude.{◌/◌, ◌+◌, ◌-◌, ◌*◌, ◌∷◌, ◌++◌}
use Rattle.packing.specs.Prelude.{ℕ, zero, suc, min, List, [], flatten, replicate, true, false, ◌<?◌}
use Rattle.packing.specs.declared.{Opening.Opening, Entry.Entry}

-- The stock is the largest there is; every m will do.
abbrev pub stock : ℕ
stock = 512

abbrev pub quarter : ℕ
quarter = 250_000

abbrev pub capacity : ℕ
capacity = 4 * quarter + 1

abbrev pub opening : (m : ℕ) → Opening
opening m = record { capacity = capacity; stock = stock; m = m; trailer = 0 }

-- An A, a B1 and a B2, as small as they can be, and what an A and a B1 or B2 leave of the capacity.
abbrev pub half : ℕ
half = 2 * quarter + 1

abbrev pub b1 : ℕ
b1 = 2 * capacity / 5 + 1

abbrev pub b2 : ℕ
b2 = capacity / 3 + 1

abbrev pub besides : ℕ → ℕ
besides s = capacity - half - s

-- Distances from a quarter, by levels: each is 2 more than three times the one below it, so that a triple leaves less free than any later item takes.
unfoldable pub distance : (level : ℕ) → ℕ
distance zero = 1
distance (suc level) = 3 * distance level + 2

-- One above a quarter, and two below it by a level less, so many times.
abbrev pub triples : (times level : ℕ) → List ℕ
triples n level =
    let below = quarter - distance level in
    flatten (replicate n ((quarter + distance (suc level)) ∷ below ∷ below ∷ []))

-- The items near a quarter, of which so many are below it and so many above it: from the outermost level down, each with at most twice as many triples
-- as the one before; then what is left.
unfoldable pub near : (levels most below above : ℕ) → List ℕ
near zero most below above = replicate below (quarter - 1) ++ replicate above (quarter + 1)
near (suc level) most below above =
    let n = min most (below / 2) in
    triples n level ++ near level (2 * n) (below - 2 * n) (above - n)

-- So many pairs near a quarter. The first two below it are the farthest.
abbrev pub near_quarter : (pairs : ℕ) → List ℕ
near_quarter pairs = replicate (min 2 pairs) (quarter - distance 7) ++ near 7 2 (pairs - 2) pairs

-- Items with which the method opens so many bins besides those of the halves: none is above a half, and as many are above a quarter as below it.
abbrev pub front : (bins : ℕ) → List ℕ
front zero = []
front (suc zero) = near_quarter 1
front (suc (suc zero)) = b2 ∷ besides b2 ∷ []
front (suc (suc (suc more))) = b1 ∷ b2 ∷ besides b1 ∷ besides b2 ∷ near_quarter ((3 * more + 1) / 2)

-- The most that the method opens where k bins are enough: by the bound, rounded down, and by the stock.
abbrev pub most : (k : ℕ) → ℕ
most k = min stock ((5 * k + 5) / 3)

-- The k halves come first, and each opens a bin.
abbrev pub worst : (k : ℕ) → List ℕ
worst k = replicate k half ++ front (most k - k)

-- The plan: the n-th half, the n-th of the other items above a quarter and the n-th of those below it lie in bin n.
unfoldable pub halves : (before count : ℕ) → List Entry
halves before zero = []
halves before (suc count) = record { size = half; bin = suc before } ∷ halves (suc before) count

unfoldable pub beside : (below above : ℕ) → List ℕ → List Entry
beside below above [] = []
beside below above (s ∷ ss) = elim (quarter <? s) [
  | true ↦ record { size = s; bin = suc above } ∷ beside below (suc above) ss
  | false ↦ record { size = s; bin = suc below } ∷ beside (suc below) above ss
]

abbrev pub plan : (k : ℕ) → List Entry
plan k = halves 0 k ++ beside 0 0 (front (most k - k))

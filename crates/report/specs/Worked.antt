-- "Worked shelves": what is printed of the sample of document 01, whole, "amended by that column", of two productions that
-- spend one stock, of sizes known within a range, and of the shortest streams; ../proofs/Worked.antt computes over this table.
use Rattle.std.specs.Prelude.{List, [], ◌∷◌, ◌++◌, ℕ}
use Prim.Native.Char.{code}
use Prim.Native.String.{String}
use Prim.Native.String.{[] as end-of-text, ◌∷◌ as ◌before◌}
use Rattle.packing.specs.Worked.{sample}

-- A text as bytes.
unfoldable pub bytes : String → List ℕ
bytes end-of-text = []
bytes (c before s) = code c ∷ bytes s

-- Capacity 60 and a stock of 3: items of 60, 20 and 60, the last two in production 1; there a count, one item too many, and the number of production 0's
-- item; then production 0 again, and a count.
abbrev pub both : List ℕ
both =
    0x01 ∷ 0 ∷ 0 ∷ 0 ∷ 60 ∷ 0 ∷ 3 ∷ 6 ∷
    0x02 ∷ 0 ∷ 0 ∷ 0 ∷ 60 ∷
    0x05 ∷ 1 ∷
    0x02 ∷ 0 ∷ 0 ∷ 0 ∷ 20 ∷
    0x02 ∷ 0 ∷ 0 ∷ 0 ∷ 60 ∷
    0x03 ∷
    0x02 ∷ 0 ∷ 0 ∷ 0 ∷ 60 ∷
    0x04 ∷ 0 ∷ 1 ∷
    0x05 ∷ 0 ∷
    0x03 ∷ []

-- Capacity 60 and a stock of 4: an item of 10 to 40, a range from 0, the item settled as 9, which is refused, and as 12, and beside it an A of 35; the item
-- settled once more, and taken out.
abbrev pub ranged : List ℕ
ranged =
    0x01 ∷ 0 ∷ 0 ∷ 0 ∷ 60 ∷ 0 ∷ 4 ∷ 6 ∷
    0x06 ∷ 0 ∷ 0 ∷ 0 ∷ 10 ∷ 0 ∷ 0 ∷ 0 ∷ 40 ∷
    0x06 ∷ 0 ∷ 0 ∷ 0 ∷ 0 ∷ 0 ∷ 0 ∷ 0 ∷ 5 ∷
    0x07 ∷ 0 ∷ 1 ∷ 0 ∷ 0 ∷ 0 ∷ 9 ∷
    0x07 ∷ 0 ∷ 1 ∷ 0 ∷ 0 ∷ 0 ∷ 12 ∷
    0x02 ∷ 0 ∷ 0 ∷ 0 ∷ 35 ∷
    0x07 ∷ 0 ∷ 1 ∷ 0 ∷ 0 ∷ 0 ∷ 12 ∷
    0x04 ∷ 0 ∷ 1 ∷ []

-- Streams beside what is printed of them: the sample, that of two productions, one that names a third, that of ranges, one that ends within a settling, an
-- opening alone, and no stream at all.
unfoldable pub table : List (List ℕ × String)
table =
    (sample, "P 1 1 25\nP 2 2 38\nP 3 2 16\nP 4 3 38\nP 5 3 16\nP 6 4 38\nP 7 1 3\nR 8 10\nC 9 4\nP 10 4 16\nT 8 4 3\n") ∷
    (both, "P 1 1 0\nS 2 1\nP 3 1 40\nP 4 2 0\nC 5 2\nR 6 10\nR 7 17\nS 8 0\nC 9 1\nT 3 3 1\n") ∷
    (both ++ 0x05 ∷ 2 ∷ [], "X 18 37\n") ∷
    (ranged, "P 1 1 20\nR 2 19\nR 3 21\nF 4 1\nP 5 1 13\nR 6 20\nO 7 1\nT 1 1 3\n") ∷
    (ranged ++ 0x07 ∷ 0 ∷ 1 ∷ 0 ∷ 0 ∷ 0 ∷ [], "X 3 55\n") ∷
    (0x01 ∷ 0 ∷ 0 ∷ 0 ∷ 0x3C ∷ 0 ∷ 4 ∷ 6 ∷ [], "T 0 0 0\n") ∷
    ([], "X 1 0\n") ∷
    []

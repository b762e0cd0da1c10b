-- Worked sheets: of the sample of document 01, of both productions and of the second alone, of an opening alone and of no stream at all, whole; and how
-- many pages so many rows of the two productions have. ../proofs/Worked.antt computes over both tables.
use Rattle.std.specs.Prelude.{List, [], ◌∷◌, ◌++◌, ℕ}
use Prim.Native.String.{String}
use Rattle.packing.specs.Worked.{sample}

-- A stock of 4, of capacity 60.
abbrev opening : List ℕ
opening = 0x01 ∷ 0 ∷ 0 ∷ 0 ∷ 0x3C ∷ 0 ∷ 4 ∷ 6 ∷ []

-- In production 0 a master of 35, in production 1 one of 22 and one of 20, and in production 0 again one of 25.
abbrev both : List ℕ
both =
    opening ++
    0x02 ∷ 0 ∷ 0 ∷ 0 ∷ 35 ∷
    0x05 ∷ 1 ∷
    0x02 ∷ 0 ∷ 0 ∷ 0 ∷ 22 ∷
    0x02 ∷ 0 ∷ 0 ∷ 0 ∷ 20 ∷
    0x05 ∷ 0 ∷
    0x02 ∷ 0 ∷ 0 ∷ 0 ∷ 25 ∷ []

unfoldable pub table : List (List ℕ × String)
table =
    (sample, "PAGE   1                                \n   1 1       57        3    2           \n   2 3       44       16    2           \n   3 3       44       16    2           \n   4 3       44       16    2           \n") ∷
    (both, "PAGE   1                                \n   1 1       35       25    1           \n   2 2       25       35    1           \nPAGE   2                                \n   1 3       22       38    1           \n   2 4       20       40    1           \n") ∷
    (opening ++ 0x05 ∷ 1 ∷ 0x02 ∷ 0 ∷ 0 ∷ 0 ∷ 35 ∷ [], "PAGE   1                                \n   1 1       35       25    1           \n") ∷
    (opening, "") ∷
    ([], "X 1 0\n") ∷
    []

-- So many rows of production 0 and of production 1 beside so many pages: each starts one of its own, and none has none.
unfoldable pub counts : List ((ℕ × ℕ) × ℕ)
counts =
    ((0, 0), 0) ∷ ((1, 0), 1) ∷ ((0, 1), 1) ∷ ((1, 1), 2) ∷ ((50, 1), 2) ∷ ((51, 50), 3) ∷ ((512, 0), 11) ∷ ((0, 512), 11) ∷ ((462, 50), 11) ∷
    ((461, 51), 12) ∷ ((1, 511), 12) ∷ []

-- "Worked shelves": the cases marked ● make one table, proved together by one theorem that computes over it (../proofs/Worked.antt).
use Rattle.std.specs.Prelude.{◌+◌, ◌*◌, ◌∷◌, ◌++◌}
use Rattle.packing.specs.Prelude.{ℕ, Bool, true, false, List, [], map, flatten, take, drop, replicate, ◌≤?◌}
use Rattle.packing.specs.Prelude.{Opening, SizeClass, A, B1, B2, X, First, Second, Command, Shelve, Count, Withdraw, Switch, Reserve, Settle, Ok, Overfull}
use Rattle.packing.specs.Prelude.{CutShort, SecondOpening, TooFewWords, NoProduction, RowReason}
use Rattle.packing.specs.Refusing.{StreamResult, PlanResult, RowResult, refuse, pass}
use Rattle.packing.specs.Refusals.{word, free_units}
use Rattle.packing.specs.SizeClasses.{size_class}
use Rattle.packing.specs.Looks.{height}
use Rattle.packing.specs.Streams.{verdict}
use Rattle.packing.specs.Run.{packing, outcomes, looks_taken, result, row_at_exit}
use Rattle.packing.specs.Counting.{stock_places, walk}
use Rattle.packing.specs.Plans.{plan_of, check}
use Rattle.packing.specs.Compared.{accepted_sizes, number_opened, shelf_plan, shelved_sizes, used}
use Rattle.packing.specs.Rows.{check_row, check_pair}

-- What a case is about.
pub data Finding : Type 0 where
  classes : List SizeClass → Finding
  words : List ℕ → Finding
  returned : StreamResult → Finding
  checked : PlanResult → Finding
  row : RowResult → Finding
  figure : ℕ → Finding
  holds : Bool → Finding

-- What the model computes, beside what the paper says.
infix 70 ◌is◌
abbrev pub ◌is◌ : Finding → Finding → Finding × Finding
computed is said = (computed, said)

-- Every worked shelf has m 6, and none of document 01 a trailer.
abbrev pub opening : (capacity stock : ℕ) → Opening
opening c stock = record { capacity = c; stock = stock; m = 6; trailer = 0 }

abbrev pub trailed : (capacity trailer : ℕ) → Opening
trailed c trailer = record { capacity = c; stock = 512; m = 6; trailer = trailer }

abbrev pub shelved : (capacity stock : ℕ) → List ℕ → Finding
shelved c stock sizes = words (map word (outcomes (opening c stock) (map Shelve sizes)))

abbrev pub left : (capacity stock : ℕ) → List ℕ → Finding
left c stock sizes = words (map free_units (outcomes (opening c stock) (map Shelve sizes)))

-- The words of both rows, one after the other, of these commands.
abbrev pub both_rows : Opening → List Command → Finding
both_rows o cs = words (map word (outcomes o cs) ++ map free_units (outcomes o cs))

abbrev pub answered : (stock : ℕ) → List Command → Finding
answered stock cs = both_rows (opening 60 stock) cs

abbrev pub storing : (capacity trailer : ℕ) → List ℕ → Finding
storing c trailer sizes = both_rows (trailed c trailer) (map Shelve sizes)

-- The looks of each of these commands at capacity 60.
abbrev pub looked : (stock : ℕ) → List Command → Finding
looked stock cs = words (looks_taken (opening 60 stock) cs)

-- What a count hands back after these sizes at capacity 60: the figure, and the places read.
abbrev pub counted : (stock : ℕ) → List ℕ → Finding
counted stock sizes = let t = walk (stock_places stock (packing (opening 60 stock) First (map Shelve sizes)).bins) in words (t.figure ∷ t.read ∷ [])

abbrev pub planned : (capacity k : ℕ) (sizes bins : List ℕ) → Finding
planned c k sizes bins = checked (check c k (plan_of sizes bins) sizes)

-- After document 000's Theorem 1 with n = 7, and a plan of it: each bin has a size above a half, one above and one below a quarter.
abbrev pub theorem1 : List ℕ
theorem1 =
    69632 ∷ 63488 ∷ 65024 ∷ 65792 ∷ 65408 ∷ 65504 ∷ 65552 ∷ 65528 ∷ 65534 ∷ 66560 ∷ 65600 ∷ 65540 ∷
    135168 ∷ 132096 ∷ 131328 ∷ 131136 ∷ 131088 ∷ 131076 ∷ 131073 ∷ 57344 ∷ 65537 ∷ []

abbrev pub seven : List ℕ
seven = 1 ∷ 2 ∷ 3 ∷ 3 ∷ 4 ∷ 5 ∷ 5 ∷ 6 ∷ 7 ∷ 2 ∷ 4 ∷ 6 ∷ 1 ∷ 2 ∷ 3 ∷ 4 ∷ 5 ∷ 6 ∷ 7 ∷ 1 ∷ 7 ∷ []

-- Seven items fill seven bins, and all but the last are taken out.
abbrev pub recalled : List Command
recalled = map Shelve (replicate 7 60) ++ map Withdraw (1 ∷ 2 ∷ 3 ∷ 4 ∷ 5 ∷ 6 ∷ [])

-- Seven items that may fill a bin each, and turn out to be of one unit.
abbrev pub measured : List Command
measured = map (Reserve 1) (replicate 7 60) ++ map (λ n. Settle n 1) (1 ∷ 2 ∷ 3 ∷ 4 ∷ 5 ∷ 6 ∷ 7 ∷ [])

-- The stream that document 01 gives to `shelve`, in bytes.
abbrev pub sample : List ℕ
sample =
    0x01 ∷ 0 ∷ 0 ∷ 0 ∷ 0x3C ∷ 0 ∷ 4 ∷ 6 ∷
    0x02 ∷ 0 ∷ 0 ∷ 0 ∷ 0x23 ∷
    flatten (replicate 6 (0x02 ∷ 0 ∷ 0 ∷ 0 ∷ 0x16 ∷ [])) ++
    0x02 ∷ 0 ∷ 0 ∷ 0 ∷ 0x14 ∷
    0x03 ∷
    0x02 ∷ 0 ∷ 0 ∷ 0 ∷ 0x16 ∷ []

-- The same with 11 and a trailer of 0.
abbrev pub sample_trailed : List ℕ
sample_trailed = 0x11 ∷ (take 7 (drop 1 sample) ++ 0 ∷ 0 ∷ drop 8 sample)

-- An opening with capacity 1,024 and a trailer of 1 x 256 + 2, and an item of 1 unit.
abbrev pub trailer258 : List ℕ
trailer258 = 0x11 ∷ 0 ∷ 0 ∷ 4 ∷ 0 ∷ 0 ∷ 4 ∷ 6 ∷ 1 ∷ 2 ∷ 0x02 ∷ 0 ∷ 0 ∷ 0 ∷ 1 ∷ []

-- An opening with capacity 60 and a stock of 4, and these bytes behind it.
abbrev pub behind : List ℕ → List ℕ
behind bytes = 0x01 ∷ 0 ∷ 0 ∷ 0 ∷ 60 ∷ 0 ∷ 4 ∷ 6 ∷ bytes

-- The totals of an accepted stream.
abbrev pub totalling : (items opened looks : ℕ) → StreamResult
totalling items opened looks = Ok (record { items = items; opened = opened; looks = looks })

-- What such a stream returns where as many words are lent as it can want.
abbrev pub returns : (bytes : List ℕ) → Finding
returns bytes = returned (result (verdict (behind bytes) 12))

unfoldable pub table : List (Finding × Finding)
table =
    classes (map (size_class 60) (20 ∷ 21 ∷ 24 ∷ 25 ∷ 30 ∷ 31 ∷ [])) is classes (X ∷ B2 ∷ B2 ∷ B1 ∷ B1 ∷ A ∷ []) ∷
    classes (map (size_class 7) (1 ∷ 2 ∷ 3 ∷ 4 ∷ 5 ∷ 6 ∷ 7 ∷ [])) is classes (X ∷ X ∷ B1 ∷ A ∷ A ∷ A ∷ A ∷ []) ∷
    classes (map (size_class 1) (1 ∷ [])) is classes (A ∷ []) ∷
    shelved 60 512 (replicate 6 22 ++ 38 ∷ []) is words (1 ∷ 1 ∷ 2 ∷ 2 ∷ 3 ∷ 4 ∷ 4 ∷ []) ∷
    shelved 60 512 (replicate 6 22 ++ 39 ∷ []) is words (1 ∷ 1 ∷ 2 ∷ 2 ∷ 3 ∷ 4 ∷ 5 ∷ []) ∷
    planned 60 1 (30 ∷ 30 ∷ []) (1 ∷ 1 ∷ []) is checked pass ∷
    planned 60 1 (30 ∷ 31 ∷ []) (1 ∷ 1 ∷ []) is checked (refuse Overfull 2) ∷
    planned 60 0 [] [] is checked pass ∷
    shelved 262144 512 theorem1 is words (1 ∷ 1 ∷ 1 ∷ 2 ∷ 2 ∷ 2 ∷ 3 ∷ 3 ∷ 3 ∷ 4 ∷ 4 ∷ 4 ∷ 5 ∷ 6 ∷ 7 ∷ 8 ∷ 9 ∷ 10 ∷ 11 ∷ 1 ∷ 12 ∷ []) ∷
    planned 262144 7 theorem1 seven is checked pass ∷
    figure (3 * number_opened (opening 262144 512) First (map Shelve theorem1)) is figure 36 ∷
    figure (5 * used (plan_of theorem1 seven) + 15) is figure 50 ∷
    holds (3 * number_opened (opening 262144 512) First (map Shelve theorem1) ≤? 5 * used (plan_of theorem1 seven) + 15) is holds true ∷
    -- Beyond the ●: every B2 counts towards m, an m-th B2 joins no lone B2, and a refused B2 is not counted.
    shelved 60 512 (replicate 12 22) is words (1 ∷ 1 ∷ 2 ∷ 2 ∷ 3 ∷ 4 ∷ 3 ∷ 5 ∷ 5 ∷ 6 ∷ 6 ∷ 7 ∷ []) ∷
    shelved 60 2 (31 ∷ 31 ∷ replicate 6 22) is words (1 ∷ 2 ∷ replicate 6 32_778) ∷
    -- Free units: a full bin leaves none, and a refused item has none.
    left 60 512 (60 ∷ 30 ∷ 30 ∷ 0 ∷ 22 ∷ []) is words (0 ∷ 30 ∷ 0 ∷ 0 ∷ 38 ∷ []) ∷
    -- A count reads one place more than are opened, and all of a stock that is spent.
    counted 4 [] is words (0 ∷ 1 ∷ []) ∷
    counted 4 (31 ∷ 31 ∷ 22 ∷ []) is words (3 ∷ 4 ∷ []) ∷
    counted 4 (replicate 5 60) is words (4 ∷ 4 ∷ []) ∷
    counted 1 (60 ∷ []) is words (1 ∷ 1 ∷ []) ∷
    -- Withdrawals: 17 for 0, itself, a later one, a count, a refused item, one already out and a withdrawal; the bin is there for the next A.
    answered 4 (Shelve 31 ∷ Shelve 0 ∷ Count ∷ map Withdraw (0 ∷ 5 ∷ 7 ∷ 3 ∷ 2 ∷ 1 ∷ 1 ∷ 9 ∷ []) ++ Shelve 40 ∷ [])
    is words (1 ∷ 32_776 ∷ 1 ∷ replicate 5 32_785 ++ 1 ∷ 32_785 ∷ 32_785 ∷ 1 ∷ 29 ∷ 0 ∷ 0 ∷ replicate 5 0 ++ 60 ∷ 0 ∷ 0 ∷ 20 ∷ []) ∷
    -- An m-th B2 passes over an emptied bin of class 1, and the next over one that holds only a B2; the B2 count does not go back.
    answered 8 (Shelve 31 ∷ map Shelve (replicate 5 22) ++ Withdraw 1 ∷ Withdraw 2 ∷ Shelve 22 ∷ map Shelve (replicate 6 22))
    is words (1 ∷ 2 ∷ 2 ∷ 3 ∷ 3 ∷ 4 ∷ 1 ∷ 2 ∷ 5 ∷ 2 ∷ 4 ∷ 6 ∷ 6 ∷ 7 ∷ 8 ∷ 29 ∷ 38 ∷ 16 ∷ 38 ∷ 16 ∷ 38 ∷ 60 ∷ 38 ∷ 38 ∷ 16 ∷ 16 ∷ 38 ∷ 16 ∷ 38 ∷ 38 ∷ []) ∷
    -- A stock that is spent stays so when its bin is emptied, which takes only items of its class.
    answered 1 (Shelve 60 ∷ Shelve 60 ∷ Withdraw 1 ∷ Shelve 20 ∷ Shelve 60 ∷ Count ∷ []) is words (1 ∷ 32_778 ∷ 1 ∷ 32_778 ∷ 1 ∷ 1 ∷ 0 ∷ 0 ∷ 60 ∷ 0 ∷ 0 ∷ 0 ∷ []) ∷
    -- Why the figure of demand 3 is for streams without withdrawals: the shelf's own plan uses one bin of seven, and passes.
    checked (check 60 7 (shelf_plan (opening 60 512) First recalled) (shelved_sizes (opening 60 512) First recalled)) is checked pass ∷
    figure (3 * number_opened (opening 60 512) First recalled) is figure 21 ∷
    figure (5 * used (shelf_plan (opening 60 512) First recalled) + 15) is figure 20 ∷
    holds (3 * number_opened (opening 60 512) First recalled ≤? 5 * used (shelf_plan (opening 60 512) First recalled) + 15) is holds false ∷
    -- A trailer: class, load, free units and 9 go by the stored size, 8 by the bare one.
    storing 60 3 (57 ∷ 58 ∷ 0 ∷ 18 ∷ 17 ∷ 22 ∷ 27 ∷ 28 ∷ [])
    is words (1 ∷ 32_777 ∷ 32_776 ∷ 2 ∷ 3 ∷ 4 ∷ 4 ∷ 5 ∷ 0 ∷ 0 ∷ 0 ∷ 39 ∷ 40 ∷ 35 ∷ 5 ∷ 29 ∷ []) ∷
    words (shelved_sizes (trailed 60 3) First (map Shelve (57 ∷ 58 ∷ 0 ∷ 18 ∷ 17 ∷ []))) is words (60 ∷ 21 ∷ 20 ∷ []) ∷
    -- One that leaves a unit of the capacity, none, and less than none.
    storing 60 59 (0 ∷ 1 ∷ 2 ∷ []) is words (32_776 ∷ 1 ∷ 32_777 ∷ 0 ∷ 0 ∷ 0 ∷ []) ∷
    storing 60 60 (0 ∷ 1 ∷ []) is words (32_776 ∷ 32_777 ∷ 0 ∷ 0 ∷ []) ∷
    storing 60 65_535 (0 ∷ 1 ∷ 4_294_967_295 ∷ []) is words (32_776 ∷ 32_777 ∷ 32_777 ∷ 0 ∷ 0 ∷ 0 ∷ []) ∷
    -- The sum is exact: in 32 bits the first would be 65,534.
    storing 16_777_216 65_535 (4_294_967_295 ∷ 16_711_682 ∷ 16_711_681 ∷ []) is words (32_777 ∷ 32_777 ∷ 1 ∷ 0 ∷ 0 ∷ 0 ∷ []) ∷
    -- The trailer is read behind m; a stream has one opening, of either kind, and 11 is longer than 01.
    words (row_at_exit free_units (verdict trailer258 1) (7 ∷ [])) is words (765 ∷ []) ∷
    returned (result (verdict (take 9 trailer258) 1)) is returned (refuse CutShort 0) ∷
    returned (result (verdict (sample ++ 0x11 ∷ []) 12)) is returned (refuse SecondOpening 54) ∷
    returned (result (verdict (sample_trailed ++ 0x01 ∷ []) 12)) is returned (refuse SecondOpening 56) ∷
    returned (result (verdict sample_trailed 9)) is returned (refuse TooFewWords 56) ∷
    words (row_at_exit word (verdict sample_trailed 12) (replicate 12 7)) is words (1 ∷ 2 ∷ 2 ∷ 3 ∷ 3 ∷ 4 ∷ 1 ∷ 32_778 ∷ 4 ∷ 4 ∷ 7 ∷ 7 ∷ []) ∷
    -- Two productions: a stream starts in 0, and each numbers its own bins from 1 and counts its own. 05 answers its byte, with no units, also where it
    -- names the production that is current.
    answered 8 (Switch First ∷ Shelve 31 ∷ Shelve 31 ∷ Switch Second ∷ Count ∷ Shelve 31 ∷ Count ∷ Switch First ∷ Count ∷ Shelve 31 ∷ [])
    is words (0 ∷ 1 ∷ 2 ∷ 1 ∷ 0 ∷ 1 ∷ 1 ∷ 0 ∷ 2 ∷ 3 ∷ 0 ∷ 29 ∷ 29 ∷ 0 ∷ 0 ∷ 29 ∷ 0 ∷ 0 ∷ 0 ∷ 29 ∷ []) ∷
    -- The commands' numbers run through both, and 17 answers the number of the other production's item, or of 05.
    answered 8 (Shelve 31 ∷ Switch Second ∷ Shelve 40 ∷ map Withdraw (1 ∷ 2 ∷ 3 ∷ []) ++ Switch First ∷ map Withdraw (3 ∷ 1 ∷ []))
    is words (1 ∷ 1 ∷ 1 ∷ 32_785 ∷ 32_785 ∷ 1 ∷ 0 ∷ 32_785 ∷ 1 ∷ 29 ∷ 0 ∷ 20 ∷ 0 ∷ 0 ∷ 60 ∷ 0 ∷ 0 ∷ 60 ∷ []) ∷
    -- Each counts its own B2s: the first of production 1 is no sixth, so the next joins it, and the sixth of production 0 joins no B2.
    answered 8 (map Shelve (replicate 5 22) ++ Switch Second ∷ Shelve 22 ∷ Shelve 22 ∷ Switch First ∷ Shelve 22 ∷ Shelve 22 ∷ [])
    is words (1 ∷ 1 ∷ 2 ∷ 2 ∷ 3 ∷ 1 ∷ 1 ∷ 1 ∷ 0 ∷ 4 ∷ 3 ∷ 38 ∷ 16 ∷ 38 ∷ 16 ∷ 38 ∷ 0 ∷ 38 ∷ 16 ∷ 0 ∷ 38 ∷ 16 ∷ []) ∷
    -- The stock is spent when both together have opened it, however few are a production's own; an item that an opened bin takes still goes there, and
    -- none goes to a bin of the other.
    answered 3 (Shelve 60 ∷ Switch Second ∷ Shelve 20 ∷ Shelve 60 ∷ Shelve 60 ∷ Shelve 20 ∷ Switch First ∷ Shelve 20 ∷ Count ∷ [])
    is words (1 ∷ 1 ∷ 1 ∷ 2 ∷ 32_778 ∷ 1 ∷ 0 ∷ 32_778 ∷ 1 ∷ 0 ∷ 0 ∷ 40 ∷ 0 ∷ 0 ∷ 20 ∷ 0 ∷ 0 ∷ 0 ∷ []) ∷
    -- A bin that is emptied stays opened, for the other production too.
    answered 1 (Shelve 60 ∷ Withdraw 1 ∷ Switch Second ∷ Shelve 60 ∷ Switch First ∷ Shelve 60 ∷ [])
    is words (1 ∷ 1 ∷ 1 ∷ 32_778 ∷ 0 ∷ 1 ∷ 0 ∷ 60 ∷ 0 ∷ 0 ∷ 0 ∷ 0 ∷ []) ∷
    -- What is returned is of both: the items still shelved, and the bins opened.
    returns (0x02 ∷ 0 ∷ 0 ∷ 0 ∷ 60 ∷ 0x05 ∷ 1 ∷ 0x02 ∷ 0 ∷ 0 ∷ 0 ∷ 20 ∷ 0x02 ∷ 0 ∷ 0 ∷ 0 ∷ 20 ∷ 0x02 ∷ 0 ∷ 0 ∷ 0 ∷ 60 ∷ []) is returned (totalling 4 3 3) ∷
    returns (0x02 ∷ 0 ∷ 0 ∷ 0 ∷ 60 ∷ 0x05 ∷ 1 ∷ 0x02 ∷ 0 ∷ 0 ∷ 0 ∷ 20 ∷ 0x04 ∷ 0 ∷ 3 ∷ []) is returned (totalling 1 2 1) ∷
    -- Looks: 2 to the power h is at least the stock.
    words (map height (1 ∷ 2 ∷ 3 ∷ 4 ∷ 5 ∷ 8 ∷ 9 ∷ 256 ∷ 257 ∷ 511 ∷ 512 ∷ [])) is words (0 ∷ 1 ∷ 2 ∷ 2 ∷ 3 ∷ 3 ∷ 4 ∷ 8 ∷ 9 ∷ 9 ∷ 9 ∷ []) ∷
    -- None for what is refused before 10, a count, a withdrawal and a switch; 1 where a new bin is called for, whether there is one or not; 1 + h where an
    -- opened bin of the production takes the item, though the other one has opened all the rest of the stock.
    looked 4 (Shelve 0 ∷ Shelve 61 ∷ Count ∷ Shelve 31 ∷ Shelve 20 ∷ Shelve 20 ∷ Withdraw 4 ∷ Shelve 60 ∷ []) is words (0 ∷ 0 ∷ 0 ∷ 1 ∷ 1 ∷ 3 ∷ 0 ∷ 3 ∷ []) ∷
    looked 4 (map Shelve (60 ∷ 60 ∷ 60 ∷ []) ++ Switch Second ∷ map Shelve (60 ∷ 60 ∷ 20 ∷ []) ++ Withdraw 5 ∷ Shelve 40 ∷ []) is words (1 ∷ 1 ∷ 1 ∷ 0 ∷ 1 ∷ 1 ∷ 1 ∷ 0 ∷ 3 ∷ []) ∷
    looked 1 (map Shelve (60 ∷ 60 ∷ []) ++ Withdraw 1 ∷ Shelve 60 ∷ []) is words (1 ∷ 1 ∷ 0 ∷ 1 ∷ []) ∷
    -- The largest is returned, not the last and not the sum; 0 where there was no search.
    returns (0x02 ∷ 0 ∷ 0 ∷ 0 ∷ 20 ∷ 0x02 ∷ 0 ∷ 0 ∷ 0 ∷ 20 ∷ 0x02 ∷ 0 ∷ 0 ∷ 0 ∷ 60 ∷ 0x03 ∷ []) is returned (totalling 3 2 3) ∷
    returns (0x02 ∷ 0 ∷ 0 ∷ 0 ∷ 61 ∷ 0x03 ∷ 0x04 ∷ 0 ∷ 1 ∷ []) is returned (totalling 0 0 0) ∷
    -- 05 takes the bytes 0 and 1, and a byte above is refusal 18 where the command stands, whatever good ones came before it.
    words (row_at_exit word (verdict (behind (0x05 ∷ 1 ∷ 0x05 ∷ 0 ∷ [])) 2) (7 ∷ 7 ∷ [])) is words (1 ∷ 0 ∷ []) ∷
    returns (0x05 ∷ 2 ∷ []) is returned (refuse NoProduction 8) ∷
    returns (0x02 ∷ 0 ∷ 0 ∷ 0 ∷ 60 ∷ 0x05 ∷ 1 ∷ 0x05 ∷ 255 ∷ []) is returned (refuse NoProduction 15) ∷
    -- It comes after 3, and before 7.
    returns (0x05 ∷ []) is returned (refuse CutShort 8) ∷
    returned (result (verdict (behind (0x05 ∷ 2 ∷ [])) 0)) is returned (refuse NoProduction 8) ∷
    -- Sizes within a range: 06 goes by the greatest, and 19 comes before 9; 21 one unit below the range and one above it; 20 for one already settled, an
    -- 02, 0, itself, a later one and a refused 06. An A joins the bin of a settled A.
    answered 8 (Reserve 10 40 ∷ Reserve 0 5 ∷ Reserve 6 5 ∷ Reserve 1 61 ∷ Reserve 0 61 ∷ map (Settle 1) (9 ∷ 41 ∷ 10 ∷ 10 ∷ []) ++ Shelve 35 ∷ Settle 10 35 ∷ map (λ n. Settle n 1) (0 ∷ 13 ∷ 15 ∷ 2 ∷ []))
    is words (1 ∷ 32_787 ∷ 32_787 ∷ 32_777 ∷ 32_787 ∷ 32_789 ∷ 32_789 ∷ 1 ∷ 32_788 ∷ 1 ∷ 32_788 ∷ 32_788 ∷ 32_788 ∷ 32_788 ∷ 32_788 ∷ 20 ∷ 0 ∷ 0 ∷ 0 ∷ 0 ∷ 0 ∷ 0 ∷ 50 ∷ 0 ∷ 15 ∷ 0 ∷ 0 ∷ 0 ∷ 0 ∷ 0 ∷ []) ∷
    -- A withdrawal frees the settled size. Of two A's on a bin one is taken out, and the sixth B2 still goes there; the last is, and the twelfth does not.
    answered 8 (Reserve 1 31 ∷ Settle 1 1 ∷ Reserve 1 31 ∷ Settle 3 2 ∷ map Shelve (replicate 5 22) ++ Withdraw 1 ∷ Shelve 22 ∷ Withdraw 3 ∷ map Shelve (replicate 6 22))
    is words (1 ∷ 1 ∷ 1 ∷ 1 ∷ 2 ∷ 2 ∷ 3 ∷ 3 ∷ 4 ∷ 1 ∷ 1 ∷ 1 ∷ 4 ∷ 5 ∷ 5 ∷ 6 ∷ 6 ∷ 7 ∷ 29 ∷ 59 ∷ 28 ∷ 57 ∷ 38 ∷ 16 ∷ 38 ∷ 16 ∷ 38 ∷ 58 ∷ 36 ∷ 38 ∷ 16 ∷ 38 ∷ 16 ∷ 38 ∷ 16 ∷ 38 ∷ []) ∷
    -- The class of item and bin stays, however small the item turns out to be.
    answered 8 (Reserve 1 31 ∷ Settle 1 1 ∷ Shelve 20 ∷ Reserve 20 30 ∷ Settle 4 20 ∷ Shelve 20 ∷ Shelve 30 ∷ [])
    is words (1 ∷ 1 ∷ 2 ∷ 3 ∷ 3 ∷ 2 ∷ 3 ∷ 29 ∷ 59 ∷ 40 ∷ 30 ∷ 40 ∷ 20 ∷ 10 ∷ []) ∷
    -- The trailer is added to each size: to the greatest for 9, and to the one told for the load. 19 and 21 are as without one.
    both_rows (trailed 60 3) (Reserve 10 28 ∷ map (Settle 1) (9 ∷ 29 ∷ 28 ∷ []) ++ Reserve 1 57 ∷ Reserve 1 58 ∷ Settle 5 1 ∷ Reserve 0 58 ∷ [])
    is words (1 ∷ 32_789 ∷ 32_789 ∷ 1 ∷ 2 ∷ 32_777 ∷ 2 ∷ 32_787 ∷ 29 ∷ 0 ∷ 0 ∷ 29 ∷ 0 ∷ 0 ∷ 56 ∷ 0 ∷ []) ∷
    -- 20 for an item of the other production, and for one that is out.
    answered 8 (Reserve 5 20 ∷ Switch Second ∷ Settle 1 5 ∷ Switch First ∷ Withdraw 1 ∷ Settle 1 5 ∷ [])
    is words (1 ∷ 1 ∷ 32_788 ∷ 0 ∷ 1 ∷ 32_788 ∷ 40 ∷ 0 ∷ 0 ∷ 0 ∷ 60 ∷ 0 ∷ []) ∷
    -- Plans and the loads' sum take settled sizes, or the greatest till then; what was accepted is by the greatest.
    words (shelved_sizes (opening 60 8) First (Reserve 10 40 ∷ Shelve 20 ∷ Reserve 5 30 ∷ Settle 1 12 ∷ [])) is words (12 ∷ 20 ∷ 30 ∷ []) ∷
    words (accepted_sizes (opening 60 8) First (Reserve 10 40 ∷ Shelve 20 ∷ Reserve 5 30 ∷ Settle 1 12 ∷ [])) is words (40 ∷ 20 ∷ 30 ∷ []) ∷
    -- Why the figure of demand 3 is for streams without settlings too: a plan of what is settled uses one bin of seven, and passes.
    words (shelved_sizes (opening 60 512) First measured) is words (replicate 7 1) ∷
    planned 60 1 (replicate 7 1) (replicate 7 1) is checked pass ∷
    figure (3 * number_opened (opening 60 512) First measured) is figure 21 ∷
    -- 06 is searched for as 02 is, and 07 is not.
    looked 4 (Reserve 0 5 ∷ Reserve 1 61 ∷ Reserve 1 31 ∷ Settle 3 1 ∷ Reserve 1 31 ∷ []) is words (0 ∷ 0 ∷ 1 ∷ 0 ∷ 3 ∷ []) ∷
    -- The operands of 06 and 07, and where they are cut short.
    words (row_at_exit free_units (verdict (behind (0x06 ∷ 0 ∷ 0 ∷ 0 ∷ 5 ∷ 0 ∷ 0 ∷ 0 ∷ 31 ∷ 0x07 ∷ 0 ∷ 1 ∷ 0 ∷ 0 ∷ 0 ∷ 6 ∷ [])) 2) (7 ∷ 7 ∷ [])) is words (29 ∷ 54 ∷ []) ∷
    returns (0x06 ∷ 0 ∷ 0 ∷ 0 ∷ 5 ∷ 0 ∷ 0 ∷ 0 ∷ []) is returned (refuse CutShort 8) ∷
    returns (0x06 ∷ 0 ∷ 0 ∷ 0 ∷ 5 ∷ 0 ∷ 0 ∷ 0 ∷ 31 ∷ 0x07 ∷ 0 ∷ 1 ∷ 0 ∷ 0 ∷ 0 ∷ []) is returned (refuse CutShort 17) ∷
    returns (0x06 ∷ 0 ∷ 0 ∷ 0 ∷ 5 ∷ 0 ∷ 0 ∷ 0 ∷ 31 ∷ 0x07 ∷ 0 ∷ 1 ∷ 0 ∷ 0 ∷ 0 ∷ 6 ∷ []) is returned (totalling 1 1 1) ∷
    -- A row of sizes: of all faults at once 11 comes first, then 12, 13 with the place of the first bad size, and 22.
    row (check_row 0 0 (replicate 4_097 0)) is row (refuse RowReason.CapacityOutside 0) ∷
    row (check_row 60 0 (replicate 4_097 0)) is row (refuse RowReason.TooLong 0) ∷
    row (check_row 60 0 (60 ∷ 61 ∷ 0 ∷ [])) is row (refuse RowReason.SizeOutside 2) ∷
    row (check_row 60 2 (60 ∷ 1 ∷ 60 ∷ [])) is row (refuse RowReason.TooFewWords 0) ∷
    row (check_row 60 3 (60 ∷ 1 ∷ 60 ∷ [])) is row pass ∷
    -- Two rows to pair, of which either may be too long: 13 of the pictures, then of the sounds, whose places count on; 22 by the pictures alone.
    row (check_pair 0 0 [] (replicate 4_097 0)) is row (refuse RowReason.CapacityOutside 0) ∷
    row (check_pair 60 0 (replicate 4_097 0) []) is row (refuse RowReason.TooLong 0) ∷
    row (check_pair 60 0 (61 ∷ []) (replicate 4_097 0)) is row (refuse RowReason.TooLong 0) ∷
    row (check_pair 60 0 (1 ∷ 61 ∷ []) (0 ∷ [])) is row (refuse RowReason.SizeOutside 2) ∷
    row (check_pair 60 0 (1 ∷ 60 ∷ []) (60 ∷ 61 ∷ [])) is row (refuse RowReason.SizeOutside 4) ∷
    row (check_pair 60 1 (1 ∷ 60 ∷ []) (60 ∷ [])) is row (refuse RowReason.TooFewWords 0) ∷
    row (check_pair 60 1 (1 ∷ []) (60 ∷ 60 ∷ [])) is row pass ∷
    -- The sample stream, with two words more in each row than it has commands.
    returned (result (verdict sample 12)) is returned (totalling 8 4 3) ∷
    words (row_at_exit word (verdict sample 12) (replicate 12 7)) is words (1 ∷ 2 ∷ 2 ∷ 3 ∷ 3 ∷ 4 ∷ 1 ∷ 32_778 ∷ 4 ∷ 4 ∷ 7 ∷ 7 ∷ []) ∷
    words (row_at_exit free_units (verdict sample 12) (replicate 12 7)) is words (25 ∷ 38 ∷ 16 ∷ 38 ∷ 16 ∷ 38 ∷ 3 ∷ 0 ∷ 0 ∷ 16 ∷ 7 ∷ 7 ∷ []) ∷
    []

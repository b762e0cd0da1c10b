-- The walk of the count, place by place; and what it finds where the rows record a packing.
use mathlib.Core.Path.{◌≡◌, refl, sym, ap, ◌∙◌}
use mathlib.Core.List.{List, [], ◌∷◌, map}
use Prim.Native.Nat.{ℕ, zero, suc, ◌+◌, ◌≤◌, ◌<◌, min}
use native.Mathlib.Omega.{arith}
use lib.ListN.{length, get_or, take, drop, drop_of_length-le, length-map, get_or-map}
use lib.Seq.{length-take-le, get_or-take, drop-cons, ext_get_or}
use Rattle.packing.specs.declared.{Opening.Opening, Tally.Tally}
use Rattle.packing.specs.Bins.{Bin, Packing, opened}
use Rattle.packing.specs.Counting.{stock_places, walk}
use Rattle.packing.proofs.Counting.{tallied, walk_finds}
use Rattle.ledger.specs.declared.Row.{Row}
use Rattle.ledger.specs.Rows.{blank, row_at}
use Rattle.ledger.specs.Records.{row_of, Records}
use Rattle.ledger.specs.Counting.{classes, Countable, Tallied}

abbrev class_of : Row → ℕ
class_of row = row.class

-- What the walk comes to that has so many opened places behind it.
abbrev further : ℕ → Tally → Tally
further passed t = record { figure = passed + t.figure; read = passed + t.read }

-- Every place before this one is opened, and was read.
pub record Passed (ledger : List Row) (stock place read : ℕ) : Type 0 where
  pub few : place ≤ stock
  pub each : read ≡ place
  pub whole : walk (classes stock ledger) ≡ further place (walk (drop place (classes stock ledger)))

pub starts : (ledger : List Row) (stock : ℕ) → Passed ledger stock 0 0
starts ledger stock = record { few = omega arith; each = refl; whole = tallied (omega arith) (omega arith) }

walk_on : (class : ℕ) (rest : List ℕ) → (class ≡ 0 → ⊥) → walk (class ∷ rest) ≡ further 1 (walk rest)
unfolding walk
walk_on zero rest some = absurd (some refl)
walk_on (suc class) rest some = tallied (omega arith) (omega arith)

module _ {ledger : List Row} {stock : ℕ} (can : Countable ledger stock) where
  length_classes : length (classes stock ledger) ≡ stock
  length_classes = length-map (take stock ledger) class_of ∙ length-take-le stock ledger (omega (arith, can.whole, can.few))

  class_at : (place : ℕ) → place < stock → get_or (classes stock ledger) place 0 ≡ (row_at ledger place).class
  class_at place l = get_or-map class_of (take stock ledger) place blank ∙ ap class_of (get_or-take stock ledger place blank l)

  -- What is left of the row at a place that is not past the stock.
  here : (place : ℕ) → place < stock → drop place (classes stock ledger) ≡ (row_at ledger place).class ∷ drop (suc place) (classes stock ledger)
  here place l = drop-cons (classes stock ledger) place 0 (omega (arith, length_classes)) ∙ rw (class_at place l)

  module _ {place read : ℕ} (w : Passed ledger stock place read) where
    -- The place is opened: the walk goes on.
    pub goes_on : place < stock → ((row_at ledger place).class ≡ 0 → ⊥) → Passed ledger stock (place + 1) (read + 1)
    goes_on l some = record {
      few = omega arith;
      each = omega (arith, w.each);
      whole =
          let rest : List ℕ = drop (suc place) (classes stock ledger) in
          let next : place + 1 ≡ suc place = omega arith in
          w.whole ∙ rw (here place l, walk_on _ rest some, next) (tallied (omega arith) (omega arith));
    }

    -- It is not: the walk ends, and has read it.
    pub ends_early : place < stock → (row_at ledger place).class ≡ 0 → record { figure = place; read = read + 1 } ≡ walk (classes stock ledger)
    unfolding walk
    ends_early l none = sym (w.whole ∙ rw (here place l, none) (tallied (omega arith) (omega (arith, w.each))))

    -- There is no place more in the stock.
    pub ends_last : place ≡ stock → record { figure = stock; read = read } ≡ walk (classes stock ledger)
    unfolding walk
    ends_last e =
        let none : drop place (classes stock ledger) ≡ [] = drop_of_length-le (classes stock ledger) {i = place} (omega (arith, length_classes)) in
        sym (w.whole ∙ rw none (tallied (omega arith) (omega (arith, w.each))))

-- The places of a stock show what its bins are, and past them 0.
length_places : (stock : ℕ) (bins : List Bin) → length (stock_places stock bins) ≡ stock
unfolding stock_places
length_places zero bins = refl
length_places (suc stock) [] = ap suc (length_places stock [])
length_places (suc stock) (b ∷ bs) = ap suc (length_places stock bs)

place_shows : (o : Opening) (stock : ℕ) (bins : List Bin) (i : ℕ) → i < stock → (get_or (map (row_of o) bins) i blank).class ≡ get_or (stock_places stock bins) i 0
unfolding stock_places
place_shows o zero bins i l = absurd (omega arith)
place_shows o (suc stock) [] zero l = refl
place_shows o (suc stock) [] (suc i) l = place_shows o stock [] i (omega arith)
place_shows o (suc stock) (b ∷ bs) zero l = refl
place_shows o (suc stock) (b ∷ bs) (suc i) l = place_shows o stock bs i (omega arith)

module _ {o : Opening} {p : Packing} {ledger : List Row} {stock : ℕ} (can : Countable ledger stock) (k : Records o ledger p) where
  -- So does the class row, where it records them.
  shows : classes stock ledger ≡ stock_places stock p.bins
  shows =
      ext_get_or 0 (classes stock ledger) (stock_places stock p.bins) (length_classes can ∙ sym (length_places stock p.bins))
      (λ i l. let here : i < stock = omega (arith, length_classes can) in
      class_at can i here ∙ ap class_of (k.row i (omega (arith, can.few))) ∙ place_shows o stock p.bins i here)

  walk_of_bins : opened p ≤ stock → walk (classes stock ledger) ≡ record { figure = opened p; read = min stock (opened p + 1) }
  walk_of_bins within = rw shows (walk_finds stock p.bins (λ b m. (k.sound b m).from_class_1) within)

pub tally : {ledger : List Row} {stock : ℕ} {r : Tally} → Countable ledger stock → r ≡ walk (classes stock ledger) → Tallied ledger stock r
tally can e = record { walked = e; model = λ o p k within. e ∙ walk_of_bins can k within }

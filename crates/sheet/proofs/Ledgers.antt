-- The ledgers of the two productions tell the sheet: production 0's lines, and behind them production 1's.
use mathlib.Core.Path.{◌≡◌, sym, ap, ◌∙◌}
use mathlib.Core.Bool.{true}
use mathlib.Core.List.{List, ◌++◌}
use Prim.Native.Nat.{ℕ, ◌+◌, ◌≤◌}
use native.Mathlib.Omega.{arith}
use lib.ListN.{length}
use Rattle.packing.specs.declared.{Opening.Opening, Production.Production, Command.Command, Tally.Tally}
use Rattle.packing.specs.declared.Production.TheVariants.{First, Second}
use Rattle.packing.specs.Bins.{opened}
use Rattle.packing.specs.Limits.{opening_good, most_commands}
use Rattle.packing.specs.Run.{packing}
use Rattle.packing.proofs.Limits.{in_limits}
use Rattle.packing.proofs.Reached.{reached, both_in_stock}
use Rattle.ledger.specs.declared.Row.{Row}
use Rattle.ledger.specs.Rows.{places}
use Rattle.ledger.specs.Records.{Records}
use Rattle.ledger.specs.Counting.{Tallied}
use Rattle.text.specs.declared.Text.{Text}
use Rattle.text.specs.Writing.{Room, Appended}
use Rattle.text.proofs.Texts.{appended_both}
use Rattle.pages.specs.Pages.{lines, lines_text}
use Rattle.pages.specs.Claims.{pages_of}
use Rattle.pages.specs.Writing.{lines_length, ledger_text, Legibles}
use Rattle.pages.proofs.Ledgers.{ledger_legible, ledger_text_lem}
use Rattle.pages.proofs.Forty.{lines_length_lem}
use Rattle.stream.specs.Recorded.{BothRecorded}
use Rattle.sheet.specs.Sheet.{rows_of, sheet_text}
use Rattle.sheet.specs.Writing.{most_of_a_sheet}
use Rattle.sheet.proofs.Both.{text_both}
use Rattle.sheet.proofs.Theorems.{before_is, printable}

-- A ledger counts the bins of the production whose packing it records.
module _ {o : Opening} (good : opening_good o ≡ true) {ledger : List Row} (q : Production) (cs : List Command) (k : Records o ledger (packing o q cs)) where
  pub counted : (t : Tally) → Tallied ledger o.stock t → t.figure ≡ opened (packing o q cs)
  counted t h = ap (λ (t : Tally). t.figure) (h.model o (packing o q cs) k (reached o q cs).stock_lasts)

-- The two together are in the stock, so their pages are at most one more than those of all bins.
fits : (o : Opening) → opening_good o ≡ true → (cs : List Command) → lines_length (opened (packing o First cs)) + lines_length (opened (packing o Second cs)) ≤ most_of_a_sheet
fits o good cs = omega (arith, both_in_stock o cs, (in_limits o good).stock.1)

-- What is written of production 0, by so many bins; of production 1, by so many and behind so many pages.
module _ {o : Opening} (good : opening_good o ≡ true) (cs : List Command) (few : length cs ≤ most_commands) {first second : List Row} (k : BothRecorded o cs first second)
    (bins0 : ℕ) (e0 : bins0 ≡ opened (packing o First cs)) (text : Text) (room : Room text most_of_a_sheet) where
  pub first_legible : Legibles first o.capacity bins0 0 text
  first_legible = rw e0 (ledger_legible (printable o cs good few First) k.first_is 0 (omega arith) text (omega (arith, fits o good cs)))

  first_text : ledger_text first o.capacity bins0 0 ≡ lines_text (lines 0 (rows_of o First cs))
  first_text = rw e0 (ledger_text_lem (printable o cs good few First) k.first_is 0)

  module _ {text' : Text} (w : Appended text (ledger_text first o.capacity bins0 0) text')
      (bins1 : ℕ) (e1 : bins1 ≡ opened (packing o Second cs)) (before : ℕ) (pages : before ≡ pages_of bins0) where
    first_length : length (ledger_text first o.capacity bins0 0) ≡ lines_length (opened (packing o First cs))
    first_length = omega (arith, ap length first_text, lines_length_lem 0 (omega arith) (printable o cs good few First))

    before_few : before ≤ places
    before_few = omega (arith, pages, e0, (printable o cs good few First).bins_few)

    pub second_legible : Legibles second o.capacity bins1 before text'
    second_legible =
        rw e1 (ledger_legible (printable o cs good few Second) k.second_is before before_few text' (omega (arith, fits o good cs, first_length, w)))

    second_text : ledger_text second o.capacity bins1 before ≡ lines_text (lines before (rows_of o Second cs))
    second_text = rw e1 (ledger_text_lem (printable o cs good few Second) k.second_is before)

    -- The pages before production 1 are those of production 0.
    sheet_is : ledger_text first o.capacity bins0 0 ++ ledger_text second o.capacity bins1 before ≡ sheet_text o cs
    sheet_is =
        let same : before ≡ _ = pages ∙ ap pages_of e0 ∙ sym (before_is o cs) in
        ap (λ (t : List ℕ). t ++ ledger_text second o.capacity bins1 before) first_text
        ∙ ap (λ (t : List ℕ). lines_text (lines 0 (rows_of o First cs)) ++ t) (second_text ∙ ap (λ (n : ℕ). lines_text (lines n (rows_of o Second cs))) same)
        ∙ sym (text_both (lines 0 (rows_of o First cs)) (lines _ (rows_of o Second cs)))

    pub sheet_stands : {text'' : Text} → Appended text' (ledger_text second o.capacity bins1 before) text'' → Appended text (sheet_text o cs) text''
    sheet_stands v = rw (← sheet_is) (appended_both w v)

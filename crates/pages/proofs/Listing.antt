-- The lines of the opened bins, written one behind the other.
use mathlib.Core.Path.{◌≡◌, refl, sym, ap, subst, ◌∙◌}
use mathlib.Core.List.{List, [], ◌∷◌, ◌++◌, map, flatten, append_assoc, append-nil}
use Prim.Native.Nat.{ℕ, suc, ◌+◌, ◌≤◌, ◌<◌}
use native.Mathlib.Omega.{arith}
use lib.ListN.{length, take, drop, get_or, drop_of_length-le, length-append}
use lib.Seq.{length-take-le, drop-cons, get_or-take}
use Rattle.ledger.specs.declared.Row.{Row as LedgerRow}
use Rattle.ledger.specs.Rows.{blank}
use Rattle.text.specs.declared.Text.{Text}
use Rattle.text.specs.Writing.{Appended}
use Rattle.text.proofs.Texts.{appended_none, appended_both}
use Rattle.pages.specs.Pages.{Row, lines_text}
use Rattle.pages.specs.Claims.{count_up}
use Rattle.pages.specs.Writing.{told, told_from, Legible, lines_length, entry_text, entries_text, ledger_text, Enterable, Legibles}
use Rattle.pages.proofs.Lined.{lined}
use Rattle.pages.proofs.Entries.{entries_more, entry_length}

-- What is told of rows is as many, numbered in their order.
told_numbers : (capacity first : ℕ) (rows : List LedgerRow) → map (λ r. r.number) (told_from capacity first rows) ≡ count_up first (length (told_from capacity first rows))
unfolding told_from count_up
told_numbers capacity first [] = refl
told_numbers capacity first (row ∷ rest) = ap (λ (ns : List ℕ). first ∷ ns) (told_numbers capacity (suc first) rest)

-- What the ledger tells from a place on.
abbrev ahead : (ledger : List LedgerRow) (capacity opened place : ℕ) → List Row
ahead ledger capacity opened place = told_from capacity (place + 1) (drop place (take opened ledger))

-- So many rows are past, and their lines are written; these and what is ahead are the whole.
pub record Listing (ledger : List LedgerRow) (capacity opened pages : ℕ) (text₀ text : Text) (place : ℕ) : Type 0 where
  pub from : Legibles ledger capacity opened pages text₀
  pub past : List ℕ
  pub wrote : Appended text₀ past text
  pub whole : past ++ entries_text pages (ahead ledger capacity opened place) ≡ ledger_text ledger capacity opened pages
  pub few : length past ≡ lines_length place

pub listing_start : {ledger : List LedgerRow} {capacity opened pages : ℕ} {text : Text} → Legibles ledger capacity opened pages text
    → Listing ledger capacity opened pages text text 0
listing_start {ledger = ledger} {capacity = capacity} {opened = opened} {pages = pages} {text = text} l =
    let rows = told_from capacity 1 (take opened ledger) in
    record {
      from = l;
      past = [];
      wrote = appended_none text;
      whole = ap lines_text (sym (lined pages rows (told_numbers capacity 1 (take opened ledger))).opens);
      few = omega arith;
    }

module _ {ledger : List LedgerRow} {capacity opened pages : ℕ} {text₀ text : Text} {place : ℕ}
    (g : Listing ledger capacity opened pages text₀ text place) where
  rows : length (take opened ledger) ≡ opened
  rows = length-take-le opened ledger (omega (arith, g.from.whole, g.from.opened_few))

  pub listing_end : length (take opened ledger) ≤ place → Appended text₀ (ledger_text ledger capacity opened pages) text
  unfolding told_from flatten
  listing_end all =
      let none = ap (told_from capacity (place + 1)) (drop_of_length-le (take opened ledger) {i = place} all) in
      let past_is : g.past ≡ ledger_text ledger capacity opened pages =
      sym (append-nil g.past) ∙ sym (ap (λ (rs : List Row). g.past ++ entries_text pages rs) none) ∙ g.whole in
      subst (λ (t : List ℕ). Appended text₀ t text) past_is g.wrote

  module _ (more : place < length (take opened ledger)) where
    abbrev row : LedgerRow
    row = get_or (take opened ledger) place blank

    inside : place < opened
    inside = omega (arith, rows)

    legible : Legible capacity (place + 1) row
    legible = rw (get_or-take opened ledger place blank inside) (g.from.legible place inside)

    abbrev entry : Row
    entry = told capacity (place + 1) row

    ahead_is : ahead ledger capacity opened place ≡ entry ∷ ahead ledger capacity opened (place + 1)
    unfolding told_from
    ahead_is =
        let number : suc (place + 1) ≡ place + 1 + 1 = omega arith in
        let later : suc place ≡ place + 1 = omega arith in
        ap (told_from capacity (place + 1)) (drop-cons (take opened ledger) place blank more)
        ∙ ap (λ (k : ℕ). entry ∷ told_from capacity k (drop (suc place) (take opened ledger))) number
        ∙ ap (λ (k : ℕ). entry ∷ told_from capacity (place + 1 + 1) (drop k (take opened ledger))) later

    pub listing_enterable : Enterable text capacity pages (place + 1) row
    listing_enterable =
        record {
          legible = legible;
          pages_few = g.from.pages_few;
          room = omega (arith, inside, g.few, g.from.room, g.wrote, entry_length pages g.from.pages_few place legible);
        }

    pub listing_next : {text' : Text} → Appended text (entry_text pages entry) text' → Listing ledger capacity opened pages text₀ text' (place + 1)
    listing_next w =
        record {
          from = g.from;
          past = g.past ++ entry_text pages entry;
          wrote = appended_both g.wrote w;
          whole =
              append_assoc g.past (entry_text pages entry) (entries_text pages (ahead ledger capacity opened (place + 1)))
              ∙ ap (λ (t : List ℕ). g.past ++ t) (sym (entries_more pages entry (ahead ledger capacity opened (place + 1))))
              ∙ ap (λ (rs : List Row). g.past ++ entries_text pages rs) (sym ahead_is) ∙ g.whole;
          few = omega (arith, length-append g.past (entry_text pages entry), g.few, entry_length pages g.from.pages_few place legible);
        }

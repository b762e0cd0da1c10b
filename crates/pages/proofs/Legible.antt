-- The lines of the sheet, by the fields that are written one behind the other: a space and a field are a field one wider. Each line has 40 characters.
use mathlib.Core.Path.{◌≡◌, ap}
use mathlib.Core.List.{List, [], ◌∷◌, ◌++◌, append_assoc}
use Prim.Native.Nat.{ℕ, suc, ◌-◌, ◌≤◌, ◌<◌}
use Prim.Native.Char.{code}
use native.Mathlib.Omega.{arith}
use lib.ListN.{length, length-append}
use Rattle.ledger.specs.declared.Row.{Row as LedgerRow}
use Rattle.text.specs.Lines.{decimal}
use Rattle.text.proofs.Decimals.{decimal_few}
use Rattle.fields.specs.Fields.{spaces, ending, right}
use Rattle.fields.proofs.Widths.{right_length, right_wider}
use Rattle.pages.specs.Pages.{page, bin, characters, line_text}
use Rattle.pages.specs.Writing.{told, Legible}

-- A field behind a space: its digits fit, and it is as wide as it is written.
pub record Field (width n : ℕ) : Type 0 where
  pub fits : length (decimal n) ≤ width
  pub wide : length (right width n) ≡ width
  pub wider : length (right (suc width) n) ≡ suc width

pub field : (width n : ℕ) → length (decimal n) ≤ width → Field width n
field width n h =
    let r : length (decimal n) ≤ suc width = omega arith in
    record { fits = h; wide = right_length width n h; wider = right_length (suc width) n r }

module _ (number : ℕ) (few : number < 1000) where
  pub page_field : Field 3 number
  page_field = field 3 number (decimal_few 2 number few)

  pub page_is : line_text (page number) ≡ (code "P" ∷ code "A" ∷ code "G" ∷ code "E" ∷ []) ++ (right 4 number ++ ending 32)
  unfolding characters
  page_is = rw (right_wider 3 number page_field.fits) (simp append_assoc)

  pub page_length : length (characters (page number)) ≡ 40
  unfolding characters
  page_length = omega (arith, length-append (right 3 number) (spaces 32), page_field.wide)

-- The space before each later field goes with the field.
regroup : (s n c l f h e z : List ℕ) → (n ++ s ++ c ++ s ++ l ++ s ++ f ++ s ++ h ++ e) ++ z ≡ n ++ ((s ++ c) ++ ((s ++ l) ++ ((s ++ f) ++ ((s ++ h) ++ (e ++ z)))))
regroup s n c l f h e z = simp append_assoc

-- What stands on a cartridge's line behind its number, and from each later field on.
module _ (capacity : ℕ) (row : LedgerRow) where
  abbrev pub from_held : List ℕ
  from_held = right 5 row.held ++ ending 11

  abbrev pub from_free : List ℕ
  from_free = right 9 row.free ++ from_held

  abbrev pub from_load : List ℕ
  from_load = right 9 (capacity - row.free) ++ from_free

  abbrev pub from_class : List ℕ
  from_class = right 2 row.class ++ from_load

module _ {capacity number : ℕ} {row : LedgerRow} (l : Legible capacity number row) where
  pub number_field : Field 4 number
  number_field = field 4 number (decimal_few 3 number l.number_few)

  pub class_field : Field 1 row.class
  class_field = field 1 row.class (decimal_few 0 row.class l.class_few)

  pub load_field : Field 8 (capacity - row.free)
  load_field = field 8 (capacity - row.free) (decimal_few 7 (capacity - row.free) (omega (arith, l.capacity_few)))

  pub free_field : Field 8 row.free
  free_field = field 8 row.free (decimal_few 7 row.free (omega (arith, l.capacity_few, l.free_few)))

  pub held_field : Field 4 row.held
  held_field = field 4 row.held (decimal_few 3 row.held l.held_few)

  pub bin_is : line_text (bin (told capacity number row)) ≡ right 4 number ++ from_class capacity row
  unfolding characters
  bin_is =
      rw (
        right_wider 1 row.class class_field.fits,
        right_wider 8 (capacity - row.free) load_field.fits,
        right_wider 8 row.free free_field.fits,
        right_wider 4 row.held held_field.fits,
      )
      (regroup (spaces 1) (right 4 number) (right 1 row.class) (right 8 (capacity - row.free)) (right 8 row.free) (right 4 row.held)
      (spaces 11) (code "\n" ∷ []))

  pub bin_length : length (characters (bin (told capacity number row))) ≡ 40
  bin_length =
      omega (
        arith,
        ap length bin_is,
        length-append (characters (bin (told capacity number row))) (code "\n" ∷ []),
        length-append (right 4 number) (from_class capacity row),
        length-append (right 2 row.class) (from_load capacity row),
        length-append (right 9 (capacity - row.free)) (from_free capacity row),
        length-append (right 9 row.free) (from_held capacity row),
        length-append (right 5 row.held) (ending 11),
        number_field.wide,
        class_field.wider,
        load_field.wider,
        free_field.wider,
        held_field.wider,
      )

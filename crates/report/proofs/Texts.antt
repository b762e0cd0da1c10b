-- What is printed of a stream, by what `shelve` of the crate stream returns of it.
use mathlib.Core.Path.{◌≡◌, refl, ap, ◌∙◌}
use mathlib.Core.List.{List, [], ◌∷◌, ◌++◌}
use Prim.Native.Nat.{ℕ, ◌+◌, ◌≤◌, ◌<◌}
use Prim.Native.Char.{code}
use native.Mathlib.Omega.{arith}
use lib.ListN.{length}
use borrow.Author.Tests.{lt-ltb, le-ltb}
use Rattle.packing.specs.declared.{Opening.Opening, Command.Command, StreamReason.StreamReason, StreamTotals.StreamTotals, Refusal.Refusal}
use Rattle.packing.specs.Prelude.{Ok, Err}
use Rattle.packing.specs.declared.Production.TheVariants.{First, Second}
use Rattle.packing.specs.Refusals.{stream_number}
use Rattle.packing.specs.Bins.{opened}
use Rattle.packing.specs.Streams.{Read, accepted, refused, verdict}
use Rattle.packing.specs.Limits.{most_commands}
use Rattle.packing.specs.Run.{packing, answers, still_shelved, result, most_looks}
use Rattle.packing.proofs.Tests.{clash}
use Rattle.packing.proofs.Limits.{in_limits}
use Rattle.packing.proofs.Reached.{both_in_stock}
use Rattle.packing.proofs.Running.{shelved_few}
use Rattle.packing.proofs.Looks.{height_least, most_few}
use Rattle.packing.proofs.Given.{stream_number_few}
use Rattle.packing.proofs.Accepted.{accepted_whole}
use Rattle.text.specs.Lines.{digits, decimal, line}
use Rattle.text.proofs.Lengths.{line_few, long_line_few}
use Rattle.answer_lines.specs.Lines.{lines, most_of_a_line}
use Rattle.report.specs.Lines.{answers_text, refusal, most_bytes, overlong, text, printing, printed, most_of_a_refusal}

-- "L 32768" and the newline.
pub long_length : length overlong ≡ 8
unfolding line decimal digits
long_length = refl

-- The line of a refusal, whose offset is some number of 64 bits.
pub refusal_few : (reason : StreamReason) (offset : ℕ) → offset < 18446744073709551616 → length (refusal reason offset) ≤ most_of_a_refusal
refusal_few reason offset h = line_few (code "X") 1 19 (stream_number reason) offset (omega (arith, stream_number_few reason)) (omega arith)

module _ (made : Opening → List Command → List ℕ) (stream : List ℕ) where
  pub printing_long : most_bytes < length stream → printing made stream ≡ overlong
  unfolding printing
  printing_long h = rw (lt-ltb most_bytes (length stream) h)

  module _ (short : length stream ≤ most_bytes) where
    printing_text : printing made stream ≡ text made (verdict stream most_commands)
    unfolding printing
    printing_text = rw (le-ltb most_bytes (length stream) short)

    pub printing_refused : (r : Refusal StreamReason) → Err r ≡ result (verdict stream most_commands) → printing made stream ≡ refusal r.reason r.place
    unfolding text
    printing_refused r e = printing_text ∙ go (verdict stream most_commands) e
      where
        go : (v : Read) → Err r ≡ result v → text made v ≡ refusal r.reason r.place
        go (accepted o cs) q = clash (cc)
        go (refused reason' offset') q = cc

    pub printing_accepted : (o : Opening) (cs : List Command) → verdict stream most_commands ≡ accepted o cs → printing made stream ≡ made o cs
    unfolding text
    printing_accepted o cs accepts = printing_text ∙ ap (text made) accepts

-- What is returned of an accepted stream tells that it is one, its items, its bins and its looks.
module _ (stream : List ℕ) (totals : StreamTotals) (e : Ok totals ≡ result (verdict stream most_commands)) where
  module _ (o : Opening) (cs : List Command) (accepts : verdict stream most_commands ≡ accepted o cs) where
    returned : Ok totals ≡ result (accepted o cs)
    returned = e ∙ ap result accepts

    items_are : totals.items ≡ length (still_shelved o First cs) + length (still_shelved o Second cs)
    items_are = let r = returned in cc

    bins_are : totals.opened ≡ opened (packing o First cs) + opened (packing o Second cs)
    bins_are = let r = returned in cc

    looks_are : totals.looks ≡ most_looks o cs
    looks_are = let r = returned in cc

    -- "T 4096 512 10" and the newline.
    pub totals_few : length (line (code "T") (totals.items ∷ totals.opened ∷ totals.looks ∷ [])) ≤ most_of_a_line
    totals_few =
        let ok = accepted_whole most_commands o cs stream accepts in
        let stock = (in_limits o ok.opening_is_good).stock.1 in
        omega (
          arith,
          long_line_few (code "T") 3 2 1 totals.items totals.opened totals.looks (omega (arith, items_are, shelved_few o cs, ok.commands_few)) (omega (arith, bins_are, both_in_stock o cs, stock))
              (omega (arith, looks_are, most_few o cs, (height_least o.stock).least 9 stock)),
        )

    pub printed_accepted : length stream ≤ most_bytes → printed stream ≡ lines (answers o cs) ++ line (code "T") (totals.items ∷ totals.opened ∷ totals.looks ∷ [])
    unfolding printed
    printed_accepted short = printing_accepted answers_text stream short o cs accepts ∙ rw (items_are, bins_are, looks_are)

  -- Whichever stream it is.
  pub totals_short : length (line (code "T") (totals.items ∷ totals.opened ∷ totals.looks ∷ [])) ≤ most_of_a_line
  totals_short = go (verdict stream most_commands) refl
    where
      go : (r : Read) → verdict stream most_commands ≡ r → length (line (code "T") (totals.items ∷ totals.opened ∷ totals.looks ∷ [])) ≤ most_of_a_line
      go (accepted o cs) v = totals_few o cs v
      go (refused reason offset) v = clash (cc (e, ap result v))

-- What the second pass leaves is what the call promises of an accepted stream: the totals are of both productions, and the looks are the largest.
use mathlib.Core.Path.{◌≡◌}
use mathlib.Core.List.{List}
use Prim.Native.Nat.{ℕ, ◌+◌}
use Rattle.packing.specs.declared.{Opening.Opening}
use Rattle.packing.specs.declared.Production.TheVariants.{First, Second}
use Rattle.packing.specs.Prelude.{Ok}
use Rattle.packing.specs.Refusing.{StreamResult}
use Rattle.packing.specs.Refusals.{word, free_units}
use Rattle.packing.specs.Streams.{Read, words_lent, verdict}
use Rattle.packing.specs.Run.{result, row_at_exit}
use Rattle.packing.proofs.Shelved.{held_shelved}
use Rattle.aim.specs.declared.Counters.{Counters}
use Rattle.turns.specs.Running.{Ran}
use Rattle.stream.specs.Recorded.{Recorded}
use Rattle.ledger.specs.declared.Row.{Row}

-- What the call promises of the reading: its result, both rows and the ledgers.
abbrev pub Given : Read → (row free_row : List ℕ) → StreamResult → (words free : List ℕ) (first second : List Row) → Type 0
Given v row free_row r words free first second =
    (r ≡ result v) × ((words ≡ row_at_exit word v row) × ((free ≡ row_at_exit free_units v free_row) × Recorded v first second))

pub ran_result : {stream row free_row words free : List ℕ} {o : Opening} {first second : Counters} {ledger0 ledger1 : List Row} {looks : ℕ}
    → Ran stream row free_row o words free first ledger0 second ledger1 looks
    → Given (verdict stream (words_lent row free_row)) row free_row (Ok (record { items = first.items + second.items; opened = first.opened + second.opened; looks = looks })) words free ledger0 ledger1
ran_result {o = o} r =
    let one = r.first_is in
    let two = r.second_is in
    let cs = r.commands in (
      rw (r.accepts, one.items, two.items, held_shelved o First cs, held_shelved o Second cs, one.bins, two.bins, r.looks_are),
      (rw r.accepts r.answers, (rw r.accepts r.frees, rw r.accepts (record { first_is = one.records; second_is = two.records }))),
    )

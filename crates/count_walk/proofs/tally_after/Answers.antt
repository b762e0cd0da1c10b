-- `tally_after` meets its contract: the ledgers of an accepted stream record the packings of its productions, over which the counts walk.
use Rattle.std.proofs.Common.{◌≡◌, ℕ, ◌≤◌, List, drop, sym, ap, ◌∙◌, arith}
use Rattle.std.specs.Prelude.{Option, Some}
use Rattle.packing.specs.declared.{Opening.Opening, Production.Production, Tally.Tally}
use Rattle.packing.specs.declared.Production.TheVariants.{First, Second}
use Rattle.packing.specs.Bins.{opened}
use Rattle.packing.specs.Limits.{most_commands}
use Rattle.packing.specs.Streams.{first_byte, opening_of, verdict}
use Rattle.packing.specs.Run.{packing}
use Rattle.packing.proofs.Limits.{in_limits}
use Rattle.packing.proofs.Reached.{reached}
use Rattle.ledger.specs.declared.Row.{Row}
use Rattle.ledger.specs.Counting.{Countable, Tallied}
use Rattle.stream.proofs.Shelved.{Shelved, shelved, shelved_opening, shelved_whole, shelved_same}
use Rattle.count_walk.specs.declared.Tallies.{Tallies}
use Rattle.count_walk.specs.After.{tally_of, after}
use Rattle.count_walk.proofs.tally_after.Goals as goal

-- An accepted stream, and its opening read again.
module _ {stream : List ℕ} {first second : List Row} (k : Shelved stream first second) {o : Opening} (e : o ≡ opening_of (first_byte stream) (drop 1 stream)) where
  same_stock : o.stock ≡ k.opening.stock
  same_stock = ap (λ (o : Opening). o.stock) (shelved_same k e)

  stock_few : o.stock ≤ 512
  stock_few = omega (arith, same_stock, (in_limits k.opening (shelved_whole k).opening_is_good).stock.1)

  first_countable : Countable first o.stock
  first_countable = record { whole = k.records.first_is.whole; few = stock_few }

  second_countable : Countable second o.stock
  second_countable = record { whole = k.records.second_is.whole; few = stock_few }

  -- A production has opened no more than the whole stock, of which a count may read every place.
  lasts : (q : Production) → opened (packing k.opening q k.commands) ≤ o.stock
  lasts q = omega (arith, same_stock, (reached k.opening q k.commands).stock_lasts)

  abbrev tallies : Tally → Tally → Option Tallies
  tallies t u = Some (record { first = t; second = u })

  counted : (t u : Tally) → Tallied first o.stock t → Tallied second o.stock u → ◌≡◌ {A = Option Tallies} (Some (record { first = t; second = u })) (after (verdict stream most_commands))
  counted t u h i =
      let p = packing k.opening First k.commands in
      let q = packing k.opening Second k.commands in
      let one : t ≡ tally_of k.opening.stock p = h.model k.opening p k.records.first_is (lasts First) ∙ ap (λ (n : ℕ). tally_of n p) same_stock in
      let two : u ≡ tally_of k.opening.stock q = i.model k.opening q k.records.second_is (lasts Second) ∙ ap (λ (n : ℕ). tally_of n q) same_stock in
      ap (λ (x : Tally). tallies x u) one
      ∙ ap (tallies (tally_of k.opening.stock p)) two ∙ sym (ap after k.accepts)

pub opening_of-opening-requires : goal.opening_of-opening-requires
opening_of-opening-requires c =
    let r = c.in-Ok.ensures in
    shelved_opening (shelved r.result r.recorded)

pub count-first-requires : goal.count-first-requires
count-first-requires c =
    let r = c.in-Ok.ensures in
    first_countable (shelved r.result r.recorded) c.opening_of-opening.ensures

pub count-second-requires : goal.count-second-requires
count-second-requires c =
    let r = c.in-Ok.ensures in
    second_countable (shelved r.result r.recorded) c.opening_of-opening.ensures

pub returns-in-Ok : goal.returns-in-Ok
returns-in-Ok c =
    let r = c.in-Ok.ensures in
    counted (shelved r.result r.recorded) c.opening_of-opening.ensures _ _ c.count-first.ensures c.count-second.ensures

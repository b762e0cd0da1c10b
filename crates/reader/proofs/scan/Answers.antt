-- `scan` meets its contract: each way out is one of the ways that a walk over the commands can end, and each turn is a step of the walk.
use Rattle.std.proofs.Common.{◌≡◌, ℕ, ◌+◌, ◌-◌, ◌*◌, ◌≤◌, ◌<◌, List, [], ◌∷◌, ◌++◌, length, length-append, refl, sym, ap, ◌∙◌, arith}
use Rattle.std.proofs.Math.Nat.{mul_comm}
use Rattle.packing.specs.declared.{Opening.Opening}
use Rattle.packing.specs.Limits.{most_commands}
use Rattle.packing.proofs.Walking.{part_is, walk_start, walk_full, walk_faulty, walk_on, walk_end}
use Rattle.reader.specs.Reading.{summary}
use Rattle.reader.specs.Items.{item_length}
use Rattle.reader.proofs.Items.{walk_over}
use Rattle.reader.proofs.scan.Invariants.{Scanned}
use Rattle.reader.proofs.scan.Goals as goal

here : {o : Opening} {stream rest : List ℕ} {count : ℕ} (g : Scanned o stream rest count) → g.offset ≡ length stream - length rest
here g = omega (arith, g.walk.place)

pub loop-rest-init : goal.loop-rest-init
loop-rest-init c = record { past = []; offset = _; walk = walk_start _ _ _ c.requires.all c.behind_opening-rest.ensures; number = refl }

pub returns-then-commands-eq-MOST_COMMANDS : goal.returns-then-commands-eq-MOST_COMMANDS
returns-then-commands-eq-MOST_COMMANDS c =
    let g = c.loop-rest.invariant in
    rw (← here g) (sym (ap summary (walk_full g.walk (grind arith) (g.number ∙ c.if-commands-eq-MOST_COMMANDS.true))))

-- What the items take stands inside.
pub loop-rest-preserved-then-items-gt0 : goal.loop-rest-preserved-then-items-gt0
loop-rest-preserved-then-items-gt0 c =
    let g = c.loop-rest.invariant in
    let items = c.items_ahead-items.result in
    let used : items * c.item_length.result ≡ item_length * items = ap (λ k. items * k) c.item_length.ensures ∙ mul_comm items item_length in
    let inside : items * c.item_length.result ≤ length c.loop-rest.rest.now = omega (arith, used, c.items_ahead-items.ensures.inside) in
    let over = walk_over g.walk _ _ c.items_ahead-items.ensures (omega (arith, g.number, c.items_ahead-items.ensures.few, g.walk.few)) in
    record {
      past = over.past;
      offset = over.offset;
      walk = rw (part_is c.loop-rest.rest.now (items * c.item_length.result) inside, used) over.walk;
      number = omega (arith, over.number, g.number);
    }

pub returns-in-Err : goal.returns-in-Err
returns-in-Err c =
    let g = c.loop-rest.invariant in
    let more : length g.past < most_commands = omega (arith, g.number, g.walk.few, c.if-commands-eq-MOST_COMMANDS.false) in
    rw (← here g) (sym (ap summary (walk_faulty g.walk more (grind arith) _ (sym c.in-Err.ensures))))

pub loop-rest-preserved : goal.loop-rest-preserved
loop-rest-preserved c =
    let g = c.loop-rest.invariant in
    let front = c.in-Ok.front in
    let more : length g.past < most_commands = omega (arith, g.number, g.walk.few, c.if-commands-eq-MOST_COMMANDS.false) in
    record {
      past = g.past ++ front.command ∷ [];
      offset = g.offset + (front.width + 1);
      walk = walk_on g.walk more front.command front.width (sym c.in-Ok.ensures);
      number = omega (arith, g.number, length-append g.past (front.command ∷ []));
    }

pub returns : goal.returns
returns c =
    let g = c.loop-rest.invariant in
    rw (← g.number) (sym (ap summary (walk_end g.walk (grind arith))))

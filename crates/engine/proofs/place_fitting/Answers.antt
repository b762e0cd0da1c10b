-- `place_fitting` meets its contract: what is known of the item before the search, what the search has for it, and then each way out.
use Rattle.std.proofs.Common.{◌≡◌, ℕ, ◌+◌, ◌<◌, List, Option, Some, None, sym, ap, ◌∙◌, subst, arith}
use Rattle.packing.specs.SizeClasses.{size_class, number_of}
use Rattle.packing.specs.declared.Command.{Command}
use Rattle.packing.specs.declared.ItemReason.TheVariants.{StockSpent}
use Rattle.std.specs.Prelude.{if◌then◌else◌}
use Rattle.packing.specs.Bins.{Packing, stored}
use Rattle.packing.specs.Placing.{refusing, decision}
use Rattle.packing.specs.Looks.{height, fits}
use Rattle.packing.specs.Sending.{size_of, least_of, fault, item, item_of}
use Rattle.packing.specs.Run.{looks_to}
use Rattle.packing.proofs.Looks.{looks_by}
use Rattle.packing.proofs.Sending.{sent_some}
use Rattle.sending.proofs.Sent.{word_back}
use Rattle.aim.specs.declared.Counters.{Counters}
use Rattle.aim.specs.Aims.{trees_with}
use Rattle.aim.proofs.Aiming.{a_few, home_positive}
use Rattle.ledger.specs.declared.{Row.Row, Note.Note}
use Rattle.ledger.specs.Notes.{least_by}
use Rattle.ledger.proofs.Few.{few_held}
use Rattle.engine.specs.declared.{Terms.Terms, Spot.Spot, Offered.Offered}
use Rattle.engine.specs.Store.{Represents, Placeable}
use Rattle.engine.specs.Spots.{Offers}
use Rattle.engine.proofs.States.{state_of}
use Rattle.engine.proofs.Aimed.{Aimed, home_few}
use Rattle.engine.proofs.Spotted.{Says, says, looked}
use Rattle.engine.proofs.Ways.{refused_so, looks_so, done_refused, done_placed}
use Rattle.engine.proofs.place_fitting.Goals as goal

-- Before the search: the item and its tree.
module _ (terms : Terms) {number : ℕ} {command : Command} {t : List ℕ} {ledger : List Row} {notes : List Note} {k : Counters}
    (given : Placeable terms.opening terms.left terms.shape number command (state_of t ledger notes k)) {bare tree : ℕ} (asked : bare ≡ size_of command)
    (aim : tree ≡ number_of (trees_with k.b2) (size_class terms.opening.capacity (bare + terms.opening.trailer))) where
  sized : bare + terms.opening.trailer ≡ stored terms.opening (size_of command)
  sized = ap (λ (bare : ℕ). bare + terms.opening.trailer) asked

  -- The tree for the next B2 is that of the phase.
  aimed : Aimed terms.opening k (bare + terms.opening.trailer) tree
  aimed = record {
    some = omega (arith, sized, sent_some command given.sends given.faultless);
    fits = omega (arith, sized, given.fits);
    phase = given.ready.sound.phase;
    tree = aim ∙ ap (λ (b2 : ℕ). number_of (trees_with b2) (size_class terms.opening.capacity (bare + terms.opening.trailer))) given.ready.sound.b2;
  }

  module _ {offered : Offered} (found : Offers terms t k.opened tree (bare + terms.opening.trailer) offered) where
    -- What the search says of the item, by what it has for it.
    abbrev Said : Option Spot → Type 0
    Said =
        Says terms.opening terms.left terms.shape (state_of t ledger notes k) number (bare + terms.opening.trailer) (least_of terms.opening command)
        tree

    said : {spot : Option Spot} → offered.spot ≡ spot → Said spot
    said has =
        subst Said (sym found.spot_is ∙ has)
        (says aimed terms.left number (least_of terms.opening command) given.ready.left_few given.ready.sound)

    -- The looks are the model's: it passes the checks before 10.
    looks_are : (p : Packing) → Represents terms.opening (state_of t ledger notes k) p → offered.looks.count ≡ looks_to terms.opening p number command
    looks_are p r =
        let o = terms.opening in
        let least = least_of o command in
        found.counted ∙ looked aimed number least given.ready.sound p r
        ∙ ap {B = ℕ} (λ size. if fits o p (item number size least) then 1 + height o.stock else 1) sized
        ∙ looks_so o p number command given.sends (looks_by o p (item_of o number command) (fault command) given.faultless given.fits)

    -- It has none.
    spent : offered.spot ≡ None → (p : Packing) → Represents terms.opening (state_of t ledger notes k) p
        → decision terms.opening p (item_of terms.opening number command) terms.left (fault command) ≡ refusing StockSpent
    spent e p r =
        ap (λ size. decision terms.opening p (item number size (least_of terms.opening command)) terms.left (fault command)) (sym sized)
        ∙ said e p r (fault command) given.faultless

    -- It has a spot.
    few : {spot : Spot} → offered.spot ≡ Some spot → spot.place < 512
    few e = omega (arith, (said e).inside, given.ready.sound.index.forest.few)

pub returns-in_default : goal.returns-in_default
returns-in_default c =
    let at = c.size_of-size.ensures in
    let aim = c.tree_for-tree.ensures in
    let found = c.find_spot-offered.ensures in
    let none = spent c.args.terms c.requires at aim found c.in_default.is in
    rw c.refuse.ensures
    (done_refused c.requires.ready.sound
    (λ p r. refused_so c.args.terms.opening c.args.terms.left p c.args.number c.args.command c.requires.sends (none p r))
    (looks_are c.args.terms c.requires at aim found))

pub overflow_add-bin : goal.overflow_add-bin
overflow_add-bin c =
    omega (arith, few c.args.terms c.requires c.size_of-size.ensures c.tree_for-tree.ensures c.find_spot-offered.ensures c.in-Some.is)

pub overflow_cast-bin : goal.overflow_cast-bin
overflow_cast-bin c =
    omega (arith, few c.args.terms c.requires c.size_of-size.ensures c.tree_for-tree.ensures c.find_spot-offered.ensures c.in-Some.is)

pub enter-row-requires : goal.enter-row-requires
enter-row-requires c =
    let inside = few c.args.terms c.requires c.size_of-size.ensures c.tree_for-tree.ensures c.find_spot-offered.ensures c.in-Some.is in
    let before = c.requires.ready.sound.represents in
    let row = few_held before.records c.in-Some.spot.place inside in
    record {
      inside = inside;
      held_few = omega (arith, row.held, before.items, c.requires.ready.room);
      held_a_few = omega (arith, row.a_held, before.items, c.requires.ready.room, c.a_for-a.ensures, a_few c.tree_for-tree.result);
    }

pub overflow_cast-lies : goal.overflow_cast-lies
overflow_cast-lies c =
    omega (arith, few c.args.terms c.requires c.size_of-size.ensures c.tree_for-tree.ensures c.find_spot-offered.ensures c.in-Some.is)

pub show-requires : goal.show-requires
show-requires c =
    let at = c.size_of-size.ensures in
    let aim = c.tree_for-tree.ensures in
    let class : c.enter-row.result.class ≡ c.home_of-class.result = ap (λ (row : Row). row.class) c.enter-row.ensures.row_is in
    record {
      forest = c.requires.ready.sound.index.forest;
      inside = (said c.args.terms c.requires at aim c.find_spot-offered.ensures c.in-Some.is).inside;
      classed = omega (arith, class, c.home_of-class.ensures, home_positive c.tree_for-tree.result);
      class_few = omega (arith, class, c.home_of-class.ensures, home_few (aimed c.args.terms c.requires at aim));
    }

pub returns : goal.returns
returns c =
    let at = c.size_of-size.ensures in
    let aim = c.tree_for-tree.ensures in
    let found = c.find_spot-offered.ensures in
    let o = c.args.terms.opening in
    let command = c.args.command in
    let faultless = c.requires.faultless in
    rw (c.give.ensures, c.accept-next.ensures)
    (done_placed command c.requires.sends faultless (sized c.args.terms c.requires at aim) (aimed c.args.terms c.requires at aim) _
    (ap least_by c.least_word-least.ensures ∙ word_back o command faultless) (rw (c.home_of-class.ensures, c.a_for-a.ensures) at c.enter-row.ensures)
    c.show.ensures (few c.args.terms c.requires at aim found c.in-Some.is) _ _ c.requires.ready
    (said c.args.terms c.requires at aim found c.in-Some.is) (looks_are c.args.terms c.requires at aim found))

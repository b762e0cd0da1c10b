-- What the search says of the tree, and then each way out.
use Rattle.std.proofs.Common.{sym, ap, ◌∙◌, ℕ, arith}
use Rattle.tournament.specs.Trees.{leaves}
use Rattle.tournament.specs.LowestFit.{lowest_fit}
use Rattle.repack.proofs.Placing.{into_found, into_new, found_inside, found_enough}
use Rattle.repack.proofs.place.Goals as goal

pub value-space-requires-clause-inside : goal.value-space-requires-clause-inside
value-space-requires-clause-inside c = found_inside c.requires.shows _ c.search-searched.ensures.found c.in-Some.is

pub overflow_sub-free : goal.overflow_sub-free
overflow_sub-free c = omega (arith, c.value-space.ensures, found_enough c.requires.shows _ c.search-searched.ensures.found c.in-Some.is)

pub renew-requires-clause-inside : goal.renew-requires-clause-inside
renew-requires-clause-inside c = found_inside c.requires.shows _ c.search-searched.ensures.found c.in-Some.is

pub overflow_add-result : goal.overflow_add-result
overflow_add-result c = omega (arith, found_inside c.requires.shows _ c.search-searched.ensures.found c.in-Some.is, c.requires.places_few)

pub returns-in-Some : goal.returns-in-Some
returns-in-Some c = λ p i s e.
    into_found _ i s (omega (arith, e, c.requires.some)) (omega (arith, e, c.requires.fits)) _ _
    (ap (λ (n : ℕ). lowest_fit n (leaves c.args.tree.now 0 c.args.shape.places)) e ∙ sym c.search-searched.ensures.found ∙ c.in-Some.is)
    (rw (e, ← c.value-space.ensures) c.renew.ensures)

pub returns-in-None : goal.returns-in-None
returns-in-None c = λ p i s e.
    into_new _ i s (omega (arith, e, c.requires.some)) (omega (arith, e, c.requires.fits)) _
    (ap (λ (n : ℕ). lowest_fit n (leaves c.args.tree.now 0 c.args.shape.places)) e ∙ sym c.search-searched.ensures.found ∙ c.in-None.is)
    c.requires.room (rw e c.raise.ensures)

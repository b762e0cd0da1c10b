-- `find_spot` meets its contract: what the search says of the tree.
use Rattle.std.proofs.Common.{◌≡◌, ℕ, List, Option, Some, sym, ◌∙◌, subst, arith}
use Rattle.tournament.specs.LowestFit.{lowest_fit}
use Rattle.tournament.proofs.Fits.{Lowest, Meaning, meaning}
use Rattle.index.proofs.Forests.{leaf_count}
use Rattle.engine.proofs.find_spot.Goals as goal

-- What is known of the place that was found.
lowest : (need : ℕ) (vs : List ℕ) {f : Option ℕ} {i : ℕ} → f ≡ lowest_fit need vs → f ≡ Some i → Lowest need vs i
lowest need vs e q = subst (Meaning need vs) (sym e ∙ q) (meaning need vs)

pub search-searched-requires-clause-tree : goal.search-searched-requires-clause-tree
search-searched-requires-clause-tree c = c.requires.forest.tree c.args.tree c.requires.tree

pub value-space-requires-clause-tree : goal.value-space-requires-clause-tree
value-space-requires-clause-tree c = c.requires.forest.tree c.args.tree c.requires.tree

pub value-space-requires-clause-inside : goal.value-space-requires-clause-inside
value-space-requires-clause-inside c =
    omega (
      arith,
      (lowest _ _ c.search-searched.ensures.found c.in-Some.is).inside,
      leaf_count c.requires.forest c.args.tree c.requires.tree,
    )

pub overflow_sub-free : goal.overflow_sub-free
overflow_sub-free c = omega (arith, c.value-space.ensures, (lowest _ _ c.search-searched.ensures.found c.in-Some.is).enough)

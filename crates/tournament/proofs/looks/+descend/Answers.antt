-- One level of the descent: the look is at the left child, and the descent goes on below the child that it chose.
use Rattle.std.proofs.Common.{◌≡◌, ◌∙◌, sym, ap, cond, ℕ, ◌+◌, ◌*◌, leb, arith}
use Rattle.tournament.specs.Trees.{node}
use Rattle.tournament.proofs.Halves.{level, word_below}
use Rattle.tournament.proofs.looks.+descend.Goals as goal

pub look-largest-requires-clause-inside : goal.look-largest-requires-clause-inside
look-largest-requires-clause-inside t c = omega (arith, (level c.if-height-eq0.false c.requires.descent).inside)

pub descend-requires : goal.descend-requires
descend-requires t c =
    let child : c.nearest-child.result ≡ cond (leb c.args.need (node c.args.t.now c.args.base (2 * c.args.n))) (2 * c.args.n) (2 * c.args.n + 1) = cc in
    let next : c.nearest-next.result ≡ c.args.base + 2 * c.nearest-child.result =
    c.nearest-next.ensures
    ∙ word_below (leb c.args.need c.look-largest.result) c.args.base (2 * c.args.n) (2 * c.args.n + 1)
    ∙ ap (λ (x : ℕ). c.args.base + 2 * x) (sym c.nearest-child.ensures) in
    (omega arith, (rw child (level c.if-height-eq0.false c.requires.descent).down, (next, omega arith)))

pub returns : goal.returns
returns t c =
    let child : c.nearest-child.result ≡ cond (leb c.args.need (node c.args.t.now c.args.base (2 * c.args.n))) (2 * c.args.n) (2 * c.args.n + 1) = cc in
    record {
      first = (level c.if-height-eq0.false c.requires.descent).up _ (rw child at c.descend.ensures.first);
      counted = omega arith;
    }

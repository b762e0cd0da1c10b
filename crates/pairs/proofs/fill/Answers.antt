-- Both rows are sorted, the answers cleared, and the pairs made.
use Rattle.std.proofs.Common.{◌≡◌, ap, ◌∙◌, ◌++◌, length, take, drop, replicate}
use Rattle.std.proofs.Math.Seq.{length-take-le}
use Rattle.pairs.proofs.Filling.{pictures_limits, sounds_limits, walked_answers}
use Rattle.pairs.proofs.fill.Goals as goal

pub sort_sizes-requires-clause-sizes : goal.sort_sizes-requires-clause-sizes
sort_sizes-requires-clause-sizes c = pictures_limits _ _ c.args.sounds.now c.args.answers.now c.requires

pub sort_sizes-requires-2-clause-sizes : goal.sort_sizes-requires-2-clause-sizes
sort_sizes-requires-2-clause-sizes c = sounds_limits _ c.args.pictures.now _ c.args.answers.now c.requires

pub returns-clause-answers : goal.returns-clause-answers
returns-clause-answers c =
    let cleared = c.fill.ensures.after (λ y e. e) in
    let front : length (take (length c.args.pictures.now) c.args.answers.now) ≡ length c.args.pictures.now =
    length-take-le _ _ c.requires.words_enough in
    walked_answers _ _ _ _ c.requires _ _ c.sort_sizes.ensures.sorted c.sort_sizes-2.ensures.sorted _
    (ap (λ l. l ++ drop (length c.args.pictures.now) c.args.answers.now) (cleared ∙ ap (λ n. replicate n 0) front)) _ _ c.walk.ensures

-- The words are sorted and packed.
use Rattle.repack.proofs.Filling.{row_limits, sorted_packable, packed_count, packed_answers}
use Rattle.repack.proofs.fill.Goals as goal

pub sort_sizes-requires-clause-sizes : goal.sort_sizes-requires-clause-sizes
sort_sizes-requires-clause-sizes c = row_limits _ _ c.args.answers.now c.requires

pub pack-requires : goal.pack-requires
pack-requires c = sorted_packable _ _ _ c.requires c.sort_sizes.ensures.sorted

pub returns-clause-count : goal.returns-clause-count
returns-clause-count c = packed_count _ _ _ c.requires c.sort_sizes.ensures.sorted c.pack.ensures

pub returns-clause-answers : goal.returns-clause-answers
returns-clause-answers c = packed_answers _ _ _ c.requires c.sort_sizes.ensures.sorted c.pack.ensures

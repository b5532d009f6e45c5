use Rattle.pulsar_laws.proofs.batches.Cut.{cut_by_its_options_lem, cut_by_limits_lem, sizes_are_said_lem}
use Rattle.pulsar_laws.proofs.batches.batches_are_cut.Goals as goal

pub returns-clause-sizes : goal.returns-clause-sizes
returns-clause-sizes c = sizes_are_said_lem

pub returns-clause-limits : goal.returns-clause-limits
returns-clause-limits c = λ s h d b is. cut_by_limits_lem s h d b is

pub returns-clause-options : goal.returns-clause-options
returns-clause-options c = λ o log n row d b run h is. cut_by_its_options_lem o log n row d b run h is

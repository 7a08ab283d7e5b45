use Rattle.std.proofs.Common.{arith}
use Rattle.figures.proofs.Ceilings.{Bounded, bounded}
use Rattle.figures.proofs.checked.Figures.ceiling.Goals as goal

most : (c : goal.After-from-trying_period) → Bounded c.from-workers.result c.from-holds.result c.from-live.result c.from-taking_period.result c.from-trying_period.result
most c = bounded _ _ _ _ _ (omega arith) (omega arith) (omega arith) (omega arith) (omega arith)

pub overflow_mul-result-3 : goal.overflow_mul-result-3
overflow_mul-result-3 c = omega (arith, (most c).places)

pub overflow_mul-result-5 : goal.overflow_mul-result-5
overflow_mul-result-5 c = omega (arith, (most c).retired)

pub returns-clause-bound : goal.returns-clause-bound
returns-clause-bound c = (most c).retired

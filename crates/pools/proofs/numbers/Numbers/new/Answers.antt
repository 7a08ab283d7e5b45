use Rattle.std.proofs.Common.{arith, rules}
use Rattle.pools.proofs.Fills.{filled}
use Rattle.pools.proofs.numbers.Numbers.new.Goals as goal

pub invariant_of-result : goal.invariant_of-result
invariant_of-result c = filled c.args.size c.fill.new.self (omega arith) (search rules)

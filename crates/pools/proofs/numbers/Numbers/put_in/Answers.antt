use Rattle.std.proofs.Common.{true}
use lib.Seq.{take-set-lt}
use Rattle.pools.proofs.numbers.Numbers.put_in.Goals as goal

pub returns-clause-leaves : goal.returns-clause-leaves
returns-clause-leaves c = rw (← c.self.view_is) (take-set-lt c.self.inside.size c.self.inside.ins c.args.number true c.if-number-self.false)

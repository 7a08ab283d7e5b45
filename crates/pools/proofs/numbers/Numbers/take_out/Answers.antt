use Rattle.std.proofs.Common.{ap, false, length, arith, length-take-le, ◌<◌}
use lib.Seq.{take-set-lt}
use Rattle.pools.proofs.numbers.Numbers.take_out.Goals as goal

pub returns : goal.returns
returns c =
    let n = c.self.inside in
    let long = ap length c.self.view_is in
    let low : c.args.number < n.size = omega (arith, length-take-le n.size n.ins) in
    rw (← c.self.view_is) (take-set-lt n.size n.ins c.args.number false low)

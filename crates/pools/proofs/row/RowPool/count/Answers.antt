use Rattle.std.proofs.Common.{arith}
use Rattle.pools.proofs.Rings.{length_ringed}
use Rattle.pools.proofs.row.RowPool.count.Goals as goal

pub returns : goal.returns
returns c =
    let s = c.args.self.now in
    omega (arith, length_ringed s.spots s.head s.held, s.listed.0)

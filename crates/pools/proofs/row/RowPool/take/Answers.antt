use Rattle.std.proofs.Common.{refl, arith}
use Rattle.pools.proofs.Moves.{took}
use Rattle.pools.proofs.Rings.{ring_more}
use Rattle.pools.proofs.row.RowPool.take.Goals as goal

pub take_out-requires : goal.take_out-requires
take_out-requires c =
    let s = c.args.self.now in
    (took s.numbers _ _ _ _ (ring_more s.spots s.head s.held (omega arith) (omega arith)) s.listed refl).low

pub invariant_of-self-clause-listed : goal.invariant_of-self-clause-listed
invariant_of-self-clause-listed c =
    let s = c.args.self.now in
    (took s.numbers _ _ _ _ (ring_more s.spots s.head s.held (omega arith) (omega arith)) s.listed c.take_out.ensures).listed

pub returns-clause-order : goal.returns-clause-order
returns-clause-order c =
    let s = c.args.self.now in
    ring_more s.spots s.head s.held (omega arith) (omega arith)

use Rattle.std.proofs.Common.{refl, arith}
use Rattle.pools.proofs.Moves.{took}
use Rattle.pools.proofs.Stacks.{stack_more}
use Rattle.pools.proofs.stack.StackPool.take.Goals as goal

pub take_out-requires : goal.take_out-requires
take_out-requires c =
    let s = c.args.self.now in
    (took s.numbers _ _ _ _ (stack_more _ s.top s.spots (omega arith) (omega arith)) s.listed refl).low

pub invariant_of-self-clause-listed : goal.invariant_of-self-clause-listed
invariant_of-self-clause-listed c =
    let s = c.args.self.now in
    let did = took s.numbers _ _ _ _ (stack_more _ s.top s.spots (omega arith) (omega arith)) s.listed c.take_out.ensures in
    rw (← did.long) at did.listed

use Rattle.std.proofs.Common.{arith}
use Rattle.pools.proofs.Moves.{gave}
use Rattle.pools.proofs.Stacks.{stack_room, stack_put}
use Rattle.pools.proofs.stack.StackPool.give.Goals as goal

pub overflow_sub-self : goal.overflow_sub-self
overflow_sub-self c =
    let s = c.args.self.now in
    let put = c.in_ok-put_in.ensures in
    stack_room _ s.top s.spots (omega arith) (gave s.numbers _ _ c.args.number put.answer put.leaves s.listed).room

pub invariant_of-self-2-clause-listed : goal.invariant_of-self-2-clause-listed
invariant_of-self-2-clause-listed c =
    let s = c.args.self.now in
    let put = c.in_ok-put_in.ensures in
    let did = gave s.numbers _ _ c.args.number put.answer put.leaves s.listed in
    rw did.long (did.front _ (stack_put _ s.top s.spots _ (omega arith) (omega arith) did.room))

pub returns-clause-order : goal.returns-clause-order
returns-clause-order c =
    let s = c.args.self.now in
    let put = c.in_ok-put_in.ensures in
    let did = gave s.numbers _ _ c.args.number put.answer put.leaves s.listed in
    rw did.long (stack_put _ s.top s.spots _ (omega arith) (omega arith) did.room)

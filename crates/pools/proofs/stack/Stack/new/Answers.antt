use Rattle.std.proofs.Common.{arith}
use Rattle.pools.specs.OrdersLemmas.{listed_fresh}
use Rattle.pools.proofs.Stacks.{stack_fresh}
use Rattle.pools.proofs.stack.Stack.new.Goals as goal

pub invariant_of-result-clause-listed : goal.invariant_of-result-clause-listed
invariant_of-result-clause-listed c =
    let made = c.in_ok-new.ensures in
    listed_fresh c.args.size _ _ (stack_fresh c.args.size _ c.own_places.result (omega (arith, made.0)) (omega arith) made.1 c.own_places.ensures) made.1

pub returns : goal.returns
returns c =
    let made = c.in_ok-new.ensures in
    (made.0, made.1, stack_fresh c.args.size _ c.own_places.result (omega (arith, made.0)) (omega arith) made.1 c.own_places.ensures)

use Rattle.std.proofs.Common.{arith}
use Rattle.pools.specs.OrdersLemmas.{listed_fresh}
use Rattle.pools.proofs.Rings.{ring_fresh}
use Rattle.pools.proofs.row.Row.new.Goals as goal

pub invariant_of-result-clause-listed : goal.invariant_of-result-clause-listed
invariant_of-result-clause-listed c =
    let made = c.in_ok-new.ensures in
    listed_fresh c.args.size _ _ (ring_fresh c.own_places.result 0 c.args.size c.own_places.ensures (omega (arith, made.0))) made.1

pub returns : goal.returns
returns c =
    let made = c.in_ok-new.ensures in
    (made.0, made.1, ring_fresh c.own_places.result 0 c.args.size c.own_places.ensures (omega (arith, made.0)))

use Rattle.std.proofs.Common.{arith}
use Rattle.pools.proofs.Moves.{gave}
use Rattle.pools.proofs.Rings.{length_ringed, ring_put}
use Rattle.pools.proofs.row.RowPool.give.Goals as goal

pub invariant_of-self-2 : goal.invariant_of-self-2
invariant_of-self-2 c =
    let s = c.args.self.now in
    let put = c.in_ok-put_in.ensures in
    let did = gave s.numbers _ _ c.args.number put.answer put.leaves s.listed in
    let room = did.room in
    let many = length_ringed s.spots s.head s.held in
    record { fits = omega (arith, did.long); listed = did.back _ (ring_put s.spots s.head s.held _ (omega arith) (omega arith)) }

pub returns-clause-order : goal.returns-clause-order
returns-clause-order c =
    let s = c.args.self.now in
    let put = c.in_ok-put_in.ensures in
    let did = gave s.numbers _ _ c.args.number put.answer put.leaves s.listed in
    ring_put s.spots s.head s.held _ (omega arith) (omega (arith, did.room, length_ringed s.spots s.head s.held))

use Rattle.keeper.proofs.Walks.{look_walks, drop_walks}
use Rattle.keeper.proofs.tables.Tables.step.Goals as goal

pub returns-in-LookWalk-default : goal.returns-in-LookWalk-default
returns-in-LookWalk-default g c =
    look_walks c.args.self.now.core _ _ c.args.worker.number _ _ _ _ _ _ _ _ c.in-LookWalk-default.is-0 c.id-in-LookWalk-default.ensures c.id-in-LookWalk-default-2.ensures c.id-in-LookWalk-default-3.ensures c.look_walk.ensures

pub returns-in-DropWalk-default : goal.returns-in-DropWalk-default
returns-in-DropWalk-default g c =
    drop_walks c.args.self.now.core _ _ c.args.worker.number _ _ _ _ _ _ c.in-DropWalk-default.is-0 c.id-in-DropWalk-default.ensures c.id-in-DropWalk-default-2.ensures c.drop_walk.ensures

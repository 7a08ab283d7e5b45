use Rattle.keeper.proofs.GivenBack.{handle_comes}
use Rattle.keeper.proofs.tables.Tables.handle.Goals as goal

pub returns : goal.returns
returns g c =
    let k = c.args.self.now.core in
    let pool = c.args.pool.now in
    let gave = c.give_due-given.ensures in
    handle_comes k c.args.worker.number c.args.block.number c.args.on (g.P.Pool.inside pool) (g.P.Pool.next pool) _ _ _ _ _ _ _
    c.id-lead.ensures c.saturating_sub-count.ensures c.put_block.ensures gave.core gave.pool gave.number c.put_task.ensures

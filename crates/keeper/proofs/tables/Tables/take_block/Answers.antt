use Rattle.machine.specs.State.{block}
use Rattle.keeper.proofs.FitsRows.{taken_fits}
use Rattle.keeper.proofs.tables.Tables.take_block.Goals as goal

pub put_block-requires : goal.put_block-requires
put_block-requires g c =
    let s = c.put_task.new.self in
    let b = c.in_ok-block.block in
    taken_fits (block s.core b) (s.blocks b) s.core.era c.args.worker.number

use Rattle.machine.specs.State.{block}
use Rattle.keeper.proofs.FitsRows.{link_fits}
use Rattle.keeper.proofs.tables.Tables.put_link.Goals as goal

pub put_block-requires : goal.put_block-requires
put_block-requires c =
    let s = c.args.self.now in
    let b = c.args.block.number in
    link_fits (block s.core b) (s.blocks b) c.args.link.number c.args.to.block c.args.to.fits

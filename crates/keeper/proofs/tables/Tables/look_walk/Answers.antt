use Rattle.std.proofs.Common.{◌≡◌, true, sym, subst}
use Rattle.machine.specs.State.{block}
use Rattle.keeper.specs.Fits.{task_fits}
use Rattle.keeper.proofs.InRange.{block_ranges}
use Rattle.keeper.proofs.FitsTasks.{look_on_fits}
use Rattle.keeper.proofs.tables.Tables.look_walk.Goals as goal

pub handle-requires : goal.handle-requires
handle-requires g c =
    let s = c.args.self.now in
    let b = c.args.next.number in
    let row = block s.core b in
    subst (λ t. task_fits t ≡ true) (sym c.look_on-on.ensures) (look_on_fits c.args.hold.number c.args.cell.number row.under c.args.hold.fits c.args.cell.fits (block_ranges row (s.blocks b)).2)

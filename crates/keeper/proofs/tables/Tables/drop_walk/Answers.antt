use Rattle.std.proofs.Common.{◌≡◌, true, sym, subst}
use Rattle.machine.specs.State.{block}
use Rattle.keeper.specs.Fits.{task_fits}
use Rattle.keeper.proofs.InRange.{block_ranges}
use Rattle.keeper.proofs.FitsTasks.{drop_on_fits}
use Rattle.keeper.proofs.tables.Tables.drop_walk.Goals as goal

pub handle-requires : goal.handle-requires
handle-requires g c =
    let s = c.args.self.now in
    let b = c.args.next.number in
    let row = block s.core b in
    subst (λ t. task_fits t ≡ true) (sym c.drop_on.ensures) (drop_on_fits c.args.hold.number row.under c.args.hold.fits (block_ranges row (s.blocks b)).2)

use Rattle.std.proofs.Common.{sym, ◌∙◌, subst}
use Rattle.keeper.specs.Fits.{Fits}
use Rattle.keeper.proofs.FreshFits.{fresh_fits}
use Rattle.keeper.proofs.keepers.Keeper.make.Goals as goal

pub invariant_of-tables : goal.invariant_of-tables
invariant_of-tables g c =
    let f = subst Fits (sym c.fresh.ensures) (fresh_fits c.args.form (sym c.fits.ensures ∙ c.if-not-fits.false)) in
    record { figures = f.figures; takings = f.takings; tasks = f.tasks; batches = f.batches; lists = f.lists; blocks = f.blocks; anchors = f.anchors }

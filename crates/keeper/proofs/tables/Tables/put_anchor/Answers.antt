use Rattle.std.proofs.Common.{◌≡◌, true, None}
use Rattle.machine.proofs.Stores.{set_keeps}
use Rattle.keeper.specs.Fits.{number_fits}
use Rattle.keeper.proofs.tables.Tables.put_anchor.Goals as goal

pub invariant_of-self-clause-anchors : goal.invariant_of-self-clause-anchors
invariant_of-self-clause-anchors c =
    let s = c.args.self.now in
    set_keeps (λ x. number_fits x ≡ true) None s.core.anchors c.args.anchor.number c.args.to.block s.anchors c.args.to.fits

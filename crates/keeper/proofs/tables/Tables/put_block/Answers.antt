use Rattle.std.proofs.Common.{◌≡◌, true}
use Rattle.machine.specs.State.{blank_block}
use Rattle.machine.proofs.Stores.{set_keeps}
use Rattle.keeper.specs.Fits.{block_fits}
use Rattle.keeper.proofs.tables.Tables.put_block.Goals as goal

pub invariant_of-self-clause-blocks : goal.invariant_of-self-clause-blocks
invariant_of-self-clause-blocks c =
    let s = c.args.self.now in
    set_keeps (λ x. block_fits x ≡ true) blank_block s.core.blocks.rows c.args.block.number c.args.row s.blocks c.requires

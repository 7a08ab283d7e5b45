use Rattle.std.proofs.Common.{◌≡◌, ℕ, true, slice_index_or, sym, subst}
use Rattle.machine.specs.declared.states.BlockTable.{BlockTable}
use Rattle.machine.specs.State.{blank_block, block, worker}
use Rattle.machine.specs.Calls.{retired_block}
use Rattle.machine.proofs.Stores.{set_keeps}
use Rattle.keeper.specs.Fits.{block_fits}
use Rattle.keeper.proofs.FitsRows.{retired_fits}
use Rattle.keeper.proofs.tables.Tables.withdraw.Goals as goal

pub invariant_of-self-clause-blocks : goal.invariant_of-self-clause-blocks
invariant_of-self-clause-blocks c =
    let s = c.args.self.now in
    let less = c.name_less-2.new.self in
    let b = c.args.block.number in
    let own = (worker s.core c.args.worker.number).batch in
    let row = retired_block (block less.core b) own c.args.batch.lead in
    let fits = retired_fits (block less.core b) (less.blocks b) own c.args.batch (s.batches c.args.worker.number) c.requires in
    subst (λ (t : BlockTable). (b : ℕ) → block_fits (slice_index_or t.rows b blank_block) ≡ true) (sym c.retire.ensures)
    (set_keeps (λ x. block_fits x ≡ true) blank_block less.core.blocks.rows b row less.blocks fits)

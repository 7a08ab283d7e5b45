use Rattle.std.proofs.Common.{◌≡◌, ℕ, ◌+◌, ◌-◌, ◌≤◌, true, ◌∙◌, subst, arith}
use Rattle.machine.specs.State.{block}
use Rattle.keeper.specs.Fits.{batch_fits}
use Rattle.keeper.proofs.InRange.{batch_ranges}
use Rattle.keeper.proofs.FitsRows.{recounted_fits}
use Rattle.keeper.proofs.GivenBack.{settle_comes}
use Rattle.keeper.proofs.tables.Tables.last.Goals as goal

less : (count hung : ℕ) → hung ≤ 32 → count - (1024 - hung) ≡ count + hung - 1024
less count hung h = omega arith

pub put_block-requires : goal.put_block-requires
put_block-requires g c =
    let s = c.args.self.now in
    let batch = c.in-Some.batch in
    let own = batch_ranges batch (subst (λ o. batch_fits o ≡ true) c.in-Some.is (s.batches c.args.worker.number)) in
    recounted_fits (block s.core batch.lead) (s.blocks batch.lead) c.saturating_sub-count.result batch.newest own.1

pub put_worker-requires-clause-takings : goal.put_worker-requires-clause-takings
put_worker-requires-clause-takings g c = c.give_due-given.new.self.takings c.args.worker.number

pub returns : goal.returns
returns g c =
    let k = c.args.self.now.core in
    let pool = c.args.pool.now in
    let batch = c.in-Some.batch in
    let gave = c.give_due-given.ensures in
    settle_comes k c.args.worker.number c.args.hung batch _ (g.P.Pool.inside pool) (g.P.Pool.next pool) _ _ _ _ _ _ _ c.in-Some.is
    c.id-lead.ensures (c.saturating_sub-count.ensures ∙ less (block k batch.lead).count c.args.hung c.requires) c.put_block.ensures gave.core gave.pool gave.number c.put_worker.ensures

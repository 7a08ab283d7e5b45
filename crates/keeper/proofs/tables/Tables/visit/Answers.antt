use Rattle.std.proofs.Common.{◌≡◌, ◌+◌, true, subst, sym, arith}
use Rattle.machine.specs.State.{block}
use Rattle.keeper.specs.Fits.{task_fits, batch_fits}
use Rattle.keeper.proofs.FitsRows.{slot_fits}
use Rattle.keeper.proofs.FitsTasks.{visited_fits, after_low}
use Rattle.keeper.proofs.tables.Tables.visit.Goals as goal

pub put_block-requires : goal.put_block-requires
put_block-requires c =
    let s = c.args.self.now in
    let b = c.args.next.number in
    slot_fits (block s.core b) (s.blocks b) c.args.place.number c.args.place.fits

pub go_on-requires : goal.go_on-requires
go_on-requires c =
    let s = c.args.self.now in
    let own = subst (λ o. batch_fits o ≡ true) c.in-Some.is (s.batches c.args.worker.number) in
    let few = c.requires in
    subst (λ t. task_fits t ≡ true) (sym c.visited-task.ensures)
    (visited_fits s.core c.in-Some.batch c.args.place.number c.args.next.number c.args.aside s.figures own c.args.place.fits c.args.next.fits (omega arith))

pub go_on-requires-2 : goal.go_on-requires-2
go_on-requires-2 c =
    let s = c.args.self.now in
    let own = subst (λ o. batch_fits o ≡ true) c.in-Some.is (s.batches c.args.worker.number) in
    let b = c.args.next.number in
    let low = after_low s.core c.in-Some.batch b own (s.blocks b) in
    let few = c.requires in
    let same = c.block_after-after.ensures in
    subst (λ t. task_fits t ≡ true) (sym c.visited-task-2.ensures)
    (visited_fits s.core c.in-Some.batch c.args.place.number c.block_after-after.result (c.args.aside + 1) s.figures own c.args.place.fits (omega arith) (omega arith))

use Rattle.std.proofs.Common.{◌≡◌, ◌+◌, true, sym, subst, arith, rules}
use Rattle.machine.specs.State.{block}
use Rattle.keeper.specs.Fits.{number_fits, task_fits, batch_fits}
use Rattle.keeper.proofs.InRange.{block_ranges}
use Rattle.keeper.proofs.FitsRows.{under_fits}
use Rattle.keeper.proofs.FitsTasks.{hanged_fits}
use Rattle.keeper.proofs.tables.Tables.hang.Goals.{in-Empty, in-Newest}
use Rattle.keeper.proofs.tables.Tables.hang.Goals as goal

pub go_on-requires : goal.go_on-requires
go_on-requires c =
    let s = c.args.self.now in
    let b = c.args.block.number in
    let own = subst (λ o. batch_fits o ≡ true) c.in-Some.is (s.batches c.args.worker.number) in
    subst (λ t. task_fits t ≡ true) (sym c.hanged-task.ensures)
    (hanged_fits s.core c.in-Some.batch b c.args.left c.args.hung c.args.hung own (s.blocks b) c.requires.task (omega arith))

pub go_on-requires-2 : goal.go_on-requires-2
go_on-requires-2 c =
    let s = c.args.self.now in
    let b = c.args.block.number in
    let own = subst (λ o. batch_fits o ≡ true) c.in-Some.is (s.batches c.args.worker.number) in
    subst (λ t. task_fits t ≡ true) (sym c.hanged-task-2.ensures)
    (hanged_fits s.core c.in-Some.batch b c.args.left c.args.hung (c.args.hung + 1) own (s.blocks b) c.requires.task (omega arith))

pub bounds-self-row : goal.bounds-self-row
bounds-self-row c =
    let s = c.args.self.now in
    let b = c.args.block.number in
    (block_ranges (block s.core b) (s.blocks b)).4

pub put_block-requires : goal.put_block-requires
put_block-requires c =
    let s = c.args.self.now in
    let b = c.args.block.number in
    let low : number_fits c.match-list.under ≡ true = elim c.match-list.branch [ in-Empty w ↦ search rules | in-Newest w ↦ search rules ] in
    under_fits (block s.core b) (s.blocks b) c.match-list.under low

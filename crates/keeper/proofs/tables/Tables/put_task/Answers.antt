use Rattle.std.proofs.Common.{◌≡◌, true, nat_lt}
use Rattle.machine.specs.declared.states.Worker.{Worker}
use Rattle.machine.specs.State.{blank_worker}
use Rattle.machine.proofs.Stores.{set_keeps}
use Rattle.keeper.specs.Fits.{task_fits, batch_fits}
use Rattle.keeper.proofs.tables.Tables.put_task.Goals as goal

pub invariant_of-self-clause-takings : goal.invariant_of-self-clause-takings
invariant_of-self-clause-takings c =
    let s = c.args.self.now in
    let own = c.args.worker.number in
    set_keeps (λ (x : Worker). nat_lt x.takings s.core.form.taking_period ≡ true) blank_worker s.core.workers own _ s.takings (s.takings own)

pub invariant_of-self-clause-tasks : goal.invariant_of-self-clause-tasks
invariant_of-self-clause-tasks c =
    let s = c.args.self.now in
    set_keeps (λ (x : Worker). task_fits x.task ≡ true) blank_worker s.core.workers c.args.worker.number _ s.tasks c.requires

pub invariant_of-self-clause-batches : goal.invariant_of-self-clause-batches
invariant_of-self-clause-batches c =
    let s = c.args.self.now in
    let own = c.args.worker.number in
    set_keeps (λ (x : Worker). batch_fits x.batch ≡ true) blank_worker s.core.workers own _ s.batches (s.batches own)

-- That a keeper's numbers fit at the making.
use Rattle.std.proofs.Common.{◌≡◌, ℕ, true, ltb, None, Option, refl, arith}
use Rattle.std.proofs.lemmas.Bool.Decides.{nat_tests}
use Rattle.figures.specs.declared.limits.Form.{Form}
use Rattle.machine.specs.declared.states.Block.{Block}
use Rattle.machine.specs.declared.states.Reservation.{Reservation}
use Rattle.machine.specs.declared.states.Worker.{Worker}
use Rattle.machine.specs.State.{fresh, blank_block, fresh_block, blank_worker, fresh_worker, fresh_reservation}
use Rattle.machine.specs.Machine.{all_fit}
use Rattle.machine.proofs.Stores.{replicate_all}
use Rattle.keeper.specs.Fits.{number_fits, task_fits, batch_fits, list_fits, block_fits, Fits}
use Rattle.keeper.proofs.FiguresFit.{form_fit}

pub fresh_fits : (form : Form) → all_fit form ≡ true → Fits (fresh form)
fresh_fits form e =
    let fit = form_fit form e in
    let some = fit.4.0 in
    record {
      figures = e;
      takings = replicate_all (λ (y : Worker). ltb y.takings form.taking_period ≡ true) blank_worker fresh_worker 8 (grind (arith, nat_tests, some)) (grind (arith, nat_tests, some));
      tasks = replicate_all (λ (y : Worker). task_fits y.task ≡ true) blank_worker fresh_worker 8 refl refl;
      batches = replicate_all (λ (y : Worker). batch_fits y.batch ≡ true) blank_worker fresh_worker 8 refl refl;
      lists = replicate_all (λ (y : Reservation). list_fits y.list ≡ true) fresh_reservation fresh_reservation 32 refl refl;
      blocks = replicate_all (λ (y : Block). block_fits y ≡ true) blank_block fresh_block 2048 refl refl;
      anchors = replicate_all (λ (y : Option ℕ). number_fits y ≡ true) None None 16 refl refl;
    }

use Rattle.figures.proofs.FormOrder.{fit_all}
use Rattle.figures.proofs.checked.Figures.new.Goals as goal

pub invariant_of-result : goal.invariant_of-result
invariant_of-result c =
    let fit = fit_all c.args.form c.loop-figure.figure-index c.loop-figure-test.false c.loop-figure.invariant in
    record {
      workers_fit = fit.0;
      holds_fit = fit.1;
      blocks_fit = fit.2;
      live_fit = fit.3;
      taking_period_fits = fit.4;
      trying_period_fits = fit.5;
      starting_era_fits = fit.6;
    }

use Rattle.figures.proofs.FormOrder.{FitBefore}
use Rattle.figures.proofs.checked.Figures.new.Given as goal

abbrev pub invariant-loop-figure : goal.invariant-loop-figure
invariant-loop-figure l = FitBefore l.form l.figure-index

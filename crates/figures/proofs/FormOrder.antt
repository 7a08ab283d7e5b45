-- The order in which the figures of a form are looked at.
use Rattle.std.proofs.Common.{ℕ, ◌<◌, ◌≤◌, arith}
use Rattle.figures.specs.declared.limits.Form.{Form}
use Rattle.figures.specs.declared.limits.Figure.{Figure}
use Rattle.figures.specs.declared.limits.Figure.TheVariants.{Workers, Holds, Blocks, Live, TakingPeriod, TryingPeriod, StartingEra}
use Rattle.figures.specs.Limits.{Fits, Fit, place}

-- the figures that stand before the i-th are within their limits
abbrev pub FitBefore : Form → ℕ → Type 0
FitBefore form i = (figure : Figure) → place figure < i → Fits form figure

pub fit_all : (form : Form) (i : ℕ) → 7 ≤ i → FitBefore form i → Fit form
fit_all form i h before = (before Workers (omega arith), before Holds (omega arith), before Blocks (omega arith), before Live (omega arith), before TakingPeriod (omega arith), before TryingPeriod (omega arith), before StartingEra (omega arith))

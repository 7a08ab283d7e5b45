-- The figures of a form and their limits.
use Rattle.std.specs.Prelude.{ℕ, ◌<◌, ◌≤◌}
use Rattle.figures.specs.declared.limits.Form.{Form}
use Rattle.figures.specs.declared.limits.Figure.{Figure}
use Rattle.figures.specs.declared.limits.Figure.TheVariants.{Workers, Holds, Blocks, Live, TakingPeriod, TryingPeriod, StartingEra}
use Rattle.figures.specs.declared.refusals.Refusal.{Refusal}
use Rattle.figures.specs.declared.refusals.Refusal.TheVariants.{Misfit}

-- the number that a form has for a figure
abbrev pub value : Form → Figure → ℕ
value form Workers = form.workers
value form Holds = form.holds
value form Blocks = form.blocks
value form Live = form.live
value form TakingPeriod = form.taking_period
value form TryingPeriod = form.trying_period
value form StartingEra = form.starting_era

-- the most that a figure may be
abbrev pub most : Form → Figure → ℕ
most form Workers = 8
most form Holds = 4
most form Blocks = 2048
most form Live = form.blocks
most form TakingPeriod = 64
most form TryingPeriod = 32
most form StartingEra = 4294967295

-- a figure is within its limits
abbrev pub Fits : Form → Figure → Type 0
Fits form figure = (1 ≤ value form figure) × (value form figure ≤ most form figure)

-- each figure of a form is within its limits
abbrev pub Fit : Form → Type 0
Fit form = Fits form Workers × Fits form Holds × Fits form Blocks × Fits form Live × Fits form TakingPeriod × Fits form TryingPeriod × Fits form StartingEra

-- where a figure stands on a form
abbrev pub place : Figure → ℕ
place Workers = 0
place Holds = 1
place Blocks = 2
place Live = 3
place TakingPeriod = 4
place TryingPeriod = 5
place StartingEra = 6

-- a form is refused for the first of its figures that is outside its limits
abbrev pub Outside : Form → Refusal → Type 0
Outside form (Misfit figure) = (Fits form figure → ⊥) × ((other : Figure) → place other < place figure → Fits form other)

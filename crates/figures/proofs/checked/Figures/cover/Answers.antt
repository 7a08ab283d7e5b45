use Rattle.std.proofs.Common.{rules}
use Rattle.figures.proofs.Ceilings.{never_falls}
use Rattle.figures.proofs.checked.Figures.cover.Goals as goal

pub returns-then-one-form-4 : goal.returns-then-one-form-4
returns-then-one-form-4 c = record { test = search rules; never_falls = never_falls }

pub returns-else-one-form-4 : goal.returns-else-one-form-4
returns-else-one-form-4 c = record { test = search rules; never_falls = never_falls }

-- How a figure is named in print.
use Rattle.std.specs.Prelude.{ℕ, List, codes}
use Rattle.figures.specs.declared.limits.Figure.{Figure}
use Rattle.figures.specs.declared.limits.Figure.TheVariants.{Workers, Holds, Blocks, Live, TakingPeriod, TryingPeriod, StartingEra}

-- the name of a figure, with the letter that a formula has for it
abbrev pub word : Figure → List ℕ
word Workers = codes "workers W"
word Holds = codes "holds H"
word Blocks = codes "blocks N"
word Live = codes "live blocks M"
word TakingPeriod = codes "taking period F"
word TryingPeriod = codes "trying period G"
word StartingEra = codes "starting era"

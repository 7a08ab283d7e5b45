use Rattle.machine.proofs.CeilingRuns.{below_ceiling}
use Rattle.machine.proofs.laws.retired_stay_below_ceiling.Goals as goal

pub returns : goal.returns
returns g c = below_ceiling _

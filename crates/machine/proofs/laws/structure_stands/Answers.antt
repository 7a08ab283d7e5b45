use Rattle.machine.proofs.RunsSound.{structure_stands}
use Rattle.machine.proofs.laws.structure_stands.Goals as goal

pub returns : goal.returns
returns g c = structure_stands _

use Rattle.std.proofs.Common.{refl}
use Rattle.machine.proofs.examples.worked_examples.Goals as goal

pub returns : goal.returns
returns c = record { lines = refl; emptied = refl; states = (refl, refl, refl, refl); makings = (refl, refl, refl, refl); ceilings = (refl, refl) }

use Rattle.std.proofs.Common.{refl}
use Rattle.scenarios.proofs.scenarios_agree.Goals as goal

pub returns : goal.returns
returns c = record { first = refl; second = refl; third = refl; fourth = refl; fifth = refl; sixth = refl; seventh = refl; eighth = refl }

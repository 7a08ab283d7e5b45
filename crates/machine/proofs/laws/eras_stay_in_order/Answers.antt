use Rattle.machine.proofs.RunsInTime.{eras_in_order}
use Rattle.machine.proofs.laws.eras_stay_in_order.Goals as goal

pub returns : goal.returns
returns g c = eras_in_order _

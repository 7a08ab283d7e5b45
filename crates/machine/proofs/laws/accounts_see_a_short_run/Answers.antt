use Rattle.std.proofs.Common.{refl}
use Rattle.machine.proofs.laws.accounts_see_a_short_run.Goals as goal

pub returns : goal.returns
returns c = record { shown = refl; alone = refl; taker = refl; linked = refl; met = refl; never_empty = refl; dropped = refl }

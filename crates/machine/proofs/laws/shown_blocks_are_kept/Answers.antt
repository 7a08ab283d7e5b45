use Rattle.machine.proofs.ProtectedRuns.{shown_blocks_kept}
use Rattle.machine.proofs.laws.shown_blocks_are_kept.Goals as goal

pub returns : goal.returns
returns g c = shown_blocks_kept _

use Rattle.std.proofs.Common.{◌≤◌, length}
use Rattle.bench.proofs.scripts.read_scripts.Given as goal

abbrev pub invariant-loop-rest : goal.invariant-loop-rest
invariant-loop-rest l = length l.rest ≤ l.count

abbrev pub decreases-loop-rest : goal.decreases-loop-rest
decreases-loop-rest l = length l.rest

use Rattle.machine.proofs.LooksRuns.{looks_answer_named}
use Rattle.machine.proofs.laws.looks_answer_what_was_named.Goals as goal

pub returns : goal.returns
returns g c = looks_answer_named _

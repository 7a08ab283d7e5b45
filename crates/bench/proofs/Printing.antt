-- The lines of a run that was played.
use Rattle.std.proofs.Common.{◌≡◌, ℕ, Bool, List, ap, ◌∙◌, subst, inr}
use Rattle.figures.specs.declared.limits.Form.{Form}
use Rattle.machine.specs.declared.calls.Call.{Call}
use Rattle.machine.specs.Machine.{State, Reply}
use Rattle.runs.specs.Plays.{PlayedSo}
use Rattle.bench.specs.declared.lines.Line.{Line}
use Rattle.bench.specs.Lines.{lines_from}
use Rattle.bench.specs.PrintedRuns.{PrintedRun}

pub printed_so : {R : Type 0} (encoded : R → List ℕ) (form : Form) (inside : List Bool) (lent table : List R) (calls : List (Call R)) (answers told : List (Reply R)) (end : State R) (lines : List Line)
    → lent ≡ table → told ≡ answers → PlayedSo form inside lent calls answers end → lines ≡ lines_from encoded 0 told → PrintedRun encoded form inside table calls lines
printed_so encoded form inside lent table calls answers told end lines fresh same run e =
    inr (answers, end, subst (λ t. PlayedSo form inside t calls answers end) fresh run, e ∙ ap (lines_from encoded 0) same)

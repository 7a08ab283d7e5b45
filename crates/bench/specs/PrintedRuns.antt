-- What is printed of a run.
use Rattle.std.specs.Prelude.{◌≡◌, ℕ, Bool, ◌⊎◌, List, [], ◌∷◌, Err}
use Rattle.figures.specs.declared.limits.Form.{Form}
use Rattle.machine.specs.declared.calls.Call.{Call}
use Rattle.machine.specs.declared.refusals.KeeperFault.{KeeperFault}
use Rattle.machine.specs.Refusals.{fault}
use Rattle.machine.specs.Machine.{State, Reply, make}
use Rattle.runs.specs.Plays.{PlayedSo}
use Rattle.bench.specs.declared.lines.Line.{Line}
use Rattle.bench.specs.Lines.{lines_from, refused_line}

-- the line of a refused making, or a line for each call of a run from the making through these calls, with every law
abbrev pub PrintedRun : {R : Type 0} → (R → List ℕ) → Form → List Bool → List R → List (Call R) → List Line → Type 0
PrintedRun {R} encoded form inside table calls lines =
    ((refused : KeeperFault) × (make form inside ≡ Err refused) × (lines ≡ refused_line (fault refused) ∷ []))
    ⊎ ((answers : List (Reply R)) × (end : State R) × PlayedSo form inside table calls answers end × (lines ≡ lines_from encoded 0 answers))

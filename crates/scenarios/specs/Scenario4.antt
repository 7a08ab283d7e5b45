-- The run scenario-4 of an independent model: its calls, and the lines that it prints. Made by tools/scenario.
use Rattle.std.specs.Prelude.{List, [], ◌∷◌, Some, None}
use Rattle.figures.specs.declared.limits.Form.{Form}
use Rattle.records.specs.declared.readings.Reading.{Reading}
use Rattle.machine.specs.declared.calls.Call.{Call}
use Rattle.machine.specs.declared.calls.Call.TheVariants.{Take, Look, Drop, Retire, Relink, Write, Read, Turn}
use Rattle.machine.specs.declared.calls.Value.TheVariants.{Block, Record}
use Rattle.machine.specs.Runs.{Line}
use Rattle.scenarios.specs.Lines.{Scenario, stack, reading, prints}

abbrev pub form : Form
form = record { workers = 2; holds = 3; blocks = 6; live = 6; taking_period = 2; trying_period = 1; starting_era = 1 }

abbrev pub calls : List (Call Reading)
calls =
    Turn 2
    ∷ Look 1 1 0
    ∷ Turn 1
    ∷ Turn 1
    ∷ Turn 1
    ∷ Look 0 0 1
    ∷ Turn 0
    ∷ Turn 1
    ∷ Turn 0
    ∷ Turn 1
    ∷ Turn 0
    ∷ Turn 1
    ∷ Turn 0
    ∷ Turn 1
    ∷ Read 1 2
    ∷ Read 1 2
    ∷ Turn 0
    ∷ Turn 0
    ∷ Read 1 1
    ∷ Drop 1
    ∷ Turn 1
    ∷ Turn 0
    ∷ Turn 1
    ∷ Look 0 0 1
    ∷ Drop 1
    ∷ Turn 0
    ∷ Turn 1
    ∷ Turn 1
    ∷ Turn 0
    ∷ Drop 0
    ∷ Turn 1
    ∷ Turn 1
    ∷ Look 1 0 0
    ∷ Look 0 3 18
    ∷ Turn 1
    ∷ Turn 1
    ∷ Turn 0
    ∷ Turn 1
    ∷ Turn 1
    ∷ Turn 1
    ∷ Turn 0
    ∷ Turn 0
    ∷ Turn 0
    ∷ Turn 1
    ∷ Turn 0
    ∷ Turn 1
    ∷ Take 1
    ∷ Turn 1
    ∷ Turn 1
    ∷ Turn 0
    ∷ Write 1 0 (reading (2 ∷ 0 ∷ 0 ∷ 0 ∷ 4 ∷ 0 ∷ 0 ∷ 0 ∷ []))
    ∷ Look 1 0 0
    ∷ Turn 1
    ∷ Turn 1
    ∷ Look 0 0 0
    ∷ Turn 0
    ∷ Turn 0
    ∷ Turn 1
    ∷ Turn 0
    ∷ Turn 1
    ∷ Turn 1
    ∷ Turn 0
    ∷ Turn 0
    ∷ Turn 0
    ∷ Turn 1
    ∷ Relink 1 0 None (Some 0)
    ∷ Turn 0
    ∷ Drop 0
    ∷ Take 0
    ∷ Turn 0
    ∷ Look 1 0 1
    ∷ Turn 0
    ∷ Turn 1
    ∷ Turn 0
    ∷ Turn 1
    ∷ Take 1
    ∷ Turn 1
    ∷ Turn 1
    ∷ Turn 0
    ∷ Turn 0
    ∷ Turn 0
    ∷ Write 1 1 (reading (2 ∷ 0 ∷ 0 ∷ 0 ∷ 6 ∷ 0 ∷ 0 ∷ 0 ∷ []))
    ∷ Read 0 3
    ∷ Take 0
    ∷ Turn 0
    ∷ Look 1 0 0
    ∷ Turn 1
    ∷ Turn 1
    ∷ Turn 1
    ∷ Turn 1
    ∷ Turn 1
    ∷ Turn 1
    ∷ Relink 1 0 (Some 0) (Some 1)
    ∷ Turn 0
    ∷ Write 0 2 (reading (2 ∷ 0 ∷ 0 ∷ 0 ∷ 8 ∷ 0 ∷ 0 ∷ 0 ∷ []))
    ∷ Look 0 0 0
    ∷ Retire 1 0
    ∷ Turn 0
    ∷ Turn 0
    ∷ Turn 1
    ∷ Turn 1
    ∷ Turn 0
    ∷ Turn 0
    ∷ Turn 0
    ∷ Turn 1
    ∷ Turn 0
    ∷ Turn 0
    ∷ Turn 1
    ∷ Relink 0 0 (Some 1) (Some 2)
    ∷ Drop 1
    ∷ Turn 1
    ∷ Turn 1
    ∷ Turn 1
    ∷ Turn 1
    ∷ Turn 1
    ∷ Turn 1
    ∷ Look 1 0 0
    ∷ Turn 1
    ∷ Turn 1
    ∷ Turn 1
    ∷ Retire 0 1
    ∷ Turn 1
    ∷ Turn 1
    ∷ Turn 1
    ∷ Turn 1
    ∷ Look 1 0 0
    ∷ Turn 0
    ∷ Take 0
    ∷ Turn 0
    ∷ Turn 0
    ∷ Write 0 4 (reading (2 ∷ 0 ∷ 0 ∷ 0 ∷ 9 ∷ 0 ∷ 0 ∷ 0 ∷ []))
    ∷ Write 0 3 (reading (2 ∷ 0 ∷ 0 ∷ 0 ∷ 10 ∷ 0 ∷ 0 ∷ 0 ∷ []))
    ∷ Turn 1
    ∷ Look 0 0 1
    ∷ Turn 0
    ∷ Turn 1
    ∷ Turn 0
    ∷ Relink 0 1 None (Some 3)
    ∷ Look 1 1 20
    ∷ Turn 1
    ∷ Turn 1
    ∷ Take 0
    ∷ Turn 0
    ∷ Turn 0
    ∷ Write 0 4 (reading (2 ∷ 0 ∷ 0 ∷ 0 ∷ 11 ∷ 0 ∷ 0 ∷ 0 ∷ []))
    ∷ Look 0 0 1
    ∷ Turn 0
    ∷ Turn 0
    ∷ Turn 1
    ∷ Turn 1
    ∷ Turn 0
    ∷ Turn 0
    ∷ Turn 1
    ∷ Turn 1
    ∷ Turn 0
    ∷ Turn 0
    ∷ Turn 1
    ∷ Read 1 0
    ∷ Relink 1 0 (Some 2) None
    ∷ Relink 0 24 None (Some 3)
    ∷ Retire 1 2
    ∷ Relink 0 1 (Some 3) (Some 4)
    ∷ Turn 1
    ∷ Turn 1
    ∷ Relink 0 0 None None
    ∷ Retire 0 3
    ∷ Look 0 0 0
    ∷ Turn 0
    ∷ Turn 1
    ∷ Turn 0
    ∷ Turn 2
    ∷ Look 0 0 1
    ∷ Turn 1
    ∷ Look 1 1 0
    ∷ Turn 1
    ∷ Turn 1
    ∷ Read 1 1
    ∷ Turn 0
    ∷ Relink 0 2 None None
    ∷ Turn 0
    ∷ Look 0 1 24
    ∷ Turn 0
    ∷ Turn 0
    ∷ Turn 0
    ∷ Read 1 2
    ∷ Turn 0
    ∷ Turn 0
    ∷ Turn 0
    ∷ Turn 0
    ∷ Read 0 0
    ∷ Relink 1 1 None (Some 5)
    ∷ Relink 0 1 (Some 4) (Some 3)
    ∷ Retire 0 4
    ∷ Read 1 1
    ∷ Take 1
    ∷ Turn 0
    ∷ Turn 0
    ∷ Turn 1
    ∷ Take 0
    ∷ Turn 1
    ∷ Turn 0
    ∷ Turn 0
    ∷ Look 0 0 0
    ∷ Turn 0
    ∷ Write 1 5 (reading (2 ∷ 0 ∷ 0 ∷ 0 ∷ 15 ∷ 0 ∷ 0 ∷ 0 ∷ []))
    ∷ Turn 0
    ∷ Look 1 0 0
    ∷ Turn 1
    ∷ Turn 1
    ∷ Turn 1
    ∷ Turn 2
    ∷ Turn 0
    ∷ Turn 0
    ∷ Turn 0
    ∷ Turn 0
    ∷ Read 0 2
    ∷ Take 0
    ∷ Turn 0
    ∷ Turn 1
    ∷ Turn 1
    ∷ Turn 1
    ∷ Turn 1
    ∷ Turn 1
    ∷ Turn 0
    ∷ Turn 1
    ∷ Look 0 0 0
    ∷ Turn 0
    ∷ Turn 0
    ∷ Turn 0
    ∷ Turn 0
    ∷ Turn 1
    ∷ Turn 0
    ∷ Turn 0
    ∷ Look 0 0 0
    ∷ Relink 1 26 None None
    ∷ Relink 1 0 None (Some 5)
    ∷ Take 1
    ∷ Turn 0
    ∷ Look 1 1 13
    ∷ Turn 0
    ∷ Take 0
    ∷ Turn 1
    ∷ Turn 1
    ∷ Turn 0
    ∷ Turn 0
    ∷ Look 0 0 0
    ∷ Take 1
    ∷ Turn 0
    ∷ Turn 0
    ∷ Look 0 1 26
    ∷ Turn 0
    ∷ Turn 1
    ∷ Turn 1
    ∷ Look 1 0 1
    ∷ Turn 1
    ∷ Turn 1
    ∷ Turn 1
    ∷ Turn 0
    ∷ Turn 0
    ∷ Turn 1
    ∷ Turn 0
    ∷ Turn 1
    ∷ Turn 1
    ∷ Look 1 1 22
    ∷ Turn 1
    ∷ Turn 0
    ∷ Turn 0
    ∷ Turn 1
    ∷ Read 0 0
    ∷ Relink 0 0 (Some 5) None
    ∷ Write 1 2 (reading (2 ∷ 0 ∷ 0 ∷ 0 ∷ 18 ∷ 0 ∷ 0 ∷ 0 ∷ []))
    ∷ Turn 1
    ∷ Turn 1
    ∷ Retire 0 5
    ∷ Read 1 2
    ∷ Turn 0
    ∷ Turn 0
    ∷ Turn 1
    ∷ Turn 0
    ∷ Turn 0
    ∷ Look 0 0 1
    ∷ Turn 0
    ∷ Turn 1
    ∷ Read 1 0
    ∷ Relink 1 1 (Some 3) None
    ∷ Retire 1 3
    ∷ Turn 1
    ∷ Turn 0
    ∷ Turn 1
    ∷ Turn 0
    ∷ Turn 1
    ∷ Turn 1
    ∷ Turn 0
    ∷ Take 1
    ∷ Turn 0
    ∷ Turn 1
    ∷ Turn 1
    ∷ Take 1
    ∷ Turn 1
    ∷ Turn 0
    ∷ Turn 1
    ∷ Look 1 0 0
    ∷ Turn 0
    ∷ Turn 0
    ∷ Turn 1
    ∷ Turn 0
    ∷ Turn 1
    ∷ Turn 1
    ∷ Turn 0
    ∷ Turn 1
    ∷ Take 0
    ∷ Turn 0
    ∷ Turn 1
    ∷ Turn 0
    ∷ Turn 1
    ∷ Turn 1
    ∷ Take 0
    ∷ Turn 0
    ∷ Turn 0
    ∷ Look 0 0 0
    ∷ Read 0 3
    ∷ Turn 0
    ∷ Turn 1
    ∷ Turn 1
    ∷ Turn 0
    ∷ Turn 1
    ∷ Write 0 6 (reading (2 ∷ 0 ∷ 0 ∷ 0 ∷ 21 ∷ 0 ∷ 0 ∷ 0 ∷ []))
    ∷ Turn 0
    ∷ Turn 0
    ∷ Drop 1
    ∷ Turn 0
    ∷ Turn 1
    ∷ Turn 0
    ∷ Turn 1
    ∷ Turn 1
    ∷ Look 0 2 0
    ∷ Turn 1
    ∷ Turn 0
    ∷ Turn 0
    ∷ Turn 0
    ∷ Turn 0
    ∷ Turn 0
    ∷ Turn 1
    ∷ Turn 0
    ∷ Turn 0
    ∷ Read 0 2
    ∷ Turn 1
    ∷ Retire 1 2
    ∷ Look 1 2 0
    ∷ Turn 1
    ∷ Turn 1
    ∷ Read 0 2
    ∷ Turn 1
    ∷ Turn 1
    ∷ Look 0 0 0
    ∷ Turn 0
    ∷ Turn 1
    ∷ Turn 1
    ∷ Turn 1
    ∷ Take 1
    ∷ Turn 0
    ∷ Look 0 0 0
    ∷ Turn 1
    ∷ Turn 0
    ∷ Turn 0
    ∷ Turn 1
    ∷ Look 1 2 0
    ∷ Take 0
    ∷ Turn 0
    ∷ Turn 1
    ∷ Turn 0
    ∷ Drop 0
    ∷ Turn 1
    ∷ Turn 1
    ∷ Turn 0
    ∷ Turn 0
    ∷ Turn 1
    ∷ Turn 0
    ∷ Turn 1
    ∷ Turn 1
    ∷ Turn 0
    ∷ Turn 0
    ∷ Turn 0
    ∷ Look 0 0 0
    ∷ Turn 0
    ∷ Look 1 0 0
    ∷ Turn 1
    ∷ Turn 1
    ∷ Turn 0
    ∷ Turn 1
    ∷ Turn 1
    ∷ Turn 0
    ∷ Turn 1
    ∷ Turn 1
    ∷ Turn 0
    ∷ Turn 1
    ∷ Turn 0
    ∷ Turn 0
    ∷ Look 1 0 1
    ∷ Turn 1
    ∷ Turn 1
    ∷ Turn 0
    ∷ Look 1 0 1
    ∷ Turn 1
    ∷ Take 0
    ∷ Turn 1
    ∷ Take 1
    ∷ Turn 0
    ∷ Turn 1
    ∷ Turn 1
    ∷ Turn 0
    ∷ Drop 0
    ∷ Take 1
    ∷ Turn 1
    ∷ Turn 1
    ∷ Look 1 0 1
    ∷ Turn 0
    ∷ Turn 0
    ∷ Turn 0
    ∷ Turn 0
    ∷ Turn 1
    ∷ Turn 0
    ∷ Turn 0
    ∷ Drop 0
    ∷ Turn 1
    ∷ Turn 0
    ∷ Turn 1
    ∷ Turn 1
    ∷ Turn 1
    ∷ Turn 0
    ∷ Turn 1
    ∷ Turn 0
    ∷ Turn 0
    ∷ Look 1 0 0
    ∷ Turn 1
    ∷ Turn 0
    ∷ Turn 1
    ∷ Turn 0
    ∷ Look 1 0 0
    ∷ Turn 1
    ∷ Turn 1
    ∷ Look 0 2 0
    ∷ Turn 0
    ∷ Look 1 0 0
    ∷ Turn 0
    ∷ Turn 1
    ∷ Drop 0
    ∷ Turn 0
    ∷ Turn 1
    ∷ Turn 0
    ∷ Look 1 0 0
    ∷ Turn 1
    ∷ Turn 0
    ∷ Turn 1
    ∷ Take 1
    ∷ Turn 0
    ∷ Turn 1
    ∷ Turn 1
    ∷ Turn 0
    ∷ Drop 1
    ∷ Turn 0
    ∷ Turn 1
    ∷ Turn 0
    ∷ Turn 1
    ∷ Turn 0
    ∷ Turn 0
    ∷ Look 0 2 0
    ∷ Turn 0
    ∷ Turn 0
    ∷ Turn 1
    ∷ Turn 1
    ∷ Drop 0
    ∷ Turn 1
    ∷ Turn 1
    ∷ Turn 0
    ∷ Take 1
    ∷ Turn 1
    ∷ Turn 1
    ∷ Take 1
    ∷ Turn 1
    ∷ Turn 0
    ∷ Turn 1
    ∷ Take 1
    ∷ Turn 0
    ∷ Turn 0
    ∷ Turn 1
    ∷ Turn 1
    ∷ Turn 0
    ∷ Look 1 0 0
    ∷ Turn 0
    ∷ Look 0 0 1
    ∷ Turn 1
    ∷ Turn 0
    ∷ Turn 0
    ∷ Turn 1
    ∷ Turn 0
    ∷ Turn 0
    ∷ Turn 1
    ∷ Turn 1
    ∷ Turn 0
    ∷ Turn 0
    ∷ Turn 1
    ∷ Turn 1
    ∷ Turn 1
    ∷ Take 1
    ∷ Turn 1
    ∷ Turn 1
    ∷ Turn 0
    ∷ Take 1
    ∷ Turn 1
    ∷ Turn 0
    ∷ Turn 0
    ∷ Look 0 1 19
    ∷ Turn 1
    ∷ Take 1
    ∷ Turn 1
    ∷ Turn 1
    ∷ Take 1
    ∷ Turn 0
    ∷ Turn 0
    ∷ Turn 1
    ∷ Turn 0
    ∷ Turn 1
    ∷ Turn 0
    ∷ Turn 0
    ∷ Turn 1
    ∷ Turn 0
    ∷ Take 1
    ∷ Look 0 0 1
    ∷ Turn 0
    ∷ Turn 0
    ∷ Take 0
    ∷ Turn 1
    ∷ Turn 0
    ∷ Turn 1
    ∷ Turn 0
    ∷ Look 1 0 1
    ∷ Write 0 3 (reading (2 ∷ 0 ∷ 0 ∷ 0 ∷ 26 ∷ 0 ∷ 0 ∷ 0 ∷ []))
    ∷ Take 0
    ∷ Turn 1
    ∷ Turn 1
    ∷ Turn 1
    ∷ Turn 1
    ∷ Turn 0
    ∷ Turn 1
    ∷ Retire 1 5
    ∷ Turn 0
    ∷ Look 0 0 1
    ∷ Retire 1 4
    ∷ Turn 0
    ∷ Turn 0
    ∷ Turn 0
    ∷ Turn 1
    ∷ Turn 0
    ∷ Turn 0
    ∷ Turn 0
    ∷ Look 0 2 0
    ∷ Turn 0
    ∷ Drop 1
    ∷ Turn 1
    ∷ Turn 1
    ∷ Turn 1
    ∷ Turn 1
    ∷ Turn 0
    ∷ Turn 0
    ∷ Turn 1
    ∷ Write 0 5 (reading (2 ∷ 0 ∷ 0 ∷ 0 ∷ 29 ∷ 0 ∷ 0 ∷ 0 ∷ []))
    ∷ Turn 0
    ∷ Turn 1
    ∷ Turn 0
    ∷ Take 1
    ∷ Turn 1
    ∷ Turn 0
    ∷ Turn 0
    ∷ Drop 0
    ∷ Turn 1
    ∷ Turn 0
    ∷ Turn 0
    ∷ Turn 0
    ∷ Turn 0
    ∷ Take 1
    ∷ Turn 1
    ∷ Turn 0
    ∷ Turn 0
    ∷ Look 0 0 1
    ∷ Turn 0
    ∷ Turn 0
    ∷ Turn 1
    ∷ Take 1
    ∷ Turn 1
    ∷ Turn 1
    ∷ Turn 0
    ∷ Turn 0
    ∷ Turn 0
    ∷ Take 1
    ∷ Turn 1
    ∷ Turn 0
    ∷ Turn 0
    ∷ Turn 0
    ∷ Turn 0
    ∷ Drop 1
    ∷ Turn 0
    ∷ Turn 1
    ∷ Relink 1 5 (Some 1) (Some 3)
    ∷ Turn 0
    ∷ Drop 1
    ∷ Drop 0
    ∷ Turn 0
    ∷ Turn 0
    ∷ Turn 0
    ∷ Turn 0
    ∷ Turn 0
    ∷ Turn 1
    ∷ Turn 1
    ∷ Turn 1
    ∷ Turn 0
    ∷ Look 0 0 0
    ∷ Turn 1
    ∷ Turn 0
    ∷ Turn 0
    ∷ Turn 0
    ∷ Turn 1
    ∷ Turn 1
    ∷ Turn 0
    ∷ Drop 1
    ∷ Turn 0
    ∷ Take 2
    ∷ Turn 0
    ∷ Turn 0
    ∷ Retire 0 4
    ∷ Turn 1
    ∷ Drop 0
    ∷ Look 1 0 26
    ∷ Turn 0
    ∷ Take 3
    ∷ Turn 0
    ∷ Turn 1
    ∷ Turn 1
    ∷ Turn 1
    ∷ Turn 1
    ∷ Turn 1
    ∷ Take 1
    ∷ Turn 0
    ∷ Turn 0
    ∷ Turn 0
    ∷ Turn 1
    ∷ Turn 1
    ∷ Turn 0
    ∷ Take 0
    ∷ Turn 0
    ∷ Turn 0
    ∷ Look 1 0 0
    ∷ Turn 1
    ∷ Take 0
    ∷ Turn 1
    ∷ Turn 0
    ∷ Turn 0
    ∷ Take 0
    ∷ Turn 0
    ∷ Turn 0
    ∷ Turn 1
    ∷ Turn 1
    ∷ Look 0 0 1
    ∷ Turn 0
    ∷ Turn 1
    ∷ Turn 0
    ∷ Turn 1
    ∷ Turn 1
    ∷ Take 1
    ∷ Turn 0
    ∷ Turn 1
    ∷ Turn 0
    ∷ Turn 1
    ∷ Take 1
    ∷ Turn 0
    ∷ Turn 1
    ∷ Turn 0
    ∷ Turn 1
    ∷ Turn 0
    ∷ Take 1
    ∷ Turn 1
    ∷ Retire 0 1
    ∷ Turn 1
    ∷ Look 0 0 0
    ∷ Turn 0
    ∷ Drop 1
    ∷ Turn 0
    ∷ Turn 1
    ∷ Retire 1 6
    ∷ Turn 0
    ∷ Turn 1
    ∷ Turn 1
    ∷ Turn 0
    ∷ Turn 0
    ∷ Turn 1
    ∷ Turn 0
    ∷ Take 0
    ∷ Turn 1
    ∷ Turn 0
    ∷ Turn 0
    ∷ Look 0 0 0
    ∷ Turn 1
    ∷ Turn 0
    ∷ Take 1
    ∷ Turn 0
    ∷ Turn 1
    ∷ Turn 1
    ∷ Drop 1
    ∷ Turn 1
    ∷ Look 0 0 0
    ∷ Turn 0
    ∷ Turn 0
    ∷ Look 0 0 0
    ∷ Turn 1
    ∷ Turn 0
    ∷ Turn 1
    ∷ Turn 1
    ∷ Turn 1
    ∷ Turn 1
    ∷ Drop 0
    ∷ Turn 0
    ∷ Take 1
    ∷ Take 0
    ∷ Turn 1
    ∷ Turn 1
    ∷ Turn 0
    ∷ Turn 0
    ∷ Look 0 0 0
    ∷ Turn 0
    ∷ Drop 1
    ∷ Turn 1
    ∷ Turn 0
    ∷ Take 2
    ∷ Turn 0
    ∷ Turn 0
    ∷ Turn 1
    ∷ Turn 0
    ∷ Turn 0
    ∷ Look 0 0 0
    ∷ Turn 0
    ∷ Turn 0
    ∷ Turn 1
    ∷ Drop 1
    ∷ Turn 1
    ∷ Turn 1
    ∷ Turn 1
    ∷ Drop 0
    ∷ Turn 0
    ∷ Look 1 0 1
    ∷ Turn 0
    ∷ Turn 0
    ∷ Turn 1
    ∷ Turn 0
    ∷ Look 0 2 7
    ∷ Turn 1
    ∷ Turn 0
    ∷ Turn 1
    ∷ Turn 0
    ∷ Turn 1
    ∷ Look 0 0 0
    ∷ Turn 0
    ∷ Turn 1
    ∷ Turn 0
    ∷ Turn 1
    ∷ Turn 0
    ∷ Turn 1
    ∷ Turn 0
    ∷ Drop 1
    ∷ Turn 0
    ∷ Turn 1
    ∷ Turn 0
    ∷ Turn 0
    ∷ Turn 1
    ∷ Look 1 0 12
    ∷ Turn 1
    ∷ Drop 0
    ∷ Turn 0
    ∷ Turn 0
    ∷ Turn 0
    ∷ Turn 0
    ∷ Turn 0
    ∷ Turn 0
    ∷ Turn 1
    ∷ Turn 1
    ∷ Turn 1
    ∷ Look 1 0 1
    ∷ Turn 1
    ∷ Drop 0
    ∷ Turn 1
    ∷ Read 0 2
    ∷ Turn 0
    ∷ Turn 0
    ∷ Turn 0
    ∷ Turn 0
    ∷ Turn 0
    ∷ Turn 1
    ∷ Turn 0
    ∷ Turn 1
    ∷ Take 0
    ∷ Turn 1
    ∷ Turn 0
    ∷ Turn 0
    ∷ Turn 1
    ∷ Turn 1
    ∷ Drop 0
    ∷ Drop 1
    ∷ Turn 0
    ∷ Relink 1 11 (Some 4) (Some 6)
    ∷ Turn 0
    ∷ Turn 1
    ∷ Turn 0
    ∷ Turn 1
    ∷ Turn 0
    ∷ Turn 0
    ∷ Turn 0
    ∷ Turn 1
    ∷ Take 0
    ∷ Turn 0
    ∷ Turn 1
    ∷ Turn 0
    ∷ Drop 0
    ∷ Turn 0
    ∷ Turn 0
    ∷ Turn 0
    ∷ Turn 1
    ∷ Turn 1
    ∷ Look 1 0 1
    ∷ Turn 1
    ∷ Turn 1
    ∷ Turn 1
    ∷ Retire 1 6
    ∷ Turn 1
    ∷ Turn 0
    ∷ Turn 0
    ∷ Turn 1
    ∷ Turn 0
    ∷ Look 0 0 0
    ∷ Turn 1
    ∷ Turn 0
    ∷ Turn 1
    ∷ Look 1 0 1
    ∷ Turn 1
    ∷ Turn 1
    ∷ Turn 0
    ∷ Take 1
    ∷ Turn 0
    ∷ Turn 0
    ∷ Turn 1
    ∷ Turn 0
    ∷ Turn 1
    ∷ Look 1 0 0
    ∷ Turn 0
    ∷ Turn 1
    ∷ Turn 0
    ∷ Turn 1
    ∷ Take 0
    ∷ Look 1 0 1
    ∷ Turn 1
    ∷ Turn 0
    ∷ Turn 1
    ∷ Turn 0
    ∷ Take 0
    ∷ Look 1 0 1
    ∷ Turn 0
    ∷ Turn 1
    ∷ Retire 0 7
    ∷ Turn 1
    ∷ Turn 1
    ∷ Turn 1
    ∷ Turn 1
    ∷ Turn 0
    ∷ Look 0 0 1
    ∷ Turn 1
    ∷ Turn 0
    ∷ Take 1
    ∷ Turn 1
    ∷ Retire 0 2
    ∷ Turn 0
    ∷ Turn 1
    ∷ Take 1
    ∷ Turn 0
    ∷ Turn 1
    ∷ Turn 0
    ∷ Turn 1
    ∷ Look 1 0 1
    ∷ Turn 0
    ∷ Turn 0
    ∷ Look 0 1 0
    ∷ Turn 1
    ∷ Turn 0
    ∷ Turn 1
    ∷ Turn 1
    ∷ Drop 0
    ∷ Turn 1
    ∷ Turn 0
    ∷ Turn 1
    ∷ Turn 0
    ∷ Turn 0
    ∷ Turn 1
    ∷ Turn 0
    ∷ []

abbrev pub lines : List (Line Reading)
lines =
    prints 102 None 0
    ∷ prints 1 None 0
    ∷ prints 1 None 0
    ∷ prints 1 None 0
    ∷ prints 1 None 0
    ∷ prints 1 None 0
    ∷ prints 1 None 0
    ∷ prints 1 None 0
    ∷ prints 1 None 0
    ∷ prints 1 None 0
    ∷ prints 1 None 0
    ∷ prints 1 None 0
    ∷ prints 1 None 0
    ∷ prints 0 None 0
    ∷ prints 105 None 0
    ∷ prints 105 None 0
    ∷ prints 1 None 0
    ∷ prints 1 None 0
    ∷ prints 105 None 0
    ∷ prints 1 None 0
    ∷ prints 1 None 0
    ∷ prints 0 None 0
    ∷ prints 1 None 0
    ∷ prints 1 None 0
    ∷ prints 103 None 0
    ∷ prints 1 None 0
    ∷ prints 1 None 0
    ∷ prints 1 None 0
    ∷ prints 0 None 0
    ∷ prints 1 None 0
    ∷ prints 1 None 0
    ∷ prints 0 None 0
    ∷ prints 1 None 0
    ∷ prints 102 None 0
    ∷ prints 1 None 0
    ∷ prints 1 None 0
    ∷ prints 1 None 0
    ∷ prints 1 None 0
    ∷ prints 1 None 0
    ∷ prints 1 None 0
    ∷ prints 1 None 0
    ∷ prints 1 None 0
    ∷ prints 1 None 0
    ∷ prints 1 None 0
    ∷ prints 1 None 0
    ∷ prints 0 None 0
    ∷ prints 1 None 0
    ∷ prints 1 None 0
    ∷ prints 0 (Some (Block 0)) 0
    ∷ prints 0 None 0
    ∷ prints 0 None 0
    ∷ prints 1 None 0
    ∷ prints 1 None 0
    ∷ prints 1 None 0
    ∷ prints 1 None 0
    ∷ prints 1 None 0
    ∷ prints 1 None 0
    ∷ prints 1 None 0
    ∷ prints 1 None 0
    ∷ prints 1 None 0
    ∷ prints 1 None 0
    ∷ prints 1 None 0
    ∷ prints 1 None 0
    ∷ prints 1 None 0
    ∷ prints 0 None 0
    ∷ prints 0 None 0
    ∷ prints 0 None 0
    ∷ prints 1 None 0
    ∷ prints 103 None 0
    ∷ prints 1 None 0
    ∷ prints 1 None 0
    ∷ prints 1 None 0
    ∷ prints 1 None 0
    ∷ prints 1 None 0
    ∷ prints 0 None 0
    ∷ prints 1 None 0
    ∷ prints 1 None 0
    ∷ prints 0 (Some (Block 1)) 0
    ∷ prints 1 None 0
    ∷ prints 1 None 0
    ∷ prints 0 None 0
    ∷ prints 0 None 0
    ∷ prints 102 None 0
    ∷ prints 1 None 0
    ∷ prints 1 None 0
    ∷ prints 1 None 0
    ∷ prints 1 None 0
    ∷ prints 1 None 0
    ∷ prints 1 None 0
    ∷ prints 1 None 0
    ∷ prints 1 None 0
    ∷ prints 0 (Some (Block 0)) 0
    ∷ prints 0 None 0
    ∷ prints 0 (Some (Block 2)) 0
    ∷ prints 0 None 0
    ∷ prints 1 None 0
    ∷ prints 1 None 0
    ∷ prints 1 None 0
    ∷ prints 1 None 0
    ∷ prints 1 None 0
    ∷ prints 1 None 0
    ∷ prints 1 None 0
    ∷ prints 1 None 0
    ∷ prints 1 None 0
    ∷ prints 1 None 0
    ∷ prints 1 None 0
    ∷ prints 0 (Some (Block 1)) 0
    ∷ prints 0 None 0
    ∷ prints 0 None 0
    ∷ prints 1 None 0
    ∷ prints 1 None 0
    ∷ prints 1 None 0
    ∷ prints 1 None 0
    ∷ prints 1 None 0
    ∷ prints 1 None 0
    ∷ prints 0 None 0
    ∷ prints 1 None 0
    ∷ prints 1 None 0
    ∷ prints 1 None 0
    ∷ prints 1 None 0
    ∷ prints 1 None 0
    ∷ prints 1 None 0
    ∷ prints 1 None 0
    ∷ prints 1 None 0
    ∷ prints 0 (Some (Block 2)) 0
    ∷ prints 1 None 0
    ∷ prints 0 None 0
    ∷ prints 1 None 0
    ∷ prints 1 None 0
    ∷ prints 0 (Some (Block 3)) 0
    ∷ prints 105 None 0
    ∷ prints 0 None 0
    ∷ prints 1 None 0
    ∷ prints 1 None 0
    ∷ prints 1 None 0
    ∷ prints 0 (Some (Block 2)) 0
    ∷ prints 0 None 0
    ∷ prints 0 None 0
    ∷ prints 1 None 0
    ∷ prints 1 None 0
    ∷ prints 1 None 0
    ∷ prints 1 None 0
    ∷ prints 1 None 0
    ∷ prints 0 (Some (Block 4)) 0
    ∷ prints 0 None 0
    ∷ prints 1 None 0
    ∷ prints 1 None 0
    ∷ prints 1 None 0
    ∷ prints 1 None 0
    ∷ prints 1 None 0
    ∷ prints 1 None 0
    ∷ prints 1 None 0
    ∷ prints 1 None 0
    ∷ prints 1 None 0
    ∷ prints 1 None 0
    ∷ prints 0 (Some (Block 3)) 0
    ∷ prints 0 None 0
    ∷ prints 0 (Some (Record (reading (2 ∷ 0 ∷ 0 ∷ 0 ∷ 8 ∷ 0 ∷ 0 ∷ 0 ∷ [])))) 0
    ∷ prints 0 None 0
    ∷ prints 0 None 0
    ∷ prints 1 None 0
    ∷ prints 0 None 0
    ∷ prints 1 None 0
    ∷ prints 1 None 0
    ∷ prints 0 None 0
    ∷ prints 107 None 0
    ∷ prints 1 None 0
    ∷ prints 1 None 0
    ∷ prints 1 None 0
    ∷ prints 0 None 0
    ∷ prints 102 None 0
    ∷ prints 1 None 0
    ∷ prints 0 None 0
    ∷ prints 1 None 0
    ∷ prints 1 None 0
    ∷ prints 0 None 0
    ∷ prints 105 None 0
    ∷ prints 1 None 0
    ∷ prints 103 None 0
    ∷ prints 0 (Some (Block 4)) 0
    ∷ prints 1 None 0
    ∷ prints 1 None 0
    ∷ prints 1 None 0
    ∷ prints 1 None 0
    ∷ prints 105 None 0
    ∷ prints 1 None 0
    ∷ prints 1 None 0
    ∷ prints 1 None 0
    ∷ prints 0 (Some (Block 3)) 0
    ∷ prints 0 (Some (Record (reading (2 ∷ 0 ∷ 0 ∷ 0 ∷ 11 ∷ 0 ∷ 0 ∷ 0 ∷ [])))) 0
    ∷ prints 105 None 0
    ∷ prints 0 None 0
    ∷ prints 1 None 0
    ∷ prints 105 None 0
    ∷ prints 1 None 0
    ∷ prints 1 None 0
    ∷ prints 0 None 0
    ∷ prints 1 None 0
    ∷ prints 1 None 0
    ∷ prints 0 (Some (Block 5)) 0
    ∷ prints 1 None 0
    ∷ prints 109 None 0
    ∷ prints 1 None 0
    ∷ prints 1 None 0
    ∷ prints 0 None 0
    ∷ prints 1 None 0
    ∷ prints 1 None 0
    ∷ prints 1 None 0
    ∷ prints 1 None 0
    ∷ prints 1 None 0
    ∷ prints 102 None 0
    ∷ prints 1 None 0
    ∷ prints 1 None 0
    ∷ prints 1 None 0
    ∷ prints 0 None 0
    ∷ prints 105 None 0
    ∷ prints 1 None 0
    ∷ prints 1 None 0
    ∷ prints 1 None 0
    ∷ prints 1 None 0
    ∷ prints 1 None 0
    ∷ prints 1 None 0
    ∷ prints 1 None 0
    ∷ prints 109 None 0
    ∷ prints 1 None 0
    ∷ prints 1 None 0
    ∷ prints 1 None 0
    ∷ prints 1 None 0
    ∷ prints 1 None 0
    ∷ prints 1 None 0
    ∷ prints 0 None 0
    ∷ prints 1 None 0
    ∷ prints 0 None 0
    ∷ prints 1 None 0
    ∷ prints 0 None 0
    ∷ prints 0 None 0
    ∷ prints 1 None 0
    ∷ prints 1 None 0
    ∷ prints 103 None 0
    ∷ prints 0 (Some (Block 5)) 0
    ∷ prints 1 None 0
    ∷ prints 1 None 0
    ∷ prints 109 None 0
    ∷ prints 1 None 0
    ∷ prints 109 None 0
    ∷ prints 1 None 0
    ∷ prints 1 None 0
    ∷ prints 1 None 0
    ∷ prints 0 (Some (Block 5)) 0
    ∷ prints 1 None 0
    ∷ prints 1 None 0
    ∷ prints 1 None 0
    ∷ prints 109 None 0
    ∷ prints 1 None 0
    ∷ prints 1 None 0
    ∷ prints 1 None 0
    ∷ prints 1 None 0
    ∷ prints 1 None 0
    ∷ prints 1 None 0
    ∷ prints 1 None 0
    ∷ prints 1 None 0
    ∷ prints 1 None 0
    ∷ prints 0 (Some (Block 3)) 0
    ∷ prints 1 None 0
    ∷ prints 1 None 0
    ∷ prints 1 None 0
    ∷ prints 0 None 0
    ∷ prints 1 None 0
    ∷ prints 0 (Some (Record (reading (2 ∷ 0 ∷ 0 ∷ 0 ∷ 15 ∷ 0 ∷ 0 ∷ 0 ∷ [])))) 0
    ∷ prints 0 None 0
    ∷ prints 103 None 0
    ∷ prints 1 None 0
    ∷ prints 1 None 0
    ∷ prints 1 None 0
    ∷ prints 103 None 0
    ∷ prints 1 None 0
    ∷ prints 1 None 0
    ∷ prints 1 None 0
    ∷ prints 1 None 0
    ∷ prints 0 None 0
    ∷ prints 1 None 0
    ∷ prints 1 None 0
    ∷ prints 0 None 0
    ∷ prints 0 (Some (Record (reading (2 ∷ 0 ∷ 0 ∷ 0 ∷ 10 ∷ 0 ∷ 0 ∷ 0 ∷ [])))) 0
    ∷ prints 0 None 0
    ∷ prints 1 None 0
    ∷ prints 1 None 0
    ∷ prints 1 None 0
    ∷ prints 1 None 0
    ∷ prints 1 None 0
    ∷ prints 1 None 0
    ∷ prints 0 None 0
    ∷ prints 1 None 0
    ∷ prints 1 None 0
    ∷ prints 1 None 0
    ∷ prints 1 None 0
    ∷ prints 109 None 0
    ∷ prints 1 None 0
    ∷ prints 1 None 0
    ∷ prints 1 None 0
    ∷ prints 109 None 0
    ∷ prints 1 None 0
    ∷ prints 1 None 0
    ∷ prints 1 None 0
    ∷ prints 1 None 0
    ∷ prints 1 None 0
    ∷ prints 1 None 0
    ∷ prints 1 None 0
    ∷ prints 0 None 0
    ∷ prints 1 None 0
    ∷ prints 1 None 0
    ∷ prints 1 None 0
    ∷ prints 1 None 0
    ∷ prints 109 None 0
    ∷ prints 1 None 0
    ∷ prints 1 None 0
    ∷ prints 1 None 0
    ∷ prints 1 None 0
    ∷ prints 109 None 0
    ∷ prints 1 None 0
    ∷ prints 102 None 0
    ∷ prints 1 None 0
    ∷ prints 1 None 0
    ∷ prints 1 None 0
    ∷ prints 1 None 0
    ∷ prints 0 None 0
    ∷ prints 102 None 0
    ∷ prints 1 None 0
    ∷ prints 1 None 0
    ∷ prints 1 None 0
    ∷ prints 1 None 0
    ∷ prints 1 None 0
    ∷ prints 0 None 0
    ∷ prints 1 None 0
    ∷ prints 1 None 0
    ∷ prints 1 None 0
    ∷ prints 1 None 0
    ∷ prints 1 None 0
    ∷ prints 1 None 0
    ∷ prints 1 None 0
    ∷ prints 1 None 0
    ∷ prints 1 None 0
    ∷ prints 1 None 0
    ∷ prints 1 None 0
    ∷ prints 0 None 0
    ∷ prints 105 None 0
    ∷ prints 0 None 0
    ∷ prints 105 None 0
    ∷ prints 1 None 0
    ∷ prints 1 None 0
    ∷ prints 1 None 0
    ∷ prints 105 None 0
    ∷ prints 1 None 0
    ∷ prints 1 None 0
    ∷ prints 1 None 0
    ∷ prints 1 None 0
    ∷ prints 1 None 0
    ∷ prints 1 None 0
    ∷ prints 0 None 0
    ∷ prints 1 None 0
    ∷ prints 0 None 0
    ∷ prints 1 None 0
    ∷ prints 1 None 0
    ∷ prints 1 None 0
    ∷ prints 0 None 0
    ∷ prints 109 None 0
    ∷ prints 1 None 0
    ∷ prints 1 None 0
    ∷ prints 1 None 0
    ∷ prints 1 None 0
    ∷ prints 109 None 0
    ∷ prints 1 None 0
    ∷ prints 1 None 0
    ∷ prints 1 None 0
    ∷ prints 1 None 0
    ∷ prints 1 None 0
    ∷ prints 1 None 0
    ∷ prints 1 None 0
    ∷ prints 1 None 0
    ∷ prints 0 None 0
    ∷ prints 1 None 0
    ∷ prints 1 None 0
    ∷ prints 0 None 0
    ∷ prints 1 None 0
    ∷ prints 1 None 0
    ∷ prints 1 None 0
    ∷ prints 1 None 0
    ∷ prints 1 None 0
    ∷ prints 1 None 0
    ∷ prints 1 None 0
    ∷ prints 1 None 0
    ∷ prints 1 None 0
    ∷ prints 1 None 0
    ∷ prints 1 None 0
    ∷ prints 1 None 0
    ∷ prints 0 None 0
    ∷ prints 1 None 0
    ∷ prints 1 None 0
    ∷ prints 1 None 0
    ∷ prints 1 None 0
    ∷ prints 0 None 0
    ∷ prints 0 None 0
    ∷ prints 1 None 0
    ∷ prints 1 None 0
    ∷ prints 1 None 0
    ∷ prints 0 None 0
    ∷ prints 1 None 0
    ∷ prints 1 None 0
    ∷ prints 1 None 0
    ∷ prints 109 None 0
    ∷ prints 109 None 0
    ∷ prints 1 None 0
    ∷ prints 1 None 0
    ∷ prints 1 None 0
    ∷ prints 109 None 0
    ∷ prints 1 None 0
    ∷ prints 1 None 0
    ∷ prints 1 None 0
    ∷ prints 1 None 0
    ∷ prints 1 None 0
    ∷ prints 1 None 0
    ∷ prints 1 None 0
    ∷ prints 0 None 0
    ∷ prints 1 None 0
    ∷ prints 1 None 0
    ∷ prints 1 None 0
    ∷ prints 1 None 0
    ∷ prints 1 None 0
    ∷ prints 1 None 0
    ∷ prints 1 None 0
    ∷ prints 0 None 0
    ∷ prints 1 None 0
    ∷ prints 1 None 0
    ∷ prints 1 None 0
    ∷ prints 1 None 0
    ∷ prints 1 None 0
    ∷ prints 0 None 0
    ∷ prints 0 None 0
    ∷ prints 1 None 0
    ∷ prints 1 None 0
    ∷ prints 0 None 0
    ∷ prints 1 None 0
    ∷ prints 1 None 0
    ∷ prints 1 None 0
    ∷ prints 1 None 0
    ∷ prints 1 None 0
    ∷ prints 103 None 0
    ∷ prints 1 None 0
    ∷ prints 0 None 0
    ∷ prints 1 None 0
    ∷ prints 1 None 0
    ∷ prints 1 None 0
    ∷ prints 1 None 0
    ∷ prints 0 None 0
    ∷ prints 1 None 0
    ∷ prints 1 None 0
    ∷ prints 1 None 0
    ∷ prints 109 None 0
    ∷ prints 1 None 0
    ∷ prints 1 None 0
    ∷ prints 1 None 0
    ∷ prints 1 None 0
    ∷ prints 1 None 0
    ∷ prints 1 None 0
    ∷ prints 1 None 0
    ∷ prints 0 None 0
    ∷ prints 1 None 0
    ∷ prints 1 None 0
    ∷ prints 0 None 0
    ∷ prints 1 None 0
    ∷ prints 1 None 0
    ∷ prints 1 None 0
    ∷ prints 1 None 0
    ∷ prints 0 None 0
    ∷ prints 1 None 0
    ∷ prints 1 None 0
    ∷ prints 1 None 0
    ∷ prints 109 None 0
    ∷ prints 1 None 0
    ∷ prints 1 None 0
    ∷ prints 1 None 0
    ∷ prints 109 None 0
    ∷ prints 1 None 0
    ∷ prints 1 None 0
    ∷ prints 1 None 0
    ∷ prints 1 None 0
    ∷ prints 109 None 0
    ∷ prints 1 None 0
    ∷ prints 1 None 0
    ∷ prints 0 None 0
    ∷ prints 1 None 0
    ∷ prints 1 None 0
    ∷ prints 1 None 0
    ∷ prints 1 None 0
    ∷ prints 1 None 0
    ∷ prints 1 None 0
    ∷ prints 1 None 0
    ∷ prints 1 None 0
    ∷ prints 1 None 0
    ∷ prints 1 None 0
    ∷ prints 1 None 0
    ∷ prints 1 None 0
    ∷ prints 1 None 0
    ∷ prints 0 None 0
    ∷ prints 1 None 0
    ∷ prints 1 None 0
    ∷ prints 109 None 0
    ∷ prints 1 None 0
    ∷ prints 1 None 0
    ∷ prints 1 None 0
    ∷ prints 1 None 0
    ∷ prints 1 None 0
    ∷ prints 103 None 0
    ∷ prints 109 None 0
    ∷ prints 1 None 0
    ∷ prints 1 None 0
    ∷ prints 109 None 0
    ∷ prints 1 None 0
    ∷ prints 1 None 0
    ∷ prints 1 None 0
    ∷ prints 1 None 0
    ∷ prints 1 None 0
    ∷ prints 109 None 0
    ∷ prints 1 None 0
    ∷ prints 1 None 0
    ∷ prints 104 None 0
    ∷ prints 0 None 0
    ∷ prints 1 None 0
    ∷ prints 1 None 0
    ∷ prints 1 None 0
    ∷ prints 0 None 0
    ∷ prints 1 None 0
    ∷ prints 1 None 0
    ∷ prints 1 None 0
    ∷ prints 109 None 0
    ∷ prints 109 None 0
    ∷ prints 1 None 0
    ∷ prints 105 None 0
    ∷ prints 1 None 0
    ∷ prints 1 None 0
    ∷ prints 1 None 0
    ∷ prints 1 None 0
    ∷ prints 1 None 0
    ∷ prints 1 None 0
    ∷ prints 1 None 0
    ∷ prints 103 None 0
    ∷ prints 109 None 0
    ∷ prints 1 None 0
    ∷ prints 103 None 0
    ∷ prints 1 None 0
    ∷ prints 1 None 0
    ∷ prints 1 None 0
    ∷ prints 0 None 0
    ∷ prints 1 None 0
    ∷ prints 1 None 0
    ∷ prints 0 None 0
    ∷ prints 1 None 0
    ∷ prints 1 None 0
    ∷ prints 1 None 0
    ∷ prints 1 None 0
    ∷ prints 1 None 0
    ∷ prints 1 None 0
    ∷ prints 1 None 0
    ∷ prints 1 None 0
    ∷ prints 1 None 0
    ∷ prints 1 None 0
    ∷ prints 103 None 0
    ∷ prints 1 None 0
    ∷ prints 0 None 0
    ∷ prints 1 None 0
    ∷ prints 1 None 0
    ∷ prints 1 None 0
    ∷ prints 1 None 0
    ∷ prints 0 None 0
    ∷ prints 1 None 0
    ∷ prints 109 None 0
    ∷ prints 1 None 0
    ∷ prints 1 None 0
    ∷ prints 1 None 0
    ∷ prints 1 None 0
    ∷ prints 1 None 0
    ∷ prints 1 None 0
    ∷ prints 1 None 0
    ∷ prints 0 None 0
    ∷ prints 1 None 0
    ∷ prints 1 None 0
    ∷ prints 1 None 0
    ∷ prints 109 None 0
    ∷ prints 1 None 0
    ∷ prints 1 None 0
    ∷ prints 109 None 0
    ∷ prints 1 None 0
    ∷ prints 1 None 0
    ∷ prints 1 None 0
    ∷ prints 1 None 0
    ∷ prints 1 None 0
    ∷ prints 1 None 0
    ∷ prints 1 None 0
    ∷ prints 1 None 0
    ∷ prints 1 None 0
    ∷ prints 103 None 0
    ∷ prints 1 None 0
    ∷ prints 109 None 0
    ∷ prints 105 None 0
    ∷ prints 0 None 0
    ∷ prints 1 None 0
    ∷ prints 1 None 0
    ∷ prints 1 None 0
    ∷ prints 1 None 0
    ∷ prints 1 None 0
    ∷ prints 1 None 0
    ∷ prints 1 None 0
    ∷ prints 1 None 0
    ∷ prints 1 None 0
    ∷ prints 1 None 0
    ∷ prints 0 None 0
    ∷ prints 1 None 0
    ∷ prints 1 None 0
    ∷ prints 1 None 0
    ∷ prints 1 None 0
    ∷ prints 1 None 0
    ∷ prints 1 None 0
    ∷ prints 0 None 0
    ∷ prints 1 None 0
    ∷ prints 1 None 0
    ∷ prints 1 None 0
    ∷ prints 102 None 0
    ∷ prints 1 None 0
    ∷ prints 0 None 0
    ∷ prints 105 None 0
    ∷ prints 1 None 0
    ∷ prints 1 None 0
    ∷ prints 103 None 0
    ∷ prints 1 None 0
    ∷ prints 102 None 0
    ∷ prints 1 None 0
    ∷ prints 1 None 0
    ∷ prints 1 None 0
    ∷ prints 1 None 0
    ∷ prints 1 None 0
    ∷ prints 0 None 0
    ∷ prints 1 None 0
    ∷ prints 1 None 0
    ∷ prints 1 None 0
    ∷ prints 1 None 0
    ∷ prints 1 None 0
    ∷ prints 109 None 0
    ∷ prints 0 None 0
    ∷ prints 1 None 0
    ∷ prints 1 None 0
    ∷ prints 109 None 0
    ∷ prints 1 None 0
    ∷ prints 1 None 0
    ∷ prints 1 None 0
    ∷ prints 1 None 0
    ∷ prints 1 None 0
    ∷ prints 109 None 0
    ∷ prints 1 None 0
    ∷ prints 1 None 0
    ∷ prints 109 None 0
    ∷ prints 1 None 0
    ∷ prints 1 None 0
    ∷ prints 1 None 0
    ∷ prints 1 None 0
    ∷ prints 1 None 0
    ∷ prints 1 None 0
    ∷ prints 1 None 0
    ∷ prints 0 None 0
    ∷ prints 1 None 0
    ∷ prints 1 None 0
    ∷ prints 1 None 0
    ∷ prints 1 None 0
    ∷ prints 109 None 0
    ∷ prints 1 None 0
    ∷ prints 1 None 0
    ∷ prints 1 None 0
    ∷ prints 1 None 0
    ∷ prints 109 None 0
    ∷ prints 0 None 0
    ∷ prints 1 None 0
    ∷ prints 1 None 0
    ∷ prints 105 None 0
    ∷ prints 109 None 0
    ∷ prints 1 None 0
    ∷ prints 1 None 0
    ∷ prints 1 None 0
    ∷ prints 1 None 0
    ∷ prints 1 None 0
    ∷ prints 102 None 0
    ∷ prints 1 None 0
    ∷ prints 1 None 0
    ∷ prints 1 None 0
    ∷ prints 1 None 0
    ∷ prints 1 None 0
    ∷ prints 1 None 0
    ∷ prints 0 None 0
    ∷ prints 1 None 0
    ∷ prints 1 None 0
    ∷ prints 1 None 0
    ∷ prints 109 None 0
    ∷ prints 1 None 0
    ∷ prints 0 None 0
    ∷ prints 1 None 0
    ∷ prints 1 None 0
    ∷ prints 0 None 0
    ∷ prints 1 None 0
    ∷ prints 109 None 0
    ∷ prints 1 None 0
    ∷ prints 1 None 0
    ∷ prints 1 None 0
    ∷ prints 1 None 0
    ∷ prints 0 None 0
    ∷ prints 1 None 0
    ∷ prints 1 None 0
    ∷ prints 1 None 0
    ∷ prints 1 None 0
    ∷ prints 1 None 0
    ∷ prints 1 None 0
    ∷ prints 0 None 0
    ∷ prints 103 None 0
    ∷ prints 0 None 0
    ∷ prints 1 None 0
    ∷ prints 1 None 0
    ∷ prints 1 None 0
    ∷ prints 109 None 0
    ∷ prints 1 None 0
    ∷ prints 109 None 0
    ∷ prints 1 None 0
    ∷ prints 1 None 0
    ∷ prints 1 None 0
    ∷ prints 1 None 0
    ∷ prints 1 None 0
    ∷ prints 102 None 0
    ∷ prints 1 None 0
    ∷ prints 1 None 0
    ∷ prints 1 None 0
    ∷ prints 1 None 0
    ∷ prints 0 None 0
    ∷ prints 1 None 0
    ∷ prints 1 None 0
    ∷ prints 0 None 0
    ∷ prints 1 None 0
    ∷ prints 103 None 0
    ∷ prints 1 None 0
    ∷ prints 1 None 0
    ∷ prints 0 None 0
    ∷ prints 1 None 0
    ∷ prints 1 None 0
    ∷ prints 1 None 0
    ∷ prints 1 None 0
    ∷ prints 1 None 0
    ∷ prints 1 None 0
    ∷ prints 1 None 0
    ∷ prints 103 None 0
    ∷ prints 1 None 0
    ∷ prints 1 None 0
    ∷ prints 1 None 0
    ∷ prints 0 None 0
    ∷ prints 1 None 0
    ∷ prints 1 None 0
    ∷ prints 1 None 0
    ∷ prints 1 None 0
    ∷ prints 1 None 0
    ∷ prints 1 None 0
    ∷ prints 1 None 0
    ∷ prints 0 None 0
    ∷ prints 1 None 0
    ∷ prints 1 None 0
    ∷ prints 1 None 0
    ∷ prints 1 None 0
    ∷ prints 1 None 0
    ∷ prints 0 None 0
    ∷ prints 1 None 0
    ∷ prints 103 None 0
    ∷ prints 1 None 0
    ∷ prints 1 None 0
    ∷ prints 1 None 0
    ∷ prints 1 None 0
    ∷ prints 1 None 0
    ∷ prints 1 None 0
    ∷ prints 1 None 0
    ∷ prints 0 None 0
    ∷ prints 1 None 0
    ∷ prints 1 None 0
    ∷ prints 0 None 0
    ∷ prints 1 None 0
    ∷ prints 1 None 0
    ∷ prints 1 None 0
    ∷ prints 1 None 0
    ∷ prints 103 None 0
    ∷ prints 1 None 0
    ∷ prints 1 None 0
    ∷ prints 1 None 0
    ∷ prints 1 None 0
    ∷ prints 1 None 0
    ∷ prints 1 None 0
    ∷ prints 0 None 0
    ∷ prints 1 None 0
    ∷ prints 1 None 0
    ∷ prints 1 None 0
    ∷ prints 1 None 0
    ∷ prints 109 None 0
    ∷ prints 1 None 0
    ∷ prints 0 None 0
    ∷ prints 1 None 0
    ∷ prints 1 None 0
    ∷ prints 1 None 0
    ∷ prints 102 None 0
    ∷ prints 1 None 0
    ∷ prints 1 None 0
    ∷ prints 1 None 0
    ∷ prints 1 None 0
    ∷ prints 1 None 0
    ∷ prints 1 None 0
    ∷ prints 0 None 0
    ∷ prints 1 None 0
    ∷ prints 1 None 0
    ∷ prints 1 None 0
    ∷ prints 1 None 0
    ∷ prints 109 None 0
    ∷ prints 1 None 0
    ∷ prints 1 None 0
    ∷ prints 1 None 0
    ∷ prints 1 None 0
    ∷ prints 1 None 0
    ∷ prints 0 None 0
    ∷ prints 1 None 0
    ∷ prints 1 None 0
    ∷ prints 1 None 0
    ∷ prints 1 None 0
    ∷ prints 102 None 0
    ∷ prints 1 None 0
    ∷ prints 1 None 0
    ∷ prints 1 None 0
    ∷ prints 1 None 0
    ∷ prints 0 None 0
    ∷ prints 1 None 0
    ∷ prints 1 None 0
    ∷ prints 1 None 0
    ∷ prints 0 None 0
    ∷ prints 1 None 0
    ∷ prints 1 None 0
    ∷ prints 0 None 0
    ∷ prints 1 None 0
    ∷ prints 1 None 0
    ∷ prints 1 None 0
    ∷ prints 1 None 0
    ∷ prints 1 None 0
    ∷ prints 1 None 0
    ∷ prints 109 None 0
    ∷ prints 1 None 0
    ∷ prints 1 None 0
    ∷ prints 1 None 0
    ∷ prints 0 None 0
    ∷ prints 0 None 0
    ∷ prints 1 None 0
    ∷ prints 1 None 0
    ∷ prints 1 None 0
    ∷ prints 1 None 0
    ∷ prints 0 None 0
    ∷ prints 109 None 0
    ∷ prints 1 None 0
    ∷ prints 1 None 0
    ∷ prints 1 None 0
    ∷ prints 1 None 0
    ∷ prints 102 None 0
    ∷ prints 1 None 0
    ∷ prints 1 None 0
    ∷ prints 1 None 0
    ∷ prints 1 None 0
    ∷ prints 109 None 0
    ∷ prints 1 None 0
    ∷ prints 0 None 0
    ∷ prints 1 None 0
    ∷ prints 1 None 0
    ∷ prints 1 None 0
    ∷ prints 103 None 0
    ∷ prints 1 None 0
    ∷ prints 109 None 0
    ∷ prints 1 None 0
    ∷ prints 1 None 0
    ∷ prints 1 None 0
    ∷ prints 1 None 0
    ∷ prints 109 None 0
    ∷ prints 1 None 0
    ∷ prints 1 None 0
    ∷ prints 0 None 0
    ∷ prints 1 None 0
    ∷ prints 1 None 0
    ∷ prints 1 None 0
    ∷ prints 1 None 0
    ∷ prints 1 None 0
    ∷ prints 103 None 0
    ∷ prints 1 None 0
    ∷ prints 1 None 0
    ∷ prints 1 None 0
    ∷ prints 1 None 0
    ∷ prints 1 None 0
    ∷ prints 0 None 0
    ∷ prints 1 None 0
    ∷ []

abbrev pub scenario : Scenario
scenario = record { puts = stack; form = form; calls = calls; lines = lines }

-- The run scenario-8 of an independent model: its calls, and the lines that it prints. Made by tools/scenario.
use Rattle.std.specs.Prelude.{List, [], ◌∷◌, Some, None}
use Rattle.figures.specs.declared.limits.Form.{Form}
use Rattle.records.specs.declared.readings.Reading.{Reading}
use Rattle.machine.specs.declared.calls.Call.{Call}
use Rattle.machine.specs.declared.calls.Call.TheVariants.{Take, Look, Drop, Retire, Relink, Write, Read, Turn}
use Rattle.machine.specs.declared.calls.Value.TheVariants.{Block, Record}
use Rattle.machine.specs.Runs.{Line}
use Rattle.scenarios.specs.Lines.{Scenario, stack, reading, prints}

abbrev pub form : Form
form = record { workers = 2; holds = 3; blocks = 100; live = 58; taking_period = 1; trying_period = 4; starting_era = 1 }

abbrev pub calls : List (Call Reading)
calls =
    Take 0
    ∷ Drop 1
    ∷ Turn 1
    ∷ Turn 0
    ∷ Turn 1
    ∷ Turn 1
    ∷ Turn 1
    ∷ Turn 0
    ∷ Turn 1
    ∷ Write 0 0 (reading (2 ∷ 0 ∷ 0 ∷ 0 ∷ 1 ∷ 0 ∷ 0 ∷ 0 ∷ []))
    ∷ Turn 1
    ∷ Retire 0 0
    ∷ Take 0
    ∷ Look 1 0 1
    ∷ Turn 1
    ∷ Turn 1
    ∷ Turn 1
    ∷ Turn 0
    ∷ Turn 1
    ∷ Turn 1
    ∷ Turn 0
    ∷ Turn 1
    ∷ Write 0 1 (reading (2 ∷ 0 ∷ 0 ∷ 0 ∷ 2 ∷ 0 ∷ 0 ∷ 0 ∷ []))
    ∷ Turn 1
    ∷ Retire 0 1
    ∷ Drop 0
    ∷ Drop 1
    ∷ Turn 1
    ∷ Turn 0
    ∷ Turn 0
    ∷ Turn 0
    ∷ Turn 1
    ∷ Turn 0
    ∷ Turn 0
    ∷ Turn 1
    ∷ Turn 0
    ∷ Turn 1
    ∷ Look 0 0 1
    ∷ Turn 0
    ∷ Turn 1
    ∷ Turn 0
    ∷ Turn 0
    ∷ Turn 0
    ∷ Turn 1
    ∷ Look 1 0 194
    ∷ Turn 0
    ∷ Drop 1
    ∷ Turn 0
    ∷ Turn 1
    ∷ Turn 1
    ∷ Turn 0
    ∷ Turn 1
    ∷ Turn 1
    ∷ Look 0 0 0
    ∷ Turn 0
    ∷ Turn 0
    ∷ Turn 1
    ∷ Drop 0
    ∷ Read 0 1
    ∷ Turn 1
    ∷ Look 1 0 0
    ∷ Turn 0
    ∷ Turn 1
    ∷ Turn 1
    ∷ Turn 1
    ∷ Turn 1
    ∷ Turn 1
    ∷ Turn 0
    ∷ Turn 0
    ∷ Turn 0
    ∷ Turn 1
    ∷ Turn 0
    ∷ Turn 1
    ∷ Look 1 0 1
    ∷ Turn 1
    ∷ Turn 0
    ∷ Turn 1
    ∷ Look 0 0 0
    ∷ Take 1
    ∷ Turn 0
    ∷ Take 2
    ∷ Turn 1
    ∷ Turn 0
    ∷ Turn 1
    ∷ Turn 0
    ∷ Turn 0
    ∷ Write 1 2 (reading (2 ∷ 0 ∷ 0 ∷ 0 ∷ 6 ∷ 0 ∷ 0 ∷ 0 ∷ []))
    ∷ Look 1 0 1
    ∷ Turn 0
    ∷ Turn 1
    ∷ Turn 0
    ∷ Turn 1
    ∷ Turn 0
    ∷ Look 0 0 1
    ∷ Turn 0
    ∷ Retire 0 21
    ∷ Turn 0
    ∷ Look 0 0 0
    ∷ Turn 1
    ∷ Turn 1
    ∷ Turn 1
    ∷ Turn 1
    ∷ Relink 1 1 None (Some 2)
    ∷ Take 1
    ∷ Turn 1
    ∷ Turn 1
    ∷ Write 1 3 (reading (2 ∷ 0 ∷ 0 ∷ 0 ∷ 8 ∷ 0 ∷ 0 ∷ 0 ∷ []))
    ∷ Turn 0
    ∷ Retire 1 3
    ∷ Look 1 0 1
    ∷ Relink 1 36 None None
    ∷ Turn 0
    ∷ Turn 1
    ∷ Turn 0
    ∷ Turn 0
    ∷ Turn 1
    ∷ Turn 1
    ∷ Turn 1
    ∷ Turn 1
    ∷ Turn 0
    ∷ Turn 1
    ∷ Look 1 1 20
    ∷ Turn 0
    ∷ Turn 1
    ∷ Look 0 0 0
    ∷ Turn 1
    ∷ Turn 1
    ∷ Turn 1
    ∷ Turn 1
    ∷ Turn 1
    ∷ Turn 0
    ∷ Turn 1
    ∷ Turn 0
    ∷ Read 1 0
    ∷ Relink 1 1 (Some 2) None
    ∷ Take 0
    ∷ Retire 1 2
    ∷ Look 1 0 0
    ∷ Turn 0
    ∷ Turn 0
    ∷ Write 0 4 (reading (2 ∷ 0 ∷ 0 ∷ 0 ∷ 10 ∷ 0 ∷ 0 ∷ 0 ∷ []))
    ∷ Look 0 0 0
    ∷ Take 2
    ∷ Turn 1
    ∷ Turn 0
    ∷ Turn 1
    ∷ Turn 1
    ∷ Turn 1
    ∷ Turn 0
    ∷ Turn 1
    ∷ Turn 1
    ∷ Turn 0
    ∷ Read 1 1
    ∷ Read 1 2
    ∷ Turn 0
    ∷ Turn 0
    ∷ Turn 0
    ∷ Drop 1
    ∷ Relink 0 24 None None
    ∷ Turn 1
    ∷ Turn 1
    ∷ Relink 0 0 None (Some 4)
    ∷ Drop 0
    ∷ Turn 0
    ∷ Turn 1
    ∷ Turn 0
    ∷ Turn 0
    ∷ Turn 1
    ∷ Turn 1
    ∷ Turn 0
    ∷ Turn 1
    ∷ Look 1 0 0
    ∷ Turn 0
    ∷ Turn 1
    ∷ Turn 0
    ∷ Take 2
    ∷ Take 0
    ∷ Turn 0
    ∷ Turn 1
    ∷ Turn 1
    ∷ Turn 1
    ∷ Turn 1
    ∷ Turn 0
    ∷ Turn 1
    ∷ Write 0 5 (reading (2 ∷ 0 ∷ 0 ∷ 0 ∷ 13 ∷ 0 ∷ 0 ∷ 0 ∷ []))
    ∷ Turn 1
    ∷ Look 1 1 24
    ∷ Look 0 0 0
    ∷ Turn 0
    ∷ Turn 1
    ∷ Turn 1
    ∷ Turn 1
    ∷ Turn 1
    ∷ Turn 1
    ∷ Turn 0
    ∷ Turn 1
    ∷ Turn 0
    ∷ Turn 1
    ∷ Turn 0
    ∷ Turn 0
    ∷ Read 1 1
    ∷ Look 1 0 0
    ∷ Turn 0
    ∷ Turn 1
    ∷ Turn 0
    ∷ Take 2
    ∷ Relink 0 0 (Some 4) (Some 5)
    ∷ Turn 1
    ∷ Look 1 1 24
    ∷ Retire 0 57
    ∷ Retire 0 4
    ∷ Look 0 0 0
    ∷ Turn 0
    ∷ Turn 0
    ∷ Turn 1
    ∷ Read 1 0
    ∷ Look 0 1 27
    ∷ Relink 1 0 (Some 4) None
    ∷ Retire 1 4
    ∷ Turn 0
    ∷ Turn 0
    ∷ Turn 0
    ∷ Take 1
    ∷ Turn 0
    ∷ Turn 1
    ∷ Turn 1
    ∷ Write 1 6 (reading (2 ∷ 0 ∷ 0 ∷ 0 ∷ 16 ∷ 0 ∷ 0 ∷ 0 ∷ []))
    ∷ Turn 0
    ∷ Turn 0
    ∷ Relink 0 94 None None
    ∷ Turn 0
    ∷ Turn 0
    ∷ Turn 0
    ∷ Turn 0
    ∷ Retire 1 6
    ∷ Take 1
    ∷ Turn 0
    ∷ Read 0 1
    ∷ Turn 1
    ∷ Write 1 64 (reading (2 ∷ 0 ∷ 0 ∷ 0 ∷ 18 ∷ 0 ∷ 0 ∷ 0 ∷ []))
    ∷ Drop 0
    ∷ Turn 1
    ∷ Turn 0
    ∷ Write 1 7 (reading (2 ∷ 0 ∷ 0 ∷ 0 ∷ 20 ∷ 0 ∷ 0 ∷ 0 ∷ []))
    ∷ Look 1 0 1
    ∷ Turn 1
    ∷ Turn 0
    ∷ Turn 1
    ∷ Turn 0
    ∷ Turn 1
    ∷ Turn 1
    ∷ Turn 0
    ∷ Turn 1
    ∷ Turn 0
    ∷ Turn 0
    ∷ Turn 1
    ∷ Take 0
    ∷ Turn 0
    ∷ Relink 1 1 None (Some 7)
    ∷ Turn 0
    ∷ Write 0 8 (reading (2 ∷ 0 ∷ 0 ∷ 0 ∷ 21 ∷ 0 ∷ 0 ∷ 0 ∷ []))
    ∷ Take 1
    ∷ Turn 1
    ∷ Look 0 0 0
    ∷ Turn 1
    ∷ Write 1 9 (reading (2 ∷ 0 ∷ 0 ∷ 0 ∷ 22 ∷ 0 ∷ 0 ∷ 0 ∷ []))
    ∷ Turn 0
    ∷ Turn 0
    ∷ Retire 1 9
    ∷ Turn 1
    ∷ Turn 0
    ∷ Turn 0
    ∷ Turn 1
    ∷ Turn 1
    ∷ Turn 0
    ∷ Turn 0
    ∷ Turn 0
    ∷ Relink 0 32 None (Some 5)
    ∷ Relink 0 0 (Some 5) (Some 8)
    ∷ Turn 1
    ∷ Look 0 0 0
    ∷ Turn 1
    ∷ Turn 0
    ∷ Turn 0
    ∷ Look 0 1 32
    ∷ Turn 1
    ∷ Turn 0
    ∷ Turn 0
    ∷ Turn 0
    ∷ Turn 1
    ∷ Turn 1
    ∷ Turn 0
    ∷ Turn 0
    ∷ Write 0 46 (reading (2 ∷ 0 ∷ 0 ∷ 0 ∷ 23 ∷ 0 ∷ 0 ∷ 0 ∷ []))
    ∷ Turn 0
    ∷ Turn 1
    ∷ Turn 0
    ∷ Look 1 2 70
    ∷ Read 0 0
    ∷ Relink 0 0 (Some 8) (Some 5)
    ∷ Retire 0 8
    ∷ Take 1
    ∷ Turn 0
    ∷ Look 1 2 129
    ∷ Turn 1
    ∷ Turn 0
    ∷ Turn 1
    ∷ Turn 0
    ∷ Write 1 10 (reading (2 ∷ 0 ∷ 0 ∷ 0 ∷ 26 ∷ 0 ∷ 0 ∷ 0 ∷ []))
    ∷ Look 1 0 0
    ∷ Turn 1
    ∷ Turn 1
    ∷ Turn 1
    ∷ Turn 1
    ∷ Turn 0
    ∷ Turn 0
    ∷ Take 0
    ∷ Turn 0
    ∷ Turn 0
    ∷ Turn 1
    ∷ Write 0 11 (reading (2 ∷ 0 ∷ 0 ∷ 0 ∷ 27 ∷ 0 ∷ 0 ∷ 0 ∷ []))
    ∷ Turn 1
    ∷ Turn 1
    ∷ Turn 1
    ∷ Look 0 0 0
    ∷ Retire 1 2
    ∷ Relink 1 0 (Some 5) (Some 10)
    ∷ Turn 0
    ∷ Turn 0
    ∷ Retire 1 5
    ∷ Look 1 0 0
    ∷ Turn 1
    ∷ Turn 0
    ∷ Turn 1
    ∷ Look 1 1 36
    ∷ Turn 0
    ∷ Turn 0
    ∷ Turn 1
    ∷ Turn 1
    ∷ Turn 0
    ∷ Relink 0 38 None (Some 10)
    ∷ Relink 0 0 (Some 10) (Some 11)
    ∷ Turn 1
    ∷ Turn 1
    ∷ Turn 1
    ∷ Turn 1
    ∷ Retire 1 50
    ∷ Turn 1
    ∷ Take 0
    ∷ Turn 1
    ∷ Read 1 0
    ∷ Relink 1 0 (Some 10) None
    ∷ Turn 0
    ∷ Turn 0
    ∷ Write 0 53 (reading (2 ∷ 0 ∷ 0 ∷ 0 ∷ 30 ∷ 0 ∷ 0 ∷ 0 ∷ []))
    ∷ Take 3
    ∷ Write 0 3 (reading (2 ∷ 0 ∷ 0 ∷ 0 ∷ 32 ∷ 0 ∷ 0 ∷ 0 ∷ []))
    ∷ Retire 1 10
    ∷ Retire 0 3
    ∷ Look 1 0 0
    ∷ Relink 0 1 (Some 7) None
    ∷ Retire 0 10
    ∷ Drop 0
    ∷ Turn 1
    ∷ Turn 1
    ∷ Turn 1
    ∷ Turn 1
    ∷ Turn 0
    ∷ Turn 0
    ∷ Turn 1
    ∷ Turn 1
    ∷ Look 1 1 38
    ∷ Turn 1
    ∷ Turn 0
    ∷ Turn 1
    ∷ Turn 0
    ∷ Turn 0
    ∷ Turn 0
    ∷ Turn 1
    ∷ Look 0 0 1
    ∷ Turn 0
    ∷ Turn 0
    ∷ Turn 0
    ∷ Turn 1
    ∷ Turn 1
    ∷ Turn 1
    ∷ Read 1 0
    ∷ Relink 1 0 (Some 11) (Some 10)
    ∷ Take 3
    ∷ Drop 1
    ∷ Retire 1 11
    ∷ Turn 0
    ∷ Turn 1
    ∷ Turn 1
    ∷ Turn 1
    ∷ Turn 1
    ∷ Turn 0
    ∷ Turn 1
    ∷ Turn 0
    ∷ Turn 0
    ∷ Take 0
    ∷ Turn 1
    ∷ Turn 0
    ∷ Look 1 0 1
    ∷ Turn 0
    ∷ Turn 1
    ∷ Write 0 2 (reading (2 ∷ 0 ∷ 0 ∷ 0 ∷ 35 ∷ 0 ∷ 0 ∷ 0 ∷ []))
    ∷ Turn 1
    ∷ Look 0 0 1
    ∷ Turn 0
    ∷ Turn 0
    ∷ Turn 1
    ∷ Turn 0
    ∷ Turn 0
    ∷ Turn 1
    ∷ Turn 1
    ∷ Turn 1
    ∷ Turn 1
    ∷ Take 1
    ∷ Turn 1
    ∷ Turn 1
    ∷ Turn 0
    ∷ Write 1 6 (reading (2 ∷ 0 ∷ 0 ∷ 0 ∷ 36 ∷ 0 ∷ 0 ∷ 0 ∷ []))
    ∷ Turn 0
    ∷ Turn 0
    ∷ Look 1 0 0
    ∷ Turn 1
    ∷ Turn 0
    ∷ Turn 1
    ∷ Turn 0
    ∷ Turn 0
    ∷ Relink 0 1 None (Some 2)
    ∷ Turn 1
    ∷ Turn 1
    ∷ Take 0
    ∷ Turn 1
    ∷ Turn 0
    ∷ Turn 1
    ∷ Turn 1
    ∷ Retire 0 24
    ∷ Turn 0
    ∷ Write 0 9 (reading (2 ∷ 0 ∷ 0 ∷ 0 ∷ 38 ∷ 0 ∷ 0 ∷ 0 ∷ []))
    ∷ Look 0 0 1
    ∷ Turn 0
    ∷ Turn 1
    ∷ Turn 0
    ∷ Turn 1
    ∷ Turn 0
    ∷ Turn 0
    ∷ Turn 0
    ∷ Turn 0
    ∷ Turn 1
    ∷ Relink 1 28 None (Some 10)
    ∷ Relink 1 0 (Some 10) (Some 6)
    ∷ Relink 0 34 None (Some 2)
    ∷ Relink 0 1 (Some 2) (Some 9)
    ∷ Look 0 0 0
    ∷ Take 1
    ∷ Turn 1
    ∷ Turn 0
    ∷ Turn 0
    ∷ Turn 0
    ∷ Turn 0
    ∷ Turn 1
    ∷ Turn 0
    ∷ Turn 0
    ∷ Write 1 12 (reading (2 ∷ 0 ∷ 0 ∷ 0 ∷ 39 ∷ 0 ∷ 0 ∷ 0 ∷ []))
    ∷ Retire 1 12
    ∷ Look 1 0 0
    ∷ Look 0 1 28
    ∷ Turn 0
    ∷ Turn 0
    ∷ Turn 0
    ∷ Turn 0
    ∷ Turn 0
    ∷ Turn 1
    ∷ Turn 1
    ∷ Turn 0
    ∷ Turn 0
    ∷ Turn 1
    ∷ Turn 1
    ∷ Read 0 0
    ∷ Turn 1
    ∷ Write 1 13 (reading (2 ∷ 0 ∷ 0 ∷ 0 ∷ 40 ∷ 0 ∷ 0 ∷ 0 ∷ []))
    ∷ Turn 1
    ∷ Relink 0 0 (Some 6) (Some 10)
    ∷ Retire 0 6
    ∷ Take 0
    ∷ Look 1 1 28
    ∷ Turn 0
    ∷ Turn 0
    ∷ Turn 1
    ∷ Write 0 13 (reading (2 ∷ 0 ∷ 0 ∷ 0 ∷ 41 ∷ 0 ∷ 0 ∷ 0 ∷ []))
    ∷ Read 1 0
    ∷ Retire 0 13
    ∷ Take 0
    ∷ Read 1 1
    ∷ Relink 1 0 (Some 6) None
    ∷ Retire 1 6
    ∷ Drop 1
    ∷ Turn 0
    ∷ Turn 0
    ∷ Write 0 14 (reading (2 ∷ 0 ∷ 0 ∷ 0 ∷ 43 ∷ 0 ∷ 0 ∷ 0 ∷ []))
    ∷ Turn 2
    ∷ Look 0 0 0
    ∷ Turn 1
    ∷ Turn 1
    ∷ Turn 0
    ∷ Turn 1
    ∷ Turn 0
    ∷ Turn 1
    ∷ Turn 0
    ∷ Turn 0
    ∷ Turn 1
    ∷ Turn 1
    ∷ Drop 1
    ∷ Turn 0
    ∷ Turn 1
    ∷ Turn 1
    ∷ Turn 0
    ∷ Turn 1
    ∷ Turn 1
    ∷ Turn 1
    ∷ Relink 0 0 (Some 10) (Some 14)
    ∷ Retire 0 10
    ∷ Turn 1
    ∷ Look 1 1 0
    ∷ Turn 1
    ∷ Take 0
    ∷ Turn 0
    ∷ Turn 1
    ∷ Turn 0
    ∷ Write 0 15 (reading (2 ∷ 0 ∷ 0 ∷ 0 ∷ 45 ∷ 0 ∷ 0 ∷ 0 ∷ []))
    ∷ Retire 0 15
    ∷ Turn 1
    ∷ Take 2
    ∷ Turn 0
    ∷ Turn 0
    ∷ Turn 1
    ∷ Turn 1
    ∷ Turn 1
    ∷ Turn 0
    ∷ Turn 0
    ∷ Turn 1
    ∷ Turn 0
    ∷ Drop 1
    ∷ Turn 0
    ∷ Turn 0
    ∷ Relink 0 24 (Some 37) (Some 82)
    ∷ Turn 0
    ∷ Turn 1
    ∷ Turn 0
    ∷ Turn 1
    ∷ Turn 0
    ∷ Turn 1
    ∷ Drop 0
    ∷ Relink 0 193 (Some 64) (Some 35)
    ∷ Write 1 80 (reading (2 ∷ 0 ∷ 0 ∷ 0 ∷ 49 ∷ 0 ∷ 0 ∷ 0 ∷ []))
    ∷ Turn 0
    ∷ Turn 1
    ∷ Turn 1
    ∷ Turn 0
    ∷ Turn 1
    ∷ Turn 0
    ∷ Turn 1
    ∷ Look 1 2 1
    ∷ Turn 1
    ∷ Retire 0 22
    ∷ Turn 1
    ∷ Turn 1
    ∷ Turn 0
    ∷ Turn 0
    ∷ Take 0
    ∷ Turn 0
    ∷ Turn 0
    ∷ Turn 1
    ∷ Turn 1
    ∷ Turn 0
    ∷ Turn 1
    ∷ Turn 1
    ∷ Look 0 1 1
    ∷ Turn 0
    ∷ Turn 0
    ∷ Read 1 0
    ∷ Read 1 2
    ∷ Turn 0
    ∷ Turn 0
    ∷ Turn 0
    ∷ Turn 0
    ∷ Read 1 2
    ∷ Look 1 2 1
    ∷ Turn 1
    ∷ Turn 1
    ∷ Read 1 1
    ∷ Turn 0
    ∷ Read 1 2
    ∷ Relink 1 30 (Some 49) (Some 28)
    ∷ Read 0 1
    ∷ Read 1 1
    ∷ Read 0 2
    ∷ Take 1
    ∷ Relink 0 208 None (Some 4)
    ∷ Read 0 1
    ∷ Drop 0
    ∷ Turn 0
    ∷ Turn 0
    ∷ Turn 0
    ∷ Turn 0
    ∷ Turn 1
    ∷ Turn 1
    ∷ Turn 0
    ∷ Write 1 0 (reading (2 ∷ 0 ∷ 0 ∷ 0 ∷ 54 ∷ 0 ∷ 0 ∷ 0 ∷ []))
    ∷ Take 0
    ∷ Retire 1 0
    ∷ Relink 1 0 (Some 14) None
    ∷ Retire 1 9
    ∷ Take 1
    ∷ Turn 0
    ∷ Turn 1
    ∷ Take 0
    ∷ Turn 1
    ∷ Write 1 1 (reading (2 ∷ 0 ∷ 0 ∷ 0 ∷ 56 ∷ 0 ∷ 0 ∷ 0 ∷ []))
    ∷ Turn 0
    ∷ Retire 1 1
    ∷ Take 2
    ∷ Turn 1
    ∷ Read 0 0
    ∷ Turn 0
    ∷ Write 0 4 (reading (2 ∷ 0 ∷ 0 ∷ 0 ∷ 59 ∷ 0 ∷ 0 ∷ 0 ∷ []))
    ∷ Look 0 0 1
    ∷ Turn 1
    ∷ Turn 1
    ∷ Turn 0
    ∷ Turn 0
    ∷ Turn 0
    ∷ Turn 1
    ∷ Turn 1
    ∷ Turn 1
    ∷ Turn 0
    ∷ Turn 1
    ∷ Turn 0
    ∷ Turn 1
    ∷ Drop 0
    ∷ Relink 1 1 (Some 9) None
    ∷ Retire 1 9
    ∷ Turn 0
    ∷ Look 1 0 0
    ∷ Turn 0
    ∷ Turn 1
    ∷ Relink 0 24 None None
    ∷ Turn 1
    ∷ Turn 1
    ∷ Turn 1
    ∷ Relink 0 1 None (Some 4)
    ∷ Take 0
    ∷ Turn 0
    ∷ Turn 0
    ∷ Write 0 8 (reading (2 ∷ 0 ∷ 0 ∷ 0 ∷ 61 ∷ 0 ∷ 0 ∷ 0 ∷ []))
    ∷ Retire 0 8
    ∷ Drop 0
    ∷ Turn 0
    ∷ Turn 0
    ∷ Turn 0
    ∷ Turn 0
    ∷ Turn 0
    ∷ Turn 1
    ∷ Turn 1
    ∷ Turn 0
    ∷ Turn 1
    ∷ Drop 0
    ∷ Turn 0
    ∷ Turn 1
    ∷ Turn 0
    ∷ Turn 0
    ∷ Turn 1
    ∷ Turn 0
    ∷ Turn 0
    ∷ Turn 0
    ∷ Turn 1
    ∷ Turn 1
    ∷ Drop 0
    ∷ Turn 0
    ∷ Look 1 0 1
    ∷ Turn 1
    ∷ Turn 1
    ∷ Turn 0
    ∷ Turn 0
    ∷ Look 1 1 24
    ∷ Turn 1
    ∷ Turn 0
    ∷ Turn 1
    ∷ Turn 1
    ∷ Turn 0
    ∷ Turn 1
    ∷ Turn 1
    ∷ Turn 0
    ∷ Turn 1
    ∷ Drop 0
    ∷ Turn 0
    ∷ Turn 1
    ∷ Read 1 0
    ∷ Relink 1 1 (Some 4) None
    ∷ Turn 0
    ∷ Retire 1 4
    ∷ Look 1 0 1
    ∷ Turn 0
    ∷ Turn 1
    ∷ Turn 1
    ∷ Look 1 0 1
    ∷ Turn 1
    ∷ Turn 0
    ∷ Turn 1
    ∷ Turn 0
    ∷ Read 1 1
    ∷ Turn 0
    ∷ Relink 1 1 None None
    ∷ Retire 1 9
    ∷ Look 0 1 1
    ∷ Turn 0
    ∷ Turn 0
    ∷ Turn 0
    ∷ Turn 0
    ∷ Write 0 66 (reading (2 ∷ 0 ∷ 0 ∷ 0 ∷ 62 ∷ 0 ∷ 0 ∷ 0 ∷ []))
    ∷ Turn 0
    ∷ Turn 0
    ∷ Turn 0
    ∷ Read 0 2
    ∷ Take 1
    ∷ Take 0
    ∷ Turn 1
    ∷ Turn 0
    ∷ Turn 0
    ∷ Turn 1
    ∷ Write 1 6 (reading (2 ∷ 0 ∷ 0 ∷ 0 ∷ 63 ∷ 0 ∷ 0 ∷ 0 ∷ []))
    ∷ Look 1 0 0
    ∷ Write 0 3 (reading (2 ∷ 0 ∷ 0 ∷ 0 ∷ 64 ∷ 0 ∷ 0 ∷ 0 ∷ []))
    ∷ Look 0 0 0
    ∷ Turn 0
    ∷ Turn 1
    ∷ Turn 1
    ∷ Turn 0
    ∷ Turn 1
    ∷ Turn 0
    ∷ Turn 0
    ∷ Turn 1
    ∷ Turn 0
    ∷ Turn 1
    ∷ Turn 0
    ∷ Turn 1
    ∷ Relink 1 0 None (Some 6)
    ∷ Drop 1
    ∷ Turn 0
    ∷ Relink 0 22 None None
    ∷ Turn 1
    ∷ Relink 0 0 None (Some 3)
    ∷ Turn 1
    ∷ Turn 1
    ∷ Write 0 3 (reading (2 ∷ 0 ∷ 0 ∷ 0 ∷ 65 ∷ 0 ∷ 0 ∷ 0 ∷ []))
    ∷ Turn 1
    ∷ Look 0 0 1
    ∷ Turn 1
    ∷ Turn 0
    ∷ Turn 0
    ∷ Turn 1
    ∷ Relink 0 1 None (Some 3)
    ∷ Retire 0 95
    ∷ Take 0
    ∷ Turn 1
    ∷ Write 1 58 (reading (2 ∷ 0 ∷ 0 ∷ 0 ∷ 67 ∷ 0 ∷ 0 ∷ 0 ∷ []))
    ∷ Take 1
    ∷ Drop 1
    ∷ Turn 0
    ∷ Turn 1
    ∷ Turn 0
    ∷ Turn 1
    ∷ Write 1 12 (reading (2 ∷ 0 ∷ 0 ∷ 0 ∷ 69 ∷ 0 ∷ 0 ∷ 0 ∷ []))
    ∷ Retire 1 12
    ∷ Look 1 0 0
    ∷ Write 0 5 (reading (2 ∷ 0 ∷ 0 ∷ 0 ∷ 70 ∷ 0 ∷ 0 ∷ 0 ∷ []))
    ∷ Turn 1
    ∷ Turn 1
    ∷ Look 0 0 1
    ∷ Turn 0
    ∷ Turn 1
    ∷ Turn 1
    ∷ Turn 1
    ∷ Turn 0
    ∷ Look 0 3 155
    ∷ Turn 0
    ∷ Turn 1
    ∷ Turn 1
    ∷ Turn 0
    ∷ Turn 0
    ∷ Turn 0
    ∷ Relink 0 1 (Some 3) (Some 5)
    ∷ Take 2
    ∷ Look 1 1 29
    ∷ Turn 1
    ∷ Turn 1
    ∷ Turn 1
    ∷ Retire 0 3
    ∷ Drop 0
    ∷ Turn 1
    ∷ Turn 0
    ∷ Turn 0
    ∷ Turn 0
    ∷ Turn 1
    ∷ Turn 0
    ∷ Turn 0
    ∷ Relink 0 206 None (Some 74)
    ∷ Turn 1
    ∷ Turn 0
    ∷ Take 0
    ∷ Turn 0
    ∷ Turn 1
    ∷ Turn 0
    ∷ Turn 1
    ∷ Write 0 0 (reading (2 ∷ 0 ∷ 0 ∷ 0 ∷ 74 ∷ 0 ∷ 0 ∷ 0 ∷ []))
    ∷ Turn 1
    ∷ Look 0 0 1
    ∷ Turn 0
    ∷ Turn 1
    ∷ Turn 1
    ∷ Turn 0
    ∷ Read 1 1
    ∷ Turn 0
    ∷ Look 1 1 0
    ∷ Turn 0
    ∷ Turn 0
    ∷ Turn 0
    ∷ Turn 1
    ∷ Turn 1
    ∷ Read 1 0
    ∷ Turn 0
    ∷ Read 1 2
    ∷ Take 1
    ∷ Turn 1
    ∷ Relink 0 16 None (Some 5)
    ∷ Relink 0 1 (Some 5) (Some 0)
    ∷ Turn 1
    ∷ Look 0 2 0
    ∷ Write 1 1 (reading (2 ∷ 0 ∷ 0 ∷ 0 ∷ 75 ∷ 0 ∷ 0 ∷ 0 ∷ []))
    ∷ Turn 0
    ∷ Look 1 0 0
    ∷ Turn 0
    ∷ Turn 1
    ∷ Turn 0
    ∷ Turn 1
    ∷ Turn 1
    ∷ Turn 1
    ∷ Turn 0
    ∷ Turn 0
    ∷ Turn 1
    ∷ Turn 0
    ∷ Turn 1
    ∷ Relink 1 0 (Some 6) (Some 1)
    ∷ Turn 0
    ∷ Retire 1 6
    ∷ Turn 1
    ∷ Turn 1
    ∷ Read 0 2
    ∷ Read 0 2
    ∷ Look 0 0 0
    ∷ Turn 1
    ∷ Drop 0
    ∷ Turn 0
    ∷ Turn 0
    ∷ Turn 1
    ∷ Turn 1
    ∷ Relink 1 67 (Some 18) None
    ∷ Drop 1
    ∷ Turn 1
    ∷ Turn 0
    ∷ Turn 0
    ∷ Turn 0
    ∷ Turn 0
    ∷ Look 0 1 19
    ∷ Turn 0
    ∷ Turn 0
    ∷ Turn 0
    ∷ Turn 0
    ∷ Turn 0
    ∷ Turn 0
    ∷ Turn 0
    ∷ Read 0 1
    ∷ Look 0 0 0
    ∷ Turn 1
    ∷ Turn 1
    ∷ Turn 0
    ∷ Turn 0
    ∷ Look 0 1 18
    ∷ Turn 1
    ∷ Turn 0
    ∷ Turn 1
    ∷ Turn 0
    ∷ Turn 1
    ∷ Take 1
    ∷ Turn 1
    ∷ Read 0 0
    ∷ Relink 0 0 (Some 1) None
    ∷ []

abbrev pub lines : List (Line Reading)
lines =
    prints 1 None 0
    ∷ prints 1 None 0
    ∷ prints 1 None 0
    ∷ prints 1 None 0
    ∷ prints 1 None 0
    ∷ prints 1 None 0
    ∷ prints 1 None 0
    ∷ prints 0 (Some (Block 0)) 0
    ∷ prints 1 None 0
    ∷ prints 0 None 0
    ∷ prints 0 None 0
    ∷ prints 0 None 0
    ∷ prints 1 None 0
    ∷ prints 1 None 0
    ∷ prints 1 None 0
    ∷ prints 1 None 0
    ∷ prints 1 None 0
    ∷ prints 1 None 0
    ∷ prints 1 None 0
    ∷ prints 1 None 0
    ∷ prints 0 (Some (Block 1)) 0
    ∷ prints 1 None 0
    ∷ prints 0 None 0
    ∷ prints 0 None 0
    ∷ prints 0 None 0
    ∷ prints 1 None 0
    ∷ prints 1 None 0
    ∷ prints 1 None 0
    ∷ prints 1 None 0
    ∷ prints 1 None 0
    ∷ prints 1 None 0
    ∷ prints 1 None 0
    ∷ prints 1 None 0
    ∷ prints 1 None 0
    ∷ prints 1 None 0
    ∷ prints 0 None 0
    ∷ prints 1 None 0
    ∷ prints 1 None 0
    ∷ prints 1 None 0
    ∷ prints 1 None 0
    ∷ prints 1 None 0
    ∷ prints 1 None 0
    ∷ prints 1 None 0
    ∷ prints 0 None 0
    ∷ prints 105 None 0
    ∷ prints 1 None 0
    ∷ prints 1 None 0
    ∷ prints 1 None 0
    ∷ prints 1 None 0
    ∷ prints 1 None 0
    ∷ prints 0 None 0
    ∷ prints 1 None 0
    ∷ prints 1 None 0
    ∷ prints 1 None 0
    ∷ prints 1 None 0
    ∷ prints 0 None 0
    ∷ prints 1 None 0
    ∷ prints 1 None 0
    ∷ prints 103 None 0
    ∷ prints 0 None 0
    ∷ prints 1 None 0
    ∷ prints 1 None 0
    ∷ prints 1 None 0
    ∷ prints 1 None 0
    ∷ prints 1 None 0
    ∷ prints 1 None 0
    ∷ prints 1 None 0
    ∷ prints 1 None 0
    ∷ prints 1 None 0
    ∷ prints 1 None 0
    ∷ prints 1 None 0
    ∷ prints 1 None 0
    ∷ prints 0 None 0
    ∷ prints 1 None 0
    ∷ prints 1 None 0
    ∷ prints 0 None 0
    ∷ prints 0 None 0
    ∷ prints 1 None 0
    ∷ prints 1 None 0
    ∷ prints 1 None 0
    ∷ prints 102 None 0
    ∷ prints 1 None 0
    ∷ prints 1 None 0
    ∷ prints 0 (Some (Block 2)) 0
    ∷ prints 1 None 0
    ∷ prints 1 None 0
    ∷ prints 0 None 0
    ∷ prints 1 None 0
    ∷ prints 1 None 0
    ∷ prints 1 None 0
    ∷ prints 1 None 0
    ∷ prints 1 None 0
    ∷ prints 0 None 0
    ∷ prints 1 None 0
    ∷ prints 1 None 0
    ∷ prints 103 None 0
    ∷ prints 0 None 0
    ∷ prints 1 None 0
    ∷ prints 1 None 0
    ∷ prints 1 None 0
    ∷ prints 1 None 0
    ∷ prints 0 None 0
    ∷ prints 0 None 0
    ∷ prints 1 None 0
    ∷ prints 1 None 0
    ∷ prints 0 (Some (Block 3)) 0
    ∷ prints 0 None 0
    ∷ prints 1 None 0
    ∷ prints 0 None 0
    ∷ prints 1 None 0
    ∷ prints 103 None 0
    ∷ prints 1 None 0
    ∷ prints 1 None 0
    ∷ prints 1 None 0
    ∷ prints 1 None 0
    ∷ prints 1 None 0
    ∷ prints 1 None 0
    ∷ prints 1 None 0
    ∷ prints 1 None 0
    ∷ prints 1 None 0
    ∷ prints 0 (Some (Block 2)) 0
    ∷ prints 1 None 0
    ∷ prints 0 None 0
    ∷ prints 1 None 0
    ∷ prints 1 None 0
    ∷ prints 1 None 0
    ∷ prints 1 None 0
    ∷ prints 1 None 0
    ∷ prints 1 None 0
    ∷ prints 1 None 0
    ∷ prints 1 None 0
    ∷ prints 0 None 0
    ∷ prints 0 None 0
    ∷ prints 0 (Some (Record (reading (2 ∷ 0 ∷ 0 ∷ 0 ∷ 6 ∷ 0 ∷ 0 ∷ 0 ∷ [])))) 0
    ∷ prints 0 None 0
    ∷ prints 1 None 0
    ∷ prints 0 None 0
    ∷ prints 1 None 0
    ∷ prints 1 None 0
    ∷ prints 0 (Some (Block 4)) 0
    ∷ prints 0 None 0
    ∷ prints 1 None 0
    ∷ prints 102 None 0
    ∷ prints 1 None 0
    ∷ prints 1 None 0
    ∷ prints 1 None 0
    ∷ prints 1 None 0
    ∷ prints 1 None 0
    ∷ prints 1 None 0
    ∷ prints 1 None 0
    ∷ prints 0 None 0
    ∷ prints 1 None 0
    ∷ prints 105 None 0
    ∷ prints 105 None 0
    ∷ prints 1 None 0
    ∷ prints 1 None 0
    ∷ prints 0 None 0
    ∷ prints 1 None 0
    ∷ prints 0 None 0
    ∷ prints 1 None 0
    ∷ prints 1 None 0
    ∷ prints 0 None 0
    ∷ prints 1 None 0
    ∷ prints 1 None 0
    ∷ prints 1 None 0
    ∷ prints 1 None 0
    ∷ prints 1 None 0
    ∷ prints 1 None 0
    ∷ prints 1 None 0
    ∷ prints 1 None 0
    ∷ prints 0 None 0
    ∷ prints 1 None 0
    ∷ prints 1 None 0
    ∷ prints 1 None 0
    ∷ prints 0 None 0
    ∷ prints 102 None 0
    ∷ prints 1 None 0
    ∷ prints 1 None 0
    ∷ prints 1 None 0
    ∷ prints 1 None 0
    ∷ prints 1 None 0
    ∷ prints 1 None 0
    ∷ prints 0 (Some (Block 5)) 0
    ∷ prints 1 None 0
    ∷ prints 0 None 0
    ∷ prints 0 (Some (Block 4)) 0
    ∷ prints 1 None 0
    ∷ prints 1 None 0
    ∷ prints 1 None 0
    ∷ prints 1 None 0
    ∷ prints 1 None 0
    ∷ prints 1 None 0
    ∷ prints 1 None 0
    ∷ prints 1 None 0
    ∷ prints 1 None 0
    ∷ prints 1 None 0
    ∷ prints 1 None 0
    ∷ prints 0 None 0
    ∷ prints 1 None 0
    ∷ prints 1 None 0
    ∷ prints 105 None 0
    ∷ prints 1 None 0
    ∷ prints 1 None 0
    ∷ prints 1 None 0
    ∷ prints 0 (Some (Block 4)) 0
    ∷ prints 102 None 0
    ∷ prints 0 None 0
    ∷ prints 0 (Some (Block 4)) 0
    ∷ prints 1 None 0
    ∷ prints 105 None 0
    ∷ prints 0 None 0
    ∷ prints 1 None 0
    ∷ prints 1 None 0
    ∷ prints 0 (Some (Block 5)) 0
    ∷ prints 106 None 0
    ∷ prints 0 (Some (Record (reading (2 ∷ 0 ∷ 0 ∷ 0 ∷ 10 ∷ 0 ∷ 0 ∷ 0 ∷ [])))) 0
    ∷ prints 1 None 0
    ∷ prints 112 None 0
    ∷ prints 106 None 0
    ∷ prints 1 None 0
    ∷ prints 1 None 0
    ∷ prints 1 None 0
    ∷ prints 1 None 0
    ∷ prints 1 None 0
    ∷ prints 1 None 0
    ∷ prints 0 (Some (Block 6)) 0
    ∷ prints 0 None 0
    ∷ prints 1 None 0
    ∷ prints 1 None 0
    ∷ prints 103 None 0
    ∷ prints 1 None 0
    ∷ prints 1 None 0
    ∷ prints 1 None 0
    ∷ prints 1 None 0
    ∷ prints 0 None 0
    ∷ prints 1 None 0
    ∷ prints 0 None 0
    ∷ prints 105 None 0
    ∷ prints 1 None 0
    ∷ prints 103 None 0
    ∷ prints 1 None 0
    ∷ prints 0 (Some (Block 7)) 0
    ∷ prints 1 None 0
    ∷ prints 0 None 0
    ∷ prints 1 None 0
    ∷ prints 1 None 0
    ∷ prints 1 None 0
    ∷ prints 1 None 0
    ∷ prints 1 None 0
    ∷ prints 1 None 0
    ∷ prints 1 None 0
    ∷ prints 1 None 0
    ∷ prints 1 None 0
    ∷ prints 1 None 0
    ∷ prints 0 None 0
    ∷ prints 0 None 0
    ∷ prints 1 None 0
    ∷ prints 1 None 0
    ∷ prints 0 None 0
    ∷ prints 0 (Some (Block 8)) 0
    ∷ prints 0 None 0
    ∷ prints 1 None 0
    ∷ prints 1 None 0
    ∷ prints 1 None 0
    ∷ prints 0 (Some (Block 9)) 0
    ∷ prints 0 None 0
    ∷ prints 1 None 0
    ∷ prints 1 None 0
    ∷ prints 1 None 0
    ∷ prints 1 None 0
    ∷ prints 1 None 0
    ∷ prints 1 None 0
    ∷ prints 1 None 0
    ∷ prints 1 None 0
    ∷ prints 1 None 0
    ∷ prints 1 None 0
    ∷ prints 0 (Some (Block 5)) 0
    ∷ prints 0 None 0
    ∷ prints 0 None 0
    ∷ prints 1 None 0
    ∷ prints 1 None 0
    ∷ prints 1 None 0
    ∷ prints 1 None 0
    ∷ prints 0 (Some (Block 8)) 0
    ∷ prints 1 None 0
    ∷ prints 1 None 0
    ∷ prints 1 None 0
    ∷ prints 1 None 0
    ∷ prints 1 None 0
    ∷ prints 1 None 0
    ∷ prints 1 None 0
    ∷ prints 1 None 0
    ∷ prints 1 None 0
    ∷ prints 103 None 0
    ∷ prints 1 None 0
    ∷ prints 0 None 0
    ∷ prints 0 (Some (Block 5)) 0
    ∷ prints 105 None 0
    ∷ prints 0 (Some (Record (reading (2 ∷ 0 ∷ 0 ∷ 0 ∷ 21 ∷ 0 ∷ 0 ∷ 0 ∷ [])))) 0
    ∷ prints 0 None 0
    ∷ prints 1 None 0
    ∷ prints 1 None 0
    ∷ prints 1 None 0
    ∷ prints 103 None 0
    ∷ prints 1 None 0
    ∷ prints 1 None 0
    ∷ prints 0 (Some (Block 10)) 0
    ∷ prints 1 None 0
    ∷ prints 0 None 0
    ∷ prints 1 None 0
    ∷ prints 1 None 0
    ∷ prints 1 None 0
    ∷ prints 1 None 0
    ∷ prints 1 None 0
    ∷ prints 1 None 0
    ∷ prints 0 None 0
    ∷ prints 1 None 0
    ∷ prints 1 None 0
    ∷ prints 0 (Some (Block 11)) 0
    ∷ prints 1 None 0
    ∷ prints 0 None 0
    ∷ prints 1 None 0
    ∷ prints 1 None 0
    ∷ prints 0 (Some (Block 5)) 0
    ∷ prints 1 None 0
    ∷ prints 105 None 0
    ∷ prints 0 None 0
    ∷ prints 1 None 0
    ∷ prints 1 None 0
    ∷ prints 0 None 0
    ∷ prints 1 None 0
    ∷ prints 1 None 0
    ∷ prints 1 None 0
    ∷ prints 0 (Some (Block 10)) 0
    ∷ prints 1 None 0
    ∷ prints 1 None 0
    ∷ prints 1 None 0
    ∷ prints 1 None 0
    ∷ prints 1 None 0
    ∷ prints 0 (Some (Block 10)) 0
    ∷ prints 0 None 0
    ∷ prints 0 None 0
    ∷ prints 1 None 0
    ∷ prints 1 None 4
    ∷ prints 1 None 0
    ∷ prints 1 None 0
    ∷ prints 103 None 0
    ∷ prints 1 None 0
    ∷ prints 1 None 0
    ∷ prints 0 None 0
    ∷ prints 0 (Some (Record (reading (2 ∷ 0 ∷ 0 ∷ 0 ∷ 26 ∷ 0 ∷ 0 ∷ 0 ∷ [])))) 0
    ∷ prints 112 None 0
    ∷ prints 1 None 0
    ∷ prints 0 (Some (Block 3)) 0
    ∷ prints 105 None 0
    ∷ prints 102 None 0
    ∷ prints 0 None 0
    ∷ prints 107 None 0
    ∷ prints 0 None 0
    ∷ prints 1 None 0
    ∷ prints 0 None 0
    ∷ prints 107 None 0
    ∷ prints 1 None 0
    ∷ prints 1 None 0
    ∷ prints 1 None 0
    ∷ prints 1 None 0
    ∷ prints 1 None 0
    ∷ prints 1 None 0
    ∷ prints 1 None 0
    ∷ prints 1 None 0
    ∷ prints 0 (Some (Block 11)) 0
    ∷ prints 1 None 0
    ∷ prints 1 None 0
    ∷ prints 1 None 0
    ∷ prints 1 None 0
    ∷ prints 1 None 0
    ∷ prints 1 None 0
    ∷ prints 0 None 0
    ∷ prints 1 None 0
    ∷ prints 1 None 0
    ∷ prints 1 None 0
    ∷ prints 1 None 0
    ∷ prints 1 None 0
    ∷ prints 1 None 0
    ∷ prints 1 None 0
    ∷ prints 0 (Some (Block 10)) 0
    ∷ prints 0 (Some (Record (reading (2 ∷ 0 ∷ 0 ∷ 0 ∷ 27 ∷ 0 ∷ 0 ∷ 0 ∷ [])))) 0
    ∷ prints 0 None 0
    ∷ prints 102 None 0
    ∷ prints 1 None 0
    ∷ prints 103 None 0
    ∷ prints 1 None 0
    ∷ prints 1 None 0
    ∷ prints 1 None 0
    ∷ prints 1 None 0
    ∷ prints 1 None 0
    ∷ prints 1 None 0
    ∷ prints 1 None 0
    ∷ prints 1 None 0
    ∷ prints 0 None 0
    ∷ prints 1 None 0
    ∷ prints 0 None 0
    ∷ prints 1 None 0
    ∷ prints 1 None 0
    ∷ prints 0 (Some (Block 2)) 0
    ∷ prints 1 None 0
    ∷ prints 0 None 0
    ∷ prints 1 None 0
    ∷ prints 1 None 0
    ∷ prints 1 None 0
    ∷ prints 1 None 0
    ∷ prints 1 None 0
    ∷ prints 1 None 0
    ∷ prints 1 None 0
    ∷ prints 1 None 0
    ∷ prints 1 None 0
    ∷ prints 1 None 0
    ∷ prints 0 None 0
    ∷ prints 1 None 0
    ∷ prints 1 None 0
    ∷ prints 0 (Some (Block 6)) 0
    ∷ prints 1 None 0
    ∷ prints 0 None 0
    ∷ prints 1 None 0
    ∷ prints 1 None 0
    ∷ prints 1 None 0
    ∷ prints 1 None 0
    ∷ prints 1 None 0
    ∷ prints 1 None 0
    ∷ prints 1 None 0
    ∷ prints 0 None 0
    ∷ prints 0 None 0
    ∷ prints 1 None 0
    ∷ prints 1 None 0
    ∷ prints 1 None 0
    ∷ prints 1 None 0
    ∷ prints 1 None 0
    ∷ prints 1 None 0
    ∷ prints 1 None 0
    ∷ prints 103 None 0
    ∷ prints 0 (Some (Block 9)) 0
    ∷ prints 0 None 0
    ∷ prints 1 None 0
    ∷ prints 1 None 0
    ∷ prints 1 None 0
    ∷ prints 1 None 0
    ∷ prints 1 None 0
    ∷ prints 1 None 0
    ∷ prints 1 None 0
    ∷ prints 1 None 0
    ∷ prints 0 (Some (Block 2)) 0
    ∷ prints 0 (Some (Block 10)) 0
    ∷ prints 0 None 0
    ∷ prints 0 None 0
    ∷ prints 0 None 0
    ∷ prints 0 None 0
    ∷ prints 1 None 0
    ∷ prints 1 None 0
    ∷ prints 1 None 0
    ∷ prints 1 None 0
    ∷ prints 1 None 0
    ∷ prints 1 None 0
    ∷ prints 1 None 0
    ∷ prints 0 (Some (Block 12)) 0
    ∷ prints 1 None 0
    ∷ prints 0 (Some (Block 6)) 0
    ∷ prints 0 None 0
    ∷ prints 0 None 0
    ∷ prints 1 None 0
    ∷ prints 1 None 0
    ∷ prints 1 None 0
    ∷ prints 1 None 0
    ∷ prints 1 None 0
    ∷ prints 1 None 0
    ∷ prints 1 None 0
    ∷ prints 1 None 0
    ∷ prints 1 None 0
    ∷ prints 1 None 0
    ∷ prints 0 (Some (Block 10)) 0
    ∷ prints 1 None 0
    ∷ prints 1 None 0
    ∷ prints 0 (Some (Record (reading (2 ∷ 0 ∷ 0 ∷ 0 ∷ 36 ∷ 0 ∷ 0 ∷ 0 ∷ [])))) 0
    ∷ prints 1 None 0
    ∷ prints 103 None 0
    ∷ prints 0 (Some (Block 6)) 0
    ∷ prints 0 None 0
    ∷ prints 0 None 0
    ∷ prints 1 None 0
    ∷ prints 1 None 0
    ∷ prints 1 None 0
    ∷ prints 0 (Some (Block 13)) 0
    ∷ prints 106 None 0
    ∷ prints 0 None 0
    ∷ prints 0 (Some (Record (reading (2 ∷ 0 ∷ 0 ∷ 0 ∷ 36 ∷ 0 ∷ 0 ∷ 0 ∷ [])))) 0
    ∷ prints 0 None 0
    ∷ prints 1 None 0
    ∷ prints 105 None 0
    ∷ prints 112 None 0
    ∷ prints 106 None 0
    ∷ prints 1 None 0
    ∷ prints 1 None 0
    ∷ prints 0 (Some (Block 14)) 0
    ∷ prints 0 None 0
    ∷ prints 102 None 0
    ∷ prints 1 None 0
    ∷ prints 1 None 0
    ∷ prints 1 None 0
    ∷ prints 1 None 0
    ∷ prints 1 None 0
    ∷ prints 1 None 0
    ∷ prints 1 None 0
    ∷ prints 1 None 0
    ∷ prints 1 None 0
    ∷ prints 1 None 0
    ∷ prints 0 None 0
    ∷ prints 1 None 0
    ∷ prints 1 None 0
    ∷ prints 1 None 0
    ∷ prints 1 None 0
    ∷ prints 0 (Some (Block 10)) 0
    ∷ prints 1 None 0
    ∷ prints 1 None 0
    ∷ prints 1 None 0
    ∷ prints 0 None 0
    ∷ prints 107 None 0
    ∷ prints 0 None 0
    ∷ prints 1 None 0
    ∷ prints 1 None 0
    ∷ prints 1 None 0
    ∷ prints 1 None 0
    ∷ prints 1 None 0
    ∷ prints 0 (Some (Block 15)) 0
    ∷ prints 0 None 0
    ∷ prints 1 None 0
    ∷ prints 1 None 0
    ∷ prints 102 None 0
    ∷ prints 1 None 0
    ∷ prints 1 None 0
    ∷ prints 1 None 0
    ∷ prints 1 None 0
    ∷ prints 1 None 0
    ∷ prints 1 None 0
    ∷ prints 1 None 0
    ∷ prints 0 (Some (Block 14)) 0
    ∷ prints 1 None 0
    ∷ prints 1 None 0
    ∷ prints 1 None 0
    ∷ prints 1 None 0
    ∷ prints 103 None 0
    ∷ prints 1 None 0
    ∷ prints 1 None 0
    ∷ prints 1 None 0
    ∷ prints 1 None 0
    ∷ prints 0 None 0
    ∷ prints 1 None 0
    ∷ prints 1 None 0
    ∷ prints 103 None 0
    ∷ prints 103 None 0
    ∷ prints 1 None 0
    ∷ prints 1 None 0
    ∷ prints 1 None 0
    ∷ prints 1 None 0
    ∷ prints 1 None 0
    ∷ prints 1 None 0
    ∷ prints 0 None 0
    ∷ prints 1 None 0
    ∷ prints 1 None 0
    ∷ prints 103 None 0
    ∷ prints 1 None 0
    ∷ prints 1 None 0
    ∷ prints 1 None 0
    ∷ prints 1 None 8
    ∷ prints 103 None 0
    ∷ prints 1 None 0
    ∷ prints 1 None 0
    ∷ prints 1 None 0
    ∷ prints 1 None 0
    ∷ prints 0 None 0
    ∷ prints 1 None 0
    ∷ prints 0 (Some (Block 9)) 0
    ∷ prints 1 None 0
    ∷ prints 1 None 0
    ∷ prints 1 None 0
    ∷ prints 105 None 0
    ∷ prints 0 (Some (Record (reading (2 ∷ 0 ∷ 0 ∷ 0 ∷ 38 ∷ 0 ∷ 0 ∷ 0 ∷ [])))) 0
    ∷ prints 1 None 0
    ∷ prints 1 None 0
    ∷ prints 1 None 0
    ∷ prints 1 None 0
    ∷ prints 0 (Some (Record (reading (2 ∷ 0 ∷ 0 ∷ 0 ∷ 38 ∷ 0 ∷ 0 ∷ 0 ∷ [])))) 0
    ∷ prints 1 None 0
    ∷ prints 1 None 0
    ∷ prints 0 (Some (Block 9)) 0
    ∷ prints 105 None 0
    ∷ prints 0 (Some (Block 9)) 0
    ∷ prints 0 (Some (Record (reading (2 ∷ 0 ∷ 0 ∷ 0 ∷ 38 ∷ 0 ∷ 0 ∷ 0 ∷ [])))) 0
    ∷ prints 105 None 0
    ∷ prints 0 (Some (Record (reading (2 ∷ 0 ∷ 0 ∷ 0 ∷ 38 ∷ 0 ∷ 0 ∷ 0 ∷ [])))) 0
    ∷ prints 105 None 0
    ∷ prints 105 None 0
    ∷ prints 1 None 0
    ∷ prints 105 None 0
    ∷ prints 0 (Some (Record (reading (2 ∷ 0 ∷ 0 ∷ 0 ∷ 38 ∷ 0 ∷ 0 ∷ 0 ∷ [])))) 0
    ∷ prints 1 None 0
    ∷ prints 1 None 0
    ∷ prints 1 None 0
    ∷ prints 1 None 0
    ∷ prints 1 None 0
    ∷ prints 1 None 0
    ∷ prints 0 (Some (Block 0)) 0
    ∷ prints 1 None 0
    ∷ prints 0 None 0
    ∷ prints 103 None 0
    ∷ prints 0 None 0
    ∷ prints 0 None 0
    ∷ prints 107 None 0
    ∷ prints 1 None 0
    ∷ prints 0 None 0
    ∷ prints 1 None 0
    ∷ prints 1 None 0
    ∷ prints 0 (Some (Block 1)) 0
    ∷ prints 0 None 0
    ∷ prints 1 None 0
    ∷ prints 1 None 0
    ∷ prints 102 None 0
    ∷ prints 1 None 0
    ∷ prints 103 None 0
    ∷ prints 0 (Some (Block 4)) 0
    ∷ prints 0 None 0
    ∷ prints 1 None 0
    ∷ prints 1 None 0
    ∷ prints 1 None 0
    ∷ prints 1 None 0
    ∷ prints 1 None 0
    ∷ prints 1 None 0
    ∷ prints 1 None 0
    ∷ prints 1 None 0
    ∷ prints 1 None 0
    ∷ prints 1 None 0
    ∷ prints 1 None 0
    ∷ prints 1 None 0
    ∷ prints 0 None 0
    ∷ prints 103 None 0
    ∷ prints 0 None 0
    ∷ prints 0 None 0
    ∷ prints 1 None 0
    ∷ prints 1 None 0
    ∷ prints 0 None 0
    ∷ prints 1 None 0
    ∷ prints 0 None 0
    ∷ prints 1 None 0
    ∷ prints 1 None 0
    ∷ prints 1 None 0
    ∷ prints 0 None 0
    ∷ prints 1 None 0
    ∷ prints 1 None 0
    ∷ prints 0 (Some (Block 8)) 0
    ∷ prints 0 None 0
    ∷ prints 0 None 0
    ∷ prints 1 None 0
    ∷ prints 1 None 0
    ∷ prints 1 None 0
    ∷ prints 1 None 0
    ∷ prints 1 None 0
    ∷ prints 1 None 0
    ∷ prints 1 None 0
    ∷ prints 1 None 0
    ∷ prints 0 None 0
    ∷ prints 1 None 0
    ∷ prints 1 None 0
    ∷ prints 1 None 0
    ∷ prints 1 None 0
    ∷ prints 1 None 0
    ∷ prints 1 None 0
    ∷ prints 1 None 0
    ∷ prints 1 None 0
    ∷ prints 1 None 0
    ∷ prints 0 None 0
    ∷ prints 1 None 0
    ∷ prints 0 None 0
    ∷ prints 1 None 0
    ∷ prints 1 None 0
    ∷ prints 1 None 0
    ∷ prints 1 None 0
    ∷ prints 0 (Some (Block 4)) 0
    ∷ prints 1 None 0
    ∷ prints 1 None 0
    ∷ prints 1 None 0
    ∷ prints 1 None 0
    ∷ prints 1 None 0
    ∷ prints 1 None 0
    ∷ prints 1 None 0
    ∷ prints 1 None 0
    ∷ prints 1 None 0
    ∷ prints 1 None 0
    ∷ prints 0 None 0
    ∷ prints 1 None 0
    ∷ prints 1 None 0
    ∷ prints 1 None 0
    ∷ prints 0 None 0
    ∷ prints 0 (Some (Record (reading (2 ∷ 0 ∷ 0 ∷ 0 ∷ 59 ∷ 0 ∷ 0 ∷ 0 ∷ [])))) 0
    ∷ prints 0 None 0
    ∷ prints 1 None 0
    ∷ prints 0 None 0
    ∷ prints 1 None 0
    ∷ prints 1 None 0
    ∷ prints 1 None 0
    ∷ prints 0 None 0
    ∷ prints 1 None 0
    ∷ prints 1 None 0
    ∷ prints 1 None 0
    ∷ prints 0 None 0
    ∷ prints 1 None 0
    ∷ prints 105 None 0
    ∷ prints 0 None 0
    ∷ prints 0 None 0
    ∷ prints 106 None 0
    ∷ prints 1 None 0
    ∷ prints 1 None 0
    ∷ prints 1 None 0
    ∷ prints 1 None 0
    ∷ prints 1 None 0
    ∷ prints 103 None 0
    ∷ prints 1 None 0
    ∷ prints 1 None 0
    ∷ prints 0 None 0
    ∷ prints 105 None 0
    ∷ prints 1 None 0
    ∷ prints 1 None 0
    ∷ prints 1 None 0
    ∷ prints 1 None 0
    ∷ prints 0 (Some (Block 3)) 0
    ∷ prints 0 (Some (Block 6)) 0
    ∷ prints 0 None 0
    ∷ prints 1 None 0
    ∷ prints 0 None 0
    ∷ prints 1 None 0
    ∷ prints 1 None 0
    ∷ prints 1 None 0
    ∷ prints 1 None 0
    ∷ prints 1 None 0
    ∷ prints 1 None 0
    ∷ prints 1 None 0
    ∷ prints 1 None 0
    ∷ prints 1 None 0
    ∷ prints 1 None 0
    ∷ prints 1 None 0
    ∷ prints 1 None 0
    ∷ prints 0 None 0
    ∷ prints 0 None 0
    ∷ prints 1 None 0
    ∷ prints 0 None 0
    ∷ prints 0 None 0
    ∷ prints 1 None 0
    ∷ prints 112 None 0
    ∷ prints 1 None 0
    ∷ prints 1 None 0
    ∷ prints 0 None 0
    ∷ prints 1 None 0
    ∷ prints 1 None 0
    ∷ prints 1 None 0
    ∷ prints 1 None 0
    ∷ prints 0 None 0
    ∷ prints 1 None 4
    ∷ prints 0 None 0
    ∷ prints 105 None 0
    ∷ prints 1 None 0
    ∷ prints 0 None 0
    ∷ prints 105 None 0
    ∷ prints 1 None 0
    ∷ prints 103 None 0
    ∷ prints 1 None 0
    ∷ prints 1 None 0
    ∷ prints 0 (Some (Block 5)) 0
    ∷ prints 0 (Some (Block 12)) 0
    ∷ prints 0 None 0
    ∷ prints 0 None 0
    ∷ prints 1 None 0
    ∷ prints 0 None 0
    ∷ prints 1 None 0
    ∷ prints 1 None 0
    ∷ prints 1 None 0
    ∷ prints 1 None 0
    ∷ prints 1 None 0
    ∷ prints 1 None 0
    ∷ prints 1 None 0
    ∷ prints 1 None 0
    ∷ prints 102 None 0
    ∷ prints 1 None 0
    ∷ prints 1 None 0
    ∷ prints 0 (Some (Block 6)) 0
    ∷ prints 1 None 0
    ∷ prints 1 None 0
    ∷ prints 0 (Some (Block 3)) 0
    ∷ prints 0 None 0
    ∷ prints 102 None 0
    ∷ prints 1 None 0
    ∷ prints 1 None 0
    ∷ prints 1 None 0
    ∷ prints 1 None 0
    ∷ prints 0 None 0
    ∷ prints 1 None 0
    ∷ prints 1 None 0
    ∷ prints 1 None 0
    ∷ prints 1 None 0
    ∷ prints 1 None 0
    ∷ prints 1 None 0
    ∷ prints 1 None 0
    ∷ prints 1 None 0
    ∷ prints 103 None 0
    ∷ prints 1 None 0
    ∷ prints 0 None 0
    ∷ prints 1 None 0
    ∷ prints 1 None 0
    ∷ prints 1 None 0
    ∷ prints 0 (Some (Block 0)) 0
    ∷ prints 1 None 0
    ∷ prints 0 None 0
    ∷ prints 1 None 0
    ∷ prints 1 None 0
    ∷ prints 1 None 0
    ∷ prints 1 None 0
    ∷ prints 0 None 0
    ∷ prints 1 None 0
    ∷ prints 105 None 0
    ∷ prints 1 None 0
    ∷ prints 1 None 0
    ∷ prints 1 None 0
    ∷ prints 1 None 0
    ∷ prints 1 None 0
    ∷ prints 1 None 0
    ∷ prints 0 (Some (Block 6)) 0
    ∷ prints 0 (Some (Record (reading (2 ∷ 0 ∷ 0 ∷ 0 ∷ 63 ∷ 0 ∷ 0 ∷ 0 ∷ [])))) 0
    ∷ prints 0 (Some (Block 5)) 0
    ∷ prints 105 None 0
    ∷ prints 1 None 0
    ∷ prints 1 None 0
    ∷ prints 0 None 0
    ∷ prints 0 None 0
    ∷ prints 0 (Some (Block 1)) 0
    ∷ prints 1 None 0
    ∷ prints 0 None 0
    ∷ prints 1 None 0
    ∷ prints 1 None 0
    ∷ prints 1 None 0
    ∷ prints 1 None 0
    ∷ prints 1 None 0
    ∷ prints 1 None 0
    ∷ prints 1 None 0
    ∷ prints 1 None 0
    ∷ prints 1 None 0
    ∷ prints 1 None 0
    ∷ prints 1 None 0
    ∷ prints 1 None 0
    ∷ prints 0 (Some (Block 6)) 0
    ∷ prints 0 None 0
    ∷ prints 0 (Some (Block 6)) 0
    ∷ prints 1 None 0
    ∷ prints 1 None 0
    ∷ prints 1 None 0
    ∷ prints 0 (Some (Record (reading (2 ∷ 0 ∷ 0 ∷ 0 ∷ 63 ∷ 0 ∷ 0 ∷ 0 ∷ [])))) 0
    ∷ prints 0 (Some (Record (reading (2 ∷ 0 ∷ 0 ∷ 0 ∷ 63 ∷ 0 ∷ 0 ∷ 0 ∷ [])))) 0
    ∷ prints 1 None 0
    ∷ prints 1 None 0
    ∷ prints 103 None 0
    ∷ prints 1 None 0
    ∷ prints 1 None 0
    ∷ prints 1 None 0
    ∷ prints 0 None 0
    ∷ prints 105 None 0
    ∷ prints 1 None 0
    ∷ prints 1 None 0
    ∷ prints 1 None 0
    ∷ prints 1 None 0
    ∷ prints 1 None 0
    ∷ prints 0 (Some (Block 1)) 0
    ∷ prints 1 None 0
    ∷ prints 1 None 0
    ∷ prints 1 None 0
    ∷ prints 1 None 0
    ∷ prints 1 None 0
    ∷ prints 1 None 0
    ∷ prints 1 None 0
    ∷ prints 0 None 0
    ∷ prints 105 None 0
    ∷ prints 1 None 0
    ∷ prints 1 None 0
    ∷ prints 1 None 0
    ∷ prints 1 None 0
    ∷ prints 0 (Some (Block 1)) 0
    ∷ prints 1 None 0
    ∷ prints 1 None 0
    ∷ prints 1 None 0
    ∷ prints 1 None 0
    ∷ prints 0 None 0
    ∷ prints 0 None 0
    ∷ prints 1 None 0
    ∷ prints 1 None 0
    ∷ prints 0 (Some (Record (reading (2 ∷ 0 ∷ 0 ∷ 0 ∷ 75 ∷ 0 ∷ 0 ∷ 0 ∷ [])))) 0
    ∷ prints 0 None 0
    ∷ []

abbrev pub scenario : Scenario
scenario = record { puts = stack; form = form; calls = calls; lines = lines }

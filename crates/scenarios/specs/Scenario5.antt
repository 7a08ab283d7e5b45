-- The run scenario-5 of an independent model: its calls, and the lines that it prints. Made by tools/scenario.
use Rattle.std.specs.Prelude.{List, [], ◌∷◌, Some, None}
use Rattle.figures.specs.declared.limits.Form.{Form}
use Rattle.records.specs.declared.readings.Reading.{Reading}
use Rattle.machine.specs.declared.calls.Call.{Call}
use Rattle.machine.specs.declared.calls.Call.TheVariants.{Take, Look, Drop, Retire, Relink, Write, Read, Turn}
use Rattle.machine.specs.declared.calls.Value.TheVariants.{Block, Record}
use Rattle.machine.specs.Runs.{Line}
use Rattle.scenarios.specs.Lines.{Scenario, stack, reading, prints}

abbrev pub form : Form
form = record { workers = 8; holds = 3; blocks = 30; live = 15; taking_period = 2; trying_period = 1; starting_era = 1 }

abbrev pub calls : List (Call Reading)
calls =
    Drop 2
    ∷ Turn 3
    ∷ Look 0 0 0
    ∷ Look 4 0 0
    ∷ Drop 3
    ∷ Turn 0
    ∷ Turn 2
    ∷ Turn 4
    ∷ Turn 4
    ∷ Turn 0
    ∷ Drop 5
    ∷ Look 7 0 1
    ∷ Turn 7
    ∷ Turn 0
    ∷ Turn 0
    ∷ Turn 5
    ∷ Turn 0
    ∷ Take 6
    ∷ Take 9
    ∷ Turn 5
    ∷ Turn 0
    ∷ Take 1
    ∷ Turn 2
    ∷ Turn 1
    ∷ Turn 5
    ∷ Turn 1
    ∷ Turn 4
    ∷ Turn 2
    ∷ Write 1 0 (reading (2 ∷ 0 ∷ 0 ∷ 0 ∷ 3 ∷ 0 ∷ 0 ∷ 0 ∷ []))
    ∷ Turn 0
    ∷ Turn 5
    ∷ Turn 7
    ∷ Retire 2 21
    ∷ Turn 0
    ∷ Turn 4
    ∷ Turn 2
    ∷ Turn 7
    ∷ Turn 5
    ∷ Turn 4
    ∷ Turn 2
    ∷ Turn 2
    ∷ Turn 7
    ∷ Look 2 0 1
    ∷ Retire 1 0
    ∷ Turn 5
    ∷ Turn 0
    ∷ Take 5
    ∷ Turn 7
    ∷ Turn 4
    ∷ Turn 5
    ∷ Turn 0
    ∷ Turn 4
    ∷ Turn 4
    ∷ Turn 5
    ∷ Write 5 1 (reading (2 ∷ 0 ∷ 0 ∷ 0 ∷ 5 ∷ 0 ∷ 0 ∷ 0 ∷ []))
    ∷ Look 5 0 1
    ∷ Turn 2
    ∷ Turn 7
    ∷ Turn 5
    ∷ Turn 2
    ∷ Turn 5
    ∷ Turn 7
    ∷ Turn 1
    ∷ Turn 6
    ∷ Turn 6
    ∷ Turn 4
    ∷ Turn 0
    ∷ Turn 7
    ∷ Turn 2
    ∷ Turn 2
    ∷ Turn 0
    ∷ Turn 3
    ∷ Turn 2
    ∷ Turn 2
    ∷ Turn 0
    ∷ Turn 5
    ∷ Look 1 0 1
    ∷ Turn 5
    ∷ Turn 4
    ∷ Turn 1
    ∷ Turn 5
    ∷ Turn 4
    ∷ Turn 5
    ∷ Turn 4
    ∷ Turn 2
    ∷ Turn 5
    ∷ Look 2 0 0
    ∷ Relink 5 1 None (Some 1)
    ∷ Turn 0
    ∷ Take 5
    ∷ Turn 5
    ∷ Write 6 2 (reading (2 ∷ 0 ∷ 0 ∷ 0 ∷ 6 ∷ 0 ∷ 0 ∷ 0 ∷ []))
    ∷ Turn 7
    ∷ Look 6 0 0
    ∷ Turn 2
    ∷ Turn 4
    ∷ Turn 4
    ∷ Write 6 3 (reading (2 ∷ 0 ∷ 0 ∷ 0 ∷ 7 ∷ 0 ∷ 0 ∷ 0 ∷ []))
    ∷ Turn 0
    ∷ Turn 4
    ∷ Turn 7
    ∷ Turn 3
    ∷ Turn 2
    ∷ Read 4 2
    ∷ Drop 1
    ∷ Turn 7
    ∷ Turn 1
    ∷ Drop 3
    ∷ Read 0 2
    ∷ Read 4 1
    ∷ Read 4 1
    ∷ Turn 7
    ∷ Take 2
    ∷ Turn 1
    ∷ Look 4 0 0
    ∷ Turn 5
    ∷ Turn 1
    ∷ Take 3
    ∷ Take 6
    ∷ Write 5 3 (reading (2 ∷ 0 ∷ 0 ∷ 0 ∷ 12 ∷ 0 ∷ 0 ∷ 0 ∷ []))
    ∷ Turn 7
    ∷ Look 5 0 0
    ∷ Turn 2
    ∷ Turn 2
    ∷ Turn 4
    ∷ Turn 3
    ∷ Turn 3
    ∷ Turn 4
    ∷ Write 2 4 (reading (2 ∷ 0 ∷ 0 ∷ 0 ∷ 13 ∷ 0 ∷ 0 ∷ 0 ∷ []))
    ∷ Turn 7
    ∷ Retire 2 4
    ∷ Read 0 0
    ∷ Read 0 0
    ∷ Turn 7
    ∷ Turn 7
    ∷ Turn 5
    ∷ Drop 0
    ∷ Turn 2
    ∷ Turn 6
    ∷ Turn 3
    ∷ Turn 1
    ∷ Turn 7
    ∷ Turn 2
    ∷ Turn 6
    ∷ Turn 3
    ∷ Turn 5
    ∷ Turn 6
    ∷ Turn 5
    ∷ Turn 6
    ∷ Turn 5
    ∷ Drop 3
    ∷ Write 1 21 (reading (2 ∷ 0 ∷ 0 ∷ 0 ∷ 14 ∷ 0 ∷ 0 ∷ 0 ∷ []))
    ∷ Turn 5
    ∷ Turn 1
    ∷ Turn 2
    ∷ Turn 6
    ∷ Turn 7
    ∷ Turn 4
    ∷ Turn 2
    ∷ Drop 3
    ∷ Turn 7
    ∷ Take 9
    ∷ Look 7 1 18
    ∷ Turn 3
    ∷ Turn 3
    ∷ Turn 6
    ∷ Take 7
    ∷ Turn 3
    ∷ Turn 7
    ∷ Turn 3
    ∷ Turn 3
    ∷ Turn 6
    ∷ Turn 3
    ∷ Turn 5
    ∷ Turn 1
    ∷ Turn 2
    ∷ Take 3
    ∷ Turn 2
    ∷ Turn 4
    ∷ Turn 3
    ∷ Turn 2
    ∷ Turn 1
    ∷ Turn 4
    ∷ Relink 5 0 None (Some 3)
    ∷ Turn 1
    ∷ Turn 1
    ∷ Turn 3
    ∷ Turn 7
    ∷ Turn 0
    ∷ Turn 4
    ∷ Turn 1
    ∷ Take 5
    ∷ Turn 4
    ∷ Turn 2
    ∷ Turn 7
    ∷ Turn 0
    ∷ Relink 6 0 None (Some 2)
    ∷ Drop 6
    ∷ Turn 4
    ∷ Turn 4
    ∷ Turn 5
    ∷ Turn 1
    ∷ Read 0 0
    ∷ Read 5 3
    ∷ Turn 7
    ∷ Turn 7
    ∷ Turn 2
    ∷ Turn 2
    ∷ Turn 7
    ∷ Turn 1
    ∷ Turn 6
    ∷ Write 3 5 (reading (2 ∷ 0 ∷ 0 ∷ 0 ∷ 21 ∷ 0 ∷ 0 ∷ 0 ∷ []))
    ∷ Look 3 0 1
    ∷ Turn 5
    ∷ Turn 3
    ∷ Turn 3
    ∷ Write 5 6 (reading (2 ∷ 0 ∷ 0 ∷ 0 ∷ 22 ∷ 0 ∷ 0 ∷ 0 ∷ []))
    ∷ Retire 5 6
    ∷ Turn 3
    ∷ Turn 0
    ∷ Turn 6
    ∷ Turn 2
    ∷ Turn 7
    ∷ Turn 1
    ∷ Turn 1
    ∷ Turn 4
    ∷ Turn 3
    ∷ Turn 5
    ∷ Read 7 0
    ∷ Turn 1
    ∷ Turn 6
    ∷ Turn 1
    ∷ Turn 2
    ∷ Turn 0
    ∷ Turn 0
    ∷ Turn 6
    ∷ Turn 6
    ∷ Turn 0
    ∷ Turn 6
    ∷ Take 0
    ∷ Turn 4
    ∷ Turn 0
    ∷ Turn 5
    ∷ Write 6 2 (reading (2 ∷ 0 ∷ 0 ∷ 0 ∷ 23 ∷ 0 ∷ 0 ∷ 0 ∷ []))
    ∷ Write 1 28 (reading (2 ∷ 0 ∷ 0 ∷ 0 ∷ 24 ∷ 0 ∷ 0 ∷ 0 ∷ []))
    ∷ Turn 0
    ∷ Look 6 0 1
    ∷ Turn 3
    ∷ Turn 5
    ∷ Turn 1
    ∷ Turn 5
    ∷ Turn 1
    ∷ Turn 4
    ∷ Turn 1
    ∷ Turn 2
    ∷ Turn 6
    ∷ Turn 3
    ∷ Turn 6
    ∷ Turn 6
    ∷ Turn 3
    ∷ Turn 4
    ∷ Take 5
    ∷ Turn 1
    ∷ Drop 2
    ∷ Turn 5
    ∷ Write 0 7 (reading (2 ∷ 0 ∷ 0 ∷ 0 ∷ 25 ∷ 0 ∷ 0 ∷ 0 ∷ []))
    ∷ Turn 1
    ∷ Relink 7 1 (Some 1) None
    ∷ Turn 3
    ∷ Retire 7 1
    ∷ Retire 0 7
    ∷ Turn 2
    ∷ Turn 5
    ∷ Turn 1
    ∷ Turn 7
    ∷ Turn 2
    ∷ Look 1 1 0
    ∷ Write 5 8 (reading (2 ∷ 0 ∷ 0 ∷ 0 ∷ 26 ∷ 0 ∷ 0 ∷ 0 ∷ []))
    ∷ Turn 3
    ∷ Turn 7
    ∷ Turn 1
    ∷ Look 5 0 0
    ∷ Turn 0
    ∷ Turn 5
    ∷ Turn 1
    ∷ Drop 4
    ∷ Turn 6
    ∷ Turn 1
    ∷ Turn 0
    ∷ Turn 3
    ∷ Turn 1
    ∷ Turn 1
    ∷ Turn 6
    ∷ Turn 6
    ∷ Turn 3
    ∷ Turn 5
    ∷ Look 1 0 32
    ∷ Look 7 3 65
    ∷ Turn 0
    ∷ Turn 6
    ∷ Relink 6 20 None None
    ∷ Look 6 2 24
    ∷ Turn 4
    ∷ Turn 5
    ∷ Turn 1
    ∷ Turn 7
    ∷ Read 6 2
    ∷ Drop 0
    ∷ Turn 1
    ∷ Relink 6 1 None (Some 2)
    ∷ Turn 5
    ∷ Turn 7
    ∷ Relink 3 1 None (Some 5)
    ∷ Turn 2
    ∷ Turn 0
    ∷ Turn 2
    ∷ Read 0 0
    ∷ Look 0 0 0
    ∷ Turn 5
    ∷ Turn 4
    ∷ Look 6 0 0
    ∷ Look 1 0 1
    ∷ Turn 4
    ∷ Turn 5
    ∷ Turn 2
    ∷ Turn 1
    ∷ Write 3 5 (reading (2 ∷ 0 ∷ 0 ∷ 0 ∷ 34 ∷ 0 ∷ 0 ∷ 0 ∷ []))
    ∷ Turn 1
    ∷ Turn 2
    ∷ Relink 5 32 None (Some 3)
    ∷ Turn 4
    ∷ Look 2 0 1
    ∷ Turn 0
    ∷ Turn 6
    ∷ Look 3 0 0
    ∷ Look 7 0 0
    ∷ Turn 0
    ∷ Relink 5 0 (Some 3) (Some 8)
    ∷ Turn 0
    ∷ Turn 7
    ∷ Turn 6
    ∷ Read 1 2
    ∷ Read 1 2
    ∷ Turn 4
    ∷ Look 4 1 22
    ∷ Turn 4
    ∷ Relink 5 0 (Some 8) None
    ∷ Turn 3
    ∷ Retire 5 3
    ∷ Turn 3
    ∷ Turn 2
    ∷ Relink 1 0 None None
    ∷ Turn 2
    ∷ Turn 2
    ∷ Turn 7
    ∷ Look 5 0 1
    ∷ Turn 4
    ∷ Relink 3 26 None None
    ∷ Turn 2
    ∷ Turn 4
    ∷ Turn 4
    ∷ Relink 3 0 None (Some 5)
    ∷ Turn 5
    ∷ Turn 4
    ∷ Retire 1 2
    ∷ Look 1 0 1
    ∷ Turn 1
    ∷ Turn 4
    ∷ Drop 2
    ∷ Turn 5
    ∷ Look 6 1 22
    ∷ Take 8
    ∷ Look 5 1 20
    ∷ Turn 1
    ∷ Look 1 1 20
    ∷ Take 3
    ∷ Turn 1
    ∷ Turn 6
    ∷ Turn 4
    ∷ Turn 7
    ∷ Relink 6 67 None None
    ∷ Read 4 0
    ∷ Relink 4 0 (Some 3) None
    ∷ Retire 4 3
    ∷ Turn 6
    ∷ Turn 1
    ∷ Turn 3
    ∷ Read 1 0
    ∷ Turn 3
    ∷ Turn 2
    ∷ Turn 7
    ∷ Turn 7
    ∷ Turn 2
    ∷ Turn 7
    ∷ Take 4
    ∷ Write 3 9 (reading (2 ∷ 0 ∷ 0 ∷ 0 ∷ 39 ∷ 0 ∷ 0 ∷ 0 ∷ []))
    ∷ Look 7 1 26
    ∷ Turn 7
    ∷ Turn 4
    ∷ Turn 0
    ∷ Turn 2
    ∷ Turn 4
    ∷ Turn 2
    ∷ Retire 3 9
    ∷ Retire 0 26
    ∷ Turn 7
    ∷ Turn 7
    ∷ Write 5 5 (reading (2 ∷ 0 ∷ 0 ∷ 0 ∷ 41 ∷ 0 ∷ 0 ∷ 0 ∷ []))
    ∷ Turn 6
    ∷ Turn 3
    ∷ Turn 0
    ∷ Turn 3
    ∷ Turn 5
    ∷ Write 4 10 (reading (2 ∷ 0 ∷ 0 ∷ 0 ∷ 42 ∷ 0 ∷ 0 ∷ 0 ∷ []))
    ∷ Turn 5
    ∷ Turn 7
    ∷ Turn 0
    ∷ Turn 0
    ∷ Look 0 1 26
    ∷ Turn 3
    ∷ Relink 1 1 (Some 2) None
    ∷ Turn 7
    ∷ Turn 7
    ∷ Read 1 1
    ∷ Retire 1 2
    ∷ Look 6 1 49
    ∷ Turn 2
    ∷ Read 7 0
    ∷ Turn 0
    ∷ Turn 3
    ∷ Look 4 0 0
    ∷ Drop 3
    ∷ Turn 3
    ∷ Turn 4
    ∷ Turn 0
    ∷ Turn 2
    ∷ Turn 1
    ∷ Turn 6
    ∷ Turn 2
    ∷ Read 2 3
    ∷ Turn 0
    ∷ Turn 5
    ∷ Relink 7 0 (Some 5) None
    ∷ Retire 7 5
    ∷ Turn 5
    ∷ Turn 6
    ∷ Turn 6
    ∷ Turn 0
    ∷ Turn 4
    ∷ Turn 1
    ∷ Turn 7
    ∷ Turn 5
    ∷ Turn 5
    ∷ Read 5 0
    ∷ Turn 0
    ∷ Turn 1
    ∷ Turn 1
    ∷ Look 1 3 38
    ∷ Turn 4
    ∷ Turn 4
    ∷ Turn 6
    ∷ Take 1
    ∷ Turn 1
    ∷ Turn 3
    ∷ Turn 1
    ∷ Write 1 11 (reading (2 ∷ 0 ∷ 0 ∷ 0 ∷ 47 ∷ 0 ∷ 0 ∷ 0 ∷ []))
    ∷ Relink 5 64 (Some 16) None
    ∷ Read 6 1
    ∷ Look 6 0 0
    ∷ Look 1 0 1
    ∷ Turn 0
    ∷ Relink 5 1 (Some 2) None
    ∷ Turn 1
    ∷ Turn 7
    ∷ Turn 1
    ∷ Turn 6
    ∷ Take 2
    ∷ Take 7
    ∷ Retire 5 2
    ∷ Look 5 0 0
    ∷ Turn 7
    ∷ Turn 5
    ∷ Turn 5
    ∷ Turn 1
    ∷ Turn 7
    ∷ Turn 2
    ∷ Write 7 12 (reading (2 ∷ 0 ∷ 0 ∷ 0 ∷ 50 ∷ 0 ∷ 0 ∷ 0 ∷ []))
    ∷ Turn 2
    ∷ Read 0 0
    ∷ Turn 6
    ∷ Turn 3
    ∷ Turn 6
    ∷ Look 7 0 0
    ∷ Read 6 0
    ∷ Turn 5
    ∷ Relink 0 28 (Some 10) (Some 7)
    ∷ Read 0 1
    ∷ Turn 4
    ∷ Turn 4
    ∷ Turn 6
    ∷ Turn 7
    ∷ Turn 4
    ∷ Turn 3
    ∷ Turn 3
    ∷ Turn 1
    ∷ Relink 0 0 (Some 5) None
    ∷ Retire 0 5
    ∷ Turn 1
    ∷ Turn 3
    ∷ Take 3
    ∷ Turn 6
    ∷ Turn 4
    ∷ Turn 4
    ∷ Look 0 0 0
    ∷ Turn 4
    ∷ Turn 3
    ∷ Turn 3
    ∷ Write 2 13 (reading (2 ∷ 0 ∷ 0 ∷ 0 ∷ 54 ∷ 0 ∷ 0 ∷ 0 ∷ []))
    ∷ Turn 1
    ∷ Turn 7
    ∷ Turn 7
    ∷ Relink 4 36 None None
    ∷ Retire 2 13
    ∷ Turn 1
    ∷ Turn 5
    ∷ Turn 0
    ∷ Turn 2
    ∷ Relink 4 0 None (Some 10)
    ∷ Turn 7
    ∷ Turn 5
    ∷ Turn 7
    ∷ Write 3 14 (reading (2 ∷ 0 ∷ 0 ∷ 0 ∷ 55 ∷ 0 ∷ 0 ∷ 0 ∷ []))
    ∷ Turn 7
    ∷ Turn 0
    ∷ Turn 2
    ∷ Drop 4
    ∷ Turn 1
    ∷ Turn 0
    ∷ Turn 4
    ∷ Turn 6
    ∷ Turn 4
    ∷ Turn 6
    ∷ Drop 2
    ∷ Look 3 0 1
    ∷ Turn 4
    ∷ Turn 2
    ∷ Turn 2
    ∷ Turn 3
    ∷ Turn 0
    ∷ Turn 3
    ∷ Relink 7 40 None (Some 10)
    ∷ Turn 2
    ∷ Relink 7 0 (Some 10) (Some 12)
    ∷ Take 7
    ∷ Turn 3
    ∷ Turn 3
    ∷ Turn 1
    ∷ Turn 7
    ∷ Turn 0
    ∷ Read 2 3
    ∷ Turn 6
    ∷ Turn 5
    ∷ Turn 2
    ∷ Turn 7
    ∷ Relink 5 32 (Some 8) None
    ∷ Turn 1
    ∷ Write 7 15 (reading (2 ∷ 0 ∷ 0 ∷ 0 ∷ 58 ∷ 0 ∷ 0 ∷ 0 ∷ []))
    ∷ Turn 4
    ∷ Relink 6 45 None None
    ∷ Turn 4
    ∷ Write 4 10 (reading (2 ∷ 0 ∷ 0 ∷ 0 ∷ 60 ∷ 0 ∷ 0 ∷ 0 ∷ []))
    ∷ Read 6 0
    ∷ Turn 4
    ∷ Turn 6
    ∷ Turn 0
    ∷ Look 4 0 0
    ∷ Turn 3
    ∷ Relink 1 1 None (Some 11)
    ∷ Turn 3
    ∷ Turn 6
    ∷ Look 7 0 0
    ∷ Turn 5
    ∷ Look 0 3 43
    ∷ Turn 7
    ∷ Take 1
    ∷ Take 0
    ∷ Look 6 1 40
    ∷ Turn 7
    ∷ Relink 7 0 (Some 12) (Some 15)
    ∷ Turn 2
    ∷ Turn 2
    ∷ Retire 7 12
    ∷ Turn 7
    ∷ Turn 7
    ∷ Turn 5
    ∷ Turn 3
    ∷ Turn 4
    ∷ Turn 5
    ∷ Turn 0
    ∷ Turn 5
    ∷ Drop 2
    ∷ Look 5 1 46
    ∷ Turn 6
    ∷ Relink 3 44 None (Some 11)
    ∷ Turn 0
    ∷ Read 0 2
    ∷ Read 6 0
    ∷ Turn 7
    ∷ Turn 1
    ∷ Relink 3 1 (Some 11) (Some 14)
    ∷ Relink 6 0 (Some 12) None
    ∷ Drop 0
    ∷ Turn 5
    ∷ Turn 5
    ∷ Turn 4
    ∷ Turn 2
    ∷ Turn 0
    ∷ Turn 5
    ∷ Turn 7
    ∷ Turn 4
    ∷ Turn 2
    ∷ Look 7 0 1
    ∷ Relink 3 0 (Some 15) None
    ∷ Turn 1
    ∷ Turn 2
    ∷ Turn 5
    ∷ Turn 0
    ∷ Turn 5
    ∷ Write 1 17 (reading (2 ∷ 0 ∷ 0 ∷ 0 ∷ 64 ∷ 0 ∷ 0 ∷ 0 ∷ []))
    ∷ Turn 2
    ∷ Turn 5
    ∷ Retire 3 11
    ∷ Turn 2
    ∷ Turn 7
    ∷ Retire 6 12
    ∷ Read 5 0
    ∷ Relink 5 0 (Some 15) None
    ∷ Turn 4
    ∷ Turn 7
    ∷ Look 3 0 0
    ∷ Look 1 0 1
    ∷ Take 6
    ∷ Retire 5 15
    ∷ Turn 7
    ∷ Turn 0
    ∷ Turn 5
    ∷ Turn 4
    ∷ Turn 3
    ∷ Turn 1
    ∷ Turn 1
    ∷ Turn 2
    ∷ Turn 3
    ∷ Turn 6
    ∷ Turn 7
    ∷ Turn 3
    ∷ Turn 7
    ∷ Turn 4
    ∷ Turn 1
    ∷ Turn 3
    ∷ Turn 3
    ∷ Turn 6
    ∷ Turn 7
    ∷ Turn 3
    ∷ Look 7 1 44
    ∷ Relink 7 4 None (Some 11)
    ∷ Turn 7
    ∷ Drop 3
    ∷ Write 6 18 (reading (2 ∷ 0 ∷ 0 ∷ 0 ∷ 66 ∷ 0 ∷ 0 ∷ 0 ∷ []))
    ∷ Turn 0
    ∷ Turn 7
    ∷ Turn 5
    ∷ Look 6 0 0
    ∷ Turn 5
    ∷ Turn 1
    ∷ Turn 1
    ∷ Drop 2
    ∷ Turn 3
    ∷ Turn 3
    ∷ Turn 3
    ∷ Turn 4
    ∷ Turn 6
    ∷ Turn 6
    ∷ Turn 5
    ∷ Read 2 2
    ∷ Turn 2
    ∷ Turn 0
    ∷ Turn 1
    ∷ Turn 5
    ∷ Relink 1 1 (Some 14) (Some 17)
    ∷ Turn 7
    ∷ Turn 0
    ∷ Turn 3
    ∷ Drop 0
    ∷ Retire 1 30
    ∷ Turn 3
    ∷ Turn 6
    ∷ Turn 0
    ∷ Look 4 0 0
    ∷ Turn 0
    ∷ Turn 6
    ∷ Turn 2
    ∷ Turn 4
    ∷ Retire 1 14
    ∷ Turn 4
    ∷ Take 5
    ∷ Turn 2
    ∷ Turn 2
    ∷ Drop 5
    ∷ Turn 5
    ∷ Turn 7
    ∷ Turn 3
    ∷ Turn 7
    ∷ Take 3
    ∷ Read 4 2
    ∷ Turn 3
    ∷ Turn 6
    ∷ Turn 0
    ∷ Turn 6
    ∷ Turn 1
    ∷ Turn 0
    ∷ Turn 5
    ∷ Turn 1
    ∷ Read 7 0
    ∷ Turn 6
    ∷ Turn 1
    ∷ Read 4 2
    ∷ Relink 7 1 (Some 14) None
    ∷ Turn 3
    ∷ Take 4
    ∷ Write 5 19 (reading (2 ∷ 0 ∷ 0 ∷ 0 ∷ 70 ∷ 0 ∷ 0 ∷ 0 ∷ []))
    ∷ Turn 4
    ∷ Turn 4
    ∷ Write 4 21 (reading (2 ∷ 0 ∷ 0 ∷ 0 ∷ 71 ∷ 0 ∷ 0 ∷ 0 ∷ []))
    ∷ Write 3 20 (reading (2 ∷ 0 ∷ 0 ∷ 0 ∷ 72 ∷ 0 ∷ 0 ∷ 0 ∷ []))
    ∷ Turn 1
    ∷ Look 4 0 0
    ∷ Turn 4
    ∷ Turn 1
    ∷ Turn 6
    ∷ Retire 7 14
    ∷ Turn 1
    ∷ Retire 5 19
    ∷ Retire 3 20
    ∷ Turn 4
    ∷ Drop 7
    ∷ Turn 4
    ∷ Turn 1
    ∷ Turn 2
    ∷ Turn 1
    ∷ Turn 6
    ∷ Turn 4
    ∷ Turn 7
    ∷ Turn 0
    ∷ Turn 1
    ∷ Turn 5
    ∷ Turn 7
    ∷ Turn 4
    ∷ Turn 1
    ∷ Turn 5
    ∷ Turn 5
    ∷ Turn 2
    ∷ Turn 4
    ∷ Turn 3
    ∷ Look 2 0 1
    ∷ Turn 6
    ∷ Turn 7
    ∷ Turn 2
    ∷ Turn 0
    ∷ Turn 2
    ∷ Turn 5
    ∷ Look 0 2 1
    ∷ Turn 0
    ∷ Turn 7
    ∷ Turn 2
    ∷ Turn 7
    ∷ Turn 2
    ∷ Turn 3
    ∷ Turn 7
    ∷ Turn 5
    ∷ Turn 1
    ∷ Relink 4 58 None None
    ∷ Turn 2
    ∷ Turn 1
    ∷ Relink 6 0 None (Some 18)
    ∷ Turn 3
    ∷ Drop 7
    ∷ Relink 4 0 None (Some 21)
    ∷ Relink 7 70 None None
    ∷ Turn 3
    ∷ Look 6 0 1
    ∷ Turn 5
    ∷ Turn 3
    ∷ Take 3
    ∷ Turn 5
    ∷ Turn 6
    ∷ Look 4 0 1
    ∷ Turn 4
    ∷ Take 5
    ∷ Turn 2
    ∷ Turn 6
    ∷ Turn 4
    ∷ Turn 0
    ∷ Turn 2
    ∷ Turn 5
    ∷ Turn 3
    ∷ Look 6 1 50
    ∷ Turn 3
    ∷ Turn 7
    ∷ Write 3 22 (reading (2 ∷ 0 ∷ 0 ∷ 0 ∷ 74 ∷ 0 ∷ 0 ∷ 0 ∷ []))
    ∷ Look 2 1 50
    ∷ Look 4 1 50
    ∷ Turn 1
    ∷ Turn 5
    ∷ Turn 6
    ∷ Turn 0
    ∷ Write 5 23 (reading (2 ∷ 0 ∷ 0 ∷ 0 ∷ 75 ∷ 0 ∷ 0 ∷ 0 ∷ []))
    ∷ Turn 6
    ∷ Turn 0
    ∷ Turn 4
    ∷ Look 1 0 0
    ∷ Drop 1
    ∷ Turn 1
    ∷ Turn 6
    ∷ Look 5 0 1
    ∷ Look 3 0 0
    ∷ Turn 1
    ∷ Turn 2
    ∷ Turn 4
    ∷ Turn 4
    ∷ Turn 2
    ∷ Turn 2
    ∷ Turn 5
    ∷ Turn 3
    ∷ Turn 2
    ∷ Turn 7
    ∷ Turn 2
    ∷ Turn 2
    ∷ Turn 4
    ∷ Turn 3
    ∷ Turn 6
    ∷ Turn 0
    ∷ Turn 2
    ∷ Turn 4
    ∷ Look 7 3 39
    ∷ Turn 3
    ∷ Turn 4
    ∷ Read 2 0
    ∷ Turn 3
    ∷ Turn 5
    ∷ Turn 6
    ∷ Turn 5
    ∷ Relink 2 1 (Some 17) None
    ∷ Turn 5
    ∷ Turn 6
    ∷ Turn 3
    ∷ Turn 0
    ∷ Turn 3
    ∷ Turn 1
    ∷ Retire 2 17
    ∷ Turn 3
    ∷ Turn 2
    ∷ Read 6 0
    ∷ Relink 6 1 (Some 17) None
    ∷ Turn 7
    ∷ Turn 7
    ∷ Take 4
    ∷ Turn 1
    ∷ Turn 5
    ∷ Turn 4
    ∷ Turn 0
    ∷ Relink 3 0 (Some 18) (Some 22)
    ∷ Turn 5
    ∷ Turn 0
    ∷ Read 4 1
    ∷ Turn 2
    ∷ Relink 5 62 None None
    ∷ Relink 5 1 None (Some 23)
    ∷ Retire 3 18
    ∷ Drop 5
    ∷ Turn 3
    ∷ Relink 4 1 (Some 23) None
    ∷ Retire 4 17
    ∷ Turn 3
    ∷ Drop 4
    ∷ Turn 7
    ∷ Turn 4
    ∷ Turn 7
    ∷ Take 7
    ∷ Turn 4
    ∷ Retire 6 17
    ∷ Turn 4
    ∷ Turn 3
    ∷ Turn 7
    ∷ Read 0 2
    ∷ Take 6
    ∷ Turn 3
    ∷ Turn 2
    ∷ Turn 3
    ∷ Turn 2
    ∷ Turn 6
    ∷ []

abbrev pub lines : List (Line Reading)
lines =
    prints 1 None 0
    ∷ prints 104 None 0
    ∷ prints 1 None 0
    ∷ prints 1 None 0
    ∷ prints 1 None 0
    ∷ prints 1 None 0
    ∷ prints 1 None 0
    ∷ prints 1 None 0
    ∷ prints 1 None 0
    ∷ prints 1 None 0
    ∷ prints 1 None 0
    ∷ prints 1 None 0
    ∷ prints 1 None 0
    ∷ prints 1 None 0
    ∷ prints 1 None 0
    ∷ prints 1 None 0
    ∷ prints 1 None 0
    ∷ prints 1 None 0
    ∷ prints 102 None 0
    ∷ prints 1 None 0
    ∷ prints 1 None 0
    ∷ prints 1 None 0
    ∷ prints 1 None 0
    ∷ prints 1 None 0
    ∷ prints 1 None 0
    ∷ prints 0 (Some (Block 0)) 0
    ∷ prints 1 None 0
    ∷ prints 1 None 0
    ∷ prints 0 None 0
    ∷ prints 1 None 0
    ∷ prints 1 None 0
    ∷ prints 1 None 0
    ∷ prints 103 None 0
    ∷ prints 1 None 0
    ∷ prints 1 None 0
    ∷ prints 1 None 0
    ∷ prints 1 None 0
    ∷ prints 1 None 0
    ∷ prints 1 None 0
    ∷ prints 1 None 0
    ∷ prints 0 None 0
    ∷ prints 1 None 0
    ∷ prints 1 None 0
    ∷ prints 1 None 0
    ∷ prints 0 None 0
    ∷ prints 1 None 0
    ∷ prints 1 None 0
    ∷ prints 1 None 0
    ∷ prints 1 None 0
    ∷ prints 1 None 0
    ∷ prints 1 None 0
    ∷ prints 1 None 0
    ∷ prints 1 None 0
    ∷ prints 0 (Some (Block 1)) 0
    ∷ prints 0 None 0
    ∷ prints 1 None 0
    ∷ prints 1 None 0
    ∷ prints 1 None 0
    ∷ prints 1 None 0
    ∷ prints 1 None 0
    ∷ prints 1 None 0
    ∷ prints 1 None 0
    ∷ prints 0 None 0
    ∷ prints 1 None 0
    ∷ prints 0 (Some (Block 2)) 0
    ∷ prints 1 None 0
    ∷ prints 1 None 0
    ∷ prints 1 None 0
    ∷ prints 1 None 0
    ∷ prints 1 None 0
    ∷ prints 1 None 0
    ∷ prints 1 None 0
    ∷ prints 1 None 0
    ∷ prints 1 None 0
    ∷ prints 1 None 0
    ∷ prints 1 None 0
    ∷ prints 1 None 0
    ∷ prints 1 None 0
    ∷ prints 1 None 0
    ∷ prints 1 None 0
    ∷ prints 1 None 0
    ∷ prints 1 None 0
    ∷ prints 1 None 0
    ∷ prints 1 None 0
    ∷ prints 0 None 0
    ∷ prints 0 None 0
    ∷ prints 1 None 0
    ∷ prints 0 None 0
    ∷ prints 1 None 0
    ∷ prints 1 None 0
    ∷ prints 1 None 0
    ∷ prints 0 None 0
    ∷ prints 1 None 0
    ∷ prints 1 None 0
    ∷ prints 1 None 0
    ∷ prints 1 None 0
    ∷ prints 1 None 0
    ∷ prints 103 None 0
    ∷ prints 0 None 0
    ∷ prints 0 None 0
    ∷ prints 1 None 0
    ∷ prints 1 None 0
    ∷ prints 0 None 0
    ∷ prints 105 None 0
    ∷ prints 103 None 0
    ∷ prints 1 None 0
    ∷ prints 1 None 0
    ∷ prints 103 None 0
    ∷ prints 105 None 0
    ∷ prints 105 None 0
    ∷ prints 105 None 0
    ∷ prints 1 None 0
    ∷ prints 1 None 0
    ∷ prints 1 None 0
    ∷ prints 1 None 0
    ∷ prints 0 (Some (Block 3)) 0
    ∷ prints 1 None 0
    ∷ prints 103 None 0
    ∷ prints 103 None 0
    ∷ prints 0 None 0
    ∷ prints 1 None 0
    ∷ prints 1 None 0
    ∷ prints 1 None 0
    ∷ prints 0 (Some (Block 4)) 0
    ∷ prints 1 None 0
    ∷ prints 1 None 0
    ∷ prints 1 None 0
    ∷ prints 1 None 0
    ∷ prints 0 None 0
    ∷ prints 1 None 0
    ∷ prints 1 None 0
    ∷ prints 105 None 0
    ∷ prints 105 None 0
    ∷ prints 1 None 0
    ∷ prints 1 None 0
    ∷ prints 1 None 0
    ∷ prints 1 None 0
    ∷ prints 1 None 0
    ∷ prints 1 None 0
    ∷ prints 1 None 0
    ∷ prints 1 None 0
    ∷ prints 1 None 0
    ∷ prints 1 None 0
    ∷ prints 1 None 0
    ∷ prints 0 None 0
    ∷ prints 1 None 0
    ∷ prints 1 None 0
    ∷ prints 1 None 0
    ∷ prints 1 None 0
    ∷ prints 1 None 0
    ∷ prints 1 None 0
    ∷ prints 103 None 0
    ∷ prints 1 None 0
    ∷ prints 1 None 0
    ∷ prints 1 None 0
    ∷ prints 1 None 0
    ∷ prints 1 None 0
    ∷ prints 1 None 0
    ∷ prints 1 None 0
    ∷ prints 103 None 0
    ∷ prints 0 (Some (Block 1)) 0
    ∷ prints 102 None 0
    ∷ prints 1 None 0
    ∷ prints 1 None 0
    ∷ prints 1 None 0
    ∷ prints 1 None 0
    ∷ prints 103 None 0
    ∷ prints 1 None 0
    ∷ prints 1 None 0
    ∷ prints 1 None 0
    ∷ prints 1 None 0
    ∷ prints 0 None 0
    ∷ prints 0 None 0
    ∷ prints 0 None 0
    ∷ prints 1 None 0
    ∷ prints 1 None 0
    ∷ prints 1 None 0
    ∷ prints 1 None 0
    ∷ prints 1 None 0
    ∷ prints 1 None 0
    ∷ prints 1 None 0
    ∷ prints 1 None 0
    ∷ prints 1 None 0
    ∷ prints 0 None 0
    ∷ prints 1 None 0
    ∷ prints 1 None 0
    ∷ prints 0 (Some (Block 5)) 0
    ∷ prints 1 None 0
    ∷ prints 1 None 0
    ∷ prints 1 None 0
    ∷ prints 1 None 0
    ∷ prints 1 None 0
    ∷ prints 1 None 0
    ∷ prints 1 None 0
    ∷ prints 1 None 0
    ∷ prints 1 None 0
    ∷ prints 112 None 0
    ∷ prints 1 None 0
    ∷ prints 1 None 0
    ∷ prints 1 None 0
    ∷ prints 1 None 0
    ∷ prints 1 None 0
    ∷ prints 103 None 0
    ∷ prints 102 None 0
    ∷ prints 1 None 0
    ∷ prints 1 None 0
    ∷ prints 1 None 0
    ∷ prints 1 None 0
    ∷ prints 1 None 0
    ∷ prints 1 None 0
    ∷ prints 1 None 0
    ∷ prints 0 None 0
    ∷ prints 1 None 0
    ∷ prints 0 (Some (Block 6)) 0
    ∷ prints 1 None 0
    ∷ prints 1 None 0
    ∷ prints 0 None 0
    ∷ prints 1 None 0
    ∷ prints 1 None 0
    ∷ prints 1 None 0
    ∷ prints 1 None 0
    ∷ prints 1 None 0
    ∷ prints 0 None 0
    ∷ prints 1 None 0
    ∷ prints 1 None 0
    ∷ prints 1 None 0
    ∷ prints 1 None 0
    ∷ prints 1 None 0
    ∷ prints 0 (Some (Record (reading (2 ∷ 0 ∷ 0 ∷ 0 ∷ 5 ∷ 0 ∷ 0 ∷ 0 ∷ [])))) 0
    ∷ prints 1 None 0
    ∷ prints 1 None 0
    ∷ prints 1 None 0
    ∷ prints 1 None 0
    ∷ prints 1 None 0
    ∷ prints 1 None 0
    ∷ prints 1 None 0
    ∷ prints 1 None 0
    ∷ prints 0 None 0
    ∷ prints 0 None 0
    ∷ prints 1 None 0
    ∷ prints 1 None 0
    ∷ prints 1 None 0
    ∷ prints 1 None 0
    ∷ prints 0 None 0
    ∷ prints 103 None 0
    ∷ prints 0 (Some (Block 7)) 0
    ∷ prints 1 None 0
    ∷ prints 1 None 0
    ∷ prints 1 None 0
    ∷ prints 1 None 0
    ∷ prints 0 None 0
    ∷ prints 1 None 0
    ∷ prints 1 None 0
    ∷ prints 1 None 0
    ∷ prints 0 None 0
    ∷ prints 1 None 0
    ∷ prints 1 None 0
    ∷ prints 1 None 0
    ∷ prints 1 None 0
    ∷ prints 1 None 0
    ∷ prints 1 None 0
    ∷ prints 1 None 0
    ∷ prints 1 None 0
    ∷ prints 1 None 0
    ∷ prints 1 None 0
    ∷ prints 0 None 0
    ∷ prints 1 None 0
    ∷ prints 0 None 0
    ∷ prints 1 None 0
    ∷ prints 1 None 0
    ∷ prints 1 None 0
    ∷ prints 1 None 0
    ∷ prints 0 (Some (Block 8)) 0
    ∷ prints 0 (Some (Block 1)) 0
    ∷ prints 1 None 0
    ∷ prints 1 None 0
    ∷ prints 1 None 0
    ∷ prints 0 None 0
    ∷ prints 1 None 0
    ∷ prints 1 None 0
    ∷ prints 1 None 0
    ∷ prints 1 None 0
    ∷ prints 1 None 0
    ∷ prints 1 None 0
    ∷ prints 1 None 0
    ∷ prints 103 None 0
    ∷ prints 1 None 0
    ∷ prints 1 None 0
    ∷ prints 1 None 0
    ∷ prints 1 None 0
    ∷ prints 1 None 0
    ∷ prints 1 None 0
    ∷ prints 1 None 0
    ∷ prints 1 None 0
    ∷ prints 0 None 0
    ∷ prints 1 None 0
    ∷ prints 103 None 0
    ∷ prints 102 None 0
    ∷ prints 1 None 0
    ∷ prints 0 None 0
    ∷ prints 0 None 0
    ∷ prints 105 None 0
    ∷ prints 1 None 0
    ∷ prints 1 None 0
    ∷ prints 1 None 0
    ∷ prints 1 None 0
    ∷ prints 105 None 0
    ∷ prints 103 None 0
    ∷ prints 0 (Some (Block 3)) 0
    ∷ prints 0 None 0
    ∷ prints 1 None 0
    ∷ prints 0 None 0
    ∷ prints 112 None 0
    ∷ prints 1 None 0
    ∷ prints 0 None 0
    ∷ prints 1 None 0
    ∷ prints 105 None 0
    ∷ prints 1 None 0
    ∷ prints 1 None 0
    ∷ prints 1 None 0
    ∷ prints 1 None 0
    ∷ prints 1 None 0
    ∷ prints 1 None 0
    ∷ prints 0 (Some (Block 3)) 0
    ∷ prints 1 None 0
    ∷ prints 1 None 0
    ∷ prints 0 None 0
    ∷ prints 0 (Some (Block 2)) 0
    ∷ prints 0 None 0
    ∷ prints 0 None 0
    ∷ prints 1 None 0
    ∷ prints 1 None 0
    ∷ prints 1 None 0
    ∷ prints 1 None 0
    ∷ prints 1 None 0
    ∷ prints 1 None 0
    ∷ prints 1 None 0
    ∷ prints 0 None 0
    ∷ prints 1 None 0
    ∷ prints 1 None 0
    ∷ prints 0 (Some (Block 3)) 0
    ∷ prints 105 None 0
    ∷ prints 105 None 0
    ∷ prints 0 (Some (Block 3)) 0
    ∷ prints 1 None 0
    ∷ prints 1 None 0
    ∷ prints 0 None 0
    ∷ prints 1 None 0
    ∷ prints 107 None 0
    ∷ prints 0 None 0
    ∷ prints 1 None 0
    ∷ prints 0 None 0
    ∷ prints 1 None 0
    ∷ prints 1 None 0
    ∷ prints 1 None 0
    ∷ prints 1 None 0
    ∷ prints 1 None 0
    ∷ prints 0 None 0
    ∷ prints 1 None 0
    ∷ prints 1 None 0
    ∷ prints 1 None 0
    ∷ prints 0 None 0
    ∷ prints 1 None 0
    ∷ prints 1 None 0
    ∷ prints 107 None 0
    ∷ prints 1 None 0
    ∷ prints 1 None 0
    ∷ prints 1 None 0
    ∷ prints 103 None 0
    ∷ prints 0 (Some (Block 2)) 0
    ∷ prints 1 None 0
    ∷ prints 102 None 0
    ∷ prints 1 None 0
    ∷ prints 0 (Some (Block 2)) 0
    ∷ prints 1 None 0
    ∷ prints 1 None 0
    ∷ prints 1 None 0
    ∷ prints 1 None 0
    ∷ prints 0 None 0
    ∷ prints 1 None 0
    ∷ prints 103 None 0
    ∷ prints 0 (Some (Record (reading (2 ∷ 0 ∷ 0 ∷ 0 ∷ 12 ∷ 0 ∷ 0 ∷ 0 ∷ [])))) 0
    ∷ prints 112 None 0
    ∷ prints 107 None 0
    ∷ prints 1 None 0
    ∷ prints 0 None 0
    ∷ prints 1 None 0
    ∷ prints 0 (Some (Record (reading (2 ∷ 0 ∷ 0 ∷ 0 ∷ 23 ∷ 0 ∷ 0 ∷ 0 ∷ [])))) 0
    ∷ prints 0 (Some (Block 9)) 0
    ∷ prints 1 None 0
    ∷ prints 1 None 0
    ∷ prints 1 None 0
    ∷ prints 1 None 0
    ∷ prints 0 (Some (Block 5)) 0
    ∷ prints 1 None 0
    ∷ prints 0 None 0
    ∷ prints 1 None 0
    ∷ prints 1 None 0
    ∷ prints 1 None 0
    ∷ prints 1 None 0
    ∷ prints 1 None 0
    ∷ prints 0 (Some (Block 10)) 0
    ∷ prints 1 None 0
    ∷ prints 1 None 0
    ∷ prints 103 None 0
    ∷ prints 1 None 0
    ∷ prints 1 None 0
    ∷ prints 103 None 0
    ∷ prints 1 None 0
    ∷ prints 1 None 0
    ∷ prints 1 None 0
    ∷ prints 1 None 0
    ∷ prints 1 None 0
    ∷ prints 0 None 0
    ∷ prints 1 None 0
    ∷ prints 1 None 0
    ∷ prints 1 None 0
    ∷ prints 0 (Some (Block 5)) 0
    ∷ prints 1 None 0
    ∷ prints 1 None 0
    ∷ prints 0 None 0
    ∷ prints 1 None 0
    ∷ prints 0 None 0
    ∷ prints 105 None 0
    ∷ prints 1 None 0
    ∷ prints 103 None 0
    ∷ prints 1 None 0
    ∷ prints 0 (Some (Record (reading (2 ∷ 0 ∷ 0 ∷ 0 ∷ 34 ∷ 0 ∷ 0 ∷ 0 ∷ [])))) 0
    ∷ prints 1 None 0
    ∷ prints 0 None 0
    ∷ prints 1 None 0
    ∷ prints 1 None 0
    ∷ prints 1 None 0
    ∷ prints 1 None 0
    ∷ prints 1 None 0
    ∷ prints 1 None 0
    ∷ prints 1 None 0
    ∷ prints 1 None 0
    ∷ prints 0 None 0
    ∷ prints 102 None 0
    ∷ prints 1 None 0
    ∷ prints 1 None 0
    ∷ prints 0 None 0
    ∷ prints 1 None 0
    ∷ prints 1 None 0
    ∷ prints 1 None 0
    ∷ prints 1 None 0
    ∷ prints 1 None 0
    ∷ prints 1 None 0
    ∷ prints 1 None 0
    ∷ prints 1 None 0
    ∷ prints 1 None 0
    ∷ prints 106 None 0
    ∷ prints 0 (Some (Record (reading (2 ∷ 0 ∷ 0 ∷ 0 ∷ 23 ∷ 0 ∷ 0 ∷ 0 ∷ [])))) 0
    ∷ prints 1 None 0
    ∷ prints 1 None 0
    ∷ prints 0 None 0
    ∷ prints 102 None 0
    ∷ prints 1 None 0
    ∷ prints 1 None 0
    ∷ prints 0 None 0
    ∷ prints 1 None 0
    ∷ prints 1 None 0
    ∷ prints 1 None 0
    ∷ prints 0 (Some (Block 11)) 0
    ∷ prints 0 None 0
    ∷ prints 105 None 0
    ∷ prints 105 None 0
    ∷ prints 1 None 0
    ∷ prints 1 None 0
    ∷ prints 106 None 0
    ∷ prints 112 None 0
    ∷ prints 1 None 0
    ∷ prints 0 None 0
    ∷ prints 1 None 0
    ∷ prints 1 None 0
    ∷ prints 1 None 0
    ∷ prints 1 None 0
    ∷ prints 106 None 0
    ∷ prints 1 None 0
    ∷ prints 1 None 0
    ∷ prints 1 None 0
    ∷ prints 1 None 0
    ∷ prints 1 None 0
    ∷ prints 0 (Some (Block 12)) 0
    ∷ prints 1 None 0
    ∷ prints 0 None 0
    ∷ prints 0 (Some (Block 13)) 0
    ∷ prints 0 (Some (Record (reading (2 ∷ 0 ∷ 0 ∷ 0 ∷ 34 ∷ 0 ∷ 0 ∷ 0 ∷ [])))) 0
    ∷ prints 1 None 0
    ∷ prints 1 None 0
    ∷ prints 1 None 0
    ∷ prints 1 None 0
    ∷ prints 103 None 0
    ∷ prints 1 None 0
    ∷ prints 105 None 0
    ∷ prints 105 None 0
    ∷ prints 1 None 0
    ∷ prints 1 None 0
    ∷ prints 1 None 0
    ∷ prints 1 None 0
    ∷ prints 1 None 0
    ∷ prints 1 None 0
    ∷ prints 1 None 0
    ∷ prints 1 None 0
    ∷ prints 112 None 0
    ∷ prints 106 None 0
    ∷ prints 1 None 0
    ∷ prints 0 None 0
    ∷ prints 1 None 0
    ∷ prints 1 None 0
    ∷ prints 1 None 0
    ∷ prints 1 None 0
    ∷ prints 1 None 0
    ∷ prints 0 None 0
    ∷ prints 1 None 0
    ∷ prints 0 (Some (Block 14)) 0
    ∷ prints 0 None 0
    ∷ prints 1 None 0
    ∷ prints 1 None 0
    ∷ prints 1 None 0
    ∷ prints 0 None 0
    ∷ prints 1 None 0
    ∷ prints 1 None 0
    ∷ prints 1 None 0
    ∷ prints 1 None 0
    ∷ prints 1 None 0
    ∷ prints 0 None 0
    ∷ prints 1 None 0
    ∷ prints 1 None 0
    ∷ prints 1 None 0
    ∷ prints 0 None 0
    ∷ prints 0 (Some (Block 10)) 0
    ∷ prints 1 None 0
    ∷ prints 0 None 0
    ∷ prints 1 None 0
    ∷ prints 1 None 0
    ∷ prints 1 None 0
    ∷ prints 1 None 0
    ∷ prints 1 None 0
    ∷ prints 1 None 0
    ∷ prints 1 None 0
    ∷ prints 1 None 0
    ∷ prints 1 None 0
    ∷ prints 1 None 0
    ∷ prints 1 None 0
    ∷ prints 1 None 0
    ∷ prints 1 None 0
    ∷ prints 1 None 0
    ∷ prints 1 None 0
    ∷ prints 0 None 0
    ∷ prints 1 None 0
    ∷ prints 0 None 0
    ∷ prints 1 None 0
    ∷ prints 1 None 0
    ∷ prints 1 None 0
    ∷ prints 1 None 0
    ∷ prints 1 None 0
    ∷ prints 1 None 0
    ∷ prints 102 None 0
    ∷ prints 1 None 0
    ∷ prints 1 None 0
    ∷ prints 1 None 0
    ∷ prints 0 (Some (Block 15)) 0
    ∷ prints 103 None 0
    ∷ prints 0 None 0
    ∷ prints 0 None 0
    ∷ prints 1 None 0
    ∷ prints 103 None 0
    ∷ prints 1 None 0
    ∷ prints 103 None 0
    ∷ prints 103 None 0
    ∷ prints 0 None 0
    ∷ prints 1 None 0
    ∷ prints 0 (Some (Block 12)) 0
    ∷ prints 1 None 0
    ∷ prints 1 None 0
    ∷ prints 0 None 0
    ∷ prints 1 None 0
    ∷ prints 0 (Some (Block 12)) 0
    ∷ prints 1 None 0
    ∷ prints 1 None 0
    ∷ prints 102 None 0
    ∷ prints 1 None 0
    ∷ prints 1 None 0
    ∷ prints 1 None 0
    ∷ prints 1 None 0
    ∷ prints 0 (Some (Block 12)) 0
    ∷ prints 0 None 0
    ∷ prints 1 None 0
    ∷ prints 0 None 0
    ∷ prints 1 None 0
    ∷ prints 1 None 0
    ∷ prints 1 None 0
    ∷ prints 1 None 0
    ∷ prints 0 (Some (Block 11)) 0
    ∷ prints 1 None 0
    ∷ prints 1 None 0
    ∷ prints 1 None 0
    ∷ prints 0 (Some (Block 15)) 0
    ∷ prints 1 None 0
    ∷ prints 1 None 0
    ∷ prints 106 None 0
    ∷ prints 0 None 0
    ∷ prints 0 (Some (Block 16)) 0
    ∷ prints 105 None 0
    ∷ prints 0 (Some (Record (reading (2 ∷ 0 ∷ 0 ∷ 0 ∷ 50 ∷ 0 ∷ 0 ∷ 0 ∷ [])))) 0
    ∷ prints 1 None 0
    ∷ prints 1 None 0
    ∷ prints 0 None 0
    ∷ prints 112 None 0
    ∷ prints 1 None 0
    ∷ prints 1 None 0
    ∷ prints 1 None 0
    ∷ prints 1 None 0
    ∷ prints 1 None 0
    ∷ prints 1 None 0
    ∷ prints 1 None 0
    ∷ prints 0 None 0
    ∷ prints 1 None 0
    ∷ prints 1 None 0
    ∷ prints 1 None 0
    ∷ prints 0 None 0
    ∷ prints 0 (Some (Block 17)) 0
    ∷ prints 1 None 0
    ∷ prints 1 None 0
    ∷ prints 1 None 0
    ∷ prints 1 None 0
    ∷ prints 0 None 0
    ∷ prints 1 None 0
    ∷ prints 0 None 0
    ∷ prints 107 None 0
    ∷ prints 1 None 0
    ∷ prints 1 None 0
    ∷ prints 106 None 0
    ∷ prints 0 (Some (Record (reading (2 ∷ 0 ∷ 0 ∷ 0 ∷ 58 ∷ 0 ∷ 0 ∷ 0 ∷ [])))) 0
    ∷ prints 112 None 0
    ∷ prints 1 None 0
    ∷ prints 1 None 0
    ∷ prints 1 None 0
    ∷ prints 1 None 0
    ∷ prints 1 None 0
    ∷ prints 1 None 0
    ∷ prints 1 None 0
    ∷ prints 1 None 0
    ∷ prints 1 None 0
    ∷ prints 1 None 0
    ∷ prints 1 None 0
    ∷ prints 1 None 0
    ∷ prints 1 None 0
    ∷ prints 0 None 0
    ∷ prints 1 None 0
    ∷ prints 1 None 0
    ∷ prints 1 None 0
    ∷ prints 1 None 0
    ∷ prints 1 None 0
    ∷ prints 1 None 0
    ∷ prints 1 None 0
    ∷ prints 1 None 0
    ∷ prints 1 None 0
    ∷ prints 0 (Some (Block 18)) 0
    ∷ prints 0 (Some (Block 14)) 0
    ∷ prints 0 None 0
    ∷ prints 1 None 0
    ∷ prints 103 None 0
    ∷ prints 1 None 0
    ∷ prints 1 None 0
    ∷ prints 0 None 0
    ∷ prints 1 None 0
    ∷ prints 1 None 0
    ∷ prints 1 None 0
    ∷ prints 1 None 0
    ∷ prints 1 None 0
    ∷ prints 1 None 0
    ∷ prints 1 None 0
    ∷ prints 1 None 0
    ∷ prints 1 None 0
    ∷ prints 1 None 0
    ∷ prints 1 None 0
    ∷ prints 0 None 0
    ∷ prints 1 None 0
    ∷ prints 1 None 0
    ∷ prints 1 None 0
    ∷ prints 103 None 0
    ∷ prints 1 None 0
    ∷ prints 1 None 0
    ∷ prints 0 (Some (Block 14)) 0
    ∷ prints 0 None 0
    ∷ prints 0 None 0
    ∷ prints 1 None 0
    ∷ prints 0 None 0
    ∷ prints 1 None 0
    ∷ prints 1 None 0
    ∷ prints 102 None 0
    ∷ prints 1 None 0
    ∷ prints 1 None 0
    ∷ prints 1 None 0
    ∷ prints 1 None 0
    ∷ prints 1 None 0
    ∷ prints 1 None 0
    ∷ prints 1 None 0
    ∷ prints 1 None 0
    ∷ prints 1 None 0
    ∷ prints 0 None 0
    ∷ prints 1 None 0
    ∷ prints 1 None 0
    ∷ prints 1 None 0
    ∷ prints 103 None 0
    ∷ prints 1 None 0
    ∷ prints 1 None 0
    ∷ prints 0 None 0
    ∷ prints 106 None 0
    ∷ prints 1 None 0
    ∷ prints 105 None 0
    ∷ prints 1 None 0
    ∷ prints 1 None 0
    ∷ prints 1 None 0
    ∷ prints 1 None 0
    ∷ prints 1 None 0
    ∷ prints 1 None 0
    ∷ prints 0 (Some (Block 19)) 0
    ∷ prints 1 None 0
    ∷ prints 0 (Some (Record (reading (2 ∷ 0 ∷ 0 ∷ 0 ∷ 55 ∷ 0 ∷ 0 ∷ 0 ∷ [])))) 0
    ∷ prints 1 None 0
    ∷ prints 1 None 0
    ∷ prints 105 None 0
    ∷ prints 112 None 0
    ∷ prints 0 (Some (Block 20)) 0
    ∷ prints 1 None 0
    ∷ prints 0 None 0
    ∷ prints 1 None 0
    ∷ prints 0 (Some (Block 21)) 0
    ∷ prints 0 None 0
    ∷ prints 0 None 0
    ∷ prints 1 None 0
    ∷ prints 1 None 0
    ∷ prints 1 None 0
    ∷ prints 1 None 0
    ∷ prints 1 None 0
    ∷ prints 106 None 0
    ∷ prints 1 None 0
    ∷ prints 1 None 0
    ∷ prints 1 None 0
    ∷ prints 1 None 0
    ∷ prints 1 None 0
    ∷ prints 1 None 0
    ∷ prints 1 None 0
    ∷ prints 1 None 0
    ∷ prints 1 None 0
    ∷ prints 1 None 0
    ∷ prints 1 None 0
    ∷ prints 1 None 0
    ∷ prints 1 None 0
    ∷ prints 1 None 0
    ∷ prints 1 None 0
    ∷ prints 1 None 0
    ∷ prints 1 None 0
    ∷ prints 1 None 0
    ∷ prints 1 None 0
    ∷ prints 1 None 0
    ∷ prints 0 None 0
    ∷ prints 0 None 0
    ∷ prints 1 None 0
    ∷ prints 1 None 0
    ∷ prints 0 None 0
    ∷ prints 1 None 0
    ∷ prints 1 None 0
    ∷ prints 0 None 0
    ∷ prints 1 None 0
    ∷ prints 1 None 0
    ∷ prints 1 None 0
    ∷ prints 1 None 0
    ∷ prints 1 None 0
    ∷ prints 1 None 0
    ∷ prints 1 None 0
    ∷ prints 1 None 0
    ∷ prints 1 None 0
    ∷ prints 0 None 0
    ∷ prints 1 None 0
    ∷ prints 1 None 0
    ∷ prints 0 None 0
    ∷ prints 1 None 0
    ∷ prints 1 None 0
    ∷ prints 0 None 0
    ∷ prints 1 None 0
    ∷ prints 1 None 0
    ∷ prints 112 None 0
    ∷ prints 103 None 0
    ∷ prints 1 None 0
    ∷ prints 1 None 0
    ∷ prints 1 None 0
    ∷ prints 0 None 0
    ∷ prints 1 None 0
    ∷ prints 0 None 0
    ∷ prints 1 None 0
    ∷ prints 1 None 0
    ∷ prints 1 None 0
    ∷ prints 1 None 0
    ∷ prints 1 None 0
    ∷ prints 0 (Some (Block 17)) 0
    ∷ prints 0 (Some (Block 17)) 0
    ∷ prints 1 None 0
    ∷ prints 0 (Some (Block 17)) 0
    ∷ prints 1 None 0
    ∷ prints 1 None 0
    ∷ prints 1 None 0
    ∷ prints 0 (Some (Block 22)) 0
    ∷ prints 1 None 0
    ∷ prints 0 None 0
    ∷ prints 1 None 0
    ∷ prints 1 None 0
    ∷ prints 0 None 0
    ∷ prints 0 (Some (Block 23)) 0
    ∷ prints 1 None 0
    ∷ prints 1 None 0
    ∷ prints 0 None 0
    ∷ prints 1 None 0
    ∷ prints 1 None 0
    ∷ prints 1 None 0
    ∷ prints 1 None 0
    ∷ prints 103 None 0
    ∷ prints 1 None 0
    ∷ prints 1 None 0
    ∷ prints 1 None 0
    ∷ prints 1 None 0
    ∷ prints 1 None 0
    ∷ prints 1 None 0
    ∷ prints 1 None 0
    ∷ prints 1 None 0
    ∷ prints 1 None 0
    ∷ prints 1 None 0
    ∷ prints 1 None 0
    ∷ prints 1 None 0
    ∷ prints 1 None 0
    ∷ prints 1 None 0
    ∷ prints 1 None 0
    ∷ prints 1 None 0
    ∷ prints 1 None 0
    ∷ prints 1 None 0
    ∷ prints 1 None 0
    ∷ prints 1 None 0
    ∷ prints 0 None 0
    ∷ prints 1 None 0
    ∷ prints 102 None 0
    ∷ prints 1 None 0
    ∷ prints 1 None 0
    ∷ prints 0 (Some (Record (reading (2 ∷ 0 ∷ 0 ∷ 0 ∷ 64 ∷ 0 ∷ 0 ∷ 0 ∷ [])))) 0
    ∷ prints 1 None 0
    ∷ prints 1 None 0
    ∷ prints 1 None 0
    ∷ prints 1 None 0
    ∷ prints 0 None 0
    ∷ prints 1 None 0
    ∷ prints 0 None 0
    ∷ prints 1 None 0
    ∷ prints 1 None 0
    ∷ prints 1 None 0
    ∷ prints 1 None 0
    ∷ prints 1 None 0
    ∷ prints 0 (Some (Block 18)) 0
    ∷ prints 1 None 0
    ∷ prints 0 (Some (Record (reading (2 ∷ 0 ∷ 0 ∷ 0 ∷ 64 ∷ 0 ∷ 0 ∷ 0 ∷ [])))) 0
    ∷ prints 112 None 0
    ∷ prints 1 None 0
    ∷ prints 1 None 0
    ∷ prints 103 None 0
    ∷ prints 1 None 0
    ∷ prints 1 None 0
    ∷ prints 0 None 0
    ∷ prints 0 None 0
    ∷ prints 0 None 0
    ∷ prints 0 None 0
    ∷ prints 104 None 0
    ∷ prints 105 None 0
    ∷ prints 1 None 0
    ∷ prints 0 None 0
    ∷ prints 0 None 0
    ∷ prints 1 None 0
    ∷ prints 1 None 0
    ∷ prints 1 None 0
    ∷ prints 0 None 0
    ∷ prints 106 None 0
    ∷ prints 1 None 0
    ∷ prints 1 None 0
    ∷ prints 1 None 0
    ∷ prints 1 None 0
    ∷ prints 0 None 0
    ∷ prints 1 None 0
    ∷ prints 1 None 0
    ∷ prints 106 None 0
    ∷ prints 1 None 0
    ∷ prints 1 None 0
    ∷ prints 1 None 0
    ∷ prints 105 None 0
    ∷ prints 1 None 0
    ∷ prints 1 None 0
    ∷ prints 1 None 0
    ∷ prints 0 None 0
    ∷ prints 1 None 0
    ∷ prints 1 None 0
    ∷ []

abbrev pub scenario : Scenario
scenario = record { puts = stack; form = form; calls = calls; lines = lines }

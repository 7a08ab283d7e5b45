-- The run scenario-6 of an independent model: its calls, and the lines that it prints. Made by tools/scenario.
use Rattle.std.specs.Prelude.{List, [], ◌∷◌, Some, None}
use Rattle.figures.specs.declared.limits.Form.{Form}
use Rattle.records.specs.declared.readings.Reading.{Reading}
use Rattle.machine.specs.declared.calls.Call.{Call}
use Rattle.machine.specs.declared.calls.Call.TheVariants.{Take, Look, Drop, Retire, Relink, Write, Read, Turn}
use Rattle.machine.specs.declared.calls.Value.TheVariants.{Block, Record}
use Rattle.machine.specs.Runs.{Line}
use Rattle.scenarios.specs.Lines.{Scenario, stack, reading, prints}

abbrev pub form : Form
form = record { workers = 8; holds = 1; blocks = 100; live = 98; taking_period = 2; trying_period = 1; starting_era = 1 }

abbrev pub calls : List (Call Reading)
calls =
    Drop 2
    ∷ Look 4 0 1
    ∷ Look 3 0 0
    ∷ Look 6 0 1
    ∷ Turn 6
    ∷ Look 7 0 1
    ∷ Look 0 0 1
    ∷ Turn 3
    ∷ Turn 0
    ∷ Turn 3
    ∷ Turn 4
    ∷ Take 1
    ∷ Turn 1
    ∷ Turn 4
    ∷ Turn 3
    ∷ Turn 3
    ∷ Turn 3
    ∷ Turn 0
    ∷ Turn 5
    ∷ Turn 2
    ∷ Turn 6
    ∷ Turn 7
    ∷ Turn 1
    ∷ Turn 7
    ∷ Turn 6
    ∷ Turn 6
    ∷ Turn 6
    ∷ Turn 3
    ∷ Turn 4
    ∷ Relink 2 115 (Some 42) (Some 52)
    ∷ Turn 4
    ∷ Turn 7
    ∷ Turn 6
    ∷ Turn 7
    ∷ Turn 2
    ∷ Turn 6
    ∷ Turn 4
    ∷ Look 6 0 1
    ∷ Turn 0
    ∷ Turn 0
    ∷ Write 1 0 (reading (2 ∷ 0 ∷ 0 ∷ 0 ∷ 3 ∷ 0 ∷ 0 ∷ 0 ∷ []))
    ∷ Look 5 0 0
    ∷ Turn 0
    ∷ Turn 7
    ∷ Turn 3
    ∷ Turn 5
    ∷ Take 3
    ∷ Relink 1 141 None (Some 20)
    ∷ Turn 7
    ∷ Look 2 0 1
    ∷ Turn 7
    ∷ Turn 4
    ∷ Look 1 0 0
    ∷ Turn 4
    ∷ Look 4 0 1
    ∷ Turn 4
    ∷ Read 7 0
    ∷ Turn 1
    ∷ Turn 3
    ∷ Turn 0
    ∷ Turn 5
    ∷ Turn 0
    ∷ Turn 3
    ∷ Turn 5
    ∷ Turn 2
    ∷ Turn 1
    ∷ Turn 2
    ∷ Read 7 0
    ∷ Turn 1
    ∷ Turn 0
    ∷ Turn 2
    ∷ Turn 2
    ∷ Turn 6
    ∷ Write 3 1 (reading (2 ∷ 0 ∷ 0 ∷ 0 ∷ 5 ∷ 0 ∷ 0 ∷ 0 ∷ []))
    ∷ Turn 6
    ∷ Turn 5
    ∷ Turn 0
    ∷ Turn 6
    ∷ Turn 5
    ∷ Retire 7 84
    ∷ Turn 2
    ∷ Turn 2
    ∷ Look 0 0 172
    ∷ Turn 4
    ∷ Turn 1
    ∷ Turn 0
    ∷ Look 7 0 0
    ∷ Turn 0
    ∷ Read 0 0
    ∷ Turn 4
    ∷ Look 3 0 0
    ∷ Turn 3
    ∷ Read 0 0
    ∷ Turn 1
    ∷ Read 0 0
    ∷ Turn 3
    ∷ Drop 0
    ∷ Turn 0
    ∷ Retire 0 0
    ∷ Turn 6
    ∷ Turn 3
    ∷ Turn 6
    ∷ Turn 6
    ∷ Turn 7
    ∷ Turn 4
    ∷ Turn 0
    ∷ Turn 7
    ∷ Turn 2
    ∷ Look 0 0 0
    ∷ Take 6
    ∷ Turn 3
    ∷ Turn 6
    ∷ Turn 7
    ∷ Turn 0
    ∷ Turn 4
    ∷ Turn 4
    ∷ Turn 5
    ∷ Turn 4
    ∷ Turn 6
    ∷ Turn 3
    ∷ Turn 1
    ∷ Write 6 2 (reading (2 ∷ 0 ∷ 0 ∷ 0 ∷ 9 ∷ 0 ∷ 0 ∷ 0 ∷ []))
    ∷ Turn 0
    ∷ Turn 7
    ∷ Turn 5
    ∷ Retire 6 2
    ∷ Turn 1
    ∷ Turn 0
    ∷ Look 2 0 0
    ∷ Turn 1
    ∷ Turn 5
    ∷ Turn 3
    ∷ Turn 2
    ∷ Turn 2
    ∷ Turn 7
    ∷ Turn 2
    ∷ Turn 3
    ∷ Turn 2
    ∷ Turn 4
    ∷ Turn 4
    ∷ Turn 0
    ∷ Turn 0
    ∷ Turn 7
    ∷ Turn 0
    ∷ Turn 1
    ∷ Turn 5
    ∷ Turn 5
    ∷ Turn 2
    ∷ Turn 7
    ∷ Turn 0
    ∷ Turn 2
    ∷ Turn 7
    ∷ Look 2 0 1
    ∷ Turn 1
    ∷ Turn 3
    ∷ Turn 2
    ∷ Turn 4
    ∷ Turn 5
    ∷ Take 4
    ∷ Look 0 0 0
    ∷ Look 5 0 39
    ∷ Turn 2
    ∷ Turn 1
    ∷ Read 5 0
    ∷ Turn 7
    ∷ Turn 3
    ∷ Read 5 0
    ∷ Read 6 0
    ∷ Turn 4
    ∷ Take 5
    ∷ Take 2
    ∷ Turn 0
    ∷ Relink 1 0 None (Some 0)
    ∷ Turn 6
    ∷ Turn 2
    ∷ Drop 5
    ∷ Turn 3
    ∷ Turn 0
    ∷ Look 6 0 0
    ∷ Look 1 0 0
    ∷ Turn 0
    ∷ Turn 7
    ∷ Turn 4
    ∷ Turn 2
    ∷ Turn 0
    ∷ Turn 5
    ∷ Turn 7
    ∷ Turn 7
    ∷ Turn 7
    ∷ Write 2 4 (reading (2 ∷ 0 ∷ 0 ∷ 0 ∷ 13 ∷ 0 ∷ 0 ∷ 0 ∷ []))
    ∷ Look 2 0 1
    ∷ Turn 5
    ∷ Write 4 3 (reading (2 ∷ 0 ∷ 0 ∷ 0 ∷ 14 ∷ 0 ∷ 0 ∷ 0 ∷ []))
    ∷ Turn 3
    ∷ Turn 6
    ∷ Turn 1
    ∷ Turn 0
    ∷ Write 5 5 (reading (2 ∷ 0 ∷ 0 ∷ 0 ∷ 15 ∷ 0 ∷ 0 ∷ 0 ∷ []))
    ∷ Turn 6
    ∷ Retire 5 5
    ∷ Turn 5
    ∷ Turn 0
    ∷ Turn 2
    ∷ Turn 7
    ∷ Turn 7
    ∷ Turn 2
    ∷ Turn 6
    ∷ Turn 7
    ∷ Turn 1
    ∷ Retire 7 8
    ∷ Turn 7
    ∷ Turn 6
    ∷ Write 1 100 (reading (2 ∷ 0 ∷ 0 ∷ 0 ∷ 17 ∷ 0 ∷ 0 ∷ 0 ∷ []))
    ∷ Look 4 0 0
    ∷ Relink 5 165 (Some 13) (Some 61)
    ∷ Turn 3
    ∷ Turn 2
    ∷ Turn 0
    ∷ Turn 4
    ∷ Turn 5
    ∷ Turn 2
    ∷ Turn 4
    ∷ Turn 0
    ∷ Turn 3
    ∷ Turn 0
    ∷ Turn 0
    ∷ Turn 1
    ∷ Turn 1
    ∷ Turn 3
    ∷ Turn 1
    ∷ Turn 7
    ∷ Turn 2
    ∷ Read 0 0
    ∷ Turn 3
    ∷ Turn 4
    ∷ Retire 0 65
    ∷ Turn 2
    ∷ Turn 3
    ∷ Turn 4
    ∷ Turn 6
    ∷ Read 7 0
    ∷ Turn 4
    ∷ Turn 6
    ∷ Relink 0 0 (Some 0) None
    ∷ Turn 5
    ∷ Drop 5
    ∷ Turn 4
    ∷ Relink 4 22 None (Some 0)
    ∷ Relink 7 0 (Some 0) None
    ∷ Retire 0 0
    ∷ Turn 3
    ∷ Retire 7 0
    ∷ Turn 3
    ∷ Take 0
    ∷ Drop 7
    ∷ Relink 2 24 None None
    ∷ Turn 0
    ∷ Relink 4 0 (Some 0) (Some 3)
    ∷ Relink 2 1 None (Some 4)
    ∷ Turn 5
    ∷ Turn 5
    ∷ Turn 0
    ∷ Relink 3 18 None None
    ∷ Take 6
    ∷ Take 5
    ∷ Turn 6
    ∷ Look 0 0 74
    ∷ Take 2
    ∷ Write 0 6 (reading (2 ∷ 0 ∷ 0 ∷ 0 ∷ 21 ∷ 0 ∷ 0 ∷ 0 ∷ []))
    ∷ Turn 5
    ∷ Turn 6
    ∷ Relink 3 0 None (Some 1)
    ∷ Write 6 7 (reading (2 ∷ 0 ∷ 0 ∷ 0 ∷ 22 ∷ 0 ∷ 0 ∷ 0 ∷ []))
    ∷ Look 6 0 1
    ∷ Take 6
    ∷ Take 3
    ∷ Retire 0 6
    ∷ Turn 2
    ∷ Turn 0
    ∷ Write 4 3 (reading (2 ∷ 0 ∷ 0 ∷ 0 ∷ 24 ∷ 0 ∷ 0 ∷ 0 ∷ []))
    ∷ Turn 7
    ∷ Turn 0
    ∷ Turn 5
    ∷ Turn 2
    ∷ Turn 6
    ∷ Turn 3
    ∷ Turn 3
    ∷ Turn 1
    ∷ Turn 6
    ∷ Turn 0
    ∷ Look 4 0 0
    ∷ Turn 1
    ∷ Write 3 10 (reading (2 ∷ 0 ∷ 0 ∷ 0 ∷ 25 ∷ 0 ∷ 0 ∷ 0 ∷ []))
    ∷ Write 5 8 (reading (2 ∷ 0 ∷ 0 ∷ 0 ∷ 26 ∷ 0 ∷ 0 ∷ 0 ∷ []))
    ∷ Turn 6
    ∷ Look 5 0 1
    ∷ Turn 5
    ∷ Turn 6
    ∷ Turn 4
    ∷ Turn 5
    ∷ Turn 0
    ∷ Turn 1
    ∷ Turn 0
    ∷ Look 5 0 29
    ∷ Turn 0
    ∷ Turn 5
    ∷ Turn 6
    ∷ Turn 0
    ∷ Write 2 9 (reading (2 ∷ 0 ∷ 0 ∷ 0 ∷ 28 ∷ 0 ∷ 0 ∷ 0 ∷ []))
    ∷ Look 2 0 1
    ∷ Turn 6
    ∷ Relink 6 1 (Some 4) (Some 7)
    ∷ Turn 7
    ∷ Look 0 0 1
    ∷ Read 2 1
    ∷ Turn 1
    ∷ Turn 1
    ∷ Retire 6 4
    ∷ Turn 5
    ∷ Drop 3
    ∷ Turn 4
    ∷ Look 3 0 0
    ∷ Turn 5
    ∷ Turn 4
    ∷ Turn 0
    ∷ Read 1 0
    ∷ Relink 1 0 (Some 1) None
    ∷ Turn 6
    ∷ Turn 6
    ∷ Retire 1 1
    ∷ Retire 3 48
    ∷ Turn 2
    ∷ Turn 1
    ∷ Turn 3
    ∷ Turn 0
    ∷ Take 7
    ∷ Drop 1
    ∷ Turn 5
    ∷ Turn 7
    ∷ Turn 3
    ∷ Relink 6 17 None None
    ∷ Relink 3 0 None (Some 10)
    ∷ Turn 1
    ∷ Turn 5
    ∷ Turn 1
    ∷ Turn 0
    ∷ Look 3 0 1
    ∷ Turn 4
    ∷ Turn 3
    ∷ Turn 5
    ∷ Turn 3
    ∷ Turn 5
    ∷ Look 1 0 0
    ∷ Turn 5
    ∷ Look 6 0 1
    ∷ Turn 2
    ∷ Turn 7
    ∷ Take 2
    ∷ Turn 4
    ∷ Turn 4
    ∷ Turn 5
    ∷ Relink 5 1 (Some 7) (Some 8)
    ∷ Turn 4
    ∷ Turn 1
    ∷ Turn 4
    ∷ Turn 4
    ∷ Turn 2
    ∷ Look 4 1 51
    ∷ Turn 6
    ∷ Write 7 11 (reading (2 ∷ 0 ∷ 0 ∷ 0 ∷ 35 ∷ 0 ∷ 0 ∷ 0 ∷ []))
    ∷ Turn 0
    ∷ Look 7 0 0
    ∷ Turn 2
    ∷ Retire 5 7
    ∷ Turn 3
    ∷ Turn 7
    ∷ Turn 1
    ∷ Turn 0
    ∷ Turn 4
    ∷ Turn 3
    ∷ Relink 4 0 (Some 10) (Some 3)
    ∷ Turn 1
    ∷ Turn 7
    ∷ Retire 4 10
    ∷ Turn 3
    ∷ Turn 0
    ∷ Turn 1
    ∷ Turn 0
    ∷ Turn 6
    ∷ Turn 4
    ∷ Turn 3
    ∷ Turn 7
    ∷ Turn 3
    ∷ Turn 7
    ∷ Turn 0
    ∷ Turn 6
    ∷ Read 3 0
    ∷ Relink 3 1 (Some 8) None
    ∷ Turn 2
    ∷ Take 4
    ∷ Turn 7
    ∷ Retire 3 8
    ∷ Turn 0
    ∷ Turn 5
    ∷ Turn 2
    ∷ Turn 4
    ∷ Turn 1
    ∷ Turn 1
    ∷ Turn 6
    ∷ Turn 7
    ∷ Relink 2 1 None (Some 9)
    ∷ Turn 4
    ∷ Turn 3
    ∷ Turn 6
    ∷ Turn 0
    ∷ Look 0 0 1
    ∷ Turn 0
    ∷ Turn 6
    ∷ Look 2 0 0
    ∷ Turn 0
    ∷ Look 3 0 1
    ∷ Turn 2
    ∷ Look 0 0 34
    ∷ Turn 3
    ∷ Turn 3
    ∷ Read 6 0
    ∷ Drop 1
    ∷ Read 3 0
    ∷ Write 4 12 (reading (2 ∷ 0 ∷ 0 ∷ 0 ∷ 37 ∷ 0 ∷ 0 ∷ 0 ∷ []))
    ∷ Turn 1
    ∷ Turn 7
    ∷ Read 1 0
    ∷ Retire 4 12
    ∷ Read 0 0
    ∷ Turn 2
    ∷ Relink 3 1 (Some 9) None
    ∷ Drop 0
    ∷ Relink 7 0 (Some 3) (Some 11)
    ∷ Relink 5 43 None None
    ∷ Retire 7 3
    ∷ Turn 5
    ∷ Relink 6 1 (Some 9) None
    ∷ Turn 7
    ∷ Retire 6 9
    ∷ Turn 4
    ∷ Take 5
    ∷ Take 7
    ∷ Turn 7
    ∷ Look 2 0 23
    ∷ Turn 4
    ∷ Take 9
    ∷ Read 2 0
    ∷ Turn 6
    ∷ Retire 3 9
    ∷ Relink 0 17 None (Some 68)
    ∷ Turn 0
    ∷ Look 6 0 144
    ∷ Look 2 0 23
    ∷ Look 3 0 0
    ∷ Turn 7
    ∷ Relink 1 0 (Some 3) None
    ∷ Turn 3
    ∷ Turn 6
    ∷ Write 7 13 (reading (2 ∷ 0 ∷ 0 ∷ 0 ∷ 42 ∷ 0 ∷ 0 ∷ 0 ∷ []))
    ∷ Turn 5
    ∷ Read 2 0
    ∷ Look 7 0 0
    ∷ Turn 5
    ∷ Look 4 0 0
    ∷ Turn 6
    ∷ Write 5 14 (reading (2 ∷ 0 ∷ 0 ∷ 0 ∷ 43 ∷ 0 ∷ 0 ∷ 0 ∷ []))
    ∷ Look 6 0 0
    ∷ Turn 6
    ∷ Turn 6
    ∷ Turn 3
    ∷ Take 0
    ∷ Turn 4
    ∷ Turn 0
    ∷ Turn 3
    ∷ Look 1 0 68
    ∷ Retire 1 3
    ∷ Take 0
    ∷ Turn 4
    ∷ Turn 3
    ∷ Look 5 0 1
    ∷ Turn 5
    ∷ Turn 0
    ∷ Look 2 0 23
    ∷ Turn 3
    ∷ Relink 1 1 None None
    ∷ Retire 1 3
    ∷ Turn 4
    ∷ Turn 3
    ∷ Turn 7
    ∷ Turn 7
    ∷ Take 1
    ∷ Turn 0
    ∷ Turn 5
    ∷ Turn 7
    ∷ Read 2 0
    ∷ Turn 6
    ∷ Read 3 0
    ∷ Turn 5
    ∷ Write 0 15 (reading (2 ∷ 0 ∷ 0 ∷ 0 ∷ 46 ∷ 0 ∷ 0 ∷ 0 ∷ []))
    ∷ Turn 7
    ∷ Turn 4
    ∷ Relink 3 0 (Some 11) None
    ∷ Turn 1
    ∷ Turn 4
    ∷ Look 2 0 23
    ∷ Turn 5
    ∷ Turn 1
    ∷ Turn 5
    ∷ Retire 3 11
    ∷ Look 0 0 0
    ∷ Turn 3
    ∷ Turn 5
    ∷ Write 6 87 (reading (2 ∷ 0 ∷ 0 ∷ 0 ∷ 48 ∷ 0 ∷ 0 ∷ 0 ∷ []))
    ∷ Write 1 16 (reading (2 ∷ 0 ∷ 0 ∷ 0 ∷ 49 ∷ 0 ∷ 0 ∷ 0 ∷ []))
    ∷ Turn 3
    ∷ Turn 6
    ∷ Retire 1 16
    ∷ Relink 5 1 None (Some 14)
    ∷ Turn 3
    ∷ Turn 4
    ∷ Take 5
    ∷ Turn 6
    ∷ Relink 3 1 (Some 14) None
    ∷ Read 2 0
    ∷ Retire 3 11
    ∷ Drop 4
    ∷ Turn 6
    ∷ Turn 7
    ∷ Turn 7
    ∷ Turn 0
    ∷ Turn 4
    ∷ Turn 4
    ∷ Take 4
    ∷ Read 4 0
    ∷ Turn 5
    ∷ Turn 5
    ∷ Take 5
    ∷ Look 3 0 0
    ∷ Drop 6
    ∷ Turn 0
    ∷ Turn 4
    ∷ Look 2 0 22
    ∷ Read 2 0
    ∷ Relink 7 42 None None
    ∷ Turn 1
    ∷ Turn 4
    ∷ Turn 3
    ∷ Write 4 18 (reading (2 ∷ 0 ∷ 0 ∷ 0 ∷ 52 ∷ 0 ∷ 0 ∷ 0 ∷ []))
    ∷ Relink 2 0 None None
    ∷ Retire 2 3
    ∷ Turn 0
    ∷ Turn 5
    ∷ Turn 1
    ∷ Turn 5
    ∷ Relink 7 0 None (Some 13)
    ∷ Look 4 0 1
    ∷ Turn 3
    ∷ Take 2
    ∷ Turn 2
    ∷ Turn 2
    ∷ Turn 6
    ∷ Write 2 20 (reading (2 ∷ 0 ∷ 0 ∷ 0 ∷ 53 ∷ 0 ∷ 0 ∷ 0 ∷ []))
    ∷ Turn 3
    ∷ Turn 0
    ∷ Take 7
    ∷ Look 2 0 1
    ∷ Turn 0
    ∷ Turn 2
    ∷ Turn 0
    ∷ Turn 3
    ∷ Turn 2
    ∷ Write 5 17 (reading (2 ∷ 0 ∷ 0 ∷ 0 ∷ 54 ∷ 0 ∷ 0 ∷ 0 ∷ []))
    ∷ Turn 6
    ∷ Turn 1
    ∷ Look 1 0 1
    ∷ Turn 2
    ∷ Turn 1
    ∷ Look 5 0 1
    ∷ Turn 4
    ∷ Look 6 0 1
    ∷ Turn 0
    ∷ Turn 7
    ∷ Turn 1
    ∷ Turn 7
    ∷ Relink 3 160 (Some 15) (Some 26)
    ∷ Turn 4
    ∷ Turn 2
    ∷ Turn 1
    ∷ Turn 5
    ∷ Turn 2
    ∷ Turn 4
    ∷ Turn 3
    ∷ Take 8
    ∷ Drop 7
    ∷ Relink 0 0 (Some 13) (Some 15)
    ∷ Turn 4
    ∷ Turn 6
    ∷ Turn 7
    ∷ Read 7 1
    ∷ Turn 5
    ∷ Turn 1
    ∷ Turn 4
    ∷ Retire 0 13
    ∷ Turn 2
    ∷ Turn 2
    ∷ Take 4
    ∷ Turn 3
    ∷ Turn 7
    ∷ Turn 1
    ∷ Turn 2
    ∷ Turn 1
    ∷ Turn 3
    ∷ Turn 5
    ∷ Turn 0
    ∷ Turn 2
    ∷ Write 7 21 (reading (2 ∷ 0 ∷ 0 ∷ 0 ∷ 62 ∷ 0 ∷ 0 ∷ 0 ∷ []))
    ∷ Take 2
    ∷ Turn 2
    ∷ Turn 5
    ∷ Turn 6
    ∷ Turn 6
    ∷ Turn 4
    ∷ Turn 0
    ∷ Turn 3
    ∷ Relink 2 1 None (Some 20)
    ∷ Look 7 0 0
    ∷ Turn 3
    ∷ Take 2
    ∷ Turn 3
    ∷ Read 3 0
    ∷ Turn 2
    ∷ Turn 7
    ∷ Read 1 0
    ∷ Turn 2
    ∷ Take 0
    ∷ Turn 0
    ∷ Turn 0
    ∷ Turn 5
    ∷ Write 2 22 (reading (2 ∷ 0 ∷ 0 ∷ 0 ∷ 64 ∷ 0 ∷ 0 ∷ 0 ∷ []))
    ∷ Relink 2 103 None None
    ∷ Relink 3 0 (Some 15) None
    ∷ Turn 6
    ∷ Turn 5
    ∷ Turn 5
    ∷ Turn 4
    ∷ Write 0 23 (reading (2 ∷ 0 ∷ 0 ∷ 0 ∷ 66 ∷ 0 ∷ 0 ∷ 0 ∷ []))
    ∷ Take 1
    ∷ Turn 7
    ∷ Turn 1
    ∷ Turn 1
    ∷ Turn 4
    ∷ Turn 6
    ∷ Retire 3 15
    ∷ Turn 6
    ∷ Write 6 46 (reading (2 ∷ 0 ∷ 0 ∷ 0 ∷ 67 ∷ 0 ∷ 0 ∷ 0 ∷ []))
    ∷ Turn 5
    ∷ Turn 3
    ∷ Turn 4
    ∷ Turn 4
    ∷ Look 0 0 1
    ∷ Write 1 24 (reading (2 ∷ 0 ∷ 0 ∷ 0 ∷ 68 ∷ 0 ∷ 0 ∷ 0 ∷ []))
    ∷ Turn 3
    ∷ Turn 3
    ∷ Turn 7
    ∷ Retire 1 24
    ∷ Turn 0
    ∷ Look 3 0 0
    ∷ Turn 5
    ∷ Turn 4
    ∷ Turn 3
    ∷ Turn 7
    ∷ Turn 3
    ∷ Look 2 0 1
    ∷ Turn 2
    ∷ Turn 0
    ∷ Turn 1
    ∷ Turn 5
    ∷ Turn 1
    ∷ Turn 2
    ∷ Turn 3
    ∷ Turn 1
    ∷ Turn 6
    ∷ Turn 5
    ∷ Turn 3
    ∷ Turn 0
    ∷ Turn 7
    ∷ Turn 6
    ∷ Turn 5
    ∷ Turn 6
    ∷ Turn 5
    ∷ Turn 4
    ∷ Drop 1
    ∷ Turn 6
    ∷ Turn 6
    ∷ Turn 0
    ∷ Turn 8
    ∷ Turn 7
    ∷ Turn 3
    ∷ Turn 3
    ∷ Turn 0
    ∷ Turn 1
    ∷ Turn 5
    ∷ Read 6 0
    ∷ Turn 0
    ∷ Turn 2
    ∷ Relink 6 1 (Some 20) None
    ∷ Relink 5 1 (Some 20) (Some 17)
    ∷ Turn 1
    ∷ Take 1
    ∷ Turn 1
    ∷ Turn 7
    ∷ Turn 2
    ∷ Write 5 17 (reading (2 ∷ 0 ∷ 0 ∷ 0 ∷ 70 ∷ 0 ∷ 0 ∷ 0 ∷ []))
    ∷ Turn 1
    ∷ Write 1 25 (reading (2 ∷ 0 ∷ 0 ∷ 0 ∷ 71 ∷ 0 ∷ 0 ∷ 0 ∷ []))
    ∷ Retire 6 20
    ∷ Relink 0 1 (Some 20) (Some 23)
    ∷ Look 5 0 1
    ∷ Look 1 0 0
    ∷ Turn 6
    ∷ Turn 5
    ∷ Turn 5
    ∷ Turn 2
    ∷ Take 3
    ∷ Turn 4
    ∷ Relink 7 58 None None
    ∷ Turn 2
    ∷ Turn 6
    ∷ Relink 7 0 None (Some 21)
    ∷ Relink 2 1 None (Some 22)
    ∷ Turn 6
    ∷ Look 7 0 1
    ∷ Relink 5 1 None (Some 17)
    ∷ Turn 6
    ∷ Turn 3
    ∷ Turn 4
    ∷ Take 2
    ∷ Turn 6
    ∷ Turn 4
    ∷ Drop 5
    ∷ Turn 1
    ∷ Turn 1
    ∷ Turn 1
    ∷ Turn 5
    ∷ Look 6 0 0
    ∷ Turn 4
    ∷ Write 0 23 (reading (2 ∷ 0 ∷ 0 ∷ 0 ∷ 72 ∷ 0 ∷ 0 ∷ 0 ∷ []))
    ∷ Turn 3
    ∷ Turn 5
    ∷ Turn 2
    ∷ Retire 0 23
    ∷ Look 5 0 0
    ∷ Turn 5
    ∷ Write 3 26 (reading (2 ∷ 0 ∷ 0 ∷ 0 ∷ 73 ∷ 0 ∷ 0 ∷ 0 ∷ []))
    ∷ Turn 7
    ∷ Look 3 0 0
    ∷ Turn 0
    ∷ Turn 6
    ∷ Turn 1
    ∷ Turn 1
    ∷ Turn 0
    ∷ Turn 1
    ∷ Turn 4
    ∷ Turn 4
    ∷ Turn 0
    ∷ Turn 2
    ∷ Turn 1
    ∷ Turn 4
    ∷ Turn 5
    ∷ Take 0
    ∷ Turn 5
    ∷ Turn 3
    ∷ Turn 5
    ∷ Relink 1 66 None (Some 21)
    ∷ Turn 7
    ∷ Turn 4
    ∷ Relink 1 0 (Some 21) (Some 25)
    ∷ Write 2 27 (reading (2 ∷ 0 ∷ 0 ∷ 0 ∷ 74 ∷ 0 ∷ 0 ∷ 0 ∷ []))
    ∷ Take 1
    ∷ Turn 6
    ∷ Retire 2 27
    ∷ Turn 4
    ∷ Turn 2
    ∷ Turn 0
    ∷ Turn 5
    ∷ Turn 0
    ∷ Turn 5
    ∷ Turn 1
    ∷ Turn 3
    ∷ Turn 3
    ∷ Turn 2
    ∷ Turn 7
    ∷ Turn 7
    ∷ Turn 7
    ∷ Turn 6
    ∷ Turn 6
    ∷ Turn 5
    ∷ Turn 6
    ∷ Look 2 0 1
    ∷ Write 0 28 (reading (2 ∷ 0 ∷ 0 ∷ 0 ∷ 75 ∷ 0 ∷ 0 ∷ 0 ∷ []))
    ∷ Look 0 0 1
    ∷ Turn 1
    ∷ Turn 3
    ∷ Turn 0
    ∷ Turn 3
    ∷ Write 1 29 (reading (2 ∷ 0 ∷ 0 ∷ 0 ∷ 76 ∷ 0 ∷ 0 ∷ 0 ∷ []))
    ∷ Look 1 0 0
    ∷ Turn 7
    ∷ Turn 0
    ∷ Turn 1
    ∷ Retire 7 64
    ∷ Turn 6
    ∷ Turn 3
    ∷ Turn 2
    ∷ Turn 7
    ∷ Turn 5
    ∷ Turn 1
    ∷ Turn 7
    ∷ Turn 5
    ∷ Turn 1
    ∷ Turn 3
    ∷ Turn 7
    ∷ Turn 5
    ∷ Turn 1
    ∷ Turn 0
    ∷ Turn 6
    ∷ Turn 7
    ∷ Turn 4
    ∷ Read 7 0
    ∷ Turn 1
    ∷ Turn 4
    ∷ Turn 1
    ∷ Turn 5
    ∷ Read 5 0
    ∷ Relink 3 0 (Some 25) (Some 26)
    ∷ Relink 5 0 (Some 25) None
    ∷ Write 4 24 (reading (2 ∷ 0 ∷ 0 ∷ 0 ∷ 79 ∷ 0 ∷ 0 ∷ 0 ∷ []))
    ∷ Turn 2
    ∷ Turn 0
    ∷ Relink 7 1 (Some 22) None
    ∷ Retire 5 25
    ∷ Retire 7 22
    ∷ Turn 6
    ∷ Retire 3 25
    ∷ Turn 4
    ∷ Turn 7
    ∷ Turn 2
    ∷ Relink 1 0 (Some 25) (Some 29)
    ∷ Relink 1 0 (Some 26) None
    ∷ Relink 3 0 None None
    ∷ Turn 4
    ∷ Turn 0
    ∷ Turn 7
    ∷ Turn 4
    ∷ Retire 1 25
    ∷ Turn 0
    ∷ Drop 1
    ∷ Retire 3 25
    ∷ Relink 0 72 None None
    ∷ Look 3 0 0
    ∷ Turn 1
    ∷ Turn 3
    ∷ Turn 1
    ∷ Turn 4
    ∷ Write 1 29 (reading (2 ∷ 0 ∷ 0 ∷ 0 ∷ 80 ∷ 0 ∷ 0 ∷ 0 ∷ []))
    ∷ Turn 6
    ∷ Relink 0 1 None (Some 28)
    ∷ Take 0
    ∷ Look 1 0 0
    ∷ Turn 1
    ∷ Turn 1
    ∷ Turn 5
    ∷ Relink 4 1 None (Some 18)
    ∷ Turn 3
    ∷ Turn 6
    ∷ Write 4 18 (reading (2 ∷ 0 ∷ 0 ∷ 0 ∷ 81 ∷ 0 ∷ 0 ∷ 0 ∷ []))
    ∷ Take 3
    ∷ Turn 5
    ∷ Read 6 1
    ∷ Drop 6
    ∷ Turn 1
    ∷ Turn 3
    ∷ Turn 0
    ∷ Turn 3
    ∷ Turn 1
    ∷ Turn 5
    ∷ Turn 5
    ∷ Look 4 0 1
    ∷ Relink 7 1 (Some 28) None
    ∷ Drop 5
    ∷ Turn 5
    ∷ Turn 1
    ∷ Retire 7 22
    ∷ Write 3 30 (reading (2 ∷ 0 ∷ 0 ∷ 0 ∷ 83 ∷ 0 ∷ 0 ∷ 0 ∷ []))
    ∷ Turn 0
    ∷ []

abbrev pub lines : List (Line Reading)
lines =
    prints 1 None 0
    ∷ prints 1 None 0
    ∷ prints 1 None 0
    ∷ prints 1 None 0
    ∷ prints 1 None 0
    ∷ prints 1 None 0
    ∷ prints 1 None 0
    ∷ prints 1 None 0
    ∷ prints 1 None 0
    ∷ prints 1 None 0
    ∷ prints 1 None 0
    ∷ prints 1 None 0
    ∷ prints 1 None 0
    ∷ prints 1 None 0
    ∷ prints 1 None 0
    ∷ prints 1 None 0
    ∷ prints 1 None 0
    ∷ prints 1 None 0
    ∷ prints 104 None 0
    ∷ prints 1 None 0
    ∷ prints 1 None 0
    ∷ prints 1 None 0
    ∷ prints 0 (Some (Block 0)) 0
    ∷ prints 1 None 0
    ∷ prints 1 None 0
    ∷ prints 1 None 0
    ∷ prints 1 None 0
    ∷ prints 1 None 0
    ∷ prints 1 None 0
    ∷ prints 103 None 0
    ∷ prints 1 None 0
    ∷ prints 1 None 0
    ∷ prints 1 None 0
    ∷ prints 1 None 0
    ∷ prints 0 None 0
    ∷ prints 0 None 0
    ∷ prints 1 None 0
    ∷ prints 1 None 0
    ∷ prints 1 None 0
    ∷ prints 1 None 0
    ∷ prints 0 None 0
    ∷ prints 1 None 0
    ∷ prints 1 None 0
    ∷ prints 1 None 0
    ∷ prints 0 None 0
    ∷ prints 1 None 0
    ∷ prints 1 None 0
    ∷ prints 105 None 0
    ∷ prints 1 None 0
    ∷ prints 1 None 0
    ∷ prints 0 None 0
    ∷ prints 1 None 0
    ∷ prints 1 None 0
    ∷ prints 0 None 0
    ∷ prints 1 None 0
    ∷ prints 1 None 0
    ∷ prints 105 None 0
    ∷ prints 1 None 0
    ∷ prints 1 None 0
    ∷ prints 1 None 0
    ∷ prints 1 None 0
    ∷ prints 1 None 0
    ∷ prints 0 (Some (Block 1)) 0
    ∷ prints 1 None 0
    ∷ prints 1 None 0
    ∷ prints 1 None 0
    ∷ prints 1 None 0
    ∷ prints 105 None 0
    ∷ prints 1 None 0
    ∷ prints 1 None 0
    ∷ prints 1 None 0
    ∷ prints 1 None 0
    ∷ prints 1 None 0
    ∷ prints 0 None 0
    ∷ prints 1 None 0
    ∷ prints 1 None 0
    ∷ prints 1 None 0
    ∷ prints 1 None 0
    ∷ prints 1 None 0
    ∷ prints 105 None 0
    ∷ prints 1 None 0
    ∷ prints 1 None 0
    ∷ prints 103 None 0
    ∷ prints 1 None 0
    ∷ prints 1 None 0
    ∷ prints 1 None 0
    ∷ prints 1 None 0
    ∷ prints 0 None 0
    ∷ prints 105 None 0
    ∷ prints 1 None 0
    ∷ prints 1 None 0
    ∷ prints 1 None 0
    ∷ prints 105 None 0
    ∷ prints 1 None 0
    ∷ prints 105 None 0
    ∷ prints 1 None 0
    ∷ prints 1 None 0
    ∷ prints 1 None 0
    ∷ prints 103 None 0
    ∷ prints 1 None 0
    ∷ prints 1 None 0
    ∷ prints 1 None 0
    ∷ prints 0 None 0
    ∷ prints 1 None 0
    ∷ prints 1 None 0
    ∷ prints 0 None 0
    ∷ prints 1 None 0
    ∷ prints 0 None 0
    ∷ prints 1 None 0
    ∷ prints 1 None 0
    ∷ prints 1 None 0
    ∷ prints 1 None 0
    ∷ prints 1 None 0
    ∷ prints 1 None 0
    ∷ prints 1 None 0
    ∷ prints 1 None 0
    ∷ prints 1 None 0
    ∷ prints 1 None 0
    ∷ prints 0 (Some (Block 2)) 0
    ∷ prints 1 None 0
    ∷ prints 1 None 0
    ∷ prints 0 None 0
    ∷ prints 1 None 0
    ∷ prints 1 None 0
    ∷ prints 1 None 0
    ∷ prints 1 None 0
    ∷ prints 1 None 0
    ∷ prints 1 None 0
    ∷ prints 1 None 0
    ∷ prints 1 None 0
    ∷ prints 1 None 0
    ∷ prints 1 None 0
    ∷ prints 1 None 0
    ∷ prints 1 None 0
    ∷ prints 1 None 0
    ∷ prints 1 None 0
    ∷ prints 1 None 0
    ∷ prints 1 None 0
    ∷ prints 1 None 0
    ∷ prints 1 None 0
    ∷ prints 1 None 0
    ∷ prints 1 None 0
    ∷ prints 1 None 0
    ∷ prints 1 None 0
    ∷ prints 1 None 0
    ∷ prints 1 None 0
    ∷ prints 1 None 0
    ∷ prints 1 None 0
    ∷ prints 1 None 0
    ∷ prints 0 None 0
    ∷ prints 0 None 0
    ∷ prints 1 None 0
    ∷ prints 1 None 0
    ∷ prints 1 None 0
    ∷ prints 1 None 0
    ∷ prints 1 None 0
    ∷ prints 0 None 0
    ∷ prints 0 None 0
    ∷ prints 1 None 0
    ∷ prints 1 None 0
    ∷ prints 105 None 0
    ∷ prints 0 None 0
    ∷ prints 0 None 0
    ∷ prints 105 None 0
    ∷ prints 1 None 0
    ∷ prints 1 None 0
    ∷ prints 105 None 0
    ∷ prints 103 None 0
    ∷ prints 1 None 0
    ∷ prints 1 None 0
    ∷ prints 1 None 0
    ∷ prints 1 None 0
    ∷ prints 0 None 0
    ∷ prints 0 None 0
    ∷ prints 1 None 0
    ∷ prints 103 None 0
    ∷ prints 1 None 0
    ∷ prints 1 None 0
    ∷ prints 1 None 0
    ∷ prints 1 None 0
    ∷ prints 1 None 0
    ∷ prints 1 None 0
    ∷ prints 0 (Some (Block 3)) 0
    ∷ prints 0 (Some (Block 4)) 0
    ∷ prints 1 None 0
    ∷ prints 1 None 0
    ∷ prints 1 None 0
    ∷ prints 1 None 0
    ∷ prints 1 None 0
    ∷ prints 0 None 0
    ∷ prints 1 None 0
    ∷ prints 0 (Some (Block 5)) 0
    ∷ prints 0 None 0
    ∷ prints 1 None 0
    ∷ prints 1 None 0
    ∷ prints 1 None 0
    ∷ prints 1 None 0
    ∷ prints 0 None 0
    ∷ prints 1 None 0
    ∷ prints 1 None 0
    ∷ prints 1 None 0
    ∷ prints 1 None 0
    ∷ prints 1 None 0
    ∷ prints 1 None 0
    ∷ prints 1 None 0
    ∷ prints 1 None 0
    ∷ prints 1 None 0
    ∷ prints 1 None 0
    ∷ prints 1 None 0
    ∷ prints 103 None 0
    ∷ prints 1 None 0
    ∷ prints 1 None 0
    ∷ prints 102 None 0
    ∷ prints 1 None 0
    ∷ prints 103 None 0
    ∷ prints 1 None 0
    ∷ prints 1 None 0
    ∷ prints 1 None 0
    ∷ prints 1 None 0
    ∷ prints 1 None 0
    ∷ prints 1 None 0
    ∷ prints 1 None 0
    ∷ prints 1 None 0
    ∷ prints 1 None 0
    ∷ prints 1 None 0
    ∷ prints 0 (Some (Block 0)) 0
    ∷ prints 1 None 0
    ∷ prints 1 None 0
    ∷ prints 1 None 0
    ∷ prints 1 None 0
    ∷ prints 0 (Some (Block 0)) 0
    ∷ prints 1 None 0
    ∷ prints 0 (Some (Record (reading (2 ∷ 0 ∷ 0 ∷ 0 ∷ 3 ∷ 0 ∷ 0 ∷ 0 ∷ [])))) 0
    ∷ prints 1 None 0
    ∷ prints 1 None 0
    ∷ prints 105 None 0
    ∷ prints 0 None 0
    ∷ prints 1 None 0
    ∷ prints 1 None 0
    ∷ prints 1 None 0
    ∷ prints 0 (Some (Record (reading (2 ∷ 0 ∷ 0 ∷ 0 ∷ 3 ∷ 0 ∷ 0 ∷ 0 ∷ [])))) 0
    ∷ prints 1 None 0
    ∷ prints 0 (Some (Block 0)) 0
    ∷ prints 0 None 0
    ∷ prints 0 None 0
    ∷ prints 1 None 0
    ∷ prints 0 (Some (Block 0)) 0
    ∷ prints 0 None 0
    ∷ prints 112 None 0
    ∷ prints 107 None 0
    ∷ prints 1 None 0
    ∷ prints 107 None 0
    ∷ prints 0 None 0
    ∷ prints 1 None 0
    ∷ prints 1 None 0
    ∷ prints 0 None 0
    ∷ prints 1 None 0
    ∷ prints 112 None 0
    ∷ prints 0 None 0
    ∷ prints 1 None 0
    ∷ prints 0 None 0
    ∷ prints 0 (Some (Block 6)) 0
    ∷ prints 0 None 0
    ∷ prints 1 None 0
    ∷ prints 1 None 0
    ∷ prints 1 None 0
    ∷ prints 105 None 0
    ∷ prints 1 None 0
    ∷ prints 0 None 0
    ∷ prints 1 None 0
    ∷ prints 0 (Some (Block 7)) 0
    ∷ prints 0 None 0
    ∷ prints 0 None 0
    ∷ prints 1 None 0
    ∷ prints 103 None 0
    ∷ prints 1 None 0
    ∷ prints 1 None 0
    ∷ prints 1 None 0
    ∷ prints 1 None 0
    ∷ prints 0 None 0
    ∷ prints 1 None 0
    ∷ prints 1 None 0
    ∷ prints 0 (Some (Block 8)) 0
    ∷ prints 0 (Some (Block 9)) 0
    ∷ prints 1 None 0
    ∷ prints 1 None 0
    ∷ prints 0 (Some (Block 10)) 0
    ∷ prints 1 None 0
    ∷ prints 1 None 0
    ∷ prints 1 None 0
    ∷ prints 1 None 0
    ∷ prints 1 None 0
    ∷ prints 0 None 0
    ∷ prints 0 None 0
    ∷ prints 1 None 0
    ∷ prints 1 None 0
    ∷ prints 1 None 0
    ∷ prints 1 None 0
    ∷ prints 1 None 0
    ∷ prints 1 None 0
    ∷ prints 1 None 0
    ∷ prints 1 None 0
    ∷ prints 1 None 0
    ∷ prints 103 None 0
    ∷ prints 1 None 0
    ∷ prints 1 None 0
    ∷ prints 1 None 0
    ∷ prints 0 None 0
    ∷ prints 0 None 0
    ∷ prints 1 None 0
    ∷ prints 0 (Some (Block 4)) 0
    ∷ prints 0 None 0
    ∷ prints 0 None 0
    ∷ prints 1 None 0
    ∷ prints 102 None 0
    ∷ prints 1 None 0
    ∷ prints 0 (Some (Block 1)) 0
    ∷ prints 1 None 0
    ∷ prints 1 None 0
    ∷ prints 1 None 0
    ∷ prints 1 None 0
    ∷ prints 103 None 0
    ∷ prints 1 None 0
    ∷ prints 1 None 0
    ∷ prints 1 None 0
    ∷ prints 0 (Some (Record (reading (2 ∷ 0 ∷ 0 ∷ 0 ∷ 5 ∷ 0 ∷ 0 ∷ 0 ∷ [])))) 0
    ∷ prints 0 None 0
    ∷ prints 1 None 0
    ∷ prints 0 None 0
    ∷ prints 1 None 0
    ∷ prints 103 None 0
    ∷ prints 1 None 0
    ∷ prints 0 None 0
    ∷ prints 1 None 0
    ∷ prints 1 None 0
    ∷ prints 1 None 0
    ∷ prints 1 None 0
    ∷ prints 1 None 0
    ∷ prints 1 None 0
    ∷ prints 0 None 0
    ∷ prints 105 None 0
    ∷ prints 0 None 0
    ∷ prints 1 None 0
    ∷ prints 1 None 0
    ∷ prints 0 None 0
    ∷ prints 1 None 0
    ∷ prints 1 None 0
    ∷ prints 1 None 0
    ∷ prints 1 None 0
    ∷ prints 1 None 0
    ∷ prints 1 None 0
    ∷ prints 1 None 0
    ∷ prints 1 None 0
    ∷ prints 1 None 0
    ∷ prints 1 None 0
    ∷ prints 1 None 0
    ∷ prints 0 (Some (Block 11)) 0
    ∷ prints 103 None 0
    ∷ prints 1 None 0
    ∷ prints 1 None 0
    ∷ prints 0 (Some (Block 7)) 0
    ∷ prints 0 None 0
    ∷ prints 1 None 0
    ∷ prints 1 None 0
    ∷ prints 1 None 0
    ∷ prints 1 None 0
    ∷ prints 1 None 0
    ∷ prints 102 None 0
    ∷ prints 1 None 0
    ∷ prints 0 None 0
    ∷ prints 1 None 0
    ∷ prints 1 None 0
    ∷ prints 1 None 0
    ∷ prints 1 None 0
    ∷ prints 1 None 0
    ∷ prints 1 None 0
    ∷ prints 1 None 0
    ∷ prints 1 None 0
    ∷ prints 0 (Some (Block 10)) 0
    ∷ prints 1 None 0
    ∷ prints 0 None 0
    ∷ prints 1 None 0
    ∷ prints 1 None 0
    ∷ prints 1 None 0
    ∷ prints 1 None 0
    ∷ prints 1 None 0
    ∷ prints 1 None 0
    ∷ prints 1 None 0
    ∷ prints 1 None 0
    ∷ prints 0 None 0
    ∷ prints 1 None 0
    ∷ prints 1 None 0
    ∷ prints 0 (Some (Block 8)) 0
    ∷ prints 1 None 0
    ∷ prints 1 None 0
    ∷ prints 1 None 0
    ∷ prints 0 (Some (Record (reading (2 ∷ 0 ∷ 0 ∷ 0 ∷ 26 ∷ 0 ∷ 0 ∷ 0 ∷ [])))) 0
    ∷ prints 0 None 0
    ∷ prints 1 None 0
    ∷ prints 1 None 0
    ∷ prints 1 None 0
    ∷ prints 1 None 0
    ∷ prints 1 None 0
    ∷ prints 1 None 0
    ∷ prints 0 None 0
    ∷ prints 1 None 0
    ∷ prints 1 None 0
    ∷ prints 1 None 0
    ∷ prints 1 None 0
    ∷ prints 1 None 0
    ∷ prints 0 None 0
    ∷ prints 0 (Some (Block 12)) 0
    ∷ prints 0 None 0
    ∷ prints 1 None 0
    ∷ prints 0 None 0
    ∷ prints 1 None 0
    ∷ prints 1 None 0
    ∷ prints 0 (Some (Block 9)) 0
    ∷ prints 1 None 0
    ∷ prints 0 (Some (Block 9)) 0
    ∷ prints 1 None 0
    ∷ prints 1 None 0
    ∷ prints 105 None 0
    ∷ prints 1 None 0
    ∷ prints 0 (Some (Block 9)) 0
    ∷ prints 0 (Some (Record (reading (2 ∷ 0 ∷ 0 ∷ 0 ∷ 28 ∷ 0 ∷ 0 ∷ 0 ∷ [])))) 0
    ∷ prints 103 None 0
    ∷ prints 0 (Some (Record (reading (2 ∷ 0 ∷ 0 ∷ 0 ∷ 28 ∷ 0 ∷ 0 ∷ 0 ∷ [])))) 0
    ∷ prints 0 None 0
    ∷ prints 0 (Some (Block 3)) 0
    ∷ prints 0 (Some (Block 3)) 0
    ∷ prints 0 (Some (Record (reading (2 ∷ 0 ∷ 0 ∷ 0 ∷ 24 ∷ 0 ∷ 0 ∷ 0 ∷ [])))) 0
    ∷ prints 1 None 0
    ∷ prints 0 (Some (Record (reading (2 ∷ 0 ∷ 0 ∷ 0 ∷ 28 ∷ 0 ∷ 0 ∷ 0 ∷ [])))) 0
    ∷ prints 0 (Some (Block 3)) 0
    ∷ prints 0 None 0
    ∷ prints 1 None 0
    ∷ prints 0 None 0
    ∷ prints 103 None 0
    ∷ prints 1 None 0
    ∷ prints 0 None 0
    ∷ prints 112 None 0
    ∷ prints 0 None 0
    ∷ prints 1 None 0
    ∷ prints 1 None 0
    ∷ prints 1 None 0
    ∷ prints 1 None 0
    ∷ prints 1 None 0
    ∷ prints 105 None 0
    ∷ prints 0 None 0
    ∷ prints 102 None 0
    ∷ prints 0 (Some (Record (reading (2 ∷ 0 ∷ 0 ∷ 0 ∷ 24 ∷ 0 ∷ 0 ∷ 0 ∷ [])))) 0
    ∷ prints 1 None 0
    ∷ prints 106 None 0
    ∷ prints 103 None 0
    ∷ prints 1 None 0
    ∷ prints 103 None 0
    ∷ prints 105 None 0
    ∷ prints 1 None 0
    ∷ prints 0 (Some (Block 13)) 0
    ∷ prints 112 None 0
    ∷ prints 1 None 0
    ∷ prints 1 None 0
    ∷ prints 0 None 0
    ∷ prints 1 None 0
    ∷ prints 0 (Some (Record (reading (2 ∷ 0 ∷ 0 ∷ 0 ∷ 24 ∷ 0 ∷ 0 ∷ 0 ∷ [])))) 0
    ∷ prints 1 None 0
    ∷ prints 0 (Some (Block 14)) 0
    ∷ prints 1 None 0
    ∷ prints 0 None 0
    ∷ prints 0 None 0
    ∷ prints 1 None 0
    ∷ prints 1 None 0
    ∷ prints 1 None 0
    ∷ prints 1 None 0
    ∷ prints 103 None 0
    ∷ prints 1 None 0
    ∷ prints 0 None 0
    ∷ prints 1 None 0
    ∷ prints 105 None 0
    ∷ prints 106 None 0
    ∷ prints 1 None 0
    ∷ prints 1 None 0
    ∷ prints 1 None 0
    ∷ prints 1 None 0
    ∷ prints 1 None 0
    ∷ prints 1 None 0
    ∷ prints 105 None 0
    ∷ prints 1 None 0
    ∷ prints 0 None 0
    ∷ prints 106 None 0
    ∷ prints 1 None 0
    ∷ prints 0 (Some (Block 11)) 0
    ∷ prints 1 None 0
    ∷ prints 1 None 0
    ∷ prints 1 None 0
    ∷ prints 0 (Some (Block 15)) 0
    ∷ prints 1 None 0
    ∷ prints 1 None 0
    ∷ prints 0 (Some (Record (reading (2 ∷ 0 ∷ 0 ∷ 0 ∷ 24 ∷ 0 ∷ 0 ∷ 0 ∷ [])))) 0
    ∷ prints 1 None 0
    ∷ prints 0 (Some (Record (reading (2 ∷ 0 ∷ 0 ∷ 0 ∷ 35 ∷ 0 ∷ 0 ∷ 0 ∷ [])))) 0
    ∷ prints 1 None 0
    ∷ prints 0 None 0
    ∷ prints 1 None 0
    ∷ prints 1 None 0
    ∷ prints 0 None 0
    ∷ prints 1 None 0
    ∷ prints 1 None 0
    ∷ prints 105 None 0
    ∷ prints 1 None 0
    ∷ prints 0 (Some (Block 16)) 0
    ∷ prints 1 None 0
    ∷ prints 1 None 0
    ∷ prints 1 None 0
    ∷ prints 1 None 0
    ∷ prints 0 None 0
    ∷ prints 103 None 0
    ∷ prints 0 None 0
    ∷ prints 1 None 0
    ∷ prints 1 None 0
    ∷ prints 1 None 0
    ∷ prints 0 None 0
    ∷ prints 0 None 0
    ∷ prints 0 None 0
    ∷ prints 1 None 0
    ∷ prints 1 None 0
    ∷ prints 0 None 0
    ∷ prints 0 (Some (Record (reading (2 ∷ 0 ∷ 0 ∷ 0 ∷ 24 ∷ 0 ∷ 0 ∷ 0 ∷ [])))) 0
    ∷ prints 106 None 0
    ∷ prints 1 None 0
    ∷ prints 0 None 0
    ∷ prints 1 None 0
    ∷ prints 0 None 0
    ∷ prints 1 None 0
    ∷ prints 1 None 0
    ∷ prints 0 None 0
    ∷ prints 1 None 0
    ∷ prints 103 None 0
    ∷ prints 1 None 0
    ∷ prints 0 (Some (Block 17)) 0
    ∷ prints 1 None 0
    ∷ prints 1 None 0
    ∷ prints 1 None 0
    ∷ prints 1 None 0
    ∷ prints 1 None 0
    ∷ prints 105 None 0
    ∷ prints 0 (Some (Record (reading (2 ∷ 0 ∷ 0 ∷ 0 ∷ 24 ∷ 0 ∷ 0 ∷ 0 ∷ [])))) 0
    ∷ prints 0 None 0
    ∷ prints 1 None 0
    ∷ prints 0 (Some (Block 18)) 0
    ∷ prints 1 None 0
    ∷ prints 0 None 0
    ∷ prints 0 None 0
    ∷ prints 106 None 0
    ∷ prints 1 None 0
    ∷ prints 1 None 0
    ∷ prints 1 None 0
    ∷ prints 0 (Some (Block 19)) 0
    ∷ prints 0 None 0
    ∷ prints 1 None 0
    ∷ prints 1 None 0
    ∷ prints 1 None 0
    ∷ prints 1 None 0
    ∷ prints 0 (Some (Block 20)) 0
    ∷ prints 1 None 0
    ∷ prints 0 None 0
    ∷ prints 1 None 0
    ∷ prints 1 None 0
    ∷ prints 1 None 0
    ∷ prints 1 None 0
    ∷ prints 1 None 0
    ∷ prints 1 None 0
    ∷ prints 1 None 0
    ∷ prints 1 None 0
    ∷ prints 1 None 0
    ∷ prints 0 None 0
    ∷ prints 0 None 0
    ∷ prints 0 None 0
    ∷ prints 1 None 0
    ∷ prints 1 None 0
    ∷ prints 1 None 0
    ∷ prints 1 None 0
    ∷ prints 1 None 0
    ∷ prints 1 None 0
    ∷ prints 0 (Some (Block 13)) 0
    ∷ prints 1 None 0
    ∷ prints 1 None 0
    ∷ prints 0 (Some (Block 21)) 0
    ∷ prints 103 None 0
    ∷ prints 1 None 0
    ∷ prints 1 None 0
    ∷ prints 1 None 0
    ∷ prints 1 None 0
    ∷ prints 1 None 0
    ∷ prints 1 None 0
    ∷ prints 1 None 0
    ∷ prints 102 None 0
    ∷ prints 1 None 0
    ∷ prints 0 None 0
    ∷ prints 1 None 0
    ∷ prints 1 None 0
    ∷ prints 1 None 0
    ∷ prints 102 None 0
    ∷ prints 1 None 0
    ∷ prints 1 None 0
    ∷ prints 1 None 0
    ∷ prints 1 None 0
    ∷ prints 1 None 0
    ∷ prints 1 None 0
    ∷ prints 103 None 0
    ∷ prints 1 None 0
    ∷ prints 0 None 0
    ∷ prints 1 None 0
    ∷ prints 1 None 0
    ∷ prints 0 None 0
    ∷ prints 1 None 0
    ∷ prints 1 None 0
    ∷ prints 1 None 0
    ∷ prints 1 None 0
    ∷ prints 0 None 0
    ∷ prints 103 None 0
    ∷ prints 0 None 0
    ∷ prints 1 None 0
    ∷ prints 1 None 0
    ∷ prints 1 None 0
    ∷ prints 1 None 0
    ∷ prints 0 None 0
    ∷ prints 1 None 0
    ∷ prints 0 None 0
    ∷ prints 1 None 0
    ∷ prints 1 None 0
    ∷ prints 1 None 0
    ∷ prints 0 (Some (Block 15)) 0
    ∷ prints 0 (Some (Record (reading (2 ∷ 0 ∷ 0 ∷ 0 ∷ 46 ∷ 0 ∷ 0 ∷ 0 ∷ [])))) 0
    ∷ prints 1 None 0
    ∷ prints 1 None 0
    ∷ prints 105 None 0
    ∷ prints 0 (Some (Block 22)) 0
    ∷ prints 1 None 0
    ∷ prints 1 None 0
    ∷ prints 0 (Some (Block 23)) 0
    ∷ prints 1 None 0
    ∷ prints 0 None 0
    ∷ prints 105 None 0
    ∷ prints 0 None 0
    ∷ prints 1 None 0
    ∷ prints 1 None 0
    ∷ prints 1 None 0
    ∷ prints 1 None 0
    ∷ prints 0 None 0
    ∷ prints 1 None 0
    ∷ prints 1 None 0
    ∷ prints 1 None 0
    ∷ prints 0 (Some (Block 24)) 0
    ∷ prints 1 None 0
    ∷ prints 1 None 0
    ∷ prints 1 None 0
    ∷ prints 1 None 0
    ∷ prints 103 None 0
    ∷ prints 1 None 0
    ∷ prints 1 None 0
    ∷ prints 1 None 0
    ∷ prints 1 None 0
    ∷ prints 1 None 0
    ∷ prints 0 None 0
    ∷ prints 1 None 0
    ∷ prints 0 None 0
    ∷ prints 1 None 0
    ∷ prints 1 None 0
    ∷ prints 1 None 0
    ∷ prints 1 None 0
    ∷ prints 1 None 0
    ∷ prints 1 None 0
    ∷ prints 1 None 0
    ∷ prints 1 None 0
    ∷ prints 1 None 0
    ∷ prints 1 None 0
    ∷ prints 1 None 0
    ∷ prints 1 None 0
    ∷ prints 1 None 0
    ∷ prints 1 None 0
    ∷ prints 1 None 0
    ∷ prints 1 None 0
    ∷ prints 1 None 0
    ∷ prints 0 None 0
    ∷ prints 1 None 0
    ∷ prints 1 None 0
    ∷ prints 1 None 0
    ∷ prints 1 None 0
    ∷ prints 1 None 0
    ∷ prints 1 None 0
    ∷ prints 1 None 0
    ∷ prints 1 None 0
    ∷ prints 1 None 0
    ∷ prints 1 None 0
    ∷ prints 1 None 0
    ∷ prints 1 None 0
    ∷ prints 0 (Some (Block 20)) 0
    ∷ prints 1 None 0
    ∷ prints 102 None 0
    ∷ prints 1 None 0
    ∷ prints 1 None 0
    ∷ prints 0 None 0
    ∷ prints 1 None 0
    ∷ prints 1 None 0
    ∷ prints 0 (Some (Block 20)) 0
    ∷ prints 0 (Some (Record (reading (2 ∷ 0 ∷ 0 ∷ 0 ∷ 53 ∷ 0 ∷ 0 ∷ 0 ∷ [])))) 0
    ∷ prints 0 (Some (Block 20)) 0
    ∷ prints 1 None 0
    ∷ prints 0 None 0
    ∷ prints 112 None 0
    ∷ prints 0 None 0
    ∷ prints 1 None 0
    ∷ prints 1 None 0
    ∷ prints 0 None 0
    ∷ prints 1 None 0
    ∷ prints 0 None 0
    ∷ prints 0 (Some (Block 25)) 0
    ∷ prints 0 None 0
    ∷ prints 1 None 0
    ∷ prints 112 None 0
    ∷ prints 1 None 0
    ∷ prints 1 None 0
    ∷ prints 1 None 0
    ∷ prints 1 None 0
    ∷ prints 0 None 0
    ∷ prints 1 None 0
    ∷ prints 1 None 0
    ∷ prints 1 None 0
    ∷ prints 0 None 0
    ∷ prints 0 None 0
    ∷ prints 1 None 0
    ∷ prints 0 None 0
    ∷ prints 0 None 0
    ∷ prints 1 None 0
    ∷ prints 1 None 0
    ∷ prints 112 None 0
    ∷ prints 1 None 0
    ∷ prints 1 None 0
    ∷ prints 1 None 0
    ∷ prints 1 None 0
    ∷ prints 0 None 0
    ∷ prints 1 None 0
    ∷ prints 1 None 0
    ∷ prints 1 None 0
    ∷ prints 1 None 0
    ∷ prints 1 None 0
    ∷ prints 1 None 0
    ∷ prints 1 None 0
    ∷ prints 1 None 0
    ∷ prints 0 None 0
    ∷ prints 0 (Some (Block 26)) 0
    ∷ prints 0 None 0
    ∷ prints 1 None 0
    ∷ prints 1 None 0
    ∷ prints 1 None 0
    ∷ prints 1 None 0
    ∷ prints 0 None 0
    ∷ prints 1 None 0
    ∷ prints 1 None 0
    ∷ prints 1 None 0
    ∷ prints 1 None 0
    ∷ prints 1 None 0
    ∷ prints 1 None 0
    ∷ prints 1 None 0
    ∷ prints 1 None 0
    ∷ prints 1 None 0
    ∷ prints 1 None 0
    ∷ prints 0 None 0
    ∷ prints 0 (Some (Block 27)) 0
    ∷ prints 0 (Some (Block 21)) 0
    ∷ prints 1 None 0
    ∷ prints 1 None 0
    ∷ prints 1 None 0
    ∷ prints 1 None 0
    ∷ prints 1 None 0
    ∷ prints 1 None 0
    ∷ prints 0 None 0
    ∷ prints 1 None 0
    ∷ prints 1 None 0
    ∷ prints 0 None 0
    ∷ prints 0 None 0
    ∷ prints 1 None 0
    ∷ prints 1 None 0
    ∷ prints 1 None 0
    ∷ prints 1 None 0
    ∷ prints 1 None 0
    ∷ prints 1 None 0
    ∷ prints 1 None 0
    ∷ prints 0 (Some (Block 28)) 0
    ∷ prints 1 None 0
    ∷ prints 1 None 0
    ∷ prints 1 None 0
    ∷ prints 1 None 0
    ∷ prints 0 None 0
    ∷ prints 1 None 0
    ∷ prints 1 None 0
    ∷ prints 1 None 0
    ∷ prints 1 None 0
    ∷ prints 1 None 0
    ∷ prints 1 None 0
    ∷ prints 1 None 0
    ∷ prints 1 None 0
    ∷ prints 0 None 0
    ∷ prints 1 None 0
    ∷ prints 0 (Some (Block 29)) 0
    ∷ prints 1 None 0
    ∷ prints 1 None 0
    ∷ prints 1 None 0
    ∷ prints 0 None 0
    ∷ prints 1 None 0
    ∷ prints 1 None 0
    ∷ prints 1 None 0
    ∷ prints 1 None 0
    ∷ prints 103 None 0
    ∷ prints 1 None 0
    ∷ prints 0 (Some (Block 25)) 0
    ∷ prints 1 None 0
    ∷ prints 1 None 0
    ∷ prints 1 None 0
    ∷ prints 1 None 0
    ∷ prints 1 None 0
    ∷ prints 1 None 0
    ∷ prints 1 None 0
    ∷ prints 104 None 0
    ∷ prints 1 None 0
    ∷ prints 1 None 0
    ∷ prints 1 None 0
    ∷ prints 1 None 0
    ∷ prints 1 None 0
    ∷ prints 0 (Some (Block 22)) 0
    ∷ prints 1 None 0
    ∷ prints 0 (Some (Record (reading (2 ∷ 0 ∷ 0 ∷ 0 ∷ 64 ∷ 0 ∷ 0 ∷ 0 ∷ [])))) 0
    ∷ prints 1 None 0
    ∷ prints 1 None 0
    ∷ prints 0 (Some (Block 25)) 0
    ∷ prints 0 (Some (Block 25)) 0
    ∷ prints 0 (Some (Record (reading (2 ∷ 0 ∷ 0 ∷ 0 ∷ 71 ∷ 0 ∷ 0 ∷ 0 ∷ [])))) 0
    ∷ prints 0 None 0
    ∷ prints 112 None 0
    ∷ prints 103 None 0
    ∷ prints 1 None 0
    ∷ prints 1 None 0
    ∷ prints 0 None 0
    ∷ prints 1 None 0
    ∷ prints 1 None 0
    ∷ prints 1 None 0
    ∷ prints 106 None 0
    ∷ prints 1 None 0
    ∷ prints 1 None 0
    ∷ prints 1 None 0
    ∷ prints 112 None 0
    ∷ prints 0 None 0
    ∷ prints 0 None 0
    ∷ prints 1 None 0
    ∷ prints 1 None 0
    ∷ prints 0 None 0
    ∷ prints 1 None 0
    ∷ prints 106 None 0
    ∷ prints 0 None 0
    ∷ prints 1 None 0
    ∷ prints 106 None 0
    ∷ prints 0 None 0
    ∷ prints 1 None 0
    ∷ prints 1 None 0
    ∷ prints 1 None 0
    ∷ prints 0 None 0
    ∷ prints 0 None 0
    ∷ prints 0 None 0
    ∷ prints 1 None 0
    ∷ prints 0 None 0
    ∷ prints 1 None 0
    ∷ prints 1 None 0
    ∷ prints 1 None 0
    ∷ prints 1 None 0
    ∷ prints 1 None 0
    ∷ prints 112 None 0
    ∷ prints 0 None 0
    ∷ prints 0 None 0
    ∷ prints 0 None 0
    ∷ prints 1 None 0
    ∷ prints 1 None 0
    ∷ prints 102 None 0
    ∷ prints 1 None 0
    ∷ prints 1 None 0
    ∷ prints 1 None 0
    ∷ prints 1 None 0
    ∷ prints 0 (Some (Block 30)) 0
    ∷ prints 1 None 0
    ∷ prints 1 None 0
    ∷ prints 0 None 0
    ∷ prints 1 None 0
    ∷ prints 0 None 0
    ∷ prints 1 None 0
    ∷ prints 1 None 0
    ∷ prints 1 None 0
    ∷ prints 106 None 0
    ∷ prints 0 None 0
    ∷ prints 0 (Some (Block 31)) 0
    ∷ []

abbrev pub scenario : Scenario
scenario = record { puts = stack; form = form; calls = calls; lines = lines }

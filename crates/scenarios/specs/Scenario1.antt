-- The run scenario-1 of an independent model: its calls, and the lines that it prints. Made by tools/scenario.
use Rattle.std.specs.Prelude.{List, [], ◌∷◌, Some, None}
use Rattle.figures.specs.declared.limits.Form.{Form}
use Rattle.records.specs.declared.readings.Reading.{Reading}
use Rattle.machine.specs.declared.calls.Call.{Call}
use Rattle.machine.specs.declared.calls.Call.TheVariants.{Take, Look, Drop, Retire, Relink, Write, Read, Turn}
use Rattle.machine.specs.declared.calls.Value.TheVariants.{Block, Record}
use Rattle.machine.specs.Runs.{Line}
use Rattle.scenarios.specs.Lines.{Scenario, row, reading, prints}

abbrev pub form : Form
form = record { workers = 2; holds = 1; blocks = 30; live = 18; taking_period = 2; trying_period = 2; starting_era = 1 }

abbrev pub calls : List (Call Reading)
calls =
    Look 1 0 1
    ∷ Drop 0
    ∷ Turn 0
    ∷ Turn 1
    ∷ Turn 0
    ∷ Take 0
    ∷ Turn 0
    ∷ Turn 0
    ∷ Turn 1
    ∷ Turn 1
    ∷ Write 0 0 (reading (2 ∷ 0 ∷ 0 ∷ 0 ∷ 1 ∷ 0 ∷ 0 ∷ 0 ∷ []))
    ∷ Look 0 0 0
    ∷ Turn 0
    ∷ Turn 1
    ∷ Turn 1
    ∷ Turn 0
    ∷ Turn 1
    ∷ Turn 1
    ∷ Take 1
    ∷ Turn 1
    ∷ Turn 1
    ∷ Write 1 1 (reading (2 ∷ 0 ∷ 0 ∷ 0 ∷ 2 ∷ 0 ∷ 0 ∷ 0 ∷ []))
    ∷ Look 1 0 0
    ∷ Turn 1
    ∷ Turn 0
    ∷ Turn 1
    ∷ Turn 0
    ∷ Turn 1
    ∷ Turn 0
    ∷ Turn 1
    ∷ Turn 1
    ∷ Turn 0
    ∷ Turn 0
    ∷ Relink 0 16 None None
    ∷ Turn 1
    ∷ Relink 1 0 None (Some 1)
    ∷ Take 1
    ∷ Turn 1
    ∷ Relink 0 0 None (Some 0)
    ∷ Write 0 0 (reading (2 ∷ 0 ∷ 0 ∷ 0 ∷ 3 ∷ 0 ∷ 0 ∷ 0 ∷ []))
    ∷ Look 0 0 1
    ∷ Turn 1
    ∷ Write 1 2 (reading (2 ∷ 0 ∷ 0 ∷ 0 ∷ 4 ∷ 0 ∷ 0 ∷ 0 ∷ []))
    ∷ Look 1 0 0
    ∷ Turn 0
    ∷ Turn 0
    ∷ Relink 0 16 None None
    ∷ Read 1 0
    ∷ Turn 1
    ∷ Relink 0 1 None (Some 0)
    ∷ Take 0
    ∷ Turn 1
    ∷ Relink 1 0 (Some 1) (Some 2)
    ∷ Turn 0
    ∷ Retire 1 1
    ∷ Turn 0
    ∷ Take 1
    ∷ Turn 1
    ∷ Write 0 3 (reading (2 ∷ 0 ∷ 0 ∷ 0 ∷ 6 ∷ 0 ∷ 0 ∷ 0 ∷ []))
    ∷ Write 0 7 (reading (2 ∷ 0 ∷ 0 ∷ 0 ∷ 7 ∷ 0 ∷ 0 ∷ 0 ∷ []))
    ∷ Look 0 0 1
    ∷ Turn 0
    ∷ Turn 0
    ∷ Turn 0
    ∷ Turn 1
    ∷ Write 1 4 (reading (2 ∷ 0 ∷ 0 ∷ 0 ∷ 8 ∷ 0 ∷ 0 ∷ 0 ∷ []))
    ∷ Turn 0
    ∷ Turn 0
    ∷ Turn 0
    ∷ Retire 1 4
    ∷ Relink 0 1 (Some 0) (Some 3)
    ∷ Turn 1
    ∷ Turn 1
    ∷ Take 1
    ∷ Turn 1
    ∷ Retire 0 0
    ∷ Turn 1
    ∷ Drop 0
    ∷ Write 1 5 (reading (2 ∷ 0 ∷ 0 ∷ 0 ∷ 9 ∷ 0 ∷ 0 ∷ 0 ∷ []))
    ∷ Turn 0
    ∷ Look 1 0 1
    ∷ Turn 1
    ∷ Turn 0
    ∷ Look 0 0 0
    ∷ Turn 0
    ∷ Turn 1
    ∷ Turn 1
    ∷ Turn 1
    ∷ Turn 0
    ∷ Turn 1
    ∷ Turn 0
    ∷ Turn 1
    ∷ Turn 0
    ∷ Relink 1 1 (Some 3) (Some 5)
    ∷ Retire 1 3
    ∷ Turn 0
    ∷ Look 1 0 0
    ∷ Turn 1
    ∷ Turn 0
    ∷ Relink 1 30 (Some 25) None
    ∷ Turn 0
    ∷ Read 0 0
    ∷ Relink 0 0 (Some 2) None
    ∷ Turn 1
    ∷ Look 1 0 21
    ∷ Read 1 0
    ∷ Take 2
    ∷ Look 1 0 21
    ∷ Read 1 0
    ∷ Retire 0 2
    ∷ Turn 0
    ∷ Look 1 0 21
    ∷ Turn 0
    ∷ Read 1 0
    ∷ Look 1 0 20
    ∷ Read 1 0
    ∷ Look 1 0 20
    ∷ Take 0
    ∷ Read 1 0
    ∷ Turn 0
    ∷ Turn 0
    ∷ Drop 1
    ∷ Turn 1
    ∷ Write 0 6 (reading (2 ∷ 0 ∷ 0 ∷ 0 ∷ 12 ∷ 0 ∷ 0 ∷ 0 ∷ []))
    ∷ Look 0 0 0
    ∷ Turn 0
    ∷ Turn 0
    ∷ Turn 1
    ∷ Look 1 0 0
    ∷ Turn 1
    ∷ Turn 0
    ∷ Turn 1
    ∷ Turn 0
    ∷ Turn 0
    ∷ Turn 0
    ∷ Turn 1
    ∷ Turn 1
    ∷ Retire 1 16
    ∷ Relink 0 28 None None
    ∷ Turn 1
    ∷ Turn 1
    ∷ Relink 0 0 None (Some 6)
    ∷ Drop 0
    ∷ Turn 0
    ∷ Turn 1
    ∷ Turn 0
    ∷ Read 1 0
    ∷ Take 0
    ∷ Turn 0
    ∷ Turn 0
    ∷ Read 1 0
    ∷ Write 0 7 (reading (2 ∷ 0 ∷ 0 ∷ 0 ∷ 14 ∷ 0 ∷ 0 ∷ 0 ∷ []))
    ∷ Retire 0 7
    ∷ Look 1 0 1
    ∷ Take 0
    ∷ Turn 1
    ∷ Turn 1
    ∷ Turn 0
    ∷ Turn 0
    ∷ Write 0 8 (reading (2 ∷ 0 ∷ 0 ∷ 0 ∷ 15 ∷ 0 ∷ 0 ∷ 0 ∷ []))
    ∷ Look 1 0 0
    ∷ Turn 1
    ∷ Look 0 0 1
    ∷ Turn 1
    ∷ Turn 1
    ∷ Turn 1
    ∷ Turn 1
    ∷ Turn 0
    ∷ Turn 1
    ∷ Read 1 0
    ∷ Relink 1 0 (Some 6) None
    ∷ Turn 0
    ∷ Retire 1 6
    ∷ Turn 0
    ∷ Turn 0
    ∷ Turn 0
    ∷ Turn 0
    ∷ Turn 1
    ∷ Turn 1
    ∷ Turn 1
    ∷ Turn 0
    ∷ Turn 1
    ∷ Relink 0 32 None (Some 5)
    ∷ Turn 1
    ∷ Relink 0 1 (Some 5) (Some 8)
    ∷ Take 0
    ∷ Turn 0
    ∷ Look 1 0 1
    ∷ Turn 1
    ∷ Write 1 10 (reading (2 ∷ 0 ∷ 0 ∷ 0 ∷ 16 ∷ 0 ∷ 0 ∷ 0 ∷ []))
    ∷ Turn 0
    ∷ Turn 1
    ∷ Write 0 9 (reading (2 ∷ 0 ∷ 0 ∷ 0 ∷ 17 ∷ 0 ∷ 0 ∷ 0 ∷ []))
    ∷ Look 1 0 33
    ∷ Look 0 0 1
    ∷ Turn 0
    ∷ Turn 0
    ∷ Read 1 0
    ∷ Look 1 0 32
    ∷ Read 1 0
    ∷ Relink 0 34 None (Some 8)
    ∷ Look 1 0 33
    ∷ Relink 0 1 (Some 8) (Some 9)
    ∷ Read 1 0
    ∷ Take 0
    ∷ Look 1 0 33
    ∷ Read 1 0
    ∷ Look 1 0 33
    ∷ Turn 0
    ∷ Turn 0
    ∷ Read 1 0
    ∷ Write 0 10 (reading (2 ∷ 0 ∷ 0 ∷ 0 ∷ 18 ∷ 0 ∷ 0 ∷ 0 ∷ []))
    ∷ Look 0 0 0
    ∷ Turn 0
    ∷ Look 1 0 1
    ∷ Turn 0
    ∷ Turn 0
    ∷ Turn 1
    ∷ Turn 1
    ∷ Turn 0
    ∷ Turn 1
    ∷ Turn 0
    ∷ Turn 1
    ∷ Turn 1
    ∷ Turn 1
    ∷ Turn 1
    ∷ Turn 0
    ∷ Turn 0
    ∷ Turn 1
    ∷ Look 1 0 35
    ∷ Turn 0
    ∷ Relink 0 0 None (Some 10)
    ∷ Read 1 0
    ∷ Look 0 0 1
    ∷ Turn 0
    ∷ Turn 0
    ∷ Drop 1
    ∷ Look 0 0 35
    ∷ Read 0 0
    ∷ Turn 1
    ∷ Look 0 0 34
    ∷ Read 0 0
    ∷ Look 0 0 34
    ∷ Read 0 0
    ∷ Turn 1
    ∷ Look 1 0 0
    ∷ Look 0 0 35
    ∷ Turn 1
    ∷ Read 0 0
    ∷ Look 0 0 35
    ∷ Turn 1
    ∷ Turn 1
    ∷ Read 0 0
    ∷ Turn 0
    ∷ Take 0
    ∷ Turn 1
    ∷ Turn 0
    ∷ Turn 1
    ∷ Turn 0
    ∷ Relink 0 16 (Some 23) None
    ∷ Turn 1
    ∷ Turn 1
    ∷ Write 0 11 (reading (2 ∷ 0 ∷ 0 ∷ 0 ∷ 21 ∷ 0 ∷ 0 ∷ 0 ∷ []))
    ∷ Read 1 0
    ∷ Look 0 0 0
    ∷ Relink 1 0 (Some 10) None
    ∷ Retire 1 10
    ∷ Turn 0
    ∷ Turn 0
    ∷ Relink 0 0 None (Some 11)
    ∷ Take 0
    ∷ Turn 0
    ∷ Look 1 0 1
    ∷ Turn 0
    ∷ Write 0 12 (reading (2 ∷ 0 ∷ 0 ∷ 0 ∷ 22 ∷ 0 ∷ 0 ∷ 0 ∷ []))
    ∷ Turn 1
    ∷ Read 1 0
    ∷ Look 0 0 0
    ∷ Turn 1
    ∷ Turn 1
    ∷ Turn 0
    ∷ Turn 0
    ∷ Turn 1
    ∷ Turn 1
    ∷ Turn 1
    ∷ Read 1 0
    ∷ Turn 0
    ∷ Relink 1 1 (Some 9) None
    ∷ Turn 0
    ∷ Retire 1 9
    ∷ Turn 1
    ∷ Retire 0 26
    ∷ Turn 1
    ∷ Take 1
    ∷ Turn 1
    ∷ Turn 1
    ∷ Write 1 13 (reading (2 ∷ 0 ∷ 0 ∷ 0 ∷ 25 ∷ 0 ∷ 0 ∷ 0 ∷ []))
    ∷ Turn 0
    ∷ Turn 0
    ∷ Look 1 0 0
    ∷ Turn 1
    ∷ Turn 1
    ∷ Turn 1
    ∷ Turn 1
    ∷ Turn 1
    ∷ Take 1
    ∷ Turn 0
    ∷ Turn 0
    ∷ Turn 0
    ∷ Turn 0
    ∷ Look 1 0 25
    ∷ Turn 1
    ∷ Relink 1 0 (Some 11) (Some 13)
    ∷ Relink 0 40 None (Some 11)
    ∷ Retire 1 11
    ∷ Take 1
    ∷ Relink 0 0 (Some 11) (Some 12)
    ∷ Write 1 24 (reading (2 ∷ 0 ∷ 0 ∷ 0 ∷ 28 ∷ 0 ∷ 0 ∷ 0 ∷ []))
    ∷ Turn 1
    ∷ Write 0 12 (reading (2 ∷ 0 ∷ 0 ∷ 0 ∷ 29 ∷ 0 ∷ 0 ∷ 0 ∷ []))
    ∷ Turn 1
    ∷ Write 1 14 (reading (2 ∷ 0 ∷ 0 ∷ 0 ∷ 30 ∷ 0 ∷ 0 ∷ 0 ∷ []))
    ∷ Look 1 0 1
    ∷ Turn 1
    ∷ Look 0 0 0
    ∷ Turn 0
    ∷ Turn 1
    ∷ Relink 1 1 None (Some 14)
    ∷ Drop 1
    ∷ Turn 0
    ∷ Relink 0 0 (Some 13) (Some 12)
    ∷ Retire 0 13
    ∷ Turn 1
    ∷ Turn 0
    ∷ Turn 1
    ∷ Take 1
    ∷ Turn 1
    ∷ Turn 1
    ∷ Write 1 15 (reading (2 ∷ 0 ∷ 0 ∷ 0 ∷ 31 ∷ 0 ∷ 0 ∷ 0 ∷ []))
    ∷ Retire 1 15
    ∷ Turn 0
    ∷ Turn 0
    ∷ Turn 0
    ∷ Relink 0 0 (Some 12) None
    ∷ Retire 0 13
    ∷ Take 0
    ∷ Take 0
    ∷ Take 1
    ∷ Turn 1
    ∷ Turn 1
    ∷ Write 1 16 (reading (2 ∷ 0 ∷ 0 ∷ 0 ∷ 33 ∷ 0 ∷ 0 ∷ 0 ∷ []))
    ∷ Turn 0
    ∷ Look 1 0 1
    ∷ Turn 1
    ∷ Turn 0
    ∷ Turn 1
    ∷ Write 0 9 (reading (2 ∷ 0 ∷ 0 ∷ 0 ∷ 34 ∷ 0 ∷ 0 ∷ 0 ∷ []))
    ∷ Write 0 17 (reading (2 ∷ 0 ∷ 0 ∷ 0 ∷ 35 ∷ 0 ∷ 0 ∷ 0 ∷ []))
    ∷ Turn 1
    ∷ Retire 0 17
    ∷ Look 0 0 1
    ∷ Turn 1
    ∷ Turn 1
    ∷ Turn 1
    ∷ Turn 1
    ∷ Turn 0
    ∷ Turn 0
    ∷ Relink 1 1 (Some 14) (Some 16)
    ∷ Turn 0
    ∷ Turn 0
    ∷ Turn 0
    ∷ Retire 1 14
    ∷ Turn 0
    ∷ Turn 0
    ∷ Turn 0
    ∷ Look 0 0 48
    ∷ Read 0 0
    ∷ Turn 1
    ∷ Look 0 0 49
    ∷ Read 0 0
    ∷ Look 0 0 49
    ∷ Turn 1
    ∷ Take 2
    ∷ Turn 1
    ∷ Turn 1
    ∷ Read 1 1
    ∷ Read 0 0
    ∷ Turn 1
    ∷ Take 1
    ∷ Turn 1
    ∷ Turn 1
    ∷ Look 0 0 48
    ∷ Read 0 0
    ∷ Write 1 18 (reading (2 ∷ 0 ∷ 0 ∷ 0 ∷ 38 ∷ 0 ∷ 0 ∷ 0 ∷ []))
    ∷ Retire 1 18
    ∷ Drop 1
    ∷ Turn 1
    ∷ Turn 1
    ∷ Look 0 0 49
    ∷ Read 0 0
    ∷ Look 0 0 1
    ∷ Turn 1
    ∷ Turn 0
    ∷ Drop 1
    ∷ Turn 0
    ∷ Turn 0
    ∷ Turn 0
    ∷ Turn 0
    ∷ Turn 0
    ∷ Turn 1
    ∷ Turn 1
    ∷ Take 1
    ∷ Turn 0
    ∷ Turn 0
    ∷ Take 0
    ∷ Turn 1
    ∷ Turn 1
    ∷ Turn 0
    ∷ Turn 0
    ∷ Write 1 19 (reading (2 ∷ 0 ∷ 0 ∷ 0 ∷ 39 ∷ 0 ∷ 0 ∷ 0 ∷ []))
    ∷ Write 0 20 (reading (2 ∷ 0 ∷ 0 ∷ 0 ∷ 40 ∷ 0 ∷ 0 ∷ 0 ∷ []))
    ∷ Look 1 0 1
    ∷ Turn 1
    ∷ Look 0 0 0
    ∷ Turn 1
    ∷ Turn 1
    ∷ Turn 1
    ∷ Turn 0
    ∷ Write 0 18 (reading (2 ∷ 0 ∷ 0 ∷ 0 ∷ 41 ∷ 0 ∷ 0 ∷ 0 ∷ []))
    ∷ Turn 0
    ∷ Turn 1
    ∷ Turn 1
    ∷ Turn 1
    ∷ Relink 1 1 (Some 16) (Some 19)
    ∷ Turn 0
    ∷ Retire 1 16
    ∷ Turn 1
    ∷ Turn 0
    ∷ Turn 1
    ∷ Turn 0
    ∷ Turn 0
    ∷ Look 1 0 0
    ∷ Relink 0 0 None (Some 20)
    ∷ Take 0
    ∷ Turn 1
    ∷ Turn 0
    ∷ Turn 1
    ∷ Turn 0
    ∷ Write 0 21 (reading (2 ∷ 0 ∷ 0 ∷ 0 ∷ 42 ∷ 0 ∷ 0 ∷ 0 ∷ []))
    ∷ Look 0 0 1
    ∷ Turn 0
    ∷ Turn 0
    ∷ Take 1
    ∷ Relink 0 58 None (Some 19)
    ∷ Turn 1
    ∷ Relink 0 1 (Some 19) (Some 21)
    ∷ Relink 0 0 (Some 20) None
    ∷ Retire 0 19
    ∷ Turn 1
    ∷ Write 1 22 (reading (2 ∷ 0 ∷ 0 ∷ 0 ∷ 43 ∷ 0 ∷ 0 ∷ 0 ∷ []))
    ∷ Retire 1 22
    ∷ Drop 1
    ∷ Turn 1
    ∷ Look 0 0 1
    ∷ Turn 0
    ∷ Turn 1
    ∷ Turn 0
    ∷ Look 1 0 1
    ∷ Turn 1
    ∷ Turn 1
    ∷ Turn 0
    ∷ Turn 0
    ∷ Turn 0
    ∷ Turn 0
    ∷ Look 0 0 59
    ∷ Turn 1
    ∷ Read 0 0
    ∷ Look 0 0 58
    ∷ Read 0 0
    ∷ Turn 1
    ∷ Look 0 0 58
    ∷ Read 0 0
    ∷ Turn 1
    ∷ Look 0 0 59
    ∷ Turn 1
    ∷ Read 0 0
    ∷ Take 0
    ∷ Turn 0
    ∷ Turn 1
    ∷ Take 0
    ∷ Turn 1
    ∷ Turn 0
    ∷ Turn 1
    ∷ Write 0 23 (reading (2 ∷ 0 ∷ 0 ∷ 0 ∷ 45 ∷ 0 ∷ 0 ∷ 0 ∷ []))
    ∷ Retire 0 23
    ∷ Turn 1
    ∷ Turn 0
    ∷ Turn 1
    ∷ Turn 0
    ∷ Take 0
    ∷ Look 1 0 59
    ∷ Read 1 0
    ∷ Turn 0
    ∷ Turn 0
    ∷ Write 0 24 (reading (2 ∷ 0 ∷ 0 ∷ 0 ∷ 46 ∷ 0 ∷ 0 ∷ 0 ∷ []))
    ∷ Look 1 0 59
    ∷ Retire 0 24
    ∷ Relink 0 0 None None
    ∷ Read 1 0
    ∷ Retire 0 21
    ∷ Take 0
    ∷ Turn 0
    ∷ Turn 0
    ∷ Look 1 0 58
    ∷ Read 1 0
    ∷ Look 1 0 59
    ∷ Read 1 0
    ∷ Look 1 0 58
    ∷ Turn 1
    ∷ Write 0 25 (reading (2 ∷ 0 ∷ 0 ∷ 0 ∷ 48 ∷ 0 ∷ 0 ∷ 0 ∷ []))
    ∷ Read 1 0
    ∷ Look 0 0 1
    ∷ Turn 0
    ∷ Turn 0
    ∷ Take 1
    ∷ Turn 0
    ∷ Turn 1
    ∷ Turn 0
    ∷ Turn 1
    ∷ Write 1 26 (reading (2 ∷ 0 ∷ 0 ∷ 0 ∷ 49 ∷ 0 ∷ 0 ∷ 0 ∷ []))
    ∷ Retire 1 26
    ∷ Turn 0
    ∷ Turn 0
    ∷ Turn 1
    ∷ Turn 1
    ∷ Relink 0 66 None (Some 21)
    ∷ Relink 0 1 (Some 21) (Some 25)
    ∷ Turn 1
    ∷ Take 0
    ∷ Turn 0
    ∷ Turn 1
    ∷ Turn 0
    ∷ Turn 1
    ∷ Write 0 27 (reading (2 ∷ 0 ∷ 0 ∷ 0 ∷ 50 ∷ 0 ∷ 0 ∷ 0 ∷ []))
    ∷ Look 1 0 0
    ∷ Look 0 0 1
    ∷ Turn 1
    ∷ Take 3
    ∷ Turn 1
    ∷ Turn 0
    ∷ Turn 1
    ∷ Turn 1
    ∷ Turn 1
    ∷ Turn 0
    ∷ Turn 1
    ∷ Turn 1
    ∷ Relink 0 1 (Some 25) (Some 27)
    ∷ Retire 0 25
    ∷ Turn 1
    ∷ Take 1
    ∷ Turn 0
    ∷ Turn 1
    ∷ Turn 1
    ∷ Write 1 28 (reading (2 ∷ 0 ∷ 0 ∷ 0 ∷ 53 ∷ 0 ∷ 0 ∷ 0 ∷ []))
    ∷ Look 1 0 1
    ∷ Turn 1
    ∷ Turn 0
    ∷ Turn 1
    ∷ Turn 1
    ∷ Turn 1
    ∷ Turn 0
    ∷ Turn 0
    ∷ Turn 1
    ∷ Turn 0
    ∷ Drop 0
    ∷ Turn 1
    ∷ Turn 0
    ∷ Relink 1 72 None (Some 27)
    ∷ Turn 0
    ∷ Turn 0
    ∷ Turn 0
    ∷ Relink 1 1 (Some 27) (Some 28)
    ∷ Look 0 0 1
    ∷ Turn 0
    ∷ Turn 0
    ∷ Take 1
    ∷ Write 0 13 (reading (2 ∷ 0 ∷ 0 ∷ 0 ∷ 54 ∷ 0 ∷ 0 ∷ 0 ∷ []))
    ∷ Turn 0
    ∷ Turn 0
    ∷ Turn 0
    ∷ Turn 1
    ∷ Turn 0
    ∷ Turn 1
    ∷ Read 1 0
    ∷ Turn 0
    ∷ Write 1 29 (reading (2 ∷ 0 ∷ 0 ∷ 0 ∷ 56 ∷ 0 ∷ 0 ∷ 0 ∷ []))
    ∷ Turn 1
    ∷ Read 0 0
    ∷ Relink 0 1 (Some 28) None
    ∷ Retire 0 28
    ∷ Take 0
    ∷ Look 1 0 1
    ∷ Turn 0
    ∷ Look 0 0 71
    ∷ Turn 0
    ∷ Write 0 6 (reading (2 ∷ 0 ∷ 0 ∷ 0 ∷ 59 ∷ 0 ∷ 0 ∷ 0 ∷ []))
    ∷ Look 0 0 0
    ∷ Turn 1
    ∷ Turn 0
    ∷ Turn 0
    ∷ Turn 0
    ∷ Turn 1
    ∷ Relink 0 36 (Some 30) None
    ∷ Turn 0
    ∷ Turn 0
    ∷ Drop 0
    ∷ Turn 0
    ∷ Turn 1
    ∷ Turn 1
    ∷ Turn 1
    ∷ Relink 0 0 None (Some 6)
    ∷ Turn 1
    ∷ Look 0 0 0
    ∷ Turn 0
    ∷ Turn 1
    ∷ Turn 1
    ∷ Relink 1 1 None (Some 29)
    ∷ Drop 1
    ∷ Turn 1
    ∷ Turn 1
    ∷ Look 1 0 1
    ∷ Turn 0
    ∷ Read 0 0
    ∷ Relink 0 0 (Some 6) None
    ∷ Retire 0 6
    ∷ Turn 1
    ∷ Turn 1
    ∷ Turn 1
    ∷ Turn 1
    ∷ Turn 1
    ∷ Turn 0
    ∷ Turn 1
    ∷ Turn 0
    ∷ Look 0 0 1
    ∷ Turn 1
    ∷ Read 1 0
    ∷ Turn 0
    ∷ Look 1 0 38
    ∷ Relink 1 1 (Some 29) None
    ∷ Turn 0
    ∷ Read 0 0
    ∷ Read 0 0
    ∷ Retire 1 29
    ∷ Relink 1 0 None None
    ∷ Retire 1 29
    ∷ Look 1 0 0
    ∷ Look 0 0 46
    ∷ Turn 1
    ∷ Relink 0 1 None None
    ∷ Turn 1
    ∷ Retire 0 29
    ∷ Take 1
    ∷ Turn 1
    ∷ Drop 0
    ∷ Turn 1
    ∷ Drop 1
    ∷ Turn 0
    ∷ Turn 0
    ∷ Turn 1
    ∷ Take 0
    ∷ Turn 1
    ∷ Turn 0
    ∷ Write 1 3 (reading (2 ∷ 0 ∷ 0 ∷ 0 ∷ 65 ∷ 0 ∷ 0 ∷ 0 ∷ []))
    ∷ Turn 0
    ∷ Look 1 0 1
    ∷ Turn 1
    ∷ Relink 0 61 (Some 22) None
    ∷ Take 3
    ∷ Turn 1
    ∷ Turn 1
    ∷ Write 0 4 (reading (2 ∷ 0 ∷ 0 ∷ 0 ∷ 68 ∷ 0 ∷ 0 ∷ 0 ∷ []))
    ∷ Turn 1
    ∷ Look 0 0 1
    ∷ Retire 1 28
    ∷ Turn 1
    ∷ Turn 1
    ∷ Turn 1
    ∷ Relink 1 1 None (Some 3)
    ∷ Look 1 0 1
    ∷ Turn 0
    ∷ Turn 1
    ∷ Turn 1
    ∷ Turn 0
    ∷ Read 1 0
    ∷ Look 0 1 17
    ∷ Read 1 0
    ∷ Read 1 0
    ∷ Take 1
    ∷ Turn 0
    ∷ Turn 0
    ∷ Turn 1
    ∷ Turn 0
    ∷ Turn 1
    ∷ Write 1 1 (reading (2 ∷ 0 ∷ 0 ∷ 0 ∷ 71 ∷ 0 ∷ 0 ∷ 0 ∷ []))
    ∷ Turn 0
    ∷ Look 1 0 0
    ∷ Turn 1
    ∷ Turn 1
    ∷ Turn 0
    ∷ Relink 0 1 (Some 3) (Some 4)
    ∷ Retire 0 3
    ∷ Look 0 0 1
    ∷ Turn 0
    ∷ Relink 1 18 None None
    ∷ Relink 1 0 None (Some 1)
    ∷ Look 1 0 1
    ∷ Turn 1
    ∷ Turn 1
    ∷ Look 1 0 25
    ∷ Turn 0
    ∷ Read 1 0
    ∷ Take 1
    ∷ Turn 1
    ∷ Turn 1
    ∷ Write 1 13 (reading (2 ∷ 0 ∷ 0 ∷ 0 ∷ 72 ∷ 0 ∷ 0 ∷ 0 ∷ []))
    ∷ Read 0 0
    ∷ Relink 0 1 (Some 4) None
    ∷ Look 0 1 3
    ∷ Retire 1 13
    ∷ Turn 1
    ∷ Turn 2
    ∷ Turn 1
    ∷ Look 1 0 0
    ∷ Turn 1
    ∷ Turn 1
    ∷ Turn 1
    ∷ Retire 0 4
    ∷ Turn 0
    ∷ Turn 0
    ∷ Turn 0
    ∷ Turn 0
    ∷ Turn 1
    ∷ Turn 1
    ∷ Turn 0
    ∷ Relink 0 0 (Some 1) None
    ∷ Retire 0 4
    ∷ Look 0 0 1
    ∷ Turn 1
    ∷ Read 1 0
    ∷ Relink 1 0 (Some 1) None
    ∷ Turn 0
    ∷ Turn 0
    ∷ Retire 1 4
    ∷ Retire 1 1
    ∷ Drop 1
    ∷ Turn 1
    ∷ Turn 0
    ∷ Turn 0
    ∷ Turn 0
    ∷ Turn 1
    ∷ Turn 1
    ∷ Turn 0
    ∷ Retire 0 8
    ∷ Drop 1
    ∷ Turn 0
    ∷ Turn 0
    ∷ Drop 0
    ∷ Turn 0
    ∷ Turn 1
    ∷ Turn 1
    ∷ Take 1
    ∷ Turn 0
    ∷ Turn 1
    ∷ Turn 1
    ∷ Write 1 7 (reading (2 ∷ 0 ∷ 0 ∷ 0 ∷ 77 ∷ 0 ∷ 0 ∷ 0 ∷ []))
    ∷ Retire 1 7
    ∷ Drop 0
    ∷ Turn 0
    ∷ Turn 0
    ∷ Turn 1
    ∷ Turn 1
    ∷ Turn 1
    ∷ Drop 1
    ∷ Turn 1
    ∷ Turn 1
    ∷ Take 1
    ∷ Turn 1
    ∷ Turn 1
    ∷ Write 1 2 (reading (2 ∷ 0 ∷ 0 ∷ 0 ∷ 79 ∷ 0 ∷ 0 ∷ 0 ∷ []))
    ∷ Look 1 0 0
    ∷ Look 0 0 0
    ∷ Turn 1
    ∷ Turn 0
    ∷ Turn 1
    ∷ Turn 1
    ∷ Turn 1
    ∷ Turn 0
    ∷ Turn 0
    ∷ Turn 1
    ∷ Turn 0
    ∷ Turn 0
    ∷ Turn 1
    ∷ Turn 0
    ∷ Read 1 1
    ∷ Turn 0
    ∷ Take 0
    ∷ Turn 1
    ∷ Turn 0
    ∷ Turn 0
    ∷ Write 0 0 (reading (2 ∷ 0 ∷ 0 ∷ 0 ∷ 81 ∷ 0 ∷ 0 ∷ 0 ∷ []))
    ∷ Relink 1 0 None (Some 2)
    ∷ Look 0 0 0
    ∷ Turn 0
    ∷ Write 1 26 (reading (2 ∷ 0 ∷ 0 ∷ 0 ∷ 82 ∷ 0 ∷ 0 ∷ 0 ∷ []))
    ∷ Drop 1
    ∷ Turn 0
    ∷ Turn 0
    ∷ Turn 0
    ∷ Turn 1
    ∷ Turn 0
    ∷ Turn 0
    ∷ Turn 1
    ∷ Relink 0 16 None (Some 2)
    ∷ Look 1 0 0
    ∷ Relink 0 0 (Some 2) (Some 0)
    ∷ Turn 1
    ∷ Turn 1
    ∷ Relink 0 1 None None
    ∷ Retire 0 2
    ∷ Relink 0 1 None None
    ∷ Turn 1
    ∷ Turn 1
    ∷ Turn 1
    ∷ Retire 0 2
    ∷ Take 0
    ∷ Turn 1
    ∷ Turn 0
    ∷ Turn 1
    ∷ Drop 1
    ∷ Turn 1
    ∷ Turn 0
    ∷ Write 0 14 (reading (2 ∷ 0 ∷ 0 ∷ 0 ∷ 83 ∷ 0 ∷ 0 ∷ 0 ∷ []))
    ∷ Turn 1
    ∷ Look 1 0 1
    ∷ Relink 1 7 None None
    ∷ Look 0 0 1
    ∷ Turn 0
    ∷ Turn 0
    ∷ Relink 0 44 None None
    ∷ Turn 1
    ∷ Turn 1
    ∷ Turn 1
    ∷ Relink 0 1 None (Some 14)
    ∷ Turn 1
    ∷ Look 0 0 0
    ∷ Turn 1
    ∷ Turn 1
    ∷ Turn 1
    ∷ Turn 0
    ∷ Read 1 0
    ∷ Turn 0
    ∷ Look 0 0 1
    ∷ Turn 0
    ∷ Turn 0
    ∷ Look 0 0 44
    ∷ Relink 1 1 (Some 14) None
    ∷ Retire 1 14
    ∷ Take 1
    ∷ Turn 1
    ∷ Read 0 0
    ∷ Look 0 0 45
    ∷ Read 0 0
    ∷ Look 0 0 44
    ∷ Relink 0 36 None None
    ∷ Read 0 0
    ∷ Turn 1
    ∷ Write 1 15 (reading (2 ∷ 0 ∷ 0 ∷ 0 ∷ 86 ∷ 0 ∷ 0 ∷ 0 ∷ []))
    ∷ Take 1
    ∷ Drop 0
    ∷ Look 1 0 1
    ∷ Turn 0
    ∷ Turn 1
    ∷ Turn 1
    ∷ Relink 1 1 (Some 14) (Some 15)
    ∷ Turn 0
    ∷ Write 1 9 (reading (2 ∷ 0 ∷ 0 ∷ 0 ∷ 88 ∷ 0 ∷ 0 ∷ 0 ∷ []))
    ∷ Look 0 0 0
    ∷ Look 1 0 0
    ∷ Turn 1
    ∷ Turn 1
    ∷ Turn 0
    ∷ Turn 0
    ∷ Turn 1
    ∷ Turn 1
    ∷ Turn 0
    ∷ Turn 1
    ∷ Turn 0
    ∷ Turn 1
    ∷ Turn 0
    ∷ Turn 0
    ∷ []

abbrev pub lines : List (Line Reading)
lines =
    prints 1 None 0
    ∷ prints 1 None 0
    ∷ prints 1 None 0
    ∷ prints 1 None 0
    ∷ prints 0 None 0
    ∷ prints 1 None 0
    ∷ prints 1 None 0
    ∷ prints 0 (Some (Block 0)) 0
    ∷ prints 1 None 0
    ∷ prints 1 None 0
    ∷ prints 0 None 0
    ∷ prints 1 None 0
    ∷ prints 1 None 0
    ∷ prints 1 None 0
    ∷ prints 1 None 0
    ∷ prints 1 None 0
    ∷ prints 1 None 0
    ∷ prints 0 None 0
    ∷ prints 1 None 0
    ∷ prints 1 None 0
    ∷ prints 0 (Some (Block 1)) 0
    ∷ prints 0 None 0
    ∷ prints 1 None 0
    ∷ prints 1 None 0
    ∷ prints 1 None 0
    ∷ prints 1 None 0
    ∷ prints 1 None 0
    ∷ prints 1 None 0
    ∷ prints 1 None 0
    ∷ prints 1 None 0
    ∷ prints 1 None 0
    ∷ prints 1 None 0
    ∷ prints 0 None 0
    ∷ prints 0 None 0
    ∷ prints 0 None 0
    ∷ prints 0 None 0
    ∷ prints 1 None 0
    ∷ prints 1 None 0
    ∷ prints 112 None 0
    ∷ prints 0 None 0
    ∷ prints 1 None 0
    ∷ prints 0 (Some (Block 2)) 0
    ∷ prints 0 None 0
    ∷ prints 1 None 0
    ∷ prints 1 None 0
    ∷ prints 0 None 0
    ∷ prints 0 None 0
    ∷ prints 103 None 0
    ∷ prints 1 None 0
    ∷ prints 0 None 0
    ∷ prints 1 None 0
    ∷ prints 0 (Some (Block 1)) 0
    ∷ prints 0 None 0
    ∷ prints 1 None 0
    ∷ prints 0 None 0
    ∷ prints 0 (Some (Block 3)) 0
    ∷ prints 1 None 0
    ∷ prints 1 None 0
    ∷ prints 0 None 0
    ∷ prints 105 None 0
    ∷ prints 1 None 0
    ∷ prints 1 None 0
    ∷ prints 1 None 0
    ∷ prints 1 None 0
    ∷ prints 0 (Some (Block 4)) 0
    ∷ prints 0 None 0
    ∷ prints 1 None 0
    ∷ prints 1 None 0
    ∷ prints 0 (Some (Block 0)) 0
    ∷ prints 1 None 0
    ∷ prints 0 None 0
    ∷ prints 1 None 0
    ∷ prints 0 None 0
    ∷ prints 1 None 0
    ∷ prints 1 None 0
    ∷ prints 0 None 0
    ∷ prints 0 (Some (Block 5)) 0
    ∷ prints 1 None 0
    ∷ prints 0 None 0
    ∷ prints 1 None 0
    ∷ prints 1 None 0
    ∷ prints 1 None 0
    ∷ prints 0 None 0
    ∷ prints 1 None 0
    ∷ prints 1 None 0
    ∷ prints 1 None 0
    ∷ prints 1 None 0
    ∷ prints 1 None 0
    ∷ prints 1 None 0
    ∷ prints 1 None 0
    ∷ prints 1 None 0
    ∷ prints 0 (Some (Block 3)) 0
    ∷ prints 1 None 0
    ∷ prints 0 None 0
    ∷ prints 0 None 0
    ∷ prints 1 None 0
    ∷ prints 1 None 0
    ∷ prints 1 None 0
    ∷ prints 1 None 0
    ∷ prints 103 None 0
    ∷ prints 0 (Some (Block 2)) 0
    ∷ prints 0 (Some (Record (reading (2 ∷ 0 ∷ 0 ∷ 0 ∷ 4 ∷ 0 ∷ 0 ∷ 0 ∷ [])))) 0
    ∷ prints 0 None 0
    ∷ prints 0 (Some (Block 2)) 0
    ∷ prints 105 None 0
    ∷ prints 0 (Some (Record (reading (2 ∷ 0 ∷ 0 ∷ 0 ∷ 4 ∷ 0 ∷ 0 ∷ 0 ∷ [])))) 0
    ∷ prints 102 None 0
    ∷ prints 105 None 0
    ∷ prints 0 (Some (Record (reading (2 ∷ 0 ∷ 0 ∷ 0 ∷ 4 ∷ 0 ∷ 0 ∷ 0 ∷ [])))) 0
    ∷ prints 1 None 0
    ∷ prints 1 None 0
    ∷ prints 105 None 0
    ∷ prints 0 None 0
    ∷ prints 0 (Some (Record (reading (2 ∷ 0 ∷ 0 ∷ 0 ∷ 4 ∷ 0 ∷ 0 ∷ 0 ∷ [])))) 0
    ∷ prints 105 None 0
    ∷ prints 0 (Some (Record (reading (2 ∷ 0 ∷ 0 ∷ 0 ∷ 4 ∷ 0 ∷ 0 ∷ 0 ∷ [])))) 0
    ∷ prints 105 None 0
    ∷ prints 1 None 0
    ∷ prints 0 (Some (Record (reading (2 ∷ 0 ∷ 0 ∷ 0 ∷ 4 ∷ 0 ∷ 0 ∷ 0 ∷ [])))) 0
    ∷ prints 1 None 0
    ∷ prints 0 (Some (Block 6)) 0
    ∷ prints 1 None 0
    ∷ prints 1 None 0
    ∷ prints 0 None 0
    ∷ prints 1 None 0
    ∷ prints 1 None 0
    ∷ prints 1 None 0
    ∷ prints 0 None 0
    ∷ prints 1 None 0
    ∷ prints 1 None 0
    ∷ prints 1 None 0
    ∷ prints 1 None 0
    ∷ prints 1 None 0
    ∷ prints 1 None 0
    ∷ prints 0 None 0
    ∷ prints 1 None 0
    ∷ prints 1 None 0
    ∷ prints 103 None 0
    ∷ prints 0 None 0
    ∷ prints 1 None 0
    ∷ prints 1 None 0
    ∷ prints 0 None 0
    ∷ prints 1 None 0
    ∷ prints 1 None 0
    ∷ prints 0 None 0
    ∷ prints 0 None 0
    ∷ prints 105 None 0
    ∷ prints 1 None 0
    ∷ prints 1 None 0
    ∷ prints 0 (Some (Block 7)) 0
    ∷ prints 105 None 0
    ∷ prints 0 None 0
    ∷ prints 0 None 0
    ∷ prints 1 None 0
    ∷ prints 1 None 0
    ∷ prints 1 None 0
    ∷ prints 0 (Some (Block 5)) 0
    ∷ prints 1 None 0
    ∷ prints 0 (Some (Block 8)) 0
    ∷ prints 0 None 0
    ∷ prints 1 None 0
    ∷ prints 1 None 0
    ∷ prints 1 None 0
    ∷ prints 1 None 0
    ∷ prints 1 None 0
    ∷ prints 1 None 0
    ∷ prints 1 None 0
    ∷ prints 1 None 0
    ∷ prints 0 (Some (Block 6)) 0
    ∷ prints 0 (Some (Record (reading (2 ∷ 0 ∷ 0 ∷ 0 ∷ 12 ∷ 0 ∷ 0 ∷ 0 ∷ [])))) 0
    ∷ prints 0 None 0
    ∷ prints 1 None 0
    ∷ prints 1 None 0
    ∷ prints 1 None 0
    ∷ prints 1 None 0
    ∷ prints 1 None 0
    ∷ prints 1 None 0
    ∷ prints 1 None 0
    ∷ prints 1 None 0
    ∷ prints 1 None 0
    ∷ prints 0 (Some (Block 5)) 0
    ∷ prints 1 None 0
    ∷ prints 0 None 0
    ∷ prints 0 None 0
    ∷ prints 0 None 0
    ∷ prints 1 None 0
    ∷ prints 1 None 0
    ∷ prints 1 None 0
    ∷ prints 1 None 0
    ∷ prints 103 None 0
    ∷ prints 0 (Some (Block 9)) 0
    ∷ prints 0 (Some (Block 8)) 0
    ∷ prints 0 None 0
    ∷ prints 105 None 0
    ∷ prints 1 None 0
    ∷ prints 1 None 0
    ∷ prints 0 (Some (Block 8)) 0
    ∷ prints 0 (Some (Record (reading (2 ∷ 0 ∷ 0 ∷ 0 ∷ 15 ∷ 0 ∷ 0 ∷ 0 ∷ [])))) 0
    ∷ prints 105 None 0
    ∷ prints 0 (Some (Record (reading (2 ∷ 0 ∷ 0 ∷ 0 ∷ 15 ∷ 0 ∷ 0 ∷ 0 ∷ [])))) 0
    ∷ prints 0 None 0
    ∷ prints 105 None 0
    ∷ prints 0 None 0
    ∷ prints 0 (Some (Record (reading (2 ∷ 0 ∷ 0 ∷ 0 ∷ 15 ∷ 0 ∷ 0 ∷ 0 ∷ [])))) 0
    ∷ prints 1 None 0
    ∷ prints 105 None 0
    ∷ prints 0 (Some (Record (reading (2 ∷ 0 ∷ 0 ∷ 0 ∷ 15 ∷ 0 ∷ 0 ∷ 0 ∷ [])))) 0
    ∷ prints 105 None 0
    ∷ prints 1 None 0
    ∷ prints 0 (Some (Block 10)) 0
    ∷ prints 0 (Some (Record (reading (2 ∷ 0 ∷ 0 ∷ 0 ∷ 15 ∷ 0 ∷ 0 ∷ 0 ∷ [])))) 0
    ∷ prints 0 None 0
    ∷ prints 1 None 0
    ∷ prints 1 None 0
    ∷ prints 1 None 0
    ∷ prints 1 None 0
    ∷ prints 1 None 0
    ∷ prints 1 None 0
    ∷ prints 1 None 0
    ∷ prints 1 None 0
    ∷ prints 1 None 0
    ∷ prints 1 None 0
    ∷ prints 1 None 4
    ∷ prints 1 None 0
    ∷ prints 1 None 0
    ∷ prints 1 None 0
    ∷ prints 1 None 0
    ∷ prints 1 None 0
    ∷ prints 0 (Some (Block 9)) 0
    ∷ prints 105 None 0
    ∷ prints 0 None 0
    ∷ prints 0 None 0
    ∷ prints 0 (Some (Record (reading (2 ∷ 0 ∷ 0 ∷ 0 ∷ 17 ∷ 0 ∷ 0 ∷ 0 ∷ [])))) 0
    ∷ prints 1 None 0
    ∷ prints 1 None 0
    ∷ prints 0 (Some (Block 9)) 0
    ∷ prints 1 None 0
    ∷ prints 105 None 0
    ∷ prints 0 (Some (Record (reading (2 ∷ 0 ∷ 0 ∷ 0 ∷ 17 ∷ 0 ∷ 0 ∷ 0 ∷ [])))) 0
    ∷ prints 1 None 0
    ∷ prints 105 None 0
    ∷ prints 0 (Some (Record (reading (2 ∷ 0 ∷ 0 ∷ 0 ∷ 17 ∷ 0 ∷ 0 ∷ 0 ∷ [])))) 0
    ∷ prints 105 None 0
    ∷ prints 0 (Some (Record (reading (2 ∷ 0 ∷ 0 ∷ 0 ∷ 17 ∷ 0 ∷ 0 ∷ 0 ∷ [])))) 0
    ∷ prints 0 None 0
    ∷ prints 1 None 0
    ∷ prints 105 None 0
    ∷ prints 1 None 0
    ∷ prints 0 (Some (Record (reading (2 ∷ 0 ∷ 0 ∷ 0 ∷ 17 ∷ 0 ∷ 0 ∷ 0 ∷ [])))) 0
    ∷ prints 105 None 0
    ∷ prints 1 None 0
    ∷ prints 1 None 0
    ∷ prints 0 (Some (Record (reading (2 ∷ 0 ∷ 0 ∷ 0 ∷ 17 ∷ 0 ∷ 0 ∷ 0 ∷ [])))) 0
    ∷ prints 104 None 0
    ∷ prints 1 None 0
    ∷ prints 1 None 0
    ∷ prints 1 None 0
    ∷ prints 1 None 0
    ∷ prints 0 (Some (Block 11)) 0
    ∷ prints 105 None 0
    ∷ prints 1 None 0
    ∷ prints 0 (Some (Block 10)) 0
    ∷ prints 0 None 0
    ∷ prints 0 (Some (Record (reading (2 ∷ 0 ∷ 0 ∷ 0 ∷ 18 ∷ 0 ∷ 0 ∷ 0 ∷ [])))) 0
    ∷ prints 1 None 0
    ∷ prints 0 None 0
    ∷ prints 0 None 0
    ∷ prints 1 None 0
    ∷ prints 0 None 0
    ∷ prints 0 None 0
    ∷ prints 1 None 0
    ∷ prints 1 None 0
    ∷ prints 1 None 0
    ∷ prints 0 (Some (Block 12)) 0
    ∷ prints 0 None 0
    ∷ prints 1 None 0
    ∷ prints 103 None 0
    ∷ prints 1 None 0
    ∷ prints 1 None 0
    ∷ prints 1 None 0
    ∷ prints 1 None 0
    ∷ prints 1 None 0
    ∷ prints 1 None 0
    ∷ prints 1 None 0
    ∷ prints 0 (Some (Block 9)) 0
    ∷ prints 0 (Some (Record (reading (2 ∷ 0 ∷ 0 ∷ 0 ∷ 17 ∷ 0 ∷ 0 ∷ 0 ∷ [])))) 0
    ∷ prints 1 None 0
    ∷ prints 0 None 0
    ∷ prints 1 None 0
    ∷ prints 1 None 0
    ∷ prints 1 None 0
    ∷ prints 103 None 0
    ∷ prints 0 None 0
    ∷ prints 1 None 0
    ∷ prints 1 None 0
    ∷ prints 0 (Some (Block 13)) 0
    ∷ prints 0 None 0
    ∷ prints 1 None 0
    ∷ prints 1 None 0
    ∷ prints 1 None 0
    ∷ prints 1 None 0
    ∷ prints 1 None 0
    ∷ prints 1 None 0
    ∷ prints 1 None 0
    ∷ prints 1 None 0
    ∷ prints 103 None 0
    ∷ prints 1 None 0
    ∷ prints 1 None 0
    ∷ prints 1 None 0
    ∷ prints 0 (Some (Block 11)) 0
    ∷ prints 103 None 0
    ∷ prints 0 (Some (Block 11)) 0
    ∷ prints 0 None 0
    ∷ prints 0 None 0
    ∷ prints 107 None 0
    ∷ prints 1 None 0
    ∷ prints 112 None 0
    ∷ prints 103 None 0
    ∷ prints 1 None 0
    ∷ prints 0 None 0
    ∷ prints 0 (Some (Block 14)) 0
    ∷ prints 0 None 0
    ∷ prints 1 None 0
    ∷ prints 1 None 0
    ∷ prints 1 None 0
    ∷ prints 1 None 0
    ∷ prints 0 None 0
    ∷ prints 0 None 0
    ∷ prints 1 None 0
    ∷ prints 0 (Some (Block 13)) 0
    ∷ prints 0 None 0
    ∷ prints 1 None 0
    ∷ prints 1 None 0
    ∷ prints 1 None 0
    ∷ prints 0 None 0
    ∷ prints 1 None 0
    ∷ prints 1 None 0
    ∷ prints 0 (Some (Block 15)) 0
    ∷ prints 0 None 0
    ∷ prints 0 None 0
    ∷ prints 1 None 0
    ∷ prints 1 None 0
    ∷ prints 0 None 0
    ∷ prints 0 None 0
    ∷ prints 106 None 0
    ∷ prints 1 None 0
    ∷ prints 103 None 0
    ∷ prints 1 None 0
    ∷ prints 1 None 0
    ∷ prints 0 (Some (Block 16)) 0
    ∷ prints 0 None 0
    ∷ prints 1 None 0
    ∷ prints 1 None 0
    ∷ prints 1 None 0
    ∷ prints 0 (Some (Block 17)) 0
    ∷ prints 1 None 0
    ∷ prints 105 None 0
    ∷ prints 0 None 0
    ∷ prints 1 None 0
    ∷ prints 0 None 0
    ∷ prints 1 None 0
    ∷ prints 1 None 0
    ∷ prints 1 None 0
    ∷ prints 1 None 0
    ∷ prints 0 (Some (Block 14)) 0
    ∷ prints 1 None 0
    ∷ prints 1 None 0
    ∷ prints 0 None 0
    ∷ prints 1 None 0
    ∷ prints 1 None 4
    ∷ prints 1 None 0
    ∷ prints 1 None 0
    ∷ prints 1 None 0
    ∷ prints 1 None 0
    ∷ prints 0 (Some (Block 16)) 0
    ∷ prints 105 None 0
    ∷ prints 0 (Some (Record (reading (2 ∷ 0 ∷ 0 ∷ 0 ∷ 33 ∷ 0 ∷ 0 ∷ 0 ∷ [])))) 0
    ∷ prints 1 None 0
    ∷ prints 105 None 0
    ∷ prints 0 (Some (Record (reading (2 ∷ 0 ∷ 0 ∷ 0 ∷ 33 ∷ 0 ∷ 0 ∷ 0 ∷ [])))) 0
    ∷ prints 105 None 0
    ∷ prints 1 None 0
    ∷ prints 102 None 0
    ∷ prints 1 None 0
    ∷ prints 1 None 0
    ∷ prints 102 None 0
    ∷ prints 0 (Some (Record (reading (2 ∷ 0 ∷ 0 ∷ 0 ∷ 33 ∷ 0 ∷ 0 ∷ 0 ∷ [])))) 0
    ∷ prints 0 None 0
    ∷ prints 1 None 0
    ∷ prints 1 None 0
    ∷ prints 0 (Some (Block 18)) 0
    ∷ prints 105 None 0
    ∷ prints 0 (Some (Record (reading (2 ∷ 0 ∷ 0 ∷ 0 ∷ 33 ∷ 0 ∷ 0 ∷ 0 ∷ [])))) 0
    ∷ prints 0 None 0
    ∷ prints 0 None 0
    ∷ prints 1 None 0
    ∷ prints 1 None 0
    ∷ prints 1 None 0
    ∷ prints 105 None 0
    ∷ prints 0 (Some (Record (reading (2 ∷ 0 ∷ 0 ∷ 0 ∷ 33 ∷ 0 ∷ 0 ∷ 0 ∷ [])))) 0
    ∷ prints 1 None 0
    ∷ prints 0 None 0
    ∷ prints 1 None 0
    ∷ prints 1 None 0
    ∷ prints 1 None 0
    ∷ prints 1 None 0
    ∷ prints 1 None 4
    ∷ prints 1 None 0
    ∷ prints 1 None 0
    ∷ prints 1 None 0
    ∷ prints 0 None 0
    ∷ prints 1 None 0
    ∷ prints 1 None 0
    ∷ prints 0 (Some (Block 16)) 0
    ∷ prints 1 None 0
    ∷ prints 1 None 0
    ∷ prints 0 (Some (Block 19)) 0
    ∷ prints 1 None 0
    ∷ prints 0 (Some (Block 20)) 0
    ∷ prints 0 None 0
    ∷ prints 0 None 0
    ∷ prints 1 None 0
    ∷ prints 1 None 0
    ∷ prints 1 None 0
    ∷ prints 1 None 0
    ∷ prints 1 None 0
    ∷ prints 1 None 0
    ∷ prints 1 None 0
    ∷ prints 103 None 0
    ∷ prints 1 None 0
    ∷ prints 1 None 0
    ∷ prints 1 None 0
    ∷ prints 0 (Some (Block 16)) 0
    ∷ prints 0 None 0
    ∷ prints 1 None 0
    ∷ prints 1 None 0
    ∷ prints 1 None 0
    ∷ prints 1 None 0
    ∷ prints 0 None 0
    ∷ prints 1 None 0
    ∷ prints 0 None 0
    ∷ prints 1 None 0
    ∷ prints 0 None 0
    ∷ prints 1 None 0
    ∷ prints 1 None 0
    ∷ prints 1 None 0
    ∷ prints 0 (Some (Block 20)) 0
    ∷ prints 0 (Some (Block 21)) 0
    ∷ prints 0 None 0
    ∷ prints 1 None 0
    ∷ prints 1 None 0
    ∷ prints 0 (Some (Block 19)) 0
    ∷ prints 1 None 0
    ∷ prints 0 None 0
    ∷ prints 1 None 0
    ∷ prints 0 None 0
    ∷ prints 0 None 0
    ∷ prints 107 None 0
    ∷ prints 0 (Some (Block 22)) 0
    ∷ prints 0 None 0
    ∷ prints 0 None 0
    ∷ prints 1 None 0
    ∷ prints 1 None 0
    ∷ prints 1 None 0
    ∷ prints 1 None 0
    ∷ prints 0 None 0
    ∷ prints 1 None 0
    ∷ prints 1 None 0
    ∷ prints 1 None 0
    ∷ prints 1 None 0
    ∷ prints 1 None 0
    ∷ prints 1 None 0
    ∷ prints 1 None 0
    ∷ prints 0 (Some (Block 21)) 0
    ∷ prints 105 None 0
    ∷ prints 1 None 0
    ∷ prints 0 (Some (Record (reading (2 ∷ 0 ∷ 0 ∷ 0 ∷ 42 ∷ 0 ∷ 0 ∷ 0 ∷ [])))) 0
    ∷ prints 105 None 0
    ∷ prints 0 (Some (Record (reading (2 ∷ 0 ∷ 0 ∷ 0 ∷ 42 ∷ 0 ∷ 0 ∷ 0 ∷ [])))) 0
    ∷ prints 1 None 0
    ∷ prints 105 None 0
    ∷ prints 0 (Some (Record (reading (2 ∷ 0 ∷ 0 ∷ 0 ∷ 42 ∷ 0 ∷ 0 ∷ 0 ∷ [])))) 0
    ∷ prints 1 None 0
    ∷ prints 105 None 0
    ∷ prints 1 None 0
    ∷ prints 0 (Some (Record (reading (2 ∷ 0 ∷ 0 ∷ 0 ∷ 42 ∷ 0 ∷ 0 ∷ 0 ∷ [])))) 0
    ∷ prints 1 None 0
    ∷ prints 1 None 0
    ∷ prints 1 None 0
    ∷ prints 103 None 0
    ∷ prints 1 None 0
    ∷ prints 0 (Some (Block 23)) 0
    ∷ prints 1 None 0
    ∷ prints 0 None 0
    ∷ prints 1 None 0
    ∷ prints 1 None 0
    ∷ prints 1 None 0
    ∷ prints 0 (Some (Block 21)) 0
    ∷ prints 0 None 0
    ∷ prints 1 None 0
    ∷ prints 105 None 0
    ∷ prints 0 (Some (Record (reading (2 ∷ 0 ∷ 0 ∷ 0 ∷ 42 ∷ 0 ∷ 0 ∷ 0 ∷ [])))) 0
    ∷ prints 1 None 0
    ∷ prints 0 (Some (Block 24)) 0
    ∷ prints 0 None 0
    ∷ prints 105 None 0
    ∷ prints 0 None 0
    ∷ prints 0 None 0
    ∷ prints 0 (Some (Record (reading (2 ∷ 0 ∷ 0 ∷ 0 ∷ 42 ∷ 0 ∷ 0 ∷ 0 ∷ [])))) 0
    ∷ prints 107 None 0
    ∷ prints 1 None 0
    ∷ prints 1 None 0
    ∷ prints 0 (Some (Block 25)) 0
    ∷ prints 105 None 0
    ∷ prints 0 (Some (Record (reading (2 ∷ 0 ∷ 0 ∷ 0 ∷ 42 ∷ 0 ∷ 0 ∷ 0 ∷ [])))) 0
    ∷ prints 105 None 0
    ∷ prints 0 (Some (Record (reading (2 ∷ 0 ∷ 0 ∷ 0 ∷ 42 ∷ 0 ∷ 0 ∷ 0 ∷ [])))) 0
    ∷ prints 105 None 0
    ∷ prints 104 None 0
    ∷ prints 0 None 0
    ∷ prints 0 (Some (Record (reading (2 ∷ 0 ∷ 0 ∷ 0 ∷ 42 ∷ 0 ∷ 0 ∷ 0 ∷ [])))) 0
    ∷ prints 1 None 0
    ∷ prints 1 None 0
    ∷ prints 1 None 0
    ∷ prints 1 None 0
    ∷ prints 1 None 0
    ∷ prints 1 None 0
    ∷ prints 1 None 0
    ∷ prints 0 (Some (Block 26)) 0
    ∷ prints 0 None 0
    ∷ prints 1 None 0
    ∷ prints 1 None 0
    ∷ prints 0 (Some (Block 21)) 0
    ∷ prints 1 None 0
    ∷ prints 1 None 0
    ∷ prints 0 None 0
    ∷ prints 0 None 0
    ∷ prints 1 None 0
    ∷ prints 1 None 0
    ∷ prints 1 None 0
    ∷ prints 1 None 0
    ∷ prints 0 (Some (Block 27)) 0
    ∷ prints 0 None 0
    ∷ prints 0 None 0
    ∷ prints 1 None 0
    ∷ prints 1 None 0
    ∷ prints 1 None 0
    ∷ prints 102 None 0
    ∷ prints 1 None 0
    ∷ prints 1 None 0
    ∷ prints 1 None 0
    ∷ prints 1 None 0
    ∷ prints 1 None 0
    ∷ prints 0 (Some (Block 25)) 0
    ∷ prints 1 None 0
    ∷ prints 1 None 0
    ∷ prints 0 None 0
    ∷ prints 1 None 0
    ∷ prints 0 None 0
    ∷ prints 1 None 0
    ∷ prints 1 None 0
    ∷ prints 1 None 0
    ∷ prints 0 (Some (Block 28)) 0
    ∷ prints 0 None 0
    ∷ prints 1 None 0
    ∷ prints 1 None 0
    ∷ prints 1 None 0
    ∷ prints 1 None 0
    ∷ prints 1 None 0
    ∷ prints 1 None 0
    ∷ prints 1 None 0
    ∷ prints 1 None 0
    ∷ prints 1 None 0
    ∷ prints 0 None 0
    ∷ prints 1 None 0
    ∷ prints 0 (Some (Block 27)) 0
    ∷ prints 1 None 0
    ∷ prints 0 None 0
    ∷ prints 1 None 0
    ∷ prints 1 None 4
    ∷ prints 0 None 0
    ∷ prints 0 None 0
    ∷ prints 1 None 0
    ∷ prints 1 None 0
    ∷ prints 1 None 0
    ∷ prints 1 None 0
    ∷ prints 103 None 0
    ∷ prints 1 None 0
    ∷ prints 1 None 0
    ∷ prints 1 None 0
    ∷ prints 1 None 0
    ∷ prints 1 None 0
    ∷ prints 0 (Some (Block 29)) 0
    ∷ prints 0 (Some (Record (reading (2 ∷ 0 ∷ 0 ∷ 0 ∷ 50 ∷ 0 ∷ 0 ∷ 0 ∷ [])))) 0
    ∷ prints 0 (Some (Block 28)) 0
    ∷ prints 0 None 0
    ∷ prints 104 None 0
    ∷ prints 0 (Some (Record (reading (2 ∷ 0 ∷ 0 ∷ 0 ∷ 53 ∷ 0 ∷ 0 ∷ 0 ∷ [])))) 0
    ∷ prints 0 None 0
    ∷ prints 0 None 0
    ∷ prints 1 None 0
    ∷ prints 1 None 0
    ∷ prints 1 None 0
    ∷ prints 103 None 0
    ∷ prints 0 (Some (Block 6)) 0
    ∷ prints 0 None 0
    ∷ prints 1 None 0
    ∷ prints 1 None 0
    ∷ prints 1 None 0
    ∷ prints 1 None 0
    ∷ prints 1 None 0
    ∷ prints 1 None 0
    ∷ prints 102 None 0
    ∷ prints 1 None 0
    ∷ prints 1 None 0
    ∷ prints 103 None 0
    ∷ prints 0 None 0
    ∷ prints 1 None 0
    ∷ prints 1 None 4
    ∷ prints 1 None 0
    ∷ prints 0 None 0
    ∷ prints 1 None 0
    ∷ prints 1 None 0
    ∷ prints 1 None 0
    ∷ prints 1 None 0
    ∷ prints 0 None 0
    ∷ prints 0 None 0
    ∷ prints 1 None 0
    ∷ prints 1 None 0
    ∷ prints 0 None 0
    ∷ prints 1 None 0
    ∷ prints 0 (Some (Block 6)) 0
    ∷ prints 0 (Some (Record (reading (2 ∷ 0 ∷ 0 ∷ 0 ∷ 59 ∷ 0 ∷ 0 ∷ 0 ∷ [])))) 0
    ∷ prints 0 None 0
    ∷ prints 1 None 0
    ∷ prints 1 None 0
    ∷ prints 1 None 0
    ∷ prints 1 None 0
    ∷ prints 1 None 0
    ∷ prints 1 None 0
    ∷ prints 1 None 0
    ∷ prints 1 None 0
    ∷ prints 0 None 0
    ∷ prints 1 None 0
    ∷ prints 0 (Some (Block 29)) 0
    ∷ prints 0 (Some (Record (reading (2 ∷ 0 ∷ 0 ∷ 0 ∷ 56 ∷ 0 ∷ 0 ∷ 0 ∷ [])))) 0
    ∷ prints 1 None 0
    ∷ prints 105 None 0
    ∷ prints 0 None 0
    ∷ prints 0 (Some (Block 29)) 0
    ∷ prints 0 (Some (Record (reading (2 ∷ 0 ∷ 0 ∷ 0 ∷ 56 ∷ 0 ∷ 0 ∷ 0 ∷ [])))) 0
    ∷ prints 0 (Some (Record (reading (2 ∷ 0 ∷ 0 ∷ 0 ∷ 56 ∷ 0 ∷ 0 ∷ 0 ∷ [])))) 0
    ∷ prints 0 None 0
    ∷ prints 0 None 0
    ∷ prints 106 None 0
    ∷ prints 1 None 0
    ∷ prints 105 None 0
    ∷ prints 1 None 0
    ∷ prints 0 None 0
    ∷ prints 0 None 0
    ∷ prints 106 None 0
    ∷ prints 1 None 0
    ∷ prints 1 None 0
    ∷ prints 1 None 0
    ∷ prints 0 (Some (Block 3)) 0
    ∷ prints 1 None 0
    ∷ prints 1 None 0
    ∷ prints 0 None 0
    ∷ prints 1 None 0
    ∷ prints 1 None 0
    ∷ prints 0 None 0
    ∷ prints 1 None 0
    ∷ prints 0 None 0
    ∷ prints 0 (Some (Block 4)) 0
    ∷ prints 1 None 0
    ∷ prints 1 None 0
    ∷ prints 105 None 0
    ∷ prints 102 None 0
    ∷ prints 1 None 0
    ∷ prints 1 None 0
    ∷ prints 0 None 0
    ∷ prints 1 None 0
    ∷ prints 1 None 0
    ∷ prints 103 None 0
    ∷ prints 1 None 0
    ∷ prints 1 None 0
    ∷ prints 0 None 0
    ∷ prints 0 None 0
    ∷ prints 1 None 0
    ∷ prints 1 None 0
    ∷ prints 1 None 0
    ∷ prints 0 (Some (Block 3)) 0
    ∷ prints 1 None 0
    ∷ prints 0 (Some (Record (reading (2 ∷ 0 ∷ 0 ∷ 0 ∷ 65 ∷ 0 ∷ 0 ∷ 0 ∷ [])))) 0
    ∷ prints 102 None 0
    ∷ prints 0 (Some (Record (reading (2 ∷ 0 ∷ 0 ∷ 0 ∷ 65 ∷ 0 ∷ 0 ∷ 0 ∷ [])))) 0
    ∷ prints 0 (Some (Record (reading (2 ∷ 0 ∷ 0 ∷ 0 ∷ 65 ∷ 0 ∷ 0 ∷ 0 ∷ [])))) 0
    ∷ prints 1 None 0
    ∷ prints 1 None 0
    ∷ prints 1 None 0
    ∷ prints 1 None 0
    ∷ prints 1 None 0
    ∷ prints 0 (Some (Block 1)) 0
    ∷ prints 0 None 0
    ∷ prints 1 None 0
    ∷ prints 1 None 0
    ∷ prints 1 None 0
    ∷ prints 0 None 0
    ∷ prints 0 (Some (Block 3)) 0
    ∷ prints 0 None 0
    ∷ prints 0 None 0
    ∷ prints 1 None 0
    ∷ prints 1 None 0
    ∷ prints 0 None 0
    ∷ prints 0 None 0
    ∷ prints 1 None 0
    ∷ prints 1 None 0
    ∷ prints 0 (Some (Block 4)) 0
    ∷ prints 105 None 0
    ∷ prints 0 (Some (Block 4)) 0
    ∷ prints 0 (Some (Record (reading (2 ∷ 0 ∷ 0 ∷ 0 ∷ 68 ∷ 0 ∷ 0 ∷ 0 ∷ [])))) 0
    ∷ prints 1 None 0
    ∷ prints 1 None 0
    ∷ prints 0 (Some (Block 13)) 0
    ∷ prints 0 None 0
    ∷ prints 0 (Some (Record (reading (2 ∷ 0 ∷ 0 ∷ 0 ∷ 68 ∷ 0 ∷ 0 ∷ 0 ∷ [])))) 0
    ∷ prints 0 None 0
    ∷ prints 102 None 0
    ∷ prints 1 None 0
    ∷ prints 1 None 0
    ∷ prints 102 None 0
    ∷ prints 0 None 0
    ∷ prints 1 None 0
    ∷ prints 1 None 0
    ∷ prints 1 None 0
    ∷ prints 1 None 0
    ∷ prints 1 None 0
    ∷ prints 1 None 0
    ∷ prints 1 None 0
    ∷ prints 1 None 0
    ∷ prints 1 None 0
    ∷ prints 1 None 0
    ∷ prints 1 None 0
    ∷ prints 0 None 0
    ∷ prints 0 None 0
    ∷ prints 106 None 0
    ∷ prints 1 None 0
    ∷ prints 0 (Some (Block 1)) 0
    ∷ prints 0 (Some (Record (reading (2 ∷ 0 ∷ 0 ∷ 0 ∷ 71 ∷ 0 ∷ 0 ∷ 0 ∷ [])))) 0
    ∷ prints 112 None 0
    ∷ prints 1 None 0
    ∷ prints 1 None 0
    ∷ prints 105 None 0
    ∷ prints 0 None 0
    ∷ prints 1 None 0
    ∷ prints 1 None 0
    ∷ prints 1 None 0
    ∷ prints 1 None 0
    ∷ prints 1 None 0
    ∷ prints 1 None 4
    ∷ prints 0 None 0
    ∷ prints 1 None 0
    ∷ prints 103 None 0
    ∷ prints 1 None 0
    ∷ prints 1 None 0
    ∷ prints 0 None 0
    ∷ prints 1 None 0
    ∷ prints 1 None 0
    ∷ prints 1 None 0
    ∷ prints 0 None 0
    ∷ prints 1 None 0
    ∷ prints 0 None 0
    ∷ prints 1 None 0
    ∷ prints 0 (Some (Block 7)) 0
    ∷ prints 0 None 0
    ∷ prints 1 None 0
    ∷ prints 1 None 0
    ∷ prints 1 None 0
    ∷ prints 0 None 0
    ∷ prints 1 None 0
    ∷ prints 1 None 0
    ∷ prints 0 None 4
    ∷ prints 1 None 0
    ∷ prints 1 None 0
    ∷ prints 0 None 0
    ∷ prints 1 None 0
    ∷ prints 1 None 0
    ∷ prints 0 (Some (Block 2)) 0
    ∷ prints 0 None 0
    ∷ prints 1 None 0
    ∷ prints 1 None 0
    ∷ prints 1 None 0
    ∷ prints 1 None 0
    ∷ prints 1 None 0
    ∷ prints 1 None 0
    ∷ prints 1 None 0
    ∷ prints 1 None 0
    ∷ prints 1 None 0
    ∷ prints 1 None 0
    ∷ prints 1 None 0
    ∷ prints 1 None 0
    ∷ prints 1 None 0
    ∷ prints 1 None 0
    ∷ prints 102 None 0
    ∷ prints 0 None 0
    ∷ prints 1 None 0
    ∷ prints 0 None 0
    ∷ prints 1 None 0
    ∷ prints 0 (Some (Block 0)) 0
    ∷ prints 0 None 0
    ∷ prints 0 None 0
    ∷ prints 1 None 0
    ∷ prints 1 None 0
    ∷ prints 105 None 0
    ∷ prints 1 None 0
    ∷ prints 1 None 0
    ∷ prints 1 None 0
    ∷ prints 1 None 0
    ∷ prints 1 None 0
    ∷ prints 1 None 0
    ∷ prints 0 (Some (Block 2)) 0
    ∷ prints 0 None 0
    ∷ prints 0 None 0
    ∷ prints 1 None 0
    ∷ prints 0 None 0
    ∷ prints 1 None 0
    ∷ prints 1 None 0
    ∷ prints 0 None 0
    ∷ prints 107 None 0
    ∷ prints 0 None 0
    ∷ prints 1 None 0
    ∷ prints 1 None 0
    ∷ prints 1 None 0
    ∷ prints 107 None 0
    ∷ prints 1 None 0
    ∷ prints 1 None 0
    ∷ prints 1 None 0
    ∷ prints 0 (Some (Block 0)) 0
    ∷ prints 1 None 0
    ∷ prints 1 None 0
    ∷ prints 0 (Some (Block 14)) 0
    ∷ prints 0 None 0
    ∷ prints 0 None 0
    ∷ prints 1 None 0
    ∷ prints 103 None 0
    ∷ prints 1 None 0
    ∷ prints 1 None 0
    ∷ prints 0 None 0
    ∷ prints 0 None 0
    ∷ prints 1 None 0
    ∷ prints 1 None 0
    ∷ prints 1 None 0
    ∷ prints 0 None 0
    ∷ prints 1 None 0
    ∷ prints 1 None 0
    ∷ prints 1 None 0
    ∷ prints 1 None 0
    ∷ prints 0 (Some (Block 14)) 0
    ∷ prints 1 None 0
    ∷ prints 0 (Some (Record (reading (2 ∷ 0 ∷ 0 ∷ 0 ∷ 83 ∷ 0 ∷ 0 ∷ 0 ∷ [])))) 0
    ∷ prints 0 (Some (Block 0)) 0
    ∷ prints 1 None 0
    ∷ prints 1 None 0
    ∷ prints 0 (Some (Block 14)) 0
    ∷ prints 105 None 0
    ∷ prints 0 None 0
    ∷ prints 0 None 0
    ∷ prints 1 None 0
    ∷ prints 1 None 0
    ∷ prints 0 (Some (Record (reading (2 ∷ 0 ∷ 0 ∷ 0 ∷ 83 ∷ 0 ∷ 0 ∷ 0 ∷ [])))) 0
    ∷ prints 105 None 0
    ∷ prints 0 (Some (Record (reading (2 ∷ 0 ∷ 0 ∷ 0 ∷ 83 ∷ 0 ∷ 0 ∷ 0 ∷ [])))) 0
    ∷ prints 105 None 0
    ∷ prints 105 None 0
    ∷ prints 0 (Some (Record (reading (2 ∷ 0 ∷ 0 ∷ 0 ∷ 83 ∷ 0 ∷ 0 ∷ 0 ∷ [])))) 0
    ∷ prints 0 (Some (Block 15)) 0
    ∷ prints 0 None 0
    ∷ prints 1 None 0
    ∷ prints 1 None 0
    ∷ prints 103 None 0
    ∷ prints 1 None 0
    ∷ prints 1 None 0
    ∷ prints 0 (Some (Block 9)) 0
    ∷ prints 112 None 0
    ∷ prints 0 None 0
    ∷ prints 0 None 0
    ∷ prints 1 None 0
    ∷ prints 1 None 0
    ∷ prints 1 None 0
    ∷ prints 1 None 0
    ∷ prints 1 None 0
    ∷ prints 1 None 0
    ∷ prints 1 None 0
    ∷ prints 1 None 0
    ∷ prints 1 None 0
    ∷ prints 1 None 0
    ∷ prints 1 None 0
    ∷ prints 0 (Some (Block 0)) 0
    ∷ prints 1 None 0
    ∷ prints 1 None 0
    ∷ []

abbrev pub scenario : Scenario
scenario = record { puts = row; form = form; calls = calls; lines = lines }

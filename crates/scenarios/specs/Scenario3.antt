-- The run scenario-3 of an independent model: its calls, and the lines that it prints. Made by tools/scenario.
use Rattle.std.specs.Prelude.{List, [], ◌∷◌, Some, None}
use Rattle.figures.specs.declared.limits.Form.{Form}
use Rattle.records.specs.declared.readings.Reading.{Reading}
use Rattle.machine.specs.declared.calls.Call.{Call}
use Rattle.machine.specs.declared.calls.Call.TheVariants.{Take, Look, Drop, Retire, Relink, Write, Read, Turn}
use Rattle.machine.specs.declared.calls.Value.TheVariants.{Block, Record}
use Rattle.machine.specs.Runs.{Line}
use Rattle.scenarios.specs.Lines.{Scenario, stack, reading, prints}

abbrev pub form : Form
form = record { workers = 2; holds = 2; blocks = 30; live = 30; taking_period = 5; trying_period = 4; starting_era = 1 }

abbrev pub calls : List (Call Reading)
calls =
    Take 0
    ∷ Turn 0
    ∷ Take 1
    ∷ Turn 1
    ∷ Turn 0
    ∷ Write 0 0 (reading (2 ∷ 0 ∷ 0 ∷ 0 ∷ 1 ∷ 0 ∷ 0 ∷ 0 ∷ []))
    ∷ Retire 0 0
    ∷ Take 0
    ∷ Turn 1
    ∷ Write 1 1 (reading (2 ∷ 0 ∷ 0 ∷ 0 ∷ 2 ∷ 0 ∷ 0 ∷ 0 ∷ []))
    ∷ Retire 1 1
    ∷ Look 1 0 1
    ∷ Write 0 27 (reading (2 ∷ 0 ∷ 0 ∷ 0 ∷ 3 ∷ 0 ∷ 0 ∷ 0 ∷ []))
    ∷ Turn 0
    ∷ Turn 0
    ∷ Write 0 2 (reading (2 ∷ 0 ∷ 0 ∷ 0 ∷ 4 ∷ 0 ∷ 0 ∷ 0 ∷ []))
    ∷ Look 0 0 0
    ∷ Turn 0
    ∷ Turn 1
    ∷ Turn 0
    ∷ Turn 1
    ∷ Turn 0
    ∷ Look 0 0 77
    ∷ Turn 0
    ∷ Turn 0
    ∷ Turn 0
    ∷ Turn 1
    ∷ Turn 1
    ∷ Turn 0
    ∷ Turn 1
    ∷ Relink 0 0 None (Some 2)
    ∷ Turn 1
    ∷ Turn 1
    ∷ Take 0
    ∷ Look 1 1 1
    ∷ Turn 1
    ∷ Read 1 2
    ∷ Turn 1
    ∷ Turn 0
    ∷ Turn 0
    ∷ Turn 1
    ∷ Turn 1
    ∷ Turn 1
    ∷ Write 0 3 (reading (2 ∷ 0 ∷ 0 ∷ 0 ∷ 7 ∷ 0 ∷ 0 ∷ 0 ∷ []))
    ∷ Turn 1
    ∷ Turn 1
    ∷ Retire 0 3
    ∷ Look 0 0 1
    ∷ Read 1 0
    ∷ Turn 0
    ∷ Read 1 0
    ∷ Read 1 0
    ∷ Turn 0
    ∷ Read 0 1
    ∷ Read 0 0
    ∷ Read 0 0
    ∷ Take 1
    ∷ Turn 1
    ∷ Turn 1
    ∷ Write 1 4 (reading (2 ∷ 0 ∷ 0 ∷ 0 ∷ 8 ∷ 0 ∷ 0 ∷ 0 ∷ []))
    ∷ Look 1 0 0
    ∷ Drop 1
    ∷ Turn 1
    ∷ Look 0 0 0
    ∷ Write 0 15 (reading (2 ∷ 0 ∷ 0 ∷ 0 ∷ 10 ∷ 0 ∷ 0 ∷ 0 ∷ []))
    ∷ Turn 0
    ∷ Turn 0
    ∷ Turn 1
    ∷ Relink 1 0 (Some 2) (Some 4)
    ∷ Look 0 1 20
    ∷ Turn 0
    ∷ Retire 1 2
    ∷ Turn 0
    ∷ Turn 0
    ∷ Turn 1
    ∷ Read 0 2
    ∷ Take 1
    ∷ Turn 1
    ∷ Turn 1
    ∷ Turn 0
    ∷ Write 1 5 (reading (2 ∷ 0 ∷ 0 ∷ 0 ∷ 13 ∷ 0 ∷ 0 ∷ 0 ∷ []))
    ∷ Turn 0
    ∷ Look 1 0 1
    ∷ Turn 0
    ∷ Write 1 0 (reading (2 ∷ 0 ∷ 0 ∷ 0 ∷ 14 ∷ 0 ∷ 0 ∷ 0 ∷ []))
    ∷ Read 0 1
    ∷ Drop 0
    ∷ Turn 0
    ∷ Turn 0
    ∷ Turn 1
    ∷ Turn 1
    ∷ Turn 0
    ∷ Turn 0
    ∷ Take 0
    ∷ Turn 0
    ∷ Relink 1 1 None (Some 5)
    ∷ Turn 0
    ∷ Turn 0
    ∷ Look 1 0 0
    ∷ Write 0 6 (reading (2 ∷ 0 ∷ 0 ∷ 0 ∷ 16 ∷ 0 ∷ 0 ∷ 0 ∷ []))
    ∷ Turn 1
    ∷ Turn 1
    ∷ Look 1 1 24
    ∷ Turn 1
    ∷ Turn 1
    ∷ Read 1 0
    ∷ Look 0 0 0
    ∷ Relink 1 0 (Some 4) None
    ∷ Retire 1 4
    ∷ Turn 0
    ∷ Take 1
    ∷ Turn 0
    ∷ Turn 0
    ∷ Turn 1
    ∷ Turn 1
    ∷ Write 1 7 (reading (2 ∷ 0 ∷ 0 ∷ 0 ∷ 17 ∷ 0 ∷ 0 ∷ 0 ∷ []))
    ∷ Turn 0
    ∷ Retire 1 7
    ∷ Turn 1
    ∷ Turn 1
    ∷ Turn 1
    ∷ Turn 0
    ∷ Turn 1
    ∷ Turn 0
    ∷ Turn 0
    ∷ Relink 0 28 None None
    ∷ Turn 1
    ∷ Relink 0 0 None (Some 6)
    ∷ Take 0
    ∷ Turn 0
    ∷ Turn 0
    ∷ Turn 1
    ∷ Write 0 8 (reading (2 ∷ 0 ∷ 0 ∷ 0 ∷ 18 ∷ 0 ∷ 0 ∷ 0 ∷ []))
    ∷ Look 0 0 0
    ∷ Turn 1
    ∷ Turn 0
    ∷ Turn 0
    ∷ Look 1 0 0
    ∷ Turn 1
    ∷ Read 1 0
    ∷ Relink 0 0 (Some 6) (Some 8)
    ∷ Retire 0 6
    ∷ Take 0
    ∷ Turn 0
    ∷ Turn 1
    ∷ Turn 1
    ∷ Turn 1
    ∷ Turn 1
    ∷ Turn 1
    ∷ Turn 0
    ∷ Write 1 14 (reading (2 ∷ 0 ∷ 0 ∷ 0 ∷ 20 ∷ 0 ∷ 0 ∷ 0 ∷ []))
    ∷ Turn 1
    ∷ Turn 1
    ∷ Write 0 9 (reading (2 ∷ 0 ∷ 0 ∷ 0 ∷ 21 ∷ 0 ∷ 0 ∷ 0 ∷ []))
    ∷ Retire 0 9
    ∷ Look 1 1 33
    ∷ Relink 1 65 (Some 11) (Some 30)
    ∷ Turn 0
    ∷ Turn 0
    ∷ Turn 0
    ∷ Turn 0
    ∷ Turn 0
    ∷ Turn 1
    ∷ Turn 0
    ∷ Turn 0
    ∷ Turn 0
    ∷ Look 0 1 1
    ∷ Turn 1
    ∷ Turn 0
    ∷ Turn 0
    ∷ Turn 0
    ∷ Turn 1
    ∷ Turn 2
    ∷ Turn 0
    ∷ Turn 0
    ∷ Turn 1
    ∷ Turn 1
    ∷ Turn 1
    ∷ Turn 0
    ∷ Turn 0
    ∷ Turn 1
    ∷ Read 0 1
    ∷ Look 0 0 0
    ∷ Turn 1
    ∷ Turn 0
    ∷ Turn 1
    ∷ Turn 0
    ∷ Read 1 1
    ∷ Relink 1 1 (Some 5) None
    ∷ Turn 0
    ∷ Turn 0
    ∷ Retire 1 8
    ∷ Take 1
    ∷ Turn 0
    ∷ Turn 0
    ∷ Turn 1
    ∷ Turn 1
    ∷ Turn 0
    ∷ Turn 0
    ∷ Look 0 1 32
    ∷ Turn 0
    ∷ Turn 0
    ∷ Relink 0 6 (Some 7) (Some 1)
    ∷ Read 0 0
    ∷ Relink 0 0 (Some 8) None
    ∷ Write 1 1 (reading (2 ∷ 0 ∷ 0 ∷ 0 ∷ 26 ∷ 0 ∷ 0 ∷ 0 ∷ []))
    ∷ Look 1 0 1
    ∷ Turn 1
    ∷ Retire 0 8
    ∷ Turn 1
    ∷ Relink 1 1 None (Some 1)
    ∷ Take 1
    ∷ Take 0
    ∷ Turn 1
    ∷ Turn 1
    ∷ Turn 0
    ∷ Read 0 2
    ∷ Turn 0
    ∷ Write 1 2 (reading (2 ∷ 0 ∷ 0 ∷ 0 ∷ 28 ∷ 0 ∷ 0 ∷ 0 ∷ []))
    ∷ Write 0 4 (reading (2 ∷ 0 ∷ 0 ∷ 0 ∷ 29 ∷ 0 ∷ 0 ∷ 0 ∷ []))
    ∷ Retire 1 2
    ∷ Drop 1
    ∷ Look 0 0 1
    ∷ Turn 1
    ∷ Turn 1
    ∷ Turn 1
    ∷ Turn 0
    ∷ Turn 1
    ∷ Turn 0
    ∷ Turn 0
    ∷ Turn 0
    ∷ Turn 0
    ∷ Turn 0
    ∷ Relink 0 1 (Some 1) (Some 4)
    ∷ Turn 1
    ∷ Retire 0 1
    ∷ Look 1 0 1
    ∷ Turn 1
    ∷ Look 0 0 0
    ∷ Turn 0
    ∷ Turn 0
    ∷ Read 0 0
    ∷ Read 0 1
    ∷ Turn 1
    ∷ Take 0
    ∷ Turn 0
    ∷ Turn 0
    ∷ Write 0 0 (reading (2 ∷ 0 ∷ 0 ∷ 0 ∷ 30 ∷ 0 ∷ 0 ∷ 0 ∷ []))
    ∷ Look 0 0 0
    ∷ Turn 1
    ∷ Turn 0
    ∷ Turn 1
    ∷ Turn 1
    ∷ Turn 1
    ∷ Turn 1
    ∷ Turn 0
    ∷ Relink 0 0 None (Some 0)
    ∷ Look 0 0 1
    ∷ Look 1 1 24
    ∷ Turn 0
    ∷ Turn 0
    ∷ Read 0 1
    ∷ Read 0 1
    ∷ Read 0 0
    ∷ Take 0
    ∷ Turn 1
    ∷ Turn 0
    ∷ Turn 1
    ∷ Turn 1
    ∷ Turn 0
    ∷ Write 0 3 (reading (2 ∷ 0 ∷ 0 ∷ 0 ∷ 31 ∷ 0 ∷ 0 ∷ 0 ∷ []))
    ∷ Look 0 0 1
    ∷ Turn 1
    ∷ Turn 0
    ∷ Turn 0
    ∷ Relink 0 1 (Some 4) (Some 3)
    ∷ Relink 1 52 None None
    ∷ Turn 1
    ∷ Turn 1
    ∷ Turn 1
    ∷ Read 1 0
    ∷ Retire 0 4
    ∷ Relink 1 1 (Some 4) None
    ∷ Retire 1 4
    ∷ Look 1 0 0
    ∷ Relink 0 59 (Some 11) None
    ∷ Look 0 0 1
    ∷ Turn 1
    ∷ Turn 0
    ∷ Turn 1
    ∷ Look 1 1 17
    ∷ Retire 0 15
    ∷ Drop 0
    ∷ Turn 0
    ∷ Look 0 1 22
    ∷ Turn 1
    ∷ Turn 1
    ∷ Read 1 1
    ∷ Turn 0
    ∷ Turn 0
    ∷ Look 1 1 1
    ∷ Turn 0
    ∷ Turn 0
    ∷ Turn 1
    ∷ Turn 1
    ∷ Turn 0
    ∷ Read 1 0
    ∷ Read 1 0
    ∷ Read 1 1
    ∷ Take 0
    ∷ Look 1 0 0
    ∷ Turn 0
    ∷ Read 0 1
    ∷ Relink 0 1 (Some 3) None
    ∷ Retire 0 3
    ∷ Turn 1
    ∷ Turn 0
    ∷ Turn 0
    ∷ Turn 1
    ∷ Turn 0
    ∷ Turn 0
    ∷ Take 0
    ∷ Retire 0 24
    ∷ Read 1 0
    ∷ Read 0 1
    ∷ Read 1 1
    ∷ Take 1
    ∷ Turn 1
    ∷ Turn 1
    ∷ Turn 0
    ∷ Turn 0
    ∷ Write 0 9 (reading (2 ∷ 0 ∷ 0 ∷ 0 ∷ 39 ∷ 0 ∷ 0 ∷ 0 ∷ []))
    ∷ Write 1 6 (reading (2 ∷ 0 ∷ 0 ∷ 0 ∷ 40 ∷ 0 ∷ 0 ∷ 0 ∷ []))
    ∷ Look 0 0 0
    ∷ Turn 0
    ∷ Retire 1 6
    ∷ Look 1 0 0
    ∷ Turn 1
    ∷ Turn 1
    ∷ Turn 0
    ∷ Look 1 1 17
    ∷ Turn 1
    ∷ Turn 1
    ∷ Read 1 1
    ∷ Relink 0 0 (Some 0) (Some 9)
    ∷ Retire 0 0
    ∷ Look 1 1 1
    ∷ Turn 1
    ∷ Turn 1
    ∷ Take 0
    ∷ Turn 0
    ∷ Read 1 0
    ∷ Turn 0
    ∷ Read 1 0
    ∷ Take 1
    ∷ Write 0 7 (reading (2 ∷ 0 ∷ 0 ∷ 0 ∷ 41 ∷ 0 ∷ 0 ∷ 0 ∷ []))
    ∷ Look 1 1 47
    ∷ Retire 0 7
    ∷ Look 0 0 0
    ∷ Turn 1
    ∷ Write 0 26 (reading (2 ∷ 0 ∷ 0 ∷ 0 ∷ 43 ∷ 0 ∷ 0 ∷ 0 ∷ []))
    ∷ Turn 0
    ∷ Turn 1
    ∷ Turn 0
    ∷ Turn 0
    ∷ Turn 0
    ∷ Write 1 10 (reading (2 ∷ 0 ∷ 0 ∷ 0 ∷ 44 ∷ 0 ∷ 0 ∷ 0 ∷ []))
    ∷ Turn 0
    ∷ Turn 0
    ∷ Look 1 0 1
    ∷ Turn 1
    ∷ Look 0 1 34
    ∷ Turn 0
    ∷ Turn 1
    ∷ Turn 0
    ∷ Turn 1
    ∷ Turn 0
    ∷ Turn 1
    ∷ Turn 0
    ∷ Turn 0
    ∷ Relink 0 60 (Some 26) (Some 9)
    ∷ Turn 0
    ∷ Turn 1
    ∷ Read 0 0
    ∷ Turn 1
    ∷ Relink 1 36 None None
    ∷ Relink 0 0 (Some 9) None
    ∷ Relink 1 1 None (Some 10)
    ∷ Retire 0 9
    ∷ Look 0 0 1
    ∷ Turn 0
    ∷ Drop 1
    ∷ Turn 0
    ∷ Look 0 1 36
    ∷ Turn 0
    ∷ Turn 1
    ∷ Turn 0
    ∷ Turn 1
    ∷ Turn 1
    ∷ Read 0 0
    ∷ Turn 1
    ∷ Relink 0 1 (Some 10) None
    ∷ Retire 0 10
    ∷ Look 1 0 1
    ∷ Turn 1
    ∷ Turn 1
    ∷ Turn 0
    ∷ Turn 1
    ∷ Turn 0
    ∷ Turn 1
    ∷ Turn 0
    ∷ Turn 1
    ∷ Turn 1
    ∷ Turn 0
    ∷ Turn 1
    ∷ Turn 0
    ∷ Turn 0
    ∷ Turn 0
    ∷ Look 1 0 1
    ∷ Turn 1
    ∷ Turn 1
    ∷ Take 0
    ∷ Drop 1
    ∷ Turn 0
    ∷ Turn 1
    ∷ Turn 1
    ∷ Turn 0
    ∷ Write 0 11 (reading (2 ∷ 0 ∷ 0 ∷ 0 ∷ 46 ∷ 0 ∷ 0 ∷ 0 ∷ []))
    ∷ Retire 0 11
    ∷ Relink 0 1 None None
    ∷ Retire 0 10
    ∷ Turn 1
    ∷ Look 0 0 0
    ∷ Turn 0
    ∷ Turn 0
    ∷ Turn 1
    ∷ Read 0 0
    ∷ Look 1 0 1
    ∷ Turn 1
    ∷ Turn 1
    ∷ Read 0 0
    ∷ Look 0 0 1
    ∷ Turn 1
    ∷ Turn 0
    ∷ Turn 0
    ∷ Look 0 0 1
    ∷ Turn 0
    ∷ Turn 1
    ∷ Turn 0
    ∷ Turn 1
    ∷ Turn 1
    ∷ Turn 1
    ∷ Drop 1
    ∷ Read 0 2
    ∷ Look 0 1 0
    ∷ Turn 1
    ∷ Turn 0
    ∷ Turn 1
    ∷ Turn 0
    ∷ Read 0 0
    ∷ Take 0
    ∷ Turn 1
    ∷ Turn 1
    ∷ Turn 0
    ∷ Take 1
    ∷ Turn 1
    ∷ Turn 1
    ∷ Turn 0
    ∷ Write 1 12 (reading (2 ∷ 0 ∷ 0 ∷ 0 ∷ 48 ∷ 0 ∷ 0 ∷ 0 ∷ []))
    ∷ Write 0 13 (reading (2 ∷ 0 ∷ 0 ∷ 0 ∷ 49 ∷ 0 ∷ 0 ∷ 0 ∷ []))
    ∷ Look 0 0 1
    ∷ Turn 0
    ∷ Look 1 0 1
    ∷ Turn 1
    ∷ Turn 0
    ∷ Relink 0 1 None (Some 13)
    ∷ Take 0
    ∷ Turn 0
    ∷ Turn 1
    ∷ Turn 1
    ∷ Turn 0
    ∷ Turn 1
    ∷ Write 0 14 (reading (2 ∷ 0 ∷ 0 ∷ 0 ∷ 50 ∷ 0 ∷ 0 ∷ 0 ∷ []))
    ∷ Look 0 0 1
    ∷ Turn 0
    ∷ Turn 0
    ∷ Relink 0 1 (Some 13) (Some 14)
    ∷ Turn 1
    ∷ Turn 1
    ∷ Retire 0 13
    ∷ Drop 1
    ∷ Turn 1
    ∷ Relink 1 40 None (Some 14)
    ∷ Relink 1 1 (Some 14) (Some 12)
    ∷ Take 0
    ∷ Turn 0
    ∷ Turn 0
    ∷ Write 0 15 (reading (2 ∷ 0 ∷ 0 ∷ 0 ∷ 52 ∷ 0 ∷ 0 ∷ 0 ∷ []))
    ∷ Look 0 0 0
    ∷ Take 1
    ∷ Turn 1
    ∷ Turn 1
    ∷ Write 1 16 (reading (2 ∷ 0 ∷ 0 ∷ 0 ∷ 53 ∷ 0 ∷ 0 ∷ 0 ∷ []))
    ∷ Retire 1 16
    ∷ Take 1
    ∷ Turn 1
    ∷ Turn 1
    ∷ Write 1 17 (reading (2 ∷ 0 ∷ 0 ∷ 0 ∷ 54 ∷ 0 ∷ 0 ∷ 0 ∷ []))
    ∷ Look 1 0 1
    ∷ Turn 1
    ∷ Turn 0
    ∷ Turn 0
    ∷ Turn 0
    ∷ Turn 0
    ∷ Turn 1
    ∷ Turn 0
    ∷ Turn 1
    ∷ Turn 1
    ∷ Turn 1
    ∷ Turn 0
    ∷ Turn 1
    ∷ Relink 1 50 None (Some 12)
    ∷ Turn 0
    ∷ Turn 0
    ∷ Relink 0 0 None (Some 15)
    ∷ Drop 0
    ∷ Relink 1 1 (Some 12) (Some 17)
    ∷ Relink 1 0 (Some 15) None
    ∷ Turn 0
    ∷ Turn 0
    ∷ Turn 0
    ∷ Turn 0
    ∷ Turn 0
    ∷ Retire 1 12
    ∷ Drop 0
    ∷ Turn 0
    ∷ Take 1
    ∷ Turn 0
    ∷ Turn 0
    ∷ Turn 1
    ∷ Turn 1
    ∷ Turn 0
    ∷ Drop 0
    ∷ Turn 0
    ∷ Write 1 8 (reading (2 ∷ 0 ∷ 0 ∷ 0 ∷ 55 ∷ 0 ∷ 0 ∷ 0 ∷ []))
    ∷ Look 1 0 1
    ∷ Turn 0
    ∷ Turn 0
    ∷ Read 1 2
    ∷ Turn 0
    ∷ Look 0 0 0
    ∷ Turn 1
    ∷ Turn 1
    ∷ Turn 0
    ∷ Turn 0
    ∷ Turn 0
    ∷ Relink 1 1 (Some 17) (Some 8)
    ∷ Turn 0
    ∷ Turn 0
    ∷ Drop 0
    ∷ Turn 0
    ∷ Retire 1 17
    ∷ Turn 0
    ∷ Drop 0
    ∷ Turn 1
    ∷ Turn 1
    ∷ Turn 0
    ∷ Turn 1
    ∷ Turn 1
    ∷ Turn 0
    ∷ Turn 1
    ∷ Turn 0
    ∷ Turn 0
    ∷ Turn 1
    ∷ Turn 1
    ∷ Take 0
    ∷ Take 1
    ∷ Turn 1
    ∷ Turn 0
    ∷ Turn 1
    ∷ Turn 0
    ∷ Write 0 4 (reading (2 ∷ 0 ∷ 0 ∷ 0 ∷ 58 ∷ 0 ∷ 0 ∷ 0 ∷ []))
    ∷ Look 0 0 0
    ∷ Read 1 2
    ∷ Turn 0
    ∷ Turn 0
    ∷ Write 1 1 (reading (2 ∷ 0 ∷ 0 ∷ 0 ∷ 60 ∷ 0 ∷ 0 ∷ 0 ∷ []))
    ∷ Look 1 0 1
    ∷ Turn 1
    ∷ Turn 0
    ∷ Turn 1
    ∷ Turn 1
    ∷ Turn 0
    ∷ Turn 1
    ∷ Turn 1
    ∷ Turn 1
    ∷ Turn 1
    ∷ Turn 0
    ∷ Turn 0
    ∷ Turn 1
    ∷ Relink 1 1 (Some 8) (Some 1)
    ∷ Retire 1 8
    ∷ Turn 0
    ∷ Relink 0 24 None None
    ∷ Take 1
    ∷ Turn 1
    ∷ Turn 1
    ∷ Write 1 2 (reading (2 ∷ 0 ∷ 0 ∷ 0 ∷ 61 ∷ 0 ∷ 0 ∷ 0 ∷ []))
    ∷ Look 1 0 1
    ∷ Relink 0 0 None (Some 4)
    ∷ Turn 1
    ∷ Look 0 0 0
    ∷ Turn 0
    ∷ Turn 1
    ∷ Relink 1 20 None (Some 1)
    ∷ Relink 1 1 (Some 1) (Some 2)
    ∷ Turn 0
    ∷ Take 1
    ∷ Turn 1
    ∷ Look 0 1 24
    ∷ Turn 1
    ∷ Read 0 2
    ∷ Turn 0
    ∷ Turn 0
    ∷ Write 1 6 (reading (2 ∷ 0 ∷ 0 ∷ 0 ∷ 64 ∷ 0 ∷ 0 ∷ 0 ∷ []))
    ∷ Retire 1 6
    ∷ Write 1 11 (reading (2 ∷ 0 ∷ 0 ∷ 0 ∷ 65 ∷ 0 ∷ 0 ∷ 0 ∷ []))
    ∷ Turn 0
    ∷ Take 1
    ∷ Look 1 1 44
    ∷ Turn 1
    ∷ Turn 1
    ∷ Turn 0
    ∷ Turn 0
    ∷ Turn 0
    ∷ Turn 0
    ∷ Write 1 16 (reading (2 ∷ 0 ∷ 0 ∷ 0 ∷ 67 ∷ 0 ∷ 0 ∷ 0 ∷ []))
    ∷ Read 0 1
    ∷ Look 1 0 0
    ∷ Turn 1
    ∷ Turn 1
    ∷ Turn 1
    ∷ Take 0
    ∷ Turn 1
    ∷ Turn 1
    ∷ Turn 1
    ∷ Relink 1 0 (Some 4) (Some 16)
    ∷ Retire 1 4
    ∷ Look 1 0 0
    ∷ Turn 0
    ∷ Turn 1
    ∷ Turn 0
    ∷ Write 0 17 (reading (2 ∷ 0 ∷ 0 ∷ 0 ∷ 68 ∷ 0 ∷ 0 ∷ 0 ∷ []))
    ∷ Turn 1
    ∷ Look 0 0 1
    ∷ Turn 0
    ∷ Turn 0
    ∷ Take 1
    ∷ Turn 1
    ∷ Turn 0
    ∷ Turn 0
    ∷ Turn 0
    ∷ Turn 1
    ∷ Write 1 3 (reading (2 ∷ 0 ∷ 0 ∷ 0 ∷ 69 ∷ 0 ∷ 0 ∷ 0 ∷ []))
    ∷ Turn 0
    ∷ Look 1 0 1
    ∷ Drop 1
    ∷ Turn 1
    ∷ Turn 1
    ∷ Relink 1 1 (Some 2) (Some 3)
    ∷ Relink 0 1 (Some 2) (Some 17)
    ∷ Retire 1 2
    ∷ Look 0 0 0
    ∷ Turn 1
    ∷ Turn 0
    ∷ Turn 1
    ∷ Turn 0
    ∷ Look 0 1 48
    ∷ Turn 0
    ∷ Turn 0
    ∷ Read 0 0
    ∷ Relink 0 0 (Some 16) None
    ∷ Look 1 1 53
    ∷ Retire 0 16
    ∷ Look 0 0 1
    ∷ Turn 0
    ∷ Turn 0
    ∷ Turn 1
    ∷ Look 0 1 22
    ∷ Turn 0
    ∷ Turn 1
    ∷ Turn 0
    ∷ Read 0 0
    ∷ Relink 0 1 (Some 3) None
    ∷ Retire 0 3
    ∷ Turn 1
    ∷ Turn 1
    ∷ Turn 1
    ∷ Turn 0
    ∷ Turn 0
    ∷ Turn 0
    ∷ Turn 1
    ∷ Drop 1
    ∷ Turn 1
    ∷ Turn 0
    ∷ Turn 0
    ∷ Read 1 1
    ∷ Turn 1
    ∷ Turn 1
    ∷ Drop 1
    ∷ Turn 0
    ∷ Turn 0
    ∷ Turn 0
    ∷ Write 0 17 (reading (2 ∷ 0 ∷ 0 ∷ 0 ∷ 75 ∷ 0 ∷ 0 ∷ 0 ∷ []))
    ∷ Retire 0 17
    ∷ Turn 1
    ∷ Turn 1
    ∷ Take 0
    ∷ Turn 0
    ∷ Drop 1
    ∷ Turn 1
    ∷ Turn 1
    ∷ Turn 1
    ∷ Turn 1
    ∷ Look 1 0 1
    ∷ Turn 1
    ∷ Turn 1
    ∷ Turn 0
    ∷ Turn 1
    ∷ Write 0 0 (reading (2 ∷ 0 ∷ 0 ∷ 0 ∷ 76 ∷ 0 ∷ 0 ∷ 0 ∷ []))
    ∷ Look 0 0 0
    ∷ Write 1 28 (reading (2 ∷ 0 ∷ 0 ∷ 0 ∷ 77 ∷ 0 ∷ 0 ∷ 0 ∷ []))
    ∷ Turn 1
    ∷ Turn 1
    ∷ Turn 1
    ∷ Turn 0
    ∷ Turn 1
    ∷ Look 1 0 0
    ∷ Turn 1
    ∷ Turn 1
    ∷ Read 1 1
    ∷ Turn 0
    ∷ Read 1 0
    ∷ Relink 0 0 None (Some 0)
    ∷ Take 0
    ∷ Turn 0
    ∷ Take 1
    ∷ Turn 0
    ∷ Write 0 7 (reading (2 ∷ 0 ∷ 0 ∷ 0 ∷ 78 ∷ 0 ∷ 0 ∷ 0 ∷ []))
    ∷ Turn 1
    ∷ Turn 1
    ∷ Look 0 0 0
    ∷ Turn 0
    ∷ Turn 0
    ∷ Write 1 9 (reading (2 ∷ 0 ∷ 0 ∷ 0 ∷ 79 ∷ 0 ∷ 0 ∷ 0 ∷ []))
    ∷ Look 1 0 1
    ∷ Relink 0 30 None (Some 0)
    ∷ Turn 1
    ∷ Relink 0 0 (Some 0) (Some 7)
    ∷ Turn 1
    ∷ Relink 1 1 None (Some 9)
    ∷ Look 1 0 1
    ∷ Look 0 0 1
    ∷ Turn 0
    ∷ Turn 0
    ∷ Turn 1
    ∷ Turn 1
    ∷ Look 1 1 34
    ∷ Look 0 1 34
    ∷ Turn 0
    ∷ Turn 0
    ∷ Read 0 0
    ∷ Relink 0 1 (Some 9) None
    ∷ Turn 1
    ∷ Retire 0 9
    ∷ Take 0
    ∷ Turn 1
    ∷ Turn 0
    ∷ Turn 1
    ∷ Turn 1
    ∷ Turn 1
    ∷ Turn 0
    ∷ Write 0 10 (reading (2 ∷ 0 ∷ 0 ∷ 0 ∷ 80 ∷ 0 ∷ 0 ∷ 0 ∷ []))
    ∷ Turn 1
    ∷ Read 1 0
    ∷ Look 0 0 0
    ∷ Relink 1 1 (Some 9) None
    ∷ Retire 1 9
    ∷ Drop 1
    ∷ Turn 0
    ∷ Look 1 1 22
    ∷ Turn 1
    ∷ Turn 1
    ∷ Turn 0
    ∷ Relink 0 36 None (Some 7)
    ∷ Relink 0 0 (Some 7) (Some 10)
    ∷ Take 0
    ∷ Turn 1
    ∷ Turn 1
    ∷ Look 1 0 0
    ∷ Turn 0
    ∷ Turn 0
    ∷ Write 0 18 (reading (2 ∷ 0 ∷ 0 ∷ 0 ∷ 82 ∷ 0 ∷ 0 ∷ 0 ∷ []))
    ∷ Turn 1
    ∷ Turn 1
    ∷ Retire 0 18
    ∷ Take 0
    ∷ Turn 1
    ∷ Turn 1
    ∷ Relink 1 9 None (Some 14)
    ∷ Turn 0
    ∷ Turn 1
    ∷ Turn 0
    ∷ Write 0 19 (reading (2 ∷ 0 ∷ 0 ∷ 0 ∷ 84 ∷ 0 ∷ 0 ∷ 0 ∷ []))
    ∷ Turn 1
    ∷ Retire 0 19
    ∷ Turn 1
    ∷ Look 1 1 36
    ∷ Turn 1
    ∷ Turn 1
    ∷ Turn 1
    ∷ Turn 1
    ∷ Drop 0
    ∷ Turn 0
    ∷ Turn 1
    ∷ Turn 1
    ∷ Turn 0
    ∷ Turn 1
    ∷ Write 0 12 (reading (2 ∷ 0 ∷ 0 ∷ 0 ∷ 86 ∷ 0 ∷ 0 ∷ 0 ∷ []))
    ∷ Turn 0
    ∷ Turn 0
    ∷ Read 1 0
    ∷ Take 0
    ∷ Relink 1 0 (Some 10) (Some 7)
    ∷ Retire 1 10
    ∷ Turn 0
    ∷ Take 1
    ∷ Turn 1
    ∷ Turn 0
    ∷ Write 0 20 (reading (2 ∷ 0 ∷ 0 ∷ 0 ∷ 87 ∷ 0 ∷ 0 ∷ 0 ∷ []))
    ∷ Retire 0 20
    ∷ Take 0
    ∷ Turn 1
    ∷ Turn 0
    ∷ Write 1 21 (reading (2 ∷ 0 ∷ 0 ∷ 0 ∷ 88 ∷ 0 ∷ 0 ∷ 0 ∷ []))
    ∷ Look 1 0 1
    ∷ Turn 0
    ∷ Turn 1
    ∷ Turn 1
    ∷ Relink 1 1 None (Some 21)
    ∷ Relink 1 0 (Some 7) None
    ∷ Retire 1 7
    ∷ Take 1
    ∷ Turn 1
    ∷ Turn 1
    ∷ Write 1 23 (reading (2 ∷ 0 ∷ 0 ∷ 0 ∷ 89 ∷ 0 ∷ 0 ∷ 0 ∷ []))
    ∷ Write 0 22 (reading (2 ∷ 0 ∷ 0 ∷ 0 ∷ 90 ∷ 0 ∷ 0 ∷ 0 ∷ []))
    ∷ Look 1 0 1
    ∷ Turn 1
    ∷ Write 1 29 (reading (2 ∷ 0 ∷ 0 ∷ 0 ∷ 91 ∷ 0 ∷ 0 ∷ 0 ∷ []))
    ∷ Turn 1
    ∷ Look 0 0 1
    ∷ Relink 1 1 (Some 21) (Some 23)
    ∷ Turn 0
    ∷ Turn 0
    ∷ Turn 0
    ∷ Retire 1 21
    ∷ Look 1 0 1
    ∷ Turn 0
    ∷ Turn 1
    ∷ Turn 1
    ∷ Look 1 1 62
    ∷ Turn 1
    ∷ Turn 0
    ∷ Turn 0
    ∷ Turn 0
    ∷ Turn 0
    ∷ Turn 1
    ∷ Read 1 0
    ∷ Relink 1 1 (Some 23) None
    ∷ Retire 1 23
    ∷ Turn 1
    ∷ Turn 0
    ∷ Turn 1
    ∷ Relink 0 1 (Some 23) (Some 22)
    ∷ Write 0 22 (reading (2 ∷ 0 ∷ 0 ∷ 0 ∷ 92 ∷ 0 ∷ 0 ∷ 0 ∷ []))
    ∷ Retire 0 22
    ∷ Turn 1
    ∷ Turn 1
    ∷ Look 0 0 0
    ∷ Take 1
    ∷ Turn 0
    ∷ Turn 0
    ∷ Turn 1
    ∷ Turn 1
    ∷ Look 0 0 1
    ∷ Turn 0
    ∷ Turn 0
    ∷ Turn 0
    ∷ Write 1 24 (reading (2 ∷ 0 ∷ 0 ∷ 0 ∷ 93 ∷ 0 ∷ 0 ∷ 0 ∷ []))
    ∷ []

abbrev pub lines : List (Line Reading)
lines =
    prints 1 None 0
    ∷ prints 1 None 0
    ∷ prints 1 None 0
    ∷ prints 1 None 0
    ∷ prints 0 (Some (Block 0)) 0
    ∷ prints 0 None 0
    ∷ prints 0 None 0
    ∷ prints 1 None 0
    ∷ prints 0 (Some (Block 1)) 0
    ∷ prints 0 None 0
    ∷ prints 0 None 0
    ∷ prints 1 None 0
    ∷ prints 103 None 0
    ∷ prints 1 None 0
    ∷ prints 0 (Some (Block 2)) 0
    ∷ prints 0 None 0
    ∷ prints 1 None 0
    ∷ prints 1 None 0
    ∷ prints 1 None 0
    ∷ prints 1 None 0
    ∷ prints 1 None 0
    ∷ prints 1 None 0
    ∷ prints 102 None 0
    ∷ prints 1 None 0
    ∷ prints 1 None 0
    ∷ prints 1 None 0
    ∷ prints 1 None 0
    ∷ prints 1 None 0
    ∷ prints 0 None 0
    ∷ prints 1 None 0
    ∷ prints 0 None 0
    ∷ prints 1 None 0
    ∷ prints 0 None 0
    ∷ prints 1 None 0
    ∷ prints 1 None 0
    ∷ prints 1 None 0
    ∷ prints 102 None 0
    ∷ prints 1 None 0
    ∷ prints 1 None 0
    ∷ prints 0 (Some (Block 3)) 0
    ∷ prints 1 None 0
    ∷ prints 1 None 0
    ∷ prints 1 None 0
    ∷ prints 0 None 0
    ∷ prints 1 None 0
    ∷ prints 0 None 0
    ∷ prints 0 None 0
    ∷ prints 1 None 0
    ∷ prints 105 None 0
    ∷ prints 1 None 0
    ∷ prints 105 None 0
    ∷ prints 105 None 0
    ∷ prints 0 None 0
    ∷ prints 105 None 0
    ∷ prints 105 None 0
    ∷ prints 105 None 0
    ∷ prints 1 None 0
    ∷ prints 1 None 0
    ∷ prints 0 (Some (Block 4)) 0
    ∷ prints 0 None 0
    ∷ prints 1 None 0
    ∷ prints 103 None 0
    ∷ prints 1 None 0
    ∷ prints 1 None 0
    ∷ prints 103 None 0
    ∷ prints 1 None 0
    ∷ prints 0 (Some (Block 2)) 0
    ∷ prints 0 (Some (Block 2)) 0
    ∷ prints 0 None 0
    ∷ prints 1 None 0
    ∷ prints 1 None 0
    ∷ prints 0 None 0
    ∷ prints 1 None 0
    ∷ prints 1 None 0
    ∷ prints 104 None 0
    ∷ prints 102 None 0
    ∷ prints 1 None 0
    ∷ prints 1 None 0
    ∷ prints 0 (Some (Block 5)) 0
    ∷ prints 1 None 0
    ∷ prints 0 None 0
    ∷ prints 1 None 0
    ∷ prints 1 None 0
    ∷ prints 106 None 0
    ∷ prints 103 None 0
    ∷ prints 105 None 0
    ∷ prints 1 None 0
    ∷ prints 1 None 0
    ∷ prints 1 None 0
    ∷ prints 1 None 0
    ∷ prints 0 None 0
    ∷ prints 1 None 0
    ∷ prints 0 None 0
    ∷ prints 1 None 0
    ∷ prints 1 None 0
    ∷ prints 0 None 0
    ∷ prints 0 (Some (Block 6)) 0
    ∷ prints 104 None 0
    ∷ prints 1 None 0
    ∷ prints 0 None 0
    ∷ prints 1 None 0
    ∷ prints 0 (Some (Block 4)) 0
    ∷ prints 1 None 0
    ∷ prints 1 None 0
    ∷ prints 0 None 0
    ∷ prints 0 (Some (Record (reading (2 ∷ 0 ∷ 0 ∷ 0 ∷ 8 ∷ 0 ∷ 0 ∷ 0 ∷ [])))) 0
    ∷ prints 1 None 0
    ∷ prints 0 None 0
    ∷ prints 0 None 0
    ∷ prints 1 None 0
    ∷ prints 1 None 0
    ∷ prints 1 None 0
    ∷ prints 1 None 0
    ∷ prints 1 None 0
    ∷ prints 0 (Some (Block 7)) 0
    ∷ prints 0 None 0
    ∷ prints 1 None 0
    ∷ prints 1 None 0
    ∷ prints 1 None 0
    ∷ prints 1 None 0
    ∷ prints 1 None 0
    ∷ prints 1 None 0
    ∷ prints 1 None 0
    ∷ prints 1 None 0
    ∷ prints 0 None 0
    ∷ prints 0 None 0
    ∷ prints 1 None 0
    ∷ prints 0 None 0
    ∷ prints 1 None 0
    ∷ prints 1 None 0
    ∷ prints 0 (Some (Block 8)) 0
    ∷ prints 1 None 0
    ∷ prints 0 None 0
    ∷ prints 1 None 0
    ∷ prints 0 None 0
    ∷ prints 1 None 0
    ∷ prints 0 (Some (Block 6)) 0
    ∷ prints 1 None 0
    ∷ prints 1 None 0
    ∷ prints 103 None 0
    ∷ prints 0 None 0
    ∷ prints 0 None 0
    ∷ prints 1 None 0
    ∷ prints 1 None 0
    ∷ prints 1 None 0
    ∷ prints 1 None 0
    ∷ prints 1 None 0
    ∷ prints 1 None 0
    ∷ prints 1 None 0
    ∷ prints 0 (Some (Block 9)) 0
    ∷ prints 103 None 0
    ∷ prints 1 None 0
    ∷ prints 0 (Some (Block 8)) 0
    ∷ prints 0 None 0
    ∷ prints 1 None 0
    ∷ prints 1 None 0
    ∷ prints 102 None 0
    ∷ prints 1 None 0
    ∷ prints 1 None 0
    ∷ prints 1 None 0
    ∷ prints 1 None 0
    ∷ prints 1 None 0
    ∷ prints 1 None 0
    ∷ prints 1 None 0
    ∷ prints 1 None 0
    ∷ prints 0 None 0
    ∷ prints 1 None 0
    ∷ prints 1 None 0
    ∷ prints 1 None 0
    ∷ prints 1 None 0
    ∷ prints 1 None 0
    ∷ prints 1 None 0
    ∷ prints 102 None 0
    ∷ prints 1 None 0
    ∷ prints 1 None 0
    ∷ prints 1 None 0
    ∷ prints 1 None 4
    ∷ prints 1 None 0
    ∷ prints 1 None 0
    ∷ prints 0 (Some (Block 5)) 0
    ∷ prints 1 None 0
    ∷ prints 0 (Some (Record (reading (2 ∷ 0 ∷ 0 ∷ 0 ∷ 13 ∷ 0 ∷ 0 ∷ 0 ∷ [])))) 0
    ∷ prints 1 None 0
    ∷ prints 1 None 0
    ∷ prints 1 None 0
    ∷ prints 0 None 0
    ∷ prints 1 None 0
    ∷ prints 105 None 0
    ∷ prints 0 None 0
    ∷ prints 1 None 0
    ∷ prints 1 None 0
    ∷ prints 107 None 0
    ∷ prints 1 None 0
    ∷ prints 1 None 0
    ∷ prints 1 None 0
    ∷ prints 1 None 0
    ∷ prints 0 (Some (Block 1)) 0
    ∷ prints 1 None 0
    ∷ prints 0 (Some (Block 8)) 0
    ∷ prints 1 None 0
    ∷ prints 1 None 0
    ∷ prints 0 None 0
    ∷ prints 105 None 0
    ∷ prints 0 (Some (Record (reading (2 ∷ 0 ∷ 0 ∷ 0 ∷ 18 ∷ 0 ∷ 0 ∷ 0 ∷ [])))) 0
    ∷ prints 0 None 0
    ∷ prints 0 None 0
    ∷ prints 1 None 0
    ∷ prints 1 None 0
    ∷ prints 0 None 0
    ∷ prints 0 None 0
    ∷ prints 0 None 0
    ∷ prints 1 None 0
    ∷ prints 1 None 0
    ∷ prints 1 None 0
    ∷ prints 0 (Some (Block 2)) 0
    ∷ prints 1 None 0
    ∷ prints 102 None 0
    ∷ prints 0 (Some (Block 4)) 0
    ∷ prints 0 None 0
    ∷ prints 0 None 0
    ∷ prints 0 None 0
    ∷ prints 1 None 0
    ∷ prints 1 None 0
    ∷ prints 1 None 0
    ∷ prints 1 None 4
    ∷ prints 1 None 0
    ∷ prints 1 None 0
    ∷ prints 1 None 0
    ∷ prints 1 None 0
    ∷ prints 1 None 0
    ∷ prints 1 None 0
    ∷ prints 1 None 0
    ∷ prints 0 (Some (Block 1)) 0
    ∷ prints 0 None 0
    ∷ prints 0 None 0
    ∷ prints 0 None 0
    ∷ prints 1 None 0
    ∷ prints 1 None 0
    ∷ prints 1 None 0
    ∷ prints 1 None 0
    ∷ prints 0 None 0
    ∷ prints 105 None 0
    ∷ prints 105 None 0
    ∷ prints 1 None 0
    ∷ prints 1 None 0
    ∷ prints 1 None 0
    ∷ prints 0 (Some (Block 0)) 0
    ∷ prints 0 None 0
    ∷ prints 1 None 0
    ∷ prints 1 None 0
    ∷ prints 1 None 0
    ∷ prints 1 None 0
    ∷ prints 1 None 0
    ∷ prints 1 None 0
    ∷ prints 0 (Some (Block 4)) 0
    ∷ prints 0 None 0
    ∷ prints 0 None 0
    ∷ prints 1 None 0
    ∷ prints 1 None 0
    ∷ prints 1 None 0
    ∷ prints 0 (Some (Block 4)) 0
    ∷ prints 105 None 0
    ∷ prints 105 None 0
    ∷ prints 0 (Some (Record (reading (2 ∷ 0 ∷ 0 ∷ 0 ∷ 29 ∷ 0 ∷ 0 ∷ 0 ∷ [])))) 0
    ∷ prints 1 None 0
    ∷ prints 1 None 0
    ∷ prints 1 None 0
    ∷ prints 1 None 0
    ∷ prints 1 None 0
    ∷ prints 0 (Some (Block 3)) 0
    ∷ prints 0 None 0
    ∷ prints 1 None 0
    ∷ prints 1 None 0
    ∷ prints 1 None 0
    ∷ prints 0 (Some (Block 4)) 0
    ∷ prints 0 None 0
    ∷ prints 103 None 0
    ∷ prints 1 None 0
    ∷ prints 1 None 0
    ∷ prints 0 None 0
    ∷ prints 0 (Some (Record (reading (2 ∷ 0 ∷ 0 ∷ 0 ∷ 29 ∷ 0 ∷ 0 ∷ 0 ∷ [])))) 0
    ∷ prints 0 None 0
    ∷ prints 112 None 0
    ∷ prints 106 None 0
    ∷ prints 1 None 0
    ∷ prints 105 None 0
    ∷ prints 1 None 0
    ∷ prints 1 None 0
    ∷ prints 1 None 0
    ∷ prints 0 (Some (Block 0)) 0
    ∷ prints 1 None 0
    ∷ prints 103 None 0
    ∷ prints 103 None 0
    ∷ prints 0 (Some (Block 3)) 0
    ∷ prints 1 None 0
    ∷ prints 1 None 0
    ∷ prints 0 None 0
    ∷ prints 105 None 0
    ∷ prints 1 None 0
    ∷ prints 1 None 0
    ∷ prints 1 None 0
    ∷ prints 1 None 0
    ∷ prints 1 None 0
    ∷ prints 1 None 0
    ∷ prints 0 (Some (Block 3)) 0
    ∷ prints 1 None 0
    ∷ prints 0 (Some (Record (reading (2 ∷ 0 ∷ 0 ∷ 0 ∷ 30 ∷ 0 ∷ 0 ∷ 0 ∷ [])))) 0
    ∷ prints 0 (Some (Record (reading (2 ∷ 0 ∷ 0 ∷ 0 ∷ 30 ∷ 0 ∷ 0 ∷ 0 ∷ [])))) 0
    ∷ prints 0 (Some (Record (reading (2 ∷ 0 ∷ 0 ∷ 0 ∷ 31 ∷ 0 ∷ 0 ∷ 0 ∷ [])))) 0
    ∷ prints 103 None 0
    ∷ prints 1 None 0
    ∷ prints 0 None 0
    ∷ prints 105 None 0
    ∷ prints 0 None 0
    ∷ prints 1 None 0
    ∷ prints 1 None 0
    ∷ prints 1 None 0
    ∷ prints 1 None 0
    ∷ prints 0 (Some (Block 0)) 0
    ∷ prints 1 None 0
    ∷ prints 0 None 0
    ∷ prints 1 None 0
    ∷ prints 103 None 0
    ∷ prints 0 (Some (Record (reading (2 ∷ 0 ∷ 0 ∷ 0 ∷ 30 ∷ 0 ∷ 0 ∷ 0 ∷ [])))) 0
    ∷ prints 103 None 0
    ∷ prints 0 (Some (Record (reading (2 ∷ 0 ∷ 0 ∷ 0 ∷ 31 ∷ 0 ∷ 0 ∷ 0 ∷ [])))) 0
    ∷ prints 1 None 0
    ∷ prints 1 None 0
    ∷ prints 0 (Some (Block 6)) 0
    ∷ prints 1 None 0
    ∷ prints 0 (Some (Block 9)) 0
    ∷ prints 0 None 0
    ∷ prints 0 None 0
    ∷ prints 1 None 0
    ∷ prints 1 None 0
    ∷ prints 0 None 0
    ∷ prints 1 None 0
    ∷ prints 1 None 0
    ∷ prints 0 (Some (Block 0)) 0
    ∷ prints 0 (Some (Block 0)) 0
    ∷ prints 1 None 0
    ∷ prints 1 None 0
    ∷ prints 0 None 0
    ∷ prints 105 None 0
    ∷ prints 0 None 0
    ∷ prints 0 None 0
    ∷ prints 1 None 0
    ∷ prints 1 None 0
    ∷ prints 0 None 0
    ∷ prints 1 None 0
    ∷ prints 1 None 0
    ∷ prints 0 (Some (Record (reading (2 ∷ 0 ∷ 0 ∷ 0 ∷ 30 ∷ 0 ∷ 0 ∷ 0 ∷ [])))) 0
    ∷ prints 0 (Some (Block 7)) 0
    ∷ prints 0 (Some (Record (reading (2 ∷ 0 ∷ 0 ∷ 0 ∷ 30 ∷ 0 ∷ 0 ∷ 0 ∷ [])))) 0
    ∷ prints 1 None 0
    ∷ prints 0 None 0
    ∷ prints 103 None 0
    ∷ prints 0 None 0
    ∷ prints 1 None 0
    ∷ prints 1 None 0
    ∷ prints 103 None 0
    ∷ prints 1 None 0
    ∷ prints 0 (Some (Block 10)) 0
    ∷ prints 1 None 0
    ∷ prints 1 None 0
    ∷ prints 1 None 0
    ∷ prints 0 None 0
    ∷ prints 1 None 0
    ∷ prints 0 (Some (Block 9)) 0
    ∷ prints 1 None 0
    ∷ prints 1 None 0
    ∷ prints 1 None 0
    ∷ prints 1 None 0
    ∷ prints 1 None 0
    ∷ prints 1 None 0
    ∷ prints 1 None 0
    ∷ prints 1 None 0
    ∷ prints 1 None 0
    ∷ prints 1 None 0
    ∷ prints 1 None 0
    ∷ prints 103 None 0
    ∷ prints 0 None 0
    ∷ prints 1 None 0
    ∷ prints 0 (Some (Record (reading (2 ∷ 0 ∷ 0 ∷ 0 ∷ 39 ∷ 0 ∷ 0 ∷ 0 ∷ [])))) 0
    ∷ prints 0 None 0
    ∷ prints 0 None 0
    ∷ prints 0 None 0
    ∷ prints 0 None 0
    ∷ prints 0 None 0
    ∷ prints 1 None 0
    ∷ prints 1 None 0
    ∷ prints 1 None 0
    ∷ prints 0 (Some (Block 10)) 0
    ∷ prints 1 None 0
    ∷ prints 1 None 0
    ∷ prints 1 None 0
    ∷ prints 0 None 0
    ∷ prints 1 None 0
    ∷ prints 1 None 0
    ∷ prints 0 (Some (Record (reading (2 ∷ 0 ∷ 0 ∷ 0 ∷ 44 ∷ 0 ∷ 0 ∷ 0 ∷ [])))) 0
    ∷ prints 0 None 0
    ∷ prints 0 None 0
    ∷ prints 1 None 0
    ∷ prints 1 None 0
    ∷ prints 1 None 0
    ∷ prints 1 None 0
    ∷ prints 1 None 0
    ∷ prints 1 None 0
    ∷ prints 1 None 0
    ∷ prints 1 None 0
    ∷ prints 1 None 0
    ∷ prints 1 None 0
    ∷ prints 1 None 0
    ∷ prints 1 None 0
    ∷ prints 0 None 0
    ∷ prints 1 None 0
    ∷ prints 1 None 0
    ∷ prints 0 None 0
    ∷ prints 1 None 0
    ∷ prints 1 None 0
    ∷ prints 0 None 0
    ∷ prints 1 None 0
    ∷ prints 1 None 0
    ∷ prints 1 None 0
    ∷ prints 1 None 0
    ∷ prints 1 None 0
    ∷ prints 0 (Some (Block 11)) 0
    ∷ prints 0 None 0
    ∷ prints 0 None 0
    ∷ prints 0 None 0
    ∷ prints 106 None 0
    ∷ prints 1 None 0
    ∷ prints 1 None 0
    ∷ prints 1 None 0
    ∷ prints 0 None 0
    ∷ prints 0 None 0
    ∷ prints 105 None 0
    ∷ prints 1 None 0
    ∷ prints 1 None 0
    ∷ prints 1 None 0
    ∷ prints 105 None 0
    ∷ prints 1 None 0
    ∷ prints 1 None 0
    ∷ prints 1 None 0
    ∷ prints 0 None 0
    ∷ prints 1 None 0
    ∷ prints 1 None 0
    ∷ prints 1 None 0
    ∷ prints 0 None 0
    ∷ prints 1 None 0
    ∷ prints 1 None 0
    ∷ prints 0 None 0
    ∷ prints 1 None 0
    ∷ prints 102 None 0
    ∷ prints 1 None 0
    ∷ prints 1 None 0
    ∷ prints 1 None 0
    ∷ prints 1 None 0
    ∷ prints 0 None 0
    ∷ prints 105 None 0
    ∷ prints 1 None 0
    ∷ prints 1 None 0
    ∷ prints 0 None 0
    ∷ prints 1 None 0
    ∷ prints 1 None 0
    ∷ prints 1 None 0
    ∷ prints 0 (Some (Block 12)) 0
    ∷ prints 0 (Some (Block 13)) 0
    ∷ prints 0 None 0
    ∷ prints 0 None 0
    ∷ prints 1 None 0
    ∷ prints 1 None 0
    ∷ prints 1 None 0
    ∷ prints 1 None 0
    ∷ prints 0 None 0
    ∷ prints 0 None 0
    ∷ prints 1 None 0
    ∷ prints 1 None 0
    ∷ prints 1 None 0
    ∷ prints 1 None 0
    ∷ prints 0 (Some (Block 14)) 0
    ∷ prints 1 None 0
    ∷ prints 0 None 0
    ∷ prints 1 None 0
    ∷ prints 1 None 0
    ∷ prints 0 (Some (Block 13)) 0
    ∷ prints 0 None 0
    ∷ prints 1 None 0
    ∷ prints 1 None 0
    ∷ prints 0 None 0
    ∷ prints 103 None 0
    ∷ prints 0 (Some (Block 14)) 0
    ∷ prints 0 None 0
    ∷ prints 0 None 0
    ∷ prints 1 None 0
    ∷ prints 1 None 0
    ∷ prints 0 (Some (Block 15)) 0
    ∷ prints 0 None 0
    ∷ prints 1 None 0
    ∷ prints 1 None 0
    ∷ prints 1 None 0
    ∷ prints 0 (Some (Block 16)) 0
    ∷ prints 0 None 0
    ∷ prints 0 None 0
    ∷ prints 1 None 0
    ∷ prints 1 None 0
    ∷ prints 0 (Some (Block 17)) 0
    ∷ prints 0 None 0
    ∷ prints 1 None 0
    ∷ prints 1 None 0
    ∷ prints 1 None 0
    ∷ prints 1 None 0
    ∷ prints 1 None 0
    ∷ prints 1 None 0
    ∷ prints 1 None 0
    ∷ prints 1 None 0
    ∷ prints 1 None 0
    ∷ prints 1 None 0
    ∷ prints 1 None 0
    ∷ prints 1 None 0
    ∷ prints 0 (Some (Block 12)) 0
    ∷ prints 0 None 0
    ∷ prints 1 None 0
    ∷ prints 0 None 0
    ∷ prints 0 None 0
    ∷ prints 1 None 0
    ∷ prints 0 None 0
    ∷ prints 0 None 0
    ∷ prints 1 None 0
    ∷ prints 1 None 0
    ∷ prints 1 None 0
    ∷ prints 1 None 8
    ∷ prints 0 None 0
    ∷ prints 107 None 0
    ∷ prints 1 None 0
    ∷ prints 1 None 0
    ∷ prints 1 None 0
    ∷ prints 1 None 0
    ∷ prints 1 None 0
    ∷ prints 1 None 0
    ∷ prints 0 (Some (Block 8)) 0
    ∷ prints 0 None 0
    ∷ prints 1 None 0
    ∷ prints 1 None 0
    ∷ prints 0 None 0
    ∷ prints 1 None 0
    ∷ prints 1 None 0
    ∷ prints 1 None 0
    ∷ prints 102 None 0
    ∷ prints 0 None 0
    ∷ prints 1 None 0
    ∷ prints 1 None 0
    ∷ prints 0 (Some (Block 17)) 0
    ∷ prints 1 None 0
    ∷ prints 1 None 0
    ∷ prints 1 None 0
    ∷ prints 0 None 0
    ∷ prints 1 None 0
    ∷ prints 1 None 0
    ∷ prints 103 None 0
    ∷ prints 1 None 0
    ∷ prints 1 None 0
    ∷ prints 0 None 0
    ∷ prints 1 None 0
    ∷ prints 1 None 0
    ∷ prints 1 None 0
    ∷ prints 1 None 0
    ∷ prints 1 None 0
    ∷ prints 1 None 0
    ∷ prints 1 None 0
    ∷ prints 1 None 0
    ∷ prints 1 None 0
    ∷ prints 0 None 0
    ∷ prints 1 None 0
    ∷ prints 0 None 0
    ∷ prints 1 None 0
    ∷ prints 1 None 0
    ∷ prints 1 None 0
    ∷ prints 1 None 0
    ∷ prints 0 (Some (Block 1)) 0
    ∷ prints 0 (Some (Block 4)) 0
    ∷ prints 0 None 0
    ∷ prints 1 None 0
    ∷ prints 102 None 0
    ∷ prints 1 None 0
    ∷ prints 1 None 0
    ∷ prints 0 None 0
    ∷ prints 1 None 0
    ∷ prints 1 None 0
    ∷ prints 1 None 0
    ∷ prints 1 None 0
    ∷ prints 1 None 0
    ∷ prints 1 None 0
    ∷ prints 1 None 4
    ∷ prints 1 None 0
    ∷ prints 1 None 0
    ∷ prints 1 None 0
    ∷ prints 1 None 0
    ∷ prints 1 None 0
    ∷ prints 0 (Some (Block 8)) 0
    ∷ prints 0 None 0
    ∷ prints 0 None 0
    ∷ prints 0 None 0
    ∷ prints 0 None 0
    ∷ prints 1 None 0
    ∷ prints 1 None 0
    ∷ prints 0 (Some (Block 2)) 0
    ∷ prints 0 None 0
    ∷ prints 1 None 0
    ∷ prints 0 None 0
    ∷ prints 1 None 0
    ∷ prints 1 None 0
    ∷ prints 1 None 0
    ∷ prints 0 (Some (Block 1)) 0
    ∷ prints 0 None 0
    ∷ prints 0 None 0
    ∷ prints 0 (Some (Block 4)) 0
    ∷ prints 1 None 0
    ∷ prints 1 None 0
    ∷ prints 1 None 0
    ∷ prints 0 (Some (Block 6)) 0
    ∷ prints 102 None 0
    ∷ prints 1 None 0
    ∷ prints 1 None 0
    ∷ prints 0 None 0
    ∷ prints 0 None 0
    ∷ prints 105 None 0
    ∷ prints 1 None 0
    ∷ prints 1 None 0
    ∷ prints 103 None 0
    ∷ prints 1 None 0
    ∷ prints 0 (Some (Block 16)) 0
    ∷ prints 1 None 0
    ∷ prints 1 None 0
    ∷ prints 1 None 0
    ∷ prints 0 None 0
    ∷ prints 0 None 0
    ∷ prints 105 None 0
    ∷ prints 1 None 0
    ∷ prints 1 None 0
    ∷ prints 1 None 0
    ∷ prints 1 None 0
    ∷ prints 1 None 0
    ∷ prints 1 None 0
    ∷ prints 1 None 0
    ∷ prints 0 (Some (Block 4)) 0
    ∷ prints 0 None 0
    ∷ prints 0 None 0
    ∷ prints 1 None 0
    ∷ prints 1 None 0
    ∷ prints 1 None 0
    ∷ prints 0 (Some (Block 17)) 0
    ∷ prints 0 None 0
    ∷ prints 0 (Some (Block 16)) 0
    ∷ prints 1 None 0
    ∷ prints 1 None 0
    ∷ prints 1 None 0
    ∷ prints 1 None 0
    ∷ prints 1 None 0
    ∷ prints 1 None 0
    ∷ prints 1 None 0
    ∷ prints 1 None 0
    ∷ prints 0 (Some (Block 3)) 0
    ∷ prints 0 None 0
    ∷ prints 0 (Some (Block 2)) 0
    ∷ prints 1 None 0
    ∷ prints 103 None 0
    ∷ prints 1 None 0
    ∷ prints 0 (Some (Block 2)) 0
    ∷ prints 0 None 0
    ∷ prints 112 None 0
    ∷ prints 1 None 0
    ∷ prints 1 None 0
    ∷ prints 1 None 0
    ∷ prints 1 None 0
    ∷ prints 1 None 0
    ∷ prints 0 (Some (Block 16)) 0
    ∷ prints 1 None 0
    ∷ prints 1 None 0
    ∷ prints 0 None 0
    ∷ prints 0 (Some (Record (reading (2 ∷ 0 ∷ 0 ∷ 0 ∷ 67 ∷ 0 ∷ 0 ∷ 0 ∷ [])))) 0
    ∷ prints 0 None 0
    ∷ prints 103 None 0
    ∷ prints 0 None 0
    ∷ prints 1 None 0
    ∷ prints 1 None 0
    ∷ prints 0 (Some (Block 3)) 0
    ∷ prints 1 None 0
    ∷ prints 1 None 0
    ∷ prints 1 None 0
    ∷ prints 1 None 0
    ∷ prints 0 None 0
    ∷ prints 0 (Some (Record (reading (2 ∷ 0 ∷ 0 ∷ 0 ∷ 69 ∷ 0 ∷ 0 ∷ 0 ∷ [])))) 0
    ∷ prints 0 None 0
    ∷ prints 1 None 0
    ∷ prints 1 None 0
    ∷ prints 1 None 0
    ∷ prints 1 None 0
    ∷ prints 1 None 0
    ∷ prints 1 None 0
    ∷ prints 1 None 0
    ∷ prints 0 None 0
    ∷ prints 1 None 0
    ∷ prints 1 None 0
    ∷ prints 1 None 0
    ∷ prints 1 None 0
    ∷ prints 103 None 0
    ∷ prints 1 None 0
    ∷ prints 1 None 0
    ∷ prints 103 None 0
    ∷ prints 1 None 0
    ∷ prints 1 None 0
    ∷ prints 0 None 0
    ∷ prints 0 None 0
    ∷ prints 0 None 0
    ∷ prints 1 None 0
    ∷ prints 0 None 0
    ∷ prints 1 None 0
    ∷ prints 1 None 0
    ∷ prints 1 None 0
    ∷ prints 1 None 0
    ∷ prints 1 None 0
    ∷ prints 1 None 0
    ∷ prints 0 None 0
    ∷ prints 1 None 0
    ∷ prints 1 None 0
    ∷ prints 1 None 0
    ∷ prints 0 (Some (Block 0)) 0
    ∷ prints 1 None 0
    ∷ prints 0 None 0
    ∷ prints 1 None 0
    ∷ prints 103 None 0
    ∷ prints 1 None 0
    ∷ prints 1 None 0
    ∷ prints 1 None 0
    ∷ prints 1 None 0
    ∷ prints 0 None 0
    ∷ prints 1 None 0
    ∷ prints 1 None 0
    ∷ prints 0 None 0
    ∷ prints 105 None 0
    ∷ prints 0 None 0
    ∷ prints 105 None 0
    ∷ prints 0 None 0
    ∷ prints 1 None 0
    ∷ prints 1 None 0
    ∷ prints 1 None 0
    ∷ prints 0 (Some (Block 7)) 0
    ∷ prints 0 None 0
    ∷ prints 1 None 0
    ∷ prints 0 (Some (Block 9)) 0
    ∷ prints 1 None 0
    ∷ prints 1 None 0
    ∷ prints 0 (Some (Block 0)) 0
    ∷ prints 0 None 0
    ∷ prints 1 None 0
    ∷ prints 0 None 0
    ∷ prints 1 None 0
    ∷ prints 0 None 0
    ∷ prints 0 None 0
    ∷ prints 0 None 0
    ∷ prints 1 None 0
    ∷ prints 1 None 0
    ∷ prints 1 None 0
    ∷ prints 0 (Some (Block 9)) 0
    ∷ prints 1 None 0
    ∷ prints 0 (Some (Block 9)) 0
    ∷ prints 1 None 0
    ∷ prints 1 None 0
    ∷ prints 1 None 0
    ∷ prints 0 None 0
    ∷ prints 0 (Some (Record (reading (2 ∷ 0 ∷ 0 ∷ 0 ∷ 79 ∷ 0 ∷ 0 ∷ 0 ∷ [])))) 0
    ∷ prints 0 None 0
    ∷ prints 1 None 0
    ∷ prints 0 None 0
    ∷ prints 1 None 0
    ∷ prints 1 None 0
    ∷ prints 1 None 0
    ∷ prints 1 None 0
    ∷ prints 1 None 0
    ∷ prints 1 None 0
    ∷ prints 0 (Some (Block 10)) 0
    ∷ prints 0 None 0
    ∷ prints 106 None 0
    ∷ prints 0 (Some (Record (reading (2 ∷ 0 ∷ 0 ∷ 0 ∷ 79 ∷ 0 ∷ 0 ∷ 0 ∷ [])))) 0
    ∷ prints 1 None 0
    ∷ prints 112 None 0
    ∷ prints 106 None 0
    ∷ prints 1 None 0
    ∷ prints 1 None 0
    ∷ prints 103 None 0
    ∷ prints 1 None 0
    ∷ prints 1 None 0
    ∷ prints 0 (Some (Block 7)) 0
    ∷ prints 0 None 0
    ∷ prints 0 None 0
    ∷ prints 1 None 0
    ∷ prints 1 None 0
    ∷ prints 0 None 0
    ∷ prints 1 None 0
    ∷ prints 1 None 0
    ∷ prints 0 (Some (Block 18)) 0
    ∷ prints 0 None 0
    ∷ prints 1 None 0
    ∷ prints 1 None 0
    ∷ prints 0 None 0
    ∷ prints 1 None 0
    ∷ prints 1 None 0
    ∷ prints 1 None 0
    ∷ prints 103 None 0
    ∷ prints 1 None 0
    ∷ prints 1 None 0
    ∷ prints 0 (Some (Block 19)) 0
    ∷ prints 0 None 0
    ∷ prints 1 None 0
    ∷ prints 1 None 0
    ∷ prints 0 (Some (Block 10)) 0
    ∷ prints 1 None 0
    ∷ prints 1 None 0
    ∷ prints 1 None 0
    ∷ prints 1 None 0
    ∷ prints 1 None 0
    ∷ prints 103 None 0
    ∷ prints 1 None 0
    ∷ prints 1 None 0
    ∷ prints 1 None 0
    ∷ prints 1 None 0
    ∷ prints 0 (Some (Block 7)) 0
    ∷ prints 103 None 0
    ∷ prints 1 None 0
    ∷ prints 0 None 0
    ∷ prints 0 (Some (Record (reading (2 ∷ 0 ∷ 0 ∷ 0 ∷ 80 ∷ 0 ∷ 0 ∷ 0 ∷ [])))) 0
    ∷ prints 1 None 0
    ∷ prints 0 None 0
    ∷ prints 0 None 0
    ∷ prints 1 None 0
    ∷ prints 1 None 0
    ∷ prints 1 None 0
    ∷ prints 0 (Some (Block 20)) 0
    ∷ prints 0 None 0
    ∷ prints 0 None 0
    ∷ prints 1 None 0
    ∷ prints 0 (Some (Block 21)) 0
    ∷ prints 1 None 0
    ∷ prints 0 None 0
    ∷ prints 1 None 0
    ∷ prints 0 (Some (Block 22)) 0
    ∷ prints 1 None 0
    ∷ prints 0 None 0
    ∷ prints 0 None 0
    ∷ prints 0 None 0
    ∷ prints 0 None 0
    ∷ prints 1 None 0
    ∷ prints 1 None 0
    ∷ prints 0 (Some (Block 23)) 0
    ∷ prints 0 None 0
    ∷ prints 0 None 0
    ∷ prints 1 None 0
    ∷ prints 1 None 0
    ∷ prints 103 None 0
    ∷ prints 0 (Some (Block 21)) 0
    ∷ prints 1 None 0
    ∷ prints 0 None 0
    ∷ prints 1 None 0
    ∷ prints 1 None 0
    ∷ prints 1 None 0
    ∷ prints 0 None 0
    ∷ prints 1 None 0
    ∷ prints 1 None 0
    ∷ prints 1 None 0
    ∷ prints 0 (Some (Block 23)) 0
    ∷ prints 1 None 0
    ∷ prints 1 None 0
    ∷ prints 1 None 0
    ∷ prints 1 None 0
    ∷ prints 1 None 0
    ∷ prints 1 None 0
    ∷ prints 0 None 0
    ∷ prints 0 (Some (Record (reading (2 ∷ 0 ∷ 0 ∷ 0 ∷ 89 ∷ 0 ∷ 0 ∷ 0 ∷ [])))) 0
    ∷ prints 0 None 0
    ∷ prints 1 None 0
    ∷ prints 1 None 0
    ∷ prints 0 (Some (Block 23)) 0
    ∷ prints 1 None 0
    ∷ prints 112 None 0
    ∷ prints 0 None 0
    ∷ prints 0 None 0
    ∷ prints 1 None 0
    ∷ prints 0 None 0
    ∷ prints 1 None 0
    ∷ prints 1 None 0
    ∷ prints 1 None 0
    ∷ prints 0 None 0
    ∷ prints 1 None 0
    ∷ prints 0 (Some (Block 24)) 0
    ∷ prints 1 None 0
    ∷ prints 1 None 0
    ∷ prints 1 None 0
    ∷ prints 1 None 0
    ∷ prints 0 None 0
    ∷ []

abbrev pub scenario : Scenario
scenario = record { puts = stack; form = form; calls = calls; lines = lines }

-- The run scenario-7 of an independent model: its calls, and the lines that it prints. Made by tools/scenario.
use Rattle.std.specs.Prelude.{List, [], ◌∷◌, Some, None}
use Rattle.figures.specs.declared.limits.Form.{Form}
use Rattle.records.specs.declared.readings.Reading.{Reading}
use Rattle.machine.specs.declared.calls.Call.{Call}
use Rattle.machine.specs.declared.calls.Call.TheVariants.{Take, Look, Drop, Retire, Relink, Write, Read, Turn}
use Rattle.machine.specs.declared.calls.Value.TheVariants.{Block, Record}
use Rattle.machine.specs.Runs.{Line}
use Rattle.scenarios.specs.Lines.{Scenario, stack, reading, prints}

abbrev pub form : Form
form = record { workers = 2; holds = 2; blocks = 100; live = 91; taking_period = 1; trying_period = 1; starting_era = 1 }

abbrev pub calls : List (Call Reading)
calls =
    Take 1
    ∷ Drop 0
    ∷ Turn 0
    ∷ Turn 2
    ∷ Turn 0
    ∷ Turn 0
    ∷ Turn 1
    ∷ Turn 0
    ∷ Take 0
    ∷ Turn 0
    ∷ Turn 1
    ∷ Write 1 0 (reading (2 ∷ 0 ∷ 0 ∷ 0 ∷ 2 ∷ 0 ∷ 0 ∷ 0 ∷ []))
    ∷ Retire 1 0
    ∷ Turn 0
    ∷ Write 0 1 (reading (2 ∷ 0 ∷ 0 ∷ 0 ∷ 3 ∷ 0 ∷ 0 ∷ 0 ∷ []))
    ∷ Turn 1
    ∷ Turn 1
    ∷ Retire 0 1
    ∷ Turn 1
    ∷ Turn 1
    ∷ Turn 1
    ∷ Turn 0
    ∷ Drop 1
    ∷ Turn 1
    ∷ Turn 0
    ∷ Turn 1
    ∷ Turn 0
    ∷ Turn 1
    ∷ Turn 1
    ∷ Drop 1
    ∷ Turn 1
    ∷ Turn 0
    ∷ Turn 0
    ∷ Drop 0
    ∷ Turn 1
    ∷ Turn 1
    ∷ Turn 1
    ∷ Look 1 0 1
    ∷ Turn 1
    ∷ Turn 1
    ∷ Turn 0
    ∷ Turn 0
    ∷ Relink 0 136 (Some 47) None
    ∷ Turn 1
    ∷ Turn 1
    ∷ Turn 1
    ∷ Turn 0
    ∷ Turn 1
    ∷ Turn 1
    ∷ Read 0 0
    ∷ Look 1 0 0
    ∷ Turn 0
    ∷ Turn 1
    ∷ Turn 1
    ∷ Look 0 0 1
    ∷ Turn 0
    ∷ Look 1 0 1
    ∷ Turn 0
    ∷ Turn 0
    ∷ Turn 1
    ∷ Turn 0
    ∷ Turn 1
    ∷ Turn 0
    ∷ Take 1
    ∷ Turn 1
    ∷ Turn 1
    ∷ Write 1 1 (reading (2 ∷ 0 ∷ 0 ∷ 0 ∷ 6 ∷ 0 ∷ 0 ∷ 0 ∷ []))
    ∷ Turn 0
    ∷ Turn 0
    ∷ Look 1 0 1
    ∷ Turn 0
    ∷ Turn 1
    ∷ Turn 0
    ∷ Turn 0
    ∷ Turn 0
    ∷ Read 0 0
    ∷ Turn 1
    ∷ Read 0 0
    ∷ Turn 2
    ∷ Take 0
    ∷ Turn 0
    ∷ Turn 0
    ∷ Read 0 2
    ∷ Turn 1
    ∷ Turn 1
    ∷ Write 0 0 (reading (2 ∷ 0 ∷ 0 ∷ 0 ∷ 9 ∷ 0 ∷ 0 ∷ 0 ∷ []))
    ∷ Turn 1
    ∷ Look 0 0 0
    ∷ Turn 0
    ∷ Turn 1
    ∷ Turn 0
    ∷ Turn 1
    ∷ Turn 1
    ∷ Turn 0
    ∷ Turn 0
    ∷ Relink 1 83 None (Some 88)
    ∷ Turn 1
    ∷ Turn 0
    ∷ Turn 1
    ∷ Turn 0
    ∷ Relink 0 0 None (Some 0)
    ∷ Relink 1 18 None None
    ∷ Drop 0
    ∷ Turn 0
    ∷ Turn 0
    ∷ Turn 0
    ∷ Relink 1 1 None (Some 1)
    ∷ Turn 0
    ∷ Look 0 0 1
    ∷ Take 1
    ∷ Turn 0
    ∷ Turn 1
    ∷ Turn 0
    ∷ Turn 0
    ∷ Turn 0
    ∷ Turn 1
    ∷ Turn 0
    ∷ Write 1 2 (reading (2 ∷ 0 ∷ 0 ∷ 0 ∷ 11 ∷ 0 ∷ 0 ∷ 0 ∷ []))
    ∷ Turn 0
    ∷ Turn 0
    ∷ Look 0 1 18
    ∷ Read 1 1
    ∷ Turn 0
    ∷ Turn 0
    ∷ Turn 0
    ∷ Turn 0
    ∷ Look 1 0 0
    ∷ Turn 0
    ∷ Turn 0
    ∷ Turn 1
    ∷ Turn 1
    ∷ Turn 1
    ∷ Turn 0
    ∷ Read 0 0
    ∷ Relink 0 1 (Some 1) None
    ∷ Retire 0 1
    ∷ Turn 1
    ∷ Turn 0
    ∷ Take 0
    ∷ Write 0 13 (reading (2 ∷ 0 ∷ 0 ∷ 0 ∷ 13 ∷ 0 ∷ 0 ∷ 0 ∷ []))
    ∷ Turn 1
    ∷ Turn 0
    ∷ Turn 0
    ∷ Turn 1
    ∷ Drop 0
    ∷ Turn 0
    ∷ Turn 0
    ∷ Turn 0
    ∷ Turn 1
    ∷ Turn 1
    ∷ Turn 1
    ∷ Take 0
    ∷ Turn 0
    ∷ Write 0 3 (reading (2 ∷ 0 ∷ 0 ∷ 0 ∷ 16 ∷ 0 ∷ 0 ∷ 0 ∷ []))
    ∷ Turn 1
    ∷ Look 0 0 1
    ∷ Turn 0
    ∷ Relink 1 0 (Some 0) (Some 2)
    ∷ Retire 1 0
    ∷ Take 3
    ∷ Relink 0 12 None None
    ∷ Look 1 2 16
    ∷ Turn 0
    ∷ Turn 1
    ∷ Turn 1
    ∷ Turn 1
    ∷ Turn 0
    ∷ Turn 0
    ∷ Look 1 0 0
    ∷ Turn 1
    ∷ Turn 1
    ∷ Turn 0
    ∷ Look 1 1 20
    ∷ Turn 1
    ∷ Turn 1
    ∷ Turn 0
    ∷ Turn 0
    ∷ Relink 0 22 None None
    ∷ Relink 0 1 None (Some 3)
    ∷ Turn 1
    ∷ Turn 1
    ∷ Look 0 0 0
    ∷ Turn 1
    ∷ Turn 0
    ∷ Turn 1
    ∷ Turn 1
    ∷ Read 1 0
    ∷ Turn 1
    ∷ Relink 1 0 (Some 2) None
    ∷ Retire 1 2
    ∷ Turn 0
    ∷ Turn 1
    ∷ Look 0 1 20
    ∷ Turn 0
    ∷ Turn 1
    ∷ Read 0 0
    ∷ Relink 0 0 (Some 2) None
    ∷ Turn 1
    ∷ Retire 0 2
    ∷ Drop 1
    ∷ Turn 1
    ∷ Turn 1
    ∷ Turn 1
    ∷ Take 0
    ∷ Turn 1
    ∷ Turn 0
    ∷ Take 1
    ∷ Turn 0
    ∷ Turn 1
    ∷ Turn 1
    ∷ Write 1 5 (reading (2 ∷ 0 ∷ 0 ∷ 0 ∷ 21 ∷ 0 ∷ 0 ∷ 0 ∷ []))
    ∷ Retire 1 5
    ∷ Turn 1
    ∷ Write 0 4 (reading (2 ∷ 0 ∷ 0 ∷ 0 ∷ 22 ∷ 0 ∷ 0 ∷ 0 ∷ []))
    ∷ Look 0 0 1
    ∷ Turn 1
    ∷ Turn 1
    ∷ Turn 0
    ∷ Turn 0
    ∷ Turn 0
    ∷ Turn 1
    ∷ Turn 0
    ∷ Turn 1
    ∷ Turn 0
    ∷ Turn 1
    ∷ Drop 1
    ∷ Turn 0
    ∷ Relink 0 24 None (Some 3)
    ∷ Turn 1
    ∷ Turn 1
    ∷ Relink 0 1 (Some 3) (Some 4)
    ∷ Turn 1
    ∷ Turn 1
    ∷ Take 3
    ∷ Take 1
    ∷ Take 0
    ∷ Turn 1
    ∷ Drop 0
    ∷ Write 0 54 (reading (2 ∷ 0 ∷ 0 ∷ 0 ∷ 26 ∷ 0 ∷ 0 ∷ 0 ∷ []))
    ∷ Turn 1
    ∷ Drop 0
    ∷ Write 1 6 (reading (2 ∷ 0 ∷ 0 ∷ 0 ∷ 28 ∷ 0 ∷ 0 ∷ 0 ∷ []))
    ∷ Turn 0
    ∷ Turn 0
    ∷ Write 0 7 (reading (2 ∷ 0 ∷ 0 ∷ 0 ∷ 29 ∷ 0 ∷ 0 ∷ 0 ∷ []))
    ∷ Take 1
    ∷ Retire 0 7
    ∷ Turn 0
    ∷ Write 1 13 (reading (2 ∷ 0 ∷ 0 ∷ 0 ∷ 31 ∷ 0 ∷ 0 ∷ 0 ∷ []))
    ∷ Turn 0
    ∷ Turn 0
    ∷ Look 1 0 1
    ∷ Turn 1
    ∷ Turn 1
    ∷ Relink 1 1 None (Some 6)
    ∷ Write 1 6 (reading (2 ∷ 0 ∷ 0 ∷ 0 ∷ 32 ∷ 0 ∷ 0 ∷ 0 ∷ []))
    ∷ Read 1 0
    ∷ Turn 0
    ∷ Look 1 0 1
    ∷ Relink 1 119 (Some 99) (Some 32)
    ∷ Turn 0
    ∷ Look 0 0 155
    ∷ Turn 1
    ∷ Turn 0
    ∷ Take 0
    ∷ Turn 0
    ∷ Turn 0
    ∷ Turn 1
    ∷ Write 0 9 (reading (2 ∷ 0 ∷ 0 ∷ 0 ∷ 36 ∷ 0 ∷ 0 ∷ 0 ∷ []))
    ∷ Turn 1
    ∷ Retire 0 9
    ∷ Turn 0
    ∷ Turn 0
    ∷ Turn 1
    ∷ Turn 1
    ∷ Turn 1
    ∷ Turn 0
    ∷ Take 0
    ∷ Turn 1
    ∷ Relink 1 1 (Some 4) (Some 6)
    ∷ Turn 0
    ∷ Turn 0
    ∷ Write 0 10 (reading (2 ∷ 0 ∷ 0 ∷ 0 ∷ 37 ∷ 0 ∷ 0 ∷ 0 ∷ []))
    ∷ Look 0 0 0
    ∷ Relink 1 49 (Some 9) None
    ∷ Retire 1 4
    ∷ Turn 0
    ∷ Turn 1
    ∷ Write 1 8 (reading (2 ∷ 0 ∷ 0 ∷ 0 ∷ 39 ∷ 0 ∷ 0 ∷ 0 ∷ []))
    ∷ Turn 0
    ∷ Turn 0
    ∷ Look 1 0 0
    ∷ Turn 1
    ∷ Turn 1
    ∷ Turn 0
    ∷ Turn 1
    ∷ Turn 0
    ∷ Turn 0
    ∷ Turn 0
    ∷ Turn 1
    ∷ Turn 1
    ∷ Turn 1
    ∷ Turn 0
    ∷ Relink 1 32 None None
    ∷ Turn 0
    ∷ Relink 1 0 None (Some 8)
    ∷ Look 1 1 0
    ∷ Relink 0 0 None (Some 10)
    ∷ Drop 0
    ∷ Turn 0
    ∷ Turn 0
    ∷ Turn 1
    ∷ Turn 1
    ∷ Turn 0
    ∷ Turn 1
    ∷ Turn 0
    ∷ Look 0 0 1
    ∷ Turn 0
    ∷ Turn 1
    ∷ Turn 1
    ∷ Turn 0
    ∷ Turn 0
    ∷ Turn 0
    ∷ Turn 0
    ∷ Turn 0
    ∷ Turn 0
    ∷ Read 0 0
    ∷ Drop 0
    ∷ Turn 1
    ∷ Turn 1
    ∷ Read 1 1
    ∷ Read 1 1
    ∷ Take 3
    ∷ Turn 0
    ∷ Read 1 1
    ∷ Turn 0
    ∷ Turn 0
    ∷ Turn 0
    ∷ Look 1 0 0
    ∷ Write 0 10 (reading (2 ∷ 0 ∷ 0 ∷ 0 ∷ 42 ∷ 0 ∷ 0 ∷ 0 ∷ []))
    ∷ Turn 1
    ∷ Turn 1
    ∷ Look 1 1 32
    ∷ Turn 1
    ∷ Turn 1
    ∷ Look 0 0 1
    ∷ Turn 0
    ∷ Read 1 0
    ∷ Relink 1 0 (Some 8) None
    ∷ Retire 1 8
    ∷ Turn 1
    ∷ Turn 0
    ∷ Turn 1
    ∷ Turn 1
    ∷ Turn 0
    ∷ Turn 1
    ∷ Drop 1
    ∷ Turn 1
    ∷ Turn 0
    ∷ Turn 0
    ∷ Turn 0
    ∷ Turn 1
    ∷ Turn 1
    ∷ Turn 0
    ∷ Turn 1
    ∷ Drop 1
    ∷ Relink 0 1 (Some 6) (Some 10)
    ∷ Look 0 0 133
    ∷ Turn 1
    ∷ Turn 1
    ∷ Retire 0 6
    ∷ Turn 0
    ∷ Turn 1
    ∷ Turn 0
    ∷ Turn 1
    ∷ Take 1
    ∷ Turn 1
    ∷ Turn 1
    ∷ Retire 0 51
    ∷ Write 1 0 (reading (2 ∷ 0 ∷ 0 ∷ 0 ∷ 45 ∷ 0 ∷ 0 ∷ 0 ∷ []))
    ∷ Turn 0
    ∷ Turn 0
    ∷ Turn 0
    ∷ Look 1 0 1
    ∷ Turn 0
    ∷ Turn 1
    ∷ Turn 1
    ∷ Turn 1
    ∷ Take 0
    ∷ Turn 0
    ∷ Turn 1
    ∷ Turn 1
    ∷ Turn 1
    ∷ Turn 1
    ∷ Turn 0
    ∷ Write 0 2 (reading (2 ∷ 0 ∷ 0 ∷ 0 ∷ 46 ∷ 0 ∷ 0 ∷ 0 ∷ []))
    ∷ Look 0 0 0
    ∷ Relink 1 16 None (Some 10)
    ∷ Relink 1 1 (Some 10) (Some 0)
    ∷ Turn 0
    ∷ Take 1
    ∷ Turn 0
    ∷ Turn 0
    ∷ Turn 1
    ∷ Turn 1
    ∷ Turn 0
    ∷ Turn 0
    ∷ Turn 0
    ∷ Turn 0
    ∷ Turn 0
    ∷ Write 0 8 (reading (2 ∷ 0 ∷ 0 ∷ 0 ∷ 47 ∷ 0 ∷ 0 ∷ 0 ∷ []))
    ∷ Relink 0 0 None (Some 2)
    ∷ Take 0
    ∷ Write 1 5 (reading (2 ∷ 0 ∷ 0 ∷ 0 ∷ 48 ∷ 0 ∷ 0 ∷ 0 ∷ []))
    ∷ Turn 0
    ∷ Turn 0
    ∷ Retire 1 5
    ∷ Write 0 9 (reading (2 ∷ 0 ∷ 0 ∷ 0 ∷ 49 ∷ 0 ∷ 0 ∷ 0 ∷ []))
    ∷ Look 0 0 0
    ∷ Turn 1
    ∷ Turn 1
    ∷ Turn 0
    ∷ Turn 0
    ∷ Turn 0
    ∷ Turn 0
    ∷ Turn 0
    ∷ Turn 0
    ∷ Turn 1
    ∷ Relink 0 34 None (Some 2)
    ∷ Turn 1
    ∷ Drop 0
    ∷ Relink 0 0 (Some 2) (Some 9)
    ∷ Look 0 0 0
    ∷ Turn 1
    ∷ Turn 0
    ∷ Turn 1
    ∷ Turn 1
    ∷ Turn 0
    ∷ Turn 0
    ∷ Take 1
    ∷ Turn 1
    ∷ Turn 0
    ∷ Turn 0
    ∷ Drop 0
    ∷ Turn 1
    ∷ Write 1 6 (reading (2 ∷ 0 ∷ 0 ∷ 0 ∷ 51 ∷ 0 ∷ 0 ∷ 0 ∷ []))
    ∷ Retire 1 6
    ∷ Turn 0
    ∷ Turn 0
    ∷ Turn 1
    ∷ Turn 0
    ∷ Turn 0
    ∷ Turn 1
    ∷ Turn 1
    ∷ Turn 1
    ∷ Write 0 9 (reading (2 ∷ 0 ∷ 0 ∷ 0 ∷ 52 ∷ 0 ∷ 0 ∷ 0 ∷ []))
    ∷ Turn 1
    ∷ Look 0 0 0
    ∷ Look 1 0 0
    ∷ Turn 1
    ∷ Turn 1
    ∷ Turn 0
    ∷ Turn 1
    ∷ Turn 1
    ∷ Turn 0
    ∷ Take 3
    ∷ Turn 1
    ∷ Turn 1
    ∷ Turn 0
    ∷ Turn 0
    ∷ Turn 0
    ∷ Turn 1
    ∷ Turn 0
    ∷ Turn 1
    ∷ Turn 0
    ∷ Read 1 1
    ∷ Relink 0 89 (Some 12) None
    ∷ Relink 0 0 (Some 2) (Some 9)
    ∷ Read 1 1
    ∷ Read 1 0
    ∷ Look 1 0 1
    ∷ Retire 0 2
    ∷ Turn 1
    ∷ Drop 0
    ∷ Turn 1
    ∷ Look 1 1 16
    ∷ Turn 0
    ∷ Turn 1
    ∷ Turn 0
    ∷ Turn 0
    ∷ Turn 0
    ∷ Look 0 0 1
    ∷ Turn 1
    ∷ Turn 1
    ∷ Turn 0
    ∷ Turn 1
    ∷ Turn 0
    ∷ Turn 1
    ∷ Turn 1
    ∷ Read 1 1
    ∷ Turn 0
    ∷ Drop 1
    ∷ Turn 1
    ∷ Turn 0
    ∷ Turn 0
    ∷ Read 1 0
    ∷ Turn 0
    ∷ Turn 0
    ∷ Look 0 1 16
    ∷ Relink 1 1 (Some 0) (Some 10)
    ∷ Turn 0
    ∷ Retire 1 0
    ∷ Turn 0
    ∷ Turn 1
    ∷ Turn 0
    ∷ Turn 0
    ∷ Turn 0
    ∷ Turn 0
    ∷ Read 0 0
    ∷ Take 1
    ∷ Turn 1
    ∷ Turn 1
    ∷ Relink 0 1 (Some 0) None
    ∷ Write 1 4 (reading (2 ∷ 0 ∷ 0 ∷ 0 ∷ 57 ∷ 0 ∷ 0 ∷ 0 ∷ []))
    ∷ Retire 0 0
    ∷ Look 1 0 1
    ∷ Relink 0 0 (Some 9) None
    ∷ Turn 1
    ∷ Turn 1
    ∷ Turn 1
    ∷ Retire 0 0
    ∷ Turn 1
    ∷ Look 0 0 1
    ∷ Turn 1
    ∷ Turn 1
    ∷ Relink 1 1 (Some 10) (Some 4)
    ∷ Retire 1 10
    ∷ Turn 1
    ∷ Turn 1
    ∷ Turn 0
    ∷ Turn 0
    ∷ Take 1
    ∷ Turn 1
    ∷ Turn 0
    ∷ Turn 1
    ∷ Turn 0
    ∷ Write 1 8 (reading (2 ∷ 0 ∷ 0 ∷ 0 ∷ 58 ∷ 0 ∷ 0 ∷ 0 ∷ []))
    ∷ Read 0 2
    ∷ Turn 0
    ∷ Look 1 0 1
    ∷ Turn 0
    ∷ Turn 2
    ∷ Turn 1
    ∷ Turn 0
    ∷ Turn 1
    ∷ Turn 0
    ∷ Turn 0
    ∷ Turn 0
    ∷ Look 0 0 0
    ∷ Turn 0
    ∷ Turn 0
    ∷ Look 0 0 0
    ∷ Turn 1
    ∷ Turn 0
    ∷ Turn 0
    ∷ Turn 1
    ∷ Turn 1
    ∷ Take 0
    ∷ Turn 0
    ∷ Turn 0
    ∷ Turn 1
    ∷ Write 0 5 (reading (2 ∷ 0 ∷ 0 ∷ 0 ∷ 61 ∷ 0 ∷ 0 ∷ 0 ∷ []))
    ∷ Look 0 0 0
    ∷ Turn 1
    ∷ Turn 0
    ∷ Turn 0
    ∷ Turn 0
    ∷ Turn 1
    ∷ Turn 1
    ∷ Turn 1
    ∷ Turn 0
    ∷ Relink 1 32 None (Some 4)
    ∷ Turn 0
    ∷ Relink 1 1 (Some 4) (Some 8)
    ∷ Turn 0
    ∷ Look 1 1 1
    ∷ Relink 0 26 None None
    ∷ Turn 1
    ∷ Relink 0 0 None (Some 5)
    ∷ Take 0
    ∷ Turn 1
    ∷ Turn 1
    ∷ Turn 0
    ∷ Turn 1
    ∷ Turn 0
    ∷ Write 0 6 (reading (2 ∷ 0 ∷ 0 ∷ 0 ∷ 62 ∷ 0 ∷ 0 ∷ 0 ∷ []))
    ∷ Turn 1
    ∷ Look 0 0 0
    ∷ Turn 0
    ∷ Turn 1
    ∷ Turn 1
    ∷ Turn 0
    ∷ Turn 1
    ∷ Turn 1
    ∷ Turn 0
    ∷ Turn 0
    ∷ Turn 1
    ∷ Read 1 0
    ∷ Turn 0
    ∷ Look 1 0 1
    ∷ Turn 1
    ∷ Turn 0
    ∷ Relink 0 0 (Some 5) (Some 6)
    ∷ Retire 0 5
    ∷ Turn 0
    ∷ Turn 1
    ∷ Look 0 0 1
    ∷ Turn 0
    ∷ Turn 0
    ∷ Look 0 1 33
    ∷ Drop 0
    ∷ Turn 1
    ∷ Turn 0
    ∷ Turn 1
    ∷ Turn 0
    ∷ Turn 0
    ∷ Turn 0
    ∷ Turn 1
    ∷ Turn 0
    ∷ Turn 0
    ∷ Read 0 1
    ∷ Relink 1 76 (Some 75) None
    ∷ Turn 1
    ∷ Look 1 1 32
    ∷ Turn 1
    ∷ Turn 1
    ∷ Take 0
    ∷ Turn 0
    ∷ Turn 0
    ∷ Write 0 1 (reading (2 ∷ 0 ∷ 0 ∷ 0 ∷ 65 ∷ 0 ∷ 0 ∷ 0 ∷ []))
    ∷ Look 0 0 1
    ∷ Turn 0
    ∷ Read 1 0
    ∷ Turn 0
    ∷ Relink 1 1 (Some 8) (Some 4)
    ∷ Turn 0
    ∷ Retire 1 8
    ∷ Turn 0
    ∷ Turn 0
    ∷ Turn 0
    ∷ Relink 0 18 None (Some 4)
    ∷ Turn 1
    ∷ Relink 0 1 (Some 4) (Some 1)
    ∷ Turn 1
    ∷ Look 0 0 1
    ∷ Turn 1
    ∷ Turn 0
    ∷ Turn 0
    ∷ Look 0 1 18
    ∷ Look 1 1 1
    ∷ Turn 1
    ∷ Turn 0
    ∷ Turn 1
    ∷ Drop 0
    ∷ Turn 0
    ∷ Turn 0
    ∷ Turn 0
    ∷ Turn 0
    ∷ Turn 0
    ∷ Read 0 0
    ∷ Relink 0 1 (Some 1) (Some 4)
    ∷ Retire 0 1
    ∷ Turn 1
    ∷ Turn 0
    ∷ Turn 0
    ∷ Write 0 42 (reading (2 ∷ 0 ∷ 0 ∷ 0 ∷ 67 ∷ 0 ∷ 0 ∷ 0 ∷ []))
    ∷ Turn 1
    ∷ Turn 1
    ∷ Look 1 2 1
    ∷ Turn 1
    ∷ Look 1 0 0
    ∷ Turn 1
    ∷ Take 0
    ∷ Turn 0
    ∷ Turn 0
    ∷ Write 0 7 (reading (2 ∷ 0 ∷ 0 ∷ 0 ∷ 69 ∷ 0 ∷ 0 ∷ 0 ∷ []))
    ∷ Turn 1
    ∷ Take 1
    ∷ Turn 1
    ∷ Look 0 2 128
    ∷ Retire 0 7
    ∷ Turn 1
    ∷ Turn 0
    ∷ Turn 0
    ∷ Turn 1
    ∷ Turn 0
    ∷ Drop 0
    ∷ Turn 0
    ∷ Turn 1
    ∷ Look 1 1 28
    ∷ Turn 1
    ∷ Turn 1
    ∷ Turn 1
    ∷ Turn 0
    ∷ Turn 0
    ∷ Turn 1
    ∷ Turn 0
    ∷ Turn 1
    ∷ Turn 1
    ∷ Turn 2
    ∷ Read 1 1
    ∷ Look 0 0 1
    ∷ Turn 0
    ∷ Take 1
    ∷ Turn 1
    ∷ Turn 0
    ∷ Turn 1
    ∷ Write 1 11 (reading (2 ∷ 0 ∷ 0 ∷ 0 ∷ 73 ∷ 0 ∷ 0 ∷ 0 ∷ []))
    ∷ Look 1 0 0
    ∷ Turn 0
    ∷ Turn 0
    ∷ Turn 1
    ∷ Turn 1
    ∷ Turn 1
    ∷ Turn 0
    ∷ Turn 0
    ∷ Turn 1
    ∷ Turn 1
    ∷ Turn 0
    ∷ Turn 1
    ∷ Look 0 1 25
    ∷ Turn 0
    ∷ Turn 0
    ∷ Relink 1 0 (Some 6) (Some 11)
    ∷ Turn 0
    ∷ Retire 1 6
    ∷ Turn 0
    ∷ Turn 1
    ∷ Turn 0
    ∷ Relink 0 200 None (Some 48)
    ∷ Turn 1
    ∷ Turn 1
    ∷ Turn 1
    ∷ Turn 0
    ∷ Look 1 0 0
    ∷ Turn 1
    ∷ Turn 1
    ∷ Turn 0
    ∷ Look 1 1 38
    ∷ Turn 1
    ∷ Turn 1
    ∷ Read 0 1
    ∷ Read 0 1
    ∷ Turn 1
    ∷ Take 0
    ∷ Turn 0
    ∷ Turn 1
    ∷ Turn 0
    ∷ Turn 1
    ∷ Turn 1
    ∷ Turn 1
    ∷ Write 0 12 (reading (2 ∷ 0 ∷ 0 ∷ 0 ∷ 77 ∷ 0 ∷ 0 ∷ 0 ∷ []))
    ∷ Turn 1
    ∷ Turn 1
    ∷ Retire 0 12
    ∷ Turn 1
    ∷ Read 1 1
    ∷ Look 1 1 0
    ∷ Turn 0
    ∷ Turn 0
    ∷ Turn 0
    ∷ Turn 0
    ∷ Turn 1
    ∷ Drop 0
    ∷ Turn 0
    ∷ Turn 0
    ∷ Turn 1
    ∷ Turn 0
    ∷ Read 1 0
    ∷ Retire 0 66
    ∷ Turn 0
    ∷ Write 0 57 (reading (2 ∷ 0 ∷ 0 ∷ 0 ∷ 79 ∷ 0 ∷ 0 ∷ 0 ∷ []))
    ∷ Take 0
    ∷ Turn 0
    ∷ Turn 0
    ∷ Write 0 13 (reading (2 ∷ 0 ∷ 0 ∷ 0 ∷ 80 ∷ 0 ∷ 0 ∷ 0 ∷ []))
    ∷ Look 1 0 1
    ∷ Look 0 0 0
    ∷ Turn 1
    ∷ Turn 0
    ∷ Turn 1
    ∷ Take 0
    ∷ Turn 1
    ∷ Turn 1
    ∷ Turn 0
    ∷ Turn 1
    ∷ Turn 1
    ∷ Look 1 1 25
    ∷ Turn 0
    ∷ Turn 1
    ∷ Turn 1
    ∷ Turn 0
    ∷ Turn 0
    ∷ Turn 0
    ∷ Turn 1
    ∷ Turn 0
    ∷ Turn 1
    ∷ Turn 1
    ∷ Relink 0 0 (Some 11) (Some 13)
    ∷ Turn 1
    ∷ Retire 0 11
    ∷ Turn 0
    ∷ Read 1 1
    ∷ Drop 1
    ∷ Turn 1
    ∷ Turn 0
    ∷ Turn 0
    ∷ Turn 0
    ∷ Turn 1
    ∷ Take 1
    ∷ Turn 0
    ∷ Turn 1
    ∷ Turn 1
    ∷ Look 1 0 0
    ∷ Turn 1
    ∷ Turn 1
    ∷ Turn 1
    ∷ Turn 0
    ∷ Retire 0 52
    ∷ Turn 1
    ∷ Turn 0
    ∷ Take 0
    ∷ Turn 1
    ∷ Turn 1
    ∷ Turn 0
    ∷ Turn 0
    ∷ Write 0 14 (reading (2 ∷ 0 ∷ 0 ∷ 0 ∷ 84 ∷ 0 ∷ 0 ∷ 0 ∷ []))
    ∷ Turn 1
    ∷ Turn 1
    ∷ Look 0 0 0
    ∷ Turn 1
    ∷ Turn 0
    ∷ Drop 0
    ∷ Turn 0
    ∷ Turn 1
    ∷ Turn 1
    ∷ Look 1 1 42
    ∷ Turn 1
    ∷ Turn 0
    ∷ Read 0 2
    ∷ Turn 1
    ∷ Turn 0
    ∷ Turn 0
    ∷ Turn 1
    ∷ Turn 0
    ∷ Turn 0
    ∷ Turn 1
    ∷ Turn 1
    ∷ Turn 0
    ∷ Relink 0 0 (Some 13) (Some 14)
    ∷ Retire 0 13
    ∷ Turn 0
    ∷ Look 0 0 1
    ∷ Turn 1
    ∷ Turn 0
    ∷ Turn 0
    ∷ Read 0 1
    ∷ Read 1 1
    ∷ Write 0 94 (reading (2 ∷ 0 ∷ 0 ∷ 0 ∷ 88 ∷ 0 ∷ 0 ∷ 0 ∷ []))
    ∷ Take 1
    ∷ Look 0 1 24
    ∷ Turn 0
    ∷ Turn 1
    ∷ Turn 0
    ∷ Read 0 2
    ∷ Turn 1
    ∷ Write 1 5 (reading (2 ∷ 0 ∷ 0 ∷ 0 ∷ 90 ∷ 0 ∷ 0 ∷ 0 ∷ []))
    ∷ Turn 0
    ∷ Retire 1 5
    ∷ Turn 1
    ∷ Turn 0
    ∷ Turn 1
    ∷ Turn 0
    ∷ Turn 1
    ∷ Turn 1
    ∷ Turn 0
    ∷ Turn 0
    ∷ Turn 1
    ∷ Turn 1
    ∷ Read 0 0
    ∷ Turn 1
    ∷ Relink 1 131 (Some 90) None
    ∷ Relink 0 1 (Some 4) None
    ∷ Retire 0 4
    ∷ Turn 0
    ∷ Turn 0
    ∷ Turn 1
    ∷ Drop 1
    ∷ Turn 1
    ∷ Take 0
    ∷ []

abbrev pub lines : List (Line Reading)
lines =
    prints 1 None 0
    ∷ prints 1 None 0
    ∷ prints 1 None 0
    ∷ prints 102 None 0
    ∷ prints 1 None 0
    ∷ prints 1 None 0
    ∷ prints 1 None 0
    ∷ prints 0 None 0
    ∷ prints 1 None 0
    ∷ prints 1 None 0
    ∷ prints 0 (Some (Block 0)) 0
    ∷ prints 0 None 0
    ∷ prints 1 None 0
    ∷ prints 0 (Some (Block 1)) 0
    ∷ prints 0 None 0
    ∷ prints 1 None 0
    ∷ prints 1 None 0
    ∷ prints 1 None 0
    ∷ prints 1 None 0
    ∷ prints 1 None 0
    ∷ prints 0 None 1
    ∷ prints 1 None 0
    ∷ prints 1 None 0
    ∷ prints 1 None 0
    ∷ prints 1 None 0
    ∷ prints 1 None 0
    ∷ prints 1 None 0
    ∷ prints 1 None 0
    ∷ prints 0 None 0
    ∷ prints 1 None 0
    ∷ prints 1 None 0
    ∷ prints 1 None 0
    ∷ prints 0 None 1
    ∷ prints 1 None 0
    ∷ prints 1 None 0
    ∷ prints 1 None 0
    ∷ prints 0 None 0
    ∷ prints 1 None 0
    ∷ prints 1 None 0
    ∷ prints 1 None 0
    ∷ prints 1 None 0
    ∷ prints 1 None 0
    ∷ prints 103 None 0
    ∷ prints 1 None 0
    ∷ prints 1 None 0
    ∷ prints 1 None 0
    ∷ prints 1 None 0
    ∷ prints 1 None 0
    ∷ prints 0 None 0
    ∷ prints 103 None 0
    ∷ prints 1 None 0
    ∷ prints 0 None 0
    ∷ prints 1 None 0
    ∷ prints 0 None 0
    ∷ prints 1 None 0
    ∷ prints 1 None 0
    ∷ prints 1 None 0
    ∷ prints 1 None 0
    ∷ prints 1 None 0
    ∷ prints 1 None 0
    ∷ prints 1 None 0
    ∷ prints 0 None 0
    ∷ prints 1 None 0
    ∷ prints 1 None 0
    ∷ prints 1 None 0
    ∷ prints 0 (Some (Block 1)) 0
    ∷ prints 0 None 0
    ∷ prints 1 None 0
    ∷ prints 1 None 0
    ∷ prints 1 None 0
    ∷ prints 1 None 0
    ∷ prints 1 None 0
    ∷ prints 1 None 0
    ∷ prints 1 None 0
    ∷ prints 0 None 0
    ∷ prints 105 None 0
    ∷ prints 1 None 0
    ∷ prints 105 None 0
    ∷ prints 102 None 0
    ∷ prints 1 None 0
    ∷ prints 1 None 0
    ∷ prints 0 (Some (Block 0)) 0
    ∷ prints 102 None 0
    ∷ prints 1 None 0
    ∷ prints 1 None 0
    ∷ prints 0 None 0
    ∷ prints 1 None 0
    ∷ prints 1 None 0
    ∷ prints 1 None 0
    ∷ prints 1 None 0
    ∷ prints 1 None 0
    ∷ prints 1 None 0
    ∷ prints 1 None 0
    ∷ prints 1 None 0
    ∷ prints 1 None 0
    ∷ prints 103 None 0
    ∷ prints 1 None 0
    ∷ prints 1 None 0
    ∷ prints 0 None 0
    ∷ prints 0 None 0
    ∷ prints 0 None 0
    ∷ prints 0 None 0
    ∷ prints 1 None 0
    ∷ prints 1 None 0
    ∷ prints 1 None 0
    ∷ prints 1 None 0
    ∷ prints 0 None 0
    ∷ prints 0 None 0
    ∷ prints 1 None 0
    ∷ prints 1 None 0
    ∷ prints 1 None 0
    ∷ prints 1 None 0
    ∷ prints 1 None 0
    ∷ prints 1 None 0
    ∷ prints 1 None 0
    ∷ prints 0 (Some (Block 2)) 0
    ∷ prints 1 None 0
    ∷ prints 0 None 0
    ∷ prints 1 None 0
    ∷ prints 0 (Some (Block 1)) 0
    ∷ prints 1 None 0
    ∷ prints 105 None 0
    ∷ prints 1 None 0
    ∷ prints 1 None 0
    ∷ prints 1 None 0
    ∷ prints 1 None 0
    ∷ prints 1 None 0
    ∷ prints 1 None 0
    ∷ prints 1 None 0
    ∷ prints 1 None 0
    ∷ prints 1 None 0
    ∷ prints 1 None 0
    ∷ prints 0 None 0
    ∷ prints 0 (Some (Record (reading (2 ∷ 0 ∷ 0 ∷ 0 ∷ 6 ∷ 0 ∷ 0 ∷ 0 ∷ [])))) 0
    ∷ prints 0 None 0
    ∷ prints 1 None 0
    ∷ prints 1 None 0
    ∷ prints 0 None 0
    ∷ prints 1 None 0
    ∷ prints 103 None 0
    ∷ prints 1 None 0
    ∷ prints 1 None 0
    ∷ prints 0 (Some (Block 3)) 0
    ∷ prints 1 None 0
    ∷ prints 1 None 0
    ∷ prints 1 None 0
    ∷ prints 1 None 0
    ∷ prints 1 None 0
    ∷ prints 1 None 0
    ∷ prints 1 None 0
    ∷ prints 1 None 0
    ∷ prints 103 None 0
    ∷ prints 0 None 0
    ∷ prints 0 None 0
    ∷ prints 0 (Some (Block 0)) 0
    ∷ prints 1 None 0
    ∷ prints 1 None 0
    ∷ prints 0 None 0
    ∷ prints 1 None 0
    ∷ prints 102 None 0
    ∷ prints 103 None 0
    ∷ prints 102 None 0
    ∷ prints 1 None 0
    ∷ prints 1 None 0
    ∷ prints 1 None 0
    ∷ prints 0 None 0
    ∷ prints 1 None 0
    ∷ prints 1 None 0
    ∷ prints 1 None 0
    ∷ prints 1 None 0
    ∷ prints 0 (Some (Block 2)) 0
    ∷ prints 1 None 0
    ∷ prints 1 None 0
    ∷ prints 1 None 0
    ∷ prints 1 None 0
    ∷ prints 1 None 0
    ∷ prints 0 None 0
    ∷ prints 0 None 0
    ∷ prints 0 None 0
    ∷ prints 1 None 0
    ∷ prints 1 None 0
    ∷ prints 1 None 0
    ∷ prints 1 None 0
    ∷ prints 1 None 0
    ∷ prints 1 None 0
    ∷ prints 0 None 0
    ∷ prints 0 (Some (Record (reading (2 ∷ 0 ∷ 0 ∷ 0 ∷ 11 ∷ 0 ∷ 0 ∷ 0 ∷ [])))) 0
    ∷ prints 104 None 0
    ∷ prints 0 None 0
    ∷ prints 1 None 0
    ∷ prints 0 (Some (Block 2)) 0
    ∷ prints 1 None 0
    ∷ prints 1 None 0
    ∷ prints 106 None 0
    ∷ prints 1 None 0
    ∷ prints 0 (Some (Record (reading (2 ∷ 0 ∷ 0 ∷ 0 ∷ 11 ∷ 0 ∷ 0 ∷ 0 ∷ [])))) 0
    ∷ prints 112 None 0
    ∷ prints 0 None 0
    ∷ prints 106 None 0
    ∷ prints 1 None 0
    ∷ prints 1 None 0
    ∷ prints 1 None 0
    ∷ prints 1 None 0
    ∷ prints 1 None 0
    ∷ prints 0 None 0
    ∷ prints 1 None 0
    ∷ prints 1 None 0
    ∷ prints 0 (Some (Block 4)) 0
    ∷ prints 1 None 0
    ∷ prints 0 (Some (Block 5)) 0
    ∷ prints 0 None 0
    ∷ prints 1 None 0
    ∷ prints 1 None 0
    ∷ prints 0 None 0
    ∷ prints 1 None 0
    ∷ prints 1 None 0
    ∷ prints 1 None 0
    ∷ prints 1 None 0
    ∷ prints 1 None 0
    ∷ prints 1 None 0
    ∷ prints 1 None 0
    ∷ prints 1 None 0
    ∷ prints 1 None 0
    ∷ prints 1 None 0
    ∷ prints 0 None 0
    ∷ prints 1 None 0
    ∷ prints 0 (Some (Block 3)) 0
    ∷ prints 0 None 0
    ∷ prints 1 None 0
    ∷ prints 1 None 0
    ∷ prints 0 None 0
    ∷ prints 1 None 0
    ∷ prints 0 None 0
    ∷ prints 102 None 0
    ∷ prints 1 None 0
    ∷ prints 1 None 0
    ∷ prints 1 None 0
    ∷ prints 103 None 0
    ∷ prints 103 None 0
    ∷ prints 0 (Some (Block 6)) 0
    ∷ prints 103 None 0
    ∷ prints 0 None 0
    ∷ prints 1 None 0
    ∷ prints 0 (Some (Block 7)) 0
    ∷ prints 0 None 0
    ∷ prints 1 None 0
    ∷ prints 1 None 0
    ∷ prints 1 None 0
    ∷ prints 103 None 0
    ∷ prints 1 None 0
    ∷ prints 1 None 0
    ∷ prints 103 None 0
    ∷ prints 1 None 0
    ∷ prints 0 (Some (Block 8)) 0
    ∷ prints 112 None 0
    ∷ prints 0 None 0
    ∷ prints 105 None 0
    ∷ prints 1 None 0
    ∷ prints 1 None 0
    ∷ prints 103 None 0
    ∷ prints 1 None 0
    ∷ prints 103 None 0
    ∷ prints 1 None 0
    ∷ prints 0 None 0
    ∷ prints 1 None 0
    ∷ prints 1 None 0
    ∷ prints 0 (Some (Block 9)) 0
    ∷ prints 1 None 0
    ∷ prints 0 None 0
    ∷ prints 1 None 0
    ∷ prints 1 None 0
    ∷ prints 1 None 0
    ∷ prints 1 None 0
    ∷ prints 1 None 0
    ∷ prints 1 None 0
    ∷ prints 1 None 0
    ∷ prints 0 None 0
    ∷ prints 1 None 0
    ∷ prints 0 (Some (Block 4)) 0
    ∷ prints 0 None 0
    ∷ prints 1 None 0
    ∷ prints 0 (Some (Block 10)) 0
    ∷ prints 0 None 0
    ∷ prints 1 None 0
    ∷ prints 105 None 0
    ∷ prints 1 None 0
    ∷ prints 1 None 0
    ∷ prints 0 None 0
    ∷ prints 0 None 0
    ∷ prints 1 None 0
    ∷ prints 1 None 0
    ∷ prints 1 None 0
    ∷ prints 1 None 0
    ∷ prints 1 None 0
    ∷ prints 1 None 2
    ∷ prints 1 None 0
    ∷ prints 1 None 3
    ∷ prints 1 None 0
    ∷ prints 1 None 0
    ∷ prints 1 None 0
    ∷ prints 1 None 0
    ∷ prints 0 None 0
    ∷ prints 1 None 0
    ∷ prints 0 None 0
    ∷ prints 0 None 0
    ∷ prints 0 None 0
    ∷ prints 1 None 0
    ∷ prints 112 None 0
    ∷ prints 1 None 0
    ∷ prints 1 None 0
    ∷ prints 1 None 0
    ∷ prints 1 None 0
    ∷ prints 1 None 0
    ∷ prints 1 None 0
    ∷ prints 1 None 0
    ∷ prints 0 None 0
    ∷ prints 1 None 0
    ∷ prints 1 None 0
    ∷ prints 1 None 0
    ∷ prints 1 None 0
    ∷ prints 1 None 0
    ∷ prints 1 None 0
    ∷ prints 1 None 0
    ∷ prints 1 None 0
    ∷ prints 1 None 0
    ∷ prints 0 (Some (Block 6)) 0
    ∷ prints 0 (Some (Record (reading (2 ∷ 0 ∷ 0 ∷ 0 ∷ 32 ∷ 0 ∷ 0 ∷ 0 ∷ [])))) 0
    ∷ prints 1 None 0
    ∷ prints 1 None 0
    ∷ prints 0 (Some (Block 8)) 0
    ∷ prints 0 (Some (Record (reading (2 ∷ 0 ∷ 0 ∷ 0 ∷ 39 ∷ 0 ∷ 0 ∷ 0 ∷ [])))) 0
    ∷ prints 0 (Some (Record (reading (2 ∷ 0 ∷ 0 ∷ 0 ∷ 39 ∷ 0 ∷ 0 ∷ 0 ∷ [])))) 0
    ∷ prints 102 None 0
    ∷ prints 1 None 0
    ∷ prints 0 (Some (Record (reading (2 ∷ 0 ∷ 0 ∷ 0 ∷ 39 ∷ 0 ∷ 0 ∷ 0 ∷ [])))) 0
    ∷ prints 1 None 0
    ∷ prints 1 None 0
    ∷ prints 0 None 0
    ∷ prints 1 None 0
    ∷ prints 0 None 0
    ∷ prints 1 None 0
    ∷ prints 0 (Some (Block 8)) 0
    ∷ prints 1 None 0
    ∷ prints 1 None 0
    ∷ prints 0 None 0
    ∷ prints 1 None 0
    ∷ prints 1 None 0
    ∷ prints 0 (Some (Record (reading (2 ∷ 0 ∷ 0 ∷ 0 ∷ 39 ∷ 0 ∷ 0 ∷ 0 ∷ [])))) 0
    ∷ prints 0 None 0
    ∷ prints 1 None 0
    ∷ prints 1 None 0
    ∷ prints 1 None 0
    ∷ prints 1 None 0
    ∷ prints 1 None 0
    ∷ prints 1 None 0
    ∷ prints 0 None 0
    ∷ prints 1 None 0
    ∷ prints 1 None 0
    ∷ prints 1 None 0
    ∷ prints 1 None 0
    ∷ prints 1 None 0
    ∷ prints 1 None 0
    ∷ prints 1 None 0
    ∷ prints 0 (Some (Block 6)) 0
    ∷ prints 0 None 0
    ∷ prints 1 None 0
    ∷ prints 0 None 0
    ∷ prints 105 None 0
    ∷ prints 1 None 0
    ∷ prints 1 None 0
    ∷ prints 1 None 0
    ∷ prints 1 None 0
    ∷ prints 1 None 0
    ∷ prints 1 None 0
    ∷ prints 0 None 0
    ∷ prints 1 None 0
    ∷ prints 1 None 0
    ∷ prints 0 (Some (Block 0)) 0
    ∷ prints 103 None 0
    ∷ prints 0 None 0
    ∷ prints 1 None 0
    ∷ prints 1 None 0
    ∷ prints 1 None 0
    ∷ prints 1 None 0
    ∷ prints 0 None 0
    ∷ prints 1 None 0
    ∷ prints 1 None 0
    ∷ prints 1 None 0
    ∷ prints 1 None 0
    ∷ prints 1 None 0
    ∷ prints 1 None 0
    ∷ prints 1 None 0
    ∷ prints 1 None 0
    ∷ prints 0 (Some (Block 10)) 0
    ∷ prints 0 (Some (Block 2)) 0
    ∷ prints 0 None 0
    ∷ prints 1 None 0
    ∷ prints 0 None 0
    ∷ prints 0 None 0
    ∷ prints 1 None 0
    ∷ prints 1 None 0
    ∷ prints 1 None 0
    ∷ prints 1 None 0
    ∷ prints 1 None 0
    ∷ prints 0 (Some (Block 5)) 0
    ∷ prints 1 None 2
    ∷ prints 1 None 0
    ∷ prints 1 None 0
    ∷ prints 1 None 0
    ∷ prints 0 None 0
    ∷ prints 105 None 0
    ∷ prints 0 None 0
    ∷ prints 1 None 0
    ∷ prints 0 None 0
    ∷ prints 1 None 0
    ∷ prints 0 (Some (Block 9)) 0
    ∷ prints 1 None 0
    ∷ prints 0 None 0
    ∷ prints 1 None 0
    ∷ prints 1 None 0
    ∷ prints 1 None 0
    ∷ prints 1 None 0
    ∷ prints 1 None 0
    ∷ prints 1 None 0
    ∷ prints 1 None 0
    ∷ prints 1 None 0
    ∷ prints 0 (Some (Block 2)) 0
    ∷ prints 1 None 0
    ∷ prints 0 None 0
    ∷ prints 1 None 0
    ∷ prints 1 None 0
    ∷ prints 103 None 0
    ∷ prints 103 None 0
    ∷ prints 1 None 0
    ∷ prints 1 None 0
    ∷ prints 1 None 0
    ∷ prints 0 None 0
    ∷ prints 1 None 0
    ∷ prints 1 None 0
    ∷ prints 1 None 0
    ∷ prints 1 None 0
    ∷ prints 1 None 0
    ∷ prints 0 None 0
    ∷ prints 1 None 0
    ∷ prints 0 (Some (Block 6)) 0
    ∷ prints 0 None 0
    ∷ prints 1 None 0
    ∷ prints 1 None 0
    ∷ prints 1 None 0
    ∷ prints 1 None 0
    ∷ prints 1 None 0
    ∷ prints 0 None 0
    ∷ prints 1 None 0
    ∷ prints 1 None 0
    ∷ prints 1 None 0
    ∷ prints 0 None 0
    ∷ prints 0 None 1
    ∷ prints 1 None 0
    ∷ prints 1 None 0
    ∷ prints 1 None 0
    ∷ prints 1 None 0
    ∷ prints 1 None 0
    ∷ prints 1 None 0
    ∷ prints 1 None 3
    ∷ prints 1 None 0
    ∷ prints 102 None 0
    ∷ prints 1 None 0
    ∷ prints 1 None 0
    ∷ prints 1 None 0
    ∷ prints 1 None 0
    ∷ prints 1 None 0
    ∷ prints 1 None 0
    ∷ prints 1 None 0
    ∷ prints 0 (Some (Block 2)) 0
    ∷ prints 0 (Some (Block 2)) 0
    ∷ prints 105 None 0
    ∷ prints 105 None 0
    ∷ prints 0 None 0
    ∷ prints 105 None 0
    ∷ prints 0 (Some (Record (reading (2 ∷ 0 ∷ 0 ∷ 0 ∷ 46 ∷ 0 ∷ 0 ∷ 0 ∷ [])))) 0
    ∷ prints 1 None 0
    ∷ prints 107 None 0
    ∷ prints 1 None 0
    ∷ prints 1 None 0
    ∷ prints 0 (Some (Block 0)) 0
    ∷ prints 1 None 0
    ∷ prints 1 None 0
    ∷ prints 1 None 0
    ∷ prints 1 None 0
    ∷ prints 1 None 0
    ∷ prints 0 None 0
    ∷ prints 1 None 0
    ∷ prints 1 None 0
    ∷ prints 1 None 0
    ∷ prints 1 None 0
    ∷ prints 1 None 0
    ∷ prints 1 None 0
    ∷ prints 1 None 0
    ∷ prints 1 None 0
    ∷ prints 103 None 0
    ∷ prints 1 None 0
    ∷ prints 103 None 0
    ∷ prints 0 (Some (Block 10)) 0
    ∷ prints 1 None 0
    ∷ prints 1 None 0
    ∷ prints 0 (Some (Record (reading (2 ∷ 0 ∷ 0 ∷ 0 ∷ 45 ∷ 0 ∷ 0 ∷ 0 ∷ [])))) 0
    ∷ prints 1 None 0
    ∷ prints 0 (Some (Block 0)) 0
    ∷ prints 1 None 0
    ∷ prints 0 None 0
    ∷ prints 1 None 0
    ∷ prints 1 None 0
    ∷ prints 1 None 0
    ∷ prints 0 None 0
    ∷ prints 1 None 0
    ∷ prints 1 None 0
    ∷ prints 1 None 0
    ∷ prints 106 None 0
    ∷ prints 0 (Some (Record (reading (2 ∷ 0 ∷ 0 ∷ 0 ∷ 45 ∷ 0 ∷ 0 ∷ 0 ∷ [])))) 0
    ∷ prints 1 None 0
    ∷ prints 1 None 0
    ∷ prints 0 (Some (Block 4)) 0
    ∷ prints 112 None 0
    ∷ prints 0 None 0
    ∷ prints 106 None 0
    ∷ prints 1 None 0
    ∷ prints 0 None 0
    ∷ prints 1 None 0
    ∷ prints 1 None 0
    ∷ prints 1 None 0
    ∷ prints 106 None 0
    ∷ prints 1 None 0
    ∷ prints 1 None 0
    ∷ prints 1 None 0
    ∷ prints 0 (Some (Block 10)) 0
    ∷ prints 0 None 0
    ∷ prints 1 None 0
    ∷ prints 1 None 0
    ∷ prints 0 None 0
    ∷ prints 1 None 0
    ∷ prints 1 None 0
    ∷ prints 1 None 0
    ∷ prints 1 None 0
    ∷ prints 1 None 0
    ∷ prints 0 (Some (Block 8)) 0
    ∷ prints 1 None 0
    ∷ prints 0 None 0
    ∷ prints 102 None 0
    ∷ prints 1 None 0
    ∷ prints 1 None 0
    ∷ prints 1 None 0
    ∷ prints 102 None 0
    ∷ prints 1 None 0
    ∷ prints 1 None 0
    ∷ prints 1 None 0
    ∷ prints 1 None 0
    ∷ prints 1 None 0
    ∷ prints 0 (Some (Block 4)) 0
    ∷ prints 1 None 0
    ∷ prints 1 None 0
    ∷ prints 0 None 0
    ∷ prints 1 None 0
    ∷ prints 1 None 0
    ∷ prints 1 None 0
    ∷ prints 0 None 0
    ∷ prints 1 None 0
    ∷ prints 1 None 0
    ∷ prints 1 None 0
    ∷ prints 1 None 0
    ∷ prints 0 (Some (Block 5)) 0
    ∷ prints 1 None 0
    ∷ prints 0 None 0
    ∷ prints 1 None 0
    ∷ prints 1 None 0
    ∷ prints 1 None 0
    ∷ prints 1 None 0
    ∷ prints 1 None 0
    ∷ prints 1 None 0
    ∷ prints 1 None 0
    ∷ prints 0 (Some (Block 4)) 0
    ∷ prints 1 None 0
    ∷ prints 0 None 0
    ∷ prints 1 None 0
    ∷ prints 0 None 0
    ∷ prints 0 None 0
    ∷ prints 1 None 0
    ∷ prints 0 None 0
    ∷ prints 1 None 0
    ∷ prints 0 None 0
    ∷ prints 1 None 0
    ∷ prints 1 None 0
    ∷ prints 1 None 0
    ∷ prints 1 None 0
    ∷ prints 1 None 0
    ∷ prints 0 (Some (Block 6)) 0
    ∷ prints 0 None 0
    ∷ prints 1 None 0
    ∷ prints 1 None 0
    ∷ prints 1 None 0
    ∷ prints 1 None 0
    ∷ prints 1 None 0
    ∷ prints 1 None 0
    ∷ prints 1 None 0
    ∷ prints 1 None 0
    ∷ prints 1 None 0
    ∷ prints 1 None 0
    ∷ prints 0 (Some (Block 8)) 0
    ∷ prints 0 (Some (Record (reading (2 ∷ 0 ∷ 0 ∷ 0 ∷ 57 ∷ 0 ∷ 0 ∷ 0 ∷ [])))) 0
    ∷ prints 1 None 0
    ∷ prints 1 None 0
    ∷ prints 1 None 0
    ∷ prints 0 (Some (Block 5)) 0
    ∷ prints 0 None 0
    ∷ prints 1 None 0
    ∷ prints 0 None 0
    ∷ prints 1 None 0
    ∷ prints 1 None 0
    ∷ prints 1 None 0
    ∷ prints 0 (Some (Block 8)) 0
    ∷ prints 1 None 0
    ∷ prints 103 None 0
    ∷ prints 1 None 0
    ∷ prints 1 None 0
    ∷ prints 1 None 0
    ∷ prints 1 None 0
    ∷ prints 1 None 0
    ∷ prints 1 None 0
    ∷ prints 1 None 0
    ∷ prints 1 None 0
    ∷ prints 0 None 0
    ∷ prints 105 None 0
    ∷ prints 103 None 0
    ∷ prints 0 (Some (Block 8)) 0
    ∷ prints 1 None 0
    ∷ prints 1 None 0
    ∷ prints 0 (Some (Block 4)) 0
    ∷ prints 1 None 0
    ∷ prints 1 None 0
    ∷ prints 0 (Some (Block 1)) 0
    ∷ prints 0 None 0
    ∷ prints 1 None 0
    ∷ prints 1 None 0
    ∷ prints 0 (Some (Record (reading (2 ∷ 0 ∷ 0 ∷ 0 ∷ 58 ∷ 0 ∷ 0 ∷ 0 ∷ [])))) 0
    ∷ prints 1 None 0
    ∷ prints 0 None 0
    ∷ prints 1 None 0
    ∷ prints 1 None 0
    ∷ prints 1 None 0
    ∷ prints 1 None 0
    ∷ prints 0 (Some (Block 4)) 0
    ∷ prints 0 None 0
    ∷ prints 1 None 0
    ∷ prints 0 None 0
    ∷ prints 1 None 0
    ∷ prints 1 None 0
    ∷ prints 0 None 0
    ∷ prints 1 None 0
    ∷ prints 0 (Some (Block 1)) 0
    ∷ prints 1 None 0
    ∷ prints 1 None 0
    ∷ prints 1 None 0
    ∷ prints 1 None 0
    ∷ prints 1 None 0
    ∷ prints 103 None 0
    ∷ prints 1 None 0
    ∷ prints 1 None 0
    ∷ prints 1 None 0
    ∷ prints 1 None 0
    ∷ prints 0 (Some (Block 4)) 0
    ∷ prints 0 (Some (Record (reading (2 ∷ 0 ∷ 0 ∷ 0 ∷ 65 ∷ 0 ∷ 0 ∷ 0 ∷ [])))) 0
    ∷ prints 0 None 0
    ∷ prints 1 None 0
    ∷ prints 1 None 0
    ∷ prints 1 None 0
    ∷ prints 0 None 0
    ∷ prints 105 None 0
    ∷ prints 1 None 0
    ∷ prints 1 None 0
    ∷ prints 102 None 0
    ∷ prints 0 (Some (Block 4)) 0
    ∷ prints 1 None 0
    ∷ prints 1 None 0
    ∷ prints 1 None 0
    ∷ prints 1 None 0
    ∷ prints 0 (Some (Block 7)) 0
    ∷ prints 0 None 0
    ∷ prints 1 None 0
    ∷ prints 103 None 0
    ∷ prints 1 None 0
    ∷ prints 102 None 0
    ∷ prints 1 None 0
    ∷ prints 1 None 0
    ∷ prints 1 None 0
    ∷ prints 1 None 0
    ∷ prints 1 None 0
    ∷ prints 0 None 0
    ∷ prints 1 None 0
    ∷ prints 1 None 0
    ∷ prints 0 (Some (Block 6)) 0
    ∷ prints 1 None 0
    ∷ prints 1 None 0
    ∷ prints 1 None 0
    ∷ prints 1 None 0
    ∷ prints 1 None 0
    ∷ prints 1 None 0
    ∷ prints 1 None 0
    ∷ prints 0 None 0
    ∷ prints 1 None 0
    ∷ prints 0 None 0
    ∷ prints 102 None 0
    ∷ prints 105 None 0
    ∷ prints 1 None 0
    ∷ prints 1 None 0
    ∷ prints 1 None 0
    ∷ prints 1 None 0
    ∷ prints 1 None 0
    ∷ prints 0 (Some (Block 11)) 0
    ∷ prints 0 None 0
    ∷ prints 1 None 0
    ∷ prints 1 None 0
    ∷ prints 1 None 0
    ∷ prints 1 None 0
    ∷ prints 1 None 0
    ∷ prints 1 None 0
    ∷ prints 1 None 0
    ∷ prints 1 None 0
    ∷ prints 1 None 0
    ∷ prints 1 None 0
    ∷ prints 0 (Some (Block 4)) 0
    ∷ prints 0 (Some (Block 6)) 0
    ∷ prints 1 None 0
    ∷ prints 1 None 0
    ∷ prints 1 None 0
    ∷ prints 0 None 0
    ∷ prints 1 None 0
    ∷ prints 1 None 0
    ∷ prints 1 None 0
    ∷ prints 1 None 0
    ∷ prints 1 None 0
    ∷ prints 103 None 0
    ∷ prints 1 None 0
    ∷ prints 1 None 0
    ∷ prints 0 None 0
    ∷ prints 1 None 0
    ∷ prints 1 None 0
    ∷ prints 1 None 0
    ∷ prints 0 (Some (Block 11)) 0
    ∷ prints 0 None 0
    ∷ prints 1 None 0
    ∷ prints 1 None 0
    ∷ prints 1 None 0
    ∷ prints 105 None 0
    ∷ prints 105 None 0
    ∷ prints 1 None 0
    ∷ prints 1 None 0
    ∷ prints 1 None 0
    ∷ prints 1 None 0
    ∷ prints 0 (Some (Block 12)) 0
    ∷ prints 1 None 0
    ∷ prints 1 None 0
    ∷ prints 1 None 0
    ∷ prints 0 None 0
    ∷ prints 1 None 0
    ∷ prints 1 None 0
    ∷ prints 1 None 0
    ∷ prints 0 None 0
    ∷ prints 105 None 0
    ∷ prints 1 None 0
    ∷ prints 1 None 0
    ∷ prints 1 None 0
    ∷ prints 1 None 0
    ∷ prints 0 None 0
    ∷ prints 1 None 0
    ∷ prints 1 None 0
    ∷ prints 1 None 0
    ∷ prints 1 None 0
    ∷ prints 0 (Some (Block 11)) 0
    ∷ prints 1 None 0
    ∷ prints 0 (Some (Record (reading (2 ∷ 0 ∷ 0 ∷ 0 ∷ 73 ∷ 0 ∷ 0 ∷ 0 ∷ [])))) 0
    ∷ prints 103 None 0
    ∷ prints 0 None 0
    ∷ prints 105 None 0
    ∷ prints 1 None 0
    ∷ prints 1 None 0
    ∷ prints 0 (Some (Block 13)) 0
    ∷ prints 0 None 0
    ∷ prints 1 None 0
    ∷ prints 1 None 0
    ∷ prints 1 None 0
    ∷ prints 1 None 0
    ∷ prints 1 None 0
    ∷ prints 103 None 0
    ∷ prints 1 None 0
    ∷ prints 1 None 0
    ∷ prints 1 None 0
    ∷ prints 1 None 0
    ∷ prints 0 (Some (Block 4)) 0
    ∷ prints 1 None 0
    ∷ prints 1 None 0
    ∷ prints 1 None 0
    ∷ prints 1 None 0
    ∷ prints 1 None 0
    ∷ prints 1 None 0
    ∷ prints 1 None 0
    ∷ prints 1 None 0
    ∷ prints 0 (Some (Block 11)) 0
    ∷ prints 1 None 0
    ∷ prints 1 None 0
    ∷ prints 0 None 0
    ∷ prints 0 None 0
    ∷ prints 1 None 0
    ∷ prints 1 None 0
    ∷ prints 105 None 0
    ∷ prints 1 None 0
    ∷ prints 1 None 0
    ∷ prints 1 None 0
    ∷ prints 1 None 0
    ∷ prints 1 None 0
    ∷ prints 1 None 0
    ∷ prints 103 None 0
    ∷ prints 1 None 0
    ∷ prints 1 None 0
    ∷ prints 0 None 0
    ∷ prints 1 None 0
    ∷ prints 1 None 0
    ∷ prints 1 None 0
    ∷ prints 1 None 0
    ∷ prints 1 None 0
    ∷ prints 103 None 0
    ∷ prints 1 None 0
    ∷ prints 0 None 0
    ∷ prints 1 None 0
    ∷ prints 1 None 0
    ∷ prints 1 None 0
    ∷ prints 1 None 0
    ∷ prints 0 (Some (Block 14)) 0
    ∷ prints 0 None 0
    ∷ prints 1 None 0
    ∷ prints 1 None 0
    ∷ prints 1 None 0
    ∷ prints 1 None 0
    ∷ prints 1 None 0
    ∷ prints 103 None 0
    ∷ prints 1 None 0
    ∷ prints 1 None 0
    ∷ prints 0 (Some (Block 13)) 0
    ∷ prints 1 None 0
    ∷ prints 1 None 0
    ∷ prints 1 None 0
    ∷ prints 102 None 0
    ∷ prints 1 None 0
    ∷ prints 1 None 5
    ∷ prints 1 None 0
    ∷ prints 1 None 0
    ∷ prints 1 None 0
    ∷ prints 1 None 0
    ∷ prints 1 None 0
    ∷ prints 1 None 0
    ∷ prints 0 (Some (Block 13)) 0
    ∷ prints 0 None 0
    ∷ prints 1 None 0
    ∷ prints 0 None 0
    ∷ prints 1 None 0
    ∷ prints 106 None 0
    ∷ prints 1 None 0
    ∷ prints 0 (Some (Block 4)) 0
    ∷ prints 105 None 0
    ∷ prints 105 None 0
    ∷ prints 105 None 0
    ∷ prints 1 None 0
    ∷ prints 1 None 0
    ∷ prints 1 None 0
    ∷ prints 1 None 0
    ∷ prints 1 None 0
    ∷ prints 102 None 0
    ∷ prints 0 (Some (Block 5)) 0
    ∷ prints 0 None 0
    ∷ prints 1 None 0
    ∷ prints 1 None 0
    ∷ prints 1 None 0
    ∷ prints 1 None 0
    ∷ prints 1 None 0
    ∷ prints 1 None 0
    ∷ prints 1 None 0
    ∷ prints 1 None 0
    ∷ prints 1 None 0
    ∷ prints 0 None 0
    ∷ prints 1 None 0
    ∷ prints 1 None 0
    ∷ prints 0 (Some (Record (reading (2 ∷ 0 ∷ 0 ∷ 0 ∷ 57 ∷ 0 ∷ 0 ∷ 0 ∷ [])))) 0
    ∷ prints 1 None 0
    ∷ prints 103 None 0
    ∷ prints 0 None 0
    ∷ prints 1 None 0
    ∷ prints 1 None 0
    ∷ prints 0 None 0
    ∷ prints 0 None 0
    ∷ prints 1 None 0
    ∷ prints 1 None 0
    ∷ prints 1 None 0
    ∷ []

abbrev pub scenario : Scenario
scenario = record { puts = stack; form = form; calls = calls; lines = lines }

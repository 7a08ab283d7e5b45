-- The worked examples: one table of calls and the lines that they print, and what the keeper is then.
use Rattle.std.specs.Prelude.{◌≡◌, ℕ, true, false, List, [], ◌∷◌, ◌++◌, map, replicate, Some, None, Ok, Err, Result}
use Rattle.std.specs.List.{range_with_len}
use Rattle.figures.specs.declared.limits.Form.{Form}
use Rattle.records.specs.declared.readings.Reading.{Reading}
use Rattle.records.specs.declared.readings.Reading.TheVariants.{Missing}
use Rattle.machine.specs.declared.calls.Call.{Call}
use Rattle.machine.specs.declared.calls.Call.TheVariants.{Take, Look, Drop, Retire, Relink, Turn}
use Rattle.machine.specs.declared.calls.Value.TheVariants.{Block}
use Rattle.machine.specs.State.{fresh, block}
use Rattle.machine.specs.declared.refusals.KeeperFault.{KeeperFault}
use Rattle.machine.specs.declared.refusals.Refusal.TheVariants.{Misfit}
use Rattle.machine.specs.declared.states.Core.{Core}
use Rattle.machine.specs.Machine.{make}
use Rattle.machine.specs.Runs.{start, Beside, Line, line, on_stack, in_row, ends_beside, replies_beside}

-- one worker with one hold, every period 1, two blocks that may both be live, and a starting era
abbrev pub small : ℕ → Form
small era = record { workers = 1; holds = 1; blocks = 2; live = 2; taking_period = 1; trying_period = 1; starting_era = era }

-- a keeper of readings as it is made, beside a pool that hands out 0, 1, 2 and so on
abbrev pub made : Form → Beside Reading
made form = record { state = start form (replicate form.blocks true) (replicate form.blocks Missing); order = range_with_len 0 form.blocks }

-- a take with its two turns
abbrev pub taking : List (Call Reading)
taking = Take 0 ∷ replicate 2 (Turn 0)

-- block 0 becomes what anchor 0 holds, and is looked at there
abbrev pub looking : List (Call Reading)
looking = Relink 0 0 None (Some 0) ∷ Look 0 0 0 ∷ replicate 7 (Turn 0)

-- it is cut out and retired, and its batch is tried
abbrev pub cutting : List (Call Reading)
cutting = Relink 0 0 (Some 0) None ∷ Retire 0 0 ∷ Turn 0 ∷ []

-- block 1 is taken and retired, and the batch is tried again
abbrev pub hanging : List (Call Reading)
hanging = taking ++ (Retire 0 1 ∷ replicate 3 (Turn 0))

-- the hold is dropped
abbrev pub dropping : List (Call Reading)
dropping = Drop 0 ∷ replicate 3 (Turn 0)

-- a line with no value and nothing given back
abbrev pub plain : ℕ → Line Reading
plain status = record { status = status; value = None; given = 0 }

-- the call or task is finished
abbrev pub done : Line Reading
done = plain 0

-- a task goes on
abbrev pub on : Line Reading
on = plain 1

-- a task ends with a block as its value
abbrev pub with_value : ℕ → Line Reading
with_value b = record { status = 0; value = Some (Block b); given = 0 }

-- a call gives blocks back
abbrev pub with_given : ℕ → ℕ → Line Reading
with_given status n = record { status = status; value = None; given = n }

-- an example: over a pool, from a making and after some calls, calls and the lines that they print
pub record Example : Type 0 where
  pub puts : List ℕ → ℕ → List ℕ
  pub form : Form
  pub before : List (Call Reading)
  pub calls : List (Call Reading)
  pub lines : List (Line Reading)

-- over a pool that puts numbers back so, with the small form and a starting era
abbrev pub example : (List ℕ → ℕ → List ℕ) → ℕ → List (Call Reading) → List (Call Reading) → List (Line Reading) → Example
example puts era before calls lines = record { puts = puts; form = small era; before = before; calls = calls; lines = lines }

-- over a stack, with a form of its own
abbrev pub example_of : Form → List (Call Reading) → List (Call Reading) → List (Line Reading) → Example
example_of form before calls lines = record { puts = on_stack; form = form; before = before; calls = calls; lines = lines }

-- worker w takes a block
abbrev pub taking_by : ℕ → List (Call Reading)
taking_by w = Take w ∷ replicate 2 (Turn w)

-- worker w looks at anchor 0, with a list that is off
abbrev pub looking_by : ℕ → List (Call Reading)
looking_by w = Look w 0 0 ∷ replicate 7 (Turn w)

-- as small, but a batch is tried only at every second retiring
abbrev pub paired : Form
paired = record { workers = 1; holds = 1; blocks = 3; live = 3; taking_period = 1; trying_period = 2; starting_era = 1 }

-- three workers, whose batches are tried at every third retiring
abbrev pub trio : Form
trio = record { workers = 3; holds = 1; blocks = 4; live = 4; taking_period = 1; trying_period = 3; starting_era = 1 }

-- two workers, whose batches are tried at every second retiring
abbrev pub duo : Form
duo = record { workers = 2; holds = 1; blocks = 4; live = 4; taking_period = 1; trying_period = 2; starting_era = 1 }

-- worker 2 has three blocks, and the other two have reservations
abbrev pub ready : List (Call Reading)
ready = taking_by 2 ++ (taking_by 2 ++ (taking_by 2 ++ (looking_by 0 ++ looking_by 1)))

-- what an example's calls print
abbrev pub printed : Example → List (Line Reading)
printed e = map line (replies_beside e.puts (ends_beside e.puts (made e.form) e.before) e.calls)

-- the table
abbrev pub examples : List Example
examples =
    -- a take ends at its second turn with block 0; a turn without a task is refused
    example on_stack 1 [] (taking ++ (Turn 0 ∷ [])) (on ∷ on ∷ with_value 0 ∷ plain 104 ∷ [])
    -- then it is linked, and a look at it ends at its seventh turn, showing 0
    ∷ example on_stack 1 taking looking (done ∷ on ∷ on ∷ on ∷ on ∷ on ∷ on ∷ on ∷ with_value 0 ∷ [])
    -- then it is cut out and retired; the try ends at its first turn, and the batch stays
    ∷ example on_stack 1 (taking ++ looking) cutting (done ∷ on ∷ done ∷ [])
    -- then a take ends with block 1; it is retired, and three turns give nothing back
    ∷ example on_stack 1 (taking ++ (looking ++ cutting)) hanging (on ∷ on ∷ with_value 1 ∷ on ∷ on ∷ on ∷ done ∷ [])
    -- then a drop's three turns give back 0, 2 and 0 blocks
    ∷ example on_stack 1 (taking ++ (looking ++ (cutting ++ hanging))) dropping (on ∷ on ∷ with_given 1 2 ∷ done ∷ [])
    -- the next take answers 0 on a stack and 1 on a row
    ∷ example on_stack 1 (taking ++ (looking ++ (cutting ++ (hanging ++ dropping)))) taking (on ∷ on ∷ with_value 0 ∷ [])
    ∷ example in_row 1 (taking ++ (looking ++ (cutting ++ (hanging ++ dropping)))) taking (on ∷ on ∷ with_value 1 ∷ [])
    -- in a fresh keeper, after a take and a retire, the second turn of the try gives back 1
    ∷ example on_stack 1 taking (Retire 0 0 ∷ replicate 2 (Turn 0)) (on ∷ on ∷ with_given 0 1 ∷ [])
    -- at the last era a take ends with era spent, and one before it does not
    ∷ example on_stack 4294967295 [] (Take 0 ∷ Turn 0 ∷ []) (on ∷ plain 110 ∷ [])
    ∷ example on_stack 4294967294 [] taking (on ∷ on ∷ with_value 0 ∷ [])
    -- after the failed try one take answers 1, and the next ends with dry
    ∷ example on_stack 1 (taking ++ (looking ++ cutting)) (taking ++ taking) (on ∷ on ∷ with_value 1 ∷ on ∷ on ∷ plain 109 ∷ [])
    -- while it is linked, block 0 is not retired; once it is retired, it is withdrawn
    ∷ example on_stack 1 (taking ++ looking) (Retire 0 0 ∷ []) (plain 107 ∷ [])
    ∷ example on_stack 1 (taking ++ (looking ++ cutting)) (Retire 0 0 ∷ []) (plain 106 ∷ [])
    -- hold 1 of a worker with one hold is a stranger, to a busy worker too
    ∷ example on_stack 1 [] (Look 0 1 0 ∷ []) (plain 102 ∷ [])
    ∷ example on_stack 1 (Take 0 ∷ []) (Look 0 1 0 ∷ Look 0 0 0 ∷ []) (plain 102 ∷ plain 103 ∷ [])
    -- a drop sets the era back, so that the next look takes seven turns again
    ∷ example on_stack 1 (taking ++ (looking ++ (Drop 0 ∷ replicate 2 (Turn 0)))) (looking_by 0) (on ∷ on ∷ on ∷ on ∷ on ∷ on ∷ on ∷ with_value 0 ∷ [])
    -- a batch is as old as its oldest block, which need not be the lead: block 0, which is shown, is kept
    ∷ example_of paired (taking ++ (looking ++ taking)) (Retire 0 1 ∷ Relink 0 0 (Some 0) None ∷ Retire 0 0 ∷ replicate 3 (Turn 0)) (done ∷ done ∷ on ∷ on ∷ on ∷ done ∷ [])
    -- between two hangings a walk does not bring the count to 0; the second to let go gives all three back
    ∷ example_of trio ready
    (Retire 2 0 ∷ Retire 2 1 ∷ Retire 2 2 ∷ replicate 4 (Turn 2) ++ (Drop 0 ∷ replicate 3 (Turn 0) ++ (replicate 2 (Turn 2) ++ (Drop 1 ∷ replicate 3 (Turn 1)))))
    (done ∷ done ∷ on ∷ on ∷ on ∷ on ∷ on ∷ on ∷ on ∷ on ∷ done ∷ on ∷ done ∷ on ∷ on ∷ with_given 1 3 ∷ done ∷ [])
    -- nothing is hung on a list that was turned off since its visit, so the last turn gives both blocks back
    ∷ example_of duo (taking_by 0 ++ (taking_by 0 ++ looking_by 1))
    (Retire 0 0 ∷ Retire 0 1 ∷ replicate 2 (Turn 0) ++ (Drop 1 ∷ replicate 2 (Turn 1) ++ replicate 2 (Turn 0)))
    (done ∷ on ∷ on ∷ on ∷ on ∷ on ∷ done ∷ on ∷ with_given 0 2 ∷ [])
    ∷ []

-- the examples print the lines that stand with them
abbrev pub Worked : Type 0
Worked = map printed examples ≡ map (λ e. e.lines) examples

-- where two blocks hang, a look in place of the drop empties the list and gives both back before it writes the era
abbrev pub emptying : Example
emptying = example on_stack 1 (taking ++ (looking ++ (cutting ++ hanging))) (Look 0 0 0 ∷ replicate 8 (Turn 0)) (on ∷ on ∷ on ∷ on ∷ with_given 1 2 ∷ on ∷ on ∷ on ∷ done ∷ [])

-- it prints its lines
abbrev pub Emptied : Type 0
Emptied = printed emptying ≡ emptying.lines

-- the end of calls over a stack
abbrev pub end_of : List (Call Reading) → Beside Reading
end_of calls = ends_beside on_stack (made (small 1)) calls

-- and what the keeper is after some of them: the era, the births, and the count of the batch that hangs
abbrev pub Then : Type 0
Then =
    ((end_of taking).state.core.era ≡ 2)
    × ((block (end_of taking).state.core 0).birth ≡ 2)
    × ((end_of (taking ++ (looking ++ (cutting ++ taking)))).state.core.era ≡ 3)
    × ((block (end_of (taking ++ (looking ++ (cutting ++ hanging)))).state.core 0).count ≡ 1)

-- as small, with so many workers
abbrev pub with_workers : ℕ → Form
with_workers w = record { workers = w; holds = 1; blocks = 2; live = 2; taking_period = 1; trying_period = 1; starting_era = 1 }

-- what a misfit at the making is refused with
abbrev pub no_keeper : Result Core KeeperFault
no_keeper = Err (record { refusal = Misfit; place = 0 })

-- eight workers are made and nine are a misfit, and so is a pool of another size or with a number out
abbrev pub Makings : Type 0
Makings =
    (make (with_workers 8) (true ∷ true ∷ []) ≡ Ok (fresh (with_workers 8)))
    × (make (with_workers 9) (true ∷ true ∷ []) ≡ no_keeper)
    × (make (small 1) (true ∷ true ∷ true ∷ []) ≡ no_keeper)
    × (make (small 1) (true ∷ false ∷ []) ≡ no_keeper)

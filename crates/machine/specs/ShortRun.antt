-- A short run, and what the accounts of it say: they do see blocks taken, linked, shown and dropped.
use Rattle.std.specs.Prelude.{◌≡◌, ℕ, true, false, List, [], ◌∷◌, ◌++◌, replicate, Some, None}
use Rattle.machine.specs.declared.calls.Call.{Call}
use Rattle.machine.specs.declared.calls.Call.TheVariants.{Take, Look, Drop, Relink, Write, Turn}
use Rattle.machine.specs.Machine.{State, Step, after}
use Rattle.machine.specs.Runs.{start}
use Rattle.machine.specs.Protection.{Watch, first_watch, watch_on}
use Rattle.machine.specs.LookAnswers.{Lookout, first_lookout, lookout_on}

-- the account after calls, where the pool hands out number 0
abbrev pub account_after : {A : Type 0} → (A → State ℕ → Call ℕ → Step ℕ → A) → A → State ℕ → List (Call ℕ) → A
account_after forward a s [] = a
account_after forward a s (c ∷ cs) = account_after forward (forward a s c (after s c 0)) (after s c 0).to cs

-- two workers with two holds each, four blocks, and a record of 5 under each number
abbrev pub before_run : State ℕ
before_run = start (record { workers = 2; holds = 2; blocks = 4; live = 3; taking_period = 1; trying_period = 1; starting_era = 1 }) (replicate 4 true) (replicate 4 5)

-- worker 0 takes block 0, writes 77 and links it at anchor 0; worker 1 looks there with hold 1
abbrev pub short_run : List (Call ℕ)
short_run = Take 0 ∷ Turn 0 ∷ Turn 0 ∷ Write 0 0 77 ∷ Relink 0 0 None (Some 0) ∷ Look 1 1 0 ∷ Turn 1 ∷ Turn 1 ∷ Turn 1 ∷ Turn 1 ∷ Turn 1 ∷ Turn 1 ∷ Turn 1 ∷ []

-- what is shown and linked after calls, and what looks have met
abbrev pub watch_after : List (Call ℕ) → Watch ℕ
watch_after calls = account_after watch_on first_watch before_run calls

abbrev pub lookout_after : List (Call ℕ) → Lookout
lookout_after calls = account_after lookout_on first_lookout before_run calls

pub record ShortRunSeen : Type 0 where
  -- hold 1 of worker 1 shows block 0, and hold 0 nothing
  pub shown : (watch_after short_run).sight.shows 1 1 ≡ Some 0
  pub alone : (watch_after short_run).sight.shows 1 0 ≡ None
  -- worker 0 took it, and linked it with its record
  pub taker : (watch_after short_run).sight.taker 0 ≡ Some 0
  pub linked : (watch_after short_run).sight.linked 0 ≡ Some (Some 77)
  -- the look has met that block, and never an empty cell
  pub met : (lookout_after short_run).looks.met 1 (Some 0) ≡ true
  pub never_empty : (lookout_after short_run).looks.met 1 None ≡ false
  -- once worker 1 drops its holds, nothing is shown
  pub dropped : (watch_after (short_run ++ (Drop 1 ∷ []))).sight.shows 1 1 ≡ None

-- What playing a run promises.
use Rattle.std.specs.Prelude.{◌≡◌, ℕ, ◌≤◌, Bool, List, take, Ok, Err}
use Rattle.figures.specs.declared.limits.Form.{Form}
use Rattle.machine.specs.declared.calls.Call.{Call}
use Rattle.machine.specs.State.{fresh}
use Rattle.machine.specs.Machine.{State, Reply, make}
use Rattle.machine.specs.Runs.{start, ends, Led}
use Rattle.machine.specs.Account.{opened}
use Rattle.machine.specs.Structure.{Throughout, Structured, GivesRight}
use Rattle.machine.specs.Following.{Along}
use Rattle.machine.specs.Protection.{first_watch, watch_on, ShownKept, AnswersKept}
use Rattle.machine.specs.LookAnswers.{first_lookout, lookout_on, LookAnswers}
use Rattle.machine.specs.CeilingKept.{Low, NeverDry}
use Rattle.machine.specs.Eras.{InOrder}
use Rattle.runs.specs.declared.outcomes.PlayFault.{PlayFault}
use Rattle.runs.specs.declared.outcomes.PlayFault.TheVariants.{Refused, NoMemory}

-- the keeper was made; the calls led from there, with these answers, to this end, where the pool handed out these numbers; and at the making
-- and after every call the laws hold
pub record Run {R : Type 0} (form : Form) (inside : List Bool) (table : List R) (calls : List (Call R)) (answers : List (Reply R)) (end : State R) (numbers : List ℕ) : Type 0 where
  pub made : make form inside ≡ Ok (fresh form)
  pub led : Led (start form inside table) calls answers end numbers
  -- a block that a hold shows is out of the pool, its record is the one that it had when its taker linked it, and every accepted read
  -- through that hold answers that one; a finished taking answers a block that no hold shows
  pub kept : Along watch_on ShownKept AnswersKept first_watch (start form inside table) calls numbers
  -- each block is pooled, live or retired, one of these, and a retired one is in a worker's own batch or its batch hangs; what is given back
  -- is a whole batch, and the pool gains it
  pub structured : Throughout Structured GivesRight opened (start form inside table) calls numbers
  -- retired blocks number at most the ceiling, and with as many blocks as are needed no call is refused as dry
  pub low : Throughout (Low form) (NeverDry form) opened (start form inside table) calls numbers
  -- a finished look answers what its cell named at an earlier turn of that look
  pub looks_met : Along lookout_on (λ x s. Unit {0}) LookAnswers first_lookout (start form inside table) calls numbers
  -- the era never falls, and nothing that was read off it is past it
  pub eras : (i j : ℕ) → i ≤ j → InOrder form (ends (start form inside table) (take i calls) numbers).core.era (ends (start form inside table) (take j calls) numbers).core

-- there is such a run, whichever numbers the pool handed out
abbrev pub PlayedSo : {R : Type 0} → Form → List Bool → List R → List (Call R) → List (Reply R) → State R → Type 0
PlayedSo form inside table calls answers end = (numbers : List ℕ) × Run form inside table calls answers end numbers

-- why nothing was played; the table is then as it was
abbrev pub Declined : {R : Type 0} → PlayFault → Form → List Bool → List R → List R → Type 0
Declined (Refused fault) form inside table later = (make form inside ≡ Err fault) × (later ≡ table)
Declined (NoMemory error) form inside table later = later ≡ table

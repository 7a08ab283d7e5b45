-- A shown block is kept: over every run it stays out of the pool, with the record that it was linked with.
use Rattle.std.specs.Prelude.{◌≡◌, ℕ, ◌<◌, ◌≤◌, true, false, List, replicate, Some, Ok, Err, ◌≢◌}
use Rattle.std.specs.List.{slice_get}
use Rattle.figures.specs.Limits.{Fit}
use Rattle.figures.specs.declared.limits.Form.{Form}
use Rattle.pools.specs.Meaning.{is_out}
use Rattle.machine.specs.declared.calls.Call.{Call}
use Rattle.machine.specs.declared.calls.Call.TheVariants.{Take, Look, Drop, Retire, Relink, Write, Read, Turn}
use Rattle.machine.specs.declared.calls.Value.TheVariants.{Block, Record}
use Rattle.machine.specs.declared.states.Batch.{Batch}
use Rattle.machine.specs.declared.states.Core.{Core}
use Rattle.machine.specs.declared.states.Standing.TheVariants.{Retired}
use Rattle.machine.specs.State.{block, worker}
use Rattle.machine.specs.Machine.{State, Reply, Step}
use Rattle.machine.specs.Runs.{start}
use Rattle.machine.specs.Account.{Account, opened, noted, Doing, is_taking}
use Rattle.machine.specs.Structure.{Handed}
use Rattle.machine.specs.Following.{Along}
use Rattle.machine.specs.Showing.{Sight, unseen, watched}

-- both accounts: what is live and retired, and what is shown and linked
pub record Watch (R : Type 0) : Type 0 where
  pub account : Account
  pub sight : Sight R

-- at the making
abbrev pub first_watch : {R : Type 0} → Watch R
first_watch = record { account = opened; sight = unseen }

-- after a call
abbrev pub watch_on : {R : Type 0} → Watch R → State R → Call R → Step R → Watch R
watch_on x s c step = record {
  account = noted x.account c step.reply step.to.inside;
  sight = watched x.sight x.account c step.reply step.to.table;
}

-- the least birth that a batch keeps is the smallest of its blocks' births
pub record LeastBirth (k : Core) (batch : Batch) : Type 0 where
  pub at_most : (b : ℕ) → (block k b).standing ≡ Retired → (block k b).lead ≡ batch.lead → batch.least ≤ (block k b).birth
  pub attained : (b : ℕ) × ((block k b).standing ≡ Retired) × ((block k b).lead ≡ batch.lead) × ((block k b).birth ≡ batch.least)

-- what is so at every moment
pub record ShownKept {R : Type 0} (x : Watch R) (s : State R) : Type 0 where
  -- a shown block is one of the pool's, and out
  pub out : (w h b : ℕ) → x.sight.shows w h ≡ Some b → is_out s.inside b ≡ true
  -- its taker has linked it, and its record is the one that it had then
  pub same_record : (w h b : ℕ) → x.sight.shows w h ≡ Some b → x.sight.linked b ≡ Some (slice_get s.table b)
  -- a worker's own batch keeps its least birth right
  pub least : (w : ℕ) (batch : Batch) → w < s.core.form.workers → (worker s.core w).batch ≡ Some batch → LeastBirth s.core batch

-- an accepted read answers the record that the block which the hold shows had when its taker linked it
abbrev pub ReadsLinked : {R : Type 0} → Sight R → ℕ → ℕ → Reply R → Type 0
ReadsLinked {R} e w h (Ok a) = (b : ℕ) × (x : R) × (e.shows w h ≡ Some b) × (e.linked b ≡ Some (Some x)) × (a.value ≡ Some (Record x))
ReadsLinked {R} e w h (Err fault) = Unit {0}

-- no hold shows block b
abbrev pub Unshown : {R : Type 0} → Sight R → ℕ → Type 0
Unshown e b = (w h : ℕ) → e.shows w h ≢ Some b

-- a finished taking answers a block that no hold shows
abbrev pub TakesUnshown : {R : Type 0} → Sight R → Doing → Reply R → Type 0
TakesUnshown e d (Ok a) = is_taking d ≡ true → a.goes_on ≡ false → (b : ℕ) × (a.value ≡ Some (Block b)) × Unshown e b
TakesUnshown e d (Err fault) = Unit {0}

-- what is so of every call
abbrev pub AnswersKept : {R : Type 0} → Watch R → Call R → Step R → Type 0
AnswersKept x (Take w) step = Unit {0}
AnswersKept x (Look w h c) step = Unit {0}
AnswersKept x (Drop w) step = Unit {0}
AnswersKept x (Retire w b) step = Unit {0}
AnswersKept x (Relink w c expected new) step = Unit {0}
AnswersKept x (Write w b y) step = Unit {0}
AnswersKept x (Read w h) step = ReadsLinked x.sight w h step.reply
AnswersKept x (Turn w) step = TakesUnshown x.sight (x.account.doing w) step.reply

-- over every run of every keeper within its limits, every choice of the pool and every table of records R
abbrev pub ShownBlocksKept : Type 0 → Type 0
ShownBlocksKept R =
    (form : Form) (table : List R) (calls : List (Call R)) (numbers : List ℕ) → Fit form
    → Handed (start form (replicate form.blocks true) table) calls numbers
    → Along watch_on ShownKept AnswersKept first_watch (start form (replicate form.blocks true) table) calls numbers

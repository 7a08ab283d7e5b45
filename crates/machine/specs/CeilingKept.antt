-- Retired blocks stay below the ceiling, over every run; and a pool with as many blocks as are needed is never dry.
use Rattle.std.specs.Prelude.{◌≡◌, ℕ, zero, suc, ◌+◌, ◌*◌, ◌<◌, ◌≤◌, Bool, true, false, List, [], ◌∷◌, length, replicate, Some, None, Ok, Err, Option}
use Rattle.figures.specs.Limits.{Fit}
use Rattle.figures.specs.Ceiling.{ceiling_of, needed_of, list_most}
use Rattle.figures.specs.declared.limits.Form.{Form}
use Rattle.pools.specs.Counts.{bit}
use Rattle.machine.specs.declared.calls.Call.{Call}
use Rattle.machine.specs.declared.refusals.Refusal.{Refusal}
use Rattle.machine.specs.declared.refusals.Refusal.TheVariants.{Misfit, Stranger, Busy, Idle, OutOfHand, Withdrawn, Linked, Full, Dry, EraSpent, SelfLink, Moved}
use Rattle.machine.specs.declared.states.Core.{Core}
use Rattle.machine.specs.State.{block, worker, reservation}
use Rattle.machine.specs.Machine.{State, Reply, Step}
use Rattle.machine.specs.Runs.{start}
use Rattle.machine.specs.Account.{Account, opened}
use Rattle.machine.specs.Batches.{newest_on, walking}
use Rattle.machine.specs.BatchSizes.{batch_count, tries, OwnSize}
use Rattle.machine.specs.Structure.{Handed, Throughout}

-- how many of the blocks below n are retired, by the account
abbrev pub retired_blocks : Account → ℕ → ℕ
retired_blocks a zero = 0
retired_blocks a (suc n) = bit (a.retired n) + retired_blocks a n

-- just these blocks hang from the first on, each over the next older one, and the last over none
abbrev pub Hanging : Core → Option ℕ → List ℕ → Type 0
Hanging k first [] = first ≡ None
Hanging k first (b ∷ bs) = (first ≡ Some b) × Hanging k (block k b).under bs

-- they are at most so many
abbrev pub HangAtMost : ℕ → Core → Option ℕ → Type 0
HangAtMost n k first = (bs : List ℕ) × Hanging k first bs × (length bs ≤ n)

-- the most blocks that hang from one reservation, or from one walk, of a form's figures
abbrev pub list_most_of : Form → ℕ
list_most_of form = list_most form.workers form.live form.taking_period

-- what is so at every moment
pub record Low {R : Type 0} (form : Form) (a : Account) (s : State R) : Type 0 where
  -- no more blocks are retired than the ceiling says, by the calls, their answers and the pool
  pub few_retired : retired_blocks a (length s.inside) ≤ ceiling_of form
  -- no list of a reservation and no walk of a worker is longer than twice the live blocks with the takings that can be under way
  pub short_lists : (r : ℕ) → r < form.workers * form.holds → HangAtMost (list_most_of form) s.core (newest_on (reservation s.core r).list)
  pub short_walks : (w : ℕ) → w < form.workers → HangAtMost (list_most_of form) s.core (walking (worker s.core w).task)
  -- the size that a worker keeps of its own batch is how many blocks the batch has, and fits the trying period
  pub own_sizes : (w : ℕ) → w < form.workers → OwnSize form (batch_count s.core) (tries (worker s.core w).task) (worker s.core w).batch

-- whether a refusal is that no number is in the pool
abbrev pub is_dry : Refusal → Bool
is_dry Misfit = false
is_dry Stranger = false
is_dry Busy = false
is_dry Idle = false
is_dry OutOfHand = false
is_dry Withdrawn = false
is_dry Linked = false
is_dry Full = false
is_dry (Dry refused) = true
is_dry EraSpent = false
is_dry SelfLink = false
is_dry Moved = false

-- a call is not refused so
abbrev pub NotDry : {R : Type 0} → Reply R → Type 0
NotDry (Ok a) = Unit {0}
NotDry (Err fault) = is_dry fault.refusal ≡ false

-- where there are as many blocks as the form's figures need, no call is
abbrev pub NeverDry : {R : Type 0} → Form → State R → Step R → Type 0
NeverDry form s step = needed_of form ≤ form.blocks → NotDry step.reply

-- over every run of every keeper within its limits, every choice of the pool and every table of records R
abbrev pub BelowCeiling : Type 0 → Type 0
BelowCeiling R =
    (form : Form) (table : List R) (calls : List (Call R)) (numbers : List ℕ) → Fit form
    → Handed (start form (replicate form.blocks true) table) calls numbers
    → Throughout (Low form) (NeverDry form) opened (start form (replicate form.blocks true) table) calls numbers

-- Eras in order: in every run the era never falls, and nothing that was read off it is past it.
use Rattle.std.specs.Prelude.{◌≡◌, ℕ, ◌<◌, ◌≤◌, Bool, List, take}
use Rattle.figures.specs.Limits.{Fit}
use Rattle.figures.specs.declared.limits.Form.{Form}
use Rattle.machine.specs.declared.calls.Call.{Call}
use Rattle.machine.specs.declared.states.Task.{Task}
use Rattle.machine.specs.declared.states.Task.TheVariants.{Idle, TakeEra, TakeBlock, LookCell, LookEra, LookList, LookWalk, LookAgain, LookWrite, DropList, DropWalk, DropEra, TryVisit, TryHang, TryLast}
use Rattle.machine.specs.declared.states.Core.{Core}
use Rattle.machine.specs.State.{block, worker, reservation}
use Rattle.machine.specs.Runs.{start, ends}

-- a task is at a hold that there is, and an era that it has read is not past this one
abbrev pub InTime : ℕ → ℕ → Task → Type 0
InTime holds era Idle = Unit {0}
InTime holds era TakeEra = Unit {0}
InTime holds era TakeBlock = Unit {0}
InTime holds era (LookCell h c) = h < holds
InTime holds era (LookEra h c seen) = h < holds
InTime holds era (LookList h c e) = (h < holds) × (e ≤ era)
InTime holds era (LookWalk h c b) = h < holds
InTime holds era (LookAgain h c) = h < holds
InTime holds era (LookWrite h c e) = (h < holds) × (e ≤ era)
InTime holds era (DropList h) = h < holds
InTime holds era (DropWalk h b) = h < holds
InTime holds era (DropEra h) = h < holds
InTime holds era (TryVisit r b aside) = Unit {0}
InTime holds era (TryHang b left hung) = Unit {0}
InTime holds era (TryLast hung) = Unit {0}

-- a keeper of this form is in order, and its era has not fallen since it was this one
pub record InOrder (form : Form) (since : ℕ) (k : Core) : Type 0 where
  -- its form stays as it was
  pub same_form : k.form ≡ form
  -- its era is one that there is
  pub later : since ≤ k.era
  pub not_past : k.era ≤ 4294967295
  -- no block was born, and no reservation was written, at a later era
  pub births : (b : ℕ) → (block k b).birth ≤ k.era
  pub reserved : (r : ℕ) → (reservation k r).era ≤ k.era
  -- each worker's taking count is below the taking period
  pub takings : (w : ℕ) → (worker k w).takings < form.taking_period
  -- what each task has noted is in order too
  pub tasks : (w : ℕ) → InTime form.holds k.era (worker k w).task

-- in every run of every keeper within its limits, over every pool and table of records R: after j calls the keeper is in order, and its
-- era has not fallen since any earlier moment
abbrev pub ErasInOrder : Type 0 → Type 0
ErasInOrder R =
    (form : Form) (inside : List Bool) (table : List R) (calls : List (Call R)) (numbers : List ℕ) (i j : ℕ) → Fit form → i ≤ j
    → InOrder form (ends (start form inside table) (take i calls) numbers).core.era (ends (start form inside table) (take j calls) numbers).core

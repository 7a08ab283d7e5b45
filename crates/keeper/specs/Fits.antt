-- What keeps every index and sum of a keeper's code in range: its figures are within their limits, and each number that stands for a
-- block, a hold, a cell or a place is one that the tables have.
use Rattle.std.specs.Prelude.{◌≡◌, ℕ, ◌+◌, Bool, true, ◌&&◌, Some, None, Option, nat_le, nat_lt, slice_index_or}
use Rattle.machine.specs.declared.states.Batch.{Batch}
use Rattle.machine.specs.declared.states.Block.{Block}
use Rattle.machine.specs.declared.states.HungList.{HungList}
use Rattle.machine.specs.declared.states.HungList.TheVariants.{Off, Empty, Newest}
use Rattle.machine.specs.declared.states.Task.{Task}
use Rattle.machine.specs.declared.states.Task.TheVariants.{Idle, TakeEra, TakeBlock, LookCell, LookEra, LookList, LookWalk, LookAgain, LookWrite, DropList, DropWalk, DropEra, TryVisit, TryHang, TryLast}
use Rattle.machine.specs.declared.states.Core.{Core}
use Rattle.machine.specs.State.{block, worker, reservation}
use Rattle.machine.specs.Machine.{all_fit}

-- a block that the table has, or none
abbrev pub number_fits : Option ℕ → Bool
number_fits None = true
number_fits (Some b) = nat_lt b 2048

-- the numbers that a task has
abbrev pub task_fits : Task → Bool
task_fits Idle = true
task_fits TakeEra = true
task_fits TakeBlock = true
task_fits (LookCell h c) = nat_lt h 4 && nat_lt c 4112
task_fits (LookEra h c seen) = nat_lt h 4 && nat_lt c 4112
task_fits (LookList h c e) = nat_lt h 4 && nat_lt c 4112
task_fits (LookWalk h c b) = nat_lt h 4 && nat_lt c 4112 && nat_lt b 2048
task_fits (LookAgain h c) = nat_lt h 4 && nat_lt c 4112
task_fits (LookWrite h c e) = nat_lt h 4 && nat_lt c 4112
task_fits (DropList h) = nat_lt h 4
task_fits (DropWalk h b) = nat_lt h 4 && nat_lt b 2048
task_fits (DropEra h) = nat_lt h 4
task_fits (TryVisit r b aside) = nat_lt r 32 && nat_lt b 2048 && nat_le aside r
task_fits (TryHang b left hung) = nat_lt b 2048 && nat_lt 0 left && nat_le (hung + left) 32
task_fits (TryLast hung) = nat_le hung 32

-- those of a worker's own batch
abbrev pub batch_fits : Option Batch → Bool
batch_fits None = true
batch_fits (Some x) = nat_lt x.lead 2048 && nat_lt x.newest 2048

-- the newest block on a list
abbrev pub list_fits : HungList → Bool
list_fits Off = true
list_fits Empty = true
list_fits (Newest b) = nat_lt b 2048

-- those of a block
abbrev pub block_fits : Block → Bool
block_fits x =
    number_fits (slice_index_or x.links 0 None) && number_fits (slice_index_or x.links 1 None) && number_fits x.under && number_fits x.elder
    && nat_lt x.slot 32 && nat_lt x.lead 2048 && nat_lt x.newest 2048

-- each worker's taking count is below the taking period
abbrev pub TakingsFit : Core → Type 0
TakingsFit k = (w : ℕ) → nat_lt (worker k w).takings k.form.taking_period ≡ true

-- each worker's task has numbers in range
abbrev pub TasksFit : Core → Type 0
TasksFit k = (w : ℕ) → task_fits (worker k w).task ≡ true

-- each worker's own batch does
abbrev pub BatchesFit : Core → Type 0
BatchesFit k = (w : ℕ) → batch_fits (worker k w).batch ≡ true

-- each reservation's list does
abbrev pub ListsFit : Core → Type 0
ListsFit k = (r : ℕ) → list_fits (reservation k r).list ≡ true

-- each block does
abbrev pub BlocksFit : Core → Type 0
BlocksFit k = (b : ℕ) → block_fits (block k b) ≡ true

-- each anchor does
abbrev pub AnchorsFit : Core → Type 0
AnchorsFit k = (c : ℕ) → number_fits (slice_index_or k.anchors c None) ≡ true

-- all of these, and the figures are within their limits
pub record Fits (k : Core) : Type 0 where
  pub figures : all_fit k.form ≡ true
  pub takings : TakingsFit k
  pub tasks : TasksFit k
  pub batches : BatchesFit k
  pub lists : ListsFit k
  pub blocks : BlocksFit k
  pub anchors : AnchorsFit k

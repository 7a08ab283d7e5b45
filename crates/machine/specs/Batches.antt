-- Where a retired block waits.
use Rattle.std.specs.Prelude.{◌≡◌, ℕ, ◌<◌, ◌⊎◌, Some, None, Option}
use Rattle.machine.specs.declared.states.Batch.{Batch}
use Rattle.machine.specs.declared.states.HungList.{HungList}
use Rattle.machine.specs.declared.states.HungList.TheVariants.{Off, Empty, Newest}
use Rattle.machine.specs.declared.states.Standing.TheVariants.{Retired}
use Rattle.machine.specs.declared.states.Task.{Task}
use Rattle.machine.specs.declared.states.Task.TheVariants.{Idle, TakeEra, TakeBlock, LookCell, LookEra, LookList, LookWalk, LookAgain, LookWrite, DropList, DropWalk, DropEra, TryVisit, TryHang, TryLast}
use Rattle.machine.specs.declared.states.Core.{Core}
use Rattle.machine.specs.State.{block, worker, reservation}
use Rattle.machine.specs.Trying.{places}

-- the newest block on a list
abbrev pub newest_on : HungList → Option ℕ
newest_on Off = None
newest_on Empty = None
newest_on (Newest b) = Some b

-- the block that a walk handles next
abbrev pub walking : Task → Option ℕ
walking Idle = None
walking TakeEra = None
walking TakeBlock = None
walking (LookCell h c) = None
walking (LookEra h c seen) = None
walking (LookList h c e) = None
walking (LookWalk h c b) = Some b
walking (LookAgain h c) = None
walking (LookWrite h c e) = None
walking (DropList h) = None
walking (DropWalk h b) = Some b
walking (DropEra h) = None
walking (TryVisit r b aside) = None
walking (TryHang b left hung) = None
walking (TryLast hung) = None

-- block b is met from some block on, each naming the next older one on its list
pub data Met (k : Core) : Option ℕ → ℕ → Type 0 where
  here : {b : ℕ} → Met k (Some b) b
  there : {a b : ℕ} → Met k (block k a).under b → Met k (Some a) b

-- block b hangs from a reservation, or is still to be handled in a walk
abbrev pub Hangs : Core → ℕ → Type 0
Hangs k b =
    ((r : ℕ) × (r < places k) × Met k (newest_on (reservation k r).list) b)
    ⊎ ((w : ℕ) × (w < k.form.workers) × Met k (walking (worker k w).task) b)

-- the batch of a lead is a worker's own
abbrev pub OwnBatch : Core → ℕ → Type 0
OwnBatch k lead = (w : ℕ) × (w < k.form.workers) × (x : Batch) × ((worker k w).batch ≡ Some x) × (x.lead ≡ lead)

-- a retired block is in a worker's own batch, or a block of its batch hangs; and where one hangs, the batch's count is not 0
pub record Waits (k : Core) : Type 0 where
  pub somewhere : (b : ℕ) → (block k b).standing ≡ Retired → OwnBatch k (block k b).lead ⊎ ((c : ℕ) × ((block k c).lead ≡ (block k b).lead) × Hangs k c)
  pub counted : (c : ℕ) → Hangs k c → 0 < (block k (block k c).lead).count

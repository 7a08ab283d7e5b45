-- How many blocks a batch has.
use Rattle.std.specs.Prelude.{◌≡◌, ℕ, ◌+◌, ◌*◌, ◌<◌, ◌≤◌, Bool, true, false, cond, ◌&&◌, List, [], ◌∷◌, Some, None, Option, ◌==◌}
use Rattle.figures.specs.declared.limits.Form.{Form}
use Rattle.machine.specs.declared.states.Batch.{Batch}
use Rattle.machine.specs.declared.states.Block.{Block}
use Rattle.machine.specs.declared.states.Task.{Task}
use Rattle.machine.specs.declared.states.Task.TheVariants.{Idle, TakeEra, TakeBlock, LookCell, LookEra, LookList, LookWalk, LookAgain, LookWrite, DropList, DropWalk, DropEra, TryVisit, TryHang, TryLast}
use Rattle.machine.specs.declared.states.Core.{Core}
use Rattle.machine.specs.State.{worker}
use Rattle.machine.specs.Account.{is_retired}

-- 1 for a retired block that names lead l, and 0 for any other
abbrev pub batched : ℕ → Block → ℕ
batched l x = cond (is_retired x.standing && x.lead == l) 1 0

-- how many of these blocks are retired and name lead l
abbrev pub count_rows : ℕ → List Block → ℕ
count_rows l [] = 0
count_rows l (x ∷ xs) = batched l x + count_rows l xs

-- how many blocks the batch of lead l has
abbrev pub batch_count : Core → ℕ → ℕ
batch_count k l = count_rows l k.blocks.rows

-- whether a task is a try
abbrev pub tries : Task → Bool
tries Idle = false
tries TakeEra = false
tries TakeBlock = false
tries (LookCell h c) = false
tries (LookEra h c seen) = false
tries (LookList h c e) = false
tries (LookWalk h c b) = false
tries (LookAgain h c) = false
tries (LookWrite h c e) = false
tries (DropList h) = false
tries (DropWalk h b) = false
tries (DropEra h) = false
tries (TryVisit r b aside) = true
tries (TryHang b left hung) = true
tries (TryLast hung) = true

-- the size of an own batch: while it is tried a multiple of the trying period; otherwise the last such multiple is at most the number of
-- reservations, since a try of more blocks than that does not fail
abbrev pub Filled : Form → Bool → ℕ → Type 0
Filled form true n = (n ≤ form.workers * form.holds + form.trying_period) × (m : ℕ) × (n ≡ m * form.trying_period)
Filled form false n = (m : ℕ) × (m * form.trying_period ≤ form.workers * form.holds) × (m * form.trying_period ≤ n) × (n < m * form.trying_period + form.trying_period)

-- the size that a worker keeps of its own batch is right
abbrev pub OwnSize : Form → (ℕ → ℕ) → Bool → Option Batch → Type 0
OwnSize form count tried None = Unit {0}
OwnSize form count tried (Some x) = (x.size ≡ count x.lead) × Filled form tried x.size

-- a batch has at most as many blocks as there are reservations, and the trying period more
pub record ShortBatches (form : Form) (k : Core) : Type 0 where
  pub short : (l : ℕ) → batch_count k l ≤ form.workers * form.holds + form.trying_period
  pub own : (w : ℕ) → w < form.workers → OwnSize form (batch_count k) (tries (worker k w).task) (worker k w).batch

-- Each call but the turn: its checks in their order, and what it does where all are passed.
use Rattle.std.specs.Prelude.{ℕ, ◌-◌, ◌%◌, min, Bool, true, false, cond, not, ◌&&◌, List, [], ◌∷◌, replicate, Some, None, Option, ◌==◌, nat_lt, slice_index_or, slice_set}
use Rattle.machine.specs.declared.refusals.Refusal.{Refusal}
use Rattle.machine.specs.declared.refusals.Refusal.TheVariants.{Stranger, Busy, OutOfHand, Withdrawn, Linked, SelfLink, Moved}
use Rattle.machine.specs.declared.states.Standing.TheVariants.{Retired}
use Rattle.machine.specs.declared.states.Batch.{Batch}
use Rattle.machine.specs.declared.states.Block.{Block}
use Rattle.machine.specs.declared.states.BlockTable.{BlockTable}
use Rattle.machine.specs.declared.states.Task.{Task}
use Rattle.machine.specs.declared.states.Task.TheVariants.{Idle, TakeEra, LookCell, DropList, TryVisit}
use Rattle.machine.specs.declared.states.Core.{Core}
use Rattle.machine.specs.State.{one_more, blank_block, block, worker, with_live, with_block, with_worker, with_task, live_block}
use Rattle.machine.specs.Cells.{cells, home, held, with_cell, named_more, named_less, same_content}
use Rattle.machine.specs.Hands.{owns, in_hand, in_hand_without}
use Rattle.machine.specs.Looking.{with_shown}
use Rattle.machine.specs.Moves.{Move, goes_on, ends, checked}
use Rattle.machine.specs.Turns.{is_idle}

-- there is a worker w
abbrev pub is_worker : Core → ℕ → Bool
is_worker k w = nat_lt w k.form.workers

-- each worker has a hold h
abbrev pub is_hold : Core → ℕ → Bool
is_hold k h = nat_lt h k.form.holds

-- there is a cell c
abbrev pub is_cell : Core → ℕ → Bool
is_cell k c = nat_lt c (cells k)

-- there is a block b
abbrev pub is_block : Core → ℕ → Bool
is_block k b = nat_lt b k.form.blocks

-- a test of a block, which nothing passes too
abbrev pub or_none : (ℕ → Bool) → Option ℕ → Bool
or_none test None = true
or_none test (Some b) = test b

-- the worker has no task
abbrev pub free : Core → ℕ → Bool
free k w = is_idle (worker k w).task

-- the checks of a take and of a drop
abbrev pub free_checks : Core → ℕ → List (Bool × Refusal)
free_checks k w = (is_worker k w, Stranger) ∷ (free k w, Busy) ∷ []

-- take
abbrev pub take : Core → ℕ → Move
take k w = checked k (free_checks k w) (goes_on (with_task k w TakeEra))

-- the checks of a look: a link is looked at only from a block that the worker owns or another of its holds shows
abbrev pub look_checks : Core → ℕ → ℕ → ℕ → List (Bool × Refusal)
look_checks k w h c =
    (is_worker k w && is_hold k h && is_cell k c, Stranger)
    ∷ (free k w, Busy)
    ∷ (or_none (in_hand_without k w h) (home c), OutOfHand)
    ∷ []

-- look
abbrev pub look : Core → ℕ → ℕ → ℕ → Move
look k w h c = checked k (look_checks k w h c) (goes_on (with_shown k w h None (LookCell h c)))

-- drop: all holds of the worker show nothing
abbrev pub drop : Core → ℕ → Move
drop k w =
    checked k (free_checks k w)
    (goes_on (with_worker k w (record { takings = (worker k w).takings; task = DropList 0; batch = (worker k w).batch; shows = replicate 4 None })))

-- a worker's own batch after block b, born at era e, has joined it: the first to join is the lead
abbrev pub joined : Option Batch → ℕ → ℕ → Batch
joined None b e = record { lead = b; newest = b; size = 1; least = e }
joined (Some batch) b e = record { lead = batch.lead; newest = b; size = one_more batch.size; least = min batch.least e }

-- the newest block of a batch
abbrev pub newest_of : Option Batch → Option ℕ
newest_of None = None
newest_of (Some batch) = Some batch.newest

-- the count of a batch: it starts at 1,024 with the lead
abbrev pub first_count : Option Batch → ℕ → ℕ
first_count None count = 1024
first_count (Some batch) count = count

-- a block becomes retired and unowned, and joins the batch
abbrev pub retired_block : Block → Option Batch → ℕ → Block
retired_block x batch lead = record { standing = Retired; owner = None; birth = x.birth; links = x.links; names = x.names; under = x.under; slot = x.slot; elder = newest_of batch; lead = lead; count = first_count batch x.count; newest = x.newest }

-- block b of a table becomes so
abbrev pub retired_row : BlockTable → ℕ → Option Batch → ℕ → BlockTable
retired_row t b batch lead = record { rows = slice_set t.rows b (retired_block (slice_index_or t.rows b blank_block) batch lead) }

-- the links of a block no longer count
abbrev pub unlinked : Core → ℕ → Core
unlinked k b = named_less (named_less k (slice_index_or (block k b).links 0 None)) (slice_index_or (block k b).links 1 None)

-- a batch is tried where its size is a multiple of the trying period
abbrev pub try_due : Core → Batch → Bool
try_due k batch = batch.size % k.form.trying_period == 0

-- worker w has another batch and task
abbrev pub with_batch : Core → ℕ → Batch → Task → Core
with_batch k w batch t = with_worker k w (record { takings = (worker k w).takings; task = t; batch = Some batch; shows = (worker k w).shows })

-- block b leaves the live ones and joins worker w's batch, which is `batch` then
abbrev pub retired : Core → ℕ → ℕ → Batch → Core
retired k w b batch = with_live (with_block (unlinked k b) b (retired_block (block (unlinked k b) b) (worker k w).batch batch.lead)) (k.live - 1)

-- the retiring of block b
abbrev pub retiring : Core → ℕ → ℕ → Batch → Move
retiring k w b batch =
    cond (try_due k batch)
    (goes_on (with_batch (retired k w b batch) w batch (TryVisit 0 b 0)))
    (ends (with_batch (retired k w b batch) w batch Idle) None)

-- the checks of a retire
abbrev pub retire_checks : Core → ℕ → ℕ → List (Bool × Refusal)
retire_checks k w b =
    (is_worker k w && is_block k b, Stranger)
    ∷ (free k w, Busy)
    ∷ (in_hand k w b, OutOfHand)
    ∷ (live_block k b, Withdrawn)
    ∷ (((block k b).names == 0), Linked)
    ∷ []

-- retire
abbrev pub retire : Core → ℕ → ℕ → Move
retire k w b = checked k (retire_checks k w b) (retiring k w b (joined (worker k w).batch b (block k b).birth))

-- a block without an owner
abbrev pub unowned : Block → Block
unowned x = record { standing = x.standing; owner = None; birth = x.birth; links = x.links; names = x.names; under = x.under; slot = x.slot; elder = x.elder; lead = x.lead; count = x.count; newest = x.newest }

-- a block that worker w owned has no owner any more
abbrev pub disowned : Core → ℕ → Option ℕ → Core
disowned k w None = k
disowned k w (Some b) = cond (owns k w b) (with_block k b (unowned (block k b))) k

-- the cell holds the new block or none
abbrev pub relinked : Core → ℕ → ℕ → Option ℕ → Core
relinked k w c new = with_cell (disowned (named_more (named_less k (held k c)) new) w new) c new

-- whether the new block is the cell's own
abbrev pub own_cell : ℕ → Option ℕ → Bool
own_cell c None = false
own_cell c (Some b) = same_content (home c) (Some b)

-- the checks of a relink
abbrev pub relink_checks : Core → ℕ → ℕ → Option ℕ → Option ℕ → List (Bool × Refusal)
relink_checks k w c expected new =
    (is_worker k w && is_cell k c && or_none (is_block k) expected && or_none (is_block k) new, Stranger)
    ∷ (free k w, Busy)
    ∷ (or_none (in_hand k w) (home c) && or_none (in_hand k w) new, OutOfHand)
    ∷ (or_none (live_block k) (home c) && or_none (live_block k) new, Withdrawn)
    ∷ (not (own_cell c new), SelfLink)
    ∷ (same_content (held k c) expected, Moved)
    ∷ []

-- relink
abbrev pub relink : Core → ℕ → ℕ → Option ℕ → Option ℕ → Move
relink k w c expected new = checked k (relink_checks k w c expected new) (ends (relinked k w c new) None)

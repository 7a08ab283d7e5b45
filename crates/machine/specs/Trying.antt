-- Trying to give a worker's own batch back: visits, hangings and a last turn.
use Rattle.std.specs.Prelude.{ℕ, ◌+◌, ◌-◌, ◌*◌, Bool, true, false, cond, ◌||◌, Some, None, Ok, Option, ◌==◌, nat_lt}
use Rattle.std.specs.Option.{unwrap_or}
use Rattle.machine.specs.declared.states.Batch.{Batch}
use Rattle.machine.specs.declared.states.Block.{Block}
use Rattle.machine.specs.declared.states.HungList.{HungList}
use Rattle.machine.specs.declared.states.HungList.TheVariants.{Off, Empty, Newest}
use Rattle.machine.specs.declared.states.Reservation.{Reservation}
use Rattle.machine.specs.declared.states.Task.{Task}
use Rattle.machine.specs.declared.states.Task.TheVariants.{Idle, TryVisit, TryHang, TryLast}
use Rattle.machine.specs.declared.states.Core.{Core}
use Rattle.machine.specs.State.{block, worker, reservation, with_block, with_reservation, with_worker, with_task, idle}
use Rattle.machine.specs.Moves.{Move, goes_on, ends}
use Rattle.machine.specs.Walking.{with_count, due, all_pooled}

-- how many reservations there are
abbrev pub places : Core → ℕ
places k = k.form.workers * k.form.holds

-- whether a list is off
abbrev pub is_off : HungList → Bool
is_off Off = true
is_off Empty = false
is_off (Newest b) = false

-- a reservation is passed over if its list is off, or if its era is below the batch's least birth
abbrev pub passed_over : Reservation → ℕ → Bool
passed_over r least = is_off r.list || nat_lt r.era least

-- the block of a batch that comes after b
abbrev pub block_after : Core → Batch → ℕ → ℕ
block_after k batch b = unwrap_or (block k b).elder batch.lead

-- what follows the visits: a hanging for each block set aside, newest first, or the last turn
abbrev pub hangings : Batch → ℕ → Task
hangings batch aside = cond (aside == 0) (TryLast 0) (TryHang batch.newest aside 0)

-- what follows the visit of place r, with b the next block and so many set aside
abbrev pub visited : Core → Batch → ℕ → ℕ → ℕ → Task
visited k batch r b aside = cond (nat_lt (r + 1) (places k)) (TryVisit (r + 1) b aside) (hangings batch aside)

-- a block that is set aside for place r
abbrev pub with_slot : Block → ℕ → Block
with_slot x r = record { standing = x.standing; owner = x.owner; birth = x.birth; links = x.links; names = x.names; under = x.under; slot = r; elder = x.elder; lead = x.lead; count = x.count; newest = x.newest }

-- block b is set aside for place r; if only the lead is left, the task ends and the batch stays
abbrev pub aside_for : Core → ℕ → Batch → ℕ → ℕ → ℕ → Move
aside_for k w batch r b aside =
    cond (b == batch.lead)
    (ends (idle k w) None)
    (goes_on (with_task (with_block k b (with_slot (block k b) r)) w (visited k batch r (block_after k batch b) (aside + 1))))

-- a visit of place r
abbrev pub try_visit : Core → ℕ → ℕ → ℕ → ℕ → Option Batch → Move
try_visit k w r b aside None = ends (idle k w) None
try_visit k w r b aside (Some batch) =
    cond (passed_over (reservation k r) batch.least)
    (goes_on (with_task k w (visited k batch r b aside)))
    (aside_for k w batch r b aside)

-- a block that hangs over another
abbrev pub with_under : Block → Option ℕ → Block
with_under x b = record { standing = x.standing; owner = x.owner; birth = x.birth; links = x.links; names = x.names; under = b; slot = x.slot; elder = x.elder; lead = x.lead; count = x.count; newest = x.newest }

-- block b is put at the front of the list at place r, over what hung there
abbrev pub hung_at : Core → ℕ → ℕ → Option ℕ → Core
hung_at k r b under = with_reservation (with_block k b (with_under (block k b) under)) r (record { list = Newest b; era = (reservation k r).era })

-- what follows the hanging of block b, with so many left and so many hung
abbrev pub hanged : Core → Batch → ℕ → ℕ → ℕ → Task
hanged k batch b left hung = cond (nat_lt 1 left) (TryHang (block_after k batch b) (left - 1) hung) (TryLast hung)

-- the hanging of block b on the list at its place: if that is off nothing is hung
abbrev pub hang_on : Core → ℕ → Batch → ℕ → ℕ → ℕ → HungList → Move
hang_on k w batch b left hung Off = goes_on (with_task k w (hanged k batch b left hung))
hang_on k w batch b left hung Empty = goes_on (with_task (hung_at k (block k b).slot b None) w (hanged k batch b left (hung + 1)))
hang_on k w batch b left hung (Newest x) = goes_on (with_task (hung_at k (block k b).slot b (Some x)) w (hanged k batch b left (hung + 1)))

-- a hanging
abbrev pub try_hang : Core → ℕ → ℕ → ℕ → ℕ → Option Batch → Move
try_hang k w b left hung None = ends (idle k w) None
try_hang k w b left hung (Some batch) = hang_on k w batch b left hung (reservation k (block k b).slot).list

-- worker w has no batch and no task
abbrev pub emptied : Core → ℕ → Core
emptied k w = with_worker k w (record { takings = (worker k w).takings; task = Idle; batch = None; shows = (worker k w).shows })

-- the number hung, less 1,024, is added to the count, and the newest block is kept with the lead
abbrev pub settled : Core → Batch → ℕ → Core
settled k batch hung = with_block k batch.lead (with_count (block k batch.lead) ((block k batch.lead).count + hung - 1024) batch.newest)

-- the last turn: at a count of 0 the batch is given back
abbrev pub try_last : Core → ℕ → ℕ → Option Batch → Move
try_last k w hung None = ends (idle k w) None
try_last k w hung (Some batch) =
    let after = settled k batch hung in
    let back = due after batch.lead in
    record { core = emptied (all_pooled after back) w; taken = false; given = back; answer = Ok (false, None) }

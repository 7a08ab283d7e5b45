-- Looking at a cell: five steps, with a walk between the third and the fourth.
use Rattle.std.specs.Prelude.{ℕ, Bool, true, cond, Some, None, Option, ◌==◌, slice_set}
use Rattle.machine.specs.declared.refusals.Refusal.TheVariants.{Withdrawn}
use Rattle.machine.specs.declared.states.HungList.{HungList}
use Rattle.machine.specs.declared.states.HungList.TheVariants.{Off, Empty, Newest}
use Rattle.machine.specs.declared.states.Reservation.{Reservation}
use Rattle.machine.specs.declared.states.Task.{Task}
use Rattle.machine.specs.declared.states.Task.TheVariants.{Idle, LookCell, LookEra, LookList, LookWalk, LookAgain, LookWrite}
use Rattle.machine.specs.declared.states.Core.{Core}
use Rattle.machine.specs.State.{block, worker, reservation, place_of, with_reservation, with_worker, with_task, idle, live_block}
use Rattle.machine.specs.Cells.{home, held}
use Rattle.machine.specs.Moves.{Move, goes_on, ends, refused}
use Rattle.machine.specs.Walking.{handled}

-- whether a cell can still be read: it is an anchor, or a live block's link
abbrev pub readable : Core → Option ℕ → Bool
readable k None = true
readable k (Some b) = live_block k b

-- worker w's hold h shows x, and the worker has task t
abbrev pub with_shown : Core → ℕ → ℕ → Option ℕ → Task → Core
with_shown k w h x t = with_worker k w (record { takings = (worker k w).takings; task = t; batch = (worker k w).batch; shows = slice_set (worker k w).shows h x })

-- the reservation of worker w's hold h
abbrev pub own_reservation : Core → ℕ → ℕ → Reservation
own_reservation k w h = reservation k (place_of k w h)

-- it has another list
abbrev pub with_list : Core → ℕ → ℕ → HungList → Core
with_list k w h l = with_reservation k (place_of k w h) (record { list = l; era = (own_reservation k w h).era })

-- it has another era
abbrev pub with_own_era : Core → ℕ → ℕ → ℕ → Core
with_own_era k w h e = with_reservation k (place_of k w h) (record { list = (own_reservation k w h).list; era = e })

-- step 1 reads the cell
abbrev pub look_cell : Core → ℕ → ℕ → ℕ → Move
look_cell k w h c = cond (readable k (home c)) (goes_on (with_task k w (LookEra h c (held k c)))) (refused (idle k w) Withdrawn)

-- step 2 reads the era: where the reservation has it, the hold shows what step 1 read
abbrev pub look_era : Core → ℕ → ℕ → ℕ → Option ℕ → Move
look_era k w h c seen =
    cond (k.era == (own_reservation k w h).era)
    (ends (with_shown k w h seen Idle) seen)
    (goes_on (with_task k w (LookList h c k.era)))

-- step 3: an empty list leads to step 5; any other becomes empty, and its former blocks are walked before step 4
abbrev pub look_list : Core → ℕ → ℕ → ℕ → ℕ → HungList → Move
look_list k w h c e Off = goes_on (with_task (with_list k w h Empty) w (LookAgain h c))
look_list k w h c e Empty = goes_on (with_task k w (LookWrite h c e))
look_list k w h c e (Newest b) = goes_on (with_task (with_list k w h Empty) w (LookWalk h c b))

-- where a look goes after a block that stands over this one
abbrev pub look_on : ℕ → ℕ → Option ℕ → Task
look_on h c None = LookAgain h c
look_on h c (Some b) = LookWalk h c b

-- the walk of a look
abbrev pub look_walk : Core → ℕ → ℕ → ℕ → ℕ → Move
look_walk k w h c b = handled k w b (look_on h c (block k b).under)

-- step 4 reads the era
abbrev pub look_again : Core → ℕ → ℕ → ℕ → Move
look_again k w h c = goes_on (with_task k w (LookWrite h c k.era))

-- step 5 writes the era last read into the reservation; step 1 follows
abbrev pub look_write : Core → ℕ → ℕ → ℕ → ℕ → Move
look_write k w h c e = goes_on (with_task (with_own_era k w h e) w (LookCell h c))

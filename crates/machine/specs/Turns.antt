-- A turn: one step of a worker's task.
use Rattle.std.specs.Prelude.{ℕ, Bool, true, false, List, [], ◌∷◌, nat_lt}
use Rattle.machine.specs.declared.refusals.Refusal.{Refusal}
use Rattle.machine.specs.declared.refusals.Refusal.TheVariants.{Stranger, Idle as NoTask}
use Rattle.machine.specs.declared.states.Task.{Task}
use Rattle.machine.specs.declared.states.Task.TheVariants.{Idle, TakeEra, TakeBlock, LookCell, LookEra, LookList, LookWalk, LookAgain, LookWrite, DropList, DropWalk, DropEra, TryVisit, TryHang, TryLast}
use Rattle.machine.specs.declared.states.Core.{Core}
use Rattle.machine.specs.State.{worker}
use Rattle.machine.specs.Moves.{Move, refused, checked}
use Rattle.machine.specs.Taking.{take_era, take_block}
use Rattle.machine.specs.Looking.{own_reservation, look_cell, look_era, look_list, look_walk, look_again, look_write}
use Rattle.machine.specs.Dropping.{drop_list, drop_walk, drop_era}
use Rattle.machine.specs.Trying.{try_visit, try_hang, try_last}

-- whether there is no task
abbrev pub is_idle : Task → Bool
is_idle Idle = true
is_idle TakeEra = false
is_idle TakeBlock = false
is_idle (LookCell h c) = false
is_idle (LookEra h c seen) = false
is_idle (LookList h c e) = false
is_idle (LookWalk h c b) = false
is_idle (LookAgain h c) = false
is_idle (LookWrite h c e) = false
is_idle (DropList h) = false
is_idle (DropWalk h b) = false
is_idle (DropEra h) = false
is_idle (TryVisit r b aside) = false
is_idle (TryHang b left hung) = false
is_idle (TryLast hung) = false

-- the step of worker w's task, over a pool with these numbers in, of which n is handed out next
abbrev pub step : Core → List Bool → ℕ → ℕ → Task → Move
step k inside n w Idle = refused k NoTask
step k inside n w TakeEra = take_era k w
step k inside n w TakeBlock = take_block k inside n w
step k inside n w (LookCell h c) = look_cell k w h c
step k inside n w (LookEra h c seen) = look_era k w h c seen
step k inside n w (LookList h c e) = look_list k w h c e (own_reservation k w h).list
step k inside n w (LookWalk h c b) = look_walk k w h c b
step k inside n w (LookAgain h c) = look_again k w h c
step k inside n w (LookWrite h c e) = look_write k w h c e
step k inside n w (DropList h) = drop_list k w h (own_reservation k w h).list
step k inside n w (DropWalk h b) = drop_walk k w h b
step k inside n w (DropEra h) = drop_era k w h
step k inside n w (TryVisit r b aside) = try_visit k w r b aside (worker k w).batch
step k inside n w (TryHang b left hung) = try_hang k w b left hung (worker k w).batch
step k inside n w (TryLast hung) = try_last k w hung (worker k w).batch

-- the check of a turn; that the worker has a task is seen in its step
abbrev pub turn_checks : Core → ℕ → List (Bool × Refusal)
turn_checks k w = (nat_lt w k.form.workers, Stranger) ∷ []

-- turn
abbrev pub turn : Core → List Bool → ℕ → ℕ → Move
turn k inside n w = checked k (turn_checks k w) (step k inside n w (worker k w).task)

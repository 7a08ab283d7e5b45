-- The list that a step reads.
use Rattle.std.specs.Prelude.{ℕ, Some, None, Option}
use Rattle.machine.specs.declared.states.Batch.{Batch}
use Rattle.machine.specs.declared.states.HungList.{HungList}
use Rattle.machine.specs.declared.states.HungList.TheVariants.{Off}
use Rattle.machine.specs.declared.states.Task.{Task}
use Rattle.machine.specs.declared.states.Task.TheVariants.{Idle, TakeEra, TakeBlock, LookCell, LookEra, LookList, LookWalk, LookAgain, LookWrite, DropList, DropWalk, DropEra, TryVisit, TryHang, TryLast}
use Rattle.machine.specs.declared.states.Core.{Core}
use Rattle.machine.specs.State.{block, reservation, idle}
use Rattle.machine.specs.Moves.{Move, ends}
use Rattle.machine.specs.Trying.{hang_on}
use Rattle.machine.specs.Looking.{own_reservation}

-- what the list holds that the next step of worker w's task reads: off where it reads none
abbrev pub list_read : Core → ℕ → Task → HungList
list_read k w Idle = Off
list_read k w TakeEra = Off
list_read k w TakeBlock = Off
list_read k w (LookCell h c) = Off
list_read k w (LookEra h c seen) = Off
list_read k w (LookList h c e) = (own_reservation k w h).list
list_read k w (LookWalk h c b) = Off
list_read k w (LookAgain h c) = Off
list_read k w (LookWrite h c e) = Off
list_read k w (DropList h) = (own_reservation k w h).list
list_read k w (DropWalk h b) = Off
list_read k w (DropEra h) = Off
list_read k w (TryVisit r b aside) = Off
list_read k w (TryHang b left hung) = (reservation k (block k b).slot).list
list_read k w (TryLast hung) = Off

-- a hanging of block b by worker w, with its own batch, where the list at the block's place is l
abbrev pub hang_as : Core → ℕ → ℕ → ℕ → ℕ → HungList → Option Batch → Move
hang_as k w b left hung l None = ends (idle k w) None
hang_as k w b left hung l (Some batch) = hang_on k w batch b left hung l

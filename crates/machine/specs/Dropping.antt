-- Dropping a worker's holds, one after another.
use Rattle.std.specs.Prelude.{ℕ, ◌+◌, cond, Some, None, Option, nat_lt}
use Rattle.machine.specs.declared.states.HungList.{HungList}
use Rattle.machine.specs.declared.states.HungList.TheVariants.{Off, Empty, Newest}
use Rattle.machine.specs.declared.states.Task.{Task}
use Rattle.machine.specs.declared.states.Task.TheVariants.{DropList, DropWalk, DropEra}
use Rattle.machine.specs.declared.states.Core.{Core}
use Rattle.machine.specs.State.{block, with_task, idle}
use Rattle.machine.specs.Moves.{Move, goes_on, ends}
use Rattle.machine.specs.Walking.{handled}
use Rattle.machine.specs.Looking.{with_list, with_own_era}

-- what follows once the list is off: its former blocks are walked, and then the era is set to 0
abbrev pub drop_task : ℕ → HungList → Task
drop_task h Off = DropEra h
drop_task h Empty = DropEra h
drop_task h (Newest b) = DropWalk h b

-- the list of hold h, which has been `former`, is turned off
abbrev pub drop_list : Core → ℕ → ℕ → HungList → Move
drop_list k w h former = goes_on (with_task (with_list k w h Off) w (drop_task h former))

-- where a drop goes after a block that stands over this one
abbrev pub drop_on : ℕ → Option ℕ → Task
drop_on h None = DropEra h
drop_on h (Some b) = DropWalk h b

-- the walk of a drop
abbrev pub drop_walk : Core → ℕ → ℕ → ℕ → Move
drop_walk k w h b = handled k w b (drop_on h (block k b).under)

-- the era of hold h is set to 0; after the last hold the task ends
abbrev pub drop_era : Core → ℕ → ℕ → Move
drop_era k w h =
    cond (nat_lt (h + 1) k.form.holds)
    (goes_on (with_task (with_own_era k w h 0) w (DropList (h + 1))))
    (ends (idle (with_own_era k w h 0) w) None)

-- Walking the blocks that hung from a reservation, newest first, one in each turn.
use Rattle.std.specs.Prelude.{ℕ, zero, suc, ◌-◌, true, false, cond, List, [], ◌∷◌, Some, None, Ok, Option, ◌==◌}
use Rattle.machine.specs.declared.states.Standing.TheVariants.{Pooled}
use Rattle.machine.specs.declared.states.Block.{Block}
use Rattle.machine.specs.declared.states.Task.{Task}
use Rattle.machine.specs.declared.states.Core.{Core}
use Rattle.machine.specs.State.{block, with_block, with_task}
use Rattle.machine.specs.Moves.{Move}

-- a batch's blocks from one on, newest first and lead last, at most so many
abbrev pub members : ℕ → Core → Option ℕ → List ℕ
members zero k b = []
members (suc n) k None = []
members (suc n) k (Some b) = b ∷ members n k (block k b).elder

-- a block that is in the pool again
abbrev pub pooled : Block → Block
pooled x = record { standing = Pooled; owner = x.owner; birth = x.birth; links = x.links; names = x.names; under = x.under; slot = x.slot; elder = x.elder; lead = x.lead; count = x.count; newest = x.newest }

-- these blocks are
abbrev pub all_pooled : Core → List ℕ → Core
all_pooled k [] = k
all_pooled k (b ∷ bs) = all_pooled (with_block k b (pooled (block k b))) bs

-- a lead with another count and newest block of its batch
abbrev pub with_count : Block → ℕ → ℕ → Block
with_count x count newest = record { standing = x.standing; owner = x.owner; birth = x.birth; links = x.links; names = x.names; under = x.under; slot = x.slot; elder = x.elder; lead = x.lead; count = count; newest = newest }

-- the blocks of a lead's batch if its count is now 0, and otherwise none
abbrev pub due : Core → ℕ → List ℕ
due k lead = cond ((block k lead).count == 0) (members 2048 k (Some (block k lead).newest)) []

-- the count of a lead's batch goes down by one
abbrev pub count_down : Core → ℕ → Core
count_down k lead = with_block k lead (with_count (block k lead) ((block k lead).count - 1) (block k lead).newest)

-- one block is handled: the count of its batch goes down, and at 0 the batch is given back; then the task is t
abbrev pub handled : Core → ℕ → ℕ → Task → Move
handled k w b t =
    let after = count_down k (block k b).lead in
    let back = due after (block k b).lead in
    record { core = with_task (all_pooled after back) w t; taken = false; given = back; answer = Ok (true, None) }

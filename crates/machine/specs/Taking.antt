-- Taking a block from the pool, in two turns.
use Rattle.std.specs.Prelude.{ℕ, ◌+◌, Bool, true, false, cond, List, [], ◌∷◌, Some, None, Ok, Err, Result, ◌==◌, nat_lt}
use Rattle.pools.specs.declared.PoolFault.{PoolFault}
use Rattle.pools.specs.Meaning.{taken}
use Rattle.machine.specs.declared.refusals.Refusal.TheVariants.{Full, Dry, EraSpent}
use Rattle.machine.specs.declared.states.Standing.TheVariants.{Live}
use Rattle.machine.specs.declared.states.Block.{Block}
use Rattle.machine.specs.declared.states.Task.TheVariants.{TakeBlock}
use Rattle.machine.specs.declared.states.Core.{Core}
use Rattle.machine.specs.State.{block, worker, with_era, with_live, with_block, with_worker, idle}
use Rattle.machine.specs.Moves.{Move, goes_on, refused}

-- a taking count goes up, from one below the period back to 0
abbrev pub next_count : ℕ → ℕ → ℕ
next_count period n = cond (n + 1 == period) 0 (n + 1)

-- worker w's first turn is done
abbrev pub counted_up : Core → ℕ → Core
counted_up k w = with_worker k w (record { takings = next_count k.form.taking_period (worker k w).takings; task = TakeBlock; batch = (worker k w).batch; shows = (worker k w).shows })

-- first turn: at a taking count of 0 the era rises by one, unless it is at its end
abbrev pub take_era : Core → ℕ → Move
take_era k w =
    cond ((worker k w).takings == 0)
    (cond (k.era == 4294967295) (refused (idle k w) EraSpent) (goes_on (counted_up (with_era k (k.era + 1)) w)))
    (goes_on (counted_up k w))

-- a block that worker w has taken at era e
abbrev pub taken_block : Block → ℕ → ℕ → Block
taken_block x e w = record { standing = Live; owner = Some w; birth = e; links = None ∷ None ∷ []; names = x.names; under = x.under; slot = x.slot; elder = x.elder; lead = x.lead; count = x.count; newest = x.newest }

-- by what the pool answers: the block is live and owned, and is the value
abbrev pub took : Core → ℕ → Result ℕ PoolFault → Move
took k w (Ok b) = record { core = with_live (with_block (idle k w) b (taken_block (block k b) k.era w)) (k.live + 1); taken = true; given = []; answer = Ok (false, Some b) }
took k w (Err fault) = refused (idle k w) (Dry fault)

-- second turn: refused where as many blocks are live as may be, or where the pool refuses
abbrev pub take_block : Core → List Bool → ℕ → ℕ → Move
take_block k inside n w = cond (nat_lt k.live k.form.live) (took k w (taken inside n)) (refused (idle k w) Full)

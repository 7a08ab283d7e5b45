-- What the agreement of a keeper with its account rests on.
use Rattle.std.proofs.Common.{◌≡◌, ℕ, ◌<◌, ◌≤◌, Bool, true, false, List, length, get_or, ⊎_elim, arith}
use Rattle.std.proofs.lemmas.Bool.{cases_lt}
use Rattle.machine.specs.declared.states.Core.{Core}
use Rattle.machine.specs.State.{block}
use Rattle.machine.specs.Machine.{Step}
use Rattle.machine.specs.Runs.{Chosen}
use Rattle.machine.proofs.Standings.{is_pooled, AllRetired}

-- a block of the pool is pooled just where its number is in, and any other is pooled
pub record PooledIn (k : Core) (inside : List Bool) : Type 0 where
  pub within : (b : ℕ) → b < length inside → is_pooled (block k b).standing ≡ get_or inside b false
  pub past : (b : ℕ) → length inside ≤ b → is_pooled (block k b).standing ≡ true

-- what a call rests on, where n is the number that the pool hands out next
pub record Sides {R : Type 0} (k : Core) (inside : List Bool) (n : ℕ) (step : Step R) : Type 0 where
  -- the tables have room for each number of the pool and each worker of the form
  pub numbers : length inside ≤ length k.blocks.rows
  pub few : k.form.workers ≤ length k.workers
  -- what is pooled is in, before and after
  pub before : PooledIn k inside
  pub later : PooledIn step.to.core step.to.inside
  -- a number that is handed out is in, and blocks that are given back are retired
  pub chosen : Chosen inside n
  pub back : AllRetired k step.given

-- a block that is not pooled is one of the pool's
pub out_below : (k : Core) (inside : List Bool) → PooledIn k inside → (b : ℕ) → is_pooled (block k b).standing ≡ false → b < length inside
out_below k inside p b e = ⊎_elim
    (λ (l : b < length inside). l)
    (λ (l : length inside ≤ b). let in_pool = p.past b l in let z : ◌≡◌ {A = ℕ} 0 1 = cc in absurd (omega arith)) (cases_lt b (length inside))

-- How many blocks are live, and that a keeper keeps their number, which is at most as many as may be.
use Rattle.std.specs.Prelude.{◌≡◌, ℕ, ◌+◌, ◌≤◌, List, [], ◌∷◌, length}
use Rattle.pools.specs.Counts.{bit}
use Rattle.machine.specs.declared.states.Block.{Block}
use Rattle.machine.specs.declared.states.Core.{Core}
use Rattle.machine.specs.State.{is_live}

-- how many of these blocks are live
abbrev pub live_among : List Block → ℕ
live_among [] = 0
live_among (x ∷ xs) = bit (is_live x.standing) + live_among xs

-- how many blocks of a keeper are
abbrev pub living : Core → ℕ
living k = live_among k.blocks.rows

-- a keeper that knows how many blocks are live
pub record FewLive (k : Core) : Type 0 where
  -- there are 2,048 blocks
  pub rows : length k.blocks.rows ≡ 2048
  -- the number that it keeps is how many are live
  pub counted : k.live ≡ living k
  -- they are at most as many as may be
  pub few : k.live ≤ k.form.live

-- Which cells name a block: how many, that each block keeps their number, and that what is named is live.
use Rattle.std.specs.Prelude.{◌≡◌, ℕ, ◌+◌, ◌≤◌, true, cond, List, [], ◌∷◌, length, Option}
use Rattle.pools.specs.Counts.{bit}
use Rattle.machine.specs.declared.states.Block.{Block}
use Rattle.machine.specs.declared.states.Core.{Core}
use Rattle.machine.specs.State.{block, is_live, live_block}
use Rattle.machine.specs.Cells.{names_it}

-- how many of these contents name block b
abbrev pub among : List (Option ℕ) → ℕ → ℕ
among [] b = 0
among (x ∷ xs) b = bit (names_it x b) + among xs b

-- how many links of a block name block b: those of one that is not live do not count
abbrev pub from_block : Block → ℕ → ℕ
from_block x b = cond (is_live x.standing) (among x.links b) 0

-- how many links of these blocks do
abbrev pub from_blocks : List Block → ℕ → ℕ
from_blocks [] b = 0
from_blocks (x ∷ xs) b = from_block x b + from_blocks xs b

-- how many anchors and live blocks' links name block b
abbrev pub naming : Core → ℕ → ℕ
naming k b = among k.anchors b + from_blocks k.blocks.rows b

-- a keeper whose blocks know how many cells name them
pub record LinkedRight (k : Core) : Type 0 where
  -- there are sixteen anchors, 2,048 blocks, and two links of each live one
  pub anchors : length k.anchors ≡ 16
  pub blocks : length k.blocks.rows ≡ 2048
  pub links : (b : ℕ) → live_block k b ≡ true → length (block k b).links ≡ 2
  -- each block keeps the number of cells that name it
  pub counted : (b : ℕ) → (block k b).names ≡ naming k b
  -- what is named is live
  pub alive : (b : ℕ) → 1 ≤ naming k b → live_block k b ≡ true

-- The cells: sixteen anchors, then two links of each block.
use Rattle.std.specs.Prelude.{ℕ, ◌+◌, ◌-◌, ◌*◌, ◌/◌, ◌%◌, Bool, true, false, cond, Some, None, Option, ◌==◌, nat_lt, slice_index_or, slice_set}
use Rattle.machine.specs.declared.states.Block.{Block}
use Rattle.machine.specs.declared.states.Core.{Core}
use Rattle.machine.specs.State.{block, with_block, with_anchor, one_more}

-- how many cells there are
abbrev pub cells : Core → ℕ
cells k = 16 + 2 * k.form.blocks

-- the block that has a cell as its link
abbrev pub home_block : ℕ → ℕ
home_block c = (c - 16) / 2

-- which of that block's links the cell is
abbrev pub home_link : ℕ → ℕ
home_link c = (c - 16) % 2

-- the cell's own block: none where it is an anchor
abbrev pub home : ℕ → Option ℕ
home c = cond (nat_lt c 16) None (Some (home_block c))

-- what a cell holds
abbrev pub held : Core → ℕ → Option ℕ
held k c = cond (nat_lt c 16) (slice_index_or k.anchors c None) (slice_index_or (block k (home_block c)).links (home_link c) None)

-- a block with another link
abbrev pub with_link : Block → ℕ → Option ℕ → Block
with_link x i to = record { standing = x.standing; owner = x.owner; birth = x.birth; links = slice_set x.links i to; names = x.names; under = x.under; slot = x.slot; elder = x.elder; lead = x.lead; count = x.count; newest = x.newest }

-- a cell holds something else
abbrev pub with_cell : Core → ℕ → Option ℕ → Core
with_cell k c to = cond (nat_lt c 16) (with_anchor k c to) (with_block k (home_block c) (with_link (block k (home_block c)) (home_link c) to))

-- a block that so many anchors and live links name
abbrev pub with_names : Block → ℕ → Block
with_names x n = record { standing = x.standing; owner = x.owner; birth = x.birth; links = x.links; names = n; under = x.under; slot = x.slot; elder = x.elder; lead = x.lead; count = x.count; newest = x.newest }

-- one cell more names a block, if it is one
abbrev pub named_more : Core → Option ℕ → Core
named_more k None = k
named_more k (Some b) = with_block k b (with_names (block k b) (one_more (block k b).names))

-- one cell fewer does
abbrev pub named_less : Core → Option ℕ → Core
named_less k None = k
named_less k (Some b) = with_block k b (with_names (block k b) ((block k b).names - 1))

-- whether a cell's content is this block
abbrev pub names_it : Option ℕ → ℕ → Bool
names_it None b = false
names_it (Some a) b = a == b

-- whether two contents are the same
abbrev pub same_content : Option ℕ → Option ℕ → Bool
same_content None None = true
same_content None (Some b) = false
same_content (Some a) None = false
same_content (Some a) (Some b) = a == b

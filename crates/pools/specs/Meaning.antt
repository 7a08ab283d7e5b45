-- What the moves answer and leave, by the list that says of each number whether it is in.
use Rattle.std.specs.Prelude.{◌≡◌, ℕ, Bool, true, false, cond, not, ◌&&◌, List, length, Ok, Err, Result, ◌==◌, nat_lt, slice_index_or, slice_set}
use Rattle.pools.specs.declared.PoolFault.{PoolFault}
use Rattle.pools.specs.declared.PoolFault.TheVariants.{NoneIn, NotOut}
use Rattle.pools.specs.Counts.{tally}

-- what a take answers: refused exactly where none is in, otherwise the next number
abbrev pub taken : List Bool → ℕ → Result ℕ PoolFault
taken inside next = cond (tally inside == 0) (Err NoneIn) (Ok next)

-- what is in after a take: that number is out, and no other moved
abbrev pub left : List Bool → ℕ → List Bool
left inside next = cond (tally inside == 0) inside (slice_set inside next false)

-- whether a number is out: the pool has it, and it is not in
abbrev pub is_out : List Bool → ℕ → Bool
is_out inside n = nat_lt n (length inside) && not (slice_index_or inside n false)

-- what a give answers: refused exactly where the number is not out
abbrev pub given : List Bool → ℕ → Result (Unit {0}) PoolFault
given inside n = cond (is_out inside n) (Ok tt) (Err NotOut)

-- what is in after a give: that number, if the pool has it, and no other moved
abbrev pub gained : List Bool → ℕ → List Bool
gained inside n = slice_set inside n true

-- a refusal leaves the pool as it was
abbrev pub Unmoved : {A P : Type 0} → Result A PoolFault → P → P → Type 0
Unmoved (Ok x) old new = Unit {0}
Unmoved (Err refusal) old new = new ≡ old

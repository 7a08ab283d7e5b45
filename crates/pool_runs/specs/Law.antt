-- The law of every run: no number is lost, and none is there twice.
use Rattle.std.specs.Prelude.{◌≡◌, ℕ, ◌+◌, Bool, false, List, [], length, take, nat_lt, slice_index_or}
use Rattle.pools.specs.Counts.{bit, tally, times}
use Rattle.pool_runs.specs.declared.moves.Move.{Move}
use Rattle.pool_runs.specs.Runs.{Answer, Answered, ends, outstanding}

-- the numbers that are in, together with those listed as out, are each number of the pool exactly once, and no other
abbrev pub EachOnce : List Bool → List ℕ → Type 0
EachOnce inside out = (n : ℕ) → bit (slice_index_or inside n false) + times n out ≡ bit (nat_lt n (length inside))

-- so it is before the moves, and after each of them
abbrev pub Throughout : List Bool → List ℕ → List Move → List Answer → Type 0
Throughout inside out moves answers = (k : ℕ) → EachOnce (ends inside (take k moves) answers) (outstanding out (take k moves) answers)

-- the moves were made from one set of numbers in to another, with these answers
pub record Played (inside : List Bool) (moves : List Move) (answers : List Answer) (end : List Bool) : Type 0 where
  -- each move was made, and answered as a pool answers
  pub answered : Answered inside moves answers
  -- what is in at the end follows from the answers alone
  pub leads : end ≡ ends inside moves answers
  -- started full, each number is always in or out, and once
  pub from_full : tally inside ≡ length inside → Throughout inside [] moves answers
  -- and so from any start at which the numbers out are known
  pub from_any : (out : List ℕ) → EachOnce inside out → Throughout inside out moves answers

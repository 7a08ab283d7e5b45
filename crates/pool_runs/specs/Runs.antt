-- A run: moves and their answers, by the list that says of each number whether it is in.
use Rattle.std.specs.Prelude.{◌≡◌, ℕ, Bool, true, false, cond, List, [], ◌∷◌, Ok, Err, Result, ◌==◌, slice_index_or, slice_set}
use Rattle.pools.specs.declared.PoolFault.{PoolFault}
use Rattle.pools.specs.declared.PoolFault.TheVariants.{NoneIn, NotOut}
use Rattle.pools.specs.Counts.{tally}
use Rattle.pools.specs.Meaning.{is_out}
use Rattle.pool_runs.specs.declared.moves.Move.{Move}
use Rattle.pool_runs.specs.declared.moves.Move.TheVariants.{Take, Give}
use Rattle.pool_runs.specs.declared.moves.Outcome.{Outcome}
use Rattle.pool_runs.specs.declared.moves.Outcome.TheVariants.{HandedOut, TakenBack}

-- what a move answers
abbrev pub Answer : Type 0
Answer = Result Outcome PoolFault

-- the answer is a pool's: a take hands out a number that is in, a give takes back one that is out, and only else are they refused
abbrev pub Right : List Bool → Move → Answer → Type 0
Right inside Take (Ok (HandedOut n)) = slice_index_or inside n false ≡ true
Right inside Take (Ok TakenBack) = ⊥
Right inside Take (Err refusal) = (refusal ≡ NoneIn) × (tally inside ≡ 0)
Right inside (Give n) (Ok (HandedOut m)) = ⊥
Right inside (Give n) (Ok TakenBack) = is_out inside n ≡ true
Right inside (Give n) (Err refusal) = (refusal ≡ NotOut) × (is_out inside n ≡ false)

-- what is in after a move: a number handed out is out, one taken back is in, and no other moved
abbrev pub after : List Bool → Move → Answer → List Bool
after inside Take (Ok (HandedOut n)) = slice_set inside n false
after inside Take (Ok TakenBack) = inside
after inside Take (Err refusal) = inside
after inside (Give n) (Ok (HandedOut m)) = inside
after inside (Give n) (Ok TakenBack) = slice_set inside n true
after inside (Give n) (Err refusal) = inside

-- a list without the number n, at its first place
abbrev pub without : ℕ → List ℕ → List ℕ
without n [] = []
without n (x ∷ xs) = cond (x == n) xs (x ∷ without n xs)

-- the numbers handed out and not given back, kept from the moves and their answers alone
abbrev pub holding : List ℕ → Move → Answer → List ℕ
holding out Take (Ok (HandedOut n)) = n ∷ out
holding out Take (Ok TakenBack) = out
holding out Take (Err refusal) = out
holding out (Give n) (Ok (HandedOut m)) = out
holding out (Give n) (Ok TakenBack) = without n out
holding out (Give n) (Err refusal) = out

-- every move has its answer, and each is right for what was in before it
abbrev pub Answered : List Bool → List Move → List Answer → Type 0
Answered inside [] [] = Unit {0}
Answered inside [] (r ∷ rs) = ⊥
Answered inside (m ∷ ms) [] = ⊥
Answered inside (m ∷ ms) (r ∷ rs) = Right inside m r × Answered (after inside m r) ms rs

-- what is in after a run
abbrev pub ends : List Bool → List Move → List Answer → List Bool
ends inside [] rs = inside
ends inside (m ∷ ms) [] = inside
ends inside (m ∷ ms) (r ∷ rs) = ends (after inside m r) ms rs

-- which numbers are handed out and not given back after a run, where these were before it
abbrev pub outstanding : List ℕ → List Move → List Answer → List ℕ
outstanding out [] rs = out
outstanding out (m ∷ ms) [] = out
outstanding out (m ∷ ms) (r ∷ rs) = outstanding (holding out m r) ms rs

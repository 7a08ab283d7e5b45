-- Each number of the pool is in or out, and once.
use Rattle.std.proofs.Common.{◌≡◌, ℕ, zero, suc, ◌+◌, ◌<◌, Bool, true, false, eqb, List, [], ◌∷◌, length, get_or, set, Ok, Err, arith}
use Rattle.std.proofs.lemmas.Bool.Decides.{nat_tests}
use Rattle.std.proofs.lemmas.Grind.{common_steps}
use Rattle.pools.specs.Counts.{bit, tally, times}
use Rattle.pools.specs.Meaning.{is_out}
use Rattle.pools.specs.CountsLemmas.{bit_out, bit_in, tally_full}
use Rattle.pool_runs.specs.declared.moves.Move.{Move}
use Rattle.pool_runs.specs.declared.moves.Move.TheVariants.{Take, Give}
use Rattle.pool_runs.specs.declared.moves.Outcome.TheVariants.{HandedOut, TakenBack}
use Rattle.pool_runs.specs.Runs.{Answer, Right, after, without, holding, Answered}
use Rattle.pool_runs.specs.Law.{EachOnce, Throughout}

-- a list that has the number x is one without it, and x
times_without : (x n : ℕ) (xs : List ℕ) → 0 < times x xs → times n (without x xs) + bit (eqb x n) ≡ times n xs
times_without x n [] l = absurd (omega arith)
times_without x n (y ∷ ys) l = grind (arith, nat_tests, times_without x n ys)

-- a number goes out
once_out : (inside : List Bool) (out : List ℕ) (x : ℕ) → get_or inside x false ≡ true → EachOnce inside out → EachOnce (set inside x false) (x ∷ out)
once_out inside out x e h n = grind (arith, common_steps, h n, bit_out inside x n)

-- a number comes back
once_back : (inside : List Bool) (out : List ℕ) (x : ℕ) → is_out inside x ≡ true → EachOnce inside out → EachOnce (set inside x true) (without x out)
once_back inside out x e h n = grind (arith, nat_tests, common_steps, h x, h n, bit_in inside x n, times_without x n out)

pub once_after : (inside : List Bool) (out : List ℕ) (m : Move) (r : Answer) → Right inside m r → EachOnce inside out → EachOnce (after inside m r) (holding out m r)
once_after inside out Take (Ok (HandedOut x)) right h = once_out inside out x right h
once_after inside out Take (Ok TakenBack) right h = absurd right
once_after inside out Take (Err refusal) right h = h
once_after inside out (Give x) (Ok (HandedOut y)) right h = absurd right
once_after inside out (Give x) (Ok TakenBack) right h = once_back inside out x right h
once_after inside out (Give x) (Err refusal) right h = h

pub throughout : (inside : List Bool) (out : List ℕ) (ms : List Move) (rs : List Answer) → Answered inside ms rs → EachOnce inside out → Throughout inside out ms rs
throughout inside out ms rs a h zero = h
throughout inside out [] rs a h (suc k) = h
throughout inside out (m ∷ ms) [] a h (suc k) = h
throughout inside out (m ∷ ms) (r ∷ rs) a h (suc k) = throughout (after inside m r) (holding out m r) ms rs a.1 (once_after inside out m r a.0 h) k

-- a full pool has no number out
pub once_full : (inside : List Bool) → tally inside ≡ length inside → EachOnce inside []
once_full inside e n = grind (arith, nat_tests, common_steps, tally_full inside e)

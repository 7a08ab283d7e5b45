-- The structure of batches and cells, over every run.
use Rattle.std.specs.Prelude.{◌≡◌, ℕ, ◌+◌, ◌*◌, ◌≤◌, true, ◌&&◌, ◌⊎◌, List, [], ◌∷◌, length, replicate, Some, None, Ok, Err, Option, ◌==◌}
use Rattle.figures.specs.Limits.{Fit}
use Rattle.figures.specs.declared.limits.Form.{Form}
use Rattle.pools.specs.Counts.{bit, times}
use Rattle.machine.specs.declared.calls.Call.{Call}
use Rattle.machine.specs.declared.states.Core.{Core}
use Rattle.machine.specs.State.{block}
use Rattle.machine.specs.Machine.{State, Reply, Step, after}
use Rattle.machine.specs.Runs.{Chosen, start}
use Rattle.machine.specs.Account.{Account, opened, noted, is_retired, Agrees, OneStanding}
use Rattle.machine.specs.Batches.{Waits}
use Rattle.machine.specs.Linking.{naming}
use Rattle.machine.specs.Living.{living}
use Rattle.machine.specs.BatchSizes.{batch_count}

-- at each call the number that the pool hands out next is in, if any is
abbrev pub Handed : {R : Type 0} → State R → List (Call R) → List ℕ → Type 0
Handed s [] ns = Unit {0}
Handed s (c ∷ cs) [] = Chosen s.inside 0 × Handed (after s c 0).to cs []
Handed s (c ∷ cs) (n ∷ ns) = Chosen s.inside n × Handed (after s c n).to cs ns

-- a law of every state, with the account that is kept so far, and a law of every call, throughout a run
abbrev pub Throughout : {R : Type 0} → (Account → State R → Type 0) → (State R → Step R → Type 0) → Account → State R → List (Call R) → List ℕ → Type 0
Throughout state call a s [] ns = state a s
Throughout state call a s (c ∷ cs) [] = state a s × call s (after s c 0) × Throughout state call (noted a c (after s c 0).reply (after s c 0).to.inside) (after s c 0).to cs []
Throughout state call a s (c ∷ cs) (n ∷ ns) = state a s × call s (after s c n) × Throughout state call (noted a c (after s c n).reply (after s c n).to.inside) (after s c n).to cs ns

-- the last of a list
abbrev pub Last : ℕ → List ℕ → Type 0
Last l [] = ⊥
Last l (x ∷ []) = x ≡ l
Last l (x ∷ y ∷ ys) = Last l (y ∷ ys)

-- each of a list names the next, and the last names none
abbrev pub Follow : (ℕ → Option ℕ) → List ℕ → Type 0
Follow elder [] = Unit {0}
Follow elder (x ∷ []) = elder x ≡ None
Follow elder (x ∷ y ∷ ys) = (elder x ≡ Some y) × Follow elder (y ∷ ys)

-- blocks are none, or all the blocks of one batch, each once, newest first and its lead last
abbrev pub WholeBatch : Core → List ℕ → Type 0
WholeBatch k bs = (bs ≡ []) ⊎ ((l : ℕ) × Last l bs × Follow (λ b. (block k b).elder) bs × ((b : ℕ) → times b bs ≡ bit (is_retired (block k b).standing && (block k b).lead == l)))

-- an answer says that so many blocks were given back
abbrev pub Tells : {R : Type 0} → Reply R → ℕ → Type 0
Tells (Ok a) n = a.given ≡ n
Tells (Err fault) n = Unit {0}

-- a call gives back nothing or a whole batch, and says how many blocks that are
pub record GivesRight {R : Type 0} (s : State R) (step : Step R) : Type 0 where
  pub whole : WholeBatch s.core step.given
  pub told : Tells step.reply (length step.given)

-- what is so at every moment
pub record Structured {R : Type 0} (a : Account) (s : State R) : Type 0 where
  -- each block is pooled, live or retired, one of these, by the calls, their answers and the pool; and the keeper's own mark says the same
  pub one_standing : OneStanding a s.inside
  pub agrees : Agrees a s.core
  -- a retired block is in a worker's own batch, or its batch hangs; and while it hangs, its count is not 0
  pub waits : Waits s.core
  -- an anchor or a live block's link names only a live block, and the kept number is how many do
  pub named_live : (b : ℕ) → 1 ≤ naming s.core b → a.live b ≡ true
  pub names_counted : (b : ℕ) → (block s.core b).names ≡ naming s.core b
  -- no more blocks are live than may be, and the kept number is how many are
  pub few_live : living s.core ≤ s.core.form.live
  pub live_counted : s.core.live ≡ living s.core
  -- a batch has at most one block for each reservation and one more trying period
  pub short : (l : ℕ) → batch_count s.core l ≤ s.core.form.workers * s.core.form.holds + s.core.form.trying_period

-- over every run of every keeper within its limits, every choice of the pool and every table of records R
abbrev pub StructureStands : Type 0 → Type 0
StructureStands R =
    (form : Form) (table : List R) (calls : List (Call R)) (numbers : List ℕ) → Fit form
    → Handed (start form (replicate form.blocks true) table) calls numbers
    → Throughout Structured GivesRight opened (start form (replicate form.blocks true) table) calls numbers

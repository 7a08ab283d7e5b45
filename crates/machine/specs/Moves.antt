-- What a call or a step does to a keeper, and what that comes to over its pool.
use Rattle.std.specs.Prelude.{ℕ, ◌+◌, Bool, true, false, cond, List, [], ◌∷◌, None, Ok, Err, Option, Result, slice_set}
use Rattle.pools.specs.Counts.{bit}
use Rattle.pools.specs.Meaning.{is_out, gained}
use Rattle.machine.specs.declared.refusals.Refusal.{Refusal}
use Rattle.machine.specs.declared.states.Core.{Core}

-- the keeper afterwards, whether the pool's next number is taken, the blocks given back in order, and the answer:
-- whether the task goes on, and its value
pub record Move : Type 0 where
  pub core : Core
  pub taken : Bool
  pub given : List ℕ
  pub answer : Result (Bool × Option ℕ) Refusal

-- the task goes on
abbrev pub goes_on : Core → Move
goes_on k = record { core = k; taken = false; given = []; answer = Ok (true, None) }

-- the call or task is finished with a value
abbrev pub ends : Core → Option ℕ → Move
ends k v = record { core = k; taken = false; given = []; answer = Ok (false, v) }

-- it is refused
abbrev pub refused : Core → Refusal → Move
refused k r = record { core = k; taken = false; given = []; answer = Err r }

-- checks in order, each with whether it is passed and the refusal if not; then what is done where all are passed
abbrev pub checked : Core → List (Bool × Refusal) → Move → Move
checked k [] m = m
checked k (c ∷ cs) m = cond c.0 (checked k cs m) (refused k c.1)

-- the keeper afterwards, which numbers are in its pool, and the answer with the number of blocks given back
pub record Outcome : Type 0 where
  pub core : Core
  pub inside : List Bool
  pub answer : Result (Bool × Option ℕ × ℕ) Refusal

-- which numbers are in after a taking of n, if there is one
abbrev pub drawn : Bool → List Bool → ℕ → List Bool
drawn taken inside n = cond taken (slice_set inside n false) inside

-- which are in after blocks are given back, one after another
abbrev pub gained_all : List Bool → List ℕ → List Bool
gained_all inside [] = inside
gained_all inside (b ∷ bs) = gained_all (gained inside b) bs

-- by how many the pool gains
abbrev pub gain : List Bool → List ℕ → ℕ
gain inside [] = 0
gain inside (b ∷ bs) = bit (is_out inside b) + gain (gained inside b) bs

-- an answer with the number of blocks given back
abbrev pub counted : Result (Bool × Option ℕ) Refusal → ℕ → Result (Bool × Option ℕ × ℕ) Refusal
counted (Ok a) n = Ok (a.0, a.1, n)
counted (Err r) n = Err r

-- a move over a pool with these numbers in, of which n is handed out next
abbrev pub over : Move → List Bool → ℕ → Outcome
over m inside n = record { core = m.core; inside = gained_all (drawn m.taken inside n) m.given; answer = counted m.answer (gain (drawn m.taken inside n) m.given) }

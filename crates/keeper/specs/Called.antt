-- What a keeper's code comes to, set beside the machine's moves.
use Rattle.std.specs.Prelude.{ℕ, Bool, false, List, [], Ok, Err, Option, Result}
use Rattle.machine.specs.declared.refusals.KeeperFault.{KeeperFault}
use Rattle.machine.specs.declared.refusals.Refusal.{Refusal}
use Rattle.machine.specs.declared.states.Core.{Core}
use Rattle.machine.specs.Moves.{Move, Outcome}

-- a move that does not use the pool: the keeper afterwards, and whether the task goes on with what value, or the refusal
abbrev pub plain : Core → Result (Bool × Option ℕ) Refusal → Move
plain k a = record { core = k; taken = false; given = []; answer = a }

-- the keeper afterwards, which numbers are in its pool, and the answer with the number of blocks given back
abbrev pub outcome : Core → List Bool → Result (Bool × Option ℕ × ℕ) Refusal → Outcome
outcome k inside a = record { core = k; inside = inside; answer = a }

-- what a call comes to: the keeper, which numbers are in its pool, and what the caller is told
pub record Called : Type 0 where
  pub core : Core
  pub inside : List Bool
  pub answer : Result (Bool × Option ℕ × ℕ) KeeperFault

-- a refusal is reported with the worker that was given
abbrev pub placed : ℕ → Result (Bool × Option ℕ × ℕ) Refusal → Result (Bool × Option ℕ × ℕ) KeeperFault
placed w (Ok a) = Ok a
placed w (Err r) = Err (record { refusal = r; place = w })

-- these three
abbrev pub called : Core → List Bool → Result (Bool × Option ℕ × ℕ) KeeperFault → Called
called k inside a = record { core = k; inside = inside; answer = a }

-- an outcome as a call of worker w
abbrev pub call_of : ℕ → Outcome → Called
call_of w o = called o.core o.inside (placed w o.answer)

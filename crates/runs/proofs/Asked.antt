-- What a call comes to, as the machine has it.
use Rattle.std.proofs.Common.{◌≡◌, ℕ, Bool, Ok, Err, Option, Result, refl}
use Rattle.machine.specs.declared.refusals.Refusal.{Refusal}
use Rattle.machine.specs.Machine.{Reply, told}
use Rattle.keeper.specs.Called.{placed}
use Rattle.runs.specs.Replies.{reply_of}

-- a reply is what the caller was told
pub placed_told : {R : Type 0} (w : ℕ) (a : Result (Bool × Option ℕ × ℕ) Refusal) → ◌≡◌ {A = Reply R} (reply_of (placed w a)) (told w a)
placed_told w (Ok a) = refl
placed_told w (Err r) = refl

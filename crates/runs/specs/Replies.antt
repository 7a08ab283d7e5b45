-- What a call answers, as the machine's reply.
use Rattle.std.specs.Prelude.{ℕ, Bool, Ok, Err, Option, Result}
use Rattle.std.specs.Option.{option_map}
use Rattle.machine.specs.declared.calls.Value.TheVariants.{Block}
use Rattle.machine.specs.declared.refusals.KeeperFault.{KeeperFault}
use Rattle.machine.specs.Machine.{Reply}

-- whether the task goes on, its value, a block, and the blocks given back; or the refusal
abbrev pub reply_of : {R : Type 0} → Result (Bool × Option ℕ × ℕ) KeeperFault → Reply R
reply_of (Ok a) = Ok (record { goes_on = a.0; value = option_map Block a.1; given = a.2 })
reply_of (Err refused) = Err refused

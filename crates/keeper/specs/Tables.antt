-- A keeper with its pool and a table of records as a state of the machine, and what a write and a read answer.
use Rattle.std.specs.Prelude.{◌≡◌, Bool, true, false, ◌⊎◌, List, Some, None, Ok, Err, Result}
use Rattle.machine.specs.declared.calls.Value.TheVariants.{Record}
use Rattle.machine.specs.declared.refusals.KeeperFault.{KeeperFault}
use Rattle.machine.specs.declared.refusals.Refusal.{Refusal}
use Rattle.machine.specs.declared.refusals.Refusal.TheVariants.{Busy, Misfit}
use Rattle.machine.specs.declared.states.Core.{Core}
use Rattle.machine.specs.Machine.{State, Reply, finished}

-- the keeper's core, which numbers are in its pool, and the table
abbrev pub state : {R : Type 0} → Core → List Bool → List R → State R
state k inside table = record { core = k; inside = inside; table = table }

-- a write is finished with no value
abbrev pub wrote : {R : Type 0} → Result (Unit {0}) KeeperFault → Reply R
wrote (Ok x) = finished None
wrote (Err refused) = Err refused

-- a read is finished with the record
abbrev pub showed : {R : Type 0} → Result R KeeperFault → Reply R
showed (Ok x) = finished (Some (Record x))
showed (Err refused) = Err refused

-- the two checks that a write and a read share, in their order: the worker is free, and the table has an entry for each block
abbrev pub Serves : Bool → Bool → Result (Unit {0}) Refusal → Type 0
Serves idle whole (Ok x) = (idle ≡ true) × (whole ≡ true)
Serves idle whole (Err refused) = ((refused ≡ Busy) × (idle ≡ false)) ⊎ ((refused ≡ Misfit) × (idle ≡ true) × (whole ≡ false))

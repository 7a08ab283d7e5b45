-- A keeper's refusals as they are reported.
use Rattle.std.specs.Prelude.{ℕ}
use Rattle.faults.specs.declared.Fault.{Fault}
use Rattle.faults.specs.declared.Layer.TheVariants.{Keeper}
use Rattle.machine.specs.declared.refusals.KeeperFault.{KeeperFault}
use Rattle.machine.specs.declared.refusals.Refusal.{Refusal}
use Rattle.machine.specs.declared.refusals.Refusal.TheVariants.{Misfit, Stranger, Busy, Idle, OutOfHand, Withdrawn, Linked, Full, Dry, EraSpent, SelfLink, Moved}

-- each refusal's number
abbrev pub number : Refusal → ℕ
number Misfit = 1
number Stranger = 2
number Busy = 3
number Idle = 4
number OutOfHand = 5
number Withdrawn = 6
number Linked = 7
number Full = 8
number (Dry refused) = 9
number EraSpent = 10
number SelfLink = 11
number Moved = 12

-- what is reported: layer, number and place
abbrev pub fault : KeeperFault → Fault
fault refused = record { layer = Keeper; number = number refused.refusal; place = refused.place }

-- Each refusal's number, and the fault that it is reported as.
use Rattle.std.specs.Prelude.{ℕ}
use Rattle.faults.specs.declared.Fault.{Fault}
use Rattle.faults.specs.declared.Layer.TheVariants.{Keeper}
use Rattle.figures.specs.declared.refusals.Refusal.{Refusal}
use Rattle.figures.specs.declared.refusals.Refusal.TheVariants.{Misfit}

-- each refusal's number
abbrev pub number : Refusal → ℕ
number (Misfit figure) = 1

-- a making is refused by the keeper, and there is no worker to point at
abbrev pub fault : Refusal → Fault
fault refusal = record { layer = Keeper; number = number refusal; place = 0 }

-- A pool's refusals as they are reported.
use Rattle.std.specs.Prelude.{ℕ}
use Rattle.faults.specs.declared.Fault.{Fault}
use Rattle.faults.specs.declared.Layer.TheVariants.{Pool}
use Rattle.pools.specs.declared.PoolFault.{PoolFault}
use Rattle.pools.specs.declared.PoolFault.TheVariants.{Misfit, NoneIn, NotOut}

-- each refusal's number
abbrev pub number : PoolFault → ℕ
number Misfit = 1
number NoneIn = 17
number NotOut = 18

-- what is reported: layer, number and place
abbrev pub fault : PoolFault → Fault
fault refusal = record { layer = Pool; number = number refusal; place = 0 }

-- How a fault is printed.
use Rattle.std.specs.Prelude.{ℕ, List, ◌++◌, codes, decimal}
use Rattle.faults.specs.declared.Layer.{Layer}
use Rattle.faults.specs.declared.Layer.TheVariants.{Record, Keeper, Pool}
use Rattle.faults.specs.declared.Fault.{Fault}

-- the name of a layer
abbrev pub word : Layer → List ℕ
word Record = codes "record"
word Keeper = codes "keeper"
word Pool = codes "pool"

-- a fault: its layer, its number and its place, with a blank between two
abbrev pub printed : Fault → List ℕ
printed fault = word fault.layer ++ (codes " " ++ (decimal fault.number ++ (codes " " ++ decimal fault.place)))

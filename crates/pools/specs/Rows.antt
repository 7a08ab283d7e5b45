-- A row's meaning.
use Rattle.std.specs.Prelude.{ℕ, Bool, List}
use Rattle.pools.specs.declared.row.Row.{Row}
use Rattle.pools.specs.Orders.{ringed}

-- for each number, whether it is in
abbrev pub members : Row → List Bool
members row = row.numbers

-- the numbers in, the one handed out next first
abbrev pub order : Row → List ℕ
order row = ringed row.spots row.head row.held

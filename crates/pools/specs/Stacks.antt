-- A stack's meaning.
use Rattle.std.specs.Prelude.{ℕ, Bool, List, length}
use Rattle.pools.specs.declared.stack.Stack.{Stack}
use Rattle.pools.specs.Orders.{stacked}

-- for each number, whether it is in
abbrev pub members : Stack → List Bool
members stack = stack.numbers

-- the numbers in, the one handed out next first
abbrev pub order : Stack → List ℕ
order stack = stacked (length stack.numbers) stack.top stack.spots

-- The words of a scenario.
use Rattle.std.specs.Prelude.{◌≡◌, ℕ, List, map, Option}
use Rattle.std.specs.Option.{unwrap_or}
use Rattle.std.specs.Result.{result_ok}
use Rattle.figures.specs.declared.limits.Form.{Form}
use Rattle.records.specs.Readings.{decoded_reading}
use Rattle.records.specs.declared.readings.Reading.{Reading}
use Rattle.records.specs.declared.readings.Reading.TheVariants.{Missing}
use Rattle.machine.specs.declared.calls.Call.{Call}
use Rattle.machine.specs.declared.calls.Value.{Value}
use Rattle.machine.specs.Examples.{made}
use Rattle.machine.specs.Runs.{Line, line, on_stack, in_row, replies_beside}

-- where a pool puts a number that is given back
abbrev pub Puts : Type 0
Puts = List ℕ → ℕ → List ℕ

-- a stack's pool
abbrev pub stack : Puts
stack = on_stack

-- a row's pool
abbrev pub row : Puts
row = in_row

-- the reading in eight bytes
abbrev pub reading : List ℕ → Reading
reading bytes = unwrap_or (result_ok (decoded_reading bytes)) Missing

-- a line: its status, its value, and the blocks given back
abbrev pub prints : ℕ → Option (Value Reading) → ℕ → Line Reading
prints status value given = record { status = status; value = value; given = given }

-- calls over a pool, from the making of a keeper, and the lines that a model prints at them
pub record Scenario : Type 0 where
  pub puts : Puts
  pub form : Form
  pub calls : List (Call Reading)
  pub lines : List (Line Reading)

-- the machine prints these lines at these calls
abbrev pub Agrees : Scenario → Type 0
Agrees s = map line (replies_beside s.puts (made s.form) s.calls) ≡ s.lines

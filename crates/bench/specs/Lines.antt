-- The line that is printed of a call.
use Rattle.std.specs.Prelude.{ℕ, ◌+◌, cond, List, ◌++◌, map, Some, None, Ok, Err, codes, decimal, Option}
use Rattle.std.specs.List.{enumerate_from}
use Rattle.std.specs.Option.{option_map, option_map_or}
use Rattle.faults.specs.declared.Fault.{Fault}
use Rattle.records.specs.Hexadecimal.{bytes_digits}
use Rattle.machine.specs.declared.calls.Value.{Value}
use Rattle.machine.specs.declared.calls.Value.TheVariants.{Block, Record}
use Rattle.machine.specs.Machine.{Reply}
use Rattle.machine.specs.Refusals.{fault}
use Rattle.machine.specs.Runs.{line}
use Rattle.bench.specs.declared.lines.Status.{Status}
use Rattle.bench.specs.declared.lines.Status.TheVariants.{Finished, GoesOn, Refused}
use Rattle.bench.specs.declared.lines.Shown.{Shown}
use Rattle.bench.specs.declared.lines.Shown.TheVariants.{Number, Bytes}
use Rattle.bench.specs.declared.lines.Line.{Line}
use Rattle.bench.specs.declared.scripts.Wanted.{Wanted}
use Rattle.bench.specs.declared.scripts.Wanted.TheVariants.{RunName, FigureLine, OneCall}
use Rattle.bench.specs.declared.scripts.ScriptFault.{ScriptFault}
use Rattle.bench.specs.declared.scripts.ScriptFault.TheVariants.{BadLine, NoMemory}

-- what became of a call
abbrev pub status_of : {R : Type 0} → Reply R → Status
status_of (Ok a) = cond a.goes_on GoesOn Finished
status_of (Err refused) = Refused (fault refused)

-- the number that is printed of it: for a reply the one that the machine's line of it has
abbrev pub status_number : Status → ℕ
status_number Finished = 0
status_number GoesOn = 1
status_number (Refused refused) = 100 + refused.number

-- a value as it is printed, where records are encoded so
abbrev pub shown_as : {R : Type 0} → (R → List ℕ) → Value R → Shown
shown_as encoded (Block b) = Number b
shown_as encoded (Record x) = Bytes (encoded x)

-- the line of a call, by its number and its reply
abbrev pub line_of : {R : Type 0} → (R → List ℕ) → ℕ → Reply R → Line
line_of encoded n r = record { call = Some n; status = status_of r; value = option_map (shown_as encoded) (line r).value; given = (line r).given }

-- the lines of calls, numbered from n on
abbrev pub lines_from : {R : Type 0} → (R → List ℕ) → ℕ → List (Reply R) → List Line
lines_from encoded n rs = map (λ p. line_of encoded p.0 p.1) (enumerate_from n rs)

-- that of a making that is refused
abbrev pub refused_line : Fault → Line
refused_line refused = record { call = None; status = Refused refused; value = None; given = 0 }

-- the text of a status
abbrev pub status_text : Status → List ℕ
status_text status = decimal (status_number status)

-- the text of a value
abbrev pub shown_text : Shown → List ℕ
shown_text (Number b) = decimal b
shown_text (Bytes bytes) = bytes_digits bytes

-- a text, or - for none
abbrev pub or_dash : {T : Type 0} → (T → List ℕ) → Option T → List ℕ
or_dash text shown = option_map_or text shown (codes "-")

-- the text of a line: the call's number, which a making that is refused has not, the status, the value and the blocks given back
abbrev pub line_text : Line → List ℕ
line_text l = or_dash decimal l.call ++ (codes " " ++ (status_text l.status ++ (codes " " ++ (or_dash shown_text l.value ++ (codes " " ++ decimal l.given)))))

-- what a line should be
abbrev pub wanted_text : Wanted → List ℕ
wanted_text RunName = codes "run and a name"
wanted_text FigureLine = codes "make W=1 H=1 N=2 M=2 F=1 G=1 era=1 pool=stack kind=1, with figures of your own, pool=row or kind=2"
wanted_text OneCall = codes "take W, look W HOLD CELL, drop W, retire W BLOCK, relink W CELL EXPECTED NEW, write W BLOCK BYTES, read W HOLD or turn W"

-- why a text is not played
abbrev pub fault_text : ScriptFault → List ℕ
fault_text (BadLine n wanted) = codes "line " ++ (decimal n ++ (codes " should be " ++ wanted_text wanted))
fault_text NoMemory = codes "there is no memory for it"

-- What is printed for a line.
use Rattle.std.specs.Prelude.{ℕ, List, ◌++◌, Some, None, Ok, Err, codes, decimal, Option, Result}
use Rattle.faults.specs.Printed.{printed}
use Rattle.records.specs.Layout.{restored}
use Rattle.records.specs.Readings.{decoded_reading}
use Rattle.records.specs.Branches.{decoded_branch}
use Rattle.records.specs.Refusals.{fault}
use Rattle.records.specs.Hexadecimal.{bytes_digits}
use Rattle.records.specs.declared.refusals.RecordFault.{RecordFault}
use Rattle.records_lines.specs.Lines.{entry_of}
use Rattle.records_lines.specs.declared.lines.Entry.{Entry}
use Rattle.records_lines.specs.declared.lines.Entry.TheVariants.{Reading, Branch}
use Rattle.records_lines.specs.declared.answers.LineFault.{LineFault}
use Rattle.records_lines.specs.declared.answers.LineFault.TheVariants.{Malformed, Refused}

-- restored bytes, or why they are refused
abbrev pub outcome : Result (List ℕ) RecordFault → Result (List ℕ) LineFault
outcome (Ok bytes) = Ok bytes
outcome (Err refusal) = Err (Refused refusal)

-- the answer to an entry, or to a line that writes none
abbrev pub answered : ℕ → Option Entry → Result (List ℕ) LineFault
answered number None = Err (Malformed number)
answered number (Some (Reading bytes)) = outcome (restored (decoded_reading bytes) bytes)
answered number (Some (Branch bytes)) = outcome (restored (decoded_branch bytes) bytes)

-- the answer to a line
abbrev pub answer_to : ℕ → List ℕ → Result (List ℕ) LineFault
answer_to number line = answered number (entry_of line)

-- why no record comes of a line, as it is printed
abbrev pub printed_fault : LineFault → List ℕ
printed_fault (Malformed number) = codes "line " ++ (decimal number ++ codes ": not 1 or 2, one blank and sixteen hexadecimal digits")
printed_fault (Refused refusal) = printed (fault refusal)

-- an answer as it is printed
abbrev pub printed_answer : Result (List ℕ) LineFault → List ℕ
printed_answer (Ok bytes) = codes "ok " ++ bytes_digits bytes
printed_answer (Err fault) = printed_fault fault

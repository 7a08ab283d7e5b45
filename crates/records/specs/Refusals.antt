-- What is reported of eight bytes that are no record.
use Rattle.faults.specs.declared.Layer.TheVariants.{Record}
use Rattle.faults.specs.declared.Fault.{Fault}
use Rattle.records.specs.declared.refusals.RecordFault.{RecordFault}
use Rattle.records.specs.declared.refusals.RecordFault.TheVariants.{UnknownSort, GapNotZero, WrongValue, TailNotZero}

-- each refusal's number, and as its place the byte at which the wrong field starts
abbrev pub fault : RecordFault → Fault
fault UnknownSort = record { layer = Record; number = 16; place = 0 }
fault GapNotZero = record { layer = Record; number = 16; place = 1 }
fault WrongValue = record { layer = Record; number = 16; place = 4 }
fault TailNotZero = record { layer = Record; number = 16; place = 3 }

-- Fields within eight bytes.
use Rattle.std.specs.Prelude.{◌≡◌, ℕ, zero, suc, ◌+◌, ◌*◌, ◌<◌, Bool, true, cond, ◌&&◌, List, [], ◌∷◌, length, Ok, Err, Result, ◌==◌, slice_index}
use Rattle.records.specs.declared.refusals.RecordFault.{RecordFault}

-- eight bytes
abbrev pub Octets : List ℕ → Type 0
Octets bytes = (length bytes ≡ 8) × ((k : ℕ) → slice_index bytes k < 256)

-- whether the bytes from a place on, so many of them, are zero
abbrev pub zeros : List ℕ → ℕ → ℕ → Bool
zeros bytes from zero = true
zeros bytes from (suc count) = slice_index bytes from == 0 && zeros bytes (from + 1) count

-- the number in the two bytes from a place on, low byte first
abbrev pub pair_at : List ℕ → ℕ → ℕ
pair_at bytes from = slice_index bytes from + slice_index bytes (from + 1) * 256

-- the number in the four bytes from a place on, low byte first
abbrev pub word_at : List ℕ → ℕ → ℕ
word_at bytes from = slice_index bytes from + slice_index bytes (from + 1) * 256 + slice_index bytes (from + 2) * 65536 + slice_index bytes (from + 3) * 16777216

-- of a layout's fields in order, each with whether it is right and the fault of a wrong one: the first fault, or else the record
abbrev pub judged : {R : Type 0} → List (Bool × RecordFault) → R → Result R RecordFault
judged [] found = Ok found
judged (field ∷ fields) found = cond field.0 (judged fields found) (Err field.1)

-- accepted bytes as they are, or the fault of the others
abbrev pub restored : {R : Type 0} → Result R RecordFault → List ℕ → Result (List ℕ) RecordFault
restored (Ok found) bytes = Ok bytes
restored (Err fault) bytes = Err fault

-- The layout of a reading: its sort in byte 0, zeros in bytes 1 to 3, its value in bytes 4 to 7.
use Rattle.std.specs.Prelude.{ℕ, ◌/◌, ◌%◌, Bool, true, cond, not, List, [], ◌∷◌, Result, ◌==◌, from_bits, is_nan, nat_lt, slice_index_or, to_bits}
use Rattle.std.specs.Float.{binary32}
use Rattle.records.specs.Layout.{zeros, word_at, judged}
use Rattle.records.specs.declared.readings.Reading.{Reading}
use Rattle.records.specs.declared.readings.Reading.TheVariants.{Missing, Analogue, Counter, State}
use Rattle.records.specs.declared.refusals.RecordFault.{RecordFault}
use Rattle.records.specs.declared.refusals.RecordFault.TheVariants.{UnknownSort, GapNotZero, WrongValue}

-- the values that a sort has: 0 if missing, no bits of a NaN if analogue, any count, 0 or 1 for a state
abbrev pub allowed : ℕ → ℕ → Bool
allowed sort value =
    cond (sort == 0) (value == 0)
    (cond (sort == 1) (not (is_nan (from_bits binary32 value)))
    (cond (sort == 2) true
    (nat_lt value 2)))

-- the reading of a sort and a value
abbrev pub meant : ℕ → ℕ → Reading
meant sort value =
    cond (sort == 0) Missing
    (cond (sort == 1) (Analogue (from_bits binary32 value))
    (cond (sort == 2) (Counter value)
    (State (value == 1))))

-- what eight bytes are as a reading
abbrev pub decoded_reading : List ℕ → Result Reading RecordFault
decoded_reading bytes =
    let sort = slice_index_or bytes 0 0 in
    let value = word_at bytes 4 in
    judged ((nat_lt sort 4, UnknownSort) ∷ (zeros bytes 1 3, GapNotZero) ∷ (allowed sort value, WrongValue) ∷ []) (meant sort value)

-- a sort, three zeros and a value, low byte first
abbrev pub laid_out : ℕ → ℕ → List ℕ
laid_out sort value = sort ∷ 0 ∷ 0 ∷ 0 ∷ (value % 256) ∷ (value / 256 % 256) ∷ (value / 65536 % 256) ∷ (value / 16777216 % 256) ∷ []

-- the eight bytes of a reading; an analogue that is not a number is laid out as missing
abbrev pub encoded_reading : Reading → List ℕ
encoded_reading Missing = laid_out 0 0
encoded_reading (Analogue x) = cond (is_nan x) (laid_out 0 0) (laid_out 1 (to_bits binary32 x))
encoded_reading (Counter count) = laid_out 2 count
encoded_reading (State on) = laid_out 3 (cond on 1 0)

-- what a reading comes back as: an analogue that is not a number as missing, any other as it was
abbrev pub kept_reading : Reading → Reading
kept_reading Missing = Missing
kept_reading (Analogue x) = cond (is_nan x) Missing (Analogue x)
kept_reading (Counter count) = Counter count
kept_reading (State on) = State on

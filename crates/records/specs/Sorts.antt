-- The sorts of reading, and the bytes that name them.
use Rattle.std.specs.Prelude.{◌≡◌, ℕ, ◌<◌, Result, MatchResult}
use Rattle.records.specs.declared.sorts.Sort.{Sort}
use Rattle.records.specs.declared.sorts.Sort.TheVariants.{Missing, Analogue, Counter, State}
use Rattle.records.specs.declared.refusals.RecordFault.{RecordFault}
use Rattle.records.specs.declared.refusals.RecordFault.TheVariants.{UnknownSort}

-- the byte that names a sort
abbrev pub sort_byte : Sort → ℕ
sort_byte Missing = 0
sort_byte Analogue = 1
sort_byte Counter = 2
sort_byte State = 3

-- what is found of a byte: the sort that it names, or that it is past the last of them
abbrev pub IsSortOf : ℕ → Result Sort RecordFault → Type 0
IsSortOf byte found = MatchResult found (λ sort. sort_byte sort ≡ byte) (λ refusal. (refusal ≡ UnknownSort) × (3 < byte))

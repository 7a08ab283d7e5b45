-- The words that name a pool and a kind of record.
use Rattle.std.specs.Prelude.{◌≡◌, ◌≢◌, ℕ, List, codes, Result, MatchResult}
use Rattle.bench.specs.declared.scripts.PoolKind.{PoolKind}
use Rattle.bench.specs.declared.scripts.PoolKind.TheVariants.{Stack, Row}
use Rattle.bench.specs.declared.scripts.RecordKind.{RecordKind}
use Rattle.bench.specs.declared.scripts.RecordKind.TheVariants.{Readings, Branches}

-- the word of a pool
abbrev pub pool_word : PoolKind → List ℕ
pool_word Stack = codes "stack"
pool_word Row = codes "row"

-- the word of a kind of record
abbrev pub kind_word : RecordKind → List ℕ
kind_word Readings = codes "1"
kind_word Branches = codes "2"

-- what is found of a text: the thing whose word it is, or that it is the word of none
abbrev pub IsNamed : {K E : Type 0} → (K → List ℕ) → List ℕ → Result K E → Type 0
IsNamed word text found = MatchResult found (λ k. word k ≡ text) (λ _. (k : _) → word k ≢ text)

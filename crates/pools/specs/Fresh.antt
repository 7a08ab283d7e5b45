-- The making of a pool.
use Rattle.std.specs.Prelude.{◌≡◌, ℕ, ◌<◌, ◌≤◌, Bool, true, ◌⊎◌, List, replicate, Ok, Err, Result, slice_index}
use Rattle.std.specs.List.{range_with_len}
use Rattle.pools.specs.declared.PoolFault.{PoolFault}
use Rattle.pools.specs.declared.PoolFault.TheVariants.{Misfit}

-- a pool of this size can be made
abbrev pub Fitting : ℕ → Type 0
Fitting size = (1 ≤ size) × (size ≤ 2048)

-- why none is made
abbrev pub Misfitting : ℕ → PoolFault → Type 0
Misfitting size refusal = (refusal ≡ Misfit) × ((size ≡ 0) ⊎ (2048 < size))

-- each number below 2,048 stands at its own place
abbrev pub OwnPlaces : List ℕ → Type 0
OwnPlaces spots = (k : ℕ) → k < 2048 → slice_index spots k ≡ k

-- a made pool has all numbers in, and hands them out from 0 on
abbrev pub Made : {P : Type 0} → (P → List Bool) → (P → List ℕ) → ℕ → Result P PoolFault → Type 0
Made inside order size (Ok pool) = Fitting size × (inside pool ≡ replicate size true) × (order pool ≡ range_with_len 0 size)
Made inside order size (Err refusal) = Misfitting size refusal

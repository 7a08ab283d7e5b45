-- The numbers in, in the order in which they will be handed out.
use Rattle.std.specs.Prelude.{◌≡◌, ℕ, zero, suc, ◌+◌, ◌%◌, Bool, false, List, [], ◌∷◌, length, take, drop, slice_index, slice_index_or}
use Rattle.pools.specs.Counts.{bit, tally, times}

-- the first of a list
abbrev pub first : List ℕ → ℕ
first [] = 0
first (n ∷ ns) = n

-- the list names just the numbers that are in, each once
abbrev pub Listed : List ℕ → List Bool → Type 0
Listed order inside = (length order ≡ tally inside) × ((n : ℕ) → times n order ≡ bit (slice_index_or inside n false))

-- what stands from top up to size
abbrev pub stacked : ℕ → ℕ → List ℕ → List ℕ
stacked size top spots = drop top (take size spots)

-- what stands in a ring of 2,048 places from one place on, so many
abbrev pub ringed : List ℕ → ℕ → ℕ → List ℕ
ringed spots place zero = []
ringed spots place (suc n) = slice_index spots (place % 2048) ∷ ringed spots (place + 1) n

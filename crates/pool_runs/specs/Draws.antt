-- Numbers drawn from a pool.
use Rattle.std.specs.Prelude.{◌≡◌, ℕ, ◌≤◌, min, Bool, false, List, length, slice_index_or}
use Rattle.pools.specs.Counts.{bit, tally, times}

-- as many as are wanted or as are in, each of them in, and none twice
abbrev pub Drawn : List Bool → ℕ → List ℕ → Type 0
Drawn inside wanted numbers =
    (length numbers ≡ min wanted (tally inside)) × ((n : ℕ) → times n numbers ≤ bit (slice_index_or inside n false))

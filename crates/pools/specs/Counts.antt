-- How many, and how often.
use Rattle.std.specs.Prelude.{ℕ, ◌+◌, Bool, true, false, List, [], ◌∷◌, ◌==◌}

-- a test as a number: 1 where it holds
abbrev pub bit : Bool → ℕ
bit true = 1
bit false = 0

-- how many are in
abbrev pub tally : List Bool → ℕ
tally [] = 0
tally (b ∷ bs) = bit b + tally bs

-- how often the number n stands in a list
abbrev pub times : ℕ → List ℕ → ℕ
times n [] = 0
times n (x ∷ xs) = bit (x == n) + times n xs

-- Which blocks are in a worker's hand.
use Rattle.std.specs.Prelude.{ℕ, Bool, false, ◌||◌, List, [], ◌∷◌, None, Option, slice_index_or, slice_set}
use Rattle.machine.specs.declared.states.Core.{Core}
use Rattle.machine.specs.State.{block, worker}
use Rattle.machine.specs.Cells.{names_it}

-- whether worker w owns block b
abbrev pub owns : Core → ℕ → ℕ → Bool
owns k w b = names_it (block k b).owner w

-- what worker w's hold h shows
abbrev pub shown : Core → ℕ → ℕ → Option ℕ
shown k w h = slice_index_or (worker k w).shows h None

-- whether one of these holds shows block b
abbrev pub any_shows : List (Option ℕ) → ℕ → Bool
any_shows [] b = false
any_shows (x ∷ xs) b = names_it x b || any_shows xs b

-- a worker has a block in its hand if it owns it or one of its holds shows it
abbrev pub in_hand : Core → ℕ → ℕ → Bool
in_hand k w b = owns k w b || any_shows (worker k w).shows b

-- the same without hold h
abbrev pub in_hand_without : Core → ℕ → ℕ → ℕ → Bool
in_hand_without k w h b = owns k w b || any_shows (slice_set (worker k w).shows h None) b

-- A run together with an account of it, kept call by call.
use Rattle.std.specs.Prelude.{ℕ, List, [], ◌∷◌}
use Rattle.machine.specs.declared.calls.Call.{Call}
use Rattle.machine.specs.Machine.{State, Step, after}

-- a law of every state and a law of every call, throughout a run, with an account that each call brings forward
abbrev pub Along : {R A : Type 0} → (A → State R → Call R → Step R → A) → (A → State R → Type 0) → (A → Call R → Step R → Type 0) → A → State R → List (Call R) → List ℕ → Type 0
Along forward state call a s [] ns = state a s
Along forward state call a s (c ∷ cs) [] = state a s × call a c (after s c 0) × Along forward state call (forward a s c (after s c 0)) (after s c 0).to cs []
Along forward state call a s (c ∷ cs) (n ∷ ns) = state a s × call a c (after s c n) × Along forward state call (forward a s c (after s c n)) (after s c n).to cs ns

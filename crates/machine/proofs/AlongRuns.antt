-- From what every call keeps to a law along every run.
use Rattle.std.proofs.Common.{ℕ, List, [], ◌∷◌}
use Rattle.machine.specs.declared.calls.Call.{Call}
use Rattle.machine.specs.Machine.{State, Step, after}
use Rattle.machine.specs.Runs.{Chosen}
use Rattle.machine.specs.Structure.{Handed}
use Rattle.machine.specs.Following.{Along}

module _ {R A : Type 0} (forward : A → State R → Call R → Step R → A) (state : A → State R → Type 0) (call : A → Call R → Step R → Type 0) (Kept : A → State R → Type 0)
    (says : (a : A) (s : State R) → Kept a s → state a s)
    (keeps : (a : A) (s : State R) (c : Call R) (n : ℕ) → Kept a s → Chosen s.inside n → call a c (after s c n) × Kept (forward a s c (after s c n)) (after s c n).to) where
  pub along : (calls : List (Call R)) (numbers : List ℕ) (a : A) (s : State R) → Kept a s → Handed s calls numbers → Along forward state call a s calls numbers
  along [] numbers a s h p = says a s h
  along (c ∷ cs) [] a s h p = let q = keeps a s c 0 h p.0 in (says a s h, q.0, along cs [] _ _ q.1 p.1)
  along (c ∷ cs) (n ∷ ns) a s h p = let q = keeps a s c n h p.0 in (says a s h, q.0, along cs ns _ _ q.1 p.1)

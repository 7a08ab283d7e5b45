-- Steps that walk, by the numbers that the task has.
use Rattle.std.proofs.Common.{◌≡◌, ℕ, Bool, List, sym, ap, ◌∙◌}
use Rattle.machine.specs.declared.states.Task.{Task}
use Rattle.machine.specs.declared.states.Task.TheVariants.{LookWalk, DropWalk}
use Rattle.machine.specs.declared.states.Core.{Core}
use Rattle.machine.specs.Moves.{Outcome, over}
use Rattle.machine.specs.Looking.{look_walk}
use Rattle.machine.specs.Dropping.{drop_walk}
use Rattle.machine.specs.Turns.{step}

pub look_walks : (k : Core) (inside : List Bool) (n w : ℕ) (t : Task) (h c b hold cell next : ℕ) (o : Outcome)
    → t ≡ LookWalk h c b → hold ≡ h → cell ≡ c → next ≡ b → o ≡ over (look_walk k w hold cell next) inside n → o ≡ over (step k inside n w t) inside n
look_walks k inside n w t h c b hold cell next o is p q r e =
    e ∙ (λ i. over (look_walk k w (p i) (q i) (r i)) inside n) ∙ ap (λ u. over (step k inside n w u) inside n) (sym is)

pub drop_walks : (k : Core) (inside : List Bool) (n w : ℕ) (t : Task) (h b hold next : ℕ) (o : Outcome)
    → t ≡ DropWalk h b → hold ≡ h → next ≡ b → o ≡ over (drop_walk k w hold next) inside n → o ≡ over (step k inside n w t) inside n
drop_walks k inside n w t h b hold next o is p r e =
    e ∙ (λ i. over (drop_walk k w (p i) (r i)) inside n) ∙ ap (λ u. over (step k inside n w u) inside n) (sym is)

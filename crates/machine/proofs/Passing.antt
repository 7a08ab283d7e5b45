-- Tests that are passed, and what follows from checks in order.
use Rattle.std.proofs.Common.{◌≡◌, Bool, true, false, cond, ◌&&◌, List, [], ◌∷◌, refl}
use Rattle.machine.specs.declared.refusals.Refusal.{Refusal}
use Rattle.machine.specs.declared.states.Core.{Core}
use Rattle.machine.specs.Moves.{Move, refused, checked}

-- by whether a test is passed
pub by_test : {A : Type 0} (P : A → Type 0) (b : Bool) (x y : A) → (b ≡ true → P x) → (b ≡ false → P y) → P (cond b x y)
by_test P true x y f g = f refl
by_test P false x y f g = g refl

-- both of two tests that are passed together
pub both_left : (a b : Bool) → (a && b) ≡ true → a ≡ true
both_left true b e = refl
both_left false b e = e

pub both_right : (a b : Bool) → (a && b) ≡ true → b ≡ true
both_right true b e = e
both_right false b e = let z : ◌≡◌ {A = Bool} false true = e in cc

-- each check is passed
abbrev pub Passed : List (Bool × Refusal) → Type 0
Passed [] = Unit {0}
Passed (c ∷ cs) = (c.0 ≡ true) × Passed cs

-- what holds of every refusal, and of what is done where all checks are passed, holds of the checked call
pub checked_keeps : (P : Move → Type 0) (k : Core) (cs : List (Bool × Refusal)) (m : Move) → ((r : Refusal) → P (refused k r)) → (Passed cs → P m) → P (checked k cs m)
checked_keeps P k [] m no_one all = all tt
checked_keeps P k (c ∷ cs) m no_one all = by_test P c.0 (checked k cs m) (refused k c.1) (λ e. checked_keeps P k cs m no_one (λ p. all (e, p))) (λ e. no_one c.1)

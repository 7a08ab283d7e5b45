-- What an accepted layout says of its fields.
use Rattle.std.specs.Prelude.{◌≡◌, ℕ, Bool, true, false, cond, Ok, Err, Result, refl}
use Rattle.std.proofs.Common.{arith}
use Rattle.records.specs.declared.refusals.RecordFault.{RecordFault}

-- the first field is right, and the fields after it are accepted
pub first_right : {R : Type 0} (right : Bool) (fault : RecordFault) (rest : Result R RecordFault) (x : R) → cond right rest (Err fault) ≡ Ok x → (right ≡ true) × (rest ≡ Ok x)
first_right true fault rest x e = (refl, e)
first_right false fault rest x e = let z : ◌≡◌ {A = ℕ} 0 1 = cc in absurd (omega arith)

-- what is accepted is the record meant
pub same_found : {R : Type 0} (x y : R) → ◌≡◌ {A = Result R RecordFault} (Ok x) (Ok y) → x ≡ y
same_found x y e = cc

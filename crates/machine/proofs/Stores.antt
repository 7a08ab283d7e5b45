-- What a store into a list keeps.
use Rattle.std.proofs.Common.{ℕ, zero, suc, List, [], ◌∷◌, get_or, set, replicate}

-- what holds of every entry, and of what is stored, holds of every entry after the store
pub set_keeps : {A : Type 0} (P : A → Type 0) (d : A) (xs : List A) (i : ℕ) (x : A) → ((j : ℕ) → P (get_or xs j d)) → P x → (j : ℕ) → P (get_or (set xs i x) j d)
set_keeps P d [] i x h p j = h j
set_keeps P d (y ∷ ys) zero x h p zero = p
set_keeps P d (y ∷ ys) zero x h p (suc j) = h (suc j)
set_keeps P d (y ∷ ys) (suc i) x h p zero = h zero
set_keeps P d (y ∷ ys) (suc i) x h p (suc j) = set_keeps P d ys i x (λ k. h (suc k)) p j

-- what holds of an entry that stands everywhere, and past the end, holds throughout
pub replicate_all : {A : Type 0} (P : A → Type 0) (d x : A) (n : ℕ) → P x → P d → (j : ℕ) → P (get_or (replicate n x) j d)
replicate_all P d x zero p q j = q
replicate_all P d x (suc n) p q zero = p
replicate_all P d x (suc n) p q (suc j) = replicate_all P d x n p q j

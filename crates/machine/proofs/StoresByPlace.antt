-- What a store into a list keeps, place by place.
use Rattle.std.proofs.Common.{◌≡◌, ℕ, zero, suc, ◌<◌, List, [], ◌∷◌, length, get_or, set, arith}

-- what holds at every place, and of what is stored at its place, holds at every place after the store
pub set_keeps_at : {A : Type 0} (P : ℕ → A → Type 0) (d : A) (xs : List A) (i : ℕ) (x : A) → ((j : ℕ) → P j (get_or xs j d)) → P i x → (j : ℕ) → P j (get_or (set xs i x) j d)
set_keeps_at P d [] i x h p j = h j
set_keeps_at P d (y ∷ ys) zero x h p zero = p
set_keeps_at P d (y ∷ ys) zero x h p (suc j) = h (suc j)
set_keeps_at P d (y ∷ ys) (suc i) x h p zero = h zero
set_keeps_at P d (y ∷ ys) (suc i) x h p (suc j) = set_keeps_at (λ k z. P (suc k) z) d ys i x (λ k. h (suc k)) p j

-- where the place is one of the list's, what was there before does not matter
pub set_gives_at : {A : Type 0} (P : ℕ → A → Type 0) (d : A) (xs : List A) (i : ℕ) (x : A) → i < length xs → ((j : ℕ) → (j ≡ i → ⊥) → P j (get_or xs j d)) → P i x → (j : ℕ) → P j (get_or (set xs i x) j d)
set_gives_at P d [] i x lt h p j = absurd (omega arith)
set_gives_at P d (y ∷ ys) zero x lt h p zero = p
set_gives_at P d (y ∷ ys) zero x lt h p (suc j) = h (suc j) (λ e. omega arith)
set_gives_at P d (y ∷ ys) (suc i) x lt h p zero = h zero (λ e. omega arith)
set_gives_at P d (y ∷ ys) (suc i) x lt h p (suc j) = set_gives_at (λ k z. P (suc k) z) d ys i x (omega arith) (λ k ne. h (suc k) (λ e. ne (omega arith))) p j

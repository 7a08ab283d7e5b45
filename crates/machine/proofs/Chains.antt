-- Lists that are followed from one block to the next.
use Rattle.std.proofs.Common.{◌≡◌, ℕ, ◌≤◌, ◌≢◌, List, [], ◌∷◌, Some, None, Option, refl, subst, arith}
use Rattle.machine.proofs.Sums.{upd, tot, is, upd_other, is_self}

-- xs is what is met from o on by f
abbrev pub Chain : (ℕ → Option ℕ) → Option ℕ → List ℕ → Type 0
Chain f o [] = o ≡ None
Chain f o (x ∷ xs) = (o ≡ Some x) × Chain f (f x) xs

-- the last of xs is l
abbrev pub Ends : ℕ → List ℕ → Type 0
Ends l [] = ⊥
Ends l (x ∷ []) = x ≡ l
Ends l (x ∷ y ∷ ys) = Ends l (y ∷ ys)

-- a change at a block that is not met is not seen
pub chain_upd : (f : ℕ → Option ℕ) (i : ℕ) (v o : Option ℕ) (xs : List ℕ) → tot (is i) xs ≡ 0 → Chain f o xs → Chain (upd f i v) o xs
chain_upd f i v o [] z c = c
chain_upd f i v o (x ∷ xs) z c =
    let ne : x ≢ i = λ e. let k : is i x ≡ 1 = rw e (is_self i) in omega arith in
    let tail : Chain (upd f i v) (f x) xs = chain_upd f i v (f x) xs (omega arith) c.1 in
    (c.0, rw (upd_other f i v x ne) tail)

pub chain_none : (f : ℕ → Option ℕ) (xs : List ℕ) → Chain f None xs → xs ≡ []
chain_none f [] c = refl
chain_none f (x ∷ xs) c = let e = c.0 in cc

pub chain_some : (f : ℕ → Option ℕ) (b : ℕ) (xs : List ℕ) → Chain f (Some b) xs → (bs : List ℕ) × (xs ≡ b ∷ bs) × Chain f (f b) bs
chain_some f b [] c = ([], cc, cc)
chain_some f b (x ∷ xs) c =
    let e : x ≡ b = let h = c.0 in cc in
    (xs, rw e refl, subst (λ y. Chain f (f y) xs) e c.1)

-- the last is one of them
pub ends_in : (l : ℕ) (xs : List ℕ) → Ends l xs → 1 ≤ tot (is l) xs
ends_in l [] e = absurd e
ends_in l (x ∷ []) e = let i = is_self l in rw e (omega arith)
ends_in l (x ∷ y ∷ ys) e = let t = ends_in l (y ∷ ys) e in omega arith

-- one more in front
pub ends_more : (l x : ℕ) (xs : List ℕ) → Ends l xs → Ends l (x ∷ xs)
ends_more l x [] e = absurd e
ends_more l x (y ∷ ys) e = e

-- what comes after one that is not the last
pub ends_rest : (l x : ℕ) (xs : List ℕ) → Ends l (x ∷ xs) → x ≢ l → Ends l xs
ends_rest l x [] e ne = ne e
ends_rest l x (y ∷ ys) e ne = e

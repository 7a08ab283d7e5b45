-- Chains, and the blocks of a batch that a try has set aside.
use Rattle.std.proofs.Common.{◌≡◌, ℕ, zero, suc, ◌+◌, ◌*◌, ◌/◌, ◌<◌, ◌≤◌, ◌≢◌, List, [], ◌∷◌, Some, None, Option, sym, refl, ap, ◌∙◌, subst, inl, inr, mul_comm, arith}
use Rattle.std.proofs.lemmas.Nat.{mul-add-lt, div-mul-add}
use Rattle.machine.proofs.Sums.{tot, is, is_self}
use Rattle.machine.proofs.Chains.{Chain}
use Rattle.machine.proofs.Guards.{steps, Aside}

-- the places of the holds
pub place_lt : (W H v h : ℕ) → v < W → h < H → v * H + h < W * H
place_lt W H v h hv hh = let p = mul-add-lt v H h W hv hh in let e = mul_comm H W in omega arith

pub place_apart : (H v w h i : ℕ) → h < H → i < H → v ≢ w → v * H + h ≢ w * H + i
place_apart H v w h i hh hi ne e = ne (sym (div-mul-add v H h hh) ∙ ap (λ n. n / H) e ∙ div-mul-add w H i hi)

some_same : (a b : ℕ) → ◌≡◌ {A = Option ℕ} (Some a) (Some b) → a ≡ b
some_same a b e = cc

-- a chain is determined by where it starts
pub chain_unique : (f : ℕ → Option ℕ) (o : Option ℕ) (xs ys : List ℕ) → Chain f o xs → Chain f o ys → xs ≡ ys
chain_unique f o [] [] c d = refl
chain_unique f o [] (y ∷ ys) c d = let e = d.0 in cc
chain_unique f o (x ∷ xs) [] c d = let e = c.0 in cc
chain_unique f o (x ∷ xs) (y ∷ ys) c d =
    let e : x ≡ y = some_same x y (sym c.0 ∙ d.0) in
    let t = chain_unique f (f x) xs ys c.1 (subst (λ z. Chain f (f z) ys) (sym e) d.1) in
    rw e (ap (λ zs. y ∷ zs) t)

-- another function that agrees on the chain
pub chain_same : (f i : ℕ → Option ℕ) (o : Option ℕ) (xs : List ℕ) → ((y : ℕ) → 1 ≤ tot (is y) xs → i y ≡ f y) → Chain f o xs → Chain i o xs
chain_same f i o [] same c = c
chain_same f i o (x ∷ xs) same c =
    let e : i x ≡ f x = same x (let z = is_self x in omega arith) in
    (c.0, subst (λ p. Chain i p xs) (sym e) (chain_same f i (f x) xs (λ y m. same y (omega arith)) c.1))

-- what is met along a chain is on it
pub steps_in : (f : ℕ → Option ℕ) (n : ℕ) (o : Option ℕ) (xs : List ℕ) (b : ℕ) → Chain f o xs → steps f n o ≡ Some b → 1 ≤ tot (is b) xs
steps_in f zero o [] b c e = absurd (let z : ◌≡◌ {A = ℕ} 0 1 = cc in omega arith)
steps_in f zero o (x ∷ xs) b c e = let i : x ≡ b = some_same x b (sym c.0 ∙ e) in let z : is b x ≡ 1 = rw i (is_self b) in omega arith
steps_in f (suc n) None xs b c e = absurd (let z : ◌≡◌ {A = ℕ} 0 1 = cc in omega arith)
steps_in f (suc n) (Some a) [] b c e = absurd (let z : ◌≡◌ {A = ℕ} 0 1 = cc in omega arith)
steps_in f (suc n) (Some a) (x ∷ xs) b c e =
    let i : a ≡ x = some_same a x c.0 in
    let t = steps_in f n (f a) xs b (subst (λ z. Chain f (f z) xs) (sym i) c.1) e in
    omega arith

-- one step more
pub steps_more : (f : ℕ → Option ℕ) (n : ℕ) (o : Option ℕ) (b : ℕ) → steps f n o ≡ Some b → steps f (suc n) o ≡ f b
steps_more f zero None b e = let z : ◌≡◌ {A = ℕ} 0 1 = cc in absurd (omega arith)
steps_more f zero (Some a) b e = ap f (some_same a b e)
steps_more f (suc n) None b e = let z : ◌≡◌ {A = ℕ} 0 1 = cc in absurd (omega arith)
steps_more f (suc n) (Some a) b e = steps_more f n (f a) b e

pub steps_same : (f i : ℕ → Option ℕ) (n : ℕ) (o : Option ℕ) (xs : List ℕ) → ((y : ℕ) → 1 ≤ tot (is y) xs → i y ≡ f y) → Chain f o xs → steps i n o ≡ steps f n o
steps_same f i zero o xs same c = refl
steps_same f i (suc n) None xs same c = refl
steps_same f i (suc n) (Some a) [] same c = let e = c in let z : ◌≡◌ {A = ℕ} 0 1 = cc in absurd (omega arith)
steps_same f i (suc n) (Some a) (x ∷ xs) same c =
    let j : a ≡ x = some_same a x c.0 in
    let e : i a ≡ f a = same a (let z : is a x ≡ 1 = rw (sym j) (is_self a) in omega arith) in
    ap (steps i n) e ∙ steps_same f i n (f a) xs (λ y m. same y (omega arith)) (subst (λ z. Chain f (f z) xs) (sym j) c.1)

-- set aside: among the first n is among the first n and one more
pub aside_more : (f : ℕ → Option ℕ) (slot : ℕ → ℕ) (n : ℕ) (o : Option ℕ) (r : ℕ) → Aside f slot n o r → Aside f slot (suc n) o r
aside_more f slot zero o r a = absurd a
aside_more f slot (suc n) None r a = a
aside_more f slot (suc n) (Some b) r (inl e) = inl e
aside_more f slot (suc n) (Some b) r (inr a) = inr (aside_more f slot n (f b) r a)

-- the next one is among them
pub aside_next : (f : ℕ → Option ℕ) (slot : ℕ → ℕ) (n : ℕ) (o : Option ℕ) (b r : ℕ) → steps f n o ≡ Some b → slot b ≡ r → Aside f slot (suc n) o r
aside_next f slot zero None b r e k = let z : ◌≡◌ {A = ℕ} 0 1 = cc in absurd (omega arith)
aside_next f slot zero (Some a) b r e k = inl (ap slot (some_same a b e) ∙ k)
aside_next f slot (suc n) None b r e k = let z : ◌≡◌ {A = ℕ} 0 1 = cc in absurd (omega arith)
aside_next f slot (suc n) (Some a) b r e k = inr (aside_next f slot n (f a) b r e k)

-- functions that agree on the chain
pub aside_same : (f i : ℕ → Option ℕ) (slot tols : ℕ → ℕ) (n : ℕ) (o : Option ℕ) (xs : List ℕ) (r : ℕ) → ((y : ℕ) → 1 ≤ tot (is y) xs → (i y ≡ f y) × (tols y ≡ slot y)) → Chain f o xs → Aside f slot n o r → Aside i tols n o r
aside_same f i slot tols zero o xs r same c a = a
aside_same f i slot tols (suc n) None xs r same c a = a
aside_same f i slot tols (suc n) (Some b) [] r same c a = let e = c in let z : ◌≡◌ {A = ℕ} 0 1 = cc in absurd (omega arith)
aside_same f i slot tols (suc n) (Some b) (x ∷ xs) r same c (inl e) =
    let j : b ≡ x = some_same b x c.0 in
    inl ((same b (let z : is b x ≡ 1 = rw (sym j) (is_self b) in omega arith)).1 ∙ e)
aside_same f i slot tols (suc n) (Some b) (x ∷ xs) r same c (inr a) =
    let j : b ≡ x = some_same b x c.0 in
    let e : i b ≡ f b = (same b (let z : is b x ≡ 1 = rw (sym j) (is_self b) in omega arith)).0 in
    inr (subst (λ p. Aside i tols n p r) (sym e) (aside_same f i slot tols n (f b) xs r (λ y m. same y (omega arith)) (subst (λ z. Chain f (f z) xs) (sym j) c.1) a))

-- another slot of the next one, which is not among those before it
pub aside_slot : (f : ℕ → Option ℕ) (slot tols : ℕ → ℕ) (n : ℕ) (o : Option ℕ) (xs : List ℕ) (b r : ℕ) → ((y : ℕ) → y ≢ b → tols y ≡ slot y) → Chain f o xs → tot (is b) xs ≤ 1 → steps f n o ≡ Some b
    → Aside f slot n o r → Aside f tols n o r
aside_slot f slot tols zero o xs b r same c once e a = a
aside_slot f slot tols (suc n) None xs b r same c once e a = a
aside_slot f slot tols (suc n) (Some d) [] b r same c once e a = let q = c in let z : ◌≡◌ {A = ℕ} 0 1 = cc in absurd (omega arith)
aside_slot f slot tols (suc n) (Some d) (x ∷ xs) b r same c once e a =
    let j : d ≡ x = some_same d x c.0 in
    let chain : Chain f (f d) xs = subst (λ z. Chain f (f z) xs) (sym j) c.1 in
    let m = steps_in f n (f d) xs b chain e in
    let ne : d ≢ b = λ k. let z : is b x ≡ 1 = rw (sym j ∙ k) (is_self b) in omega arith in
    elim a [
      | inl k ↦ inl (same d ne ∙ k)
      | inr k ↦ inr (aside_slot f slot tols n (f d) xs b r same chain (omega arith) e k)
    ]

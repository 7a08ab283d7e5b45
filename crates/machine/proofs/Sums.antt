-- Tables as functions from places, sums over places, and lists with weights.
use Rattle.std.proofs.Common.{◌≡◌, ℕ, zero, suc, ◌+◌, ◌*◌, ◌<◌, ◌≤◌, Bool, cond, eqb, ◌≢◌, List, [], ◌∷◌, refl, ap, ◌∙◌, arith}
use mathlib.Core.Path.{fun_ext}
use native.Mathlib.Decide.{ℕ_discrete}

-- f with v at i
abbrev pub upd : {A : Type 0} → (ℕ → A) → ℕ → A → ℕ → A
upd f i v j = cond (eqb j i) v (f j)

-- the sum of f over the places below n
abbrev pub Σ : (ℕ → ℕ) → ℕ → ℕ
Σ f zero = 0
Σ f (suc n) = f n + Σ f n

-- the sum of a weight over the entries of a list
abbrev pub tot : (ℕ → ℕ) → List ℕ → ℕ
tot p [] = 0
tot p (x ∷ xs) = p x + tot p xs

-- a test as a weight
abbrev pub mark : Bool → ℕ
mark b = cond b 1 0

-- the weight of one number
abbrev pub is : ℕ → ℕ → ℕ
is b x = mark (eqb x b)

-- what holds of each entry
abbrev pub Each : (ℕ → Type 0) → List ℕ → Type 0
Each P [] = Unit {0}
Each P (x ∷ xs) = P x × Each P xs

pub Σ_cong : (f g : ℕ → ℕ) (n : ℕ) → ((i : ℕ) → i < n → f i ≡ g i) → Σ f n ≡ Σ g n
Σ_cong f g zero h = refl
Σ_cong f g (suc n) h =
    let a = h n (omega arith) in
    let b = Σ_cong f g n (λ i k. h i (omega arith)) in
    omega arith

pub Σ_mono : (f g : ℕ → ℕ) (n : ℕ) → ((i : ℕ) → i < n → f i ≤ g i) → Σ f n ≤ Σ g n
Σ_mono f g zero h = omega arith
Σ_mono f g (suc n) h =
    let a = h n (omega arith) in
    let b = Σ_mono f g n (λ i k. h i (omega arith)) in
    omega arith

pub Σ_zero : (n : ℕ) → Σ (λ _. 0) n ≡ 0
Σ_zero zero = refl
Σ_zero (suc n) = let b = Σ_zero n in omega arith

-- one term is at most the sum
pub Σ_term : (f : ℕ → ℕ) (i n : ℕ) → i < n → f i ≤ Σ f n
Σ_term f i zero h = omega arith
Σ_term f i (suc n) h =
    elim (ℕ_discrete i n) [
      | yes e ↦ rw e (omega arith)
      | no ne ↦ let b = Σ_term f i n (omega arith) in omega arith
    ]

-- some term is positive if the sum is
pub Σ_some : (f : ℕ → ℕ) (n : ℕ) → 1 ≤ Σ f n → (i : ℕ) × (i < n) × (1 ≤ f i)
Σ_some f zero h = absurd (omega arith)
Σ_some f (suc n) h = elim (ℕ_discrete (f n) 0) [
  | yes z ↦ (let r = Σ_some f n (omega arith) in (r.0, omega (arith, r.1), r.2))
  | no ne ↦ (n, omega arith, omega arith)
]

-- f and g differ at i only
pub Σ_change : (f g : ℕ → ℕ) (i n : ℕ) → i < n → ((j : ℕ) → j ≢ i → g j ≡ f j) → Σ g n + f i ≡ Σ f n + g i
Σ_change f g i zero h k = omega arith
Σ_change f g i (suc n) h k =
    elim (ℕ_discrete i n) [
      | yes e ↦
          let c : Σ g n ≡ Σ f n = Σ_cong g f n (λ j l. k j (omega arith)) in
          rw e (omega arith)
      | no ne ↦
          let b = Σ_change f g i n (omega arith) k in
          let c = k n (omega arith) in
          omega arith
    ]

pub upd_same : {A : Type 0} (f : ℕ → A) (i : ℕ) (v : A) → upd f i v i ≡ v
upd_same f i v = grind arith

pub upd_other : {A : Type 0} (f : ℕ → A) (i : ℕ) (v : A) (j : ℕ) → j ≢ i → upd f i v j ≡ f j
upd_other f i v j h = grind arith

-- a table with what it has already
pub upd_self : {A : Type 0} (f : ℕ → A) (i : ℕ) (v : A) → v ≡ f i → upd f i v ≡ f
upd_self f i v e = fun_ext (λ j. elim (ℕ_discrete j i) [
  | yes k ↦ rw k (upd_same f i v ∙ e)
  | no ne ↦ upd_other f i v j ne
])

pub is_self : (b : ℕ) → is b b ≡ 1
is_self b = grind arith

pub is_other : (b x : ℕ) → x ≢ b → is b x ≡ 0
is_other b x h = grind arith

-- a table of weights, changed at one place
pub Σ_upd : {A : Type 0} (m : A → ℕ) (f : ℕ → A) (i : ℕ) (v : A) (n : ℕ) → i < n
    → Σ (λ j. m (upd f i v j)) n + m (f i) ≡ Σ (λ j. m (f j)) n + m v
Σ_upd m f i v n h =
    let c = Σ_change (λ j. m (f j)) (λ j. m (upd f i v j)) i n h (λ j k. ap m (upd_other f i v j k)) in
    let d = ap m (upd_same f i v) in
    omega arith

-- two tables of weights, changed at one place
pub Σ_upd₂ : {A B : Type 0} (m : A → B → ℕ) (f : ℕ → A) (g : ℕ → B) (i : ℕ) (v : A) (u : B) (n : ℕ) → i < n
    → Σ (λ j. m (upd f i v j) (upd g i u j)) n + m (f i) (g i) ≡ Σ (λ j. m (f j) (g j)) n + m v u
Σ_upd₂ m f g i v u n h =
    let c = Σ_change (λ j. m (f j) (g j)) (λ j. m (upd f i v j) (upd g i u j)) i n h (λ j k. ap (λ x. m x (upd g i u j)) (upd_other f i v j k) ∙ ap (m (f j)) (upd_other g i u j k)) in
    let d = ap (λ x. m x (upd g i u i)) (upd_same f i v) ∙ ap (m v) (upd_same g i u) in
    omega arith

-- a weight that the place has a say in
pub Σ_upd_at : {A : Type 0} (m : ℕ → A → ℕ) (f : ℕ → A) (i : ℕ) (v : A) (n : ℕ) → i < n
    → Σ (λ j. m j (upd f i v j)) n + m i (f i) ≡ Σ (λ j. m j (f j)) n + m i v
Σ_upd_at m f i v n h =
    let c = Σ_change (λ j. m j (f j)) (λ j. m j (upd f i v j)) i n h (λ j k. ap (m j) (upd_other f i v j k)) in
    let d = ap (m i) (upd_same f i v) in
    omega arith

pub Σ_upd₂_at : {A B : Type 0} (m : ℕ → A → B → ℕ) (f : ℕ → A) (g : ℕ → B) (i : ℕ) (v : A) (u : B) (n : ℕ) → i < n
    → Σ (λ j. m j (upd f i v j) (upd g i u j)) n + m i (f i) (g i) ≡ Σ (λ j. m j (f j) (g j)) n + m i v u
Σ_upd₂_at m f g i v u n h =
    let c = Σ_change (λ j. m j (f j) (g j)) (λ j. m j (upd f i v j) (upd g i u j)) i n h (λ j k. ap (λ x. m j x (upd g i u j)) (upd_other f i v j k) ∙ ap (m j (f j)) (upd_other g i u j k)) in
    let d = ap (λ x. m i x (upd g i u i)) (upd_same f i v) ∙ ap (m i v) (upd_same g i u) in
    omega arith

-- two terms are together at most the sum
pub Σ_two : (f : ℕ → ℕ) (i j n : ℕ) → i < n → j < n → j ≢ i → f i + f j ≤ Σ f n
Σ_two f i j n h k ne =
    let c = Σ_upd (λ x. x) f i 0 n h in
    let t = Σ_term (upd f i 0) j n k in
    let o = upd_other f i 0 j ne in
    omega arith

-- each term at most 32 times another
pub Σ_32 : (f g : ℕ → ℕ) (n : ℕ) → ((i : ℕ) → i < n → f i ≤ 32 * g i) → Σ f n ≤ 32 * Σ g n
Σ_32 f g zero h = omega arith
Σ_32 f g (suc n) h =
    let a = h n (omega arith) in
    let b = Σ_32 f g n (λ i l. h i (omega arith)) in
    omega arith

-- what holds of v at i and of each other entry holds throughout
pub at_upd : {A : Type 0} (P : ℕ → A → Type 0) (f : ℕ → A) (i : ℕ) (v : A) → P i v → (j : ℕ) → (j ≢ i → P j (f j)) → P j (upd f i v j)
at_upd P f i v h j k =
    elim (ℕ_discrete j i) [
      | yes e ↦ rw e (rw (upd_same f i v) h)
      | no ne ↦ rw (upd_other f i v j ne) (k ne)
    ]

pub at_upd₂ : {A B : Type 0} (P : ℕ → A → B → Type 0) (f : ℕ → A) (g : ℕ → B) (i : ℕ) (v : A) (u : B) → P i v u
    → (j : ℕ) → (j ≢ i → P j (f j) (g j)) → P j (upd f i v j) (upd g i u j)
at_upd₂ P f g i v u h j k =
    elim (ℕ_discrete j i) [
      | yes e ↦ rw e (rw (upd_same f i v, upd_same g i u) h)
      | no ne ↦ rw (upd_other f i v j ne, upd_other g i u j ne) (k ne)
    ]

-- weights that agree on the entries give one sum
pub tot_on : (p q : ℕ → ℕ) (xs : List ℕ) → ((x : ℕ) → 1 ≤ tot (is x) xs → p x ≡ q x) → tot p xs ≡ tot q xs
tot_on p q [] h = refl
tot_on p q (x ∷ xs) h =
    let a = h x (let i = is_self x in omega arith) in
    let b = tot_on p q xs (λ y m. h y (omega arith)) in
    omega arith

pub tot_zero : (xs : List ℕ) → tot (λ _. 0) xs ≡ 0
tot_zero [] = refl
tot_zero (x ∷ xs) = let a = tot_zero xs in omega arith

-- a weight that is nowhere positive sums to nothing
pub tot_none : (p : ℕ → ℕ) (xs : List ℕ) → ((x : ℕ) → 1 ≤ tot (is x) xs → p x ≡ 0) → tot p xs ≡ 0
tot_none p xs h = tot_on p (λ _. 0) xs h ∙ tot_zero xs

pub tot_mono : (p q : ℕ → ℕ) (xs : List ℕ) → ((x : ℕ) → p x ≤ q x) → tot p xs ≤ tot q xs
tot_mono p q [] h = omega arith
tot_mono p q (x ∷ xs) h =
    let a = h x in
    let b = tot_mono p q xs h in
    omega arith

-- what holds of each number that is an entry
pub each_of : (P : ℕ → Type 0) (xs : List ℕ) → ((x : ℕ) → 1 ≤ tot (is x) xs → P x) → Each P xs
each_of P [] h = tt
each_of P (x ∷ xs) h = (h x (let i = is_self x in omega arith), each_of P xs (λ y m. h y (omega arith)))

-- f and g differ below n at i only
pub Σ_change_in : (f g : ℕ → ℕ) (i n : ℕ) → i < n → ((j : ℕ) → j < n → j ≢ i → g j ≡ f j) → Σ g n + f i ≡ Σ f n + g i
Σ_change_in f g i zero h k = omega arith
Σ_change_in f g i (suc n) h k =
    elim (ℕ_discrete i n) [
      | yes e ↦
          let c : Σ g n ≡ Σ f n = Σ_cong g f n (λ j l. k j (omega arith) (omega arith)) in
          rw e (omega arith)
      | no ne ↦
          let b = Σ_change_in f g i n (omega arith) (λ j l. k j (omega arith)) in
          let c = k n (omega arith) (omega arith) in
          omega arith
    ]

-- How many blocks are retired at once: each is in a batch, and each batch is a worker's own or has a block on a list or a walk.
use Rattle.std.proofs.Common.{◌≡◌, ℕ, zero, suc, ◌+◌, ◌*◌, ◌<◌, ◌≤◌, Bool, ◌&&◌, eqb, List, [], ◌∷◌, length, Some, None, Option, sym, refl, ap, ◌∙◌, subst, mul_comm, add-mul, arith}
use native.Mathlib.Decide.{ℕ_discrete, dec_lt}
use Rattle.std.proofs.lemmas.Nat.{mul-le}
use Rattle.figures.specs.Ceiling.{ceiling_of, batch_most}
use Rattle.figures.specs.Limits.{Fit}
use Rattle.figures.specs.declared.limits.Form.{Form}
use Rattle.figures.proofs.Ceilings.{counts_places}
use Rattle.machine.specs.declared.states.Batch.{Batch}
use Rattle.machine.specs.declared.states.Standing.{Standing}
use Rattle.machine.specs.declared.states.Standing.TheVariants.{Pooled, Live, Retired}
use Rattle.machine.specs.declared.states.Core.{Core}
use Rattle.machine.specs.State.{block, worker}
use Rattle.machine.specs.Account.{is_retired}
use Rattle.machine.specs.BatchSizes.{ShortBatches}
use Rattle.machine.specs.CeilingKept.{list_most_of}
use Rattle.machine.proofs.Sums.{Σ, tot, mark, is, is_self, is_other, Σ_cong, Σ_mono, Σ_zero, Σ_term}
use Rattle.machine.proofs.Mirror.{view}
use Rattle.machine.proofs.Sound.{Gh, Lead, owns, on, of}
use Rattle.machine.proofs.Owners.{slack}
use Rattle.machine.proofs.StepsSound.{reservations, Good, few_places, retired_below, Σ_add, Σ_is}
use Rattle.machine.proofs.ShortTurns.{counted, names_lead}
use Rattle.machine.proofs.Potential.{Σ_most}
use Rattle.machine.proofs.Loads.{Loads}

-- double sums
Σ_swap : (f : ℕ → ℕ → ℕ) (m n : ℕ) → Σ (λ i. Σ (λ j. f i j) n) m ≡ Σ (λ j. Σ (λ i. f i j) m) n
Σ_swap f zero n = sym (Σ_zero n)
Σ_swap f (suc m) n =
    let a = Σ_swap f m n in
    let b = Σ_add (λ j. f m j) (λ j. Σ (λ i. f i j) m) n in
    omega arith

Σ_times : (f : ℕ → ℕ) (m n : ℕ) → Σ (λ i. m * f i) n ≡ m * Σ f n
Σ_times f m zero = omega arith
Σ_times f m (suc n) = let a = Σ_times f m n in omega arith

-- each number is one at most
is_most : (x n : ℕ) → Σ (λ l. is l x) n ≤ 1
is_most x n = elim (dec_lt x n) [
  | yes h ↦ (let a = Σ_is x n h in omega arith)
  | no h ↦ (let a = Σ_cong (λ l. is l x) (λ _. 0) n (λ l k. is_other l x (λ e. h (omega arith))) in let b = Σ_zero n in omega arith)
]

by_value : (f : ℕ → ℕ) (xs : List ℕ) (n : ℕ) → Σ (λ l. tot (λ x. is l (f x)) xs) n ≤ length xs
by_value f [] n = let z = Σ_zero n in omega arith
by_value f (x ∷ xs) n =
    let a = by_value f xs n in
    let b = is_most (f x) n in
    let c = Σ_add (λ l. is l (f x)) (λ l. tot (λ y. is l (f y)) xs) n in
    omega arith

owns_most : (o : Option Batch) (n : ℕ) → Σ (λ l. owns l o) n ≤ 1
owns_most None n = let z = Σ_zero n in omega arith
owns_most (Some x) n = is_most x.lead n

at_least_once : (s t : ℕ) → 1 ≤ t → s ≤ s * t
at_least_once s zero h = absurd (omega arith)
at_least_once s (suc t) h = omega arith

-- a list that is not empty has an entry
some_entry : (xs : List ℕ) → 1 ≤ length xs → (b : ℕ) × (1 ≤ tot (is b) xs)
some_entry [] h = absurd (omega arith)
some_entry (x ∷ xs) h = (x, let i = is_self x in omega arith)

module _ (form : Form) (fit : Fit form) (k : Core) (inside : List Bool) (same_form : k.form ≡ form) (gd : Good form k inside) (short : ShortBatches form k) (len walk : ℕ → ℕ) (l : Loads form k len walk) where
  abbrev N : ℕ
  N = form.blocks

  abbrev S : ℕ
  S = batch_most form.workers form.holds form.trying_period

  abbrev g : Gh
  g = gd.2

  some_worker : 0 < form.workers
  some_worker = fit.0.0

  -- the places where a batch of lead m is held: its owner, and its blocks on lists and walks
  abbrev places_of : ℕ → ℕ
  places_of m = Σ (λ w. owns m (worker k w).batch) form.workers + on (reservations form) form.workers g (of (λ b. (block k b).lead) m)

  lead_below : (b : ℕ) → (block k b).standing ≡ Retired → (block k b).lead < N
  lead_below b e = retired_below form fit k inside gd.0 gd.1 same_form g gd.3 gd.4 0 some_worker (block k b).lead (gd.3.led b e).0

  -- a retired block is in the batch of its lead
  in_batch : (b : ℕ) → b < N → mark (is_retired (block k b).standing) ≤ Σ (λ m. tot (is b) (g.members m)) N
  in_batch b hb = by_way (block k b).standing refl
    where
      by_way : (x : Standing) → (block k b).standing ≡ x → mark (is_retired x) ≤ Σ (λ m. tot (is b) (g.members m)) N
      by_way Pooled e = omega arith
      by_way Live e = omega arith
      by_way Retired e =
          let m = gd.3.members_are b (block k b).lead in
          let a : mark (is_retired (block k b).standing && eqb (block k b).lead (block k b).lead) ≡ 1 = ap (λ y. mark (is_retired y && eqb (block k b).lead (block k b).lead)) e ∙ is_self (block k b).lead in
          let t = Σ_term (λ m. tot (is b) (g.members m)) (block k b).lead N (lead_below b e) in
          omega arith

  -- a batch that has a block is held somewhere
  is_held : (m : ℕ) → 1 ≤ length (g.members m) → 1 ≤ places_of m
  is_held m h =
      let b = some_entry (g.members m) h in
      let e = names_lead form fit k inside gd.0 gd.1 same_form g gd.3 gd.4 0 some_worker b.0 m b.1 in
      let r : (block k b.0).standing ≡ Retired = is_ret (block k b.0).standing (block k b.0).lead (let a = gd.3.members_are b.0 m in let c = b.1 in omega arith) in
      let lead : Lead (view k inside) m = subst (Lead (view k inside)) e (gd.3.led b.0 r) in
      let even = gd.3.even m lead in
      let alive = gd.4 m lead in
      let q = slack _ _ _ (view k inside) g gd.3 (few_places form fit) m in
      elim (ℕ_discrete (Σ (λ w. owns m (worker k w).batch) form.workers) 0) [
        | yes z ↦ omega arith
        | no ne ↦ omega arith
      ]
    where
      is_ret : (x : Standing) (i : ℕ) → 1 ≤ mark (is_retired x && eqb i m) → x ≡ Retired
      is_ret Pooled i q = absurd (omega arith)
      is_ret Live i q = absurd (omega arith)
      is_ret Retired i q = refl

  batch_held : (m : ℕ) → length (g.members m) ≤ S * places_of m
  batch_held m = elim (ℕ_discrete (length (g.members m)) 0) [
    | yes z ↦ omega arith
    | no ne ↦
        (let a = counted form fit k inside gd.0 gd.1 same_form g gd.3 gd.4 0 some_worker m in
        let b = short.short m in
        let c = at_least_once S (places_of m) (is_held m (omega arith)) in
        omega arith)
  ]

  pub list_short : (r : ℕ) → r < reservations form → length (g.hung r) ≤ list_most_of form
  list_short r hr = let a = l.lists r hr (g.hung r) (gd.3.hung_chain r hr) in let b = l.light r hr in omega arith

  pub walk_short : (w : ℕ) → w < form.workers → length (g.walk w) ≤ list_most_of form
  walk_short w hw = let a = l.walks w hw (g.walk w) (gd.3.walk_chain w hw) in let b = l.short w hw in omega arith

  places_most : Σ (λ m. places_of m) N ≤ form.workers + (form.workers * form.holds + form.workers) * list_most_of form
  places_most =
      let lead : ℕ → ℕ = λ b. (block k b).lead in
      let R : ℕ = reservations form in
      let W : ℕ = form.workers in
      let L : ℕ = list_most_of form in
      let a = Σ_add (λ m. Σ (λ w. owns m (worker k w).batch) W) (λ m. on R W g (of lead m)) N in
      let b = Σ_add (λ m. Σ (λ r. tot (of lead m) (g.hung r)) R) (λ m. Σ (λ w. tot (of lead m) (g.walk w)) W) N in
      let c = Σ_swap (λ m w. owns m (worker k w).batch) N W in
      let d = Σ_most (λ w. Σ (λ m. owns m (worker k w).batch) N) 1 W (λ w _. owns_most (worker k w).batch N) in
      let e = Σ_swap (λ m r. tot (of lead m) (g.hung r)) N R in
      let f = Σ_most (λ r. Σ (λ m. tot (of lead m) (g.hung r)) N) L R (λ r hr. let p = by_value lead (g.hung r) N in let q = list_short r hr in omega arith) in
      let h = Σ_swap (λ m w. tot (of lead m) (g.walk w)) N W in
      let i = Σ_most (λ w. Σ (λ m. tot (of lead m) (g.walk w)) N) L W (λ w hw. let p = by_value lead (g.walk w) N in let q = walk_short w hw in omega arith) in
      let j : R * L + W * L ≡ (R + W) * L = sym (add-mul R W L) in
      omega arith

  -- so no more are retired than the ceiling says
  pub few_retired : Σ (λ b. mark (is_retired (block k b).standing)) N ≤ ceiling_of form
  few_retired =
      let a = Σ_mono (λ b. mark (is_retired (block k b).standing)) (λ b. Σ (λ m. tot (is b) (g.members m)) N) N in_batch in
      let b = Σ_swap (λ b m. tot (is b) (g.members m)) N N in
      let c = Σ_mono (λ m. Σ (λ b. tot (is b) (g.members m)) N) (λ m. S * places_of m) N (λ m _. let p = by_value (λ y. y) (g.members m) N in let q = batch_held m in omega arith) in
      let d = Σ_times places_of S N in
      let P : ℕ = form.workers + (form.workers * form.holds + form.workers) * list_most_of form in
      let e = mul-le S (Σ (λ m. places_of m) N) S P (omega arith) places_most in
      let f = counts_places form.workers form.holds form.live form.taking_period form.trying_period in
      let h = mul_comm S P in
      omega arith

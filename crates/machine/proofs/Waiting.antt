-- From the clauses to where a retired block waits.
use Rattle.std.proofs.Common.{◌≡◌, ℕ, ◌*◌, ◌<◌, ◌≤◌, Bool, List, [], ◌∷◌, Some, None, Option, sym, refl, subst, inl, inr, arith}
use native.Mathlib.Decide.{ℕ_discrete}
use Rattle.machine.specs.declared.states.Batch.{Batch}
use Rattle.machine.specs.declared.states.HungList.{HungList}
use Rattle.machine.specs.declared.states.HungList.TheVariants.{Off, Empty, Newest}
use Rattle.machine.specs.declared.states.Task.{Task}
use Rattle.machine.specs.declared.states.Task.TheVariants.{Idle, TakeEra, TakeBlock, LookCell, LookEra, LookList, LookWalk, LookAgain, LookWrite, DropList, DropWalk, DropEra, TryVisit, TryHang, TryLast}
use Rattle.machine.specs.declared.states.Core.{Core}
use Rattle.machine.specs.State.{block, worker, reservation}
use Rattle.machine.specs.Trying.{places}
use Rattle.machine.specs.Batches.{newest_on, walking, Met, here, there, Hangs, Waits}
use Rattle.machine.proofs.Sums.{Σ, tot, is, is_self, Σ_some, Σ_term}
use Rattle.machine.proofs.Chains.{Chain}
use Rattle.machine.proofs.Mirror.{view}
use Rattle.machine.proofs.Sound.{Gh, Sound, Alive, head, next, owns, hung_for, on, of}

-- an entry that has a weight
pub tot_some : (p : ℕ → ℕ) (xs : List ℕ) → 1 ≤ tot p xs → (c : ℕ) × (1 ≤ tot (is c) xs) × (1 ≤ p c)
tot_some p [] h = absurd (omega arith)
tot_some p (x ∷ xs) h = elim (ℕ_discrete (p x) 0) [
  | yes z ↦ (let r = tot_some p xs (omega arith) in (r.0, omega (arith, r.1), r.2))
  | no ne ↦ (x, let i = is_self x in omega arith, omega arith)
]

-- a weight that the sum has, one of the entries has
same_number : (c x : ℕ) → 1 ≤ is c x → x ≡ c
same_number c x h = elim (ℕ_discrete x c) [ yes e ↦ e | no ne ↦ absurd (grind arith) ]

module _ (k : Core) where
  -- what a chain has is met along it, and the other way round
  chain_met : (o : Option ℕ) (xs : List ℕ) (c : ℕ) → Chain (λ b. (block k b).under) o xs → 1 ≤ tot (is c) xs → Met k o c
  chain_met o [] c ch m = absurd (omega arith)
  chain_met o (x ∷ xs) c ch m = subst (λ q. Met k q c) (sym ch.0) (elim (ℕ_discrete x c) [
    | yes e ↦ subst (λ y. Met k (Some x) y) e here
    | no ne ↦ there (chain_met (block k x).under xs c ch.1 (let z : is c x ≡ 0 = grind arith in omega arith))
  ])

  same_some : (a b : ℕ) → ◌≡◌ {A = Option ℕ} (Some a) (Some b) → a ≡ b
  same_some a b e = cc

  met_in : (o : Option ℕ) (xs : List ℕ) (c : ℕ) → Chain (λ b. (block k b).under) o xs → Met k o c → 1 ≤ tot (is c) xs
  met_in None xs c ch m = elim m [ ]
  met_in (Some b) [] c ch m = absurd (let z : ◌≡◌ {A = ℕ} 0 1 = cc in omega arith)
  met_in (Some b) (x ∷ xs) c ch here = let e = same_some b x ch.0 in let i : is b x ≡ 1 = rw (sym e) (is_self b) in omega arith
  met_in (Some a) (x ∷ xs) c ch (there m) =
      let e = same_some a x ch.0 in
      let t = met_in (block k a).under xs c (subst (λ y. Chain (λ b. (block k b).under) (block k y).under xs) (sym e) ch.1) m in
      omega arith

  pub head_is : (l : HungList) → head l ≡ newest_on l
  head_is Off = refl
  head_is Empty = refl
  head_is (Newest b) = refl

  pub next_is : (t : Task) → next t ≡ walking t
  next_is Idle = refl
  next_is TakeEra = refl
  next_is TakeBlock = refl
  next_is (LookCell h c) = refl
  next_is (LookEra h c seen) = refl
  next_is (LookList h c e) = refl
  next_is (LookWalk h c b) = refl
  next_is (LookAgain h c) = refl
  next_is (LookWrite h c e) = refl
  next_is (DropList h) = refl
  next_is (DropWalk h b) = refl
  next_is (DropEra h) = refl
  next_is (TryVisit r b aside) = refl
  next_is (TryHang b left hung) = refl
  next_is (TryLast hung) = refl

  owner_is : (l : ℕ) (o : Option Batch) → 1 ≤ owns l o → (x : Batch) × (o ≡ Some x) × (x.lead ≡ l)
  owner_is l None h = absurd (omega arith)
  owner_is l (Some x) h = (x, refl, elim (ℕ_discrete x.lead l) [ yes e ↦ e | no ne ↦ absurd (grind arith) ])

  module _ (inside : List Bool) (N R W : ℕ) (g : Gh) (c : Sound N R W (view k inside) g) (al : Alive (view k inside)) (eR : R ≡ places k) (eW : W ≡ k.form.workers)
      (slack : (l : ℕ) → Σ (λ w. hung_for l (worker k w).batch (worker k w).task) W ≤ 32 * Σ (λ w. owns l (worker k w).batch) W) where
    -- what is on a list or a walk hangs
    entry_hangs : (p : ℕ → ℕ) → 1 ≤ on R W g p → (b : ℕ) × (1 ≤ p b) × Hangs k b
    entry_hangs p h = elim (ℕ_discrete (Σ (λ r. tot p (g.hung r)) R) 0) [
      | yes z ↦ (let i = Σ_some (λ w. tot p (g.walk w)) W (omega arith) in let e = tot_some p (g.walk i.0) i.2 in
          (e.0, e.2, inr (i.0, subst (λ m. i.0 < m) eW i.1, chain_met _ (g.walk i.0) e.0 (subst (λ o. Chain (λ b. (block k b).under) o (g.walk i.0)) (next_is (worker k i.0).task) (c.walk_chain i.0 i.1)) e.1)))
      | no ne ↦ (let i = Σ_some (λ r. tot p (g.hung r)) R (omega arith) in let e = tot_some p (g.hung i.0) i.2 in
          (e.0, e.2, inl (i.0, subst (λ m. i.0 < m) eR i.1, chain_met _ (g.hung i.0) e.0 (subst (λ o. Chain (λ b. (block k b).under) o (g.hung i.0)) (head_is (reservation k i.0).list) (c.hung_chain i.0 i.1)) e.1)))
    ]

    -- and what hangs is on one
    hangs_entry : (b : ℕ) → Hangs k b → 1 ≤ on R W g (is b)
    hangs_entry b (inl h) =
        let r = h.0 in
        let hr : r < R = subst (λ m. r < m) (sym eR) h.1 in
        let m = met_in _ (g.hung r) b (c.hung_chain r hr) (subst (λ o. Met k o b) (sym (head_is (reservation k r).list)) h.2) in
        let t = Σ_term (λ q. tot (is b) (g.hung q)) r R hr in
        omega arith
    hangs_entry b (inr h) =
        let w = h.0 in
        let hw : w < W = subst (λ m. w < m) (sym eW) h.1 in
        let m = met_in _ (g.walk w) b (c.walk_chain w hw) (subst (λ o. Met k o b) (sym (next_is (worker k w).task)) h.2) in
        let t = Σ_term (λ q. tot (is b) (g.walk q)) w W hw in
        omega arith

    pub waits : Waits k
    waits = record {
      somewhere = λ b ret.
          let l = (block k b).lead in
          let lead = c.led b ret in
          elim (ℕ_discrete (Σ (λ w. owns l (worker k w).batch) W) 0) [
            | yes z ↦
                (let e = c.even l lead in
                let a = al l lead in
                let q = slack l in
                let h = entry_hangs (of (λ x. (block k x).lead) l) (omega arith) in
                inr (h.0, (let m = h.1 in elim (ℕ_discrete (block k h.0).lead l) [ yes i ↦ i | no ne ↦ absurd (grind arith) ]), h.2))
            | no ne ↦
                (let i = Σ_some (λ w. owns l (worker k w).batch) W (omega arith) in
                let o = owner_is l (worker k i.0).batch i.2 in
                inl (i.0, subst (λ m. i.0 < m) eW i.1, o.0, o.1, o.2))
          ];
      counted = λ b h. al (block k b).lead (c.led b (c.entries b (hangs_entry b h)));
    }

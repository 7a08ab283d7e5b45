-- The loads of reservations: how long each list is, with its potential; and that they stay small where one worker's part changes.
use Rattle.std.proofs.Common.{◌≡◌, ℕ, zero, suc, ◌+◌, ◌-◌, ◌*◌, ◌<◌, ◌≤◌, ◌≢◌, List, length, get_or, Some, None, Option, sym, refl, ap, ◌∙◌, subst, arith}
use native.Mathlib.Decide.{ℕ_discrete, dec_lt}
use Rattle.figures.specs.Limits.{Fit}
use Rattle.figures.specs.declared.limits.Form.{Form}
use Rattle.machine.specs.declared.states.Task.{Task}
use Rattle.machine.specs.declared.states.Task.TheVariants.{Idle, TakeEra, TakeBlock, LookCell, LookEra, LookList, LookWalk, LookAgain, LookWrite, DropList, DropWalk, DropEra, TryVisit, TryHang, TryLast}
use Rattle.machine.specs.declared.states.Worker.{Worker}
use Rattle.machine.specs.declared.states.Core.{Core}
use Rattle.machine.specs.State.{fresh_reservation, worker, reservation}
use Rattle.machine.specs.Eras.{InTime, InOrder}
use Rattle.machine.specs.Living.{FewLive}
use Rattle.machine.proofs.Chains.{Chain}
use Rattle.machine.proofs.Sound.{head, next}
use Rattle.machine.proofs.StepsSound.{reservations, place_below}
use Rattle.machine.proofs.Potential.{Shape, shape, stage, emptied_hold, weigh, SlotsRight, born, amount, pot, born_living, weigh_most, Σ_most, Σ_change_most}

-- the most that the potential of a reservation can be
abbrev pub most : Form → ℕ
most form = form.live + form.workers * (form.taking_period + 1)

-- the load of the reservation at place r, where so many blocks hang from each
abbrev pub load : Form → Core → (ℕ → ℕ) → ℕ → ℕ
load form k len r = len r + pot form k (reservation k r).era r

-- what is always so of loads, where so many blocks at most hang from each reservation and are still to be walked by each worker
pub record Loads (form : Form) (k : Core) (len walk : ℕ → ℕ) : Type 0 where
  pub lists : (r : ℕ) → r < reservations form → (xs : List ℕ) → Chain (shape k).under (head (reservation k r).list) xs → length xs ≤ len r
  pub walks : (w : ℕ) → w < form.workers → (xs : List ℕ) → Chain (shape k).under (next (worker k w).task) xs → length xs ≤ walk w
  pub light : (r : ℕ) → r < reservations form → load form k len r ≤ most form + most form
  pub lighter : (w h : ℕ) → w < form.workers → emptied_hold (worker k w).task ≡ Some h → load form k len (w * form.holds + h) ≤ most form
  pub short : (w : ℕ) → w < form.workers → walk w ≤ most form + most form
  pub slots : (w : ℕ) → w < form.workers → SlotsRight (shape k) (worker k w).batch (stage (worker k w).task)

-- no potential is larger
pub pot_most : (form : Form) (k : Core) → InOrder form 0 k → FewLive k → ((w : ℕ) → w < form.workers → SlotsRight (shape k) (worker k w).batch (stage (worker k w).task)) → (e r : ℕ) → pot form k e r ≤ most form
pot_most form k o few slots e r =
    let a = born_living e k.blocks.rows in
    let b = Σ_most (λ v. weigh form.taking_period k.era (shape k) e r (worker k v)) (form.taking_period + 1) form.workers
    (λ v h. weigh_most form.taking_period k.era (shape k) e r (worker k v) (o.takings v) (slots v h)) in
    let c = few.counted in
    let d = few.few in
    let f : k.form.live ≡ form.live = ap (λ (x : Form). x.live) o.same_form in
    omega arith

no_hold : {A : Type 0} (h : ℕ) → ◌≡◌ {A = Option ℕ} None (Some h) → A
no_hold h e = absurd (let z : ◌≡◌ {A = ℕ} 0 1 = cc in omega arith)

same_hold : (a b : ℕ) → ◌≡◌ {A = Option ℕ} (Some a) (Some b) → a ≡ b
same_hold a b e = cc

-- a hold that is emptied is one that there is
pub emptied_below : (holds now : ℕ) (t : Task) (h : ℕ) → emptied_hold t ≡ Some h → InTime holds now t → h < holds
emptied_below holds now Idle h e p = no_hold h e
emptied_below holds now TakeEra h e p = no_hold h e
emptied_below holds now TakeBlock h e p = no_hold h e
emptied_below holds now (LookCell a c) h e p = no_hold h e
emptied_below holds now (LookEra a c seen) h e p = no_hold h e
emptied_below holds now (LookList a c n) h e p = no_hold h e
emptied_below holds now (LookWalk a c b) h e p = let z = same_hold a h e in omega arith
emptied_below holds now (LookAgain a c) h e p = let z = same_hold a h e in omega arith
emptied_below holds now (LookWrite a c n) h e p = let z = same_hold a h e in omega (arith, p.0)
emptied_below holds now (DropList a) h e p = no_hold h e
emptied_below holds now (DropWalk a b) h e p = let z = same_hold a h e in omega arith
emptied_below holds now (DropEra a) h e p = let z = same_hold a h e in omega arith
emptied_below holds now (TryVisit r b aside) h e p = no_hold h e
emptied_below holds now (TryHang b left hung) h e p = no_hold h e
emptied_below holds now (TryLast hung) h e p = no_hold h e

-- equal parts weigh the same
pub same_weight : (period m n : ℕ) (s t : Shape) (e r : ℕ) (x y : Worker) → m ≡ n → s ≡ t → x ≡ y → weigh period m s e r x ≡ weigh period n t e r y
same_weight period m n s t e r x y en es ex = ap (λ i. weigh period i s e r x) en ∙ ap (λ i. weigh period n i e r x) es ∙ ap (weigh period n t e r) ex

-- two workers have no reservation in common
below : (n a b x y : ℕ) → a < b → x < n → a * n + x < b * n + y
below n a b x y l h =
    let c = more (b - suc a) in
    let d : b ≡ suc a + (b - suc a) = omega arith in
    rw d (omega arith)
  where
    more : (m : ℕ) → suc a * n ≤ (suc a + m) * n
    more zero = omega arith
    more (suc m) = let q = more m in omega arith

pub apart : (n a b x y : ℕ) → a ≢ b → x < n → y < n → a * n + x ≢ b * n + y
apart n a b x y ne hx hy e = elim (dec_lt a b) [
  | yes l ↦ (let z = below n a b x y l hx in omega arith)
  | no l ↦ (let z = below n b a y x (omega arith) hy in omega arith)
]

-- what the potential comes to where worker w's part changes
pub pot_falls : (form : Form) (k : Core) (w : ℕ) → w < form.workers → (k' : Core) → ((v : ℕ) → v ≢ w → worker k' v ≡ worker k v)
    → ((v : ℕ) → v < form.workers → v ≢ w → (e r : ℕ) → e ≤ k.era → weigh form.taking_period k'.era (shape k') e r (worker k v) ≤ weigh form.taking_period k.era (shape k) e r (worker k v))
    → (m n e r : ℕ) → e ≤ k.era
    → m + amount (born e) k'.blocks.rows + weigh form.taking_period k'.era (shape k') e r (worker k' w) ≤ n + amount (born e) k.blocks.rows + weigh form.taking_period k.era (shape k) e r (worker k w)
    → m + pot form k' e r ≤ n + pot form k e r
pot_falls form k w hw k' others weighs m n e r he d =
    let c = Σ_change_most (λ v. weigh form.taking_period k.era (shape k) e r (worker k v)) (λ v. weigh form.taking_period k'.era (shape k') e r (worker k' v)) w form.workers hw
    (λ v hv nv. subst (λ x. weigh form.taking_period k'.era (shape k') e r x ≤ weigh form.taking_period k.era (shape k) e r (worker k v)) (sym (others v nv)) (weighs v hv nv e r he)) in
    omega arith

-- worker w's part changes, and perhaps the era of the reservation at place p
module _ (form : Form) (fit : Fit form) (k : Core) (o : InOrder form 0 k) (len walk : ℕ → ℕ) (l : Loads form k len walk) (w : ℕ) (hw : w < form.workers) (k' : Core) (len' walk' : ℕ → ℕ) (p : ℕ)
    (others : (v : ℕ) → v ≢ w → worker k' v ≡ worker k v)
    (eras : (r : ℕ) → r < reservations form → r ≢ p → (reservation k' r).era ≡ (reservation k r).era)
    (weighs : (v : ℕ) → v < form.workers → v ≢ w → (e r : ℕ) → e ≤ k.era → weigh form.taking_period k'.era (shape k') e r (worker k v) ≤ weigh form.taking_period k.era (shape k) e r (worker k v))
    (local : (r : ℕ) → r < reservations form → r ≢ p
    → len' r + amount (born (reservation k r).era) k'.blocks.rows + weigh form.taking_period k'.era (shape k') (reservation k r).era r (worker k' w)
    ≤ len r + amount (born (reservation k r).era) k.blocks.rows + weigh form.taking_period k.era (shape k) (reservation k r).era r (worker k w)) where
  falls : (r : ℕ) → r < reservations form → r ≢ p → load form k' len' r ≤ load form k len r
  falls r hr ne = subst (λ n. len' r + pot form k' n r ≤ load form k len r) (sym (eras r hr ne)) (pot_falls form k w hw k' others weighs (len' r) (len r) (reservation k r).era r (o.reserved r) (local r hr ne))

  pub moved : ((r : ℕ) → r < reservations form → (xs : List ℕ) → Chain (shape k').under (head (reservation k' r).list) xs → length xs ≤ len' r)
      → ((v : ℕ) → v < form.workers → v ≢ w → (xs : List ℕ) → Chain (shape k').under (next (worker k v).task) xs → length xs ≤ walk' v)
      → ((xs : List ℕ) → Chain (shape k').under (next (worker k' w).task) xs → length xs ≤ walk' w)
      → ((v : ℕ) → v < form.workers → walk' v ≤ most form + most form)
      → ((v : ℕ) → v < form.workers → v ≢ w → SlotsRight (shape k') (worker k v).batch (stage (worker k v).task))
      → SlotsRight (shape k') (worker k' w).batch (stage (worker k' w).task)
      → (p < reservations form → load form k' len' p ≤ most form + most form)
      → ((v h : ℕ) → v ≢ w → v < form.workers → h < form.holds → v * form.holds + h ≢ p)
      → (((r : ℕ) → r < reservations form → r ≢ p → load form k' len' r ≤ load form k len r) → (h : ℕ) → emptied_hold (worker k' w).task ≡ Some h → load form k' len' (w * form.holds + h) ≤ most form)
      → Loads form k' len' walk'
  moved lists' walks_others walks_here short' slots_others slots_here at_p not_p lighter_here = record {
    lists = lists';
    walks = λ v hv xs. by_worker (λ x. Chain (shape k').under (next x.task) xs → length xs ≤ walk' v) v (λ e. subst (λ u. Chain (shape k').under (next (worker k' w).task) xs → length xs ≤ walk' u) (sym e) (walks_here xs)) (λ nv. walks_others v hv nv xs);
    light = λ r hr. elim (ℕ_discrete r p) [
      | yes e ↦ subst (λ q. load form k' len' q ≤ most form + most form) (sym e) (at_p (subst (λ q. q < reservations form) e hr))
      | no ne ↦ (let a = falls r hr ne in let b = l.light r hr in omega arith)
    ];
    lighter = λ v h hv. by_worker (λ x. emptied_hold x.task ≡ Some h → load form k' len' (v * form.holds + h) ≤ most form) v
        (λ e. subst (λ u. emptied_hold (worker k' w).task ≡ Some h → load form k' len' (u * form.holds + h) ≤ most form) (sym e) (lighter_here falls h))
        (λ nv q.
        let hh = emptied_below form.holds k.era (worker k v).task h q (o.tasks v) in
        let a = falls (v * form.holds + h) (place_below form fit v h hv hh) (not_p v h nv hv hh) in
        let b = l.lighter v h hv q in
        omega arith);
    short = short';
    slots = λ v hv. by_worker (λ x. SlotsRight (shape k') x.batch (stage x.task)) v (λ e. slots_here) (λ nv. slots_others v hv nv);
  }
    where
      by_worker : (P : Worker → Type 0) (v : ℕ) → (v ≡ w → P (worker k' w)) → (v ≢ w → P (worker k v)) → P (worker k' v)
      by_worker P v here there = elim (ℕ_discrete v w) [
        | yes e ↦ subst (λ u. P (worker k' u)) (sym e) (here e)
        | no ne ↦ subst P (sym (others v ne)) (there ne)
      ]

-- reservations, era and shape stay as they are, and no potential rises
module _ (form : Form) (fit : Fit form) (k : Core) (o : InOrder form 0 k) (len walk : ℕ → ℕ) (l : Loads form k len walk) (w : ℕ) (hw : w < form.workers) (k' : Core)
    (others : (v : ℕ) → v ≢ w → worker k' v ≡ worker k v) (same_reservations : k'.reservations ≡ k.reservations) (same_era : k'.era ≡ k.era) (same_shape : shape k' ≡ shape k)
    (fewer : (e : ℕ) → amount (born e) k'.blocks.rows ≤ amount (born e) k.blocks.rows) where
  pub quiet : (y : Worker) → worker k' w ≡ y
      → ((e r : ℕ) → e ≤ k.era → weigh form.taking_period k.era (shape k) e r y ≤ weigh form.taking_period k.era (shape k) e r (worker k w))
      → SlotsRight (shape k) y.batch (stage y.task)
      → ((xs : List ℕ) → Chain (shape k).under (next y.task) xs → length xs ≤ walk w)
      → ((h : ℕ) → emptied_hold y.task ≡ Some h → emptied_hold (worker k w).task ≡ Some h)
      → Loads form k' len walk
  quiet y here lighter_weight slots_here walks_here still =
      moved form fit k o len walk l w hw k' len walk (reservations form) others
      (λ r _ _. ap (λ xs. (get_or xs r fresh_reservation).era) same_reservations)
      (λ v hv nv e r he. let c = same_weight form.taking_period k'.era k.era (shape k') (shape k) e r (worker k v) (worker k v) same_era same_shape refl in omega arith)
      (λ r hr ne.
      let a = fewer (reservation k r).era in
      let b = lighter_weight (reservation k r).era r (o.reserved r) in
      let c = same_weight form.taking_period k'.era k.era (shape k') (shape k) (reservation k r).era r (worker k' w) y same_era same_shape here in
      omega arith)
      (λ r hr xs c. l.lists r hr xs (subst (λ s. Chain s.under (head (reservation k r).list) xs) same_shape (subst (λ rs. Chain (shape k').under (head (get_or rs r fresh_reservation).list) xs) same_reservations c)))
      (λ v hv nv xs c. l.walks v hv xs (subst (λ s. Chain s.under (next (worker k v).task) xs) same_shape c))
      (λ xs c. walks_here xs (subst (λ s. Chain s.under (next y.task) xs) same_shape (subst (λ x. Chain (shape k').under (next x.task) xs) here c)))
      l.short
      (λ v hv nv. subst (λ s. SlotsRight s (worker k v).batch (stage (worker k v).task)) (sym same_shape) (l.slots v hv))
      (subst (λ s. SlotsRight s (worker k' w).batch (stage (worker k' w).task)) (sym same_shape) (subst (λ x. SlotsRight (shape k) x.batch (stage x.task)) (sym here) slots_here))
      (λ lt. absurd (omega arith))
      (λ v h nv hv hh e. let a = place_below form fit v h hv hh in omega arith)
      (λ falls h q.
      let z = still h (subst (λ x. emptied_hold x.task ≡ Some h) here q) in
      let hh = emptied_below form.holds k.era (worker k w).task h z (o.tasks w) in
      let pb = place_below form fit w h hw hh in
      let a = falls (w * form.holds + h) pb (λ e. omega arith) in
      let b = l.lighter w h hw z in
      omega arith)

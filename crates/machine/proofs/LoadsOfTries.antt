-- That tries keep loads small.
use Rattle.std.proofs.Common.{◌≡◌, ℕ, zero, suc, ◌+◌, ◌-◌, ◌<◌, ◌≤◌, Bool, true, false, cond, ◌&&◌, ◌||◌, eqb, ltb, leb, ◌≢◌, List, [], ◌∷◌, length, get_or, set, Some, None, Option, unwrap_or, sym, refl, ap, ◌∙◌, subst, arith}
use native.Mathlib.Decide.{ℕ_discrete}
use Rattle.std.proofs.lemmas.List.{get_or-set_same, get_or-set_other}
use Rattle.std.proofs.lemmas.Bool.Decides.{nat_tests}
use Rattle.figures.specs.Limits.{Fit}
use Rattle.figures.specs.declared.limits.Form.{Form}
use Rattle.machine.specs.declared.states.Batch.{Batch}
use Rattle.machine.specs.declared.states.Block.{Block}
use Rattle.machine.specs.declared.states.HungList.{HungList}
use Rattle.machine.specs.declared.states.HungList.TheVariants.{Off, Empty, Newest}
use Rattle.machine.specs.declared.states.Reservation.{Reservation}
use Rattle.machine.specs.declared.states.Task.{Task}
use Rattle.machine.specs.declared.states.Task.TheVariants.{Idle, TakeEra, TakeBlock, LookCell, LookEra, LookList, LookWalk, LookAgain, LookWrite, DropList, DropWalk, DropEra, TryVisit, TryHang, TryLast}
use Rattle.machine.specs.declared.states.Worker.{Worker}
use Rattle.machine.specs.declared.states.Core.{Core}
use Rattle.machine.specs.State.{blank_block, blank_worker, fresh_reservation, block, worker, reservation, with_block, with_task, idle}
use Rattle.machine.specs.Account.{is_retired}
use Rattle.machine.specs.Eras.{InOrder}
use Rattle.machine.specs.Living.{FewLive}
use Rattle.machine.specs.Moves.{Move}
use Rattle.machine.specs.Trying.{places, is_off, passed_over, hangings, with_slot, block_after, visited, try_visit, with_under, hung_at, hanged, hang_on, try_hang, settled, try_last}
use Rattle.machine.specs.Walking.{with_count, all_pooled, due}
use Rattle.machine.proofs.Passing.{by_test}
use Rattle.machine.proofs.Sums.{upd, tot, mark, is, is_self, is_other, Σ_term, upd_same, upd_other, tot_on}
use Rattle.machine.proofs.Chains.{Chain, chain_some, chain_upd}
use Rattle.machine.proofs.Bridge.{Sized, field_kept, field_set}
use Rattle.machine.proofs.Mirror.{view}
use Rattle.machine.proofs.Sound.{Gh, Sound, TaskRight, Alive, head, next, on, due_of}
use Rattle.machine.proofs.Sound as sound
use Rattle.machine.proofs.Owners.{owns_own, alone, own_chain}
use Rattle.machine.proofs.Doings.{all_pooled_workers}
use Rattle.machine.proofs.VisitKept as visits
use Rattle.machine.proofs.HangKept.{hang_info, hang_batch, hang_place, hang_next}
use Rattle.machine.proofs.StepsSound.{reservations, few_places, few_blocks, place_below, retired_below}
use Rattle.machine.proofs.ShortTurns.{names_lead, there_below}
use Rattle.machine.proofs.Potential.{Shape, shape, shape_kept, same_shape, firsts, onward, firsts_more, onward_more, firsts_of, firsts_then, firsts_upd, onward_upd, Stage, resting, visiting, hanging, closing, stage, halfway, emptied_hold, aside_of, aimed, asks, coming, weigh, SlotsRight, born, amount_less}
use Rattle.machine.proofs.Loads.{Loads, same_weight, moved, quiet}
use Rattle.machine.proofs.LoadsOfLooks.{Light, asking, weigh_below, weigh_less, no_chain, no_hold, set_others, set_here, shape_pooled, reservations_pooled, era_pooled, born_pooled}

-- another slot of a block that is none of these is not seen
pub aimed_upd : (slot : ℕ → ℕ) (b v r : ℕ) (xs : List ℕ) → tot (is b) xs ≡ 0 → aimed (upd slot b v) r xs ≡ aimed slot r xs
aimed_upd slot b v r xs z = tot_on (λ y. is r (upd slot b v y)) (λ y. is r (slot y)) xs
    (λ y m. ap (is r) (upd_other slot b v y (λ e. let t : tot (is b) xs ≡ tot (is y) xs = ap (λ i. tot (is i) xs) (sym e) in omega arith)))

-- the same of what a worker asks, and of its slots
module _ (s t : Shape) (b : ℕ) (x : Option Batch) (st : Stage) (out : tot (is b) (aside_of s.elder x st) ≡ 0) where
  module _ (v : ℕ) (ee : t.elder ≡ s.elder) (es : t.slot ≡ upd s.slot b v) where
    aimed_slot : (r : ℕ) → aimed t.slot r (aside_of t.elder x st) ≡ aimed s.slot r (aside_of s.elder x st)
    aimed_slot r = ap (λ f. aimed t.slot r (aside_of f x st)) ee ∙ ap (λ f. aimed f r (aside_of s.elder x st)) es ∙ aimed_upd s.slot b v r (aside_of s.elder x st) out

    pub asking_slot : (e r : ℕ) → asking t e r x st ≡ asking s e r x st
    asking_slot e r = ap (λ n. asks e n x st) (aimed_slot r)

  module _ (v : Option ℕ) (ee : t.elder ≡ upd s.elder b v) (es : t.slot ≡ s.slot) where
    pub aside_elder : (y : Option Batch) (u : Stage) → tot (is b) (aside_of s.elder y u) ≡ 0 → aside_of (upd s.elder b v) y u ≡ aside_of s.elder y u
    aside_elder None u z = refl
    aside_elder (Some y) resting z = refl
    aside_elder (Some y) (visiting p c n) z = firsts_upd n s.elder b v (Some y.newest) z
    aside_elder (Some y) (hanging c n) z = firsts_upd n s.elder b v (Some c) z
    aside_elder (Some y) closing z = refl

    pub asking_elder : (e r : ℕ) → asking t e r x st ≡ asking s e r x st
    asking_elder e r = ap (λ n. asks e n x st) (ap (λ f. aimed f r (aside_of t.elder x st)) es ∙ ap (aimed s.slot r) (ap (λ f. aside_of f x st) ee ∙ aside_elder x st out))

pub slots_slot : (s t : Shape) (b v : ℕ) → t.elder ≡ s.elder → t.slot ≡ upd s.slot b v → (x : Option Batch) (st : Stage) → tot (is b) (aside_of s.elder x st) ≡ 0 → SlotsRight s x st → SlotsRight t x st
slots_slot s t b v ee es None st out o = tt
slots_slot s t b v ee es (Some x) resting out o = tt
slots_slot s t b v ee es (Some x) (visiting p c n) out o = (
  λ r. let a = aimed_slot s t b (Some x) (visiting p c n) out v ee es r in let q = o.0 r in omega arith,
  ap (λ f. onward n f (Some x.newest)) ee ∙ o.1,
)
slots_slot s t b v ee es (Some x) (hanging c n) out o = λ r. let a = aimed_slot s t b (Some x) (hanging c n) out v ee es r in let q = o r in omega arith
slots_slot s t b v ee es (Some x) closing out o = tt

pub slots_elder : (s t : Shape) (b : ℕ) (v : Option ℕ) → t.elder ≡ upd s.elder b v → t.slot ≡ s.slot → (x : Option Batch) (st : Stage) → tot (is b) (aside_of s.elder x st) ≡ 0 → SlotsRight s x st → SlotsRight t x st
slots_elder s t b v ee es None st out o = tt
slots_elder s t b v ee es (Some x) resting out o = tt
slots_elder s t b v ee es (Some x) (visiting p c n) out o = (
  λ r.
      let a : aimed t.slot r (firsts n t.elder (Some x.newest)) ≡ aimed s.slot r (firsts n s.elder (Some x.newest)) =
      ap (λ f. aimed f r (firsts n t.elder (Some x.newest))) es ∙ ap (aimed s.slot r) (ap (λ f. firsts n f (Some x.newest)) ee ∙ firsts_upd n s.elder b v (Some x.newest) out) in
      let q = o.0 r in
      omega arith,
  ap (λ f. onward n f (Some x.newest)) ee ∙ onward_upd n s.elder b v (Some x.newest) out ∙ o.1,
)
slots_elder s t b v ee es (Some x) (hanging c n) out o =
    λ r.
    let a : aimed t.slot r (firsts n t.elder (Some c)) ≡ aimed s.slot r (firsts n s.elder (Some c)) =
    ap (λ f. aimed f r (firsts n t.elder (Some c))) es ∙ ap (aimed s.slot r) (ap (λ f. firsts n f (Some c)) ee ∙ firsts_upd n s.elder b v (Some c) out) in
    let q = o r in
    omega arith
slots_elder s t b v ee es (Some x) closing out o = tt

-- what follows a visit of place r, with so many set aside
module _ (s : Shape) (x : Batch) (more : Bool) (r b n : ℕ) (right : SlotsRight s (Some x) (visiting (r + 1) b n)) where
  abbrev NextRight : Task → Type 0
  NextRight t = SlotsRight s (Some x) (stage t) × ((e p : ℕ) → asking s e p (Some x) (stage t) ≤ asking s e p (Some x) (visiting (r + 1) b n)) × (next t ≡ None) × (emptied_hold t ≡ None) × (halfway t ≡ false)

  after_visit : NextRight (cond more (TryVisit (r + 1) b n) (hangings x n))
  after_visit =
      by_test NextRight more (TryVisit (r + 1) b n) (hangings x n)
      (λ _. (right, λ e p. omega arith, refl, refl, refl))
      (λ _. by_test NextRight (eqb n 0) (TryLast 0) (TryHang x.newest n 0)
      (λ _. (tt, λ e p. omega arith, refl, refl, refl))
      (λ _. (λ p. let a = right.0 p in omega arith, λ e p. let a = right.0 p in by_way (leb x.least e) (aimed s.slot p (firsts n s.elder (Some x.newest))) (omega arith), refl, refl, refl)))
    where
      by_way : (q : Bool) (m : ℕ) → m ≤ 1 → m ≤ cond q 1 m
      by_way true m h = h
      by_way false m h = omega arith

-- what follows the hanging of block b, or its being passed over
pub firsts_first : (n : ℕ) (f : ℕ → Option ℕ) (b : ℕ) → 1 ≤ n → firsts n f (Some b) ≡ b ∷ firsts (n - 1) f (f b)
firsts_first zero f b h = absurd (omega arith)
firsts_first (suc n) f b h = let e : n ≡ suc n - 1 = omega arith in ap (λ m. b ∷ firsts m f (f b)) e

module _ (s : Shape) (x : Batch) (more : Bool) (b d n hung : ℕ) (some : 1 ≤ n) (older : s.elder b ≡ Some d) (right : SlotsRight s (Some x) (hanging b n)) where
  abbrev HungRight : Task → Type 0
  HungRight t = SlotsRight s (Some x) (stage t) × ((e p : ℕ) → is p (s.slot b) + asking s e p (Some x) (stage t) ≤ asking s e p (Some x) (hanging b n)) × (next t ≡ None) × (emptied_hold t ≡ None) × (halfway t ≡ false)

  one_less : (p : ℕ) → aimed s.slot p (firsts n s.elder (Some b)) ≡ is p (s.slot b) + aimed s.slot p (firsts (n - 1) s.elder (Some d))
  one_less p = ap (aimed s.slot p) (firsts_first n s.elder b some ∙ ap (λ q. b ∷ firsts (n - 1) s.elder q) older)

  after_hanging : HungRight (cond more (TryHang d (n - 1) hung) (TryLast hung))
  after_hanging =
      by_test HungRight more (TryHang d (n - 1) hung) (TryLast hung)
      (λ _. (λ p. let a = one_less p in let q = right p in omega arith, λ e p. let a = one_less p in omega arith, refl, refl, refl))
      (λ _. (tt, λ e p. let a = one_less p in omega arith, refl, refl, refl))

-- two chains from the same block are the same
pub chain_same : (f : ℕ → Option ℕ) (o : Option ℕ) (xs ys : List ℕ) → Chain f o xs → Chain f o ys → xs ≡ ys
chain_same f o [] [] c d = refl
chain_same f o [] (y ∷ ys) c d = absurd (let z : ◌≡◌ {A = Option ℕ} None (Some y) = sym c ∙ d.0 in let u : ◌≡◌ {A = ℕ} 0 1 = cc in omega arith)
chain_same f o (x ∷ xs) [] c d = absurd (let z : ◌≡◌ {A = Option ℕ} None (Some x) = sym d ∙ c.0 in let u : ◌≡◌ {A = ℕ} 0 1 = cc in omega arith)
chain_same f o (x ∷ xs) (y ∷ ys) c d =
    let e : x ≡ y = let z : ◌≡◌ {A = Option ℕ} (Some x) (Some y) = sym c.0 ∙ d.0 in cc in
    let t = chain_same f (f x) xs ys c.1 (subst (λ i. Chain f (f i) ys) (sym e) d.1) in
    ap (λ i. i ∷ xs) e ∙ ap (λ zs. y ∷ zs) t

module _ (form : Form) (fit : Fit form) (k : Core) (inside : List Bool) (sz : Sized k) (long : length inside ≡ form.blocks) (o : InOrder form 0 k) (few : FewLive k) (g : Gh)
    (c : Sound form.blocks (reservations form) form.workers (view k inside) g) (al : Alive (view k inside)) (len walk : ℕ → ℕ) (l : Loads form k len walk) where
  -- what a worker has set aside is of its own batch
  pub aside_within : (v : ℕ) → v < form.workers → (x : Batch) → (worker k v).batch ≡ Some x → (t : Task) → (worker k v).task ≡ t → (y : ℕ) → tot (is y) (aside_of (shape k).elder (Some x) (stage t)) ≤ tot (is y) (g.members x.lead)
  aside_within v hv x ex Idle te y = omega arith
  aside_within v hv x ex TakeEra te y = omega arith
  aside_within v hv x ex TakeBlock te y = omega arith
  aside_within v hv x ex (LookCell h i) te y = omega arith
  aside_within v hv x ex (LookEra h i seen) te y = omega arith
  aside_within v hv x ex (LookList h i e) te y = omega arith
  aside_within v hv x ex (LookWalk h i b) te y = omega arith
  aside_within v hv x ex (LookAgain h i) te y = omega arith
  aside_within v hv x ex (LookWrite h i e) te y = omega arith
  aside_within v hv x ex (DropList h) te y = omega arith
  aside_within v hv x ex (DropWalk h b) te y = omega arith
  aside_within v hv x ex (DropEra h) te y = omega arith
  aside_within v hv x ex (TryVisit r b n) te y = firsts_of n (shape k).elder (Some x.newest) (g.members x.lead) (own_chain _ _ _ (view k inside) g c v x hv ex) (is y)
  aside_within v hv x ex (TryHang b n hung) te y =
      let right : TaskRight (reservations form) (shape k).elder g.members (Some x) (g.rest v) (TryHang b n hung) = subst (λ q. TaskRight (reservations form) (shape k).elder g.members q (g.rest v) (TryHang b n hung)) ex (subst (TaskRight (reservations form) (shape k).elder g.members (worker k v).batch (g.rest v)) te (c.tasks v hv)) in
      let same : right.0 ≡ x = let z = right.1 in cc in
      let a = firsts_of n (shape k).elder (Some b) (g.rest v) right.5 (is y) in
      let d : tot (is y) (g.rest v) ≤ tot (is y) (g.members x.lead) = subst (λ (i : Batch). tot (is y) (g.rest v) ≤ tot (is y) (g.members i.lead)) same (right.6 y) in
      omega arith
  aside_within v hv x ex (TryLast hung) te y = omega arith

  -- a block that is not of a worker's batch, it has not set aside
  pub not_aside : (v : ℕ) → v < form.workers → (b : ℕ) → ((x : Batch) → (worker k v).batch ≡ Some x → tot (is b) (g.members x.lead) ≡ 0) → tot (is b) (aside_of (shape k).elder (worker k v).batch (stage (worker k v).task)) ≡ 0
  not_aside v hv b h = by_batch (worker k v).batch refl
    where
      by_batch : (q : Option Batch) → (worker k v).batch ≡ q → tot (is b) (aside_of (shape k).elder q (stage (worker k v).task)) ≡ 0
      by_batch None e = refl
      by_batch (Some x) e = let a = aside_within v hv x e (worker k v).task refl b in let d = h x e in omega arith

  module _ (w : ℕ) (hw : w < form.workers) where
    -- a block of worker w's batch is of no other's
    pub not_of_others : (x : Batch) → (worker k w).batch ≡ Some x → (b : ℕ) → (block k b).lead ≡ x.lead → (v : ℕ) → v < form.workers → v ≢ w → (y : Batch) → (worker k v).batch ≡ Some y → tot (is b) (g.members y.lead) ≡ 0
    not_of_others x ex b eb v hv ne y ey =
        let one = ap (λ q. sound.owns x.lead q) ex ∙ owns_own x.lead x refl in
        let none = alone _ _ _ (view k inside) g c x.lead w v hw hv ne one in
        let apart : y.lead ≢ x.lead = λ z. let u = ap (sound.owns x.lead) ey ∙ owns_own x.lead y z in omega arith in
        let m = c.members_are b y.lead in
        by_way (is_retired (block k b).standing) (block k b).lead (λ z. apart (sym z ∙ eb)) m
      where
        by_way : (q : Bool) (i : ℕ) → i ≢ y.lead → tot (is b) (g.members y.lead) ≡ mark (q && eqb i y.lead) → tot (is b) (g.members y.lead) ≡ 0
        by_way true i ni m = let z : mark (eqb i y.lead) ≡ 0 = is_other y.lead i ni in omega arith
        by_way false i ni m = m

    others : (k' : Core) (y : Worker) → k'.workers ≡ set k.workers w y → (v : ℕ) → v ≢ w → worker k' v ≡ worker k v
    others = set_others form fit k sz o few len walk l w hw

    here : (k' : Core) (y : Worker) → k'.workers ≡ set k.workers w y → worker k' w ≡ y
    here = set_here form fit k sz o few len walk l w hw

    -- worker w with task t
    abbrev with_t : Task → Worker
    with_t t = record { takings = (worker k w).takings; task = t; batch = (worker k w).batch; shows = (worker k w).shows }

    -- no more takings to come
    no_takings : (y : Worker) → y.takings ≡ (worker k w).takings → halfway y.task ≡ false → mark (halfway y.task) + coming form.taking_period y.takings ≤ mark (halfway (worker k w).task) + coming form.taking_period (worker k w).takings
    no_takings y et eh = let a = ap (coming form.taking_period) et in let b = ap mark eh in omega arith

    -- another task of a try in place, with the same batch
    retries : (q : Option Batch) → (worker k w).batch ≡ q → (t u : Task) → (worker k w).task ≡ u → SlotsRight (shape k) q (stage t) → ((e r : ℕ) → asking (shape k) e r q (stage t) ≤ asking (shape k) e r q (stage u)) → next t ≡ None → emptied_hold t ≡ None → halfway t ≡ false → Light form (with_task k w t)
    retries q eq t u te slots asks_less no_Walk no_hold_empty not_half = (
      len,
      walk,
      quiet form fit k o len walk l w hw (with_task k w t) (others (with_task k w t) (with_t t) refl) refl refl refl (λ e. omega arith) (with_t t) (here (with_task k w t) (with_t t) refl)
          (λ e r _. weigh_less form.taking_period k.era (shape k) e r (worker k w) (with_t t)
          (subst (λ z. asking (shape k) e r z (stage t) ≤ asking (shape k) e r z (stage (worker k w).task)) (sym eq) (subst (λ z. asking (shape k) e r q (stage t) ≤ asking (shape k) e r q (stage z)) (sym te) (asks_less e r)))
          (no_takings (with_t t) refl not_half))
          (subst (λ z. SlotsRight (shape k) z (stage t)) (sym eq) slots)
          (λ xs ch. no_chain (shape k).under (walk w) xs (subst (λ z. Chain (shape k).under z xs) no_Walk ch))
          (λ h z. no_hold h (sym no_hold_empty ∙ z)),
    )

    -- a try of no batch ends
    pub gives_up : (worker k w).batch ≡ None → Light form (idle k w)
    gives_up eq = retries None eq Idle (worker k w).task refl tt (λ e r. omega arith) refl refl refl

    -- a visit
    module _ (r b n : ℕ) (te : (worker k w).task ≡ TryVisit r b n) (x : Batch) (ex : (worker k w).batch ≡ Some x) where
      visit_slots : SlotsRight (shape k) (Some x) (visiting r b n)
      visit_slots = subst (λ z. SlotsRight (shape k) z (visiting r b n)) ex (subst (λ z. SlotsRight (shape k) (worker k w).batch (stage z)) te (l.slots w hw))

      later : (p : ℕ) → mark (leb (r + 1) p) ≤ mark (leb r p)
      later p = by_way (leb (r + 1) p) (leb r p) (λ z. let a : r + 1 ≤ p = grind (arith, nat_tests) in grind (arith, nat_tests))
        where
          by_way : (q i : Bool) → (q ≡ true → i ≡ true) → mark q ≤ mark i
          by_way true i h = let z = ap mark (h refl) in omega arith
          by_way false i h = omega arith

      -- the place is passed over
      pub passes : Light form (with_task k w (visited k x r b n))
      passes =
          let right : SlotsRight (shape k) (Some x) (visiting (r + 1) b n) = (λ p. let a = visit_slots.0 p in let d = later p in omega arith, visit_slots.1) in
          let a = after_visit (shape k) x (ltb (r + 1) (places k)) r b n right in
          retries (Some x) ex (visited k x r b n) (TryVisit r b n) te a.0 a.1 a.2 a.3 a.4

      -- only the lead is left
      pub fails : Light form (idle k w)
      fails = retries (Some x) ex Idle (TryVisit r b n) te tt (λ e p. by_way (leb x.least e) (aimed (shape k).slot p (firsts n (shape k).elder (Some x.newest)))) refl refl refl
        where
          by_way : (q : Bool) (m : ℕ) → mark q ≤ cond q 1 m
          by_way true m = omega arith
          by_way false m = omega arith

      -- block b is set aside for place r
      module _ (not_lead : b ≢ x.lead) (not_passed : passed_over (reservation k r) x.least ≡ false) where
        members_one : tot (is b) (g.members x.lead) ≤ 1
        members_one = let a = c.members_are b x.lead in by_way (is_retired (block k b).standing && eqb (block k b).lead x.lead) a
          where
            by_way : (q : Bool) → tot (is b) (g.members x.lead) ≡ mark q → tot (is b) (g.members x.lead) ≤ 1
            by_way true z = omega arith
            by_way false z = omega arith

        with_next : tot (is b) (firsts n (shape k).elder (Some x.newest)) + is b b ≤ tot (is b) (g.members x.lead)
        with_next = firsts_then n (shape k).elder (Some x.newest) (g.members x.lead) (own_chain _ _ _ (view k inside) g c w x hw ex) b visit_slots.1 (is b)

        new_one : tot (is b) (firsts n (shape k).elder (Some x.newest)) ≡ 0
        new_one = let a = with_next in let d = members_one in let i = is_self b in omega arith

        is_member : 1 ≤ tot (is b) (g.members x.lead)
        is_member = let a = with_next in let i = is_self b in omega arith

        abbrev k' : Core
        k' = with_block k b (with_slot (block k b) r)

        abbrev s' : Shape
        s' = record { under = (shape k).under; elder = (shape k).elder; slot = upd (shape k).slot b r }

        seen : shape k' ≡ s'
        seen =
            let y : Block = with_slot (block k b) r in
            let low : b < length k.blocks.rows = let a = there_below form fit k inside sz long o.same_form g c al w hw b x.lead is_member in let d = sz.rows in omega arith in
            same_shape _ _
            (field_kept (λ (z : Block). z.under) blank_block k.blocks.rows b y refl)
            (field_kept (λ (z : Block). z.elder) blank_block k.blocks.rows b y refl)
            (field_set (λ (z : Block). z.slot) blank_block k.blocks.rows b y low)

        older : (block k b).elder ≡ Some (block_after k x b)
        older = let p = visits.aside_kept _ _ _ (view k inside) g c w hw x ex r b n te not_lead in p.1 ∙ ap Some (sym (ap (λ q. unwrap_or q x.lead) p.1))

        one_more : (p : ℕ) → aimed s'.slot p (firsts (n + 1) s'.elder (Some x.newest)) ≡ aimed (shape k).slot p (firsts n (shape k).elder (Some x.newest)) + is p r
        one_more p =
            let e : n + 1 ≡ suc n = omega arith in
            let a = firsts_more n (shape k).elder (Some x.newest) b visit_slots.1 (λ y. is p (s'.slot y)) in
            let d = aimed_upd (shape k).slot b r p (firsts n (shape k).elder (Some x.newest)) new_one in
            let f : is p (s'.slot b) ≡ is p r = ap (is p) (upd_same (shape k).slot b r) in
            subst (λ m. aimed s'.slot p (firsts m s'.elder (Some x.newest)) ≡ aimed (shape k).slot p (firsts n (shape k).elder (Some x.newest)) + is p r) (sym e) (omega arith)

        aside_slots : SlotsRight s' (Some x) (visiting (r + 1) (block_after k x b) (n + 1))
        aside_slots = (
          λ p.
              let a = one_more p in
              let d = visit_slots.0 p in
              let f = later p in
              elim (ℕ_discrete r p) [
                | yes e ↦ (let i : leb (r + 1) p ≡ false = grind (arith, nat_tests) in let j : leb r p ≡ true = grind (arith, nat_tests) in let m = ap mark i in let q = ap mark j in let z : is p r ≡ 1 = ap (is p) e ∙ is_self p in omega arith)
                | no ne ↦ (let z = is_other p r ne in omega arith)
              ],
          let e : n + 1 ≡ suc n = omega arith in
              subst (λ m. onward m (shape k).elder (Some x.newest) ≡ Some (block_after k x b)) (sym e) (onward_more n (shape k).elder (Some x.newest) b visit_slots.1 ∙ older),
        )

        reached : leb x.least (reservation k r).era ≡ true
        reached = by_way (is_off (reservation k r).list) (reservation k r).era not_passed
          where
            by_way : (q : Bool) (e : ℕ) → (q || ltb e x.least) ≡ false → leb x.least e ≡ true
            by_way true e z = cc
            by_way false e z = let a : x.least ≤ e = grind (arith, nat_tests) in grind (arith, nat_tests)

        asks_no_more : (p : ℕ) → asking s' (reservation k p).era p (Some x) (visiting (r + 1) (block_after k x b) (n + 1)) ≤ asking (shape k) (reservation k p).era p (Some x) (visiting r b n)
        asks_no_more p =
            elim (ℕ_discrete r p) [
              | yes e ↦
                  (let z : leb x.least (reservation k p).era ≡ true = subst (λ i. leb x.least (reservation k i).era ≡ true) e reached in
                  let a = ap (λ q. cond q 1 (aimed s'.slot p (firsts (n + 1) s'.elder (Some x.newest)))) z in
                  let d = ap (λ q. cond q 1 (aimed (shape k).slot p (firsts n (shape k).elder (Some x.newest)))) z in
                  omega arith)
              | no ne ↦
                  (let z = is_other p r ne in
                  let a = one_more p in
                  let d : aimed s'.slot p (firsts (n + 1) s'.elder (Some x.newest)) ≡ aimed (shape k).slot p (firsts n (shape k).elder (Some x.newest)) = omega arith in
                  let f = ap (λ m. cond (leb x.least (reservation k p).era) 1 m) d in
                  omega arith)
            ]

        pub sets_aside : Light form (with_task k' w (visited k x r (block_after k x b) (n + 1)))
        sets_aside =
            let t : Task = visited k x r (block_after k x b) (n + 1) in
            let a = after_visit s' x (ltb (r + 1) (places k)) r (block_after k x b) (n + 1) aside_slots in
            let k'' : Core = with_task k' w t in
            let out : (v : ℕ) → v < form.workers → v ≢ w → tot (is b) (aside_of (shape k).elder (worker k v).batch (stage (worker k v).task)) ≡ 0 =
            λ v hv nv. not_aside v hv b (not_of_others x ex b (names_lead form fit k inside sz long o.same_form g c al w hw b x.lead is_member) v hv nv) in
            let own : (p : ℕ) → weigh form.taking_period k.era s' (reservation k p).era p (with_t t) ≤ weigh form.taking_period k.era (shape k) (reservation k p).era p (worker k w) =
            λ p.
            let e : ℕ = (reservation k p).era in
            let d : asking s' e p (worker k w).batch (stage t) ≤ asking (shape k) e p (worker k w).batch (stage (worker k w).task) =
            subst (λ z. asking s' e p z (stage t) ≤ asking (shape k) e p z (stage (worker k w).task)) (sym ex) (subst (λ z. asking s' e p (Some x) (stage t) ≤ asking (shape k) e p (Some x) (stage z)) (sym te) (let f = a.1 e p in let h = asks_no_more p in omega arith)) in
            let f = weigh_below form.taking_period k.era (shape k) s' e p (worker k w) (with_t t) 0 0 (omega arith) (no_takings (with_t t) refl a.4) in
            omega arith in (
              len,
              walk,
              moved form fit k o len walk l w hw k'' len walk (reservations form) (others k'' (with_t t) refl) (λ _ _ _. refl)
                  (λ v hv nv e p he.
                  let d = asking_slot (shape k) s' b (worker k v).batch (stage (worker k v).task) (out v hv nv) r refl refl e p in
                  let f = weigh_below form.taking_period k.era (shape k) s' e p (worker k v) (worker k v) 0 0 (omega arith) (omega arith) in
                  let h = same_weight form.taking_period k.era k.era (shape k'') s' e p (worker k v) (worker k v) refl seen refl in
                  omega arith)
                  (λ p hp ne.
                  let e : ℕ = (reservation k p).era in
                  let d = own p in
                  let f = same_weight form.taking_period k.era k.era (shape k'') s' e p (worker k'' w) (with_t t) refl seen (here k'' (with_t t) refl) in
                  let h = amount_less (born e) k.blocks.rows b (with_slot (block k b) r) (omega arith) in
                  omega arith)
                  (λ p hp xs ch. l.lists p hp xs (subst (λ z. Chain z.under (head (reservation k p).list) xs) seen ch))
                  (λ v hv nv xs ch. l.walks v hv xs (subst (λ z. Chain z.under (next (worker k v).task) xs) seen ch))
                  (λ xs ch. no_chain (shape k'').under (walk w) xs (subst (λ z. Chain (shape k'').under z xs) (ap (λ (z : Worker). next z.task) (here k'' (with_t t) refl) ∙ a.2) ch))
                  l.short
                  (λ v hv nv. subst (λ z. SlotsRight z (worker k v).batch (stage (worker k v).task)) (sym seen) (slots_slot (shape k) s' b r refl refl (worker k v).batch (stage (worker k v).task) (out v hv nv) (l.slots v hv)))
                  (subst (λ z. SlotsRight z (worker k'' w).batch (stage (worker k'' w).task)) (sym seen) (subst (λ (z : Worker). SlotsRight s' z.batch (stage z.task)) (sym (here k'' (with_t t) refl)) (subst (λ z. SlotsRight s' z (stage t)) (sym ex) a.0)))
                  (λ lt. absurd (omega arith))
                  (λ v h nv hv hh e. let z = place_below form fit v h hv hh in omega arith)
                  (λ falls h z. no_hold h (sym a.3 ∙ ap (λ (j : Worker). emptied_hold j.task) (sym (here k'' (with_t t) refl)) ∙ z)),
            )

    -- a visit, whatever comes of it
    pub try_visit_light : (r b n : ℕ) → (worker k w).task ≡ TryVisit r b n → (q : Option Batch) → (worker k w).batch ≡ q → Light form (try_visit k w r b n q).core
    try_visit_light r b n te None eq = gives_up eq
    try_visit_light r b n te (Some x) eq =
        by_test (λ (m : Move). Light form m.core) (passed_over (reservation k r) x.least) _ _
        (λ _. passes r b n te x eq)
        (λ np. by_test (λ (m : Move). Light form m.core) (eqb b x.lead) _ _
        (λ _. fails r b n te x eq)
        (λ ne. sets_aside r b n te x eq (λ i. let z : eqb b x.lead ≡ true = grind (arith, nat_tests) in let f : ◌≡◌ {A = ℕ} 0 1 = cc in omega arith) np))

    -- a hanging
    module _ (b n hung : ℕ) (te : (worker k w).task ≡ TryHang b n hung) (x : Batch) (ex : (worker k w).batch ≡ Some x) where
      hang_slots : SlotsRight (shape k) (Some x) (hanging b n)
      hang_slots = subst (λ z. SlotsRight (shape k) z (hanging b n)) ex (subst (λ z. SlotsRight (shape k) (worker k w).batch (stage z)) te (l.slots w hw))

      left_some : 1 ≤ n
      left_some = (hang_info _ _ _ (view k inside) g c (few_places form fit) w hw b n hung te).6

      hang_older : (block k b).elder ≡ Some (block_after k x b)
      hang_older =
          let i = hang_info _ _ _ (view k inside) g c (few_places form fit) w hw b n hung te in
          let d = hang_next _ _ _ (view k inside) g c (few_places form fit) w hw b n hung te i.2 i.3 in
          d.2 ∙ ap Some (sym (ap (λ q. unwrap_or q x.lead) d.2))

      -- its list is off
      skips : Light form (with_task k w (hanged k x b n hung))
      skips =
          let a = after_hanging (shape k) x (ltb 1 n) b (block_after k x b) n hung left_some hang_older hang_slots in
          retries (Some x) ex (hanged k x b n hung) (TryHang b n hung) te a.0 (λ e p. let d = a.1 e p in omega arith) a.2 a.3 a.4

      -- the block is on no list and no walk yet
      not_on : on (reservations form) form.workers g (is b) ≡ 0
      not_on =
          let i = hang_info _ _ _ (view k inside) g c (few_places form fit) w hw b n hung te in
          let a = c.once b in
          let d = Σ_term (λ v. tot (is b) (due_of g.members (g.rest v) (worker k v).batch (worker k v).task)) w form.workers hw in
          let f : tot (is b) (due_of g.members (g.rest w) (worker k w).batch (worker k w).task) ≡ tot (is b) (g.rest w) =
          ap (λ z. tot (is b) (due_of g.members (g.rest w) z (worker k w).task)) ex ∙ ap (λ z. tot (is b) (due_of g.members (g.rest w) (Some x) z)) te in
          let h = ap (tot (is b)) i.3 in
          let j = is_self b in
          omega arith

      not_hung : (p : ℕ) → p < reservations form → tot (is b) (g.hung p) ≡ 0
      not_hung p hp = let a = Σ_term (λ i. tot (is b) (g.hung i)) p (reservations form) hp in let z = not_on in omega arith

      not_walked : (v : ℕ) → v < form.workers → tot (is b) (g.walk v) ≡ 0
      not_walked v hv = let a = Σ_term (λ i. tot (is b) (g.walk i)) v form.workers hv in let z = not_on in omega arith

      b_low : b < length k.blocks.rows
      b_low =
          let a = hang_batch _ _ _ (view k inside) g c (few_places form fit) w hw b n hung te in
          let d = retired_below form fit k inside sz long o.same_form g c al w hw b a.2 in
          let f = sz.rows in
          omega (arith, few_blocks form fit)

      -- it is not, and the block comes to the front of it
      module _ (i : Option ℕ) (over : i ≡ head (reservation k (block k b).slot).list) (not_off : (reservation k (block k b).slot).list ≢ Off) where
        abbrev r : ℕ
        r = (block k b).slot

        abbrev u' : Shape
        u' = record { under = upd (shape k).under b i; elder = (shape k).elder; slot = (shape k).slot }

        hr : r < reservations form
        hr = hang_place _ _ _ (view k inside) g c (few_places form fit) w hw b n hung te r not_off

        hung_seen : shape (hung_at k r b i) ≡ u'
        hung_seen =
            let y : Block = with_under (block k b) i in
            same_shape _ _
            (field_set (λ (z : Block). z.under) blank_block k.blocks.rows b y b_low)
            (field_kept (λ (z : Block). z.elder) blank_block k.blocks.rows b y refl)
            (field_kept (λ (z : Block). z.slot) blank_block k.blocks.rows b y refl)

        pub hangs : Light form (with_task (hung_at k r b i) w (hanged k x b n (hung + 1)))
        hangs =
            let t : Task = hanged k x b n (hung + 1) in
            let k' : Core = with_task (hung_at k r b i) w t in
            let z : Reservation = record { list = Newest b; era = (reservation k r).era } in
            let a = after_hanging (shape k) x (ltb 1 n) b (block_after k x b) n (hung + 1) left_some hang_older hang_slots in
            let r_low : r < length k.reservations = let h = hr in let q = sz.reservations in omega (arith, few_places form fit) in
            let own : (p : ℕ) → is p r + weigh form.taking_period k.era (shape k) (reservation k p).era p (with_t t) ≤ weigh form.taking_period k.era (shape k) (reservation k p).era p (worker k w) =
            λ p.
            let e : ℕ = (reservation k p).era in
            let d : is p r + asking (shape k) e p (worker k w).batch (stage t) ≤ asking (shape k) e p (worker k w).batch (stage (worker k w).task) =
            subst (λ q. is p r + asking (shape k) e p q (stage t) ≤ asking (shape k) e p q (stage (worker k w).task)) (sym ex) (subst (λ q. is p r + asking (shape k) e p (Some x) (stage t) ≤ asking (shape k) e p (Some x) (stage q)) (sym te) (a.1 e p)) in
            let f = weigh_below form.taking_period k.era (shape k) (shape k) e p (worker k w) (with_t t) (is p r) 0 (omega arith) (no_takings (with_t t) refl a.4) in
            omega arith in
            let longer : (p : ℕ) → upd len r (len r + 1) p ≤ len p + is p r =
            λ p. elim (ℕ_discrete p r) [
              | yes e ↦ subst (λ q. upd len r (len r + 1) q ≤ len q + is q r) (sym e) (let f = upd_same len r (len r + 1) in let h = is_self r in omega arith)
              | no ne ↦ (let f = upd_other len r (len r + 1) p ne in omega arith)
            ] in (
              upd len r (len r + 1),
              walk,
              moved form fit k o len walk l w hw k' (upd len r (len r + 1)) walk (reservations form) (others k' (with_t t) refl)
                  (λ p _ _. ap (λ (f : ℕ → ℕ). f p) (field_kept (λ (y : Reservation). y.era) fresh_reservation k.reservations r z refl))
                  (λ v hv nv e p he.
                  let h : weigh form.taking_period k.era (shape k') e p (worker k v) ≡ weigh form.taking_period k.era (shape k) e p (worker k v) = same_weight form.taking_period k.era k.era (shape k') u' e p (worker k v) (worker k v) refl hung_seen refl in
                  omega arith)
                  (λ p hp ne.
                  let e : ℕ = (reservation k p).era in
                  let d = own p in
                  let f : weigh form.taking_period k.era (shape k') e p (worker k' w) ≡ weigh form.taking_period k.era (shape k) e p (with_t t) = same_weight form.taking_period k.era k.era (shape k') u' e p (worker k' w) (with_t t) refl hung_seen (here k' (with_t t) refl) in
                  let h = amount_less (born e) k.blocks.rows b (with_under (block k b) i) (omega arith) in
                  let j = longer p in
                  omega arith)
                  (λ p hp xs ch. elim (ℕ_discrete p r) [
                    | yes e ↦
                        (let ch₁ : Chain (upd (shape k).under b i) (Some b) xs = subst (λ q. Chain (upd (shape k).under b i) q xs) (ap (λ q. head (reservation k' q).list) e ∙ ap (λ (y : Reservation). head y.list) (get_or-set_same k.reservations r z fresh_reservation r_low)) (subst (λ q. Chain q.under (head (reservation k' p).list) xs) hung_seen ch) in
                        let m = chain_some (upd (shape k).under b i) b xs ch₁ in
                        let rest : Chain (upd (shape k).under b i) (head (reservation k r).list) m.0 = subst (λ q. Chain (upd (shape k).under b i) q m.0) (upd_same (shape k).under b i ∙ over) m.2 in
                        let same = chain_same (upd (shape k).under b i) (head (reservation k r).list) m.0 (g.hung r) rest (chain_upd (shape k).under b i (head (reservation k r).list) (g.hung r) (not_hung r hr) (c.hung_chain r hr)) in
                        let f = l.lists r hr (g.hung r) (c.hung_chain r hr) in
                        let h = ap length m.1 in
                        let j = ap length same in
                        let q : upd len r (len r + 1) p ≡ len r + 1 = ap (upd len r (len r + 1)) e ∙ upd_same len r (len r + 1) in
                        omega arith)
                    | no ne ↦
                        (let ch₁ : Chain (upd (shape k).under b i) (head (reservation k p).list) xs = subst (λ (y : Reservation). Chain (upd (shape k).under b i) (head y.list) xs) (get_or-set_other k.reservations r p z fresh_reservation ne) (subst (λ q. Chain q.under (head (reservation k' p).list) xs) hung_seen ch) in
                        let same = chain_same (upd (shape k).under b i) (head (reservation k p).list) xs (g.hung p) ch₁ (chain_upd (shape k).under b i (head (reservation k p).list) (g.hung p) (not_hung p hp) (c.hung_chain p hp)) in
                        let f = l.lists p hp (g.hung p) (c.hung_chain p hp) in
                        let j = ap length same in
                        let q = upd_other len r (len r + 1) p ne in
                        omega arith)
                  ])
                  (λ v hv nv xs ch.
                  let same = chain_same (upd (shape k).under b i) (next (worker k v).task) xs (g.walk v) (subst (λ q. Chain q.under (next (worker k v).task) xs) hung_seen ch) (chain_upd (shape k).under b i (next (worker k v).task) (g.walk v) (not_walked v hv) (c.walk_chain v hv)) in
                  let f = l.walks v hv (g.walk v) (c.walk_chain v hv) in
                  let j = ap length same in
                  omega arith)
                  (λ xs ch. no_chain (shape k').under (walk w) xs (subst (λ q. Chain (shape k').under q xs) (ap (λ (q : Worker). next q.task) (here k' (with_t t) refl) ∙ a.2) ch))
                  l.short
                  (λ v hv nv. subst (λ q. SlotsRight q (worker k v).batch (stage (worker k v).task)) (sym hung_seen) (unseen (worker k v).batch (stage (worker k v).task) (l.slots v hv)))
                  (subst (λ q. SlotsRight q (worker k' w).batch (stage (worker k' w).task)) (sym hung_seen) (subst (λ (q : Worker). SlotsRight u' q.batch (stage q.task)) (sym (here k' (with_t t) refl)) (subst (λ q. SlotsRight u' q (stage t)) (sym ex) (unseen (Some x) (stage t) a.0))))
                  (λ lt. absurd (omega arith))
                  (λ v h nv hv hh e. let q = place_below form fit v h hv hh in omega arith)
                  (λ falls h q. no_hold h (sym a.3 ∙ ap (λ (j : Worker). emptied_hold j.task) (sym (here k' (with_t t) refl)) ∙ q)),
            )
          where
            unseen : (q : Option Batch) (j : Stage) → SlotsRight (shape k) q j → SlotsRight u' q j
            unseen None j m = tt
            unseen (Some y) resting m = tt
            unseen (Some y) (visiting p d h) m = m
            unseen (Some y) (hanging d h) m = m
            unseen (Some y) closing m = tt

      hang_on_light : (j : HungList) → (reservation k (block k b).slot).list ≡ j → Light form (hang_on k w x b n hung j).core
      hang_on_light Off e = skips
      hang_on_light Empty e = hangs None (sym (ap head e)) (λ z. let f : ◌≡◌ {A = ℕ} 0 1 = cc in omega arith)
      hang_on_light (Newest y) e = hangs (Some y) (sym (ap head e)) (λ z. let f : ◌≡◌ {A = ℕ} 0 1 = cc in omega arith)

    pub try_hang_light : (b n hung : ℕ) → (worker k w).task ≡ TryHang b n hung → (q : Option Batch) → (worker k w).batch ≡ q → Light form (try_hang k w b n hung q).core
    try_hang_light b n hung te None eq = gives_up eq
    try_hang_light b n hung te (Some x) eq = hang_on_light b n hung te x eq (reservation k (block k b).slot).list refl

    -- the last turn
    pub try_last_light : (hung : ℕ) → (worker k w).task ≡ TryLast hung → (q : Option Batch) → (worker k w).batch ≡ q → Light form (try_last k w hung q).core
    try_last_light hung te None eq = gives_up eq
    try_last_light hung te (Some x) eq =
        let lead : ℕ = x.lead in
        let z : Block = with_count (block k lead) ((block k lead).count + hung - 1024) x.newest in
        let back : List ℕ = due (settled k x hung) lead in
        let p : Core = all_pooled (settled k x hung) back in
        let ws : p.workers ≡ k.workers = all_pooled_workers back (settled k x hung) in
        let y : Worker = record { takings = (worker p w).takings; task = Idle; batch = None; shows = (worker p w).shows } in
        let et : y.takings ≡ (worker k w).takings = ap (λ us. (get_or us w blank_worker).takings) ws in
        let k' : Core = (try_last k w hung (Some x)).core in (
          len,
          walk,
          quiet form fit k o len walk l w hw k' (others k' y (ap (λ us. set us w y) ws)) (reservations_pooled back (settled k x hung)) (era_pooled back (settled k x hung))
              (shape_pooled back (settled k x hung) ∙ shape_kept k lead z refl refl refl)
              (λ e. let a = born_pooled back (settled k x hung) e in let d = amount_less (born e) k.blocks.rows lead z (omega arith) in omega arith)
              y (here k' y (ap (λ us. set us w y) ws))
              (λ e r _. weigh_less form.taking_period k.era (shape k) e r (worker k w) y (omega arith) (no_takings y et refl))
              tt (λ xs ch. no_chain (shape k).under (walk w) xs ch) (λ h q. no_hold h q),
        )

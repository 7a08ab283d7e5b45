-- That protection is kept where one worker takes a step: what the other workers ask, and a step that moves no block.
use Rattle.std.proofs.Common.{◌≡◌, ℕ, ◌+◌, ◌*◌, ◌<◌, ◌≤◌, false, ◌≢◌, Some, Option, sym, refl, ap, ◌∙◌, subst, inl, inr, arith}
use native.Mathlib.Decide.{ℕ_discrete}
use Rattle.machine.specs.declared.states.Batch.{Batch}
use Rattle.machine.specs.declared.states.HungList.{HungList}
use Rattle.machine.specs.declared.states.Standing.TheVariants.{Pooled, Retired}
use Rattle.machine.specs.declared.states.Task.{Task}
use Rattle.machine.specs.declared.states.Task.TheVariants.{Idle, TakeEra, TakeBlock, LookCell, LookEra, LookList, LookWalk, LookAgain, LookWrite, DropList, DropWalk, DropEra, TryVisit, TryHang, TryLast}
use Rattle.machine.specs.Trying.{is_off}
use Rattle.machine.proofs.Sums.{upd, tot, is, upd_same, upd_other}
use Rattle.machine.proofs.Chains.{Chain}
use Rattle.machine.proofs.Mirror.{St}
use Rattle.machine.proofs.Sound.{Gh, Sound, TaskRight, head}
use Rattle.machine.proofs.Owners.{own_chain}
use Rattle.machine.proofs.GiveKept.{marked}
use Rattle.machine.proofs.Guards.{Extra, steps, Pends, past_off, past_on, busy_with, Holds, Stands, Keeps, Least, At, Guard}
use Rattle.machine.proofs.GuardChains.{place_lt, aside_same, steps_same}

-- a block that a reservation keeps is not pooled
pub stands_out : (W : ℕ) (s : St) (x : Extra) (r b : ℕ) → Stands W s x r b → s.standing b ≢ Pooled
stands_out W s x r b (inl e) z = let f : ◌≡◌ {A = ℕ} 0 1 = cc in omega arith
stands_out W s x r b (inr e) z = let g = e.0 in let f : ◌≡◌ {A = ℕ} 0 1 = cc in omega arith

-- what is kept before is kept after, by how the block stands
pub keeps_on : (W : ℕ) (F E : ℕ → Type 0) (s t : St) (x y : Extra) (r b : ℕ) → is_off (t.list r) ≡ is_off (s.list r) → y.era r ≡ x.era r → y.birth b ≡ x.birth b
    → (is_off (s.list r) ≡ false → x.birth b ≤ x.era r → Stands W s x r b → Stands W t y r b) → (F b → E b) → Keeps W F s x r b → Keeps W E t y r b
keeps_on W F E s t x y r b same_off same_era same_birth stands fine k on le =
    let on₀ : is_off (s.list r) ≡ false = sym same_off ∙ on in
    let le₀ : x.birth b ≤ x.era r = omega arith in
    let q = k on₀ le₀ in
    (stands on₀ le₀ q.0, fine q.1)

-- what a worker asks of the blocks of its own batch
module _ (N R W : ℕ) (s : St) (g : Gh) (c : Sound N R W s g) (v : ℕ) (hv : v < W) (y : Batch) (own : s.batch v ≡ Some y) where
  of_batch : (z : ℕ) → 1 ≤ tot (is z) (g.members y.lead) → (s.standing z ≡ Retired) × (s.lead z ≡ y.lead)
  of_batch z m = marked (s.standing z) (s.lead z) y.lead (let e = c.members_are z y.lead in omega arith)

  -- functions that agree on these serve as well
  pub pends_same : (elder : ℕ → Option ℕ) (old slot : ℕ → ℕ) → ((z : ℕ) → s.standing z ≡ Retired → s.lead z ≡ y.lead → (elder z ≡ s.elder z) × (slot z ≡ old z))
      → (r : ℕ) → Pends s.elder old y.newest (s.task v) r → Pends elder slot y.newest (s.task v) r
  pends_same elder old slot same r = go (s.task v) (c.tasks v hv)
    where
      agrees : (z : ℕ) → 1 ≤ tot (is z) (g.members y.lead) → (elder z ≡ s.elder z) × (slot z ≡ old z)
      agrees z m = let b = of_batch z m in same z b.0 b.1

      go : (t : Task) → TaskRight R s.elder g.members (s.batch v) (g.rest v) t → Pends s.elder old y.newest t r → Pends elder slot y.newest t r
      go Idle o p = tt
      go TakeEra o p = tt
      go TakeBlock o p = tt
      go (LookCell h i) o p = tt
      go (LookEra h i seen) o p = tt
      go (LookList h i e) o p = tt
      go (LookWalk h i b) o p = tt
      go (LookAgain h i) o p = tt
      go (LookWrite h i e) o p = tt
      go (DropList h) o p = tt
      go (DropWalk h b) o p = tt
      go (DropEra h) o p = tt
      go (TryVisit q b n) o (inl le) = inl le
      go (TryVisit q b n) o (inr a) = inr (aside_same s.elder elder old slot n (Some y.newest) (g.members y.lead) r agrees (own_chain N R W s g c v y hv own) a)
      go (TryHang b n m) o p =
          let e : o.0 ≡ y = let z = sym o.1 ∙ own in cc in
          aside_same s.elder elder old slot n (Some b) (g.rest v) r (λ z i. agrees z (let q = subst (λ u. tot (is z) (g.rest v) ≤ tot (is z) (g.members u.lead)) e (o.6 z) in omega arith)) o.5 p
      go (TryLast m) o p = p

  pub visits_same : (elder : ℕ → Option ℕ) → ((z : ℕ) → s.standing z ≡ Retired → s.lead z ≡ y.lead → elder z ≡ s.elder z) → (n b : ℕ) → steps s.elder n (Some y.newest) ≡ Some b → steps elder n (Some y.newest) ≡ Some b
  visits_same elder same n b e =
      steps_same s.elder elder n (Some y.newest) (g.members y.lead) (λ z m. let q = of_batch z m in same z q.0 q.1) (own_chain N R W s g c v y hv own) ∙ e

-- the clauses of every worker, from those of the others before a step and those of worker w after it
pub closing : (W H : ℕ) (F E : ℕ → Type 0) (s t : St) (x y : Extra) → Guard W H F s x → (w : ℕ)
    → ((v : ℕ) → v ≢ w → t.task v ≡ s.task v) → ((v : ℕ) → v ≢ w → t.batch v ≡ s.batch v) → ((v h : ℕ) → v ≢ w → y.shows v h ≡ x.shows v h)
    → ((v h : ℕ) → v ≢ w → v < W → h < H → (is_off (t.list (v * H + h)) ≡ is_off (s.list (v * H + h))) × (y.era (v * H + h) ≡ x.era (v * H + h)))
    → ((b : ℕ) → s.standing b ≢ Pooled → y.birth b ≡ x.birth b)
    → ((v h b : ℕ) → v ≢ w → v < W → h < H → Keeps W F s x (v * H + h) b → Keeps W E t y (v * H + h) b)
    → ((v n b : ℕ) (z : Batch) → v ≢ w → v < W → s.batch v ≡ Some z → steps s.elder n (Some z.newest) ≡ Some b → steps t.elder n (Some z.newest) ≡ Some b)
    → ((v : ℕ) (z : Batch) → v ≢ w → v < W → s.batch v ≡ Some z → Least s x z → Least t y z)
    → At W H E t y w → Guard W H E t y
closing W H F E s t x y c w tasks batches shows lists births keeps visits leasts own v = elim (ℕ_discrete v w) [
  | yes e ↦ subst (At W H E t y) (sym e) own
  | no ne ↦ record {
    kept = λ h b e.
        let k = (c v).kept h b (sym (shows v h ne) ∙ e) in
        let l = lists v h ne k.0 k.1 in
        let q = k.4 k.2 k.3 in
        let same = births b (stands_out W s x (v * H + h) b q.0) in
        let a = l.1 in
        let le = k.3 in
        (k.0, k.1, l.0 ∙ k.2, omega arith, keeps v h b ne k.0 k.1 k.4);
    read = λ h i b hv hh e. keeps v h b ne hv hh ((c v).read h i b hv hh (sym (tasks v ne) ∙ e));
    off = λ h hv hh off past.
        let l = lists v h ne hv hh in
        let q = (c v).off h hv hh (sym l.0 ∙ off) (sym (ap (λ u. past_off u h) (tasks v ne)) ∙ past) in
        (l.1 ∙ q.0, ap (λ u. past_on u h) (tasks v ne) ∙ q.1);
    hides = λ h e. shows v h ne ∙ (c v).hides h (sym (ap (λ u. busy_with u h) (tasks v ne)) ∙ e);
    visits = λ p b n z hv e i. let o = sym (batches v ne) ∙ i in visits v n b z ne hv o ((c v).visits p b n z hv (sym (tasks v ne) ∙ e) o);
    least = λ z hv e. let o = sym (batches v ne) ∙ e in leasts v z ne hv o ((c v).least z hv o);
  }
]

-- worker w has another task, and lists may be others
abbrev pub quiet : St → ℕ → Task → (ℕ → HungList) → St
quiet s w t l = record { inside = s.inside; standing = s.standing; lead = s.lead; under = s.under; elder = s.elder; count = s.count; newest = s.newest; list = l; task = upd s.task w t; batch = s.batch }

-- eras and what is shown may be others
abbrev pub quiet_extra : Extra → (ℕ → ℕ) → (ℕ → ℕ → Option ℕ) → Extra
quiet_extra x e f = record { birth = x.birth; slot = x.slot; era = e; shows = f }

module _ (W H : ℕ) (F E : ℕ → Type 0) (s : St) (x : Extra) (c : Guard W H F s x) (fine : (b : ℕ) → F b → E b) (w : ℕ) (hw : w < W) (t : Task) (l : ℕ → HungList) (e : ℕ → ℕ) (f : ℕ → ℕ → Option ℕ)
    (Apart : ℕ → Type 0) (same_list : (r : ℕ) → Apart r → l r ≡ s.list r) (same_era : (r : ℕ) → Apart r → e r ≡ x.era r)
    (pend : (r b : ℕ) (y : Batch) → Apart r → r < W * H → is_off (s.list r) ≡ false → x.birth b ≤ x.era r → s.standing b ≡ Retired → s.batch w ≡ Some y → s.lead b ≡ y.lead
    → Pends s.elder x.slot y.newest (s.task w) r → Pends s.elder x.slot y.newest t r) where
  -- what a reservation keeps that the step leaves alone
  pub quiet_keeps : (r b : ℕ) → Apart r → r < W * H → Keeps W F s x r b → Keeps W E (quiet s w t l) (quiet_extra x e f) r b
  quiet_keeps r b ap_r hr k =
      keeps_on W F E s (quiet s w t l) x (quiet_extra x e f) r b (ap is_off (same_list r ap_r)) (same_era r ap_r) refl stands (fine b) k
    where
      holds : is_off (s.list r) ≡ false → x.birth b ≤ x.era r → s.standing b ≡ Retired → Holds W s x r (s.lead b) → Holds W (quiet s w t l) (quiet_extra x e f) r (s.lead b)
      holds on le ret (inl o) = inl (o.0, subst (λ q. Chain s.under (head q) o.0) (sym (same_list r ap_r)) o.1, o.2)
      holds on le ret (inr (v, hv, (y, own, lead, p))) = elim (ℕ_discrete v w) [
        | yes i ↦
            (let own' : s.batch w ≡ Some y = subst (λ u. s.batch u ≡ Some y) i own in
            let p' : Pends s.elder x.slot y.newest (s.task w) r = subst (λ u. Pends s.elder x.slot y.newest (s.task u) r) i p in
            inr (w, hw, (y, own', lead, subst (λ u. Pends s.elder x.slot y.newest u r) (sym (upd_same s.task w t)) (pend r b y ap_r hr on le ret own' (sym lead) p'))))
        | no ne ↦ inr (v, hv, (y, own, lead, subst (λ u. Pends s.elder x.slot y.newest u r) (sym (upd_other s.task w t v ne)) p))
      ]

      stands : is_off (s.list r) ≡ false → x.birth b ≤ x.era r → Stands W s x r b → Stands W (quiet s w t l) (quiet_extra x e f) r b
      stands on le (inl i) = inl i
      stands on le (inr i) = inr (i.0, holds on le i.0 i.1)

  pub quiet_guard : ((v h : ℕ) → v ≢ w → v < W → h < H → Apart (v * H + h)) → ((v h : ℕ) → v ≢ w → f v h ≡ x.shows v h) → At W H E (quiet s w t l) (quiet_extra x e f) w → Guard W H E (quiet s w t l) (quiet_extra x e f)
  quiet_guard apart shows own =
      closing W H F E s (quiet s w t l) x (quiet_extra x e f) c w (λ v ne. upd_other s.task w t v ne) (λ v ne. refl) shows
      (λ v h ne hv hh. let a = apart v h ne hv hh in (ap is_off (same_list _ a), same_era _ a))
      (λ b _. refl)
      (λ v h b ne hv hh k. quiet_keeps (v * H + h) b (apart v h ne hv hh) (place_lt W H v h hv hh) k)
      (λ v n b z ne hv own q. q)
      (λ v z ne hv own q. q)
      own

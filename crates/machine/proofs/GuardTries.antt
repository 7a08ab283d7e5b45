-- That protection is kept by the visits and hangings of a try.
use Rattle.std.proofs.Common.{◌≡◌, ℕ, ◌+◌, ◌*◌, ◌<◌, ◌≤◌, true, false, eqb, ltb, ◌≢◌, Some, Option, sym, refl, ap, ◌∙◌, subst, inl, inr, add-one, arith}
use native.Mathlib.Decide.{ℕ_discrete}
use Rattle.std.proofs.lemmas.Bool.Decides.{nat_tests}
use Rattle.machine.specs.declared.states.Batch.{Batch}
use Rattle.machine.specs.declared.states.Standing.TheVariants.{Retired}
use Rattle.machine.specs.declared.states.Task.{Task}
use Rattle.machine.specs.declared.states.Task.TheVariants.{LookEra, TryVisit, TryHang, TryLast}
use Rattle.machine.specs.Trying.{is_off}
use Rattle.machine.proofs.Passing.{by_test}
use Rattle.machine.proofs.Sums.{upd, tot, is, is_self, upd_same, upd_other}
use Rattle.machine.proofs.Chains.{chain_some}
use Rattle.machine.proofs.Mirror.{St, retask}
use Rattle.machine.proofs.Sound.{Gh, Sound, owns, on}
use Rattle.machine.proofs.Owners.{own_chain, owns_own, alone}
use Rattle.machine.proofs.VisitKept.{visited_of, visiting}
use Rattle.machine.proofs.GiveKept.{marked}
use Rattle.machine.proofs.Guards.{Extra, steps, Aside, Pends, past_off, past_on, busy_with, Holds, Stands, Keeps, Guard}
use Rattle.machine.proofs.GuardChains.{place_lt, steps_more, aside_more, aside_next, aside_slot}
use Rattle.machine.proofs.GuardSteps.{pends_same, keeps_on, closing}
use Rattle.machine.proofs.GuardTasks.{task_guard}

-- what follows a visit
pub by_visited : (P : Task → Type 0) (R : ℕ) (y : Batch) (p b n : ℕ) → (ltb (p + 1) R ≡ true → P (TryVisit (p + 1) b n)) → (ltb (p + 1) R ≡ false → eqb n 0 ≡ true → P (TryLast 0)) → (ltb (p + 1) R ≡ false → P (TryHang y.newest n 0)) → P (visited_of R y p b n)
by_visited P R y p b n more last hang = by_test P (ltb (p + 1) R) _ _ more (λ e. by_test P (eqb n 0) _ _ (λ z. last e z) (λ _. hang e))

-- it is no look, and no drop
abbrev pub Tries : Task → Type 0
Tries t = ((h : ℕ) → (past_off t h ≡ false) × (past_on t h ≡ false) × (busy_with t h ≡ false)) × ((h i b : ℕ) → t ≢ LookEra h i (Some b))

pub visit_tries : (p b n : ℕ) → Tries (TryVisit p b n)
visit_tries p b n = (λ h. (refl, refl, refl), λ h i z e. let f : ◌≡◌ {A = ℕ} 0 1 = cc in omega arith)

pub hang_tries : (b n m : ℕ) → Tries (TryHang b n m)
hang_tries b n m = (λ h. (refl, refl, refl), λ h i z e. let f : ◌≡◌ {A = ℕ} 0 1 = cc in omega arith)

pub last_tries : (m : ℕ) → Tries (TryLast m)
last_tries m = (λ h. (refl, refl, refl), λ h i z e. let f : ◌≡◌ {A = ℕ} 0 1 = cc in omega arith)

pub visited_tries : (R : ℕ) (y : Batch) (p b n : ℕ) → Tries (visited_of R y p b n)
visited_tries R y p b n = by_visited Tries R y p b n (λ _. visit_tries (p + 1) b n) (λ _ _. last_tries 0) (λ _. hang_tries y.newest n 0)

-- its next block, if it visits again
pub visited_at : (f : ℕ → Option ℕ) (R : ℕ) (y : Batch) (p b n : ℕ) → steps f n (Some y.newest) ≡ Some b → (q d m : ℕ) → visited_of R y p b n ≡ TryVisit q d m → steps f m (Some y.newest) ≡ Some d
visited_at f R y p b n at = by_visited (λ t. (q d m : ℕ) → t ≡ TryVisit q d m → steps f m (Some y.newest) ≡ Some d) R y p b n
    (λ _ q d m e. let i : n ≡ m = cc in let j : b ≡ d = cc in subst (λ k. steps f k (Some y.newest) ≡ Some d) i (at ∙ ap (λ k. Some k) j))
    (λ _ _ q d m e. let z : ◌≡◌ {A = ℕ} 0 1 = cc in absurd (omega arith))
    (λ _ q d m e. let z : ◌≡◌ {A = ℕ} 0 1 = cc in absurd (omega arith))

-- a place that is passed over: others are still before the try
pub passed_pends : (s : St) (x : Extra) (R : ℕ) (y : Batch) (p b n r z : ℕ) → (is_off (s.list p) ≡ false → x.era p < y.least) → is_off (s.list r) ≡ false → x.birth z ≤ x.era r → y.least ≤ x.birth z → r < R
    → Pends s.elder x.slot y.newest (TryVisit p b n) r → Pends s.elder x.slot y.newest (visited_of R y p b n) r
passed_pends s x R y p b n r z passed on le least hr = go
  where
    ne : r ≢ p
    ne i =
        let on' : is_off (s.list p) ≡ false = subst (λ k. is_off (s.list k) ≡ false) i on in
        let lt = passed on' in
        let e : x.era r ≡ x.era p = ap x.era i in
        omega arith

    go : Pends s.elder x.slot y.newest (TryVisit p b n) r → Pends s.elder x.slot y.newest (visited_of R y p b n) r
    go (inl a) = by_visited (λ t. Pends s.elder x.slot y.newest t r) R y p b n (λ _. inl (omega (arith, ne))) (λ e _. absurd (let i = ne in grind (arith, nat_tests))) (λ e. absurd (let i = ne in grind (arith, nat_tests)))
    go (inr a) = by_visited (λ t. Pends s.elder x.slot y.newest t r) R y p b n (λ _. inr a)
        (λ _ e. let i : n ≡ 0 = grind (arith, nat_tests) in subst (λ k. Aside s.elder x.slot k (Some y.newest) r) i a) (λ _. a)

module _ (N W H : ℕ) (F E : ℕ → Type 0) (s : St) (g : Gh) (x : Extra) (c : Sound N (W * H) W s g) (gd : Guard W H F s x) (fine : (b : ℕ) → F b → E b) (w : ℕ) (hw : w < W) (y : Batch) (own : s.batch w ≡ Some y) where
  -- a try goes on as a try
  tries_guard : (t : Task) → Tries t → Tries (s.task w)
      → ((r b : ℕ) (y : Batch) → r < W * H → is_off (s.list r) ≡ false → x.birth b ≤ x.era r → s.standing b ≡ Retired → s.batch w ≡ Some y → s.lead b ≡ y.lead
      → Pends s.elder x.slot y.newest (s.task w) r → Pends s.elder x.slot y.newest t r)
      → ((p b n : ℕ) → t ≡ TryVisit p b n → steps s.elder n (Some y.newest) ≡ Some b)
      → Guard W H E (retask s w t) x
  tries_guard t tries was pend visits =
      task_guard W H F E s x gd fine w hw t pend (λ h i b _ e. absurd (tries.1 h i b e))
      (λ h hh o _. let q = (gd w).off h hw hh o (was.0 h).0 in (q.0, (tries.0 h).1))
      (λ h e. let q = (tries.0 h).2 in let f : ◌≡◌ {A = ℕ} 0 1 = cc in absurd (omega arith))
      (λ p b n z e o. let i : y ≡ z = let j = sym own ∙ o in cc in subst (λ k. steps s.elder n (Some k.newest) ≡ Some b) i (visits p b n e))

  same_batch : (z : Batch) → s.batch w ≡ Some z → y ≡ z
  same_batch z o = let j = sym own ∙ o in cc

  module _ (p b n : ℕ) (te : s.task w ≡ TryVisit p b n) where
    -- a place is passed over
    pub passed_guard : (is_off (s.list p) ≡ false → x.era p < y.least) → Guard W H E (retask s w (visited_of (W * H) y p b n)) x
    passed_guard passed =
        tries_guard (visited_of (W * H) y p b n) (visited_tries (W * H) y p b n) (subst Tries (sym te) (visit_tries p b n))
        (λ r z k hr on le ret o lead pe.
        let i = same_batch k o in
        subst (λ u. Pends s.elder x.slot u.newest (visited_of (W * H) y p b n) r) i
        (passed_pends s x (W * H) y p b n r z passed on le (((gd w).least y hw own).0 z ret (lead ∙ ap (λ (u : Batch). u.lead) (sym i))) hr
        (subst (λ u. Pends s.elder x.slot u.newest (TryVisit p b n) r) (sym i) (subst (λ u. Pends s.elder x.slot k.newest u r) te pe))))
        (λ q d m e. visited_at s.elder (W * H) y p b n ((gd w).visits p b n y hw te own) q d m e)

    -- a block is set aside for it
    module _ (d : ℕ) (after : s.elder b ≡ Some d) where
      abbrev slots : Extra
      slots = record { birth = x.birth; slot = upd x.slot b p; era = x.era; shows = x.shows }

      at_b : steps s.elder n (Some y.newest) ≡ Some b
      at_b = (gd w).visits p b n y hw te own

      b_lead : s.lead b ≡ y.lead
      b_lead =
          let v = visiting N (W * H) W s g c w hw y own p b n te in
          let m = chain_some s.elder b (g.rest w) v.2 in
          let i = is_self b in
          let t = ap (tot (is b)) m.1 in
          let q = v.5 b in
          let e = c.members_are b y.lead in
          (marked (s.standing b) (s.lead b) y.lead (omega arith)).1

      once : tot (is b) (g.members y.lead) ≤ 1
      once = let e = c.members_are b y.lead in grind arith

      aside_pends : (r : ℕ) → r < W * H → Pends s.elder x.slot y.newest (TryVisit p b n) r → Pends s.elder (upd x.slot b p) y.newest (visited_of (W * H) y p d (n + 1)) r
      aside_pends r hr q =
          by_visited (λ t. Pends s.elder (upd x.slot b p) y.newest t r) (W * H) y p d (n + 1) (λ _. go q) (λ _ e. let f : ◌≡◌ {A = ℕ} 0 1 = grind (arith, nat_tests) in absurd (omega arith)) (λ e. last e q)
        where
          slot_other : (z : ℕ) → z ≢ b → upd x.slot b p z ≡ x.slot z
          slot_other z ne = upd_other x.slot b p z ne

          there : r ≡ p → Aside s.elder (upd x.slot b p) (n + 1) (Some y.newest) r
          there i = subst (λ m. Aside s.elder (upd x.slot b p) m (Some y.newest) r) (sym (add-one n)) (aside_next s.elder (upd x.slot b p) n (Some y.newest) b r at_b (upd_same x.slot b p ∙ sym i))

          before : Aside s.elder x.slot n (Some y.newest) r → Aside s.elder (upd x.slot b p) (n + 1) (Some y.newest) r
          before a = subst (λ m. Aside s.elder (upd x.slot b p) m (Some y.newest) r) (sym (add-one n)) (aside_more s.elder (upd x.slot b p) n (Some y.newest) r
              (aside_slot s.elder x.slot (upd x.slot b p) n (Some y.newest) (g.members y.lead) b r slot_other (own_chain N (W * H) W s g c w y hw own) once at_b a))

          go : Pends s.elder x.slot y.newest (TryVisit p b n) r → Pends s.elder (upd x.slot b p) y.newest (TryVisit (p + 1) d (n + 1)) r
          go (inl le) = elim (ℕ_discrete r p) [ yes i ↦ inr (there i) | no ne ↦ inl (omega arith) ]
          go (inr a) = inr (before a)

          last : ltb (p + 1) (W * H) ≡ false → Pends s.elder x.slot y.newest (TryVisit p b n) r → Aside s.elder (upd x.slot b p) (n + 1) (Some y.newest) r
          last e (inl le) = there (grind (arith, nat_tests))
          last e (inr a) = before a

      pub aside_guard : Guard W H E (retask s w (visited_of (W * H) y p d (n + 1))) slots
      aside_guard =
          let t : Task = visited_of (W * H) y p d (n + 1) in
          let now = upd_same s.task w t in
          let tries = visited_tries (W * H) y p d (n + 1) in
          closing W H F E s (retask s w t) x slots gd w (λ v ne. upd_other s.task w t v ne) (λ v ne. refl) (λ _ _ _. refl) (λ _ _ _ _ _. (refl, refl)) (λ _ _. refl)
          (λ v h z ne hv hh k. keeps (v * H + h) z (place_lt W H v h hv hh) k) (λ _ _ _ _ _ _ _ e. e) (λ _ _ _ _ _ e. e)
          (record {
            kept = λ h z e. let k = (gd w).kept h z e in (k.0, k.1, k.2, k.3, keeps (w * H + h) z (place_lt W H w h hw k.1) k.4);
            read = λ h i z _ _ e. absurd (tries.1 h i z (sym now ∙ e));
            off = λ h _ hh o _. let q = (gd w).off h hw hh o (ap (λ u. past_off u h) te) in (q.0, ap (λ u. past_on u h) now ∙ (tries.0 h).1);
            hides = λ h e. let q = (tries.0 h).2 in let z = sym (ap (λ u. busy_with u h) now) ∙ e in let f : ◌≡◌ {A = ℕ} 0 1 = cc in absurd (omega arith);
            visits = λ q z m k _ e o. let i = same_batch k o in subst (λ u. steps s.elder m (Some u.newest) ≡ Some z) i
                (visited_at s.elder (W * H) y p d (n + 1) (ap (λ m. steps s.elder m (Some y.newest)) (add-one n) ∙ steps_more s.elder n (Some y.newest) b at_b ∙ after) q z m (sym now ∙ e));
            least = λ k _ o. (gd w).least k hw o;
          })
        where
          holds : (r l : ℕ) → r < W * H → Holds W s x r l → Holds W (retask s w (visited_of (W * H) y p d (n + 1))) slots r l
          holds r l hr (inl o) = inl o
          holds r l hr (inr (v, hv, (k, o, lead, q))) = elim (ℕ_discrete v w) [
            | yes i ↦
                (let o' : s.batch w ≡ Some k = subst (λ u. s.batch u ≡ Some k) i o in
                let j = same_batch k o' in
                let q' : Pends s.elder x.slot y.newest (TryVisit p b n) r = subst (λ u. Pends s.elder x.slot y.newest u r) te (subst (λ u. Pends s.elder x.slot y.newest (s.task u) r) i (subst (λ (u : Batch). Pends s.elder x.slot u.newest (s.task v) r) (sym j) q)) in
                inr (w, hw, (y, own, ap (λ (u : Batch). u.lead) j ∙ lead, subst (λ u. Pends s.elder (upd x.slot b p) y.newest u r) (sym (upd_same s.task w (visited_of (W * H) y p d (n + 1)))) (aside_pends r hr q'))))
            | no ne ↦
                inr (
                  v,
                  hv,
                  (
                    k,
                    o,
                    lead,
                    subst (λ u. Pends s.elder (upd x.slot b p) k.newest u r) (sym (upd_other s.task w (visited_of (W * H) y p d (n + 1)) v ne))
                        (pends_same N (W * H) W s g c v hv k o s.elder x.slot (upd x.slot b p)
                        (λ z ret of_k. (
                          refl,
                          upd_other x.slot b p z (λ z_b.
                              let same : k.lead ≡ y.lead = sym of_k ∙ ap s.lead z_b ∙ b_lead in
                              let one : owns y.lead (s.batch w) ≡ 1 = ap (owns y.lead) own ∙ owns_own y.lead y refl in
                              let none = alone N (W * H) W s g c y.lead w v hw hv ne one in
                              let two : owns y.lead (s.batch v) ≡ 1 = ap (owns y.lead) o ∙ owns_own y.lead k same in
                              omega arith),
                        )) r q),
                  ),
                )
          ]

          keeps : (r z : ℕ) → r < W * H → Keeps W F s x r z → Keeps W E (retask s w (visited_of (W * H) y p d (n + 1))) slots r z
          keeps r z hr k = keeps_on W F E s (retask s w (visited_of (W * H) y p d (n + 1))) x slots r z refl refl refl stands (fine z) k
            where
              stands : is_off (s.list r) ≡ false → x.birth z ≤ x.era r → Stands W s x r z → Stands W (retask s w (visited_of (W * H) y p d (n + 1))) slots r z
              stands on le (inl i) = inl i
              stands on le (inr i) = inr (i.0, holds r (s.lead z) hr i.1)

-- That protection is kept by the hangings of a try.
use Rattle.std.proofs.Common.{◌≡◌, ℕ, zero, suc, ◌+◌, ◌-◌, ◌*◌, ◌<◌, ◌≤◌, true, false, cond, ltb, ◌≢◌, ◌⊎◌, List, ◌∷◌, Some, Option, sym, refl, ap, ◌∙◌, subst, inl, inr, arith}
use native.Mathlib.Decide.{ℕ_discrete}
use Rattle.std.proofs.lemmas.Bool.Decides.{nat_tests}
use Rattle.machine.specs.declared.states.Batch.{Batch}
use Rattle.machine.specs.declared.states.HungList.TheVariants.{Newest}
use Rattle.machine.specs.declared.states.Task.{Task}
use Rattle.machine.specs.declared.states.Task.TheVariants.{TryVisit, TryHang, TryLast}
use Rattle.machine.specs.Trying.{is_off}
use Rattle.machine.proofs.Passing.{by_test}
use Rattle.machine.proofs.Sums.{upd, Σ_term, tot, is, is_self, upd_same, upd_other}
use Rattle.machine.proofs.Chains.{Chain}
use Rattle.machine.proofs.Mirror.{St, retask, relist, reunder}
use Rattle.machine.proofs.Sound.{Gh, Sound, head, of, due_of, on}
use Rattle.machine.proofs.HangKept.{hang_info, hang_batch}
use Rattle.machine.proofs.Guards.{Extra, Aside, Pends, past_off, past_on, busy_with, OnList, Holds, Stands, Keeps, Guard}
use Rattle.machine.proofs.GuardChains.{place_lt, chain_unique, chain_same}
use Rattle.machine.proofs.GuardSteps.{keeps_on, closing}
use Rattle.machine.proofs.GuardTasks.{task_guard}
use Rattle.machine.proofs.GuardTries.{Tries, hang_tries, last_tries}

-- what follows a hanging, with d the next block
abbrev pub hanged_of : ℕ → ℕ → ℕ → Task
hanged_of left d n = cond (ltb 1 left) (TryHang d (left - 1) n) (TryLast n)

hanged_tries : (left d n : ℕ) → Tries (hanged_of left d n)
hanged_tries left d n = by_test Tries (ltb 1 left) _ _ (λ _. hang_tries d (left - 1) n) (λ _. last_tries n)

no_visit : (left d n p b m : ℕ) → hanged_of left d n ≢ TryVisit p b m
no_visit left d n p b m = by_test (λ t. t ≢ TryVisit p b m) (ltb 1 left) _ _ (λ _ e. let f : ◌≡◌ {A = ℕ} 0 1 = cc in omega arith) (λ _ e. let f : ◌≡◌ {A = ℕ} 0 1 = cc in omega arith)

-- of what was set aside, the first is hung now and the others later
later : (f : ℕ → Option ℕ) (slot : ℕ → ℕ) (newest left b d n r : ℕ) → f b ≡ Some d → 1 ≤ left → Aside f slot left (Some b) r → (slot b ≡ r) ⊎ Pends f slot newest (hanged_of left d n) r
later f slot newest zero b d n r e le a = absurd (omega arith)
later f slot newest (suc m) b d n r e le (inl i) = inl i
later f slot newest (suc m) b d n r e le (inr a) = inr (by_test (λ t. Pends f slot newest t r) (ltb 1 (suc m)) _ _
    (λ _. let i : m ≡ suc m - 1 = omega arith in subst (λ k. Aside f slot k (Some d) r) i (subst (λ o. Aside f slot m o r) e a))
    (λ t. let i : m ≡ 0 = grind (arith, nat_tests) in subst (λ k. Aside f slot k (f b) r) i a))

module _ (N W H : ℕ) (F E : ℕ → Type 0) (s : St) (g : Gh) (x : Extra) (c : Sound N (W * H) W s g) (small : W * H ≤ 32) (gd : Guard W H F s x) (fine : (b : ℕ) → F b → E b) (w : ℕ) (hw : w < W)
    (b left hung : ℕ) (te : s.task w ≡ TryHang b left hung) (d : ℕ) (after : s.elder b ≡ Some d) where
  some_left : 1 ≤ left
  some_left = (hang_info N (W * H) W s g c small w hw b left hung te).6

  -- the list at its place is off
  pub skip_guard : (n : ℕ) → is_off (s.list (x.slot b)) ≡ true → Guard W H E (retask s w (hanged_of left d n)) x
  skip_guard n is_it =
      let tries = hanged_tries left d n in
      task_guard W H F E s x gd fine w hw (hanged_of left d n)
      (λ r z y hr on le ret o lead q. go r y on (subst (λ u. Pends s.elder x.slot y.newest u r) te q))
      (λ h i z _ e. absurd (tries.1 h i z e))
      (λ h hh o _. let q = (gd w).off h hw hh o (ap (λ u. past_off u h) te) in (q.0, (tries.0 h).1))
      (λ h e. let q = (tries.0 h).2 in let f : ◌≡◌ {A = ℕ} 0 1 = cc in absurd (omega arith))
      (λ p z m y e o. absurd (no_visit left d n p z m e))
    where
      go : (r : ℕ) (y : Batch) → is_off (s.list r) ≡ false → Aside s.elder x.slot left (Some b) r → Pends s.elder x.slot y.newest (hanged_of left d n) r
      go r y on a = elim (later s.elder x.slot y.newest left b d n r after some_left a) [
        | inl i ↦ absurd (let o : is_off (s.list r) ≡ true = subst (λ k. is_off (s.list k) ≡ true) i is_it in let f : ◌≡◌ {A = ℕ} 0 1 = cc in omega arith)
        | inr q ↦ q
      ]

  -- the block hangs there
  module _ (n q : ℕ) (at : x.slot b ≡ q) (is_on : is_off (s.list q) ≡ false) where
    abbrev t : Task
    t = hanged_of left d n

    abbrev s' : St
    s' = retask (relist (reunder s b (head (s.list q))) q (Newest b)) w t

    -- b is on no list yet
    out : on (W * H) W g (is b) ≡ 0
    out =
        let i = hang_info N (W * H) W s g c small w hw b left hung te in
        let due : tot (is b) (due_of g.members (g.rest w) (s.batch w) (s.task w)) ≡ is b b + tot (is b) i.2 = rw (te, i.1, i.3) refl in
        let term = Σ_term (λ v. tot (is b) (due_of g.members (g.rest v) (s.batch v) (s.task v))) w W hw in
        let o = c.once b in
        let z = is_self b in
        omega arith

    -- so a list stays as it was
    list_same : (r : ℕ) (xs : List ℕ) → r < W * H → Chain s.under (head (s.list r)) xs → Chain (upd s.under b (head (s.list q))) (head (s.list r)) xs
    list_same r xs hr ch =
        let e = chain_unique s.under (head (s.list r)) xs (g.hung r) ch (c.hung_chain r hr) in
        chain_same s.under (upd s.under b (head (s.list q))) (head (s.list r)) xs
        (λ z m. upd_other s.under b (head (s.list q)) z (λ i.
        let a : 1 ≤ tot (is b) (g.hung r) = subst (λ ys. 1 ≤ tot (is b) ys) e (subst (λ k. 1 ≤ tot (is k) xs) i m) in
        let term = Σ_term (λ k. tot (is b) (g.hung k)) r (W * H) hr in
        let o = out in
        omega arith)) ch

    same_off : (r : ℕ) → is_off (upd s.list q (Newest b) r) ≡ is_off (s.list r)
    same_off r = elim (ℕ_discrete r q) [
      | yes i ↦ subst (λ k. is_off (upd s.list q (Newest b) k) ≡ is_off (s.list k)) (sym i) (ap is_off (upd_same s.list q (Newest b)) ∙ sym is_on)
      | no ne ↦ ap is_off (upd_other s.list q (Newest b) r ne)
    ]

    -- what hangs at the block's place now
    at_place : (l : ℕ) (xs : List ℕ) → q < W * H → Chain s.under (head (s.list q)) xs → 1 ≤ of s.lead l b + tot (of s.lead l) xs → OnList s' q l
    at_place l xs hq ch m = (
      b ∷ xs,
      subst (λ k. Chain (upd s.under b (head (s.list q))) (head k) (b ∷ xs)) (sym (upd_same s.list q (Newest b)))
          (refl, subst (λ o. Chain (upd s.under b (head (s.list q))) o xs) (sym (upd_same s.under b (head (s.list q)))) (list_same q xs hq ch)),
      m,
    )

    stays : (r l : ℕ) → r < W * H → OnList s r l → OnList s' r l
    stays r l hr (xs, ch, m) = elim (ℕ_discrete r q) [
      | yes i ↦ subst (λ k. OnList s' k l) (sym i) (at_place l xs (subst (λ k. k < W * H) i hr) (subst (λ k. Chain s.under (head (s.list k)) xs) i ch) (omega arith))
      | no ne ↦ (xs, subst (λ k. Chain (upd s.under b (head (s.list q))) (head k) xs) (sym (upd_other s.list q (Newest b) r ne)) (list_same r xs hr ch), m)
    ]

    holds : (r l : ℕ) → r < W * H → Holds W s x r l → Holds W s' x r l
    holds r l hr (inl o) = inl (stays r l hr o)
    holds r l hr (inr (v, hv, (y, o, lead, p))) = elim (ℕ_discrete v w) [
      | yes i ↦ own (subst (λ u. s.batch u ≡ Some y) i o) (later s.elder x.slot y.newest left b d n r after some_left (subst (λ u. Pends s.elder x.slot y.newest u r) te (subst (λ u. Pends s.elder x.slot y.newest (s.task u) r) i p)))
      | no ne ↦ inr (v, hv, (y, o, lead, subst (λ u. Pends s.elder x.slot y.newest u r) (sym (upd_other s.task w t v ne)) p))
    ]
      where
        own : s.batch w ≡ Some y → (x.slot b ≡ r) ⊎ Pends s.elder x.slot y.newest t r → Holds W s' x r l
        own o' (inl i) =
            let e : q ≡ r = sym at ∙ i in
            let k = hang_batch N (W * H) W s g c small w hw b left hung te in
            let same : k.0 ≡ y = let z = sym k.1 ∙ o' in cc in
            let of_l : s.lead b ≡ l = k.3 ∙ ap (λ (u : Batch). u.lead) same ∙ lead in
            let one : of s.lead l b ≡ 1 = grind arith in
            inl (subst (λ k. OnList s' k l) e (at_place l (g.hung q) (subst (λ k. k < W * H) (sym e) hr) (c.hung_chain q (subst (λ k. k < W * H) (sym e) hr)) (omega arith)))
        own o' (inr p') = inr (w, hw, (y, o', lead, subst (λ u. Pends s.elder x.slot y.newest u r) (sym (upd_same s.task w t)) p'))

    keeps : (r z : ℕ) → r < W * H → Keeps W F s x r z → Keeps W E s' x r z
    keeps r z hr k = keeps_on W F E s s' x x r z (same_off r) refl refl stands (fine z) k
      where
        stands : is_off (s.list r) ≡ false → x.birth z ≤ x.era r → Stands W s x r z → Stands W s' x r z
        stands on le (inl i) = inl i
        stands on le (inr i) = inr (i.0, holds r (s.lead z) hr i.1)

    pub hang_guard : Guard W H E s' x
    hang_guard =
        let now = upd_same s.task w t in
        let tries = hanged_tries left d n in
        closing W H F E s s' x x gd w (λ v ne. upd_other s.task w t v ne) (λ _ _. refl) (λ _ _ _. refl) (λ v h _ _ _. (same_off (v * H + h), refl)) (λ _ _. refl)
        (λ v h z ne hv hh k. keeps (v * H + h) z (place_lt W H v h hv hh) k) (λ _ _ _ _ _ _ _ e. e) (λ _ _ _ _ _ e. e)
        (record {
          kept = λ h z e. let k = (gd w).kept h z e in (k.0, k.1, same_off (w * H + h) ∙ k.2, k.3, keeps (w * H + h) z (place_lt W H w h hw k.1) k.4);
          read = λ h i z _ _ e. absurd (tries.1 h i z (sym now ∙ e));
          off = λ h _ hh o _. let p = (gd w).off h hw hh (sym (same_off (w * H + h)) ∙ o) (ap (λ u. past_off u h) te) in (p.0, ap (λ u. past_on u h) now ∙ (tries.0 h).1);
          hides = λ h e. let p = (tries.0 h).2 in let z = sym (ap (λ u. busy_with u h) now) ∙ e in let f : ◌≡◌ {A = ℕ} 0 1 = cc in absurd (omega arith);
          visits = λ p z m y _ e o. absurd (no_visit left d n p z m (sym now ∙ e));
          least = λ y _ o. (gd w).least y hw o;
        })

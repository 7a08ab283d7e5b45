-- That protection is kept where a block is taken.
use Rattle.std.proofs.Common.{◌≡◌, ℕ, ◌+◌, ◌*◌, ◌<◌, ◌≤◌, false, ◌≢◌, sym, refl, ap, ◌∙◌, subst, inl, inr, arith}
use native.Mathlib.Decide.{ℕ_discrete}
use Rattle.machine.specs.declared.states.Batch.{Batch}
use Rattle.machine.specs.declared.states.Standing.{Standing}
use Rattle.machine.specs.declared.states.Standing.TheVariants.{Pooled, Live, Retired}
use Rattle.machine.specs.declared.states.Task.TheVariants.{Idle}
use Rattle.machine.specs.Trying.{is_off}
use Rattle.machine.proofs.Sums.{upd, upd_same, upd_other}
use Rattle.machine.proofs.Mirror.{St, retask, enliven}
use Rattle.machine.proofs.Guards.{Extra, Pends, past_off, past_on, busy_with, Holds, Stands, Keeps, Least, Guard}
use Rattle.machine.proofs.GuardSteps.{stands_out, keeps_on, closing}

live_not : (x : Standing) → x ≡ Live → x ≡ Retired → ⊥
live_not x a b = let f : ◌≡◌ {A = ℕ} 0 1 = cc in omega arith

pooled_not : (x : Standing) → x ≡ Pooled → x ≡ Retired → ⊥
pooled_not x a b = let f : ◌≡◌ {A = ℕ} 0 1 = cc in omega arith

module _ (W H : ℕ) (F E : ℕ → Type 0) (s : St) (x : Extra) (gd : Guard W H F s x) (w : ℕ) (hw : w < W) (n now : ℕ) (fine : (b : ℕ) → b ≢ n → F b → E b)
    (pooled : s.standing n ≡ Pooled) (born : x.birth n ≤ now) (eras : (r : ℕ) → x.era r ≤ now) (plain : (h : ℕ) → past_off (s.task w) h ≡ false) where
  abbrev s' : St
  s' = enliven (retask s w Idle) n

  abbrev x' : Extra
  x' = record { birth = upd x.birth n now; slot = x.slot; era = x.era; shows = x.shows }

  holds : (r l : ℕ) → Holds W s x r l → Holds W s' x' r l
  holds r l (inl o) = inl o
  holds r l (inr (v, hv, (y, o, lead, p))) = inr (
    v,
    hv,
    (
      y,
      o,
      lead,
      elim (ℕ_discrete v w) [
        | yes i ↦ subst (λ u. Pends s.elder x.slot y.newest u r) (sym (ap (upd s.task w Idle) i ∙ upd_same s.task w Idle)) tt
        | no ne ↦ subst (λ u. Pends s.elder x.slot y.newest u r) (sym (upd_other s.task w Idle v ne)) p
      ],
    ),
  )

  keeps : (r z : ℕ) → Keeps W F s x r z → Keeps W E s' x' r z
  keeps r z k = elim (ℕ_discrete z n) [
    | yes i ↦ λ on le.
        let at : upd x.birth n now z ≡ now = ap (upd x.birth n now) i ∙ upd_same x.birth n now in
        let old : x.birth z ≡ x.birth n = ap x.birth i in
        let q = k on (omega arith) in
        absurd (stands_out W s x r z q.0 (ap s.standing i ∙ pooled))
    | no ne ↦ keeps_on W F E s s' x x' r z refl refl (upd_other x.birth n now z ne) (stands ne) (fine z ne) k
  ]
    where
      stands : z ≢ n → is_off (s.list r) ≡ false → x.birth z ≤ x.era r → Stands W s x r z → Stands W s' x' r z
      stands ne on le (inl i) = inl (upd_other s.standing n Live z ne ∙ i)
      stands ne on le (inr i) = inr (upd_other s.standing n Live z ne ∙ i.0, holds r (s.lead z) i.1)

  not_n : (z : ℕ) → s.standing z ≡ Retired → z ≢ n
  not_n z e i = pooled_not (s.standing z) (ap s.standing i ∙ pooled) e

  was : (z : ℕ) → upd s.standing n Live z ≡ Retired → (z ≢ n) × (s.standing z ≡ Retired)
  was z e = elim (ℕ_discrete z n) [
    | yes i ↦ absurd (live_not (upd s.standing n Live z) (ap (upd s.standing n Live) i ∙ upd_same s.standing n Live) e)
    | no ne ↦ (ne, sym (upd_other s.standing n Live z ne) ∙ e)
  ]

  leasts : (y : Batch) → Least s x y → Least s' x' y
  leasts y (low, (b, ret, lead, at)) = (
    λ z e i. let q = was z e in let j = upd_other x.birth n now z q.0 in let l = low z q.1 i in omega arith,
    (b, upd_other s.standing n Live b (not_n b ret) ∙ ret, lead, upd_other x.birth n now b (not_n b ret) ∙ at),
  )

  pub take_guard : Guard W H E s' x'
  take_guard =
      let now_idle = upd_same s.task w Idle in
      closing W H F E s s' x x' gd w (λ v ne. upd_other s.task w Idle v ne) (λ _ _. refl) (λ _ _ _. refl) (λ _ _ _ _ _. (refl, refl))
      (λ b out. upd_other x.birth n now b (λ i. out (ap s.standing i ∙ pooled)))
      (λ v h z _ _ _ k. keeps (v * H + h) z k) (λ _ _ _ _ _ _ _ e. e) (λ v y _ _ _ l. leasts y l)
      (record {
        kept = λ h z e.
            let k = (gd w).kept h z e in
            let q = k.4 k.2 k.3 in
            let j = upd_other x.birth n now z (λ i. stands_out W s x (w * H + h) z q.0 (ap s.standing i ∙ pooled)) in
            let le = k.3 in
            (k.0, k.1, k.2, omega arith, keeps (w * H + h) z k.4);
        read = λ h i z _ _ e. absurd (let g = sym now_idle ∙ e in let f : ◌≡◌ {A = ℕ} 0 1 = cc in omega arith);
        off = λ h _ hh o _. let q = (gd w).off h hw hh o (plain h) in (q.0, ap (λ u. past_on u h) now_idle);
        hides = λ h e. absurd (let g = sym (ap (λ u. busy_with u h) now_idle) ∙ e in let f : ◌≡◌ {A = ℕ} 0 1 = cc in omega arith);
        visits = λ p z m y _ e o. absurd (let g = sym now_idle ∙ e in let f : ◌≡◌ {A = ℕ} 0 1 = cc in omega arith);
        least = λ y _ o. leasts y ((gd w).least y hw o);
      })

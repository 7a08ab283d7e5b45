-- That protection is kept where a block is retired.
use Rattle.std.proofs.Common.{◌≡◌, ℕ, ◌+◌, ◌*◌, ◌<◌, ◌≤◌, false, ◌≢◌, Some, None, Option, sym, refl, ap, ◌∙◌, subst, inl, inr, arith}
use native.Mathlib.Decide.{ℕ_discrete, dec_le}
use Rattle.machine.specs.declared.states.Batch.{Batch}
use Rattle.machine.specs.declared.states.Standing.{Standing}
use Rattle.machine.specs.declared.states.Standing.TheVariants.{Live, Retired}
use Rattle.machine.specs.declared.states.Task.{Task}
use Rattle.machine.specs.declared.states.Task.TheVariants.{Idle, TryVisit}
use Rattle.machine.specs.Trying.{is_off}
use Rattle.machine.specs.Calls.{joined}
use Rattle.machine.proofs.Sums.{upd, Σ_term, tot, is, tot_on, upd_same, upd_other}
use Rattle.machine.proofs.Mirror.{St, rebatch, join}
use Rattle.machine.proofs.Sound.{Gh, Sound, head, of, owns}
use Rattle.machine.proofs.Owners.{owns_own, alone}
use Rattle.machine.proofs.Guards.{Extra, steps, Pends, past_off, past_on, busy_with, Holds, Stands, Keeps, Least, Guard}
use Rattle.machine.proofs.GuardChains.{place_lt, chain_unique}
use Rattle.machine.proofs.GuardSteps.{pends_same, visits_same, keeps_on, closing}
use Rattle.machine.proofs.GuardTries.{Tries}

live_not : (x : Standing) → x ≡ Live → x ≡ Retired → ⊥
live_not x a b = let f : ◌≡◌ {A = ℕ} 0 1 = cc in omega arith

module _ (N W H : ℕ) (F E : ℕ → Type 0) (s : St) (g : Gh) (x : Extra) (c : Sound N (W * H) W s g) (gd : Guard W H F s x) (fine : (b : ℕ) → F b → E b) (w : ℕ) (hw : w < W)
    (te : s.task w ≡ Idle) (b : ℕ) (lives : s.standing b ≡ Live) (t : Task) (e : Option ℕ) (count : ℕ) (tries : Tries t) where
  -- the worker's batch then
  abbrev y' : Batch
  y' = joined (s.batch w) b (x.birth b)

  abbrev pub after_retire : St
  after_retire = rebatch (join s b y'.lead e count) w t (Some y')

  module _ (g' : Gh) (c' : Sound N (W * H) W after_retire g') (all : (r : ℕ) → Pends (upd s.elder b e) x.slot y'.newest t r)
      (visits : (p d n : ℕ) → t ≡ TryVisit p d n → steps (upd s.elder b e) n (Some y'.newest) ≡ Some d) where
    not_b : (z : ℕ) → s.standing z ≡ Retired → z ≢ b
    not_b z ret i = live_not (s.standing z) (ap s.standing i ∙ lives) ret

    same_lead : (y : Batch) → s.batch w ≡ Some y → y'.lead ≡ y.lead
    same_lead y o = ap (λ k. (joined k b (x.birth b)).lead) o

    now_batch : upd s.batch w (Some y') w ≡ Some y'
    now_batch = upd_same s.batch w (Some y')

    -- the worker's own batch has every place before it
    own_holds : (r : ℕ) → Holds W after_retire x r y'.lead
    own_holds r = inr (w, hw, (y', now_batch, refl, subst (λ u. Pends (upd s.elder b e) x.slot y'.newest u r) (sym (upd_same s.task w t)) (all r)))

    holds : (r l : ℕ) → r < W * H → Holds W s x r l → Holds W after_retire x r l
    holds r l hr (inl (xs, ch, m)) =
        let same = chain_unique s.under (head (s.list r)) xs (g.hung r) ch (c.hung_chain r hr) in
        let q = tot_on (of (upd s.lead b y'.lead) l) (of s.lead l) xs
        (λ z i.
        let j : 1 ≤ tot (is z) (g.hung r) = subst (λ ys. 1 ≤ tot (is z) ys) same i in
        let term = Σ_term (λ k. tot (is z) (g.hung k)) r (W * H) hr in
        ap (λ k. of (λ _. k) l z) (upd_other s.lead b y'.lead z (not_b z (c.entries z (omega arith))))) in
        inl (xs, ch, omega arith)
    holds r l hr (inr (v, hv, (y, o, lead, p))) = elim (ℕ_discrete v w) [
      | yes i ↦ subst (Holds W after_retire x r) (same_lead y (subst (λ u. s.batch u ≡ Some y) i o) ∙ lead) (own_holds r)
      | no ne ↦
          inr (
            v,
            hv,
            (
              y,
              upd_other s.batch w (Some y') v ne ∙ o,
              lead,
              subst (λ u. Pends (upd s.elder b e) x.slot y.newest u r) (sym (upd_other s.task w t v ne))
                  (pends_same N (W * H) W s g c v hv y o (upd s.elder b e) x.slot x.slot (λ z ret _. (upd_other s.elder b e z (not_b z ret), refl)) r p),
            ),
          )
    ]

    keeps : (r z : ℕ) → r < W * H → Keeps W F s x r z → Keeps W E after_retire x r z
    keeps r z hr k = keeps_on W F E s after_retire x x r z refl refl refl stands (fine z) k
      where
        stands : is_off (s.list r) ≡ false → x.birth z ≤ x.era r → Stands W s x r z → Stands W after_retire x r z
        stands on le st = elim (ℕ_discrete z b) [
          | yes i ↦ inr (ap (upd s.standing b Retired) i ∙ upd_same s.standing b Retired, subst (Holds W after_retire x r) (sym (ap (upd s.lead b y'.lead) i ∙ upd_same s.lead b y'.lead)) (own_holds r))
          | no ne ↦ elim st [
            | inl i ↦ inl (upd_other s.standing b Retired z ne ∙ i)
            | inr i ↦ inr (upd_other s.standing b Retired z ne ∙ i.0, subst (Holds W after_retire x r) (sym (upd_other s.lead b y'.lead z ne)) (holds r (s.lead z) hr i.1))
          ]
        ]

    -- a batch of another worker has the blocks that it had
    leasts : (v : ℕ) (y : Batch) → v ≢ w → v < W → s.batch v ≡ Some y → Least s x y → Least after_retire x y
    leasts v y ne hv o (low, (d, ret, lead, at)) = (
      λ z r i. elim (ℕ_discrete z b) [
        | yes j ↦
            (let same : y.lead ≡ y'.lead = sym i ∙ ap (upd s.lead b y'.lead) j ∙ upd_same s.lead b y'.lead in
            let one : owns y'.lead (upd s.batch w (Some y') w) ≡ 1 = ap (owns y'.lead) now_batch ∙ owns_own y'.lead y' refl in
            let two : owns y'.lead (upd s.batch w (Some y') v) ≡ 1 = ap (owns y'.lead) (upd_other s.batch w (Some y') v ne ∙ o) ∙ owns_own y'.lead y same in
            let none = alone N (W * H) W after_retire g' c' y'.lead w v hw hv ne one in
            absurd (omega arith))
        | no n ↦ low z (sym (upd_other s.standing b Retired z n) ∙ r) (sym (upd_other s.lead b y'.lead z n) ∙ i)
      ],
      (d, upd_other s.standing b Retired d (not_b d ret) ∙ ret, upd_other s.lead b y'.lead d (not_b d ret) ∙ lead, at),
    )

    -- the block itself is in the batch
    itself : (upd s.standing b Retired b ≡ Retired) × (upd s.lead b y'.lead b ≡ y'.lead)
    itself = (upd_same s.standing b Retired, upd_same s.lead b y'.lead)

    own_least : (o : Option Batch) → s.batch w ≡ o → Least after_retire x (joined o b (x.birth b))
    own_least None o = (
      λ z r i. elim (ℕ_discrete z b) [
        | yes j ↦ (let k : x.birth z ≡ x.birth b = ap x.birth j in omega arith)
        | no ne ↦
            (let ret : s.standing z ≡ Retired = sym (upd_other s.standing b Retired z ne) ∙ r in
            let lead : s.lead z ≡ b = sym (upd_other s.lead b y'.lead z ne) ∙ i in
            absurd (live_not (s.standing b) lives (subst (λ k. s.standing k ≡ Retired) lead (c.led z ret).0)))
      ],
      (b, itself.0, itself.1 ∙ ap (λ k. (joined k b (x.birth b)).lead) o, refl),
    )
    own_least (Some y) o =
        let l = (gd w).least y hw o in (
          λ z r i. elim (ℕ_discrete z b) [
            | yes j ↦ (let k : x.birth z ≡ x.birth b = ap x.birth j in omega arith)
            | no ne ↦
                (let ret : s.standing z ≡ Retired = sym (upd_other s.standing b Retired z ne) ∙ r in
                let lead : s.lead z ≡ y.lead = sym (upd_other s.lead b y'.lead z ne) ∙ i in
                let low = l.0 z ret lead in
                omega arith)
          ],
          elim (dec_le y.least (x.birth b)) [
            | yes le ↦
                (let d = l.1 in
                let ne = not_b d.0 d.1 in
                let at = d.3 in
                (d.0, upd_other s.standing b Retired d.0 ne ∙ d.1, upd_other s.lead b y'.lead d.0 ne ∙ d.2, omega arith))
            | no gt ↦ (b, itself.0, itself.1 ∙ ap (λ k. (joined k b (x.birth b)).lead) o, omega arith)
          ],
        )

    pub retire_guard : Guard W H E after_retire x
    retire_guard =
        let now = upd_same s.task w t in
        closing W H F E s after_retire x x gd w (λ v ne. upd_other s.task w t v ne) (λ v ne. upd_other s.batch w (Some y') v ne) (λ _ _ _. refl) (λ _ _ _ _ _. (refl, refl)) (λ _ _. refl)
        (λ v h z ne hv hh k. keeps (v * H + h) z (place_lt W H v h hv hh) k)
        (λ v n d y ne hv o q. visits_same N (W * H) W s g c v hv y o (upd s.elder b e) (λ z ret _. upd_other s.elder b e z (not_b z ret)) n d q)
        leasts
        (record {
          kept = λ h z i. let k = (gd w).kept h z i in (k.0, k.1, k.2, k.3, keeps (w * H + h) z (place_lt W H w h hw k.1) k.4);
          read = λ h i z _ _ k. absurd (tries.1 h i z (sym now ∙ k));
          off = λ h _ hh o _. let q = (gd w).off h hw hh o (ap (λ u. past_off u h) te) in (q.0, ap (λ u. past_on u h) now ∙ (tries.0 h).1);
          hides = λ h k. let q = (tries.0 h).2 in let z = sym (ap (λ u. busy_with u h) now) ∙ k in let f : ◌≡◌ {A = ℕ} 0 1 = cc in absurd (omega arith);
          visits = λ p d n y _ k o.
              let i : y' ≡ y = let j = sym now_batch ∙ o in cc in
              subst (λ (u : Batch). steps (upd s.elder b e) n (Some u.newest) ≡ Some d) i (visits p d n (sym now ∙ k));
          least = λ y _ o.
              let i : y' ≡ y = let j = sym now_batch ∙ o in cc in
              subst (Least after_retire x) i (own_least (s.batch w) refl);
        })

-- That protection is kept where a batch is given back: no block that a reservation keeps is in it.
use Rattle.std.proofs.Common.{◌≡◌, ℕ, ◌+◌, ◌*◌, ◌<◌, ◌≤◌, Bool, true, false, ◌≢◌, List, [], ◌∷◌, Some, Option, sym, refl, ap, ◌∙◌, subst, inl, inr, arith}
use native.Mathlib.Decide.{ℕ_discrete}
use Rattle.machine.specs.declared.states.Batch.{Batch}
use Rattle.machine.specs.declared.states.Standing.{Standing}
use Rattle.machine.specs.declared.states.Standing.TheVariants.{Pooled, Live, Retired}
use Rattle.machine.specs.declared.states.Task.{Task}
use Rattle.machine.specs.declared.states.Task.TheVariants.{LookEra, TryVisit}
use Rattle.machine.specs.Account.{is_retired}
use Rattle.machine.specs.Trying.{is_off}
use Rattle.machine.proofs.Sums.{upd, Σ_term, tot, is, is_self, upd_same, upd_other}
use Rattle.machine.proofs.Mirror.{St, give, give_all}
use Rattle.machine.proofs.Sound.{Gh, Sound, head, of}
use Rattle.machine.proofs.Owners.{own_lead}
use Rattle.machine.proofs.Waiting.{tot_some}
use Rattle.machine.proofs.GiveKept.{marked}
use Rattle.machine.proofs.StepsSound.{WholeBatch}
use Rattle.machine.proofs.Guards.{Extra, Pends, past_off, past_on, busy_with, OnList, Holds, Stands, Keeps, Least, Guard}
use Rattle.machine.proofs.GuardChains.{place_lt, chain_unique}
use Rattle.machine.proofs.GuardSteps.{keeps_on, closing}

-- the standings and the numbers in after blocks are given back
abbrev pub pools : (ℕ → Standing) → List ℕ → ℕ → Standing
pools f [] = f
pools f (b ∷ bs) = pools (upd f b Pooled) bs

abbrev pub fills : (ℕ → Bool) → List ℕ → ℕ → Bool
fills f [] = f
fills f (b ∷ bs) = fills (upd f b true) bs

pub give_all_is : (s : St) (bs : List ℕ)
    → give_all s bs ≡ record { inside = fills s.inside bs; standing = pools s.standing bs; lead = s.lead; under = s.under; elder = s.elder; count = s.count; newest = s.newest; list = s.list; task = s.task; batch = s.batch }
give_all_is s [] = refl
give_all_is s (b ∷ bs) = give_all_is (give s b) bs

pools_pooled : (f : ℕ → Standing) (bs : List ℕ) (z : ℕ) → f z ≡ Pooled → pools f bs z ≡ Pooled
pools_pooled f [] z e = e
pools_pooled f (b ∷ bs) z e = pools_pooled (upd f b Pooled) bs z (elim (ℕ_discrete z b) [
  | yes i ↦ subst (λ k. upd f b Pooled k ≡ Pooled) (sym i) (upd_same f b Pooled)
  | no ne ↦ upd_other f b Pooled z ne ∙ e
])

pools_in : (f : ℕ → Standing) (bs : List ℕ) (z : ℕ) → 1 ≤ tot (is z) bs → pools f bs z ≡ Pooled
pools_in f [] z m = absurd (omega arith)
pools_in f (b ∷ bs) z m = elim (ℕ_discrete z b) [
  | yes i ↦ pools_pooled (upd f b Pooled) bs z (subst (λ k. upd f b Pooled k ≡ Pooled) (sym i) (upd_same f b Pooled))
  | no ne ↦ pools_in (upd f b Pooled) bs z (let e : is z b ≡ 0 = grind arith in omega arith)
]

pools_out : (f : ℕ → Standing) (bs : List ℕ) (z : ℕ) → tot (is z) bs ≡ 0 → pools f bs z ≡ f z
pools_out f [] z m = refl
pools_out f (b ∷ bs) z m =
    let ne : z ≢ b = λ i. let e : is z b ≡ 1 = subst (λ k. is z k ≡ 1) i (is_self z) in omega arith in
    pools_out (upd f b Pooled) bs z (omega arith) ∙ upd_other f b Pooled z ne

-- two standings
live_retired : (x : Standing) → x ≡ Live → x ≡ Retired → ⊥
live_retired x a b = let f : ◌≡◌ {A = ℕ} 0 1 = cc in omega arith

pooled_retired : (x : Standing) → x ≡ Pooled → x ≡ Retired → ⊥
pooled_retired x a b = let f : ◌≡◌ {A = ℕ} 0 1 = cc in omega arith

-- a block that counts for a lead names it
of_is : (lead : ℕ → ℕ) (l y : ℕ) → 1 ≤ of lead l y → lead y ≡ l
of_is lead l y m = elim (ℕ_discrete (lead y) l) [ yes e ↦ e | no ne ↦ absurd (grind arith) ]

-- of a whole batch: each block is retired, and each retired block of the same lead is in it
pub batch_of : (s : St) (bs : List ℕ) → WholeBatch s bs → (z : ℕ) → 1 ≤ tot (is z) bs → (s.standing z ≡ Retired) × ((y : ℕ) → s.standing y ≡ Retired → s.lead y ≡ s.lead z → 1 ≤ tot (is y) bs)
batch_of s bs (inl e) z m = absurd (let t = ap (tot (is z)) e in omega arith)
batch_of s bs (inr h) z m =
    let k = marked (s.standing z) (s.lead z) h.0 (let e = h.3 z in omega arith) in (
      k.0,
      λ y ret same. let l : s.lead y ≡ h.0 = same ∙ k.1 in let r : is_retired (s.standing y) ≡ true = ap is_retired ret in let e = h.3 y in grind arith,
    )

module _ (N W H : ℕ) (F E : ℕ → Type 0) (s : St) (g : Gh) (x : Extra) (c : Sound N (W * H) W s g) (gd : Guard W H F s x) (fine : (b : ℕ) → F b → E b) (w : ℕ) (hw : w < W)
    (back : List ℕ) (whole : WholeBatch s back) (t : Task) (inside : ℕ → Bool) (count newest : ℕ → ℕ) (batch : ℕ → Option Batch)
    (others : (v : ℕ) → v ≢ w → batch v ≡ s.batch v) (own : (y : Batch) → batch w ≡ Some y → s.batch w ≡ Some y)
    (pend : (y : Batch) (r : ℕ) → s.batch w ≡ Some y → Pends s.elder x.slot y.newest (s.task w) r → (batch w ≡ Some y) × Pends s.elder x.slot y.newest t r) where
  -- the state after it
  abbrev pub after_give : St
  after_give = record { inside = inside; standing = pools s.standing back; lead = s.lead; under = s.under; elder = s.elder; count = count; newest = newest; list = s.list; task = upd s.task w t; batch = batch }

  module _ (g' : Gh) (c' : Sound N (W * H) W after_give g') where
    -- what stands in one place stands there after, unless it is in the batch
    by_place : (z : ℕ) → (1 ≤ tot (is z) back → ⊥) → pools s.standing back z ≡ s.standing z
    by_place z out = pools_out s.standing back z (omega (arith, out))

    was_own : (v : ℕ) (y : Batch) → batch v ≡ Some y → s.batch v ≡ Some y
    was_own v y e = elim (ℕ_discrete v w) [
      | yes i ↦ subst (λ u. s.batch u ≡ Some y) (sym i) (own y (subst (λ u. batch u ≡ Some y) i e))
      | no ne ↦ sym (others v ne) ∙ e
    ]

    -- a batch that a worker still has is not given back
    own_stays : (v : ℕ) (y : Batch) → v < W → batch v ≡ Some y → (z : ℕ) → s.standing z ≡ Retired → s.lead z ≡ y.lead → 1 ≤ tot (is z) back → ⊥
    own_stays v y hv e z ret lead m =
        let before = own_lead N (W * H) W s g c v y hv (was_own v y e) in
        let after = own_lead N (W * H) W after_give g' c' v y hv e in
        let inn = (batch_of s back whole z m).1 y.lead before.0 (before.1 ∙ sym lead) in
        pooled_retired (pools s.standing back y.lead) (pools_in s.standing back y.lead inn) after.0

    -- a batch that hangs is not given back
    hung_stays : (r z : ℕ) → r < W * H → OnList s r (s.lead z) → s.standing z ≡ Retired → 1 ≤ tot (is z) back → ⊥
    hung_stays r z hr (xs, ch, some) ret m =
        let i = tot_some (of s.lead (s.lead z)) xs some in
        let y = i.0 in
        let y_lead = of_is s.lead (s.lead z) y i.2 in
        let before : 1 ≤ tot (is y) (g.hung r) = subst (λ ys. 1 ≤ tot (is y) ys) (chain_unique s.under (head (s.list r)) xs (g.hung r) ch (c.hung_chain r hr)) i.1 in
        let after : 1 ≤ tot (is y) (g'.hung r) = subst (λ ys. 1 ≤ tot (is y) ys) (chain_unique s.under (head (s.list r)) xs (g'.hung r) ch (c'.hung_chain r hr)) i.1 in
        let a = Σ_term (λ k. tot (is y) (g.hung k)) r (W * H) hr in
        let b = Σ_term (λ k. tot (is y) (g'.hung k)) r (W * H) hr in
        let ret_y = c.entries y (omega arith) in
        let ret_then = c'.entries y (omega arith) in
        let inn = (batch_of s back whole z m).1 y ret_y y_lead in
        pooled_retired (pools s.standing back y) (pools_in s.standing back y inn) ret_then

    holds : (r l : ℕ) → Holds W s x r l → Holds W after_give x r l
    holds r l (inl o) = inl o
    holds r l (inr (v, hv, (y, o, lead, p))) = elim (ℕ_discrete v w) [
      | yes i ↦
          (let q = pend y r (subst (λ u. s.batch u ≡ Some y) i o) (subst (λ u. Pends s.elder x.slot y.newest (s.task u) r) i p) in
          inr (w, hw, (y, q.0, lead, subst (λ u. Pends s.elder x.slot y.newest u r) (sym (upd_same s.task w t)) q.1)))
      | no ne ↦ inr (v, hv, (y, others v ne ∙ o, lead, subst (λ u. Pends s.elder x.slot y.newest u r) (sym (upd_other s.task w t v ne)) p))
    ]

    held_stays : (r z : ℕ) → r < W * H → s.standing z ≡ Retired → Holds W s x r (s.lead z) → 1 ≤ tot (is z) back → ⊥
    held_stays r z hr ret (inl o) m = hung_stays r z hr o ret m
    held_stays r z hr ret (inr (v, hv, (y, o, lead, p))) m = elim (ℕ_discrete v w) [
      | yes i ↦
          (let q = pend y r (subst (λ u. s.batch u ≡ Some y) i o) (subst (λ u. Pends s.elder x.slot y.newest (s.task u) r) i p) in
          own_stays w y hw q.0 z ret (sym lead) m)
      | no ne ↦ own_stays v y hv (others v ne ∙ o) z ret (sym lead) m
    ]

    keeps : (r z : ℕ) → r < W * H → Keeps W F s x r z → Keeps W E after_give x r z
    keeps r z hr k = keeps_on W F E s after_give x x r z refl refl refl stands (fine z) k
      where
        stands : is_off (s.list r) ≡ false → x.birth z ≤ x.era r → Stands W s x r z → Stands W after_give x r z
        stands on le (inl i) = inl (by_place z (λ m. live_retired (s.standing z) i (batch_of s back whole z m).0) ∙ i)
        stands on le (inr i) = inr (by_place z (λ m. held_stays r z hr i.0 i.1 m) ∙ i.0, holds r (s.lead z) i.1)

    still_retired : (z : ℕ) → pools s.standing back z ≡ Retired → s.standing z ≡ Retired
    still_retired z e = sym (by_place z (λ m. pooled_retired (pools s.standing back z) (pools_in s.standing back z m) e)) ∙ e

    leasts : (v : ℕ) (y : Batch) → v < W → batch v ≡ Some y → Least s x y → Least after_give x y
    leasts v y hv e (low, (b, ret, lead, at)) = (λ z r i. low z (still_retired z r) i, (b, by_place b (λ m. own_stays v y hv e b ret lead m) ∙ ret, lead, at))

    pub give_guard : ((h i b : ℕ) → t ≢ LookEra h i (Some b)) → ((p b n : ℕ) → t ≢ TryVisit p b n)
        → ((h : ℕ) → (past_off t h ≡ past_off (s.task w) h) × (past_on t h ≡ past_on (s.task w) h) × (busy_with t h ≡ true → busy_with (s.task w) h ≡ true))
        → Guard W H E after_give x
    give_guard no_read no_visit flags =
        let now = upd_same s.task w t in
        closing W H F E s after_give x x gd w (λ v ne. upd_other s.task w t v ne) others (λ _ _ _. refl) (λ _ _ _ _ _. (refl, refl)) (λ _ _. refl)
        (λ v h z ne hv hh k. keeps (v * H + h) z (place_lt W H v h hv hh) k) (λ _ _ _ _ _ _ _ e. e) (λ v y ne hv o l. leasts v y hv (others v ne ∙ o) l)
        (record {
          kept = λ h z e. let k = (gd w).kept h z e in (k.0, k.1, k.2, k.3, keeps (w * H + h) z (place_lt W H w h hw k.1) k.4);
          read = λ h i z _ _ e. absurd (no_read h i z (sym now ∙ e));
          off = λ h _ hh o past.
              let f = flags h in
              let q = (gd w).off h hw hh o (sym f.0 ∙ sym (ap (λ u. past_off u h) now) ∙ past) in
              (q.0, ap (λ u. past_on u h) now ∙ f.1 ∙ q.1);
          hides = λ h e. (gd w).hides h ((flags h).2 (sym (ap (λ u. busy_with u h) now) ∙ e));
          visits = λ p z m y _ e o. absurd (no_visit p z m (sym now ∙ e));
          least = λ y _ e. leasts w y hw e ((gd w).least y hw (own y e));
        })

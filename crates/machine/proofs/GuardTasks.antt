-- That protection is kept by a step that moves no block: another task, another list or era of an own hold, or something shown.
use Rattle.std.proofs.Common.{◌≡◌, ℕ, ◌+◌, ◌*◌, ◌<◌, ◌≤◌, true, false, ◌≢◌, Some, None, Option, sym, refl, ap, ◌∙◌, subst, arith}
use native.Mathlib.Decide.{ℕ_discrete}
use Rattle.machine.specs.declared.states.Batch.{Batch}
use Rattle.machine.specs.declared.states.HungList.{HungList}
use Rattle.machine.specs.declared.states.Standing.TheVariants.{Retired}
use Rattle.machine.specs.declared.states.Task.{Task}
use Rattle.machine.specs.declared.states.Task.TheVariants.{LookEra, TryVisit}
use Rattle.machine.specs.Trying.{is_off}
use Rattle.machine.proofs.Sums.{upd, upd_same, upd_other}
use Rattle.machine.proofs.Mirror.{St, retask, relist}
use Rattle.machine.proofs.Guards.{Extra, steps, Pends, past_off, past_on, busy_with, Keeps, Guard}
use Rattle.machine.proofs.GuardChains.{place_lt, place_apart}
use Rattle.machine.proofs.GuardSteps.{quiet_extra, quiet_keeps, quiet_guard}

-- what is said of the blocks that are kept may change
pub map_guard : (W H : ℕ) (F E : ℕ → Type 0) (s : St) (x : Extra) → Guard W H F s x → ((b : ℕ) → F b → E b) → Guard W H E s x
map_guard W H F E s x c fine w = record {
  kept = λ h b e. let k = (c w).kept h b e in (k.0, k.1, k.2, k.3, λ on le. let q = k.4 on le in (q.0, fine b q.1));
  read = λ h i b hw hh e on le. let q = (c w).read h i b hw hh e on le in (q.0, fine b q.1);
  off = (c w).off;
  hides = (c w).hides;
  visits = (c w).visits;
  least = (c w).least;
}

module _ (W H : ℕ) (F E : ℕ → Type 0) (s : St) (x : Extra) (c : Guard W H F s x) (fine : (b : ℕ) → F b → E b) (w : ℕ) (hw : w < W) where
  -- another task in place, with other things shown by the worker's holds
  pub shows_guard : (t : Task) (f : ℕ → ℕ → Option ℕ) → ((v h : ℕ) → v ≢ w → f v h ≡ x.shows v h)
      → ((r b : ℕ) (y : Batch) → r < W * H → is_off (s.list r) ≡ false → x.birth b ≤ x.era r → s.standing b ≡ Retired → s.batch w ≡ Some y → s.lead b ≡ y.lead
      → Pends s.elder x.slot y.newest (s.task w) r → Pends s.elder x.slot y.newest t r)
      → ((h b : ℕ) → f w h ≡ Some b → (h < H) × (is_off (s.list (w * H + h)) ≡ false) × (x.birth b ≤ x.era (w * H + h)) × Keeps W F s x (w * H + h) b)
      → ((h i b : ℕ) → h < H → t ≡ LookEra h i (Some b) → Keeps W F s x (w * H + h) b)
      → ((h : ℕ) → h < H → is_off (s.list (w * H + h)) ≡ true → past_off t h ≡ false → (x.era (w * H + h) ≡ 0) × (past_on t h ≡ false))
      → ((h : ℕ) → busy_with t h ≡ true → f w h ≡ None)
      → ((p b n : ℕ) (y : Batch) → t ≡ TryVisit p b n → s.batch w ≡ Some y → steps s.elder n (Some y.newest) ≡ Some b)
      → Guard W H E (retask s w t) (quiet_extra x x.era f)
  shows_guard t f others pend kept read off hides visits =
      let now = upd_same s.task w t in
      let keeps : (r b : ℕ) → r < W * H → Keeps W F s x r b → Keeps W E (retask s w t) (quiet_extra x x.era f) r b =
      λ r b hr k. quiet_keeps W H F E s x c fine w hw t s.list x.era f (λ _. Unit {0}) (λ _ _. refl) (λ _ _. refl) (λ r b y _. pend r b y) r b tt hr k in
      quiet_guard W H F E s x c fine w hw t s.list x.era f (λ _. Unit {0}) (λ _ _. refl) (λ _ _. refl) (λ r b y _. pend r b y) (λ _ _ _ _ _. tt) others (record {
        kept = λ h b e. let k = kept h b e in (hw, k.0, k.1, k.2, keeps (w * H + h) b (place_lt W H w h hw k.0) k.3);
        read = λ h i b _ hh e. keeps (w * H + h) b (place_lt W H w h hw hh) (read h i b hh (sym now ∙ e));
        off = λ h _ hh o past. let q = off h hh o (sym (ap (λ u. past_off u h) now) ∙ past) in (q.0, ap (λ u. past_on u h) now ∙ q.1);
        hides = λ h e. hides h (sym (ap (λ u. busy_with u h) now) ∙ e);
        visits = λ p b n y _ e own. visits p b n y (sym now ∙ e) own;
        least = λ y _ own. (c w).least y hw own;
      })

  -- another task in place
  pub task_guard : (t : Task)
      → ((r b : ℕ) (y : Batch) → r < W * H → is_off (s.list r) ≡ false → x.birth b ≤ x.era r → s.standing b ≡ Retired → s.batch w ≡ Some y → s.lead b ≡ y.lead
      → Pends s.elder x.slot y.newest (s.task w) r → Pends s.elder x.slot y.newest t r)
      → ((h i b : ℕ) → h < H → t ≡ LookEra h i (Some b) → Keeps W F s x (w * H + h) b)
      → ((h : ℕ) → h < H → is_off (s.list (w * H + h)) ≡ true → past_off t h ≡ false → (x.era (w * H + h) ≡ 0) × (past_on t h ≡ false))
      → ((h : ℕ) → busy_with t h ≡ true → busy_with (s.task w) h ≡ true)
      → ((p b n : ℕ) (y : Batch) → t ≡ TryVisit p b n → s.batch w ≡ Some y → steps s.elder n (Some y.newest) ≡ Some b)
      → Guard W H E (retask s w t) x
  task_guard t pend read off busy visits =
      shows_guard t x.shows (λ _ _ _. refl) pend (λ h b e. let k = (c w).kept h b e in (k.1, k.2, k.3, k.4)) read off (λ h e. (c w).hides h (busy h e)) visits

  -- another list or era of hold i, which the worker looks with or drops
  pub place_guard : (i : ℕ) (t : Task) (l : HungList) (e : ℕ) → i < H → busy_with (s.task w) i ≡ true
      → ((y : Batch) (r : ℕ) → Pends s.elder x.slot y.newest t r)
      → ((h j b : ℕ) → t ≢ LookEra h j (Some b)) → ((p b n : ℕ) → t ≢ TryVisit p b n)
      → (is_off l ≡ true → past_off t i ≡ false → (e ≡ 0) × (past_on t i ≡ false))
      → ((h : ℕ) → h ≢ i → (past_off (s.task w) h ≡ false) × (past_on t h ≡ false))
      → ((h : ℕ) → busy_with t h ≡ true → busy_with (s.task w) h ≡ true)
      → Guard W H E (retask (relist s (w * H + i) l) w t) (quiet_extra x (upd x.era (w * H + i) e) x.shows)
  place_guard i t l e hi busy_i pend no_read no_visit here there busy =
      let q = w * H + i in
      let now = upd_same s.task w t in
      let same_list : (r : ℕ) → r ≢ q → upd s.list q l r ≡ s.list r = λ r ne. upd_other s.list q l r ne in
      let same_era : (r : ℕ) → r ≢ q → upd x.era q e r ≡ x.era r = λ r ne. upd_other x.era q e r ne in
      let else : (h : ℕ) → h ≢ i → w * H + h ≢ q = λ h ne z. ne (omega arith) in
      quiet_guard W H F E s x c fine w hw t (upd s.list q l) (upd x.era q e) x.shows (λ r. r ≢ q) same_list same_era (λ r b y _ _ _ _ _ _ _ _. pend y r)
      (λ v h ne hv hh. place_apart H v w h i hh hi ne) (λ _ _ _. refl) (record {
        kept = λ h b z.
            let k = (c w).kept h b z in
            let ne : h ≢ i = λ j. let g : x.shows w h ≡ None = subst (λ m. x.shows w m ≡ None) (sym j) ((c w).hides i busy_i) in let f : ◌≡◌ {A = ℕ} 0 1 = cc in omega arith in
            let a = else h ne in
            let se = same_era (w * H + h) a in
            let le = k.3 in (
              hw,
              k.1,
              ap is_off (same_list (w * H + h) a) ∙ k.2,
              omega arith,
              quiet_keeps W H F E s x c fine w hw t (upd s.list q l) (upd x.era q e) x.shows (λ r. r ≢ q) same_list same_era (λ r b y _ _ _ _ _ _ _ _. pend y r) (w * H + h) b a (place_lt W H w h hw k.1) k.4,
            );
        read = λ h j b _ _ z. absurd (no_read h j b (sym now ∙ z));
        off = λ h _ hh o past. elim (ℕ_discrete h i) [
          | yes j ↦ at_place h j o past
          | no ne ↦
              (let a = else h ne in
              let z = there h ne in
              let p = (c w).off h hw hh (sym (ap is_off (same_list (w * H + h) a)) ∙ o) z.0 in
              (same_era (w * H + h) a ∙ p.0, ap (λ u. past_on u h) now ∙ z.1))
        ];
        hides = λ h z. (c w).hides h (busy h (sym (ap (λ u. busy_with u h) now) ∙ z));
        visits = λ p b n y _ z own. absurd (no_visit p b n (sym now ∙ z));
        least = λ y _ own. (c w).least y hw own;
      })
    where
      at_place : (h : ℕ) → h ≡ i → is_off (upd s.list (w * H + i) l (w * H + h)) ≡ true → past_off (upd s.task w t w) h ≡ false → (upd x.era (w * H + i) e (w * H + h) ≡ 0) × (past_on (upd s.task w t w) h ≡ false)
      at_place h j o past =
          let now = upd_same s.task w t in
          let el : upd s.list (w * H + i) l (w * H + h) ≡ l = ap (λ m. upd s.list (w * H + i) l (w * H + m)) j ∙ upd_same s.list (w * H + i) l in
          let ee : upd x.era (w * H + i) e (w * H + h) ≡ e = ap (λ m. upd x.era (w * H + i) e (w * H + m)) j ∙ upd_same x.era (w * H + i) e in
          let q = here (sym (ap is_off el) ∙ o) (sym (ap (λ u. past_off u i) now) ∙ sym (ap (λ m. past_off (upd s.task w t w) m) j) ∙ past) in
          (ee ∙ q.0, ap (λ m. past_on (upd s.task w t w) m) j ∙ ap (λ u. past_on u i) now ∙ q.1)

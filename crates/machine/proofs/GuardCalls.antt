-- That every call but the turn keeps protection.
use Rattle.std.proofs.Common.{◌≡◌, ℕ, ◌<◌, Bool, true, ◌&&◌, ltb, List, length, get_or, set, replicate, Some, None, Option, sym, refl, ap, ◌∙◌, subst, subst₂, inl, arith}
use native.Mathlib.Decide.{ℕ_discrete}
use Rattle.std.proofs.lemmas.Bool.Decides.{nat_tests}
use Rattle.std.proofs.lemmas.Bool.{false≢true}
use Rattle.std.proofs.lemmas.List.{get_or-set_same, get_or-set_other}
use Rattle.figures.specs.Limits.{Fit}
use Rattle.figures.specs.declared.limits.Form.{Form}
use Rattle.machine.specs.declared.states.Batch.{Batch}
use Rattle.machine.specs.declared.states.Standing.TheVariants.{Live}
use Rattle.machine.specs.declared.states.Task.{Task}
use Rattle.machine.specs.declared.states.Task.TheVariants.{Idle, TakeEra, LookCell, DropList, TryVisit}
use Rattle.machine.specs.declared.states.Worker.{Worker}
use Rattle.machine.specs.declared.states.Core.{Core}
use Rattle.machine.specs.State.{block, worker, with_worker}
use Rattle.machine.specs.Moves.{Move, drawn, gained_all}
use Rattle.machine.specs.Eras.{InOrder}
use Rattle.machine.specs.Looking.{with_shown}
use Rattle.machine.specs.Calls.{is_worker, is_hold, is_cell, is_block, free_checks, take, look_checks, look, drop, joined, newest_of, first_count, try_due, with_batch, retired, retiring, retire_checks, retire, relink_checks, relink}
use Rattle.machine.proofs.Passing.{by_test, both_left, both_right, checked_keeps}
use Rattle.machine.proofs.Stores.{replicate_all}
use Rattle.machine.proofs.Sums.{upd}
use Rattle.machine.proofs.Mirror.{St, view, rebatch}
use Rattle.machine.proofs.Sound.{Gh, Sound}
use Rattle.machine.proofs.Bridge.{Sized, sized_retired, view_task, view_shown, view_worker_task, view_batch, view_retired, view_relinked}
use Rattle.machine.proofs.StepsSound.{reservations, Good, few_workers, few_blocks}
use Rattle.machine.proofs.CallsSound.{idle_is, live_is}
use Rattle.machine.proofs.Guards.{extra, steps, Pends, past_off, Guard}
use Rattle.machine.proofs.GuardMirror.{extra_worker, extra_task, extra_retired, extra_relinked, shows_else, shows_own}
use Rattle.machine.proofs.GuardTasks.{map_guard, shows_guard, task_guard}
use Rattle.machine.proofs.GuardTries.{Tries, visit_tries}
use Rattle.machine.proofs.GuardRetires.{after_retire, retire_guard}

-- the newest block of a batch that a block has joined
joined_newest : (v : Option Batch) (b e : ℕ) → (joined v b e).newest ≡ b
joined_newest None b e = refl
joined_newest (Some y) b e = refl

module _ (form : Form) (fit : Fit form) (k : Core) (inside : List Bool) (n : ℕ) (sz : Sized k) (long : length inside ≡ form.blocks) (o : InOrder form 1 k) (g : Gh)
    (c : Sound form.blocks (reservations form) form.workers (view k inside) g) (w : ℕ)
    (room : w < form.workers → length (worker k w).shows ≡ 4) (F E : ℕ → Type 0) (gd : Guard form.workers form.holds F (view k inside) (extra k)) (fine : (b : ℕ) → F b → E b) where
  abbrev W : ℕ
  W = form.workers

  abbrev H : ℕ
  H = form.holds

  abbrev s : St
  s = view k inside

  -- the numbers in after a move
  abbrev then_in : Move → List Bool
  then_in m = gained_all (drawn m.taken inside n) m.given

  -- a move keeps protection
  abbrev Guards : Move → Type 0
  Guards m = Good form m.core (then_in m) → Guard W H E (view m.core (then_in m)) (extra m.core)

  unmoved : Guard W H E s (extra k)
  unmoved = map_guard W H F E s (extra k) gd fine

  there : is_worker k w ≡ true → w < W
  there e = let lt : w < k.form.workers = grind (arith, nat_tests) in subst (λ (f : Form). w < f.workers) o.same_form lt

  hold_there : (h : ℕ) → is_hold k h ≡ true → h < H
  hold_there h e = let lt : h < k.form.holds = grind (arith, nat_tests) in subst (λ (f : Form). h < f.holds) o.same_form lt

  pub take_guards : Guards (take k w)
  take_guards = checked_keeps Guards k (free_checks k w) _ (λ _ _. unmoved)
      (λ p _.
      let hw = there p.0 in
      let te = idle_is _ p.1.0 in
      subst₂ (λ a b. Guard W H E a b) (sym (view_task k inside w TakeEra sz (few_workers form fit w hw))) (sym (extra_task k w TakeEra))
      (task_guard W H F E s (extra k) gd fine w hw TakeEra (λ _ _ _ _ _ _ _ _ _ _. tt) (λ h i b _ e. let z : ◌≡◌ {A = ℕ} 0 1 = cc in absurd (omega arith))
      (λ h hh off _. (((gd w).off h hw hh off (ap (λ u. past_off u h) te)).0, refl)) (λ h e. absurd (false≢true e)) (λ q b m y e _. let z : ◌≡◌ {A = ℕ} 0 1 = cc in absurd (omega arith))))

  pub look_guards : (h x : ℕ) → Guards (look k w h x)
  look_guards h x = checked_keeps Guards k (look_checks k w h x) _ (λ _ _. unmoved)
      (λ p _.
      let hw = there (both_left (is_worker k w) (is_hold k h) (both_left (is_worker k w && is_hold k h) (is_cell k x) p.0)) in
      let hh = hold_there h (both_right (is_worker k w) (is_hold k h) (both_left (is_worker k w && is_hold k h) (is_cell k x) p.0)) in
      let te = idle_is _ p.1.0 in
      let w8 = few_workers form fit w hw in
      let own : (i : ℕ) → (extra (with_shown k w h None (LookCell h x))).shows w i ≡ get_or (set (worker k w).shows h None) i None = λ i. shows_own k w _ i sz w8 in
      subst (λ a. Guard W H E a (extra (with_shown k w h None (LookCell h x)))) (sym (view_shown k inside w h None (LookCell h x) sz w8))
      (shows_guard W H F E s (extra k) gd fine w hw (LookCell h x) (extra (with_shown k w h None (LookCell h x))).shows (λ v i ne. shows_else k w _ v i ne) (λ _ _ _ _ _ _ _ _ _ _. tt)
      (λ i b z. elim (ℕ_discrete i h) [
        | yes j ↦ absurd (let q = subst (λ m. get_or (set (worker k w).shows h None) m None ≡ Some b) j (sym (own i) ∙ z) in let r = get_or-set_same (worker k w).shows h None None (four h hw hh) in let y : ◌≡◌ {A = ℕ} 0 1 = cc in omega arith)
        | no ne ↦ (let q = (gd w).kept i b (sym (get_or-set_other (worker k w).shows h i None None ne) ∙ sym (own i) ∙ z) in (q.1, q.2, q.3, q.4))
      ])
      (λ i j b _ e. let z : ◌≡◌ {A = ℕ} 0 1 = cc in absurd (omega arith))
      (λ i hi off _. (((gd w).off i hw hi off (ap (λ u. past_off u i) te)).0, refl))
      (λ i e. let j : h ≡ i = grind (arith, nat_tests) in own i ∙ subst (λ m. get_or (set (worker k w).shows h None) m None ≡ None) j (get_or-set_same (worker k w).shows h None None (four h hw hh)))
      (λ q b m y e _. let z : ◌≡◌ {A = ℕ} 0 1 = cc in absurd (omega arith))))
    where
      four : (h : ℕ) → w < W → h < H → h < length (worker k w).shows
      four h hw hh = let l = room hw in let m = fit.1.1 in omega arith

  pub drop_guards : Guards (drop k w)
  drop_guards = checked_keeps Guards k (free_checks k w) _ (λ _ _. unmoved)
      (λ p _.
      let hw = there p.0 in
      let te = idle_is _ p.1.0 in
      let w8 = few_workers form fit w hw in
      let y : Worker = record { takings = (worker k w).takings; task = DropList 0; batch = (worker k w).batch; shows = replicate 4 None } in
      let own : (i : ℕ) → (extra (with_worker k w y)).shows w i ≡ None = λ i. shows_own k w y i sz w8 ∙ replicate_all (λ v. v ≡ None) None None 4 refl refl i in
      subst (λ a. Guard W H E a (extra (with_worker k w y))) (sym (view_worker_task k inside w y sz w8 refl))
      (shows_guard W H F E s (extra k) gd fine w hw (DropList 0) (extra (with_worker k w y)).shows (λ v i ne. shows_else k w y v i ne) (λ _ _ _ _ _ _ _ _ _ _. tt)
      (λ i b z. let q = own i in let f : ◌≡◌ {A = ℕ} 0 1 = cc in absurd (omega arith))
      (λ i j b _ e. let z : ◌≡◌ {A = ℕ} 0 1 = cc in absurd (omega arith))
      (λ i hi off _. (((gd w).off i hw hi off (ap (λ u. past_off u i) te)).0, refl))
      (λ i _. own i)
      (λ q b m z e _. let f : ◌≡◌ {A = ℕ} 0 1 = cc in absurd (omega arith))))

  pub relink_guards : (x : ℕ) (expected new : Option ℕ) → Guards (relink k w x expected new)
  relink_guards x expected new = checked_keeps Guards k (relink_checks k w x expected new) _ (λ _ _. unmoved)
      (λ p _. subst₂ (λ a b. Guard W H E a b) (sym (view_relinked k inside w x new)) (sym (extra_relinked k w x new)) unmoved)

  -- a block that is retired
  module _ (hw : w < W) (te : (worker k w).task ≡ Idle) (b : ℕ) (hb : b < form.blocks) (lives : (block k b).standing ≡ Live) where
    abbrev y : Batch
    y = joined (worker k w).batch b (block k b).birth

    idle_tries : Tries Idle
    idle_tries = (λ h. (refl, refl, refl), λ h i z e. let f : ◌≡◌ {A = ℕ} 0 1 = cc in omega arith)

    joins : (t : Task) → Tries t → ((r : ℕ) → Pends (upd s.elder b (newest_of (worker k w).batch)) (extra k).slot y.newest t r)
        → ((p d m : ℕ) → t ≡ TryVisit p d m → steps (upd s.elder b (newest_of (worker k w).batch)) m (Some y.newest) ≡ Some d)
        → Good form (with_batch (retired k w b y) w y t) inside → Guard W H E (view (with_batch (retired k w b y) w y t) inside) (extra (with_batch (retired k w b y) w y t))
    joins t tries all visits good =
        let same : view (with_batch (retired k w b y) w y t) inside ≡ after_retire form.blocks W H F E s g (extra k) c gd fine w hw te b lives t (newest_of (worker k w).batch) (first_count (worker k w).batch (block k b).count) tries =
        view_batch (retired k w b y) inside w y t (sized_retired k w b y sz) (few_workers form fit w hw) ∙ ap (λ a. rebatch a w t (Some y)) (view_retired k inside w b y sz (omega (arith, few_blocks form fit))) in
        subst₂ (λ a b. Guard W H E a b) (sym same) (sym (extra_worker (retired k w b y) w _ refl ∙ extra_retired k w b y))
        (retire_guard form.blocks W H F E s g (extra k) c gd fine w hw te b lives t (newest_of (worker k w).batch) (first_count (worker k w).batch (block k b).count) tries
        good.2 (subst (λ a. Sound form.blocks (reservations form) W a good.2) same good.3) all visits)

    retiring_guards : Guards (retiring k w b y)
    retiring_guards = by_test Guards (try_due k y) _ _
        (λ _. joins (TryVisit 0 b 0) (visit_tries 0 b 0) (λ r. inl (omega arith))
        (λ p d m e.
        let i : m ≡ 0 = cc in
        let j : b ≡ d = cc in
        subst (λ u. steps (upd s.elder b (newest_of (worker k w).batch)) u (Some y.newest) ≡ Some d) (sym i) (ap (λ u. Some u) (joined_newest (worker k w).batch b (block k b).birth ∙ j))))
        (λ _. joins Idle idle_tries (λ _. tt) (λ p d m e. let z : ◌≡◌ {A = ℕ} 0 1 = cc in absurd (omega arith)))

  pub retire_guards : (b : ℕ) → Guards (retire k w b)
  retire_guards b = checked_keeps Guards k (retire_checks k w b) _ (λ _ _. unmoved)
      (λ p.
      let hw = there (both_left (is_worker k w) (is_block k b) p.0) in
      let here : ltb b k.form.blocks ≡ true = both_right (is_worker k w) (is_block k b) p.0 in
      let lt : b < k.form.blocks = grind (arith, nat_tests) in
      retiring_guards hw (idle_is _ p.1.0) b (subst (λ (f : Form). b < f.blocks) o.same_form lt) (live_is _ p.1.1.1.0))

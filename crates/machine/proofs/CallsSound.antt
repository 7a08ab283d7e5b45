-- That every call keeps batches, lists, walks and counts sound.
use Rattle.std.proofs.Common.{◌≡◌, ℕ, ◌<◌, Bool, true, ◌&&◌, eqb, ltb, List, [], ◌∷◌, length, Some, None, Option, sym, refl, ap, ◌∙◌, subst, arith}
use Rattle.std.proofs.lemmas.Bool.Decides.{nat_tests}
use Rattle.figures.specs.Limits.{Fit}
use Rattle.figures.specs.declared.limits.Form.{Form}
use Rattle.machine.specs.declared.states.Batch.{Batch}
use Rattle.machine.specs.declared.states.Standing.{Standing}
use Rattle.machine.specs.declared.states.Standing.TheVariants.{Pooled, Live, Retired}
use Rattle.machine.specs.declared.states.Task.{Task}
use Rattle.machine.specs.declared.states.Task.TheVariants.{Idle, TakeEra, TakeBlock, LookCell, LookEra, LookList, LookWalk, LookAgain, LookWrite, DropList, DropWalk, DropEra, TryVisit, TryHang, TryLast}
use Rattle.machine.specs.declared.states.Core.{Core}
use Rattle.machine.specs.State.{is_live, block, worker}
use Rattle.machine.specs.Account.{is_retired}
use Rattle.machine.specs.Eras.{InOrder}
use Rattle.machine.specs.Turns.{is_idle}
use Rattle.machine.specs.Calls.{is_worker, is_hold, is_cell, is_block, free_checks, take, look_checks, look, drop, joined, newest_of, first_count, try_due, with_batch, retired, retiring, retire_checks, retire, relink_checks, relink}
use Rattle.machine.proofs.Passing.{by_test, both_left, both_right, checked_keeps}
use Rattle.machine.proofs.Sums.{upd, tot, mark, is, upd_same}
use Rattle.machine.proofs.Chains.{Chain, Ends, chain_upd, ends_more}
use Rattle.machine.proofs.Mirror.{view, retask, rebatch, join}
use Rattle.machine.proofs.Sound.{Gh, Sound, Own, TaskRight, Alive, next, hung_of}
use Rattle.machine.proofs.Sound as sound
use Rattle.machine.proofs.Bridge.{Sized, sized_task, sized_shown, sized_worker, sized_batch, sized_retired, sized_relinked, view_task, view_shown, view_worker_task, view_batch, view_retired, view_relinked}
use Rattle.machine.proofs.JoinKept.{first_kept, more_kept}
use Rattle.machine.proofs.StepsSound.{reservations, Good, Leaves, few_workers, few_blocks, place_below, seen_as, retasks}

-- a worker that has no task is idle
pub idle_is : (t : Task) → is_idle t ≡ true → t ≡ Idle
idle_is Idle e = refl
idle_is TakeEra e = cc
idle_is TakeBlock e = cc
idle_is (LookCell h c) e = cc
idle_is (LookEra h c seen) e = cc
idle_is (LookList h c n) e = cc
idle_is (LookWalk h c b) e = cc
idle_is (LookAgain h c) e = cc
idle_is (LookWrite h c n) e = cc
idle_is (DropList h) e = cc
idle_is (DropWalk h b) e = cc
idle_is (DropEra h) e = cc
idle_is (TryVisit r b aside) e = cc
idle_is (TryHang b left hung) e = cc
idle_is (TryLast hung) e = cc

pub live_is : (x : Standing) → is_live x ≡ true → x ≡ Live
live_is Pooled e = cc
live_is Live e = refl
live_is Retired e = cc

module _ (form : Form) (fit : Fit form) (k : Core) (inside : List Bool) (n : ℕ) (sz : Sized k) (long : length inside ≡ form.blocks) (o : InOrder form 0 k) (g : Gh)
    (c : Sound form.blocks (reservations form) form.workers (view k inside) g) (al : Alive (view k inside)) (w : ℕ) where
  same : Good form k inside
  same = (sz, long, g, c, al)

  there : is_worker k w ≡ true → w < form.workers
  there e = let lt : w < k.form.workers = grind (arith, nat_tests) in subst (λ (f : Form). w < f.workers) o.same_form lt

  -- a task begins
  begins : (k' : Core) (t : Task) → w < form.workers → (worker k w).task ≡ Idle → Sized k' → view k' inside ≡ retask (view k inside) w t → next t ≡ None → ((ms rs : List ℕ) → sound.due t ms rs ≡ ms) → hung_of t ≡ 0
      → TaskRight (reservations form) (λ b. (block k b).elder) g.members (worker k w).batch (g.rest w) t → Good form k' inside
  begins k' t hw e sz' ev no_Walk plain none_hung right = retasks form fit k inside sz long o.same_form g c al w hw k' t Idle e sz' ev no_Walk plain none_hung right

  pub take_sound : Leaves form inside n (take k w)
  take_sound = checked_keeps (Leaves form inside n) k (free_checks k w) _ (λ _. same)
      (λ p. let hw = there p.0 in begins _ TakeEra hw (idle_is _ p.1.0) (sized_task k w TakeEra sz) (view_task k inside w TakeEra sz (few_workers form fit w hw)) refl (λ _ _. refl) refl tt)

  pub look_sound : (h x : ℕ) → Leaves form inside n (look k w h x)
  look_sound h x = checked_keeps (Leaves form inside n) k (look_checks k w h x) _ (λ _. same)
      (λ p.
      let hw = there (both_left (is_worker k w) (is_hold k h) (both_left (is_worker k w && is_hold k h) (is_cell k x) p.0)) in
      begins _ (LookCell h x) hw (idle_is _ p.1.0) (sized_shown k w h None (LookCell h x) sz) (view_shown k inside w h None (LookCell h x) sz (few_workers form fit w hw)) refl (λ _ _. refl) refl tt)

  pub drop_sound : Leaves form inside n (drop k w)
  drop_sound = checked_keeps (Leaves form inside n) k (free_checks k w) _ (λ _. same)
      (λ p. let hw = there p.0 in begins _ (DropList 0) hw (idle_is _ p.1.0) (sized_worker k w _ sz) (view_worker_task k inside w _ sz (few_workers form fit w hw) refl) refl (λ _ _. refl) refl tt)

  pub relink_sound : (x : ℕ) (expected new : Option ℕ) → Leaves form inside n (relink k w x expected new)
  relink_sound x expected new = checked_keeps (Leaves form inside n) k (relink_checks k w x expected new) _ (λ _. same)
      (λ p.
      let v = view_relinked k inside w x new in
      (sized_relinked k w x new sz, long, g, subst (λ s. Sound form.blocks (reservations form) form.workers s g) (sym v) c, subst Alive (sym v) al))

  -- a block that is retired
  module _ (hw : w < form.workers) (idle : (worker k w).task ≡ Idle) (b : ℕ) (hb : b < form.blocks) (lives : (block k b).standing ≡ Live) where
    some_places : 0 < reservations form
    some_places = let p = place_below form fit w 0 hw fit.1.0 in omega arith

    b_below : b < 2048
    b_below = omega (arith, few_blocks form fit)

    abbrev x : Batch
    x = joined (worker k w).batch b (block k b).birth

    seen : (t : Task) → view (with_batch (retired k w b x) w x t) inside ≡ rebatch (join (view k inside) b x.lead (newest_of (worker k w).batch) (first_count (worker k w).batch (block k b).count)) w t (Some x)
    seen t = view_batch (retired k w b x) inside w x t (sized_retired k w b x sz) (few_workers form fit w hw) ∙ ap (λ s. rebatch s w t (Some x)) (view_retired k inside w b x sz b_below)

    joins : (t : Task) → next t ≡ None → hung_of t ≡ 0 → ((ms rest : List ℕ) → sound.due t ms rest ≡ ms)
        → ((elder : ℕ → Option ℕ) (members : ℕ → List ℕ) (y : Batch) (ms : List ℕ) → Chain elder (Some b) ms → Ends y.lead ms → members y.lead ≡ ms → (rs : List ℕ) × TaskRight (reservations form) elder members (Some y) rs t)
        → (o : Option Batch) → (worker k w).batch ≡ o → Good form (with_batch (retired k w b x) w x t) inside
    joins t no_Walk none_hung plain right None oe =
        let lead : x.lead ≡ b = ap (λ y. (joined y b (block k b).birth).lead) oe in
        let newest : x.newest ≡ b = ap (λ y. (joined y b (block k b).birth).newest) oe in
        let r = right (upd (λ y. (block k y).elder) b None) (upd g.members b (b ∷ [])) x (b ∷ []) (refl, upd_same (λ y. (block k y).elder) b None) (sym lead) (ap (upd g.members b (b ∷ [])) lead ∙ upd_same g.members b (b ∷ [])) in
        let kept = first_kept _ _ _ (view k inside) g c w b x t r.0 hw idle lives hb oe lead newest no_Walk none_hung plain r.1 in
        seen_as form fit k inside sz long o.same_form g c al w hw _ _ (sized_batch _ w x t (sized_retired k w b x sz))
        (seen t ∙ ap (λ y. rebatch (join (view k inside) b x.lead (newest_of y) (first_count y (block k b).count)) w t (Some x)) oe ∙ ap (λ l. rebatch (join (view k inside) b l None 1024) w t (Some x)) lead) _ kept.0 (kept.1 al)
    joins t no_Walk none_hung plain right (Some y) oe =
        let lead : x.lead ≡ y.lead = ap (λ z. (joined z b (block k b).birth).lead) oe in
        let newest : x.newest ≡ b = ap (λ z. (joined z b (block k b).birth).newest) oe in
        let own = subst (Own (view k inside) g) oe (c.own w hw) in
        let ms : List ℕ = g.members y.lead in
        let out : tot (is b) ms ≡ 0 = c.members_are b y.lead ∙ ap (λ z. mark (is_retired z && eqb (block k b).lead y.lead)) lives in
        let elder : ℕ → Option ℕ = upd (λ z. (block k z).elder) b (Some y.newest) in
        let chain : Chain elder (elder b) ms = rw (upd_same (λ z. (block k z).elder) b (Some y.newest)) (chain_upd (λ z. (block k z).elder) b (Some y.newest) (Some y.newest) ms out own.1) in
        let ends : Ends x.lead (b ∷ ms) = subst (λ l. Ends l (b ∷ ms)) (sym lead) (ends_more y.lead b ms (c.ends_with y.lead own.0)) in
        let r = right elder (upd g.members y.lead (b ∷ ms)) x (b ∷ ms) (refl, chain) ends (ap (upd g.members y.lead (b ∷ ms)) lead ∙ upd_same g.members y.lead (b ∷ ms)) in
        let kept = more_kept _ _ _ (view k inside) g c w b y x t r.0 hw idle lives hb oe lead newest no_Walk none_hung plain r.1 in
        seen_as form fit k inside sz long o.same_form g c al w hw _ _ (sized_batch _ w x t (sized_retired k w b x sz))
        (seen t ∙ ap (λ z. rebatch (join (view k inside) b x.lead (newest_of z) (first_count z (block k b).count)) w t (Some x)) oe ∙ ap (λ l. rebatch (join (view k inside) b l (Some y.newest) (block k b).count) w t (Some x)) lead) _ kept.0 (kept.1 al)

    retiring_sound : Leaves form inside n (retiring k w b x)
    retiring_sound = by_test (Leaves form inside n) (try_due k x) _ _
        (λ _. joins (TryVisit 0 b 0) refl refl (λ _ _. refl)
        (λ elder members y ms chain ends e. (ms, (y, refl, some_places, omega arith, chain, ends, (let q = ap length e in omega arith), λ z. let q = ap (tot (is z)) e in omega arith))) (worker k w).batch refl)
        (λ _. joins Idle refl refl (λ _ _. refl) (λ elder members y ms chain ends e. ([], tt)) (worker k w).batch refl)

  pub retire_sound : (b : ℕ) → Leaves form inside n (retire k w b)
  retire_sound b = checked_keeps (Leaves form inside n) k (retire_checks k w b) _ (λ _. same)
      (λ p.
      let hw = there (both_left (is_worker k w) (is_block k b) p.0) in
      let here : ltb b k.form.blocks ≡ true = both_right (is_worker k w) (is_block k b) p.0 in
      let lt : b < k.form.blocks = grind (arith, nat_tests) in
      retiring_sound hw (idle_is _ p.1.0) b (subst (λ (f : Form). b < f.blocks) o.same_form lt) (live_is _ p.1.1.1.0))

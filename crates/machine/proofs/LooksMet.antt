-- That a look answers what its cell named at a turn of it: step by step.
use Rattle.std.proofs.Common.{◌≡◌, ℕ, ◌+◌, ◌<◌, true, false, cond, ◌&&◌, ◌||◌, eqb, ltb, ◌≢◌, List, [], length, get_or, set, Some, None, Ok, Err, Option, Result, sym, refl, ap, ◌∙◌, subst, arith}
use native.Mathlib.Decide.{ℕ_discrete}
use Rattle.std.proofs.lemmas.Bool.Decides.{nat_tests}
use Rattle.std.proofs.lemmas.Bool.{false≢true, and_from, or_right}
use Rattle.std.proofs.lemmas.List.{get_or-set_same, get_or-set_other}
use Rattle.pools.specs.Counts.{tally}
use Rattle.pools.specs.declared.PoolFault.{PoolFault}
use Rattle.pools.specs.declared.PoolFault.TheVariants.{NoneIn}
use Rattle.machine.specs.declared.refusals.Refusal.{Refusal}
use Rattle.machine.specs.declared.refusals.Refusal.TheVariants.{Withdrawn, Full, Dry, EraSpent}
use Rattle.machine.specs.declared.states.Batch.{Batch}
use Rattle.machine.specs.declared.states.HungList.{HungList}
use Rattle.machine.specs.declared.states.HungList.TheVariants.{Off, Empty, Newest}
use Rattle.machine.specs.declared.states.Task.{Task}
use Rattle.machine.specs.declared.states.Task.TheVariants.{Idle, TakeEra, TakeBlock, LookCell, LookEra, LookList, LookWalk, LookAgain, LookWrite, DropList, DropWalk, DropEra, TryVisit, TryHang, TryLast}
use Rattle.machine.specs.declared.states.Worker.{Worker}
use Rattle.machine.specs.declared.states.Core.{Core}
use Rattle.machine.specs.State.{block, worker, reservation, blank_worker, with_era, with_block, with_worker, idle}
use Rattle.machine.specs.Cells.{home, held, same_content}
use Rattle.machine.specs.Moves.{Move, drawn, gain, counted}
use Rattle.machine.specs.Machine.{State, Reply, told}
use Rattle.machine.specs.Linking.{LinkedRight}
use Rattle.machine.specs.Taking.{take_era, took}
use Rattle.machine.specs.Walking.{all_pooled, due, count_down, handled}
use Rattle.machine.specs.Looking.{readable, own_reservation, with_list, with_own_era, look_cell, look_era, look_list, look_on}
use Rattle.machine.specs.Dropping.{drop_task, drop_on, drop_era}
use Rattle.machine.specs.Trying.{places, visited, passed_over, block_after, with_slot, try_visit, hanged, hang_on, hung_at, try_hang, settled, try_last}
use Rattle.machine.specs.Turns.{step}
use Rattle.machine.specs.Calls.{or_none}
use Rattle.machine.specs.Account.{looking, Account, doing_of, Agrees}
use Rattle.machine.specs.LookAnswers.{Looks, names_now, turned, is_looking, AnswersMet}
use Rattle.machine.proofs.Passing.{by_test}
use Rattle.machine.proofs.Doings.{put_here, put_there, all_pooled_workers}
use Rattle.machine.proofs.GuardTurns.{held_named}

-- what the account has of a worker with this task
abbrev pub LooksAt : Looks → ℕ → Task → Type 0
LooksAt l w Idle = Unit {0}
LooksAt l w TakeEra = Unit {0}
LooksAt l w TakeBlock = Unit {0}
LooksAt l w (LookCell h c) = l.cell w ≡ c
LooksAt l w (LookEra h c v) = (l.cell w ≡ c) × (l.met w v ≡ true)
LooksAt l w (LookList h c e) = l.cell w ≡ c
LooksAt l w (LookWalk h c b) = l.cell w ≡ c
LooksAt l w (LookAgain h c) = l.cell w ≡ c
LooksAt l w (LookWrite h c e) = l.cell w ≡ c
LooksAt l w (DropList h) = Unit {0}
LooksAt l w (DropWalk h b) = Unit {0}
LooksAt l w (DropEra h) = Unit {0}
LooksAt l w (TryVisit r b aside) = Unit {0}
LooksAt l w (TryHang b left hung) = Unit {0}
LooksAt l w (TryLast hung) = Unit {0}

-- another account with the same of the worker
pub looks_same : (l m : Looks) (w : ℕ) → m.cell w ≡ l.cell w → m.met w ≡ l.met w → (t : Task) → LooksAt l w t → LooksAt m w t
looks_same l m w p q Idle h = tt
looks_same l m w p q TakeEra h = tt
looks_same l m w p q TakeBlock h = tt
looks_same l m w p q (LookCell i c) h = p ∙ h
looks_same l m w p q (LookEra i c v) h = (p ∙ h.0, ap (λ f. f v) q ∙ h.1)
looks_same l m w p q (LookList i c e) h = p ∙ h
looks_same l m w p q (LookWalk i c b) h = p ∙ h
looks_same l m w p q (LookAgain i c) h = p ∙ h
looks_same l m w p q (LookWrite i c e) h = p ∙ h
looks_same l m w p q (DropList i) h = tt
looks_same l m w p q (DropWalk i b) h = tt
looks_same l m w p q (DropEra i) h = tt
looks_same l m w p q (TryVisit r b n) h = tt
looks_same l m w p q (TryHang b n i) h = tt
looks_same l m w p q (TryLast i) h = tt

same_self : (v : Option ℕ) → same_content v v ≡ true
same_self None = refl
same_self (Some b) = grind (arith, nat_tests)

module _ {R : Type 0} (s : State R) (a : Account) (l : Looks) (n w : ℕ) (ag : Agrees a s.core) (lk : LinkedRight s.core) (right : (v : ℕ) → LooksAt l v (worker s.core v).task) (lw : w < length s.core.workers) where
  abbrev k : Core
  k = s.core

  -- the account once the turn is done
  abbrev then_looks : Looks
  then_looks = cond (is_looking (a.doing w)) (turned l a k w) l

  abbrev reply : Move → Reply R
  reply m = told w (counted m.answer (gain (drawn m.taken s.inside n) m.given))

  abbrev pub Met : Move → Type 0
  Met m = ((v : ℕ) → LooksAt then_looks v (worker m.core v).task) × AnswersMet l w (a.doing w) (reply m)

  -- the other workers look as before
  others : (v : ℕ) → v ≢ w → (t : Task) → LooksAt l v t → LooksAt then_looks v t
  others v ne t h = by_test (λ m. LooksAt m v t) (is_looking (a.doing w)) (turned l a k w) l
      (λ _. looks_same l (turned l a k w) v refl (put_there l.met w (λ u. l.met w u || names_now a k (l.cell w) u) v ne) t h)
      (λ _. h)

  -- worker w has another task
  moved : (j : Core) (y : Worker) → j.workers ≡ k.workers → LooksAt then_looks w y.task → (v : ℕ) → LooksAt then_looks v (worker (with_worker j w y) v).task
  moved j y ws h v = subst (λ us. LooksAt then_looks v (get_or (set us w y) v blank_worker).task) (sym ws) (elim (ℕ_discrete v w) [
    | yes i ↦ subst (λ z. LooksAt then_looks z (get_or (set k.workers w y) z blank_worker).task) (sym i) (subst (λ (u : Worker). LooksAt then_looks w u.task) (sym (get_or-set_same k.workers w y blank_worker lw)) h)
    | no ne ↦ subst (λ (u : Worker). LooksAt then_looks v u.task) (sym (get_or-set_other k.workers w v y blank_worker ne)) (others v ne (worker k v).task (right v))
  ])

  goes : (j : Core) (y : Worker) (back : List ℕ) → j.workers ≡ k.workers → LooksAt then_looks w y.task → Met (record { core = with_worker j w y; taken = false; given = back; answer = Ok (true, None) })
  goes j y back ws h = (moved j y ws h, λ _ e. absurd (false≢true (sym e)))

  fails : (r : Refusal) → Met (record { core = idle k w; taken = false; given = []; answer = Err r })
  fails r = (moved k _ refl tt, tt)

  take_era_met : Met (take_era k w)
  take_era_met =
      by_test Met (eqb (worker k w).takings 0) _ _
      (λ _. by_test Met (eqb k.era 4294967295) _ _ (λ _. fails EraSpent) (λ _. goes (with_era k (k.era + 1)) _ [] refl tt))
      (λ _. goes k _ [] refl tt)

  handled_met : (b : ℕ) (t : Task) → LooksAt then_looks w t → Met (handled k w b t)
  handled_met b t h =
      let back = due (count_down k (block k b).lead) (block k b).lead in
      goes (all_pooled (count_down k (block k b).lead) back) _ back (all_pooled_workers back (count_down k (block k b).lead)) h

  -- a task that is no look
  module _ (no_look : is_looking (a.doing w) ≡ false) where
    not_met : (x : Reply R) → AnswersMet l w (a.doing w) x
    not_met (Ok x) = λ e _. absurd (false≢true (sym no_look ∙ e))
    not_met (Err f) = tt

    stops : (j : Core) (y : Worker) (back : List ℕ) → j.workers ≡ k.workers → LooksAt then_looks w y.task → Met (record { core = with_worker j w y; taken = false; given = back; answer = Ok (false, None) })
    stops j y back ws h = (moved j y ws h, λ e _. absurd (false≢true (sym no_look ∙ e)))

    took_met : Met (took k w (Ok n))
    took_met = (moved k _ refl tt, not_met (reply (took k w (Ok n))))

    drop_task_met : (h : ℕ) (q : HungList) → LooksAt then_looks w (drop_task h q)
    drop_task_met h Off = tt
    drop_task_met h Empty = tt
    drop_task_met h (Newest b) = tt

    drop_on_met : (h : ℕ) (v : Option ℕ) → LooksAt then_looks w (drop_on h v)
    drop_on_met h None = tt
    drop_on_met h (Some b) = tt

    drop_era_met : (h : ℕ) → Met (drop_era k w h)
    drop_era_met h = by_test Met (ltb (h + 1) k.form.holds) _ _ (λ _. goes (with_own_era k w h 0) _ [] refl tt) (λ _. stops (with_own_era k w h 0) _ [] refl tt)

    visited_met : (y : Batch) (r b m : ℕ) → LooksAt then_looks w (visited k y r b m)
    visited_met y r b m = by_test (LooksAt then_looks w) (ltb (r + 1) (places k)) _ _ (λ _. tt) (λ _. by_test (LooksAt then_looks w) (eqb m 0) _ _ (λ _. tt) (λ _. tt))

    hanged_met : (y : Batch) (b left hung : ℕ) → LooksAt then_looks w (hanged k y b left hung)
    hanged_met y b left hung = by_test (LooksAt then_looks w) (ltb 1 left) _ _ (λ _. tt) (λ _. tt)

    try_visit_met : (r b m : ℕ) (v : Option Batch) → Met (try_visit k w r b m v)
    try_visit_met r b m None = stops k _ [] refl tt
    try_visit_met r b m (Some y) =
        by_test Met (passed_over (reservation k r) y.least) _ _
        (λ _. goes k _ [] refl (visited_met y r b m))
        (λ _. by_test Met (eqb b y.lead) _ _ (λ _. stops k _ [] refl tt) (λ _. goes (with_block k b (with_slot (block k b) r)) _ [] refl (visited_met y r (block_after k y b) (m + 1))))

    hang_on_met : (y : Batch) (b left hung : ℕ) (q : HungList) → Met (hang_on k w y b left hung q)
    hang_on_met y b left hung Off = goes k _ [] refl (hanged_met y b left hung)
    hang_on_met y b left hung Empty = goes (hung_at k (block k b).slot b None) _ [] refl (hanged_met y b left (hung + 1))
    hang_on_met y b left hung (Newest x) = goes (hung_at k (block k b).slot b (Some x)) _ [] refl (hanged_met y b left (hung + 1))

    try_hang_met : (b left hung : ℕ) (v : Option Batch) → Met (try_hang k w b left hung v)
    try_hang_met b left hung None = stops k _ [] refl tt
    try_hang_met b left hung (Some y) = hang_on_met y b left hung (reservation k (block k b).slot).list

    try_last_met : (hung : ℕ) (v : Option Batch) → Met (try_last k w hung v)
    try_last_met hung None = stops k _ [] refl tt
    try_last_met hung (Some y) =
        let back = due (settled k y hung) y.lead in
        stops (all_pooled (settled k y hung) back) _ back (all_pooled_workers back (settled k y hung)) tt

  -- a look
  module _ (h : ℕ) (d : a.doing w ≡ looking h) where
    now : then_looks ≡ turned l a k w
    now = ap (λ u. cond (is_looking u) (turned l a k w) l) d

    same_cell : (c : ℕ) → l.cell w ≡ c → then_looks.cell w ≡ c
    same_cell c e = ap (λ u. u.cell w) now ∙ e

    -- what can be read is named now
    read_now : (c : ℕ) → l.cell w ≡ c → readable k (home c) ≡ true → then_looks.met w (held k c) ≡ true
    read_now c at can =
        ap (λ u. u.met w (held k c)) now ∙ ap (λ f. f (held k c)) (put_here l.met w (λ v. l.met w v || names_now a k (l.cell w) v))
        ∙ or_right (l.met w (held k c)) (names_now a k (l.cell w) (held k c)) (subst (λ u. names_now a k u (held k c) ≡ true) (sym at)
        (and_from (or_none a.live (home c) && same_content (held k c) (held k c)) (or_none a.live (held k c)) (and_from (or_none a.live (home c)) (same_content (held k c) (held k c)) (home_live (home c) can) (same_self (held k c))) (held_live (held k c) refl)))
      where
        home_live : (v : Option ℕ) → readable k v ≡ true → or_none a.live v ≡ true
        home_live None e = refl
        home_live (Some b) e = ag.same_live b ∙ e

        held_live : (v : Option ℕ) → held k c ≡ v → or_none a.live v ≡ true
        held_live None e = refl
        held_live (Some b) e = ag.same_live b ∙ lk.alive b (held_named k c b can e)

    look_cell_met : (c : ℕ) → l.cell w ≡ c → Met (look_cell k w h c)
    look_cell_met c at = by_test Met (readable k (home c)) _ _ (λ e. goes k _ [] refl (same_cell c at, read_now c at e)) (λ _. fails Withdrawn)

    look_era_met : (c : ℕ) (v : Option ℕ) → l.cell w ≡ c → l.met w v ≡ true → Met (look_era k w h c v)
    look_era_met c v at was =
        by_test Met (eqb k.era (own_reservation k w h).era) _ _
        (λ _. (moved k _ refl tt, λ _ _. (v, refl, was)))
        (λ _. goes k _ [] refl (same_cell c at))

    look_list_met : (c e : ℕ) (q : HungList) → l.cell w ≡ c → Met (look_list k w h c e q)
    look_list_met c e Off at = goes (with_list k w h Empty) _ [] refl (same_cell c at)
    look_list_met c e Empty at = goes k _ [] refl (same_cell c at)
    look_list_met c e (Newest b) at = goes (with_list k w h Empty) _ [] refl (same_cell c at)

    look_on_met : (c b : ℕ) (v : Option ℕ) → l.cell w ≡ c → Met (handled k w b (look_on h c v))
    look_on_met c b v at = handled_met b (look_on h c v) (on v)
      where
        on : (v : Option ℕ) → LooksAt then_looks w (look_on h c v)
        on None = same_cell c at
        on (Some x) = same_cell c at

  -- a step, by the task
  pub step_met : (t : Task) → a.doing w ≡ doing_of t → LooksAt l w t → Met (step k s.inside n w t)
  step_met Idle d at = (λ v. subst (λ m. LooksAt m v (worker k v).task) (sym (ap (λ u. cond (is_looking u) (turned l a k w) l) d)) (right v), tt)
  step_met TakeEra d at = take_era_met
  step_met TakeBlock d at =
      by_test Met (ltb k.live k.form.live) _ _
      (λ _. by_test (λ (r : Result ℕ PoolFault). Met (took k w r)) (eqb (tally s.inside) 0) (Err NoneIn) (Ok n) (λ _. fails (Dry NoneIn)) (λ _. took_met (ap is_looking d)))
      (λ _. fails Full)
  step_met (LookCell h c) d at = look_cell_met h d c at
  step_met (LookEra h c v) d at = look_era_met h d c v at.0 at.1
  step_met (LookList h c e) d at = look_list_met h d c e (own_reservation k w h).list at
  step_met (LookWalk h c b) d at = look_on_met h d c b (block k b).under at
  step_met (LookAgain h c) d at = goes k _ [] refl (same_cell h d c at)
  step_met (LookWrite h c e) d at = goes (with_own_era k w h e) _ [] refl (same_cell h d c at)
  step_met (DropList h) d at = goes (with_list k w h Off) _ [] refl (drop_task_met (ap is_looking d) h (own_reservation k w h).list)
  step_met (DropWalk h b) d at = handled_met b (drop_on h (block k b).under) (drop_on_met (ap is_looking d) h (block k b).under)
  step_met (DropEra h) d at = drop_era_met (ap is_looking d) h
  step_met (TryVisit r b m) d at = try_visit_met (ap is_looking d) r b m (worker k w).batch
  step_met (TryHang b left hung) d at = try_hang_met (ap is_looking d) b left hung (worker k w).batch
  step_met (TryLast hung) d at = try_last_met (ap is_looking d) hung (worker k w).batch

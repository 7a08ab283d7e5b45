-- That the steps of looking, dropping and trying keep eras in order.
use Rattle.std.proofs.Common.{ℕ, ◌+◌, ◌<◌, ◌≤◌, Bool, eqb, ltb, List, Some, None, Option, subst, arith}
use Rattle.std.proofs.lemmas.Bool.Decides.{nat_tests}
use Rattle.figures.specs.declared.limits.Form.{Form}
use Rattle.machine.specs.declared.states.Batch.{Batch}
use Rattle.machine.specs.declared.states.HungList.{HungList}
use Rattle.machine.specs.declared.states.HungList.TheVariants.{Off, Empty, Newest}
use Rattle.machine.specs.declared.states.Task.{Task}
use Rattle.machine.specs.declared.states.Task.TheVariants.{Idle, TakeEra, TakeBlock, LookCell, LookEra, LookList, LookWalk, LookAgain, LookWrite, DropList, DropWalk, DropEra, TryVisit, TryHang, TryLast}
use Rattle.machine.specs.declared.states.Core.{Core}
use Rattle.machine.specs.State.{block, worker, reservation, place_of}
use Rattle.machine.specs.Cells.{home}
use Rattle.machine.specs.Looking.{readable, own_reservation, with_list, with_own_era, look_cell, look_era, look_list, look_on}
use Rattle.machine.specs.Dropping.{drop_task, drop_on, drop_era}
use Rattle.machine.specs.Trying.{hangings, visited, passed_over, places, try_visit, hanged, hang_on, hung_at, try_hang, settled, try_last}
use Rattle.machine.specs.Turns.{turn_checks, step, turn}
use Rattle.machine.specs.Walking.{due}
use Rattle.machine.specs.Eras.{InTime, InOrder}
use Rattle.machine.proofs.Passing.{by_test, checked_keeps}
use Rattle.machine.proofs.Times.{Kept, block_kept, reservation_kept, worker_kept, task_kept, idle_kept, take_era_kept, take_block_kept, all_pooled_kept, handled_kept}

module _ (form : Form) (since : ℕ) (k : Core) (o : InOrder form since k) (w : ℕ) where
  holds_same : (h : ℕ) → h < k.form.holds → h < form.holds
  holds_same h lt = subst (λ (f : Form). h < f.holds) o.same_form lt

  list_kept : (h : ℕ) (l : HungList) → InOrder form since (with_list k w h l)
  list_kept h l = reservation_kept form since k (place_of k w h) _ o (o.reserved (place_of k w h))

  own_era_kept : (h e : ℕ) → e ≤ k.era → InOrder form since (with_own_era k w h e)
  own_era_kept h e le = reservation_kept form since k (place_of k w h) _ o le

  -- looking
  look_cell_kept : (h c : ℕ) → h < form.holds → Kept form since (look_cell k w h c)
  look_cell_kept h c lt = by_test (Kept form since) (readable k (home c)) _ _ (λ _. task_kept form since k w _ o lt) (λ _. idle_kept form since k w o)

  look_era_kept : (h c : ℕ) (seen : Option ℕ) → h < form.holds → Kept form since (look_era k w h c seen)
  look_era_kept h c seen lt =
      by_test (Kept form since) (eqb k.era (own_reservation k w h).era) _ _
      (λ _. worker_kept form since k w _ o (o.takings w) tt)
      (λ _. task_kept form since k w _ o (lt, omega arith))

  look_list_kept : (h c e : ℕ) → (h < form.holds) × (e ≤ k.era) → (l : HungList) → Kept form since (look_list k w h c e l)
  look_list_kept h c e p Off = task_kept form since _ w _ (list_kept h Empty) p.0
  look_list_kept h c e p Empty = task_kept form since k w _ o p
  look_list_kept h c e p (Newest b) = task_kept form since _ w _ (list_kept h Empty) p.0

  look_on_time : (h c : ℕ) → h < form.holds → (x : Option ℕ) → InTime form.holds k.era (look_on h c x)
  look_on_time h c lt None = lt
  look_on_time h c lt (Some b) = lt

  -- dropping
  drop_task_time : (h : ℕ) → h < form.holds → (l : HungList) → InTime form.holds k.era (drop_task h l)
  drop_task_time h lt Off = lt
  drop_task_time h lt Empty = lt
  drop_task_time h lt (Newest b) = lt

  drop_on_time : (h : ℕ) → h < form.holds → (x : Option ℕ) → InTime form.holds k.era (drop_on h x)
  drop_on_time h lt None = lt
  drop_on_time h lt (Some b) = lt

  drop_era_kept : (h : ℕ) → Kept form since (drop_era k w h)
  drop_era_kept h =
      let zeroed = own_era_kept h 0 (omega arith) in
      by_test (Kept form since) (ltb (h + 1) k.form.holds) _ _
      (λ e. task_kept form since _ w _ zeroed (holds_same (h + 1) (grind (arith, nat_tests))))
      (λ _. idle_kept form since _ w zeroed)

  -- trying
  hangings_time : (batch : Batch) (aside : ℕ) → InTime form.holds k.era (hangings batch aside)
  hangings_time batch aside = by_test (InTime form.holds k.era) (eqb aside 0) _ _ (λ _. tt) (λ _. tt)

  visited_time : (batch : Batch) (r b aside : ℕ) → InTime form.holds k.era (visited k batch r b aside)
  visited_time batch r b aside = by_test (InTime form.holds k.era) (ltb (r + 1) (places k)) _ _ (λ _. tt) (λ _. hangings_time batch aside)

  try_visit_kept : (r b aside : ℕ) (batch : Option Batch) → Kept form since (try_visit k w r b aside batch)
  try_visit_kept r b aside None = idle_kept form since k w o
  try_visit_kept r b aside (Some batch) =
      by_test (Kept form since) (passed_over (reservation k r) batch.least) _ _
      (λ _. task_kept form since k w _ o (visited_time batch r b aside))
      (λ _. by_test (Kept form since) (eqb b batch.lead) _ _
      (λ _. idle_kept form since k w o)
      (λ _. task_kept form since _ w _ (block_kept form since k b _ o (o.births b)) (visited_time batch r _ (aside + 1))))

  hung_kept : (r b : ℕ) (under : Option ℕ) → InOrder form since (hung_at k r b under)
  hung_kept r b under = reservation_kept form since _ r _ (block_kept form since k b _ o (o.births b)) (o.reserved r)

  hanged_time : (batch : Batch) (b left hung : ℕ) → InTime form.holds k.era (hanged k batch b left hung)
  hanged_time batch b left hung = by_test (InTime form.holds k.era) (ltb 1 left) _ _ (λ _. tt) (λ _. tt)

  hang_on_kept : (batch : Batch) (b left hung : ℕ) (l : HungList) → Kept form since (hang_on k w batch b left hung l)
  hang_on_kept batch b left hung Off = task_kept form since k w _ o (hanged_time batch b left hung)
  hang_on_kept batch b left hung Empty = task_kept form since _ w _ (hung_kept (block k b).slot b None) (hanged_time batch b left (hung + 1))
  hang_on_kept batch b left hung (Newest x) = task_kept form since _ w _ (hung_kept (block k b).slot b (Some x)) (hanged_time batch b left (hung + 1))

  try_hang_kept : (b left hung : ℕ) (batch : Option Batch) → Kept form since (try_hang k w b left hung batch)
  try_hang_kept b left hung None = idle_kept form since k w o
  try_hang_kept b left hung (Some batch) = hang_on_kept batch b left hung (reservation k (block k b).slot).list

  try_last_kept : (hung : ℕ) (batch : Option Batch) → Kept form since (try_last k w hung batch)
  try_last_kept hung None = idle_kept form since k w o
  try_last_kept hung (Some batch) =
      let given = all_pooled_kept form since (due (settled k batch hung) batch.lead) _ (block_kept form since k batch.lead _ o (o.births batch.lead)) in
      worker_kept form since _ w _ given (given.takings w) tt

  -- a step, by the task
  step_kept : (inside : List Bool) (n : ℕ) (t : Task) → InTime form.holds k.era t → Kept form since (step k inside n w t)
  step_kept inside n Idle p = o
  step_kept inside n TakeEra p = take_era_kept form since k w o
  step_kept inside n TakeBlock p = take_block_kept form since k inside n w o
  step_kept inside n (LookCell h c) p = look_cell_kept h c p
  step_kept inside n (LookEra h c seen) p = look_era_kept h c seen p
  step_kept inside n (LookList h c e) p = look_list_kept h c e p (own_reservation k w h).list
  step_kept inside n (LookWalk h c b) p = handled_kept form since k w b _ o (look_on_time h c p (block k b).under)
  step_kept inside n (LookAgain h c) p = task_kept form since k w _ o (p, omega arith)
  step_kept inside n (LookWrite h c e) p = task_kept form since _ w _ (own_era_kept h e p.1) p.0
  step_kept inside n (DropList h) p = task_kept form since _ w _ (list_kept h Off) (drop_task_time h p (own_reservation k w h).list)
  step_kept inside n (DropWalk h b) p = handled_kept form since k w b _ o (drop_on_time h p (block k b).under)
  step_kept inside n (DropEra h) p = drop_era_kept h
  step_kept inside n (TryVisit r b aside) p = try_visit_kept r b aside (worker k w).batch
  step_kept inside n (TryHang b left hung) p = try_hang_kept b left hung (worker k w).batch
  step_kept inside n (TryLast hung) p = try_last_kept hung (worker k w).batch

  pub turn_kept : (inside : List Bool) (n : ℕ) → Kept form since (turn k inside n w)
  turn_kept inside n = checked_keeps (Kept form since) k (turn_checks k w) (step k inside n w (worker k w).task) (λ _. o) (λ _. step_kept inside n (worker k w).task (o.tasks w))

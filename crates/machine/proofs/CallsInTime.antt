-- That the calls keep eras in order, and so does every run.
use Rattle.std.proofs.Common.{◌≡◌, ℕ, ◌-◌, ◌<◌, ◌≤◌, true, ◌&&◌, ltb, get_or, Some, None, Option, subst, arith}
use Rattle.std.proofs.lemmas.Bool.Decides.{nat_tests}
use Rattle.figures.specs.declared.limits.Form.{Form}
use Rattle.machine.specs.declared.states.Batch.{Batch}
use Rattle.machine.specs.declared.states.Task.TheVariants.{TakeEra}
use Rattle.machine.specs.declared.states.Core.{Core}
use Rattle.machine.specs.State.{block, worker}
use Rattle.machine.specs.Cells.{named_more, named_less, with_cell, held, home_block}
use Rattle.machine.specs.Hands.{owns}
use Rattle.machine.specs.Calls.{is_worker, is_hold, is_cell, free_checks, take, look_checks, look, drop, joined, unlinked, try_due, retired, retiring, retire_checks, retire, disowned, relinked, relink_checks, relink}
use Rattle.machine.specs.Eras.{InOrder}
use Rattle.machine.proofs.Passing.{by_test, both_left, both_right, checked_keeps}
use Rattle.machine.proofs.Times.{Kept, live_kept, anchor_kept, block_kept, worker_kept, task_kept}

module _ (form : Form) (since : ℕ) where
  more_kept : (k : Core) (x : Option ℕ) → InOrder form since k → InOrder form since (named_more k x)
  more_kept k None o = o
  more_kept k (Some b) o = block_kept form since k b _ o (o.births b)

  less_kept : (k : Core) (x : Option ℕ) → InOrder form since k → InOrder form since (named_less k x)
  less_kept k None o = o
  less_kept k (Some b) o = block_kept form since k b _ o (o.births b)

  disowned_kept : (k : Core) (w : ℕ) (x : Option ℕ) → InOrder form since k → InOrder form since (disowned k w x)
  disowned_kept k w None o = o
  disowned_kept k w (Some b) o = by_test (InOrder form since) (owns k w b) _ _ (λ _. block_kept form since k b _ o (o.births b)) (λ _. o)

  cell_kept : (k : Core) (c : ℕ) (x : Option ℕ) → InOrder form since k → InOrder form since (with_cell k c x)
  cell_kept k c x o = by_test (InOrder form since) (ltb c 16) _ _ (λ _. anchor_kept form since k c x o) (λ _. block_kept form since k (home_block c) _ o (o.births (home_block c)))

module _ (form : Form) (since : ℕ) (k : Core) (o : InOrder form since k) (w : ℕ) where
  pub take_kept : Kept form since (take k w)
  take_kept = checked_keeps (Kept form since) k (free_checks k w) _ (λ _. o) (λ _. task_kept form since k w TakeEra o tt)

  hold_there : (h c : ℕ) → (is_worker k w && is_hold k h && is_cell k c) ≡ true → h < form.holds
  hold_there h c e =
      let there : ltb h k.form.holds ≡ true = both_right (is_worker k w) (is_hold k h) (both_left (is_worker k w && is_hold k h) (is_cell k c) e) in
      let below : h < k.form.holds = grind (arith, nat_tests) in
      subst (λ (f : Form). h < f.holds) o.same_form below

  pub look_kept : (h c : ℕ) → Kept form since (look k w h c)
  look_kept h c = checked_keeps (Kept form since) k (look_checks k w h c) _ (λ _. o) (λ p. worker_kept form since k w _ o (o.takings w) (hold_there h c p.0))

  pub drop_kept : 1 ≤ form.holds → Kept form since (drop k w)
  drop_kept some = checked_keeps (Kept form since) k (free_checks k w) _ (λ _. o) (λ _. worker_kept form since k w _ o (o.takings w) some)

  unlinked_kept : (b : ℕ) → InOrder form since (unlinked k b)
  unlinked_kept b = less_kept form since _ (get_or (block k b).links 1 None) (less_kept form since k (get_or (block k b).links 0 None) o)

  retired_kept : (b : ℕ) (batch : Batch) → InOrder form since (retired k w b batch)
  retired_kept b batch = live_kept form since _ (k.live - 1) (block_kept form since _ b _ (unlinked_kept b) ((unlinked_kept b).births b))

  retiring_kept : (b : ℕ) (batch : Batch) → Kept form since (retiring k w b batch)
  retiring_kept b batch =
      let r = retired_kept b batch in
      by_test (Kept form since) (try_due k batch) _ _ (λ _. worker_kept form since _ w _ r (r.takings w) tt) (λ _. worker_kept form since _ w _ r (r.takings w) tt)

  pub retire_kept : (b : ℕ) → Kept form since (retire k w b)
  retire_kept b = checked_keeps (Kept form since) k (retire_checks k w b) _ (λ _. o) (λ _. retiring_kept b (joined (worker k w).batch b (block k b).birth))

  relinked_kept : (c : ℕ) (new : Option ℕ) → InOrder form since (relinked k w c new)
  relinked_kept c new = cell_kept form since _ c new (disowned_kept form since _ w new (more_kept form since _ new (less_kept form since k (held k c) o)))

  pub relink_kept : (c : ℕ) (expected new : Option ℕ) → Kept form since (relink k w c expected new)
  relink_kept c expected new = checked_keeps (Kept form since) k (relink_checks k w c expected new) _ (λ _. o) (λ _. relinked_kept c new)

-- That eras stay in order, step by step.
use Rattle.std.proofs.Common.{◌≡◌, ℕ, ◌+◌, ◌<◌, ◌≤◌, Bool, eqb, ltb, List, [], ◌∷◌, Ok, Err, Option, Result, sym, refl, subst, arith}
use Rattle.std.proofs.lemmas.Bool.Decides.{nat_tests}
use Rattle.figures.specs.declared.limits.Form.{Form}
use Rattle.pools.specs.declared.PoolFault.{PoolFault}
use Rattle.pools.specs.Meaning.{taken}
use Rattle.machine.specs.declared.states.Block.{Block}
use Rattle.machine.specs.declared.states.Reservation.{Reservation}
use Rattle.machine.specs.declared.states.Task.{Task}
use Rattle.machine.specs.declared.states.Task.TheVariants.{Idle, TakeEra, TakeBlock, LookCell, LookEra, LookList, LookWalk, LookAgain, LookWrite, DropList, DropWalk, DropEra, TryVisit, TryHang, TryLast}
use Rattle.machine.specs.declared.states.Worker.{Worker}
use Rattle.machine.specs.declared.states.Core.{Core}
use Rattle.machine.specs.State.{blank_block, blank_worker, fresh_reservation, block, worker, with_era, with_live, with_anchor, with_block, with_reservation, with_worker, with_task, idle}
use Rattle.machine.specs.Moves.{Move}
use Rattle.machine.specs.Taking.{next_count, counted_up, take_era, took, take_block}
use Rattle.machine.specs.Walking.{pooled, all_pooled, due, count_down, handled}
use Rattle.machine.specs.Eras.{InTime, InOrder}
use Rattle.machine.proofs.Stores.{set_keeps}
use Rattle.machine.proofs.Passing.{by_test}

-- a task in time stays so when the era rises
pub in_time_later : (holds e f : ℕ) → e ≤ f → (t : Task) → InTime holds e t → InTime holds f t
in_time_later holds e f le Idle p = tt
in_time_later holds e f le TakeEra p = tt
in_time_later holds e f le TakeBlock p = tt
in_time_later holds e f le (LookCell h c) p = p
in_time_later holds e f le (LookEra h c seen) p = p
in_time_later holds e f le (LookList h c n) p = (p.0, omega (arith, p.1))
in_time_later holds e f le (LookWalk h c b) p = p
in_time_later holds e f le (LookAgain h c) p = p
in_time_later holds e f le (LookWrite h c n) p = (p.0, omega (arith, p.1))
in_time_later holds e f le (DropList h) p = p
in_time_later holds e f le (DropWalk h b) p = p
in_time_later holds e f le (DropEra h) p = p
in_time_later holds e f le (TryVisit r b aside) p = tt
in_time_later holds e f le (TryHang b left hung) p = tt
in_time_later holds e f le (TryLast hung) p = tt

module _ (form : Form) (since : ℕ) where
  -- a move leaves a keeper in order
  abbrev pub Kept : Move → Type 0
  Kept m = InOrder form since m.core

  -- one part replaced
  pub era_later : (k : Core) (e : ℕ) → InOrder form since k → k.era ≤ e → e ≤ 4294967295 → InOrder form since (with_era k e)
  era_later k e o le top = record {
    same_form = o.same_form;
    later = omega (arith, o.later);
    not_past = top;
    births = λ b. omega (arith, o.births b);
    reserved = λ r. omega (arith, o.reserved r);
    takings = o.takings;
    tasks = λ w. in_time_later form.holds k.era e le (worker k w).task (o.tasks w);
  }

  pub live_kept : (k : Core) (n : ℕ) → InOrder form since k → InOrder form since (with_live k n)
  live_kept k n o = record { same_form = o.same_form; later = o.later; not_past = o.not_past; births = o.births; reserved = o.reserved; takings = o.takings; tasks = o.tasks }

  pub anchor_kept : (k : Core) (a : ℕ) (x : Option ℕ) → InOrder form since k → InOrder form since (with_anchor k a x)
  anchor_kept k a x o = record { same_form = o.same_form; later = o.later; not_past = o.not_past; births = o.births; reserved = o.reserved; takings = o.takings; tasks = o.tasks }

  pub block_kept : (k : Core) (b : ℕ) (x : Block) → InOrder form since k → x.birth ≤ k.era → InOrder form since (with_block k b x)
  block_kept k b x o le = record {
    same_form = o.same_form;
    later = o.later;
    not_past = o.not_past;
    births = set_keeps (λ y. y.birth ≤ k.era) blank_block k.blocks.rows b x o.births le;
    reserved = o.reserved;
    takings = o.takings;
    tasks = o.tasks;
  }

  pub reservation_kept : (k : Core) (r : ℕ) (x : Reservation) → InOrder form since k → x.era ≤ k.era → InOrder form since (with_reservation k r x)
  reservation_kept k r x o le = record {
    same_form = o.same_form;
    later = o.later;
    not_past = o.not_past;
    births = o.births;
    reserved = set_keeps (λ y. y.era ≤ k.era) fresh_reservation k.reservations r x o.reserved le;
    takings = o.takings;
    tasks = o.tasks;
  }

  pub worker_kept : (k : Core) (w : ℕ) (x : Worker) → InOrder form since k → x.takings < form.taking_period → InTime form.holds k.era x.task → InOrder form since (with_worker k w x)
  worker_kept k w x o lt in_time = record {
    same_form = o.same_form;
    later = o.later;
    not_past = o.not_past;
    births = o.births;
    reserved = o.reserved;
    takings = set_keeps (λ y. y.takings < form.taking_period) blank_worker k.workers w x o.takings lt;
    tasks = set_keeps (λ y. InTime form.holds k.era y.task) blank_worker k.workers w x o.tasks in_time;
  }

  pub task_kept : (k : Core) (w : ℕ) (t : Task) → InOrder form since k → InTime form.holds k.era t → InOrder form since (with_task k w t)
  task_kept k w t o in_time = worker_kept k w _ o (o.takings w) in_time

  pub idle_kept : (k : Core) (w : ℕ) → InOrder form since k → InOrder form since (idle k w)
  idle_kept k w o = task_kept k w Idle o tt

  -- taking
  next_below : (period n : ℕ) → n < period → next_count period n < period
  next_below period n lt = by_test (λ m. m < period) (eqb (n + 1) period) 0 (n + 1) (λ e. omega arith) (λ e. grind (arith, nat_tests))

  counted_kept : (k : Core) (w : ℕ) → InOrder form since k → InOrder form since (counted_up k w)
  counted_kept k w o = worker_kept k w _ o (subst (λ f. next_count f.taking_period (worker k w).takings < form.taking_period) (sym o.same_form) (next_below form.taking_period (worker k w).takings (o.takings w))) tt

  pub take_era_kept : (k : Core) (w : ℕ) → InOrder form since k → InOrder form since (take_era k w).core
  take_era_kept k w o =
      by_test Kept (eqb (worker k w).takings 0) _ _
      (λ _. by_test Kept (eqb k.era 4294967295) _ _
      (λ _. idle_kept k w o)
      (λ e. counted_kept (with_era k (k.era + 1)) w (era_later k (k.era + 1) o (omega arith) (let top = o.not_past in grind (arith, nat_tests)))))
      (λ _. counted_kept k w o)

  took_kept : (k : Core) (w : ℕ) → InOrder form since k → (r : Result ℕ PoolFault) → InOrder form since (took k w r).core
  took_kept k w o (Ok b) = live_kept _ (k.live + 1) (block_kept (idle k w) b _ (idle_kept k w o) (omega arith))
  took_kept k w o (Err fault) = idle_kept k w o

  pub take_block_kept : (k : Core) (inside : List Bool) (n w : ℕ) → InOrder form since k → InOrder form since (take_block k inside n w).core
  take_block_kept k inside n w o =
      by_test Kept (ltb k.live k.form.live) _ _ (λ _. took_kept k w o (taken inside n)) (λ _. idle_kept k w o)

  -- walking
  pub all_pooled_kept : (bs : List ℕ) (k : Core) → InOrder form since k → InOrder form since (all_pooled k bs)
  all_pooled_kept [] k o = o
  all_pooled_kept (b ∷ bs) k o = all_pooled_kept bs _ (block_kept k b (pooled (block k b)) o (o.births b))

  count_down_kept : (k : Core) (lead : ℕ) → InOrder form since k → InOrder form since (count_down k lead)
  count_down_kept k lead o = block_kept k lead _ o (o.births lead)

  all_pooled_era : (bs : List ℕ) (k : Core) → (all_pooled k bs).era ≡ k.era
  all_pooled_era [] k = refl
  all_pooled_era (b ∷ bs) k = all_pooled_era bs (with_block k b (pooled (block k b)))

  pub handled_kept : (k : Core) (w b : ℕ) (t : Task) → InOrder form since k → InTime form.holds k.era t → InOrder form since (handled k w b t).core
  handled_kept k w b t o in_time =
      let back = due (count_down k (block k b).lead) (block k b).lead in
      task_kept _ w t (all_pooled_kept back _ (count_down_kept k (block k b).lead o))
      (subst (λ e. InTime form.holds e t) (sym (all_pooled_era back (count_down k (block k b).lead))) in_time)

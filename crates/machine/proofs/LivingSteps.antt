-- That every call keeps right the number of live blocks.
use Rattle.std.proofs.Common.{◌≡◌, ℕ, ◌+◌, ◌-◌, ◌<◌, Bool, true, eqb, ltb, List, Some, None, Ok, Option, Result, sym, refl, subst}
use Rattle.std.proofs.lemmas.Bool.{ltb-true}
use Rattle.pools.specs.declared.PoolFault.{PoolFault}
use Rattle.pools.specs.Counts.{tally}
use Rattle.machine.specs.declared.calls.Call.{Call}
use Rattle.machine.specs.declared.calls.Call.TheVariants.{Take, Look, Drop, Retire, Relink, Write, Read, Turn}
use Rattle.machine.specs.declared.states.Batch.{Batch}
use Rattle.machine.specs.declared.states.HungList.{HungList}
use Rattle.machine.specs.declared.states.HungList.TheVariants.{Off, Empty, Newest}
use Rattle.machine.specs.declared.states.Task.{Task}
use Rattle.machine.specs.declared.states.Task.TheVariants.{Idle, TakeEra, TakeBlock, LookCell, LookEra, LookList, LookWalk, LookAgain, LookWrite, DropList, DropWalk, DropEra, TryVisit, TryHang, TryLast}
use Rattle.machine.specs.declared.states.Core.{Core}
use Rattle.machine.specs.State.{block, worker, reservation, place_of, with_task, idle, live_block}
use Rattle.machine.specs.Cells.{home}
use Rattle.machine.specs.Moves.{Move}
use Rattle.machine.specs.Taking.{take_era, took, take_block}
use Rattle.machine.specs.Walking.{with_count, due, count_down, handled}
use Rattle.machine.specs.Looking.{readable, own_reservation, with_list, with_own_era, look_list}
use Rattle.machine.specs.Dropping.{drop_era}
use Rattle.machine.specs.Trying.{with_slot, passed_over, try_visit, with_under, hung_at, hang_on, try_hang, settled, try_last}
use Rattle.machine.specs.Turns.{turn_checks, step, turn}
use Rattle.machine.specs.Calls.{free_checks, take, look_checks, look, drop, try_due, retiring, retire_checks, retire, relink_checks, relink}
use Rattle.machine.specs.Machine.{State, write_checks, written, read_checks, found, after}
use Rattle.machine.specs.Living.{FewLive}
use Rattle.machine.proofs.Passing.{by_test, checked_keeps}
use Rattle.machine.proofs.RunsInTime.{judged_same}
use Rattle.machine.proofs.LinkedParts.{block_alike, Dead, dead_alike}
use Rattle.machine.proofs.LinkedTurns.{FreeNumber}
use Rattle.machine.proofs.LinkedRuns.{Side}
use Rattle.machine.proofs.LivingParts.{era_living, reservation_living, worker_living, block_living, all_pooled_living, taken_living, relinked_living, retired_living}

-- a move leaves the number right, if the number that it takes is free and it gives back no live block
abbrev Kept : Core → ℕ → Move → Type 0
Kept k n m = (m.taken ≡ true → FreeNumber k n) → Dead k m.given → FewLive m.core

-- the keeper after a move keeps the number right
abbrev Leaves : Move → Type 0
Leaves m = FewLive m.core

module _ (k : Core) (o : FewLive k) (w : ℕ) where
  -- a task is replaced
  task_living : (t : Task) → FewLive (with_task k w t)
  task_living t = worker_living k w _ o

  list_living : (h : ℕ) (l : HungList) → FewLive (with_list k w h l)
  list_living h l = reservation_living k (place_of k w h) _ o

  own_era_living : (h e : ℕ) → FewLive (with_own_era k w h e)
  own_era_living h e = reservation_living k (place_of k w h) _ o

  -- taking
  take_era_living : FewLive (take_era k w).core
  take_era_living =
      by_test Leaves (eqb (worker k w).takings 0) _ _
      (λ _. by_test Leaves (eqb k.era 4294967295) _ _ (λ _. task_living Idle) (λ _. worker_living _ w _ (era_living k (k.era + 1) o)))
      (λ _. worker_living k w _ o)

  took_living : (n : ℕ) → FreeNumber k n → k.live < k.form.live → FewLive (took k w (Ok n)).core
  took_living n free room = taken_living (idle k w) n k.era w free.0 free.1 room (task_living Idle)

  take_block_living : (inside : List Bool) (n : ℕ) → Kept k n (take_block k inside n w)
  take_block_living inside n =
      by_test (Kept k n) (ltb k.live k.form.live) _ _
      (λ e. by_test (λ (r : Result ℕ PoolFault). Kept k n (took k w r)) (eqb (tally inside) 0) _ _
      (λ _ _ _. task_living Idle)
      (λ _ free _. took_living n (free refl) (ltb-true k.live k.form.live e)))
      (λ _ _ _. task_living Idle)

  -- walking
  handled_living : (b : ℕ) (t : Task) → Dead k (handled k w b t).given → FewLive (handled k w b t).core
  handled_living b t dead =
      let lead = (block k b).lead in
      let x = with_count (block k lead) ((block k lead).count - 1) (block k lead).newest in
      worker_living _ w _ (all_pooled_living (due (count_down k lead) lead) (count_down k lead) (dead_alike k (count_down k lead) (block_alike k lead x refl refl) _ dead) (block_living k lead x refl o))

  -- looking
  look_list_living : (h c e : ℕ) (l : HungList) → FewLive (look_list k w h c e l).core
  look_list_living h c e Off = worker_living _ w _ (list_living h Empty)
  look_list_living h c e Empty = task_living _
  look_list_living h c e (Newest b) = worker_living _ w _ (list_living h Empty)

  -- dropping
  drop_era_living : (h : ℕ) → FewLive (drop_era k w h).core
  drop_era_living h = by_test Leaves (ltb (h + 1) k.form.holds) _ _ (λ _. worker_living _ w _ (own_era_living h 0)) (λ _. worker_living _ w _ (own_era_living h 0))

  -- trying
  try_visit_living : (r b aside : ℕ) (batch : Option Batch) → FewLive (try_visit k w r b aside batch).core
  try_visit_living r b aside None = task_living Idle
  try_visit_living r b aside (Some batch) =
      by_test Leaves (passed_over (reservation k r) batch.least) _ _
      (λ _. task_living _)
      (λ _. by_test Leaves (eqb b batch.lead) _ _
      (λ _. task_living Idle)
      (λ _. worker_living _ w _ (block_living k b (with_slot (block k b) r) refl o)))

  hung_living : (r b : ℕ) (under : Option ℕ) → FewLive (hung_at k r b under)
  hung_living r b under = reservation_living _ r _ (block_living k b (with_under (block k b) under) refl o)

  hang_on_living : (batch : Batch) (b left hung : ℕ) (l : HungList) → FewLive (hang_on k w batch b left hung l).core
  hang_on_living batch b left hung Off = task_living _
  hang_on_living batch b left hung Empty = worker_living _ w _ (hung_living (block k b).slot b None)
  hang_on_living batch b left hung (Newest x) = worker_living _ w _ (hung_living (block k b).slot b (Some x))

  try_hang_living : (b left hung : ℕ) (batch : Option Batch) → FewLive (try_hang k w b left hung batch).core
  try_hang_living b left hung None = task_living Idle
  try_hang_living b left hung (Some batch) = hang_on_living batch b left hung (reservation k (block k b).slot).list

  try_last_living : (hung : ℕ) (batch : Option Batch) → Dead k (try_last k w hung batch).given → FewLive (try_last k w hung batch).core
  try_last_living hung None dead = task_living Idle
  try_last_living hung (Some batch) dead =
      let lead = batch.lead in
      let x = with_count (block k lead) ((block k lead).count + hung - 1024) batch.newest in
      worker_living _ w _ (all_pooled_living (due (settled k batch hung) lead) (settled k batch hung) (dead_alike k (settled k batch hung) (block_alike k lead x refl refl) _ dead) (block_living k lead x refl o))

  -- a step, by the task
  step_living : (inside : List Bool) (n : ℕ) (t : Task) → Kept k n (step k inside n w t)
  step_living inside n Idle free dead = o
  step_living inside n TakeEra free dead = take_era_living
  step_living inside n TakeBlock free dead = take_block_living inside n free dead
  step_living inside n (LookCell h c) free dead = by_test Leaves (readable k (home c)) _ _ (λ _. task_living _) (λ _. task_living Idle)
  step_living inside n (LookEra h c seen) free dead = by_test Leaves (eqb k.era (own_reservation k w h).era) _ _ (λ _. worker_living k w _ o) (λ _. task_living _)
  step_living inside n (LookList h c e) free dead = look_list_living h c e (own_reservation k w h).list
  step_living inside n (LookWalk h c b) free dead = handled_living b _ dead
  step_living inside n (LookAgain h c) free dead = task_living _
  step_living inside n (LookWrite h c e) free dead = worker_living _ w _ (own_era_living h e)
  step_living inside n (DropList h) free dead = worker_living _ w _ (list_living h Off)
  step_living inside n (DropWalk h b) free dead = handled_living b _ dead
  step_living inside n (DropEra h) free dead = drop_era_living h
  step_living inside n (TryVisit r b aside) free dead = try_visit_living r b aside (worker k w).batch
  step_living inside n (TryHang b left hung) free dead = try_hang_living b left hung (worker k w).batch
  step_living inside n (TryLast hung) free dead = try_last_living hung (worker k w).batch dead

  turn_living : (inside : List Bool) (n : ℕ) → Kept k n (turn k inside n w)
  turn_living inside n = checked_keeps (Kept k n) k (turn_checks k w) (step k inside n w (worker k w).task) (λ _ _ _. o) (λ _. step_living inside n (worker k w).task)

  -- the other calls
  take_living : FewLive (take k w).core
  take_living = checked_keeps Leaves k (free_checks k w) _ (λ _. o) (λ _. worker_living k w _ o)

  look_living : (h c : ℕ) → FewLive (look k w h c).core
  look_living h c = checked_keeps Leaves k (look_checks k w h c) _ (λ _. o) (λ _. worker_living k w _ o)

  drop_living : FewLive (drop k w).core
  drop_living = checked_keeps Leaves k (free_checks k w) _ (λ _. o) (λ _. worker_living k w _ o)

  retiring_living : (b : ℕ) (batch : Batch) → live_block k b ≡ true → FewLive (retiring k w b batch).core
  retiring_living b batch live = by_test Leaves (try_due k batch) _ _ (λ _. worker_living _ w _ (retired_living k w b batch live o)) (λ _. worker_living _ w _ (retired_living k w b batch live o))

  retire_living : (b : ℕ) → FewLive (retire k w b).core
  retire_living b = checked_keeps Leaves k (retire_checks k w b) _ (λ _. o) (λ p. retiring_living b _ p.1.1.1.0)

  relink_living : (c : ℕ) (expected new : Option ℕ) → FewLive (relink k w c expected new).core
  relink_living c expected new = checked_keeps Leaves k (relink_checks k w c expected new) _ (λ _. o) (λ _. relinked_living k w c new o)

pub living_after : {R : Type 0} (s : State R) (c : Call R) (n : ℕ) → FewLive s.core → Side s c n → FewLive (after s c n).to.core
living_after s (Take w) n o side = take_living s.core o w
living_after s (Look w h c) n o side = look_living s.core o w h c
living_after s (Drop w) n o side = drop_living s.core o w
living_after s (Retire w b) n o side = retire_living s.core o w b
living_after s (Relink w c expected new) n o side = relink_living s.core o w c expected new
living_after s (Write w b x) n o side = subst FewLive (sym (judged_same s w (write_checks s w b) (written s b x) refl)) o
living_after s (Read w h) n o side = subst FewLive (sym (judged_same s w (read_checks s w h) (found s w h) refl)) o
living_after s (Turn w) n o side = turn_living s.core o w s.inside n side.0 side.1

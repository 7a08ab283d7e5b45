-- That every turn keeps right what is kept of the names.
use Rattle.std.proofs.Common.{◌≡◌, ℕ, ◌+◌, ◌-◌, ◌<◌, Bool, true, false, eqb, ltb, List, Some, None, Ok, Option, Result, refl, arith}
use Rattle.std.proofs.lemmas.Bool.Decides.{nat_tests}
use Rattle.std.proofs.lemmas.Bool.{false≢true}
use Rattle.pools.specs.declared.PoolFault.{PoolFault}
use Rattle.pools.specs.Counts.{tally}
use Rattle.machine.specs.declared.states.Batch.{Batch}
use Rattle.machine.specs.declared.states.HungList.{HungList}
use Rattle.machine.specs.declared.states.HungList.TheVariants.{Off, Empty, Newest}
use Rattle.machine.specs.declared.states.Task.{Task}
use Rattle.machine.specs.declared.states.Task.TheVariants.{Idle, TakeEra, TakeBlock, LookCell, LookEra, LookList, LookWalk, LookAgain, LookWrite, DropList, DropWalk, DropEra, TryVisit, TryHang, TryLast}
use Rattle.machine.specs.declared.states.Core.{Core}
use Rattle.machine.specs.State.{block, worker, reservation, place_of, with_task, idle, live_block}
use Rattle.machine.specs.Cells.{home}
use Rattle.machine.specs.Moves.{Move}
use Rattle.machine.specs.Taking.{take_era, took, take_block}
use Rattle.machine.specs.Walking.{with_count, due, count_down, handled}
use Rattle.machine.specs.Looking.{readable, own_reservation, with_list, with_own_era, look_cell, look_era, look_list}
use Rattle.machine.specs.Dropping.{drop_era}
use Rattle.machine.specs.Trying.{with_slot, passed_over, try_visit, with_under, hung_at, hang_on, try_hang, settled, try_last}
use Rattle.machine.specs.Turns.{turn_checks, step, turn}
use Rattle.machine.specs.Linking.{LinkedRight}
use Rattle.machine.proofs.Passing.{by_test, checked_keeps}
use Rattle.machine.proofs.LinkedParts.{era_linked, live_linked, reservation_linked, worker_linked, block_alike, block_linked, taken_linked, Dead, dead_alike, all_pooled_linked}

-- a number that is no live block's
abbrev pub FreeNumber : Core → ℕ → Type 0
FreeNumber k n = (n < 2048) × (live_block k n ≡ false)

-- a move leaves right what is kept, if the number that it takes is free and it gives back no live block
abbrev pub Kept : Core → ℕ → Move → Type 0
Kept k n m = (m.taken ≡ true → FreeNumber k n) → Dead k m.given → LinkedRight m.core

module _ (k : Core) (o : LinkedRight k) (w : ℕ) where
  -- a task is replaced
  task_linked : (t : Task) → LinkedRight (with_task k w t)
  task_linked t = worker_linked k w _ o

  list_linked : (h : ℕ) (l : HungList) → LinkedRight (with_list k w h l)
  list_linked h l = reservation_linked k (place_of k w h) _ o

  own_era_linked : (h e : ℕ) → LinkedRight (with_own_era k w h e)
  own_era_linked h e = reservation_linked k (place_of k w h) _ o

  -- taking
  take_era_linked : LinkedRight (take_era k w).core
  take_era_linked =
      by_test (λ (m : Move). LinkedRight m.core) (eqb (worker k w).takings 0) _ _
      (λ _. by_test (λ (m : Move). LinkedRight m.core) (eqb k.era 4294967295) _ _ (λ _. task_linked Idle) (λ _. worker_linked _ w _ (era_linked k (k.era + 1) o)))
      (λ _. worker_linked k w _ o)

  took_linked : (n : ℕ) → FreeNumber k n → LinkedRight (took k w (Ok n)).core
  took_linked n free = live_linked _ (k.live + 1) (taken_linked (idle k w) n k.era w free.0 free.1 (task_linked Idle))

  take_block_linked : (inside : List Bool) (n : ℕ) → Kept k n (take_block k inside n w)
  take_block_linked inside n =
      by_test (Kept k n) (ltb k.live k.form.live) _ _
      (λ _. by_test (λ (r : Result ℕ PoolFault). Kept k n (took k w r)) (eqb (tally inside) 0) _ _
      (λ _ _ _. task_linked Idle)
      (λ _ free _. took_linked n (free refl)))
      (λ _ _ _. task_linked Idle)

  -- walking
  handled_linked : (b : ℕ) (t : Task) → Dead k (handled k w b t).given → LinkedRight (handled k w b t).core
  handled_linked b t dead =
      let lead = (block k b).lead in
      let x = with_count (block k lead) ((block k lead).count - 1) (block k lead).newest in
      worker_linked _ w _ (all_pooled_linked (due (count_down k lead) lead) (count_down k lead) (dead_alike k (count_down k lead) (block_alike k lead x refl refl) _ dead) (block_linked k lead x refl refl refl o))

  -- looking
  look_cell_linked : (h c : ℕ) → LinkedRight (look_cell k w h c).core
  look_cell_linked h c = by_test (λ (m : Move). LinkedRight m.core) (readable k (home c)) _ _ (λ _. task_linked _) (λ _. task_linked Idle)

  look_era_linked : (h c : ℕ) (seen : Option ℕ) → LinkedRight (look_era k w h c seen).core
  look_era_linked h c seen = by_test (λ (m : Move). LinkedRight m.core) (eqb k.era (own_reservation k w h).era) _ _ (λ _. worker_linked k w _ o) (λ _. task_linked _)

  look_list_linked : (h c e : ℕ) (l : HungList) → LinkedRight (look_list k w h c e l).core
  look_list_linked h c e Off = worker_linked _ w _ (list_linked h Empty)
  look_list_linked h c e Empty = task_linked _
  look_list_linked h c e (Newest b) = worker_linked _ w _ (list_linked h Empty)

  -- dropping
  drop_era_linked : (h : ℕ) → LinkedRight (drop_era k w h).core
  drop_era_linked h = by_test (λ (m : Move). LinkedRight m.core) (ltb (h + 1) k.form.holds) _ _ (λ _. worker_linked _ w _ (own_era_linked h 0)) (λ _. worker_linked _ w _ (own_era_linked h 0))

  -- trying
  try_visit_linked : (r b aside : ℕ) (batch : Option Batch) → LinkedRight (try_visit k w r b aside batch).core
  try_visit_linked r b aside None = task_linked Idle
  try_visit_linked r b aside (Some batch) =
      by_test (λ (m : Move). LinkedRight m.core) (passed_over (reservation k r) batch.least) _ _
      (λ _. task_linked _)
      (λ _. by_test (λ (m : Move). LinkedRight m.core) (eqb b batch.lead) _ _
      (λ _. task_linked Idle)
      (λ _. worker_linked _ w _ (block_linked k b (with_slot (block k b) r) refl refl refl o)))

  hung_linked : (r b : ℕ) (under : Option ℕ) → LinkedRight (hung_at k r b under)
  hung_linked r b under = reservation_linked _ r _ (block_linked k b (with_under (block k b) under) refl refl refl o)

  hang_on_linked : (batch : Batch) (b left hung : ℕ) (l : HungList) → LinkedRight (hang_on k w batch b left hung l).core
  hang_on_linked batch b left hung Off = task_linked _
  hang_on_linked batch b left hung Empty = worker_linked _ w _ (hung_linked (block k b).slot b None)
  hang_on_linked batch b left hung (Newest x) = worker_linked _ w _ (hung_linked (block k b).slot b (Some x))

  try_hang_linked : (b left hung : ℕ) (batch : Option Batch) → LinkedRight (try_hang k w b left hung batch).core
  try_hang_linked b left hung None = task_linked Idle
  try_hang_linked b left hung (Some batch) = hang_on_linked batch b left hung (reservation k (block k b).slot).list

  try_last_linked : (hung : ℕ) (batch : Option Batch) → Dead k (try_last k w hung batch).given → LinkedRight (try_last k w hung batch).core
  try_last_linked hung None dead = task_linked Idle
  try_last_linked hung (Some batch) dead =
      let lead = batch.lead in
      let x = with_count (block k lead) ((block k lead).count + hung - 1024) batch.newest in
      worker_linked _ w _ (all_pooled_linked (due (settled k batch hung) lead) (settled k batch hung) (dead_alike k (settled k batch hung) (block_alike k lead x refl refl) _ dead) (block_linked k lead x refl refl refl o))

  -- a step, by the task
  step_linked : (inside : List Bool) (n : ℕ) (t : Task) → Kept k n (step k inside n w t)
  step_linked inside n Idle free dead = o
  step_linked inside n TakeEra free dead = take_era_linked
  step_linked inside n TakeBlock free dead = take_block_linked inside n free dead
  step_linked inside n (LookCell h c) free dead = look_cell_linked h c
  step_linked inside n (LookEra h c seen) free dead = look_era_linked h c seen
  step_linked inside n (LookList h c e) free dead = look_list_linked h c e (own_reservation k w h).list
  step_linked inside n (LookWalk h c b) free dead = handled_linked b _ dead
  step_linked inside n (LookAgain h c) free dead = task_linked _
  step_linked inside n (LookWrite h c e) free dead = worker_linked _ w _ (own_era_linked h e)
  step_linked inside n (DropList h) free dead = worker_linked _ w _ (list_linked h Off)
  step_linked inside n (DropWalk h b) free dead = handled_linked b _ dead
  step_linked inside n (DropEra h) free dead = drop_era_linked h
  step_linked inside n (TryVisit r b aside) free dead = try_visit_linked r b aside (worker k w).batch
  step_linked inside n (TryHang b left hung) free dead = try_hang_linked b left hung (worker k w).batch
  step_linked inside n (TryLast hung) free dead = try_last_linked hung (worker k w).batch dead

  pub turn_linked : (inside : List Bool) (n : ℕ) → Kept k n (turn k inside n w)
  turn_linked inside n = checked_keeps (Kept k n) k (turn_checks k w) (step k inside n w (worker k w).task) (λ _ _ _. o) (λ _. step_linked inside n (worker k w).task)

-- a turn takes a number only where the pool has one
module _ (k : Core) (inside : List Bool) (n w : ℕ) where
  -- a move that takes a number finds one in the pool
  abbrev Finds : Move → Type 0
  Finds m = m.taken ≡ true → 0 < tally inside

  never : false ≡ true → 0 < tally inside
  never e = absurd (false≢true e)

  take_block_finds : Finds (take_block k inside n w)
  take_block_finds =
      by_test Finds (ltb k.live k.form.live) _ _
      (λ _. by_test (λ (r : Result ℕ PoolFault). Finds (took k w r)) (eqb (tally inside) 0) _ _ (λ _. never) (λ e _. grind (arith, nat_tests)))
      (λ _. never)

  take_era_finds : Finds (take_era k w)
  take_era_finds = by_test Finds (eqb (worker k w).takings 0) _ _ (λ _. by_test Finds (eqb k.era 4294967295) _ _ (λ _. never) (λ _. never)) (λ _. never)

  look_list_finds : (h c e : ℕ) (l : HungList) → Finds (look_list k w h c e l)
  look_list_finds h c e Off = never
  look_list_finds h c e Empty = never
  look_list_finds h c e (Newest b) = never

  try_visit_finds : (r b aside : ℕ) (batch : Option Batch) → Finds (try_visit k w r b aside batch)
  try_visit_finds r b aside None = never
  try_visit_finds r b aside (Some batch) = by_test Finds (passed_over (reservation k r) batch.least) _ _ (λ _. never) (λ _. by_test Finds (eqb b batch.lead) _ _ (λ _. never) (λ _. never))

  hang_on_finds : (batch : Batch) (b left hung : ℕ) (l : HungList) → Finds (hang_on k w batch b left hung l)
  hang_on_finds batch b left hung Off = never
  hang_on_finds batch b left hung Empty = never
  hang_on_finds batch b left hung (Newest x) = never

  try_hang_finds : (b left hung : ℕ) (batch : Option Batch) → Finds (try_hang k w b left hung batch)
  try_hang_finds b left hung None = never
  try_hang_finds b left hung (Some batch) = hang_on_finds batch b left hung (reservation k (block k b).slot).list

  try_last_finds : (hung : ℕ) (batch : Option Batch) → Finds (try_last k w hung batch)
  try_last_finds hung None = never
  try_last_finds hung (Some batch) = never

  step_finds : (t : Task) → Finds (step k inside n w t)
  step_finds Idle = never
  step_finds TakeEra = take_era_finds
  step_finds TakeBlock = take_block_finds
  step_finds (LookCell h c) = by_test Finds (readable k (home c)) _ _ (λ _. never) (λ _. never)
  step_finds (LookEra h c seen) = by_test Finds (eqb k.era (own_reservation k w h).era) _ _ (λ _. never) (λ _. never)
  step_finds (LookList h c e) = look_list_finds h c e (own_reservation k w h).list
  step_finds (LookWalk h c b) = never
  step_finds (LookAgain h c) = never
  step_finds (LookWrite h c e) = never
  step_finds (DropList h) = never
  step_finds (DropWalk h b) = never
  step_finds (DropEra h) = by_test Finds (ltb (h + 1) k.form.holds) _ _ (λ _. never) (λ _. never)
  step_finds (TryVisit r b aside) = try_visit_finds r b aside (worker k w).batch
  step_finds (TryHang b left hung) = try_hang_finds b left hung (worker k w).batch
  step_finds (TryLast hung) = try_last_finds hung (worker k w).batch

  pub turn_finds : (turn k inside n w).taken ≡ true → 0 < tally inside
  turn_finds = checked_keeps Finds k (turn_checks k w) (step k inside n w (worker k w).task) (λ _. never) (λ _. step_finds (worker k w).task)

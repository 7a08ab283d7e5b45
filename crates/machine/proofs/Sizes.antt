-- That every call keeps the lengths of a keeper's arrays.
use Rattle.std.proofs.Common.{ℕ, ◌+◌, Bool, eqb, ltb, List, Some, None, Ok, Err, Option, Result}
use Rattle.pools.specs.declared.PoolFault.{PoolFault}
use Rattle.pools.specs.Meaning.{taken}
use Rattle.machine.specs.declared.states.Batch.{Batch}
use Rattle.machine.specs.declared.states.HungList.{HungList}
use Rattle.machine.specs.declared.states.HungList.TheVariants.{Off, Empty, Newest}
use Rattle.machine.specs.declared.states.Task.{Task}
use Rattle.machine.specs.declared.states.Task.TheVariants.{Idle, TakeEra, TakeBlock, LookCell, LookEra, LookList, LookWalk, LookAgain, LookWrite, DropList, DropWalk, DropEra, TryVisit, TryHang, TryLast}
use Rattle.machine.specs.declared.states.Core.{Core}
use Rattle.machine.specs.State.{block, worker, reservation}
use Rattle.machine.specs.Cells.{home}
use Rattle.machine.specs.Moves.{Move}
use Rattle.machine.specs.Taking.{take_era, took, take_block}
use Rattle.machine.specs.Walking.{due, count_down, handled}
use Rattle.machine.specs.Looking.{readable, own_reservation, look_cell, look_era, look_list}
use Rattle.machine.specs.Dropping.{drop_era}
use Rattle.machine.specs.Trying.{passed_over, try_visit, hang_on, try_hang, settled, try_last}
use Rattle.machine.specs.Turns.{turn_checks, step, turn}
use Rattle.machine.specs.Calls.{free_checks, take, look_checks, look, drop, joined, try_due, retiring, retire_checks, retire, relink_checks, relink}
use Rattle.machine.proofs.Passing.{by_test, checked_keeps}
use Rattle.machine.proofs.Bridge.{Sized, sized_era, sized_live, sized_block, sized_worker, sized_task, sized_all_pooled, sized_list, sized_own_era, sized_hung_at, sized_count_down, sized_settled, sized_emptied, sized_batch, sized_shown, sized_counted_up, sized_retired, sized_relinked}

-- the keeper after a move has them
abbrev pub SizedAfter : Move → Type 0
SizedAfter m = Sized m.core

module _ (k : Core) (s : Sized k) (w : ℕ) where
  take_era_sized : SizedAfter (take_era k w)
  take_era_sized =
      by_test SizedAfter (eqb (worker k w).takings 0) _ _
      (λ _. by_test SizedAfter (eqb k.era 4294967295) _ _ (λ _. sized_task k w Idle s) (λ _. sized_counted_up _ w (sized_era k (k.era + 1) s)))
      (λ _. sized_counted_up k w s)

  took_sized : (r : Result ℕ PoolFault) → SizedAfter (took k w r)
  took_sized (Ok b) = sized_live _ _ (sized_block _ b _ (sized_task k w Idle s))
  took_sized (Err fault) = sized_task k w Idle s

  take_block_sized : (inside : List Bool) (n : ℕ) → SizedAfter (take_block k inside n w)
  take_block_sized inside n = by_test SizedAfter (ltb k.live k.form.live) _ _ (λ _. took_sized (taken inside n)) (λ _. sized_task k w Idle s)

  handled_sized : (b : ℕ) (t : Task) → SizedAfter (handled k w b t)
  handled_sized b t = sized_task _ w t (sized_all_pooled (due (count_down k (block k b).lead) (block k b).lead) _ (sized_count_down k (block k b).lead s))

  look_cell_sized : (h c : ℕ) → SizedAfter (look_cell k w h c)
  look_cell_sized h c = by_test SizedAfter (readable k (home c)) _ _ (λ _. sized_task k w _ s) (λ _. sized_task k w Idle s)

  look_era_sized : (h c : ℕ) (seen : Option ℕ) → SizedAfter (look_era k w h c seen)
  look_era_sized h c seen = by_test SizedAfter (eqb k.era (own_reservation k w h).era) _ _ (λ _. sized_shown k w h seen Idle s) (λ _. sized_task k w _ s)

  look_list_sized : (h c e : ℕ) (l : HungList) → SizedAfter (look_list k w h c e l)
  look_list_sized h c e Off = sized_task _ w _ (sized_list k w h Empty s)
  look_list_sized h c e Empty = sized_task k w _ s
  look_list_sized h c e (Newest b) = sized_task _ w _ (sized_list k w h Empty s)

  drop_era_sized : (h : ℕ) → SizedAfter (drop_era k w h)
  drop_era_sized h = by_test SizedAfter (ltb (h + 1) k.form.holds) _ _ (λ _. sized_task _ w _ (sized_own_era k w h 0 s)) (λ _. sized_task _ w Idle (sized_own_era k w h 0 s))

  try_visit_sized : (r b aside : ℕ) (batch : Option Batch) → SizedAfter (try_visit k w r b aside batch)
  try_visit_sized r b aside None = sized_task k w Idle s
  try_visit_sized r b aside (Some batch) =
      by_test SizedAfter (passed_over (reservation k r) batch.least) _ _
      (λ _. sized_task k w _ s)
      (λ _. by_test SizedAfter (eqb b batch.lead) _ _ (λ _. sized_task k w Idle s) (λ _. sized_task _ w _ (sized_block k b _ s)))

  hang_on_sized : (batch : Batch) (b left hung : ℕ) (l : HungList) → SizedAfter (hang_on k w batch b left hung l)
  hang_on_sized batch b left hung Off = sized_task k w _ s
  hang_on_sized batch b left hung Empty = sized_task _ w _ (sized_hung_at k (block k b).slot b None s)
  hang_on_sized batch b left hung (Newest x) = sized_task _ w _ (sized_hung_at k (block k b).slot b (Some x) s)

  try_hang_sized : (b left hung : ℕ) (batch : Option Batch) → SizedAfter (try_hang k w b left hung batch)
  try_hang_sized b left hung None = sized_task k w Idle s
  try_hang_sized b left hung (Some batch) = hang_on_sized batch b left hung (reservation k (block k b).slot).list

  try_last_sized : (hung : ℕ) (batch : Option Batch) → SizedAfter (try_last k w hung batch)
  try_last_sized hung None = sized_task k w Idle s
  try_last_sized hung (Some batch) = sized_emptied _ w (sized_all_pooled (due (settled k batch hung) batch.lead) _ (sized_settled k batch hung s))

  -- a step, by the task
  pub step_sized : (inside : List Bool) (n : ℕ) (t : Task) → SizedAfter (step k inside n w t)
  step_sized inside n Idle = s
  step_sized inside n TakeEra = take_era_sized
  step_sized inside n TakeBlock = take_block_sized inside n
  step_sized inside n (LookCell h c) = look_cell_sized h c
  step_sized inside n (LookEra h c seen) = look_era_sized h c seen
  step_sized inside n (LookList h c e) = look_list_sized h c e (own_reservation k w h).list
  step_sized inside n (LookWalk h c b) = handled_sized b _
  step_sized inside n (LookAgain h c) = sized_task k w _ s
  step_sized inside n (LookWrite h c e) = sized_task _ w _ (sized_own_era k w h e s)
  step_sized inside n (DropList h) = sized_task _ w _ (sized_list k w h Off s)
  step_sized inside n (DropWalk h b) = handled_sized b _
  step_sized inside n (DropEra h) = drop_era_sized h
  step_sized inside n (TryVisit r b aside) = try_visit_sized r b aside (worker k w).batch
  step_sized inside n (TryHang b left hung) = try_hang_sized b left hung (worker k w).batch
  step_sized inside n (TryLast hung) = try_last_sized hung (worker k w).batch

  pub turn_sized : (inside : List Bool) (n : ℕ) → SizedAfter (turn k inside n w)
  turn_sized inside n = checked_keeps SizedAfter k (turn_checks k w) (step k inside n w (worker k w).task) (λ _. s) (λ _. step_sized inside n (worker k w).task)

  -- the other calls
  pub take_sized : SizedAfter (take k w)
  take_sized = checked_keeps SizedAfter k (free_checks k w) _ (λ _. s) (λ _. sized_task k w TakeEra s)

  pub look_sized : (h c : ℕ) → SizedAfter (look k w h c)
  look_sized h c = checked_keeps SizedAfter k (look_checks k w h c) _ (λ _. s) (λ _. sized_shown k w h None (LookCell h c) s)

  pub drop_sized : SizedAfter (drop k w)
  drop_sized = checked_keeps SizedAfter k (free_checks k w) _ (λ _. s) (λ _. sized_worker k w _ s)

  retiring_sized : (b : ℕ) (batch : Batch) → SizedAfter (retiring k w b batch)
  retiring_sized b batch = by_test SizedAfter (try_due k batch) _ _ (λ _. sized_batch _ w batch _ (sized_retired k w b batch s)) (λ _. sized_batch _ w batch Idle (sized_retired k w b batch s))

  pub retire_sized : (b : ℕ) → SizedAfter (retire k w b)
  retire_sized b = checked_keeps SizedAfter k (retire_checks k w b) _ (λ _. s) (λ _. retiring_sized b (joined (worker k w).batch b (block k b).birth))

  pub relink_sized : (c : ℕ) (expected new : Option ℕ) → SizedAfter (relink k w c expected new)
  relink_sized c expected new = checked_keeps SizedAfter k (relink_checks k w c expected new) _ (λ _. s) (λ _. sized_relinked k w c new s)

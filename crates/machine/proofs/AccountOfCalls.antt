-- That the calls but the turn keep the keeper and its account in agreement.
use Rattle.std.proofs.Common.{◌≡◌, ℕ, ◌<◌, ◌≤◌, Bool, true, false, ◌&&◌, List, [], ◌∷◌, length, Err, Option, sym, refl, ap, ◌∙◌, subst, arith}
use Rattle.std.proofs.lemmas.Bool.{false≢true, ltb-true}
use Rattle.machine.specs.declared.calls.Call.{Call}
use Rattle.machine.specs.declared.calls.Call.TheVariants.{Take, Look, Drop, Retire, Relink, Write, Read}
use Rattle.machine.specs.declared.refusals.KeeperFault.{KeeperFault}
use Rattle.machine.specs.declared.refusals.Refusal.{Refusal}
use Rattle.machine.specs.declared.states.Standing.{Standing}
use Rattle.machine.specs.declared.states.Standing.TheVariants.{Pooled, Live, Retired}
use Rattle.machine.specs.declared.states.Batch.{Batch}
use Rattle.machine.specs.declared.states.Task.{Task}
use Rattle.machine.specs.declared.states.Task.TheVariants.{Idle, TakeEra, TakeBlock, LookCell, LookEra, LookList, LookWalk, LookAgain, LookWrite, DropList, DropWalk, DropEra, TryVisit, TryHang, TryLast}
use Rattle.machine.specs.declared.states.Worker.{Worker}
use Rattle.machine.specs.State.{block, worker, with_worker, is_live, live_block}
use Rattle.machine.specs.Moves.{Move}
use Rattle.machine.specs.Turns.{is_idle}
use Rattle.machine.specs.Calls.{is_worker, is_hold, is_cell, is_block, free, free_checks, take, look_checks, look, drop, joined, unlinked, try_due, retiring, retire_checks, retire, relinked, relink_checks, relink}
use Rattle.machine.specs.Machine.{State, Step, stepped, answered, judged, write_checks, written, write, read_checks, found, read}
use Rattle.machine.specs.Account.{nothing, trying, Account, put, noted, without_in, doing_of, Agrees}
use Rattle.machine.proofs.Passing.{by_test, both_left, checked_keeps}
use Rattle.machine.proofs.Standings.{is_pooled, alike_eases, alike_relinked, alike_unlinked, unlinked_long}
use Rattle.machine.proofs.Doings.{Does, goes_doing, turns_doing, relinked_workers, unlinked_workers}
use Rattle.machine.proofs.Sides.{PooledIn, Sides, out_below}
use Rattle.machine.proofs.Agreement.{eased, struck}

-- a worker without a task does nothing
pub idle_nothing : (t : Task) → is_idle t ≡ true → doing_of t ≡ nothing
idle_nothing Idle e = refl
idle_nothing TakeEra e = absurd (false≢true e)
idle_nothing TakeBlock e = absurd (false≢true e)
idle_nothing (LookCell h c) e = absurd (false≢true e)
idle_nothing (LookEra h c seen) e = absurd (false≢true e)
idle_nothing (LookList h c n) e = absurd (false≢true e)
idle_nothing (LookWalk h c b) e = absurd (false≢true e)
idle_nothing (LookAgain h c) e = absurd (false≢true e)
idle_nothing (LookWrite h c n) e = absurd (false≢true e)
idle_nothing (DropList h) e = absurd (false≢true e)
idle_nothing (DropWalk h b) e = absurd (false≢true e)
idle_nothing (DropEra h) e = absurd (false≢true e)
idle_nothing (TryVisit r b aside) e = absurd (false≢true e)
idle_nothing (TryHang b left hung) e = absurd (false≢true e)
idle_nothing (TryLast hung) e = absurd (false≢true e)

-- a live block is not pooled
live_out : (s : Standing) → is_live s ≡ true → is_pooled s ≡ false
live_out Pooled e = sym e
live_out Live e = refl
live_out Retired e = refl

module _ {R : Type 0} (a : Account) (s : State R) (n w : ℕ) (ag : Agrees a s.core) where
  -- a step keeps the agreement
  abbrev pub Fine : Call R → Step R → Type 0
  Fine c x = Sides s.core s.inside n x → Agrees (noted a c x.reply x.to.inside) x.to.core

  -- so does a move of worker w
  abbrev pub FineMove : Call R → Move → Type 0
  FineMove c m = Fine c (stepped s n w m)

  -- an account that hears nothing
  pub same : PooledIn s.core s.inside → Agrees (without_in a s.inside) s.core
  same p = eased a s.core ag s.inside p a.doing s.core s.inside refl p ag.same_doing (alike_eases s.core s.core (λ b. refl))

  -- a worker that there is has its place in the table
  pub placed : (x : Step R) → Sides s.core s.inside n x → is_worker s.core w ≡ true → w < length s.core.workers
  placed x sd e =
      let l = ltb-true w s.core.form.workers e in
      let f = sd.few in
      omega arith

  -- a task begins, of a worker x
  begun : (x : Worker) (t : Step R) → Sides s.core s.inside n t → is_worker s.core w ≡ true → PooledIn (with_worker s.core w x) s.inside
      → Agrees (without_in (record { doing = put a.doing w (doing_of x.task); live = a.live; retired = a.retired }) s.inside) (with_worker s.core w x)
  begun x t sd there later =
      eased a s.core ag s.inside sd.before (put a.doing w (doing_of x.task)) (with_worker s.core w x) s.inside refl later
      (turns_doing a.doing s.core.workers w x ag.same_doing (placed t sd there))
      (alike_eases s.core (with_worker s.core w x) (λ b. refl))

  pub take_fine : FineMove (Take w) (take s.core w)
  take_fine = checked_keeps (FineMove (Take w)) s.core (free_checks s.core w) _ (λ r sd. same sd.before) (λ p sd. begun _ _ sd p.0 sd.later)

  pub look_fine : (h c : ℕ) → FineMove (Look w h c) (look s.core w h c)
  look_fine h c =
      checked_keeps (FineMove (Look w h c)) s.core (look_checks s.core w h c) _ (λ r sd. same sd.before)
      (λ p sd. begun _ _ sd (both_left (is_worker s.core w) (is_hold s.core h) (both_left (is_worker s.core w && is_hold s.core h) (is_cell s.core c) p.0)) sd.later)

  pub drop_fine : FineMove (Drop w) (drop s.core w)
  drop_fine = checked_keeps (FineMove (Drop w)) s.core (free_checks s.core w) _ (λ r sd. same sd.before) (λ p sd. begun _ _ sd p.0 sd.later)

  -- retiring
  unlinked_does : (b : ℕ) → Does a.doing (unlinked s.core b).workers
  unlinked_does b = subst (Does a.doing) (sym (unlinked_workers s.core b)) ag.same_doing

  free_does : is_idle (worker s.core w).task ≡ true → a.doing w ≡ nothing
  free_does e = ag.same_doing w ∙ idle_nothing (worker s.core w).task e

  retiring_fine : (b : ℕ) (batch : Batch) → is_worker s.core w ≡ true → free s.core w ≡ true → live_block s.core b ≡ true → FineMove (Retire w b) (retiring s.core w b batch)
  retiring_fine b batch there idle live =
      by_test (FineMove (Retire w b)) (try_due s.core batch) _ _
      (λ _ sd. struck a s.core ag s.inside sd.before (put a.doing w trying) (unlinked s.core b) _ b _ s.inside refl sd.later
      (turns_doing a.doing (unlinked s.core b).workers w _ (unlinked_does b) (let e = ap length (unlinked_workers s.core b) in let l = placed _ sd there in omega arith))
      (alike_unlinked s.core b) refl (fits sd.before sd.numbers) (out sd.before))
      (λ _ sd. struck a s.core ag s.inside sd.before a.doing (unlinked s.core b) _ b _ s.inside refl sd.later
      (goes_doing a.doing (unlinked s.core b).workers w _ (unlinked_does b) (free_does idle))
      (alike_unlinked s.core b) refl (fits sd.before sd.numbers) (out sd.before))
    where
      out : PooledIn s.core s.inside → b < length s.inside
      out p = out_below s.core s.inside p b (live_out (block s.core b).standing live)

      fits : PooledIn s.core s.inside → length s.inside ≤ length s.core.blocks.rows → b < length (unlinked s.core b).blocks.rows
      fits p le = let l = out p in let long = unlinked_long s.core b in omega arith

  pub retire_fine : (b : ℕ) → FineMove (Retire w b) (retire s.core w b)
  retire_fine b =
      checked_keeps (FineMove (Retire w b)) s.core (retire_checks s.core w b) _ (λ r sd. same sd.before)
      (λ p. retiring_fine b (joined (worker s.core w).batch b (block s.core b).birth) (both_left (is_worker s.core w) (is_block s.core b) p.0) p.1.0 p.1.1.1.0)

  pub relink_fine : (c : ℕ) (expected new : Option ℕ) → FineMove (Relink w c expected new) (relink s.core w c expected new)
  relink_fine c expected new =
      checked_keeps (FineMove (Relink w c expected new)) s.core (relink_checks s.core w c expected new) _ (λ r sd. same sd.before)
      (λ p sd. eased a s.core ag s.inside sd.before a.doing (relinked s.core w c new) s.inside refl sd.later
      (subst (Does a.doing) (sym (relinked_workers s.core w c new)) ag.same_doing)
      (alike_eases s.core (relinked s.core w c new) (alike_relinked s.core w c new)))

  -- a write and a read
  judged_fine : (c : Call R) (cs : List (Bool × Refusal)) (done : Step R) → ((fault : KeeperFault) → Fine c (answered s s.table (Err fault))) → Fine c done → Fine c (judged s w cs done)
  judged_fine c [] done refusing doing = doing
  judged_fine c (x ∷ xs) done refusing doing = by_test (Fine c) x.0 _ _ (λ _. judged_fine c xs done refusing doing) (λ _. refusing _)

  pub write_fine : (b : ℕ) (x : R) → Fine (Write w b x) (write s w b x)
  write_fine b x = judged_fine (Write w b x) (write_checks s w b) (written s b x) (λ fault sd. same sd.before) (λ sd. same sd.before)

  pub read_fine : (h : ℕ) → Fine (Read w h) (read s w h)
  read_fine h = judged_fine (Read w h) (read_checks s w h) (found s w h) (λ fault sd. same sd.before) (λ sd. same sd.before)

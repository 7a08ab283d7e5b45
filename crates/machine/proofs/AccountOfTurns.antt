-- That every turn keeps the keeper and its account in agreement.
use Rattle.std.proofs.Common.{◌≡◌, ℕ, ◌+◌, ◌-◌, ◌<◌, true, false, cond, eqb, ltb, List, [], length, get_or, set, Some, None, Ok, Err, Option, sym, refl, ap, ◌∙◌, subst, arith, length-set}
use Rattle.std.proofs.lemmas.Bool.Decides.{nat_tests}
use Rattle.std.proofs.lemmas.Bool.{cond-false}
use Rattle.std.specs.Option.{option_map}
use Rattle.pools.specs.declared.PoolFault.TheVariants.{NoneIn}
use Rattle.pools.specs.Counts.{tally}
use Rattle.pools.specs.CountsLemmas.{in_below}
use Rattle.machine.specs.declared.calls.Call.TheVariants.{Turn}
use Rattle.machine.specs.declared.calls.Value.TheVariants.{Block}
use Rattle.machine.specs.declared.refusals.Refusal.{Refusal}
use Rattle.machine.specs.declared.states.Batch.{Batch}
use Rattle.machine.specs.declared.states.Block.{Block as Row}
use Rattle.machine.specs.declared.states.HungList.{HungList}
use Rattle.machine.specs.declared.states.HungList.TheVariants.{Off, Empty, Newest}
use Rattle.machine.specs.declared.states.Task.{Task}
use Rattle.machine.specs.declared.states.Task.TheVariants.{Idle, TakeEra, TakeBlock, LookCell, LookEra, LookList, LookWalk, LookAgain, LookWrite, DropList, DropWalk, DropEra, TryVisit, TryHang, TryLast}
use Rattle.machine.specs.declared.states.Worker.{Worker}
use Rattle.machine.specs.declared.states.Core.{Core}
use Rattle.machine.specs.State.{block, worker, reservation, with_era, with_block, with_worker, with_task, idle}
use Rattle.machine.specs.Cells.{home}
use Rattle.machine.specs.Moves.{Move, refused}
use Rattle.machine.specs.Taking.{take_era, taken_block, took, take_block}
use Rattle.machine.specs.Walking.{all_pooled, due, with_count, count_down, handled}
use Rattle.machine.specs.Looking.{readable, own_reservation, with_list, with_own_era, with_shown, look_cell, look_era, look_list, look_on}
use Rattle.machine.specs.Dropping.{drop_task, drop_on, drop_era}
use Rattle.machine.specs.Trying.{hangings, visited, passed_over, places, try_visit, hanged, hang_on, hung_at, try_hang, settled, with_slot, with_under, try_last}
use Rattle.machine.specs.Turns.{step, turn}
use Rattle.machine.specs.Calls.{is_worker}
use Rattle.machine.specs.Machine.{State}
use Rattle.machine.specs.Account.{nothing, taking, looking, dropping, trying, Account, put, now_does, was_taken, is_taking, with_value, ends_task, without_in, doing_of, Agrees}
use Rattle.machine.proofs.Passing.{by_test}
use Rattle.machine.proofs.Standings.{AllRetired, Eases, alike_eases, alike_block, eases_pooled}
use Rattle.machine.proofs.Doings.{Does, goes_doing, turns_doing, all_pooled_workers}
use Rattle.machine.proofs.Bridge.{gained_all_long}
use Rattle.machine.proofs.Agreement.{eased, struck}
use Rattle.machine.proofs.AccountOfCalls.{FineMove, same, placed}

-- the tasks that a task leads to are of its kind
look_on_looks : (h c : ℕ) (x : Option ℕ) → looking h ≡ doing_of (look_on h c x)
look_on_looks h c None = refl
look_on_looks h c (Some b) = refl

drop_task_drops : (h : ℕ) (l : HungList) → dropping ≡ doing_of (drop_task h l)
drop_task_drops h Off = refl
drop_task_drops h Empty = refl
drop_task_drops h (Newest b) = refl

drop_on_drops : (h : ℕ) (x : Option ℕ) → dropping ≡ doing_of (drop_on h x)
drop_on_drops h None = refl
drop_on_drops h (Some b) = refl

hangings_try : (batch : Batch) (aside : ℕ) → trying ≡ doing_of (hangings batch aside)
hangings_try batch aside = by_test (λ t. trying ≡ doing_of t) (eqb aside 0) _ _ (λ _. refl) (λ _. refl)

visited_tries : (k : Core) (batch : Batch) (r b aside : ℕ) → trying ≡ doing_of (visited k batch r b aside)
visited_tries k batch r b aside = by_test (λ t. trying ≡ doing_of t) (ltb (r + 1) (places k)) _ _ (λ _. refl) (λ _. hangings_try batch aside)

hanged_tries : (k : Core) (batch : Batch) (b left hung : ℕ) → trying ≡ doing_of (hanged k batch b left hung)
hanged_tries k batch b left hung = by_test (λ t. trying ≡ doing_of t) (ltb 1 left) _ _ (λ _. refl) (λ _. refl)

module _ {R : Type 0} (a : Account) (s : State R) (n w : ℕ) (ag : Agrees a s.core) (there : is_worker s.core w ≡ true) where
  abbrev Turned : Move → Type 0
  Turned m = FineMove a s n w ag (Turn w) m

  -- the workers' doings where worker w goes on, and where it does nothing any more
  on : (l : Core) (x : Worker) → l.workers ≡ s.core.workers → a.doing w ≡ doing_of x.task → Does a.doing (set l.workers w x)
  on l x e d = goes_doing a.doing l.workers w x (subst (Does a.doing) (sym e) ag.same_doing) d

  off : (l : Core) (x : Worker) → l.workers ≡ s.core.workers → nothing ≡ doing_of x.task → w < length s.core.workers → Does (put a.doing w nothing) (set l.workers w x)
  off l x e d lt =
      subst (λ y. Does (put a.doing w y) (set l.workers w x)) (sym d)
      (turns_doing a.doing l.workers w x (subst (Does a.doing) (sym e) ag.same_doing) (subst (λ (ws : List Worker). w < length ws) (sym e) lt))

  -- no standing changes
  unmoved : Eases s.core s.core
  unmoved = alike_eases s.core s.core (λ b. refl)

  -- block b changes, but not its standing
  restyled : (b : ℕ) (x : Row) → x.standing ≡ (block s.core b).standing → Eases s.core (with_block s.core b x)
  restyled b x e = alike_eases s.core (with_block s.core b x) (alike_block s.core s.core b x (λ b. refl) e)

  -- a turn after which the task goes on
  goes : (l : Core) (x : Worker) (back : List ℕ) → l.workers ≡ s.core.workers → a.doing w ≡ doing_of x.task → (AllRetired s.core back → Eases s.core l)
      → Turned (record { core = with_worker l w x; taken = false; given = back; answer = Ok (true, None) })
  goes l x back e d eases sd =
      eased a s.core ag s.inside sd.before a.doing (with_worker l w x) _ (gained_all_long back s.inside) sd.later (on l x e d) (eases sd.back)

  -- a turn after which it has ended
  stops : (l : Core) (x : Worker) (back : List ℕ) → l.workers ≡ s.core.workers → nothing ≡ doing_of x.task → (AllRetired s.core back → Eases s.core l)
      → Turned (record { core = with_worker l w x; taken = false; given = back; answer = Ok (false, None) })
  stops l x back e d eases sd =
      eased a s.core ag s.inside sd.before (put a.doing w nothing) (with_worker l w x) _ (gained_all_long back s.inside) sd.later
      (off l x e d (placed a s n w ag _ sd there)) (eases sd.back)

  -- a turn that is refused
  fails : (r : Refusal) → ends_task r ≡ true → Turned (refused (idle s.core w) r)
  fails r e sd =
      subst (λ t. Agrees (without_in (cond t (now_does a w nothing) a) s.inside) (idle s.core w)) (sym e)
      (eased a s.core ag s.inside sd.before (put a.doing w nothing) (idle s.core w) s.inside refl sd.later
      (off s.core _ refl refl (placed a s n w ag _ sd there)) unmoved)

  -- taking
  take_era_fine : a.doing w ≡ taking → Turned (take_era s.core w)
  take_era_fine d =
      by_test Turned (eqb (worker s.core w).takings 0) _ _
      (λ _. by_test Turned (eqb s.core.era 4294967295) _ _
      (λ _. fails _ refl)
      (λ _. goes (with_era s.core (s.core.era + 1)) _ [] refl d (λ _. unmoved)))
      (λ _. goes s.core _ [] refl d (λ _. unmoved))

  took_fine : a.doing w ≡ taking → (eqb (tally s.inside) 0) ≡ false → Turned (took s.core w (Ok n))
  took_fine d some sd =
      let handed : get_or s.inside n false ≡ true = sd.chosen (grind (arith, nat_tests)) in
      let below = in_below s.inside n handed in
      let numbers = sd.numbers in
      subst (λ t. Agrees (without_in (now_does (cond t (was_taken a n) a) w nothing) (set s.inside n false)) (took s.core w (Ok n)).core) (sym (ap is_taking d))
      (struck a s.core ag s.inside sd.before (put a.doing w nothing) (idle s.core w) (took s.core w (Ok n)).core n (taken_block (block s.core n) s.core.era w) (set s.inside n false) (length-set s.inside n false) sd.later
      (off s.core _ refl refl (placed a s n w ag _ sd there)) (λ b. refl) refl (omega arith) below)

  take_block_fine : a.doing w ≡ taking → Turned (take_block s.core s.inside n w)
  take_block_fine d =
      by_test Turned (ltb s.core.live s.core.form.live) _ _
      (λ _. by_test (λ r. Turned (took s.core w r)) (eqb (tally s.inside) 0) (Err NoneIn) (Ok n) (λ _. fails _ refl) (λ e. took_fine d e))
      (λ _. fails _ refl)

  -- walking
  handled_fine : (b : ℕ) (t : Task) → a.doing w ≡ doing_of t → Turned (handled s.core w b t)
  handled_fine b t d =
      let lead = (block s.core b).lead in
      let back = due (count_down s.core lead) lead in
      goes (all_pooled (count_down s.core lead) back) _ back (all_pooled_workers back (count_down s.core lead)) d
      (λ r. eases_pooled back s.core (count_down s.core lead) r (restyled lead (with_count (block s.core lead) ((block s.core lead).count - 1) (block s.core lead).newest) refl))

  -- looking
  look_cell_fine : (h c : ℕ) → a.doing w ≡ looking h → Turned (look_cell s.core w h c)
  look_cell_fine h c d = by_test Turned (readable s.core (home c)) _ _ (λ _. goes s.core _ [] refl d (λ _. unmoved)) (λ _. fails _ refl)

  no_taking : (v : Option ℕ) → is_taking (a.doing w) ≡ false → with_value {R = R} a (a.doing w) (option_map Block v) ≡ a
  no_taking None e = refl
  no_taking (Some b) e = cond-false (is_taking (a.doing w)) (was_taken a b) a e

  look_era_fine : (h c : ℕ) (seen : Option ℕ) → a.doing w ≡ looking h → Turned (look_era s.core w h c seen)
  look_era_fine h c seen d =
      by_test Turned (eqb s.core.era (own_reservation s.core w h).era) _ _
      (λ _ sd. subst (λ x. Agrees (without_in (now_does x w nothing) s.inside) (with_shown s.core w h seen Idle)) (sym (no_taking seen (ap is_taking d)))
      (eased a s.core ag s.inside sd.before (put a.doing w nothing) (with_shown s.core w h seen Idle) s.inside refl sd.later
      (off s.core _ refl refl (placed a s n w ag _ sd there)) unmoved))
      (λ _. goes s.core _ [] refl d (λ _. unmoved))

  look_list_fine : (h c e : ℕ) (l : HungList) → a.doing w ≡ looking h → Turned (look_list s.core w h c e l)
  look_list_fine h c e Off d = goes (with_list s.core w h Empty) _ [] refl d (λ _. unmoved)
  look_list_fine h c e Empty d = goes s.core _ [] refl d (λ _. unmoved)
  look_list_fine h c e (Newest b) d = goes (with_list s.core w h Empty) _ [] refl d (λ _. unmoved)

  -- dropping
  drop_era_fine : (h : ℕ) → a.doing w ≡ dropping → Turned (drop_era s.core w h)
  drop_era_fine h d =
      by_test Turned (ltb (h + 1) s.core.form.holds) _ _
      (λ _. goes (with_own_era s.core w h 0) _ [] refl d (λ _. unmoved))
      (λ _. stops (with_own_era s.core w h 0) _ [] refl refl (λ _. unmoved))

  -- trying
  try_visit_fine : (r b aside : ℕ) (batch : Option Batch) → a.doing w ≡ trying → Turned (try_visit s.core w r b aside batch)
  try_visit_fine r b aside None d = stops s.core _ [] refl refl (λ _. unmoved)
  try_visit_fine r b aside (Some batch) d =
      by_test Turned (passed_over (reservation s.core r) batch.least) _ _
      (λ _. goes s.core _ [] refl (d ∙ visited_tries s.core batch r b aside) (λ _. unmoved))
      (λ _. by_test Turned (eqb b batch.lead) _ _
      (λ _. stops s.core _ [] refl refl (λ _. unmoved))
      (λ _. goes (with_block s.core b (with_slot (block s.core b) r)) _ [] refl (d ∙ visited_tries s.core batch r _ (aside + 1)) (λ _. restyled b (with_slot (block s.core b) r) refl)))

  hung_fine : (batch : Batch) (b left hung : ℕ) (under : Option ℕ) → a.doing w ≡ trying
      → Turned (record { core = with_task (hung_at s.core (block s.core b).slot b under) w (hanged s.core batch b left (hung + 1)); taken = false; given = []; answer = Ok (true, None) })
  hung_fine batch b left hung under d =
      goes (hung_at s.core (block s.core b).slot b under) _ [] refl (d ∙ hanged_tries s.core batch b left (hung + 1))
      (λ _. restyled b (with_under (block s.core b) under) refl)

  hang_on_fine : (batch : Batch) (b left hung : ℕ) (l : HungList) → a.doing w ≡ trying → Turned (hang_on s.core w batch b left hung l)
  hang_on_fine batch b left hung Off d = goes s.core _ [] refl (d ∙ hanged_tries s.core batch b left hung) (λ _. unmoved)
  hang_on_fine batch b left hung Empty d = hung_fine batch b left hung None d
  hang_on_fine batch b left hung (Newest x) d = hung_fine batch b left hung (Some x) d

  try_hang_fine : (b left hung : ℕ) (batch : Option Batch) → a.doing w ≡ trying → Turned (try_hang s.core w b left hung batch)
  try_hang_fine b left hung None d = stops s.core _ [] refl refl (λ _. unmoved)
  try_hang_fine b left hung (Some batch) d = hang_on_fine batch b left hung (reservation s.core (block s.core b).slot).list d

  try_last_fine : (hung : ℕ) (batch : Option Batch) → Turned (try_last s.core w hung batch)
  try_last_fine hung None = stops s.core _ [] refl refl (λ _. unmoved)
  try_last_fine hung (Some batch) =
      let l = settled s.core batch hung in
      let back = due l batch.lead in
      stops (all_pooled l back) _ back (all_pooled_workers back l) refl
      (λ r. eases_pooled back s.core l r (restyled batch.lead (with_count (block s.core batch.lead) ((block s.core batch.lead).count + hung - 1024) batch.newest) refl))

  -- a step, by the task
  step_fine : (t : Task) → a.doing w ≡ doing_of t → Turned (step s.core s.inside n w t)
  step_fine Idle d = λ sd. same a s n w ag sd.before
  step_fine TakeEra d = take_era_fine d
  step_fine TakeBlock d = take_block_fine d
  step_fine (LookCell h c) d = look_cell_fine h c d
  step_fine (LookEra h c seen) d = look_era_fine h c seen d
  step_fine (LookList h c e) d = look_list_fine h c e (own_reservation s.core w h).list d
  step_fine (LookWalk h c b) d = handled_fine b _ (d ∙ look_on_looks h c (block s.core b).under)
  step_fine (LookAgain h c) d = goes s.core _ [] refl d (λ _. unmoved)
  step_fine (LookWrite h c e) d = goes (with_own_era s.core w h e) _ [] refl d (λ _. unmoved)
  step_fine (DropList h) d = goes (with_list s.core w h Off) _ [] refl (d ∙ drop_task_drops h (own_reservation s.core w h).list) (λ _. unmoved)
  step_fine (DropWalk h b) d = handled_fine b _ (d ∙ drop_on_drops h (block s.core b).under)
  step_fine (DropEra h) d = drop_era_fine h d
  step_fine (TryVisit r b aside) d = try_visit_fine r b aside (worker s.core w).batch d
  step_fine (TryHang b left hung) d = try_hang_fine b left hung (worker s.core w).batch d
  step_fine (TryLast hung) d = try_last_fine hung (worker s.core w).batch

-- a turn
pub turn_fine : {R : Type 0} (a : Account) (s : State R) (n w : ℕ) (ag : Agrees a s.core) → FineMove a s n w ag (Turn w) (turn s.core s.inside n w)
turn_fine a s n w ag =
    by_test (FineMove a s n w ag (Turn w)) (is_worker s.core w) _ _
    (λ there. step_fine a s n w ag there (worker s.core w).task (ag.same_doing w))
    (λ _ sd. same a s n w ag sd.before)

-- That every turn keeps batches, lists, walks and counts sound.
use Rattle.std.proofs.Common.{◌≡◌, ℕ, ◌+◌, ◌-◌, ◌*◌, ◌<◌, Bool, true, false, cond, eqb, ltb, ◌≢◌, List, [], ◌∷◌, length, Some, None, Ok, Err, Option, Result, unwrap_or, sym, refl, ap, ◌∙◌, subst, inl, arith, length-set}
use Rattle.std.proofs.lemmas.Bool.Decides.{nat_tests}
use Rattle.figures.specs.Limits.{Fit}
use Rattle.figures.specs.declared.limits.Form.{Form}
use Rattle.pools.specs.CountsLemmas.{in_below}
use Rattle.pools.specs.Counts.{tally}
use Rattle.pools.specs.Meaning.{taken}
use Rattle.pools.specs.declared.PoolFault.{PoolFault}
use Rattle.machine.specs.declared.states.Batch.{Batch}
use Rattle.machine.specs.declared.states.HungList.{HungList}
use Rattle.machine.specs.declared.states.HungList.TheVariants.{Off, Empty, Newest}
use Rattle.machine.specs.declared.states.Task.{Task}
use Rattle.machine.specs.declared.states.Task.TheVariants.{Idle, TakeEra, TakeBlock, LookCell, LookEra, LookList, LookWalk, LookAgain, LookWrite, DropList, DropWalk, DropEra, TryVisit, TryHang, TryLast}
use Rattle.machine.specs.declared.states.Core.{Core}
use Rattle.machine.specs.State.{block, worker, reservation, with_era, with_task}
use Rattle.machine.specs.Cells.{home, held}
use Rattle.machine.specs.Runs.{Chosen}
use Rattle.machine.specs.Moves.{Move}
use Rattle.machine.specs.Taking.{take_era, took, take_block}
use Rattle.machine.specs.Looking.{readable, own_reservation, with_own_era, look_list, look_on}
use Rattle.machine.specs.Dropping.{drop_list, drop_on, drop_era}
use Rattle.machine.specs.Trying.{passed_over, with_slot, block_after, visited, try_visit, hung_at, hanged, hang_on, try_hang, try_last}
use Rattle.machine.specs.Walking.{handled}
use Rattle.machine.specs.Turns.{turn_checks, step, turn}
use Rattle.machine.specs.Eras.{InTime, InOrder}
use Rattle.machine.proofs.Passing.{by_test, checked_keeps}
use Rattle.machine.proofs.Sums.{upd, tot}
use Rattle.machine.proofs.Mirror.{view, retask, relist, reunder}
use Rattle.machine.proofs.Sound.{Gh, Sound, TaskRight, Alive, head, next, hung_of}
use Rattle.machine.proofs.Sound as sound
use Rattle.machine.proofs.Bridge.{sized_live, Sized, sized_task, sized_era, sized_block, sized_own_era, sized_counted_up, sized_shown, sized_hung_at, view_task, view_slot, view_own_era, view_counted_up, view_shown, view_hung_at, view_took}
use Rattle.machine.proofs.TaskKept.{retask_kept, due_of_same}
use Rattle.machine.proofs.VisitKept.{visited_of, passed_kept, aside_kept}
use Rattle.machine.proofs.HangKept.{hang_info, hang_batch, hang_place, hang_next, hang_follows, skip_sound, hang_sound}
use Rattle.machine.proofs.TakeKept.{take_kept}
use Rattle.machine.proofs.StepsSound.{reservations, Good, WholeBatch, Leaves, few_workers, few_places, few_blocks, seen_as, retasks, detaches, retired_below, handles, lasts}

module _ (form : Form) (fit : Fit form) (k : Core) (inside : List Bool) (n : ℕ) (sz : Sized k) (long : length inside ≡ form.blocks) (same_form : k.form ≡ form) (g : Gh)
    (c : Sound form.blocks (reservations form) form.workers (view k inside) g) (al : Alive (view k inside)) (w : ℕ) (hw : w < form.workers) (chosen : Chosen inside n) where
  w8 : w < 8
  w8 = few_workers form fit w hw

  -- a task that neither walks nor tries, in place of another such
  plain : (k' : Core) (t u : Task) → (worker k w).task ≡ u → Sized k' → view k' inside ≡ retask (view k inside) w t → next t ≡ next u → ((ms rs : List ℕ) → sound.due t ms rs ≡ sound.due u ms rs) → hung_of t ≡ hung_of u
      → TaskRight (reservations form) (λ b. (block k b).elder) g.members (worker k w).batch (g.rest w) t → Good form k' inside
  plain = retasks form fit k inside sz long same_form g c al w hw

  to_task : (t : Task) → view (with_task k w t) inside ≡ retask (view k inside) w t
  to_task t = view_task k inside w t sz w8

  -- taking
  take_era_sound : (worker k w).task ≡ TakeEra → Leaves form inside n (take_era k w)
  take_era_sound e =
      by_test (Leaves form inside n) (eqb (worker k w).takings 0) _ _
      (λ _. by_test (Leaves form inside n) (eqb k.era 4294967295) _ _
      (λ _. plain _ Idle TakeEra e (sized_task k w Idle sz) (to_task Idle) refl (λ _ _. refl) refl tt)
      (λ _. plain _ TakeBlock TakeEra e (sized_counted_up _ w (sized_era k (k.era + 1) sz)) (view_counted_up (with_era k (k.era + 1)) inside w (sized_era k (k.era + 1) sz) w8) refl (λ _ _. refl) refl tt))
      (λ _. plain _ TakeBlock TakeEra e (sized_counted_up k w sz) (view_counted_up k inside w sz w8) refl (λ _ _. refl) refl tt)

  took_sound : (worker k w).task ≡ TakeBlock → 0 < tally inside → Leaves form inside n (took k w (Ok n))
  took_sound e some =
      let ins = chosen some in
      let lt = in_below inside n ins in
      let lt' : n < 2048 = omega (arith, few_blocks form fit) in
      let idled = retask_kept _ _ _ (view k inside) g c w hw Idle (g.rest w) (sym (ap next e))
      (λ p. let q = ap (λ xs. tot p xs) (due_of_same g.members (g.rest w) (worker k w).batch Idle (worker k w).task (λ ms rs. ap (λ x. sound.due x ms rs) (sym e))) in omega arith)
      (sym (ap hung_of e)) tt in
      let h : Gh = record { hung = g.hung; walk = g.walk; members = g.members; rest = upd g.rest w (g.rest w) } in
      let t = take_kept _ _ _ (retask (view k inside) w Idle) h idled n (omega arith) ins in
      let v = view_took k inside w n sz w8 lt' lt in
      (sized_live _ _ (sized_block _ n _ (sized_task k w Idle sz)), length-set inside n false ∙ long, h, subst (λ x. Sound form.blocks (reservations form) form.workers x h) (sym v) t.0, subst Alive (sym v) (t.1 al))

  take_block_sound : (worker k w).task ≡ TakeBlock → Leaves form inside n (take_block k inside n w)
  take_block_sound e =
      let stops = plain _ Idle TakeBlock e (sized_task k w Idle sz) (to_task Idle) refl (λ _ _. refl) refl tt in
      by_test (Leaves form inside n) (ltb k.live k.form.live) _ _
      (λ _. by_test (λ (r : Result ℕ PoolFault). Leaves form inside n (took k w r)) (eqb (tally inside) 0) _ _ (λ _. stops) (λ ne. took_sound e (grind (arith, nat_tests))))
      (λ _. stops)

  -- looking
  look_list_sound : (h x e : ℕ) → (worker k w).task ≡ LookList h x e → h < form.holds → (l : HungList) → (own_reservation k w h).list ≡ l → Leaves form inside n (look_list k w h x e l)
  look_list_sound h x e te hh Off le = detaches form fit k inside sz long same_form g c al w hw (LookAgain h x) (LookList h x e) h Empty te hh refl refl (sym (ap head le)) (λ _ _. refl) refl tt
  look_list_sound h x e te hh Empty le = plain _ (LookWrite h x e) (LookList h x e) te (sized_task k w _ sz) (to_task _) refl (λ _ _. refl) refl tt
  look_list_sound h x e te hh (Newest b) le = detaches form fit k inside sz long same_form g c al w hw (LookWalk h x b) (LookList h x e) h Empty te hh refl refl (sym (ap head le)) (λ _ _. refl) refl tt

  look_on_sound : (h x b : ℕ) → (worker k w).task ≡ LookWalk h x b → (o : Option ℕ) → (block k b).under ≡ o → Leaves form inside n (handled k w b (look_on h x o))
  look_on_sound h x b te None oe = (handles form fit k inside sz long same_form g c al w hw b (LookAgain h x) (ap next te) (sym oe) (λ _ _. refl) refl tt).0
  look_on_sound h x b te (Some d) oe = (handles form fit k inside sz long same_form g c al w hw b (LookWalk h x d) (ap next te) (sym oe) (λ _ _. refl) refl tt).0

  -- dropping
  drop_list_sound : (h : ℕ) → (worker k w).task ≡ DropList h → h < form.holds → (l : HungList) → (own_reservation k w h).list ≡ l → Leaves form inside n (drop_list k w h l)
  drop_list_sound h te hh Off le = detaches form fit k inside sz long same_form g c al w hw (DropEra h) (DropList h) h Off te hh refl refl (sym (ap head le)) (λ _ _. refl) refl tt
  drop_list_sound h te hh Empty le = detaches form fit k inside sz long same_form g c al w hw (DropEra h) (DropList h) h Off te hh refl refl (sym (ap head le)) (λ _ _. refl) refl tt
  drop_list_sound h te hh (Newest b) le = detaches form fit k inside sz long same_form g c al w hw (DropWalk h b) (DropList h) h Off te hh refl refl (sym (ap head le)) (λ _ _. refl) refl tt

  drop_on_sound : (h b : ℕ) → (worker k w).task ≡ DropWalk h b → (o : Option ℕ) → (block k b).under ≡ o → Leaves form inside n (handled k w b (drop_on h o))
  drop_on_sound h b te None oe = (handles form fit k inside sz long same_form g c al w hw b (DropEra h) (ap next te) (sym oe) (λ _ _. refl) refl tt).0
  drop_on_sound h b te (Some d) oe = (handles form fit k inside sz long same_form g c al w hw b (DropWalk h d) (ap next te) (sym oe) (λ _ _. refl) refl tt).0

  drop_era_sound : (h : ℕ) → (worker k w).task ≡ DropEra h → Leaves form inside n (drop_era k w h)
  drop_era_sound h te =
      let sz' = sized_own_era k w h 0 sz in
      let shown : (t : Task) → view (with_task (with_own_era k w h 0) w t) inside ≡ retask (view k inside) w t = λ t. view_task (with_own_era k w h 0) inside w t sz' w8 ∙ ap (λ x. retask x w t) (view_own_era k inside w h 0) in
      by_test (Leaves form inside n) (ltb (h + 1) k.form.holds) _ _
      (λ _. plain _ (DropList (h + 1)) (DropEra h) te (sized_task _ w _ sz') (shown _) refl (λ _ _. refl) refl tt)
      (λ _. plain _ Idle (DropEra h) te (sized_task _ w _ sz') (shown _) refl (λ _ _. refl) refl tt)

  -- trying
  visited_same : (x : Batch) (r b aside : ℕ) → visited k x r b aside ≡ visited_of (reservations form) x r b aside
  visited_same x r b aside = ap (λ (f : Form). visited_of (f.workers * f.holds) x r b aside) same_form

  try_visit_sound : (r b aside : ℕ) → (worker k w).task ≡ TryVisit r b aside → (o : Option Batch) → (worker k w).batch ≡ o → Leaves form inside n (try_visit k w r b aside o)
  try_visit_sound r b aside te None oe = plain _ Idle (TryVisit r b aside) te (sized_task k w Idle sz) (to_task Idle) refl (λ _ _. refl) refl tt
  try_visit_sound r b aside te (Some x) oe =
      by_test (Leaves form inside n) (passed_over (reservation k r) x.least) _ _
      (λ _.
      let p = passed_kept _ _ _ (view k inside) g c w hw x oe r b aside te in
      seen_as form fit k inside sz long same_form g c al w hw _ _ (sized_task k w _ sz) (to_task (visited k x r b aside) ∙ ap (retask (view k inside) w) (visited_same x r b aside)) _ p.1 al)
      (λ _. by_test (Leaves form inside n) (eqb b x.lead) _ _
      (λ _. plain _ Idle (TryVisit r b aside) te (sized_task k w Idle sz) (to_task Idle) refl (λ _ _. refl) refl tt)
      (λ ne.
      let p = aside_kept _ _ _ (view k inside) g c w hw x oe r b aside te (λ i. let z : eqb b x.lead ≡ true = grind (arith, nat_tests) in let f : ◌≡◌ {A = ℕ} 0 1 = cc in omega arith) in
      let sz' = sized_block k b (with_slot (block k b) r) sz in
      let after : block_after k x b ≡ p.0 = ap (λ o. unwrap_or o x.lead) p.1 in
      let t : Task = visited k x r (block_after k x b) (aside + 1) in
      let te' : t ≡ visited_of (reservations form) x r p.0 (aside + 1) = visited_same x r (block_after k x b) (aside + 1) ∙ ap (λ d. visited_of (reservations form) x r d (aside + 1)) after in
      seen_as form fit k inside sz long same_form g c al w hw _ _ (sized_task _ w _ sz') (view_task _ inside w t sz' w8 ∙ ap (λ v. retask v w t) (view_slot k inside b r) ∙ ap (retask (view k inside) w) te') _ p.2.1 al))

  no_batch : (x : Batch) → (worker k w).batch ≡ Some x → (worker k w).batch ≡ None → ⊥
  no_batch x a b = let f : ◌≡◌ {A = ℕ} 0 1 = cc in omega arith

  module _ (b left hung : ℕ) (te : (worker k w).task ≡ TryHang b left hung) where
    info : (x : Batch) × ((worker k w).batch ≡ Some x) × (bs : List ℕ) × (g.rest w ≡ b ∷ bs)
    info = let i = hang_info _ _ _ (view k inside) g c (few_places form fit) w hw b left hung te in (i.0, i.1, i.2, i.3)

    b_below : b < 2048
    b_below =
        let r = hang_batch _ _ _ (view k inside) g c (few_places form fit) w hw b left hung te in
        let lt = retired_below form fit k inside sz long same_form g c al w hw b r.2 in
        omega (arith, few_blocks form fit)

    after_it : (x : Batch) → (d : ℕ) × ((block k b).elder ≡ Some d) × (block_after k x b ≡ d)
    after_it x =
        let i = info in
        let d = hang_next _ _ _ (view k inside) g c (few_places form fit) w hw b left hung te i.2 i.3 in
        (d.0, d.2, ap (λ o. unwrap_or o x.lead) d.2)

    -- a block whose list is not off is hung
    hung_sound : (x : Batch) (o : Option ℕ) → o ≡ head (reservation k (block k b).slot).list → (reservation k (block k b).slot).list ≢ Off
        → Good form (with_task (hung_at k (block k b).slot b o) w (hanged k x b left (hung + 1))) inside
    hung_sound x o oe on =
        let i = info in
        let a = after_it x in
        let r = (block k b).slot in
        let hr = hang_place _ _ _ (view k inside) g c (few_places form fit) w hw b left hung te r on in
        let f = hang_follows _ _ _ (view k inside) g c (few_places form fit) w hw b left hung te i.2 i.3 a.0 (hung + 1) a.1 (omega arith) in
        let t : Task = cond (ltb 1 left) (TryHang a.0 (left - 1) (hung + 1)) (TryLast (hung + 1)) in
        let h = hang_sound _ _ _ (view k inside) g c (few_places form fit) w hw b left hung te i.2 i.3 t f.0 f.2 f.3 r hr f.1 in
        let sz' = sized_hung_at k r b o sz in
        let hr32 : r < 32 = omega (arith, few_places form fit) in
        seen_as form fit k inside sz long same_form g c al w hw _ _ (sized_task _ w _ sz')
        (view_task _ inside w _ sz' w8 ∙ ap (λ v. retask v w (hanged k x b left (hung + 1))) (view_hung_at k inside r b o sz hr32 b_below ∙ ap (λ y. relist (reunder (view k inside) b y) r (Newest b)) oe)
        ∙ ap (λ d. retask (relist (reunder (view k inside) b (head (reservation k r).list)) r (Newest b)) w (cond (ltb 1 left) (TryHang d (left - 1) (hung + 1)) (TryLast (hung + 1)))) a.2)
        _ h al

    hang_on_sound : (x : Batch) (l : HungList) → (reservation k (block k b).slot).list ≡ l → Leaves form inside n (hang_on k w x b left hung l)
    hang_on_sound x Off le =
        let i = info in
        let a = after_it x in
        let f = hang_follows _ _ _ (view k inside) g c (few_places form fit) w hw b left hung te i.2 i.3 a.0 hung a.1 (omega arith) in
        let t : Task = cond (ltb 1 left) (TryHang a.0 (left - 1) hung) (TryLast hung) in
        let h = skip_sound _ _ _ (view k inside) g c (few_places form fit) w hw b left hung te i.2 i.3 t f.0 f.2 f.3 f.1 in
        seen_as form fit k inside sz long same_form g c al w hw _ _ (sized_task k w _ sz) (to_task (hanged k x b left hung) ∙ ap (λ d. retask (view k inside) w (cond (ltb 1 left) (TryHang d (left - 1) hung) (TryLast hung))) a.2) _ h al
    hang_on_sound x Empty le = hung_sound x None (sym (ap head le)) (λ z. let f : ◌≡◌ {A = ℕ} 0 1 = cc in omega arith)
    hang_on_sound x (Newest y) le = hung_sound x (Some y) (sym (ap head le)) (λ z. let f : ◌≡◌ {A = ℕ} 0 1 = cc in omega arith)

    try_hang_sound : (o : Option Batch) → (worker k w).batch ≡ o → Leaves form inside n (try_hang k w b left hung o)
    try_hang_sound None oe = absurd (no_batch info.0 info.1 oe)
    try_hang_sound (Some x) oe = hang_on_sound x (reservation k (block k b).slot).list refl

  try_last_sound : (hung : ℕ) → (worker k w).task ≡ TryLast hung → (o : Option Batch) → (worker k w).batch ≡ o → Leaves form inside n (try_last k w hung o)
  try_last_sound hung te None oe =
      absurd (let r : TaskRight (reservations form) (λ b. (block k b).elder) g.members (worker k w).batch (g.rest w) (TryLast hung) = subst (TaskRight (reservations form) (λ b. (block k b).elder) g.members (worker k w).batch (g.rest w)) te (c.tasks w hw) in no_batch r.0 r.1 oe)
  try_last_sound hung te (Some x) oe = (lasts form fit k inside sz long same_form g c al w hw hung x te oe).0

  -- a step, by the task
  step_sound : (t : Task) → (worker k w).task ≡ t → InTime form.holds k.era t → Leaves form inside n (step k inside n w t)
  step_sound Idle te p = (sz, long, g, c, al)
  step_sound TakeEra te p = take_era_sound te
  step_sound TakeBlock te p = take_block_sound te
  step_sound (LookCell h x) te p =
      by_test (Leaves form inside n) (readable k (home x)) _ _
      (λ _. plain _ (LookEra h x (held k x)) (LookCell h x) te (sized_task k w _ sz) (to_task _) refl (λ _ _. refl) refl tt)
      (λ _. plain _ Idle (LookCell h x) te (sized_task k w _ sz) (to_task _) refl (λ _ _. refl) refl tt)
  step_sound (LookEra h x seen) te p =
      by_test (Leaves form inside n) (eqb k.era (own_reservation k w h).era) _ _
      (λ _. plain _ Idle (LookEra h x seen) te (sized_shown k w h seen Idle sz) (view_shown k inside w h seen Idle sz w8) refl (λ _ _. refl) refl tt)
      (λ _. plain _ (LookList h x k.era) (LookEra h x seen) te (sized_task k w _ sz) (to_task _) refl (λ _ _. refl) refl tt)
  step_sound (LookList h x e) te p = look_list_sound h x e te p.0 (own_reservation k w h).list refl
  step_sound (LookWalk h x b) te p = look_on_sound h x b te (block k b).under refl
  step_sound (LookAgain h x) te p = plain _ (LookWrite h x k.era) (LookAgain h x) te (sized_task k w _ sz) (to_task _) refl (λ _ _. refl) refl tt
  step_sound (LookWrite h x e) te p =
      let sz' = sized_own_era k w h e sz in
      plain _ (LookCell h x) (LookWrite h x e) te (sized_task _ w _ sz') (view_task (with_own_era k w h e) inside w (LookCell h x) sz' w8 ∙ ap (λ v. retask v w (LookCell h x)) (view_own_era k inside w h e)) refl (λ _ _. refl) refl tt
  step_sound (DropList h) te p = drop_list_sound h te p (own_reservation k w h).list refl
  step_sound (DropWalk h b) te p = drop_on_sound h b te (block k b).under refl
  step_sound (DropEra h) te p = drop_era_sound h te
  step_sound (TryVisit r b aside) te p = try_visit_sound r b aside te (worker k w).batch refl
  step_sound (TryHang b left hung) te p = try_hang_sound b left hung te (worker k w).batch refl
  step_sound (TryLast hung) te p = try_last_sound hung te (worker k w).batch refl

  -- what a step gives back is a whole batch or nothing
  nothing_given : WholeBatch (view k inside) []
  nothing_given = inl refl

  look_on_gives : (h x b : ℕ) → (worker k w).task ≡ LookWalk h x b → (o : Option ℕ) → (block k b).under ≡ o → WholeBatch (view k inside) (handled k w b (look_on h x o)).given
  look_on_gives h x b te None oe = (handles form fit k inside sz long same_form g c al w hw b (LookAgain h x) (ap next te) (sym oe) (λ _ _. refl) refl tt).1
  look_on_gives h x b te (Some d) oe = (handles form fit k inside sz long same_form g c al w hw b (LookWalk h x d) (ap next te) (sym oe) (λ _ _. refl) refl tt).1

  drop_on_gives : (h b : ℕ) → (worker k w).task ≡ DropWalk h b → (o : Option ℕ) → (block k b).under ≡ o → WholeBatch (view k inside) (handled k w b (drop_on h o)).given
  drop_on_gives h b te None oe = (handles form fit k inside sz long same_form g c al w hw b (DropEra h) (ap next te) (sym oe) (λ _ _. refl) refl tt).1
  drop_on_gives h b te (Some d) oe = (handles form fit k inside sz long same_form g c al w hw b (DropWalk h d) (ap next te) (sym oe) (λ _ _. refl) refl tt).1

  try_last_gives : (hung : ℕ) → (worker k w).task ≡ TryLast hung → (o : Option Batch) → (worker k w).batch ≡ o → WholeBatch (view k inside) (try_last k w hung o).given
  try_last_gives hung te None oe = nothing_given
  try_last_gives hung te (Some x) oe = (lasts form fit k inside sz long same_form g c al w hw hung x te oe).1

  took_gives : (r : Result ℕ PoolFault) → WholeBatch (view k inside) (took k w r).given
  took_gives (Ok b) = nothing_given
  took_gives (Err fault) = nothing_given

  list_gives : (h x e : ℕ) (l : HungList) → WholeBatch (view k inside) (look_list k w h x e l).given
  list_gives h x e Off = nothing_given
  list_gives h x e Empty = nothing_given
  list_gives h x e (Newest b) = nothing_given

  visit_gives : (r b aside : ℕ) (o : Option Batch) → WholeBatch (view k inside) (try_visit k w r b aside o).given
  visit_gives r b aside None = nothing_given
  visit_gives r b aside (Some x) = by_test (λ (m : Move). WholeBatch (view k inside) m.given) (passed_over (reservation k r) x.least) _ _ (λ _. nothing_given)
      (λ _. by_test (λ (m : Move). WholeBatch (view k inside) m.given) (eqb b x.lead) _ _ (λ _. nothing_given) (λ _. nothing_given))

  hang_gives : (b left hung : ℕ) (x : Batch) (l : HungList) → WholeBatch (view k inside) (hang_on k w x b left hung l).given
  hang_gives b left hung x Off = nothing_given
  hang_gives b left hung x Empty = nothing_given
  hang_gives b left hung x (Newest y) = nothing_given

  try_hang_gives : (b left hung : ℕ) (o : Option Batch) → WholeBatch (view k inside) (try_hang k w b left hung o).given
  try_hang_gives b left hung None = nothing_given
  try_hang_gives b left hung (Some x) = hang_gives b left hung x (reservation k (block k b).slot).list

  step_gives : (t : Task) → (worker k w).task ≡ t → WholeBatch (view k inside) (step k inside n w t).given
  step_gives Idle te = nothing_given
  step_gives TakeEra te = by_test (λ (m : Move). WholeBatch (view k inside) m.given) (eqb (worker k w).takings 0) _ _ (λ _. by_test (λ (m : Move). WholeBatch (view k inside) m.given) (eqb k.era 4294967295) _ _ (λ _. nothing_given) (λ _. nothing_given)) (λ _. nothing_given)
  step_gives TakeBlock te = by_test (λ (m : Move). WholeBatch (view k inside) m.given) (ltb k.live k.form.live) _ _ (λ _. took_gives (taken inside n)) (λ _. nothing_given)
  step_gives (LookCell h x) te = by_test (λ (m : Move). WholeBatch (view k inside) m.given) (readable k (home x)) _ _ (λ _. nothing_given) (λ _. nothing_given)
  step_gives (LookEra h x seen) te = by_test (λ (m : Move). WholeBatch (view k inside) m.given) (eqb k.era (own_reservation k w h).era) _ _ (λ _. nothing_given) (λ _. nothing_given)
  step_gives (LookList h x e) te = list_gives h x e (own_reservation k w h).list
  step_gives (LookWalk h x b) te = look_on_gives h x b te (block k b).under refl
  step_gives (LookAgain h x) te = nothing_given
  step_gives (LookWrite h x e) te = nothing_given
  step_gives (DropList h) te = nothing_given
  step_gives (DropWalk h b) te = drop_on_gives h b te (block k b).under refl
  step_gives (DropEra h) te = by_test (λ (m : Move). WholeBatch (view k inside) m.given) (ltb (h + 1) k.form.holds) _ _ (λ _. nothing_given) (λ _. nothing_given)
  step_gives (TryVisit r b aside) te = visit_gives r b aside (worker k w).batch
  step_gives (TryHang b left hung) te = try_hang_gives b left hung (worker k w).batch
  step_gives (TryLast hung) te = try_last_gives hung te (worker k w).batch refl

-- a turn: a worker that there is not is refused
module _ (form : Form) (fit : Fit form) (k : Core) (inside : List Bool) (n : ℕ) (sz : Sized k) (long : length inside ≡ form.blocks) (o : InOrder form 0 k) (g : Gh)
    (c : Sound form.blocks (reservations form) form.workers (view k inside) g) (al : Alive (view k inside)) (w : ℕ) (chosen : Chosen inside n) where
  there : ltb w k.form.workers ≡ true → w < form.workers
  there e = let lt : w < k.form.workers = grind (arith, nat_tests) in subst (λ (f : Form). w < f.workers) o.same_form lt

  pub turn_sound : Leaves form inside n (turn k inside n w)
  turn_sound = checked_keeps (Leaves form inside n) k (turn_checks k w) (step k inside n w (worker k w).task) (λ _. (sz, long, g, c, al))
      (λ p. step_sound form fit k inside n sz long o.same_form g c al w (there p.0) chosen (worker k w).task refl (o.tasks w))

  pub turn_gives : WholeBatch (view k inside) (turn k inside n w).given
  turn_gives = checked_keeps (λ m. WholeBatch (view k inside) m.given) k (turn_checks k w) (step k inside n w (worker k w).task) (λ _. inl refl)
      (λ p. step_gives form fit k inside n sz long o.same_form g c al w (there p.0) chosen (worker k w).task refl)

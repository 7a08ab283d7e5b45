-- That every turn keeps protection.
use Rattle.std.proofs.Common.{◌≡◌, ℕ, ◌+◌, ◌-◌, ◌*◌, ◌<◌, ◌≤◌, Bool, true, false, cond, eqb, ltb, ◌≢◌, List, length, get_or, set, Some, None, Ok, Option, Result, unwrap_or, sym, refl, ap, ◌∙◌, subst, subst₂, inl, inr, arith}
use native.Mathlib.Decide.{ℕ_discrete}
use Rattle.std.proofs.lemmas.Bool.Decides.{nat_tests}
use Rattle.std.proofs.lemmas.Bool.{false≢true, or_cases}
use Rattle.std.proofs.lemmas.List.{get_or-set_same, get_or-set_other}
use Rattle.figures.specs.Limits.{Fit}
use Rattle.figures.specs.declared.limits.Form.{Form}
use Rattle.pools.specs.Counts.{bit, tally}
use Rattle.pools.specs.declared.PoolFault.{PoolFault}
use Rattle.pools.specs.CountsLemmas.{in_below}
use Rattle.machine.specs.declared.states.Batch.{Batch}
use Rattle.machine.specs.declared.states.HungList.{HungList}
use Rattle.machine.specs.declared.states.HungList.TheVariants.{Off, Empty, Newest}
use Rattle.machine.specs.declared.states.Reservation.{Reservation}
use Rattle.machine.specs.declared.states.Standing.{Standing}
use Rattle.machine.specs.declared.states.Standing.TheVariants.{Pooled, Live, Retired}
use Rattle.machine.specs.declared.states.Task.{Task}
use Rattle.machine.specs.declared.states.Task.TheVariants.{Idle, TakeEra, TakeBlock, LookCell, LookEra, LookList, LookWalk, LookAgain, LookWrite, DropList, DropWalk, DropEra, TryVisit, TryHang, TryLast}
use Rattle.machine.specs.declared.states.Core.{Core}
use Rattle.machine.specs.State.{block, worker, reservation, place_of, with_block, with_task, with_era, idle, is_live}
use Rattle.machine.specs.Cells.{home, home_block, home_link, held, names_it}
use Rattle.machine.specs.Moves.{Move, drawn, gained_all}
use Rattle.machine.specs.Runs.{Chosen}
use Rattle.machine.specs.Eras.{InTime, InOrder}
use Rattle.machine.specs.Linking.{LinkedRight, among, from_block, naming}
use Rattle.machine.specs.Taking.{counted_up, take_era, took, take_block}
use Rattle.machine.specs.Walking.{due, count_down, handled, all_pooled}
use Rattle.machine.specs.Looking.{readable, own_reservation, with_list, with_own_era, with_shown, look_cell, look_era, look_list, look_on, look_write}
use Rattle.machine.specs.Dropping.{drop_list, drop_task, drop_on, drop_era}
use Rattle.machine.specs.Trying.{is_off, passed_over, block_after, visited, try_visit, with_slot, hung_at, hanged, hang_on, try_hang, settled, try_last}
use Rattle.machine.specs.Turns.{step}
use Rattle.machine.proofs.Passing.{by_test}
use Rattle.machine.proofs.Sums.{upd, upd_same, upd_other, upd_self, Σ_term, tot, is, is_self, Each, each_of}
use Rattle.machine.proofs.Chains.{Chain, chain_some}
use Rattle.machine.proofs.Mirror.{St, view, retask, rebatch, relist, reunder, recount}
use Rattle.machine.proofs.Sound.{Gh, Sound, Alive, Lead, head, next}
use Rattle.machine.proofs.Owners.{own_lead}
use Rattle.machine.proofs.Namings.{among_has, from_has}
use Rattle.machine.proofs.Standings.{is_pooled}
use Rattle.machine.proofs.VisitKept.{visited_of, visiting, aside_kept}
use Rattle.machine.proofs.HangKept.{hang_info, hang_batch, hang_next, hang_place}
use Rattle.machine.proofs.Bridge.{Sized, sized_task, sized_block, sized_list, sized_own_era, sized_era, sized_hung_at, view_task, view_list, view_own_era, view_shown, view_slot, view_hung_at, view_counted_up, view_handled, view_last, view_took}
use Rattle.machine.proofs.StepsSound.{reservations, Good, WholeBatch, few_workers, few_places, few_blocks, place_below, retired_below}
use Rattle.machine.proofs.Guards.{Extra, extra, Pends, past_off, past_on, busy_with, Keeps, Guard}
use Rattle.machine.proofs.GiveKept.{marked}
use Rattle.machine.proofs.GuardSteps.{quiet_extra}
use Rattle.machine.proofs.GuardMirror.{extra_worker, extra_task, extra_block, extra_pooled, extra_slot, extra_taken, extra_list, extra_own_era, extra_hung_at, shows_else, shows_own}
use Rattle.machine.proofs.GuardTasks.{map_guard, shows_guard, task_guard, place_guard}
use Rattle.machine.proofs.GuardTries.{passed_guard, aside_guard}
use Rattle.machine.proofs.GuardHangs.{hanged_of, skip_guard, hang_guard}
use Rattle.machine.proofs.GuardGives.{fills, give_all_is, batch_of, give_guard}
use Rattle.machine.proofs.GuardTakes.{take_guard}

-- a test of numbers that differ
eqb_apart : (i h : ℕ) → h ≢ i → eqb i h ≡ false
eqb_apart i h ne = grind (arith, nat_tests)

eqb_self : (i : ℕ) → eqb i i ≡ true
eqb_self i = grind (arith, nat_tests)

no_test : (b : Bool) → b ≡ true → b ≡ false → ⊥
no_test b p q = false≢true (sym q ∙ p)

is_off_tells : (b : Bool) → (b ≡ true → ⊥) → b ≡ false
is_off_tells true f = absurd (f refl)
is_off_tells false f = refl

-- a reservation that is passed over though its list is on has an era below the least birth
passed_below : (r : Reservation) (least : ℕ) → passed_over r least ≡ true → is_off r.list ≡ false → r.era < least
passed_below r least passed on = elim (or_cases (is_off r.list) _ passed) [
  | inl off ↦ absurd (no_test (is_off r.list) off on)
  | inr below ↦ (grind (arith, nat_tests))
]

-- what an anchor or a live block's link holds is named
pub held_named : (k : Core) (c b : ℕ) → readable k (home c) ≡ true → held k c ≡ Some b → 1 ≤ naming k b
held_named k c b = by (ltb c 16)
  where
    one : (v : Option ℕ) → v ≡ Some b → bit (names_it v b) ≡ 1
    one v e = ap (λ u. bit (names_it u b)) e ∙ ap bit (eqb_self b)

    by : (t : Bool) → readable k (cond t None (Some (home_block c))) ≡ true → cond t (get_or k.anchors c None) (get_or (block k (home_block c)).links (home_link c) None) ≡ Some b → 1 ≤ naming k b
    by true r e = let a = among_has k.anchors c b in let o = one (get_or k.anchors c None) e in omega arith
    by false r e =
        let live : from_block (block k (home_block c)) b ≡ among (block k (home_block c)).links b = cc in
        let a = among_has (block k (home_block c)).links (home_link c) b in
        let f = from_has k.blocks.rows (home_block c) b in
        let o = one (get_or (block k (home_block c)).links (home_link c) None) e in
        omega arith

module _ (form : Form) (fit : Fit form) (k : Core) (inside : List Bool) (n : ℕ) (sz : Sized k) (long : length inside ≡ form.blocks) (o : InOrder form 1 k) (g : Gh)
    (c : Sound form.blocks (reservations form) form.workers (view k inside) g) (al : Alive (view k inside)) (w : ℕ) (hw : w < form.workers) (chosen : Chosen inside n)
    (lk : LinkedRight k) (room : length (worker k w).shows ≡ 4) (F E : ℕ → Type 0) (gd : Guard form.workers form.holds F (view k inside) (extra k)) (named : (b : ℕ) → 1 ≤ (block k b).names → F b) where
  abbrev W : ℕ
  W = form.workers

  abbrev H : ℕ
  H = form.holds

  abbrev s : St
  s = view k inside

  w8 : w < 8
  w8 = few_workers form fit w hw

  -- what F says stays said, but perhaps of a block that the move takes
  abbrev Fine : Move → Type 0
  Fine m = (b : ℕ) → F b → (m.taken ≡ true → b ≢ n) → E b

  -- the numbers in after a move
  abbrev then_in : Move → List Bool
  then_in m = gained_all (drawn m.taken inside n) m.given

  -- a move keeps protection
  abbrev Guards : Move → Type 0
  Guards m = Fine m → Good form m.core (then_in m) → WholeBatch s m.given → Guard W H E (view m.core (then_in m)) (extra m.core)

  -- by what the mirrors are then
  seen : (k' : Core) (ins : List Bool) (t : St) (x : Extra) → view k' ins ≡ t → extra k' ≡ x → Guard W H E t x → Guard W H E (view k' ins) (extra k')
  seen k' ins t x p q gt = subst₂ (λ a b. Guard W H E a b) (sym p) (sym q) gt

  place : (h : ℕ) → place_of k w h ≡ w * H + h
  place h = ap (λ (f : Form). w * f.holds + h) o.same_form

  -- nothing is taken, so all that F says stays said
  plainly : ((b : ℕ) → F b → (false ≡ true → b ≢ n) → E b) → (b : ℕ) → F b → E b
  plainly f b p = f b p (λ e. absurd (false≢true e))

  -- another task that does not read, visit or try, in place of one with the same holds in work
  simple : (t u : Task) → (worker k w).task ≡ u → ((newest r : ℕ) → Pends s.elder (extra k).slot newest t r) → ((h i b : ℕ) → t ≢ LookEra h i (Some b)) → ((p b m : ℕ) → t ≢ TryVisit p b m)
      → ((h : ℕ) → (past_off t h ≡ past_off u h) × (past_on t h ≡ past_on u h) × (busy_with t h ≡ true → busy_with u h ≡ true)) → ((b : ℕ) → F b → E b) → Guard W H E (retask s w t) (extra k)
  simple t u te pend no_read no_visit flags fine =
      task_guard W H F E s (extra k) gd fine w hw t (λ r b y _ _ _ _ _ _ _. pend y.newest r) (λ h i b _ e. absurd (no_read h i b e))
      (λ h hh off past. let f = flags h in let q = (gd w).off h hw hh off (ap (λ v. past_off v h) te ∙ sym f.0 ∙ past) in (q.0, f.1 ∙ sym (ap (λ v. past_on v h) te) ∙ q.1))
      (λ h e. ap (λ v. busy_with v h) te ∙ (flags h).2 e) (λ p b m y e _. absurd (no_visit p b m e))

  no_flag : (b : Bool) → false ≡ true → b ≡ true
  no_flag b e = absurd (false≢true e)

  -- the task ends
  stops : (u : Task) → (worker k w).task ≡ u → ((h : ℕ) → (past_off u h ≡ false) × (past_on u h ≡ false)) → ((b : ℕ) → F b → E b) → Guard W H E (retask s w Idle) (extra k)
  stops u te flags fine = simple Idle u te (λ _ _. tt) (λ h i b e. let f : ◌≡◌ {A = ℕ} 0 1 = cc in omega arith) (λ p b m e. let f : ◌≡◌ {A = ℕ} 0 1 = cc in omega arith)
      (λ h. (sym (flags h).0, sym (flags h).1, no_flag (busy_with u h))) fine

  idle_guard : (u : Task) → (worker k w).task ≡ u → ((h : ℕ) → (past_off u h ≡ false) × (past_on u h ≡ false)) → ((b : ℕ) → F b → E b) → Guard W H E (view (idle k w) inside) (extra (idle k w))
  idle_guard u te flags fine = seen (idle k w) inside _ _ (view_task k inside w Idle sz w8) (extra_task k w Idle) (stops u te flags fine)

  -- taking
  take_era_guards : (worker k w).task ≡ TakeEra → Guards (take_era k w)
  take_era_guards te =
      by_test Guards (eqb (worker k w).takings 0) _ _
      (λ _. by_test Guards (eqb k.era 4294967295) _ _
      (λ _ f _ _. idle_guard TakeEra te (λ h. (refl, refl)) (plainly f))
      (λ _ f _ _. seen (counted_up (with_era k (k.era + 1)) w) inside _ _ (view_counted_up (with_era k (k.era + 1)) inside w (sized_era k (k.era + 1) sz) w8) (extra_worker (with_era k (k.era + 1)) w _ refl) (up f)))
      (λ _ f _ _. seen (counted_up k w) inside _ _ (view_counted_up k inside w sz w8) (extra_worker k w _ refl) (up f))
    where
      up : ((b : ℕ) → F b → (false ≡ true → b ≢ n) → E b) → Guard W H E (retask s w TakeBlock) (extra k)
      up f = simple TakeBlock TakeEra te (λ _ _. tt) (λ h i b e. let z : ◌≡◌ {A = ℕ} 0 1 = cc in omega arith) (λ p b m e. let z : ◌≡◌ {A = ℕ} 0 1 = cc in omega arith) (λ h. (refl, refl, λ e. e)) (plainly f)

  took_guards : (worker k w).task ≡ TakeBlock → 0 < tally inside → Guards (took k w (Ok n))
  took_guards te some f _ _ =
      let ins = chosen some in
      let lt = in_below inside n ins in
      let lt' : n < 2048 = omega (arith, few_blocks form fit) in
      let pooled : (block k n).standing ≡ Pooled = is_in (block k n).standing (c.pooled_in n (omega arith) ∙ ins) in
      seen (took k w (Ok n)).core _ _ _ (view_took k inside w n sz w8 lt' lt) (extra_taken (with_task k w Idle) n k.era w (sized_task k w Idle sz) lt'
      ∙ ap (λ x. record { birth = upd x.birth n k.era; slot = x.slot; era = x.era; shows = x.shows }) (extra_task k w Idle))
      (take_guard W H F E s (extra k) gd w hw n k.era (λ b ne p. f b p (λ _. ne)) pooled (o.births n) o.reserved (λ h. ap (λ u. past_off u h) te))
    where
      is_in : (x : Standing) → is_pooled x ≡ true → x ≡ Pooled
      is_in Pooled e = refl
      is_in Live e = cc
      is_in Retired e = cc

  take_block_guards : (worker k w).task ≡ TakeBlock → Guards (take_block k inside n w)
  take_block_guards te =
      by_test Guards (ltb k.live k.form.live) _ _
      (λ _. by_test (λ (r : Result ℕ PoolFault). Guards (took k w r)) (eqb (tally inside) 0) _ _ (λ _ f _ _. idle_guard TakeBlock te (λ h. (refl, refl)) (plainly f)) (λ ne. took_guards te (grind (arith, nat_tests))))
      (λ _ f _ _. idle_guard TakeBlock te (λ h. (refl, refl)) (plainly f))

  -- looking
  look_cell_guards : (h x : ℕ) → (worker k w).task ≡ LookCell h x → Guards (look_cell k w h x)
  look_cell_guards h x te =
      by_test Guards (readable k (home x)) _ _
      (λ r f _ _. seen (with_task k w (LookEra h x (held k x))) inside _ _ (view_task k inside w (LookEra h x (held k x)) sz w8) (extra_task k w (LookEra h x (held k x)))
      (task_guard W H F E s (extra k) gd (plainly f) w hw (LookEra h x (held k x)) (λ _ _ _ _ _ _ _ _ _ _. tt)
      (λ i j b _ e on le. let at : held k x ≡ Some b = cc in let q = held_named k x b r at in (inl (live_is (block k b).standing (lk.alive b q)), named b (let m = lk.counted b in omega arith)))
      (λ i hi off _. let q = (gd w).off i hw hi off (ap (λ u. past_off u i) te) in (q.0, refl))
      (λ i e. ap (λ u. busy_with u i) te ∙ e) (λ p b m y e _. let z : ◌≡◌ {A = ℕ} 0 1 = cc in absurd (omega arith))))
      (λ _ f _ _. idle_guard (LookCell h x) te (λ i. (refl, refl)) (plainly f))
    where
      live_is : (y : Standing) → is_live y ≡ true → y ≡ Live
      live_is Pooled e = cc
      live_is Live e = refl
      live_is Retired e = cc

  -- a look's reservation with the era is on
  on_at_era : (h x : ℕ) (v : Option ℕ) → (worker k w).task ≡ LookEra h x v → h < H → eqb k.era (own_reservation k w h).era ≡ true → (is_off (s.list (w * H + h)) ≡ false) × (k.era ≡ (extra k).era (w * H + h))
  on_at_era h x v te hh e =
      let at : k.era ≡ (extra k).era (w * H + h) = subst (λ q. k.era ≡ (extra k).era q) (place h) (grind (arith, nat_tests)) in
      let later = o.later in (
        is_off_tells (is_off (s.list (w * H + h))) (λ off. let q = ((gd w).off h hw hh off (ap (λ u. past_off u h) te)).0 in omega arith),
        at,
      )

  look_era_guards : (h x : ℕ) (v : Option ℕ) → (worker k w).task ≡ LookEra h x v → h < H → Guards (look_era k w h x v)
  look_era_guards h x v te hh =
      by_test Guards (eqb k.era (own_reservation k w h).era) _ _
      (λ e f _ _. seen (with_shown k w h v Idle) inside (retask s w Idle) (extra (with_shown k w h v Idle)) (view_shown k inside w h v Idle sz w8) refl
      (shows_guard W H F E s (extra k) gd (plainly f) w hw Idle (extra (with_shown k w h v Idle)).shows (λ u i ne. shows_else k w _ u i ne) (λ _ _ _ _ _ _ _ _ _ _. tt)
      (λ i b z. shown e i b (sym (shows_own k w _ i sz w8) ∙ z))
      (λ i j b _ z. let g : ◌≡◌ {A = ℕ} 0 1 = cc in absurd (omega arith))
      (λ i hi off _. (((gd w).off i hw hi off (ap (λ u. past_off u i) te)).0, refl))
      (λ i z. absurd (false≢true z)) (λ p b m y z _. let g : ◌≡◌ {A = ℕ} 0 1 = cc in absurd (omega arith))))
      (λ e f _ _. seen (with_task k w (LookList h x k.era)) inside _ _ (view_task k inside w (LookList h x k.era) sz w8) (extra_task k w (LookList h x k.era))
      (simple (LookList h x k.era) (LookEra h x v) te (λ _ _. tt) (λ i j b z. let g : ◌≡◌ {A = ℕ} 0 1 = cc in omega arith) (λ p b m z. let g : ◌≡◌ {A = ℕ} 0 1 = cc in omega arith) (λ i. (refl, refl, λ z. z)) (plainly f)))
    where
      shown : eqb k.era (own_reservation k w h).era ≡ true → (i b : ℕ) → get_or (set (worker k w).shows h v) i None ≡ Some b → (i < H) × (is_off (s.list (w * H + i)) ≡ false) × ((extra k).birth b ≤ (extra k).era (w * H + i)) × Keeps W F s (extra k) (w * H + i) b
      shown e i b z = elim (ℕ_discrete i h) [
        | yes j ↦ subst (λ m. (m < H) × (is_off (s.list (w * H + m)) ≡ false) × ((extra k).birth b ≤ (extra k).era (w * H + m)) × Keeps W F s (extra k) (w * H + m) b) (sym j) (here (subst (λ m. get_or (set (worker k w).shows h v) m None ≡ Some b) j z))
        | no ne ↦ (let q = (gd w).kept i b (sym (get_or-set_other (worker k w).shows h i v None ne) ∙ z) in (q.1, q.2, q.3, q.4))
      ]
        where
          here : get_or (set (worker k w).shows h v) h None ≡ Some b → (h < H) × (is_off (s.list (w * H + h)) ≡ false) × ((extra k).birth b ≤ (extra k).era (w * H + h)) × Keeps W F s (extra k) (w * H + h) b
          here u =
              let four = fit.1.1 in
              let at : v ≡ Some b = sym (get_or-set_same (worker k w).shows h v None (omega arith)) ∙ u in
              let on = on_at_era h x v te hh e in
              let born = o.births b in
              let same = on.1 in
              (hh, on.0, omega arith, (gd w).read h x b hw hh (te ∙ ap (LookEra h x) at))

  list_here : (h : ℕ) (l : HungList) → (own_reservation k w h).list ≡ l → s.list (w * H + h) ≡ l
  list_here h l e = subst (λ q. s.list q ≡ l) (place h) e

  place_32 : (h : ℕ) → h < H → place_of k w h < 32
  place_32 h hh = let p = place_lt_form in let e = place h in omega arith
    where
      place_lt_form : w * H + h < 32
      place_lt_form = let p = place_below form fit w h hw hh in let q = few_places form fit in omega arith

  -- a list of the worker's own hold h is replaced
  relists : (h : ℕ) (t : Task) (l : HungList) → h < H → Guard W H E (retask (relist s (w * H + h) l) w t) (quiet_extra (extra k) (upd (extra k).era (w * H + h) ((extra k).era (w * H + h))) (extra k).shows)
      → Guard W H E (view (with_task (with_list k w h l) w t) inside) (extra (with_task (with_list k w h l) w t))
  relists h t l hh gt =
      seen (with_task (with_list k w h l) w t) inside _ _
      (view_task (with_list k w h l) inside w t (sized_list k w h l sz) w8 ∙ ap (λ x. retask x w t) (view_list k inside w h l sz (place_32 h hh)) ∙ ap (λ q. retask (relist s q l) w t) (place h))
      (extra_task (with_list k w h l) w t ∙ extra_list k w h l ∙ ap (λ q. quiet_extra (extra k) (upd (extra k).era q ((extra k).era q)) (extra k).shows) (place h)) gt

  -- so is its era
  re_era : (h e : ℕ) (t : Task) → h < H → Guard W H E (retask (relist s (w * H + h) (s.list (w * H + h))) w t) (quiet_extra (extra k) (upd (extra k).era (w * H + h) e) (extra k).shows)
      → Guard W H E (view (with_task (with_own_era k w h e) w t) inside) (extra (with_task (with_own_era k w h e) w t))
  re_era h e t hh gt =
      seen (with_task (with_own_era k w h e) w t) inside _ _
      (view_task (with_own_era k w h e) inside w t (sized_own_era k w h e sz) w8 ∙ ap (λ x. retask x w t) (view_own_era k inside w h e) ∙ ap (λ (l : ℕ → HungList). retask (record { inside = s.inside; standing = s.standing; lead = s.lead; under = s.under; elder = s.elder; count = s.count; newest = s.newest; list = l; task = s.task; batch = s.batch }) w t) (sym (upd_self s.list (w * H + h) (s.list (w * H + h)) refl)))
      (extra_task (with_own_era k w h e) w t ∙ extra_own_era k w h e sz (place_32 h hh) ∙ ap (λ q. quiet_extra (extra k) (upd (extra k).era q e) (extra k).shows) (place h)) gt

  look_list_guards : (h x e : ℕ) → (worker k w).task ≡ LookList h x e → h < H → (l : HungList) → (own_reservation k w h).list ≡ l → Guards (look_list k w h x e l)
  look_list_guards h x e te hh Off le f _ _ =
      relists h (LookAgain h x) Empty hh (place_guard W H F E s (extra k) gd (plainly f) w hw h (LookAgain h x) Empty _ hh (ap (λ u. busy_with u h) te ∙ eqb_self h) (λ _ _. tt)
      (λ i j b z. let g : ◌≡◌ {A = ℕ} 0 1 = cc in omega arith) (λ p b m z. let g : ◌≡◌ {A = ℕ} 0 1 = cc in omega arith) (λ z _. absurd (false≢true z)) (λ i ne. (ap (λ u. past_off u i) te, eqb_apart h i ne)) (λ i z. ap (λ u. busy_with u i) te ∙ z))
  look_list_guards h x e te hh Empty le f _ _ =
      seen (with_task k w (LookWrite h x e)) inside _ _ (view_task k inside w (LookWrite h x e) sz w8) (extra_task k w (LookWrite h x e))
      (task_guard W H F E s (extra k) gd (plainly f) w hw (LookWrite h x e) (λ _ _ _ _ _ _ _ _ _ _. tt) (λ i j b _ z. let g : ◌≡◌ {A = ℕ} 0 1 = cc in absurd (omega arith))
      (λ i hi off _. (((gd w).off i hw hi off (ap (λ u. past_off u i) te)).0, eqb_apart h i (λ j. no_test (is_off (s.list (w * H + i))) off (subst (λ m. is_off (s.list (w * H + m)) ≡ false) (sym j) (ap is_off (list_here h Empty le))))))
      (λ i z. ap (λ u. busy_with u i) te ∙ z) (λ p b m y z _. let g : ◌≡◌ {A = ℕ} 0 1 = cc in absurd (omega arith)))
  look_list_guards h x e te hh (Newest b) le f _ _ =
      relists h (LookWalk h x b) Empty hh (place_guard W H F E s (extra k) gd (plainly f) w hw h (LookWalk h x b) Empty _ hh (ap (λ u. busy_with u h) te ∙ eqb_self h) (λ _ _. tt)
      (λ i j d z. let g : ◌≡◌ {A = ℕ} 0 1 = cc in omega arith) (λ p d m z. let g : ◌≡◌ {A = ℕ} 0 1 = cc in omega arith) (λ z _. absurd (false≢true z)) (λ i ne. (ap (λ u. past_off u i) te, eqb_apart h i ne)) (λ i z. ap (λ u. busy_with u i) te ∙ z))

  look_write_guards : (h x e : ℕ) → (worker k w).task ≡ LookWrite h x e → h < H → Guards (look_write k w h x e)
  look_write_guards h x e te hh f _ _ =
      re_era h e (LookCell h x) hh (place_guard W H F E s (extra k) gd (plainly f) w hw h (LookCell h x) (s.list (w * H + h)) e hh (ap (λ u. busy_with u h) te ∙ eqb_self h) (λ _ _. tt)
      (λ i j b z. let g : ◌≡◌ {A = ℕ} 0 1 = cc in omega arith) (λ p b m z. let g : ◌≡◌ {A = ℕ} 0 1 = cc in omega arith)
      (λ off _. absurd (no_test (past_on (worker k w).task h) (ap (λ u. past_on u h) te ∙ eqb_self h) ((gd w).off h hw hh off (ap (λ u. past_off u h) te)).1))
      (λ i ne. (ap (λ u. past_off u i) te, refl)) (λ i z. ap (λ u. busy_with u i) te ∙ z))

  -- dropping
  drop_list_guards : (h : ℕ) → (worker k w).task ≡ DropList h → h < H → (l : HungList) → Guards (drop_list k w h l)
  drop_list_guards h te hh l f _ _ =
      relists h (drop_task h l) Off hh (place_guard W H F E s (extra k) gd (plainly f) w hw h (drop_task h l) Off _ hh (ap (λ u. busy_with u h) te) (drops l).0 (drops l).1 (drops l).2
      (λ _ z. absurd (no_test (past_off (drop_task h l) h) (drops l).3 z)) (λ i ne. (ap (λ u. past_off u i) te, (drops l).4 i)) (λ i z. ap (λ u. busy_with u i) te))
    where
      drops : (l : HungList) → ((y : Batch) (r : ℕ) → Pends s.elder (extra k).slot y.newest (drop_task h l) r) × ((i j b : ℕ) → drop_task h l ≢ LookEra i j (Some b)) × ((p b m : ℕ) → drop_task h l ≢ TryVisit p b m)
          × (past_off (drop_task h l) h ≡ true) × ((i : ℕ) → past_on (drop_task h l) i ≡ false)
      drops Off = (λ _ _. tt, λ i j b z. let g : ◌≡◌ {A = ℕ} 0 1 = cc in omega arith, λ p b m z. let g : ◌≡◌ {A = ℕ} 0 1 = cc in omega arith, eqb_self h, λ _. refl)
      drops Empty = (λ _ _. tt, λ i j b z. let g : ◌≡◌ {A = ℕ} 0 1 = cc in omega arith, λ p b m z. let g : ◌≡◌ {A = ℕ} 0 1 = cc in omega arith, eqb_self h, λ _. refl)
      drops (Newest b) = (λ _ _. tt, λ i j b z. let g : ◌≡◌ {A = ℕ} 0 1 = cc in omega arith, λ p b m z. let g : ◌≡◌ {A = ℕ} 0 1 = cc in omega arith, eqb_self h, λ _. refl)

  drop_era_guards : (h : ℕ) → (worker k w).task ≡ DropEra h → h < H → Guards (drop_era k w h)
  drop_era_guards h te hh =
      by_test Guards (ltb (h + 1) k.form.holds) _ _
      (λ _ f _ _. re_era h 0 (DropList (h + 1)) hh (cleared (DropList (h + 1)) (plainly f) (λ _ _. tt) (λ i j b z. let g : ◌≡◌ {A = ℕ} 0 1 = cc in omega arith) (λ p b m z. let g : ◌≡◌ {A = ℕ} 0 1 = cc in omega arith) (λ _. refl)))
      (λ _ f _ _. re_era h 0 Idle hh (cleared Idle (plainly f) (λ _ _. tt) (λ i j b z. let g : ◌≡◌ {A = ℕ} 0 1 = cc in omega arith) (λ p b m z. let g : ◌≡◌ {A = ℕ} 0 1 = cc in omega arith) (λ _. refl)))
    where
      cleared : (t : Task) → ((b : ℕ) → F b → E b) → ((y : Batch) (r : ℕ) → Pends s.elder (extra k).slot y.newest t r) → ((i j b : ℕ) → t ≢ LookEra i j (Some b)) → ((p b m : ℕ) → t ≢ TryVisit p b m) → ((i : ℕ) → past_on t i ≡ false)
          → Guard W H E (retask (relist s (w * H + h) (s.list (w * H + h))) w t) (quiet_extra (extra k) (upd (extra k).era (w * H + h) 0) (extra k).shows)
      cleared t fine pend no_read no_visit plain =
          place_guard W H F E s (extra k) gd fine w hw h t (s.list (w * H + h)) 0 hh (ap (λ u. busy_with u h) te) pend no_read no_visit (λ _ _. (refl, plain h)) (λ i ne. (ap (λ u. past_off u i) te ∙ eqb_apart h i ne, plain i)) (λ i z. ap (λ u. busy_with u i) te)

  -- walking: what is given back is below the numbers that there are
  back_below : (bs : List ℕ) → WholeBatch s bs → Each (λ z. (z < 2048) × (z < length inside)) bs
  back_below bs whole = each_of (λ z. (z < 2048) × (z < length inside)) bs
      (λ z m. let lt = retired_below form fit k inside sz long o.same_form g c al w hw z (batch_of s bs whole z m).0 in (omega (arith, few_blocks form fit), omega arith))

  lead_below : (l : ℕ) → Lead s l → l < 2048
  lead_below l lead = let lt = retired_below form fit k inside sz long o.same_form g c al w hw l lead.0 in omega (arith, few_blocks form fit)

  walked_lead : (b : ℕ) → next (worker k w).task ≡ Some b → Lead s (block k b).lead
  walked_lead b e =
      let m = chain_some s.under b (g.walk w) (subst (λ u. Chain s.under u (g.walk w)) e (c.walk_chain w hw)) in
      let i = is_self b in
      let t = ap (tot (is b)) m.1 in
      let term = Σ_term (λ v. tot (is b) (g.walk v)) w W hw in
      c.led b (c.entries b (omega arith))

  handled_guards : (b : ℕ) (t u : Task) → (worker k w).task ≡ u → next u ≡ Some b → ((newest r : ℕ) → Pends s.elder (extra k).slot newest t r) → ((h i d : ℕ) → t ≢ LookEra h i (Some d)) → ((p d m : ℕ) → t ≢ TryVisit p d m)
      → ((h : ℕ) → (past_off t h ≡ past_off u h) × (past_on t h ≡ past_on u h) × (busy_with t h ≡ true → busy_with u h ≡ true)) → Guards (handled k w b t)
  handled_guards b t u te ne pend no_read no_visit flags f good whole =
      let l = (block k b).lead in
      let back = due (count_down k l) l in
      let lead = walked_lead b (ap next te ∙ ne) in
      let same : view (handled k w b t).core (gained_all inside back) ≡ _ =
      view_handled k inside w b t sz w8 (lead_below l lead) (back_below back whole) ∙ ap (λ m. retask m w t) (give_all_is (recount s l ((block k l).count - 1) (block k l).newest) back) in
      seen (handled k w b t).core (gained_all inside back) _ _ same (extra_task (all_pooled (count_down k l) back) w t ∙ extra_pooled back (count_down k l) ∙ extra_block k l _ refl refl)
      (give_guard form.blocks W H F E s g (extra k) c gd (plainly f) w hw back whole t (fills s.inside back) (upd s.count l ((block k l).count - 1)) (upd s.newest l (block k l).newest) s.batch
      (λ _ _. refl) (λ _ e. e) (λ y r e _. (e, pend y.newest r))
      good.2 (subst (λ m. Sound form.blocks (reservations form) W m good.2) same good.3) no_read no_visit
      (λ h. let q = flags h in (q.0 ∙ sym (ap (λ v. past_off v h) te), q.1 ∙ sym (ap (λ v. past_on v h) te), λ z. ap (λ v. busy_with v h) te ∙ q.2 z)))

  look_on_guards : (h x b : ℕ) → (worker k w).task ≡ LookWalk h x b → (v : Option ℕ) → Guards (handled k w b (look_on h x v))
  look_on_guards h x b te None = handled_guards b (LookAgain h x) (LookWalk h x b) te refl (λ _ _. tt) (λ i j d z. let y : ◌≡◌ {A = ℕ} 0 1 = cc in omega arith) (λ p d m z. let y : ◌≡◌ {A = ℕ} 0 1 = cc in omega arith) (λ i. (refl, refl, λ z. z))
  look_on_guards h x b te (Some a) = handled_guards b (LookWalk h x a) (LookWalk h x b) te refl (λ _ _. tt) (λ i j d z. let y : ◌≡◌ {A = ℕ} 0 1 = cc in omega arith) (λ p d m z. let y : ◌≡◌ {A = ℕ} 0 1 = cc in omega arith) (λ i. (refl, refl, λ z. z))

  drop_on_guards : (h b : ℕ) → (worker k w).task ≡ DropWalk h b → (v : Option ℕ) → Guards (handled k w b (drop_on h v))
  drop_on_guards h b te None = handled_guards b (DropEra h) (DropWalk h b) te refl (λ _ _. tt) (λ i j d z. let y : ◌≡◌ {A = ℕ} 0 1 = cc in omega arith) (λ p d m z. let y : ◌≡◌ {A = ℕ} 0 1 = cc in omega arith) (λ i. (refl, refl, λ z. z))
  drop_on_guards h b te (Some a) = handled_guards b (DropWalk h a) (DropWalk h b) te refl (λ _ _. tt) (λ i j d z. let y : ◌≡◌ {A = ℕ} 0 1 = cc in omega arith) (λ p d m z. let y : ◌≡◌ {A = ℕ} 0 1 = cc in omega arith) (λ i. (refl, refl, λ z. z))

  -- trying
  visited_same : (y : Batch) (r b m : ℕ) → visited k y r b m ≡ visited_of (reservations form) y r b m
  visited_same y r b m = ap (λ (f : Form). visited_of (f.workers * f.holds) y r b m) o.same_form

  visit_below : (y : Batch) (r b m : ℕ) → (worker k w).batch ≡ Some y → (worker k w).task ≡ TryVisit r b m → b < 2048
  visit_below y r b m own te =
      let v = visiting form.blocks (reservations form) W s g c w hw y own r b m te in
      let q = chain_some s.elder b (g.rest w) v.2 in
      let i = is_self b in
      let t = ap (tot (is b)) q.1 in
      let part = v.5 b in
      let e = c.members_are b y.lead in
      let ret = (marked (s.standing b) (s.lead b) y.lead (omega arith)).0 in
      let lt = retired_below form fit k inside sz long o.same_form g c al w hw b ret in
      omega (arith, few_blocks form fit)

  try_visit_guards : (r b m : ℕ) → (worker k w).task ≡ TryVisit r b m → (v : Option Batch) → (worker k w).batch ≡ v → Guards (try_visit k w r b m v)
  try_visit_guards r b m te None own = λ f _ _. idle_guard (TryVisit r b m) te (λ h. (refl, refl)) (plainly f)
  try_visit_guards r b m te (Some y) own =
      by_test Guards (passed_over (reservation k r) y.least) _ _
      (λ e f _ _. seen (with_task k w (visited k y r b m)) inside _ _ (view_task k inside w (visited k y r b m) sz w8 ∙ ap (retask s w) (visited_same y r b m)) (extra_task k w (visited k y r b m))
      (passed_guard form.blocks W H F E s g (extra k) c gd (plainly f) w hw y own r b m te (passed_below (reservation k r) y.least e)))
      (λ _. by_test Guards (eqb b y.lead) _ _
      (λ _ f _ _. idle_guard (TryVisit r b m) te (λ h. (refl, refl)) (plainly f))
      (λ ne f _ _.
      let q = aside_kept form.blocks (reservations form) W s g c w hw y own r b m te (λ i. false≢true (sym ne ∙ ap (λ z. eqb z y.lead) i ∙ eqb_self y.lead)) in
      let j : Core = with_block k b (with_slot (block k b) r) in
      let t : Task = visited k y r (block_after k y b) (m + 1) in
      let after : block_after k y b ≡ q.0 = ap (λ v. unwrap_or v y.lead) q.1 in
      let te' : t ≡ visited_of (reservations form) y r q.0 (m + 1) = visited_same y r (block_after k y b) (m + 1) ∙ ap (λ d. visited_of (reservations form) y r d (m + 1)) after in
      seen (with_task j w t) inside _ _ (view_task j inside w t (sized_block k b _ sz) w8 ∙ ap (λ v. retask v w t) (view_slot k inside b r) ∙ ap (retask s w) te')
      (extra_task j w t ∙ extra_slot k b r sz (visit_below y r b m own te))
      (aside_guard form.blocks W H F E s g (extra k) c gd (plainly f) w hw y own r b m te q.0 q.1)))

  module _ (b left hung : ℕ) (te : (worker k w).task ≡ TryHang b left hung) where
    follows : (d : ℕ) × (s.elder b ≡ Some d)
    follows =
        let i = hang_info form.blocks (reservations form) W s g c (few_places form fit) w hw b left hung te in
        let d = hang_next form.blocks (reservations form) W s g c (few_places form fit) w hw b left hung te i.2 i.3 in
        (d.0, d.2)

    hanged_same : (y : Batch) (m : ℕ) → hanged k y b left m ≡ hanged_of left follows.0 m
    hanged_same y m = ap (λ d. hanged_of left d m) (ap (λ v. unwrap_or v y.lead) follows.1)

    hung_guards : (y : Batch) (v : Option ℕ) → v ≡ head (reservation k (block k b).slot).list → is_off (s.list (block k b).slot) ≡ false → ((b : ℕ) → F b → E b)
        → Guard W H E (view (with_task (hung_at k (block k b).slot b v) w (hanged k y b left (hung + 1))) inside) (extra (with_task (hung_at k (block k b).slot b v) w (hanged k y b left (hung + 1))))
    hung_guards y v e on fine =
        let r = (block k b).slot in
        let hr = hang_place form.blocks (reservations form) W s g c (few_places form fit) w hw b left hung te r (λ z. false≢true (sym on ∙ ap is_off z)) in
        let ret = (hang_batch form.blocks (reservations form) W s g c (few_places form fit) w hw b left hung te).2 in
        let lt = retired_below form fit k inside sz long o.same_form g c al w hw b ret in
        let t : Task = hanged k y b left (hung + 1) in
        let j : Core = hung_at k r b v in
        seen (with_task j w t) inside _ _
        (view_task j inside w t (sized_hung_at k r b v sz) w8 ∙ ap (λ x. retask x w t) (view_hung_at k inside r b v sz (omega (arith, few_places form fit)) (omega (arith, few_blocks form fit)))
        ∙ ap (λ u. retask (relist (reunder s b u) r (Newest b)) w t) e ∙ ap (λ u. retask (relist (reunder s b (head (reservation k r).list)) r (Newest b)) w u) (hanged_same y (hung + 1)))
        (extra_task j w t ∙ extra_hung_at k r b v)
        (hang_guard form.blocks W H F E s g (extra k) c (few_places form fit) gd fine w hw b left hung te follows.0 follows.1 (hung + 1) r refl on)

    hang_on_guards : (y : Batch) (l : HungList) → (reservation k (block k b).slot).list ≡ l → Guards (hang_on k w y b left hung l)
    hang_on_guards y Off le f _ _ =
        seen (with_task k w (hanged k y b left hung)) inside _ _ (view_task k inside w (hanged k y b left hung) sz w8 ∙ ap (retask s w) (hanged_same y hung)) (extra_task k w (hanged k y b left hung))
        (skip_guard form.blocks W H F E s g (extra k) c (few_places form fit) gd (plainly f) w hw b left hung te follows.0 follows.1 hung (ap is_off le))
    hang_on_guards y Empty le f _ _ = hung_guards y None (sym (ap head le)) (ap is_off le) (plainly f)
    hang_on_guards y (Newest d) le f _ _ = hung_guards y (Some d) (sym (ap head le)) (ap is_off le) (plainly f)

    try_hang_guards : (v : Option Batch) → Guards (try_hang k w b left hung v)
    try_hang_guards None = λ f _ _. idle_guard (TryHang b left hung) te (λ h. (refl, refl)) (plainly f)
    try_hang_guards (Some y) = hang_on_guards y (reservation k (block k b).slot).list refl

  try_last_guards : (hung : ℕ) → (worker k w).task ≡ TryLast hung → (v : Option Batch) → (worker k w).batch ≡ v → Guards (try_last k w hung v)
  try_last_guards hung te None own f _ _ = idle_guard (TryLast hung) te (λ h. (refl, refl)) (plainly f)
  try_last_guards hung te (Some y) own f good whole =
      let l = y.lead in
      let back = due (settled k y hung) l in
      let lead = own_lead form.blocks (reservations form) W s g c w y hw own in
      let new : ℕ = (block k l).count + hung - 1024 in
      let same : view (try_last k w hung (Some y)).core (gained_all inside back) ≡ _ =
      view_last k inside w hung y sz w8 (lead_below l lead) (back_below back whole) ∙ ap (λ m. rebatch m w Idle None) (give_all_is (recount s l new y.newest) back) in
      seen (try_last k w hung (Some y)).core (gained_all inside back) _ _ same (extra_worker (all_pooled (settled k y hung) back) w _ refl ∙ extra_pooled back (settled k y hung) ∙ extra_block k l _ refl refl)
      (give_guard form.blocks W H F E s g (extra k) c gd (plainly f) w hw back whole Idle (fills s.inside back) (upd s.count l new) (upd s.newest l y.newest) (upd s.batch w None)
      (λ v ne. upd_other s.batch w None v ne) (λ z e. let i = sym (upd_same s.batch w None) ∙ e in let j : ◌≡◌ {A = ℕ} 0 1 = cc in absurd (omega arith))
      (λ z r e p. absurd (subst (λ u. Pends s.elder (extra k).slot z.newest u r) te p))
      good.2 (subst (λ m. Sound form.blocks (reservations form) W m good.2) same good.3) (λ h i b z. let j : ◌≡◌ {A = ℕ} 0 1 = cc in omega arith) (λ p b m z. let j : ◌≡◌ {A = ℕ} 0 1 = cc in omega arith)
      (λ h. (sym (ap (λ u. past_off u h) te), sym (ap (λ u. past_on u h) te), λ z. absurd (false≢true z))))

  -- a step, by the task
  pub step_guards : (t : Task) → (worker k w).task ≡ t → InTime H k.era t → Guards (step k inside n w t)
  step_guards Idle te p = λ f _ _. map_guard W H F E s (extra k) gd (plainly f)
  step_guards TakeEra te p = take_era_guards te
  step_guards TakeBlock te p = take_block_guards te
  step_guards (LookCell h x) te p = look_cell_guards h x te
  step_guards (LookEra h x v) te p = look_era_guards h x v te p
  step_guards (LookList h x e) te p = look_list_guards h x e te p.0 (own_reservation k w h).list refl
  step_guards (LookWalk h x b) te p = look_on_guards h x b te (block k b).under
  step_guards (LookAgain h x) te p = λ f _ _.
      seen (with_task k w (LookWrite h x k.era)) inside _ _ (view_task k inside w (LookWrite h x k.era) sz w8) (extra_task k w (LookWrite h x k.era))
      (simple (LookWrite h x k.era) (LookAgain h x) te (λ _ _. tt) (λ i j b z. let y : ◌≡◌ {A = ℕ} 0 1 = cc in omega arith) (λ i b m z. let y : ◌≡◌ {A = ℕ} 0 1 = cc in omega arith) (λ i. (refl, refl, λ z. z)) (plainly f))
  step_guards (LookWrite h x e) te p = look_write_guards h x e te p.0
  step_guards (DropList h) te p = drop_list_guards h te p (own_reservation k w h).list
  step_guards (DropWalk h b) te p = drop_on_guards h b te (block k b).under
  step_guards (DropEra h) te p = drop_era_guards h te p
  step_guards (TryVisit r b m) te p = try_visit_guards r b m te (worker k w).batch refl
  step_guards (TryHang b left hung) te p = try_hang_guards b left hung te (worker k w).batch
  step_guards (TryLast hung) te p = try_last_guards hung te (worker k w).batch refl

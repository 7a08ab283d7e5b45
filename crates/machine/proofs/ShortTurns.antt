-- That every turn keeps batches short.
use Rattle.std.proofs.Common.{◌≡◌, ℕ, ◌+◌, ◌-◌, ◌*◌, ◌<◌, ◌≤◌, Bool, true, false, cond, ◌&&◌, eqb, ltb, ◌≢◌, List, [], ◌∷◌, length, get_or, set, Some, None, Ok, Option, Result, sym, refl, ap, ◌∙◌, subst, arith}
use native.Mathlib.Decide.{ℕ_discrete}
use Rattle.std.proofs.lemmas.Bool.Decides.{nat_tests}
use Rattle.figures.specs.Limits.{Fit}
use Rattle.figures.specs.declared.limits.Form.{Form}
use Rattle.pools.specs.Counts.{tally}
use Rattle.pools.specs.declared.PoolFault.{PoolFault}
use Rattle.machine.specs.declared.states.Batch.{Batch}
use Rattle.machine.specs.declared.states.Block.{Block}
use Rattle.machine.specs.declared.states.HungList.{HungList}
use Rattle.machine.specs.declared.states.HungList.TheVariants.{Off, Empty, Newest}
use Rattle.machine.specs.declared.states.Standing.{Standing}
use Rattle.machine.specs.declared.states.Standing.TheVariants.{Pooled, Live, Retired}
use Rattle.machine.specs.declared.states.Task.{Task}
use Rattle.machine.specs.declared.states.Task.TheVariants.{Idle, TakeEra, TakeBlock, LookCell, LookEra, LookList, LookWalk, LookAgain, LookWrite, DropList, DropWalk, DropEra, TryVisit, TryHang, TryLast}
use Rattle.machine.specs.declared.states.Worker.{Worker}
use Rattle.machine.specs.declared.states.Core.{Core}
use Rattle.machine.specs.State.{blank_block, blank_worker, block, worker, reservation, with_block}
use Rattle.machine.specs.Cells.{home}
use Rattle.machine.specs.Runs.{Chosen}
use Rattle.machine.specs.Moves.{Move}
use Rattle.machine.specs.Taking.{taken_block, take_era, took, take_block}
use Rattle.machine.specs.Looking.{readable, own_reservation, look_list, look_on}
use Rattle.machine.specs.Dropping.{drop_list, drop_on}
use Rattle.machine.specs.Trying.{places, passed_over, with_slot, block_after, visited, try_visit, with_under, hanged, hang_on, try_hang, settled, try_last}
use Rattle.machine.specs.Walking.{with_count, all_pooled, due, count_down, handled}
use Rattle.machine.specs.Turns.{turn_checks, step, turn}
use Rattle.machine.specs.Account.{is_retired}
use Rattle.machine.proofs.Standings.{is_pooled}
use Rattle.machine.specs.BatchSizes.{batched, batch_count, tries, OwnSize, ShortBatches}
use Rattle.machine.proofs.Passing.{by_test, checked_keeps}
use Rattle.machine.proofs.StoresByPlace.{set_keeps_at}
use Rattle.machine.proofs.Sums.{Σ, tot, is, mark, Each, Σ_cong, Σ_term, is_self, each_of, upd_same}
use Rattle.machine.proofs.Chains.{Chain, Ends, chain_some, ends_in}
use Rattle.machine.proofs.Mirror.{view}
use Rattle.machine.proofs.Sound.{Gh, Sound, TaskRight, Alive, Lead, next, hung_of, owns}
use Rattle.machine.proofs.Sound as sound
use Rattle.machine.proofs.Bridge.{Sized, view_count_down, due_count_down, due_settled}
use Rattle.machine.proofs.Owners.{owns_own, alone, own_lead, own_chain}
use Rattle.machine.proofs.WalkKept.{walk_keeps}
use Rattle.machine.proofs.GiveKept.{spent_left}
use Rattle.machine.proofs.VisitKept.{visiting}
use Rattle.machine.proofs.StepsSound.{reservations, Good, length_by, few_workers, few_places, few_blocks, batch_short, retired_below, due_none}
use Rattle.pools.specs.CountsLemmas.{in_below}
use Rattle.machine.proofs.Doings.{all_pooled_workers}
use Rattle.machine.proofs.BatchCounts.{rows_same, rows_sum, not_batched, all_pooled_less, all_pooled_other, own_as, moved, retasked}

-- standings
pooled_not : (s : Standing) → is_pooled s ≡ true → is_retired s ≡ false
pooled_not Pooled e = refl
pooled_not Live e = refl
pooled_not Retired e = let f : ◌≡◌ {A = ℕ} 0 1 = cc in absurd (omega arith)

pub retired_is : (s : Standing) → is_retired s ≡ true → s ≡ Retired
retired_is Pooled e = let f : ◌≡◌ {A = ℕ} 0 1 = cc in absurd (omega arith)
retired_is Live e = let f : ◌≡◌ {A = ℕ} 0 1 = cc in absurd (omega arith)
retired_is Retired e = refl

-- two tests that count together
mark_left : (a b : Bool) → 1 ≤ mark (a && b) → a ≡ true
mark_left true b h = refl
mark_left false b h = absurd (omega arith)

mark_right : (a : Bool) (p q : ℕ) → 1 ≤ mark (a && eqb p q) → p ≡ q
mark_right true p q h = grind (arith, nat_tests)
mark_right false p q h = absurd (omega arith)

module _ (form : Form) (fit : Fit form) (k : Core) (inside : List Bool) (sz : Sized k) (long : length inside ≡ form.blocks) (same_form : k.form ≡ form) (g : Gh)
    (c : Sound form.blocks (reservations form) form.workers (view k inside) g) (al : Alive (view k inside)) (w : ℕ) (hw : w < form.workers) where
  -- the blocks of a batch are retired and name its lead
  pub names_lead : (b l : ℕ) → 1 ≤ tot (is b) (g.members l) → (block k b).lead ≡ l
  names_lead b l m = mark_right (is_retired (block k b).standing) (block k b).lead l (let e = c.members_are b l in omega arith)

  pub there_below : (b l : ℕ) → 1 ≤ tot (is b) (g.members l) → b < 2048
  there_below b l m =
      let r = mark_left (is_retired (block k b).standing) (eqb (block k b).lead l) (let e = c.members_are b l in omega arith) in
      let lt = retired_below form fit k inside sz long same_form g c al w hw b (retired_is (block k b).standing r) in
      omega (arith, few_blocks form fit)

  -- a batch has as many blocks as are counted
  pub counted : (l : ℕ) → batch_count k l ≡ length (g.members l)
  counted l =
      rows_sum l k.blocks.rows
      ∙ ap (Σ (λ b. batched l (block k b))) sz.rows
      ∙ Σ_cong (λ b. batched l (block k b)) (λ b. tot (is b) (g.members l)) 2048 (λ b _. sym (c.members_are b l))
      ∙ sym (length_by (g.members l) 2048 (each_of (λ b. b < 2048) (g.members l) (λ b m. there_below b l m)))

  -- no block of another's batch is given back
  apart : (l m : ℕ) → l ≢ m → Each (λ b. (block k b).lead ≢ m) (g.members l)
  apart l m ne = each_of (λ b. (block k b).lead ≢ m) (g.members l) (λ b i z. ne (sym (names_lead b l i) ∙ z))

module _ (form : Form) (fit : Fit form) (k : Core) (inside : List Bool) (n : ℕ) (sz : Sized k) (long : length inside ≡ form.blocks) (same_form : k.form ≡ form) (g : Gh)
    (c : Sound form.blocks (reservations form) form.workers (view k inside) g) (al : Alive (view k inside)) (w : ℕ) (hw : w < form.workers) (chosen : Chosen inside n) (sh : ShortBatches form k) where
  lw : w < length k.workers
  lw = let s = sz.workers in let f = few_workers form fit w hw in omega arith

  -- a move leaves batches short
  abbrev Shorts : Move → Type 0
  Shorts m = ShortBatches form m.core

  -- a task in place of another, both of them tries or neither
  plain : (k' : Core) (y : Worker) (u : Task) → (worker k w).task ≡ u → k'.workers ≡ set k.workers w y → y.batch ≡ (worker k w).batch → tries y.task ≡ tries u → ((l : ℕ) → batch_count k' l ≡ batch_count k l) → ShortBatches form k'
  plain k' y u te e eb et same = retasked form k sh w lw hw k' y e eb (et ∙ sym (ap tries te)) same

  -- taking
  take_era_short : (worker k w).task ≡ TakeEra → Shorts (take_era k w)
  take_era_short te =
      by_test Shorts (eqb (worker k w).takings 0) _ _
      (λ _. by_test Shorts (eqb k.era 4294967295) _ _ (λ _. plain _ _ TakeEra te refl refl refl (λ _. refl)) (λ _. plain _ _ TakeEra te refl refl refl (λ _. refl)))
      (λ _. plain _ _ TakeEra te refl refl refl (λ _. refl))

  took_short : (worker k w).task ≡ TakeBlock → 0 < tally inside → Shorts (took k w (Ok n))
  took_short te some =
      let ins = chosen some in
      let lt = in_below inside n ins in
      let no = pooled_not (block k n).standing (c.pooled_in n (omega arith) ∙ ins) in
      plain _ _ TakeBlock te refl refl refl (λ l. rows_same l k.blocks.rows n (taken_block (block k n) k.era w) (sym (not_batched l (block k n) no)))

  take_block_short : (worker k w).task ≡ TakeBlock → Shorts (take_block k inside n w)
  take_block_short te =
      by_test Shorts (ltb k.live k.form.live) _ _
      (λ _. by_test (λ (r : Result ℕ PoolFault). Shorts (took k w r)) (eqb (tally inside) 0) _ _ (λ _. plain _ _ TakeBlock te refl refl refl (λ _. refl)) (λ ne. took_short te (grind (arith, nat_tests))))
      (λ _. plain _ _ TakeBlock te refl refl refl (λ _. refl))

  -- looking and dropping
  look_list_short : (h x e : ℕ) → (worker k w).task ≡ LookList h x e → (l : HungList) → Shorts (look_list k w h x e l)
  look_list_short h x e te Off = plain _ _ (LookList h x e) te refl refl refl (λ _. refl)
  look_list_short h x e te Empty = plain _ _ (LookList h x e) te refl refl refl (λ _. refl)
  look_list_short h x e te (Newest b) = plain _ _ (LookList h x e) te refl refl refl (λ _. refl)

  drop_list_short : (h : ℕ) → (worker k w).task ≡ DropList h → (l : HungList) → Shorts (drop_list k w h l)
  drop_list_short h te Off = plain _ _ (DropList h) te refl refl refl (λ _. refl)
  drop_list_short h te Empty = plain _ _ (DropList h) te refl refl refl (λ _. refl)
  drop_list_short h te (Newest b) = plain _ _ (DropList h) te refl refl refl (λ _. refl)

  -- trying
  visited_tries : (x : Batch) (r b aside : ℕ) → tries (visited k x r b aside) ≡ true
  visited_tries x r b aside =
      by_test (λ t. tries t ≡ true) (ltb (r + 1) (places k)) _ _ (λ _. refl) (λ _. by_test (λ t. tries t ≡ true) (eqb aside 0) _ _ (λ _. refl) (λ _. refl))

  hanged_tries : (x : Batch) (b left hung : ℕ) → tries (hanged k x b left hung) ≡ true
  hanged_tries x b left hung = by_test (λ t. tries t ≡ true) (ltb 1 left) _ _ (λ _. refl) (λ _. refl)

  -- a list of which one is the lead and the last too has only that
  lone : (l b : ℕ) (rs bs : List ℕ) → rs ≡ b ∷ bs → Ends l rs → b ≡ l → tot (is l) rs ≤ 1 → length rs ≡ 1
  lone l b rs [] e ends same once = ap length e
  lone l b rs (d ∷ ds) e ends same once =
      absurd (
      let i = ends_in l (d ∷ ds) (subst (Ends l) e ends) in
      let j : is l b ≡ 1 = rw same (is_self l) in
      let t = ap (tot (is l)) e in
      omega arith
      )

  -- a try that fails has set fewer blocks aside than there are reservations
  failed_short : (r b aside : ℕ) → (worker k w).task ≡ TryVisit r b aside → (x : Batch) → (worker k w).batch ≡ Some x → b ≡ x.lead → batch_count k x.lead ≤ reservations form
  failed_short r b aside te x oe same =
      let v = visiting _ _ _ (view k inside) g c w hw x oe r b aside te in
      let m = chain_some (λ i. (block k i).elder) b (g.rest w) v.2 in
      let once : tot (is x.lead) (g.rest w) ≤ 1 = let a = v.5 x.lead in let e = c.members_are x.lead x.lead in grind arith in
      let one = lone x.lead b (g.rest w) m.0 m.1 v.3 same once in
      let n = counted form fit k inside sz long same_form g c al w hw x.lead in
      let p = v.0 in
      let q = v.1 in
      let s = v.4 in
      omega arith

  stays : (x : Batch) → batch_count k x.lead ≤ reservations form → OwnSize form (batch_count k) true (Some x) → OwnSize form (batch_count k) false (Some x)
  stays x few o =
      let m = o.1.1 in
      let e : x.size ≡ m * form.trying_period = o.1.2 in
      let s = o.0 in
      let p = fit.5.0 in
      (s, (m, omega arith, omega arith, omega arith))

  try_visit_short : (r b aside : ℕ) → (worker k w).task ≡ TryVisit r b aside → (o : Option Batch) → (worker k w).batch ≡ o → Shorts (try_visit k w r b aside o)
  try_visit_short r b aside te None oe = moved form k sh w lw _ _ refl sh.short (λ _ _ _ _ _. refl) (subst (λ o. OwnSize form (batch_count k) false o) (sym oe) tt)
  try_visit_short r b aside te (Some x) oe =
      by_test Shorts (passed_over (reservation k r) x.least) _ _
      (λ _. plain _ _ (TryVisit r b aside) te refl refl (visited_tries x r b aside) (λ _. refl))
      (λ _. by_test Shorts (eqb b x.lead) _ _
      (λ e.
      let o = subst (λ t. OwnSize form (batch_count k) (tries t) (Some x)) te (subst (OwnSize form (batch_count k) (tries (worker k w).task)) oe (sh.own w hw)) in
      moved form k sh w lw _ _ refl sh.short (λ _ _ _ _ _. refl) (subst (λ o. OwnSize form (batch_count k) false o) (sym oe) (stays x (failed_short r b aside te x oe (grind (arith, nat_tests))) o)))
      (λ _. plain _ _ (TryVisit r b aside) te refl refl (visited_tries x r (block_after k x b) (aside + 1)) (λ l. rows_same l k.blocks.rows b (with_slot (block k b) r) refl)))

  hang_on_short : (b left hung : ℕ) → (worker k w).task ≡ TryHang b left hung → (x : Batch) (l : HungList) → Shorts (hang_on k w x b left hung l)
  hang_on_short b left hung te x Off = plain _ _ (TryHang b left hung) te refl refl (hanged_tries x b left hung) (λ _. refl)
  hang_on_short b left hung te x Empty = plain _ _ (TryHang b left hung) te refl refl (hanged_tries x b left (hung + 1)) (λ l. rows_same l k.blocks.rows b (with_under (block k b) None) refl)
  hang_on_short b left hung te x (Newest y) = plain _ _ (TryHang b left hung) te refl refl (hanged_tries x b left (hung + 1)) (λ l. rows_same l k.blocks.rows b (with_under (block k b) (Some y)) refl)

  try_hang_short : (b left hung : ℕ) → (worker k w).task ≡ TryHang b left hung → (o : Option Batch) → (worker k w).batch ≡ o → Shorts (try_hang k w b left hung o)
  try_hang_short b left hung te None oe = moved form k sh w lw _ _ refl sh.short (λ _ _ _ _ _. refl) (subst (λ o. OwnSize form (batch_count k) false o) (sym oe) tt)
  try_hang_short b left hung te (Some x) oe = hang_on_short b left hung te x (reservation k (block k b).slot).list

  -- a lead with another count, after which blocks are given back
  module _ (l count newest : ℕ) where
    abbrev recounted : Core
    recounted = with_block k l (with_count (block k l) count newest)

    recounted_same : (m : ℕ) → batch_count recounted m ≡ batch_count k m
    recounted_same m = rows_same m k.blocks.rows l (with_count (block k l) count newest) refl

    given_short : (back : List ℕ) (m : ℕ) → batch_count (all_pooled recounted back) m ≤ form.workers * form.holds + form.trying_period
    given_short back m = let a = all_pooled_less back recounted m in let b = recounted_same m in let s = sh.short m in omega arith

    given_same : (back : List ℕ) (m : ℕ) → Each (λ b. (block k b).lead ≢ m) back → batch_count (all_pooled recounted back) m ≡ batch_count k m
    given_same back m h =
        all_pooled_other back recounted m (λ b. (block k b).lead) (set_keeps_at (λ i (z : Block). z.lead ≡ (block k i).lead) blank_block k.blocks.rows l (with_count (block k l) count newest) (λ _. refl) refl) h
        ∙ recounted_same m

  -- a worker's batch has not left
  not_left : (l v : ℕ) (x : Batch) → (worker k v).batch ≡ Some x → owns l (worker k v).batch ≡ 0 → l ≢ x.lead
  not_left l v x e z same = let o = owns_own l x (sym same) in let f = ap (owns l) e in omega arith

  -- walking: none of what is given back is in a worker's own batch
  module _ (b : ℕ) (t : Task) (walks : next (worker k w).task ≡ Some b) (on : next t ≡ (block k b).under) (plainly : (ms rest : List ℕ) → sound.due t ms rest ≡ ms) (none_hung : hung_of t ≡ 0)
      (right : TaskRight (reservations form) (λ x. (block k x).elder) g.members (worker k w).batch (g.rest w) t) where
    walk_apart : (v : ℕ) (x : Batch) → v < form.workers → (worker k v).batch ≡ Some x → Each (λ i. (block k i).lead ≢ x.lead) (due (count_down k (block k b).lead) (block k b).lead)
    walk_apart v x hv ev =
        let l = (block k b).lead in
        let h = walk_keeps _ _ _ (view k inside) g c (few_places form fit) w b t hw walks on plainly none_hung right in
        let leads : Lead (view k inside) l = h.4 in
        let below = retired_below form fit k inside sz long same_form g c al w hw l leads.0 in
        let below' : l < 2048 = omega (arith, few_blocks form fit) in
        let now_count = upd_same (λ i. (block k i).count) l ((block k l).count - 1) in
        let down : (block (count_down k l) l).count ≡ (block k l).count - 1 = ap (λ i. i.count l) (view_count_down k inside l sz below') ∙ now_count in
        elim (ℕ_discrete ((block k l).count - 1) 0) [
          | yes z ↦
              (let free = spent_left _ _ _ _ h.0 h.1 (few_places form fit) l leads (now_count ∙ z) in
              let chain : Chain (λ i. (block k i).elder) (Some (block k l).newest) (h.0.members l) = subst (λ y. Chain (λ i. (block k i).elder) (Some y) (h.0.members l)) (upd_same (λ i. (block k i).newest) l (block k l).newest) (h.1.left l leads free) in
              let few : length (h.0.members l) ≤ 2048 = subst (λ m. length (m l) ≤ 2048) (sym h.2) (batch_short form fit k inside sz long same_form g c al w hw l leads) in
              let spent : eqb ((block k l).count - 1) 0 ≡ true = grind (arith, nat_tests) in
              let e : due (count_down k l) l ≡ g.members l = due_count_down k l (h.0.members l) sz below' chain few ∙ ap (λ y. cond y (h.0.members l) []) spent ∙ ap (λ m. m l) h.2 in
              let none : owns l (worker k v).batch ≡ 0 = let s = Σ_term (λ i. owns l (worker k i).batch) v form.workers hv in omega arith in
              subst (Each (λ i. (block k i).lead ≢ x.lead)) (sym e) (apart form fit k inside sz long same_form g c al w hw l x.lead (not_left l v x ev none)))
          | no ne ↦ subst (Each (λ i. (block k i).lead ≢ x.lead)) (sym (due_none (count_down k l) l (λ z. ne (sym down ∙ z)))) tt
        ]

    handled_short : tries t ≡ tries (worker k w).task → Shorts (handled k w b t)
    handled_short same =
        let l = (block k b).lead in
        let back = due (count_down k l) l in
        let kept : (v : ℕ) (x : Batch) → v < form.workers → (worker k v).batch ≡ Some x → batch_count (all_pooled (count_down k l) back) x.lead ≡ batch_count k x.lead =
        λ v x hv ev. given_same l ((block k l).count - 1) (block k l).newest back x.lead (walk_apart v x hv ev) in
        let p : Core = all_pooled (count_down k l) back in
        let ws : p.workers ≡ k.workers = all_pooled_workers back (count_down k l) in
        let y : Worker = record { takings = (worker p w).takings; task = t; batch = (worker p w).batch; shows = (worker p w).shows } in
        moved form k sh w lw _ y (ap (λ us. set us w y) ws) (given_short l ((block k l).count - 1) (block k l).newest back) (λ v x hv _ ev. kept v x hv ev)
        (subst (λ us. OwnSize form (batch_count p) (tries t) (get_or us w blank_worker).batch) (sym ws)
        (subst (λ y. OwnSize form (batch_count p) y (worker k w).batch) (sym same)
        (own_as form (batch_count k) (batch_count p) (tries (worker k w).task) (worker k w).batch (λ x ev. kept w x hw ev) (sh.own w hw))))

  look_on_short : (h x b : ℕ) → (worker k w).task ≡ LookWalk h x b → (o : Option ℕ) → (block k b).under ≡ o → Shorts (handled k w b (look_on h x o))
  look_on_short h x b te None oe = handled_short b (LookAgain h x) (ap next te) (sym oe) (λ _ _. refl) refl tt (sym (ap tries te))
  look_on_short h x b te (Some d) oe = handled_short b (LookWalk h x d) (ap next te) (sym oe) (λ _ _. refl) refl tt (sym (ap tries te))

  drop_on_short : (h b : ℕ) → (worker k w).task ≡ DropWalk h b → (o : Option ℕ) → (block k b).under ≡ o → Shorts (handled k w b (drop_on h o))
  drop_on_short h b te None oe = handled_short b (DropEra h) (ap next te) (sym oe) (λ _ _. refl) refl tt (sym (ap tries te))
  drop_on_short h b te (Some d) oe = handled_short b (DropWalk h d) (ap next te) (sym oe) (λ _ _. refl) refl tt (sym (ap tries te))

  -- the last turn of a try: none of what is given back is in another worker's batch
  last_apart : (hung : ℕ) (x : Batch) → (worker k w).batch ≡ Some x → (v : ℕ) (y : Batch) → v < form.workers → v ≢ w → (worker k v).batch ≡ Some y → Each (λ i. (block k i).lead ≢ y.lead) (due (settled k x hung) x.lead)
  last_apart hung x eb v y hv ne ev =
      let l = x.lead in
      let lead = own_lead _ _ _ (view k inside) g c w x hw eb in
      let below = retired_below form fit k inside sz long same_form g c al w hw l lead.0 in
      let below' : l < 2048 = omega (arith, few_blocks form fit) in
      let chain = own_chain _ _ _ (view k inside) g c w x hw eb in
      let few = batch_short form fit k inside sz long same_form g c al w hw l lead in
      let one : owns l (worker k w).batch ≡ 1 = ap (owns l) eb ∙ owns_own l x refl in
      let none : owns l (worker k v).batch ≡ 0 = alone _ _ _ (view k inside) g c l w v hw hv ne one in
      let all = apart form fit k inside sz long same_form g c al w hw l y.lead (not_left l v y ev none) in
      subst (Each (λ i. (block k i).lead ≢ y.lead)) (sym (due_settled k x hung (g.members l) sz below' chain few))
      (by_test (Each (λ i. (block k i).lead ≢ y.lead)) (eqb ((block k l).count + hung - 1024) 0) (g.members l) [] (λ _. all) (λ _. tt))

  try_last_short : (hung : ℕ) → (worker k w).task ≡ TryLast hung → (o : Option Batch) → (worker k w).batch ≡ o → Shorts (try_last k w hung o)
  try_last_short hung te None oe = moved form k sh w lw _ _ refl sh.short (λ _ _ _ _ _. refl) (subst (λ o. OwnSize form (batch_count k) false o) (sym oe) tt)
  try_last_short hung te (Some x) oe =
      let l = x.lead in
      let new : ℕ = (block k l).count + hung - 1024 in
      let back = due (settled k x hung) l in
      let p : Core = all_pooled (settled k x hung) back in
      let ws : p.workers ≡ k.workers = all_pooled_workers back (settled k x hung) in
      let y : Worker = record { takings = (worker p w).takings; task = Idle; batch = None; shows = (worker p w).shows } in
      moved form k sh w lw _ y (ap (λ us. set us w y) ws) (given_short l new x.newest back)
      (λ v z hv ne ev. given_same l new x.newest back z.lead (last_apart hung x oe v z hv ne ev)) tt

  -- a step, by the task
  step_short : (t : Task) → (worker k w).task ≡ t → Shorts (step k inside n w t)
  step_short Idle te = sh
  step_short TakeEra te = take_era_short te
  step_short TakeBlock te = take_block_short te
  step_short (LookCell h x) te = by_test Shorts (readable k (home x)) _ _ (λ _. plain _ _ (LookCell h x) te refl refl refl (λ _. refl)) (λ _. plain _ _ (LookCell h x) te refl refl refl (λ _. refl))
  step_short (LookEra h x seen) te = by_test Shorts (eqb k.era (own_reservation k w h).era) _ _ (λ _. plain _ _ (LookEra h x seen) te refl refl refl (λ _. refl)) (λ _. plain _ _ (LookEra h x seen) te refl refl refl (λ _. refl))
  step_short (LookList h x e) te = look_list_short h x e te (own_reservation k w h).list
  step_short (LookWalk h x b) te = look_on_short h x b te (block k b).under refl
  step_short (LookAgain h x) te = plain _ _ (LookAgain h x) te refl refl refl (λ _. refl)
  step_short (LookWrite h x e) te = plain _ _ (LookWrite h x e) te refl refl refl (λ _. refl)
  step_short (DropList h) te = drop_list_short h te (own_reservation k w h).list
  step_short (DropWalk h b) te = drop_on_short h b te (block k b).under refl
  step_short (DropEra h) te = by_test Shorts (ltb (h + 1) k.form.holds) _ _ (λ _. plain _ _ (DropEra h) te refl refl refl (λ _. refl)) (λ _. plain _ _ (DropEra h) te refl refl refl (λ _. refl))
  step_short (TryVisit r b aside) te = try_visit_short r b aside te (worker k w).batch refl
  step_short (TryHang b left hung) te = try_hang_short b left hung te (worker k w).batch refl
  step_short (TryLast hung) te = try_last_short hung te (worker k w).batch refl

-- a turn
pub turn_short : (form : Form) → Fit form → (k : Core) (inside : List Bool) (n w : ℕ) → Good form k inside → k.form ≡ form → Chosen inside n → ShortBatches form k → ShortBatches form (turn k inside n w).core
turn_short form fit k inside n w good same_form chosen sh =
    checked_keeps (λ (m : Move). ShortBatches form m.core) k (turn_checks k w) (step k inside n w (worker k w).task) (λ _. sh)
    (λ p.
    let hw : w < form.workers = let e = p.0 in let f : k.form.workers ≡ form.workers = ap (λ (x : Form). x.workers) same_form in grind (arith, nat_tests) in
    step_short form fit k inside n good.0 good.1 same_form good.2 good.3 good.4 w hw chosen sh (worker k w).task refl)

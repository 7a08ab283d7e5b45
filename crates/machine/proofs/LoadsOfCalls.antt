-- That every call keeps loads small.
use Rattle.std.proofs.Common.{◌≡◌, ℕ, ◌+◌, ◌<◌, ◌≤◌, min, Bool, true, false, cond, ◌&&◌, eqb, ltb, leb, List, length, get_or, set, Some, None, Option, sym, refl, ap, ◌∙◌, subst, arith}
use native.Mathlib.Decide.{dec_lt}
use Rattle.std.proofs.lemmas.Bool.Decides.{nat_tests}
use Rattle.figures.specs.Limits.{Fit}
use Rattle.figures.specs.declared.limits.Form.{Form}
use Rattle.machine.specs.declared.calls.Call.{Call}
use Rattle.machine.specs.declared.calls.Call.TheVariants.{Take, Look, Drop, Retire, Relink, Write, Read, Turn}
use Rattle.machine.specs.declared.states.Batch.{Batch}
use Rattle.machine.specs.declared.states.Block.{Block}
use Rattle.machine.specs.declared.states.Standing.TheVariants.{Live}
use Rattle.machine.specs.declared.states.Task.{Task}
use Rattle.machine.specs.declared.states.Task.TheVariants.{Idle, TakeEra, TakeBlock, LookCell, LookEra, LookList, LookWalk, LookAgain, LookWrite, DropList, DropWalk, DropEra, TryVisit, TryHang, TryLast}
use Rattle.machine.specs.declared.states.Worker.{Worker}
use Rattle.machine.specs.declared.states.Core.{Core}
use Rattle.machine.specs.State.{fresh_reservation, blank_block, blank_worker, is_live, block, worker, reservation, with_block}
use Rattle.machine.specs.Account.{is_retired}
use Rattle.machine.specs.Cells.{home, home_block, held, with_cell, named_more, named_less}
use Rattle.machine.specs.Eras.{InTime, InOrder}
use Rattle.machine.specs.Hands.{owns}
use Rattle.machine.specs.Living.{FewLive}
use Rattle.machine.specs.Looking.{readable, own_reservation, with_shown}
use Rattle.machine.specs.Machine.{State, after, write_checks, written, read_checks, found}
use Rattle.machine.specs.Moves.{Move}
use Rattle.machine.specs.Runs.{Chosen}
use Rattle.machine.specs.Turns.{turn_checks, step, turn}
use Rattle.machine.specs.Calls.{is_worker, is_hold, is_cell, is_block, free_checks, take, look_checks, look, drop, joined, newest_of, try_due, with_batch, retired_block, unlinked, retired, retiring, retire_checks, retire, disowned, relinked, relink_checks, relink}
use Rattle.machine.proofs.Passing.{by_test, both_left, both_right, checked_keeps}
use Rattle.machine.proofs.Sums.{upd, tot, mark, is}
use Rattle.machine.proofs.Chains.{Chain}
use Rattle.machine.proofs.Bridge.{Sized, field_kept, field_set, sized_unlinked, unlinked_standing}
use Rattle.machine.proofs.CallsSound.{idle_is, live_is}
use Rattle.machine.proofs.Doings.{relinked_workers, unlinked_workers}
use Rattle.machine.proofs.Mirror.{view}
use Rattle.machine.proofs.RunsInTime.{judged_same}
use Rattle.machine.proofs.Sound.{Gh, Sound, Alive, head, next}
use Rattle.machine.proofs.StepsSound.{reservations, Good, few_blocks, place_below}
use Rattle.machine.proofs.Potential.{Shape, shape, shape_kept, same_shape, resting, stage, halfway, emptied_hold, aside_of, coming, SlotsRight, born, amount, amount_less, amount_set}
use Rattle.machine.proofs.Loads.{Loads, same_weight, moved, quiet}
use Rattle.machine.proofs.LoadsOfLooks.{Light, asking, weigh_below, no_chain, no_hold, set_others, set_here, retasked, plain, take_era_light, take_block_light, writes, look_list_light, look_on_light, drop_list_light, drop_on_light, drop_era_light}
use Rattle.machine.proofs.LoadsOfTries.{not_aside, asking_elder, slots_elder, try_visit_light, try_hang_light, try_last_light}

-- a step, by the task
module _ (form : Form) (fit : Fit form) (k : Core) (inside : List Bool) (n : ℕ) (sz : Sized k) (long : length inside ≡ form.blocks) (o : InOrder form 0 k) (few : FewLive k) (g : Gh)
    (c : Sound form.blocks (reservations form) form.workers (view k inside) g) (al : Alive (view k inside)) (chosen : Chosen inside n) (len walk : ℕ → ℕ) (l : Loads form k len walk) (w : ℕ) (hw : w < form.workers) where
  abbrev Lights : Move → Type 0
  Lights m = Light form m.core

  step_light : (t : Task) → (worker k w).task ≡ t → InTime form.holds k.era t → Lights (step k inside n w t)
  step_light Idle te p = (len, walk, l)
  step_light TakeEra te p = take_era_light form fit k sz o few len walk l w hw te
  step_light TakeBlock te p = take_block_light form fit k sz o few len walk l w hw inside n long chosen te
  step_light (LookCell h x) te p =
      by_test Lights (readable k (home x)) _ _
      (λ _. plain form fit k sz o few len walk l w hw (LookEra h x (held k x)) (LookCell h x) te refl (omega arith) refl (λ i q. no_hold i q))
      (λ _. plain form fit k sz o few len walk l w hw Idle (LookCell h x) te refl (omega arith) refl (λ i q. no_hold i q))
  step_light (LookEra h x seen) te p =
      by_test Lights (eqb k.era (own_reservation k w h).era) _ _
      (λ _. retasked form fit k sz o few len walk l w hw (record { takings = (worker k w).takings; task = Idle; batch = (worker k w).batch; shows = set (worker k w).shows h seen }) (LookEra h x seen) te refl refl refl (omega arith) (with_shown k w h seen Idle) refl refl refl refl (λ xs ch. no_chain (shape k).under (walk w) xs ch) (λ i q. no_hold i q))
      (λ _. plain form fit k sz o few len walk l w hw (LookList h x k.era) (LookEra h x seen) te refl (omega arith) refl (λ i q. no_hold i q))
  step_light (LookList h x e) te p = look_list_light form fit k sz o few len walk l w hw h x e te p.0 (own_reservation k w h).list refl
  step_light (LookWalk h x b) te p = look_on_light form fit k sz o few len walk l w hw h x b te (block k b).under refl
  step_light (LookAgain h x) te p = plain form fit k sz o few len walk l w hw (LookWrite h x k.era) (LookAgain h x) te refl (omega arith) refl (λ i q. q)
  step_light (LookWrite h x e) te p = writes form fit k sz o few len walk l w hw h p.0 e p.1 (LookCell h x) (LookWrite h x e) te refl refl (omega arith) refl refl
  step_light (DropList h) te p = drop_list_light form fit k sz o few len walk l w hw h te p (own_reservation k w h).list refl
  step_light (DropWalk h b) te p = drop_on_light form fit k sz o few len walk l w hw h b te (block k b).under refl
  step_light (DropEra h) te p = drop_era_light form fit k sz o few len walk l w hw h te p
  step_light (TryVisit r b aside) te p = try_visit_light form fit k inside sz long o few g c al len walk l w hw r b aside te (worker k w).batch refl
  step_light (TryHang b left hung) te p = try_hang_light form fit k inside sz long o few g c al len walk l w hw b left hung te (worker k w).batch refl
  step_light (TryLast hung) te p = try_last_light form fit k inside sz long o few g c al len walk l w hw hung te (worker k w).batch refl

-- what loads see stays, and no more blocks are born
abbrev Unseen : Core → Core → Type 0
Unseen k j = (shape j ≡ shape k) × (j.reservations ≡ k.reservations) × (j.era ≡ k.era) × ((e : ℕ) → amount (born e) j.blocks.rows ≤ amount (born e) k.blocks.rows)

unseen_same : (k : Core) → Unseen k k
unseen_same k = (refl, refl, refl, λ e. omega arith)

unseen_then : (k j i : Core) → Unseen k j → Unseen j i → Unseen k i
unseen_then k j i a b = (b.0 ∙ a.0, b.1 ∙ a.1, b.2 ∙ a.2, λ e. let p = a.3 e in let q = b.3 e in omega arith)

unseen_block : (k : Core) (b : ℕ) (x : Block) → x.under ≡ (block k b).under → x.elder ≡ (block k b).elder → x.slot ≡ (block k b).slot → ((e : ℕ) → born e x ≤ born e (block k b)) → Unseen k (with_block k b x)
unseen_block k b x e_under e_elder e_slot less = (shape_kept k b x e_under e_elder e_slot, refl, refl, λ e. amount_less (born e) k.blocks.rows b x (less e))

unseen_less : (k : Core) (x : Option ℕ) → Unseen k (named_less k x)
unseen_less k None = unseen_same k
unseen_less k (Some b) = unseen_block k b _ refl refl refl (λ e. omega arith)

unseen_more : (k : Core) (x : Option ℕ) → Unseen k (named_more k x)
unseen_more k None = unseen_same k
unseen_more k (Some b) = unseen_block k b _ refl refl refl (λ e. omega arith)

unseen_disowned : (k : Core) (w : ℕ) (x : Option ℕ) → Unseen k (disowned k w x)
unseen_disowned k w None = unseen_same k
unseen_disowned k w (Some b) = by_test (Unseen k) (owns k w b) _ _ (λ _. unseen_block k b _ refl refl refl (λ e. omega arith)) (λ _. unseen_same k)

unseen_cell : (k : Core) (c : ℕ) (x : Option ℕ) → Unseen k (with_cell k c x)
unseen_cell k c x = by_test (Unseen k) (ltb c 16) _ _ (λ _. (refl, refl, refl, λ e. omega arith)) (λ _. unseen_block k (home_block c) _ refl refl refl (λ e. omega arith))

unseen_unlinked : (k : Core) (b : ℕ) → Unseen k (unlinked k b)
unseen_unlinked k b =
    let j : Core = named_less k (get_or (block k b).links 0 None) in
    unseen_then k j (unlinked k b) (unseen_less k (get_or (block k b).links 0 None)) (unseen_less j (get_or (block k b).links 1 None))

unseen_relinked : (k : Core) (w c : ℕ) (new : Option ℕ) → Unseen k (relinked k w c new)
unseen_relinked k w c new =
    let j : Core = named_less k (held k c) in
    let i : Core = named_more j new in
    let h : Core = disowned i w new in
    unseen_then k h (with_cell h c new) (unseen_then k i h (unseen_then k j i (unseen_less k (held k c)) (unseen_more j new)) (unseen_disowned i w new)) (unseen_cell h c new)

-- births stay where links are counted no longer
births_less : (k : Core) (x : Option ℕ) (i : ℕ) → (block (named_less k x) i).birth ≡ (block k i).birth
births_less k None i = refl
births_less k (Some b) i = ap (λ (f : ℕ → ℕ). f i) (field_kept (λ (y : Block). y.birth) blank_block k.blocks.rows b _ refl)

births_unlinked : (k : Core) (b i : ℕ) → (block (unlinked k b) i).birth ≡ (block k i).birth
births_unlinked k b i = births_less (named_less k (get_or (block k b).links 0 None)) (get_or (block k b).links 1 None) i ∙ births_less k (get_or (block k b).links 0 None) i

-- the least of two is reached where one of them is
least_mark : (a b e : ℕ) → mark (leb (min a b) e) ≤ mark (leb a e) + mark (leb b e)
least_mark a b e = elim (dec_lt a b) [
  | yes h ↦ (let z : min a b ≡ a = omega arith in let q = ap (λ i. mark (leb i e)) z in omega arith)
  | no h ↦ (let z : min a b ≡ b = omega arith in let q = ap (λ i. mark (leb i e)) z in omega arith)
]

joined_asks : (s t : Shape) (e r b n : ℕ) (q : Option Batch) → mark (leb (joined q b n).least e) ≤ asking s e r q resting + mark (leb n e)
joined_asks s t e r b n None = omega arith
joined_asks s t e r b n (Some x) = least_mark x.least n e

joined_newest : (q : Option Batch) (b n : ℕ) → (joined q b n).newest ≡ b
joined_newest None b n = refl
joined_newest (Some x) b n = refl

module _ (form : Form) (fit : Fit form) (k : Core) (inside : List Bool) (gd : Good form k inside) (o : InOrder form 0 k) (few : FewLive k) (len walk : ℕ → ℕ) (l : Loads form k len walk) (w : ℕ) where
  abbrev Lighted : Move → Type 0
  Lighted m = Light form m.core

  worker_below : is_worker k w ≡ true → w < form.workers
  worker_below e = let f : k.form.workers ≡ form.workers = ap (λ (x : Form). x.workers) o.same_form in grind (arith, nat_tests)

  block_below : (b : ℕ) → is_block k b ≡ true → b < form.blocks
  block_below b e = let f : k.form.blocks ≡ form.blocks = ap (λ (x : Form). x.blocks) o.same_form in grind (arith, nat_tests)

  -- a task begins
  begins : (hw : w < form.workers) → (worker k w).task ≡ Idle → (y : Worker) (k' : Core) → k'.workers ≡ set k.workers w y → k'.reservations ≡ k.reservations → k'.era ≡ k.era → k'.blocks ≡ k.blocks
      → y.batch ≡ (worker k w).batch → y.takings ≡ (worker k w).takings → stage y.task ≡ resting → halfway y.task ≡ false → next y.task ≡ None → emptied_hold y.task ≡ None → Light form k'
  begins hw te y k' ws rs en eb e_batch e_takings e_stage e_half no_Walk none =
      retasked form fit k gd.0 o few len walk l w hw y Idle te e_batch e_stage e_takings (let a = ap mark e_half in omega arith) k' ws rs en eb
      (λ xs ch. no_chain (shape k).under (walk w) xs (subst (λ q. Chain (shape k).under q xs) no_Walk ch)) (λ h q. no_hold h (sym none ∙ q))

  pub take_light : Lighted (take k w)
  take_light = checked_keeps Lighted k (free_checks k w) _ (λ _. (len, walk, l)) (λ p. begins (worker_below p.0) (idle_is _ p.1.0) _ _ refl refl refl refl refl refl refl refl refl refl)

  pub look_light : (h c : ℕ) → Lighted (look k w h c)
  look_light h c =
      checked_keeps Lighted k (look_checks k w h c) _ (λ _. (len, walk, l))
      (λ p. begins (worker_below (both_left (is_worker k w) (is_hold k h) (both_left (is_worker k w && is_hold k h) (is_cell k c) p.0))) (idle_is _ p.1.0) _ _ refl refl refl refl refl refl refl refl refl refl)

  pub drop_light : Lighted (drop k w)
  drop_light = checked_keeps Lighted k (free_checks k w) _ (λ _. (len, walk, l)) (λ p. begins (worker_below p.0) (idle_is _ p.1.0) _ _ refl refl refl refl refl refl refl refl refl refl)

  pub relink_light : (c : ℕ) (expected new : Option ℕ) → Lighted (relink k w c expected new)
  relink_light c expected new =
      checked_keeps Lighted k (relink_checks k w c expected new) _ (λ _. (len, walk, l))
      (λ p.
      let hw = worker_below (both_left (is_worker k w) _ (both_left (is_worker k w && is_cell k c) _ (both_left _ _ p.0))) in
      let u = unseen_relinked k w c new in
      let ws = relinked_workers k w c new in (
        len,
        walk,
        quiet form fit k o len walk l w hw (relinked k w c new) (λ v _. ap (λ us. get_or us v blank_worker) ws) u.1 u.2 u.0 u.3 (worker k w) (ap (λ us. get_or us w blank_worker) ws) (λ e r _. omega arith) (l.slots w hw) (l.walks w hw) (λ h q. q),
      ))

  -- a live block joins worker w's batch
  module _ (hw : w < form.workers) (te : (worker k w).task ≡ Idle) (b : ℕ) (hb : b < form.blocks) (lives : (block k b).standing ≡ Live) where
    abbrev x : Batch
    x = joined (worker k w).batch b (block k b).birth

    abbrev j' : Core
    j' = retired k w b x

    abbrev z' : Block
    z' = retired_block (block (unlinked k b) b) (worker k w).batch x.lead

    abbrev s' : Shape
    s' = record { under = (shape k).under; elder = upd (shape k).elder b (newest_of (worker k w).batch); slot = (shape k).slot }

    low : b < length (unlinked k b).blocks.rows
    low = let a = (sized_unlinked k b gd.0).rows in omega (arith, few_blocks form fit)

    seen : shape j' ≡ s'
    seen =
        let j : Core = unlinked k b in
        let u = (unseen_unlinked k b).0 in
        same_shape _ _
        (field_kept (λ (y : Block). y.under) blank_block j.blocks.rows b z' refl ∙ ap (λ (y : Shape). y.under) u)
        (field_set (λ (y : Block). y.elder) blank_block j.blocks.rows b z' low ∙ ap (λ (y : Shape). upd y.elder b (newest_of (worker k w).batch)) u)
        (field_kept (λ (y : Block). y.slot) blank_block j.blocks.rows b z' refl ∙ ap (λ (y : Shape). y.slot) u)

    fewer : (e : ℕ) → amount (born e) j'.blocks.rows + mark (leb (block k b).birth e) ≤ amount (born e) k.blocks.rows
    fewer e =
        let a = amount_set (born e) (unlinked k b).blocks.rows b z' low in
        let d = (unseen_unlinked k b).3 e in
        let f : born e (block (unlinked k b) b) ≡ mark (leb (block k b).birth e) =
        ap (λ q. cond (is_live q) (mark (leb (block (unlinked k b) b).birth e)) 0) (unlinked_standing k b b ∙ lives) ∙ ap (λ q. mark (leb q e)) (births_unlinked k b b) in
        omega arith

    out : (v : ℕ) → v < form.workers → tot (is b) (aside_of (shape k).elder (worker k v).batch (stage (worker k v).task)) ≡ 0
    out v hv = not_aside form fit k inside gd.0 gd.1 o few gd.2 gd.3 gd.4 len walk l v hv b (λ y _. gd.3.members_are b y.lead ∙ ap (λ q. mark (is_retired q && eqb (block k b).lead y.lead)) lives)

    joins : (t : Task) → SlotsRight s' (Some x) (stage t) → ((e r : ℕ) → asking s' e r (Some x) (stage t) ≤ mark (leb x.least e)) → next t ≡ None → emptied_hold t ≡ None → halfway t ≡ false → Light form (with_batch j' w x t)
    joins t right asks_less no_Walk none not_half =
        let ws : j'.workers ≡ k.workers = unlinked_workers k b in
        let y : Worker = record { takings = (worker j' w).takings; task = t; batch = Some x; shows = (worker j' w).shows } in
        let et : y.takings ≡ (worker k w).takings = ap (λ us. (get_or us w blank_worker).takings) ws in
        let k' : Core = with_batch j' w x t in
        let es : k'.workers ≡ set k.workers w y = ap (λ us. set us w y) ws in
        let others = set_others form fit k gd.0 o few len walk l w hw k' y es in
        let here = set_here form fit k gd.0 o few len walk l w hw k' y es in
        let rs : k'.reservations ≡ k.reservations = (unseen_unlinked k b).1 in
        let en : k'.era ≡ k.era = (unseen_unlinked k b).2 in (
          len,
          walk,
          moved form fit k o len walk l w hw k' len walk (reservations form) others (λ r _ _. ap (λ q. (get_or q r fresh_reservation).era) rs)
              (λ v hv nv e r he.
              let a = asking_elder (shape k) s' b (worker k v).batch (stage (worker k v).task) (out v hv) (newest_of (worker k w).batch) refl refl e r in
              let d = weigh_below form.taking_period k.era (shape k) s' e r (worker k v) (worker k v) 0 0 (omega arith) (omega arith) in
              let f = same_weight form.taking_period k'.era k.era (shape k') s' e r (worker k v) (worker k v) en seen refl in
              omega arith)
              (λ r hr ne.
              let e : ℕ = (reservation k r).era in
              let a = fewer e in
              let d = joined_asks (shape k) s' e r b (block k b).birth (worker k w).batch in
              let f = asks_less e r in
              let h : asking (shape k) e r (worker k w).batch (stage (worker k w).task) ≡ asking (shape k) e r (worker k w).batch resting = ap (λ q. asking (shape k) e r (worker k w).batch (stage q)) te in
              let i = weigh_below form.taking_period k.era (shape k) s' e r (worker k w) y 0 (mark (leb (block k b).birth e)) (omega arith) (let p = ap (coming form.taking_period) et in let q = ap mark not_half in omega arith) in
              let j = same_weight form.taking_period k'.era k.era (shape k') s' e r (worker k' w) y en seen here in
              omega arith)
              (λ r hr xs ch. l.lists r hr xs (subst (λ q. Chain q.under (head (reservation k r).list) xs) seen (subst (λ q. Chain (shape k').under (head (get_or q r fresh_reservation).list) xs) rs ch)))
              (λ v hv nv xs ch. l.walks v hv xs (subst (λ q. Chain q.under (next (worker k v).task) xs) seen ch))
              (λ xs ch. no_chain (shape k').under (walk w) xs (subst (λ q. Chain (shape k').under q xs) (ap (λ (q : Worker). next q.task) here ∙ no_Walk) ch))
              l.short
              (λ v hv nv. subst (λ q. SlotsRight q (worker k v).batch (stage (worker k v).task)) (sym seen) (slots_elder (shape k) s' b (newest_of (worker k w).batch) refl refl (worker k v).batch (stage (worker k v).task) (out v hv) (l.slots v hv)))
              (subst (λ q. SlotsRight q (worker k' w).batch (stage (worker k' w).task)) (sym seen) (subst (λ (q : Worker). SlotsRight s' q.batch (stage q.task)) (sym here) right))
              (λ lt. absurd (omega arith))
              (λ v h nv hv hh e. let q = place_below form fit v h hv hh in omega arith)
              (λ falls h q. no_hold h (sym none ∙ ap (λ (i : Worker). emptied_hold i.task) (sym here) ∙ q)),
        )

    retiring_light : Lighted (retiring k w b x)
    retiring_light =
        by_test Lighted (try_due k x) _ _
        (λ _. joins (TryVisit 0 b 0) (λ r. grind arith, ap Some (joined_newest (worker k w).batch b (block k b).birth)) (λ e r. by_way (leb x.least e)) refl refl refl)
        (λ _. joins Idle tt (λ e r. omega arith) refl refl refl)
      where
        by_way : (q : Bool) → cond q 1 0 ≤ mark q
        by_way true = omega arith
        by_way false = omega arith

  pub retire_light : (b : ℕ) → Lighted (retire k w b)
  retire_light b =
      checked_keeps Lighted k (retire_checks k w b) _ (λ _. (len, walk, l))
      (λ p. retiring_light (worker_below (both_left (is_worker k w) (is_block k b) p.0)) (idle_is _ p.1.0) b (block_below b (both_right (is_worker k w) (is_block k b) p.0)) (live_is _ p.1.1.1.0))

  pub turn_light : (n : ℕ) → Chosen inside n → Lighted (turn k inside n w)
  turn_light n chosen =
      checked_keeps Lighted k (turn_checks k w) (step k inside n w (worker k w).task) (λ _. (len, walk, l))
      (λ p. step_light form fit k inside n gd.0 gd.1 o few gd.2 gd.3 gd.4 chosen len walk l w (worker_below p.0) (worker k w).task refl (o.tasks w))

-- every call keeps loads small
pub light_after : {R : Type 0} (form : Form) → Fit form → (s : State R) (c : Call R) (n : ℕ) → Good form s.core s.inside → InOrder form 0 s.core → FewLive s.core → Chosen s.inside n → Light form s.core → Light form (after s c n).to.core
light_after form fit s (Take w) n gd o few chosen l = take_light form fit s.core s.inside gd o few l.0 l.1 l.2 w
light_after form fit s (Look w h c) n gd o few chosen l = look_light form fit s.core s.inside gd o few l.0 l.1 l.2 w h c
light_after form fit s (Drop w) n gd o few chosen l = drop_light form fit s.core s.inside gd o few l.0 l.1 l.2 w
light_after form fit s (Retire w b) n gd o few chosen l = retire_light form fit s.core s.inside gd o few l.0 l.1 l.2 w b
light_after form fit s (Relink w c expected new) n gd o few chosen l = relink_light form fit s.core s.inside gd o few l.0 l.1 l.2 w c expected new
light_after form fit s (Write w b x) n gd o few chosen l = subst (Light form) (sym (judged_same s w (write_checks s w b) (written s b x) refl)) l
light_after form fit s (Read w h) n gd o few chosen l = subst (Light form) (sym (judged_same s w (read_checks s w h) (found s w h) refl)) l
light_after form fit s (Turn w) n gd o few chosen l = turn_light form fit s.core s.inside gd o few l.0 l.1 l.2 w n chosen

-- That every call keeps batches short.
use Rattle.std.proofs.Common.{◌≡◌, ℕ, ◌+◌, ◌*◌, ◌/◌, ◌%◌, ◌<◌, ◌≤◌, Bool, true, false, cond, ◌&&◌, eqb, ltb, ◌≢◌, List, length, get_or, set, Some, None, Option, sym, refl, ap, ◌∙◌, subst, div-add-mod', arith}
use native.Mathlib.Nat.{mul-mod_left, add-mod_right}
use native.Mathlib.Decide.{ℕ_discrete}
use Rattle.std.proofs.lemmas.Bool.Decides.{nat_tests}
use Rattle.figures.specs.Limits.{Fit}
use Rattle.figures.specs.declared.limits.Form.{Form}
use Rattle.machine.specs.declared.calls.Call.{Call}
use Rattle.machine.specs.declared.calls.Call.TheVariants.{Take, Look, Drop, Retire, Relink, Write, Read, Turn}
use Rattle.machine.specs.declared.states.Batch.{Batch}
use Rattle.machine.specs.declared.states.Block.{Block}
use Rattle.machine.specs.declared.states.Standing.{Standing}
use Rattle.machine.specs.declared.states.Standing.TheVariants.{Pooled, Live, Retired}
use Rattle.machine.specs.declared.states.Task.{Task}
use Rattle.machine.specs.declared.states.Task.TheVariants.{Idle, TakeEra, TakeBlock, LookCell, LookEra, LookList, LookWalk, LookAgain, LookWrite, DropList, DropWalk, DropEra, TryVisit, TryHang, TryLast}
use Rattle.machine.specs.declared.states.Worker.{Worker}
use Rattle.machine.specs.declared.states.Core.{Core}
use Rattle.machine.specs.State.{block, worker, is_live}
use Rattle.machine.specs.Cells.{held, home_block, with_cell, named_more, named_less}
use Rattle.machine.specs.Hands.{owns}
use Rattle.machine.specs.Moves.{Move}
use Rattle.machine.specs.Turns.{is_idle}
use Rattle.machine.specs.Calls.{is_worker, is_hold, is_cell, is_block, free, free_checks, take, look_checks, look, drop, joined, retired_block, unlinked, try_due, with_batch, retired, retiring, retire_checks, retire, disowned, relinked, relink_checks, relink}
use Rattle.machine.specs.Machine.{State, write_checks, written, read_checks, found, after}
use Rattle.machine.specs.Runs.{Chosen}
use Rattle.machine.specs.Account.{is_retired}
use Rattle.machine.specs.BatchSizes.{batched, batch_count, tries, Filled, OwnSize, ShortBatches}
use Rattle.machine.proofs.Passing.{by_test, both_left, both_right, checked_keeps}
use Rattle.machine.proofs.RunsInTime.{judged_same}
use Rattle.machine.proofs.Mirror.{view}
use Rattle.machine.proofs.Sound as sound
use Rattle.machine.proofs.Bridge.{sized_unlinked, unlinked_standing, view_relinked}
use Rattle.machine.proofs.Owners.{owns_own, alone, own_lead}
use Rattle.machine.proofs.StepsSound.{Good, few_workers, few_places, few_blocks}
use Rattle.machine.proofs.Doings.{unlinked_workers}
use Rattle.machine.proofs.BatchCounts.{rows_same, rows_set, rows_none, not_batched, of_other, own_as, moved, retasked}
use Rattle.machine.proofs.ShortTurns.{retired_is, turn_short}

-- a worker without a task does not try
idle_tries : (t : Task) → is_idle t ≡ true → tries t ≡ false
idle_tries Idle e = refl
idle_tries TakeEra e = refl
idle_tries TakeBlock e = refl
idle_tries (LookCell h c) e = refl
idle_tries (LookEra h c seen) e = refl
idle_tries (LookList h c x) e = refl
idle_tries (LookWalk h c b) e = refl
idle_tries (LookAgain h c) e = refl
idle_tries (LookWrite h c x) e = refl
idle_tries (DropList h) e = refl
idle_tries (DropWalk h b) e = refl
idle_tries (DropEra h) e = refl
idle_tries (TryVisit r b aside) e = let f : ◌≡◌ {A = ℕ} 0 1 = cc in absurd (omega arith)
idle_tries (TryHang b left hung) e = let f : ◌≡◌ {A = ℕ} 0 1 = cc in absurd (omega arith)
idle_tries (TryLast hung) e = let f : ◌≡◌ {A = ℕ} 0 1 = cc in absurd (omega arith)

live_is : (s : Standing) → is_live s ≡ true → s ≡ Live
live_is Pooled e = let f : ◌≡◌ {A = ℕ} 0 1 = cc in absurd (omega arith)
live_is Live e = refl
live_is Retired e = let f : ◌≡◌ {A = ℕ} 0 1 = cc in absurd (omega arith)

-- names of blocks and their owners do not matter
named_less_same : (k : Core) (o : Option ℕ) (l : ℕ) → batch_count (named_less k o) l ≡ batch_count k l
named_less_same k None l = refl
named_less_same k (Some b) l = rows_same l k.blocks.rows b _ refl

named_more_same : (k : Core) (o : Option ℕ) (l : ℕ) → batch_count (named_more k o) l ≡ batch_count k l
named_more_same k None l = refl
named_more_same k (Some b) l = rows_same l k.blocks.rows b _ refl

unlinked_same : (k : Core) (b l : ℕ) → batch_count (unlinked k b) l ≡ batch_count k l
unlinked_same k b l = named_less_same (named_less k (get_or (block k b).links 0 None)) (get_or (block k b).links 1 None) l ∙ named_less_same k (get_or (block k b).links 0 None) l

disowned_same : (k : Core) (w : ℕ) (o : Option ℕ) (l : ℕ) → batch_count (disowned k w o) l ≡ batch_count k l
disowned_same k w None l = refl
disowned_same k w (Some b) l = by_test (λ (x : Core). batch_count x l ≡ batch_count k l) (owns k w b) _ _ (λ _. rows_same l k.blocks.rows b _ refl) (λ _. refl)

-- one more in a batch that is not tried: it is tried where its size is a multiple of the trying period, and not otherwise
one_more_filled : (form : Form) → Fit form → (n : ℕ) → Filled form false n → Filled form (eqb ((n + 1) % form.trying_period) 0) (n + 1)
one_more_filled form fit n o = by_way (eqb ((n + 1) % form.trying_period) 0) refl
  where
    by_way : (r : Bool) → eqb ((n + 1) % form.trying_period) 0 ≡ r → Filled form r (n + 1)
    by_way true e =
        let p : ℕ = form.trying_period in
        let z : (n + 1) % p ≡ 0 = grind (arith, nat_tests) in
        let d : (n + 1) / p * p + (n + 1) % p ≡ n + 1 = div-add-mod' (n + 1) p in
        let a = o.1 in
        let b = o.3 in
        (omega arith, (n + 1) / p, omega arith)
    by_way false e =
        let p : ℕ = form.trying_period in
        let m : ℕ = o.0 in
        let z : (m * p + p) % p ≡ 0 = add-mod_right (m * p) p ∙ mul-mod_left m p in
        let ne : n + 1 ≢ m * p + p = λ s. let t : (n + 1) % p ≡ 0 = ap (λ i. i % p) s ∙ z in let f : eqb ((n + 1) % p) 0 ≡ true = grind (arith, nat_tests) in let g : ◌≡◌ {A = ℕ} 0 1 = cc in omega arith in
        let a = o.2 in
        let b = o.3 in
        (m, o.1, omega arith, omega arith)

cell_same : (k : Core) (c : ℕ) (o : Option ℕ) (l : ℕ) → batch_count (with_cell k c o) l ≡ batch_count k l
cell_same k c o l = by_test (λ (x : Core). batch_count x l ≡ batch_count k l) (ltb c 16) _ _ (λ _. refl) (λ _. rows_same l k.blocks.rows (home_block c) _ refl)

relinked_same : (k : Core) (w c : ℕ) (new : Option ℕ) (l : ℕ) → batch_count (relinked k w c new) l ≡ batch_count k l
relinked_same k w c new l =
    cell_same (disowned (named_more (named_less k (held k c)) new) w new) c new l
    ∙ disowned_same (named_more (named_less k (held k c)) new) w new l
    ∙ named_more_same (named_less k (held k c)) new l
    ∙ named_less_same k (held k c) l

module _ (form : Form) (fit : Fit form) (k : Core) (inside : List Bool) (good : Good form k inside) (same_form : k.form ≡ form) (sh : ShortBatches form k) (w : ℕ) where
  -- a move leaves batches short
  abbrev Shorts : Move → Type 0
  Shorts m = ShortBatches form m.core

  worker_below : is_worker k w ≡ true → w < form.workers
  worker_below e = let f : k.form.workers ≡ form.workers = ap (λ (x : Form). x.workers) same_form in grind (arith, nat_tests)

  block_below : (b : ℕ) → is_block k b ≡ true → b < form.blocks
  block_below b e = let f : k.form.blocks ≡ form.blocks = ap (λ (x : Form). x.blocks) same_form in grind (arith, nat_tests)

  there : w < form.workers → w < length k.workers
  there hw = let s = good.0.workers in let f = few_workers form fit w hw in omega arith

  -- a free worker gets a task that is no try
  begins : is_worker k w ≡ true → free k w ≡ true → (k' : Core) (y : Worker) → k'.workers ≡ set k.workers w y → y.batch ≡ (worker k w).batch → tries y.task ≡ false → ((l : ℕ) → batch_count k' l ≡ batch_count k l) → ShortBatches form k'
  begins ew ef k' y e eb et same = let hw = worker_below ew in retasked form k sh w (there hw) hw k' y e eb (et ∙ sym (idle_tries (worker k w).task ef)) same

  pub take_short : Shorts (take k w)
  take_short = checked_keeps Shorts k (free_checks k w) _ (λ _. sh) (λ p. begins p.0 p.1.0 _ _ refl refl refl (λ _. refl))

  pub look_short : (h c : ℕ) → Shorts (look k w h c)
  look_short h c = checked_keeps Shorts k (look_checks k w h c) _ (λ _. sh) (λ p. begins (both_left (is_worker k w) (is_hold k h) (both_left (is_worker k w && is_hold k h) (is_cell k c) p.0)) p.1.0 _ _ refl refl refl (λ _. refl))

  pub drop_short : Shorts (drop k w)
  drop_short = checked_keeps Shorts k (free_checks k w) _ (λ _. sh) (λ p. begins p.0 p.1.0 _ _ refl refl refl (λ _. refl))

  pub relink_short : (c : ℕ) (expected new : Option ℕ) → Shorts (relink k w c expected new)
  relink_short c expected new =
      checked_keeps Shorts k (relink_checks k w c expected new) _ (λ _. sh)
      (λ _. record {
        short = λ l. let a = relinked_same k w c new l in let b = sh.short l in omega arith;
        own = λ v hv.
            let seen = view_relinked k inside w c new in
            subst (λ t. OwnSize form (batch_count (relinked k w c new)) (tries t) (worker (relinked k w c new) v).batch) (sym (ap (λ m. m.task v) seen))
            (subst (λ o. OwnSize form (batch_count (relinked k w c new)) (tries (worker k v).task) o) (sym (ap (λ m. m.batch v) seen))
            (own_as form (batch_count k) _ (tries (worker k v).task) (worker k v).batch (λ x _. relinked_same k w c new x.lead) (sh.own v hv)));
      })

  -- a live block joins a batch that is not tried
  module _ (b : ℕ) (hw : w < form.workers) (hb : b < form.blocks) (alive : (block k b).standing ≡ Live) where
    -- the count of its lead goes up by one
    joined_count : (batch : Batch) (l : ℕ) → batch_count (retired k w b batch) l ≡ batch_count k l + cond (eqb batch.lead l) 1 0
    joined_count batch l =
        let u : Core = unlinked k b in
        let few = few_blocks form fit in
        let size = (sized_unlinked k b good.0).rows in
        let x : Block = retired_block (block u b) (worker k w).batch batch.lead in
        let s = rows_set l u.blocks.rows b x (omega arith) in
        let no : batched l (block u b) ≡ 0 = not_batched l (block u b) (ap is_retired (unlinked_standing k b b ∙ alive)) in
        let same = unlinked_same k b l in
        omega arith

    joins : (batch : Batch) (n : ℕ) → batch.size ≡ n + 1 → batch_count k batch.lead ≡ n → Filled form false n
        → ((v : ℕ) (y : Batch) → v < form.workers → v ≢ w → (worker k v).batch ≡ Some y → y.lead ≢ batch.lead) → Shorts (retiring k w b batch)
    joins batch n size count filled apart =
        by_test Shorts (try_due k batch) _ _
        (λ e. lands (TryVisit 0 b 0) (subst (λ r. Filled form r batch.size) e full))
        (λ e. lands Idle (subst (λ r. Filled form r batch.size) e full))
      where
        full : Filled form (try_due k batch) batch.size
        full = subst (λ (f : Form). Filled form (eqb (batch.size % f.trying_period) 0) batch.size) (sym same_form)
            (subst (λ i. Filled form (eqb (i % form.trying_period) 0) i) (sym size) (one_more_filled form fit n filled))

        within : (l : ℕ) → batch_count (retired k w b batch) l ≤ form.workers * form.holds + form.trying_period
        within l = elim (ℕ_discrete batch.lead l) [
          | yes e ↦
              (let c = joined_count batch l in
              let s : batch_count k l ≡ n = ap (batch_count k) (sym e) ∙ count in
              let f = filled.1 in
              let h = filled.3 in
              let i : eqb batch.lead l ≡ true = grind (arith, nat_tests) in
              let j : ◌≡◌ {A = ℕ} (cond (eqb batch.lead l) 1 0) 1 = ap (λ r. cond r 1 0) i in
              omega arith)
          | no ne ↦
              (let c = joined_count batch l in
              let i : eqb batch.lead l ≡ false = grind (arith, nat_tests) in
              let j : ◌≡◌ {A = ℕ} (cond (eqb batch.lead l) 1 0) 0 = ap (λ r. cond r 1 0) i in
              let s = sh.short l in
              omega arith)
        ]

        lands : (t : Task) → Filled form (tries t) batch.size → ShortBatches form (with_batch (retired k w b batch) w batch t)
        lands t f =
            let p : Core = retired k w b batch in
            let ws : p.workers ≡ k.workers = unlinked_workers k b in
            let y : Worker = record { takings = (worker p w).takings; task = t; batch = Some batch; shows = (worker p w).shows } in
            moved form k sh w (there hw) _ y (ap (λ us. set us w y) ws) within
            (λ v x hv ne ev.
            let c = joined_count batch x.lead in
            let d = apart v x hv ne ev in
            let i : eqb batch.lead x.lead ≡ false = grind (arith, nat_tests) in
            let j : ◌≡◌ {A = ℕ} (cond (eqb batch.lead x.lead) 1 0) 0 = ap (λ r. cond r 1 0) i in
            omega arith) (
              let c = joined_count batch batch.lead in
                  let i : eqb batch.lead batch.lead ≡ true = grind (arith, nat_tests) in
                  let j : ◌≡◌ {A = ℕ} (cond (eqb batch.lead batch.lead) 1 0) 1 = ap (λ r. cond r 1 0) i in
                  omega arith,
              f,
            )

    -- no retired block names a live one as its lead
    none_named : (i : ℕ) → batched b (block k i) ≡ 0
    none_named i = by_way (is_retired (block k i).standing) refl
      where
        by_way : (r : Bool) → is_retired (block k i).standing ≡ r → batched b (block k i) ≡ 0
        by_way true e =
            let l = good.3.led i (retired_is (block k i).standing e) in
            of_other b (block k i) (λ z.
            let m : (block k b).standing ≡ Retired = subst (λ j. (block k j).standing ≡ Retired) z l.0 in
            let f : ◌≡◌ {A = ℕ} 0 1 = cc in
            omega arith)
        by_way false e = not_batched b (block k i) e

    not_lead : (v : ℕ) (y : Batch) → v < form.workers → (worker k v).batch ≡ Some y → y.lead ≢ b
    not_lead v y hv ev z =
        let l = own_lead _ _ _ (view k inside) good.2 good.3 v y hv ev in
        let m : (block k b).standing ≡ Retired = subst (λ j. (block k j).standing ≡ Retired) z l.0 in
        let f : ◌≡◌ {A = ℕ} 0 1 = cc in
        omega arith

    not_shared : (x : Batch) → (worker k w).batch ≡ Some x → (v : ℕ) (y : Batch) → v < form.workers → v ≢ w → (worker k v).batch ≡ Some y → y.lead ≢ x.lead
    not_shared x ex v y hv ne ev z =
        let one : sound.owns x.lead (worker k w).batch ≡ 1 = ap (sound.owns x.lead) ex ∙ owns_own x.lead x refl in
        let none : sound.owns x.lead (worker k v).batch ≡ 0 = alone _ _ _ (view k inside) good.2 good.3 x.lead w v hw hv ne one in
        let other = ap (sound.owns x.lead) ev ∙ owns_own x.lead y z in
        omega arith

    retiring_short : free k w ≡ true → (o : Option Batch) → (worker k w).batch ≡ o → Shorts (retiring k w b (joined o b (block k b).birth))
    retiring_short ef None eo =
        joins (joined None b (block k b).birth) 0 refl (rows_none b k.blocks.rows none_named) (0, omega arith, omega arith, let p = fit.5.0 in omega arith)
        (λ v y hv _ ev. not_lead v y hv ev)
    retiring_short ef (Some x) eo =
        let own : OwnSize form (batch_count k) false (Some x) =
        subst (λ r. OwnSize form (batch_count k) r (Some x)) (idle_tries (worker k w).task ef) (subst (OwnSize form (batch_count k) (tries (worker k w).task)) eo (sh.own w hw)) in
        let low : x.size < 65535 = let a = own.1.1 in let b = own.1.3 in let c = few_places form fit in let d = fit.5.1 in omega arith in
        joins (joined (Some x) b (block k b).birth) x.size (omega arith) (sym own.0) own.1 (not_shared x eo)

  pub retire_short : (b : ℕ) → Shorts (retire k w b)
  retire_short b =
      checked_keeps Shorts k (retire_checks k w b) _ (λ _. sh)
      (λ p. retiring_short b (worker_below (both_left (is_worker k w) (is_block k b) p.0)) (block_below b (both_right (is_worker k w) (is_block k b) p.0)) (live_is (block k b).standing p.1.1.1.0) p.1.0 (worker k w).batch refl)

-- every call keeps batches short
pub short_after : {R : Type 0} (form : Form) → Fit form → (s : State R) (c : Call R) (n : ℕ) → Good form s.core s.inside → s.core.form ≡ form → Chosen s.inside n → ShortBatches form s.core → ShortBatches form (after s c n).to.core
short_after form fit s (Take w) n good same_form chosen sh = take_short form fit s.core s.inside good same_form sh w
short_after form fit s (Look w h c) n good same_form chosen sh = look_short form fit s.core s.inside good same_form sh w h c
short_after form fit s (Drop w) n good same_form chosen sh = drop_short form fit s.core s.inside good same_form sh w
short_after form fit s (Retire w b) n good same_form chosen sh = retire_short form fit s.core s.inside good same_form sh w b
short_after form fit s (Relink w c expected new) n good same_form chosen sh = relink_short form fit s.core s.inside good same_form sh w c expected new
short_after form fit s (Write w b x) n good same_form chosen sh = subst (ShortBatches form) (sym (judged_same s w (write_checks s w b) (written s b x) refl)) sh
short_after form fit s (Read w h) n good same_form chosen sh = subst (ShortBatches form) (sym (judged_same s w (read_checks s w h) (found s w h) refl)) sh
short_after form fit s (Turn w) n good same_form chosen sh = turn_short form fit s.core s.inside n w good same_form chosen sh

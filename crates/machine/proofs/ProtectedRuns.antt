-- That every run keeps a shown block.
use Rattle.std.proofs.Common.{◌≡◌, ℕ, ◌+◌, ◌*◌, ◌<◌, Bool, true, false, not, ◌&&◌, ltb, ◌≢◌, List, [], ◌∷◌, length, get_or, set, replicate, is_some as option_is_some, Some, None, Ok, Err, Option, sym, refl, ap, ◌∙◌, subst, arith}
use Rattle.std.proofs.lemmas.Bool.Decides.{nat_tests}
use Rattle.std.proofs.lemmas.Bool.{false≢true}
use Rattle.std.proofs.lemmas.List.{get_or-replicate}
use Rattle.std.specs.Option.{option_map}
use Rattle.figures.specs.Limits.{Fit}
use Rattle.figures.specs.declared.limits.Form.{Form}
use Rattle.pools.specs.Counts.{tally}
use Rattle.pools.specs.CountsLemmas.{in_below}
use Rattle.machine.specs.declared.calls.Call.{Call}
use Rattle.machine.specs.declared.calls.Call.TheVariants.{Take, Look, Drop, Retire, Relink, Write, Read, Turn}
use Rattle.machine.specs.declared.calls.Value.TheVariants.{Record}
use Rattle.machine.specs.declared.refusals.KeeperFault.{KeeperFault}
use Rattle.machine.specs.declared.refusals.Refusal.{Refusal}
use Rattle.machine.specs.declared.states.Standing.{Standing}
use Rattle.machine.specs.declared.states.Standing.TheVariants.{Pooled, Live, Retired}
use Rattle.machine.specs.declared.states.Task.TheVariants.{Idle, LookEra}
use Rattle.machine.specs.declared.states.Core.{Core}
use Rattle.machine.specs.State.{block, worker, fresh, is_live, blank_block, fresh_block, blank_worker, fresh_worker, fresh_reservation}
use Rattle.machine.specs.Cells.{names_it}
use Rattle.machine.specs.Hands.{shown}
use Rattle.machine.specs.Moves.{Move, drawn, gained_all, gain, counted}
use Rattle.machine.specs.Machine.{State, Reply, Step, told, judged, answered, write_checks, written, record_of, read_checks, found, after}
use Rattle.machine.specs.Runs.{Chosen, start}
use Rattle.machine.specs.Turns.{step, turn_checks, turn}
use Rattle.machine.specs.Calls.{is_worker, is_hold}
use Rattle.machine.specs.Eras.{InTime, InOrder}
use Rattle.machine.specs.Showing.{Sight, watched}
use Rattle.machine.specs.Protection.{Watch, first_watch, watch_on, ShownKept, ReadsLinked, TakesUnshown, AnswersKept, ShownBlocksKept}
use Rattle.machine.proofs.Passing.{by_test, checked_keeps, Passed}
use Rattle.machine.proofs.Stores.{replicate_all}
use Rattle.machine.proofs.Mirror.{view}
use Rattle.machine.proofs.Standings.{is_pooled}
use Rattle.machine.proofs.Sides.{out_below}
use Rattle.machine.proofs.StepsSound.{Good, WholeBatch, few_workers, few_blocks}
use Rattle.machine.proofs.TurnsSound.{turn_gives}
use Rattle.machine.proofs.RunsInTime.{fresh_in_order, after_kept}
use Rattle.machine.proofs.RunsSound.{Whole, Right, call_whole, made_whole, pooled_in}
use Rattle.machine.proofs.Guards.{extra, past_on, Guard}
use Rattle.machine.proofs.GuardSteps.{stands_out}
use Rattle.machine.proofs.GuardTasks.{map_guard}
use Rattle.machine.proofs.GuardTurns.{step_guards}
use Rattle.machine.proofs.GuardCalls.{take_guards, look_guards, drop_guards, relink_guards, retire_guards}
use Rattle.machine.proofs.Sights.{Fine, Sees}
use Rattle.machine.proofs.SightsOfTurns.{step_heard}
use Rattle.machine.proofs.SightsOfCalls.{nth_else, take_heard, look_heard, drop_heard, retire_heard, relink_heard}
use Rattle.machine.proofs.AlongRuns.{along}

-- all that is kept
pub record Protected {R : Type 0} (form : Form) (x : Watch R) (s : State R) : Type 0 where
  pub whole : Whole form x.account s
  pub order : InOrder form 1 s.core
  pub sees : Sees form.workers x.sight s.core s.table
  pub guard : Guard form.workers form.holds (Fine x.sight s.core s.table) (view s.core s.inside) (extra s.core)

-- what holds of every refusal, and where all checks are passed, holds of a write and of a read
judged_keeps : {R : Type 0} (P : Step R → Type 0) (s : State R) (w : ℕ) (cs : List (Bool × Refusal)) (done : Step R) → ((fault : KeeperFault) → P (answered s s.table (Err fault))) → (Passed cs → P done) → P (judged s w cs done)
judged_keeps P s w [] done no_one all = all tt
judged_keeps P s w (c ∷ cs) done no_one all = by_test P c.0 _ _ (λ e. judged_keeps P s w cs done no_one (λ p. all (e, p))) (λ _. no_one _)

out_of : (a b : Bool) → a ≡ true → b ≡ false → (a && not b) ≡ true
out_of a b p q = cc

not_pooled : (x : Standing) → x ≢ Pooled → is_pooled x ≡ false
not_pooled Pooled ne = absurd (ne refl)
not_pooled Live ne = refl
not_pooled Retired ne = refl

pooled_is : (x : Standing) → is_pooled x ≡ true → x ≡ Pooled
pooled_is Pooled e = refl
pooled_is Live e = cc
pooled_is Retired e = cc

module _ {R : Type 0} (form : Form) (fit : Fit form) where
  module _ (x : Watch R) (s : State R) (p : Protected form x s) where
    abbrev W : ℕ
    W = form.workers

    abbrev H : ℕ
    H = form.holds

    abbrev k : Core
    k = s.core

    abbrev F : ℕ → Type 0
    F = Fine x.sight k s.table

    -- a shown block is not pooled, and is as it was linked
    shown_fine : (w h b : ℕ) → shown k w h ≡ Some b → ((block k b).standing ≢ Pooled) × F b
    shown_fine w h b e =
        let q = (p.guard w).kept h b e in
        let r = q.4 q.2 q.3 in
        (stands_out W (view k s.inside) (extra k) (w * H + h) b r.0, r.1)

    pub protected_says : ShownKept x s
    protected_says = record {
      out = λ w h b e.
          let ne = (shown_fine w h b (sym (p.sees.agree w h) ∙ e)).0 in
          let pl = pooled_in form fit k s.inside p.whole.good in
          let out : is_pooled (block k b).standing ≡ false = not_pooled (block k b).standing ne in
          let lt : b < length s.inside = out_below k s.inside pl b out in
          out_of (ltb b (length s.inside)) (get_or s.inside b false) (grind (arith, nat_tests)) (sym (pl.within b lt) ∙ out);
      same_record = λ w h b e. (shown_fine w h b (sym (p.sees.agree w h) ∙ e)).1.1;
      least = λ w batch hw e.
          let l = (p.guard w).least batch (subst (λ (f : Form). w < f.workers) p.whole.order.same_form hw) e in
          record { at_most = l.0; attained = l.1 };
    }

    module _ (n : ℕ) (chosen : Chosen s.inside n) where
      right : (c : Call R) → Right form fit s x.account p.whole n chosen c
      right c = call_whole form fit s x.account p.whole n chosen c

      -- a move of worker w keeps what is shown and protected
      abbrev After : Call R → Step R → Type 0
      After c step = Sees W (watched x.sight x.account c step.reply step.to.table) step.to.core step.to.table
          × Guard W H (Fine (watched x.sight x.account c step.reply step.to.table) step.to.core step.to.table) (view step.to.core step.to.inside) (extra step.to.core)

      whole_after : (c : Call R) → Whole form (watch_on x s c (after s c n)).account (after s c n).to
      unfolding Right
      whole_after c = (right c).0

      then_protected : (c : Call R) → After c (after s c n) → Protected form (watch_on x s c (after s c n)) (after s c n).to
      then_protected c h = record { whole = whole_after c; order = after_kept form 1 fit s c n p.order; sees = h.0; guard = h.1 }

      there : (w : ℕ) → is_worker k w ≡ true → (w < W) × (w < length k.workers)
      there w e =
          let lt : w < k.form.workers = grind (arith, nat_tests) in
          let hw : w < W = subst (λ (f : Form). w < f.workers) p.whole.order.same_form lt in
          (hw, let l = p.whole.good.0.workers in let w8 = few_workers form fit w hw in omega arith)

      four : (w h : ℕ) → is_worker k w ≡ true → is_hold k h ≡ true → h < length (worker k w).shows
      four w h e i =
          let lt : h < k.form.holds = grind (arith, nat_tests) in
          let hh : h < H = subst (λ (f : Form). h < f.holds) p.whole.order.same_form lt in
          let l = p.sees.rooms w (there w e).0 in
          let m = fit.1.1 in
          omega arith

      kept : (w h b : ℕ) → shown k w h ≡ Some b → F b
      kept w h b e = (shown_fine w h b e).1

      -- the calls but the turn
      take_after : (w : ℕ) → After (Take w) (after s (Take w) n)
      take_after w =
          let h = take_heard W s x.account x.sight n w p.sees (there w) (four w) (kept w) in
          (h.0, take_guards form fit k s.inside n p.whole.good.0 p.whole.good.1 p.order p.whole.good.2 p.whole.good.3 w (p.sees.rooms w) F _ p.guard h.1 (whole_after (Take w)).good)

      look_after : (w q c : ℕ) → After (Look w q c) (after s (Look w q c) n)
      look_after w q c =
          let h = look_heard W s x.account x.sight n w p.sees (there w) (four w) (kept w) q c in
          (h.0, look_guards form fit k s.inside n p.whole.good.0 p.whole.good.1 p.order p.whole.good.2 p.whole.good.3 w (p.sees.rooms w) F _ p.guard h.1 q c (whole_after (Look w q c)).good)

      drop_after : (w : ℕ) → After (Drop w) (after s (Drop w) n)
      drop_after w =
          let h = drop_heard W s x.account x.sight n w p.sees (there w) (four w) (kept w) in
          (h.0, drop_guards form fit k s.inside n p.whole.good.0 p.whole.good.1 p.order p.whole.good.2 p.whole.good.3 w (p.sees.rooms w) F _ p.guard h.1 (whole_after (Drop w)).good)

      retire_after : (w b : ℕ) → After (Retire w b) (after s (Retire w b) n)
      retire_after w b =
          let h = retire_heard W s x.account x.sight n w p.sees (there w) (four w) (kept w) b in
          (h.0, retire_guards form fit k s.inside n p.whole.good.0 p.whole.good.1 p.order p.whole.good.2 p.whole.good.3 w (p.sees.rooms w) F _ p.guard h.1 b (whole_after (Retire w b)).good)

      relink_after : (w c : ℕ) (expected new : Option ℕ) → After (Relink w c expected new) (after s (Relink w c expected new) n)
      relink_after w c expected new =
          let h = relink_heard W s x.account x.sight n w p.sees (there w) (four w) (kept w) c expected new in
          (h.0, relink_guards form fit k s.inside n p.whole.good.0 p.whole.good.1 p.order p.whole.good.2 p.whole.good.3 w (p.sees.rooms w) F _ p.guard h.1 c expected new (whole_after (Relink w c expected new)).good)

      -- a write replaces the record of a block with an owner, which is not shown
      write_after : (w b : ℕ) (y : R) → After (Write w b y) (after s (Write w b y) n)
      write_after w b y =
          judged_keeps (After (Write w b y)) s w (write_checks s w b) (written s b y) (λ _. (p.sees, p.guard))
          (λ q.
          let owner : (block k b).owner ≡ Some w = owner_of (block k b).owner q.1.1.1.0 in
          let fine : (i : ℕ) → F i → Fine x.sight k (set s.table b y) i = λ i f. (f.0, f.1 ∙ ap (λ u. Some u) (sym (nth_else s.table b y i (λ j. let z = ap (λ u. (block k u).owner) j in let o = f.0 in let r : ◌≡◌ {A = ℕ} 0 1 = cc in omega arith)))) in (
            record { agree = p.sees.agree; rooms = p.sees.rooms; owned = p.sees.owned; named = λ i m. fine i (p.sees.named i m) },
            map_guard W H F (Fine x.sight k (set s.table b y)) (view k s.inside) (extra k) p.guard fine,
          ))
        where
          owner_of : (v : Option ℕ) → names_it v w ≡ true → v ≡ Some w
          owner_of None z = absurd (false≢true z)
          owner_of (Some a) z = ap (λ u. Some u) (grind (arith, nat_tests))

      read_after : (w h : ℕ) → After (Read w h) (after s (Read w h) n)
      read_after w h = judged_keeps (After (Read w h)) s w (read_checks s w h) (found s w h) (λ _. (p.sees, p.guard)) (λ _. (p.sees, p.guard))

      -- a read answers the record that was linked
      read_linked : (w h : ℕ) → ReadsLinked x.sight w h (after s (Read w h) n).reply
      read_linked w h = judged_keeps (λ (y : Step R). ReadsLinked x.sight w h y.reply) s w (read_checks s w h) (found s w h) (λ _. tt)
          (λ q. there_is (shown k w h) refl (nth_of (shown k w h)) refl q.1.1.1.0)
        where
          nth_of : Option ℕ → Option R
          nth_of v = record_of s.table v

          there_is : (v : Option ℕ) → shown k w h ≡ v → (y : Option R) → record_of s.table v ≡ y → option_is_some (record_of s.table v) ≡ true
              → ReadsLinked x.sight w h (Ok (record { goes_on = false; value = option_map Record (record_of s.table v); given = 0 }))
          there_is None e y i is_some = absurd (false≢true is_some)
          there_is (Some b) e None i is_some = absurd (false≢true (sym (ap option_is_some i) ∙ is_some))
          there_is (Some b) e (Some y) i is_some = (b, y, p.sees.agree w h ∙ e, (kept w h b e).1 ∙ ap (λ u. Some u) i, ap (option_map Record) i)

      -- the turn
      module _ (w : ℕ) where
        abbrev reply : Move → Reply R
        reply m = told w (counted m.answer (gain (drawn m.taken s.inside n) m.given))

        abbrev then_in : Move → List Bool
        then_in m = gained_all (drawn m.taken s.inside n) m.given

        abbrev then_sees : Move → Sight R
        then_sees m = watched x.sight x.account (Turn w) (reply m) s.table

        abbrev Turned : Move → Type 0
        Turned m = Good form m.core (then_in m) → WholeBatch (view k s.inside) m.given
            → Sees W (then_sees m) m.core s.table × Guard W H (Fine (then_sees m) m.core s.table) (view m.core (then_in m)) (extra m.core) × TakesUnshown x.sight (x.account.doing w) (reply m)

        -- the number that the pool hands out is a pooled block's, which is neither shown nor named
        handed : 0 < tally s.inside → (n < length s.inside) × ((block k n).standing ≡ Pooled)
        handed some =
            let ins = chosen some in
            let lt = in_below s.inside n ins in
            (lt, pooled_is (block k n).standing ((pooled_in form fit k s.inside p.whole.good).within n lt ∙ ins))

        stepped_right : is_worker k w ≡ true → Turned (step k s.inside n w (worker k w).task)
        stepped_right e good whole =
            let t = there w e in
            let h = step_heard W s x.account x.sight n w p.sees t.0 t.1
            (λ some v i z. (shown_fine v i n (sym (p.sees.agree v i) ∙ z)).0 (handed some).1)
            (λ some m. let l = p.whole.linked.alive n (let q = p.whole.linked.counted n in omega arith) in false≢true (sym (ap is_live (handed some).1) ∙ l))
            (λ some. let q = (handed some).0 in let l = p.whole.good.1 in let r = p.whole.good.0.rows in omega (arith, few_blocks form fit))
            (λ i c v te. let j : InTime H k.era (LookEra i c v) = subst (InTime H k.era) te (p.order.tasks w) in let l = p.sees.rooms w t.0 in let m = fit.1.1 in omega arith)
            (worker k w).task refl (p.whole.agrees.same_doing w) in (
              h.0,
              step_guards form fit k s.inside n p.whole.good.0 p.whole.good.1 p.order p.whole.good.2 p.whole.good.3 p.whole.good.4 w t.0 chosen p.whole.linked (p.sees.rooms w t.0) F _ p.guard p.sees.named
                  (worker k w).task refl (p.order.tasks w) h.1 good whole,
              h.2,
            )

        turn_right : Turned (turn k s.inside n w)
        turn_right = checked_keeps Turned k (turn_checks k w) (step k s.inside n w (worker k w).task) (λ _ _ _. (p.sees, p.guard, tt)) (λ q. stepped_right q.0)

        pub turn_after : After (Turn w) (after s (Turn w) n) × TakesUnshown x.sight (x.account.doing w) (after s (Turn w) n).reply
        turn_after =
            let given = turn_gives form fit k s.inside n p.whole.good.0 p.whole.good.1 p.whole.order p.whole.good.2 p.whole.good.3 p.whole.good.4 w chosen in
            let q = turn_right (whole_after (Turn w)).good given in
            ((q.0, q.1), q.2)

      pub protected_after : (c : Call R) → AnswersKept x c (after s c n) × Protected form (watch_on x s c (after s c n)) (after s c n).to
      protected_after (Take w) = (tt, then_protected (Take w) (take_after w))
      protected_after (Look w h c) = (tt, then_protected (Look w h c) (look_after w h c))
      protected_after (Drop w) = (tt, then_protected (Drop w) (drop_after w))
      protected_after (Retire w b) = (tt, then_protected (Retire w b) (retire_after w b))
      protected_after (Relink w c expected new) = (tt, then_protected (Relink w c expected new) (relink_after w c expected new))
      protected_after (Write w b y) = (tt, then_protected (Write w b y) (write_after w b y))
      protected_after (Read w h) = (read_linked w h, then_protected (Read w h) (read_after w h))
      protected_after (Turn w) = let q = turn_after w in (q.1, then_protected (Turn w) q.0)

  -- the making
  pub made_protected : (table : List R) → Protected form first_watch (start form (replicate form.blocks true) table)
  made_protected table =
      let idle : (w : ℕ) → (worker (fresh form) w).task ≡ Idle = replicate_all (λ y. y.task ≡ Idle) blank_worker fresh_worker 8 refl refl in
      let none : (w h : ℕ) → None ≡ shown (fresh form) w h = λ w h. replicate_all (λ y. None ≡ get_or y.shows h None) blank_worker fresh_worker 8 (sym (replicate_all (λ v. v ≡ None) None None 4 refl refl h)) refl w in
      let o = fresh_in_order form fit in
      record {
        whole = made_whole form fit table;
        order = record { same_form = o.same_form; later = fit.6.0; not_past = o.not_past; births = o.births; reserved = o.reserved; takings = o.takings; tasks = o.tasks };
        sees = record {
          agree = none;
          rooms = λ w hw. ap (λ y. length y.shows) (get_or-replicate 8 w fresh_worker blank_worker (few_workers form fit w hw));
          owned = λ b w e. let q = replicate_all (λ y. y.owner ≡ None) blank_block fresh_block 2048 refl refl b in let r : ◌≡◌ {A = ℕ} 0 1 = cc in absurd (omega arith);
          named = λ b m. let q = replicate_all (λ y. y.names ≡ 0) blank_block fresh_block 2048 refl refl b in absurd (omega arith);
        };
        guard = λ w. record {
          kept = λ h b e. let q = none w h in let r : ◌≡◌ {A = ℕ} 0 1 = cc in absurd (omega arith);
          read = λ h c b _ _ e. let q = idle w in let r : ◌≡◌ {A = ℕ} 0 1 = cc in absurd (omega arith);
          off = λ h _ _ _ _. (replicate_all (λ y. y.era ≡ 0) fresh_reservation fresh_reservation 32 refl refl (w * form.holds + h), ap (λ u. past_on u h) (idle w));
          hides = λ h _. sym (none w h);
          visits = λ q b m y _ e _. let z = idle w in let r : ◌≡◌ {A = ℕ} 0 1 = cc in absurd (omega arith);
          least = λ y _ e. let z = replicate_all (λ u. u.batch ≡ None) blank_worker fresh_worker 8 refl refl w in let r : ◌≡◌ {A = ℕ} 0 1 = cc in absurd (omega arith);
        };
      }

pub shown_blocks_kept : (R : Type 0) → ShownBlocksKept R
shown_blocks_kept R form table calls numbers fit p =
    along watch_on ShownKept AnswersKept (Protected form) (λ x s h. protected_says form fit x s h) (λ x s c n h ch. protected_after form fit x s h n ch c) calls numbers first_watch _ (made_protected form fit table) p

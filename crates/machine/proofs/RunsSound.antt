-- That every run keeps the structure of batches and cells.
use Rattle.std.proofs.Common.{◌≡◌, ℕ, ◌+◌, ◌*◌, ◌<◌, ◌≤◌, Bool, true, false, not, ◌&&◌, eqb, ltb, ◌≢◌, List, [], ◌∷◌, length, get_or, set, replicate, None, Ok, Err, Option, Result, sym, refl, ap, ◌∙◌, subst, inl, inr, arith, length-set, get_or-set_other, get_or-set_same}
use native.Mathlib.Decide.{ℕ_discrete}
use Rattle.std.proofs.lemmas.List.{get_or-replicate}
use Rattle.std.proofs.lemmas.Bool.Decides.{nat_tests}
use lib.ListN.{length-replicate}
use Rattle.figures.specs.Limits.{Fit}
use Rattle.figures.specs.declared.limits.Form.{Form}
use Rattle.pools.specs.Counts.{bit, times}
use Rattle.pools.specs.Meaning.{is_out, gained}
use Rattle.machine.specs.declared.calls.Call.{Call}
use Rattle.machine.specs.declared.calls.Call.TheVariants.{Take, Look, Drop, Retire, Relink, Write, Read, Turn}
use Rattle.machine.specs.declared.refusals.Refusal.{Refusal}
use Rattle.machine.specs.declared.states.Standing.{Standing}
use Rattle.machine.specs.declared.states.Standing.TheVariants.{Pooled, Live, Retired}
use Rattle.machine.specs.declared.states.Core.{Core}
use Rattle.machine.specs.State.{block, worker, fresh, is_live, blank_block, fresh_block, blank_worker, fresh_worker, fresh_reservation}
use Rattle.machine.specs.Moves.{Move, drawn, gain, counted}
use Rattle.machine.specs.Machine.{State, Step, judged, write_checks, written, read_checks, found, told, stepped, after}
use Rattle.machine.specs.Runs.{Chosen, start}
use Rattle.machine.specs.Turns.{turn}
use Rattle.machine.specs.Calls.{free_checks, take, look_checks, look, drop, joined, try_due, retiring, retire_checks, retire, relink_checks, relink}
use Rattle.machine.specs.Eras.{InOrder}
use Rattle.machine.specs.Linking.{LinkedRight}
use Rattle.machine.specs.Living.{FewLive}
use Rattle.machine.proofs.LivingParts.{fresh_living}
use Rattle.machine.proofs.LivingSteps.{living_after}
use Rattle.machine.specs.BatchSizes.{batch_count, ShortBatches}
use Rattle.machine.proofs.BatchCounts.{fresh_short}
use Rattle.machine.proofs.ShortCalls.{short_after}
use Rattle.machine.specs.Account.{Account, opened, noted, is_retired, Agrees}
use Rattle.machine.specs.Structure.{Handed, Throughout, Last, WholeBatch, Tells, GivesRight, Structured, StructureStands}
use Rattle.machine.proofs.Passing.{by_test, checked_keeps}
use Rattle.machine.proofs.Sums.{tot, mark, is, is_self}
use Rattle.machine.proofs.Chains.{Ends}
use Rattle.machine.proofs.Mirror.{view}
use Rattle.machine.proofs.Owners.{slack}
use Rattle.machine.proofs.Bridge.{sized_fresh}
use Rattle.machine.proofs.TakeKept.{fresh_sound}
use Rattle.machine.proofs.Waiting.{waits}
use Rattle.machine.proofs.StepsSound.{reservations, Good, Leaves, few_places, few_blocks}
use Rattle.machine.proofs.StepsSound as steps
use Rattle.machine.proofs.TurnsSound.{turn_sound, turn_gives}
use Rattle.pools.specs.CountsLemmas.{in_below}
use Rattle.machine.proofs.CallsSound.{take_sound, look_sound, drop_sound, retire_sound, relink_sound}
use Rattle.machine.proofs.RunsInTime.{fresh_in_order, after_kept}
use Rattle.machine.proofs.LinkedParts.{Dead, fresh_linked}
use Rattle.machine.proofs.LinkedRuns.{Side, linked_after, takes_finds}
use Rattle.machine.proofs.Standings.{is_pooled, AllRetired}
use Rattle.machine.proofs.Sides.{PooledIn, Sides, out_below}
use Rattle.machine.proofs.Stores.{replicate_all}
use Rattle.machine.specs.declared.states.HungList.TheVariants.{Off}
use Rattle.machine.specs.declared.states.Task.TheVariants.{Idle}
use Rattle.machine.proofs.Agreement.{opened_agrees, one_standing}
use Rattle.machine.proofs.AccountAfter.{agrees_after}

-- all that is kept
pub record Whole {R : Type 0} (form : Form) (a : Account) (s : State R) : Type 0 where
  pub order : InOrder form 0 s.core
  pub good : Good form s.core s.inside
  pub linked : LinkedRight s.core
  pub agrees : Agrees a s.core
  pub few : FewLive s.core
  pub short : ShortBatches form s.core

-- two ways to count, and tests, that are the same
bit_mark : (q : Bool) → bit q ≡ mark q
bit_mark true = refl
bit_mark false = refl

times_tot : (b : ℕ) (xs : List ℕ) → times b xs ≡ tot (is b) xs
times_tot b [] = refl
times_tot b (x ∷ xs) = let t = times_tot b xs in let m = bit_mark (eqb x b) in omega arith

last_same : (l : ℕ) (xs : List ℕ) → Ends l xs → Last l xs
last_same l [] e = e
last_same l (x ∷ []) e = e
last_same l (x ∷ y ∷ ys) e = last_same l (y ∷ ys) e

whole_same : (k : Core) (inside : List Bool) (bs : List ℕ) → steps.WholeBatch (view k inside) bs → WholeBatch k bs
whole_same k inside bs (inl e) = inl e
whole_same k inside bs (inr h) = inr (h.0, last_same h.0 bs h.1, h.2, λ b. times_tot b bs ∙ h.3 b ∙ sym (bit_mark _))

-- of a whole batch each block is retired, and none is there twice
pub whole_retired : (k : Core) (inside : List Bool) (bs : List ℕ) → steps.WholeBatch (view k inside) bs → (b : ℕ) → 1 ≤ tot (is b) bs → (block k b).standing ≡ Retired
whole_retired k inside bs (inl e) b m = absurd (let t = ap (tot (is b)) e in omega arith)
whole_retired k inside bs (inr h) b m = is_ret (block k b).standing (let e = h.3 b in grind arith)
  where
    is_ret : (x : Standing) → is_retired x ≡ true → x ≡ Retired
    is_ret Pooled e = cc
    is_ret Live e = cc
    is_ret Retired e = refl

pub whole_once : (k : Core) (inside : List Bool) (bs : List ℕ) → steps.WholeBatch (view k inside) bs → (b : ℕ) → tot (is b) bs ≤ 1
whole_once k inside bs (inl e) b = let t = ap (tot (is b)) e in omega arith
whole_once k inside bs (inr h) b = let e = h.3 b in grind arith

all_retired : (k : Core) (bs : List ℕ) → ((b : ℕ) → 1 ≤ tot (is b) bs → (block k b).standing ≡ Retired) → AllRetired k bs
all_retired k [] h = tt
all_retired k (b ∷ bs) h = (h b (let i = is_self b in omega arith), all_retired k bs (λ x m. h x (omega arith)))

dead : (k : Core) (bs : List ℕ) → AllRetired k bs → Dead k bs
dead k [] u = tt
dead k (b ∷ bs) u = (ap is_live u.0, dead k bs u.1)

-- a pool gains all of blocks that are out, none twice
gain_all : (bs : List ℕ) (inside : List Bool) → ((b : ℕ) → 1 ≤ tot (is b) bs → (b < length inside) × (get_or inside b false ≡ false)) → ((b : ℕ) → tot (is b) bs ≤ 1) → gain inside bs ≡ length bs
gain_all [] inside out once = refl
gain_all (b ∷ bs) inside out once =
    let i = is_self b in
    let here = out b (omega arith) in
    let o : is_out inside b ≡ true = is_out_there (ltb b (length inside)) (get_or inside b false) (let lt = here.0 in grind (arith, nat_tests)) here.1 in
    let one = once b in
    let rest = gain_all bs (gained inside b)
    (λ x m.
    let ne : x ≢ b = λ e. let t : tot (is b) bs ≡ tot (is x) bs = ap (λ y. tot (is y) bs) (sym e) in omega arith in
    let there = out x (omega arith) in
    (subst (λ z. x < z) (sym (length-set inside b true)) there.0, get_or-set_other inside b x true false ne ∙ there.1))
    (λ x. let q = once x in omega arith) in
    let counted_one : bit (is_out inside b) ≡ 1 = ap bit o in
    omega arith
  where
    is_out_there : (p q : Bool) → p ≡ true → q ≡ false → (p && not q) ≡ true
    is_out_there p q a e = cc

-- a number that is out stays so when another is handed out
drawn_out : (t : Bool) (inside : List Bool) (n b : ℕ) → b < length inside → get_or inside b false ≡ false → (b < length (drawn t inside n)) × (get_or (drawn t inside n) b false ≡ false)
drawn_out false inside n b lt e = (lt, e)
drawn_out true inside n b lt e = (
  subst (λ z. b < z) (sym (length-set inside n false)) lt,
  elim (ℕ_discrete b n) [
    | yes i ↦ subst (λ j. get_or (set inside j false) b false ≡ false) i (get_or-set_same inside b false false lt)
    | no ne ↦ get_or-set_other inside n b false false ne ∙ e
  ],
)

module _ (form : Form) (fit : Fit form) where
  module _ (k : Core) (inside : List Bool) (gd : Good form k inside) where
    -- just the pooled blocks are in
    pub pooled_in : PooledIn k inside
    pooled_in = record {
      within = λ b lt. gd.3.pooled_in b (let l = gd.1 in omega arith);
      past = λ b le. ap is_pooled (gd.3.beyond b (let l = gd.1 in omega arith));
    }

    -- a retired block is one that there is, and out of the pool
    pub retired_out : (b : ℕ) → (block k b).standing ≡ Retired → (b < length inside) × (get_or inside b false ≡ false)
    retired_out b e =
        let lt : b < length inside = out_below k inside pooled_in b (ap is_pooled e) in
        (lt, sym (pooled_in.within b lt) ∙ ap is_pooled e)

module _ {R : Type 0} (form : Form) (fit : Fit form) where
  module _ (s : State R) (a : Account) (h : Whole form a s) (n : ℕ) (chosen : Chosen s.inside n) where
    -- a call that gives back whole batches, and leaves a keeper as it should
    module _ (c : Call R) (whole : steps.WholeBatch (view s.core s.inside) (after s c n).given) (gd : Good form (after s c n).to.core (after s c n).to.inside) where
      back : AllRetired s.core (after s c n).given
      back = all_retired s.core (after s c n).given (whole_retired s.core s.inside (after s c n).given whole)

      side : Side s c n
      side = (
        λ t.
            let ins = chosen (takes_finds s c n t) in
            let lt = in_below s.inside n ins in
            let l = h.good.1 in
            (omega (arith, few_blocks form fit), not_live (block s.core n).standing ((pooled_in form fit s.core s.inside h.good).within n lt ∙ ins)),
        dead s.core (after s c n).given back,
      )
        where
          not_live : (x : Standing) → is_pooled x ≡ true → is_live x ≡ false
          not_live Pooled e = refl
          not_live Live e = cc
          not_live Retired e = refl

      sides : Sides s.core s.inside n (after s c n)
      sides = record {
        numbers = let l = h.good.1 in let r = h.good.0.rows in omega (arith, few_blocks form fit);
        few = let r = h.good.0.workers in subst (λ (f : Form). f.workers ≤ length s.core.workers) (sym h.order.same_form) (omega (arith, fit.0.1));
        before = pooled_in form fit s.core s.inside h.good;
        later = pooled_in form fit (after s c n).to.core (after s c n).to.inside gd;
        chosen = chosen;
        back = back;
      }

      then_whole : Whole form (noted a c (after s c n).reply (after s c n).to.inside) (after s c n).to
      then_whole = record {
        order = after_kept form 0 fit s c n h.order;
        good = gd;
        linked = linked_after s c n h.linked side;
        agrees = agrees_after a s c n h.agrees sides;
        few = living_after s c n h.few side;
        short = short_after form fit s c n h.good h.order.same_form chosen h.short;
      }

    gained_right : (m : Move) → steps.WholeBatch (view s.core s.inside) m.given → gain (drawn m.taken s.inside n) m.given ≡ length m.given
    gained_right m whole = gain_all m.given (drawn m.taken s.inside n)
        (λ b q. let r = retired_out form fit s.core s.inside h.good b (whole_retired s.core s.inside m.given whole b q) in drawn_out m.taken s.inside n b r.0 r.1)
        (whole_once s.core s.inside m.given whole)

    told_right : (w g : ℕ) (m : Move) → gain (drawn m.taken s.inside n) m.given ≡ g → (r : Result (Bool × Option ℕ) Refusal) → Tells {R = R} (told w (counted r (gain (drawn m.taken s.inside n) m.given))) g
    told_right w g m e (Ok x) = e
    told_right w g m e (Err r) = tt

    moves_right : (w : ℕ) (m : Move) → steps.WholeBatch (view s.core s.inside) m.given → GivesRight s (stepped s n w m)
    moves_right w m whole = record { whole = whole_same s.core s.inside m.given whole; told = told_right w (length m.given) m (gained_right m whole) m.answer }

    -- a write or a read leaves keeper and pool as they were
    aside : (w : ℕ) (cs : List (Bool × Refusal)) (x : Step R) → (x.to.core ≡ s.core) × (x.to.inside ≡ s.inside) × (x.given ≡ []) × Tells x.reply 0
        → ((judged s w cs x).to.core ≡ s.core) × ((judged s w cs x).to.inside ≡ s.inside) × ((judged s w cs x).given ≡ []) × Tells (judged s w cs x).reply 0
    aside w [] x p = p
    aside w (t ∷ ts) x p = by_test (λ (y : Step R). (y.to.core ≡ s.core) × (y.to.inside ≡ s.inside) × (y.given ≡ []) × Tells y.reply 0) t.0 _ _ (λ _. aside w ts x p) (λ _. (refl, refl, refl, tt))

    aside_good : (x : Step R) → (x.to.core ≡ s.core) × (x.to.inside ≡ s.inside) × (x.given ≡ []) × Tells x.reply 0 → Good form x.to.core x.to.inside
    aside_good x p = subst (λ i. Good form x.to.core i) (sym p.1) (subst (λ j. Good form j s.inside) (sym p.0) h.good)

    aside_right : (x : Step R) → (x.to.core ≡ s.core) × (x.to.inside ≡ s.inside) × (x.given ≡ []) × Tells x.reply 0 → GivesRight s x
    aside_right x p = record { whole = inl p.2; told = subst (λ bs. Tells x.reply (length bs)) (sym p.2) p.3 }

    unfoldable pub Right : Call R → Type 0
    Right c = Whole form (noted a c (after s c n).reply (after s c n).to.inside) (after s c n).to × GivesRight s (after s c n)

    pub call_whole : (c : Call R) → Right c
    unfolding Right
    call_whole (Take w) =
        let e = checked_keeps (λ m. m.given ≡ []) s.core (free_checks s.core w) _ (λ _. refl) (λ _. refl) in
        (then_whole (Take w) (inl e) (take_sound form fit s.core s.inside n h.good.0 h.good.1 h.order h.good.2 h.good.3 h.good.4 w), moves_right w (take s.core w) (inl e))
    call_whole (Look w q x) =
        let e = checked_keeps (λ m. m.given ≡ []) s.core (look_checks s.core w q x) _ (λ _. refl) (λ _. refl) in
        (then_whole (Look w q x) (inl e) (look_sound form fit s.core s.inside n h.good.0 h.good.1 h.order h.good.2 h.good.3 h.good.4 w q x), moves_right w (look s.core w q x) (inl e))
    call_whole (Drop w) =
        let e = checked_keeps (λ m. m.given ≡ []) s.core (free_checks s.core w) _ (λ _. refl) (λ _. refl) in
        (then_whole (Drop w) (inl e) (drop_sound form fit s.core s.inside n h.good.0 h.good.1 h.order h.good.2 h.good.3 h.good.4 w), moves_right w (drop s.core w) (inl e))
    call_whole (Retire w b) =
        let x = joined (worker s.core w).batch b (block s.core b).birth in
        let e = checked_keeps (λ m. m.given ≡ []) s.core (retire_checks s.core w b) (retiring s.core w b x) (λ _. refl) (λ _. by_test (λ (m : Move). m.given ≡ []) (try_due s.core x) _ _ (λ _. refl) (λ _. refl)) in
        (then_whole (Retire w b) (inl e) (retire_sound form fit s.core s.inside n h.good.0 h.good.1 h.order h.good.2 h.good.3 h.good.4 w b), moves_right w (retire s.core w b) (inl e))
    call_whole (Relink w x expected new) =
        let e = checked_keeps (λ m. m.given ≡ []) s.core (relink_checks s.core w x expected new) _ (λ _. refl) (λ _. refl) in
        (then_whole (Relink w x expected new) (inl e) (relink_sound form fit s.core s.inside n h.good.0 h.good.1 h.order h.good.2 h.good.3 h.good.4 w x expected new), moves_right w (relink s.core w x expected new) (inl e))
    call_whole (Write w b x) =
        let p = aside w (write_checks s w b) (written s b x) (refl, refl, refl, refl) in
        (then_whole (Write w b x) (inl p.2) (aside_good (after s (Write w b x) n) p), aside_right (after s (Write w b x) n) p)
    call_whole (Read w q) =
        let p = aside w (read_checks s w q) (found s w q) (refl, refl, refl, refl) in
        (then_whole (Read w q) (inl p.2) (aside_good (after s (Read w q) n) p), aside_right (after s (Read w q) n) p)
    call_whole (Turn w) =
        let given = turn_gives form fit s.core s.inside n h.good.0 h.good.1 h.order h.good.2 h.good.3 h.good.4 w chosen in
        (then_whole (Turn w) given (turn_sound form fit s.core s.inside n h.good.0 h.good.1 h.order h.good.2 h.good.3 h.good.4 w chosen), moves_right w (turn s.core s.inside n w) given)

    -- what is kept, after a call
    pub whole_after : (c : Call R) → Whole form (noted a c (after s c n).reply (after s c n).to.inside) (after s c n).to
    unfolding Right
    whole_after c = (call_whole c).0

  -- what is kept says what is promised
  structured : (s : State R) (a : Account) → Whole form a s → Structured a s
  structured s a h = record {
    one_standing = one_standing a s.core h.agrees s.inside (pooled_in form fit s.core s.inside h.good);
    agrees = h.agrees;
    waits = waits s.core s.inside _ _ _ h.good.2 h.good.3 h.good.4 (ap (λ (f : Form). f.workers * f.holds) (sym h.order.same_form)) (ap (λ (f : Form). f.workers) (sym h.order.same_form)) (slack _ _ _ _ h.good.2 h.good.3 (few_places form fit));
    named_live = λ b m. h.agrees.same_live b ∙ h.linked.alive b m;
    names_counted = h.linked.counted;
    few_live = let e = h.few.counted in let f = h.few.few in omega arith;
    live_counted = h.few.counted;
    short = λ l. subst (λ (f : Form). batch_count s.core l ≤ f.workers * f.holds + f.trying_period) (sym h.order.same_form) (h.short.short l);
  }

  throughout : (calls : List (Call R)) (numbers : List ℕ) (s : State R) (a : Account) → Whole form a s → Handed s calls numbers → Throughout Structured GivesRight a s calls numbers
  unfolding Right
  throughout [] numbers s a h p = structured s a h
  throughout (c ∷ cs) [] s a h p = let q = call_whole s a h 0 p.0 c in (structured s a h, q.1, throughout cs [] _ _ q.0 p.1)
  throughout (c ∷ cs) (n ∷ ns) s a h p = let q = call_whole s a h n p.0 c in (structured s a h, q.1, throughout cs ns _ _ q.0 p.1)

  -- the making
  pub made_whole : (table : List R) → Whole form opened (start form (replicate form.blocks true) table)
  made_whole table =
      let o = fresh_in_order form fit in
      let f = fresh_sound form.blocks (reservations form) form.workers (view (fresh form) (replicate form.blocks true))
      (λ b lt. get_or-replicate form.blocks b true false lt)
      (replicate_all (λ x. x.standing ≡ Pooled) blank_block fresh_block 2048 refl refl)
      (replicate_all (λ x. x.list ≡ Off) fresh_reservation fresh_reservation 32 refl refl)
      (replicate_all (λ x. x.task ≡ Idle) blank_worker fresh_worker 8 refl refl)
      (replicate_all (λ x. x.batch ≡ None) blank_worker fresh_worker 8 refl refl) in
      record {
        order = record { same_form = o.same_form; later = omega arith; not_past = o.not_past; births = o.births; reserved = o.reserved; takings = o.takings; tasks = o.tasks };
        good = (sized_fresh form, length-replicate form.blocks true, _, f.0, f.1);
        linked = fresh_linked form;
        agrees = opened_agrees form;
        few = fresh_living form;
        short = fresh_short form fit;
      }

pub structure_stands : (R : Type 0) → StructureStands R
structure_stands R form table calls numbers fit p = throughout form fit calls numbers _ _ (made_whole form fit table) p

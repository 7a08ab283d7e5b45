-- That retired blocks stay below the ceiling in every run, and a pool with as many blocks as are needed is never dry.
use Rattle.std.proofs.Common.{◌≡◌, ℕ, zero, suc, ◌+◌, ◌<◌, ◌≤◌, Bool, true, false, eqb, ltb, List, [], ◌∷◌, length, get_or, Some, None, Ok, Err, Option, Result, sym, refl, ap, ◌∙◌, subst, arith}
use native.Mathlib.Decide.{ℕ_discrete}
use Rattle.std.proofs.lemmas.Bool.Decides.{nat_tests}
use Rattle.figures.specs.Ceiling.{needed_of}
use Rattle.figures.specs.Limits.{Fit}
use Rattle.figures.specs.declared.limits.Form.{Form}
use Rattle.pools.specs.Counts.{bit, tally}
use Rattle.pools.specs.Meaning.{taken}
use Rattle.pools.specs.declared.PoolFault.{PoolFault}
use Rattle.machine.specs.declared.calls.Call.{Call}
use Rattle.machine.specs.declared.calls.Call.TheVariants.{Take, Look, Drop, Retire, Relink, Write, Read, Turn}
use Rattle.machine.specs.declared.refusals.Refusal.{Refusal}
use Rattle.machine.specs.declared.states.Batch.{Batch}
use Rattle.machine.specs.declared.states.Block.{Block}
use Rattle.machine.specs.declared.states.HungList.{HungList}
use Rattle.machine.specs.declared.states.HungList.TheVariants.{Off, Empty, Newest}
use Rattle.machine.specs.declared.states.Reservation.{Reservation}
use Rattle.machine.specs.declared.states.Task.{Task}
use Rattle.machine.specs.declared.states.Task.TheVariants.{Idle, TakeEra, TakeBlock, LookCell, LookEra, LookList, LookWalk, LookAgain, LookWrite, DropList, DropWalk, DropEra, TryVisit, TryHang, TryLast}
use Rattle.machine.specs.declared.states.Worker.{Worker}
use Rattle.machine.specs.declared.states.Core.{Core}
use Rattle.machine.specs.State.{fresh, fresh_worker, fresh_reservation, blank_block, blank_worker, is_live, block, worker, reservation}
use Rattle.machine.specs.Account.{Account, is_retired}
use Rattle.machine.specs.Calls.{free_checks, take, look_checks, look, drop, joined, try_due, retiring, retire_checks, retire, relink_checks, relink}
use Rattle.machine.specs.Cells.{home}
use Rattle.machine.specs.CeilingKept.{retired_blocks, Hanging, Low, is_dry, NotDry, NeverDry, BelowCeiling}
use Rattle.machine.specs.Eras.{InOrder}
use Rattle.machine.specs.Living.{live_among}
use Rattle.machine.specs.Looking.{readable, own_reservation, look_list}
use Rattle.machine.specs.Machine.{State, Step, judged, write_checks, written, read_checks, found, told, after}
use Rattle.machine.specs.Moves.{Move, checked, counted}
use Rattle.machine.specs.Structure.{Handed, Throughout}
use Rattle.machine.specs.Taking.{took}
use Rattle.machine.specs.Trying.{passed_over, try_visit, hang_on, try_hang, try_last}
use Rattle.machine.specs.Turns.{turn_checks, step, turn}
use Rattle.machine.proofs.Passing.{by_test}
use Rattle.machine.proofs.Stores.{replicate_all}
use Rattle.machine.proofs.Sums.{Σ, mark, Σ_cong}
use Rattle.machine.proofs.Chains.{Chain}
use Rattle.machine.proofs.Agreement.{one_standing}
use Rattle.machine.proofs.BatchCounts.{Σ_first}
use Rattle.machine.proofs.RunsInTime.{fresh_in_order}
use Rattle.machine.proofs.LivingParts.{fresh_living}
use Rattle.machine.proofs.Sound.{head, next}
use Rattle.machine.proofs.StepsSound.{few_blocks, Σ_add}
use Rattle.machine.proofs.RunsSound.{Whole, pooled_in, whole_after, made_whole}
use Rattle.machine.proofs.Waiting.{head_is, next_is}
use Rattle.machine.proofs.Potential.{shape, stage, emptied_hold, SlotsRight}
use Rattle.machine.proofs.Loads.{pot_most}
use Rattle.machine.proofs.LoadsOfLooks.{Light, no_chain, no_hold}
use Rattle.machine.proofs.LoadsOfCalls.{light_after}
use Rattle.machine.proofs.CeilingCount.{list_short, walk_short, few_retired}

-- the making: nothing hangs
pub fresh_light : (form : Form) → Fit form → Light form (fresh form)
fresh_light form fit = (
  λ _. 0,
  λ _. 0,
  record {
    lists = λ r hr xs c. no_chain (shape (fresh form)).under 0 xs (subst (λ q. Chain (shape (fresh form)).under q xs) (replicate_all (λ (x : Reservation). head x.list ≡ None) fresh_reservation fresh_reservation 32 refl refl r) c);
    walks = λ w hw xs c. no_chain (shape (fresh form)).under 0 xs (subst (λ q. Chain (shape (fresh form)).under q xs) (replicate_all (λ (x : Worker). next x.task ≡ None) blank_worker fresh_worker 8 refl refl w) c);
    light = λ r hr. let a = pot_most form (fresh form) order (fresh_living form) slots (reservation (fresh form) r).era r in omega arith;
    lighter = λ w h hw q. no_hold h (sym (replicate_all (λ (x : Worker). emptied_hold x.task ≡ None) blank_worker fresh_worker 8 refl refl w) ∙ q);
    short = λ w hw. omega arith;
    slots = slots;
  },
)
  where
    order : InOrder form 0 (fresh form)
    order = let o = fresh_in_order form fit in record { same_form = o.same_form; later = omega arith; not_past = o.not_past; births = o.births; reserved = o.reserved; takings = o.takings; tasks = o.tasks }

    slots : (w : ℕ) → w < form.workers → SlotsRight (shape (fresh form)) (worker (fresh form) w).batch (stage (worker (fresh form) w).task)
    slots w hw = replicate_all (λ (x : Worker). SlotsRight (shape (fresh form)) x.batch (stage x.task)) blank_worker fresh_worker 8 tt tt w

-- a list by its places
tally_sum : (bs : List Bool) → tally bs ≡ Σ (λ b. bit (get_or bs b false)) (length bs)
tally_sum [] = refl
tally_sum (x ∷ xs) = let h = tally_sum xs in let f = Σ_first (λ b. bit (get_or (x ∷ xs) b false)) (length xs) in ap (λ n. bit x + n) h ∙ sym f

live_sum : (xs : List Block) → live_among xs ≡ Σ (λ b. bit (is_live (get_or xs b blank_block).standing)) (length xs)
live_sum [] = refl
live_sum (x ∷ xs) = let h = live_sum xs in let f = Σ_first (λ b. bit (is_live (get_or (x ∷ xs) b blank_block).standing)) (length xs) in ap (λ n. bit (is_live x.standing) + n) h ∙ sym f

Σ_shorter : (f : ℕ → ℕ) (m n : ℕ) → m ≤ n → Σ f m ≤ Σ f n
Σ_shorter f m zero h = let e : m ≡ 0 = omega arith in subst (λ i. Σ f i ≤ 0) (sym e) (omega arith)
Σ_shorter f m (suc n) h = elim (ℕ_discrete m (suc n)) [
  | yes e ↦ subst (λ i. Σ f i ≤ Σ f (suc n)) (sym e) (omega arith)
  | no ne ↦ (let a = Σ_shorter f m n (omega arith) in omega arith)
]

retired_sum : (a : Account) (n : ℕ) → retired_blocks a n ≡ Σ (λ b. bit (a.retired b)) n
retired_sum a zero = refl
retired_sum a (suc n) = ap (λ m. bit (a.retired n) + m) (retired_sum a n)

ones : (n : ℕ) → Σ (λ _. 1) n ≡ n
ones zero = refl
ones (suc n) = let a = ones n in omega arith

bit_mark : (q : Bool) → bit q ≡ mark q
bit_mark true = refl
bit_mark false = refl

-- a chain is what hangs
hanging_is : (k : Core) (first : Option ℕ) (xs : List ℕ) → Chain (shape k).under first xs → Hanging k first xs
hanging_is k first [] c = c
hanging_is k first (x ∷ xs) c = (c.0, hanging_is k (block k x).under xs c.1)

-- answers that are not the refusal
abbrev Undry : Result (Bool × Option ℕ) Refusal → Type 0
Undry (Ok a) = Unit {0}
Undry (Err r) = is_dry r ≡ false

told_undry : (R : Type 0) (w n : ℕ) (r : Result (Bool × Option ℕ) Refusal) → Undry r → NotDry {R = R} (told w (counted r n))
told_undry R w n (Ok a) h = tt
told_undry R w n (Err r) h = h

abbrev OtherChecks : List (Bool × Refusal) → Type 0
OtherChecks [] = Unit {0}
OtherChecks (c ∷ cs) = (is_dry c.1 ≡ false) × OtherChecks cs

checked_undry : (k : Core) (cs : List (Bool × Refusal)) (m : Move) → OtherChecks cs → Undry m.answer → Undry (checked k cs m).answer
checked_undry k [] m o h = h
checked_undry k (c ∷ cs) m o h = by_test (λ (j : Move). Undry j.answer) c.0 _ _ (λ _. checked_undry k cs m o.1 h) (λ _. o.0)

judged_undry : {R : Type 0} (s : State R) (w : ℕ) (cs : List (Bool × Refusal)) (done : Step R) → OtherChecks cs → NotDry done.reply → NotDry (judged s w cs done).reply
judged_undry s w [] done o h = h
judged_undry s w (c ∷ cs) done o h = by_test (λ (j : Step _). NotDry j.reply) c.0 _ _ (λ _. judged_undry s w cs done o.1 h) (λ _. o.0)

module _ {R : Type 0} (form : Form) (fit : Fit form) (s : State R) (a : Account) (h : Whole form a s) (light : Light form s.core) where
  -- what is kept says what is promised
  pub low : Low form a s
  low = record {
    few_retired =
        let e = retired_sum a (length s.inside) in
        let f = Σ_cong (λ b. bit (a.retired b)) (λ b. mark (is_retired (block s.core b).standing)) (length s.inside) (λ b _. ap bit (h.agrees.same_retired b) ∙ bit_mark _) in
        let i = ap (Σ (λ b. mark (is_retired (block s.core b).standing))) h.good.1 in
        let j = few_retired form fit s.core s.inside h.order.same_form h.good h.short light.0 light.1 light.2 in
        omega arith;
    short_lists = λ r hr. (
      h.good.2.hung r,
      hanging_is s.core _ (h.good.2.hung r) (subst (λ q. Chain (shape s.core).under q (h.good.2.hung r)) (head_is s.core (reservation s.core r).list) (h.good.3.hung_chain r hr)),
      list_short form fit s.core s.inside h.order.same_form h.good h.short light.0 light.1 light.2 r hr,
    );
    short_walks = λ w hw. (
      h.good.2.walk w,
      hanging_is s.core _ (h.good.2.walk w) (subst (λ q. Chain (shape s.core).under q (h.good.2.walk w)) (next_is s.core (worker s.core w).task) (h.good.3.walk_chain w hw)),
      walk_short form fit s.core s.inside h.order.same_form h.good h.short light.0 light.1 light.2 w hw,
    );
    own_sizes = h.short.own;
  }

  -- where fewer blocks are live than may be, and there are as many as are needed, one is in the pool
  one_in : needed_of form ≤ form.blocks → s.core.live < form.live → 0 < tally s.inside
  one_in enough room =
      let n : ℕ = length s.inside in
      let long : n ≡ form.blocks = h.good.1 in
      let each = one_standing a s.core h.agrees s.inside (pooled_in form fit s.core s.inside h.good) in
      let b = Σ_cong (λ i. bit (get_or s.inside i false) + bit (a.live i) + bit (a.retired i)) (λ _. 1) n each in
      let c = ones n in
      let d = Σ_add (λ i. bit (get_or s.inside i false) + bit (a.live i)) (λ i. bit (a.retired i)) n in
      let e = Σ_add (λ i. bit (get_or s.inside i false)) (λ i. bit (a.live i)) n in
      let f = tally_sum s.inside in
      let i = retired_sum a n in
      let j = low.few_retired in
      let m = Σ_cong (λ x. bit (a.live x)) (λ x. bit (is_live (block s.core x).standing)) n (λ x _. ap bit (h.agrees.same_live x)) in
      let p = live_sum s.core.blocks.rows in
      let q = h.few.rows in
      let t = Σ_shorter (λ x. bit (is_live (block s.core x).standing)) n (length s.core.blocks.rows) (omega (arith, few_blocks form fit)) in
      let u = h.few.counted in
      omega arith

  module _ (n : ℕ) (enough : needed_of form ≤ form.blocks) where
    abbrev k : Core
    k = s.core

    took_undry : (w : ℕ) → s.core.live < form.live → Undry (took k w (taken s.inside n)).answer
    took_undry w room = by_test (λ (r : Result ℕ PoolFault). Undry (took k w r).answer) (eqb (tally s.inside) 0) _ _ (λ z. absurd (let o = one_in enough room in let e : tally s.inside ≡ 0 = grind (arith, nat_tests) in omega arith)) (λ _. tt)

    list_undry : (w h x e : ℕ) (i : HungList) → Undry (look_list k w h x e i).answer
    list_undry w h x e Off = tt
    list_undry w h x e Empty = tt
    list_undry w h x e (Newest b) = tt

    visit_undry : (w r b aside : ℕ) (q : Option Batch) → Undry (try_visit k w r b aside q).answer
    visit_undry w r b aside None = tt
    visit_undry w r b aside (Some x) = by_test (λ (m : Move). Undry m.answer) (passed_over (reservation k r) x.least) _ _ (λ _. tt) (λ _. by_test (λ (m : Move). Undry m.answer) (eqb b x.lead) _ _ (λ _. tt) (λ _. tt))

    hang_undry : (w b left hung : ℕ) (x : Batch) (i : HungList) → Undry (hang_on k w x b left hung i).answer
    hang_undry w b left hung x Off = tt
    hang_undry w b left hung x Empty = tt
    hang_undry w b left hung x (Newest y) = tt

    try_hang_undry : (w b left hung : ℕ) (q : Option Batch) → Undry (try_hang k w b left hung q).answer
    try_hang_undry w b left hung None = tt
    try_hang_undry w b left hung (Some x) = hang_undry w b left hung x (reservation k (block k b).slot).list

    last_undry : (w hung : ℕ) (q : Option Batch) → Undry (try_last k w hung q).answer
    last_undry w hung None = tt
    last_undry w hung (Some x) = tt

    step_undry : (w : ℕ) (t : Task) → Undry (step k s.inside n w t).answer
    step_undry w Idle = refl
    step_undry w TakeEra = by_test (λ (m : Move). Undry m.answer) (eqb (worker k w).takings 0) _ _ (λ _. by_test (λ (m : Move). Undry m.answer) (eqb k.era 4294967295) _ _ (λ _. refl) (λ _. tt)) (λ _. tt)
    step_undry w TakeBlock = by_test (λ (m : Move). Undry m.answer) (ltb k.live k.form.live) _ _
        (λ z. took_undry w (let e : k.form.live ≡ form.live = ap (λ (f : Form). f.live) h.order.same_form in let lt : k.live < k.form.live = grind (arith, nat_tests) in omega arith)) (λ _. refl)
    step_undry w (LookCell i x) = by_test (λ (m : Move). Undry m.answer) (readable k (home x)) _ _ (λ _. tt) (λ _. refl)
    step_undry w (LookEra i x seen) = by_test (λ (m : Move). Undry m.answer) (eqb k.era (own_reservation k w i).era) _ _ (λ _. tt) (λ _. tt)
    step_undry w (LookList i x e) = list_undry w i x e (own_reservation k w i).list
    step_undry w (LookWalk i x b) = tt
    step_undry w (LookAgain i x) = tt
    step_undry w (LookWrite i x e) = tt
    step_undry w (DropList i) = tt
    step_undry w (DropWalk i b) = tt
    step_undry w (DropEra i) = by_test (λ (m : Move). Undry m.answer) (ltb (i + 1) k.form.holds) _ _ (λ _. tt) (λ _. tt)
    step_undry w (TryVisit r b aside) = visit_undry w r b aside (worker k w).batch
    step_undry w (TryHang b left hung) = try_hang_undry w b left hung (worker k w).batch
    step_undry w (TryLast hung) = last_undry w hung (worker k w).batch

    not_dry : (c : Call R) → NotDry (after s c n).reply
    not_dry (Take w) = told_undry R w _ (take k w).answer (checked_undry k (free_checks k w) _ (refl, (refl, tt)) tt)
    not_dry (Look w i x) = told_undry R w _ (look k w i x).answer (checked_undry k (look_checks k w i x) _ (refl, (refl, (refl, tt))) tt)
    not_dry (Drop w) = told_undry R w _ (drop k w).answer (checked_undry k (free_checks k w) _ (refl, (refl, tt)) tt)
    not_dry (Retire w b) =
        let x = joined (worker k w).batch b (block k b).birth in
        told_undry R w _ (retire k w b).answer (checked_undry k (retire_checks k w b) (retiring k w b x) (refl, (refl, (refl, (refl, (refl, tt))))) (by_test (λ (m : Move). Undry m.answer) (try_due k x) _ _ (λ _. tt) (λ _. tt)))
    not_dry (Relink w x expected new) = told_undry R w _ (relink k w x expected new).answer (checked_undry k (relink_checks k w x expected new) _ (refl, (refl, (refl, (refl, (refl, (refl, tt)))))) tt)
    not_dry (Write w b x) = judged_undry s w (write_checks s w b) (written s b x) (refl, (refl, (refl, (refl, tt)))) tt
    not_dry (Read w i) = judged_undry s w (read_checks s w i) (found s w i) (refl, (refl, (refl, (refl, tt)))) tt
    not_dry (Turn w) = told_undry R w _ (turn k s.inside n w).answer (checked_undry k (turn_checks k w) (step k s.inside n w (worker k w).task) (refl, tt) (step_undry w (worker k w).task))

module _ {R : Type 0} (form : Form) (fit : Fit form) where
  throughout : (calls : List (Call R)) (numbers : List ℕ) (s : State R) (a : Account) → Whole form a s → Light form s.core → Handed s calls numbers → Throughout (Low form) (NeverDry form) a s calls numbers
  throughout [] numbers s a h l p = low form fit s a h l
  throughout (c ∷ cs) [] s a h l p = (
    low form fit s a h l,
    λ enough. not_dry form fit s a h l 0 enough c,
    throughout cs [] _ _ (whole_after form fit s a h 0 p.0 c) (light_after form fit s c 0 h.good h.order h.few p.0 l) p.1,
  )
  throughout (c ∷ cs) (n ∷ ns) s a h l p = (
    low form fit s a h l,
    λ enough. not_dry form fit s a h l n enough c,
    throughout cs ns _ _ (whole_after form fit s a h n p.0 c) (light_after form fit s c n h.good h.order h.few p.0 l) p.1,
  )

pub below_ceiling : (R : Type 0) → BelowCeiling R
below_ceiling R form table calls numbers fit p = throughout form fit calls numbers _ _ (made_whole form fit table) (fresh_light form fit) p

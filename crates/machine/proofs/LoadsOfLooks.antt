-- That takings, looks and drops keep loads small.
use Rattle.std.proofs.Common.{◌≡◌, ℕ, zero, suc, ◌+◌, ◌-◌, ◌*◌, ◌<◌, ◌≤◌, Bool, true, false, cond, eqb, ltb, leb, ◌≢◌, List, [], ◌∷◌, length, get_or, set, Some, None, Ok, Option, Result, sym, refl, ap, ◌∙◌, subst, arith}
use native.Mathlib.Decide.{ℕ_discrete}
use Rattle.std.proofs.lemmas.List.{get_or-set_same, get_or-set_other}
use Rattle.std.proofs.lemmas.Bool.Decides.{nat_tests}
use Rattle.figures.specs.Limits.{Fit}
use Rattle.figures.specs.declared.limits.Form.{Form}
use Rattle.pools.specs.Counts.{tally}
use Rattle.pools.specs.declared.PoolFault.{PoolFault}
use Rattle.pools.specs.CountsLemmas.{in_below}
use Rattle.machine.specs.declared.states.Batch.{Batch}
use Rattle.machine.specs.declared.states.Block.{Block}
use Rattle.machine.specs.declared.states.HungList.{HungList}
use Rattle.machine.specs.declared.states.HungList.TheVariants.{Off, Empty, Newest}
use Rattle.machine.specs.declared.states.Reservation.{Reservation}
use Rattle.machine.specs.declared.states.Task.{Task}
use Rattle.machine.specs.declared.states.Task.TheVariants.{Idle, TakeEra, TakeBlock, LookList, LookWalk, LookAgain, LookWrite, DropList, DropWalk, DropEra}
use Rattle.machine.specs.declared.states.Worker.{Worker}
use Rattle.machine.specs.declared.states.Core.{Core}
use Rattle.machine.specs.State.{blank_worker, fresh_reservation, block, worker, reservation, place_of, with_block, with_era, with_task}
use Rattle.machine.specs.Runs.{Chosen}
use Rattle.machine.specs.Eras.{InOrder}
use Rattle.machine.specs.Living.{FewLive}
use Rattle.machine.specs.Moves.{Move}
use Rattle.machine.specs.Taking.{next_count, counted_up, take_era, taken_block, took, take_block}
use Rattle.machine.specs.Looking.{own_reservation, with_list, with_own_era, look_list, look_on}
use Rattle.machine.specs.Dropping.{drop_task, drop_on, drop_era}
use Rattle.machine.specs.Walking.{pooled, with_count, all_pooled, due, count_down, handled}
use Rattle.machine.proofs.Passing.{by_test}
use Rattle.machine.proofs.Sums.{upd, mark, upd_same, upd_other, at_upd}
use Rattle.machine.proofs.Chains.{Chain, chain_none}
use Rattle.machine.proofs.Bridge.{Sized, field_kept}
use Rattle.machine.proofs.Doings.{all_pooled_workers}
use Rattle.machine.proofs.Sound.{head, next}
use Rattle.machine.proofs.StepsSound.{reservations, few_workers, few_places, few_blocks, place_below}
use Rattle.machine.proofs.Potential.{Shape, shape_of, shape, shape_kept, Stage, stage, halfway, emptied_hold, aside_of, aimed, asks, coming, weigh, SlotsRight, born, amount, pot, amount_less, amount_set}
use Rattle.machine.proofs.Loads.{most, load, Loads, pot_most, same_weight, apart, pot_falls, moved, quiet}

-- a keeper whose loads are small
abbrev pub Light : Form → Core → Type 0
Light form k = (len : ℕ → ℕ) × (walk : ℕ → ℕ) × Loads form k len walk

-- what a worker asks for its batch
abbrev pub asking : Shape → ℕ → ℕ → Option Batch → Stage → ℕ
asking s e r b t = asks e (aimed s.slot r (aside_of s.elder b t)) b t

-- a worker that asks no more, and has no more takings to come, weighs no more
pub weigh_below : (period now : ℕ) (s t : Shape) (e r : ℕ) (x y : Worker) → (m n : ℕ) → m + asking t e r y.batch (stage y.task) ≤ n + asking s e r x.batch (stage x.task)
    → mark (halfway y.task) + coming period y.takings ≤ mark (halfway x.task) + coming period x.takings → m + weigh period now t e r y ≤ n + weigh period now s e r x
weigh_below period now s t e r x y m n a b = by_way (leb now e)
  where
    by_way : (q : Bool) → m + (asking t e r y.batch (stage y.task) + cond q (mark (halfway y.task) + coming period y.takings) 0) ≤ n + (asking s e r x.batch (stage x.task) + cond q (mark (halfway x.task) + coming period x.takings) 0)
    by_way true = omega arith
    by_way false = omega arith

pub weigh_less : (period now : ℕ) (s : Shape) (e r : ℕ) (x y : Worker) → asking s e r y.batch (stage y.task) ≤ asking s e r x.batch (stage x.task)
    → mark (halfway y.task) + coming period y.takings ≤ mark (halfway x.task) + coming period x.takings → weigh period now s e r y ≤ weigh period now s e r x
weigh_less period now s e r x y a b = let c = weigh_below period now s s e r x y 0 0 (omega arith) b in omega arith

-- nothing hangs from nothing
pub no_chain : (f : ℕ → Option ℕ) (m : ℕ) (xs : List ℕ) → Chain f None xs → length xs ≤ m
no_chain f m xs c = let e = ap length (chain_none f xs c) in omega arith

pub no_hold : {A : Type 0} (h : ℕ) → ◌≡◌ {A = Option ℕ} None (Some h) → A
no_hold h e = absurd (let z : ◌≡◌ {A = ℕ} 0 1 = cc in omega arith)

same_hold : (a b : ℕ) → ◌≡◌ {A = Option ℕ} (Some a) (Some b) → b ≡ a
same_hold a b e = cc

-- giving back leaves shape, reservations and era, and makes no block live
pub shape_pooled : (bs : List ℕ) (k : Core) → shape (all_pooled k bs) ≡ shape k
shape_pooled [] k = refl
shape_pooled (b ∷ bs) k = shape_pooled bs (with_block k b (pooled (block k b))) ∙ shape_kept k b (pooled (block k b)) refl refl refl

pub reservations_pooled : (bs : List ℕ) (k : Core) → (all_pooled k bs).reservations ≡ k.reservations
reservations_pooled [] k = refl
reservations_pooled (b ∷ bs) k = reservations_pooled bs (with_block k b (pooled (block k b)))

pub era_pooled : (bs : List ℕ) (k : Core) → (all_pooled k bs).era ≡ k.era
era_pooled [] k = refl
era_pooled (b ∷ bs) k = era_pooled bs (with_block k b (pooled (block k b)))

pub born_pooled : (bs : List ℕ) (k : Core) (e : ℕ) → amount (born e) (all_pooled k bs).blocks.rows ≤ amount (born e) k.blocks.rows
born_pooled [] k e = omega arith
born_pooled (b ∷ bs) k e =
    let h = born_pooled bs (with_block k b (pooled (block k b))) e in
    let g = amount_less (born e) k.blocks.rows b (pooled (block k b)) (omega arith) in
    omega arith

-- a taking count that goes up leaves one fewer to come
count_up : (period n : ℕ) → suc n < period → 1 + coming period (next_count period (suc n)) ≤ coming period (suc n)
count_up period n h = by_test (λ m. 1 + coming period m ≤ period - suc n) (eqb (suc n + 1) period) 0 (suc n + 1) (λ e. omega arith) (λ e. subst (λ m. 1 + coming period m ≤ period - suc n) (more n) (omega arith))
  where
    more : (m : ℕ) → suc (suc m) ≡ suc m + 1
    more m = omega arith

module _ (form : Form) (fit : Fit form) (k : Core) (sz : Sized k) (o : InOrder form 0 k) (few : FewLive k) (len walk : ℕ → ℕ) (l : Loads form k len walk) (w : ℕ) (hw : w < form.workers) where
  pub there : w < length k.workers
  there = let s = sz.workers in let f = few_workers form fit w hw in omega arith

  -- a move leaves loads small
  abbrev pub Lights : Move → Type 0
  Lights m = Light form m.core

  -- where worker w is stored
  pub set_others : (k' : Core) (y : Worker) → k'.workers ≡ set k.workers w y → (v : ℕ) → v ≢ w → worker k' v ≡ worker k v
  set_others k' y ws v ne = ap (λ us. get_or us v blank_worker) ws ∙ get_or-set_other k.workers w v y blank_worker ne

  pub set_here : (k' : Core) (y : Worker) → k'.workers ≡ set k.workers w y → worker k' w ≡ y
  set_here k' y ws = ap (λ us. get_or us w blank_worker) ws ∙ get_or-set_same k.workers w y blank_worker there

  -- another task in place of u, with the same batch and at the same stage of it
  module _ (y : Worker) (u : Task) (te : (worker k w).task ≡ u) (eb : y.batch ≡ (worker k w).batch) (es : stage y.task ≡ stage u) where
    pub asks_same : (s : Shape) (e r : ℕ) → asking s e r y.batch (stage y.task) ≡ asking s e r (worker k w).batch (stage (worker k w).task)
    asks_same s e r = ap (λ b. asking s e r b (stage y.task)) eb ∙ ap (asking s e r (worker k w).batch) (es ∙ sym (ap stage te))

    pub slots_same : SlotsRight (shape k) y.batch (stage y.task)
    slots_same = subst (λ b. SlotsRight (shape k) b (stage y.task)) (sym eb) (subst (SlotsRight (shape k) (worker k w).batch) (sym (es ∙ sym (ap stage te))) (l.slots w hw))

    module _ (et : y.takings ≡ (worker k w).takings) (eh : mark (halfway y.task) ≤ mark (halfway u)) where
      pub weighs_less : (e r : ℕ) → weigh form.taking_period k.era (shape k) e r y ≤ weigh form.taking_period k.era (shape k) e r (worker k w)
      weighs_less e r =
          weigh_less form.taking_period k.era (shape k) e r (worker k w) y (let a = asks_same (shape k) e r in omega arith)
          (let a = ap (coming form.taking_period) et in let b = ap (λ t. mark (halfway t)) te in omega arith)

      -- nothing but the task changes
      pub retasked : (k' : Core) → k'.workers ≡ set k.workers w y → k'.reservations ≡ k.reservations → k'.era ≡ k.era → k'.blocks ≡ k.blocks
          → ((xs : List ℕ) → Chain (shape k).under (next y.task) xs → length xs ≤ walk w) → ((h : ℕ) → emptied_hold y.task ≡ Some h → emptied_hold u ≡ Some h) → Light form k'
      retasked k' ws rs en eblocks on still = (
        len,
        walk,
        quiet form fit k o len walk l w hw k' (set_others k' y ws) rs en (ap (λ t. shape_of t.rows) eblocks)
            (λ e. let a = ap (λ t. amount (born e) t.rows) eblocks in omega arith) y (set_here k' y ws) (λ e r _. weighs_less e r) slots_same on
            (λ h q. ap emptied_hold te ∙ still h q),
      )

  -- a task that neither walks nor tries nor has a list emptied, in place of another that does not try
  pub plain : (t u : Task) → (worker k w).task ≡ u → stage t ≡ stage u → mark (halfway t) ≤ mark (halfway u) → next t ≡ None → ((h : ℕ) → emptied_hold t ≡ Some h → emptied_hold u ≡ Some h) → Light form (with_task k w t)
  plain t u te es eh no_Walk still =
      retasked (record { takings = (worker k w).takings; task = t; batch = (worker k w).batch; shows = (worker k w).shows }) u te refl es refl eh (with_task k w t) refl refl refl refl
      (λ xs c. no_chain (shape k).under (walk w) xs (subst (λ q. Chain (shape k).under q xs) no_Walk c)) still

  -- the first turn of a taking that does not raise the era
  more_takings : (worker k w).task ≡ TakeEra → (worker k w).takings ≢ 0 → Light form (counted_up k w)
  more_takings te ne = (
    len,
    walk,
    quiet form fit k o len walk l w hw (counted_up k w) (set_others (counted_up k w) y refl) refl refl refl (λ e. omega arith) y (set_here (counted_up k w) y refl)
        (λ e r _. weigh_less form.taking_period k.era (shape k) e r (worker k w) y (let a = asks_same y TakeEra te refl refl (shape k) e r in omega arith) (let a = ap (λ t. mark (halfway t)) te in let b = counts in omega arith))
        (slots_same y TakeEra te refl refl)
        (λ xs c. no_chain (shape k).under (walk w) xs c)
        (λ h q. no_hold h q),
  )
    where
      y : Worker
      y = record { takings = next_count k.form.taking_period (worker k w).takings; task = TakeBlock; batch = (worker k w).batch; shows = (worker k w).shows }

      up : (n : ℕ) → n ≢ 0 → n < form.taking_period → 1 + coming form.taking_period (next_count form.taking_period n) ≤ coming form.taking_period n
      up zero nz lt = absurd (nz refl)
      up (suc n) nz lt = count_up form.taking_period n lt

      counts : 1 + coming form.taking_period (next_count k.form.taking_period (worker k w).takings) ≤ coming form.taking_period (worker k w).takings
      counts = subst (λ (f : Form). 1 + coming form.taking_period (next_count f.taking_period (worker k w).takings) ≤ coming form.taking_period (worker k w).takings) (sym o.same_form) (up (worker k w).takings ne (o.takings w))

  -- one that does: no reservation has the era after it
  late : (period e r : ℕ) (x : Worker) → e ≤ k.era → weigh period (k.era + 1) (shape k) e r x ≡ asking (shape k) e r x.batch (stage x.task)
  late period e r x h = let z : leb (k.era + 1) e ≡ false = grind (arith, nat_tests) in let a = ap (λ q. cond q (mark (halfway x.task) + coming period x.takings) 0) z in omega arith

  rises : (worker k w).task ≡ TakeEra → Light form (counted_up (with_era k (k.era + 1)) w)
  rises te = (
    len,
    walk,
    moved form fit k o len walk l w hw k' len walk (reservations form) (set_others k' y refl) (λ r _ _. refl)
        (λ v hv nv e r he. let a = late form.taking_period e r (worker k v) he in omega arith)
        (λ r hr ne.
        let e : ℕ = (reservation k r).era in
        let a = late form.taking_period e r y (o.reserved r) in
        let b = ap (weigh form.taking_period (k.era + 1) (shape k) e r) (set_here k' y refl) in
        let c = asks_same y TakeEra te refl refl (shape k) e r in
        omega arith)
        l.lists
        (λ v hv nv. l.walks v hv)
        (λ xs c. no_chain (shape k).under (walk w) xs (subst (λ x. Chain (shape k).under (next x.task) xs) (set_here k' y refl) c))
        l.short
        (λ v hv nv. l.slots v hv)
        (subst (λ x. SlotsRight (shape k) x.batch (stage x.task)) (sym (set_here k' y refl)) (slots_same y TakeEra te refl refl))
        (λ lt. absurd (omega arith))
        (λ v h nv hv hh e. let a = place_below form fit v h hv hh in omega arith)
        (λ falls h q. no_hold h (subst (λ x. emptied_hold x.task ≡ Some h) (set_here k' y refl) q)),
  )
    where
      k' : Core
      k' = counted_up (with_era k (k.era + 1)) w

      y : Worker
      y = record { takings = next_count k.form.taking_period (worker k w).takings; task = TakeBlock; batch = (worker k w).batch; shows = (worker k w).shows }

  pub take_era_light : (worker k w).task ≡ TakeEra → Lights (take_era k w)
  take_era_light te =
      by_test Lights (eqb (worker k w).takings 0) _ _
      (λ _. by_test Lights (eqb k.era 4294967295) _ _ (λ _. plain Idle TakeEra te refl (omega arith) refl (λ h q. no_hold h q)) (λ _. rises te))
      (λ ne. more_takings te (λ z. let a : eqb (worker k w).takings 0 ≡ true = grind (arith, nat_tests) in let f : ◌≡◌ {A = ℕ} 0 1 = cc in omega arith))

  -- the second turn: a block is live and born now, where a taking was halfway
  took_light : (inside : List Bool) (n : ℕ) → length inside ≡ form.blocks → Chosen inside n → (worker k w).task ≡ TakeBlock → 0 < tally inside → Lights (took k w (Ok n))
  took_light inside n long chosen te some = (
    len,
    walk,
    moved form fit k o len walk l w hw k' len walk (reservations form) (set_others k' y refl) (λ r _ _. refl)
        (λ v hv nv e r he. let a = same_weight form.taking_period k.era k.era (shape k') (shape k) e r (worker k v) (worker k v) refl seen refl in omega arith)
        (λ r hr ne.
        let e : ℕ = (reservation k r).era in
        let a = same_weight form.taking_period k.era k.era (shape k') (shape k) e r (worker k' w) y refl seen (set_here k' y refl) in
        let b = amount_set (born e) k.blocks.rows n x below in
        let c = asks_same y TakeBlock te refl refl (shape k) e r in
        let d = ap (λ t. mark (halfway t)) te in
        let f = one (leb k.era e) (coming form.taking_period (worker k w).takings) (mark (halfway (worker k w).task)) (mark (halfway Idle)) d refl in
        omega arith)
        (λ r hr xs c. l.lists r hr xs (subst (λ s. Chain s.under (head (reservation k r).list) xs) seen c))
        (λ v hv nv xs c. l.walks v hv xs (subst (λ s. Chain s.under (next (worker k v).task) xs) seen c))
        (λ xs c. no_chain (shape k').under (walk w) xs (subst (λ z. Chain (shape k').under (next z.task) xs) (set_here k' y refl) c))
        l.short
        (λ v hv nv. subst (λ s. SlotsRight s (worker k v).batch (stage (worker k v).task)) (sym seen) (l.slots v hv))
        (subst (λ s. SlotsRight s (worker k' w).batch (stage (worker k' w).task)) (sym seen) (subst (λ z. SlotsRight (shape k) z.batch (stage z.task)) (sym (set_here k' y refl)) (slots_same y TakeBlock te refl refl)))
        (λ lt. absurd (omega arith))
        (λ v h nv hv hh e. let a = place_below form fit v h hv hh in omega arith)
        (λ falls h q. no_hold h (subst (λ z. emptied_hold z.task ≡ Some h) (set_here k' y refl) q)),
  )
    where
      k' : Core
      k' = (took k w (Ok n)).core

      x : Block
      x = taken_block (block k n) k.era w

      y : Worker
      y = record { takings = (worker k w).takings; task = Idle; batch = (worker k w).batch; shows = (worker k w).shows }

      seen : shape k' ≡ shape k
      seen = shape_kept k n x refl refl refl

      below : n < length k.blocks.rows
      below = let a = in_below inside n (chosen some) in let b = sz.rows in omega (arith, few_blocks form fit)

      one : (q : Bool) (m h i : ℕ) → h ≡ 1 → i ≡ 0 → mark q + cond q (i + m) 0 ≤ cond q (h + m) 0
      one true m h i z u = omega arith
      one false m h i z u = omega arith

  pub take_block_light : (inside : List Bool) (n : ℕ) → length inside ≡ form.blocks → Chosen inside n → (worker k w).task ≡ TakeBlock → Lights (take_block k inside n w)
  take_block_light inside n long chosen te =
      let stops = plain Idle TakeBlock te refl (omega arith) refl (λ h q. no_hold h q) in
      by_test Lights (ltb k.live k.form.live) _ _
      (λ _. by_test (λ (r : Result ℕ PoolFault). Lights (took k w r)) (eqb (tally inside) 0) _ _ (λ _. stops) (λ ne. took_light inside n long chosen te (grind (arith, nat_tests))))
      (λ _. stops)

  -- the list of worker w's hold h is empty, and its blocks are walked
  module _ (h : ℕ) (hh : h < form.holds) (k' : Core) (y : Worker) (u : Task) (te : (worker k w).task ≡ u) (ws : k'.workers ≡ set k.workers w y) (en : k'.era ≡ k.era) (eblocks : k'.blocks ≡ k.blocks)
      (eb : y.batch ≡ (worker k w).batch) (et : y.takings ≡ (worker k w).takings) (es : stage y.task ≡ stage u) (eh : mark (halfway y.task) ≤ mark (halfway u))
      (eras : (r : ℕ) → (reservation k' r).era ≡ (reservation k r).era) (lists : (r : ℕ) → r ≢ w * form.holds + h → (reservation k' r).list ≡ (reservation k r).list) (none : head (reservation k' (w * form.holds + h)).list ≡ None)
      (on : (xs : List ℕ) → Chain (shape k).under (next y.task) xs → length xs ≤ len (w * form.holds + h)) (here : (i : ℕ) → emptied_hold y.task ≡ Some i → i ≡ h) where
    pub empties : Light form k'
    empties =
        let q : ℕ = w * form.holds + h in
        let hq : q < reservations form = place_below form fit w h hw hh in
        let seen : shape k' ≡ shape k = ap (λ t. shape_of t.rows) eblocks in
        let other_weights : (v : ℕ) → v < form.workers → v ≢ w → (e r : ℕ) → e ≤ k.era → weigh form.taking_period k'.era (shape k') e r (worker k v) ≤ weigh form.taking_period k.era (shape k) e r (worker k v) =
        λ v hv nv e r he. let a = same_weight form.taking_period k'.era k.era (shape k') (shape k) e r (worker k v) (worker k v) en seen refl in omega arith in
        let own : (e r : ℕ) → amount (born e) k'.blocks.rows + weigh form.taking_period k'.era (shape k') e r (worker k' w) ≤ amount (born e) k.blocks.rows + weigh form.taking_period k.era (shape k) e r (worker k w) =
        λ e r.
        let a = same_weight form.taking_period k'.era k.era (shape k') (shape k) e r (worker k' w) y en seen (set_here k' y ws) in
        let b = weighs_less y u te eb es et eh e r in
        let c = ap (λ t. amount (born e) t.rows) eblocks in
        omega arith in (
          upd len q 0,
          upd walk w (len q),
          moved form fit k o len walk l w hw k' (upd len q 0) (upd walk w (len q)) (reservations form) (set_others k' y ws) (λ r _ _. eras r) other_weights
              (λ r hr ne. let a = own (reservation k r).era r in let b = at_upd (λ i n. n ≤ len i) len q 0 (omega arith) r (λ _. omega arith) in omega arith)
              (λ r hr xs c. elim (ℕ_discrete r q) [
                | yes e ↦ no_chain (shape k').under (upd len q 0 r) xs (subst (λ z. Chain (shape k').under z xs) (ap (λ i. head (reservation k' i).list) e ∙ none) c)
                | no ne ↦ (let a = l.lists r hr xs (subst (λ s. Chain s.under (head (reservation k r).list) xs) seen (subst (λ z. Chain (shape k').under (head z) xs) (lists r ne) c)) in let b = upd_other len q 0 r ne in omega arith)
              ])
              (λ v hv nv xs c. let a = l.walks v hv xs (subst (λ s. Chain s.under (next (worker k v).task) xs) seen c) in let b = upd_other walk w (len q) v nv in omega arith)
              (λ xs c. let a = on xs (subst (λ s. Chain s.under (next y.task) xs) seen (subst (λ x. Chain (shape k').under (next x.task) xs) (set_here k' y ws) c)) in let b = upd_same walk w (len q) in omega arith)
              (λ v hv. at_upd (λ i n. i < form.workers → n ≤ most form + most form) walk w (len q) (λ _. let a = l.light q hq in omega arith) v (λ _. l.short v) hv)
              (λ v hv nv. subst (λ s. SlotsRight s (worker k v).batch (stage (worker k v).task)) (sym seen) (l.slots v hv))
              (subst (λ s. SlotsRight s (worker k' w).batch (stage (worker k' w).task)) (sym seen) (subst (λ z. SlotsRight (shape k) z.batch (stage z.task)) (sym (set_here k' y ws)) (slots_same y u te eb es)))
              (λ lt. absurd (omega arith))
              (λ v i nv hv hi e. let a = place_below form fit v i hv hi in omega arith)
              (λ falls i z.
              let e = here i (subst (λ x. emptied_hold x.task ≡ Some i) (set_here k' y ws) z) in
              let a = pot_falls form k w hw k' (set_others k' y ws) other_weights 0 0 (reservation k q).era q (o.reserved q) (let b = own (reservation k q).era q in omega arith) in
              let b = pot_most form k o few l.slots (reservation k q).era q in
              let c = upd_same len q 0 in
              let d : pot form k' (reservation k' q).era q ≡ pot form k' (reservation k q).era q = ap (λ n. pot form k' n q) (eras q) in
              subst (λ j. load form k' (upd len q 0) (w * form.holds + j) ≤ most form) (sym e) (omega arith)),
        )

  place_is : (h : ℕ) → place_of k w h ≡ w * form.holds + h
  place_is h = ap (λ (f : Form). w * f.holds + h) o.same_form

  place_there : (h : ℕ) → h < form.holds → place_of k w h < length k.reservations
  place_there h hh = let a = place_below form fit w h hw hh in let b = place_is h in let c = sz.reservations in omega (arith, few_places form fit)

  -- the era of worker w's hold h is written, where its list has been emptied before
  module _ (h : ℕ) (hh : h < form.holds) (n : ℕ) (hn : n ≤ k.era) (t u : Task) (te : (worker k w).task ≡ u) (empty : emptied_hold u ≡ Some h)
      (es : stage t ≡ stage u) (eh : mark (halfway t) ≤ mark (halfway u)) (no_Walk : next t ≡ None) (no_more : emptied_hold t ≡ None) where
    pub writes : Light form (with_task (with_own_era k w h n) w t)
    writes =
        let q : ℕ = w * form.holds + h in
        let hq : q < reservations form = place_below form fit w h hw hh in
        let k' : Core = with_task (with_own_era k w h n) w t in
        let y : Worker = record { takings = (worker k w).takings; task = t; batch = (worker k w).batch; shows = (worker k w).shows } in
        let x : Reservation = record { list = (own_reservation k w h).list; era = n } in
        let own : (e r : ℕ) → amount (born e) k'.blocks.rows + weigh form.taking_period k'.era (shape k') e r (worker k' w) ≤ amount (born e) k.blocks.rows + weigh form.taking_period k.era (shape k) e r (worker k w) =
        λ e r. let a = ap (weigh form.taking_period k.era (shape k) e r) (set_here k' y refl) in let b = weighs_less y u te refl es refl eh e r in omega arith in (
          len,
          walk,
          moved form fit k o len walk l w hw k' len walk q (set_others k' y refl)
              (λ r hr ne. ap (λ (z : Reservation). z.era) (get_or-set_other k.reservations (place_of k w h) r x fresh_reservation (λ e. ne (e ∙ place_is h))))
              (λ v hv nv e r he. omega arith)
              (λ r hr ne. let a = own (reservation k r).era r in omega arith)
              (λ r hr xs c. l.lists r hr xs (subst (λ (f : ℕ → HungList). Chain (shape k).under (head (f r)) xs) (field_kept (λ (z : Reservation). z.list) fresh_reservation k.reservations (place_of k w h) x refl) c))
              (λ v hv nv. l.walks v hv)
              (λ xs c. no_chain (shape k).under (walk w) xs (subst (λ z. Chain (shape k).under z xs) (ap (λ (z : Worker). next z.task) (set_here k' y refl) ∙ no_Walk) c))
              l.short
              (λ v hv nv. l.slots v hv)
              (subst (λ z. SlotsRight (shape k) z.batch (stage z.task)) (sym (set_here k' y refl)) (slots_same y u te refl es))
              (λ _.
              let a = l.lighter w h hw (ap emptied_hold te ∙ empty) in
              let b = pot_falls form k w hw k' (set_others k' y refl) (λ v hv nv e r he. omega arith) 0 0 n q hn (let b = own n q in omega arith) in
              let c = pot_most form k o few l.slots n q in
              let d : (reservation k' q).era ≡ n = ap (λ i. (reservation k' i).era) (sym (place_is h)) ∙ ap (λ (z : Reservation). z.era) (get_or-set_same k.reservations (place_of k w h) x fresh_reservation (place_there h hh)) in
              let f = ap (λ i. pot form k' i q) d in
              omega arith)
              (λ v i nv hv hi e. apart form.holds v w i h nv hi hh e)
              (λ falls i z. no_hold i (sym no_more ∙ ap (λ (j : Worker). emptied_hold j.task) (sym (set_here k' y refl)) ∙ z)),
        )

  -- a walk handles block b
  module _ (b : ℕ) (t : Task) (walks : next (worker k w).task ≡ Some b) (on : next t ≡ (block k b).under) (es : stage t ≡ stage (worker k w).task) (eh : mark (halfway t) ≤ mark (halfway (worker k w).task))
      (still : (h : ℕ) → emptied_hold t ≡ Some h → emptied_hold (worker k w).task ≡ Some h) where
    pub handled_light : Lights (handled k w b t)
    handled_light =
        let lead : ℕ = (block k b).lead in
        let back : List ℕ = due (count_down k lead) lead in
        let p : Core = all_pooled (count_down k lead) back in
        let ws : p.workers ≡ k.workers = all_pooled_workers back (count_down k lead) in
        let y : Worker = record { takings = (worker p w).takings; task = t; batch = (worker p w).batch; shows = (worker p w).shows } in
        let eb : y.batch ≡ (worker k w).batch = ap (λ us. (get_or us w blank_worker).batch) ws in
        let et : y.takings ≡ (worker k w).takings = ap (λ us. (get_or us w blank_worker).takings) ws in
        let k' : Core = (handled k w b t).core in (
          len,
          walk,
          quiet form fit k o len walk l w hw k' (set_others k' y (ap (λ us. set us w y) ws)) (reservations_pooled back (count_down k lead)) (era_pooled back (count_down k lead))
              (shape_pooled back (count_down k lead) ∙ shape_kept k lead (with_count (block k lead) ((block k lead).count - 1) (block k lead).newest) refl refl refl)
              (λ e. let c = born_pooled back (count_down k lead) e in let d = amount_less (born e) k.blocks.rows lead (with_count (block k lead) ((block k lead).count - 1) (block k lead).newest) (omega arith) in omega arith)
              y (set_here k' y (ap (λ us. set us w y) ws)) (λ e r _. weighs_less y (worker k w).task refl eb es et eh e r) (slots_same y (worker k w).task refl eb es)
              (λ xs c. let a = l.walks w hw (b ∷ xs) (walks, subst (λ z. Chain (shape k).under z xs) on c) in omega arith)
              still,
        )

  -- looking
  module _ (h : ℕ) (hh : h < form.holds) (x : HungList) (t u : Task) (te : (worker k w).task ≡ u) (es : stage t ≡ stage u) (eh : mark (halfway t) ≤ mark (halfway u)) (none : head x ≡ None)
      (on : (xs : List ℕ) → Chain (shape k).under (next t) xs → length xs ≤ len (w * form.holds + h)) (here : (i : ℕ) → emptied_hold t ≡ Some i → i ≡ h) where
    pub detaches : Light form (with_task (with_list k w h x) w t)
    detaches =
        let z : Reservation = record { list = x; era = (own_reservation k w h).era } in
        empties h hh (with_task (with_list k w h x) w t) (record { takings = (worker k w).takings; task = t; batch = (worker k w).batch; shows = (worker k w).shows }) u te refl refl refl refl refl es eh
        (λ r. ap (λ (f : ℕ → ℕ). f r) (field_kept (λ (y : Reservation). y.era) fresh_reservation k.reservations (place_of k w h) z refl))
        (λ r ne. ap (λ (y : Reservation). y.list) (get_or-set_other k.reservations (place_of k w h) r z fresh_reservation (λ e. ne (e ∙ place_is h))))
        (ap (λ i. head (get_or (set k.reservations (place_of k w h) z) i fresh_reservation).list) (sym (place_is h)) ∙ ap (λ (y : Reservation). head y.list) (get_or-set_same k.reservations (place_of k w h) z fresh_reservation (place_there h hh)) ∙ none)
        on here

  -- what hung from hold h is as long as its list was
  hung_long : (h : ℕ) → h < form.holds → (b : ℕ) → (own_reservation k w h).list ≡ Newest b → (xs : List ℕ) → Chain (shape k).under (Some b) xs → length xs ≤ len (w * form.holds + h)
  hung_long h hh b e xs c = l.lists (w * form.holds + h) (place_below form fit w h hw hh) xs (subst (λ z. Chain (shape k).under z xs) (sym (ap (λ i. head (reservation k i).list) (sym (place_is h)) ∙ ap head e)) c)

  pub look_list_light : (h x e : ℕ) → (worker k w).task ≡ LookList h x e → h < form.holds → (i : HungList) → (own_reservation k w h).list ≡ i → Lights (look_list k w h x e i)
  look_list_light h x e te hh Off ie = detaches h hh Empty (LookAgain h x) (LookList h x e) te refl (omega arith) refl (λ xs c. no_chain (shape k).under _ xs c) (λ i z. same_hold h i z)
  look_list_light h x e te hh Empty ie =
      empties h hh (with_task k w (LookWrite h x e)) (record { takings = (worker k w).takings; task = LookWrite h x e; batch = (worker k w).batch; shows = (worker k w).shows }) (LookList h x e) te refl refl refl refl refl refl (omega arith)
      (λ _. refl) (λ _ _. refl) (ap (λ i. head (reservation k i).list) (sym (place_is h)) ∙ ap head ie) (λ xs c. no_chain (shape k).under _ xs c) (λ i z. same_hold h i z)
  look_list_light h x e te hh (Newest b) ie = detaches h hh Empty (LookWalk h x b) (LookList h x e) te refl (omega arith) refl (hung_long h hh b ie) (λ i z. same_hold h i z)

  pub look_on_light : (h x b : ℕ) → (worker k w).task ≡ LookWalk h x b → (i : Option ℕ) → (block k b).under ≡ i → Lights (handled k w b (look_on h x i))
  look_on_light h x b te None ie = handled_light b (LookAgain h x) (ap next te) (sym ie) (sym (ap stage te)) (omega arith) (λ i z. ap emptied_hold te ∙ z)
  look_on_light h x b te (Some d) ie = handled_light b (LookWalk h x d) (ap next te) (sym ie) (sym (ap stage te)) (omega arith) (λ i z. ap emptied_hold te ∙ z)

  -- dropping
  pub drop_list_light : (h : ℕ) → (worker k w).task ≡ DropList h → h < form.holds → (i : HungList) → (own_reservation k w h).list ≡ i → Light form (with_task (with_list k w h Off) w (drop_task h i))
  drop_list_light h te hh Off ie = detaches h hh Off (DropEra h) (DropList h) te refl (omega arith) refl (λ xs c. no_chain (shape k).under _ xs c) (λ i z. same_hold h i z)
  drop_list_light h te hh Empty ie = detaches h hh Off (DropEra h) (DropList h) te refl (omega arith) refl (λ xs c. no_chain (shape k).under _ xs c) (λ i z. same_hold h i z)
  drop_list_light h te hh (Newest b) ie = detaches h hh Off (DropWalk h b) (DropList h) te refl (omega arith) refl (hung_long h hh b ie) (λ i z. same_hold h i z)

  pub drop_on_light : (h b : ℕ) → (worker k w).task ≡ DropWalk h b → (i : Option ℕ) → (block k b).under ≡ i → Lights (handled k w b (drop_on h i))
  drop_on_light h b te None ie = handled_light b (DropEra h) (ap next te) (sym ie) (sym (ap stage te)) (omega arith) (λ i z. ap emptied_hold te ∙ z)
  drop_on_light h b te (Some d) ie = handled_light b (DropWalk h d) (ap next te) (sym ie) (sym (ap stage te)) (omega arith) (λ i z. ap emptied_hold te ∙ z)

  pub drop_era_light : (h : ℕ) → (worker k w).task ≡ DropEra h → h < form.holds → Lights (drop_era k w h)
  drop_era_light h te hh =
      by_test Lights (ltb (h + 1) k.form.holds) _ _
      (λ _. writes h hh 0 (omega arith) (DropList (h + 1)) (DropEra h) te refl refl (omega arith) refl refl)
      (λ _. writes h hh 0 (omega arith) Idle (DropEra h) te refl refl (omega arith) refl refl)

-- That every step of a task keeps batches, lists, walks and counts sound.
use Rattle.std.proofs.Common.{◌≡◌, ℕ, zero, suc, ◌+◌, ◌-◌, ◌*◌, ◌<◌, ◌≤◌, Bool, true, false, cond, ◌&&◌, eqb, ◌≢◌, ◌⊎◌, List, [], ◌∷◌, length, Some, None, Option, sym, refl, ap, ◌∙◌, subst, inl, inr, mul_comm, arith}
use native.Mathlib.Decide.{ℕ_discrete, dec_lt}
use Rattle.std.proofs.lemmas.Nat.{mul-le, mul-add-lt}
use Rattle.std.proofs.lemmas.Bool.Decides.{nat_tests}
use Rattle.figures.specs.Limits.{Fit}
use Rattle.figures.specs.declared.limits.Form.{Form}
use Rattle.machine.specs.declared.states.Batch.{Batch}
use Rattle.machine.specs.declared.states.HungList.{HungList}
use Rattle.machine.specs.declared.states.Standing.TheVariants.{Retired}
use Rattle.machine.specs.declared.states.Task.{Task}
use Rattle.machine.specs.declared.states.Task.TheVariants.{Idle, TryLast}
use Rattle.machine.specs.declared.states.Core.{Core}
use Rattle.machine.specs.State.{block, worker, reservation, place_of, with_task}
use Rattle.machine.specs.Moves.{Move, drawn, gained_all}
use Rattle.machine.specs.Looking.{with_list}
use Rattle.machine.specs.Walking.{due, count_down, handled}
use Rattle.machine.specs.Structure.{Follow}
use Rattle.machine.proofs.Passing.{by_test}
use Rattle.machine.proofs.Sums.{upd, Σ, tot, mark, is, is_self, Each, Σ_zero, Σ_change, is_other, each_of, upd_same}
use Rattle.machine.proofs.Chains.{Chain, Ends}
use Rattle.machine.proofs.Mirror.{St, view, retask, rebatch, give, give_all}
use Rattle.machine.proofs.Sound.{Gh, Sound, TaskRight, Alive, AliveBut, Lead, head, next, hung_of, due_of, owns}
use Rattle.machine.specs.Account.{is_retired}
use Rattle.machine.proofs.Sound as sound
use Rattle.machine.proofs.Bridge.{view_settled, sized_settled, sized_emptied, due_count_down, due_settled, view_handled, view_last, Sized, sized_task, sized_all_pooled, sized_count_down, sized_list, view_task, view_list, view_count_down, gained_all_long}
use Rattle.machine.proofs.TaskKept.{retask_kept, detach_kept, due_of_same}
use Rattle.machine.proofs.WalkKept.{walk_keeps}
use Rattle.machine.specs.Trying.{settled, try_last}
use Rattle.machine.proofs.Owners.{own_chain}
use Rattle.machine.proofs.LastKept.{last_lead, last_sound, last_alive}
use Rattle.machine.proofs.GiveKept.{disband, spent_left, spent_each, give_keeps, none_spent}

-- giving back does not see batches either
give_all_rebatch : (s : St) (w : ℕ) (t : Task) (x : Option Batch) (bs : List ℕ) → give_all (rebatch s w t x) bs ≡ rebatch (give_all s bs) w t x
give_all_rebatch s w t x [] = refl
give_all_rebatch s w t x (b ∷ bs) = give_all_rebatch (give s b) w t x bs

-- how many reservations a form asks for
abbrev pub reservations : Form → ℕ
reservations form = form.workers * form.holds

-- a keeper over a pool is sound
abbrev pub Good : Form → Core → List Bool → Type 0
Good form k inside = Sized k × (length inside ≡ form.blocks) × (g : Gh) × Sound form.blocks (reservations form) form.workers (view k inside) g × Alive (view k inside)

-- blocks are none, or all those of one batch, each once, and its lead last
abbrev pub WholeBatch : St → List ℕ → Type 0
WholeBatch s bs = (bs ≡ []) ⊎ ((l : ℕ) × Ends l bs × Follow s.elder bs × ((b : ℕ) → tot (is b) bs ≡ mark (is_retired (s.standing b) && eqb (s.lead b) l)))

-- a chain is followed from each to the next
chain_follows : (f : ℕ → Option ℕ) (o : Option ℕ) (xs : List ℕ) → Chain f o xs → Follow f xs
chain_follows f o [] c = tt
chain_follows f o (x ∷ []) c = c.1
chain_follows f o (x ∷ y ∷ ys) c = (c.1.0, chain_follows f (f x) (y ∷ ys) c.1)

-- a move leaves it so, where n is the number that the pool hands out next
abbrev pub Leaves : Form → List Bool → ℕ → Move → Type 0
Leaves form inside n m = Good form m.core (gained_all (drawn m.taken inside n) m.given)

pub Σ_add : (f h : ℕ → ℕ) (n : ℕ) → Σ (λ i. f i + h i) n ≡ Σ f n + Σ h n
Σ_add f h zero = refl
Σ_add f h (suc n) = let b = Σ_add f h n in omega arith

Σ_bound : (f : ℕ → ℕ) (n : ℕ) → ((i : ℕ) → i < n → f i ≤ 1) → Σ f n ≤ n
Σ_bound f zero h = omega arith
Σ_bound f (suc n) h = let a = h n (omega arith) in let b = Σ_bound f n (λ i l. h i (omega arith)) in omega arith

-- one place of n counts x
pub Σ_is : (x n : ℕ) → x < n → Σ (λ b. is b x) n ≡ 1
Σ_is x n h =
    let a = Σ_change (λ _. 0) (λ b. is b x) x n h (λ j ne. is_other j x (λ e. ne (sym e))) in
    let z = Σ_zero n in
    let i = is_self x in
    omega arith

-- a list of numbers below n, counted by its values
pub length_by : (xs : List ℕ) (n : ℕ) → Each (λ x. x < n) xs → length xs ≡ Σ (λ b. tot (is b) xs) n
length_by [] n u = sym (Σ_zero n)
length_by (x ∷ xs) n u =
    let a = length_by xs n u.1 in
    let b = Σ_is x n u.0 in
    let d = Σ_add (λ b. is b x) (λ b. tot (is b) xs) n in
    omega arith

-- without repetition there are no more than n
pub pigeon : (xs : List ℕ) (n : ℕ) → Each (λ x. x < n) xs → ((b : ℕ) → tot (is b) xs ≤ 1) → length xs ≤ n
pigeon xs n u once =
    let a = length_by xs n u in
    let b = Σ_bound (λ b. tot (is b) xs) n (λ i _. once i) in
    omega arith

-- giving back does not see tasks
give_all_retask : (s : St) (w : ℕ) (t : Task) (bs : List ℕ) → give_all (retask s w t) bs ≡ retask (give_all s bs) w t
give_all_retask s w t [] = refl
give_all_retask s w t (b ∷ bs) = give_all_retask (give s b) w t bs

module _ (form : Form) (fit : Fit form) where
  pub few_workers : (w : ℕ) → w < form.workers → w < 8
  few_workers w h = omega (arith, fit.0.1)

  pub few_places : reservations form ≤ 32
  few_places = mul-le form.workers form.holds 8 4 fit.0.1 fit.1.1

  pub few_blocks : form.blocks ≤ 2048
  few_blocks = fit.2.1

  pub place_below : (w h : ℕ) → w < form.workers → h < form.holds → w * form.holds + h < reservations form
  place_below w h hw hh = let p = mul-add-lt w form.holds h form.workers hw hh in let e = mul_comm form.holds form.workers in omega arith

  module _ (k : Core) (inside : List Bool) (sz : Sized k) (long : length inside ≡ form.blocks) (same_form : k.form ≡ form) (g : Gh)
      (c : Sound form.blocks (reservations form) form.workers (view k inside) g) (al : Alive (view k inside)) (w : ℕ) (hw : w < form.workers) where
    -- by what the mirror is then
    pub seen_as : (k' : Core) (s : St) → Sized k' → view k' inside ≡ s → (h : Gh) → Sound form.blocks (reservations form) form.workers s h → Alive s → Good form k' inside
    seen_as k' s sz' e h c' al' = (sz', long, h, subst (λ x. Sound form.blocks (reservations form) form.workers x h) (sym e) c', subst Alive (sym e) al')

    -- another task in place
    pub retasks : (k' : Core) (t u : Task) → (worker k w).task ≡ u → Sized k' → view k' inside ≡ retask (view k inside) w t → next t ≡ next u → ((ms rs : List ℕ) → sound.due t ms rs ≡ sound.due u ms rs) → hung_of t ≡ hung_of u
        → TaskRight (reservations form) (λ b. (block k b).elder) g.members (worker k w).batch (g.rest w) t → Good form k' inside
    retasks k' t u e sz' ev same_next same_due same_hung right =
        seen_as k' _ sz' ev _
        (retask_kept _ _ _ (view k inside) g c w hw t (g.rest w) (same_next ∙ ap next (sym e))
        (λ p. let q = ap (tot p) (due_of_same g.members (g.rest w) (worker k w).batch t (worker k w).task (λ ms rs. same_due ms rs ∙ ap (λ x. sound.due x ms rs) (sym e))) in omega arith)
        (same_hung ∙ ap hung_of (sym e)) right)
        al

    own_place : (h : ℕ) → h < form.holds → place_of k w h < reservations form
    own_place h hh = subst (λ (f : Form). w * f.holds + h < reservations form) (sym same_form) (place_below w h hw hh)

    -- a task that takes over what hung from the worker's hold h, for a walk
    pub detaches : (t u : Task) (h : ℕ) (l : HungList) → (worker k w).task ≡ u → h < form.holds → head l ≡ None → next u ≡ None → next t ≡ head (reservation k (place_of k w h)).list
        → ((ms rs : List ℕ) → sound.due t ms rs ≡ sound.due u ms rs) → hung_of t ≡ hung_of u
        → TaskRight (reservations form) (λ b. (block k b).elder) g.members (worker k w).batch (g.rest w) t → Good form (with_task (with_list k w h l) w t) inside
    detaches t u h l e hh no_head no_Walk walks same_due same_hung right =
        let r = place_of k w h in
        let hr = own_place h hh in
        let hr32 : r < 32 = omega (arith, few_places) in
        seen_as _ _ (sized_task _ w t (sized_list k w h l sz)) (view_task (with_list k w h l) inside w t (sized_list k w h l sz) (few_workers w hw) ∙ ap (λ x. retask x w t) (view_list k inside w h l sz hr32)) _
        (detach_kept _ _ _ (view k inside) g c w hw t r hr l no_head (ap next e ∙ no_Walk) walks (λ ms rs. same_due ms rs ∙ ap (λ x. sound.due x ms rs) (sym e)) (same_hung ∙ ap hung_of (sym e)) right)
        al

    -- no batch is longer than there are blocks
    pub batch_short : (l : ℕ) → Lead (view k inside) l → length (g.members l) ≤ 2048
    batch_short l lead =
        let below = each_of (λ b. b < form.blocks) (g.members l) below_of in
        let p = pigeon (g.members l) form.blocks below (λ b. let m = c.members_are b l in grind arith) in
        omega (arith, few_blocks)
      where
        below_of : (b : ℕ) → 1 ≤ tot (is b) (g.members l) → b < form.blocks
        below_of b m = elim (dec_lt b form.blocks) [
          | yes lt ↦ lt
          | no ne ↦ absurd (let e = c.members_are b l in let z : is_retired (block k b).standing ≡ false = ap is_retired (c.beyond b (omega arith)) in grind arith)
        ]

    -- a retired block is one that there is
    pub retired_below : (b : ℕ) → (block k b).standing ≡ Retired → b < form.blocks
    retired_below b e = elim (dec_lt b form.blocks) [
      | yes lt ↦ lt
      | no ne ↦ absurd (let z = c.beyond b (omega arith) in let f : ◌≡◌ {A = ℕ} 0 1 = cc in omega arith)
    ]

-- a batch's count has changed, and at 0 the batch is given back
module _ (form : Form) (fit : Fit form) (inside : List Bool) (long : length inside ≡ form.blocks) (k : Core) (s : St) (g : Gh) (l : ℕ) (back : List ℕ) (sz : Sized k)
    (c : Sound form.blocks (reservations form) form.workers s g) (lead : Lead s l) (others : AliveBut s l)
    (all : s.count l ≡ 0 → back ≡ g.members l) (none : s.count l ≢ 0 → back ≡ []) (seen : Each (λ x. (x < 2048) × (x < length inside)) back → view k (gained_all inside back) ≡ give_all s back) where
  long_after : length (gained_all inside back) ≡ form.blocks
  long_after = gained_all_long back inside ∙ long

  bounded : (x : ℕ) → x < form.blocks → (x < 2048) × (x < length inside)
  bounded x lt = (omega (arith, few_blocks form fit), omega arith)

  each_bounded : (xs : List ℕ) → Each (λ b. (s.standing b ≡ Retired) × (b < form.blocks)) xs → Each (λ x. (x < 2048) × (x < length inside)) xs
  each_bounded [] u = tt
  each_bounded (x ∷ xs) u = (bounded x u.0.1, each_bounded xs u.1)

  pub settles : Good form k (gained_all inside back) × WholeBatch s back
  settles = elim (ℕ_discrete (s.count l) 0) [
    | yes z ↦
        (let given = give_keeps _ _ _ s g c (few_places form fit) l lead z others in
        let e = all z in
        let inn : Each (λ x. (x < 2048) × (x < length inside)) back = subst (Each (λ x. (x < 2048) × (x < length inside))) (sym e) (each_bounded (g.members l) (spent_each _ _ _ s g c (few_places form fit) l lead z)) in
        let v : view k (gained_all inside back) ≡ give_all s (g.members l) = seen inn ∙ ap (give_all s) e in (
          (sz, long_after, disband g l, subst (λ x. Sound form.blocks (reservations form) form.workers x (disband g l)) (sym v) given.0, subst Alive (sym v) given.1),
          subst (WholeBatch s) (sym e) (inr (l, c.ends_with l lead, chain_follows s.elder (Some (s.newest l)) (g.members l) (c.left l lead (spent_left _ _ _ s g c (few_places form fit) l lead z)), λ b. c.members_are b l)),
        ))
    | no ne ↦
        (let e = none ne in
        let v : view k (gained_all inside back) ≡ s = seen (subst (Each (λ x. (x < 2048) × (x < length inside))) (sym e) tt) ∙ ap (give_all s) e in
        ((sz, long_after, g, subst (λ x. Sound form.blocks (reservations form) form.workers x g) (sym v) c, subst Alive (sym v) (none_spent s l ne others)), inl e))
  ]

-- what is not spent is not due
pub due_none : (k : Core) (l : ℕ) → (block k l).count ≢ 0 → due k l ≡ []
due_none k l ne = by_test (λ x. x ≡ []) (eqb (block k l).count 0) _ _ (λ e. absurd (ne (grind (arith, nat_tests)))) (λ _. refl)

module _ (form : Form) (fit : Fit form) (k : Core) (inside : List Bool) (sz : Sized k) (long : length inside ≡ form.blocks) (same_form : k.form ≡ form) (g : Gh)
    (c : Sound form.blocks (reservations form) form.workers (view k inside) g) (al : Alive (view k inside)) (w : ℕ) (hw : w < form.workers) where
  -- a walk handles block b, and then the task is t
  pub handles : (b : ℕ) (t : Task) → next (worker k w).task ≡ Some b → next t ≡ (block k b).under → ((ms rest : List ℕ) → sound.due t ms rest ≡ ms) → hung_of t ≡ 0
      → TaskRight (reservations form) (λ x. (block k x).elder) g.members (worker k w).batch (g.rest w) t → Good form (handled k w b t).core (gained_all inside (handled k w b t).given) × WholeBatch (view k inside) (handled k w b t).given
  handles b t walks on plain none_hung right =
      let l = (block k b).lead in
      let h = walk_keeps _ _ _ (view k inside) g c (few_places form fit) w b t hw walks on plain none_hung right in
      let leads : Lead (view k inside) l = h.4 in
      let below = retired_below form fit k inside sz long same_form g c al w hw l leads.0 in
      let below' : l < 2048 = omega (arith, few_blocks form fit) in
      let down : (block (count_down k l) l).count ≡ (block k l).count - 1 = ap (λ x. x.count l) (view_count_down k inside l sz below') ∙ upd_same (λ x. (block k x).count) l ((block k l).count - 1) in
      let now_count : upd (λ x. (block k x).count) l ((block k l).count - 1) l ≡ (block k l).count - 1 = upd_same (λ x. (block k x).count) l ((block k l).count - 1) in
      settles form fit inside long (handled k w b t).core _ h.0 l (due (count_down k l) l)
      (sized_task _ w t (sized_all_pooled (due (count_down k l) l) (count_down k l) (sized_count_down k l sz))) h.1 leads (h.5 al)
      (λ z.
      let free = spent_left _ _ _ _ h.0 h.1 (few_places form fit) l leads z in
      let chain : Chain (λ x. (block k x).elder) (Some (block k l).newest) (h.0.members l) = subst (λ y. Chain (λ x. (block k x).elder) (Some y) (h.0.members l)) (upd_same (λ x. (block k x).newest) l (block k l).newest) (h.1.left l leads free) in
      let few : length (h.0.members l) ≤ 2048 = subst (λ m. length (m l) ≤ 2048) (sym h.2) (batch_short form fit k inside sz long same_form g c al w hw l leads) in
      let e : (block k l).count - 1 ≡ 0 = sym now_count ∙ z in
      let spent : eqb ((block k l).count - 1) 0 ≡ true = grind (arith, nat_tests) in
      due_count_down k l (h.0.members l) sz below' chain few ∙ ap (λ x. cond x (h.0.members l) []) spent)
      (λ ne. due_none (count_down k l) l (λ z. ne (now_count ∙ sym down ∙ z)))
      (λ inn. view_handled k inside w b t sz (few_workers form fit w hw) below' inn ∙ sym (give_all_retask _ w t (due (count_down k l) l)))

  -- the last turn of a try
  pub lasts : (hung : ℕ) (x : Batch) → (worker k w).task ≡ TryLast hung → (worker k w).batch ≡ Some x → Good form (try_last k w hung (Some x)).core (gained_all inside (try_last k w hung (Some x)).given) × WholeBatch (view k inside) (try_last k w hung (Some x)).given
  lasts hung x e eb =
      let l = x.lead in
      let lead = last_lead _ _ _ (view k inside) g c (few_places form fit) w hw hung x e eb in
      let snd = last_sound _ _ _ (view k inside) g c (few_places form fit) w hw hung x e eb in
      let others = last_alive _ _ _ (view k inside) g c (few_places form fit) w hw hung x e eb al in
      let below = retired_below form fit k inside sz long same_form g c al w hw l lead.0 in
      let below' : l < 2048 = omega (arith, few_blocks form fit) in
      let new : ℕ = (block k l).count + hung - 1024 in
      let now_count : upd (λ y. (block k y).count) l new l ≡ new = upd_same (λ y. (block k y).count) l new in
      let down : (block (settled k x hung) l).count ≡ new = ap (λ y. y.count l) (view_settled k inside x hung sz below') ∙ now_count in
      settles form fit inside long (try_last k w hung (Some x)).core _ g l (due (settled k x hung) l)
      (sized_emptied _ w (sized_all_pooled (due (settled k x hung) l) (settled k x hung) (sized_settled k x hung sz))) snd lead others
      (λ z.
      let chain = own_chain _ _ _ (view k inside) g c w x hw eb in
      let few = batch_short form fit k inside sz long same_form g c al w hw l lead in
      let e : new ≡ 0 = sym now_count ∙ z in
      let spent : eqb new 0 ≡ true = grind (arith, nat_tests) in
      due_settled k x hung (g.members l) sz below' chain few ∙ ap (λ y. cond y (g.members l) []) spent)
      (λ ne. due_none (settled k x hung) l (λ z. ne (now_count ∙ sym down ∙ z)))
      (λ inn. view_last k inside w hung x sz (few_workers form fit w hw) below' inn ∙ sym (give_all_rebatch _ w Idle None (due (settled k x hung) l)))

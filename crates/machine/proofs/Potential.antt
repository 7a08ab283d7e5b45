-- The potential of a reservation: how many blocks can still come to its list at its present era.
use Rattle.std.proofs.Common.{◌≡◌, ℕ, zero, suc, ◌+◌, ◌-◌, ◌*◌, ◌<◌, ◌≤◌, Bool, true, false, cond, leb, ◌≢◌, List, [], ◌∷◌, length, get_or, set, Some, None, Option, sym, refl, ap, ◌∙◌, subst, arith}
use native.Mathlib.Decide.{ℕ_discrete}
use Rattle.pools.specs.Counts.{bit}
use Rattle.figures.specs.declared.limits.Form.{Form}
use Rattle.machine.specs.declared.states.Batch.{Batch}
use Rattle.machine.specs.declared.states.Block.{Block}
use Rattle.machine.specs.declared.states.Task.{Task}
use Rattle.machine.specs.declared.states.Task.TheVariants.{Idle, TakeEra, TakeBlock, LookCell, LookEra, LookList, LookWalk, LookAgain, LookWrite, DropList, DropWalk, DropEra, TryVisit, TryHang, TryLast}
use Rattle.machine.specs.declared.states.Worker.{Worker}
use Rattle.machine.specs.declared.states.Core.{Core}
use Rattle.machine.specs.State.{blank_block, is_live, block, worker, with_block}
use Rattle.machine.specs.Living.{live_among}
use Rattle.machine.proofs.Bridge.{field_kept}
use Rattle.machine.proofs.Sums.{upd, Σ, tot, mark, is, is_self, upd_other}
use Rattle.machine.proofs.Chains.{Chain}

-- of each block: which one it hangs over, which is the next older of its batch, and the place that it was set aside for
pub record Shape : Type 0 where
  pub under : ℕ → Option ℕ
  pub elder : ℕ → Option ℕ
  pub slot : ℕ → ℕ

-- the shape of blocks, and of a keeper
abbrev pub shape_of : List Block → Shape
shape_of rows = record { under = λ b. (get_or rows b blank_block).under; elder = λ b. (get_or rows b blank_block).elder; slot = λ b. (get_or rows b blank_block).slot }

abbrev pub shape : Core → Shape
shape k = shape_of k.blocks.rows

pub same_shape : (a b : Shape) → a.under ≡ b.under → a.elder ≡ b.elder → a.slot ≡ b.slot → a ≡ b
same_shape a b p q r = λ i. record { under = p i; elder = q i; slot = r i }

-- a block with nothing else that the shape shows
pub shape_kept : (k : Core) (b : ℕ) (x : Block) → x.under ≡ (block k b).under → x.elder ≡ (block k b).elder → x.slot ≡ (block k b).slot → shape (with_block k b x) ≡ shape k
shape_kept k b x e_under e_elder e_slot =
    same_shape _ _
    (field_kept (λ (y : Block). y.under) blank_block k.blocks.rows b x e_under)
    (field_kept (λ (y : Block). y.elder) blank_block k.blocks.rows b x e_elder)
    (field_kept (λ (y : Block). y.slot) blank_block k.blocks.rows b x e_slot)

-- the first n that are met from o on by f
abbrev pub firsts : ℕ → (ℕ → Option ℕ) → Option ℕ → List ℕ
firsts zero f o = []
firsts (suc n) f None = []
firsts (suc n) f (Some b) = b ∷ firsts n f (f b)

-- what comes after them
abbrev pub onward : ℕ → (ℕ → Option ℕ) → Option ℕ → Option ℕ
onward zero f o = o
onward (suc n) f None = None
onward (suc n) f (Some b) = onward n f (f b)

no_some : {A : Type 0} (b : ℕ) → ◌≡◌ {A = Option ℕ} None (Some b) → A
no_some b e = absurd (let z : ◌≡◌ {A = ℕ} 0 1 = cc in omega arith)

same_some : (a b : ℕ) → ◌≡◌ {A = Option ℕ} (Some a) (Some b) → a ≡ b
same_some a b e = cc

-- one more of them
pub firsts_more : (n : ℕ) (f : ℕ → Option ℕ) (o : Option ℕ) (b : ℕ) → onward n f o ≡ Some b → (p : ℕ → ℕ) → tot p (firsts (suc n) f o) ≡ tot p (firsts n f o) + p b
firsts_more zero f None b e p = no_some b e
firsts_more zero f (Some a) b e p = let z = ap p (same_some a b e) in omega arith
firsts_more (suc n) f None b e p = no_some b e
firsts_more (suc n) f (Some a) b e p = let h = firsts_more n f (f a) b e p in omega arith

pub onward_more : (n : ℕ) (f : ℕ → Option ℕ) (o : Option ℕ) (b : ℕ) → onward n f o ≡ Some b → onward (suc n) f o ≡ f b
onward_more zero f None b e = no_some b e
onward_more zero f (Some a) b e = ap f (same_some a b e)
onward_more (suc n) f None b e = no_some b e
onward_more (suc n) f (Some a) b e = onward_more n f (f a) b e

-- a change at a block that is none of them is not seen
pub firsts_upd : (n : ℕ) (f : ℕ → Option ℕ) (b : ℕ) (v o : Option ℕ) → tot (is b) (firsts n f o) ≡ 0 → firsts n (upd f b v) o ≡ firsts n f o
firsts_upd zero f b v o z = refl
firsts_upd (suc n) f b v None z = refl
firsts_upd (suc n) f b v (Some a) z =
    let ne : a ≢ b = λ e. let i : is b a ≡ 1 = rw e (is_self b) in omega arith in
    ap (λ xs. a ∷ xs) (ap (firsts n (upd f b v)) (upd_other f b v a ne) ∙ firsts_upd n f b v (f a) (omega arith))

pub onward_upd : (n : ℕ) (f : ℕ → Option ℕ) (b : ℕ) (v o : Option ℕ) → tot (is b) (firsts n f o) ≡ 0 → onward n (upd f b v) o ≡ onward n f o
onward_upd zero f b v o z = refl
onward_upd (suc n) f b v None z = refl
onward_upd (suc n) f b v (Some a) z =
    let ne : a ≢ b = λ e. let i : is b a ≡ 1 = rw e (is_self b) in omega arith in
    ap (onward n (upd f b v)) (upd_other f b v a ne) ∙ onward_upd n f b v (f a) (omega arith)

-- they are of the chain
pub firsts_of : (n : ℕ) (f : ℕ → Option ℕ) (o : Option ℕ) (xs : List ℕ) → Chain f o xs → (p : ℕ → ℕ) → tot p (firsts n f o) ≤ tot p xs
firsts_of zero f o xs c p = omega arith
firsts_of (suc n) f None xs c p = omega arith
firsts_of (suc n) f (Some a) [] c p = no_some a (sym c)
firsts_of (suc n) f (Some a) (x ∷ xs) c p =
    let e = same_some a x c.0 in
    let h = firsts_of n f (f a) xs (subst (λ y. Chain f (f y) xs) (sym e) c.1) p in
    let z = ap p e in
    omega arith

pub firsts_then : (n : ℕ) (f : ℕ → Option ℕ) (o : Option ℕ) (xs : List ℕ) → Chain f o xs → (b : ℕ) → onward n f o ≡ Some b → (p : ℕ → ℕ) → tot p (firsts n f o) + p b ≤ tot p xs
firsts_then n f o xs c b e p = let a = firsts_more n f o b e p in let h = firsts_of (suc n) f o xs c p in omega arith

-- where a worker is with its batch: it does not try it, visits place p next with block b and so many set aside, hangs block b next with
-- so many left, or has only the last turn left
pub data Stage : Type 0 where
  resting : Stage
  visiting : ℕ → ℕ → ℕ → Stage
  hanging : ℕ → ℕ → Stage
  closing : Stage

abbrev pub stage : Task → Stage
stage Idle = resting
stage TakeEra = resting
stage TakeBlock = resting
stage (LookCell h c) = resting
stage (LookEra h c seen) = resting
stage (LookList h c e) = resting
stage (LookWalk h c b) = resting
stage (LookAgain h c) = resting
stage (LookWrite h c e) = resting
stage (DropList h) = resting
stage (DropWalk h b) = resting
stage (DropEra h) = resting
stage (TryVisit r b aside) = visiting r b aside
stage (TryHang b left hung) = hanging b left
stage (TryLast hung) = closing

-- whether a taking has done its first turn
abbrev pub halfway : Task → Bool
halfway Idle = false
halfway TakeEra = false
halfway TakeBlock = true
halfway (LookCell h c) = false
halfway (LookEra h c seen) = false
halfway (LookList h c e) = false
halfway (LookWalk h c b) = false
halfway (LookAgain h c) = false
halfway (LookWrite h c e) = false
halfway (DropList h) = false
halfway (DropWalk h b) = false
halfway (DropEra h) = false
halfway (TryVisit r b aside) = false
halfway (TryHang b left hung) = false
halfway (TryLast hung) = false

-- the hold whose list a look or a drop has emptied, and whose era it has still to write
abbrev pub emptied_hold : Task → Option ℕ
emptied_hold Idle = None
emptied_hold TakeEra = None
emptied_hold TakeBlock = None
emptied_hold (LookCell h c) = None
emptied_hold (LookEra h c seen) = None
emptied_hold (LookList h c e) = None
emptied_hold (LookWalk h c b) = Some h
emptied_hold (LookAgain h c) = Some h
emptied_hold (LookWrite h c e) = Some h
emptied_hold (DropList h) = None
emptied_hold (DropWalk h b) = Some h
emptied_hold (DropEra h) = Some h
emptied_hold (TryVisit r b aside) = None
emptied_hold (TryHang b left hung) = None
emptied_hold (TryLast hung) = None

-- the blocks that are set aside and not yet hung
abbrev pub aside_of : (ℕ → Option ℕ) → Option Batch → Stage → List ℕ
aside_of elder None s = []
aside_of elder (Some x) resting = []
aside_of elder (Some x) (visiting p b n) = firsts n elder (Some x.newest)
aside_of elder (Some x) (hanging b n) = firsts n elder (Some b)
aside_of elder (Some x) closing = []

-- how many of these are set aside for place r
abbrev pub aimed : (ℕ → ℕ) → ℕ → List ℕ → ℕ
aimed slot r xs = tot (λ y. is r (slot y)) xs

-- how many blocks of its batch a worker may still hang at a reservation of era e, of n that are set aside for it
abbrev pub asks : ℕ → ℕ → Option Batch → Stage → ℕ
asks e n None s = 0
asks e n (Some x) resting = mark (leb x.least e)
asks e n (Some x) (visiting p b m) = cond (leb x.least e) 1 n
asks e n (Some x) (hanging b m) = n
asks e n (Some x) closing = 0

-- how many takings may still begin before the era rises, at a taking count
abbrev pub coming : ℕ → ℕ → ℕ
coming period zero = 0
coming period (suc n) = period - suc n

-- what a worker adds to the potential of a reservation of era e at place r
abbrev pub weigh : ℕ → ℕ → Shape → ℕ → ℕ → Worker → ℕ
weigh period now s e r x =
    asks e (aimed s.slot r (aside_of s.elder x.batch (stage x.task))) x.batch (stage x.task)
    + cond (leb now e) (mark (halfway x.task) + coming period x.takings) 0

-- at most one block is set aside for each place, and for none that is still to be visited
abbrev pub SlotsRight : Shape → Option Batch → Stage → Type 0
SlotsRight s None t = Unit {0}
SlotsRight s (Some x) resting = Unit {0}
SlotsRight s (Some x) (visiting p b n) = ((r : ℕ) → mark (leb p r) + aimed s.slot r (firsts n s.elder (Some x.newest)) ≤ 1) × (onward n s.elder (Some x.newest) ≡ Some b)
SlotsRight s (Some x) (hanging b n) = (r : ℕ) → aimed s.slot r (firsts n s.elder (Some b)) ≤ 1
SlotsRight s (Some x) closing = Unit {0}

-- 1 for a block that is live and was born at era e or before
abbrev pub born : ℕ → Block → ℕ
born e x = cond (is_live x.standing) (mark (leb x.birth e)) 0

-- the sum of a weight over blocks
abbrev pub amount : (Block → ℕ) → List Block → ℕ
amount f [] = 0
amount f (x ∷ xs) = f x + amount f xs

-- the potential of a reservation of era e at place r
abbrev pub pot : Form → Core → ℕ → ℕ → ℕ
pot form k e r = amount (born e) k.blocks.rows + Σ (λ v. weigh form.taking_period k.era (shape k) e r (worker k v)) form.workers

-- a block for another in the sum
pub amount_less : (f : Block → ℕ) (rows : List Block) (b : ℕ) (x : Block) → f x ≤ f (get_or rows b blank_block) → amount f (set rows b x) ≤ amount f rows
amount_less f [] b x h = omega arith
amount_less f (y ∷ ys) zero x h = omega arith
amount_less f (y ∷ ys) (suc b) x h = let a = amount_less f ys b x h in omega arith

pub amount_set : (f : Block → ℕ) (rows : List Block) (b : ℕ) (x : Block) → b < length rows → amount f (set rows b x) + f (get_or rows b blank_block) ≡ amount f rows + f x
amount_set f [] b x h = absurd (omega arith)
amount_set f (y ∷ ys) zero x h = omega arith
amount_set f (y ∷ ys) (suc b) x h = let a = amount_set f ys b x (omega arith) in omega arith

-- at most the live ones
born_one : (e : ℕ) (x : Block) → born e x ≤ bit (is_live x.standing)
born_one e x = by_way (is_live x.standing) (leb x.birth e)
  where
    by_way : (l q : Bool) → cond l (mark q) 0 ≤ bit l
    by_way true true = omega arith
    by_way true false = omega arith
    by_way false q = omega arith

pub born_living : (e : ℕ) (rows : List Block) → amount (born e) rows ≤ live_among rows
born_living e [] = omega arith
born_living e (x ∷ xs) = let a = born_living e xs in let b = born_one e x in omega arith

-- a worker adds at most one more than the taking period
mark_one : (b : Bool) → mark b ≤ 1
mark_one true = omega arith
mark_one false = omega arith

asks_one : (s : Shape) (e r : ℕ) (b : Option Batch) (t : Stage) → SlotsRight s b t → asks e (aimed s.slot r (aside_of s.elder b t)) b t ≤ 1
asks_one s e r None t o = omega arith
asks_one s e r (Some x) resting o = mark_one (leb x.least e)
asks_one s e r (Some x) (visiting p b n) o = let a = o.0 r in by_way (leb x.least e) (omega arith)
  where
    by_way : (q : Bool) → aimed s.slot r (firsts n s.elder (Some x.newest)) ≤ 1 → cond q 1 (aimed s.slot r (firsts n s.elder (Some x.newest))) ≤ 1
    by_way true h = omega arith
    by_way false h = h
asks_one s e r (Some x) (hanging b n) o = o r
asks_one s e r (Some x) closing o = omega arith

coming_below : (period n : ℕ) → n < period → 1 + coming period n ≤ period
coming_below period zero h = omega arith
coming_below period (suc n) h = omega arith

pub weigh_most : (period now : ℕ) (s : Shape) (e r : ℕ) (x : Worker) → x.takings < period → SlotsRight s x.batch (stage x.task) → weigh period now s e r x ≤ period + 1
weigh_most period now s e r x h o =
    let a = asks_one s e r x.batch (stage x.task) o in
    let b = mark_one (halfway x.task) in
    let c = coming_below period x.takings h in
    by_way (leb now e) (omega arith)
  where
    by_way : (q : Bool) → asks e (aimed s.slot r (aside_of s.elder x.batch (stage x.task))) x.batch (stage x.task) + (mark (halfway x.task) + coming period x.takings) ≤ period + 1
        → asks e (aimed s.slot r (aside_of s.elder x.batch (stage x.task))) x.batch (stage x.task) + cond q (mark (halfway x.task) + coming period x.takings) 0 ≤ period + 1
    by_way true g = g
    by_way false g = omega arith

-- each of n terms at most m
pub Σ_most : (f : ℕ → ℕ) (m n : ℕ) → ((i : ℕ) → i < n → f i ≤ m) → Σ f n ≤ n * m
Σ_most f m zero h = omega arith
Σ_most f m (suc n) h = let a = h n (omega arith) in let b = Σ_most f m n (λ i l. h i (omega arith)) in omega arith

-- g is at most f but at i
pub Σ_change_most : (f g : ℕ → ℕ) (i n : ℕ) → i < n → ((j : ℕ) → j < n → j ≢ i → g j ≤ f j) → Σ g n + f i ≤ Σ f n + g i
Σ_change_most f g i zero h k = absurd (omega arith)
Σ_change_most f g i (suc n) h k =
    elim (ℕ_discrete i n) [
      | yes e ↦ (let c = below n (omega arith) (λ j l. k j (omega arith) (λ z. omega arith)) in rw e (omega arith))
      | no ne ↦ (let b = Σ_change_most f g i n (omega arith) (λ j l. k j (omega arith)) in let c = k n (omega arith) (λ z. ne (sym z)) in omega arith)
    ]
  where
    below : (m : ℕ) → m ≤ n → ((j : ℕ) → j < m → g j ≤ f j) → Σ g m ≤ Σ f m
    below zero l q = omega arith
    below (suc m) l q = let a = q m (omega arith) in let b = below m (omega arith) (λ j r. q j (omega arith)) in omega arith

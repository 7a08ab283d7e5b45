-- The mirror of a keeper after each of the machine's changes: its arrays keep their lengths, and a store into one of them is one place
-- changed in the mirror, or none.
use Rattle.std.proofs.Common.{◌≡◌, ℕ, zero, suc, ◌+◌, ◌-◌, ◌<◌, ◌≤◌, Bool, true, false, cond, eqb, ltb, List, [], ◌∷◌, length, get_or, set, Some, None, Ok, Option, sym, refl, ap, ◌∙◌, subst, arith, length-set}
use mathlib.Core.Path.{fun_ext}
use native.Mathlib.Decide.{ℕ_discrete}
use lib.ListN.{length-replicate}
use Rattle.std.proofs.lemmas.List.{get_or-set_same, get_or-set_other}
use Rattle.figures.specs.declared.limits.Form.{Form}
use Rattle.pools.specs.Meaning.{gained}
use Rattle.machine.specs.declared.states.Batch.{Batch}
use Rattle.machine.specs.declared.states.Block.{Block}
use Rattle.machine.specs.declared.states.HungList.{HungList}
use Rattle.machine.specs.declared.states.HungList.TheVariants.{Newest}
use Rattle.machine.specs.declared.states.Reservation.{Reservation}
use Rattle.machine.specs.declared.states.Task.{Task}
use Rattle.machine.specs.declared.states.Task.TheVariants.{Idle, TakeBlock}
use Rattle.machine.specs.declared.states.Worker.{Worker}
use Rattle.machine.specs.declared.states.Core.{Core}
use Rattle.machine.specs.State.{fresh, fresh_block, fresh_worker, fresh_reservation, blank_block, blank_worker, block, worker, reservation, place_of, with_era, with_live, with_anchor, with_block, with_reservation, with_worker, with_task}
use Rattle.machine.specs.Cells.{held, home_block, with_cell, named_more, named_less}
use Rattle.machine.specs.Hands.{owns}
use Rattle.machine.specs.Moves.{gained_all}
use Rattle.machine.specs.Taking.{taken_block, counted_up, took}
use Rattle.machine.specs.Walking.{members, pooled, all_pooled, with_count, due, count_down, handled}
use Rattle.machine.specs.Looking.{with_shown, with_list, with_own_era}
use Rattle.machine.specs.Trying.{with_slot, with_under, hung_at, emptied, settled, try_last}
use Rattle.machine.specs.Calls.{newest_of, first_count, retired_block, unlinked, with_batch, retired, disowned, relinked}
use Rattle.machine.proofs.Passing.{by_test}
use Rattle.machine.proofs.Sums.{upd, Each, upd_same, upd_other}
use Rattle.machine.proofs.Chains.{Chain}
use Rattle.machine.proofs.Mirror.{view, same, retask, rebatch, relist, recount, reunder, enliven, give, give_all, join}

-- the arrays have their lengths
pub record Sized (k : Core) : Type 0 where
  pub rows : length k.blocks.rows ≡ 2048
  pub workers : length k.workers ≡ 8
  pub reservations : length k.reservations ≡ 32
  pub anchors : length k.anchors ≡ 16

pub sized_fresh : (form : Form) → Sized (fresh form)
sized_fresh form = record { rows = length-replicate 2048 fresh_block; workers = length-replicate 8 fresh_worker; reservations = length-replicate 32 fresh_reservation; anchors = length-replicate {A = Option ℕ} 16 None }

pub sized_era : (k : Core) (e : ℕ) → Sized k → Sized (with_era k e)
sized_era k e s = record { rows = s.rows; workers = s.workers; reservations = s.reservations; anchors = s.anchors }

pub sized_live : (k : Core) (n : ℕ) → Sized k → Sized (with_live k n)
sized_live k n s = record { rows = s.rows; workers = s.workers; reservations = s.reservations; anchors = s.anchors }

pub sized_anchor : (k : Core) (a : ℕ) (x : Option ℕ) → Sized k → Sized (with_anchor k a x)
sized_anchor k a x s = record { rows = s.rows; workers = s.workers; reservations = s.reservations; anchors = length-set k.anchors a x ∙ s.anchors }

pub sized_block : (k : Core) (b : ℕ) (x : Block) → Sized k → Sized (with_block k b x)
sized_block k b x s = record { rows = length-set k.blocks.rows b x ∙ s.rows; workers = s.workers; reservations = s.reservations; anchors = s.anchors }

pub sized_reservation : (k : Core) (r : ℕ) (x : Reservation) → Sized k → Sized (with_reservation k r x)
sized_reservation k r x s = record { rows = s.rows; workers = s.workers; reservations = length-set k.reservations r x ∙ s.reservations; anchors = s.anchors }

pub sized_worker : (k : Core) (w : ℕ) (x : Worker) → Sized k → Sized (with_worker k w x)
sized_worker k w x s = record { rows = s.rows; workers = length-set k.workers w x ∙ s.workers; reservations = s.reservations; anchors = s.anchors }

pub sized_task : (k : Core) (w : ℕ) (t : Task) → Sized k → Sized (with_task k w t)
sized_task k w t s = sized_worker k w _ s

pub sized_all_pooled : (bs : List ℕ) (k : Core) → Sized k → Sized (all_pooled k bs)
sized_all_pooled [] k s = s
sized_all_pooled (b ∷ bs) k s = sized_all_pooled bs _ (sized_block k b (pooled (block k b)) s)

pub sized_named_more : (k : Core) (x : Option ℕ) → Sized k → Sized (named_more k x)
sized_named_more k None s = s
sized_named_more k (Some b) s = sized_block k b _ s

pub sized_named_less : (k : Core) (x : Option ℕ) → Sized k → Sized (named_less k x)
sized_named_less k None s = s
sized_named_less k (Some b) s = sized_block k b _ s

pub sized_unlinked : (k : Core) (b : ℕ) → Sized k → Sized (unlinked k b)
sized_unlinked k b s = sized_named_less _ (get_or (block k b).links 1 None) (sized_named_less k (get_or (block k b).links 0 None) s)

pub sized_disowned : (k : Core) (w : ℕ) (x : Option ℕ) → Sized k → Sized (disowned k w x)
sized_disowned k w None s = s
sized_disowned k w (Some b) s = by_test Sized (owns k w b) _ _ (λ _. sized_block k b _ s) (λ _. s)

pub sized_cell : (k : Core) (c : ℕ) (x : Option ℕ) → Sized k → Sized (with_cell k c x)
sized_cell k c x s = by_test Sized (ltb c 16) _ _ (λ _. sized_anchor k c x s) (λ _. sized_block k (home_block c) _ s)

-- an array read through f, after a store
pub field_set : {A B : Type 0} (f : A → B) (d : A) (xs : List A) (i : ℕ) (v : A) → i < length xs
    → ◌≡◌ {A = ℕ → B} (λ j. f (get_or (set xs i v) j d)) (upd (λ j. f (get_or xs j d)) i (f v))
field_set f d xs i v h = fun_ext (λ j. elim (ℕ_discrete j i) [
  | yes e ↦ rw e (ap f (get_or-set_same xs i v d h) ∙ sym (upd_same (λ j. f (get_or xs j d)) i (f v)))
  | no ne ↦ ap f (get_or-set_other xs i j v d ne) ∙ sym (upd_other (λ j. f (get_or xs j d)) i (f v) j ne)
])

kept_at : {A B : Type 0} (f : A → B) (d : A) (xs : List A) (i : ℕ) (v : A) → f v ≡ f (get_or xs i d) → (j : ℕ) → f (get_or (set xs i v) j d) ≡ f (get_or xs j d)
kept_at f d [] i v e j = refl
kept_at f d (x ∷ xs) zero v e zero = e
kept_at f d (x ∷ xs) zero v e (suc j) = refl
kept_at f d (x ∷ xs) (suc i) v e zero = refl
kept_at f d (x ∷ xs) (suc i) v e (suc j) = kept_at f d xs i v e j

-- after a store that f does not tell from what stood there, or past the end
pub field_kept : {A B : Type 0} (f : A → B) (d : A) (xs : List A) (i : ℕ) (v : A) → f v ≡ f (get_or xs i d)
    → ◌≡◌ {A = ℕ → B} (λ j. f (get_or (set xs i v) j d)) (λ j. f (get_or xs j d))
field_kept f d xs i v e = fun_ext (kept_at f d xs i v e)

-- below a length that is known
within : (i n m : ℕ) → m ≡ n → i < n → i < m
within i n m e l = omega arith

-- what the mirror does not show
pub view_era : (k : Core) (inside : List Bool) (e : ℕ) → view (with_era k e) inside ≡ view k inside
view_era k inside e = refl

pub view_live : (k : Core) (inside : List Bool) (n : ℕ) → view (with_live k n) inside ≡ view k inside
view_live k inside n = refl

pub view_anchor : (k : Core) (inside : List Bool) (a : ℕ) (x : Option ℕ) → view (with_anchor k a x) inside ≡ view k inside
view_anchor k inside a x = refl

-- workers
pub view_worker : (k : Core) (inside : List Bool) (w : ℕ) (x : Worker) → Sized k → w < 8 → view (with_worker k w x) inside ≡ rebatch (view k inside) w x.task x.batch
view_worker k inside w x s l =
    let h = within w 8 (length k.workers) s.workers l in
    same _ _ refl refl refl refl refl refl refl refl
    (field_set (λ (y : Worker). y.task) blank_worker k.workers w x h)
    (field_set (λ (y : Worker). y.batch) blank_worker k.workers w x h)

pub view_worker_task : (k : Core) (inside : List Bool) (w : ℕ) (x : Worker) → Sized k → w < 8 → x.batch ≡ (worker k w).batch → view (with_worker k w x) inside ≡ retask (view k inside) w x.task
view_worker_task k inside w x s l e =
    let h = within w 8 (length k.workers) s.workers l in
    same _ _ refl refl refl refl refl refl refl refl
    (field_set (λ (y : Worker). y.task) blank_worker k.workers w x h)
    (field_kept (λ (y : Worker). y.batch) blank_worker k.workers w x e)

pub view_task : (k : Core) (inside : List Bool) (w : ℕ) (t : Task) → Sized k → w < 8 → view (with_task k w t) inside ≡ retask (view k inside) w t
view_task k inside w t s l = view_worker_task k inside w _ s l refl

-- reservations
pub view_reservation : (k : Core) (inside : List Bool) (r : ℕ) (x : Reservation) → Sized k → r < 32 → view (with_reservation k r x) inside ≡ relist (view k inside) r x.list
view_reservation k inside r x s l =
    let h = within r 32 (length k.reservations) s.reservations l in
    same _ _ refl refl refl refl refl refl refl
    (field_set (λ (y : Reservation). y.list) fresh_reservation k.reservations r x h)
    refl refl

pub view_reservation_kept : (k : Core) (inside : List Bool) (r : ℕ) (x : Reservation) → x.list ≡ (reservation k r).list → view (with_reservation k r x) inside ≡ view k inside
view_reservation_kept k inside r x e =
    same _ _ refl refl refl refl refl refl refl
    (field_kept (λ (y : Reservation). y.list) fresh_reservation k.reservations r x e)
    refl refl

-- a block with nothing else that the mirror shows
pub view_block_kept : (k : Core) (inside : List Bool) (b : ℕ) (x : Block)
    → x.standing ≡ (block k b).standing → x.lead ≡ (block k b).lead → x.under ≡ (block k b).under → x.elder ≡ (block k b).elder → x.count ≡ (block k b).count → x.newest ≡ (block k b).newest
    → view (with_block k b x) inside ≡ view k inside
view_block_kept k inside b x e_standing e_lead e_under e_elder e_count e_newest =
    same _ _ refl
    (field_kept (λ (y : Block). y.standing) blank_block k.blocks.rows b x e_standing)
    (field_kept (λ (y : Block). y.lead) blank_block k.blocks.rows b x e_lead)
    (field_kept (λ (y : Block). y.under) blank_block k.blocks.rows b x e_under)
    (field_kept (λ (y : Block). y.elder) blank_block k.blocks.rows b x e_elder)
    (field_kept (λ (y : Block). y.count) blank_block k.blocks.rows b x e_count)
    (field_kept (λ (y : Block). y.newest) blank_block k.blocks.rows b x e_newest)
    refl refl refl

pub view_slot : (k : Core) (inside : List Bool) (b r : ℕ) → view (with_block k b (with_slot (block k b) r)) inside ≡ view k inside
view_slot k inside b r = view_block_kept k inside b _ refl refl refl refl refl refl

pub view_named_more : (k : Core) (inside : List Bool) (x : Option ℕ) → view (named_more k x) inside ≡ view k inside
view_named_more k inside None = refl
view_named_more k inside (Some b) = view_block_kept k inside b _ refl refl refl refl refl refl

pub view_named_less : (k : Core) (inside : List Bool) (x : Option ℕ) → view (named_less k x) inside ≡ view k inside
view_named_less k inside None = refl
view_named_less k inside (Some b) = view_block_kept k inside b _ refl refl refl refl refl refl

pub view_unlinked : (k : Core) (inside : List Bool) (b : ℕ) → view (unlinked k b) inside ≡ view k inside
view_unlinked k inside b = view_named_less _ inside (get_or (block k b).links 1 None) ∙ view_named_less k inside (get_or (block k b).links 0 None)

pub view_disowned : (k : Core) (inside : List Bool) (w : ℕ) (x : Option ℕ) → view (disowned k w x) inside ≡ view k inside
view_disowned k inside w None = refl
view_disowned k inside w (Some b) = by_test (λ y. view y inside ≡ view k inside) (owns k w b) _ _ (λ _. view_block_kept k inside b _ refl refl refl refl refl refl) (λ _. refl)

pub view_cell : (k : Core) (inside : List Bool) (c : ℕ) (x : Option ℕ) → view (with_cell k c x) inside ≡ view k inside
view_cell k inside c x = by_test (λ y. view y inside ≡ view k inside) (ltb c 16) _ _ (λ _. refl) (λ _. view_block_kept k inside (home_block c) _ refl refl refl refl refl refl)

-- a block with another count and newest block, or over another block
pub view_count : (k : Core) (inside : List Bool) (b c n : ℕ) → Sized k → b < 2048 → view (with_block k b (with_count (block k b) c n)) inside ≡ recount (view k inside) b c n
view_count k inside b c n s l =
    let h = within b 2048 (length k.blocks.rows) s.rows l in
    let x : Block = with_count (block k b) c n in
    same _ _ refl
    (field_kept (λ (y : Block). y.standing) blank_block k.blocks.rows b x refl)
    (field_kept (λ (y : Block). y.lead) blank_block k.blocks.rows b x refl)
    (field_kept (λ (y : Block). y.under) blank_block k.blocks.rows b x refl)
    (field_kept (λ (y : Block). y.elder) blank_block k.blocks.rows b x refl)
    (field_set (λ (y : Block). y.count) blank_block k.blocks.rows b x h)
    (field_set (λ (y : Block). y.newest) blank_block k.blocks.rows b x h)
    refl refl refl

pub view_under : (k : Core) (inside : List Bool) (b : ℕ) (o : Option ℕ) → Sized k → b < 2048 → view (with_block k b (with_under (block k b) o)) inside ≡ reunder (view k inside) b o
view_under k inside b o s l =
    let h = within b 2048 (length k.blocks.rows) s.rows l in
    let x : Block = with_under (block k b) o in
    same _ _ refl
    (field_kept (λ (y : Block). y.standing) blank_block k.blocks.rows b x refl)
    (field_kept (λ (y : Block). y.lead) blank_block k.blocks.rows b x refl)
    (field_set (λ (y : Block). y.under) blank_block k.blocks.rows b x h)
    (field_kept (λ (y : Block). y.elder) blank_block k.blocks.rows b x refl)
    (field_kept (λ (y : Block). y.count) blank_block k.blocks.rows b x refl)
    (field_kept (λ (y : Block). y.newest) blank_block k.blocks.rows b x refl)
    refl refl refl

-- a block out of the pool
pub view_taken : (k : Core) (inside : List Bool) (b e w : ℕ) → Sized k → b < 2048 → b < length inside → view (with_block k b (taken_block (block k b) e w)) (set inside b false) ≡ enliven (view k inside) b
view_taken k inside b e w s l low =
    let h = within b 2048 (length k.blocks.rows) s.rows l in
    let x : Block = taken_block (block k b) e w in
    same _ _
    (field_set (λ y. y) false inside b false low)
    (field_set (λ (y : Block). y.standing) blank_block k.blocks.rows b x h)
    (field_kept (λ (y : Block). y.lead) blank_block k.blocks.rows b x refl)
    (field_kept (λ (y : Block). y.under) blank_block k.blocks.rows b x refl)
    (field_kept (λ (y : Block). y.elder) blank_block k.blocks.rows b x refl)
    (field_kept (λ (y : Block). y.count) blank_block k.blocks.rows b x refl)
    (field_kept (λ (y : Block). y.newest) blank_block k.blocks.rows b x refl)
    refl refl refl

-- a block into the pool
pub view_pooled : (k : Core) (inside : List Bool) (b : ℕ) → Sized k → b < 2048 → b < length inside → view (with_block k b (pooled (block k b))) (set inside b true) ≡ give (view k inside) b
view_pooled k inside b s l low =
    let h = within b 2048 (length k.blocks.rows) s.rows l in
    let x : Block = pooled (block k b) in
    same _ _
    (field_set (λ y. y) false inside b true low)
    (field_set (λ (y : Block). y.standing) blank_block k.blocks.rows b x h)
    (field_kept (λ (y : Block). y.lead) blank_block k.blocks.rows b x refl)
    (field_kept (λ (y : Block). y.under) blank_block k.blocks.rows b x refl)
    (field_kept (λ (y : Block). y.elder) blank_block k.blocks.rows b x refl)
    (field_kept (λ (y : Block). y.count) blank_block k.blocks.rows b x refl)
    (field_kept (λ (y : Block). y.newest) blank_block k.blocks.rows b x refl)
    refl refl refl

-- a giving back keeps the size of the pool
pub gained_all_long : (bs : List ℕ) (inside : List Bool) → length (gained_all inside bs) ≡ length inside
gained_all_long [] inside = refl
gained_all_long (b ∷ bs) inside = gained_all_long bs (gained inside b) ∙ length-set inside b true

-- blocks into the pool, one after another
pooled_each : (bs : List ℕ) (k : Core) (inside : List Bool) (n : ℕ) → Sized k → length inside ≡ n → Each (λ b. (b < 2048) × (b < n)) bs → view (all_pooled k bs) (gained_all inside bs) ≡ give_all (view k inside) bs
pooled_each [] k inside n s e p = refl
pooled_each (b ∷ bs) k inside n s e p =
    pooled_each bs _ (gained inside b) n (sized_block k b (pooled (block k b)) s) (length-set inside b true ∙ e) p.1
    ∙ ap (λ m. give_all m bs) (view_pooled k inside b s p.0.0 (within b n (length inside) e p.0.1))

pub view_all_pooled : (bs : List ℕ) (k : Core) (inside : List Bool) → Sized k → Each (λ b. (b < 2048) × (b < length inside)) bs → view (all_pooled k bs) (gained_all inside bs) ≡ give_all (view k inside) bs
view_all_pooled bs k inside s p = pooled_each bs k inside (length inside) s refl p

-- a block into a batch
pub view_retired_block : (k : Core) (inside : List Bool) (b : ℕ) (batch : Option Batch) (lead : ℕ) → Sized k → b < 2048
    → view (with_block k b (retired_block (block k b) batch lead)) inside ≡ join (view k inside) b lead (newest_of batch) (first_count batch (block k b).count)
view_retired_block k inside b batch lead s l =
    let h = within b 2048 (length k.blocks.rows) s.rows l in
    let x : Block = retired_block (block k b) batch lead in
    same _ _ refl
    (field_set (λ (y : Block). y.standing) blank_block k.blocks.rows b x h)
    (field_set (λ (y : Block). y.lead) blank_block k.blocks.rows b x h)
    (field_kept (λ (y : Block). y.under) blank_block k.blocks.rows b x refl)
    (field_set (λ (y : Block). y.elder) blank_block k.blocks.rows b x h)
    (field_set (λ (y : Block). y.count) blank_block k.blocks.rows b x h)
    (field_kept (λ (y : Block). y.newest) blank_block k.blocks.rows b x refl)
    refl refl refl

-- hanging a block
pub sized_hung_at : (k : Core) (r b : ℕ) (o : Option ℕ) → Sized k → Sized (hung_at k r b o)
sized_hung_at k r b o s = sized_reservation _ r _ (sized_block k b _ s)

pub view_hung_at : (k : Core) (inside : List Bool) (r b : ℕ) (o : Option ℕ) → Sized k → r < 32 → b < 2048 → view (hung_at k r b o) inside ≡ relist (reunder (view k inside) b o) r (Newest b)
view_hung_at k inside r b o s lr lb =
    view_reservation (with_block k b (with_under (block k b) o)) inside r _ (sized_block k b _ s) lr
    ∙ ap (λ m. relist m r (Newest b)) (view_under k inside b o s lb)

-- a worker's own reservation
pub sized_list : (k : Core) (w h : ℕ) (l : HungList) → Sized k → Sized (with_list k w h l)
sized_list k w h l s = sized_reservation k (place_of k w h) _ s

pub view_list : (k : Core) (inside : List Bool) (w h : ℕ) (l : HungList) → Sized k → place_of k w h < 32 → view (with_list k w h l) inside ≡ relist (view k inside) (place_of k w h) l
view_list k inside w h l s lt = view_reservation k inside (place_of k w h) _ s lt

pub sized_own_era : (k : Core) (w h e : ℕ) → Sized k → Sized (with_own_era k w h e)
sized_own_era k w h e s = sized_reservation k (place_of k w h) _ s

pub view_own_era : (k : Core) (inside : List Bool) (w h e : ℕ) → view (with_own_era k w h e) inside ≡ view k inside
view_own_era k inside w h e = view_reservation_kept k inside (place_of k w h) _ refl

-- counts
pub sized_count_down : (k : Core) (l : ℕ) → Sized k → Sized (count_down k l)
sized_count_down k l s = sized_block k l _ s

pub view_count_down : (k : Core) (inside : List Bool) (l : ℕ) → Sized k → l < 2048 → view (count_down k l) inside ≡ recount (view k inside) l ((block k l).count - 1) (block k l).newest
view_count_down k inside l s lt = view_count k inside l _ _ s lt

pub sized_settled : (k : Core) (batch : Batch) (hung : ℕ) → Sized k → Sized (settled k batch hung)
sized_settled k batch hung s = sized_block k batch.lead _ s

pub view_settled : (k : Core) (inside : List Bool) (batch : Batch) (hung : ℕ) → Sized k → batch.lead < 2048
    → view (settled k batch hung) inside ≡ recount (view k inside) batch.lead ((block k batch.lead).count + hung - 1024) batch.newest
view_settled k inside batch hung s lt = view_count k inside batch.lead _ _ s lt

-- a worker's batch, and what its holds show
pub sized_emptied : (k : Core) (w : ℕ) → Sized k → Sized (emptied k w)
sized_emptied k w s = sized_worker k w _ s

pub view_emptied : (k : Core) (inside : List Bool) (w : ℕ) → Sized k → w < 8 → view (emptied k w) inside ≡ rebatch (view k inside) w Idle None
view_emptied k inside w s l = view_worker k inside w _ s l

pub sized_batch : (k : Core) (w : ℕ) (batch : Batch) (t : Task) → Sized k → Sized (with_batch k w batch t)
sized_batch k w batch t s = sized_worker k w _ s

pub view_batch : (k : Core) (inside : List Bool) (w : ℕ) (batch : Batch) (t : Task) → Sized k → w < 8 → view (with_batch k w batch t) inside ≡ rebatch (view k inside) w t (Some batch)
view_batch k inside w batch t s l = view_worker k inside w _ s l

pub sized_shown : (k : Core) (w h : ℕ) (x : Option ℕ) (t : Task) → Sized k → Sized (with_shown k w h x t)
sized_shown k w h x t s = sized_worker k w _ s

pub view_shown : (k : Core) (inside : List Bool) (w h : ℕ) (x : Option ℕ) (t : Task) → Sized k → w < 8 → view (with_shown k w h x t) inside ≡ retask (view k inside) w t
view_shown k inside w h x t s l = view_worker_task k inside w _ s l refl

-- the first turn of a taking
pub sized_counted_up : (k : Core) (w : ℕ) → Sized k → Sized (counted_up k w)
sized_counted_up k w s = sized_worker k w _ s

pub view_counted_up : (k : Core) (inside : List Bool) (w : ℕ) → Sized k → w < 8 → view (counted_up k w) inside ≡ retask (view k inside) w TakeBlock
view_counted_up k inside w s l = view_worker_task k inside w _ s l refl

-- retiring
pub unlinked_count : (k : Core) (b i : ℕ) → (block (unlinked k b) i).count ≡ (block k i).count
unlinked_count k b i = ap (λ m. m.count i) (view_unlinked k [] b)

pub unlinked_standing : (k : Core) (b i : ℕ) → (block (unlinked k b) i).standing ≡ (block k i).standing
unlinked_standing k b i = ap (λ m. m.standing i) (view_unlinked k [] b)

pub unlinked_lead : (k : Core) (b i : ℕ) → (block (unlinked k b) i).lead ≡ (block k i).lead
unlinked_lead k b i = ap (λ m. m.lead i) (view_unlinked k [] b)

pub unlinked_under : (k : Core) (b i : ℕ) → (block (unlinked k b) i).under ≡ (block k i).under
unlinked_under k b i = ap (λ m. m.under i) (view_unlinked k [] b)

pub unlinked_elder : (k : Core) (b i : ℕ) → (block (unlinked k b) i).elder ≡ (block k i).elder
unlinked_elder k b i = ap (λ m. m.elder i) (view_unlinked k [] b)

pub unlinked_newest : (k : Core) (b i : ℕ) → (block (unlinked k b) i).newest ≡ (block k i).newest
unlinked_newest k b i = ap (λ m. m.newest i) (view_unlinked k [] b)

pub sized_retired : (k : Core) (w b : ℕ) (batch : Batch) → Sized k → Sized (retired k w b batch)
sized_retired k w b batch s = sized_live _ _ (sized_block (unlinked k b) b _ (sized_unlinked k b s))

pub view_retired : (k : Core) (inside : List Bool) (w b : ℕ) (batch : Batch) → Sized k → b < 2048
    → view (retired k w b batch) inside ≡ join (view k inside) b batch.lead (newest_of (worker k w).batch) (first_count (worker k w).batch (block k b).count)
view_retired k inside w b batch s l =
    view_retired_block (unlinked k b) inside b (worker k w).batch batch.lead (sized_unlinked k b s) l
    ∙ ap (λ m. join m b batch.lead (newest_of (worker k w).batch) (first_count (worker k w).batch (m.count b))) (view_unlinked k inside b)

-- relinking
pub sized_relinked : (k : Core) (w c : ℕ) (new : Option ℕ) → Sized k → Sized (relinked k w c new)
sized_relinked k w c new s = sized_cell _ c new (sized_disowned _ w new (sized_named_more _ new (sized_named_less k (held k c) s)))

pub view_relinked : (k : Core) (inside : List Bool) (w c : ℕ) (new : Option ℕ) → view (relinked k w c new) inside ≡ view k inside
view_relinked k inside w c new =
    view_cell (disowned (named_more (named_less k (held k c)) new) w new) inside c new
    ∙ view_disowned (named_more (named_less k (held k c)) new) inside w new
    ∙ view_named_more (named_less k (held k c)) inside new
    ∙ view_named_less k inside (held k c)

-- what is walked from a block on by a chain
pub members_of : (n : ℕ) (k : Core) (o : Option ℕ) (xs : List ℕ) → Chain (λ b. (block k b).elder) o xs → length xs ≤ n → members n k o ≡ xs
members_of zero k o [] c l = refl
members_of zero k o (x ∷ xs) c l = absurd (omega arith)
members_of (suc n) k None [] c l = refl
members_of (suc n) k None (x ∷ xs) c l = let e = c.0 in cc
members_of (suc n) k (Some b) [] c l = cc
members_of (suc n) k (Some b) (x ∷ xs) c l =
    let e : b ≡ x = let h = c.0 in cc in
    let rest : members n k (block k x).elder ≡ xs = members_of n k (block k x).elder xs c.1 (omega arith) in
    rw e (ap (λ ys. x ∷ ys) rest)

-- which blocks go back once a lead has count c and newest block n, by the chain of its batch
pub due_recounted : (k : Core) (l c n : ℕ) (xs : List ℕ) → Sized k → l < 2048 → Chain (λ b. (block k b).elder) (Some n) xs → length xs ≤ 2048
    → due (with_block k l (with_count (block k l) c n)) l ≡ cond (eqb c 0) xs []
due_recounted k l c n xs s lt chain long =
    let after : Core = with_block k l (with_count (block k l) c n) in
    let seen : view after [] ≡ recount (view k []) l c n = view_count k [] l c n s lt in
    let e_count : (block after l).count ≡ c = ap (λ m. m.count l) seen ∙ upd_same (view k []).count l c in
    let e_newest : (block after l).newest ≡ n = ap (λ m. m.newest l) seen ∙ upd_same (view k []).newest l n in
    let there : Chain (λ b. (block after b).elder) (Some n) xs = subst (λ f. Chain f (Some n) xs) (sym (ap (λ m. m.elder) seen)) chain in
    ap (λ i. cond (eqb i 0) (members 2048 after (Some (block after l).newest)) []) e_count
    ∙ ap (λ i. cond (eqb c 0) (members 2048 after (Some i)) []) e_newest
    ∙ ap (λ ys. cond (eqb c 0) ys []) (members_of 2048 after (Some n) xs there long)

pub due_count_down : (k : Core) (l : ℕ) (xs : List ℕ) → Sized k → l < 2048 → Chain (λ b. (block k b).elder) (Some (block k l).newest) xs → length xs ≤ 2048
    → due (count_down k l) l ≡ cond (eqb ((block k l).count - 1) 0) xs []
due_count_down k l xs s lt chain long = due_recounted k l ((block k l).count - 1) (block k l).newest xs s lt chain long

pub due_settled : (k : Core) (batch : Batch) (hung : ℕ) (xs : List ℕ) → Sized k → batch.lead < 2048 → Chain (λ b. (block k b).elder) (Some batch.newest) xs → length xs ≤ 2048
    → due (settled k batch hung) batch.lead ≡ cond (eqb ((block k batch.lead).count + hung - 1024) 0) xs []
due_settled k batch hung xs s lt chain long = due_recounted k batch.lead ((block k batch.lead).count + hung - 1024) batch.newest xs s lt chain long

-- the handling of a block, with what it gives back
pub view_handled : (k : Core) (inside : List Bool) (w b : ℕ) (t : Task) → Sized k → w < 8 → (block k b).lead < 2048
    → Each (λ x. (x < 2048) × (x < length inside)) (due (count_down k (block k b).lead) (block k b).lead)
    → view (handled k w b t).core (gained_all inside (due (count_down k (block k b).lead) (block k b).lead))
    ≡ retask (give_all (recount (view k inside) (block k b).lead ((block k (block k b).lead).count - 1) (block k (block k b).lead).newest) (due (count_down k (block k b).lead) (block k b).lead)) w t
view_handled k inside w b t s lw lb each =
    let after : Core = count_down k (block k b).lead in
    let back : List ℕ = due after (block k b).lead in
    let still : Sized after = sized_count_down k (block k b).lead s in
    view_task (all_pooled after back) (gained_all inside back) w t (sized_all_pooled back after still) lw
    ∙ ap (λ m. retask m w t) (view_all_pooled back after inside still each)
    ∙ ap (λ m. retask (give_all m back) w t) (view_count_down k inside (block k b).lead s lb)

-- the last turn of a try, with what it gives back
pub view_last : (k : Core) (inside : List Bool) (w hung : ℕ) (batch : Batch) → Sized k → w < 8 → batch.lead < 2048
    → Each (λ x. (x < 2048) × (x < length inside)) (due (settled k batch hung) batch.lead)
    → view (try_last k w hung (Some batch)).core (gained_all inside (due (settled k batch hung) batch.lead))
    ≡ rebatch (give_all (recount (view k inside) batch.lead ((block k batch.lead).count + hung - 1024) batch.newest) (due (settled k batch hung) batch.lead)) w Idle None
view_last k inside w hung batch s lw lb each =
    let after : Core = settled k batch hung in
    let back : List ℕ = due after batch.lead in
    let still : Sized after = sized_settled k batch hung s in
    view_emptied (all_pooled after back) (gained_all inside back) w (sized_all_pooled back after still) lw
    ∙ ap (λ m. rebatch m w Idle None) (view_all_pooled back after inside still each)
    ∙ ap (λ m. rebatch (give_all m back) w Idle None) (view_settled k inside batch hung s lb)

-- the second turn of a taking, where the pool hands out b
pub view_took : (k : Core) (inside : List Bool) (w b : ℕ) → Sized k → w < 8 → b < 2048 → b < length inside → view (took k w (Ok b)).core (set inside b false) ≡ enliven (retask (view k inside) w Idle) b
view_took k inside w b s lw lb low =
    view_taken (with_task k w Idle) inside b k.era w (sized_task k w Idle s) lb low
    ∙ ap (λ m. enliven m b) (view_task k inside w Idle s lw)

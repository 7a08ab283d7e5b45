-- The mirror of births, slots, eras and what is shown, after each of the machine's changes.
use Rattle.std.proofs.Common.{◌≡◌, ℕ, ◌<◌, ltb, ◌≢◌, List, [], ◌∷◌, get_or, Some, None, Option, sym, refl, ap, ◌∙◌, arith}
use Rattle.std.proofs.lemmas.List.{get_or-set_same, get_or-set_other}
use Rattle.machine.specs.declared.states.Batch.{Batch}
use Rattle.machine.specs.declared.states.Block.{Block}
use Rattle.machine.specs.declared.states.HungList.{HungList}
use Rattle.machine.specs.declared.states.Reservation.{Reservation}
use Rattle.machine.specs.declared.states.Task.{Task}
use Rattle.machine.specs.declared.states.Worker.{Worker}
use Rattle.machine.specs.declared.states.Core.{Core}
use Rattle.machine.specs.State.{blank_block, blank_worker, fresh_reservation, block, worker, reservation, place_of, with_block, with_reservation, with_worker, with_task}
use Rattle.machine.specs.Cells.{held, home_block, with_cell, named_more, named_less}
use Rattle.machine.specs.Hands.{owns}
use Rattle.machine.specs.Taking.{taken_block}
use Rattle.machine.specs.Walking.{pooled, all_pooled}
use Rattle.machine.specs.Looking.{with_list, with_own_era}
use Rattle.machine.specs.Trying.{with_slot, hung_at}
use Rattle.machine.specs.Calls.{unlinked, retired, disowned, relinked}
use Rattle.machine.proofs.Passing.{by_test}
use Rattle.machine.proofs.Sums.{upd, upd_self}
use Rattle.machine.proofs.Bridge.{Sized, field_set, field_kept}
use Rattle.machine.proofs.Guards.{Extra, extra}
use Rattle.machine.proofs.GuardSteps.{quiet_extra}

same : (x y : Extra) → x.birth ≡ y.birth → x.slot ≡ y.slot → x.era ≡ y.era → x.shows ≡ y.shows → x ≡ y
same x y p q r s = λ i. record { birth = p i; slot = q i; era = r i; shows = s i }

-- what a worker's holds show
abbrev shown_of : Worker → ℕ → Option ℕ
shown_of y h = get_or y.shows h None

pub extra_worker : (k : Core) (w : ℕ) (y : Worker) → y.shows ≡ (worker k w).shows → extra (with_worker k w y) ≡ extra k
extra_worker k w y e = same _ _ refl refl refl (field_kept shown_of blank_worker k.workers w y (ap {B = ℕ → Option ℕ} (λ l h. get_or l h None) e))

pub extra_task : (k : Core) (w : ℕ) (t : Task) → extra (with_task k w t) ≡ extra k
extra_task k w t = extra_worker k w _ refl

-- a block with the birth and slot that it had
pub extra_block : (k : Core) (b : ℕ) (x : Block) → x.birth ≡ (block k b).birth → x.slot ≡ (block k b).slot → extra (with_block k b x) ≡ extra k
extra_block k b x p q = same _ _ (field_kept (λ (y : Block). y.birth) blank_block k.blocks.rows b x p) (field_kept (λ (y : Block). y.slot) blank_block k.blocks.rows b x q) refl refl

pub extra_pooled : (bs : List ℕ) (k : Core) → extra (all_pooled k bs) ≡ extra k
extra_pooled [] k = refl
extra_pooled (b ∷ bs) k = extra_pooled bs (with_block k b (pooled (block k b))) ∙ extra_block k b _ refl refl

pub extra_slot : (k : Core) (b r : ℕ) → Sized k → b < 2048 → extra (with_block k b (with_slot (block k b) r)) ≡ record { birth = (extra k).birth; slot = upd (extra k).slot b r; era = (extra k).era; shows = (extra k).shows }
extra_slot k b r sz lt =
    same _ _ (field_kept (λ (y : Block). y.birth) blank_block k.blocks.rows b _ refl) (field_set (λ (y : Block). y.slot) blank_block k.blocks.rows b _ (let l = sz.rows in omega arith)) refl refl

pub extra_taken : (k : Core) (b e w : ℕ) → Sized k → b < 2048 → extra (with_block k b (taken_block (block k b) e w)) ≡ record { birth = upd (extra k).birth b e; slot = (extra k).slot; era = (extra k).era; shows = (extra k).shows }
extra_taken k b e w sz lt =
    same _ _ (field_set (λ (y : Block). y.birth) blank_block k.blocks.rows b _ (let l = sz.rows in omega arith)) (field_kept (λ (y : Block). y.slot) blank_block k.blocks.rows b _ refl) refl refl

-- a reservation with the era that it had, or another
pub extra_reservation : (k : Core) (r : ℕ) (x : Reservation) → x.era ≡ (reservation k r).era → extra (with_reservation k r x) ≡ extra k
extra_reservation k r x e = same _ _ refl refl (field_kept (λ (y : Reservation). y.era) fresh_reservation k.reservations r x e) refl

pub extra_list : (k : Core) (w h : ℕ) (l : HungList) → extra (with_list k w h l) ≡ quiet_extra (extra k) (upd (extra k).era (place_of k w h) ((extra k).era (place_of k w h))) (extra k).shows
extra_list k w h l = extra_reservation k (place_of k w h) _ refl ∙ same _ _ refl refl (sym (upd_self (extra k).era (place_of k w h) _ refl)) refl

pub extra_own_era : (k : Core) (w h e : ℕ) → Sized k → place_of k w h < 32 → extra (with_own_era k w h e) ≡ quiet_extra (extra k) (upd (extra k).era (place_of k w h) e) (extra k).shows
extra_own_era k w h e sz lt = same _ _ refl refl (field_set (λ (y : Reservation). y.era) fresh_reservation k.reservations (place_of k w h) _ (let l = sz.reservations in omega arith)) refl

pub extra_hung_at : (k : Core) (r b : ℕ) (o : Option ℕ) → extra (hung_at k r b o) ≡ extra k
extra_hung_at k r b o = extra_reservation (with_block k b _) r _ refl ∙ extra_block k b _ refl refl

-- names, owners and cells
extra_more : (k : Core) (x : Option ℕ) → extra (named_more k x) ≡ extra k
extra_more k None = refl
extra_more k (Some b) = extra_block k b _ refl refl

extra_less : (k : Core) (x : Option ℕ) → extra (named_less k x) ≡ extra k
extra_less k None = refl
extra_less k (Some b) = extra_block k b _ refl refl

pub extra_unlinked : (k : Core) (b : ℕ) → extra (unlinked k b) ≡ extra k
extra_unlinked k b = extra_less (named_less k (get_or (block k b).links 0 None)) (get_or (block k b).links 1 None) ∙ extra_less k (get_or (block k b).links 0 None)

pub extra_retired : (k : Core) (w b : ℕ) (batch : Batch) → extra (retired k w b batch) ≡ extra k
extra_retired k w b batch = extra_block (unlinked k b) b _ refl refl ∙ extra_unlinked k b

extra_disowned : (k : Core) (w : ℕ) (x : Option ℕ) → extra (disowned k w x) ≡ extra k
extra_disowned k w None = refl
extra_disowned k w (Some b) = by_test (λ j. extra j ≡ extra k) (owns k w b) _ _ (λ _. extra_block k b _ refl refl) (λ _. refl)

extra_cell : (k : Core) (c : ℕ) (x : Option ℕ) → extra (with_cell k c x) ≡ extra k
extra_cell k c x = by_test (λ j. extra j ≡ extra k) (ltb c 16) _ _ (λ _. refl) (λ _. extra_block k (home_block c) _ refl refl)

pub extra_relinked : (k : Core) (w c : ℕ) (new : Option ℕ) → extra (relinked k w c new) ≡ extra k
extra_relinked k w c new =
    extra_cell (disowned (named_more (named_less k (held k c)) new) w new) c new
    ∙ extra_disowned (named_more (named_less k (held k c)) new) w new
    ∙ extra_more (named_less k (held k c)) new
    ∙ extra_less k (held k c)

-- what the holds show after a change of worker w
pub shows_else : (k : Core) (w : ℕ) (y : Worker) (v h : ℕ) → v ≢ w → (extra (with_worker k w y)).shows v h ≡ (extra k).shows v h
shows_else k w y v h ne = ap (λ u. shown_of u h) (get_or-set_other k.workers w v y blank_worker ne)

pub shows_own : (k : Core) (w : ℕ) (y : Worker) (h : ℕ) → Sized k → w < 8 → (extra (with_worker k w y)).shows w h ≡ get_or y.shows h None
shows_own k w y h sz lt = ap (λ u. shown_of u h) (get_or-set_same k.workers w y blank_worker (let l = sz.workers in omega arith))

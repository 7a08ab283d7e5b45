-- That the number of live blocks stays right when one part of a keeper is replaced.
use Rattle.std.proofs.Common.{◌≡◌, ℕ, zero, suc, ◌+◌, ◌<◌, true, false, ltb, List, [], ◌∷◌, length, get_or, set, replicate, Some, None, Option, sym, refl, ap, ◌∙◌, arith}
use Rattle.std.proofs.lemmas.List.{length-set, length-replicate}
use Rattle.figures.specs.declared.limits.Form.{Form}
use Rattle.pools.specs.Counts.{bit}
use Rattle.machine.specs.declared.states.Batch.{Batch}
use Rattle.machine.specs.declared.states.Block.{Block}
use Rattle.machine.specs.declared.states.Reservation.{Reservation}
use Rattle.machine.specs.declared.states.Worker.{Worker}
use Rattle.machine.specs.declared.states.Core.{Core}
use Rattle.machine.specs.State.{fresh, fresh_block, blank_block, block, worker, with_era, with_live, with_block, with_reservation, with_worker, is_live, live_block}
use Rattle.machine.specs.Cells.{home_block, held, with_cell, named_more, named_less}
use Rattle.machine.specs.Hands.{owns}
use Rattle.machine.specs.Taking.{taken_block}
use Rattle.machine.specs.Walking.{pooled, all_pooled}
use Rattle.machine.specs.Calls.{retired_block, unlinked, retired, disowned, relinked}
use Rattle.machine.specs.Living.{live_among, FewLive}
use Rattle.machine.proofs.Passing.{by_test}
use Rattle.machine.proofs.Namings.{live_there}
use Rattle.machine.proofs.Standings.{alike_unlinked}
use Rattle.machine.proofs.LinkedParts.{block_alike, Dead, dead_alike}

-- one block replaced
live_set : (xs : List Block) (i : ℕ) (x : Block) → i < length xs → live_among (set xs i x) + bit (is_live (get_or xs i blank_block).standing) ≡ live_among xs + bit (is_live x.standing)
live_set [] i x lt = absurd (omega arith)
live_set (y ∷ ys) zero x lt = omega arith
live_set (y ∷ ys) (suc i) x lt = let h = live_set ys i x (omega arith) in omega arith

-- by one that is live alike
live_same : (xs : List Block) (i : ℕ) (x : Block) → is_live x.standing ≡ is_live (get_or xs i blank_block).standing → live_among (set xs i x) ≡ live_among xs
live_same [] i x e = refl
live_same (y ∷ ys) zero x e = ap (λ t. bit t + live_among ys) e
live_same (y ∷ ys) (suc i) x e = let h = live_same ys i x e in omega arith

-- no block is live at the making
live_none : (n : ℕ) → live_among (replicate n fresh_block) ≡ 0
live_none zero = refl
live_none (suc n) = let h = live_none n in omega arith

pub fresh_living : (form : Form) → FewLive (fresh form)
fresh_living form = record { rows = length-replicate 2048 fresh_block; counted = sym (live_none 2048); few = omega arith }

-- an era, a reservation or a worker
pub era_living : (k : Core) (e : ℕ) → FewLive k → FewLive (with_era k e)
era_living k e o = record { rows = o.rows; counted = o.counted; few = o.few }

pub reservation_living : (k : Core) (r : ℕ) (x : Reservation) → FewLive k → FewLive (with_reservation k r x)
reservation_living k r x o = record { rows = o.rows; counted = o.counted; few = o.few }

pub worker_living : (k : Core) (w : ℕ) (x : Worker) → FewLive k → FewLive (with_worker k w x)
worker_living k w x o = record { rows = o.rows; counted = o.counted; few = o.few }

-- a block that is live alike
pub block_living : (k : Core) (i : ℕ) (x : Block) → is_live x.standing ≡ live_block k i → FewLive k → FewLive (with_block k i x)
block_living k i x e o = record { rows = length-set k.blocks.rows i x ∙ o.rows; counted = o.counted ∙ sym (live_same k.blocks.rows i x e); few = o.few }

-- blocks that are not live go back into the pool
pub all_pooled_living : (bs : List ℕ) (k : Core) → Dead k bs → FewLive k → FewLive (all_pooled k bs)
all_pooled_living [] k d o = o
all_pooled_living (b ∷ bs) k d o =
    let x = pooled (block k b) in
    all_pooled_living bs (with_block k b x) (dead_alike k _ (block_alike k b x (sym d.0) refl) bs d.1) (block_living k b x (sym d.0) o)

-- a block that was not live is taken, where fewer are live than may be
pub taken_living : (k : Core) (n e w : ℕ) → n < 2048 → live_block k n ≡ false → k.live < k.form.live → FewLive k → FewLive (with_live (with_block k n (taken_block (block k n) e w)) (k.live + 1))
taken_living k n e w lt dead room o =
    let x = taken_block (block k n) e w in
    record {
      rows = length-set k.blocks.rows n x ∙ o.rows;
      counted =
          let before : bit (live_block k n) ≡ 0 = ap bit dead in
          let change = live_set k.blocks.rows n x (omega (arith, o.rows)) in
          omega (arith, o.counted);
      few = omega arith;
    }

-- names, owners and cells
less_living : (k : Core) (x : Option ℕ) → FewLive k → FewLive (named_less k x)
less_living k None o = o
less_living k (Some b) o = block_living k b _ refl o

more_living : (k : Core) (x : Option ℕ) → FewLive k → FewLive (named_more k x)
more_living k None o = o
more_living k (Some b) o = block_living k b _ refl o

disowned_living : (k : Core) (w : ℕ) (x : Option ℕ) → FewLive k → FewLive (disowned k w x)
disowned_living k w None o = o
disowned_living k w (Some b) o = by_test FewLive (owns k w b) _ _ (λ _. block_living k b _ refl o) (λ _. o)

cell_living : (k : Core) (c : ℕ) (x : Option ℕ) → FewLive k → FewLive (with_cell k c x)
cell_living k c x o = by_test FewLive (ltb c 16) _ _ (λ _. record { rows = o.rows; counted = o.counted; few = o.few }) (λ _. block_living k (home_block c) _ refl o)

pub relinked_living : (k : Core) (w c : ℕ) (new : Option ℕ) → FewLive k → FewLive (relinked k w c new)
relinked_living k w c new o = cell_living _ c new (disowned_living _ w new (more_living _ new (less_living k (held k c) o)))

unlinked_living : (k : Core) (b : ℕ) → FewLive k → FewLive (unlinked k b)
unlinked_living k b o = less_living _ (get_or (block k b).links 1 None) (less_living k (get_or (block k b).links 0 None) o)

-- one cell fewer does not change the number kept
less_live : (k : Core) (x : Option ℕ) → (named_less k x).live ≡ k.live
less_live k None = refl
less_live k (Some b) = refl

-- a live block is retired
pub retired_living : (k : Core) (w b : ℕ) (batch : Batch) → live_block k b ≡ true → FewLive k → FewLive (retired k w b batch)
retired_living k w b batch live o =
    let u = unlinked k b in
    let ou = unlinked_living k b o in
    let x = retired_block (block u b) (worker k w).batch batch.lead in
    let same : u.live ≡ k.live = less_live (named_less k (get_or (block k b).links 0 None)) (get_or (block k b).links 1 None) ∙ less_live k (get_or (block k b).links 0 None) in
    record {
      rows = length-set u.blocks.rows b x ∙ ou.rows;
      counted =
          let before : bit (live_block u b) ≡ 1 = ap bit (ap is_live (alike_unlinked k b b) ∙ live) in
          let there = live_there k b live in
          let change = live_set u.blocks.rows b x (omega (arith, ou.rows, o.rows)) in
          omega (arith, ou.counted);
      few = omega (arith, ou.few);
    }

-- What a store does to the number of blocks of a batch.
use Rattle.std.proofs.Common.{◌≡◌, ℕ, zero, suc, ◌+◌, ◌*◌, ◌<◌, ◌≤◌, Bool, true, false, cond, ◌&&◌, eqb, ◌≢◌, List, [], ◌∷◌, length, get_or, set, replicate, Some, None, Option, sym, refl, ap, ◌∙◌, subst, arith}
use Rattle.figures.specs.Limits.{Fit}
use Rattle.figures.specs.declared.limits.Form.{Form}
use Rattle.machine.specs.declared.states.Batch.{Batch}
use Rattle.machine.specs.declared.states.Block.{Block}
use Rattle.machine.specs.declared.states.Worker.{Worker}
use Rattle.machine.specs.declared.states.Core.{Core}
use Rattle.machine.specs.State.{fresh, fresh_block, blank_block, fresh_worker, blank_worker, block, worker, with_block}
use Rattle.machine.specs.Walking.{pooled, all_pooled}
use Rattle.machine.specs.Account.{is_retired}
use Rattle.machine.specs.BatchSizes.{batched, count_rows, batch_count, tries, OwnSize, ShortBatches}
use Rattle.machine.proofs.Stores.{replicate_all}
use Rattle.machine.proofs.StoresByPlace.{set_keeps_at, set_gives_at}
use Rattle.machine.proofs.Sums.{Σ, Each}

-- a block that counts as much as the one before it
pub rows_same : (l : ℕ) (rows : List Block) (b : ℕ) (x : Block) → batched l x ≡ batched l (get_or rows b blank_block) → count_rows l (set rows b x) ≡ count_rows l rows
rows_same l [] b x e = refl
rows_same l (y ∷ ys) zero x e = ap (λ n. n + count_rows l ys) e
rows_same l (y ∷ ys) (suc b) x e = ap (λ n. batched l y + n) (rows_same l ys b x e)

-- at most as much
pub rows_less : (l : ℕ) (rows : List Block) (b : ℕ) (x : Block) → batched l x ≤ batched l (get_or rows b blank_block) → count_rows l (set rows b x) ≤ count_rows l rows
rows_less l [] b x e = omega arith
rows_less l (y ∷ ys) zero x e = omega arith
rows_less l (y ∷ ys) (suc b) x e = let h = rows_less l ys b x e in omega arith

-- any block, at a place that there is
pub rows_set : (l : ℕ) (rows : List Block) (b : ℕ) (x : Block) → b < length rows → count_rows l (set rows b x) + batched l (get_or rows b blank_block) ≡ count_rows l rows + batched l x
rows_set l [] b x lt = absurd (omega arith)
rows_set l (y ∷ ys) zero x lt = omega arith
rows_set l (y ∷ ys) (suc b) x lt = let h = rows_set l ys b x (omega arith) in omega arith

-- where none counts
pub rows_none : (l : ℕ) (rows : List Block) → ((b : ℕ) → batched l (get_or rows b blank_block) ≡ 0) → count_rows l rows ≡ 0
rows_none l [] h = refl
rows_none l (y ∷ ys) h = let a = h 0 in let b = rows_none l ys (λ i. h (suc i)) in omega arith

-- the first place of a sum apart
pub Σ_first : (f : ℕ → ℕ) (n : ℕ) → Σ f (suc n) ≡ f 0 + Σ (λ i. f (suc i)) n
Σ_first f zero = refl
Σ_first f (suc n) = let h = Σ_first f n in omega arith

-- place by place
pub rows_sum : (l : ℕ) (rows : List Block) → count_rows l rows ≡ Σ (λ b. batched l (get_or rows b blank_block)) (length rows)
rows_sum l [] = refl
rows_sum l (y ∷ ys) =
    let h = rows_sum l ys in
    let f = Σ_first (λ b. batched l (get_or (y ∷ ys) b blank_block)) (length ys) in
    ap (λ n. batched l y + n) h ∙ sym f

-- a block that is not retired does not count
pub not_batched : (l : ℕ) (x : Block) → is_retired x.standing ≡ false → batched l x ≡ 0
not_batched l x e = ap (λ r. cond (r && eqb x.lead l) 1 0) e

-- a block that names another lead does not count either
pub of_other : (l : ℕ) (x : Block) → x.lead ≢ l → batched l x ≡ 0
of_other l x ne = other (is_retired x.standing)
  where
    other : (r : Bool) → ◌≡◌ {A = ℕ} (cond (r && eqb x.lead l) 1 0) 0
    other true = grind arith
    other false = refl

-- giving back makes no batch longer
pub all_pooled_less : (bs : List ℕ) (k : Core) (l : ℕ) → batch_count (all_pooled k bs) l ≤ batch_count k l
all_pooled_less [] k l = omega arith
all_pooled_less (b ∷ bs) k l =
    let h = all_pooled_less bs (with_block k b (pooled (block k b))) l in
    let g = rows_less l k.blocks.rows b (pooled (block k b)) (omega arith) in
    omega arith

-- and leaves a batch as long as it was of which none is given back
pub all_pooled_other : (bs : List ℕ) (k : Core) (l : ℕ) (f : ℕ → ℕ) → ((c : ℕ) → (block k c).lead ≡ f c) → Each (λ c. f c ≢ l) bs → batch_count (all_pooled k bs) l ≡ batch_count k l
all_pooled_other [] k l f e h = refl
all_pooled_other (b ∷ bs) k l f e h =
    all_pooled_other bs (with_block k b (pooled (block k b))) l f (set_keeps_at (λ i (z : Block). z.lead ≡ f i) blank_block k.blocks.rows b (pooled (block k b)) e (e b)) h.1
    ∙ rows_same l k.blocks.rows b (pooled (block k b)) (sym (of_other l (block k b) (λ z. h.0 (sym (e b) ∙ z))))

-- the making
pub fresh_short : (form : Form) → Fit form → ShortBatches form (fresh form)
fresh_short form fit = record {
  short = λ l. let z = rows_none l (replicate 2048 fresh_block) (replicate_all (λ x. batched l x ≡ 0) blank_block fresh_block 2048 refl refl) in omega arith;
  own = λ w _. replicate_all (λ x. OwnSize form (batch_count (fresh form)) (tries x.task) x.batch) blank_worker fresh_worker 8 tt tt w;
}

-- an own batch's size, where its batch is as long as it was
pub own_as : (form : Form) (f g : ℕ → ℕ) (tried : Bool) (o : Option Batch) → ((x : Batch) → o ≡ Some x → g x.lead ≡ f x.lead) → OwnSize form f tried o → OwnSize form g tried o
own_as form f g tried None e o = tt
own_as form f g tried (Some x) e o = (o.0 ∙ sym (e x refl), o.1)

module _ (form : Form) (k : Core) (sh : ShortBatches form k) (w : ℕ) (lw : w < length k.workers) where
  -- worker w is replaced, and the batches of the others are as long as they were
  pub moved : (k' : Core) (y : Worker) → k'.workers ≡ set k.workers w y → ((l : ℕ) → batch_count k' l ≤ form.workers * form.holds + form.trying_period)
      → ((v : ℕ) (x : Batch) → v < form.workers → v ≢ w → (worker k v).batch ≡ Some x → batch_count k' x.lead ≡ batch_count k x.lead)
      → OwnSize form (batch_count k') (tries y.task) y.batch → ShortBatches form k'
  moved k' y e short others own = record {
    short = short;
    own = λ v hv.
        subst (λ ws. OwnSize form (batch_count k') (tries (get_or ws v blank_worker).task) (get_or ws v blank_worker).batch) (sym e)
        (set_gives_at (λ j (z : Worker). j < form.workers → OwnSize form (batch_count k') (tries z.task) z.batch) blank_worker k.workers w y lw
        (λ j ne hj. own_as form (batch_count k) (batch_count k') (tries (worker k j).task) (worker k j).batch (λ x ex. others j x hj ne ex) (sh.own j hj))
        (λ _. own) v hv);
  }

  -- the task of worker w is replaced, by one that tries just where it did, and all batches are as long as they were
  pub retasked : w < form.workers → (k' : Core) (y : Worker) → k'.workers ≡ set k.workers w y → y.batch ≡ (worker k w).batch → tries y.task ≡ tries (worker k w).task → ((l : ℕ) → batch_count k' l ≡ batch_count k l) → ShortBatches form k'
  retasked hw k' y e eb et same =
      moved k' y e (λ l. let a = same l in let b = sh.short l in omega arith) (λ v x _ _ _. same x.lead)
      (subst (λ o. OwnSize form (batch_count k') (tries y.task) o) (sym eb) (subst (λ t. OwnSize form (batch_count k') t (worker k w).batch) (sym et)
      (own_as form (batch_count k) (batch_count k') (tries (worker k w).task) (worker k w).batch (λ x _. same x.lead) (sh.own w hw))))

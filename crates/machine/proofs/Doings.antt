-- What a call changes of what the workers do.
use Rattle.std.proofs.Common.{◌≡◌, ℕ, ◌<◌, eqb, ltb, List, [], ◌∷◌, length, get_or, set, Some, None, Option, refl, ◌∙◌}
use Rattle.std.proofs.lemmas.Bool.{cond-true, cond-false, eq-eqb, ne_eqb}
use Rattle.machine.specs.declared.states.Worker.{Worker}
use Rattle.machine.specs.declared.states.Core.{Core}
use Rattle.machine.specs.State.{blank_worker, block, with_block}
use Rattle.machine.specs.Cells.{named_more, named_less, with_cell, held}
use Rattle.machine.specs.Hands.{owns}
use Rattle.machine.specs.Walking.{pooled, all_pooled}
use Rattle.machine.specs.Calls.{unlinked, disowned, relinked}
use Rattle.machine.specs.Account.{Doing, put, doing_of}
use Rattle.machine.proofs.Passing.{by_test}
use Rattle.machine.proofs.StoresByPlace.{set_keeps_at, set_gives_at}

-- what is put down under a number, and under any other
pub put_here : {A : Type 0} (f : ℕ → A) (i : ℕ) (x : A) → put f i x i ≡ x
put_here f i x = cond-true (eqb i i) x (f i) (eq-eqb i i refl)

pub put_there : {A : Type 0} (f : ℕ → A) (i : ℕ) (x : A) (j : ℕ) → (j ≡ i → ⊥) → put f i x j ≡ f j
put_there f i x j ne = cond-false (eqb j i) x (f j) (ne_eqb j i ne)

-- what the workers of a keeper do
abbrev pub Does : (ℕ → Doing) → List Worker → Type 0
Does d ws = (v : ℕ) → d v ≡ doing_of (get_or ws v blank_worker).task

-- a worker goes on with what it does
pub goes_doing : (d : ℕ → Doing) (ws : List Worker) (w : ℕ) (x : Worker) → Does d ws → d w ≡ doing_of x.task → Does d (set ws w x)
goes_doing d ws w x h e = set_keeps_at (λ v y. d v ≡ doing_of y.task) blank_worker ws w x h e

-- a worker does something else
pub turns_doing : (d : ℕ → Doing) (ws : List Worker) (w : ℕ) (x : Worker) → Does d ws → w < length ws → Does (put d w (doing_of x.task)) (set ws w x)
turns_doing d ws w x h lt =
    set_gives_at (λ v y. put d w (doing_of x.task) v ≡ doing_of y.task) blank_worker ws w x lt
    (λ v ne. put_there d w (doing_of x.task) v ne ∙ h v)
    (put_here d w (doing_of x.task))

-- blocks given back, names, owners and cells change no worker
pub all_pooled_workers : (bs : List ℕ) (k : Core) → (all_pooled k bs).workers ≡ k.workers
all_pooled_workers [] k = refl
all_pooled_workers (b ∷ bs) k = all_pooled_workers bs (with_block k b (pooled (block k b)))

more_workers : (k : Core) (x : Option ℕ) → (named_more k x).workers ≡ k.workers
more_workers k None = refl
more_workers k (Some b) = refl

less_workers : (k : Core) (x : Option ℕ) → (named_less k x).workers ≡ k.workers
less_workers k None = refl
less_workers k (Some b) = refl

disowned_workers : (k : Core) (w : ℕ) (x : Option ℕ) → (disowned k w x).workers ≡ k.workers
disowned_workers k w None = refl
disowned_workers k w (Some b) = by_test (λ (l : Core). l.workers ≡ k.workers) (owns k w b) _ _ (λ _. refl) (λ _. refl)

cell_workers : (k : Core) (c : ℕ) (x : Option ℕ) → (with_cell k c x).workers ≡ k.workers
cell_workers k c x = by_test (λ (l : Core). l.workers ≡ k.workers) (ltb c 16) _ _ (λ _. refl) (λ _. refl)

pub relinked_workers : (k : Core) (w c : ℕ) (new : Option ℕ) → (relinked k w c new).workers ≡ k.workers
relinked_workers k w c new = cell_workers _ c new ∙ disowned_workers _ w new ∙ more_workers _ new ∙ less_workers k (held k c)

pub unlinked_workers : (k : Core) (b : ℕ) → (unlinked k b).workers ≡ k.workers
unlinked_workers k b = less_workers (named_less k (get_or (block k b).links 0 None)) (get_or (block k b).links 1 None) ∙ less_workers k (get_or (block k b).links 0 None)

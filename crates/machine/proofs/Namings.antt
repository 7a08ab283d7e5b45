-- How the number of cells that name a block changes when a cell or a block does.
use Rattle.std.proofs.Common.{◌≡◌, ℕ, zero, suc, ◌+◌, ◌-◌, ◌*◌, ◌<◌, ◌≤◌, Bool, true, false, eqb, List, [], ◌∷◌, length, get_or, set, replicate, None, Option, sym, refl, ap, ◌∙◌, inl, inr, arith}
use Rattle.std.proofs.lemmas.Bool.Decides.{nat_tests}
use Rattle.std.proofs.lemmas.List.{get_or_past}
use Rattle.std.proofs.lemmas.Bool.{cases_lt, true≢false}
use Rattle.pools.specs.Counts.{bit}
use Rattle.machine.specs.declared.states.Block.{Block}
use Rattle.machine.specs.declared.states.Core.{Core}
use Rattle.machine.specs.State.{fresh_block, blank_block, block, is_live, live_block}
use Rattle.machine.specs.Cells.{names_it}
use Rattle.machine.specs.Linking.{among, from_block, from_blocks}

-- one content of a list replaced
pub among_set : (xs : List (Option ℕ)) (i : ℕ) (y : Option ℕ) (b : ℕ) → i < length xs → among (set xs i y) b + bit (names_it (get_or xs i None) b) ≡ among xs b + bit (names_it y b)
among_set [] i y b lt = absurd (omega arith)
among_set (x ∷ xs) zero y b lt = omega arith
among_set (x ∷ xs) (suc i) y b lt = let h = among_set xs i y b (omega arith) in omega arith

-- each content counts
pub among_has : (xs : List (Option ℕ)) (i b : ℕ) → bit (names_it (get_or xs i None) b) ≤ among xs b
among_has [] i b = omega arith
among_has (x ∷ xs) zero b = omega arith
among_has (x ∷ xs) (suc i) b = let h = among_has xs i b in omega arith

-- at most once
pub bit_most : (t : Bool) → bit t ≤ 1
bit_most true = omega arith
bit_most false = omega arith

pub among_most : (xs : List (Option ℕ)) (b : ℕ) → among xs b ≤ length xs
among_most [] b = omega arith
among_most (x ∷ xs) b = let h = among_most xs b in let m = bit_most (names_it x b) in omega arith

-- two contents
pub among_two : (xs : List (Option ℕ)) (b : ℕ) → length xs ≡ 2 → among xs b ≡ bit (names_it (get_or xs 0 None) b) + bit (names_it (get_or xs 1 None) b)
among_two [] b e = absurd (omega arith)
among_two (x ∷ []) b e = absurd (omega arith)
among_two (x ∷ y ∷ []) b e = omega arith
among_two (x ∷ y ∷ z ∷ zs) b e = absurd (omega arith)

-- one block replaced
pub from_set : (xs : List Block) (i : ℕ) (x : Block) (b : ℕ) → i < length xs → from_blocks (set xs i x) b + from_block (get_or xs i blank_block) b ≡ from_blocks xs b + from_block x b
from_set [] i x b lt = absurd (omega arith)
from_set (y ∷ ys) zero x b lt = omega arith
from_set (y ∷ ys) (suc i) x b lt = let h = from_set ys i x b (omega arith) in omega arith

-- by one whose links count alike
pub from_same : (xs : List Block) (i : ℕ) (x : Block) (b : ℕ) → from_block x b ≡ from_block (get_or xs i blank_block) b → from_blocks (set xs i x) b ≡ from_blocks xs b
from_same [] i x b e = refl
from_same (y ∷ ys) zero x b e = omega arith
from_same (y ∷ ys) (suc i) x b e = let h = from_same ys i x b e in omega arith

-- each block's links count
pub from_has : (xs : List Block) (i b : ℕ) → from_block (get_or xs i blank_block) b ≤ from_blocks xs b
from_has [] i b = omega arith
from_has (x ∷ xs) zero b = omega arith
from_has (x ∷ xs) (suc i) b = let h = from_has xs i b in omega arith

-- at most two of each block
pub from_most : (xs : List Block) (b : ℕ) → ((i : ℕ) → from_block (get_or xs i blank_block) b ≤ 2) → from_blocks xs b ≤ 2 * length xs
from_most [] b h = omega arith
from_most (x ∷ xs) b h = let first = h 0 in let rest = from_most xs b (λ i. h (suc i)) in omega arith

-- nothing is named where all contents are none and no block is live
pub among_none : (n b : ℕ) → among (replicate n None) b ≡ 0
among_none zero b = refl
among_none (suc n) b = let h = among_none n b in omega arith

pub from_none : (n b : ℕ) → from_blocks (replicate n fresh_block) b ≡ 0
from_none zero b = refl
from_none (suc n) b = let h = from_none n b in omega arith

-- what is seen of each entry, after a store that shows the same
pub set_seen : {A B : Type 0} (f : A → B) (d : A) (xs : List A) (i : ℕ) (x : A) → f x ≡ f (get_or xs i d) → (j : ℕ) → f (get_or (set xs i x) j d) ≡ f (get_or xs j d)
set_seen f d [] i x e j = refl
set_seen f d (y ∷ ys) zero x e zero = e
set_seen f d (y ∷ ys) zero x e (suc j) = refl
set_seen f d (y ∷ ys) (suc i) x e zero = refl
set_seen f d (y ∷ ys) (suc i) x e (suc j) = set_seen f d ys i x e j

-- a live block is one that there is
pub live_there : (k : Core) (b : ℕ) → live_block k b ≡ true → b < length k.blocks.rows
live_there k b e = elim (cases_lt b (length k.blocks.rows)) [
  | inl lt ↦ lt
  | inr le ↦
      let past : block k b ≡ blank_block = get_or_past k.blocks.rows b blank_block le in
      let z : ◌≡◌ {A = Bool} false true = sym (ap (λ (x : Block). is_live x.standing) past) ∙ e in
      absurd (true≢false (sym z))
]

-- a test that a stored entry passes too stays passed
pub set_passes : {A : Type 0} (f : A → Bool) (d : A) (xs : List A) (i : ℕ) (x : A) → f x ≡ true → (j : ℕ) → f (get_or xs j d) ≡ true → f (get_or (set xs i x) j d) ≡ true
set_passes f d [] i x e j h = h
set_passes f d (y ∷ ys) zero x e zero h = e
set_passes f d (y ∷ ys) zero x e (suc j) h = h
set_passes f d (y ∷ ys) (suc i) x e zero h = h
set_passes f d (y ∷ ys) (suc i) x e (suc j) h = set_passes f d ys i x e j h

suc_eqb : (i j : ℕ) → eqb (suc i) (suc j) ≡ eqb i j
suc_eqb i j = grind (arith, nat_tests)

-- the numbers of names where one block has one fewer, or one more
pub fewer_names : (xs : List Block) (i : ℕ) (x : Block) → x.names ≡ (get_or xs i blank_block).names - 1 → (j : ℕ) → (get_or (set xs i x) j blank_block).names ≡ (get_or xs j blank_block).names - bit (eqb i j)
fewer_names [] i x e j = omega arith
fewer_names (y ∷ ys) zero x e zero = e
fewer_names (y ∷ ys) zero x e (suc j) = grind (arith, nat_tests)
fewer_names (y ∷ ys) (suc i) x e zero = grind (arith, nat_tests)
fewer_names (y ∷ ys) (suc i) x e (suc j) = rw (suc_eqb i j) (fewer_names ys i x e j)

pub more_names : (xs : List Block) (i : ℕ) (x : Block) → i < length xs → x.names ≡ (get_or xs i blank_block).names + 1 → (j : ℕ) → (get_or (set xs i x) j blank_block).names ≡ (get_or xs j blank_block).names + bit (eqb i j)
more_names [] i x lt e j = absurd (omega arith)
more_names (y ∷ ys) zero x lt e zero = e
more_names (y ∷ ys) zero x lt e (suc j) = grind (arith, nat_tests)
more_names (y ∷ ys) (suc i) x lt e zero = grind (arith, nat_tests)
more_names (y ∷ ys) (suc i) x lt e (suc j) = rw (suc_eqb i j) (more_names ys i x (omega arith) e j)

-- How counts change as a number moves.
use Rattle.std.specs.Prelude.{◌≡◌, ℕ, zero, suc, ◌+◌, ◌-◌, ◌<◌, ◌≤◌, Bool, true, false, List, [], ◌∷◌, ◌++◌, length, take, drop, replicate, ◌==◌, nat_lt, slice_index_or, slice_set, refl}
use Rattle.std.proofs.Common.{sym, ap, ◌∙◌, arith}
use Rattle.std.proofs.lemmas.Bool.Decides.{nat_tests}
use Rattle.std.proofs.lemmas.Grind.{common_steps}
use Rattle.std.proofs.lemmas.List.{length-take-le, take-append-drop, length-replicate, get_or-take, get_or-replicate, ext_get_or}
use Rattle.std.proofs.lemmas.Bool.{lt-ltb}
use Rattle.pools.specs.Counts.{bit, tally, times}

pub bit_le : (b : Bool) → bit b ≤ 1
bit_le b = grind arith

pub bit_true : (b : Bool) → 0 < bit b → b ≡ true
bit_true b l = grind arith

-- a number that is in is below the size
pub in_below : (bs : List Bool) (n : ℕ) → slice_index_or bs n false ≡ true → n < length bs
in_below bs n e = grind (arith, common_steps)

-- the number x goes out
pub bit_out : (bs : List Bool) (x n : ℕ) → slice_index_or bs x false ≡ true → bit (slice_index_or (slice_set bs x false) n false) + bit (x == n) ≡ bit (slice_index_or bs n false)
bit_out bs x n e = grind (arith, common_steps, nat_tests)

-- the number x comes in
pub bit_in : (bs : List Bool) (x n : ℕ) → x < length bs → slice_index_or bs x false ≡ false → bit (slice_index_or (slice_set bs x true) n false) ≡ bit (slice_index_or bs n false) + bit (x == n)
bit_in bs x n l e = grind (arith, common_steps, nat_tests)

pub tally_out : (bs : List Bool) (x : ℕ) → slice_index_or bs x false ≡ true → tally (slice_set bs x false) + 1 ≡ tally bs
tally_out [] x e = cc
tally_out (b ∷ bs) zero e = grind arith
tally_out (b ∷ bs) (suc x) e = grind (arith, tally_out bs x)

pub tally_in : (bs : List Bool) (x : ℕ) → x < length bs → slice_index_or bs x false ≡ false → tally (slice_set bs x true) ≡ tally bs + 1
tally_in [] x l e = omega arith
tally_in (b ∷ bs) zero l e = grind arith
tally_in (b ∷ bs) (suc x) l e = grind (arith, tally_in bs x)

pub tally_le : (bs : List Bool) → tally bs ≤ length bs
tally_le [] = omega arith
tally_le (b ∷ bs) = grind (arith, tally_le bs)

-- where one is out, not all are in
pub tally_lt : (bs : List Bool) (x : ℕ) → x < length bs → slice_index_or bs x false ≡ false → tally bs < length bs
tally_lt bs x l e = grind (arith, common_steps, tally_in bs x, tally_le (slice_set bs x true))

pub tally_all : (n : ℕ) → tally (replicate n true) ≡ n
tally_all zero = refl
tally_all (suc n) = omega (arith, tally_all n)

-- where as many are in as there are, all are
pub tally_full : (bs : List Bool) → tally bs ≡ length bs → bs ≡ replicate (length bs) true
tally_full [] e = refl
tally_full (b ∷ bs) e = grind (arith, tally_le bs, tally_full bs)

-- an array of tests that holds below the size
pub all_in : (size : ℕ) (ins : List Bool) → size ≤ length ins → ((k : ℕ) → k < size → slice_index_or ins k false ≡ nat_lt k size) → take size ins ≡ replicate size true
all_in size ins l each =
    let long = length-take-le size ins l in
    let many = length-replicate size true in
    ext_get_or false (take size ins) (replicate size true) (omega arith)
    (λ k h. let low : k < size = omega arith in
    get_or-take size ins k false low ∙ each k low ∙ lt-ltb k size low ∙ sym (get_or-replicate size k true false low))

-- the whole array of tests, from those below the size
pub tests_again : (size : ℕ) (ins : List Bool) → size ≤ 2048 → length ins ≡ 2048 → drop size ins ≡ replicate (2048 - size) false → take size ins ++ replicate (2048 - length (take size ins)) false ≡ ins
tests_again size ins l long past =
    ap (λ n. take size ins ++ replicate (2048 - n) false) (length-take-le size ins (omega arith)) ∙ ap (λ tests. take size ins ++ tests) (sym past) ∙ take-append-drop size ins

pub times_append : (n : ℕ) (xs ys : List ℕ) → times n (xs ++ ys) ≡ times n xs + times n ys
times_append n [] ys = omega arith
times_append n (x ∷ xs) ys = omega (arith, times_append n xs ys)

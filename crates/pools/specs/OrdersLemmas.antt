-- A list of the numbers in, as a number moves.
use Rattle.std.specs.Prelude.{◌≡◌, ℕ, zero, suc, ◌+◌, ◌<◌, Bool, true, false, List, [], ◌∷◌, ◌++◌, length, replicate, slice_index_or, slice_set, refl}
use Rattle.std.proofs.Common.{sym, ◌∙◌, arith, length-append}
use Rattle.std.specs.List.{range_with_len}
use Rattle.std.proofs.lemmas.List.FromFn.{length-range_with_len}
use Rattle.std.proofs.lemmas.Bool.Decides.{nat_tests}
use Rattle.pools.specs.Counts.{bit, tally, times}
use Rattle.pools.specs.Orders.{first, Listed}
use Rattle.pools.specs.CountsLemmas.{bit_out, bit_in, tally_out, tally_in, tally_all, times_append}

-- a number on the list is in
pub listed_in : (x : ℕ) (xs : List ℕ) (bs : List Bool) → Listed (x ∷ xs) bs → slice_index_or bs x false ≡ true
listed_in x xs bs h = grind (arith, nat_tests, h.1 x)

-- the first of the list is in, if any is
pub first_in : (xs : List ℕ) (bs : List Bool) → Listed xs bs → 0 < tally bs → slice_index_or bs (first xs) false ≡ true
first_in [] bs h l = absurd (omega (arith, h.0))
first_in (x ∷ xs) bs h l = listed_in x xs bs h

-- the first goes out
pub listed_out : (x : ℕ) (xs : List ℕ) (bs : List Bool) → Listed (x ∷ xs) bs → Listed xs (slice_set bs x false)
listed_out x xs bs h =
    let e = listed_in x xs bs h in
    (omega (arith, h.0, tally_out bs x e), λ n. omega (arith, h.1 n, bit_out bs x n e))

-- a number comes in, in front
pub listed_front : (x : ℕ) (xs : List ℕ) (bs : List Bool) → x < length bs → slice_index_or bs x false ≡ false → Listed xs bs → Listed (x ∷ xs) (slice_set bs x true)
listed_front x xs bs l e h = (omega (arith, h.0, tally_in bs x l e), λ n. omega (arith, h.1 n, bit_in bs x n l e))

-- a number comes in, at the end
pub listed_back : (x : ℕ) (xs : List ℕ) (bs : List Bool) → x < length bs → slice_index_or bs x false ≡ false → Listed xs bs → Listed (xs ++ x ∷ []) (slice_set bs x true)
listed_back x xs bs l e h = (
  omega (arith, h.0, tally_in bs x l e, length-append xs (x ∷ [])),
  λ n. omega (arith, h.1 n, bit_in bs x n l e, times_append n xs (x ∷ [])),
)

times_next : (n a m : ℕ) → times (suc n) (range_with_len (a + 1) m) ≡ times n (range_with_len a m)
times_next n a zero = refl
times_next n a (suc m) = grind (arith, nat_tests, times_next n (a + 1) m)

times_none : (a m : ℕ) → times 0 (range_with_len (a + 1) m) ≡ 0
times_none a zero = refl
times_none a (suc m) = grind (arith, nat_tests, times_none (a + 1) m)

once : (m n : ℕ) → times n (range_with_len 0 m) ≡ bit (slice_index_or (replicate m true) n false)
once zero n = refl
once (suc m) zero = grind (arith, nat_tests, times_none 0 m)
once (suc m) (suc n) = grind (arith, nat_tests, times_next n 0 m, once m n)

-- where all are in, a list of all from 0 on
pub listed_fresh : (n : ℕ) (order : List ℕ) (inside : List Bool) → order ≡ range_with_len 0 n → inside ≡ replicate n true → Listed order inside
listed_fresh n order inside e f = rw (e, f) (length-range_with_len 0 n ∙ sym (tally_all n), once n)

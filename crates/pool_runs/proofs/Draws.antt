-- Numbers that are drawn from a pool and given back.
use Rattle.std.proofs.Common.{◌≡◌, ℕ, ◌+◌, ◌<◌, Bool, true, false, List, [], ◌∷◌, ◌++◌, length, get_or, set, Ok, sym, refl, ◌∙◌, arith, length-append, length-set}
use Rattle.std.proofs.lemmas.Bool.Decides.{nat_tests}
use Rattle.std.proofs.lemmas.List.{ext_get_or}
use Rattle.pools.specs.Counts.{bit, tally, times}
use Rattle.pools.specs.Meaning.{taken, left, gained}
use Rattle.pools.proofs.Moves.{taken_ok, left_some}
use Rattle.pools.specs.CountsLemmas.{bit_out, bit_in, tally_out, times_append, in_below}

-- the numbers out are those that were in and are not in now, each once
pub record Drew (was now : List Bool) (out : List ℕ) : Type 0 where
  pub long : length now ≡ length was
  pub many : tally now + length out ≡ tally was
  pub each : (n : ℕ) → bit (get_or now n false) + times n out ≡ bit (get_or was n false)

pub drew_none : (was : List Bool) (out : List ℕ) → out ≡ [] → Drew was was out
drew_none was out e = record { long = refl; many = grind arith; each = λ n. grind arith }

-- a take that hands a number out
pub drew_more : (was now now' : List Bool) (out out' : List ℕ) (x next : ℕ) → Drew was now out → Ok x ≡ taken now next → now' ≡ left now next
    → (0 < tally now → get_or now next false ≡ true) → out' ≡ out ++ x ∷ [] → Drew was now' out'
drew_more was now now' out out' x next d e moved chosen eo =
    let ok = taken_ok now next x e in
    let less : now' ≡ set now x false = rw ok.1 (moved ∙ sym (left_some now next ok.0)) in
    let here : get_or now x false ≡ true = rw ok.1 (chosen ok.0) in
    rw (less, eo) (record {
      long = length-set now x false ∙ d.long;
      many = omega (arith, d.many, tally_out now x here, length-append out (x ∷ []));
      each = λ n. omega (arith, d.each n, bit_out now x n here, times_append n out (x ∷ []));
    })

-- the numbers are given back one after another
abbrev pub returned : List Bool → List ℕ → List Bool
returned now [] = now
returned now (x ∷ xs) = returned (gained now x) xs

back : (was now : List Bool) (out : List ℕ) → length now ≡ length was → ((n : ℕ) → bit (get_or now n false) + times n out ≡ bit (get_or was n false)) → returned now out ≡ was
back was now [] long each = ext_get_or false now was long (λ n h. grind (arith, each n))
back was now (x ∷ xs) long each =
    let was_in : get_or was x false ≡ true = grind (arith, nat_tests, each x) in
    let out : get_or now x false ≡ false = grind (arith, nat_tests, each x) in
    let low : x < length now = omega (arith, in_below was x was_in) in
    back was (set now x true) xs (length-set now x true ∙ long) (λ n. omega (arith, each n, bit_in now x n low out))

-- all that were drawn are in again
pub drew_back : (was now : List Bool) (out : List ℕ) → Drew was now out → returned now out ≡ was
drew_back was now out d = back was now out d.long d.each

-- What a move makes of the numbers in and of their order, whatever the order: the same for every pool.
use Rattle.std.proofs.Common.{◌≡◌, ℕ, ◌<◌, Bool, true, false, List, [], ◌∷◌, ◌++◌, length, get_or, set, Ok, sym, subst, arith, length-set}
use Rattle.std.proofs.lemmas.Bool.Decides.{nat_tests}
use Rattle.pools.specs.Counts.{tally}
use Rattle.pools.specs.Meaning.{taken, left, given, gained}
use Rattle.pools.specs.Orders.{Listed}
use Rattle.pools.specs.CountsLemmas.{in_below, tally_lt}
use Rattle.pools.specs.OrdersLemmas.{listed_in, listed_out, listed_front, listed_back}

-- a take where some are in
pub taken_some : (inside : List Bool) (next : ℕ) → 0 < tally inside → Ok next ≡ taken inside next
taken_some inside next l = grind (arith, nat_tests)

pub left_some : (inside : List Bool) (next : ℕ) → 0 < tally inside → set inside next false ≡ left inside next
left_some inside next l = grind (arith, nat_tests)

-- a take that was answered by a number
pub taken_ok : (inside : List Bool) (next n : ℕ) → Ok n ≡ taken inside next → (0 < tally inside) × (n ≡ next)
taken_ok inside next n e = (grind (arith, nat_tests), grind (arith, nat_tests))

-- a give that was not refused
given_ok : (inside : List Bool) (n : ℕ) → Ok tt ≡ given inside n → (n < length inside) × (get_or inside n false ≡ false)
given_ok inside n e = (grind (arith, nat_tests), grind (arith, nat_tests))

-- the first of the order went out
pub record Took (inside now : List Bool) (x : ℕ) (xs : List ℕ) : Type 0 where
  pub low : x < length inside
  pub long : length now ≡ length inside
  pub listed : Listed xs now

pub took : (inside now : List Bool) (order : List ℕ) (x : ℕ) (xs : List ℕ) → order ≡ x ∷ xs → Listed order inside → now ≡ set inside x false → Took inside now x xs
took inside now order x xs e h moved =
    let h' : Listed (x ∷ xs) inside = subst (λ ns. Listed ns inside) e h in
    subst (λ bs. Took inside bs x xs) (sym moved) (record {
      low = in_below inside x (listed_in x xs inside h');
      long = length-set inside x false;
      listed = listed_out x xs inside h';
    })

-- the number x came in
pub record Gave (inside now : List Bool) (order : List ℕ) (x : ℕ) : Type 0 where
  pub room : length order < length inside
  pub long : length now ≡ length inside
  pub front : (ns : List ℕ) → ns ≡ x ∷ order → Listed ns now
  pub back : (ns : List ℕ) → ns ≡ order ++ x ∷ [] → Listed ns now

pub gave : (inside now : List Bool) (order : List ℕ) (x : ℕ) → Ok tt ≡ given inside x → now ≡ gained inside x → Listed order inside → Gave inside now order x
gave inside now order x answer moved h =
    let out = given_ok inside x answer in
    subst (λ bs. Gave inside bs order x) (sym moved) (record {
      room = omega (arith, h.0, tally_lt inside x out.0 out.1);
      long = length-set inside x true;
      front = λ ns e. rw e (listed_front x order inside out.0 out.1 h);
      back = λ ns e. rw e (listed_back x order inside out.0 out.1 h);
    })

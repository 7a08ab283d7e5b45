-- What stands in a ring of 2,048 places.
use Rattle.std.proofs.Common.{◌≡◌, ℕ, zero, suc, ◌+◌, ◌-◌, ◌%◌, ◌<◌, ◌≤◌, List, [], ◌∷◌, ◌++◌, length, get_or, set, refl, add-one, arith}
use Rattle.std.specs.List.{range_with_len}
use Rattle.std.proofs.lemmas.Grind.{common_steps}
use Rattle.pools.specs.Orders.{ringed}
use Rattle.pools.specs.Fresh.{OwnPlaces}

pub length_ringed : (spots : List ℕ) (place n : ℕ) → length (ringed spots place n) ≡ n
length_ringed spots place zero = refl
length_ringed spots place (suc n) = omega (arith, length_ringed spots (place + 1) n)

-- two places that are one in the ring
same_place : (spots : List ℕ) (p q n : ℕ) → p % 2048 ≡ q % 2048 → ringed spots p n ≡ ringed spots q n
same_place spots p q zero e = refl
same_place spots p q (suc n) e = grind (arith, same_place spots (p + 1) (q + 1) n)

-- the first is taken off
pub ring_more : (spots : List ℕ) (place n : ℕ) → place < 2048 → 0 < n → ringed spots place n ≡ get_or spots place 0 ∷ ringed spots ((place + 1) % 2048) (n - 1)
ring_more spots place zero l p = absurd (omega arith)
ring_more spots place (suc n) l p = grind (arith, same_place spots (place + 1) ((place + 1) % 2048) n)

put_last : (spots : List ℕ) (place n x : ℕ) → length spots ≡ 2048 → n < 2048
    → ringed (set spots ((place + n) % 2048) x) place (suc n) ≡ ringed spots place n ++ x ∷ []
put_last spots place zero x len l = grind (arith, common_steps)
put_last spots place (suc n) x len l = grind (arith, common_steps, put_last spots (place + 1) n x len)

-- one is put at the end
pub ring_put : (spots : List ℕ) (place n x : ℕ) → length spots ≡ 2048 → n < 2048
    → ringed (set spots ((place + n) % 2048) x) place (n + 1) ≡ ringed spots place n ++ x ∷ []
ring_put spots place n x len l = rw add-one (put_last spots place n x len l)

-- each spot has its own number
pub ring_fresh : (spots : List ℕ) (place n : ℕ) → OwnPlaces spots → place + n ≤ 2048 → ringed spots place n ≡ range_with_len place n
ring_fresh spots place zero own l = refl
ring_fresh spots place (suc n) own l = grind (arith, own place, ring_fresh spots (place + 1) n own)

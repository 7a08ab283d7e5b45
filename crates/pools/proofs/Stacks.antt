-- What stands in an array from a top up to a size.
use Rattle.std.proofs.Common.{◌≡◌, ℕ, ◌+◌, ◌-◌, ◌<◌, ◌≤◌, Bool, true, List, ◌∷◌, length, get_or, take, set, replicate, arith}
use lib.Seq.{take-set-lt}
use Rattle.std.proofs.lemmas.List.{drop-set, ext_get_or}
use Rattle.std.specs.List.{range_with_len}
use Rattle.std.proofs.lemmas.Grind.{common_steps}
use Rattle.std.proofs.lemmas.List.FromFn.{length-range_with_len, get_or-range_with_len}
use Rattle.pools.specs.Orders.{stacked}
use Rattle.pools.specs.Fresh.{OwnPlaces}

-- the first is taken off
pub stack_more : (size top : ℕ) (spots : List ℕ) → size ≤ length spots → top < size → stacked size top spots ≡ get_or spots top 0 ∷ stacked size (top + 1) spots
stack_more size top spots l t = grind (arith, common_steps)

-- where not all numbers are in, there is a place above the top
pub stack_room : (size top : ℕ) (spots : List ℕ) → size ≤ length spots → length (stacked size top spots) < size → 0 < top
stack_room size top spots l room = grind (arith, common_steps)

-- one is put in front
pub stack_put : (size top : ℕ) (spots : List ℕ) (x : ℕ) → size ≤ length spots → top ≤ size → length (stacked size top spots) < size
    → stacked size (top - 1) (set spots (top - 1) x) ≡ x ∷ stacked size top spots
stack_put size top spots x l t room =
    grind (arith, common_steps, stack_room size top spots l room, take-set-lt size spots (top - 1) x, drop-set (take size spots) (top - 1) x)

-- each spot has its own number
stack_own : (size : ℕ) (spots : List ℕ) → size ≤ 2048 → length spots ≡ 2048 → OwnPlaces spots → stacked size 0 spots ≡ range_with_len 0 size
stack_own size spots l long own =
    ext_get_or 0 _ _ (grind (arith, common_steps, length-range_with_len)) (λ k h. grind (arith, common_steps, own k, get_or-range_with_len))

-- where all numbers are in, each in its own spot
pub stack_fresh : (size : ℕ) (inside : List Bool) (spots : List ℕ) → size ≤ 2048 → length spots ≡ 2048 → inside ≡ replicate size true → OwnPlaces spots
    → stacked (length inside) 0 spots ≡ range_with_len 0 size
stack_fresh size inside spots l long full own = grind (arith, common_steps, stack_own size spots l long own)

-- Blocks whose numbers fit, with some of them replaced.
use Rattle.std.proofs.Common.{◌≡◌, ℕ, zero, suc, ◌<◌, true, ltb, List, [], ◌∷◌, get_or, set, Some, None, Option, refl, arith}
use Rattle.std.proofs.lemmas.Bool.Decides.{nat_tests}
use Rattle.machine.specs.declared.states.Batch.{Batch}
use Rattle.machine.specs.declared.states.Block.{Block}
use Rattle.machine.specs.Cells.{with_link}
use Rattle.machine.specs.Taking.{taken_block}
use Rattle.machine.specs.Walking.{with_count}
use Rattle.machine.specs.Calls.{newest_of, retired_block, joined}
use Rattle.machine.specs.Trying.{with_slot, with_under}
use Rattle.machine.proofs.Passing.{both_left, both_right}
use Rattle.keeper.specs.Fits.{number_fits, batch_fits, block_fits}
use Rattle.keeper.proofs.InRange.{seven, together}

-- a link that is replaced
number_set : (xs : List (Option ℕ)) (i : ℕ) (x : Option ℕ) (j : ℕ) → number_fits (get_or xs j None) ≡ true → number_fits x ≡ true → number_fits (get_or (set xs i x) j None) ≡ true
number_set [] i x j h n = h
number_set (y ∷ ys) zero x zero h n = n
number_set (y ∷ ys) zero x (suc j) h n = h
number_set (y ∷ ys) (suc i) x zero h n = h
number_set (y ∷ ys) (suc i) x (suc j) h n = number_set ys i x j h n

-- the newest block of a batch
newest_fits : (o : Option Batch) → batch_fits o ≡ true → number_fits (newest_of o) ≡ true
newest_fits None h = refl
newest_fits (Some x) h = both_right (ltb x.lead 2048) (ltb x.newest 2048) h

module _ (x : Block) (h : block_fits x ≡ true) where
  tests : (number_fits (get_or x.links 0 None) ≡ true) × (number_fits (get_or x.links 1 None) ≡ true) × (number_fits x.under ≡ true) × (number_fits x.elder ≡ true) × (ltb x.slot 32 ≡ true) × (ltb x.lead 2048 ≡ true) × (ltb x.newest 2048 ≡ true)
  tests = seven (number_fits (get_or x.links 0 None)) (number_fits (get_or x.links 1 None)) (number_fits x.under) (number_fits x.elder) (ltb x.slot 32) (ltb x.lead 2048) (ltb x.newest 2048) h

  pub taken_fits : (e w : ℕ) → block_fits (taken_block x e w) ≡ true
  taken_fits e w =
      let s = tests in
      together true true (number_fits x.under) (number_fits x.elder) (ltb x.slot 32) (ltb x.lead 2048) (ltb x.newest 2048) refl refl s.2 s.3 s.4 s.5 s.6

  pub slot_fits : (r : ℕ) → r < 32 → block_fits (with_slot x r) ≡ true
  slot_fits r low =
      let s = tests in
      together (number_fits (get_or x.links 0 None)) (number_fits (get_or x.links 1 None)) (number_fits x.under) (number_fits x.elder) (ltb r 32) (ltb x.lead 2048) (ltb x.newest 2048) s.0 s.1 s.2 s.3 (grind (arith, nat_tests, low)) s.5 s.6

  pub link_fits : (i : ℕ) (to : Option ℕ) → number_fits to ≡ true → block_fits (with_link x i to) ≡ true
  link_fits i to n =
      let s = tests in
      together _ _ (number_fits x.under) (number_fits x.elder) (ltb x.slot 32) (ltb x.lead 2048) (ltb x.newest 2048) (number_set x.links i to 0 s.0 n) (number_set x.links i to 1 s.1 n) s.2 s.3 s.4 s.5 s.6

  pub retired_fits : (o : Option Batch) (batch : Batch) → batch_fits o ≡ true → batch_fits (Some batch) ≡ true → block_fits (retired_block x o batch.lead) ≡ true
  retired_fits o batch own joined =
      let s = tests in
      together (number_fits (get_or x.links 0 None)) (number_fits (get_or x.links 1 None)) (number_fits x.under) (number_fits (newest_of o)) (ltb x.slot 32) (ltb batch.lead 2048) (ltb x.newest 2048)
      s.0 s.1 s.2 (newest_fits o own) s.4 (both_left (ltb batch.lead 2048) (ltb batch.newest 2048) joined) s.6

  pub under_fits : (o : Option ℕ) → number_fits o ≡ true → block_fits (with_under x o) ≡ true
  under_fits o n =
      let s = tests in
      together (number_fits (get_or x.links 0 None)) (number_fits (get_or x.links 1 None)) (number_fits o) (number_fits x.elder) (ltb x.slot 32) (ltb x.lead 2048) (ltb x.newest 2048) s.0 s.1 n s.3 s.4 s.5 s.6

  pub recounted_fits : (count newest : ℕ) → newest < 2048 → block_fits (with_count x count newest) ≡ true
  recounted_fits count newest low =
      let s = tests in
      together (number_fits (get_or x.links 0 None)) (number_fits (get_or x.links 1 None)) (number_fits x.under) (number_fits x.elder) (ltb x.slot 32) (ltb x.lead 2048) (ltb newest 2048) s.0 s.1 s.2 s.3 s.4 s.5 (grind (arith, nat_tests, low))

-- a batch that a block has joined
pub joined_fits : (o : Option Batch) (b e : ℕ) → batch_fits o ≡ true → b < 2048 → batch_fits (Some (joined o b e)) ≡ true
joined_fits None b e own low = grind (arith, nat_tests, low)
joined_fits (Some x) b e own low = let lead = both_left (ltb x.lead 2048) (ltb x.newest 2048) own in grind (arith, nat_tests, low, lead)

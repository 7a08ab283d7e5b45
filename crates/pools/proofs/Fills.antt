-- An array of tests whose first part was written.
use Rattle.std.proofs.Common.{◌≡◌, ℕ, ◌-◌, ◌≤◌, Bool, false, List, ◌++◌, length, drop, replicate, sym, ap, ◌∙◌, arith}
use Rattle.std.proofs.Math.Seq.{drop-append_seam}
use Rattle.std.proofs.lemmas.List.{drop-replicate}
use Rattle.std.proofs.lemmas.Grind.{common_steps}

-- past it stands what stood there
pub filled : (size : ℕ) (first : List Bool) → size ≤ 2048 → length first ≡ size
    → (size ≤ 2048) × (length (first ++ drop size (replicate 2048 false)) ≡ 2048) × (drop size (first ++ drop size (replicate 2048 false)) ≡ replicate (2048 - size) false)
filled size first l long =
    let rest : List Bool = drop size (replicate 2048 false) in (
      l,
      grind (arith, common_steps),
      ap (λ n. drop n (first ++ rest)) (sym long) ∙ drop-append_seam first rest ∙ drop-replicate size 2048 false,
    )

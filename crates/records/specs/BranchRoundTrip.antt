-- Encoding the branch that was decoded restores the eight bytes.
use Rattle.std.specs.Prelude.{◌≡◌, ℕ, List, Ok}
use Rattle.std.proofs.Common.{arith}
use Rattle.std.proofs.lemmas.Bool.Decides.{nat_tests}
use Rattle.records.specs.Layout.{Octets}
use Rattle.records.specs.Branches.{decoded_branch, encoded_branch}
use Rattle.records.specs.declared.branches.Branch.{Branch}
use Rattle.records.specs.EightBytes.{eight, pair_low, pair_high}

pub branch_restores : (bs : List ℕ) (x : Branch) → Octets bs → decoded_branch bs ≡ Ok x → encoded_branch x ≡ bs
branch_restores bs x octets accepted = let whole = eight bs octets.0 in let bytes = octets.1 in grind (arith, nat_tests, pair_low, pair_high)

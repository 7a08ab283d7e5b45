-- The layout of a branch: its unit in bytes 0 and 1, its channels in byte 2, zeros in bytes 3 to 7.
use Rattle.std.specs.Prelude.{ℕ, ◌/◌, ◌%◌, List, [], ◌∷◌, Result, slice_index}
use Rattle.records.specs.Layout.{zeros, pair_at, judged}
use Rattle.records.specs.declared.branches.Branch.{Branch}
use Rattle.records.specs.declared.refusals.RecordFault.{RecordFault}
use Rattle.records.specs.declared.refusals.RecordFault.TheVariants.{TailNotZero}

-- what eight bytes are as a branch
abbrev pub decoded_branch : List ℕ → Result Branch RecordFault
decoded_branch bytes = judged ((zeros bytes 3 5, TailNotZero) ∷ []) (record { unit = pair_at bytes 0; channels = slice_index bytes 2 })

-- the eight bytes of a branch
abbrev pub encoded_branch : Branch → List ℕ
encoded_branch branch = (branch.unit % 256) ∷ (branch.unit / 256 % 256) ∷ branch.channels ∷ 0 ∷ 0 ∷ 0 ∷ 0 ∷ 0 ∷ []

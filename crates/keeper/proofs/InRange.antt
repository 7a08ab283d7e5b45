-- What a number that fits is below.
use Rattle.std.proofs.Common.{◌≡◌, ◌<◌, Bool, true, ◌&&◌, ltb, get_or, Some, None, arith}
use Rattle.std.proofs.lemmas.Bool.Decides.{nat_tests}
use Rattle.machine.specs.declared.states.Batch.{Batch}
use Rattle.machine.specs.declared.states.Block.{Block}
use Rattle.keeper.specs.Fits.{number_fits, batch_fits, block_fits}

-- seven tests that are passed together
pub seven : (a b c d e f g : Bool) → (a && b && c && d && e && f && g) ≡ true → (a ≡ true) × (b ≡ true) × (c ≡ true) × (d ≡ true) × (e ≡ true) × (f ≡ true) × (g ≡ true)
seven a b c d e f g h =
    (grind (arith, h), grind (arith, h), grind (arith, h), grind (arith, h), grind (arith, h), grind (arith, h), grind (arith, h))

pub together : (a b c d e f g : Bool) → a ≡ true → b ≡ true → c ≡ true → d ≡ true → e ≡ true → f ≡ true → g ≡ true → (a && b && c && d && e && f && g) ≡ true
together a b c d e f g p q r s t u v = grind (arith, p, q, r, s, t, u, v)

-- the numbers of a block
pub block_ranges : (x : Block) → block_fits x ≡ true
    → (number_fits (get_or x.links 0 None) ≡ true) × (number_fits (get_or x.links 1 None) ≡ true) × (number_fits x.under ≡ true) × (number_fits x.elder ≡ true) × (x.slot < 32) × (x.lead < 2048) × (x.newest < 2048)
block_ranges x h =
    let s = seven (number_fits (get_or x.links 0 None)) (number_fits (get_or x.links 1 None)) (number_fits x.under) (number_fits x.elder) (ltb x.slot 32) (ltb x.lead 2048) (ltb x.newest 2048) h in
    let slot = s.4 in
    let lead = s.5 in
    let newest = s.6 in
    (s.0, s.1, s.2, s.3, grind (arith, nat_tests), grind (arith, nat_tests), grind (arith, nat_tests))

-- those of a batch
pub batch_ranges : (x : Batch) → batch_fits (Some x) ≡ true → (x.lead < 2048) × (x.newest < 2048)
batch_ranges x h = (grind (arith, nat_tests), grind (arith, nat_tests))

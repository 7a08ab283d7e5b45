-- Encoding the reading that was decoded restores the eight bytes; decoding the one that was encoded gives it back.
use Rattle.std.specs.Prelude.{◌≡◌, ℕ, zero, suc, ◌^◌, ◌<◌, Bool, true, false, cond, not, T, List, Ok, ◌==◌, from_bits, is_nan, to_bits, refl, Float}
use Rattle.std.proofs.Common.{sym, ap, subst, ◌∙◌, arith}
use Rattle.std.specs.Float.{binary32}
use Rattle.std.specs.Float.Ieee.{fits}
use Rattle.std.specs.Float.Ieee.Bits.{to_bits-of_bits, of_bits-to_bits, to_bits-lt}
use Rattle.std.proofs.lemmas.Bool.{eqb-true, ltb-true, not-true}
use Rattle.std.proofs.lemmas.Bool.Decides.{nat_tests}
use Rattle.records.specs.Layout.{Octets}
use Rattle.records.specs.Readings.{allowed, meant, decoded_reading, laid_out, encoded_reading, kept_reading}
use Rattle.records.specs.declared.readings.Reading.{Reading}
use Rattle.records.specs.declared.readings.Reading.TheVariants.{Analogue}
use Rattle.records.specs.EightBytes.{eight, word_first, word_second, word_third, word_fourth, word_below, word_of_bytes}

not_nan : (t : Bool) → t ≡ false → T (not t)
not_nan t e = subst (λ b. T (not b)) (sym e) tt

-- a value that a sort allows is laid out again as it was
laid_again : (sort value : ℕ) → sort < 4 → value < 2 ^ 32 → allowed sort value ≡ true → encoded_reading (meant sort value) ≡ laid_out sort value
laid_again zero value known small right = ap (laid_out 0) (sym (eqb-true value 0 right))
laid_again (suc zero) value known small right =
    let number = not-true (is_nan (from_bits binary32 value)) right in
    ap (λ t. cond t (laid_out 0 0) (laid_out 1 (to_bits binary32 (from_bits binary32 value)))) number
    ∙ ap (laid_out 1) (to_bits-of_bits binary32 value small (not_nan _ number))
laid_again (suc (suc zero)) value known small right = refl
laid_again (suc (suc (suc zero))) value known small right = ap (laid_out 3) (bit value (ltb-true value 2 right))
  where
    bit : (n : ℕ) → n < 2 → cond (n == 1) 1 0 ≡ n
    bit n l = grind arith
laid_again (suc (suc (suc (suc sort)))) value known small right = absurd (omega arith)

-- a value that is no NaN's is the bits of its number
number_again : (value : ℕ) → value < 2 ^ 32 → is_nan (from_bits binary32 value) ≡ false → to_bits binary32 (from_bits binary32 value) ≡ value
number_again value small number = to_bits-of_bits binary32 value small (subst (λ nan. T (not nan)) (sym number) tt)

pub reading_restores : (bs : List ℕ) (x : Reading) → Octets bs → decoded_reading bs ≡ Ok x → encoded_reading x ≡ bs
reading_restores bs x octets accepted = let whole = eight bs octets.0 in let bytes = octets.1 in grind (arith, nat_tests, word_first, word_second, word_third, word_fourth, word_below, number_again)

-- a measured value that is not a NaN is laid out by its bits
pub number_laid : (x : Float) → is_nan x ≡ false → encoded_reading (Analogue x) ≡ laid_out 1 (to_bits binary32 x)
number_laid x number = ap (λ t. cond t (laid_out 0 0) (laid_out 1 (to_bits binary32 x))) number

-- and comes back
pub number_returns : (x : Float) → fits binary32 x ≡ true → is_nan x ≡ false → decoded_reading (laid_out 1 (to_bits binary32 x)) ≡ Ok (kept_reading (Analogue x))
number_returns x fit number =
    let fitting : T (fits binary32 x) = subst T (sym fit) tt in
    rw (word_of_bytes (to_bits binary32 x) (to_bits-lt binary32 x fitting), of_bits-to_bits binary32 x fitting, number)

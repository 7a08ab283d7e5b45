-- Lists of eight bytes, and numbers in several bytes, low byte first.
use Rattle.std.specs.Prelude.{◌≡◌, ℕ, ◌+◌, ◌*◌, ◌/◌, ◌%◌, ◌^◌, ◌<◌, List, [], ◌∷◌, length, slice_index, refl}
use Rattle.std.proofs.Common.{arith}
use Rattle.std.proofs.lemmas.Nat.{from_le_bytes-to_le_bytes_4}

-- a list of eight is its elements
pub eight : (bs : List ℕ) → length bs ≡ 8 → bs ≡ slice_index bs 0 ∷ slice_index bs 1 ∷ slice_index bs 2 ∷ slice_index bs 3 ∷ slice_index bs 4 ∷ slice_index bs 5 ∷ slice_index bs 6 ∷ slice_index bs 7 ∷ []
eight [] e = absurd (omega arith)
eight (a ∷ []) e = absurd (omega arith)
eight (a ∷ b ∷ []) e = absurd (omega arith)
eight (a ∷ b ∷ c ∷ []) e = absurd (omega arith)
eight (a ∷ b ∷ c ∷ d ∷ []) e = absurd (omega arith)
eight (a ∷ b ∷ c ∷ d ∷ p ∷ []) e = absurd (omega arith)
eight (a ∷ b ∷ c ∷ d ∷ p ∷ q ∷ []) e = absurd (omega arith)
eight (a ∷ b ∷ c ∷ d ∷ p ∷ q ∷ r ∷ []) e = absurd (omega arith)
eight (a ∷ b ∷ c ∷ d ∷ p ∷ q ∷ r ∷ s ∷ []) e = refl
eight (a ∷ b ∷ c ∷ d ∷ p ∷ q ∷ r ∷ s ∷ t ∷ ts) e = absurd (omega arith)

-- the bytes of the number in two bytes
module _ (a b : ℕ) (la : a < 256) (lb : b < 256) where
  pub pair_low : (a + b * 256) % 256 ≡ a
  pair_low = omega arith

  pub pair_high : (a + b * 256) / 256 % 256 ≡ b
  pair_high = omega arith

-- the bytes of the number in four bytes
module _ (a b c d : ℕ) (la : a < 256) (lb : b < 256) (lc : c < 256) (ld : d < 256) where
  pub word_first : (a + b * 256 + c * 65536 + d * 16777216) % 256 ≡ a
  word_first = omega arith

  pub word_second : (a + b * 256 + c * 65536 + d * 16777216) / 256 % 256 ≡ b
  word_second = omega arith

  pub word_third : (a + b * 256 + c * 65536 + d * 16777216) / 65536 % 256 ≡ c
  word_third = omega arith

  pub word_fourth : (a + b * 256 + c * 65536 + d * 16777216) / 16777216 % 256 ≡ d
  word_fourth = omega arith

  pub word_below : a + b * 256 + c * 65536 + d * 16777216 < 2 ^ 32
  word_below = omega arith

-- the number in the four bytes of a number
pub word_of_bytes : (n : ℕ) → n < 2 ^ 32 → n % 256 + n / 256 % 256 * 256 + n / 65536 % 256 * 65536 + n / 16777216 % 256 * 16777216 ≡ n
word_of_bytes n small = from_le_bytes-to_le_bytes_4 n small

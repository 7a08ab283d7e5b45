-- The hexadecimal digits of a byte, and those of eight bytes as one number.
use Rattle.std.proofs.Common.{◌≡◌, ℕ, zero, suc, ◌+◌, ◌-◌, ◌*◌, ◌/◌, ◌%◌, ◌^◌, ◌<◌, ◌≤◌, Bool, true, false, cond, List, [], ◌∷◌, ◌++◌, length, replicate, sym, refl, ap, subst, ◌∙◌, append-nil, arith}
use Rattle.std.proofs.lemmas.Bool.{eqb-true, eqb-false}
use Rattle.std.proofs.lemmas.Bool.Decides.{nat_tests}
use Rattle.std.proofs.lemmas.Str.Ascii.{encode_ascii}
use Rattle.std.specs.Prelude.{⊤, ◌==◌, slice_index}
use Rattle.std.specs.Char.{encode_utf8}
use Rattle.std.specs.Fmt.{digits, digits_onto, digit_glyph, padded_integral, format_spec, char_count}
use Rattle.std.specs.Int.{w64, from_be_bytes}
use Rattle.std.specs.List.{flat_map}
use Rattle.records.specs.EightBytes.{eight}
use Rattle.records.specs.Hexadecimal.{digit, byte_digits, bytes_digits, last_digits}
use Rattle.records.specs.Layout.{Octets}

digit_ascii : (n : ℕ) → n < 16 → digit n < 128
digit_ascii n small = grind (arith, nat_tests)

-- a digit as text
pub encode_digit : (n : ℕ) → n < 16 → encode_utf8 (digit n) ≡ digit n ∷ []
encode_digit n small = encode_ascii (digit n) (digit_ascii n small)

-- what `{:x}` writes, with zeros before it

-- a number has no more digits than that
abbrev pub Within : ℕ → ℕ → Type 0
Within zero n = n ≡ 0
Within (suc k) n = Within k (n / 16)

zeros_before : (k : ℕ) (others : List ℕ) → replicate k 48 ++ (48 ∷ others) ≡ 48 ∷ (replicate k 48 ++ others)
zeros_before zero others = refl
zeros_before (suc k) others = ap (λ all. 48 ∷ all) (zeros_before k others)

digits_of_none : (k : ℕ) (others : List ℕ) → last_digits k 0 others ≡ replicate k 48 ++ others
digits_of_none zero others = refl
digits_of_none (suc k) others = digits_of_none k (48 ∷ others) ∙ zeros_before k others

abbrev last : ℕ → ℕ
last n = digit_glyph false (n % 16)

length_before : (j n : ℕ) (others : List ℕ) → length (digits_onto j 16 false n others) ≡ length (digits_onto j 16 false n []) + length others
length_before zero n others = omega arith
length_before (suc j) n others = by (n / 16 == 0) (length_before j (n / 16) (last n ∷ others)) (length_before j (n / 16) (last n ∷ []))
  where
    front : List ℕ → List ℕ
    front rest = digits_onto j 16 false (n / 16) rest

    by : (t : Bool) → length (front (last n ∷ others)) ≡ length (front []) + length (last n ∷ others) → length (front (last n ∷ [])) ≡ length (front []) + length (last n ∷ [])
        → length (cond t (last n ∷ others) (front (last n ∷ others))) ≡ length (cond t (last n ∷ []) (front (last n ∷ []))) + length others
    by true more one = omega arith
    by false more one = omega (arith, more, one)

-- zeros, the digits, and the others behind them
abbrev widened : ℕ → ℕ → ℕ → List ℕ → List ℕ
widened k j n others = replicate (k - length (digits_onto j 16 false n [])) 48 ++ digits_onto j 16 false n others

-- the last digit, where it is not the only one
widened_more : (k j n : ℕ) (others : List ℕ) → (n / 16 ≡ 0 → ⊥) → Within k (n / 16) → k ≤ j
    → ((i : ℕ) → Within (suc i) (n / 16) → suc i ≤ j → widened (suc i) j (n / 16) (last n ∷ others) ≡ last_digits (suc i) (n / 16) (last n ∷ others))
    → replicate (suc k - length (digits_onto j 16 false (n / 16) (last n ∷ []))) 48 ++ digits_onto j 16 false (n / 16) (last n ∷ others) ≡ last_digits k (n / 16) (last n ∷ others)
widened_more zero j n others some within room front = absurd (some within)
widened_more (suc i) j n others some within room front =
    let less : suc (suc i) - length (digits_onto j 16 false (n / 16) (last n ∷ [])) ≡ suc i - length (digits_onto j 16 false (n / 16) []) = omega (arith, length_before j (n / 16) (last n ∷ [])) in
    ap (λ zeros. replicate zeros 48 ++ digits_onto j 16 false (n / 16) (last n ∷ others)) less ∙ front i within room

widened_all : (k j n : ℕ) (others : List ℕ) → Within (suc k) n → suc k ≤ j → widened (suc k) j n others ≡ last_digits (suc k) n others
widened_all k zero n others within room = absurd (omega arith)
widened_all k (suc j) n others within room = by (n / 16 == 0) refl (λ i. widened_all i j (n / 16) (last n ∷ others))
  where
    by : (t : Bool) → (n / 16 == 0) ≡ t → ((i : ℕ) → Within (suc i) (n / 16) → suc i ≤ j → widened (suc i) j (n / 16) (last n ∷ others) ≡ last_digits (suc i) (n / 16) (last n ∷ others))
        → replicate (suc k - length (cond t (last n ∷ []) (digits_onto j 16 false (n / 16) (last n ∷ [])))) 48 ++ cond t (last n ∷ others) (digits_onto j 16 false (n / 16) (last n ∷ others)) ≡ last_digits k (n / 16) (last n ∷ others)
    by true e front =
        let none : n / 16 ≡ 0 = eqb-true (n / 16) 0 e in
        let zeros : suc k - 1 ≡ k = omega arith in
        ap (λ i. replicate i 48 ++ (last n ∷ others)) zeros ∙ sym (ap (λ m. last_digits k m (last n ∷ others)) none ∙ digits_of_none k (last n ∷ others))
    by false e front = widened_more k j n others (eqb-false (n / 16) 0 e) within (omega (arith, room)) front

padded_16 : (numeral : List ℕ) → padded_integral (format_spec 32 0 4 16 (2 ^ 64 - 1)) false [] numeral ≡ replicate (16 - length numeral) 48 ++ numeral
unfolding padded_integral char_count
padded_16 numeral =
    let zeros : 16 - length numeral - 0 - 0 ≡ 16 - length numeral = omega arith in
    ap (λ k. replicate k 48 ++ (numeral ++ [])) zeros ∙ ap (λ xs. replicate (16 - length numeral) 48 ++ xs) (append-nil numeral)

widened_16 : (n : ℕ) → Within 16 n → replicate (16 - length (digits 16 false n)) 48 ++ digits 16 false n ≡ last_digits 16 n []
unfolding digits
widened_16 n within = widened_all 15 64 n [] within (omega arith)

-- what `{:016x}` writes of a number of 64 bits
pub sixteen_padded : (n : ℕ) → n < 2 ^ 64 → padded_integral (format_spec 32 0 4 16 (2 ^ 64 - 1)) false [] (digits 16 false n) ≡ last_digits 16 n []
sixteen_padded n small = padded_16 (digits 16 false n) ∙ widened_16 n (omega (arith, small))

-- the digits of the number that bytes write

-- that number behind another, byte 0 first
abbrev pub worth : List ℕ → ℕ → ℕ
worth [] number = number
worth (byte ∷ bytes) number = worth bytes (number * 256 + byte)

-- so many digits, and two for each byte
abbrev pub with_bytes : List ℕ → ℕ → ℕ
with_bytes [] k = k
with_bytes (byte ∷ bytes) k = with_bytes bytes (suc (suc k))

two_for_each : (bytes : List ℕ) (k : ℕ) → with_bytes bytes k ≡ k + 2 * length bytes
two_for_each [] k = omega arith
two_for_each (byte ∷ bytes) k = omega (arith, two_for_each bytes (suc (suc k)))

two_digits : (k number byte : ℕ) (others : List ℕ) → byte < 256 → last_digits (suc (suc k)) (number * 256 + byte) others ≡ last_digits k number (digit (byte / 16) ∷ digit (byte % 16) ∷ others)
two_digits k number byte others small =
    let all : ℕ = number * 256 + byte in
    let front : all / 16 / 16 ≡ number = omega (arith, small) in
    let high : all / 16 % 16 ≡ byte / 16 = omega (arith, small) in
    let low : all % 16 ≡ byte % 16 = omega (arith, small) in
    λ i. last_digits k (front i) (digit (high i) ∷ digit (low i) ∷ others)

digits_behind : (bytes : List ℕ) (k number : ℕ) → ((i : ℕ) → slice_index bytes i < 256) → last_digits (with_bytes bytes k) (worth bytes number) [] ≡ last_digits k number (flat_map byte_digits bytes)
digits_behind [] k number small = refl
digits_behind (byte ∷ bytes) k number small = digits_behind bytes (suc (suc k)) (number * 256 + byte) (λ i. small (suc i)) ∙ two_digits k number byte (flat_map byte_digits bytes) (small 0)

worth_of_eight : (bytes : List ℕ) → length bytes ≡ 8 → from_be_bytes w64 bytes ≡ worth bytes 0
worth_of_eight bytes e = omega arith ∙ sym (ap (λ all. worth all 0) (eight bytes e))

-- the digits of the number of eight bytes are those of the bytes
pub digits_of_bytes : (bytes : List ℕ) (n : ℕ) → Octets bytes → n ≡ from_be_bytes w64 bytes → last_digits 16 n [] ≡ bytes_digits bytes
digits_of_bytes bytes n octets number =
    let count : with_bytes bytes 0 ≡ 16 = omega (arith, octets.0, two_for_each bytes 0) in
    ap (λ m. last_digits 16 m []) (number ∙ worth_of_eight bytes octets.0)
    ∙ sym (ap (λ k. last_digits k (worth bytes 0) []) count)
    ∙ digits_behind bytes 0 0 octets.1

-- How bytes are printed and written in hexadecimal digits.
use Rattle.std.specs.Prelude.{ℕ, zero, suc, ◌+◌, ◌*◌, ◌/◌, ◌%◌, cond, ◌&&◌, List, [], ◌∷◌, length, Some, None, Option, ◌==◌, nat_lt}
use Rattle.std.specs.List.{flat_map}
use Rattle.std.specs.Char.{digit_value}

-- the lower-case digit of a number below sixteen: from '0' on, and past nine from 'a' on
abbrev pub digit : ℕ → ℕ
digit number = cond (nat_lt number 10) (48 + number) (87 + number)

-- a byte's two digits, the high one first
abbrev pub byte_digits : ℕ → List ℕ
byte_digits byte = digit (byte / 16) ∷ digit (byte % 16) ∷ []

-- the digits of several bytes, one byte after another
abbrev pub bytes_digits : List ℕ → List ℕ
bytes_digits bytes = flat_map byte_digits bytes

-- the last so many digits of a number, before others
abbrev pub last_digits : ℕ → ℕ → List ℕ → List ℕ
last_digits zero number others = others
last_digits (suc count) number others = last_digits count (number / 16) (digit (number % 16) ∷ others)

-- the byte that two hexadecimal digits of either case write, the high one first
abbrev pub byte_of : ℕ → ℕ → Option ℕ
byte_of high low = cond (nat_lt (digit_value high) 16 && nat_lt (digit_value low) 16) (Some (digit_value high * 16 + digit_value low)) None

-- a byte before others, where there are both
abbrev pub before : Option ℕ → Option (List ℕ) → Option (List ℕ)
before None rest = None
before (Some byte) None = None
before (Some byte) (Some bytes) = Some (byte ∷ bytes)

-- the bytes that digits write, two to a byte
unfoldable pub bytes_of : List ℕ → Option (List ℕ)
bytes_of [] = Some []
bytes_of (odd ∷ []) = None
bytes_of (high ∷ low ∷ digits) = before (byte_of high low) (bytes_of digits)

-- the bytes that sixteen digits write
unfoldable pub eight_bytes : List ℕ → Option (List ℕ)
eight_bytes digits = cond (length digits == 16) (bytes_of digits) None

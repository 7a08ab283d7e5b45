-- The bytes of digits, read a pair at a time: the bytes so far, and those of the digits left.
use Rattle.std.proofs.Common.{◌≡◌, ℕ, ◌+◌, ◌-◌, ◌<◌, ◌≤◌, eqb, List, [], ◌∷◌, ◌++◌, length, get_or, take, drop, set, Some, None, Option, sym, refl, ap, ◌∙◌, append_assoc, append-nil, arith}
use Rattle.std.proofs.lemmas.List.{take_more_set, take_all, take_rest}
use Rattle.std.proofs.lemmas.Bool.{ne_eqb}
use Rattle.std.specs.Bool.{then_some}
use Rattle.std.specs.Option.{option_map}
use Rattle.records.specs.Hexadecimal.{byte_of, before, bytes_of, eight_bytes}

-- bytes after those so far
abbrev after : List ℕ → Option (List ℕ) → Option (List ℕ)
after so_far rest = option_map (λ bytes. so_far ++ bytes) rest

-- the byte that the first two digits left write
abbrev next : List ℕ → Option ℕ
next left = byte_of (get_or left 0 0) (get_or left 1 0)

-- the digits after those two
abbrev past : List ℕ → List ℕ
past left = take (length left - 2) (drop 2 left)

-- the digits write the bytes so far, and then what those left write
pub record IsReadTo (digits so_far left : List ℕ) : Type 0 where
  pub same : bytes_of digits ≡ after so_far (bytes_of left)

-- nothing is read yet
pub none_read : (digits : List ℕ) → IsReadTo digits [] digits
none_read digits = record { same = same (bytes_of digits) }
  where
    same : (rest : Option (List ℕ)) → rest ≡ after [] rest
    same None = refl
    same (Some bytes) = refl

after_one : (so_far : List ℕ) (byte : ℕ) (rest : Option (List ℕ)) → after so_far (before (Some byte) rest) ≡ after (so_far ++ (byte ∷ [])) rest
after_one so_far byte None = refl
after_one so_far byte (Some bytes) = ap Some (sym (append_assoc so_far (byte ∷ []) bytes))

-- digits that begin with a pair
begun : (left : List ℕ) → 2 ≤ length left → bytes_of left ≡ before (next left) (bytes_of (past left))
unfolding bytes_of
begun [] two = absurd (omega arith)
begun (odd ∷ []) two = absurd (omega arith)
begun (high ∷ low ∷ left) two = ap (λ rest. before (byte_of high low) (bytes_of rest)) (sym (take_rest (high ∷ low ∷ left) 2))

module _ (digits bytes left : List ℕ) (k : ℕ) (read : IsReadTo digits (take k bytes) left) where
  next_pair : (byte : Option ℕ) → byte ≡ next left → 2 ≤ length left → bytes_of digits ≡ after (take k bytes) (before byte (bytes_of (past left)))
  next_pair byte e two = read.same ∙ ap (after (take k bytes)) (begun left two ∙ ap (λ byte. before byte (bytes_of (past left))) (sym e))

  -- the next pair writes a byte
  pub pair_read : (byte : ℕ) → k < length bytes → 2 ≤ length left → Some byte ≡ next left → IsReadTo digits (take (k + 1) (set bytes k byte)) (past left)
  pair_read byte room two e = record {
    same = next_pair (Some byte) e two ∙ after_one (take k bytes) byte (bytes_of (past left)) ∙ ap (λ so_far. after so_far (bytes_of (past left))) (sym (take_more_set bytes k byte room));
  }

  -- the next pair writes none
  pub pair_refused : 2 ≤ length left → None ≡ next left → eight_bytes digits ≡ None
  unfolding eight_bytes
  pair_refused two e = let none : bytes_of digits ≡ None = next_pair None e two in grind arith

-- there are not sixteen digits
pub not_sixteen : (digits : List ℕ) → (length digits ≡ 16 → ⊥) → eight_bytes digits ≡ None
unfolding eight_bytes
not_sixteen digits e = grind arith

-- eight pairs are read: all, if no digit is left
pub pairs_all : (digits bytes left : List ℕ) (k : ℕ) → IsReadTo digits (take k bytes) left → length bytes ≤ k → 16 + length left ≡ length digits → then_some (eqb (length left) 0) bytes ≡ eight_bytes digits
unfolding eight_bytes bytes_of
pairs_all digits bytes [] k read full long = let whole = take_all k bytes full in let e = read.same in grind (arith, append-nil)
pairs_all digits bytes (digit ∷ left) k read full long =
    ap (λ empty. then_some empty bytes) (ne_eqb (length (digit ∷ left)) 0 (λ e. omega arith)) ∙ sym (not_sixteen digits (omega arith))

-- the steps of reading
pub ruleset pairs = (none_read, pair_read, pair_refused, not_sixteen, pairs_all)

-- The entry of a line that begins with a kind and a blank.
use Rattle.std.proofs.Common.{◌≡◌, ℕ, ◌-◌, cond, eqb, List, length, get_or, take, drop, None, Option, sym, ap, ◌∙◌}
use Rattle.std.proofs.lemmas.List.{take_rest}
use Rattle.std.specs.Option.{option_map}
use Rattle.records.specs.Hexadecimal.{eight_bytes}
use Rattle.records_lines.specs.Lines.{entry_of}
use Rattle.records_lines.specs.declared.lines.Entry.TheVariants.{Reading, Branch}

module _ (line : List ℕ) (bytes : Option (List ℕ)) (blank : get_or line 1 0 ≡ 32) (read : bytes ≡ eight_bytes (take (length line - 2) (drop 2 line))) where
  rest_read : eight_bytes (drop 2 line) ≡ bytes
  rest_read = ap eight_bytes (sym (take_rest line 2)) ∙ sym read

  begun : {kind : ℕ} → get_or line 0 0 ≡ kind → entry_of line ≡ cond (eqb kind 49) (option_map Reading bytes) (cond (eqb kind 50) (option_map Branch bytes) None)
  begun {kind} known =
      ap (λ b. cond (eqb b 32) (cond (eqb (get_or line 0 0) 49) (option_map Reading (eight_bytes (drop 2 line))) (cond (eqb (get_or line 0 0) 50) (option_map Branch (eight_bytes (drop 2 line))) None)) None) blank
      ∙ ap (λ k. cond (eqb k 49) (option_map Reading (eight_bytes (drop 2 line))) (cond (eqb k 50) (option_map Branch (eight_bytes (drop 2 line))) None)) known
      ∙ ap (λ bs. cond (eqb kind 49) (option_map Reading bs) (cond (eqb kind 50) (option_map Branch bs) None)) rest_read

  pub of_reading : get_or line 0 0 ≡ 49 → option_map Reading bytes ≡ entry_of line
  of_reading known = sym (begun known)

  pub of_branch : get_or line 0 0 ≡ 50 → option_map Branch bytes ≡ entry_of line
  of_branch known = sym (begun known)

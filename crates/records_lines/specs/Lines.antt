-- What a line writes.
use Rattle.std.specs.Prelude.{ℕ, cond, List, drop, None, Option, ◌==◌, slice_index}
use Rattle.std.specs.Option.{option_map}
use Rattle.records.specs.Hexadecimal.{eight_bytes}
use Rattle.records_lines.specs.declared.lines.Entry.{Entry}
use Rattle.records_lines.specs.declared.lines.Entry.TheVariants.{Reading, Branch}

-- the entry of a line: '1' for a reading or '2' for a branch, a blank, and sixteen digits
abbrev pub entry_of : List ℕ → Option Entry
entry_of line =
    cond (slice_index line 1 == 32)
    (cond (slice_index line 0 == 49) (option_map Reading (eight_bytes (drop 2 line)))
    (cond (slice_index line 0 == 50) (option_map Branch (eight_bytes (drop 2 line)))
    None))
    None

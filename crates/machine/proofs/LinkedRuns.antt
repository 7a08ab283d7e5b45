-- That every call keeps right what is kept of the names.
use Rattle.std.proofs.Common.{◌≡◌, ℕ, ◌<◌, Bool, true, false, sym, refl, subst}
use Rattle.pools.specs.Counts.{tally}
use Rattle.std.proofs.lemmas.Bool.{false≢true}
use Rattle.machine.specs.declared.calls.Call.{Call}
use Rattle.machine.specs.declared.calls.Call.TheVariants.{Take, Look, Drop, Retire, Relink, Write, Read, Turn}
use Rattle.machine.specs.Machine.{State, write_checks, written, read_checks, found, after}
use Rattle.machine.specs.Turns.{turn}
use Rattle.machine.specs.Linking.{LinkedRight}
use Rattle.machine.proofs.RunsInTime.{judged_same}
use Rattle.machine.proofs.LinkedParts.{Dead}
use Rattle.machine.proofs.LinkedTurns.{FreeNumber, turn_linked, turn_finds}
use Rattle.machine.proofs.LinkedCalls.{take_linked, look_linked, drop_linked, retire_linked, relink_linked}

-- whether a call takes the number that the pool hands out next
abbrev pub takes : {R : Type 0} → State R → Call R → ℕ → Bool
takes s (Take w) n = false
takes s (Look w h c) n = false
takes s (Drop w) n = false
takes s (Retire w b) n = false
takes s (Relink w c expected new) n = false
takes s (Write w b x) n = false
takes s (Read w h) n = false
takes s (Turn w) n = (turn s.core s.inside n w).taken

-- what a call has to find: a number that it takes is below 2,048 and no live block's, and no block that it gives back is live
abbrev pub Side : {R : Type 0} → State R → Call R → ℕ → Type 0
Side s c n = (takes s c n ≡ true → FreeNumber s.core n) × Dead s.core (after s c n).given

pub linked_after : {R : Type 0} (s : State R) (c : Call R) (n : ℕ) → LinkedRight s.core → Side s c n → LinkedRight (after s c n).to.core
linked_after s (Take w) n o side = take_linked s.core o w
linked_after s (Look w h c) n o side = look_linked s.core o w h c
linked_after s (Drop w) n o side = drop_linked s.core o w
linked_after s (Retire w b) n o side = retire_linked s.core o w b
linked_after s (Relink w c expected new) n o side = relink_linked s.core o w c expected new
linked_after s (Write w b x) n o side = subst LinkedRight (sym (judged_same s w (write_checks s w b) (written s b x) refl)) o
linked_after s (Read w h) n o side = subst LinkedRight (sym (judged_same s w (read_checks s w h) (found s w h) refl)) o
linked_after s (Turn w) n o side = turn_linked s.core o w s.inside n side.0 side.1

-- a call takes a number only where the pool has one
pub takes_finds : {R : Type 0} (s : State R) (c : Call R) (n : ℕ) → takes s c n ≡ true → 0 < tally s.inside
takes_finds s (Take w) n e = absurd (false≢true e)
takes_finds s (Look w h c) n e = absurd (false≢true e)
takes_finds s (Drop w) n e = absurd (false≢true e)
takes_finds s (Retire w b) n e = absurd (false≢true e)
takes_finds s (Relink w c expected new) n e = absurd (false≢true e)
takes_finds s (Write w b x) n e = absurd (false≢true e)
takes_finds s (Read w h) n e = absurd (false≢true e)
takes_finds s (Turn w) n e = turn_finds s.core s.inside n w e

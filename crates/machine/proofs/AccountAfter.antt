-- That every call keeps the keeper and its account in agreement.
use Rattle.std.proofs.Common.{ℕ}
use Rattle.machine.specs.declared.calls.Call.{Call}
use Rattle.machine.specs.declared.calls.Call.TheVariants.{Take, Look, Drop, Retire, Relink, Write, Read, Turn}
use Rattle.machine.specs.Machine.{State, after}
use Rattle.machine.specs.Account.{Account, noted, Agrees}
use Rattle.machine.proofs.Sides.{Sides}
use Rattle.machine.proofs.AccountOfCalls.{take_fine, look_fine, drop_fine, retire_fine, relink_fine, write_fine, read_fine}
use Rattle.machine.proofs.AccountOfTurns.{turn_fine}

pub agrees_after : {R : Type 0} (a : Account) (s : State R) (c : Call R) (n : ℕ) → Agrees a s.core → Sides s.core s.inside n (after s c n)
    → Agrees (noted a c (after s c n).reply (after s c n).to.inside) (after s c n).to.core
agrees_after a s (Take w) n ag = take_fine a s n w ag
agrees_after a s (Look w h c) n ag = look_fine a s n w ag h c
agrees_after a s (Drop w) n ag = drop_fine a s n w ag
agrees_after a s (Retire w b) n ag = retire_fine a s n w ag b
agrees_after a s (Relink w c expected new) n ag = relink_fine a s n w ag c expected new
agrees_after a s (Write w b x) n ag = write_fine a s n w ag b x
agrees_after a s (Read w h) n ag = read_fine a s n w ag h
agrees_after a s (Turn w) n ag = turn_fine a s n w ag

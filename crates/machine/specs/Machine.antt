-- The keeper as a whole: its making, and what every call does to it, its pool and the record table.
use Rattle.std.specs.Prelude.{ℕ, Bool, false, cond, ◌&&◌, List, [], ◌∷◌, length, is_some, Some, None, Ok, Err, Option, Result, ◌==◌, nat_le, slice_set}
use Rattle.std.specs.List.{slice_get}
use Rattle.std.specs.Option.{option_map}
use Rattle.figures.specs.declared.limits.Form.{Form}
use Rattle.figures.specs.declared.limits.Figure.{Figure}
use Rattle.figures.specs.declared.limits.Figure.TheVariants.{Workers, Holds, Blocks, Live, TakingPeriod, TryingPeriod, StartingEra}
use Rattle.figures.specs.Limits.{value, most}
use Rattle.pools.specs.Counts.{tally}
use Rattle.machine.specs.declared.calls.Answer.{Answer}
use Rattle.machine.specs.declared.calls.Call.{Call}
use Rattle.machine.specs.declared.calls.Call.TheVariants.{Take, Look, Drop, Retire, Relink, Write, Read, Turn}
use Rattle.machine.specs.declared.calls.Value.{Value}
use Rattle.machine.specs.declared.calls.Value.TheVariants.{Block, Record}
use Rattle.machine.specs.declared.refusals.KeeperFault.{KeeperFault}
use Rattle.machine.specs.declared.refusals.Refusal.{Refusal}
use Rattle.machine.specs.declared.refusals.Refusal.TheVariants.{Misfit, Stranger, Busy, OutOfHand}
use Rattle.machine.specs.declared.states.Core.{Core}
use Rattle.machine.specs.State.{fresh}
use Rattle.machine.specs.Hands.{owns, shown}
use Rattle.machine.specs.Moves.{Move, over}
use Rattle.machine.specs.Turns.{turn}
use Rattle.machine.specs.Calls.{is_worker, is_hold, is_block, free, take, look, drop, retire, relink}

-- the keeper, for each number whether it is in the pool, and the record table
pub record State (R : Type 0) : Type 0 where
  pub core : Core
  pub inside : List Bool
  pub table : List R

-- what a call answers, or the fault that it is refused with
abbrev pub Reply : Type 0 → Type 0
Reply R = Result (Answer R) KeeperFault

-- where a call leads, what it answers, and which blocks it gives back, in order
pub record Step (R : Type 0) : Type 0 where
  pub to : State R
  pub reply : Reply R
  pub given : List ℕ

-- whether a figure is within its limits
abbrev pub fits : Form → Figure → Bool
fits form figure = nat_le 1 (value form figure) && nat_le (value form figure) (most form figure)

-- whether each figure of a form is
abbrev pub all_fit : Form → Bool
all_fit form = fits form Workers && fits form Holds && fits form Blocks && fits form Live && fits form TakingPeriod && fits form TryingPeriod && fits form StartingEra

-- the making: a misfit where a figure is outside its limits, or the pool has not as many numbers as there are blocks, all in
abbrev pub make : Form → List Bool → Result Core KeeperFault
make form inside =
    cond (all_fit form && length inside == form.blocks && tally inside == form.blocks)
    (Ok (fresh form))
    (Err (record { refusal = Misfit; place = 0 }))

-- what a call of worker w is told of a move
abbrev pub told : {R : Type 0} → ℕ → Result (Bool × Option ℕ × ℕ) Refusal → Reply R
told w (Ok a) = Ok (record { goes_on = a.0; value = option_map Block a.1; given = a.2 })
told w (Err r) = Err (record { refusal = r; place = w })

-- a move of worker w, over the pool
abbrev pub stepped : {R : Type 0} → State R → ℕ → ℕ → Move → Step R
stepped s n w m =
    let o = over m s.inside n in
    record { to = record { core = o.core; inside = o.inside; table = s.table }; reply = told w o.answer; given = m.given }

-- a call of worker w that leaves the keeper and its pool as they were
abbrev pub answered : {R : Type 0} → State R → List R → Reply R → Step R
answered s table r = record { to = record { core = s.core; inside = s.inside; table = table }; reply = r; given = [] }

-- it is finished with a value
abbrev pub finished : {R : Type 0} → Option (Value R) → Reply R
finished v = Ok (record { goes_on = false; value = v; given = 0 })

-- checks in order, and then what is done where all are passed
abbrev pub judged : {R : Type 0} → State R → ℕ → List (Bool × Refusal) → Step R → Step R
judged s w [] done = done
judged s w (c ∷ cs) done = cond c.0 (judged s w cs done) (answered s s.table (Err (record { refusal = c.1; place = w })))

-- the checks of a write
abbrev pub write_checks : {R : Type 0} → State R → ℕ → ℕ → List (Bool × Refusal)
write_checks s w b =
    (is_worker s.core w && is_block s.core b, Stranger)
    ∷ (free s.core w, Busy)
    ∷ ((length s.table == s.core.form.blocks), Misfit)
    ∷ (owns s.core w b, OutOfHand)
    ∷ []

-- that record alone is replaced
abbrev pub written : {R : Type 0} → State R → ℕ → R → Step R
written s b x = answered s (slice_set s.table b x) (finished None)

-- write
abbrev pub write : {R : Type 0} → State R → ℕ → ℕ → R → Step R
write s w b x = judged s w (write_checks s w b) (written s b x)

-- the record of a block that is shown, if one is
abbrev pub record_of : {R : Type 0} → List R → Option ℕ → Option R
record_of table None = None
record_of table (Some b) = slice_get table b

-- the record of the block that worker w's hold h shows
abbrev pub shown_record : {R : Type 0} → State R → ℕ → ℕ → Option R
shown_record s w h = record_of s.table (shown s.core w h)

-- the checks of a read
abbrev pub read_checks : {R : Type 0} → State R → ℕ → ℕ → List (Bool × Refusal)
read_checks s w h =
    (is_worker s.core w && is_hold s.core h, Stranger)
    ∷ (free s.core w, Busy)
    ∷ ((length s.table == s.core.form.blocks), Misfit)
    ∷ (is_some (shown_record s w h), OutOfHand)
    ∷ []

-- that record is the value
abbrev pub found : {R : Type 0} → State R → ℕ → ℕ → Step R
found s w h = answered s s.table (finished (option_map Record (shown_record s w h)))

-- read
abbrev pub read : {R : Type 0} → State R → ℕ → ℕ → Step R
read s w h = judged s w (read_checks s w h) (found s w h)

-- what a call leads to, where n is the number that the pool hands out next
abbrev pub after : {R : Type 0} → State R → Call R → ℕ → Step R
after s (Take w) n = stepped s n w (take s.core w)
after s (Look w h c) n = stepped s n w (look s.core w h c)
after s (Drop w) n = stepped s n w (drop s.core w)
after s (Retire w b) n = stepped s n w (retire s.core w b)
after s (Relink w c expected new) n = stepped s n w (relink s.core w c expected new)
after s (Write w b x) n = write s w b x
after s (Read w h) n = read s w h
after s (Turn w) n = stepped s n w (turn s.core s.inside n w)

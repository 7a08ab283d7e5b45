-- What the holds show, who took each block, and the record that it was linked with: kept from the calls, their answers and the table alone.
use Rattle.std.specs.Prelude.{ℕ, Bool, cond, not, ◌&&◌, List, is_some, Some, None, Ok, Err, Option}
use Rattle.std.specs.List.{slice_get}
use Rattle.machine.specs.declared.calls.Answer.{Answer}
use Rattle.machine.specs.declared.calls.Call.{Call}
use Rattle.machine.specs.declared.calls.Call.TheVariants.{Take, Look, Drop, Retire, Relink, Write, Read, Turn}
use Rattle.machine.specs.declared.calls.Value.{Value}
use Rattle.machine.specs.declared.calls.Value.TheVariants.{Block, Record}
use Rattle.machine.specs.Cells.{names_it}
use Rattle.machine.specs.Machine.{Reply}
use Rattle.machine.specs.Account.{Doing, nothing, taking, looking, dropping, trying, Account, put}

-- by worker and hold, what is shown; by block, the worker that took it last, and whether that worker has linked it since, with the
-- table's entry under its number at that moment, if there was one
pub record Sight (R : Type 0) : Type 0 where
  pub shows : ℕ → ℕ → Option ℕ
  pub taker : ℕ → Option ℕ
  pub linked : ℕ → Option (Option R)

-- at the making nothing is shown, and no block was taken or linked
abbrev pub unseen : {R : Type 0} → Sight R
unseen = record { shows = λ w h. None; taker = λ b. None; linked = λ b. None }

-- worker w's hold h shows x
abbrev pub now_shows : {R : Type 0} → Sight R → ℕ → ℕ → Option ℕ → Sight R
now_shows e w h x = record { shows = put e.shows w (put (e.shows w) h x); taker = e.taker; linked = e.linked }

-- no hold of worker w shows anything
abbrev pub shows_nothing : {R : Type 0} → Sight R → ℕ → Sight R
shows_nothing e w = record { shows = put e.shows w (λ h. None); taker = e.taker; linked = e.linked }

-- worker w took a block, if it is one
abbrev pub taken_by : {R : Type 0} → Sight R → ℕ → Option ℕ → Sight R
taken_by e w None = e
taken_by e w (Some b) = record { shows = e.shows; taker = put e.taker b (Some w); linked = put e.linked b None }

-- whether worker w took block b last and has not linked it since
abbrev pub to_link : {R : Type 0} → Sight R → ℕ → ℕ → Bool
to_link e w b = names_it (e.taker b) w && not (is_some (e.linked b))

-- worker w put a block into a cell, if it is one: its taker's first such relink links it
abbrev pub linked_by : {R : Type 0} → Sight R → ℕ → Option ℕ → List R → Sight R
linked_by e w None table = e
linked_by e w (Some b) table = cond (to_link e w b) (record { shows = e.shows; taker = e.taker; linked = put e.linked b (Some (slice_get table b)) }) e

-- the block that a value is, if it is one
abbrev pub block_of : {R : Type 0} → Option (Value R) → Option ℕ
block_of None = None
block_of (Some (Block b)) = Some b
block_of (Some (Record x)) = None

-- what a finished task tells, by what worker w was doing and the value
abbrev pub finished_with : {R : Type 0} → Sight R → ℕ → Doing → Option (Value R) → Sight R
finished_with e w nothing v = e
finished_with e w taking v = taken_by e w (block_of v)
finished_with e w (looking h) v = now_shows e w h (block_of v)
finished_with e w dropping v = e
finished_with e w trying v = e

-- what an accepted call tells, with the table then
abbrev pub shown_by : {R : Type 0} → Sight R → Account → Call R → Answer R → List R → Sight R
shown_by e a (Take w) x table = e
shown_by e a (Look w h c) x table = now_shows e w h None
shown_by e a (Drop w) x table = shows_nothing e w
shown_by e a (Retire w b) x table = e
shown_by e a (Relink w c expected new) x table = linked_by e w new table
shown_by e a (Write w b y) x table = e
shown_by e a (Read w h) x table = e
shown_by e a (Turn w) x table = cond x.goes_on e (finished_with e w (a.doing w) x.value)

-- what a call and its reply tell: a refusal tells nothing
abbrev pub watched : {R : Type 0} → Sight R → Account → Call R → Reply R → List R → Sight R
watched e a c (Ok x) table = shown_by e a c x table
watched e a c (Err fault) table = e

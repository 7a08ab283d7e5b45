-- The account: which blocks are live and which are retired, kept from the calls, their answers and the pool alone.
use Rattle.std.specs.Prelude.{◌≡◌, ℕ, ◌+◌, ◌<◌, Bool, true, false, cond, not, ◌&&◌, List, length, Some, None, Ok, Err, Option, ◌==◌, slice_index_or}
use Rattle.pools.specs.Counts.{bit}
use Rattle.machine.specs.declared.calls.Answer.{Answer}
use Rattle.machine.specs.declared.calls.Call.{Call}
use Rattle.machine.specs.declared.calls.Call.TheVariants.{Take, Look, Drop, Retire, Relink, Write, Read, Turn}
use Rattle.machine.specs.declared.calls.Value.{Value}
use Rattle.machine.specs.declared.calls.Value.TheVariants.{Block, Record}
use Rattle.machine.specs.declared.refusals.Refusal.{Refusal}
use Rattle.machine.specs.declared.refusals.Refusal.TheVariants.{Misfit, Stranger, Busy, Idle as NoTask, OutOfHand, Withdrawn, Linked, Full, Dry, EraSpent, SelfLink, Moved}
use Rattle.machine.specs.declared.states.Standing.{Standing}
use Rattle.machine.specs.declared.states.Standing.TheVariants.{Pooled, Live, Retired}
use Rattle.machine.specs.declared.states.Task.{Task}
use Rattle.machine.specs.declared.states.Task.TheVariants.{Idle, TakeEra, TakeBlock, LookCell, LookEra, LookList, LookWalk, LookAgain, LookWrite, DropList, DropWalk, DropEra, TryVisit, TryHang, TryLast}
use Rattle.machine.specs.declared.states.Core.{Core}
use Rattle.machine.specs.State.{block, worker, live_block}
use Rattle.machine.specs.Machine.{Reply}

-- what a worker is doing, as the calls and their answers tell; a looking is with a hold
pub data Doing : Type 0 where
  nothing : Doing
  taking : Doing
  looking : ℕ → Doing
  dropping : Doing
  trying : Doing

-- what each worker is doing, which blocks are live and which are retired
pub record Account : Type 0 where
  pub doing : ℕ → Doing
  pub live : ℕ → Bool
  pub retired : ℕ → Bool

-- x is put down under number i
abbrev pub put : {A : Type 0} → (ℕ → A) → ℕ → A → ℕ → A
put f i x j = cond (j == i) x (f j)

-- at the making nobody does anything, and no block is live or retired
abbrev pub opened : Account
opened = record { doing = λ w. nothing; live = λ b. false; retired = λ b. false }

-- worker w now does this
abbrev pub now_does : Account → ℕ → Doing → Account
now_does a w d = record { doing = put a.doing w d; live = a.live; retired = a.retired }

-- block b was taken
abbrev pub was_taken : Account → ℕ → Account
was_taken a b = record { doing = a.doing; live = put a.live b true; retired = put a.retired b false }

-- block b was retired
abbrev pub was_retired : Account → ℕ → Account
was_retired a b = record { doing = a.doing; live = put a.live b false; retired = put a.retired b true }

-- whether it is a taking
abbrev pub is_taking : Doing → Bool
is_taking nothing = false
is_taking taking = true
is_taking (looking h) = false
is_taking dropping = false
is_taking trying = false

-- a block that is the value of a finished taking was taken
abbrev pub with_value : {R : Type 0} → Account → Doing → Option (Value R) → Account
with_value a d None = a
with_value a d (Some (Record x)) = a
with_value a d (Some (Block b)) = cond (is_taking d) (was_taken a b) a

-- what an accepted call tells
abbrev pub accepted : {R : Type 0} → Account → Call R → Answer R → Account
accepted a (Take w) x = now_does a w taking
accepted a (Look w h c) x = now_does a w (looking h)
accepted a (Drop w) x = now_does a w dropping
accepted a (Retire w b) x = cond x.goes_on (now_does (was_retired a b) w trying) (was_retired a b)
accepted a (Relink w c expected new) x = a
accepted a (Write w b y) x = a
accepted a (Read w h) x = a
accepted a (Turn w) x = cond x.goes_on a (now_does (with_value a (a.doing w) x.value) w nothing)

-- whether a turn that is refused so ends the worker's task
abbrev pub ends_task : Refusal → Bool
ends_task Misfit = true
ends_task Stranger = false
ends_task Busy = true
ends_task NoTask = false
ends_task OutOfHand = true
ends_task Withdrawn = true
ends_task Linked = true
ends_task Full = true
ends_task (Dry fault) = true
ends_task EraSpent = true
ends_task SelfLink = true
ends_task Moved = true

-- what a refused call tells: only of a turn anything
abbrev pub turned_down : {R : Type 0} → Account → Call R → Refusal → Account
turned_down a (Take w) r = a
turned_down a (Look w h c) r = a
turned_down a (Drop w) r = a
turned_down a (Retire w b) r = a
turned_down a (Relink w c expected new) r = a
turned_down a (Write w b y) r = a
turned_down a (Read w h) r = a
turned_down a (Turn w) r = cond (ends_task r) (now_does a w nothing) a

-- what a call and its reply tell
abbrev pub heard : {R : Type 0} → Account → Call R → Reply R → Account
heard a c (Ok x) = accepted a c x
heard a c (Err fault) = turned_down a c fault.refusal

-- a block whose number is in is not retired
abbrev pub without_in : Account → List Bool → Account
without_in a inside = record { doing = a.doing; live = a.live; retired = λ b. a.retired b && not (slice_index_or inside b false) }

-- the account after a call, by its reply and which numbers are in then
abbrev pub noted : {R : Type 0} → Account → Call R → Reply R → List Bool → Account
noted a c r inside = without_in (heard a c r) inside

-- what a worker with this task is doing
abbrev pub doing_of : Task → Doing
doing_of Idle = nothing
doing_of TakeEra = taking
doing_of TakeBlock = taking
doing_of (LookCell h c) = looking h
doing_of (LookEra h c seen) = looking h
doing_of (LookList h c e) = looking h
doing_of (LookWalk h c b) = looking h
doing_of (LookAgain h c) = looking h
doing_of (LookWrite h c e) = looking h
doing_of (DropList h) = dropping
doing_of (DropWalk h b) = dropping
doing_of (DropEra h) = dropping
doing_of (TryVisit r b aside) = trying
doing_of (TryHang b left hung) = trying
doing_of (TryLast hung) = trying

-- whether a block is retired
abbrev pub is_retired : Standing → Bool
is_retired Pooled = false
is_retired Live = false
is_retired Retired = true

-- the keeper agrees with the account
pub record Agrees (a : Account) (k : Core) : Type 0 where
  -- each worker's task is of the kind that the worker does
  pub same_doing : (w : ℕ) → a.doing w ≡ doing_of (worker k w).task
  -- the same blocks are live, and the same are retired
  pub same_live : (b : ℕ) → a.live b ≡ live_block k b
  pub same_retired : (b : ℕ) → a.retired b ≡ is_retired (block k b).standing

-- of each block of the pool one is so: its number is in, it is live, or it is retired
abbrev pub OneStanding : Account → List Bool → Type 0
OneStanding a inside = (b : ℕ) → b < length inside → bit (slice_index_or inside b false) + bit (a.live b) + bit (a.retired b) ≡ 1

-- Runs: calls one after another, with the number that the pool hands out next at each.
use Rattle.std.specs.Prelude.{◌≡◌, ℕ, ◌+◌, ◌<◌, Bool, true, false, cond, List, [], ◌∷◌, ◌++◌, length, take, drop, None, Ok, Err, Option, slice_index, slice_index_or}
use Rattle.figures.specs.declared.limits.Form.{Form}
use Rattle.pools.specs.Counts.{tally}
use Rattle.pools.specs.Orders.{first}
use Rattle.machine.specs.declared.calls.Call.{Call}
use Rattle.machine.specs.declared.calls.Value.{Value}
use Rattle.machine.specs.Refusals.{number}
use Rattle.machine.specs.State.{fresh}
use Rattle.machine.specs.Machine.{State, Reply, Step, after}

-- a keeper as it is made, over a pool with these numbers in, with a table
abbrev pub start : {R : Type 0} → Form → List Bool → List R → State R
start form inside table = record { core = fresh form; inside = inside; table = table }

-- the state after calls, where the pool hands out these numbers; every call is done, also where numbers are missing
abbrev pub ends : {R : Type 0} → State R → List (Call R) → List ℕ → State R
ends s [] ns = s
ends s (c ∷ cs) [] = ends (after s c 0).to cs []
ends s (c ∷ cs) (n ∷ ns) = ends (after s c n).to cs ns

-- what the calls answer
abbrev pub replies : {R : Type 0} → State R → List (Call R) → List ℕ → List (Reply R)
replies s [] ns = []
replies s (c ∷ cs) [] = (after s c 0).reply ∷ replies (after s c 0).to cs []
replies s (c ∷ cs) (n ∷ ns) = (after s c n).reply ∷ replies (after s c n).to cs ns

-- where any number is in, the one that is handed out is
abbrev pub Chosen : List Bool → ℕ → Type 0
Chosen inside n = 0 < tally inside → slice_index_or inside n false ≡ true

-- the calls lead from one state to another with these answers, where the pool hands out these numbers
pub record Led {R : Type 0} (from : State R) (calls : List (Call R)) (answers : List (Reply R)) (to : State R) (numbers : List ℕ) : Type 0 where
  -- a number for each call, one that is in if any is
  pub many : length numbers ≡ length calls
  pub chosen : (i : ℕ) → i < length calls → Chosen (ends from (take i calls) numbers).inside (slice_index numbers i)
  pub answered : answers ≡ replies from calls numbers
  pub end : to ≡ ends from calls numbers

-- a state beside the list of the numbers in, the one handed out next first
pub record Beside (R : Type 0) : Type 0 where
  pub state : State R
  pub order : List ℕ

-- a stack puts a number that is given back first
abbrev pub on_stack : List ℕ → ℕ → List ℕ
on_stack order n = n ∷ order

-- a row puts it last
abbrev pub in_row : List ℕ → ℕ → List ℕ
in_row order n = order ++ (n ∷ [])

-- the order after numbers are given back
abbrev pub given_to : (List ℕ → ℕ → List ℕ) → List ℕ → List ℕ → List ℕ
given_to puts order [] = order
given_to puts order (n ∷ ns) = given_to puts (puts order n) ns

-- the order after a call that leaves these numbers in and gives these back: without its first where that was handed out
abbrev pub reordered : (List ℕ → ℕ → List ℕ) → List ℕ → List Bool → List ℕ → List ℕ
reordered puts order inside given = given_to puts (cond (slice_index_or inside (first order) false) order (drop 1 order)) given

-- one call over such a pool
abbrev pub beside : {R : Type 0} → (List ℕ → ℕ → List ℕ) → Beside R → Step R → Beside R
beside puts b step = record { state = step.to; order = reordered puts b.order step.to.inside step.given }

-- the end of calls over such a pool
abbrev pub ends_beside : {R : Type 0} → (List ℕ → ℕ → List ℕ) → Beside R → List (Call R) → Beside R
ends_beside puts b [] = b
ends_beside puts b (c ∷ cs) = ends_beside puts (beside puts b (after b.state c (first b.order))) cs

-- what they answer
abbrev pub replies_beside : {R : Type 0} → (List ℕ → ℕ → List ℕ) → Beside R → List (Call R) → List (Reply R)
replies_beside puts b [] = []
replies_beside puts b (c ∷ cs) =
    let step = after b.state c (first b.order) in
    step.reply ∷ replies_beside puts (beside puts b step) cs

-- a line that is printed of a call: 0 where it is finished, 1 where it goes on, or 100 more than the refusal's number; the value; the blocks given back
pub record Line (R : Type 0) : Type 0 where
  pub status : ℕ
  pub value : Option (Value R)
  pub given : ℕ

-- the line of an answer
abbrev pub line : {R : Type 0} → Reply R → Line R
line (Ok a) = record { status = cond a.goes_on 1 0; value = a.value; given = a.given }
line (Err fault) = record { status = 100 + number fault.refusal; value = None; given = 0 }

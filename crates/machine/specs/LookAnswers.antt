-- What a finished look answers: something that its cell named at a turn of that same look.
use Rattle.std.specs.Prelude.{◌≡◌, ℕ, Bool, true, false, cond, ◌&&◌, ◌||◌, List, replicate, Ok, Err, Option}
use Rattle.std.specs.Option.{option_map}
use Rattle.figures.specs.Limits.{Fit}
use Rattle.figures.specs.declared.limits.Form.{Form}
use Rattle.machine.specs.declared.calls.Call.{Call}
use Rattle.machine.specs.declared.calls.Call.TheVariants.{Take, Look, Drop, Retire, Relink, Write, Read, Turn}
use Rattle.machine.specs.declared.calls.Value.TheVariants.{Block}
use Rattle.machine.specs.declared.states.Core.{Core}
use Rattle.machine.specs.Cells.{home, held, same_content}
use Rattle.machine.specs.Calls.{or_none}
use Rattle.machine.specs.Machine.{State, Reply, Step}
use Rattle.machine.specs.Runs.{start}
use Rattle.machine.specs.Account.{Doing, nothing, taking, looking, dropping, trying, Account, opened, put, noted}
use Rattle.machine.specs.Structure.{Handed}
use Rattle.machine.specs.Following.{Along}

-- by worker, the cell of its latest look, and what that cell has named at the turns of that look
pub record Looks : Type 0 where
  pub cell : ℕ → ℕ
  pub met : ℕ → Option ℕ → Bool

-- at the making nothing is looked at
abbrev pub unlooked : Looks
unlooked = record { cell = λ w. 0; met = λ w v. false }

-- whether a cell names v, a block or none: the cell is an anchor or a live block's link, it holds v, and a block that it holds is live
abbrev pub names_now : Account → Core → ℕ → Option ℕ → Bool
names_now a k c v = or_none a.live (home c) && same_content (held k c) v && or_none a.live v

-- worker w begins to look at cell c
abbrev pub begun : Looks → ℕ → ℕ → Looks
begun l w c = record { cell = put l.cell w c; met = put l.met w (λ v. false) }

-- worker w is about to do a turn of its look
abbrev pub turned : Looks → Account → Core → ℕ → Looks
turned l a k w = record { cell = l.cell; met = put l.met w (λ v. l.met w v || names_now a k (l.cell w) v) }

-- whether it is a looking
abbrev pub is_looking : Doing → Bool
is_looking nothing = false
is_looking taking = false
is_looking (looking h) = true
is_looking dropping = false
is_looking trying = false

-- an accepted look begins
abbrev pub begun_if : {R : Type 0} → Looks → ℕ → ℕ → Reply R → Looks
begun_if l w c (Ok x) = begun l w c
begun_if l w c (Err fault) = l

-- what a call tells, by the keeper before it and the reply
abbrev pub looked : {R : Type 0} → Looks → Account → Core → Call R → Reply R → Looks
looked l a k (Take w) r = l
looked l a k (Look w h c) r = begun_if l w c r
looked l a k (Drop w) r = l
looked l a k (Retire w b) r = l
looked l a k (Relink w c expected new) r = l
looked l a k (Write w b y) r = l
looked l a k (Read w h) r = l
looked l a k (Turn w) r = cond (is_looking (a.doing w)) (turned l a k w) l

-- this account beside that of what is live
pub record Lookout : Type 0 where
  pub account : Account
  pub looks : Looks

abbrev pub first_lookout : Lookout
first_lookout = record { account = opened; looks = unlooked }

abbrev pub lookout_on : {R : Type 0} → Lookout → State R → Call R → Step R → Lookout
lookout_on x s c step = record {
  account = noted x.account c step.reply step.to.inside;
  looks = looked x.looks x.account s.core c step.reply;
}

-- a finished look of worker w answers with a block or none that its cell named at an earlier turn of it
abbrev pub AnswersMet : {R : Type 0} → Looks → ℕ → Doing → Reply R → Type 0
AnswersMet l w d (Ok x) = is_looking d ≡ true → x.goes_on ≡ false → (v : Option ℕ) × (x.value ≡ option_map Block v) × (l.met w v ≡ true)
AnswersMet l w d (Err fault) = Unit {0}

-- what is so of every call
abbrev pub LookAnswers : {R : Type 0} → Lookout → Call R → Step R → Type 0
LookAnswers x (Take w) step = Unit {0}
LookAnswers x (Look w h c) step = Unit {0}
LookAnswers x (Drop w) step = Unit {0}
LookAnswers x (Retire w b) step = Unit {0}
LookAnswers x (Relink w c expected new) step = Unit {0}
LookAnswers x (Write w b y) step = Unit {0}
LookAnswers x (Read w h) step = Unit {0}
LookAnswers x (Turn w) step = AnswersMet x.looks w (x.account.doing w) step.reply

-- over every run of every keeper within its limits, every choice of the pool and every table of records R
abbrev pub LooksAnswerNamed : Type 0 → Type 0
LooksAnswerNamed R =
    (form : Form) (table : List R) (calls : List (Call R)) (numbers : List ℕ) → Fit form
    → Handed (start form (replicate form.blocks true) table) calls numbers
    → Along lookout_on (λ x s. Unit {0}) LookAnswers first_lookout (start form (replicate form.blocks true) table) calls numbers

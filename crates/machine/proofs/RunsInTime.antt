-- That every run keeps eras in order.
use Rattle.std.proofs.Common.{◌≡◌, ℕ, zero, suc, ◌<◌, ◌≤◌, Bool, List, [], ◌∷◌, take, sym, refl, subst, arith}
use Rattle.figures.specs.Limits.{Fit}
use Rattle.figures.specs.declared.limits.Form.{Form}
use Rattle.machine.specs.declared.calls.Call.{Call}
use Rattle.machine.specs.declared.calls.Call.TheVariants.{Take, Look, Drop, Retire, Relink, Write, Read, Turn}
use Rattle.machine.specs.declared.refusals.Refusal.{Refusal}
use Rattle.machine.specs.declared.states.Core.{Core}
use Rattle.machine.specs.State.{fresh, fresh_block, blank_block, fresh_reservation, fresh_worker, blank_worker}
use Rattle.machine.specs.Machine.{State, Step, judged, write_checks, written, read_checks, found, after}
use Rattle.machine.specs.Runs.{start, ends}
use Rattle.machine.specs.Eras.{InTime, InOrder, ErasInOrder}
use Rattle.machine.proofs.Passing.{by_test}
use Rattle.machine.proofs.Stores.{replicate_all}
use Rattle.machine.proofs.TasksInTime.{turn_kept}
use Rattle.machine.proofs.CallsInTime.{take_kept, look_kept, drop_kept, retire_kept, relink_kept}

pub fresh_in_order : (form : Form) → Fit form → InOrder form form.starting_era (fresh form)
fresh_in_order form fit = record {
  same_form = refl;
  later = omega arith;
  not_past = fit.6.1;
  births = replicate_all (λ x. x.birth ≤ form.starting_era) blank_block fresh_block 2048 (omega arith) (omega arith);
  reserved = replicate_all (λ x. x.era ≤ form.starting_era) fresh_reservation fresh_reservation 32 (omega arith) (omega arith);
  takings = replicate_all (λ x. x.takings < form.taking_period) blank_worker fresh_worker 8 fit.4.0 fit.4.0;
  tasks = replicate_all (λ x. InTime form.holds form.starting_era x.task) blank_worker fresh_worker 8 tt tt;
}

-- a write or a read leaves the keeper as it was
pub judged_same : {R : Type 0} (s : State R) (w : ℕ) (cs : List (Bool × Refusal)) (done : Step R) → done.to.core ≡ s.core → (judged s w cs done).to.core ≡ s.core
judged_same s w [] done e = e
judged_same s w (c ∷ cs) done e = by_test (λ (x : Step _). x.to.core ≡ s.core) c.0 _ _ (λ _. judged_same s w cs done e) (λ _. refl)

module _ {R : Type 0} (form : Form) (since : ℕ) (fit : Fit form) where
  -- a call keeps eras in order
  pub after_kept : (s : State R) (c : Call R) (n : ℕ) → InOrder form since s.core → InOrder form since (after s c n).to.core
  after_kept s (Take w) n o = take_kept form since s.core o w
  after_kept s (Look w h c) n o = look_kept form since s.core o w h c
  after_kept s (Drop w) n o = drop_kept form since s.core o w fit.1.0
  after_kept s (Retire w b) n o = retire_kept form since s.core o w b
  after_kept s (Relink w c expected new) n o = relink_kept form since s.core o w c expected new
  after_kept s (Write w b x) n o = subst (InOrder form since) (sym (judged_same s w (write_checks s w b) (written s b x) refl)) o
  after_kept s (Read w h) n o = subst (InOrder form since) (sym (judged_same s w (read_checks s w h) (found s w h) refl)) o
  after_kept s (Turn w) n o = turn_kept form since s.core o w s.inside n

  -- so do calls
  pub ends_kept : (calls : List (Call R)) (numbers : List ℕ) (s : State R) → InOrder form since s.core → InOrder form since (ends s calls numbers).core
  ends_kept [] numbers s o = o
  ends_kept (c ∷ cs) [] s o = ends_kept cs [] _ (after_kept s c 0 o)
  ends_kept (c ∷ cs) (n ∷ ns) s o = ends_kept cs ns _ (after_kept s c n o)

-- a keeper in order is so since its own era
pub since_now : (form : Form) (since : ℕ) (k : Core) → InOrder form since k → InOrder form k.era k
since_now form since k o = record { same_form = o.same_form; later = omega arith; not_past = o.not_past; births = o.births; reserved = o.reserved; takings = o.takings; tasks = o.tasks }

-- what comes later in a run goes on from what came earlier
pub from_then : {R : Type 0} (form : Form) (fit : Fit form) (calls : List (Call R)) (numbers : List ℕ) (s : State R) (i j : ℕ) → i ≤ j → InOrder form form.starting_era s.core
    → InOrder form (ends s (take i calls) numbers).core.era (ends s (take j calls) numbers).core
from_then form fit calls numbers s zero j le o = ends_kept form s.core.era fit (take j calls) numbers s (since_now form _ s.core o)
from_then form fit calls numbers s (suc i) zero le o = absurd (omega arith)
from_then form fit [] numbers s (suc i) (suc j) le o = since_now form _ s.core o
from_then form fit (c ∷ cs) [] s (suc i) (suc j) le o = from_then form fit cs [] _ i j (omega arith) (after_kept form _ fit s c 0 o)
from_then form fit (c ∷ cs) (n ∷ ns) s (suc i) (suc j) le o = from_then form fit cs ns _ i j (omega arith) (after_kept form _ fit s c n o)

pub eras_in_order : (R : Type 0) → ErasInOrder R
eras_in_order R form inside table calls numbers i j fit le = from_then form fit calls numbers (start form inside table) i j le (fresh_in_order form fit)

-- That in every run a look answers what its cell named at a turn of it.
use Rattle.std.proofs.Common.{◌≡◌, ℕ, ◌<◌, true, false, ◌&&◌, ◌||◌, List, length, get_or, set, replicate, sym, refl, ap, ◌∙◌, subst, arith}
use native.Mathlib.Decide.{ℕ_discrete}
use Rattle.std.proofs.lemmas.Bool.Decides.{nat_tests}
use Rattle.std.proofs.lemmas.Bool.{or_left}
use Rattle.figures.specs.Limits.{Fit}
use Rattle.figures.specs.declared.limits.Form.{Form}
use Rattle.machine.specs.declared.calls.Call.{Call}
use Rattle.machine.specs.declared.calls.Call.TheVariants.{Take, Look, Drop, Retire, Relink, Write, Read, Turn}
use Rattle.machine.specs.declared.states.Task.{Task}
use Rattle.machine.specs.declared.states.Task.TheVariants.{Idle, TakeEra, TakeBlock, LookCell, LookEra, LookList, LookWalk, LookAgain, LookWrite, DropList, DropWalk, DropEra, TryVisit, TryHang, TryLast}
use Rattle.machine.specs.declared.states.Worker.{Worker}
use Rattle.machine.specs.declared.states.Core.{Core}
use Rattle.machine.specs.State.{block, worker, blank_worker, fresh_worker, with_worker}
use Rattle.machine.specs.Moves.{Move, drawn, gain, counted}
use Rattle.machine.specs.Machine.{State, Reply, told, write_checks, written, read_checks, found, after}
use Rattle.machine.specs.Runs.{Chosen, start}
use Rattle.machine.specs.Turns.{step, turn_checks, turn}
use Rattle.machine.specs.Calls.{is_worker, is_hold, is_cell, free_checks, look_checks, look, joined, try_due, retired, retire_checks, retire, relinked, relink_checks}
use Rattle.machine.specs.Account.{Account, put}
use Rattle.machine.specs.LookAnswers.{Looks, unlooked, names_now, begun, turned, is_looking, looked, Lookout, first_lookout, lookout_on, AnswersMet, LookAnswers, LooksAnswerNamed}
use Rattle.machine.proofs.Passing.{by_test, both_left, checked_keeps}
use Rattle.machine.proofs.Stores.{replicate_all}
use Rattle.machine.proofs.StoresByPlace.{set_keeps_at, set_gives_at}
use Rattle.machine.proofs.Doings.{put_here, put_there, relinked_workers, unlinked_workers}
use Rattle.machine.proofs.StepsSound.{few_workers}
use Rattle.machine.proofs.RunsInTime.{judged_same}
use Rattle.machine.proofs.RunsSound.{Whole, Right, call_whole, made_whole}
use Rattle.machine.proofs.LooksMet.{LooksAt, looks_same, step_met}
use Rattle.machine.proofs.AlongRuns.{along}

-- each worker looks at the cell that the account has, and has read what the account has met
abbrev pub LooksRight : Looks → Core → Type 0
LooksRight l k = (w : ℕ) → LooksAt l w (worker k w).task

-- all that is kept
pub record MetRight {R : Type 0} (form : Form) (x : Lookout) (s : State R) : Type 0 where
  pub whole : Whole form x.account s
  pub looks : LooksRight x.looks s.core

-- a turn of a look takes nothing from what was met
turned_keeps : (l : Looks) (a : Account) (k : Core) (w v : ℕ) (t : Task) → LooksAt l v t → LooksAt (turned l a k w) v t
turned_keeps l a k w v Idle h = tt
turned_keeps l a k w v TakeEra h = tt
turned_keeps l a k w v TakeBlock h = tt
turned_keeps l a k w v (LookCell i c) h = h
turned_keeps l a k w v (LookEra i c u) h = (
  h.0,
  elim (ℕ_discrete v w) [
    | yes e ↦ subst (λ z. put l.met w (λ y. l.met w y || names_now a k (l.cell w) y) z u ≡ true) (sym e)
        (ap (λ f. f u) (put_here l.met w (λ y. l.met w y || names_now a k (l.cell w) y)) ∙ or_left (l.met w u) (names_now a k (l.cell w) u) (subst (λ z. l.met z u ≡ true) e h.1))
    | no ne ↦ ap (λ f. f u) (put_there l.met w (λ y. l.met w y || names_now a k (l.cell w) y) v ne) ∙ h.1
  ],
)
turned_keeps l a k w v (LookList i c e) h = h
turned_keeps l a k w v (LookWalk i c b) h = h
turned_keeps l a k w v (LookAgain i c) h = h
turned_keeps l a k w v (LookWrite i c e) h = h
turned_keeps l a k w v (DropList i) h = tt
turned_keeps l a k w v (DropWalk i b) h = tt
turned_keeps l a k w v (DropEra i) h = tt
turned_keeps l a k w v (TryVisit r b n) h = tt
turned_keeps l a k w v (TryHang b n i) h = tt
turned_keeps l a k w v (TryLast i) h = tt

module _ {R : Type 0} (form : Form) (fit : Fit form) where
  module _ (x : Lookout) (s : State R) (p : MetRight form x s) (n : ℕ) (chosen : Chosen s.inside n) where
    abbrev k : Core
    k = s.core

    abbrev l : Looks
    l = x.looks

    there : (w : ℕ) → is_worker k w ≡ true → w < length k.workers
    there w e =
        let lt : w < k.form.workers = grind (arith, nat_tests) in
        let hw : w < form.workers = subst (λ (f : Form). w < f.workers) p.whole.order.same_form lt in
        let q = p.whole.good.0.workers in
        let w8 = few_workers form fit w hw in
        omega arith

    -- a worker has another task, which is no look
    moved : (j : Core) (w : ℕ) (y : Worker) → j.workers ≡ k.workers → LooksAt l w y.task → LooksRight l (with_worker j w y)
    moved j w y ws h = subst (λ us. (v : ℕ) → LooksAt l v (get_or (set us w y) v blank_worker).task) (sym ws) (set_keeps_at (λ v (u : Worker). LooksAt l v u.task) blank_worker k.workers w y p.looks h)

    same : (j : Core) → j.workers ≡ k.workers → LooksRight l j
    same j ws = subst (λ us. (v : ℕ) → LooksAt l v (get_or us v blank_worker).task) (sym ws) p.looks

    abbrev reply : ℕ → Move → Reply R
    reply w m = told w (counted m.answer (gain (drawn m.taken s.inside n) m.given))

    abbrev Then : Call R → ℕ → Move → Type 0
    Then c w m = LooksRight (looked l x.account k c (reply w m)) m.core

    look_right : (w h c : ℕ) → Then (Look w h c) w (look k w h c)
    look_right w h c = checked_keeps (Then (Look w h c) w) k (look_checks k w h c) _ (λ _. p.looks)
        (λ q.
        let lw = there w (both_left (is_worker k w) (is_hold k h) (both_left (is_worker k w && is_hold k h) (is_cell k c) q.0)) in
        set_gives_at (λ v (u : Worker). LooksAt (begun l w c) v u.task) blank_worker k.workers w _ lw
        (λ v ne. looks_same l (begun l w c) v (put_there l.cell w c v ne) (put_there l.met w (λ u. false) v ne) (worker k v).task (p.looks v))
        (put_here l.cell w c))

    retire_right : (w b : ℕ) → Then (Retire w b) w (retire k w b)
    retire_right w b =
        let y = joined (worker k w).batch b (block k b).birth in
        checked_keeps (Then (Retire w b) w) k (retire_checks k w b) _ (λ _. p.looks)
        (λ _. by_test (Then (Retire w b) w) (try_due k y) _ _ (λ _. moved (retired k w b y) w _ (unlinked_workers k b) tt) (λ _. moved (retired k w b y) w _ (unlinked_workers k b) tt))

    abbrev Turned : ℕ → Move → Type 0
    Turned w m = Then (Turn w) w m × AnswersMet l w (x.account.doing w) (reply w m)

    turn_right : (w : ℕ) → Turned w (turn k s.inside n w)
    turn_right w = checked_keeps (Turned w) k (turn_checks k w) (step k s.inside n w (worker k w).task)
        (λ _. (λ v. by_test (λ m. LooksAt m v (worker k v).task) (is_looking (x.account.doing w)) (turned l x.account k w) l (λ _. turned_keeps l x.account k w v (worker k v).task (p.looks v)) (λ _. p.looks v), tt))
        (λ q. step_met s x.account l n w p.whole.agrees p.whole.linked p.looks (there w q.0) (worker k w).task (p.whole.agrees.same_doing w) (p.looks w))

    whole_after : (c : Call R) → Whole form (lookout_on x s c (after s c n)).account (after s c n).to
    unfolding Right
    whole_after c = (call_whole form fit s x.account p.whole n chosen c).0

    then_met : (c : Call R) → LooksRight (lookout_on x s c (after s c n)).looks (after s c n).to.core → MetRight form (lookout_on x s c (after s c n)) (after s c n).to
    then_met c h = record { whole = whole_after c; looks = h }

    pub met_after : (c : Call R) → LookAnswers x c (after s c n) × MetRight form (lookout_on x s c (after s c n)) (after s c n).to
    met_after (Take w) = (tt, then_met (Take w) (checked_keeps (Then (Take w) w) k (free_checks k w) _ (λ _. p.looks) (λ _. moved k w _ refl tt)))
    met_after (Look w h c) = (tt, then_met (Look w h c) (look_right w h c))
    met_after (Drop w) = (tt, then_met (Drop w) (checked_keeps (Then (Drop w) w) k (free_checks k w) _ (λ _. p.looks) (λ _. moved k w _ refl tt)))
    met_after (Retire w b) = (tt, then_met (Retire w b) (retire_right w b))
    met_after (Relink w c expected new) = (tt, then_met (Relink w c expected new) (checked_keeps (Then (Relink w c expected new) w) k (relink_checks k w c expected new) _ (λ _. p.looks) (λ _. same (relinked k w c new) (relinked_workers k w c new))))
    met_after (Write w b y) = (tt, then_met (Write w b y) (same (after s (Write w b y) n).to.core (ap (λ (j : Core). j.workers) (judged_same s w (write_checks s w b) (written s b y) refl))))
    met_after (Read w h) = (tt, then_met (Read w h) (same (after s (Read w h) n).to.core (ap (λ (j : Core). j.workers) (judged_same s w (read_checks s w h) (found s w h) refl))))
    met_after (Turn w) = let q = turn_right w in (q.1, then_met (Turn w) q.0)

  made_met : (table : List R) → MetRight form first_lookout (start form (replicate form.blocks true) table)
  made_met table = record {
    whole = made_whole form fit table;
    looks = λ w. subst (LooksAt unlooked w) (sym (replicate_all (λ y. y.task ≡ Idle) blank_worker fresh_worker 8 refl refl w)) tt;
  }

pub looks_answer_named : (R : Type 0) → LooksAnswerNamed R
looks_answer_named R form table calls numbers fit p =
    along lookout_on (λ x s. Unit {0}) LookAnswers (MetRight form) (λ x s h. tt) (λ x s c n h ch. met_after form fit x s h n ch c) calls numbers first_lookout _ (made_met form fit table) p

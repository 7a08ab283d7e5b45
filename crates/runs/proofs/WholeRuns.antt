-- A run from a making on, with every law.
use Rattle.std.proofs.Common.{◌≡◌, ℕ, Bool, true, List, replicate, Ok, sym, ap, ◌∙◌, subst}
use Rattle.figures.specs.declared.limits.Form.{Form}
use Rattle.machine.specs.declared.calls.Call.{Call}
use Rattle.machine.specs.declared.states.Core.{Core}
use Rattle.machine.specs.Machine.{State, Reply, make}
use Rattle.machine.specs.Runs.{start}
use Rattle.machine.specs.Account.{opened}
use Rattle.machine.specs.Structure.{Handed, Throughout, Structured, GivesRight}
use Rattle.machine.specs.Following.{Along}
use Rattle.machine.specs.Protection.{first_watch, watch_on, ShownKept, AnswersKept}
use Rattle.machine.specs.LookAnswers.{first_lookout, lookout_on, LookAnswers}
use Rattle.machine.specs.CeilingKept.{Low, NeverDry}
use Rattle.machine.proofs.RunsSound.{structure_stands}
use Rattle.machine.proofs.ProtectedRuns.{shown_blocks_kept}
use Rattle.machine.proofs.LooksRuns.{looks_answer_named}
use Rattle.machine.proofs.CeilingRuns.{below_ceiling}
use Rattle.machine.proofs.RunsInTime.{eras_in_order}
use Rattle.keeper.specs.Tables.{state}
use Rattle.runs.specs.Plays.{PlayedSo}
use Rattle.runs.proofs.Full.{made_fit, made_fresh, made_full}
use Rattle.runs.proofs.Goes.{Goes, goes_led}

-- what goes from the keeper that was made on is a run
pub played : {R : Type 0} (form : Form) (inside then : List Bool) (table : List R) (k : Core) (calls : List (Call R)) (answers : List (Reply R)) (end : State R)
    → make form inside ≡ Ok k → then ≡ inside → (ns : List ℕ) × Goes (state k then table) calls answers end ns → PlayedSo form inside table calls answers end
played {R} form inside then table k calls answers end made same p =
    let ns = p.0 in
    let begun : state k then table ≡ start form inside table = λ i. state (made_fresh form inside k made i) (same i) table in
    let q : Goes (start form inside table) calls answers end ns = subst (λ (s : State R). Goes s calls answers end ns) begun p.1 in
    let full = made_full form inside k made in
    let fit = made_fit form inside k made in
    let handed : Handed (start form (replicate form.blocks true) table) calls ns = subst (λ i. Handed (start form i table) calls ns) full q.1 in (
      ns,
      record {
        made = made ∙ ap (λ x. Ok x) (made_fresh form inside k made);
        led = goes_led (start form inside table) calls answers end ns q;
        kept = subst (λ i. Along watch_on ShownKept AnswersKept first_watch (start form i table) calls ns) (sym full) (shown_blocks_kept R form table calls ns fit handed);
        structured = subst (λ i. Throughout Structured GivesRight opened (start form i table) calls ns) (sym full) (structure_stands R form table calls ns fit handed);
        low = subst (λ i. Throughout (Low form) (NeverDry form) opened (start form i table) calls ns) (sym full) (below_ceiling R form table calls ns fit handed);
        looks_met = subst (λ i. Along lookout_on (λ x s. Unit {0}) LookAnswers first_lookout (start form i table) calls ns) (sym full) (looks_answer_named R form table calls ns fit handed);
        eras = λ i j. eras_in_order R form inside table calls ns i j fit;
      },
    )

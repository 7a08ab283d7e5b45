-- That the visits of a try keep batches, lists and walks sound.
use Rattle.std.proofs.Common.{◌≡◌, ℕ, ◌+◌, ◌<◌, ◌≤◌, cond, eqb, ltb, ◌≢◌, List, [], ◌∷◌, length, Some, None, Option, sym, refl, ap, ◌∙◌, subst, arith}
use Rattle.std.proofs.lemmas.Bool.Decides.{nat_tests}
use Rattle.machine.specs.declared.states.Batch.{Batch}
use Rattle.machine.specs.declared.states.Task.{Task}
use Rattle.machine.specs.declared.states.Task.TheVariants.{Idle, TryVisit, TryHang, TryLast}
use Rattle.machine.specs.Trying.{hangings}
use Rattle.machine.proofs.Passing.{by_test}
use Rattle.machine.proofs.Sums.{upd, tot, is}
use Rattle.machine.proofs.Chains.{Chain, Ends, chain_some, ends_rest}
use Rattle.machine.proofs.Mirror.{St, retask}
use Rattle.machine.proofs.Sound.{Gh, Sound, Own, TaskRight, next, hung_of, due, due_of}
use Rattle.machine.proofs.TaskKept.{retask_kept}

-- a list with a last entry is not empty
pub ends_some : (l : ℕ) (xs : List ℕ) → Ends l xs → 1 ≤ length xs
ends_some l [] e = absurd e
ends_some l (x ∷ xs) e = omega arith

-- the task after a visit of place r, of R
abbrev pub visited_of : ℕ → Batch → ℕ → ℕ → ℕ → Task
visited_of R x r b aside = cond (ltb (r + 1) R) (TryVisit (r + 1) b aside) (hangings x aside)

module _ (N R W : ℕ) (s : St) (g : Gh) (c : Sound N R W s g) (w : ℕ) (hw : w < W) (x : Batch) (own : s.batch w ≡ Some x) where
  -- a new task of a worker that visits, in place
  abbrev pub Goes_on : Task → Type 0
  Goes_on t = (rs : List ℕ) × Sound N R W (retask s w t) (record { hung = g.hung; walk = g.walk; members = g.members; rest = upd g.rest w rs })

  module _ (r b₀ n₀ : ℕ) (visits : s.task w ≡ TryVisit r b₀ n₀) where
    goes_on : (t : Task) (rs : List ℕ) → next t ≡ None → hung_of t ≡ 0 → ((p : ℕ → ℕ) → tot p (due t (g.members x.lead) rs) ≤ tot p (g.members x.lead))
        → TaskRight R s.elder g.members (Some x) rs t → Goes_on t
    goes_on t rs no_Walk none_hung fewer right = (
      rs,
      retask_kept N R W s g c w hw t rs (no_Walk ∙ sym (ap next visits))
          (λ p. subst (λ o. tot p (due_of g.members rs o t) ≤ tot p (due_of g.members (g.rest w) o (s.task w))) (sym own)
          (subst (λ u. tot p (due t (g.members x.lead) rs) ≤ tot p (due u (g.members x.lead) (g.rest w))) (sym visits) (fewer p)))
          (none_hung ∙ sym (ap hung_of visits))
          (subst (λ o. TaskRight R s.elder g.members o rs t) (sym own) right),
    )

    newest_chain : Chain s.elder (Some x.newest) (g.members x.lead)
    newest_chain = (subst (Own s g) own (c.own w hw)).1

    -- what comes after a visit, with b next and so many set aside
    pub visited_kept : (b aside : ℕ) (rs : List ℕ) → r < R → aside ≤ r + 1 → Chain s.elder (Some b) rs → Ends x.lead rs → aside + length rs ≡ length (g.members x.lead)
        → ((y : ℕ) → tot (is y) rs ≤ tot (is y) (g.members x.lead)) → Goes_on (visited_of R x r b aside)
    visited_kept b aside rs hr few chain ends long part =
        by_test Goes_on (ltb (r + 1) R) _ _
        (λ e. goes_on (TryVisit (r + 1) b aside) rs refl refl (λ p. omega arith) (x, refl, grind (arith, nat_tests), few, chain, ends, long, part))
        (λ e. by_test Goes_on (eqb aside 0) _ _
        (λ _. goes_on (TryLast 0) rs refl refl (λ p. omega arith) (x, refl, omega arith))
        (λ ne. goes_on (TryHang x.newest aside 0) (g.members x.lead) refl refl (λ p. omega arith)
        (x, refl, grind (arith, nat_tests), let some = ends_some x.lead rs ends in omega arith, omega arith, newest_chain, λ y. omega arith)))

    at_visit : TaskRight R s.elder g.members (Some x) (g.rest w) (TryVisit r b₀ n₀)
    at_visit = subst (λ o. TaskRight R s.elder g.members o (g.rest w) (TryVisit r b₀ n₀)) own
        (subst (TaskRight R s.elder g.members (s.batch w) (g.rest w)) visits (c.tasks w hw))

    same_lead : (y : Batch) → ◌≡◌ {A = Option Batch} (Some x) (Some y) → x ≡ y
    same_lead y e = cc

    -- the facts of a visit, for the worker's own batch
    pub visiting : (r < R) × (n₀ ≤ r) × Chain s.elder (Some b₀) (g.rest w) × Ends x.lead (g.rest w) × (n₀ + length (g.rest w) ≡ length (g.members x.lead)) × ((y : ℕ) → tot (is y) (g.rest w) ≤ tot (is y) (g.members x.lead))
    visiting =
        let v = at_visit in
        let e = same_lead v.0 v.1 in
        subst (λ y. (r < R) × (n₀ ≤ r) × Chain s.elder (Some b₀) (g.rest w) × Ends y.lead (g.rest w) × (n₀ + length (g.rest w) ≡ length (g.members y.lead)) × ((z : ℕ) → tot (is z) (g.rest w) ≤ tot (is z) (g.members y.lead))) (sym e)
        (v.2, v.3, v.4, v.5, v.6, v.7)

    -- a place that is passed over
    pub passed_kept : Goes_on (visited_of R x r b₀ n₀)
    passed_kept = let v = visiting in visited_kept b₀ n₀ (g.rest w) v.0 (omega (arith, v.1)) v.2 v.3 v.4 v.5

    -- a try that has only the lead left ends
    pub failed_kept : Goes_on Idle
    failed_kept = goes_on Idle (g.rest w) refl refl (λ p. omega arith) tt

    -- a block that is not the lead is set aside, and there is one after it
    pub aside_kept : b₀ ≢ x.lead → (d : ℕ) × (s.elder b₀ ≡ Some d) × Goes_on (visited_of R x r d (n₀ + 1))
    aside_kept ne =
        let v = visiting in
        let m = chain_some s.elder b₀ (g.rest w) v.2 in
        after_that m.0 m.1 m.2 (ends_rest x.lead b₀ m.0 (subst (Ends x.lead) m.1 v.3) ne)
      where
        after_that : (bs : List ℕ) → g.rest w ≡ b₀ ∷ bs → Chain s.elder (s.elder b₀) bs → Ends x.lead bs → (d : ℕ) × (s.elder b₀ ≡ Some d) × Goes_on (visited_of R x r d (n₀ + 1))
        after_that [] e chain ends = absurd ends
        after_that (d ∷ ds) e chain ends =
            let v = visiting in
            let len = ap length e in (
              d,
              chain.0,
              visited_kept d (n₀ + 1) (d ∷ ds) v.0 (omega (arith, v.1)) (refl, chain.1) ends (let l = v.4 in omega arith)
                  (λ y. let t = ap (tot (is y)) e in let p = v.5 y in omega arith),
            )

-- That another task of a worker keeps batches, lists and walks sound: in place, and when it takes a list over for a walk.
use Rattle.std.proofs.Common.{◌≡◌, ℕ, ◌<◌, ◌≤◌, cond, eqb, List, [], Some, None, Option, refl, ap, ◌∙◌, subst, arith}
use Rattle.machine.specs.declared.states.Batch.{Batch}
use Rattle.machine.specs.declared.states.HungList.{HungList}
use Rattle.machine.specs.declared.states.HungList.TheVariants.{Off}
use Rattle.machine.specs.declared.states.Task.{Task}
use Rattle.machine.proofs.Sums.{upd, Σ, tot, is, Σ_cong, Σ_change, Σ_upd, upd_same, upd_other, at_upd, at_upd₂}
use Rattle.machine.proofs.Chains.{Chain, chain_none}
use Rattle.machine.proofs.Mirror.{St, retask, relist}
use Rattle.machine.proofs.Sound.{Gh, Sound, TaskRight, head, next, hung_of, hung_for, due, due_of, on, of, to_hang}

-- how many are hung depends on a task only by that
pub hung_for_same : (l : ℕ) (x : Option Batch) (t u : Task) → hung_of t ≡ hung_of u → hung_for l x t ≡ hung_for l x u
hung_for_same l None t u e = refl
hung_for_same l (Some x) t u e = ap (λ n. cond (eqb x.lead l) n 0) e

-- what is due depends on a task only by that
pub due_of_same : (ms : ℕ → List ℕ) (rs : List ℕ) (x : Option Batch) (t u : Task) → ((m r : List ℕ) → due t m r ≡ due u m r) → due_of ms rs x t ≡ due_of ms rs x u
due_of_same ms rs None t u e = refl
due_of_same ms rs (Some x) t u e = e (ms x.lead) rs

module _ (N R W : ℕ) (s : St) (g : Gh) (c : Sound N R W s g) (w : ℕ) (hw : w < W) (t : Task) where
  -- the sums over workers after another task that has hung as much
  hung_sum : hung_of t ≡ hung_of (s.task w) → (l : ℕ) → Σ (λ v. hung_for l (s.batch v) (upd s.task w t v)) W ≡ Σ (λ v. hung_for l (s.batch v) (s.task v)) W
  hung_sum e l = Σ_cong _ _ W (λ v _. hung_for_same l (s.batch v) (upd s.task w t v) (s.task v) (at_upd (λ j x. hung_of x ≡ hung_of (s.task j)) s.task w t e v (λ ne. refl)))

  -- a task with another rest of the batch to come to
  module _ (rs : List ℕ) (same_next : next t ≡ next (s.task w))
      (fewer : (p : ℕ → ℕ) → tot p (due_of g.members rs (s.batch w) t) ≤ tot p (due_of g.members (g.rest w) (s.batch w) (s.task w)))
      (same_hung : hung_of t ≡ hung_of (s.task w)) (right : TaskRight R s.elder g.members (s.batch w) rs t) where
    abbrev pub moved_on : Gh
    moved_on = record { hung = g.hung; walk = g.walk; members = g.members; rest = upd g.rest w rs }

    fewer_due : (p : ℕ → ℕ) → to_hang W (retask s w t) moved_on p ≤ to_hang W s g p
    fewer_due p =
        let d = Σ_change (λ v. tot p (due_of g.members (g.rest v) (s.batch v) (s.task v)))
        (λ v. tot p (due_of g.members (upd g.rest w rs v) (s.batch v) (upd s.task w t v))) w W hw
        (λ v ne. ap (λ x. tot p (due_of g.members x (s.batch v) (upd s.task w t v))) (upd_other g.rest w rs v ne)
        ∙ ap (λ x. tot p (due_of g.members (g.rest v) (s.batch v) x)) (upd_other s.task w t v ne)) in
        let here = ap (λ x. tot p (due_of g.members x (s.batch w) (upd s.task w t w))) (upd_same g.rest w rs)
        ∙ ap (λ x. tot p (due_of g.members rs (s.batch w) x)) (upd_same s.task w t) in
        let f = fewer p in
        omega arith

    pub retask_kept : Sound N R W (retask s w t) moved_on
    retask_kept = record {
      pooled_in = c.pooled_in;
      beyond = c.beyond;
      members_are = c.members_are;
      led = c.led;
      ends_with = c.ends_with;
      own = c.own;
      own_once = c.own_once;
      left = c.left;
      hung_chain = c.hung_chain;
      lists_beyond = c.lists_beyond;
      walk_chain = λ v hv. at_upd (λ j x. Chain s.under (next x) (g.walk j)) s.task w t (rw same_next (c.walk_chain w hw)) v (λ ne. c.walk_chain v hv);
      once = λ b. let f = fewer_due (is b) in let o = c.once b in omega arith;
      entries = c.entries;
      tasks = λ v hv. at_upd₂ (λ j x y. TaskRight R s.elder g.members (s.batch j) y x) s.task g.rest w t rs right v (λ ne. c.tasks v hv);
      even = λ l lead. let h = hung_sum same_hung l in let e = c.even l lead in omega arith;
    }

  -- a task that walks what hung at place r
  module _ (r : ℕ) (hr : r < R) (l : HungList) (no_head : head l ≡ None) (idle : next (s.task w) ≡ None) (walks : next t ≡ head (s.list r))
      (same_due : (m q : List ℕ) → due t m q ≡ due (s.task w) m q) (same_hung : hung_of t ≡ hung_of (s.task w))
      (right : TaskRight R s.elder g.members (s.batch w) (g.rest w) t) where
    abbrev pub taken_over : Gh
    taken_over = record { hung = upd g.hung r []; walk = upd g.walk w (g.hung r); members = g.members; rest = g.rest }

    was_empty : g.walk w ≡ []
    was_empty = chain_none s.under (g.walk w) (subst (λ o. Chain s.under o (g.walk w)) idle (c.walk_chain w hw))

    on_same : (p : ℕ → ℕ) → on R W taken_over p ≡ on R W g p
    on_same p =
        let a = Σ_upd (tot p) g.hung r [] R hr in
        let b = Σ_upd (tot p) g.walk w (g.hung r) W hw in
        let d = ap (tot p) was_empty in
        omega arith

    due_same : (p : ℕ → ℕ) → to_hang W (retask (relist s r l) w t) taken_over p ≡ to_hang W s g p
    due_same p = Σ_cong _ _ W (λ v _. at_upd (λ j x. tot p (due_of g.members (g.rest j) (s.batch j) x) ≡ tot p (due_of g.members (g.rest j) (s.batch j) (s.task j))) s.task w t
        (ap (tot p) (due_of_same g.members (g.rest w) (s.batch w) t (s.task w) same_due)) v (λ ne. refl))

    pub detach_kept : Sound N R W (retask (relist s r l) w t) taken_over
    detach_kept = record {
      pooled_in = c.pooled_in;
      beyond = c.beyond;
      members_are = c.members_are;
      led = c.led;
      ends_with = c.ends_with;
      own = c.own;
      own_once = c.own_once;
      left = c.left;
      hung_chain = λ q hq. at_upd₂ (λ j x y. Chain s.under (head x) y) s.list g.hung r l [] no_head q (λ ne. c.hung_chain q hq);
      lists_beyond = λ q le. at_upd (λ j x. R ≤ j → x ≡ Off) s.list r l (λ k. absurd (omega arith)) q (λ ne k. c.lists_beyond q k) le;
      walk_chain = λ v hv. at_upd₂ (λ j x y. Chain s.under (next x) y) s.task g.walk w t (g.hung r) (rw walks (c.hung_chain r hr)) v (λ ne. c.walk_chain v hv);
      once = λ b. let a = on_same (is b) in let d = due_same (is b) in let o = c.once b in omega arith;
      entries = λ b m. c.entries b (let a = on_same (is b) in omega arith);
      tasks = λ v hv. at_upd (λ j x. TaskRight R s.elder g.members (s.batch j) (g.rest j) x) s.task w t right v (λ ne. c.tasks v hv);
      even = λ m lead. let h = hung_sum same_hung m in let a = on_same (of s.lead m) in let e = c.even m lead in omega arith;
    }

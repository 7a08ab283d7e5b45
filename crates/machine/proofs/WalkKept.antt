-- A worker that walks a block lowers its batch's count by one, and all clauses stay.
use Rattle.std.proofs.Common.{◌≡◌, ℕ, ◌+◌, ◌-◌, ◌*◌, ◌<◌, ◌≤◌, List, ◌∷◌, Some, None, Option, sym, refl, ap, ◌∙◌, subst, arith}
use native.Mathlib.Decide.{ℕ_discrete}
use Rattle.machine.specs.declared.states.Batch.{Batch}
use Rattle.machine.specs.declared.states.Task.{Task}
use Rattle.machine.specs.declared.states.Task.TheVariants.{Idle, TakeEra, TakeBlock, LookCell, LookEra, LookList, LookWalk, LookAgain, LookWrite, DropList, DropWalk, DropEra, TryVisit, TryHang, TryLast}
use Rattle.machine.proofs.Sums.{upd, Σ, tot, is, Σ_cong, Σ_upd, upd_same, upd_other, at_upd, at_upd₂, is_self, is_other}
use Rattle.machine.proofs.Chains.{Chain, chain_some}
use Rattle.machine.proofs.Mirror.{St, retask, recount}
use Rattle.machine.proofs.Owners.{slack}
use Rattle.machine.proofs.Sound.{Gh, Sound, Lead, Own, TaskRight, Alive, AliveBut, next, hung_of, owns, hung_for, due, due_of, of, on, to_hang}

-- a walk has hung nothing, and all of its worker's batch is still to be hung
pub walking_plain : (t : Task) (b : ℕ) → next t ≡ Some b → (hung_of t ≡ 0) × ((ms rest : List ℕ) → due t ms rest ≡ ms)
walking_plain Idle b e = (refl, λ ms rest. refl)
walking_plain TakeEra b e = (refl, λ ms rest. refl)
walking_plain TakeBlock b e = (refl, λ ms rest. refl)
walking_plain (LookCell h c) b e = (refl, λ ms rest. refl)
walking_plain (LookEra h c seen) b e = (refl, λ ms rest. refl)
walking_plain (LookList h c k) b e = (refl, λ ms rest. refl)
walking_plain (LookWalk h c k) b e = (refl, λ ms rest. refl)
walking_plain (LookAgain h c) b e = (refl, λ ms rest. refl)
walking_plain (LookWrite h c k) b e = (refl, λ ms rest. refl)
walking_plain (DropList h) b e = (refl, λ ms rest. refl)
walking_plain (DropWalk h k) b e = (refl, λ ms rest. refl)
walking_plain (DropEra h) b e = (refl, λ ms rest. refl)
walking_plain (TryVisit r k aside) b e = (refl, λ ms rest. refl)
walking_plain (TryHang k left hung) b e = (cc, λ ms rest. cc)
walking_plain (TryLast hung) b e = (cc, λ ms rest. cc)

-- tasks that have hung nothing weigh the same
hung_alike : (l : ℕ) (x : Option Batch) (t u : Task) → hung_of t ≡ 0 → hung_of u ≡ 0 → hung_for l x u ≡ hung_for l x t
hung_alike l None t u h k = refl
hung_alike l (Some x) t u h k = grind arith

due_alike : (members : ℕ → List ℕ) (rest : List ℕ) (x : Option Batch) (t u : Task) → ((ms rest : List ℕ) → due t ms rest ≡ ms) → ((ms rest : List ℕ) → due u ms rest ≡ ms)
    → due_of members rest x u ≡ due_of members rest x t
due_alike members rest None t u h k = refl
due_alike members rest (Some x) t u h k = k (members x.lead) rest ∙ sym (h (members x.lead) rest)

-- counts and walks are no part of what a worker's own batch must be
own_alike : (s z : St) (g h : Gh) (x : Option Batch) → s.standing ≡ z.standing → s.lead ≡ z.lead → s.elder ≡ z.elder → g.members ≡ h.members → Own s g x → Own z h x
own_alike s z g h None a b c d o = tt
own_alike s z g h (Some x) a b c d o = (
  (sym (ap (λ f. f x.lead) a) ∙ o.0.0, sym (ap (λ f. f x.lead) b) ∙ o.0.1),
  subst (λ f. Chain f (Some x.newest) (h.members x.lead)) c (subst (λ ms. Chain s.elder (Some x.newest) (ms x.lead)) d o.1),
)

-- the walk of worker w is bs
abbrev pub walked : Gh → ℕ → List ℕ → Gh
walked g w bs = record { hung = g.hung; walk = upd g.walk w bs; members = g.members; rest = g.rest }

-- worker w has walked block b and has task t
abbrev pub walk_on : St → ℕ → ℕ → Task → St
walk_on s w b t = retask (recount s (s.lead b) (s.count (s.lead b) - 1) (s.newest (s.lead b))) w t

module _ (N R W : ℕ) (s : St) (g : Gh) (c : Sound N R W s g) (small : R ≤ 32) (w b : ℕ) (bs : List ℕ) (t : Task) (hw : w < W)
    (e : next (s.task w) ≡ Some b) (eb : g.walk w ≡ b ∷ bs) (cb : Chain s.under (s.under b) bs) (et : next t ≡ s.under b)
    (pt : (ms rest : List ℕ) → due t ms rest ≡ ms) (ht : hung_of t ≡ 0)
    (right : TaskRight R s.elder g.members (s.batch w) (g.rest w) t) where
  on_walked : (p : ℕ → ℕ) → on R W (walked g w bs) p + p b ≡ on R W g p
  on_walked p =
      let a = Σ_upd (tot p) g.walk w bs W hw in
      let d = ap (tot p) eb in
      omega arith

  walked_lead : Lead s (s.lead b)
  walked_lead = c.led b (c.entries b (let o = on_walked (is b) in let i = is_self b in omega arith))

  walked_hung : (l : ℕ) → Σ (λ v. hung_for l (s.batch v) (upd s.task w t v)) W ≡ Σ (λ v. hung_for l (s.batch v) (s.task v)) W
  walked_hung l = Σ_cong (λ v. hung_for l (s.batch v) (upd s.task w t v)) (λ v. hung_for l (s.batch v) (s.task v)) W
      (λ v hv. at_upd (λ j x. hung_for l (s.batch j) x ≡ hung_for l (s.batch j) (s.task j)) s.task w t
      (hung_alike l (s.batch w) (s.task w) t (walking_plain (s.task w) b e).0 ht) v (λ ne. refl))

  walked_due : (p : ℕ → ℕ) → to_hang W (walk_on s w b t) (walked g w bs) p ≡ to_hang W s g p
  walked_due p = Σ_cong (λ v. tot p (due_of g.members (g.rest v) (s.batch v) (upd s.task w t v))) (λ v. tot p (due_of g.members (g.rest v) (s.batch v) (s.task v))) W
      (λ v hv. at_upd (λ j x. tot p (due_of g.members (g.rest j) (s.batch j) x) ≡ tot p (due_of g.members (g.rest j) (s.batch j) (s.task j))) s.task w t
      (ap (tot p) (due_alike g.members (g.rest w) (s.batch w) (s.task w) t (walking_plain (s.task w) b e).1 pt)) v (λ ne. refl))

  walked_even : (k : ℕ) → Lead s k
      → upd s.count (s.lead b) (s.count (s.lead b) - 1) k + Σ (λ v. hung_for k (s.batch v) (upd s.task w t v)) W
      ≡ on R W (walked g w bs) (of s.lead k) + 1024 * Σ (λ v. owns k (s.batch v)) W
  walked_even k lk =
      let a = walked_hung k in
      let o = c.even k lk in
      let n = on_walked (of s.lead k) in
      let z = slack N R W s g c small k in
      elim (ℕ_discrete k (s.lead b)) [
        | yes i ↦ (
            let u : upd s.count (s.lead b) (s.count (s.lead b) - 1) k ≡ s.count k - 1 = rw i (upd_same s.count (s.lead b) (s.count (s.lead b) - 1)) in
            let m : of s.lead k b ≡ 1 = rw i (is_self (s.lead b)) in
            omega arith)
        | no ne ↦ (
            let u = upd_other s.count (s.lead b) (s.count (s.lead b) - 1) k ne in
            let m : of s.lead k b ≡ 0 = is_other k (s.lead b) (λ i. ne (sym i)) in
            omega arith)
      ]

  walked_sound : Sound N R W (walk_on s w b t) (walked g w bs)
  walked_sound =
      record {
        pooled_in = c.pooled_in;
        beyond = c.beyond;
        members_are = c.members_are;
        led = c.led;
        ends_with = c.ends_with;
        own = λ v hv. own_alike s (walk_on s w b t) g (walked g w bs) (s.batch v) refl refl refl refl (c.own v hv);
        own_once = c.own_once;
        left = λ l ll z. at_upd (λ j x. j ≡ l → Chain s.elder (Some x) (g.members l)) s.newest (s.lead b) (s.newest (s.lead b))
            (λ i. rw i (c.left l ll z)) l (λ ne i. c.left l ll z) refl;
        hung_chain = c.hung_chain;
        lists_beyond = c.lists_beyond;
        walk_chain = λ v hv. at_upd₂ (λ j x y. Chain s.under (next x) y) s.task g.walk w t bs
            (rw et cb) v (λ ne. c.walk_chain v hv);
        once = λ x. let n = walked_due (is x) in let m = on_walked (is x) in let o = c.once x in omega arith;
        entries = λ x lo. c.entries x (let m = on_walked (is x) in omega arith);
        tasks = λ v hv. at_upd (λ j x. TaskRight R s.elder g.members (s.batch j) (g.rest j) x) s.task w t right v (λ ne. c.tasks v hv);
        even = walked_even;
      }

module _ (N R W : ℕ) (s : St) (g : Gh) (c : Sound N R W s g) (small : R ≤ 32) where
  -- worker w walks block b and goes on with task t
  pub walk_keeps : (w b : ℕ) (t : Task) → w < W → next (s.task w) ≡ Some b → next t ≡ s.under b
      → ((ms rest : List ℕ) → due t ms rest ≡ ms) → hung_of t ≡ 0 → TaskRight R s.elder g.members (s.batch w) (g.rest w) t
      → (h : Gh) × Sound N R W (retask (recount s (s.lead b) (s.count (s.lead b) - 1) (s.newest (s.lead b))) w t) h × (h.members ≡ g.members) × (h.rest ≡ g.rest) × Lead s (s.lead b) × (Alive s → AliveBut (retask (recount s (s.lead b) (s.count (s.lead b) - 1) (s.newest (s.lead b))) w t) (s.lead b))
  walk_keeps w b t hw e et pt ht right =
      let k = chain_some s.under b (g.walk w) (subst (λ o. Chain s.under o (g.walk w)) e (c.walk_chain w hw)) in (
        walked g w k.0,
        walked_sound N R W s g c small w b k.0 t hw e k.1 k.2 et pt ht right,
        refl,
        refl,
        walked_lead N R W s g c small w b k.0 t hw e k.1 k.2 et pt ht right,
        λ al l ne ll. rw (upd_other s.count (s.lead b) (s.count (s.lead b) - 1) l ne) (al l ll),
      )

-- Which worker owns a batch, and how far its count is behind.
use Rattle.std.proofs.Common.{◌≡◌, ℕ, ◌*◌, ◌<◌, ◌≤◌, ◌≢◌, List, Some, None, Option, subst, arith}
use Rattle.machine.specs.declared.states.Batch.{Batch}
use Rattle.machine.specs.declared.states.Task.{Task}
use Rattle.machine.specs.declared.states.Task.TheVariants.{Idle, TakeEra, TakeBlock, LookCell, LookEra, LookList, LookWalk, LookAgain, LookWrite, DropList, DropWalk, DropEra, TryVisit, TryHang, TryLast}
use Rattle.machine.proofs.Sums.{Σ, Σ_two, Σ_32}
use Rattle.machine.proofs.Chains.{Chain}
use Rattle.machine.proofs.Mirror.{St}
use Rattle.machine.proofs.Sound.{Gh, Sound, owns, hung_of, hung_for, TaskRight, Lead, Own}

-- the owner of lead l's batch
pub owns_own : (l : ℕ) (x : Batch) → x.lead ≡ l → owns l (Some x) ≡ 1
owns_own l x e = grind arith

pub owns_other : (l : ℕ) (x : Batch) → x.lead ≢ l → owns l (Some x) ≡ 0
owns_other l x e = grind arith

-- a try has hung at most one block for each reservation
pub hung_below : (R : ℕ) (elder : ℕ → Option ℕ) (members : ℕ → List ℕ) (batch : Option Batch) (rest : List ℕ) (t : Task) → TaskRight R elder members batch rest t → hung_of t ≤ R
hung_below R e m b rest Idle o = omega arith
hung_below R e m b rest TakeEra o = omega arith
hung_below R e m b rest TakeBlock o = omega arith
hung_below R e m b rest (LookCell h c) o = omega arith
hung_below R e m b rest (LookEra h c seen) o = omega arith
hung_below R e m b rest (LookList h c x) o = omega arith
hung_below R e m b rest (LookWalk h c x) o = omega arith
hung_below R e m b rest (LookAgain h c) o = omega arith
hung_below R e m b rest (LookWrite h c x) o = omega arith
hung_below R e m b rest (DropList h) o = omega arith
hung_below R e m b rest (DropWalk h x) o = omega arith
hung_below R e m b rest (DropEra h) o = omega arith
hung_below R e m b rest (TryVisit r x aside) o = omega arith
hung_below R e m b rest (TryHang x left hung) o = let z = o.4 in omega arith
hung_below R e m b rest (TryLast hung) o = o.2

slack_one : (l : ℕ) (b : Option Batch) (t : Task) → hung_of t ≤ 32 → hung_for l b t ≤ 32 * owns l b
slack_one l None t h = omega arith
slack_one l (Some x) t h = grind arith

-- what is hung for a batch is at most 32 for each owner
pub slack_of : (R W : ℕ) (elder : ℕ → Option ℕ) (members : ℕ → List ℕ) (batch : ℕ → Option Batch) (rest : ℕ → List ℕ) (task : ℕ → Task)
    → R ≤ 32 → ((w : ℕ) → w < W → TaskRight R elder members (batch w) (rest w) (task w))
    → (l : ℕ) → Σ (λ w. hung_for l (batch w) (task w)) W ≤ 32 * Σ (λ w. owns l (batch w)) W
slack_of R W elder members batch rest task small ok l =
    Σ_32 (λ w. hung_for l (batch w) (task w)) (λ w. owns l (batch w)) W
    (λ w h. slack_one l (batch w) (task w) (let z = hung_below R elder members (batch w) (rest w) (task w) (ok w h) in omega arith))

module _ (N R W : ℕ) (s : St) (g : Gh) (c : Sound N R W s g) where
  pub slack : R ≤ 32 → (l : ℕ) → Σ (λ w. hung_for l (s.batch w) (s.task w)) W ≤ 32 * Σ (λ w. owns l (s.batch w)) W
  slack small l = slack_of R W s.elder g.members s.batch g.rest s.task small c.tasks l

  -- a batch has no second owner
  pub alone : (l w v : ℕ) → w < W → v < W → v ≢ w → owns l (s.batch w) ≡ 1 → owns l (s.batch v) ≡ 0
  alone l w v hw hv ne e =
      let t = Σ_two (λ i. owns l (s.batch i)) w v W hw hv ne in
      let o = c.own_once l in
      omega arith

  -- of a worker with a batch
  pub own_lead : (w : ℕ) (x : Batch) → w < W → s.batch w ≡ Some x → Lead s x.lead
  own_lead w x hw e = let o : Own s g (Some x) = subst (Own s g) e (c.own w hw) in o.0

  pub own_chain : (w : ℕ) (x : Batch) → w < W → s.batch w ≡ Some x → Chain s.elder (Some x.newest) (g.members x.lead)
  own_chain w x hw e = let o : Own s g (Some x) = subst (Own s g) e (c.own w hw) in o.1

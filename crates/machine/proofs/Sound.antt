-- What is always so of batches, lists and walks: the invariant, over the mirror.
use Rattle.std.proofs.Common.{◌≡◌, ℕ, ◌+◌, ◌*◌, ◌<◌, ◌≤◌, cond, ◌&&◌, eqb, ◌≢◌, List, [], length, Some, None, Option}
use Rattle.machine.specs.declared.states.Batch.{Batch}
use Rattle.machine.specs.declared.states.HungList.{HungList}
use Rattle.machine.specs.declared.states.HungList.TheVariants.{Off, Empty, Newest}
use Rattle.machine.specs.declared.states.Standing.TheVariants.{Pooled, Retired}
use Rattle.machine.specs.declared.states.Task.{Task}
use Rattle.machine.specs.declared.states.Task.TheVariants.{Idle, TakeEra, TakeBlock, LookCell, LookEra, LookList, LookWalk, LookAgain, LookWrite, DropList, DropWalk, DropEra, TryVisit, TryHang, TryLast}
use Rattle.machine.proofs.Sums.{Σ, tot, mark, is}
use Rattle.machine.proofs.Chains.{Chain, Ends}
use Rattle.machine.proofs.Mirror.{St}
use Rattle.machine.proofs.Standings.{is_pooled}
use Rattle.machine.specs.Account.{is_retired}

-- lists that no table holds: what hangs at each place, what each worker has still to walk, the blocks of each lead's batch, newest
-- first, and those of a worker's own batch from the next on that its try comes to
pub record Gh : Type 0 where
  pub hung : ℕ → List ℕ
  pub walk : ℕ → List ℕ
  pub members : ℕ → List ℕ
  pub rest : ℕ → List ℕ

-- the newest block on a list
abbrev pub head : HungList → Option ℕ
head Off = None
head Empty = None
head (Newest b) = Some b

-- the block that a walk handles next
abbrev pub next : Task → Option ℕ
next Idle = None
next TakeEra = None
next TakeBlock = None
next (LookCell h c) = None
next (LookEra h c seen) = None
next (LookList h c e) = None
next (LookWalk h c b) = Some b
next (LookAgain h c) = None
next (LookWrite h c e) = None
next (DropList h) = None
next (DropWalk h b) = Some b
next (DropEra h) = None
next (TryVisit r b aside) = None
next (TryHang b left hung) = None
next (TryLast hung) = None

-- how many blocks a try has hung
abbrev pub hung_of : Task → ℕ
hung_of Idle = 0
hung_of TakeEra = 0
hung_of TakeBlock = 0
hung_of (LookCell h c) = 0
hung_of (LookEra h c seen) = 0
hung_of (LookList h c e) = 0
hung_of (LookWalk h c b) = 0
hung_of (LookAgain h c) = 0
hung_of (LookWrite h c e) = 0
hung_of (DropList h) = 0
hung_of (DropWalk h b) = 0
hung_of (DropEra h) = 0
hung_of (TryVisit r b aside) = 0
hung_of (TryHang b left hung) = hung
hung_of (TryLast hung) = hung

-- whether a worker's own batch is that of lead l
abbrev pub owns : ℕ → Option Batch → ℕ
owns l None = 0
owns l (Some x) = mark (eqb x.lead l)

-- how many of it are hung that the count does not know of yet
abbrev pub hung_for : ℕ → Option Batch → Task → ℕ
hung_for l None t = 0
hung_for l (Some x) t = cond (eqb x.lead l) (hung_of t) 0

-- of a batch's blocks, those that a try has still to come to with its hangings
abbrev pub due : Task → List ℕ → List ℕ → List ℕ
due Idle ms rest = ms
due TakeEra ms rest = ms
due TakeBlock ms rest = ms
due (LookCell h c) ms rest = ms
due (LookEra h c seen) ms rest = ms
due (LookList h c e) ms rest = ms
due (LookWalk h c b) ms rest = ms
due (LookAgain h c) ms rest = ms
due (LookWrite h c e) ms rest = ms
due (DropList h) ms rest = ms
due (DropWalk h b) ms rest = ms
due (DropEra h) ms rest = ms
due (TryVisit r b aside) ms rest = ms
due (TryHang b left hung) ms rest = rest
due (TryLast hung) ms rest = []

-- those of a worker's own batch
abbrev pub due_of : (ℕ → List ℕ) → List ℕ → Option Batch → Task → List ℕ
due_of members rest None t = []
due_of members rest (Some x) t = due t (members x.lead) rest

-- b is of the batch of lead l
abbrev pub of : (ℕ → ℕ) → ℕ → ℕ → ℕ
of lead l b = mark (eqb (lead b) l)

-- the weight of all that hangs or is still to be walked
abbrev pub on : ℕ → ℕ → Gh → (ℕ → ℕ) → ℕ
on R W g p = Σ (λ r. tot p (g.hung r)) R + Σ (λ w. tot p (g.walk w)) W

-- the weight of all that is still to be hung
abbrev pub to_hang : ℕ → St → Gh → (ℕ → ℕ) → ℕ
to_hang W s g p = Σ (λ w. tot p (due_of g.members (g.rest w) (s.batch w) (s.task w))) W

-- l leads a batch
abbrev pub Lead : St → ℕ → Type 0
Lead s l = (s.standing l ≡ Retired) × (s.lead l ≡ l)

-- a worker's own batch
abbrev pub Own : St → Gh → Option Batch → Type 0
Own s g None = Unit {0}
Own s g (Some x) = Lead s x.lead × Chain s.elder (Some x.newest) (g.members x.lead)

-- a try is where the blocks of its worker's batch say
abbrev pub TaskRight : ℕ → (ℕ → Option ℕ) → (ℕ → List ℕ) → Option Batch → List ℕ → Task → Type 0
TaskRight R elder members batch rest Idle = Unit {0}
TaskRight R elder members batch rest TakeEra = Unit {0}
TaskRight R elder members batch rest TakeBlock = Unit {0}
TaskRight R elder members batch rest (LookCell h c) = Unit {0}
TaskRight R elder members batch rest (LookEra h c seen) = Unit {0}
TaskRight R elder members batch rest (LookList h c e) = Unit {0}
TaskRight R elder members batch rest (LookWalk h c b) = Unit {0}
TaskRight R elder members batch rest (LookAgain h c) = Unit {0}
TaskRight R elder members batch rest (LookWrite h c e) = Unit {0}
TaskRight R elder members batch rest (DropList h) = Unit {0}
TaskRight R elder members batch rest (DropWalk h b) = Unit {0}
TaskRight R elder members batch rest (DropEra h) = Unit {0}
TaskRight R elder members batch rest (TryVisit r b aside) =
    (x : Batch) × (batch ≡ Some x) × (r < R) × (aside ≤ r) × Chain elder (Some b) rest × Ends x.lead rest × (aside + length rest ≡ length (members x.lead)) × ((y : ℕ) → tot (is y) rest ≤ tot (is y) (members x.lead))
TaskRight R elder members batch rest (TryHang b left hung) =
    (x : Batch) × (batch ≡ Some x) × (1 ≤ left) × (left < length rest) × (hung + left ≤ R) × Chain elder (Some b) rest × ((y : ℕ) → tot (is y) rest ≤ tot (is y) (members x.lead))
TaskRight R elder members batch rest (TryLast hung) = (x : Batch) × (batch ≡ Some x) × (hung ≤ R)

-- the clauses, for N blocks, R reservations and W workers
pub record Sound (N R W : ℕ) (s : St) (g : Gh) : Type 0 where
  -- just the pooled blocks are in the pool
  pub pooled_in : (b : ℕ) → b < N → is_pooled (s.standing b) ≡ s.inside b
  pub beyond : (b : ℕ) → N ≤ b → s.standing b ≡ Pooled
  -- a batch has just the retired blocks that name its lead, each once, and its lead last
  pub members_are : (b l : ℕ) → tot (is b) (g.members l) ≡ mark (is_retired (s.standing b) && eqb (s.lead b) l)
  pub led : (b : ℕ) → s.standing b ≡ Retired → Lead s (s.lead b)
  pub ends_with : (l : ℕ) → Lead s l → Ends l (g.members l)
  -- a batch is one worker's own, or has left
  pub own : (w : ℕ) → w < W → Own s g (s.batch w)
  pub own_once : (l : ℕ) → Σ (λ w. owns l (s.batch w)) W ≤ 1
  pub left : (l : ℕ) → Lead s l → Σ (λ w. owns l (s.batch w)) W ≡ 0 → Chain s.elder (Some (s.newest l)) (g.members l)
  -- what hangs, and what is still to be walked
  pub hung_chain : (r : ℕ) → r < R → Chain s.under (head (s.list r)) (g.hung r)
  pub lists_beyond : (r : ℕ) → R ≤ r → s.list r ≡ Off
  pub walk_chain : (w : ℕ) → w < W → Chain s.under (next (s.task w)) (g.walk w)
  pub once : (b : ℕ) → on R W g (is b) + to_hang W s g (is b) ≤ 1
  pub entries : (b : ℕ) → 1 ≤ on R W g (is b) → s.standing b ≡ Retired
  pub tasks : (w : ℕ) → w < W → TaskRight R s.elder g.members (s.batch w) (g.rest w) (s.task w)
  -- each count is right
  pub even : (l : ℕ) → Lead s l → s.count l + Σ (λ w. hung_for l (s.batch w) (s.task w)) W ≡ on R W g (of s.lead l) + 1024 * Σ (λ w. owns l (s.batch w)) W

-- no batch's count is 0
abbrev pub Alive : St → Type 0
Alive s = (l : ℕ) → Lead s l → 0 < s.count l

-- none but perhaps that of lead m
abbrev pub AliveBut : St → ℕ → Type 0
AliveBut s m = (l : ℕ) → l ≢ m → Lead s l → 0 < s.count l

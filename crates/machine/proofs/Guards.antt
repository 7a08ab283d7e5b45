-- What protects a shown block: the clauses, over the mirror.
use Rattle.std.proofs.Common.{◌≡◌, ℕ, zero, suc, ◌+◌, ◌*◌, ◌<◌, ◌≤◌, Bool, true, false, eqb, ◌⊎◌, List, get_or, Some, None, Option}
use Rattle.machine.specs.declared.states.Batch.{Batch}
use Rattle.machine.specs.declared.states.Standing.TheVariants.{Live, Retired}
use Rattle.machine.specs.declared.states.Task.{Task}
use Rattle.machine.specs.declared.states.Task.TheVariants.{Idle, TakeEra, TakeBlock, LookCell, LookEra, LookList, LookWalk, LookAgain, LookWrite, DropList, DropWalk, DropEra, TryVisit, TryHang, TryLast}
use Rattle.machine.specs.declared.states.Core.{Core}
use Rattle.machine.specs.State.{block, worker, reservation}
use Rattle.machine.specs.Trying.{is_off}
use Rattle.machine.proofs.Sums.{tot}
use Rattle.machine.proofs.Chains.{Chain}
use Rattle.machine.proofs.Mirror.{St}
use Rattle.machine.proofs.Sound.{head, of}

-- what protection needs beside the mirror of batches: births, slots, the eras of reservations, and what is shown
pub record Extra : Type 0 where
  pub birth : ℕ → ℕ
  pub slot : ℕ → ℕ
  pub era : ℕ → ℕ
  pub shows : ℕ → ℕ → Option ℕ

-- the mirror of these
abbrev pub extra : Core → Extra
extra k = record { birth = λ b. (block k b).birth; slot = λ b. (block k b).slot; era = λ r. (reservation k r).era; shows = λ w h. get_or (worker k w).shows h None }

-- what is met n steps on from o by f
abbrev pub steps : (ℕ → Option ℕ) → ℕ → Option ℕ → Option ℕ
steps f zero o = o
steps f (suc n) None = None
steps f (suc n) (Some b) = steps f n (f b)

-- one of the first n from o on was set aside for place r
abbrev pub Aside : (ℕ → Option ℕ) → (ℕ → ℕ) → ℕ → Option ℕ → ℕ → Type 0
Aside f slot zero o r = ⊥
Aside f slot (suc n) None r = ⊥
Aside f slot (suc n) (Some b) r = (slot b ≡ r) ⊎ Aside f slot n (f b) r

-- a worker with this task has its batch's visit of place r, or its hanging there, still before it
abbrev pub Pends : (ℕ → Option ℕ) → (ℕ → ℕ) → ℕ → Task → ℕ → Type 0
Pends elder slot newest Idle r = Unit {0}
Pends elder slot newest TakeEra r = Unit {0}
Pends elder slot newest TakeBlock r = Unit {0}
Pends elder slot newest (LookCell h c) r = Unit {0}
Pends elder slot newest (LookEra h c seen) r = Unit {0}
Pends elder slot newest (LookList h c e) r = Unit {0}
Pends elder slot newest (LookWalk h c b) r = Unit {0}
Pends elder slot newest (LookAgain h c) r = Unit {0}
Pends elder slot newest (LookWrite h c e) r = Unit {0}
Pends elder slot newest (DropList h) r = Unit {0}
Pends elder slot newest (DropWalk h b) r = Unit {0}
Pends elder slot newest (DropEra h) r = Unit {0}
Pends elder slot newest (TryVisit p b aside) r = (p ≤ r) ⊎ Aside elder slot aside (Some newest) r
Pends elder slot newest (TryHang b left hung) r = Aside elder slot left (Some b) r
Pends elder slot newest (TryLast hung) r = ⊥

-- a drop has turned the list of hold h off and not yet cleared its era
abbrev pub past_off : Task → ℕ → Bool
past_off Idle h = false
past_off TakeEra h = false
past_off TakeBlock h = false
past_off (LookCell i c) h = false
past_off (LookEra i c seen) h = false
past_off (LookList i c e) h = false
past_off (LookWalk i c b) h = false
past_off (LookAgain i c) h = false
past_off (LookWrite i c e) h = false
past_off (DropList i) h = false
past_off (DropWalk i b) h = eqb i h
past_off (DropEra i) h = eqb i h
past_off (TryVisit r b aside) h = false
past_off (TryHang b left hung) h = false
past_off (TryLast hung) h = false

-- a look has turned the list of hold h on and not yet written its era
abbrev pub past_on : Task → ℕ → Bool
past_on Idle h = false
past_on TakeEra h = false
past_on TakeBlock h = false
past_on (LookCell i c) h = false
past_on (LookEra i c seen) h = false
past_on (LookList i c e) h = false
past_on (LookWalk i c b) h = eqb i h
past_on (LookAgain i c) h = eqb i h
past_on (LookWrite i c e) h = eqb i h
past_on (DropList i) h = false
past_on (DropWalk i b) h = false
past_on (DropEra i) h = false
past_on (TryVisit r b aside) h = false
past_on (TryHang b left hung) h = false
past_on (TryLast hung) h = false

-- a look on hold h, or a drop
abbrev pub busy_with : Task → ℕ → Bool
busy_with Idle h = false
busy_with TakeEra h = false
busy_with TakeBlock h = false
busy_with (LookCell i c) h = eqb i h
busy_with (LookEra i c seen) h = eqb i h
busy_with (LookList i c e) h = eqb i h
busy_with (LookWalk i c b) h = eqb i h
busy_with (LookAgain i c) h = eqb i h
busy_with (LookWrite i c e) h = eqb i h
busy_with (DropList i) h = true
busy_with (DropWalk i b) h = true
busy_with (DropEra i) h = true
busy_with (TryVisit r b aside) h = false
busy_with (TryHang b left hung) h = false
busy_with (TryLast hung) h = false

-- a block of the batch of lead l hangs at place r
abbrev pub OnList : St → ℕ → ℕ → Type 0
OnList s r l = (xs : List ℕ) × Chain s.under (head (s.list r)) xs × (1 ≤ tot (of s.lead l) xs)

-- the batch of lead l is worker v's own, and place r is still before it
abbrev pub WaitsIn : St → Extra → ℕ → ℕ → ℕ → Type 0
WaitsIn s x v r l = (y : Batch) × (s.batch v ≡ Some y) × (y.lead ≡ l) × Pends s.elder x.slot y.newest (s.task v) r

-- the batch of lead l is held back by the reservation at place r
abbrev pub Holds : ℕ → St → Extra → ℕ → ℕ → Type 0
Holds W s x r l = OnList s r l ⊎ ((v : ℕ) × (v < W) × WaitsIn s x v r l)

-- block b is live, or retired and held back
abbrev pub Stands : ℕ → St → Extra → ℕ → ℕ → Type 0
Stands W s x r b = (s.standing b ≡ Live) ⊎ ((s.standing b ≡ Retired) × Holds W s x r (s.lead b))

-- the reservation at place r keeps block b, of which F holds, if its list is on and its era not before the block's birth
abbrev pub Keeps : ℕ → (ℕ → Type 0) → St → Extra → ℕ → ℕ → Type 0
Keeps W F s x r b = is_off (s.list r) ≡ false → x.birth b ≤ x.era r → Stands W s x r b × F b

-- the least birth of a batch is the smallest of its blocks' births
abbrev pub Least : St → Extra → Batch → Type 0
Least s x y = ((b : ℕ) → s.standing b ≡ Retired → s.lead b ≡ y.lead → y.least ≤ x.birth b) × ((b : ℕ) × (s.standing b ≡ Retired) × (s.lead b ≡ y.lead) × (x.birth b ≡ y.least))

-- the clauses of worker w, for W workers with H holds
pub record At (W H : ℕ) (F : ℕ → Type 0) (s : St) (x : Extra) (w : ℕ) : Type 0 where
  -- what a hold shows is kept by its reservation
  pub kept : (h b : ℕ) → x.shows w h ≡ Some b → (w < W) × (h < H) × (is_off (s.list (w * H + h)) ≡ false) × (x.birth b ≤ x.era (w * H + h)) × Keeps W F s x (w * H + h) b
  -- so is what a look has read
  pub read : (h c b : ℕ) → w < W → h < H → s.task w ≡ LookEra h c (Some b) → Keeps W F s x (w * H + h) b
  -- a list that is off has era 0, but while a drop clears it
  pub off : (h : ℕ) → w < W → h < H → is_off (s.list (w * H + h)) ≡ true → past_off (s.task w) h ≡ false → (x.era (w * H + h) ≡ 0) × (past_on (s.task w) h ≡ false)
  -- a hold that is looked with or dropped shows nothing
  pub hides : (h : ℕ) → busy_with (s.task w) h ≡ true → x.shows w h ≡ None
  -- a try has set aside the blocks before the next one
  pub visits : (p b n : ℕ) (y : Batch) → w < W → s.task w ≡ TryVisit p b n → s.batch w ≡ Some y → steps s.elder n (Some y.newest) ≡ Some b
  -- the least birth of the worker's own batch is right
  pub least : (y : Batch) → w < W → s.batch w ≡ Some y → Least s x y

-- those of every worker
abbrev pub Guard : ℕ → ℕ → (ℕ → Type 0) → St → Extra → Type 0
Guard W H F s x = (w : ℕ) → At W H F s x w

-- A mirror of the state for the laws on batches: one function for each field, with one place changed.
use Rattle.std.proofs.Common.{◌≡◌, ℕ, Bool, true, false, List, [], ◌∷◌, get_or, Option}
use Rattle.machine.specs.declared.states.Batch.{Batch}
use Rattle.machine.specs.declared.states.HungList.{HungList}
use Rattle.machine.specs.declared.states.Standing.{Standing}
use Rattle.machine.specs.declared.states.Standing.TheVariants.{Pooled, Live, Retired}
use Rattle.machine.specs.declared.states.Task.{Task}
use Rattle.machine.specs.declared.states.Core.{Core}
use Rattle.machine.specs.State.{block, worker, reservation}
use Rattle.machine.proofs.Sums.{upd}

-- which numbers are in, and of each block, reservation and worker what batches need
pub record St : Type 0 where
  pub inside : ℕ → Bool
  pub standing : ℕ → Standing
  pub lead : ℕ → ℕ
  pub under : ℕ → Option ℕ
  pub elder : ℕ → Option ℕ
  pub count : ℕ → ℕ
  pub newest : ℕ → ℕ
  pub list : ℕ → HungList
  pub task : ℕ → Task
  pub batch : ℕ → Option Batch

-- the mirror of a keeper over a pool
abbrev pub view : Core → List Bool → St
view k inside = record {
  inside = λ b. get_or inside b false;
  standing = λ b. (block k b).standing;
  lead = λ b. (block k b).lead;
  under = λ b. (block k b).under;
  elder = λ b. (block k b).elder;
  count = λ b. (block k b).count;
  newest = λ b. (block k b).newest;
  list = λ r. (reservation k r).list;
  task = λ w. (worker k w).task;
  batch = λ w. (worker k w).batch;
}

-- two mirrors with equal fields are equal
pub same : (a b : St) → a.inside ≡ b.inside → a.standing ≡ b.standing → a.lead ≡ b.lead → a.under ≡ b.under → a.elder ≡ b.elder → a.count ≡ b.count → a.newest ≡ b.newest → a.list ≡ b.list → a.task ≡ b.task → a.batch ≡ b.batch → a ≡ b
same a b p q r s t u v x y z = λ i. record { inside = p i; standing = q i; lead = r i; under = s i; elder = t i; count = u i; newest = v i; list = x i; task = y i; batch = z i }

-- worker w has another task
abbrev pub retask : St → ℕ → Task → St
retask s w t = record { inside = s.inside; standing = s.standing; lead = s.lead; under = s.under; elder = s.elder; count = s.count; newest = s.newest; list = s.list; task = upd s.task w t; batch = s.batch }

-- worker w has another task and batch
abbrev pub rebatch : St → ℕ → Task → Option Batch → St
rebatch s w t x = record { inside = s.inside; standing = s.standing; lead = s.lead; under = s.under; elder = s.elder; count = s.count; newest = s.newest; list = s.list; task = upd s.task w t; batch = upd s.batch w x }

-- the reservation at place r has another list
abbrev pub relist : St → ℕ → HungList → St
relist s r l = record { inside = s.inside; standing = s.standing; lead = s.lead; under = s.under; elder = s.elder; count = s.count; newest = s.newest; list = upd s.list r l; task = s.task; batch = s.batch }

-- lead l has another count and newest block
abbrev pub recount : St → ℕ → ℕ → ℕ → St
recount s l c n = record { inside = s.inside; standing = s.standing; lead = s.lead; under = s.under; elder = s.elder; count = upd s.count l c; newest = upd s.newest l n; list = s.list; task = s.task; batch = s.batch }

-- block b hangs over another
abbrev pub reunder : St → ℕ → Option ℕ → St
reunder s b o = record { inside = s.inside; standing = s.standing; lead = s.lead; under = upd s.under b o; elder = s.elder; count = s.count; newest = s.newest; list = s.list; task = s.task; batch = s.batch }

-- block b goes out of the pool and is live
abbrev pub enliven : St → ℕ → St
enliven s b = record { inside = upd s.inside b false; standing = upd s.standing b Live; lead = s.lead; under = s.under; elder = s.elder; count = s.count; newest = s.newest; list = s.list; task = s.task; batch = s.batch }

-- block b goes into the pool
abbrev pub give : St → ℕ → St
give s b = record { inside = upd s.inside b true; standing = upd s.standing b Pooled; lead = s.lead; under = s.under; elder = s.elder; count = s.count; newest = s.newest; list = s.list; task = s.task; batch = s.batch }

-- blocks do, one after another
abbrev pub give_all : St → List ℕ → St
give_all s [] = s
give_all s (b ∷ bs) = give_all (give s b) bs

-- block b is retired and joins the batch of lead l, over block e of it, with a count of c
abbrev pub join : St → ℕ → ℕ → Option ℕ → ℕ → St
join s b l e c = record { inside = s.inside; standing = upd s.standing b Retired; lead = upd s.lead b l; under = s.under; elder = upd s.elder b e; count = upd s.count b c; newest = s.newest; list = s.list; task = s.task; batch = s.batch }

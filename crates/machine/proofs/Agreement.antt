-- The agreement of a keeper with its account: at the making, what follows from it, and what keeps it.
use Rattle.std.proofs.Common.{◌≡◌, ℕ, ◌+◌, ◌<◌, ◌≤◌, Bool, true, false, not, ◌&&◌, List, length, get_or, set, sym, refl, ap, ◌∙◌, subst, ⊎_elim, arith}
use Rattle.std.proofs.lemmas.Bool.{cases_lt}
use Rattle.pools.specs.Counts.{bit}
use Rattle.figures.specs.declared.limits.Form.{Form}
use Rattle.machine.specs.declared.states.Standing.{Standing}
use Rattle.machine.specs.declared.states.Standing.TheVariants.{Pooled, Live, Retired}
use Rattle.machine.specs.declared.states.Block.{Block}
use Rattle.machine.specs.declared.states.Core.{Core}
use Rattle.machine.specs.State.{fresh, fresh_block, fresh_worker, blank_block, blank_worker, block, is_live}
use Rattle.machine.specs.Account.{Doing, nothing, Account, put, opened, without_in, doing_of, is_retired, Agrees, OneStanding}
use Rattle.machine.proofs.Stores.{replicate_all}
use Rattle.machine.proofs.StoresByPlace.{set_gives_at}
use Rattle.machine.proofs.Standings.{is_pooled, same_eased, Alike, Eases}
use Rattle.machine.proofs.Doings.{put_here, put_there, Does}
use Rattle.machine.proofs.Sides.{PooledIn}

-- a pooled block is not retired
pooled_not_retired : (s : Standing) → is_pooled s ≡ true → is_retired s ≡ false
pooled_not_retired Pooled e = refl
pooled_not_retired Live e = refl
pooled_not_retired Retired e = sym e

and_false : (x y : Bool) → x ≡ false → (x && y) ≡ false
and_false x y e = ap (λ z. z && y) e

-- an account whose blocks are retired as the keeper has them, where they are not pooled
agreed : (a : Account) (k : Core) (inside : List Bool) → PooledIn k inside → Does a.doing k.workers → ((b : ℕ) → a.live b ≡ is_live (block k b).standing)
    → ((b : ℕ) → is_retired (block k b).standing ≡ (a.retired b && not (is_pooled (block k b).standing))) → ((b : ℕ) → length inside ≤ b → a.retired b ≡ false) → Agrees (without_in a inside) k
agreed a k inside p does live retired past = record {
  same_doing = does;
  same_live = live;
  same_retired = λ b. ⊎_elim
      (λ (l : b < length inside). sym (retired b ∙ ap (λ x. a.retired b && not x) (p.within b l)))
      (λ (l : length inside ≤ b). and_false (a.retired b) (not (get_or inside b false)) (past b l) ∙ sym (pooled_not_retired (block k b).standing (p.past b l))) (cases_lt b (length inside));
}

module _ (a : Account) (k : Core) (ag : Agrees a k) (inside : List Bool) (p : PooledIn k inside) where
  -- no block past the pool is retired
  past_retired : (b : ℕ) → length inside ≤ b → a.retired b ≡ false
  past_retired b l = ag.same_retired b ∙ pooled_not_retired (block k b).standing (p.past b l)

  -- each block's number is in, or it is live, or it is retired
  pub one_standing : OneStanding a inside
  one_standing b lt =
      let i = p.within b lt in
      let l = ag.same_live b in
      let r = ag.same_retired b in
      let o = one (block k b).standing in
      cc
    where
      one : (s : Standing) → bit (is_pooled s) + bit (is_live s) + bit (is_retired s) ≡ 1
      one Pooled = refl
      one Live = refl
      one Retired = refl

  -- a call that at most gives retired blocks back
  pub eased : (d : ℕ → Doing) (l : Core) (after : List Bool) → length after ≡ length inside → PooledIn l after → Does d l.workers → Eases k l
      → Agrees (without_in (record { doing = d; live = a.live; retired = a.retired }) after) l
  eased d l after long q does eases =
      agreed (record { doing = d; live = a.live; retired = a.retired }) l after q does
      (λ b. ag.same_live b ∙ sym (eases b).0)
      (λ b. (eases b).1 ∙ ap (λ x. x && not (is_pooled (block l b).standing)) (sym (ag.same_retired b)))
      (λ b le. past_retired b (omega arith))

  -- a call that gives block i of the pool another standing
  pub struck : (d : ℕ → Doing) (m l : Core) (i : ℕ) (x : Block) (after : List Bool) → length after ≡ length inside → PooledIn l after → Does d l.workers
      → Alike k m → l.blocks.rows ≡ set m.blocks.rows i x → i < length m.blocks.rows → i < length inside
      → Agrees (without_in (record { doing = d; live = put a.live i (is_live x.standing); retired = put a.retired i (is_retired x.standing) }) after) l
  struck d m l i x after long q does alike e lt below =
      agreed (record { doing = d; live = put a.live i (is_live x.standing); retired = put a.retired i (is_retired x.standing) }) l after q does
      (subst (λ rows. (b : ℕ) → put a.live i (is_live x.standing) b ≡ is_live (get_or rows b blank_block).standing) (sym e)
      (set_gives_at (λ b y. put a.live i (is_live x.standing) b ≡ is_live y.standing) blank_block m.blocks.rows i x lt
      (λ b ne. put_there a.live i (is_live x.standing) b ne ∙ ag.same_live b ∙ sym (ap is_live (alike b)))
      (put_here a.live i (is_live x.standing))))
      (subst (λ rows. (b : ℕ) → is_retired (get_or rows b blank_block).standing ≡ (put a.retired i (is_retired x.standing) b && not (is_pooled (get_or rows b blank_block).standing))) (sym e)
      (set_gives_at (λ b y. is_retired y.standing ≡ (put a.retired i (is_retired x.standing) b && not (is_pooled y.standing))) blank_block m.blocks.rows i x lt
      (λ b ne. (same_eased (block m b).standing).1 ∙ ap (λ y. y && not (is_pooled (block m b).standing)) (ap is_retired (alike b) ∙ sym (ag.same_retired b) ∙ sym (put_there a.retired i (is_retired x.standing) b ne)))
      ((same_eased x.standing).1 ∙ ap (λ y. y && not (is_pooled x.standing)) (sym (put_here a.retired i (is_retired x.standing))))))
      (λ b le. put_there a.retired i (is_retired x.standing) b (λ z. absurd (omega arith)) ∙ past_retired b (omega arith))

-- at the making
pub opened_agrees : (form : Form) → Agrees opened (fresh form)
opened_agrees form = record {
  same_doing = replicate_all (λ x. nothing ≡ doing_of x.task) blank_worker fresh_worker 8 refl refl;
  same_live = replicate_all (λ x. false ≡ is_live x.standing) blank_block fresh_block 2048 refl refl;
  same_retired = replicate_all (λ x. false ≡ is_retired x.standing) blank_block fresh_block 2048 refl refl;
}

-- What a call changes of the standings of blocks.
use Rattle.std.proofs.Common.{◌≡◌, ℕ, Bool, true, false, not, ◌&&◌, ltb, List, [], ◌∷◌, length, get_or, Some, None, Option, sym, refl, ◌∙◌, subst, length-set}
use Rattle.machine.specs.declared.states.Standing.{Standing}
use Rattle.machine.specs.declared.states.Standing.TheVariants.{Pooled, Live, Retired}
use Rattle.machine.specs.declared.states.Block.{Block}
use Rattle.machine.specs.declared.states.Core.{Core}
use Rattle.machine.specs.State.{blank_block, block, with_block, is_live}
use Rattle.machine.specs.Cells.{named_more, named_less, with_cell, held, home_block}
use Rattle.machine.specs.Hands.{owns}
use Rattle.machine.specs.Walking.{pooled, all_pooled}
use Rattle.machine.specs.Calls.{unlinked, disowned, relinked}
use Rattle.machine.specs.Account.{is_retired}
use Rattle.machine.proofs.Passing.{by_test}
use Rattle.machine.proofs.StoresByPlace.{set_keeps_at}

-- whether a block is in the pool
abbrev pub is_pooled : Standing → Bool
is_pooled Pooled = true
is_pooled Live = false
is_pooled Retired = false

-- these blocks are all retired
abbrev pub AllRetired : Core → List ℕ → Type 0
AllRetired k [] = Unit {0}
AllRetired k (b ∷ bs) = ((block k b).standing ≡ Retired) × AllRetired k bs

-- a standing stays, but that a retired block may be in the pool again
abbrev pub Eased : Standing → Standing → Type 0
Eased s t = (is_live t ≡ is_live s) × (is_retired t ≡ (is_retired s && not (is_pooled t)))

pub same_eased : (s : Standing) → Eased s s
same_eased Pooled = (refl, refl)
same_eased Live = (refl, refl)
same_eased Retired = (refl, refl)

-- every standing is as it was
abbrev pub Alike : Core → Core → Type 0
Alike k l = (b : ℕ) → (block l b).standing ≡ (block k b).standing

-- every standing is as it was, but for the pool
abbrev pub Eases : Core → Core → Type 0
Eases k l = (b : ℕ) → Eased (block k b).standing (block l b).standing

pub alike_eases : (k l : Core) → Alike k l → Eases k l
alike_eases k l h b = subst (Eased (block k b).standing) (sym (h b)) (same_eased (block k b).standing)

pub alike_block : (k l : Core) (b : ℕ) (x : Block) → Alike k l → x.standing ≡ (block k b).standing → Alike k (with_block l b x)
alike_block k l b x h e = set_keeps_at (λ j y. y.standing ≡ (block k j).standing) blank_block l.blocks.rows b x h e

pub eases_pooled : (bs : List ℕ) (k l : Core) → AllRetired k bs → Eases k l → Eases k (all_pooled l bs)
eases_pooled [] k l r h = h
eases_pooled (b ∷ bs) k l r h =
    eases_pooled bs k (with_block l b (pooled (block l b))) r.1
    (set_keeps_at (λ j y. Eased (block k j).standing y.standing) blank_block l.blocks.rows b (pooled (block l b)) h (subst (λ s. Eased s Pooled) (sym r.0) (refl, refl)))

-- names, owners and cells
alike_more : (k l : Core) (x : Option ℕ) → Alike k l → Alike k (named_more l x)
alike_more k l None h = h
alike_more k l (Some b) h = alike_block k l b _ h (h b)

alike_less : (k l : Core) (x : Option ℕ) → Alike k l → Alike k (named_less l x)
alike_less k l None h = h
alike_less k l (Some b) h = alike_block k l b _ h (h b)

alike_disowned : (k l : Core) (w : ℕ) (x : Option ℕ) → Alike k l → Alike k (disowned l w x)
alike_disowned k l w None h = h
alike_disowned k l w (Some b) h = by_test (Alike k) (owns l w b) _ _ (λ _. alike_block k l b _ h (h b)) (λ _. h)

alike_cell : (k l : Core) (c : ℕ) (x : Option ℕ) → Alike k l → Alike k (with_cell l c x)
alike_cell k l c x h = by_test (Alike k) (ltb c 16) _ _ (λ _. h) (λ _. alike_block k l (home_block c) _ h (h (home_block c)))

pub alike_relinked : (k : Core) (w c : ℕ) (new : Option ℕ) → Alike k (relinked k w c new)
alike_relinked k w c new = alike_cell k _ c new (alike_disowned k _ w new (alike_more k _ new (alike_less k k (held k c) (λ b. refl))))

pub alike_unlinked : (k : Core) (b : ℕ) → Alike k (unlinked k b)
alike_unlinked k b = alike_less k _ (get_or (block k b).links 1 None) (alike_less k k (get_or (block k b).links 0 None) (λ b. refl))

less_long : (k : Core) (x : Option ℕ) → length (named_less k x).blocks.rows ≡ length k.blocks.rows
less_long k None = refl
less_long k (Some b) = length-set k.blocks.rows b _

pub unlinked_long : (k : Core) (b : ℕ) → length (unlinked k b).blocks.rows ≡ length k.blocks.rows
unlinked_long k b = less_long (named_less k (get_or (block k b).links 0 None)) (get_or (block k b).links 1 None) ∙ less_long k (get_or (block k b).links 0 None)

-- That what is kept of the names stays right when one part of a keeper is replaced.
use Rattle.std.proofs.Common.{◌≡◌, ℕ, ◌<◌, ◌≤◌, true, false, List, [], ◌∷◌, length, None, Option, sym, refl, ap, ◌∙◌, arith}
use Rattle.std.specs.List.{AllByRecursion as All}
use Rattle.std.proofs.lemmas.List.{length-set, length-replicate}
use Rattle.figures.specs.declared.limits.Form.{Form}
use Rattle.machine.specs.declared.states.Block.{Block}
use Rattle.machine.specs.declared.states.Reservation.{Reservation}
use Rattle.machine.specs.declared.states.Worker.{Worker}
use Rattle.machine.specs.declared.states.Core.{Core}
use Rattle.machine.specs.State.{fresh, fresh_block, blank_block, block, with_era, with_live, with_block, with_reservation, with_worker, is_live, live_block}
use Rattle.machine.specs.Taking.{taken_block}
use Rattle.machine.specs.Walking.{pooled, all_pooled}
use Rattle.machine.specs.Linking.{among, from_block, naming, LinkedRight}
use Rattle.machine.proofs.Passing.{by_test}
use Rattle.machine.proofs.Stores.{set_keeps, replicate_all}
use Rattle.machine.proofs.Namings.{among_most, from_set, from_same, from_most, among_none, from_none, set_seen, set_passes}

-- the making
pub fresh_linked : (form : Form) → LinkedRight (fresh form)
fresh_linked form = record {
  anchors = length-replicate {A = Option ℕ} 16 None;
  blocks = length-replicate 2048 fresh_block;
  links = replicate_all (λ x. is_live x.standing ≡ true → length x.links ≡ 2) blank_block fresh_block 2048 (λ _. refl) (λ e. let z : ◌≡◌ {A = ℕ} 0 1 = cc in absurd (omega arith));
  counted = λ b.
      let a = among_none 16 b in
      let f = from_none 2048 b in
      let n = replicate_all (λ x. x.names ≡ 0) blank_block fresh_block 2048 refl refl b in
      omega arith;
  alive = λ b le.
      let a = among_none 16 b in
      let f = from_none 2048 b in
      absurd (omega arith);
}

-- an era, the number of live blocks, a reservation or a worker
pub era_linked : (k : Core) (e : ℕ) → LinkedRight k → LinkedRight (with_era k e)
era_linked k e o = record { anchors = o.anchors; blocks = o.blocks; links = o.links; counted = o.counted; alive = o.alive }

pub live_linked : (k : Core) (n : ℕ) → LinkedRight k → LinkedRight (with_live k n)
live_linked k n o = record { anchors = o.anchors; blocks = o.blocks; links = o.links; counted = o.counted; alive = o.alive }

pub reservation_linked : (k : Core) (r : ℕ) (x : Reservation) → LinkedRight k → LinkedRight (with_reservation k r x)
reservation_linked k r x o = record { anchors = o.anchors; blocks = o.blocks; links = o.links; counted = o.counted; alive = o.alive }

pub worker_linked : (k : Core) (w : ℕ) (x : Worker) → LinkedRight k → LinkedRight (with_worker k w x)
worker_linked k w x o = record { anchors = o.anchors; blocks = o.blocks; links = o.links; counted = o.counted; alive = o.alive }

-- two keepers with the same anchors, links and live blocks
pub record Alike (k j : Core) : Type 0 where
  pub anchors : j.anchors ≡ k.anchors
  pub blocks : length j.blocks.rows ≡ length k.blocks.rows
  pub live : (b : ℕ) → live_block j b ≡ live_block k b
  pub links : (b : ℕ) → (block j b).links ≡ (block k b).links
  pub named : (b : ℕ) → naming j b ≡ naming k b

pub alike_self : (k : Core) → Alike k k
alike_self k = record { anchors = refl; blocks = refl; live = λ b. refl; links = λ b. refl; named = λ b. refl }

pub alike_then : (k j i : Core) → Alike k j → Alike j i → Alike k i
alike_then k j i p q = record { anchors = q.anchors ∙ p.anchors; blocks = q.blocks ∙ p.blocks; live = λ b. q.live b ∙ p.live b; links = λ b. q.links b ∙ p.links b; named = λ b. q.named b ∙ p.named b }

-- a block that is live alike and has the same links
pub block_alike : (k : Core) (i : ℕ) (x : Block) → is_live x.standing ≡ live_block k i → x.links ≡ (block k i).links → Alike k (with_block k i x)
block_alike k i x live same = record {
  anchors = refl;
  blocks = length-set k.blocks.rows i x;
  live = set_seen (λ (y : Block). is_live y.standing) blank_block k.blocks.rows i x live;
  links = set_seen (λ (y : Block). y.links) blank_block k.blocks.rows i x same;
  named = λ b.
      let row : from_block x b ≡ from_block (block k i) b = cc in
      let rows = from_same k.blocks.rows i x b row in
      omega arith;
}

-- keepers alike keep the same numbers of names
pub alike_linked : (k j : Core) → LinkedRight k → Alike k j → ((b : ℕ) → (block j b).names ≡ (block k b).names) → LinkedRight j
alike_linked k j o a names = record {
  anchors = ap length a.anchors ∙ o.anchors;
  blocks = a.blocks ∙ o.blocks;
  links = λ b e. ap length (a.links b) ∙ o.links b (sym (a.live b) ∙ e);
  counted = λ b. names b ∙ o.counted b ∙ sym (a.named b);
  alive = λ b le. a.live b ∙ o.alive b (let e = a.named b in omega arith);
}

-- a block with the same links and number of names, live alike
pub block_linked : (k : Core) (i : ℕ) (x : Block) → is_live x.standing ≡ live_block k i → x.links ≡ (block k i).links → x.names ≡ (block k i).names → LinkedRight k → LinkedRight (with_block k i x)
block_linked k i x live same names o = alike_linked k (with_block k i x) o (block_alike k i x live same) (set_seen (λ (y : Block). y.names) blank_block k.blocks.rows i x names)

-- at most 4,112 cells name a block
pub naming_most : (k : Core) (b : ℕ) → LinkedRight k → naming k b ≤ 4112
naming_most k b o =
    let of_anchors = among_most k.anchors b in
    let of_blocks = from_most k.blocks.rows b (λ i. by_test (λ n. n ≤ 2) (live_block k i) (among (block k i).links b) 0 (λ e. omega (arith, among_most (block k i).links b, o.links i e)) (λ _. omega arith)) in
    omega (arith, o.anchors, o.blocks)

-- a block that was not live is taken
pub taken_linked : (k : Core) (n e w : ℕ) → n < 2048 → live_block k n ≡ false → LinkedRight k → LinkedRight (with_block k n (taken_block (block k n) e w))
taken_linked k n e w lt dead o =
    let rows = k.blocks.rows in
    let x = taken_block (block k n) e w in
    let same : (b : ℕ) → naming (with_block k n x) b ≡ naming k b = λ b.
    let before : from_block (block k n) b ≡ 0 = cc in
    let change = from_set rows n x b (omega (arith, o.blocks)) in
    omega arith in
    record {
      anchors = o.anchors;
      blocks = length-set rows n x ∙ o.blocks;
      links = set_keeps (λ y. is_live y.standing ≡ true → length y.links ≡ 2) blank_block rows n x o.links (λ _. refl);
      counted = λ b. set_seen (λ (y : Block). y.names) blank_block rows n x refl b ∙ o.counted b ∙ sym (same b);
      alive = λ b le. set_passes (λ (y : Block). is_live y.standing) blank_block rows n x refl b (o.alive b (omega (arith, same b)));
    }

-- none of these blocks is live
abbrev pub Dead : Core → List ℕ → Type 0
Dead k bs = All (λ b. live_block k b ≡ false) bs

pub dead_alike : (k j : Core) → Alike k j → (bs : List ℕ) → Dead k bs → Dead j bs
dead_alike k j a [] d = tt
dead_alike k j a (b ∷ bs) d = (a.live b ∙ d.0, dead_alike k j a bs d.1)

-- they go back into the pool
pub all_pooled_linked : (bs : List ℕ) (k : Core) → Dead k bs → LinkedRight k → LinkedRight (all_pooled k bs)
all_pooled_linked [] k d o = o
all_pooled_linked (b ∷ bs) k d o =
    let x = pooled (block k b) in
    all_pooled_linked bs (with_block k b x) (dead_alike k _ (block_alike k b x (sym d.0) refl) bs d.1) (block_linked k b x (sym d.0) refl refl o)

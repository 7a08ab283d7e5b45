-- That retiring and relinking keep right what is kept of the names.
use Rattle.std.proofs.Common.{◌≡◌, ℕ, ◌+◌, ◌-◌, ◌<◌, ◌≤◌, Bool, true, false, cond, ltb, ◌≢◌, List, length, get_or, set, Some, None, Option, sym, refl, ap, ◌∙◌, subst, inl, inr, arith}
use Rattle.std.proofs.lemmas.Bool.Decides.{nat_tests}
use Rattle.std.proofs.lemmas.List.{length-set, get_or-set_other}
use Rattle.std.proofs.lemmas.Bool.{true≢false, ltb-true, eqb-true, cases_lt}
use Rattle.pools.specs.Counts.{bit}
use Rattle.machine.specs.declared.states.Batch.{Batch}
use Rattle.machine.specs.declared.states.Block.{Block}
use Rattle.machine.specs.declared.states.Core.{Core}
use Rattle.machine.specs.State.{blank_block, block, worker, with_anchor, with_block, is_live, live_block}
use Rattle.machine.specs.Cells.{home, home_block, home_link, held, with_link, with_cell, named_more, named_less, names_it}
use Rattle.machine.specs.Hands.{owns}
use Rattle.machine.specs.Moves.{Move}
use Rattle.machine.specs.Calls.{or_none, free_checks, take, look_checks, look, drop, retired_block, unlinked, try_due, retired, retiring, retire_checks, retire, unowned, disowned, relinked, relink_checks, relink}
use Rattle.machine.specs.Linking.{among, from_block, naming, LinkedRight}
use Rattle.machine.proofs.Passing.{by_test, both_left, both_right, checked_keeps}
use Rattle.machine.proofs.Stores.{set_keeps}
use Rattle.machine.proofs.Namings.{among_set, among_has, among_two, from_set, from_has, set_seen, live_there, fewer_names, more_names}
use Rattle.machine.proofs.LinkedParts.{live_linked, worker_linked, Alike, alike_self, alike_then, block_alike, naming_most}

-- one cell fewer or more names a block, and it loses its owner: no cell holds anything else
pub less_alike : (k : Core) (x : Option ℕ) → Alike k (named_less k x)
less_alike k None = alike_self k
less_alike k (Some a) = block_alike k a _ refl refl

pub more_alike : (k : Core) (x : Option ℕ) → Alike k (named_more k x)
more_alike k None = alike_self k
more_alike k (Some a) = block_alike k a _ refl refl

pub disowned_alike : (k : Core) (w : ℕ) (x : Option ℕ) → Alike k (disowned k w x)
disowned_alike k w None = alike_self k
disowned_alike k w (Some a) = by_test (Alike k) (owns k w a) _ _ (λ _. block_alike k a (unowned (block k a)) refl refl) (λ _. alike_self k)

-- what that does to the numbers of names
pub less_names : (k : Core) (x : Option ℕ) (b : ℕ) → (block (named_less k x) b).names ≡ (block k b).names - bit (names_it x b)
less_names k None b = omega arith
less_names k (Some a) b = fewer_names k.blocks.rows a _ refl b

pub gain_names : (k : Core) (x : Option ℕ) → or_none (live_block k) x ≡ true → ((b : ℕ) → (block k b).names ≤ 65534) → (b : ℕ) → (block (named_more k x) b).names ≡ (block k b).names + bit (names_it x b)
gain_names k None live most b = omega arith
gain_names k (Some a) live most b = more_names k.blocks.rows a _ (live_there k a live) (let m = most a in omega arith) b

pub disowned_names : (k : Core) (w : ℕ) (x : Option ℕ) (b : ℕ) → (block (disowned k w x) b).names ≡ (block k b).names
disowned_names k w None b = refl
disowned_names k w (Some a) b =
    by_test (λ (j : Core). (block j b).names ≡ (block k b).names) (owns k w a) _ _
    (λ _. set_seen (λ (y : Block). y.names) blank_block k.blocks.rows a (unowned (block k a)) refl b)
    (λ _. refl)

-- the links of a live block count
live_counts : (k : Core) (i b : ℕ) → live_block k i ≡ true → from_block (block k i) b ≡ among (block k i).links b
live_counts k i b live = cc

-- retiring: the links of a block that nothing names no longer count
module _ (k : Core) (o : LinkedRight k) (w b : ℕ) (live : live_block k b ≡ true) (unnamed : (block k b).names ≡ 0) where
  unlinked_alike : Alike k (unlinked k b)
  unlinked_alike = alike_then k _ _ (less_alike k (get_or (block k b).links 0 None)) (less_alike _ (get_or (block k b).links 1 None))

  unlinked_names : (a : ℕ) → (block (unlinked k b) a).names ≡ naming k a - among (block k b).links a
  unlinked_names a =
      let one = less_names k (get_or (block k b).links 0 None) a in
      let two = less_names (named_less k (get_or (block k b).links 0 None)) (get_or (block k b).links 1 None) a in
      let links = among_two (block k b).links a (o.links b live) in
      let was = o.counted a in
      omega arith

  retired_linked : (batch : Batch) → LinkedRight (retired k w b batch)
  retired_linked batch =
      let u = unlinked k b in
      let rows = u.blocks.rows in
      let x = retired_block (block u b) (worker k w).batch batch.lead in
      let there : b < length rows = let l = live_there k b live in omega (arith, unlinked_alike.blocks) in
      let change : (a : ℕ) → naming (with_block u b x) a + among (block k b).links a ≡ naming k a = λ a.
      let before : from_block (block u b) a ≡ among (block k b).links a = live_counts u b a (unlinked_alike.live b ∙ live) ∙ ap (λ (l : List (Option ℕ)). among l a) (unlinked_alike.links b) in
      let changed = from_set rows b x a there in
      let same = unlinked_alike.named a in
      omega arith in
      let other : (a : ℕ) → 1 ≤ naming (with_block u b x) a → a ≢ b = λ a le e.
      let c = change a in
      let none : naming k a ≡ 0 = ap (naming k) e ∙ sym (o.counted b) ∙ unnamed in
      omega arith in
      live_linked (with_block u b x) (k.live - 1) (record {
        anchors = ap length unlinked_alike.anchors ∙ o.anchors;
        blocks = length-set rows b x ∙ unlinked_alike.blocks ∙ o.blocks;
        links = set_keeps (λ y. is_live y.standing ≡ true → length y.links ≡ 2) blank_block rows b x
            (λ a e. ap length (unlinked_alike.links a) ∙ o.links a (sym (unlinked_alike.live a) ∙ e))
            (λ e. absurd (true≢false (sym e)));
        counted = λ a.
            let names = set_seen (λ (y : Block). y.names) blank_block rows b x refl a in
            omega (arith, unlinked_names a, change a);
        alive = λ a le.
            ap (λ (y : Block). is_live y.standing) (get_or-set_other rows b a x blank_block (other a le)) ∙ unlinked_alike.live a ∙ o.alive a (omega (arith, change a));
      })

  retiring_linked : (batch : Batch) → LinkedRight (retiring k w b batch).core
  retiring_linked batch = by_test (λ (m : Move). LinkedRight m.core) (try_due k batch) _ _ (λ _. worker_linked _ w _ (retired_linked batch)) (λ _. worker_linked _ w _ (retired_linked batch))

-- keeper j is keeper k with y in a cell that held x
record Replaced (k j : Core) (x y : Option ℕ) : Type 0 where
  anchors : length j.anchors ≡ length k.anchors
  blocks : length j.blocks.rows ≡ length k.blocks.rows
  live : (b : ℕ) → live_block j b ≡ live_block k b
  links : (b : ℕ) → length (block j b).links ≡ length (block k b).links
  names : (b : ℕ) → (block j b).names ≡ (block k b).names
  named : (b : ℕ) → naming j b + bit (names_it x b) ≡ naming k b + bit (names_it y b)
  counts : (b : ℕ) → bit (names_it x b) ≤ naming k b

anchor_replaced : (k : Core) (c : ℕ) (y : Option ℕ) → c < length k.anchors → Replaced k (with_anchor k c y) (get_or k.anchors c None) y
anchor_replaced k c y lt = record {
  anchors = length-set k.anchors c y;
  blocks = refl;
  live = λ b. refl;
  links = λ b. refl;
  names = λ b. refl;
  named = λ b. let h = among_set k.anchors c y b lt in omega arith;
  counts = λ b. let h = among_has k.anchors c b in omega arith;
}

link_replaced : (k : Core) (i l : ℕ) (y : Option ℕ) → live_block k i ≡ true → l < length (block k i).links → Replaced k (with_block k i (with_link (block k i) l y)) (get_or (block k i).links l None) y
link_replaced k i l y live lt =
    let rows = k.blocks.rows in
    let x = with_link (block k i) l y in
    record {
      anchors = refl;
      blocks = length-set rows i x;
      live = set_seen (λ (z : Block). is_live z.standing) blank_block rows i x refl;
      links = set_seen (λ (z : Block). length z.links) blank_block rows i x (length-set (block k i).links l y);
      names = set_seen (λ (z : Block). z.names) blank_block rows i x refl;
      named = λ b.
          let before = live_counts k i b live in
          let after : from_block x b ≡ among (set (block k i).links l y) b = cc in
          let inner = among_set (block k i).links l y b lt in
          let outer = from_set rows i x b (live_there k i live) in
          omega arith;
      counts = λ b.
          let before = live_counts k i b live in
          let inner = among_has (block k i).links l b in
          let outer = from_has rows i b in
          omega arith;
    }

-- an anchor, or the link of a live block
cell_replaced : (k : Core) (c : ℕ) (y : Option ℕ) → length k.anchors ≡ 16 → ((b : ℕ) → live_block k b ≡ true → length (block k b).links ≡ 2) → or_none (live_block k) (home c) ≡ true → Replaced k (with_cell k c y) (held k c) y
cell_replaced k c y sixteen two = by (ltb c 16) refl where
  by : (t : Bool) → ltb c 16 ≡ t → or_none (live_block k) (cond t None (Some (home_block c))) ≡ true
      → Replaced k (cond t (with_anchor k c y) (with_block k (home_block c) (with_link (block k (home_block c)) (home_link c) y))) (cond t (get_or k.anchors c None) (get_or (block k (home_block c)).links (home_link c) None)) y
  by true e live = anchor_replaced k c y (omega (arith, ltb-true c 16 e))
  by false e live = link_replaced k (home_block c) (home_link c) y live (omega (arith, two (home_block c) live))

-- what a keeper holds in a cell is what one alike holds there
held_alike : (k j : Core) → Alike k j → (c : ℕ) → held j c ≡ held k c
held_alike k j a c = let one = a.anchors in let two = a.links (home_block c) in cc

-- relinking
module _ (k : Core) (o : LinkedRight k) (w c : ℕ) (new : Option ℕ) (own : or_none (live_block k) (home c) ≡ true) (fine : or_none (live_block k) new ≡ true) where
  -- the keeper before the cell is written
  abbrev bare : Core
  bare = disowned (named_more (named_less k (held k c)) new) w new

  bare_alike : Alike k bare
  bare_alike = alike_then k _ _ (alike_then k _ _ (less_alike k (held k c)) (more_alike _ new)) (disowned_alike _ w new)

  live_alike : (j : Core) → Alike k j → (x : Option ℕ) → or_none (live_block k) x ≡ true → or_none (live_block j) x ≡ true
  live_alike j a None e = e
  live_alike j a (Some b) e = a.live b ∙ e

  bare_names : (b : ℕ) → (block bare b).names ≡ naming k b - bit (names_it (held k c) b) + bit (names_it new b)
  bare_names b =
      let less = named_less k (held k c) in
      let fewer : (a : ℕ) → (block less a).names ≡ naming k a - bit (names_it (held k c) a) = λ a. omega (arith, less_names k (held k c) a, o.counted a) in
      let most : (a : ℕ) → (block less a).names ≤ 65534 = λ a. omega (arith, fewer a, naming_most k a o) in
      omega (arith, disowned_names (named_more less new) w new b, gain_names less new (live_alike less (less_alike k (held k c)) new fine) most b, fewer b)

  cell_written : Replaced bare (relinked k w c new) (held bare c) new
  cell_written =
      cell_replaced bare c new (ap length bare_alike.anchors ∙ o.anchors)
      (λ b e. ap length (bare_alike.links b) ∙ o.links b (sym (bare_alike.live b) ∙ e))
      (live_alike bare bare_alike (home c) own)

  named_then : (b : ℕ) → naming (relinked k w c new) b + bit (names_it (held k c) b) ≡ naming k b + bit (names_it new b)
  named_then b =
      let same = ap (λ (x : Option ℕ). bit (names_it x b)) (held_alike k bare bare_alike c) in
      omega (arith, cell_written.named b, bare_alike.named b)

  -- what the new content names is live
  new_live : (b : ℕ) (x : Option ℕ) → or_none (live_block k) x ≡ true → 1 ≤ bit (names_it x b) → live_block k b ≡ true
  new_live b None e le = absurd (omega arith)
  new_live b (Some a) e le = let same : a ≡ b = grind (arith, nat_tests) in subst (λ z. live_block k z ≡ true) same e

  relinked_linked : LinkedRight (relinked k w c new)
  relinked_linked = record {
    anchors = cell_written.anchors ∙ ap length bare_alike.anchors ∙ o.anchors;
    blocks = cell_written.blocks ∙ bare_alike.blocks ∙ o.blocks;
    links = λ b e. cell_written.links b ∙ ap length (bare_alike.links b) ∙ o.links b (sym (bare_alike.live b) ∙ sym (cell_written.live b) ∙ e);
    counted = λ b.
        let same = ap (λ (x : Option ℕ). bit (names_it x b)) (held_alike k bare bare_alike c) in
        omega (arith, cell_written.names b, bare_names b, named_then b, cell_written.counts b, bare_alike.named b);
    alive = λ b le.
        cell_written.live b ∙ bare_alike.live b ∙ elim (cases_lt 0 (naming k b)) [
          | inl some ↦ o.alive b some
          | inr none ↦ new_live b new fine (omega (arith, named_then b))
        ];
  }

-- the calls
module _ (k : Core) (o : LinkedRight k) (w : ℕ) where
  pub take_linked : LinkedRight (take k w).core
  take_linked = checked_keeps (λ m. LinkedRight m.core) k (free_checks k w) _ (λ _. o) (λ _. worker_linked k w _ o)

  pub look_linked : (h c : ℕ) → LinkedRight (look k w h c).core
  look_linked h c = checked_keeps (λ m. LinkedRight m.core) k (look_checks k w h c) _ (λ _. o) (λ _. worker_linked k w _ o)

  pub drop_linked : LinkedRight (drop k w).core
  drop_linked = checked_keeps (λ m. LinkedRight m.core) k (free_checks k w) _ (λ _. o) (λ _. worker_linked k w _ o)

  pub retire_linked : (b : ℕ) → LinkedRight (retire k w b).core
  retire_linked b = checked_keeps (λ m. LinkedRight m.core) k (retire_checks k w b) _ (λ _. o) (λ p. retiring_linked k o w b p.1.1.1.0 (eqb-true (block k b).names 0 p.1.1.1.1.0) _)

  pub relink_linked : (c : ℕ) (expected new : Option ℕ) → LinkedRight (relink k w c expected new).core
  relink_linked c expected new =
      checked_keeps (λ m. LinkedRight m.core) k (relink_checks k w c expected new) _ (λ _. o)
      (λ p. relinked_linked k o w c new (both_left (or_none (live_block k) (home c)) (or_none (live_block k) new) p.1.1.1.0) (both_right (or_none (live_block k) (home c)) (or_none (live_block k) new) p.1.1.1.0))

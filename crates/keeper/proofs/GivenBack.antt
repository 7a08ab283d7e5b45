-- The blocks of a batch, given back one after another.
use Rattle.std.proofs.Common.{◌≡◌, ℕ, zero, suc, ◌+◌, ◌-◌, ◌≤◌, Bool, true, false, List, [], ◌∷◌, Some, None, Ok, Option, sym, refl, ap, ◌∙◌, arith}
use Rattle.machine.specs.declared.states.Batch.{Batch}
use Rattle.machine.specs.declared.states.Block.{Block}
use Rattle.machine.specs.declared.states.Task.{Task}
use Rattle.machine.specs.declared.states.Core.{Core}
use Rattle.machine.specs.State.{blank_block, block, with_block, with_task}
use Rattle.pools.specs.Counts.{bit}
use Rattle.pools.specs.Meaning.{is_out, gained}
use Rattle.machine.specs.Moves.{Outcome, over, gained_all, gain}
use Rattle.machine.specs.Walking.{members, pooled, all_pooled, with_count, due, handled}
use Rattle.machine.specs.Trying.{emptied, try_last}
use Rattle.machine.proofs.Bridge.{field_kept}
use Rattle.keeper.specs.Called.{outcome}

-- no block is left
pub members_none : (n : ℕ) (k : Core) → members n k None ≡ []
members_none zero k = refl
members_none (suc n) k = refl

pub members_zero : (n : ℕ) (k : Core) (next : Option ℕ) → n ≡ 0 → members n k next ≡ []
members_zero zero k next e = refl
members_zero (suc n) k next e = absurd (omega arith)

-- one block, and those after it
members_step : (m n : ℕ) (k : Core) (b : ℕ) → m ≡ n + 1 → members m k (Some b) ≡ b ∷ members n k (block k b).elder
members_step m n k b e = ap (λ i. members i k (Some b)) (let f : m ≡ suc n = omega arith in f)

-- a block that goes into the pool stays in its batch's order
members_kept : (n : ℕ) (k j : Core) → ((b : ℕ) → (block j b).elder ≡ (block k b).elder) → (next : Option ℕ) → members n j next ≡ members n k next
members_kept zero k j e next = refl
members_kept (suc n) k j e None = refl
members_kept (suc n) k j e (Some b) = ap (λ bs. b ∷ bs) (members_kept n k j e (block j b).elder ∙ ap (members n k) (e b))

members_pooled : (n : ℕ) (k : Core) (b : ℕ) (next : Option ℕ) → members n (with_block k b (pooled (block k b))) next ≡ members n k next
members_pooled n k b next = members_kept n k (with_block k b (pooled (block k b))) (λ i. ap (λ f. f i) (field_kept (λ (y : Block). y.elder) blank_block k.blocks.rows b (pooled (block k b)) refl)) next

-- a bit is at most 1
pub bit_low : (t : Bool) → bit t ≤ 1
bit_low true = omega arith
bit_low false = omega arith

-- one block is given: what is left brings keeper, pool and number to the same
module _ (m n : ℕ) (k : Core) (b : ℕ) (e : m ≡ n + 1) where
  abbrev then_pooled : Core
  then_pooled = with_block k b (pooled (block k b))

  pub core_again : (end : Core) → all_pooled k (members m k (Some b)) ≡ end → all_pooled then_pooled (members n then_pooled (block k b).elder) ≡ end
  core_again end h = ap (all_pooled then_pooled) (members_pooled n k b (block k b).elder) ∙ ap (all_pooled k) (sym (members_step m n k b e)) ∙ h

  pub pool_again : (inside then : List Bool) → then ≡ gained inside b → (end : List Bool) → gained_all inside (members m k (Some b)) ≡ end → gained_all then (members n then_pooled (block k b).elder) ≡ end
  pool_again inside then put end h =
      (λ i. gained_all (put i) (members_pooled n k b (block k b).elder i)) ∙ ap (gained_all inside) (sym (members_step m n k b e)) ∙ h

  pub number_again : (inside then : List Bool) → then ≡ gained inside b → (given one end : ℕ) → one ≡ bit (is_out inside b) → given + gain inside (members m k (Some b)) ≡ end
      → given + one + gain then (members n then_pooled (block k b).elder) ≡ end
  number_again inside then put given one end f h =
      let q : gain then (members n then_pooled (block k b).elder) ≡ gain (gained inside b) (members n k (block k b).elder) = λ i. gain (put i) (members_pooled n k b (block k b).elder i) in
      let r : gain inside (members m k (Some b)) ≡ bit (is_out inside b) + gain (gained inside b) (members n k (block k b).elder) = ap (gain inside) (members_step m n k b e) in
      omega arith

-- a block that is handled in a walk, by the count that its lead then has
handled_comes : (k : Core) (w b : ℕ) (on : Task) (inside : List Bool) (n count given : ℕ) (last : Core) (left : List Bool)
    → (let lead = (block k b).lead in let down : Core = with_block k lead (with_count (block k lead) count (block k lead).newest) in
    count ≡ (block k lead).count - 1 → last ≡ all_pooled down (due down lead) → left ≡ gained_all inside (due down lead) → given ≡ gain inside (due down lead)
    → outcome (with_task last w on) left (Ok (true, None, given)) ≡ over (handled k w b on) inside n)
handled_comes k w b on inside n count given last left e core pool number =
    let lead = (block k b).lead in
    let down : ℕ → Core = λ c. with_block k lead (with_count (block k lead) c (block k lead).newest) in
    let comes : ℕ → Outcome = λ c. outcome (with_task (all_pooled (down c) (due (down c) lead)) w on) (gained_all inside (due (down c) lead)) (Ok (true, None, gain inside (due (down c) lead))) in
    let now : outcome (with_task last w on) left (Ok (true, None, given)) ≡ comes count = λ i. outcome (with_task (core i) w on) (pool i) (Ok (true, None, number i)) in
    now ∙ ap comes e

-- the same in the steps of the code: the lead is found, its count goes down, the batch is given back if it is due, and the task is another
pub handle_comes : (k : Core) (w b : ℕ) (on : Task) (inside : List Bool) (n lead count given : ℕ) (down last end : Core) (left : List Bool)
    → lead ≡ (block k b).lead → count ≡ (block k lead).count - 1 → down ≡ with_block k lead (with_count (block k lead) count (block k lead).newest)
    → last ≡ all_pooled down (due down lead) → left ≡ gained_all inside (due down lead) → given ≡ gain inside (due down lead) → end ≡ with_task last w on
    → outcome end left (Ok (true, None, given)) ≡ over (handled k w b on) inside n
handle_comes k w b on inside n lead count given down last end left found less put core pool number then =
    let row : ℕ → Core = λ l. with_block k l (with_count (block k l) count (block k l).newest) in
    let from : ℕ → List ℕ = λ l. due (row l) l in
    let back : due down lead ≡ from (block k b).lead = ap (λ j. due j lead) put ∙ ap from found in
    let to : down ≡ row (block k b).lead = put ∙ ap row found in
    ap (λ j. outcome j left (Ok (true, None, given))) then
    ∙ handled_comes k w b on inside n count given last left
    (less ∙ ap (λ l. (block k l).count - 1) found)
    (core ∙ (λ i. all_pooled (to i) (back i)))
    (pool ∙ ap (gained_all inside) back)
    (number ∙ ap (gain inside) back)

-- the last turn of a try, by the count that its lead then has
last_comes : (k : Core) (w hung : ℕ) (batch : Batch) (o : Option Batch) (inside : List Bool) (n count given : ℕ) (last : Core) (left : List Bool) → o ≡ Some batch
    → (let lead = batch.lead in let settled : Core = with_block k lead (with_count (block k lead) count batch.newest) in
    count ≡ (block k lead).count + hung - 1024 → last ≡ all_pooled settled (due settled lead) → left ≡ gained_all inside (due settled lead) → given ≡ gain inside (due settled lead)
    → outcome (emptied last w) left (Ok (false, None, given)) ≡ over (try_last k w hung o) inside n)
last_comes k w hung batch o inside n count given last left own e core pool number =
    let lead = batch.lead in
    let settled : ℕ → Core = λ c. with_block k lead (with_count (block k lead) c batch.newest) in
    let comes : ℕ → Outcome = λ c. outcome (emptied (all_pooled (settled c) (due (settled c) lead)) w) (gained_all inside (due (settled c) lead)) (Ok (false, None, gain inside (due (settled c) lead))) in
    let now : outcome (emptied last w) left (Ok (false, None, given)) ≡ comes count = λ i. outcome (emptied (core i) w) (pool i) (Ok (false, None, number i)) in
    now ∙ ap comes e ∙ ap (λ x. over (try_last k w hung x) inside n) (sym own)

-- the same in the steps of the code
pub settle_comes : (k : Core) (w hung : ℕ) (batch : Batch) (o : Option Batch) (inside : List Bool) (n lead count given : ℕ) (down last end : Core) (left : List Bool) → o ≡ Some batch
    → lead ≡ batch.lead → count ≡ (block k batch.lead).count + hung - 1024 → down ≡ with_block k lead (with_count (block k batch.lead) count batch.newest)
    → last ≡ all_pooled down (due down lead) → left ≡ gained_all inside (due down lead) → given ≡ gain inside (due down lead) → end ≡ emptied last w
    → outcome end left (Ok (false, None, given)) ≡ over (try_last k w hung o) inside n
settle_comes k w hung batch o inside n lead count given down last end left own found more put core pool number then =
    let row : ℕ → Core = λ l. with_block k l (with_count (block k batch.lead) count batch.newest) in
    let from : ℕ → List ℕ = λ l. due (row l) l in
    let back : due down lead ≡ from batch.lead = ap (λ j. due j lead) put ∙ ap from found in
    let to : down ≡ row batch.lead = put ∙ ap row found in
    ap (λ j. outcome j left (Ok (false, None, given))) then
    ∙ last_comes k w hung batch o inside n count given last left own more
    (core ∙ (λ i. all_pooled (to i) (back i)))
    (pool ∙ ap (gained_all inside) back)
    (number ∙ ap (gain inside) back)

use Rattle.std.proofs.Common.{◌≡◌, ℕ, ◌+◌, ◌-◌, sym, ap, ◌∙◌, arith}
use Rattle.pools.specs.Meaning.{is_out}
use Rattle.machine.specs.State.{block, with_block}
use Rattle.machine.specs.Moves.{gained_all, gain}
use Rattle.machine.specs.Walking.{members, pooled, all_pooled}
use Rattle.keeper.proofs.InRange.{block_ranges}
use Rattle.keeper.proofs.GivenBack.{members_none, members_zero, core_again, pool_again, number_again, bit_low}
use Rattle.keeper.proofs.tables.Tables.give_back.Goals as goal

ends : (given more all : ℕ) → more ≡ 0 → given + more ≡ all → given ≡ all
ends given more all e h = omega arith

pub returns-in_default : goal.returns-in_default
returns-in_default g c =
    let l = c.loop in
    let i = l.invariant in
    let k = l.self.core in
    let m : ℕ = 2048 - l.counter in
    let none = ap (members m k) c.in_default.is ∙ members_none m k in
    record {
      core = sym (ap (all_pooled k) none) ∙ i.3;
      pool = sym (ap (gained_all (g.P.Pool.inside l.pool)) none) ∙ i.4;
      number = ends l.given _ _ (ap (gain (g.P.Pool.inside l.pool)) none) i.5;
    }

pub loop-preserved : goal.loop-preserved
loop-preserved g c =
    let l = c.loop in
    let i = l.invariant in
    let b = c.in-Some.block in
    let m : ℕ = 2048 - l.counter in
    let n : ℕ = 2048 - (l.counter + 1) in
    let e : m ≡ n + 1 = omega arith in
    let k = l.self.core in
    let inside = g.P.Pool.inside l.pool in
    let then = g.P.Pool.inside c.give_one-given.new.pool in
    let put = c.give_one-given.ensures.pool in
    let here = ap (members m k) (sym c.in-Some.is) in
    let next = (block k b).elder in
    let low = bit_low (is_out inside b) in
    let one = c.give_one-given.ensures.number in
    let kept = c.put_block.ensures ∙ ap (λ n. with_block k n (pooled (block k b))) c.id.ensures in (
      omega arith,
      omega arith,
      (block_ranges (block k b) (l.self.blocks b)).3,
      ap (λ j. all_pooled j (members n j next)) kept ∙ core_again m n k b e _ (ap (all_pooled k) here ∙ i.3),
      ap (λ j. gained_all then (members n j next)) kept ∙ pool_again m n k b e inside then put _ (ap (gained_all inside) here ∙ i.4),
      ap (λ j. l.given + c.give_one-given.result + gain then (members n j next)) kept ∙ number_again m n k b e inside then put l.given _ _ one (ap (λ bs. l.given + gain inside bs) here ∙ i.5),
    )

pub returns-after-loop : goal.returns-after-loop
returns-after-loop g c =
    let l = c.loop in
    let i = l.invariant in
    let k = l.self.core in
    let m : ℕ = 2048 - l.counter in
    let none = members_zero m k l.next (omega arith) in
    record {
      core = sym (ap (all_pooled k) none) ∙ i.3;
      pool = sym (ap (gained_all (g.P.Pool.inside l.pool)) none) ∙ i.4;
      number = ends l.given _ _ (ap (gain (g.P.Pool.inside l.pool)) none) i.5;
    }

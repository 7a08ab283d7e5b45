use Rattle.std.proofs.Common.{◌≡◌, ◌<◌, length, vec_items, vec_len, vec_capacity, sym, ap, ◌∙◌, arith}
use Rattle.std.proofs.lemmas.List.{at_drop_all}
use Rattle.pools.specs.Counts.{tally}
use Rattle.pools.proofs.Moves.{taken_some}
use Rattle.pool_runs.proofs.Draws.{drew_more, returned, drew_back}
use Rattle.pool_runs.proofs.circuit.circulate.Goals as goal
use Rattle.pool_runs.proofs.circuit.circulate.Goals.{in-Ok, in_default}

pub loop-preserved : goal.loop-preserved
loop-preserved g c =
    let l = c.loop in
    let now = g.P.Pool.inside l.pool in
    let next = g.P.Pool.next l.pool in
    elim c.match-take.branch [
      | in-Ok w ↦ record {
        taken = omega (arith, ap vec_len w.numbers-is, w.push_reserved.ensures.len);
        room = omega (arith, ap vec_capacity w.numbers-is, w.push_reserved.ensures.capacity);
        drew =
            drew_more _ now _ (vec_items l.numbers) _ w.in-Ok.number next l.invariant.drew
            w.in-Ok.ensures.answer c.take.ensures.leaves (g.met.P.Pool.chosen l.pool)
            (ap vec_items w.numbers-is ∙ w.push_reserved.ensures.items);
      }
      | in_default w ↦
          let many = l.invariant.drew.many in
          let same : vec_len l.numbers ≡ length (vec_items l.numbers) = l.numbers.ok.0 in
          let least = c.min-many.ensures in
          let some : 0 < tally now = omega arith in
          absurd (w.in_default.not-Ok next (c.take.ensures.answer ∙ sym (taken_some now next some)))
    ]

pub returns : goal.returns
returns g c =
    let l = c.loop-number in
    let d = c.loop.invariant.drew in
    let done = at_drop_all (returned (g.P.Pool.inside l.pool)) c.deref-number-items.result.now l.number-index c.loop-number-test.false in
    let back = drew_back _ _ _ d in
    let same : vec_len c.loop.numbers ≡ length (vec_items c.loop.numbers) = c.loop.numbers.ok.0 in
    record {
      restored = cc (c.deref-number-items.ensures.value);
      drawn = (omega (arith, c.min-many.ensures, c.count.ensures), λ n. omega (arith, d.each n));
    }

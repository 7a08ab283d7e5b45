use Rattle.std.proofs.Common.{◌≡◌, ◌≤◌, drop, vec_items, vec_len, vec_capacity}
use Rattle.pool_runs.proofs.Draws.{Drew, returned}
use Rattle.pool_runs.proofs.circuit.circulate.Given as goal

abbrev pub invariant-loop : goal.invariant-loop
invariant-loop g l = record {
  taken : vec_len l.numbers ≡ l.counter;
  room : l.many ≤ vec_capacity l.numbers;
  drew : Drew (g.P.Pool.inside l.initial.pool) (g.P.Pool.inside l.pool) (vec_items l.numbers);
}

abbrev pub invariant-loop-number : goal.invariant-loop-number
invariant-loop-number g l =
    returned (g.P.Pool.inside l.pool) (drop l.number-index l.number-items)
    ≡ returned (g.P.Pool.inside l.initial.pool) l.number-items

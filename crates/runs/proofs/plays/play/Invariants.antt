use Rattle.std.proofs.Common.{◌≡◌, ◌≤◌, length, drop, vec_items, vec_len, vec_capacity}
use Rattle.keeper.specs.Tables.{state}
use Rattle.runs.proofs.Goes.{Comes}
use Rattle.runs.proofs.plays.play.Given as goal

-- the calls so far come, with the answers so far, to the keeper as it is
abbrev pub invariant-loop-call : goal.invariant-loop-call
invariant-loop-call g l =
    (vec_len l.answers ≡ l.call-index)
    × (length l.calls ≤ vec_capacity l.answers)
    × Comes (state l.initial.keeper.tables.core (g.P.Pool.inside l.initial.keeper.pool) l.initial.table) l.calls (vec_items l.answers) (state l.keeper.tables.core (g.P.Pool.inside l.keeper.pool) l.table) (drop l.call-index l.calls)

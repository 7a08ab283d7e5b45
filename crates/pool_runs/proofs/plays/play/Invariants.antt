use Rattle.std.proofs.Common.{◌≡◌, ◌≤◌, length, take, vec_items, vec_len, vec_capacity}
use Rattle.pool_runs.proofs.Runs.{Going}
use Rattle.pool_runs.proofs.plays.play.Given as goal

abbrev pub invariant-loop-turn : goal.invariant-loop-turn
invariant-loop-turn g l = record {
  answered : vec_len l.answers ≡ l.turn-index;
  room : length l.moves ≤ vec_capacity l.answers;
  going : Going (g.P.Pool.inside l.initial.pool) (take l.turn-index l.moves) (vec_items l.answers) (g.P.Pool.inside l.pool);
}

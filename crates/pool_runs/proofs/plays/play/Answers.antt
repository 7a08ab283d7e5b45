use Rattle.std.proofs.Common.{◌<◌, [], length, get_or, take, vec_items, arith}
use Rattle.std.proofs.lemmas.List.{take_more, take_all}
use Rattle.pool_runs.specs.declared.moves.Move.TheVariants.{Take}
use Rattle.pool_runs.proofs.Runs.{going_more}
use Rattle.pool_runs.proofs.Accounts.{throughout, once_full}
use Rattle.pool_runs.proofs.plays.play.Goals as goal

pub loop-turn-preserved : goal.loop-turn-preserved
loop-turn-preserved g c =
    let l = c.loop-turn in
    let moves = c.args.moves.now in
    let i = l.turn-index in
    let low : i < length moves = omega arith in record {
      answered = omega arith;
      room = omega arith;
      going =
          going_more _ (take i moves) _ (vec_items l.answers) _ (get_or moves i Take) c.step-answer.result (g.P.Pool.inside l.pool) _
          l.invariant.going (take_more moves i Take low) c.push_reserved.ensures.items c.step-answer.ensures.right c.step-answer.ensures.leaves;
    }

pub returns : goal.returns
returns g c =
    let l = c.loop-turn in
    let moves = c.args.moves.now in
    let run = rw (take_all l.turn-index moves (omega arith)) at l.invariant.going in
    record {
      answered = run.0;
      leads = run.1;
      from_full = λ full. throughout _ [] moves _ run.0 (once_full _ full);
      from_any = λ out once. throughout _ out moves _ run.0 once;
    }

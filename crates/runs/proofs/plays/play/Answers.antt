use Rattle.std.proofs.Common.{◌≡◌, ◌+◌, ◌<◌, [], ◌∷◌, length, drop, vec_items, sym, ap, ◌∙◌, subst, arith}
use Rattle.std.proofs.Math.ListN.{drop_of_length-le}
use Rattle.std.proofs.lemmas.List.{drop_more}
use Rattle.keeper.specs.Tables.{state}
use Rattle.runs.proofs.Goes.{Comes, comes_on, comes_all}
use Rattle.runs.proofs.WholeRuns.{played}
use Rattle.runs.proofs.plays.play.Goals as goal

pub loop-call-preserved : goal.loop-call-preserved
loop-call-preserved g c =
    let l = c.loop-call in
    let calls = c.args.calls.now in
    let i = l.call-index in
    let low : i < length calls = omega arith in
    let x = c.call-item.result in
    let rest : drop i calls ≡ x ∷ drop (i + 1) calls = drop_more calls i x low ∙ ap (λ y. y ∷ drop (i + 1) calls) (sym c.call-item.is) in
    let did = c.ask-answer.ensures in
    let new = c.ask-answer.new in (
      omega arith,
      omega arith,
      comes_on _ (state l.keeper.tables.core (g.P.Pool.inside l.keeper.pool) l.table) (state new.keeper.tables.core (g.P.Pool.inside new.keeper.pool) new.table) calls (drop (i + 1) calls) (vec_items l.answers) (vec_items c.push_reserved.new.self) x (g.P.Pool.next l.keeper.pool) c.ask-answer.result
          (subst (Comes _ calls (vec_items l.answers) _) rest l.invariant.2) (g.met.P.Pool.chosen l.keeper.pool) did.to did.reply c.push_reserved.ensures.items,
    )

pub returns : goal.returns
returns g c =
    let calls = c.args.calls.now in
    let l = c.loop-call in
    let made = c.in_ok-keeper.ensures in
    let done : drop l.call-index calls ≡ [] = drop_of_length-le calls (omega arith) in
    played c.args.form (g.P.Pool.inside c.args.pool) _ c.args.table.now _ calls _ _ made.0 (ap g.P.Pool.inside made.1) (comes_all _ _ calls _ (subst (Comes _ calls (vec_items l.answers) _) done l.invariant.2))

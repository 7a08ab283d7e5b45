use Rattle.std.proofs.Common.{rules}
use Rattle.pools.proofs.fresh.own_places.Goals as goal

pub returns : goal.returns
returns c = λ k low. let called = c.from_fn.ensures.items.at k 0 low in search (rules, called)

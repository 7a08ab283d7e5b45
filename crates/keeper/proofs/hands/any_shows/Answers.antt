use Rattle.std.proofs.Common.{◌∙◌}
use Rattle.keeper.proofs.Shows.{shows_one}
use Rattle.keeper.proofs.hands.any_shows.Goals as goal

pub returns : goal.returns
returns c = c.contains.ensures.value ∙ shows_one c.args.shows c.args.block

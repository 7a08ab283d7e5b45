use Rattle.std.proofs.Common.{◌∙◌}
use Rattle.keeper.proofs.FiguresFit.{made_test}
use Rattle.keeper.proofs.keepers.making.fits.Goals as goal

pub returns : goal.returns
returns c = c.is_ok.ensures.value ∙ made_test c.args.form c.new.result c.new.ensures

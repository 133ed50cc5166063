use Rattle.loss_cases.proofs.Filling.{fits_fill}
use Rattle.loss_cases.proofs.laws.fits_fill.Goals as goal

pub returns : goal.returns
returns c = fits_fill

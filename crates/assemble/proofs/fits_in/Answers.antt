use Rattle.assemble.proofs.LowerLaws.{fits_lowers}
use Rattle.assemble.proofs.fits_in.Goals as goal

pub returns : goal.returns
returns c = λ e. fits_lowers _ _ _ _ _ c.in-Some.ensures c.min.ensures (c.fits.ensures e)

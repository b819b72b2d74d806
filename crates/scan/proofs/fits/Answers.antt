use Rattle.laws.proofs.Inversion.{impossible}
use Rattle.scan.proofs.UnitLaws.{front_six, front_is_good, unit_fits}
use native.Mathlib.Omega.{arith}
use Rattle.scan.proofs.fits.Goals as goal

pub returns-then-not-front_good : goal.returns-then-not-front_good
returns-then-not-front_good c =
    λ e. impossible (cc)

pub bounds-unit-5 : goal.bounds-unit-5
bounds-unit-5 c =
    let h = front_six _ (front_is_good _ _ c.front_good.ensures c.if-not-front_good.false) in omega (arith, h)

pub block-requires : goal.block-requires
block-requires c =
    front_six _ (front_is_good _ _ c.front_good.ensures c.if-not-front_good.false)

pub returns : goal.returns
returns c = unit_fits _ _ _ _ _ (front_is_good _ _ c.front_good.ensures c.if-not-front_good.false) c.from.ensures c.block.ensures c.eq.ensures

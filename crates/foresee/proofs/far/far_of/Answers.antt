use Rattle.std.proofs.Common.{refl}
use Rattle.foresee.specs.Far.{far_of}
use Rattle.foresee.proofs.far.far_of.Goals as goal

pub returns-then-is_far : goal.returns-then-is_far
unfolding far_of
returns-then-is_far c = rw (← c.is_far.ensures, c.if-is_far.true) refl

pub returns-then-is_far-2 : goal.returns-then-is_far-2
unfolding far_of
returns-then-is_far-2 c = rw (← c.is_far.ensures, c.if-is_far.false, ← c.is_far-2.ensures, c.if-is_far-2.true) refl

pub returns : goal.returns
unfolding far_of
returns c = rw (← c.is_far.ensures, c.if-is_far.false, ← c.is_far-2.ensures, c.if-is_far-2.false) refl

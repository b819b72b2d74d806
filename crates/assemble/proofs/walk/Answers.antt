use Rattle.std.proofs.Common.{rules}
use Rattle.assemble.proofs.LowerLaws.{unit_here, walked, walked_as}
use native.Mathlib.Omega.{arith}
use Rattle.assemble.proofs.walk.Goals as goal

pub bounds-unit-5 : goal.bounds-unit-5
bounds-unit-5 g c = let u = unit_here _ c.requires in omega (arith, u.head)

pub stmts-requires : goal.stmts-requires
stmts-requires g c = let u = unit_here _ c.requires in record { accepted = u.reads; at_le_end = (u.head, omega arith) }

pub returns-in_err-stmts : goal.returns-in_err-stmts
returns-in_err-stmts g c = walked _ (λ k. omega (arith, c.type_inv.unit k)) c.requires g.S.Sink.emitted _ _ _ _ _ (search (rules, walked_as))

pub returns : goal.returns
returns g c = walked _ (λ k. omega (arith, c.type_inv.unit k)) c.requires g.S.Sink.emitted _ _ _ _ _ (search (rules, walked_as))

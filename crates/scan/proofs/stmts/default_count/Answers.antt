use borrow.Author.Rules.{rules}
use mathlib.Core.Path.{refl}
use Rattle.definitions.specs.Lower.{default_instrs, primitive_default}
use Rattle.laws.proofs.Arms.{those, others}
use Rattle.scan.proofs.StmtLaws.{odd_default, default_other}
use Rattle.scan.proofs.stmts.default_count.Goals as goal

pub returns-in-0 : goal.returns-in-0
unfolding default_instrs primitive_default
returns-in-0 c = rw c.in-0.is refl

pub returns-in-1 : goal.returns-in-1
unfolding default_instrs primitive_default
returns-in-1 c = rw c.in-1.is refl

pub returns-in-4 : goal.returns-in-4
unfolding default_instrs primitive_default
returns-in-4 c = rw c.in-4.is refl

pub returns-in-22 : goal.returns-in-22
unfolding default_instrs primitive_default
returns-in-22 c = rw c.in-22.is refl

pub returns-in_default : goal.returns-in_default
unfolding those odd_default default_instrs primitive_default
returns-in_default c = default_other c.args.byte (others odd_default 23 c.args.byte c.requires (search rules))

use Rattle.std.specs.Prelude as std
use Prim.Native.Nat.{◌*◌, ◌+◌, ◌-◌}
use Rattle.walk.proofs.CaseLaws.{ArmsRest, CasesRest}
use Rattle.walk.proofs.MidLaws.{BodiesRest}
use Rattle.definitions.specs.Lower.{lower_bodies, lower_branches, lower_cases, lower_default}
use Rattle.definitions.specs.Read.{parse_stmt}
use Rattle.definitions.specs.Tree.{branches_of, cases_of}
use Rattle.ir.specs.declared.Class.TheVariants.{Statement}
use Rattle.steps.proofs.RunLaws.{Rest}
use Rattle.steps.specs.Walked.{arms_from, code_of, default_of, fill_code, lower_all, span_of}
use mathlib.Core.Option.{none}
use Rattle.walk.proofs.holders.Holder.+stmts.Given as goal

abbrev pub decreases-arm : goal.decreases-arm
decreases-arm g l = 20 * l.self.now.nodes.depth + 5

abbrev pub decreases-arms : goal.decreases-arms
decreases-arms g l = 20 * l.self.now.nodes.depth + 6

abbrev pub decreases-stmt : goal.decreases-stmt
decreases-stmt g l = 20 * l.self.now.nodes.depth + 2

abbrev pub decreases-bodies : goal.decreases-bodies
decreases-bodies g l = 20 * l.self.now.nodes.depth + 6

abbrev pub decreases-branches : goal.decreases-branches
decreases-branches g l = 20 * l.self.now.nodes.depth + 0

abbrev pub decreases-case : goal.decreases-case
decreases-case g l = 20 * l.self.now.nodes.depth + 5

abbrev pub decreases-cases : goal.decreases-cases
decreases-cases g l = 20 * l.self.now.nodes.depth + 6

abbrev pub decreases-default : goal.decreases-default
decreases-default g l = 20 * l.self.now.nodes.depth + 5

abbrev pub decreases-inside : goal.decreases-inside
decreases-inside g l = 20 * l.self.now.nodes.depth + 8

abbrev pub decreases-mid : goal.decreases-mid
decreases-mid g l = 20 * l.self.now.nodes.depth + 7

abbrev pub decreases-repeat : goal.decreases-repeat
decreases-repeat g l = 20 * l.self.now.nodes.depth + 0

abbrev pub decreases-stmts : goal.decreases-stmts
decreases-stmts g l = 20 * l.self.now.nodes.depth + 4

abbrev pub decreases-switch : goal.decreases-switch
decreases-switch g l = 20 * l.self.now.nodes.depth + 0

abbrev pub invariant-arms-loop-i : goal.invariant-arms-loop-i
invariant-arms-loop-i g l = ArmsRest g.S.Sink.emitted l.self.nodes.depth l.self.nodes.unit.now l.self.nodes.end l.site l.exit (span_of l.self.span) (code_of (λ xs. lower_branches (branches_of xs) l.site l.first l.exit (span_of l.self.span)) (arms_from l.self.nodes.depth l.self.nodes.unit.now l.self.nodes.end l.at)) (std.Ok l.initial.c) l.initial.sink l.initial.marks l.next l.i (std.Ok l.c) l.sink l.marks

abbrev pub decreases-arms-loop-i : goal.decreases-arms-loop-i
decreases-arms-loop-i g l = l.self.nodes.end - l.i

abbrev pub invariant-bodies-loop-i : goal.invariant-bodies-loop-i
invariant-bodies-loop-i g l = BodiesRest g.S.Sink.emitted l.self.nodes.depth l.self.nodes.unit.now l.list l.self.nodes.end l.index l.label (l.label + l.n) (span_of l.self.span) (code_of (λ cs. lower_bodies (cases_of cs) l.index l.label (l.label + l.n) (lower_default (default_of 1 l.self.nodes.depth l.self.nodes.unit.now l.self.nodes.end l.list) (span_of l.self.span)) (span_of l.self.span)) (arms_from l.self.nodes.depth l.self.nodes.unit.now l.list l.at)) (std.Ok l.initial.c) l.initial.sink l.initial.marks l.k l.i (std.Ok l.c) l.sink l.marks

abbrev pub decreases-bodies-loop-i : goal.decreases-bodies-loop-i
decreases-bodies-loop-i g l = l.list - l.i

abbrev pub invariant-cases-loop-i : goal.invariant-cases-loop-i
invariant-cases-loop-i g l = CasesRest g.S.Sink.emitted l.self.nodes.depth l.self.nodes.unit.now l.self.nodes.end l.site (span_of l.self.span) (code_of (λ xs. lower_cases (cases_of xs) l.site l.first none (span_of l.self.span)) (arms_from l.self.nodes.depth l.self.nodes.unit.now l.self.nodes.end l.at)) (std.Ok l.initial.c) l.initial.sink l.initial.marks l.next l.group l.i (std.Ok l.c) l.sink l.marks

abbrev pub decreases-cases-loop-i : goal.decreases-cases-loop-i
decreases-cases-loop-i g l = l.self.nodes.end - l.i

abbrev pub invariant-stmts-loop-here : goal.invariant-stmts-loop-here
invariant-stmts-loop-here g l = Rest g.S.Sink.emitted (parse_stmt l.self.nodes.depth l.self.nodes.unit.now) (lower_all Statement (span_of l.self.span)) (fill_code Statement l.self.nodes.depth l.self.nodes.unit.now l.self.nodes.end l.at (span_of l.self.span)) l.self.nodes.end (std.Ok l.initial.c) l.initial.sink l.initial.marks l.here (std.Ok l.c) l.sink l.marks

abbrev pub decreases-stmts-loop-here : goal.decreases-stmts-loop-here
decreases-stmts-loop-here g l = l.self.nodes.end - l.here

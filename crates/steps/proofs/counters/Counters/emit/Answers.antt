use Rattle.std.proofs.Common.{◌∙◌, refl}
use Rattle.steps.proofs.StepLaws.{emitted_is, given_is}
use Rattle.steps.proofs.counters.Counters.emit.Goals as goal

pub returns : goal.returns
returns g c = (emitted_is c.args.self.now _ _ _ _ (c.from-2.ensures ∙ c.size_of.ensures.0) refl refl, given_is g.S.Sink.emitted _ c.from.ensures c.record.ensures)

use Rattle.std.proofs.Common.{cond, sym, ap, le-ltb, lt-ltb}
use Rattle.steps.proofs.pieces.default_index.Goals as goal

pub returns-then-k-lt4 : goal.returns-then-k-lt4
returns-then-k-lt4 c = sym (ap (λ z. cond z c.args.i 0) (lt-ltb _ _ c.if-k-lt4.true))

pub returns-else-k-lt4 : goal.returns-else-k-lt4
returns-else-k-lt4 c = sym (ap (λ z. cond z c.args.i 0) (le-ltb _ _ c.if-k-lt4.false))

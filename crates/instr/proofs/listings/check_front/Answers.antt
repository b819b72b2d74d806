-- One law for each way out.
use mathlib.Core.Path.{◌∙◌}
use Rattle.instr.proofs.ListingLaws.{front_short, front_version, front_length_law, front_part, front_counted}
use Rattle.instr.proofs.listings.check_front.Goals.{then-s-lt-FRONT-via-then-s-lt-FRONT, then-s-lt-FRONT-via-else-s-lt-FRONT+then-s-ne-VERSION, then-u32_at-rest-via-then-u32_at-rest, then-u32_at-rest-via-else-u32_at-rest+then-rest-ne0}
use Rattle.instr.proofs.listings.check_front.Goals as goal

pub returns-then-s-lt-FRONT : goal.returns-then-s-lt-FRONT
returns-then-s-lt-FRONT c = elim c.then-s-lt-FRONT.branch [
  | then-s-lt-FRONT-via-then-s-lt-FRONT w ↦ front_short c.args.s.now w.if-s-lt-FRONT.true
  | then-s-lt-FRONT-via-else-s-lt-FRONT+then-s-ne-VERSION w ↦ front_version c.args.s.now w.if-s-lt-FRONT.false w.if-s-ne-VERSION.true
]

pub returns-then-u32_at-rest : goal.returns-then-u32_at-rest
returns-then-u32_at-rest c =
    let law = front_length_law c.args.s.now c.u32_at.result c.if-s-lt-FRONT.false c.if-s-ne-VERSION.false c.u32_at.ensures.0 in
    let part = front_part c.args.s.now c.u32_at.result c.if-s-lt-FRONT.false c.if-s-ne-VERSION.false c.u32_at.ensures.0 in
    elim c.then-u32_at-rest.branch [
      | then-u32_at-rest-via-then-u32_at-rest w ↦ law w.if-u32_at-rest.true
      | then-u32_at-rest-via-else-u32_at-rest+then-rest-ne0 w ↦ part w.if-u32_at-rest.false w.if-rest-ne0.true
    ]

pub returns : goal.returns
returns c =
    c.then_some.ensures ∙ front_counted c.args.s.now c.u32_at.result c.if-s-lt-FRONT.false c.if-s-ne-VERSION.false c.u32_at.ensures.0 c.if-u32_at-rest.false c.if-rest-ne0.false

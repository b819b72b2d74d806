-- As many digits as the number has.
use Rattle.print.proofs.DigitLaws.{decimal_field}
use Rattle.print.proofs.page.Page.decimal.Goals as goal

pub returns : goal.returns
returns c = decimal_field c.args.n c.places.result c.places.ensures.0 c.places.ensures.1 c.put_digits.ensures

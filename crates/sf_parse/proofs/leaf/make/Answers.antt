use Rattle.sf_parse.proofs.Leaves.{integer_fits, decimal_fits, date_fits}
use Rattle.sf_parse.proofs.leaf.make.Goals as goal

pub int-requires : goal.int-requires
int-requires c = integer_fits _ _ c.requires c.in-Integer.is

pub thousandths-requires : goal.thousandths-requires
thousandths-requires c = decimal_fits _ _ c.requires c.in-Decimal.is

pub int-requires-in-Date : goal.int-requires-in-Date
int-requires-in-Date c = date_fits _ _ c.requires c.in-Date.is

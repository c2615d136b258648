use Rattle.sf_parse.proofs.Dialects.{only_new}
use Rattle.sf_parse.proofs.laws.only_new_types_differ.Goals as goal

pub returns : goal.returns
returns c = only_new

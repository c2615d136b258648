use Rattle.sf_field.proofs.HeaderTexts as texts
use Rattle.sf_field.proofs.laws.set_is_read.Goals as goal

pub returns : goal.returns
returns c = texts.set_is_read

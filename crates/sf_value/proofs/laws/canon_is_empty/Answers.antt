use Rattle.sf_value.proofs.EmptyTexts as empty_texts
use Rattle.sf_value.proofs.laws.canon_is_empty.Goals as goal

pub returns : goal.returns
returns c = empty_texts.canon_is_empty

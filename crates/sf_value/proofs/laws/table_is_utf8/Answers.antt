use Rattle.sf_value.proofs.Utf8Table.{from_utf8, to_utf8}
use Rattle.sf_value.proofs.laws.table_is_utf8.Goals as goal

pub returns : goal.returns
returns c = λ s. (to_utf8 s, from_utf8 s)

use Rattle.sf_field.proofs.Normals.{means_as_canonical}
use Rattle.sf_field.proofs.asking.ask_in.Goals as goal

pub returns-clause-canonical : goal.returns-clause-canonical
returns-clause-canonical g c = means_as_canonical c.args.dialect _ _ c.args.lines.now

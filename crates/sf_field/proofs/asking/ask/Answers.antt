use Rattle.sf_value.specs.declared.dialect.Dialect.TheVariants.{Rfc9651}
use Rattle.sf_field.proofs.Normals.{means_as_canonical}
use Rattle.sf_field.proofs.asking.ask.Goals as goal

pub returns-clause-canonical : goal.returns-clause-canonical
returns-clause-canonical g c = means_as_canonical Rfc9651 _ _ c.args.lines.now

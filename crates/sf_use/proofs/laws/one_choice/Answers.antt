use Rattle.sf_value.specs.declared.dialect.Dialect.TheVariants.{Rfc9651}
use Rattle.sf_use.proofs.Choosing as choosing
use Rattle.sf_use.proofs.Deciding as deciding
use Rattle.sf_use.proofs.Firsts as firsts
use Rattle.sf_use.proofs.Replacing as replacing
use Rattle.sf_use.proofs.laws.one_choice.Goals as goal

pub returns-clause-one : goal.returns-clause-one
returns-clause-one c = choosing.one_choice Rfc9651

pub returns-clause-canonical : goal.returns-clause-canonical
returns-clause-canonical c = choosing.chosen_as_canonical Rfc9651

pub returns-clause-replaced : goal.returns-clause-replaced
returns-clause-replaced c = replacing.chosen_as_replaced Rfc9651

pub returns-clause-first : goal.returns-clause-first
returns-clause-first c = firsts.chosen_is_first Rfc9651

pub returns-clause-some : goal.returns-clause-some
returns-clause-some c = deciding.some_choice Rfc9651

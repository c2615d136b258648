use Rattle.std.proofs.Common.{refl, arith}
use Rattle.sf_value.specs.Grammar.Classes.{is_in_token}
use Rattle.sf_value.specs.declared.classes.TheConstants.{CLASSES}
use Rattle.sf_value.proofs.ByteTables.{flag_read}
use Rattle.sf_value.proofs.classes.InTokenByteClass.has.Goals as goal

pub returns : goal.returns
returns c = flag_read CLASSES 2 is_in_token refl c.args.byte (omega arith)

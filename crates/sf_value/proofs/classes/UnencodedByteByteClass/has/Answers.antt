use Rattle.std.proofs.Common.{refl, arith}
use Rattle.sf_value.specs.Grammar.DisplayStrings.{is_unencoded}
use Rattle.sf_value.specs.declared.classes.TheConstants.{CLASSES}
use Rattle.sf_value.proofs.ByteTables.{flag_read}
use Rattle.sf_value.proofs.classes.UnencodedByteByteClass.has.Goals as goal

pub returns : goal.returns
returns c = flag_read CLASSES 64 is_unencoded refl c.args.byte (omega arith)

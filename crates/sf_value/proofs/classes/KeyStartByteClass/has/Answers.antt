use Rattle.std.proofs.Common.{refl, arith}
use Rattle.sf_value.specs.Grammar.Classes.{is_key_start}
use Rattle.sf_value.specs.declared.classes.TheConstants.{CLASSES}
use Rattle.sf_value.proofs.ByteTables.{flag_read}
use Rattle.sf_value.proofs.classes.KeyStartByteClass.has.Goals as goal

pub returns : goal.returns
returns c = flag_read CLASSES 4 is_key_start refl c.args.byte (omega arith)

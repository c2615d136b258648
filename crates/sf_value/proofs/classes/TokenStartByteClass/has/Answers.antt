use Rattle.std.proofs.Common.{refl, arith}
use Rattle.sf_value.specs.Grammar.Classes.{is_token_start}
use Rattle.sf_value.specs.declared.classes.TheConstants.{CLASSES}
use Rattle.sf_value.proofs.ByteTables.{flag_read}
use Rattle.sf_value.proofs.classes.TokenStartByteClass.has.Goals as goal

pub returns : goal.returns
returns c = flag_read CLASSES 8 is_token_start refl c.args.byte (omega arith)

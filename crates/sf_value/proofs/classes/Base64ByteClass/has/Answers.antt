use Rattle.std.proofs.Common.{refl, arith}
use Rattle.sf_value.specs.Grammar.ByteSequences.{is_base64}
use Rattle.sf_value.specs.declared.classes.TheConstants.{CLASSES}
use Rattle.sf_value.proofs.ByteTables.{flag_read}
use Rattle.sf_value.proofs.classes.Base64ByteClass.has.Goals as goal

pub returns : goal.returns
returns c = flag_read CLASSES 32 is_base64 refl c.args.byte (omega arith)

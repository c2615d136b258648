use Rattle.std.proofs.Common.{refl, arith}
use Rattle.sf_value.specs.Grammar.Strings.{is_unescaped}
use Rattle.sf_value.specs.declared.classes.TheConstants.{CLASSES}
use Rattle.sf_value.proofs.ByteTables.{flag_read}
use Rattle.sf_value.proofs.classes.UnescapedByteClass.has.Goals as goal

pub returns : goal.returns
returns c = flag_read CLASSES 16 is_unescaped refl c.args.byte (omega arith)

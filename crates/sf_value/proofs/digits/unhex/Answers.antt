use Rattle.std.proofs.Common.{refl, arith}
use Rattle.sf_value.specs.Digits.{unhex}
use Rattle.sf_value.specs.declared.digits.TheConstants.{HEX}
use Rattle.sf_value.proofs.ByteTables.{value_read, none_read}
use Rattle.sf_value.proofs.DigitValues.{read_hex}
use Rattle.sf_value.proofs.digits.unhex.Goals as goal

pub returns-then-value-lt16-clause-value : goal.returns-then-value-lt16-clause-value
returns-then-value-lt16-clause-value c =
    value_read HEX 16 unhex refl c.args.byte (omega arith) c.if-value-lt16.true

pub returns-else-value-lt16-clause-value : goal.returns-else-value-lt16-clause-value
returns-else-value-lt16-clause-value c =
    none_read HEX 16 unhex refl (λ b v e. (read_hex b v e).1) c.args.byte (omega arith)
    c.if-value-lt16.false

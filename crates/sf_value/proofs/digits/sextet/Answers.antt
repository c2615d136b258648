use Rattle.std.proofs.Common.{refl, arith}
use Rattle.sf_value.specs.Digits.{sextet}
use Rattle.sf_value.specs.declared.digits.TheConstants.{SEXTETS}
use Rattle.sf_value.proofs.ByteTables.{value_read, none_read}
use Rattle.sf_value.proofs.DigitValues.{read_letter}
use Rattle.sf_value.proofs.digits.sextet.Goals as goal

pub returns-then-value-lt64-clause-value : goal.returns-then-value-lt64-clause-value
returns-then-value-lt64-clause-value c =
    value_read SEXTETS 64 sextet refl c.args.byte (omega arith) c.if-value-lt64.true

pub returns-else-value-lt64-clause-value : goal.returns-else-value-lt64-clause-value
returns-else-value-lt64-clause-value c =
    none_read SEXTETS 64 sextet refl (λ b v e. (read_letter b v e).1) c.args.byte (omega arith)
    c.if-value-lt64.false

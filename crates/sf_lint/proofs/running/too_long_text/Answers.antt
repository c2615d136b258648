use Rattle.std.proofs.Common.{refl}
use Rattle.std.specs.Fmt.{digits}
use Rattle.sf_lint.proofs.running.too_long_text.Goals as goal

pub returns-then-settings : goal.returns-then-settings
unfolding digits
returns-then-settings c = rw c.if-settings.true refl

pub returns-else-settings : goal.returns-else-settings
unfolding digits
returns-else-settings c = rw c.if-settings.false refl

use Rattle.sf_value.specs.declared.dialect.Dialect.TheVariants.{Rfc9651}
use Rattle.sf_value.specs.Grammar.Fields.{kind_of}
use Rattle.sf_write.proofs.AsciiTexts.{spelled_utf8}
use Rattle.sf_write.proofs.formats.to_string.Goals as goal

pub from_utf8_unchecked-requires : goal.from_utf8_unchecked-requires
from_utf8_unchecked-requires c =
    spelled_utf8 Rfc9651 (kind_of c.args.field.now) c.args.field.now c.in_ok-text.text.items
    c.in_ok-text.ensures.spells

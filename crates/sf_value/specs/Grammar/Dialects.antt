-- The two dialects: RFC 8941, and RFC 9651, which adds Dates and Display Strings (section 2.4 and
-- appendix D of RFC 9651).
use Rattle.std.specs.Prelude.{Bool, true, false}
use Rattle.sf_value.specs.declared.dialect.Dialect.{Dialect}
use Rattle.sf_value.specs.declared.dialect.Dialect.TheVariants.{Rfc8941, Rfc9651}

-- whether there are Dates and Display Strings
abbrev pub is_rfc9651 : Dialect → Bool
is_rfc9651 Rfc8941 = false
is_rfc9651 Rfc9651 = true

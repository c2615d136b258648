-- Parameters by key and type. Ours: one of another type than the RFC states counts as absent.
use Rattle.std.specs.Prelude.{ℕ, ℤ, Bool, List, Option, Some, None}
use Rattle.std.specs.Option.{option_and_then}
use Rattle.sf_value.specs.declared.value.Bare.{Bare}
use Rattle.sf_value.specs.declared.value.Bare.TheVariants.{Text, Token}
use Rattle.sf_value.specs.Grammar.Pairs.{Pairs, value_at}
use Rattle.sf_value.specs.Lookups.{as_boolean, as_integer, as_text, as_token}
use Rattle.sf_use.specs.declared.cache_status.hop.Name.{Name}
use Rattle.sf_use.specs.declared.cache_status.hop.Name.TheVariants as name

-- a name: a String or a Token
abbrev pub as_name : Bare → Option Name
as_name (Text t) = Some (name.Text t)
as_name (Token t) = Some (name.Token t)
as_name other = None

abbrev pub boolean_at : List ℕ → Pairs Bare → Option Bool
boolean_at key params = option_and_then as_boolean (value_at key params)

abbrev pub integer_at : List ℕ → Pairs Bare → Option ℤ
integer_at key params = option_and_then as_integer (value_at key params)

abbrev pub token_at : List ℕ → Pairs Bare → Option (List ℕ)
token_at key params = option_and_then as_token (value_at key params)

abbrev pub text_at : List ℕ → Pairs Bare → Option (List ℕ)
text_at key params = option_and_then as_text (value_at key params)

abbrev pub name_at : List ℕ → Pairs Bare → Option Name
name_at key params = option_and_then as_name (value_at key params)

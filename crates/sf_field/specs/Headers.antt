-- The field lines of a name in a header map.
use Rattle.std.specs.Prelude.{ℕ, List, [], ◌∷◌, map, Option, Some, None, Result, Ok, Err}
use Rattle.http_header.specs.FieldValue.{FieldValue, plain_value}
use Rattle.http_header.specs.HeaderMap.{ContainsKey, Entries, get_all, insert, remove}
use Rattle.sf_value.specs.declared.dialect.Dialect.TheVariants.{Rfc9651}
use Rattle.sf_value.specs.declared.value.Field.{Field}
use Rattle.sf_value.specs.declared.value.Kind.{Kind}
use Rattle.sf_parse.specs.declared.refusal.Refusal.{Refusal}
use Rattle.sf_field.specs.Lines.{ParsesLines}

-- a header map, as contracts see it
abbrev pub Headers : Type 0
Headers = Entries FieldValue

-- the bytes of the values
abbrev pub value_lines : List FieldValue → List (List ℕ)
value_lines values = map (λ v. v.bytes) values

-- the bytes of the values under the name, in the map's order
abbrev pub lines_under : Headers → List ℕ → List (List ℕ)
lines_under headers name = value_lines (get_all headers name)

-- None if the name is absent; otherwise its values are parsed as lines
abbrev pub ParsesHeaders : Kind → Headers → List ℕ → Result (Option Field) Refusal → Type 0
ParsesHeaders kind headers name (Ok None) = ¬ (ContainsKey headers name)
ParsesHeaders kind headers name (Ok (Some v)) =
    ContainsKey headers name × ParsesLines Rfc9651 kind (lines_under headers name) (Ok v)
ParsesHeaders kind headers name (Err e) =
    ContainsKey headers name × ParsesLines Rfc9651 kind (lines_under headers name) (Err e)

-- the map with this text as the only value under the name; a field with an empty text is not sent
-- (RFC 9651 section 4.1)
abbrev pub set_text : Headers → List ℕ → List ℕ → Headers
set_text headers name [] = remove headers name
set_text headers name (b ∷ text) = insert headers name (plain_value (b ∷ text))

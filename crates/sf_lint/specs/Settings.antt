-- Which fields are structured.
use Rattle.std.specs.Prelude.{ℕ, Bool, List, Option, Some, None, codes, if◌then◌else◌, ◌==◌}
use Rattle.std.specs.List.{find, ends_with}
use Rattle.std.specs.Option.{option_map}
use Rattle.std.specs.Str.{bytes_eq}
use Rattle.sf_value.specs.declared.dialect.Dialect.TheVariants.{Rfc8941, Rfc9651}
use Rattle.sf_value.specs.declared.value.Kind.{Kind}
use Rattle.sf_value.specs.declared.value.Kind.TheVariants.{Dict}
use Rattle.sf_lint.specs.Registry.{kind_of, dialect_of}
use Rattle.sf_lint.specs.declared.settings.CustomField.{CustomField}
use Rattle.sf_lint.specs.declared.settings.FieldType.{FieldType}
use Rattle.sf_lint.specs.declared.settings.Settings.{Settings}

-- the kind that the settings have for a name, which is in lower case
abbrev pub custom_kind : List CustomField → List ℕ → Option Kind
custom_kind fields name = option_map (λ f. f.kind) (find (λ f. bytes_eq f.name name) fields)

-- a targeted cache control field (RFC 9213 section 2.1 leaves its name to its definition)
abbrev pub is_targeted : List ℕ → Bool
is_targeted name = ends_with (λ a b. a == b) name (codes "-cache-control")

-- the type of a field that isn't registered
abbrev pub unregistered_type : List ℕ → Option FieldType
unregistered_type name =
    if is_targeted name then Some (record { dialect = Rfc8941; kind = Dict }) else None

-- the type of a field without a kind in the settings
abbrev pub type_by_name : List ℕ → Option Kind → Option FieldType
type_by_name name None = unregistered_type name
type_by_name name (Some kind) = Some (record { dialect = dialect_of name; kind = kind })

-- the type of any field
abbrev pub type_by : List ℕ → Option Kind → Option FieldType
type_by name None = type_by_name name (kind_of name)
type_by name (Some kind) = Some (record { dialect = Rfc9651; kind = kind })

-- the type of the field of this name, if it is structured: that of the settings; otherwise that of
-- the registry; otherwise that of a targeted field
abbrev pub type_of : Settings → List ℕ → Option FieldType
type_of settings name = type_by name (custom_kind settings.fields.items name)

-- The meaning of Origin-Agent-Cluster.
use Rattle.std.specs.Prelude.{Bool, false}
use Rattle.sf_value.specs.declared.value.Bare.{Bare}
use Rattle.sf_value.specs.declared.value.Bare.TheVariants.{Boolean}
use Rattle.sf_value.specs.declared.value.Field.{Field}
use Rattle.sf_value.specs.declared.value.Field.TheVariants as field

-- Whether a bare item is the Boolean true.
abbrev pub is_true : Bare → Bool
is_true (Boolean b) = b
is_true x = false

-- Whether the field requests it, whatever its parameters.
abbrev pub asks : Field → Bool
asks (field.Item i) = is_true i.bare
asks f = false

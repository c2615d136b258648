-- The laws of the hops and of a priority. Each is the contract of a function in `src/laws.rt`.
use Rattle.std.specs.Prelude.{◌≡◌, ℕ, ◌+◌, ◌*◌, ◌≤◌, List, length, map, Ok}
use Rattle.sf_value.specs.declared.dialect.Dialect.{Dialect}
use Rattle.sf_value.specs.declared.value.Field.{Field}
use Rattle.sf_value.specs.declared.value.Kind.{Kind}
use Rattle.sf_value.specs.Grammar.Fields.{SpellsField}
use Rattle.sf_use.specs.declared.cache_status.hop.Hop.{Hop}
use Rattle.sf_use.specs.CacheStatus.Hops.{hops}
use Rattle.sf_value.specs.declared.dialect.Dialect.TheVariants.{Rfc9651}
use Rattle.sf_value.specs.declared.value.Field.TheVariants as field
use Rattle.sf_value.specs.declared.value.Kind.TheVariants as kind
use Rattle.sf_value.specs.Grammar.Canonical.{canon}
use Rattle.sf_parse.specs.Parsers.{IsOnly}
use Rattle.sf_use.specs.Priority.{params_of_dict}
use Rattle.sf_c.specs.declared.priority.PriorityFlags.{PriorityFlags}
use Rattle.sf_c.specs.Priorities.{params_of_flags, dict_of_params}
use Rattle.sf_c.specs.declared.hops.HopNode.{HopNode}
use Rattle.sf_c.specs.Hops.{hops_size, hop_content, hop_content_by}

-- if structs describe two paths, these are equal
abbrev pub DescribeOnePath : Type 0
DescribeOnePath =
    (bytes : List ℕ) (hops : List HopNode) (hs js : List Hop)
    → map (hop_content_by bytes) hops ≡ map hop_content hs
    → map (hop_content_by bytes) hops ≡ map hop_content js → hs ≡ js

-- the hops of the path that a text spells are at most four fifths of the text's length, rounded to
-- the nearest number
abbrev pub HopsAreFew : Type 0
HopsAreFew =
    (d : Dialect) (kind : Kind) (t : List ℕ) (v : Field) (hs : List Hop)
    → SpellsField d kind t v → hops v ≡ Ok hs → 10 * length hs ≤ 8 * length t + 5

-- the bytes of the path that a text spells are at most eight fifths of the text's length
abbrev pub HopBytesAreFew : Type 0
HopBytesAreFew =
    (d : Dialect) (kind : Kind) (t : List ℕ) (v : Field) (hs : List Hop)
    → SpellsField d kind t v → hops v ≡ Ok hs
    → 5 * hops_size (map hop_content hs) ≤ 8 * length t

-- what is written for the struct of a priority is read as what the struct sets
abbrev pub PriorityIsRead : Type 0
PriorityIsRead =
    (p : PriorityFlags)
    → IsOnly Rfc9651 kind.Dict (canon (field.Dict (dict_of_params (params_of_flags p))))
    (field.Dict (dict_of_params (params_of_flags p)))
    × (params_of_dict (dict_of_params (params_of_flags p)) ≡ params_of_flags p)

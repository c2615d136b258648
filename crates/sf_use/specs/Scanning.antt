-- Dictionaries whose members are read from a text one after another.
use Rattle.std.specs.Prelude.{ℕ, ℤ, pos, nat_le, if◌then◌else◌, Bool, true, List, codes}
use Rattle.std.specs.Prelude.{Option, Some, None, unwrap_or}
use Rattle.sf_value.specs.declared.dialect.Dialect.{Dialect}
use Rattle.sf_value.specs.declared.dialect.Dialect.TheVariants.{Rfc9651}
use Rattle.sf_value.specs.declared.value.Field.{Field}
use Rattle.sf_value.specs.declared.value.Kind.TheVariants as kind
use Rattle.sf_value.specs.declared.value.Member.{Member}
use Rattle.sf_parse.specs.Parsers.{IsOnly}
use Rattle.sf_view.specs.Overwriting.{overwritten}
use Rattle.sf_use.specs.declared.priority.Asked.{Asked}
use Rattle.sf_use.specs.declared.targeted.Policy.{Policy}
use Rattle.sf_use.specs.Priority.{urgency, incremental}
use Rattle.sf_use.specs.Ranges.{least_urgent}
use Rattle.sf_use.specs.Targeted.{delta_seconds, is_set}

-- in the dialect the text spells a Dictionary and no other value, and the answer for it is as P
-- says
abbrev pub IsScannedIn : {A : Type 0} → Dialect → (Field → A → Type 0) → List ℕ → A → Type 0
IsScannedIn d P text a = (v : Field) × IsOnly d kind.Dict text v × P v a

-- the same by RFC 9651
abbrev pub IsScanned : {A : Type 0} → (Field → A → Type 0) → List ℕ → A → Type 0
IsScanned P text a = IsScannedIn Rfc9651 P text a

-- an Integer as an urgency
abbrev pub urgency_by : Option ℤ → Option ℕ
urgency_by (Some (pos n)) = if nat_le n least_urgent then Some n else None
urgency_by x = None

-- an Integer as seconds
abbrev pub seconds_by : Option ℤ → Option ℕ
seconds_by (Some (pos n)) = Some n
seconds_by x = None

-- whether a member sets a directive, by its Boolean, if it has one
abbrev pub sets_by : Option Bool → Bool
sets_by b = unwrap_or b true

-- what is set after one more member
abbrev pub with_member : Asked → List ℕ × Member → Asked
with_member a p = record {
  urgency = overwritten urgency (codes "u") a.urgency p;
  incremental = overwritten incremental (codes "i") a.incremental p;
}

-- the policy after one more member
abbrev pub with_directive : Policy → List ℕ × Member → Policy
with_directive s p = record {
  max_age = overwritten delta_seconds (codes "max-age") s.max_age p;
  s_maxage = overwritten delta_seconds (codes "s-maxage") s.s_maxage p;
  must_revalidate = overwritten is_set (codes "must-revalidate") s.must_revalidate p;
  no_store = overwritten is_set (codes "no-store") s.no_store p;
  no_cache = overwritten is_set (codes "no-cache") s.no_cache p;
  is_private = overwritten is_set (codes "private") s.is_private p;
}

-- The meaning of a targeted field (RFC 9213 section 2.1).
use Rattle.std.specs.Prelude.{ℕ, pos, Bool, true, false, [], Option, Some, None, codes}
use Rattle.std.specs.Option.{option_or}
use Rattle.sf_value.specs.declared.value.Bare.{Bare}
use Rattle.sf_value.specs.declared.value.Bare.TheVariants.{Integer, Boolean}
use Rattle.sf_value.specs.declared.value.Dict.{Dict}
use Rattle.sf_value.specs.declared.value.Field.{Field}
use Rattle.sf_value.specs.declared.value.Field.TheVariants as field
use Rattle.sf_value.specs.declared.value.Member.{Member}
use Rattle.sf_value.specs.declared.value.Member.TheVariants as member
use Rattle.sf_value.specs.Grammar.Pairs.{value_at}
use Rattle.sf_use.specs.declared.targeted.Policy.{Policy}

-- delta-seconds (RFC 9111 section 1.2.2): an Integer that is not negative
abbrev pub whole : Bare → Option ℕ
whole (Integer (pos n)) = Some n
whole x = None

-- the seconds that a member sets, whatever its parameters
abbrev pub delta_seconds : Option Member → Option ℕ
delta_seconds (Some (member.Item i)) = whole i.bare
delta_seconds m = None

-- any bare item but Boolean false sets a directive
abbrev pub not_false : Bare → Bool
not_false (Boolean b) = b
not_false x = true

-- a directive is set if it is present and is not an Item of Boolean false
abbrev pub is_set : Option Member → Bool
is_set None = false
is_set (Some (member.Item i)) = not_false i.bare
is_set (Some (member.Inner l)) = true

-- the policy of a Dictionary (RFC 9213 section 2.1); other directives are ignored
abbrev pub policy : Dict → Policy
policy d = record {
  max_age = delta_seconds (value_at (codes "max-age") d.members);
  s_maxage = delta_seconds (value_at (codes "s-maxage") d.members);
  must_revalidate = is_set (value_at (codes "must-revalidate") d.members);
  no_store = is_set (value_at (codes "no-store") d.members);
  no_cache = is_set (value_at (codes "no-cache") d.members);
  is_private = is_set (value_at (codes "private") d.members);
}

-- a Dictionary without members
abbrev pub nothing : Dict
nothing = record { members = [] }

-- the policy of a field; a field that is no Dictionary is never passed, and would set nothing
abbrev pub directives : Field → Policy
directives (field.Dict d) = policy d
directives f = policy nothing

-- the freshness lifetime in seconds: in a shared cache s-maxage takes precedence over max-age (RFC
-- 9111 section 4.2.1), in a private one only max-age counts
abbrev pub life : Policy → Bool → Option ℕ
life p true = option_or p.s_maxage p.max_age
life p false = p.max_age

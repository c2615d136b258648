-- A priority put into a Dictionary (RFC 9218 section 4).
use Rattle.std.specs.Prelude.{ℕ, pos, Bool, Option, Some, None, codes}
use Rattle.sf_value.specs.declared.value.Bare.TheVariants.{Integer, Boolean}
use Rattle.sf_value.specs.declared.value.Dict.{Dict}
use Rattle.sf_value.specs.declared.value.Member.{Member}
use Rattle.sf_value.specs.Grammar.Pairs.{Pairs, put}
use Rattle.sf_use.specs.declared.priority.Asked.{Asked}
use Rattle.sf_use.specs.Priority.{bare_member}

-- the urgency at the key u, if one is set
abbrev pub with_urgency : Option ℕ → Pairs Member → Pairs Member
with_urgency None ps = ps
with_urgency (Some n) ps = put ps (codes "u") (bare_member (Integer (pos n)))

-- the flag at the key i, if one is set
abbrev pub with_incremental : Option Bool → Pairs Member → Pairs Member
with_incremental None ps = ps
with_incremental (Some b) ps = put ps (codes "i") (bare_member (Boolean b))

-- what is set is put at its key, and the other members stay
abbrev pub updated : Asked → Dict → Dict
updated a d = record {
  members = with_incremental a.incremental (with_urgency a.urgency d.members);
}

-- The policy of a targeted field as a struct.
use Rattle.std.specs.Prelude.{◌≡◌, ◌≢◌, ℕ, ◌==◌, not, if◌then◌else◌, List as Seq, [], is_some}
use Rattle.std.specs.Prelude.{Option, Some, None, unwrap_or}
use Rattle.sf_value.specs.declared.dialect.Dialect.TheVariants.{Rfc9651}
use Rattle.sf_value.specs.declared.value.Dict.{Dict}
use Rattle.sf_value.specs.declared.value.Field.TheVariants as field
use Rattle.sf_value.specs.declared.value.Kind.TheVariants as kind
use Rattle.sf_parse.specs.Parsers.{IsOnly}
use Rattle.sf_use.specs.declared.targeted.Policy.{Policy}
use Rattle.sf_use.specs.Targeted.{life, policy}
use Rattle.sf_c.specs.declared.cache_control.PolicyFlags.{PolicyFlags}
use Rattle.sf_c.specs.declared.refusal.SyntaxRefusal.{SyntaxRefusal}
use Rattle.sf_c.specs.declared.status.Status.{Status}
use Rattle.sf_c.specs.declared.status.Status.TheVariants.{Answered, Refused, Empty, OutOfMemory}
use Rattle.sf_c.specs.Refusals.{SaysRefusal, flag_number}

-- the struct has the policy, with 0 for absent seconds
abbrev pub SaysPolicy : PolicyFlags → Policy → Type 0
SaysPolicy p says =
    (p.max_age ≡ unwrap_or says.max_age 0)
    × (p.s_maxage ≡ unwrap_or says.s_maxage 0)
    × (p.has_max_age ≡ flag_number (is_some says.max_age))
    × (p.has_s_maxage ≡ flag_number (is_some says.s_maxage))
    × (p.must_revalidate ≡ flag_number says.must_revalidate)
    × (p.no_store ≡ flag_number says.no_store)
    × (p.no_cache ≡ flag_number says.no_cache)
    × (p.is_private ≡ flag_number says.is_private)

-- the seconds, if the flag is set
abbrev pub seconds_at : ℕ → ℕ → Option ℕ
seconds_at says n = if says == 0 then None else Some n

-- the policy of a struct; any number but 0 sets a flag
abbrev pub policy_by : PolicyFlags → Policy
policy_by p = record {
  max_age = seconds_at p.has_max_age p.max_age;
  s_maxage = seconds_at p.has_s_maxage p.s_maxage;
  must_revalidate = not (p.must_revalidate == 0);
  no_store = not (p.no_store == 0);
  no_cache = not (p.no_cache == 0);
  is_private = not (p.is_private == 0);
}

-- a Dictionary without members is Empty; of another one the struct has the policy
abbrev pub Directs : PolicyFlags → PolicyFlags → Dict → Status → Type 0
Directs old new d Answered = (d.members ≢ []) × SaysPolicy new (policy d)
Directs old new d Empty = (d.members ≡ []) × (new ≡ old)
Directs old new d status = ⊥

-- what reading a targeted field may write to
pub record PolicyOutput : Type 0 where
  pub policy : PolicyFlags
  pub refusal : SyntaxRefusal

-- the text spells a Dictionary with a member, and the struct has its policy; or it is Empty; or the
-- other struct has the refusal. Everything else is unchanged
abbrev pub SaysToCache : PolicyOutput → PolicyOutput → Seq ℕ → Option Status → Type 0
SaysToCache old new t (Some Answered) =
    (d : Dict)
    × IsOnly Rfc9651 kind.Dict t (field.Dict d)
    × Directs old.policy new.policy d Answered
    × (new.refusal ≡ old.refusal)
SaysToCache old new t (Some Empty) =
    (d : Dict)
    × IsOnly Rfc9651 kind.Dict t (field.Dict d)
    × Directs old.policy new.policy d Empty
    × (new.refusal ≡ old.refusal)
SaysToCache old new t (Some Refused) =
    SaysRefusal Rfc9651 kind.Dict t new.refusal × (new.policy ≡ old.policy)
SaysToCache old new t (Some OutOfMemory) = new ≡ old
SaysToCache old new t status = ⊥

-- 1 and the lifetime by the policy, or 0 if it has none; any number but 0 is a shared cache
abbrev pub LifeAnswer : Option ℕ → ℕ → ℕ → ℕ → Type 0
LifeAnswer (Some n) old new said = (said ≡ 1) × (new ≡ n)
LifeAnswer None old new said = (said ≡ 0) × (new ≡ old)

abbrev pub LifeIs : Policy → ℕ → ℕ → ℕ → ℕ → Type 0
LifeIs p shared old new said = LifeAnswer (life p (not (shared == 0))) old new said

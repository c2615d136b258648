-- The hops that a List means.
use Rattle.std.specs.Prelude.{ℕ, ℤ, pos, negsuc, Bool, true, false, codes, unwrap_or}
use Rattle.std.specs.Prelude.{List as Seq, [], position, is_none, Option, Some, None}
use Rattle.std.specs.Prelude.{Result, Ok, Err}
use Rattle.std.specs.List.{filter_map}
use Rattle.std.specs.Option.{option_map}
use Rattle.sf_value.specs.declared.value.Bare.{Bare}
use Rattle.sf_value.specs.declared.value.Item.{Item}
use Rattle.sf_value.specs.declared.value.Member.{Member}
use Rattle.sf_value.specs.declared.value.Member.TheVariants as member
use Rattle.sf_value.specs.declared.value.Field.{Field}
use Rattle.sf_value.specs.declared.value.Field.TheVariants as field
use Rattle.sf_value.specs.Grammar.Words.{allow}
use Rattle.sf_value.specs.Grammar.Pairs.{Pairs}
use Rattle.sf_use.specs.declared.cache_status.hop.Name.{Name}
use Rattle.sf_use.specs.declared.cache_status.hop.Passed.{Passed}
use Rattle.sf_use.specs.declared.cache_status.hop.Outcome.{Outcome}
use Rattle.sf_use.specs.declared.cache_status.hop.Outcome.TheVariants.{Hit, Forwarded, Conflict}
use Rattle.sf_use.specs.declared.cache_status.hop.Outcome.TheVariants.{Unsaid}
use Rattle.sf_use.specs.declared.cache_status.hop.Hop.{Hop}
use Rattle.sf_use.specs.Ranges.{is_hop_status}
use Rattle.sf_use.specs.CacheStatus.Parameters.{as_name, boolean_at, integer_at, name_at, text_at}
use Rattle.sf_use.specs.CacheStatus.Parameters.{token_at}
use Rattle.sf_use.specs.CacheStatus.Reasons.{forward_of}

-- a status code. Ours: another number counts as absent
abbrev pub status_of : Option ℤ → Option ℕ
status_of (Some (pos n)) = allow (is_hop_status n) n
status_of (Some (negsuc n)) = None
status_of None = None

-- the parameters of a forwarded request: fwd (2.2), fwd-status (2.3), stored (2.5), collapsed (2.6)
abbrev pub passed_by_token : Pairs Bare → Seq ℕ → Passed
passed_by_token params token =
    record {
      why = forward_of token;
      status = status_of (integer_at (codes "fwd-status") params);
      stored = boolean_at (codes "stored") params;
      collapsed = boolean_at (codes "collapsed") params;
    }

-- ours: the other three count only with fwd, for which the RFC defines them
abbrev pub passed_at : Pairs Bare → Option Passed
passed_at params = option_map (passed_by_token params) (token_at (codes "fwd") params)

-- whether hit is true (2.1), and the parameters of a forwarded request (2.2). Ours: the RFC allows
-- only one of the two, and if both are present, both are kept
abbrev pub outcome_by : Bool → Option Passed → Outcome
outcome_by true None = Hit
outcome_by true (Some passed) = Conflict passed
outcome_by false (Some passed) = Forwarded passed
outcome_by false None = Unsaid

abbrev pub outcome_of : Pairs Bare → Outcome
outcome_of params =
    outcome_by (unwrap_or (boolean_at (codes "hit") params) false) (passed_at params)

-- the hop of a name and parameters: ttl (2.4), key (2.7), detail (2.8). Other parameters are
-- ignored
abbrev pub hop_named : Pairs Bare → Name → Hop
hop_named params name =
    record {
      name = name;
      outcome = outcome_of params;
      ttl = integer_at (codes "ttl") params;
      key = text_at (codes "key") params;
      detail = name_at (codes "detail") params;
    }

-- the hop of an Item: a String or a Token names a cache (2)
abbrev pub hop_of : Item → Option Hop
hop_of item = option_map (hop_named item.params) (as_name item.bare)

-- the hop of a member; an Inner List names no cache
abbrev pub member_hop : Member → Option Hop
member_hop (member.Item i) = hop_of i
member_hop (member.Inner l) = None

-- the index of a member that names no cache, if there is one, otherwise the hops
abbrev pub unless : Option ℕ → Seq Hop → Result (Seq Hop) ℕ
unless (Some index) hs = Err index
unless None hs = Ok hs

-- one hop for each member. Ours: if members name no cache, the index of the first of them
abbrev pub hops_of : Seq Member → Result (Seq Hop) ℕ
hops_of members =
    unless (position (λ m. is_none (member_hop m)) members) (filter_map member_hop members)

-- the meaning of the field, a List; a field of another kind has no hops, and is never passed
abbrev pub hops : Field → Result (Seq Hop) ℕ
hops (field.List l) = hops_of l.members
hops (field.Item i) = Ok []
hops (field.Dict d) = Ok []

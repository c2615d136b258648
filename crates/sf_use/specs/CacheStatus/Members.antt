-- The member that a hop is written as.
use Rattle.std.specs.Prelude.{ℕ, pos, Bool, true, false, codes, List, [], ◌∷◌}
use Rattle.std.specs.Prelude.{Option, Some, None}
use Rattle.std.specs.List.{filter_map}
use Rattle.std.specs.Option.{option_and_then, option_map}
use Rattle.sf_value.specs.declared.value.Bare.{Bare}
use Rattle.sf_value.specs.declared.value.Bare.TheVariants.{Integer, Text, Token, Boolean}
use Rattle.sf_value.specs.declared.value.Member.{Member}
use Rattle.sf_value.specs.declared.value.Member.TheVariants as member
use Rattle.sf_value.specs.Grammar.Pairs.{Pairs, put}
use Rattle.sf_value.specs.Grammar.Items.{item}
use Rattle.sf_use.specs.declared.cache_status.hop.Name.{Name}
use Rattle.sf_use.specs.declared.cache_status.hop.Name.TheVariants as name
use Rattle.sf_use.specs.declared.cache_status.hop.Passed.{Passed}
use Rattle.sf_use.specs.declared.cache_status.hop.Outcome.{Outcome}
use Rattle.sf_use.specs.declared.cache_status.hop.Outcome.TheVariants.{Hit, Forwarded, Conflict}
use Rattle.sf_use.specs.declared.cache_status.hop.Outcome.TheVariants.{Unsaid}
use Rattle.sf_use.specs.declared.cache_status.hop.Hop.{Hop}
use Rattle.sf_use.specs.CacheStatus.Reasons.{token_of}

-- the cache answered from its store
abbrev pub is_hit : Outcome → Bool
is_hit Hit = true
is_hit (Forwarded passed) = false
is_hit (Conflict passed) = false
is_hit Unsaid = false

-- hit is true (2.1)
abbrev pub says_hit : Outcome → Bool
says_hit Hit = true
says_hit (Forwarded passed) = false
says_hit (Conflict passed) = true
says_hit Unsaid = false

-- hit is true and fwd is present, though "only one of them should appear on each list member" (2.1)
abbrev pub is_conflict : Outcome → Bool
is_conflict Hit = false
is_conflict (Forwarded passed) = false
is_conflict (Conflict passed) = true
is_conflict Unsaid = false

-- the parameters of a forwarded request
abbrev pub passed_by : Outcome → Option Passed
passed_by Hit = None
passed_by (Forwarded passed) = Some passed
passed_by (Conflict passed) = Some passed
passed_by Unsaid = None

-- a name as a bare item
abbrev pub bare_of : Name → Bare
bare_of (name.Text t) = Text t
bare_of (name.Token t) = Token t

-- true if hit is true, otherwise absent
abbrev pub flag : Bool → Option Bare
flag true = Some (Boolean true)
flag false = None

abbrev pub hit_value : Outcome → Option Bare
hit_value outcome = flag (says_hit outcome)

abbrev pub why_value : Option Passed → Option Bare
why_value passed = option_map (λ p. Token (token_of p.why)) passed

abbrev pub status_value : Option Passed → Option Bare
status_value passed = option_map (λ n. Integer (pos n)) (option_and_then (λ p. p.status) passed)

abbrev pub stored_value : Option Passed → Option Bare
stored_value passed = option_map Boolean (option_and_then (λ p. p.stored) passed)

abbrev pub collapsed_value : Option Passed → Option Bare
collapsed_value passed = option_map Boolean (option_and_then (λ p. p.collapsed) passed)

-- one more parameter, if it has a value
abbrev pub added : Pairs Bare → List ℕ → Option Bare → Pairs Bare
added params key None = params
added params key (Some value) = put params key value

-- keys, each with the value that it has, if any
abbrev pub Table : Type 0
Table = List (List ℕ × Option Bare)

-- the eight parameters in the order in which they are written
abbrev pub table_of : Hop → Table
table_of h =
    (codes "hit", hit_value h.outcome)
    ∷ (codes "fwd", why_value (passed_by h.outcome))
    ∷ (codes "fwd-status", status_value (passed_by h.outcome))
    ∷ (codes "ttl", option_map Integer h.ttl)
    ∷ (codes "stored", stored_value (passed_by h.outcome))
    ∷ (codes "collapsed", collapsed_value (passed_by h.outcome))
    ∷ (codes "key", option_map Text h.key)
    ∷ (codes "detail", option_map bare_of h.detail)
    ∷ []

-- the parameters of a table that have a value
abbrev pub present : Table → Pairs Bare
present table = filter_map (λ p. option_map (λ value. (p.0, value)) p.1) table

abbrev pub parameters_of : Hop → Pairs Bare
parameters_of h = present (table_of h)

-- the member of a hop
abbrev pub entry : Hop → Member
entry h = member.Item (item (bare_of h.name) (parameters_of h))

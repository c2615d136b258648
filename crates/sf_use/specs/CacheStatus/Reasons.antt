-- The reasons for forwarding a request (2.2) and their tokens.
use Rattle.std.specs.Prelude.{ℕ, List, [], ◌∷◌, codes, unwrap_or}
use Rattle.sf_value.specs.Grammar.Pairs.{Pairs, value_at}
use Rattle.sf_use.specs.declared.cache_status.hop.Forward.{Forward}
use Rattle.sf_use.specs.declared.cache_status.hop.Forward.TheVariants.{Bypass, Method, UriMiss}
use Rattle.sf_use.specs.declared.cache_status.hop.Forward.TheVariants.{VaryMiss, Miss, Request}
use Rattle.sf_use.specs.declared.cache_status.hop.Forward.TheVariants.{Stale, Partial, Other}

-- the eight defined reasons
abbrev pub reasons : Pairs Forward
reasons =
    (codes "bypass", Bypass)
    ∷ (codes "method", Method)
    ∷ (codes "uri-miss", UriMiss)
    ∷ (codes "vary-miss", VaryMiss)
    ∷ (codes "miss", Miss)
    ∷ (codes "request", Request)
    ∷ (codes "stale", Stale)
    ∷ (codes "partial", Partial)
    ∷ []

-- the reason that a token names. Ours: another token is kept as it is
abbrev pub forward_of : List ℕ → Forward
forward_of token = unwrap_or (value_at token reasons) (Other token)

-- the token of a reason
abbrev pub token_of : Forward → List ℕ
token_of Bypass = codes "bypass"
token_of Method = codes "method"
token_of UriMiss = codes "uri-miss"
token_of VaryMiss = codes "vary-miss"
token_of Miss = codes "miss"
token_of Request = codes "request"
token_of Stale = codes "stale"
token_of Partial = codes "partial"
token_of (Other token) = token

-- The lines that `cache-status` prints of the path of a response.
use Rattle.std.specs.Prelude.{ℕ, ◌+◌, Bool, List, [], ◌∷◌, ◌++◌, Option, None, Some, codes, decimal}
use Rattle.std.specs.Fmt.{signed_decimal}
use Rattle.std.specs.Option.{option_and_then}
use Rattle.sf_value.specs.declared.value.Bare.TheVariants.{Text, Boolean}
use Rattle.sf_value.specs.Grammar.Canonical.{canon_bare}
use Rattle.sf_use.specs.declared.cache_status.hop.Name.{Name}
use Rattle.sf_use.specs.declared.cache_status.hop.Outcome.{Outcome}
use Rattle.sf_use.specs.declared.cache_status.hop.Outcome.TheVariants.{Hit, Forwarded, Conflict}
use Rattle.sf_use.specs.declared.cache_status.hop.Outcome.TheVariants.{Unsaid}
use Rattle.sf_use.specs.declared.cache_status.hop.Hop.{Hop}
use Rattle.sf_use.specs.CacheStatus.Members.{bare_of, passed_by}
use Rattle.sf_use.specs.CacheStatus.Reasons.{token_of}
use Rattle.sf_use.specs.CacheStatus.Served.{served}

-- a name as its canonical text
abbrev pub name_text : Name → List ℕ
name_text name = canon_bare (bare_of name)

-- what the cache did
abbrev pub outcome_text : Outcome → List ℕ
outcome_text Hit = codes " hit"
outcome_text (Forwarded passed) = codes " forwarded " ++ token_of passed.why
outcome_text (Conflict passed) = codes " conflict " ++ token_of passed.why
outcome_text Unsaid = codes " unsaid"

-- a part with its label, if it is present
abbrev pub part : {X : Type 0} → List ℕ → (X → List ℕ) → Option X → List ℕ
part label text None = []
part label text (Some x) = label ++ text x

abbrev pub status_part : Outcome → List ℕ
status_part outcome =
    part (codes " status=") decimal (option_and_then (λ p. p.status) (passed_by outcome))

abbrev pub boolean_text : Bool → List ℕ
boolean_text b = canon_bare (Boolean b)

abbrev pub stored_part : Outcome → List ℕ
stored_part outcome =
    part (codes " stored=") boolean_text (option_and_then (λ p. p.stored) (passed_by outcome))

abbrev pub collapsed_part : Outcome → List ℕ
collapsed_part outcome =
    part (codes " collapsed=") boolean_text (option_and_then (λ p. p.collapsed) (passed_by outcome))

abbrev pub ttl_part : Hop → List ℕ
ttl_part h = part (codes " ttl=") signed_decimal h.ttl

abbrev pub key_part : Hop → List ℕ
key_part h = part (codes " key=") (λ key. canon_bare (Text key)) h.key

abbrev pub detail_part : Hop → List ℕ
detail_part h = part (codes " detail=") name_text h.detail

-- the parts after the outcome, and the end of the line
abbrev pub parts : Hop → List ℕ
parts h =
    status_part h.outcome
    ++ (stored_part h.outcome
    ++ (collapsed_part h.outcome
    ++ (ttl_part h ++ (key_part h ++ (detail_part h ++ codes "\n")))))

-- the line of the hop at this index
abbrev pub hop_line : ℕ → Hop → List ℕ
hop_line place h =
    codes "hop "
    ++ (decimal place ++ (codes " " ++ (name_text h.name ++ (outcome_text h.outcome ++ parts h))))

-- the lines of hops, whose first has this index
abbrev pub hop_lines : ℕ → List Hop → List ℕ
hop_lines place [] = []
hop_lines place (h ∷ hops) = hop_line place h ++ hop_lines (place + 1) hops

-- the last line: the index of the last hop that is a hit
abbrev pub served_line : Option ℕ → List ℕ
served_line None = codes "served none\n"
served_line (Some place) = codes "served " ++ (decimal place ++ codes "\n")

abbrev pub path_lines : List Hop → List ℕ
path_lines hops = hop_lines 0 hops ++ served_line (served hops)

-- the line of a refusal for a member that names no cache
abbrev pub not_a_cache_line : ℕ → List ℕ
not_a_cache_line index = codes "refused not a cache " ++ (decimal index ++ codes "\n")

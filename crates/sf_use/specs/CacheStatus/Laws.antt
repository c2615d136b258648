-- What is written is read back. Each law is the contract of a function in `src/laws.rt`.
use Rattle.std.specs.Prelude.{◌≡◌, ℕ, List as Seq, [], ◌∷◌, ◌++◌, Result, Ok, Err}
use Rattle.std.specs.Option.{option_and_then, ForSome}
use Rattle.sf_value.specs.declared.value.Member.{Member}
use Rattle.sf_value.specs.Grammar.Fields.{list_of}
use Rattle.sf_use.specs.declared.cache_status.hop.Forward.{Forward}
use Rattle.sf_use.specs.declared.cache_status.hop.Forward.TheVariants.{Other}
use Rattle.sf_use.specs.declared.cache_status.hop.Passed.{Passed}
use Rattle.sf_use.specs.declared.cache_status.hop.Outcome.{Outcome}
use Rattle.sf_use.specs.declared.cache_status.hop.Outcome.TheVariants.{Hit, Forwarded, Conflict}
use Rattle.sf_use.specs.declared.cache_status.hop.Outcome.TheVariants.{Unsaid}
use Rattle.sf_use.specs.declared.cache_status.hop.Hop.{Hop}
use Rattle.sf_use.specs.CacheStatus.Reasons.{forward_of}
use Rattle.sf_use.specs.Ranges.{IsHopStatus}
use Rattle.sf_use.specs.CacheStatus.Hops.{hops}
use Rattle.sf_use.specs.CacheStatus.Members.{entry, passed_by}

-- the reason; for a token, the reason that it names
abbrev pub canonical_reason : Forward → Forward
canonical_reason (Other token) = forward_of token
canonical_reason why = why

abbrev pub canonical_passed : Passed → Passed
canonical_passed p = record p { why = canonical_reason p.why }

abbrev pub canonical_outcome : Outcome → Outcome
canonical_outcome Hit = Hit
canonical_outcome (Forwarded p) = Forwarded (canonical_passed p)
canonical_outcome (Conflict p) = Conflict (canonical_passed p)
canonical_outcome Unsaid = Unsaid

-- the hop, in which a token that names a reason is replaced by that reason
abbrev pub canonical_hop : Hop → Hop
canonical_hop h = record h { outcome = canonical_outcome h.outcome }

-- the status is a status code, as each `HopStatus` is
abbrev pub HasStatusInRange : Hop → Type 0
HasStatusInRange h =
    ForSome (option_and_then (λ p. p.status) (passed_by h.outcome)) IsHopStatus

-- the member of a hop means that hop
abbrev pub ReadsBack : Type 0
ReadsBack =
    (h : Hop) → HasStatusInRange h → hops (list_of (entry h ∷ [])) ≡ Ok (canonical_hop h ∷ [])

-- hops with one more at the end, "the cache closest to the user" (2); if a member names no
-- cache, they are refused as they were
abbrev pub with_last : Result (Seq Hop) ℕ → Hop → Result (Seq Hop) ℕ
with_last (Ok hs) h = Ok (hs ++ h ∷ [])
with_last (Err index) h = Err index

-- a member that is appended for a hop is read back as that hop, after those that were there
abbrev pub AppendedIsLast : Type 0
AppendedIsLast =
    (ms : Seq Member) (h : Hop)
    → HasStatusInRange h
    → hops (list_of (ms ++ entry h ∷ [])) ≡ with_last (hops (list_of ms)) (canonical_hop h)

-- The registered structured fields: the fields whose value is an Item, a List or a Dictionary by
-- the specification that defines them. Names are in lower case, since case does not count in names
-- (RFC 9110 section 5.1).
use Rattle.std.specs.Prelude.{ℕ, Bool, List as Seq, [], ◌∷◌, Option, Some, None, codes}
use Rattle.std.specs.Prelude.{if◌then◌else◌}
use Rattle.std.specs.List.{list_any}
use Rattle.std.specs.Str.{bytes_eq}
use Rattle.sf_value.specs.declared.dialect.Dialect.{Dialect}
use Rattle.sf_value.specs.declared.dialect.Dialect.TheVariants.{Rfc8941, Rfc9651}
use Rattle.sf_value.specs.declared.value.Kind.{Kind}
use Rattle.sf_value.specs.declared.value.Kind.TheVariants.{Item, List, Dict}

abbrev pub is_among : Seq (Seq ℕ) → Seq ℕ → Bool
is_among names name = list_any (λ n. bytes_eq n name) names

abbrev pub items : Seq (Seq ℕ)
items =
    -- RFC 9842
    codes "available-dictionary" ∷ codes "dictionary-id"
    -- RFC 9297
    ∷ codes "capsule-protocol"
    -- RFC 9440
    ∷ codes "client-cert"
    -- HTML
    ∷ codes "cross-origin-embedder-policy" ∷ codes "cross-origin-embedder-policy-report-only"
    ∷ codes "cross-origin-opener-policy" ∷ codes "cross-origin-opener-policy-report-only"
    ∷ codes "origin-agent-cluster"
    -- RFC 9745
    ∷ codes "deprecation"
    -- Topics
    ∷ codes "observe-browsing-topics"
    -- User-Agent Client Hints, and other client hints
    ∷ codes "sec-ch-ua-arch" ∷ codes "sec-ch-ua-bitness" ∷ codes "sec-ch-ua-mobile"
    ∷ codes "sec-ch-ua-model" ∷ codes "sec-ch-ua-platform" ∷ codes "sec-ch-ua-platform-version"
    ∷ codes "sec-ch-ua-wow64" ∷ codes "sec-ch-dpr" ∷ codes "sec-ch-width"
    ∷ codes "sec-ch-viewport-width" ∷ codes "sec-ch-viewport-height"
    ∷ codes "sec-ch-device-memory" ∷ codes "sec-ch-prefers-color-scheme"
    ∷ codes "sec-ch-prefers-reduced-motion"
    -- Fetch Metadata
    ∷ codes "sec-fetch-dest" ∷ codes "sec-fetch-mode" ∷ codes "sec-fetch-site"
    ∷ codes "sec-fetch-user" ∷ codes "sec-fetch-storage-access"
    -- Global Privacy Control
    ∷ codes "sec-gpc" ∷ []

abbrev pub lists : Seq (Seq ℕ)
lists =
    -- RFC 8942, and Client Hint Reliability
    codes "accept-ch" ∷ codes "critical-ch"
    -- RFC 9875
    ∷ codes "cache-groups" ∷ codes "cache-group-invalidation"
    -- RFC 9211 and RFC 9209
    ∷ codes "cache-status" ∷ codes "proxy-status"
    -- RFC 9440
    ∷ codes "client-cert-chain"
    -- User-Agent Client Hints
    ∷ codes "sec-ch-ua" ∷ codes "sec-ch-ua-full-version-list"
    -- Speculation Rules
    ∷ codes "speculation-rules" ∷ codes "supports-loading-mode" ∷ []

abbrev pub dictionaries : Seq (Seq ℕ)
dictionaries =
    -- RFC 9421
    codes "accept-signature" ∷ codes "signature" ∷ codes "signature-input"
    -- RFC 9213
    ∷ codes "cdn-cache-control"
    -- RFC 9530
    ∷ codes "content-digest" ∷ codes "repr-digest" ∷ codes "want-content-digest"
    ∷ codes "want-repr-digest"
    -- Document Policy and Permissions Policy
    ∷ codes "document-policy" ∷ codes "require-document-policy" ∷ codes "permissions-policy"
    ∷ codes "permissions-policy-report-only"
    -- No-Vary-Search
    ∷ codes "no-vary-search"
    -- RFC 9218
    ∷ codes "priority"
    -- Reporting
    ∷ codes "reporting-endpoints"
    -- RFC 9842
    ∷ codes "use-as-dictionary" ∷ []

-- the kind of the field of this name, in lower case, if it is registered
abbrev pub kind_of : Seq ℕ → Option Kind
kind_of name =
    if is_among items name then Some Item
    else if is_among lists name then Some List
    else if is_among dictionaries name then Some Dict
    else None

-- RFC 9745 defines a Date, which RFC 9651 added; the other fields have the types of RFC 8941
abbrev pub dialect_of : Seq ℕ → Dialect
dialect_of name = if bytes_eq name (codes "deprecation") then Rfc9651 else Rfc8941

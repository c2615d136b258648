-- Structs describe one path: no two hops say the same.
use Rattle.std.proofs.Common.{◌≡◌, ℕ, ℤ, pos, Bool, true, false, ◌==◌, cond, List as Seq, [], ◌∷◌}
use Rattle.std.proofs.Common.{Option, Some, None, map, refl, sym, ap, ◌∙◌}
use Rattle.std.specs.Prelude.{is_some, unwrap_or}
use Rattle.sf_use.specs.declared.cache_status.hop.Name.{Name}
use Rattle.sf_use.specs.declared.cache_status.hop.Name.TheVariants as name
use Rattle.sf_use.specs.declared.cache_status.hop.Forward.{Forward}
use Rattle.sf_use.specs.declared.cache_status.hop.Forward.TheVariants.{Bypass, Method, UriMiss}
use Rattle.sf_use.specs.declared.cache_status.hop.Forward.TheVariants.{VaryMiss, Miss, Request}
use Rattle.sf_use.specs.declared.cache_status.hop.Forward.TheVariants.{Stale, Partial, Other}
use Rattle.sf_use.specs.declared.cache_status.hop.Passed.{Passed}
use Rattle.sf_use.specs.declared.cache_status.hop.Outcome.{Outcome}
use Rattle.sf_use.specs.declared.cache_status.hop.Outcome.TheVariants.{Hit, Forwarded, Conflict}
use Rattle.sf_use.specs.declared.cache_status.hop.Outcome.TheVariants.{Unsaid}
use Rattle.sf_use.specs.declared.cache_status.hop.Hop.{Hop}
use Rattle.sf_use.specs.CacheStatus.Reasons.{token_of}
use Rattle.sf_c.specs.Hops.{HopContent, HopSays, hop_content, bytes_of, is_token, detail_bytes}
use Rattle.sf_c.specs.Hops.{detail_is_token, reason_number, says_passed, why_token}
use Rattle.sf_c.specs.Refusals.{flag_number}

-- what is said, where the number says so
abbrev said : {A : Type 0} → ℕ → A → Option A
said n x = cond (n == 1) (Some x) None

said_is : {A : Type 0} (x : Option A) (d : A) → said (flag_number (is_some x)) (unwrap_or x d) ≡ x
said_is (Some n) d = refl
said_is None d = refl

flag_is : (x : Option Bool)
    → said (flag_number (is_some x)) (flag_number (unwrap_or x false) == 1) ≡ x
flag_is (Some true) = refl
flag_is (Some false) = refl
flag_is None = refl

-- the name of a number and bytes
abbrev name_by : ℕ → Seq ℕ → Name
name_by n s = cond (n == 1) (name.Token s) (name.Text s)

name_is : (x : Name) → name_by (flag_number (is_token x)) (bytes_of x) ≡ x
name_is (name.Text t) = refl
name_is (name.Token t) = refl

detail_is : (x : Option Name)
    → said (flag_number (is_some x)) (name_by (flag_number (detail_is_token x)) (detail_bytes x))
    ≡ x
detail_is (Some (name.Text t)) = refl
detail_is (Some (name.Token t)) = refl
detail_is None = refl

-- the reason of a number and a token
abbrev why_by : ℕ → Seq ℕ → Forward
why_by n s =
    cond (n == 1) Bypass
    (cond (n == 2) Method
    (cond (n == 3) UriMiss
    (cond (n == 4) VaryMiss
    (cond (n == 5) Miss
    (cond (n == 6) Request
    (cond (n == 7) Stale
    (cond (n == 8) Partial (Other s))))))))

why_is : (w : Forward) → why_by (reason_number w) (token_of w) ≡ w
why_is Bypass = refl
why_is w = refl

-- what is said of a forwarded request
abbrev passed : Forward → Option ℕ → Option Bool → Option Bool → Passed
passed why status stored collapsed =
    record { why = why; status = status; stored = stored; collapsed = collapsed }

abbrev passed_from : HopSays → Seq ℕ → Passed
passed_from says token =
    passed (why_by says.why token) (said says.has_status says.status)
    (said says.has_stored (says.stored == 1)) (said says.has_collapsed (says.collapsed == 1))

passed_is : (p : Passed) (h : Hop)
    → passed_from (says_passed (Some p) h) (why_token (Some p)) ≡ p
passed_is p h =
    λ i. passed (why_is p.why i) (said_is p.status 0 i) (flag_is p.stored i) (flag_is p.collapsed i)

-- what a cache did
abbrev outcome_from : ℕ → Passed → Outcome
outcome_from n p =
    cond (n == 0) Unsaid (cond (n == 1) Hit (cond (n == 2) (Forwarded p) (Conflict p)))

-- a hop by its parts
abbrev hop : Name → Outcome → Option ℤ → Option (Seq ℕ) → Option Name → Hop
hop name outcome ttl key detail =
    record { name = name; outcome = outcome; ttl = ttl; key = key; detail = detail }

abbrev hop_from : HopContent → Hop
hop_from t =
    hop (name_by t.says.name_is_token t.name)
    (outcome_from t.says.outcome (passed_from t.says t.why_token))
    (said t.says.has_ttl t.says.ttl) (said t.says.has_key t.key)
    (said t.says.has_detail (name_by t.says.detail_is_token t.detail))

hop_is : (n : Name) (o : Outcome) (ttl : Option ℤ) (key : Option (Seq ℕ)) (detail : Option Name)
    → hop_from (hop_content (hop n o ttl key detail)) ≡ hop n o ttl key detail
hop_is n (Forwarded p) ttl key detail = λ i.
    hop (name_is n i) (Forwarded (passed_is p (hop n (Forwarded p) ttl key detail) i))
    (said_is ttl (pos 0) i) (said_is key [] i) (detail_is detail i)
hop_is n (Conflict p) ttl key detail = λ i.
    hop (name_is n i) (Conflict (passed_is p (hop n (Conflict p) ttl key detail) i))
    (said_is ttl (pos 0) i) (said_is key [] i) (detail_is detail i)
hop_is n o ttl key detail = λ i.
    hop (name_is n i) o (said_is ttl (pos 0) i) (said_is key [] i) (detail_is detail i)

hops_are : (hs : Seq Hop) → map hop_from (map hop_content hs) ≡ hs
hops_are [] = refl
hops_are (h ∷ hs) = λ i. hop_is h.name h.outcome h.ttl h.key h.detail i ∷ hops_are hs i

-- two paths that say the same
pub one_path : (hs js : Seq Hop) → map hop_content hs ≡ map hop_content js → hs ≡ js
one_path hs js e = sym (hops_are hs) ∙ ap (map hop_from) e ∙ hops_are js

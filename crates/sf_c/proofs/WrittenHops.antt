-- The text of a hop, part by part, and that it spells the hop.
use Rattle.std.proofs.Common.{◌≡◌, ◌≢◌, ℕ, ℤ, pos, ◌<◌, ◌∷◌, ◌++◌, Bool, true, false, List, []}
use Rattle.std.proofs.Common.{Option, None, Some, refl, sym, ap, subst, ◌∙◌, append_assoc, append-nil, rules, arith}
use Rattle.std.specs.Prelude.{codes, nat_abs, ◌^◌}
use Rattle.std.specs.Int.RustNames.{FitsSigned}
use Rattle.std.proofs.Common.{w64}
use Rattle.std.proofs.lemmas.Bool.Decides.{nat_tests}
use Rattle.std.proofs.lemmas.Int.{fits_signed_from_abs}
use Rattle.std.specs.List.{IsDistinct}
use Rattle.std.specs.Option.{option_map}
use Rattle.sf_value.proofs.EntryMaps.{IsAbsent}
use Rattle.sf_value.specs.declared.dialect.Dialect.TheVariants.{Rfc9651}
use Rattle.sf_value.specs.declared.value.Bare.{Bare}
use Rattle.sf_value.specs.declared.value.Bare.TheVariants.{Integer, Text, Token, Boolean}
use Rattle.sf_value.specs.declared.value.Kind.TheVariants as kind
use Rattle.sf_value.specs.Grammar.Canonical.{canon_bare, canon_params, canon_value}
use Rattle.sf_value.specs.Grammar.Fields.{list_of}
use Rattle.sf_value.specs.Grammar.Pairs.{HasDistinctKeys}
use Rattle.sf_value.specs.Grammar.Strings.{escaped}
use Rattle.sf_value.specs.Grammar.Tokens.{IsKey}
use Rattle.sf_value.specs.Grammar.Valid.{Valid, ValidBare, ValidParams}
use Rattle.sf_value.specs.Grammar.Words.{Each}
use Rattle.sf_use.specs.declared.cache_status.hop.Forward.{Forward}
use Rattle.sf_use.specs.declared.cache_status.hop.Forward.TheVariants.{Bypass, Method, UriMiss}
use Rattle.sf_use.specs.declared.cache_status.hop.Forward.TheVariants.{VaryMiss, Miss, Request}
use Rattle.sf_use.specs.declared.cache_status.hop.Forward.TheVariants.{Stale, Partial, Other}
use Rattle.sf_use.specs.declared.cache_status.hop.Hop.{Hop}
use Rattle.sf_use.specs.declared.cache_status.hop.Name.{Name}
use Rattle.sf_use.specs.declared.cache_status.hop.Name.TheVariants as name
use Rattle.sf_use.specs.declared.cache_status.hop.Outcome.{Outcome}
use Rattle.sf_use.specs.declared.cache_status.hop.Outcome.TheVariants.{Hit, Forwarded, Conflict}
use Rattle.sf_use.specs.declared.cache_status.hop.Outcome.TheVariants.{Unsaid}
use Rattle.sf_use.specs.declared.cache_status.hop.Passed.{Passed}
use Rattle.sf_use.specs.CacheStatus.Members.{Table, bare_of, collapsed_value, entry, hit_value}
use Rattle.sf_use.specs.CacheStatus.Members.{parameters_of, passed_by, present, status_value}
use Rattle.sf_use.specs.CacheStatus.Members.{stored_value, table_of, why_value}
use Rattle.sf_use.specs.CacheStatus.Reasons.{token_of}
use Rattle.sf_use.specs.Ranges.{IsHopStatus}
use Rattle.sf_c.specs.declared.hops.HopNode.{HopNode}
use Rattle.sf_c.specs.declared.span.Span.{Span}
use Rattle.sf_c.specs.declared.status.Status.{Status}
use Rattle.sf_c.specs.declared.status.Status.TheVariants.{Answered, Short, OutOfMemory}
use Rattle.sf_c.specs.GivenHops.{AreBytes, GivesFlag, GivesHop, GivesInteger, GivesMaybe}
use Rattle.sf_c.specs.GivenHops.{GivesName, GivesOutcome, GivesPassed, GivesStatus, GivesString}
use Rattle.sf_c.specs.GivenHops.{GivesWhy, WritesHop, hop_text}
use Rattle.sf_c.specs.HopParts.{Decides, param_text}
use Rattle.sf_c.specs.TextBuffers.{TextBuffer, Writes}
use Rattle.sf_c.proofs.GivenHops.{read_as, writes_hop}

-- names
pub string_name : (bytes : List ℕ) (p : Span) (flag : ℕ) (x : Name) (part : List ℕ) → flag ≡ 0
    → GivesName bytes p flag x → ((t : List ℕ) → AreBytes bytes p t → part ≡ t)
    → canon_bare (bare_of x) ≡ 34 ∷ (escaped part ++ 34 ∷ [])
string_name bytes p flag (name.Text t) part e g same =
    ap (λ u. canon_bare (Text u)) (sym (same t g.1.0))
string_name bytes p flag (name.Token t) part e g same = absurd (g.0 e)

pub token_name : (bytes : List ℕ) (p : Span) (flag : ℕ) (x : Name) (part : List ℕ) → flag ≢ 0
    → GivesName bytes p flag x → ((t : List ℕ) → AreBytes bytes p t → part ≡ t)
    → canon_bare (bare_of x) ≡ part
token_name bytes p flag (name.Text t) part e g same = absurd (e g.0)
token_name bytes p flag (name.Token t) part e g same = sym (same t g.1.0)

-- what the cache did
module _ (bytes : List ℕ) (n : HopNode) where
  pub hit_written : (o : Outcome) → n.outcome ≡ 1 → GivesOutcome bytes n o
      → param_text (codes "hit") (hit_value o) ≡ codes ";hit"
  hit_written Hit e g = refl
  hit_written (Forwarded p) e g = let other = g.0 in absurd cc
  hit_written (Conflict p) e g = let other = g.0 in absurd cc
  hit_written Unsaid e g = absurd cc

  pub hit_beside : (o : Outcome) → n.outcome ≡ 3 → GivesOutcome bytes n o
      → param_text (codes "hit") (hit_value o) ≡ codes ";hit"
  hit_beside Hit e g = absurd cc
  hit_beside (Forwarded p) e g = let other = g.0 in absurd cc
  hit_beside (Conflict p) e g = refl
  hit_beside Unsaid e g = absurd cc

  pub no_hit : (o : Outcome) → n.outcome ≢ 1 → n.outcome ≢ 3 → GivesOutcome bytes n o
      → param_text (codes "hit") (hit_value o) ≡ []
  no_hit Hit e f g = absurd (e g)
  no_hit (Forwarded p) e f g = refl
  no_hit (Conflict p) e f g = absurd (f g.0)
  no_hit Unsaid e f g = refl

  pub passed_on : (o : Outcome) → n.outcome ≡ 2 → GivesOutcome bytes n o
      → (p : Passed) × (passed_by o ≡ Some p) × GivesPassed bytes n p
  passed_on Hit e g = absurd cc
  passed_on (Forwarded p) e g = (p, refl, g.1)
  passed_on (Conflict p) e g = let other = g.0 in absurd cc
  passed_on Unsaid e g = absurd cc

  pub passed_beside : (o : Outcome) → n.outcome ≡ 3 → GivesOutcome bytes n o
      → (p : Passed) × (passed_by o ≡ Some p) × GivesPassed bytes n p
  passed_beside Hit e g = absurd cc
  passed_beside (Forwarded p) e g = let other = g.0 in absurd cc
  passed_beside (Conflict p) e g = (p, refl, g.1)
  passed_beside Unsaid e g = absurd cc

  pub not_passed : (o : Outcome) → n.outcome ≢ 2 → n.outcome ≢ 3 → GivesOutcome bytes n o
      → passed_by o ≡ None
  not_passed Hit e f g = refl
  not_passed (Forwarded p) e f g = absurd (e g.0)
  not_passed (Conflict p) e f g = absurd (f g.0)
  not_passed Unsaid e f g = refl

  -- why a request was forwarded
  pub other_token : (w : Forward) (part : List ℕ) → n.why ≡ 9 → GivesWhy bytes n w
      → ((t : List ℕ) → AreBytes bytes n.why_token t → part ≡ t) → part ≡ token_of w
  other_token (Other t) part e g same = same t g.1.0
  other_token w part e g same = absurd cc

-- parameters that are absent, and their values
pub absent_value : {X : Type 0} (flag : ℕ) (P : X → Type 0) (x : Option X) → flag ≡ 0
    → GivesMaybe flag P x → x ≡ None
absent_value flag P None e g = refl
absent_value flag P (Some x) e g = absurd (g.0 e)

pub given_value : {X : Type 0} (flag : ℕ) (P : X → Type 0) (x : Option X) → flag ≢ 0
    → GivesMaybe flag P x → (y : X) × (x ≡ Some y) × P y
given_value flag P None e g = absurd (e g)
given_value flag P (Some x) e g = (x, refl, g.1)

pub false_flag : (number : ℕ) (b : Bool) → number ≡ 0 → GivesFlag number b → b ≡ false
false_flag number b e g = rw e at g

pub true_flag : (number : ℕ) (b : Bool) → number ≢ 0 → GivesFlag number b → b ≡ true
true_flag number b e g = grind (arith, nat_tests)

-- numbers that are written
pub small_fits : (z : ℤ) → nat_abs z < 10 ^ 15 → FitsSigned w64 z
small_fits z h = fits_signed_from_abs w64 z (omega (arith, h))

pub code_fits : (z : ℤ) (n : ℕ) → z ≡ pos n → IsHopStatus n → FitsSigned w64 z
code_fits z n e h = small_fits z (rw e (omega (arith, h)))

-- the text is what each part gives
texts : Table → List ℕ
texts [] = []
texts (p ∷ t) = param_text p.0 p.1 ++ texts t

all_present : (t : Table) → canon_params (present t) ≡ texts t
unfolding texts
all_present [] = refl
all_present (p ∷ t) = by p.1 refl (all_present t)
  where
    by : (o : Option Bare) → p.1 ≡ o → canon_params (present t) ≡ texts t
        → canon_params (present (p ∷ t)) ≡ texts (p ∷ t)
    by None e rest = rw e rest
    by (Some x) e rest =
        rw e (ap (λ u. 59 ∷ (p.0 ++ (canon_value x ++ u))) rest
        ∙ ap (λ u. 59 ∷ u) (sym (append_assoc p.0 (canon_value x) (texts t))))

pub hop_written : (h : Hop) → hop_text h
    ≡ canon_bare (bare_of h.name)
    ++ (param_text (codes "hit") (hit_value h.outcome)
    ++ (param_text (codes "fwd") (why_value (passed_by h.outcome))
    ++ (param_text (codes "fwd-status") (status_value (passed_by h.outcome))
    ++ (param_text (codes "ttl") (option_map Integer h.ttl)
    ++ (param_text (codes "stored") (stored_value (passed_by h.outcome))
    ++ (param_text (codes "collapsed") (collapsed_value (passed_by h.outcome))
    ++ (param_text (codes "key") (option_map Text h.key)
    ++ (param_text (codes "detail") (option_map bare_of h.detail) ++ []))))))))
unfolding texts
hop_written h =
    append-nil (canon_bare (bare_of h.name) ++ canon_params (parameters_of h))
    ∙ ap (λ t. canon_bare (bare_of h.name) ++ t) (all_present (table_of h))

-- the hop of a struct is valid
abbrev ValidValue : Option Bare → Type 0
ValidValue None = Unit {0}
ValidValue (Some x) = ValidBare Rfc9651 x

valid_name : (bytes : List ℕ) (p : Span) (flag : ℕ) (x : Name) → GivesName bytes p flag x
    → ValidBare Rfc9651 (bare_of x)
valid_name bytes p flag (name.Text t) g = g.1.1
valid_name bytes p flag (name.Token t) g = g.1.1

valid_hit : (o : Outcome) → ValidValue (hit_value o)
valid_hit Hit = tt
valid_hit (Forwarded p) = tt
valid_hit (Conflict p) = tt
valid_hit Unsaid = tt

valid_token : (bytes : List ℕ) (n : HopNode) (w : Forward) → GivesWhy bytes n w
    → ValidBare Rfc9651 (Token (token_of w))
valid_token bytes n (Other t) g = g.1.1
valid_token bytes n Bypass g = search rules
valid_token bytes n Method g = search rules
valid_token bytes n UriMiss g = search rules
valid_token bytes n VaryMiss g = search rules
valid_token bytes n Miss g = search rules
valid_token bytes n Request g = search rules
valid_token bytes n Stale g = search rules
valid_token bytes n Partial g = search rules

valid_number : (flag number : ℕ) (o : Option ℕ) → GivesMaybe flag (GivesStatus number) o
    → ValidValue (option_map (λ m. Integer (pos m)) o)
valid_number flag number None g = tt
valid_number flag number (Some m) g =
    let same = g.1.0 in
    let range = g.1.1 in
    let small : m < 10 ^ 15 = omega (arith, same, range) in
    small

valid_flag : (o : Option Bool) → ValidValue (option_map Boolean o)
valid_flag None = tt
valid_flag (Some b) = tt

valid_ttl : (flag : ℕ) (number : ℤ) (o : Option ℤ) → GivesMaybe flag (GivesInteger number) o
    → ValidValue (option_map Integer o)
valid_ttl flag number None g = tt
valid_ttl flag number (Some m) g =
    subst (λ i. ValidBare Rfc9651 (Integer i)) (sym g.1.0) g.1.1

valid_key : (bytes : List ℕ) (p : Span) (flag : ℕ) (o : Option (List ℕ))
    → GivesMaybe flag (GivesString bytes p) o → ValidValue (option_map Text o)
valid_key bytes p flag None g = tt
valid_key bytes p flag (Some t) g = g.1.1

valid_detail : (bytes : List ℕ) (p : Span) (flag kind : ℕ) (o : Option Name)
    → GivesMaybe flag (GivesName bytes p kind) o → ValidValue (option_map bare_of o)
valid_detail bytes p flag kind None g = tt
valid_detail bytes p flag kind (Some x) g = valid_name bytes p kind x g.1

-- the parameters of a request that was forwarded
record ValidPassed (o : Option Passed) : Type 0 where
  why : ValidValue (why_value o)
  status : ValidValue (status_value o)
  stored : ValidValue (stored_value o)
  collapsed : ValidValue (collapsed_value o)

valid_passed : (bytes : List ℕ) (n : HopNode) (p : Passed) → GivesPassed bytes n p
    → ValidPassed (Some p)
valid_passed bytes n p g = record {
  why = valid_token bytes n p.why g.0;
  status = valid_number n.has_status n.status p.status g.1;
  stored = valid_flag p.stored;
  collapsed = valid_flag p.collapsed;
}

valid_outcome : (bytes : List ℕ) (n : HopNode) (o : Outcome) → GivesOutcome bytes n o
    → ValidPassed (passed_by o)
valid_outcome bytes n Hit g = record { why = tt; status = tt; stored = tt; collapsed = tt }
valid_outcome bytes n Unsaid g = record { why = tt; status = tt; stored = tt; collapsed = tt }
valid_outcome bytes n (Forwarded p) g = valid_passed bytes n p g.1
valid_outcome bytes n (Conflict p) g = valid_passed bytes n p g.1

-- each parameter that is present is valid, and no key occurs twice
abbrev IsValidParam : List ℕ × Bare → Type 0
IsValidParam p = IsKey p.0 × ValidBare Rfc9651 p.1

abbrev IsValidRow : List ℕ × Option Bare → Type 0
IsValidRow p = IsKey p.0 × ValidValue p.1

each_present : (t : Table) → Each IsValidRow t → Each IsValidParam (present t)
each_present [] h = tt
each_present (p ∷ t) h = by p.1 refl (each_present t h.1)
  where
    by : (o : Option Bare) → p.1 ≡ o → Each IsValidParam (present t)
        → Each IsValidParam (present (p ∷ t))
    by None e rest = rw e rest
    by (Some x) e rest =
        let value : ValidBare Rfc9651 x = subst ValidValue e h.0.1 in rw e ((h.0.0, value), rest)

absent-present : (k : List ℕ) (t : Table) → IsAbsent k t → IsAbsent k (present t)
absent-present k [] h = tt
absent-present k (p ∷ t) h = by p.1 refl (absent-present k t h.1)
  where
    by : (o : Option Bare) → p.1 ≡ o → IsAbsent k (present t) → IsAbsent k (present (p ∷ t))
    by None e rest = rw e rest
    by (Some v) e rest = rw e (h.0, rest)

distinct-present : (t : Table) → HasDistinctKeys t → HasDistinctKeys (present t)
unfolding IsDistinct
distinct-present [] d = tt
distinct-present (p ∷ t) d = by p.1 refl (distinct-present t d.1)
  where
    by : (o : Option Bare) → p.1 ≡ o → HasDistinctKeys (present t)
        → HasDistinctKeys (present (p ∷ t))
    by None e rest = rw e rest
    by (Some v) e rest = rw e (absent-present p.0 t d.0, rest)

distinct-table : (h : Hop) → HasDistinctKeys (table_of h)
unfolding IsDistinct
distinct-table h = search rules

valid_params : (bytes : List ℕ) (n : HopNode) (h : Hop) → GivesHop bytes n h
    → ValidParams Rfc9651 (parameters_of h)
valid_params bytes n h g =
    let o = valid_outcome bytes n h.outcome g.1 in
    let each : Each IsValidRow (table_of h) = (
      (search rules, valid_hit h.outcome),
      (
        (search rules, o.why),
        (
          (search rules, o.status),
          (
            (search rules, valid_ttl n.has_ttl n.ttl h.ttl g.2),
            (
              (search rules, o.stored),
              (
                (search rules, o.collapsed),
                (
                  (search rules, valid_key bytes n.key n.has_key h.key g.3),
                  (
                    (search rules, valid_detail bytes n.detail n.has_detail n.detail_is_token h.detail g.4),
                    tt,
                  ),
                ),
              ),
            ),
          ),
        ),
      ),
    ) in
    (each_present (table_of h) each, distinct-present (table_of h) (distinct-table h))

valid_hop : (bytes : List ℕ) (n : HopNode) (h : Hop) → GivesHop bytes n h
    → Valid Rfc9651 kind.List (list_of (entry h ∷ []))
valid_hop bytes n h g =
    ((valid_name bytes n.name n.name_is_token h.name g.0, valid_params bytes n h g), tt)

-- the value of a detail is that of a name
pub detail_value : (x : Name) → param_text (codes "detail") (Some (bare_of x))
    ≡ codes ";detail=" ++ canon_bare (bare_of x)
detail_value (name.Text t) = refl
detail_value (name.Token t) = refl

pub no_hop_given : (bytes : List ℕ) (n : HopNode) (r : Bool) → Decides (GivesHop bytes n) r
    → r ≡ false → (h : Hop) → GivesHop bytes n h → ⊥
no_hop_given bytes n r d e = subst (Decides (GivesHop bytes n)) e d

-- what is put into the buffer is the text of the hop
pub puts_hop : (old new : TextBuffer) (bytes : List ℕ) (n : HopNode) (s : Status)
    → Decides (GivesHop bytes n) true
    → ((h : Hop) → GivesHop bytes n h → Writes old new (hop_text h) (Some s))
    → WritesHop old new bytes n (Some s)
puts_hop old new bytes n Answered (h, g) w =
    writes_hop old new bytes n h Answered g (read_as bytes n h g (valid_hop bytes n h g)) (w h g)
puts_hop old new bytes n Short (h, g) w =
    writes_hop old new bytes n h Short g (read_as bytes n h g (valid_hop bytes n h g)) (w h g)
puts_hop old new bytes n OutOfMemory (h, g) w = ((h, g), w h g)
puts_hop old new bytes n s (h, g) w = absurd (w h g)

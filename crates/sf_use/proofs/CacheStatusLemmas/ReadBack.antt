-- The member that a hop is written as means that hop.
use Rattle.std.proofs.Common.{◌≡◌, ℕ, ℤ, pos, ◌+◌, ◌≤◌, Bool, false, List, [], ◌∷◌, ◌++◌, length}
use Rattle.std.proofs.Common.{Option, None, Some, Ok, refl, ap, ◌∙◌, arith, rules, length-append}
use Rattle.std.specs.Prelude.{codes, cond, is_none, nat_lt, not, ◌==◌}
use Rattle.std.specs.List.{cons_option, filter_map, position, position_or_len}
use Rattle.std.proofs.lemmas.List.Elements.{filter_map-append}
use Rattle.std.proofs.lemmas.List.Folds.{prefix_len-append}
use Rattle.std.proofs.lemmas.List.Sums.{prefix_len-le-length}
use Rattle.std.proofs.lemmas.Bool.Decides.{nat_tests}
use Rattle.std.specs.List.{IsDistinct}
use Rattle.std.specs.Option.{option_and_then, option_flatten, option_map, ForSome}
use Rattle.sf_value.specs.declared.value.Bare.{Bare}
use Rattle.sf_value.specs.declared.value.Bare.TheVariants.{Integer, Text, Boolean}
use Rattle.sf_value.specs.declared.value.Member.{Member}
use Rattle.sf_value.specs.Grammar.Pairs.{Pairs, HasDistinctKeys, value_at}
use Rattle.sf_use.specs.declared.cache_status.hop.Forward.{Forward}
use Rattle.sf_use.specs.declared.cache_status.hop.Forward.TheVariants.{Bypass}
use Rattle.sf_use.specs.declared.cache_status.hop.Name.{Name}
use Rattle.sf_use.specs.declared.cache_status.hop.Name.TheVariants as name
use Rattle.sf_use.specs.declared.cache_status.hop.Passed.{Passed}
use Rattle.sf_use.specs.declared.cache_status.hop.Outcome.{Outcome}
use Rattle.sf_use.specs.declared.cache_status.hop.Outcome.TheVariants.{Hit, Forwarded, Conflict}
use Rattle.sf_use.specs.declared.cache_status.hop.Outcome.TheVariants.{Unsaid}
use Rattle.sf_use.specs.declared.cache_status.hop.Hop.{Hop}
use Rattle.sf_value.specs.Lookups.{as_boolean, as_integer, as_text}
use Rattle.sf_use.specs.CacheStatus.Parameters.{as_name}
use Rattle.sf_use.specs.CacheStatus.Reasons.{forward_of, token_of}
use Rattle.sf_use.specs.Ranges.{IsHopStatus}
use Rattle.sf_use.specs.CacheStatus.Hops.{hop_named, hops_of, member_hop, outcome_of, status_of}
use Rattle.sf_use.specs.CacheStatus.Hops.{passed_by_token, unless}
use Rattle.sf_use.specs.CacheStatus.Members.{bare_of, entry, hit_value, parameters_of, passed_by}
use Rattle.sf_use.specs.CacheStatus.Members.{collapsed_value, status_value, stored_value}
use Rattle.sf_use.specs.CacheStatus.Members.{table_of, why_value}
use Rattle.sf_use.specs.CacheStatus.Laws.{HasStatusInRange, canonical_hop, canonical_outcome}
use Rattle.sf_use.specs.CacheStatus.Laws.{canonical_passed, canonical_reason, with_last}
use Rattle.sf_use.specs.CacheStatus.Laws.{AppendedIsLast, ReadsBack}
use Rattle.sf_use.proofs.CacheStatusLemmas.Written.{value-present}

distinct-table : (h : Hop) → HasDistinctKeys (table_of h)
unfolding IsDistinct
distinct-table h = search rules

value-of : (h : Hop) (k : List ℕ)
    → value_at k (parameters_of h) ≡ option_flatten (value_at k (table_of h))
value-of h k = value-present k (table_of h) (distinct-table h)

-- values of each type are read back
boolean-back : (o : Option Bool) → option_and_then as_boolean (option_map Boolean o) ≡ o
boolean-back None = refl
boolean-back (Some b) = refl

integer-back : (o : Option ℤ) → option_and_then as_integer (option_map Integer o) ≡ o
integer-back None = refl
integer-back (Some n) = refl

text-back : (o : Option (List ℕ)) → option_and_then as_text (option_map Text o) ≡ o
text-back None = refl
text-back (Some t) = refl

bare-back : (n : Name) → as_name (bare_of n) ≡ Some n
bare-back (name.Text t) = refl
bare-back (name.Token t) = refl

name-back : (o : Option Name) → option_and_then as_name (option_map bare_of o) ≡ o
name-back None = refl
name-back (Some n) = bare-back n

in-range : (n : ℕ) → IsHopStatus n → status_of (Some (pos n)) ≡ Some n
in-range n h = grind (arith, nat_tests)

status-back : (o : Option ℕ) → ForSome o IsHopStatus
    → status_of (option_and_then as_integer (option_map (λ n. Integer (pos n)) o)) ≡ o
status-back None h = refl
status-back (Some n) h = in-range n (h n refl)

reason-back : (why : Forward) → forward_of (token_of why) ≡ canonical_reason why
reason-back Bypass = refl
reason-back why = refl

passed-back : (ps : Pairs Bare) (p : Passed) → ForSome p.status IsHopStatus
    → value_at (codes "fwd-status") ps ≡ status_value (Some p)
    → value_at (codes "stored") ps ≡ stored_value (Some p)
    → value_at (codes "collapsed") ps ≡ collapsed_value (Some p)
    → passed_by_token ps (token_of p.why) ≡ canonical_passed p
passed-back ps p h status stored collapsed =
    let why' = reason-back p.why in
    let status' =
    ap (λ o. status_of (option_and_then as_integer o)) status ∙ status-back p.status h in
    let stored' = ap (option_and_then as_boolean) stored ∙ boolean-back p.stored in
    let collapsed' = ap (option_and_then as_boolean) collapsed ∙ boolean-back p.collapsed in
    (λ i.
    record {
      why = why' i;
      status = status' i;
      stored = stored' i;
      collapsed = collapsed' i;
    })

outcome-back : (ps : Pairs Bare) (o : Outcome)
    → ForSome (option_and_then (λ p. p.status) (passed_by o)) IsHopStatus
    → value_at (codes "hit") ps ≡ hit_value o
    → value_at (codes "fwd") ps ≡ why_value (passed_by o)
    → value_at (codes "fwd-status") ps ≡ status_value (passed_by o)
    → value_at (codes "stored") ps ≡ stored_value (passed_by o)
    → value_at (codes "collapsed") ps ≡ collapsed_value (passed_by o)
    → outcome_of ps ≡ canonical_outcome o
outcome-back ps Hit h hit fwd status stored collapsed = rw (hit, fwd)
outcome-back ps (Forwarded p) h hit fwd status stored collapsed =
    rw (hit, fwd) (ap Forwarded (passed-back ps p h status stored collapsed))
outcome-back ps (Conflict p) h hit fwd status stored collapsed =
    rw (hit, fwd) (ap Conflict (passed-back ps p h status stored collapsed))
outcome-back ps Unsaid h hit fwd status stored collapsed = rw (hit, fwd)

hop-back : (h : Hop) → HasStatusInRange h → hop_named (parameters_of h) h.name ≡ canonical_hop h
hop-back h ok =
    let outcome' = outcome-back (parameters_of h) h.outcome ok
    (value-of h (codes "hit")) (value-of h (codes "fwd")) (value-of h (codes "fwd-status"))
    (value-of h (codes "stored")) (value-of h (codes "collapsed")) in
    let ttl' = ap (option_and_then as_integer) (value-of h (codes "ttl")) ∙ integer-back h.ttl in
    let key' = ap (option_and_then as_text) (value-of h (codes "key")) ∙ text-back h.key in
    let detail' = ap (option_and_then as_name) (value-of h (codes "detail")) ∙ name-back h.detail in
    (λ i.
    record {
      name = h.name;
      outcome = outcome' i;
      ttl = ttl' i;
      key = key' i;
      detail = detail' i;
    })

one-hop : (m : Member) (h : Hop) → member_hop m ≡ Some h → hops_of (m ∷ []) ≡ Ok (h ∷ [])
one-hop m h e = rw e

entry-back : (h : Hop) → HasStatusInRange h → member_hop (entry h) ≡ Some (canonical_hop h)
entry-back h ok =
    ap (option_map (hop_named (parameters_of h))) (bare-back h.name)
    ∙ ap (λ x. Some x) (hop-back h ok)

pub reads_back : ReadsBack
reads_back h ok = one-hop (entry h) (canonical_hop h) (entry-back h ok)

-- one more element that does not pass leaves the first one that does
place-kept : (n l : ℕ) → n ≤ l
    → cond (nat_lt (cond (n == l) (l + 1) n) (l + 1)) (Some (cond (n == l) (l + 1) n)) None
    ≡ cond (nat_lt n l) (Some n) None
place-kept n l h = grind (arith, nat_tests)

position-kept : {X : Type 0} (p : X → Bool) (xs : List X) (x : X) → p x ≡ false
    → position p (xs ++ x ∷ []) ≡ position p xs
position-kept p xs x e =
    let one : position_or_len p (x ∷ []) ≡ 1 = rw e refl in
    let place : position_or_len p (xs ++ x ∷ [])
    ≡ cond (position_or_len p xs == length xs) (length xs + 1) (position_or_len p xs) =
    prefix_len-append (λ y. not (p y)) xs (x ∷ [])
    ∙ ap (λ n. cond (position_or_len p xs == length xs) (length xs + n) (position_or_len p xs))
    one in
    ap (λ n. cond (nat_lt n (length (xs ++ x ∷ []))) (Some n) None) place
    ∙ ap (λ l. cond (nat_lt (cond (position_or_len p xs == length xs) (length xs + 1)
    (position_or_len p xs)) l) (Some (cond (position_or_len p xs == length xs) (length xs + 1)
    (position_or_len p xs))) None) (length-append xs (x ∷ []))
    ∙ place-kept (position_or_len p xs) (length xs)
    (prefix_len-le-length (λ y. not (p y)) xs)

unless-last : (o : Option ℕ) (hs : List Hop) (h : Hop)
    → unless o (hs ++ h ∷ []) ≡ with_last (unless o hs) h
unless-last None hs h = refl
unless-last (Some index) hs h = refl

pub appended_is_last : AppendedIsLast
appended_is_last ms h ok =
    let back = entry-back h ok in
    let names : is_none (member_hop (entry h)) ≡ false = ap is_none back in
    ap (λ o. unless o (filter_map member_hop (ms ++ entry h ∷ [])))
    (position-kept (λ m. is_none (member_hop m)) ms (entry h) names)
    ∙ ap (unless (position (λ m. is_none (member_hop m)) ms))
    (filter_map-append member_hop ms (entry h ∷ [])
    ∙ ap (λ o. filter_map member_hop ms ++ cons_option o []) back)
    ∙ unless-last (position (λ m. is_none (member_hop m)) ms) (filter_map member_hop ms)
    (canonical_hop h)

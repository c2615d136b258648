-- The hops of a List are the handlings that RFC 9211 reads in it.
use Rattle.std.proofs.Common.{◌≡◌, ℕ, suc, ◌<◌}
use Rattle.std.proofs.Common.{ℤ, pos, negsuc, Bool, true, false, List as Seq}
use Rattle.std.proofs.Common.{[], ◌∷◌, length, Option, Some, None, Ok, Err, refl, sym, ap, ap₂, ◌∙◌}
use Rattle.std.proofs.Common.{Result, subst, arith}
use Rattle.std.specs.Prelude.{map, take, codes, position, is_none, unwrap_or, nat_lt}
use Rattle.std.specs.Prelude.{IsOk}
use Rattle.std.specs.List.{position_or_len, filter_map}
use Rattle.std.specs.Option.{option_map, option_and_then}
use Rattle.std.proofs.lemmas.Bool.Decides.{nat_tests}
use Rattle.std.proofs.lemmas.List.Elements.{All-nil, All-cons}
use Rattle.sf_value.specs.declared.value.Bare.{Bare}
use Rattle.sf_value.specs.declared.value.Bare.TheVariants.{Integer, Text, Token, Boolean}
use Rattle.sf_value.specs.declared.value.Member.{Member}
use Rattle.sf_value.specs.declared.value.Member.TheVariants as member
use Rattle.sf_value.specs.declared.value.Field.{Field}
use Rattle.sf_value.specs.declared.value.Field.TheVariants as field
use Rattle.sf_value.specs.declared.value.Kind.TheVariants.{List}
use Rattle.sf_value.specs.Grammar.Fields.{list_of, kind_of}
use Rattle.sf_value.specs.Grammar.Pairs.{Pairs, value_at}
use Rattle.sf_value.specs.Grammar.Words.{allow}
use Rattle.sf_value.specs.Lookups.{as_boolean, as_integer, as_text, as_token}
use Rattle.sf_field.specs.declared.consumer.UseFault.{UseFault}
use Rattle.sf_field.specs.declared.consumer.UseFault.TheVariants.{NotACache, OutOfMemory}
use Rattle.sf_field.specs.Meaning.{Gives}
use Rattle.sf_use.specs.declared.cache_status.hop.Name.{Name}
use Rattle.sf_use.specs.declared.cache_status.hop.Forward.{Forward}
use Rattle.sf_use.specs.declared.cache_status.hop.Forward.TheVariants.{Other}
use Rattle.sf_use.specs.declared.cache_status.hop.Passed.{Passed}
use Rattle.sf_use.specs.declared.cache_status.hop.Outcome.{Outcome}
use Rattle.sf_use.specs.declared.cache_status.hop.Hop.{Hop}
use Rattle.sf_use.specs.CacheStatus.Parameters as used
use Rattle.sf_use.specs.CacheStatus.Reasons.{reasons, forward_of}
use Rattle.sf_use.specs.CacheStatus.Hops.{status_of, passed_by_token, passed_at, outcome_by}
use Rattle.sf_use.specs.CacheStatus.Hops.{outcome_of, hop_named, member_hop, unless, hops}
use Rattle.sf_rfc.specs.Rfc9651.Words.{and_then, only_if}
use Rattle.sf_rfc.proofs.ParsingSteps.{some_is, and_then_cases}
use Rattle.sf_rfc_use.specs.OrderedMaps.{value_of}
use Rattle.sf_rfc_use.specs.Rfc9211.{Words, AString, AToken, Parameter, Absent, Is, Mistyped, typed}
use Rattle.sf_rfc_use.specs.Rfc9211.{of_type, Handling, described, handling, handlings, a_boolean}
use Rattle.sf_rfc_use.specs.Rfc9211.{an_integer, a_token, a_string, a_string_or_token, Reason}
use Rattle.sf_rfc_use.specs.Rfc9211.{defined, reason}
use Rattle.sf_rfc_use.specs.CacheStatusLaws.{given, as_name, as_forward, why_by, why_of}
use Rattle.sf_rfc_use.specs.CacheStatusLaws.{three_digits, as_status, as_passed, as_outcome, as_hop}
use Rattle.sf_rfc_use.specs.CacheStatusLaws.{IsFirstNameless, HopsAgree, LinesAgree, IsPathOf}
use Rattle.sf_rfc_use.proofs.LookUps.{found, found_mapped, only_value}

-- one parameter
of_type_given : {X : Type 0} (o : Option X) → given (of_type o) ≡ o
of_type_given (Some x) = refl
of_type_given None = refl

given_typed : {X : Type 0} (type : Bare → Option X) (o : Option Bare)
    → given (typed type o) ≡ option_and_then type o
given_typed type None = refl
given_typed type (Some x) = of_type_given (type x)

at_key : {X : Type 0} (type : Bare → Option X) (k : Seq ℕ) (ps : Pairs Bare)
    → given (typed type (value_of k ps)) ≡ option_and_then type (value_at k ps)
at_key type k ps =
    given_typed type (value_of k ps) ∙ ap (λ o. option_and_then type o) (found k ps)

-- the types are the same
booleans : (o : Option Bare) → option_and_then a_boolean o ≡ option_and_then as_boolean o
booleans None = refl
booleans (Some (Boolean b)) = refl
booleans (Some x) = refl

integers : (o : Option Bare) → option_and_then an_integer o ≡ option_and_then as_integer o
integers None = refl
integers (Some (Integer n)) = refl
integers (Some x) = refl

tokens : (o : Option Bare) → option_and_then a_token o ≡ option_and_then as_token o
tokens None = refl
tokens (Some (Token t)) = refl
tokens (Some x) = refl

texts : (o : Option Bare) → option_and_then a_string o ≡ option_and_then as_text o
texts None = refl
texts (Some (Text t)) = refl
texts (Some x) = refl

names : (o : Option Bare)
    → option_map as_name (option_and_then a_string_or_token o) ≡ option_and_then used.as_name o
names None = refl
names (Some (Text t)) = refl
names (Some (Token t)) = refl
names (Some x) = refl

boolean_is : (k : Seq ℕ) (ps : Pairs Bare)
    → given (typed a_boolean (value_of k ps)) ≡ used.boolean_at k ps
boolean_is k ps = at_key a_boolean k ps ∙ booleans (value_at k ps)

integer_is : (k : Seq ℕ) (ps : Pairs Bare)
    → given (typed an_integer (value_of k ps)) ≡ used.integer_at k ps
integer_is k ps = at_key an_integer k ps ∙ integers (value_at k ps)

token_is : (k : Seq ℕ) (ps : Pairs Bare)
    → given (typed a_token (value_of k ps)) ≡ used.token_at k ps
token_is k ps = at_key a_token k ps ∙ tokens (value_at k ps)

text_is : (k : Seq ℕ) (ps : Pairs Bare) → given (typed a_string (value_of k ps)) ≡ used.text_at k ps
text_is k ps = at_key a_string k ps ∙ texts (value_at k ps)

name_is : (k : Seq ℕ) (ps : Pairs Bare)
    → option_map as_name (given (typed a_string_or_token (value_of k ps))) ≡ used.name_at k ps
name_is k ps =
    ap (λ o. option_map as_name o) (at_key a_string_or_token k ps) ∙ names (value_at k ps)

-- reasons and status codes
reasons_are : map (λ p. (p.0, as_forward p.1)) defined ≡ reasons
reasons_are = refl

why_by_is : (token : Seq ℕ) (o : Option Reason)
    → unwrap_or (option_map as_forward o) (Other token) ≡ why_by token o
why_by_is token None = refl
why_by_is token (Some r) = refl

why_is : (token : Seq ℕ) → forward_of token ≡ why_of token
why_is token =
    ap (λ rs. unwrap_or (value_at token rs) (Other token)) (sym reasons_are)
    ∙ ap (λ o. unwrap_or o (Other token)) (found_mapped as_forward token defined)
    ∙ why_by_is token (reason token)

same_test : (x : Bool) (n : ℕ) → only_if x n ≡ allow x n
same_test true n = refl
same_test false n = refl

status_is : (o : Option ℤ) → as_status o ≡ status_of o
status_is None = refl
status_is (Some (negsuc n)) = refl
status_is (Some (pos n)) = same_test (three_digits n) n

-- what goes with fwd
passed_as : (why why' : Forward) (status status' : Option ℕ) (stored stored' : Option Bool)
    (collapsed collapsed' : Option Bool) → why ≡ why' → status ≡ status' → stored ≡ stored'
    → collapsed ≡ collapsed'
    → ◌≡◌ {A = Passed}
    (record { why = why; status = status; stored = stored; collapsed = collapsed })
    (record { why = why'; status = status'; stored = stored'; collapsed = collapsed' })
passed_as why why' status status' stored stored' collapsed collapsed' e f g h = cc

map_same : {X Y : Type 0} (f g : X → Y) → ((x : X) → f x ≡ g x) → (o : Option X)
    → option_map f o ≡ option_map g o
map_same f g h None = refl
map_same f g h (Some x) = ap Some (h x)

passed_is : (w : Words) (ps : Pairs Bare) → as_passed (described w ps) ≡ passed_at ps
passed_is w ps =
    ap (λ o. option_map made o) (token_is (codes "fwd") ps)
    ∙ map_same made (passed_by_token ps) same_made (used.token_at (codes "fwd") ps)
  where
    made : Seq ℕ → Passed
    made token = record {
      why = why_of token;
      status = as_status (given (typed an_integer (value_of (codes "fwd-status") ps)));
      stored = given (typed a_boolean (value_of (codes "stored") ps));
      collapsed = given (typed a_boolean (value_of (codes "collapsed") ps));
    }

    same_made : (token : Seq ℕ) → made token ≡ passed_by_token ps token
    same_made token =
        passed_as _ _ _ _ _ _ _ _ (sym (why_is token))
        (ap as_status (integer_is (codes "fwd-status") ps)
        ∙ status_is (used.integer_at (codes "fwd-status") ps))
        (boolean_is (codes "stored") ps) (boolean_is (codes "collapsed") ps)

-- the outcome
outcome_is : (hit : Parameter Bool) (o : Option Passed)
    → as_outcome hit o ≡ outcome_by (unwrap_or (given hit) false) o
outcome_is (Is true) None = refl
outcome_is (Is true) (Some x) = refl
outcome_is (Is false) None = refl
outcome_is (Is false) (Some x) = refl
outcome_is Absent None = refl
outcome_is Absent (Some x) = refl
outcome_is Mistyped None = refl
outcome_is Mistyped (Some x) = refl

outcomes_are : (w : Words) (ps : Pairs Bare)
    → as_outcome (typed a_boolean (value_of (codes "hit") ps)) (as_passed (described w ps))
    ≡ outcome_of ps
outcomes_are w ps =
    outcome_is (typed a_boolean (value_of (codes "hit") ps)) (as_passed (described w ps))
    ∙ ap₂ (λ b o. outcome_by (unwrap_or b false) o) (boolean_is (codes "hit") ps) (passed_is w ps)

-- a hop
hop_as : (n : Name) (o o' : Outcome) (t t' : Option ℤ) (k k' : Option (Seq ℕ)) (d d' : Option Name)
    → o ≡ o' → t ≡ t' → k ≡ k' → d ≡ d'
    → ◌≡◌ {A = Hop} (record { name = n; outcome = o; ttl = t; key = k; detail = d })
    (record { name = n; outcome = o'; ttl = t'; key = k'; detail = d' })
hop_as n o o' t t' k k' d d' e f g h = cc

hop_is : (w : Words) (ps : Pairs Bare) → as_hop (described w ps) ≡ hop_named ps (as_name w)
hop_is w ps =
    hop_as (as_name w) _ _ _ _ _ _ _ _ (outcomes_are w ps) (integer_is (codes "ttl") ps)
    (text_is (codes "key") ps) (name_is (codes "detail") ps)

item_hop : (x : Bare) (ps : Pairs Bare)
    → option_map as_hop (handling (member.Item (record { bare = x; params = ps })))
    ≡ member_hop (member.Item (record { bare = x; params = ps }))
item_hop (Text t) ps = ap Some (hop_is (AString t) ps)
item_hop (Token t) ps = ap Some (hop_is (AToken t) ps)
item_hop x ps = refl

pub member_is : (m : Member) → option_map as_hop (handling m) ≡ member_hop m
member_is (member.Item i) = item_hop i.bare i.params
member_is (member.Inner l) = refl

-- a List
handlings_cases : (m : Member) (ms : Seq Member) (hs : Seq Handling) → handlings (m ∷ ms) ≡ Some hs
    → (h : Handling) × (rest : Seq Handling) × (handling m ≡ Some h) × (handlings ms ≡ Some rest)
    × (h ∷ rest ≡ hs)
handlings_cases m ms hs e =
    let (h, i, f) = and_then_cases (handling m) _ hs e in
    let (rest, j, g) = and_then_cases (handlings ms) _ hs f in
    (h, rest, i, j, some_is (h ∷ rest) hs g)

named : (m : Member) (h : Handling) → handling m ≡ Some h → member_hop m ≡ Some (as_hop h)
named m h e = sym (member_is m) ∙ ap (λ o. option_map as_hop o) e

nameless : (m : Member) → handling m ≡ None → member_hop m ≡ None
nameless m e = sym (member_is m) ∙ ap (λ o. option_map as_hop o) e

abbrev is_nameless : Member → Bool
is_nameless m = is_none (member_hop m)

all_named : (ms : Seq Member) (hs : Seq Handling) → handlings ms ≡ Some hs
    → (position_or_len is_nameless ms ≡ length ms) × (filter_map member_hop ms ≡ map as_hop hs)
all_named [] hs e = (refl, ap (map as_hop) (some_is [] hs e))
all_named (m ∷ ms) hs e =
    let (h, rest, i, j, k) = handlings_cases m ms hs e in
    let (l, f) = all_named ms rest j in (
      rw (named m h i, l) (omega arith),
      rw (named m h i, f) (ap (map as_hop) k),
    )

no_position : (p : Member → Bool) (ms : Seq Member) → position_or_len p ms ≡ length ms
    → position p ms ≡ None
no_position p ms e = rw e (grind (arith, nat_tests))

a_position : (p : Member → Bool) (ms : Seq Member) (i : ℕ) → position_or_len p ms ≡ i
    → i < length ms → position p ms ≡ Some i
a_position p ms i e l =
    let t : nat_lt i (length ms) ≡ true = grind (arith, nat_tests) in rw (e, t) refl

-- the first member that identifies no cache
abbrev FirstNameless : Seq Member → ℕ → Type 0
FirstNameless ms i = (position_or_len is_nameless ms ≡ i) × (i < length ms) × IsFirstNameless ms i

rest_fails : (o : Option (Seq Handling)) (h : Handling)
    → and_then o (λ hs. Some (h ∷ hs)) ≡ None → o ≡ None
rest_fails None h k = refl
rest_fails (Some hs) h k = absurd cc

first_nameless : (ms : Seq Member) → handlings ms ≡ None → (i : ℕ) × FirstNameless ms i
first_nameless [] e = absurd cc
first_nameless (m ∷ ms) e = go (handling m) refl (first_nameless ms)
  where
    go : (o : Option Handling) → handling m ≡ o
        → (handlings ms ≡ None → (i : ℕ) × FirstNameless ms i) → (i : ℕ) × FirstNameless (m ∷ ms) i
    go None f ih = (
      0,
      (
        rw (nameless m f) refl,
        omega arith,
        (m, refl, f, All-nil (λ n. (h : Handling) × (handling n ≡ Some h))),
      ),
    )
    go (Some h) f ih =
        let rest : handlings ms ≡ None = rest_fails (handlings ms) h (ap (λ o. and_then o (λ g.
        and_then (handlings ms) (λ hs. Some (g ∷ hs)))) (sym f) ∙ e) in
        let (i, k) = ih rest in (
          suc i,
          (
            rw (named m h f, k.0) (omega arith),
            omega (arith, k.1),
            (
              k.2.0,
              k.2.1,
              k.2.2,
              All-cons (λ n. (h : Handling) × (handling n ≡ Some h)) m (take i ms) (h, f) k.2.3,
            ),
          ),
        )

pub named_hops : (ms : Seq Member) (hs : Seq Handling) → handlings ms ≡ Some hs
    → hops (list_of ms) ≡ Ok (map as_hop hs)
named_hops ms hs e =
    let (l, f) = all_named ms hs e in
    ap (λ o. unless o (filter_map member_hop ms)) (no_position is_nameless ms l) ∙ ap (λ x. Ok x) f

nameless_hops : (ms : Seq Member) → handlings ms ≡ None
    → (index : ℕ) × (hops (list_of ms) ≡ Err index) × IsFirstNameless ms index
nameless_hops ms e =
    let (i, k) = first_nameless ms e in
    (i, ap (λ o. unless o (filter_map member_hop ms)) (a_position is_nameless ms i k.0 k.1), k.2)

pub hops_agree : HopsAgree
hops_agree ms = (named_hops ms, nameless_hops ms)

pub lines_agree : LinesAgree
lines_agree d lines ms hs e f =
    (list_of ms, only_value d List lines (list_of ms) e, named_hops ms hs f)

-- the result of a call
pub ok_is : {A E : Type 0} (a b : A) → ◌≡◌ {A = Result A E} (Ok a) (Ok b) → a ≡ b
ok_is a b e = cc

err_is : {A E : Type 0} (a b : E) → ◌≡◌ {A = Result A E} (Err a) (Err b) → a ≡ b
err_is a b e = cc

ok_not_err : {A E P : Type 0} (a : A) (b : E) → ◌≡◌ {A = Result A E} (Ok a) (Err b) → P
ok_not_err a b e = absurd cc

path_found : (ms : Seq Member) (path : Seq Hop) → hops (list_of ms) ≡ Ok path
    → (o : Option (Seq Handling)) → handlings ms ≡ o
    → (hs : Seq Handling) × (handlings ms ≡ Some hs) × (path ≡ map as_hop hs)
path_found ms path e (Some hs) f = (hs, f, ok_is path (map as_hop hs) (sym e ∙ named_hops ms hs f))
path_found ms path e None f =
    let (i, g, first) = nameless_hops ms f in ok_not_err path i (sym e ∙ g)

fault_found : (ms : Seq Member) (index : ℕ) → hops (list_of ms) ≡ Err index
    → (o : Option (Seq Handling)) → handlings ms ≡ o → IsFirstNameless ms index
fault_found ms index e (Some hs) f =
    ok_not_err (map as_hop hs) index (sym (named_hops ms hs f) ∙ e)
fault_found ms index e None f =
    let (i, g, first) = nameless_hops ms f in
    subst (IsFirstNameless ms) (err_is i index (sym g ∙ e)) first

memory_found : (ms : Seq Member) → IsOk (hops (list_of ms)) → (o : Option (Seq Handling))
    → handlings ms ≡ o → (hs : Seq Handling) × (handlings ms ≡ Some hs)
memory_found ms h (Some hs) f = (hs, f)
memory_found ms h None f =
    let (i, g, first) = nameless_hops ms f in
    let k : false ≡ true = subst (λ r. IsOk r) g h in absurd cc

pub path_agrees : (v : Field) (r : Result (Seq Hop) UseFault) → kind_of v ≡ List → Gives (hops v) r
    → IsPathOf v r
path_agrees (field.List l) (Ok path) k h = path_found l.members path h (handlings l.members) refl
path_agrees (field.List l) (Err (NotACache index)) k h =
    fault_found l.members index h (handlings l.members) refl
path_agrees (field.List l) (Err OutOfMemory) k h =
    memory_found l.members h (handlings l.members) refl
path_agrees (field.Item i) r k h = absurd cc
path_agrees (field.Dict d) r k h = absurd cc

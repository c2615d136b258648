-- What clap finds in the words of the command line.
use Rattle.std.proofs.Common.{◌≡◌, ◌↔◌, inl, inr, ℕ, ◌+◌, ◌<◌, true, false, List, [], ◌∷◌, ◌++◌}
use Rattle.std.proofs.Common.{length}
use Rattle.std.proofs.Common.{Option, Some, None, refl, ap, ap₂, sym, ◌∙◌, map, codes, arith, take}
use Rattle.std.proofs.Common.{subst, bytes_eq, get_or, suc}
use Rattle.std.specs.Prelude.{◌≢◌, Bool, if◌then◌else◌, option_map, Result, Ok, Err, IfOk, IfErr, MatchResult, IsErrAnd}
use Rattle.std.proofs.Math.Seq.{take-suc}
use Rattle.std.proofs.lemmas.List.{get_or-map, length-map, map-append}
use Rattle.std.proofs.lemmas.List.Folds.{list_all_more, list_all_at}
use Rattle.http_header.specs.Token.{lowercase}
use Rattle.std.specs.Borrow.{Bor}
use Rattle.std.specs.List.{list_all}
use Rattle.std.proofs.lemmas.Bool.{false≢true}
use Rattle.std.proofs.lemmas.Slice.Eq.{bytes_eq-Decides}
use Rattle.clap.specs.Built.{AddsSubcommand}
use Rattle.clap.specs.Faults.{fault_of, is_simple_and_free}
use Rattle.clap.specs.Kinds.{FailsBy, HasKind, IsAmong, Kinds}
use Rattle.clap.specs.Matches.{first_value}
use Rattle.clap.specs.Simple.{App, Shape, HasMatchesOf, app_of, shape_of, is_simple}
use Rattle.clap.specs.Simple.{subcommand_of, subcommand_rows_of, with_subcommand}
use Rattle.clap.specs.Values.{kind_of}
use Rattle.clap.specs.Walk.{Row, Text, all_of, first_of, rows_of}
use Rattle.clap.specs.declared.builder.command.Command.{Command}
use Rattle.clap.specs.declared.error.Error.{Error}
use Rattle.clap.specs.declared.error.kind.ErrorKind.{ErrorKind}
use Rattle.clap.specs.declared.error.kind.ErrorKind.TheVariants as error_kind
use Rattle.clap.specs.declared.parser.matches.ArgMatches.{ArgMatches}
use Rattle.clap.specs.declared.parser.matches.Found.{Found}
use Rattle.clap.proofs.OnLiterals.{clap_on_literals}
use Rattle.clap.proofs.SimpleLemmas.{plain_fields}
use Rattle.clap.proofs.WalkLemmas.{first_value-rows}
use Rattle.sf_value.specs.declared.dialect.Dialect.{Dialect}
use Rattle.sf_value.specs.declared.dialect.Dialect.TheVariants.{Rfc8941, Rfc9651}
use Rattle.sf_value.specs.declared.value.Kind.{Kind}
use Rattle.sf_value.specs.declared.value.Kind.TheVariants as kind
use Rattle.sf_tool.specs.declared.request.Request.{Request}
use Rattle.sf_tool.specs.declared.request.Request.TheVariants.{Targeted, Decide}
use Rattle.sf_tool.specs.declared.request.RequestFault.{RequestFault}
use Rattle.sf_tool.specs.declared.request.RequestFault.TheVariants.{Usage, OutOfMemory}
use Rattle.sf_tool.specs.Fields.{is_header_name}
use Rattle.sf_tool.specs.Request.{AreFewNames, HasFewNames}
use Rattle.sf_tool.specs.CommandLine.{command_line, kind_named, kind_word, dialect_word, NamesKind}
use Rattle.sf_tool.specs.CommandLine.{NamesDialect, NamesAll, NamesFallback}
use Rattle.sf_tool.specs.CommandLine.{IsGivenAge, IsSeconds}
use Rattle.sf_tool.specs.CommandLine.{AreNames, AsksFor, IsRequestOf, IsUsageOf}
use Rattle.sf_tool.specs.Commands.{AsksAsFound, AsksForNone, IsCommandFault, IsFoundFault}
use Rattle.sf_tool.specs.Commands.{IsNamesFault}

-- the command line is one whose parse clap tells

pub command_line-is_simple : is_simple command_line ≡ true
unfolding clap_on_literals
command_line-is_simple = refl

pub command_line-is_free : is_simple_and_free command_line ≡ true
unfolding clap_on_literals
command_line-is_free = refl

-- a subcommand more
pub added : (old sub new : Command) (a : App) (s : Shape) → AddsSubcommand old sub new
    → app_of old ≡ a → shape_of sub ≡ s → s.is_plain ≡ true → app_of new ≡ with_subcommand a s
added old sub new a s adds e f plain =
    let is_plain : (shape_of sub).is_plain ≡ true = ap (λ (s : Shape). s.is_plain) f
    ∙ plain in
    adds.shape (plain_fields sub is_plain).globals ∙ ap₂ with_subcommand e f

-- the first value of an option

pub value-some : (f : Found) (id : Text) (r : Option (Bor Text)) (s : Bor Text)
    → option_map (λ s. s.now) r ≡ first_value f id → r ≡ Some s
    → first_of id (rows_of f) ≡ Some s.now
value-some f id r s e is =
    sym (first_value-rows f id) ∙ sym e ∙ ap (option_map (λ (s : Bor Text). s.now)) is

pub value-none : (f : Found) (id : Text) (r : Option (Bor Text))
    → option_map (λ s. s.now) r ≡ first_value f id → r ≡ None
    → first_of id (rows_of f) ≡ None
value-none f id r e is =
    sym (first_value-rows f id) ∙ sym e ∙ ap (option_map (λ (s : Bor Text). s.now)) is

some-same : {X : Type 0} (x y : X) → Some x ≡ Some y → x ≡ y
some-same x y e = cc

pub other-dialect : (f : Found) (r : Option (Bor Text)) (s : Bor Text)
    → option_map (λ s. s.now) r ≡ first_value f (codes "dialect") → r ≡ Some s
    → ¬ (s.now ≡ codes "rfc8941") → ¬ (s.now ≡ codes "rfc9651")
    → (d : Dialect) → ¬ (NamesDialect (rows_of f) d)
other-dialect f r s e is old new Rfc8941 given =
    old (some-same _ _ (sym (value-some f (codes "dialect") r s e is) ∙ given))
other-dialect f r s e is old new Rfc9651 given =
    new (some-same _ _ (sym (value-some f (codes "dialect") r s e is) ∙ given))

pub no-dialect : (f : Found) (r : Option (Bor Text))
    → option_map (λ s. s.now) r ≡ first_value f (codes "dialect") → r ≡ None
    → (d : Dialect) → ¬ (NamesDialect (rows_of f) d)
no-dialect f r e is d given =
    let none = value-none f (codes "dialect") r e is in
    let both : None ≡ Some (dialect_word d) = sym none ∙ given in
    cc

named-by : (P : Kind → Type 0) (item list dict : Bool) (k : Kind)
    → (if item then Some kind.Item else if list then Some kind.List
    else if dict then Some kind.Dict else None) ≡ Some k
    → (item ≡ true → P kind.Item) → (list ≡ true → P kind.List) → (dict ≡ true → P kind.Dict)
    → P k
named-by P true list dict k e p q r = subst P (some-same _ _ e) (p refl)
named-by P false true dict k e p q r = subst P (some-same _ _ e) (q refl)
named-by P false false true k e p q r = subst P (some-same _ _ e) (r refl)
named-by P false false false k e p q r = let both : None ≡ Some k = e in cc

-- the word that names a kind
pub named-kind : (word : Text) (k : Kind) → kind_named word ≡ Some k → word ≡ kind_word k
named-kind word k e =
    named-by (λ k. word ≡ kind_word k) _ _ _ k e
    (λ h. (bytes_eq-Decides word (codes "item")).0 h)
    (λ h. (bytes_eq-Decides word (codes "list")).0 h)
    (λ h. (bytes_eq-Decides word (codes "dict")).0 h)

unnamed-kind : (word : Text) → kind_named word ≡ None → (k : Kind) → ¬ (word ≡ kind_word k)
unnamed-kind word none kind.Item e =
    let both : Some kind.Item ≡ None = ap kind_named (sym e) ∙ none in cc
unnamed-kind word none kind.List e =
    let both : Some kind.List ≡ None = ap kind_named (sym e) ∙ none in cc
unnamed-kind word none kind.Dict e =
    let both : Some kind.Dict ≡ None = ap kind_named (sym e) ∙ none in cc

pub other-kind : (f : Found) (r : Option (Bor Text)) (s : Bor Text)
    → option_map (λ s. s.now) r ≡ first_value f (codes "kind") → r ≡ Some s
    → kind_named s.now ≡ None → (k : Kind) → ¬ (NamesKind (rows_of f) k)
other-kind f r s e is none k given =
    unnamed-kind s.now none k (some-same _ _ (sym (value-some f (codes "kind") r s e is) ∙ given))

pub no-kind : (f : Found) (r : Option (Bor Text))
    → option_map (λ s. s.now) r ≡ first_value f (codes "kind") → r ≡ None
    → (k : Kind) → ¬ (NamesKind (rows_of f) k)
no-kind f r e is k given =
    let none = value-none f (codes "kind") r e is in
    let both : None ≡ Some (kind_word k) = sym none ∙ given in
    cc

-- names

apart : (a b : Text) → bytes_eq a b ≡ false → a ≡ b → ⊥
apart a b differ same = false≢true (sym differ ∙ (bytes_eq-Decides a b).1 same)

-- a request of the command `targeted` has names
only-targeted : (rows : List Row) → ((names : List Text) → ¬ (NamesAll rows names))
    → AsksForNone (codes "targeted") rows
only-targeted rows none (Targeted names) asks = none names.items asks.1.1
only-targeted rows none (Decide names age) asks = none names.items asks.1.1
only-targeted rows none command asks = apart _ _ refl asks.0

-- and it has a fallback with an age, or neither
pub no-fallback : (rows : List Row) → ((age : Option ℕ) → ¬ (NamesFallback rows age))
    → AsksForNone (codes "targeted") rows
no-fallback rows none (Targeted names) asks = none None asks.1.0
no-fallback rows none (Decide names age) asks = none (Some age) asks.1.0
no-fallback rows none command asks = apart _ _ refl asks.0

pub no-names : (rows : List Row) → all_of (codes "name") rows ≡ None
    → AsksForNone (codes "targeted") rows
no-names rows nothing =
    only-targeted rows
    (λ names all. let both : None ≡ Some all.0 = sym nothing ∙ all.1 in cc)

pub names-fault : (rows : List Row) (texts : List Text) → all_of (codes "name") rows ≡ Some texts
    → (fault : RequestFault) → IsNamesFault texts fault
    → IsCommandFault (codes "targeted") rows fault
names-fault rows texts given Usage h =
    only-targeted rows
    (λ names all.
    let P : List Text → Type 0 = λ ws. AreNames ws names in
    h names (subst P (some-same _ _ (sym all.1 ∙ given)) all.2))
names-fault rows texts given OutOfMemory h = (refl, (texts, given, h))

-- an age

not-given : (word : Text) → ((seconds : ℕ) → ¬ (IsSeconds word seconds)) → (age : Option ℕ)
    → ¬ (IsGivenAge (Some word) age)
not-given word none None given = given
not-given word none (Some seconds) given = none seconds given

-- a word that is no number of seconds
pub no-age : (f : Found) (r : Option (Bor Text)) (s : Bor Text)
    → option_map (λ s. s.now) r ≡ first_value f (codes "age") → r ≡ Some s
    → ((seconds : ℕ) → ¬ (IsSeconds s.now seconds))
    → (age : Option ℕ) → ¬ (IsGivenAge (first_of (codes "age") (rows_of f)) age)
no-age f r s e is none age given =
    let P : Option Text → Type 0 = λ o. IsGivenAge o age in
    not-given s.now none age (subst P (value-some f (codes "age") r s e is) given)

-- a fallback

no-word : (o : Option Text) → IsGivenAge o None → o ≡ None
no-word None given = refl
no-word (Some word) given = absurd given

-- neither is given
pub neither : (rows : List Row) → first_of (codes "fallback") rows ≡ None
    → IsGivenAge (first_of (codes "age") rows) None → NamesFallback rows None
neither rows absent given = (absent, no-word (first_of (codes "age") rows) given)

-- an age that is none
pub age-fails : (rows : List Row)
    → ((age : Option ℕ) → ¬ (IsGivenAge (first_of (codes "age") rows) age))
    → (age : Option ℕ) → ¬ (NamesFallback rows age)
age-fails rows none None names =
    let P : Option Text → Type 0 = λ o. IsGivenAge o None in
    none None (subst P (sym names.1) tt)
age-fails rows none (Some seconds) names = none names.1.0 names.1.1

-- an age without a fallback
pub age-alone : (rows : List Row) (seconds : ℕ) → first_of (codes "fallback") rows ≡ None
    → IsGivenAge (first_of (codes "age") rows) (Some seconds)
    → (age : Option ℕ) → ¬ (NamesFallback rows age)
age-alone rows seconds absent given None names =
    let P : Option Text → Type 0 = λ o. IsGivenAge o (Some seconds) in
    subst P names.1 given
age-alone rows seconds absent given (Some other) names =
    let both : None ≡ Some (codes "cache-control") = sym absent ∙ names.0 in cc

-- a word that is no fallback
pub other-fallback : (f : Found) (r : Option (Bor Text)) (s : Bor Text)
    → option_map (λ s. s.now) r ≡ first_value f (codes "fallback") → r ≡ Some s
    → ¬ (s.now ≡ codes "cache-control") → (age : Option ℕ) → ¬ (NamesFallback (rows_of f) age)
other-fallback f r s e is other None names =
    let both : Some s.now ≡ None = sym (value-some f (codes "fallback") r s e is) ∙ names.0 in cc
other-fallback f r s e is other (Some seconds) names =
    other (some-same _ _ (sym (value-some f (codes "fallback") r s e is) ∙ names.0))

pub fallback-fault : (rows : List Row) (fault : RequestFault)
    → (fault ≡ Usage) × ((age : Option ℕ) → ¬ (NamesFallback rows age))
    → IsCommandFault (codes "targeted") rows fault
fallback-fault rows Usage (is, none) = no-fallback rows none
fallback-fault rows OutOfMemory (is, none) = absurd cc

-- one name more

-- the texts of words, and the one at a place
abbrev pub texts : List (Bor Text) → List Text
texts words = map (λ w. w.now) words

pub text-at : (words : List (Bor Text)) (i : ℕ) → i < length words
    → (i < length (texts words))
    × ((get_or words i (record { ref_ptr = (0, 0); now = [] })).now ≡ get_or (texts words) i [])
    × (length (texts words) ≡ length words)
text-at words i lt =
    let text : Bor Text → Text = λ w. w.now in
    let size = length-map words text in (
      omega arith,
      sym (get_or-map text words i (record { ref_ptr = (0, 0); now = [] }) [] lt),
      size,
    )

pub names-more : (words : List Text) (i : ℕ) (d : Text) → i < length words
    → list_all is_header_name (take i words) ≡ true → is_header_name (get_or words i d) ≡ true
    → list_all is_header_name (take (i + 1) words) ≡ true
names-more words i d lt all here =
    list_all_more is_header_name words i d lt ∙ rw (all, here) refl

pub lowercase-more : (words : List Text) (i : ℕ) (d : Text) → i < length words
    → map lowercase (take (i + 1) words)
    ≡ map lowercase (take i words) ++ lowercase (get_or words i d) ∷ []
lowercase-more words i d lt =
    let next : i + 1 ≡ suc i = omega arith in
    rw next
    (ap (map lowercase) (take-suc words i d lt)
    ∙ map-append lowercase (take i words) (get_or words i d ∷ []))

pub not-names : (words : List Text) (i : ℕ) (d : Text) → i < length words
    → is_header_name (get_or words i d) ≡ false → (names : List Text) → ¬ (AreNames words names)
not-names words i d lt bad names are =
    false≢true (sym (list_all_at is_header_name words i d lt bad) ∙ are.2)

-- a request, from what clap parsed

is-among : (k : ErrorKind) (kinds : Kinds) → IsAmong k kinds → kinds ≡ [] → ⊥
is-among k [] h e = h
is-among k (x ∷ xs) h e = cc

some-kind : (kinds : Kinds) (e : Error) → HasKind kinds e → kind_of e ≢ error_kind.OutOfMemory
    → kinds ≡ [] → ⊥
some-kind kinds e (inl memory) other none = other memory
some-kind kinds e (inr among) other none = is-among (kind_of e) kinds among none

asks-found : (words : List Text) (rows : Option (Text × List Row)) (request : Request)
    → fault_of command_line words ≡ [] → rows ≡ subcommand_of command_line words
    → AsksAsFound rows request → IsRequestOf words request
asks-found words None request none e h = absurd h
asks-found words (Some found) request none e h = (none, (found, sym e, h))

found-fault : (words : List Text) (rows : Option (Text × List Row)) (fault : RequestFault)
    → rows ≡ subcommand_of command_line words → IsFoundFault rows fault → IsUsageOf words fault
found-fault words rows OutOfMemory e h = tt
found-fault words None Usage e h =
    λ request asks. let both : None ≡ Some asks.1.0 = e ∙ asks.1.1 in cc
found-fault words (Some found) Usage e h =
    λ request asks.
    let same : found ≡ asks.1.0 = some-same _ _ (e ∙ asks.1.1) in
    h request (subst (λ f. AsksFor f.0 f.1 request) (sym same) asks.1.2)

pub request-read : (words : List Text) (parsed : Result ArgMatches Error)
    (r : Result Request RequestFault) → IfOk parsed (HasMatchesOf command_line words)
    → FailsBy (fault_of command_line words) parsed
    → IfOk parsed (λ m. MatchResult r (AsksAsFound (subcommand_rows_of m))
    (IsFoundFault (subcommand_rows_of m)))
    → IfErr parsed (λ e. IsErrAnd r
    (λ fault. (fault ≡ Usage) ↔ (kind_of e ≢ error_kind.OutOfMemory)))
    → MatchResult r (IsRequestOf words) (IsUsageOf words)
request-read words (Ok m) (Ok request) matches kinds found fault =
    asks-found words (subcommand_rows_of m) request kinds (matches command_line-is_simple).1 found
request-read words (Ok m) (Err why) matches kinds found fault =
    found-fault words (subcommand_rows_of m) why (matches command_line-is_simple).1 found
request-read words (Err e) (Ok request) matches kinds found fault = absurd fault
request-read words (Err e) (Err OutOfMemory) matches kinds found fault = tt
request-read words (Err e) (Err Usage) matches kinds found fault =
    λ request asks. some-kind (fault_of command_line words) e kinds (fault.0 refl) asks.0

-- a request has few names
few-names : (rows : List Row) (names : List Text) → NamesAll rows names → AreFewNames names
few-names rows names (words, given, are) =
    let size : length names ≡ length words = ap length are.3 ∙ length-map words lowercase in
    (omega (arith, size, are.0), omega (arith, size, are.1))

asks-few : (rows : List Row) (word : Text) (request : Request) → AsksFor word rows request
    → HasFewNames request
asks-few rows word (Targeted names) asks = few-names rows names.items asks.1.1
asks-few rows word (Decide names age) asks = few-names rows names.items asks.1.1
asks-few rows word command asks = tt

pub request-few : (words : List Text) (r : Result Request RequestFault)
    → MatchResult r (IsRequestOf words) (IsUsageOf words) → IfOk r HasFewNames
request-few words (Ok request) asks =
    asks-few asks.1.0.1 asks.1.0.0 request asks.1.2
request-few words (Err fault) asks = tt

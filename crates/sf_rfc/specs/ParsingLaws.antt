-- What it means that an algorithm of RFC 9651 and a relation of the grammar agree.
use Rattle.std.specs.Prelude.{◌≡◌, ℕ, ℤ, Bool, true, false, ◌==◌, ◌||◌, List, [], ◌∷◌, ◌++◌, Some}
use Rattle.std.specs.Prelude.{None, Result, Ok, Err, ◌⊎◌, ◌↔◌, ⊤}
use Rattle.sf_value.specs.declared.dialect.Dialect.{Dialect}
use Rattle.sf_value.specs.declared.value.Bare.{Bare}
use Rattle.sf_value.specs.declared.value.Bare.TheVariants.{Integer, Decimal, Date}
use Rattle.sf_value.specs.declared.value.Item.{Item}
use Rattle.sf_value.specs.declared.value.Inner.{Inner}
use Rattle.sf_value.specs.declared.value.Member.{Member}
use Rattle.sf_value.specs.declared.value.Field.{Field}
use Rattle.sf_value.specs.declared.value.Kind.{Kind}
use Rattle.sf_value.specs.Ascii.{point, semicolon, equals}
use Rattle.sf_value.specs.Grammar.Words.{Every}
use Rattle.sf_value.specs.Grammar.Classes.{is_digit, is_key_start, is_in_key, is_token_start}
use Rattle.sf_value.specs.Grammar.Classes.{is_in_token, is_ows}
use Rattle.sf_value.specs.Grammar.Pairs.{Pairs, settle}
use Rattle.sf_value.specs.Grammar.Numbers.{SpellsInteger, SpellsDecimal, SpellsDate}
use Rattle.sf_value.specs.Grammar.Strings.{SpellsString}
use Rattle.sf_value.specs.Grammar.Tokens.{SpellsWord}
use Rattle.sf_value.specs.Grammar.ByteSequences.{SpellsByteSequence}
use Rattle.sf_value.specs.Grammar.Booleans.{SpellsBoolean}
use Rattle.sf_value.specs.Grammar.DisplayStrings.{SpellsDisplayString}
use Rattle.sf_value.specs.Grammar.BareItems.{SpellsBare}
use Rattle.sf_value.specs.Grammar.Parameters.{SpellsParams}
use Rattle.sf_value.specs.Grammar.Items.{SpellsItem}
use Rattle.sf_value.specs.Grammar.InnerLists.{SpellsInner, SpellsMember}
use Rattle.sf_value.specs.Grammar.Series.{SpellsSeries}
use Rattle.sf_value.specs.Grammar.Fields.{SpellsEntry, SpellsField}
use Rattle.sf_parse.specs.declared.refusal.Refusal.{Refusal}
use Rattle.sf_parse.specs.declared.refusal.Refusal.TheVariants.{OutOfMemory, Syntax, TooLong}
use Rattle.sf_parse.specs.declared.refusal.Refusal.TheVariants.{ReadFault}
use Rattle.sf_parse.specs.Parsers.{Parses, Finishes}
use Rattle.sf_rfc.specs.Rfc9651.Words.{Parse, first_is}
use Rattle.sf_rfc.specs.Rfc9651.Utf8Coding.{utf8_encode}
use Rattle.sf_rfc.specs.Rfc9651.ParsingBare.{parse_token, parse_boolean, parse_string, parse_number}
use Rattle.sf_rfc.specs.Rfc9651.ParsingBare.{parse_date, parse_byte_sequence, parse_display_string}
use Rattle.sf_rfc.specs.Rfc9651.ParsingBare.{parse_bare}
use Rattle.sf_rfc.specs.Rfc9651.Parsing.{parse_key, parse_params, parse_item, parse_inner}
use Rattle.sf_rfc.specs.Rfc9651.Parsing.{parse_member, parse_list, parse_dictionary, parse_field}

-- the algorithm f takes only texts of L, and each of them if the next character fails the test
pub record Agrees (V : Type 0) (L : List ℕ → V → Type 0) (f : Parse V) (more : ℕ → Bool)
    : Type 0 where
  -- The prefix that f takes is a text of L.
  pub sound : (t r : List ℕ) (v : V) → f t ≡ Some (v, r) → (prefix : List ℕ) × (t ≡ prefix ++ r)
      × L prefix v
  -- f takes a text of L if the rest does not begin with a character that passes the test.
  pub whole : (t r : List ℕ) (v : V) → L t v → first_is more r ≡ false → f (t ++ r) ≡ Some (v, r)

-- an Integer or a Decimal
abbrev pub SpellsNumber : List ℕ → Bare → Type 0
SpellsNumber t v =
    ((n : ℤ) × (v ≡ Integer n) × SpellsInteger t n) ⊎ ((m : ℤ) × (v ≡ Decimal m) × SpellsDecimal t m)

-- the characters that a number continues with
abbrev pub is_in_number : ℕ → Bool
is_in_number c = is_digit c || c == point

abbrev pub NumbersAgree : Type 0
NumbersAgree = Agrees Bare SpellsNumber parse_number is_in_number

-- a Date, as a bare item
abbrev pub SpellsBareDate : List ℕ → Bare → Type 0
SpellsBareDate t v = (n : ℤ) × (v ≡ Date n) × SpellsDate t n

abbrev pub DatesAgree : Type 0
DatesAgree = Agrees Bare SpellsBareDate parse_date is_in_number

abbrev pub ByteSequencesAgree : Type 0
ByteSequencesAgree = Agrees (List ℕ) SpellsByteSequence parse_byte_sequence (λ c. false)

-- a Display String of these code points; the grammar has the octets of their UTF-8
abbrev pub SpellsCodePoints : List ℕ → List ℕ → Type 0
SpellsCodePoints t sequence =
    (octets : List ℕ) × (utf8_encode sequence ≡ Some octets) × SpellsDisplayString t octets

abbrev pub DisplayStringsAgree : Type 0
DisplayStringsAgree = Agrees (List ℕ) SpellsCodePoints parse_display_string (λ c. false)

abbrev pub KeysAgree : Type 0
KeysAgree = Agrees (List ℕ) (SpellsWord is_key_start is_in_key) parse_key is_in_key

abbrev pub TokensAgree : Type 0
TokensAgree = Agrees (List ℕ) (SpellsWord is_token_start is_in_token) parse_token is_in_token

-- no rest changes the value of a Boolean or a String
abbrev pub BooleansAgree : Type 0
BooleansAgree = Agrees Bool SpellsBoolean parse_boolean (λ c. false)

abbrev pub StringsAgree : Type 0
StringsAgree = Agrees (List ℕ) SpellsString parse_string (λ c. false)

-- a bare item continues with the characters of a Token, which include those of numbers
abbrev pub BareItemsAgree : Type 0
BareItemsAgree = (d : Dialect) → Agrees Bare (SpellsBare d) (parse_bare d) is_in_token

-- the characters with which parameters, or the bare item or the key before them, continue
abbrev pub is_in_params : ℕ → Bool
is_in_params c = is_in_token c || (c == semicolon || c == equals)

abbrev pub ParametersAgree : Type 0
ParametersAgree =
    (d : Dialect) → Agrees (Pairs Bare) (SpellsParams d) (parse_params d) is_in_params

abbrev pub ItemsAgree : Type 0
ItemsAgree = (d : Dialect) → Agrees Item (SpellsItem d) (parse_item d) is_in_params

abbrev pub InnerListsAgree : Type 0
InnerListsAgree = (d : Dialect) → Agrees Inner (SpellsInner d) (parse_inner d) is_in_params

-- a member of a List or a Dictionary
abbrev pub MembersAgree : Type 0
MembersAgree = (d : Dialect) → Agrees Member (SpellsMember d) (parse_member d) is_in_params

-- the members of a List or a Dictionary to the end of the text: an empty text without members;
-- otherwise a series, then OWS
abbrev pub SpellsToEnd : {X : Type 0} → (List ℕ → X → Type 0) → List ℕ → List X → Type 0
SpellsToEnd P t [] = t ≡ []
SpellsToEnd P t (x ∷ xs) =
    (body tail : List ℕ) × (t ≡ body ++ tail) × SpellsSeries P body (x ∷ xs) × Every is_ows tail

-- Lists and Dictionaries go to the end: no rest may follow
abbrev pub ListsAgree : Type 0
ListsAgree =
    (d : Dialect)
    → Agrees (List Member) (SpellsToEnd (SpellsMember d)) (parse_list d) (λ c. true)

-- the entries to the end of the text, settled
abbrev pub SpellsEntries : Dialect → List ℕ → Pairs Member → Type 0
SpellsEntries d t ps =
    (raw : Pairs Member) × (ps ≡ settle raw) × SpellsToEnd (SpellsEntry d) t raw

abbrev pub DictionariesAgree : Type 0
DictionariesAgree =
    (d : Dialect) → Agrees (Pairs Member) (SpellsEntries d) (parse_dictionary d) (λ c. true)

-- a whole field: the steps return a value exactly if the grammar spells it
abbrev pub FieldsAgree : Type 0
FieldsAgree =
    (d : Dialect) (kind : Kind) (t : List ℕ) (v : Field)
    → (parse_field d kind t ≡ Some v) ↔ SpellsField d kind t v

-- a result is that of the RFC's steps: a value exactly if they return this one, a refusal of the
-- text exactly if they fail, or a failed allocation
abbrev pub AnswersAsRfc : Dialect → Kind → List ℕ → Result Field Refusal → Type 0
AnswersAsRfc d kind t (Ok v) = parse_field d kind t ≡ Some v
AnswersAsRfc d kind t (Err OutOfMemory) = ⊤
AnswersAsRfc d kind t (Err (Syntax place found expected may_end)) = parse_field d kind t ≡ None
AnswersAsRfc d kind t (Err (TooLong limit)) = ⊥
AnswersAsRfc d kind t (Err (ReadFault place)) = ⊥

-- a result that meets the clause of the parser of whole texts is that of the RFC's steps
abbrev pub AnswersAgree : Type 0
AnswersAgree =
    (d : Dialect) (kind : Kind) (t : List ℕ) (answer : Result Field Refusal)
    → Parses d kind t answer → AnswersAsRfc d kind t answer

-- a result that meets the clause of the end of a parser that is fed is that of the RFC's steps
abbrev pub EndsAgree : Type 0
EndsAgree =
    (d : Dialect) (kind : Kind) (t : List ℕ) (answer : Result Field Refusal)
    → Finishes d kind t answer → AnswersAsRfc d kind t answer

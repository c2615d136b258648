-- The laws of the choice of a targeted field. Each is the contract of a function in `src/laws.rt`.
use Rattle.std.specs.Prelude.{◌≡◌, ◌⊎◌, ◌↔◌, ℕ, List as Seq, [], ◌∷◌, take, slice_get, All}
use Rattle.std.specs.Prelude.{Some, None}
use Rattle.http_header.specs.FieldValue.{plain_value}
use Rattle.http_header.specs.HeaderMap.{ContainsKey, insert}
use Rattle.sf_value.specs.declared.dialect.Dialect.{Dialect}
use Rattle.sf_value.specs.declared.dialect.Dialect.TheVariants.{Rfc9651}
use Rattle.sf_value.specs.declared.value.Field.{Field}
use Rattle.sf_value.specs.declared.value.Kind.TheVariants as kind
use Rattle.sf_value.specs.Grammar.Canonical.{canon}
use Rattle.sf_value.specs.Grammar.Fields.{SpellsField}
use Rattle.sf_value.specs.Grammar.Lines.{join}
use Rattle.sf_field.specs.Headers.{Headers, lines_under}
use Rattle.sf_use.specs.declared.targeted.Choice.{Choice}
use Rattle.sf_use.specs.declared.targeted.Choice.TheVariants as choice
use Rattle.sf_use.specs.TargetedChoice.{IsChosenIn, IsOfferIn}

-- the targets and the headers have a choice
abbrev pub SomeChoiceIn : Dialect → Type 0
SomeChoiceIn dialect =
    (targets : Seq (Seq ℕ)) (headers : Headers)
    → (c : Choice) × IsChosenIn dialect targets headers c

-- the targets and the headers have at most one choice
abbrev pub OneChoiceIn : Dialect → Type 0
OneChoiceIn dialect =
    (targets : Seq (Seq ℕ)) (headers : Headers) (c e : Choice)
    → IsChosenIn dialect targets headers c → IsChosenIn dialect targets headers e → c ≡ e

-- under the name both have the same joined text, or neither has the name
pub record SameText (these those : Headers) (name : Seq ℕ) : Type 0 where
  pub present : ContainsKey these name ↔ ContainsKey those name
  pub text : join (lines_under these name) ≡ join (lines_under those name)

-- under the name these have an accepted Dictionary, and those its canonical text as the one value
pub record NormalisedIn (dialect : Dialect) (these those : Headers) (name : Seq ℕ) : Type 0 where
  pub present : ContainsKey these name
  pub kept : ContainsKey those name
  pub value : Field
  pub accepted : SpellsField dialect kind.Dict (join (lines_under these name)) value
  pub canonical : lines_under those name ≡ canon value ∷ []

-- if listed fields that are accepted are replaced by their canonical texts, and all others have the
-- same joined text, the choice is the same
abbrev pub ChosenAsCanonicalIn : Dialect → Type 0
ChosenAsCanonicalIn dialect =
    (targets : Seq (Seq ℕ)) (these those : Headers)
    → All (λ name. SameText these those name ⊎ NormalisedIn dialect these those name) targets
    → (c : Choice) → IsChosenIn dialect targets these c ↔ IsChosenIn dialect targets those c

-- if the values of a name that is present and accepted are replaced by the canonical text, the
-- choice is the same
abbrev pub ChosenAsReplacedIn : Dialect → Type 0
ChosenAsReplacedIn dialect =
    (targets : Seq (Seq ℕ)) (headers : Headers) (name : Seq ℕ) (value : Field)
    → ContainsKey headers name
    → SpellsField dialect kind.Dict (join (lines_under headers name)) value
    → (c : Choice)
    → IsChosenIn dialect targets headers c
    ↔ IsChosenIn dialect targets (insert headers name (plain_value (canon value))) c

-- the first target, in the order of the list, with an offer (RFC 9213 section 2.2); Fallback if
-- there is none
abbrev pub IsFirstIn : Dialect → Seq (Seq ℕ) → Headers → Choice → Type 0
IsFirstIn dialect targets headers (choice.Field index p) =
    (name : Seq ℕ)
    × (slice_get targets index ≡ Some name)
    × IsOfferIn dialect headers name (Some p)
    × All (λ n. IsOfferIn dialect headers n None) (take index targets)
IsFirstIn dialect targets headers choice.Fallback =
    All (λ n. IsOfferIn dialect headers n None) targets

-- the choice is the first target with an offer
abbrev pub ChosenIsFirstIn : Dialect → Type 0
ChosenIsFirstIn dialect =
    (targets : Seq (Seq ℕ)) (headers : Headers) (c : Choice)
    → IsChosenIn dialect targets headers c ↔ IsFirstIn dialect targets headers c

-- the same by RFC 9651
abbrev pub SomeChoice : Type 0
SomeChoice = SomeChoiceIn Rfc9651

abbrev pub OneChoice : Type 0
OneChoice = OneChoiceIn Rfc9651

abbrev pub ChosenAsCanonical : Type 0
ChosenAsCanonical = ChosenAsCanonicalIn Rfc9651

abbrev pub ChosenAsReplaced : Type 0
ChosenAsReplaced = ChosenAsReplacedIn Rfc9651

abbrev pub ChosenIsFirst : Type 0
ChosenIsFirst = ChosenIsFirstIn Rfc9651

-- Which field of a target list a cache obeys (RFC 9213 section 2.2).
use Rattle.std.specs.Prelude.{◌≡◌, ◌≢◌, ◌⊎◌, ℕ, ◌+◌, ◌<◌, List as Seq, [], ◌∷◌, All, length, take}
use Rattle.std.specs.Prelude.{get_or, Option, Some, None, Result, Ok, Err, IsErr, ⊤}
use Rattle.http_header.specs.HeaderMap.{ContainsKey}
use Rattle.sf_value.specs.declared.dialect.Dialect.{Dialect}
use Rattle.sf_value.specs.declared.dialect.Dialect.TheVariants.{Rfc9651}
use Rattle.sf_value.specs.declared.fault.OutOfMemory.{OutOfMemory as NoMemory}
use Rattle.sf_value.specs.declared.value.Dict.{Dict}
use Rattle.sf_value.specs.declared.value.Field.{Field}
use Rattle.sf_value.specs.declared.value.Field.TheVariants as field
use Rattle.sf_value.specs.declared.value.Kind.TheVariants as kind
use Rattle.sf_value.specs.declared.value.Member.{Member}
use Rattle.sf_value.specs.Grammar.Fields.{SpellsField}
use Rattle.sf_value.specs.Grammar.Lines.{join}
use Rattle.sf_value.specs.Grammar.Pairs.{Pairs}
use Rattle.sf_parse.specs.declared.refusal.Refusal.TheVariants.{OutOfMemory, Syntax, TooLong}
use Rattle.sf_parse.specs.declared.refusal.Refusal.TheVariants.{ReadFault}
use Rattle.sf_field.specs.Headers.{Headers, lines_under}
use Rattle.sf_field.specs.declared.asking.AskFault.{AskFault}
use Rattle.sf_field.specs.declared.asking.AskFault.TheVariants as fault
use Rattle.sf_field.specs.declared.consumer.UseFault.TheVariants.{NotACache}
use Rattle.sf_field.specs.declared.consumer.UseFault.TheVariants as use_fault
use Rattle.sf_use.specs.Targeted.{policy}
use Rattle.sf_use.specs.declared.targeted.Policy.{Policy}
use Rattle.sf_use.specs.declared.targeted.Choice.{Choice}
use Rattle.sf_use.specs.declared.targeted.Choice.TheVariants as choice

-- in the dialect: the field of this name is present, its joined values spell this Dictionary, and
-- it has a member; any other field is ignored (section 2.1)
pub record UsableIn (dialect : Dialect) (headers : Headers) (name : Seq ℕ) (d : Dict) : Type 0 where
  pub present : ContainsKey headers name
  pub spelled : SpellsField dialect kind.Dict (join (lines_under headers name)) (field.Dict d)
  pub filled : d.members ≢ []

-- the policy of the field of this name, if its Dictionary can be used, otherwise none
abbrev pub IsOfferIn : Dialect → Headers → Seq ℕ → Option Policy → Type 0
IsOfferIn dialect headers name (Some p) =
    (d : Dict) × UsableIn dialect headers name d × (p ≡ policy d)
IsOfferIn dialect headers name None = (d : Dict) → UsableIn dialect headers name d → ⊥

-- the choice among these targets, whose first has this index: the first target with an offer
abbrev pub IsChosenFromIn : Dialect → ℕ → Seq (Seq ℕ) → Headers → Choice → Type 0
IsChosenFromIn dialect index [] headers c = c ≡ choice.Fallback
IsChosenFromIn dialect index (name ∷ names) headers c =
    ((p : Policy) × IsOfferIn dialect headers name (Some p) × (c ≡ choice.Field index p))
    ⊎ (IsOfferIn dialect headers name None × IsChosenFromIn dialect (index + 1) names headers c)

-- the choice among the targets
abbrev pub IsChosenIn : Dialect → Seq (Seq ℕ) → Headers → Choice → Type 0
IsChosenIn dialect = IsChosenFromIn dialect 0

-- the same by RFC 9651
abbrev pub IsChosenFrom : ℕ → Seq (Seq ℕ) → Headers → Choice → Type 0
IsChosenFrom index names headers c = IsChosenFromIn Rfc9651 index names headers c

abbrev pub IsChosen : Seq (Seq ℕ) → Headers → Choice → Type 0
IsChosen = IsChosenFrom 0

-- the policy of a field that was read, if it is a Dictionary with a member, otherwise none
abbrev pub MayOffer : Field → Option Policy → Type 0
MayOffer f (Some p) = (d : Dict) × (f ≡ field.Dict d) × (d.members ≢ []) × (p ≡ policy d)
MayOffer f None = (d : Dict) → f ≡ field.Dict d → d.members ≡ []

-- the field of this target is read: it is present, and no target before it has an offer
abbrev pub IsReachedIn : Dialect → Seq (Seq ℕ) → Headers → Type 0
IsReachedIn dialect targets headers =
    (index : ℕ)
    × (index < length targets)
    × ContainsKey headers (get_or targets index [])
    × All (λ n. IsOfferIn dialect headers n None) (take index targets)

-- the same by RFC 9651
abbrev pub IsReached : Seq (Seq ℕ) → Headers → Type 0
IsReached targets headers = IsReachedIn Rfc9651 targets headers

-- the answer, if there is a member
abbrev pub unless_empty : {A : Type 0} → Pairs Member → A → Option A
unless_empty [] a = None
unless_empty (m ∷ ms) a = Some a

-- the answer for a Dictionary with a member, otherwise none
abbrev pub offer_by : {A : Type 0} → (Dict → A) → Field → Option A
offer_by answer (field.Dict d) = unless_empty d.members (answer d)
offer_by answer f = None

-- the policy of a Dictionary with a member, otherwise none
abbrev pub offer : Field → Option Policy
offer = offer_by policy

-- a fault of the offer of what is in memory: no source was read, and each Dictionary has an answer
abbrev pub IsOfTarget : AskFault → Type 0
IsOfTarget (fault.Field (ReadFault place)) = ⊥
IsOfTarget (fault.Field refusal) = ⊤
IsOfTarget (fault.Answer (NotACache index)) = ⊥
IsOfTarget (fault.Answer use_fault.OutOfMemory) = ⊤

-- what the field of a name offers if its offer was asked for with this result: nothing if the field
-- is refused (section 2.1), whatever memory is left
abbrev pub OffersAsAsked : {A : Type 0} → Result (Option A) AskFault → Result (Option A) NoMemory
    → Type 0
OffersAsAsked (Ok o) r = r ≡ Ok o
OffersAsAsked (Err (fault.Field (Syntax place found expected may_end))) r = r ≡ Ok None
OffersAsAsked (Err (fault.Field OutOfMemory)) r = IsErr r
OffersAsAsked (Err (fault.Field (TooLong limit))) r = IsErr r
OffersAsAsked (Err (fault.Field (ReadFault place))) r = ⊥
OffersAsAsked (Err (fault.Answer f)) r = IsErr r

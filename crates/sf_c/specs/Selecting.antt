-- Which of the fields of a target list a cache obeys (RFC 9213 section 2.2).
use Rattle.std.specs.Prelude.{◌≡◌, ◌≢◌, ℕ, List as Seq, [], ◌∷◌, ◌++◌, length}
use Rattle.sf_value.specs.declared.dialect.Dialect.{Dialect}
use Rattle.sf_value.specs.declared.value.Dict.{Dict}
use Rattle.sf_value.specs.declared.value.Field.TheVariants as field
use Rattle.sf_value.specs.declared.value.Kind.TheVariants as kind
use Rattle.sf_value.specs.Grammar.Fields.{SpellsField}
use Rattle.sf_parse.specs.Parsers.{IsOnly}
use Rattle.sf_use.specs.Targeted.{policy}
use Rattle.sf_use.specs.TargetedRules.{rules}
use Rattle.sf_c.specs.declared.cache_rules.RulesFlags.{RulesFlags}
use Rattle.sf_c.specs.declared.span.Span.{Span}
use Rattle.sf_c.specs.declared.status.Status.{Status}
use Rattle.sf_c.specs.declared.status.Status.TheVariants.{Answered, Empty, BadCall, OutOfMemory}
use Rattle.sf_c.specs.declared.cache_control.PolicyFlags.{PolicyFlags}
use Rattle.sf_c.specs.Policies.{SaysPolicy}
use Rattle.sf_c.specs.Rules.{SaysRules}
use Rattle.sf_c.specs.Spans.{IsSpanWithin, span_bytes}

-- a field is ignored if its text spells no Dictionary in the dialect, or one without members
-- (section 2.1); the text of an absent field is empty, which spells one without members
abbrev pub IsIgnored : Dialect → Seq ℕ → Type 0
IsIgnored k t = (d : Dict) → SpellsField k kind.Dict t (field.Dict d) → d.members ≡ []

-- the text spells a Dictionary with a member, of which a struct says this
abbrev pub Offers : Dialect → (Dict → Type 0) → Seq ℕ → Type 0
Offers k Says t = (d : Dict) × IsOnly k kind.Dict t (field.Dict d) × (d.members ≢ []) × Says d

-- the struct has the policy of a Dictionary
abbrev pub HasPolicy : PolicyFlags → Dict → Type 0
HasPolicy p d = SaysPolicy p (policy d)

-- the struct has the directives of a Dictionary
abbrev pub HasRules : RulesFlags → Dict → Type 0
HasRules n d = SaysRules n (rules d)

-- the spans of these fields are within the texts, and each field is ignored
abbrev pub AreIgnored : Dialect → Seq ℕ → Seq Span → Type 0
AreIgnored k texts [] = Unit {0}
AreIgnored k texts (p ∷ ps) =
    IsSpanWithin texts p × IsIgnored k (span_bytes texts p) × AreIgnored k texts ps

-- the field p is reached: each of those before it is ignored
abbrev pub IsReached : Dialect → Seq ℕ → Seq Span → Seq Span → Span → Type 0
IsReached k texts fields before p =
    (others : Seq Span) × (fields ≡ before ++ p ∷ others) × AreIgnored k texts before

-- the result for one field: its directives; or it is ignored; or its span is not within the texts;
-- or an allocation failed for it
abbrev pub Considers : Dialect → Seq ℕ → Span → RulesFlags → RulesFlags → Status → Type 0
Considers k texts p old new Answered =
    IsSpanWithin texts p × Offers k (HasRules new) (span_bytes texts p)
Considers k texts p old new Empty =
    IsSpanWithin texts p × IsIgnored k (span_bytes texts p) × (new ≡ old)
Considers k texts p old new BadCall = (IsSpanWithin texts p → ⊥) × (new ≡ old)
Considers k texts p old new OutOfMemory = IsSpanWithin texts p × (new ≡ old)
Considers k texts p old new status = ⊥

-- what choosing may write to: the index, and a struct
pub record ChoiceOutput (A : Type 0) : Type 0 where
  pub index : ℕ
  pub answer : A

-- the first field that is not ignored, and what the struct says of it; or all are ignored; or the
-- span of the field that is reached is not within the texts; or an allocation failed for it.
-- Everything else is unchanged
abbrev pub Selects : {A : Type 0} → (A → Dict → Type 0) → ChoiceOutput A → ChoiceOutput A
    → Seq ℕ → Seq Span → Dialect → Status → Type 0
Selects Says old new texts fields k Answered =
    (before : Seq Span) × (p : Span)
    × IsReached k texts fields before p
    × (new.index ≡ length before)
    × IsSpanWithin texts p
    × Offers k (Says new.answer) (span_bytes texts p)
Selects Says old new texts fields k Empty = AreIgnored k texts fields × (new ≡ old)
Selects Says old new texts fields k BadCall =
    (before : Seq Span) × (p : Span)
    × IsReached k texts fields before p
    × (IsSpanWithin texts p → ⊥)
    × (new ≡ old)
Selects Says old new texts fields k OutOfMemory =
    (before : Seq Span) × (p : Span)
    × IsReached k texts fields before p
    × IsSpanWithin texts p
    × (new ≡ old)
Selects Says old new texts fields k status = ⊥

-- What the steps of section 4.1 return for a valid field keeps to the ABNF.
use Rattle.std.proofs.Common.{◌≡◌, ℕ, List as Seq, [], ◌∷◌, refl, inl, inr}
use Rattle.sf_value.specs.declared.dialect.Dialect.{Dialect}
use Rattle.sf_value.specs.declared.value.Field.{Field}
use Rattle.sf_value.specs.declared.value.Field.TheVariants as field
use Rattle.sf_value.specs.declared.value.Kind.{Kind}
use Rattle.sf_value.specs.declared.value.Kind.TheVariants as kind
use Rattle.sf_value.specs.Grammar.Valid.{Valid}
use Rattle.sf_value.specs.Grammar.Canonical.{canon}
use Rattle.sf_rfc.specs.Rfc9651.AbnfNotation.{Rule}
use Rattle.sf_rfc.specs.AbnfLaws.{if_sent, field_rule, kind_rule, SerialisedKeepsAbnf}
use Rattle.sf_rfc.specs.SerialisingLaws.{HasNoMembers}
use Rattle.sf_rfc.proofs.AbnfFields.{canon_keeps}
use Rattle.sf_rfc.proofs.SerialisingFields.{serialised_or_not}

-- a rule that holds if there are members
if_members : {X : Type 0} (xs : Seq X) (P : Rule) (t : Seq ℕ) → if_sent xs P t → (xs ≡ [] → ⊥) → P t
if_members [] P t h some = absurd (some refl)
if_members (x ∷ xs) P t h some = h

kind_keeps : (d : Dialect) (kind : Kind) (v : Field) → Valid d kind v → (HasNoMembers v → ⊥)
    → field_rule d v (canon v) → kind_rule d kind (canon v)
kind_keeps d kind.Item (field.Item i) h some k = k
kind_keeps d kind.List (field.List l) h some k = if_members l.members _ _ k some
kind_keeps d kind.Dict (field.Dict m) h some k = if_members m.members _ _ k some
kind_keeps d kind v h some k = elim h [ ]

pub serialised_keeps : SerialisedKeepsAbnf
serialised_keeps d kind v h = elim (serialised_or_not d kind v h) [
  | inl k ↦ inl (canon v, k.0, kind_keeps d kind v h k.1 (canon_keeps d kind v h))
  | inr k ↦ inr k
]

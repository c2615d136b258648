-- What it means that serialising by RFC 9651 and the canonical texts agree.
use Rattle.std.specs.Prelude.{◌≡◌, ◌≢◌, ℕ, ◌%◌, ◌^◌, ◌<◌, ◌≤◌, Bool, true, false, ◌||◌, ◌↔◌, ℤ, pos}
use Rattle.std.specs.Prelude.{◌-ℤ◌, ◌*ℤ◌, nat_abs, List as Seq, [], Some, None, ⊤}
use Rattle.std.specs.List.{list_any}
use Rattle.sf_value.specs.declared.dialect.Dialect.{Dialect}
use Rattle.sf_value.specs.declared.dialect.Dialect.TheVariants.{Rfc8941, Rfc9651}
use Rattle.sf_value.specs.declared.value.Bare.{Bare}
use Rattle.sf_value.specs.declared.value.Bare.TheVariants.{Date, Shown}
use Rattle.sf_value.specs.declared.value.Item.{Item}
use Rattle.sf_value.specs.declared.value.Inner.{Inner}
use Rattle.sf_value.specs.declared.value.Member.{Member}
use Rattle.sf_value.specs.declared.value.Member.TheVariants as member
use Rattle.sf_value.specs.declared.value.Field.{Field}
use Rattle.sf_value.specs.declared.value.Field.TheVariants as field
use Rattle.sf_value.specs.declared.value.Kind.{Kind}
use Rattle.sf_value.specs.Grammar.Valid.{ValidBare, Valid}
use Rattle.sf_value.specs.Grammar.Canonical.{canon_bare, canon_decimal, canon}
use Rattle.sf_rfc.specs.Rfc9651.SerialisingBare.{Fraction, rounded, thousandths, serialise_decimal}
use Rattle.sf_rfc.specs.Rfc9651.SerialisingBare.{serialise_bare}
use Rattle.sf_rfc.specs.Rfc9651.Serialising.{Outcome, NotSerialised, Serialised, Fails}
use Rattle.sf_rfc.specs.Rfc9651.Serialising.{serialise}

-- a valid bare item serialises as its canonical text
abbrev pub BareSerialises : Type 0
BareSerialises =
    (d : Dialect) (x : Bare) → ValidBare d x → serialise_bare d x ≡ Some (canon_bare x)

-- a List or a Dictionary with no members
abbrev pub HasNoMembers : Field → Type 0
HasNoMembers (field.List l) = l.members ≡ []
HasNoMembers (field.Dict m) = m.members ≡ []
HasNoMembers (field.Item i) = ⊥

-- a valid field serialises as its canonical text, unless it has no members
abbrev pub FieldSerialises : Type 0
FieldSerialises =
    (d : Dialect) (kind : Kind) (v : Field) → Valid d kind v → (HasNoMembers v → ⊥)
    → serialise d v ≡ Serialised (canon v)

-- exactly without members a field is not serialised; its canonical text is empty
abbrev pub EmptyIsNotSerialised : Type 0
EmptyIsNotSerialised =
    (d : Dialect) (v : Field)
    → ((serialise d v ≡ NotSerialised) ↔ HasNoMembers v) × (HasNoMembers v → canon v ≡ [])

-- whether there is a Date or a Display String, the types that RFC 8941 doesn't have
abbrev pub is_added : Bare → Bool
is_added (Date z) = true
is_added (Shown s) = true
is_added x = false

abbrev pub added_in_params : Seq (Seq ℕ × Bare) → Bool
added_in_params ps = list_any (λ p. is_added p.1) ps

abbrev pub added_in_item : Item → Bool
added_in_item i = is_added i.bare || added_in_params i.params

abbrev pub added_in_member : Member → Bool
added_in_member (member.Item i) = added_in_item i
added_in_member (member.Inner l) = list_any added_in_item l.items || added_in_params l.params

abbrev pub has_added : Field → Bool
has_added (field.List l) = list_any added_in_member l.members
has_added (field.Dict m) = list_any (λ p. added_in_member p.1) m.members
has_added (field.Item i) = added_in_item i

-- a field with a Date or a Display String fails in RFC 8941; every other has the same outcome in
-- both
abbrev pub DialectsDiffer : Type 0
DialectsDiffer =
    (v : Field)
    → (has_added v ≡ true → serialise Rfc8941 v ≡ Fails)
    × (has_added v ≡ false → serialise Rfc8941 v ≡ serialise Rfc9651 v)

-- a field that is valid in RFC 9651 fails in RFC 8941 exactly if it has a Date or a Display String
abbrev pub AddedFails : Type 0
AddedFails =
    (kind : Kind) (v : Field) → Valid Rfc9651 kind v
    → (serialise Rfc8941 v ≡ Fails) ↔ (has_added v ≡ true)

-- how far a number is from a whole number of thousandths, in thousandths of the denominator
abbrev pub distance : Fraction → ℤ → ℕ
distance x m = nat_abs ((x.numerator *ℤ pos 1000) -ℤ (m *ℤ pos x.denominator))

-- what a number is rounded to is nearest to it, and even if another is as near
abbrev pub RoundsToNearest : Type 0
RoundsToNearest =
    (x : Fraction) (m : ℤ) → 0 < x.denominator
    → (distance x (rounded x) ≤ distance x m)
    × (m ≢ rounded x → distance x (rounded x) ≡ distance x m → nat_abs (rounded x) % 2 ≡ 0)

-- a number that is a whole number of thousandths is rounded to it
abbrev pub ExactIsKept : Type 0
ExactIsKept =
    (x : Fraction) (m : ℤ) → 0 < x.denominator → distance x m ≡ 0 → rounded x ≡ m

-- a number serialises as the canonical text of what it is rounded to, if that is in range, and
-- fails otherwise
abbrev pub RoundedSerialises : Type 0
RoundedSerialises =
    (x : Fraction) → 0 < x.denominator
    → (nat_abs (rounded x) < 10 ^ 15 → serialise_decimal x ≡ Some (canon_decimal (rounded x)))
    × (10 ^ 15 ≤ nat_abs (rounded x) → serialise_decimal x ≡ None)

-- a valid Decimal, read as a number, serialises as its canonical text
abbrev pub DecimalSerialises : Type 0
DecimalSerialises =
    (z : ℤ) → nat_abs z < 10 ^ 15 → serialise_decimal (thousandths z) ≡ Some (canon_decimal z)

-- a text is the output for a structure, or empty if it is not serialised
abbrev pub IsOutput : Outcome → Seq ℕ → Type 0
IsOutput (Serialised t) text = text ≡ t
IsOutput NotSerialised text = text ≡ []
IsOutput Fails text = ⊥

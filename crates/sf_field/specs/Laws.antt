-- The laws of canonical texts. Each is the contract of a function in `src/laws.rt`.
use Rattle.std.specs.Prelude.{◌≡◌, ℕ, ◌^◌, ◌<◌, ◌↔◌, List, [], ◌∷◌, length, Result, Ok, Err, ⊤}
use Rattle.std.specs.Prelude.{Option, Some, None}
use Rattle.sf_value.specs.declared.dialect.Dialect.{Dialect}
use Rattle.sf_value.specs.declared.value.Field.{Field}
use Rattle.sf_value.specs.declared.value.Kind.{Kind}
use Rattle.sf_value.specs.Grammar.Canonical.{canon}
use Rattle.sf_value.specs.Grammar.Fields.{SpellsField}
use Rattle.sf_value.specs.Grammar.Lines.{join}
use Rattle.sf_value.specs.Grammar.Valid.{Valid}
use Rattle.sf_parse.specs.declared.refusal.Refusal.{Refusal}
use Rattle.sf_parse.specs.declared.refusal.Refusal.TheVariants.{OutOfMemory, Syntax, TooLong}
use Rattle.sf_parse.specs.declared.refusal.Refusal.TheVariants.{ReadFault}
use Rattle.sf_parse.specs.Parsers.{IsOnly, Parses}
use Rattle.sf_value.specs.declared.dialect.Dialect.TheVariants.{Rfc9651}
use Rattle.sf_field.specs.Headers.{Headers, ParsesHeaders, set_text}
use Rattle.sf_field.specs.Lines.{ParsesLines}
use Rattle.sf_field.specs.Normal.{NormalisesTo}

-- in each dialect, the canonical text of the value that lines spell, as the only line, spells that
-- value and no other; and its canonical text is itself
abbrev pub CanonSettles : Type 0
CanonSettles =
    (d : Dialect) (kind : Kind) (lines : List (List ℕ)) (v : Field)
    → SpellsField d kind (join lines) v
    → IsOnly d kind (join (canon v ∷ [])) v
    × ((w : Field) → SpellsField d kind (join (canon v ∷ [])) w → canon w ≡ canon v)

-- normalising a text that is the result of normalising returns it again, and nothing else
abbrev pub TwiceIsOnce : Type 0
TwiceIsOnce =
    (kind : Kind) (lines : List (List ℕ)) (c : List ℕ)
    → NormalisesTo kind lines c
    → NormalisesTo kind (c ∷ []) c
    × ((e : List ℕ) → NormalisesTo kind (c ∷ []) e → e ≡ c)

-- lines that are accepted as one kind have equal values exactly if their canonical texts are equal
abbrev pub EqualByText : Type 0
EqualByText =
    (d : Dialect) (kind : Kind) (these those : List (List ℕ)) (v w : Field)
    → SpellsField d kind (join these) v → SpellsField d kind (join those) w
    → (canon v ≡ canon w) ↔ (v ≡ w)

-- canonical texts of one kind are equal exactly if their lines spell one value
abbrev pub NormalIsOne : Type 0
NormalIsOne =
    (kind : Kind) (these those : List (List ℕ)) (c e : List ℕ)
    → (p : NormalisesTo kind these c) (q : NormalisesTo kind those e)
    → (c ≡ e) ↔ (p.value ≡ q.value)

-- the canonical text of a valid value, however the value was built, spells it and no other
abbrev pub BuiltSpells : Type 0
BuiltSpells = (d : Dialect) (kind : Kind) (v : Field) → Valid d kind v → IsOnly d kind (canon v) v

-- the result is this value, or an allocation failed
abbrev pub IsBack : Field → Result Field Refusal → Type 0
IsBack v (Ok w) = w ≡ v
IsBack v (Err OutOfMemory) = ⊤
IsBack v (Err (Syntax place found expected may_end)) = ⊥
IsBack v (Err (TooLong limit)) = ⊥
IsBack v (Err (ReadFault place)) = ⊥

-- parsing the canonical text of a valid value returns the value, or an allocation failed
abbrev pub BuiltIsParsed : Type 0
BuiltIsParsed =
    (d : Dialect) (kind : Kind) (v : Field) → Valid d kind v → (r : Result Field Refusal)
    → Parses d kind (canon v) r → IsBack v r

-- parsing the canonical text of a valid value as the only line returns the value, if the text is
-- shorter than 2^64 bytes, or an allocation failed
abbrev pub BuiltLineIsParsed : Type 0
BuiltLineIsParsed =
    (d : Dialect) (kind : Kind) (v : Field) → Valid d kind v → length (canon v) < 2 ^ 64
    → (r : Result Field Refusal) → ParsesLines d kind (canon v ∷ []) r → IsBack v r

-- reading the field that was set in a header map returns the value, or an allocation failed
abbrev pub IsReadBack : Field → Result (Option Field) Refusal → Type 0
IsReadBack v (Ok None) = ⊥
IsReadBack v (Ok (Some w)) = w ≡ v
IsReadBack v (Err e) = IsBack v (Err e)

-- a field that is set in a header map is read from it again, if it is sent and its text is shorter
-- than 2^64 bytes
abbrev pub SetIsRead : Type 0
SetIsRead =
    (headers : Headers) (name : List ℕ) (kind : Kind) (v : Field)
    → Valid Rfc9651 kind v → 0 < length (canon v) → length (canon v) < 2 ^ 64
    → (r : Result (Option Field) Refusal)
    → ParsesHeaders kind (set_text headers name (canon v)) name r → IsReadBack v r

-- Texts of fields as values of headers.
use Rattle.std.proofs.Common.{◌≡◌, ℕ, zero, suc, ◌^◌, ◌<◌, Bool, true, false, List}
use Rattle.std.proofs.Common.{[], ◌∷◌, length, map, Option, Some, None, Result, Ok, Err, refl}
use Rattle.std.proofs.Common.{ap, ◌∙◌, subst, arith}
use Rattle.std.specs.Cmp.Lexicographic.{bytes_decides}
use Rattle.std.specs.Str.{bytes_eq}
use Rattle.http_header.specs.FieldValue.{FieldValue, IsFieldValue, plain_value}
use Rattle.http_header.specs.Token.{is_value_byte}
use Rattle.http_header.specs.HeaderMap.{ContainsKey, Entry, insert, keys, remove}
use Rattle.http_header.proofs.HeaderMapLemmas.{get_all-insert_same}
use Rattle.sf_value.specs.declared.dialect.Dialect.{Dialect}
use Rattle.sf_value.specs.declared.dialect.Dialect.TheVariants.{Rfc9651}
use Rattle.sf_value.specs.declared.value.Field.{Field}
use Rattle.sf_value.specs.declared.value.Kind.{Kind}
use Rattle.sf_value.specs.Grammar.Words.{Every}
use Rattle.sf_value.specs.Grammar.Canonical.{canon}
use Rattle.sf_value.specs.Grammar.Fields.{SpellsField}
use Rattle.sf_value.specs.Grammar.Valid.{Valid}
use Rattle.sf_value.proofs.TextBytes.{is_text, spelled_text}
use Rattle.sf_parse.specs.declared.refusal.Refusal.{Refusal}
use Rattle.sf_field.specs.Headers.{Headers, ParsesHeaders, lines_under, set_text}
use Rattle.sf_field.specs.Lines.{ParsesLines}
use Rattle.sf_field.specs.Laws.{IsBack, IsReadBack, SetIsRead}
use Rattle.sf_field.proofs.Normals.{built_line_is_parsed}

value_byte : (b : ℕ) → is_text b ≡ true → is_value_byte b ≡ true
value_byte b e = grind arith

value_bytes : (t : List ℕ) → Every is_text t → IsFieldValue t
value_bytes [] h k x l = absurd (let n : ⊥ = omega arith in n)
value_bytes (b ∷ t) h zero x l = value_byte b h.0
value_bytes (b ∷ t) h (suc k) x l = value_bytes t h.1 k x (omega arith)

-- a text that spells a field may be a header's value
pub spelled_value : (d : Dialect) (kind : Kind) (v : Field) (t : List ℕ) → SpellsField d kind t v
    → IsFieldValue t
spelled_value d kind v t h = value_bytes t (spelled_text d kind v t h)

-- the empty text removes the name, any other one is the only value
pub set_none : (m : Headers) (name t : List ℕ) → length t ≡ 0 → set_text m name t ≡ remove m name
set_none m name [] e = refl
set_none m name (b ∷ t) e = absurd (let n : ⊥ = omega arith in n)

there_after : (e : Entry FieldValue) (m : Headers) (name : List ℕ) (value : FieldValue) (t : Bool)
    → bytes_eq e.0 name ≡ t → ContainsKey (insert m name value) name
    → ContainsKey (insert (e ∷ m) name value) name
there_after e m name value true q k = rw q (0, omega arith, (bytes_decides e.0 name).0 q)
there_after e m name value false q k =
    let l : k.0 < length (keys (insert m name value)) = k.1 in
    rw q (suc k.0, omega arith, k.2)

-- what is inserted is there
there : (m : Headers) (name : List ℕ) (value : FieldValue) → ContainsKey (insert m name value) name
there [] name value = (0, omega arith, refl)
there (e ∷ m) name value =
    there_after e m name value (bytes_eq e.0 name) refl (there m name value)

read_back : (headers : Headers) (name : List ℕ) (kind : Kind) (v : Field) (t : List ℕ)
    → t ≡ canon v → Valid Rfc9651 kind v → 0 < length t → length (canon v) < 2 ^ 64
    → (r : Result (Option Field) Refusal) → ParsesHeaders kind (set_text headers name t) name r
    → IsReadBack v r
read_back headers name kind v [] e valid some short r h = absurd (let n : ⊥ = omega arith in n)
read_back headers name kind v (b ∷ t) e valid some short r h = at r h
  where
    line : lines_under (insert headers name (plain_value (b ∷ t))) name ≡ canon v ∷ []
    line =
        ap (λ vs. map (λ x. x.bytes) vs)
        (get_all-insert_same headers name (plain_value (b ∷ t)))
        ∙ ap (λ x. x ∷ []) e

    back : (s : Result Field Refusal)
        → ParsesLines Rfc9651 kind
        (lines_under (insert headers name (plain_value (b ∷ t))) name) s → IsBack v s
    back s p =
        built_line_is_parsed Rfc9651 kind v valid short s
        (subst (λ ls. ParsesLines Rfc9651 kind ls s) line p)

    at : (r : Result (Option Field) Refusal)
        → ParsesHeaders kind (insert headers name (plain_value (b ∷ t))) name r → IsReadBack v r
    at (Ok None) p = p (there headers name (plain_value (b ∷ t)))
    at (Ok (Some w)) p = back (Ok w) p.1
    at (Err e) p = back (Err e) p.1

pub set_is_read : SetIsRead
set_is_read headers name kind v valid some short r h =
    read_back headers name kind v (canon v) refl valid some short r h

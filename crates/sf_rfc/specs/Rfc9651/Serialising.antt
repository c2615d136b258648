-- Serialising fields: sections 4.1 to 4.1.3.
use Rattle.std.specs.List.{list_all}
use Rattle.std.specs.Prelude.{ℕ, Bool, true, false, ◌&&◌, List as Seq, [], ◌∷◌, ◌++◌, Option, Some}
use Rattle.std.specs.Prelude.{None}
use Rattle.sf_value.specs.declared.dialect.Dialect.{Dialect}
use Rattle.sf_value.specs.declared.value.Bare.{Bare}
use Rattle.sf_value.specs.declared.value.Bare.TheVariants.{Boolean}
use Rattle.sf_value.specs.declared.value.Item.{Item}
use Rattle.sf_value.specs.declared.value.Inner.{Inner}
use Rattle.sf_value.specs.declared.value.Member.{Member}
use Rattle.sf_value.specs.declared.value.Member.TheVariants as member
use Rattle.sf_value.specs.declared.value.Field.{Field}
use Rattle.sf_value.specs.declared.value.Field.TheVariants as field
use Rattle.sf_rfc.specs.Rfc9651.Words.{and_then, first_is, only_if}
use Rattle.sf_rfc.specs.Rfc9651.Alphabets.{is_ascii, can_start_key, can_be_in_key}
use Rattle.sf_rfc.specs.Rfc9651.SerialisingBare.{serialise_bare}

-- whether a value is Boolean true
abbrev pub is_true : Bare → Bool
is_true (Boolean b) = b
is_true x = false

-- s if any of the list remain, and otherwise nothing
abbrev pub if_more : {X : Type 0} → Seq X → Seq ℕ → Seq ℕ
if_more [] s = []
if_more (x ∷ xs) s = s

-- 4.1.1.3, Serialising a Key

-- 1: what is not all ASCII fails
-- 2: a character that is not in lcalpha, DIGIT, "_", "-", "." or "*" fails
-- 3: a first character that is not lcalpha or "*" fails
-- 4, 5: from the empty string on, the key
-- 6: output
abbrev pub serialise_key : Seq ℕ → Option (Seq ℕ)
serialise_key k = only_if
    (list_all is_ascii k && (list_all can_be_in_key k && first_is can_start_key k)) k

-- 4.1.1.2, Serialising Parameters

-- 2.3: nothing for Boolean true; for any other value,
-- 2.3.1: "="
-- 2.3.2: the value, serialised as a Bare Item
abbrev pub serialise_value : Dialect → Bare → Option (Seq ℕ)
serialise_value d x = elim (is_true x) [
  | true ↦ Some []
  | false ↦ and_then (serialise_bare d x) (λ s. Some (61 ∷ s))
]

-- 2: the rounds, with output as it is before each
abbrev pub serialise_params_loop : Dialect → Seq ℕ → Seq (Seq ℕ × Bare) → Option (Seq ℕ)
-- 3: output
serialise_params_loop d output [] = Some output
-- 2.1: ";"
-- 2.2: the key
-- 2.3: the value
serialise_params_loop d output (p ∷ ps) = and_then (serialise_key p.0) (λ k.
    and_then (serialise_value d p.1) (λ v. serialise_params_loop d (output ++ 59 ∷ (k ++ v)) ps))

-- 1: from the empty string on
abbrev pub serialise_params : Dialect → Seq (Seq ℕ × Bare) → Option (Seq ℕ)
serialise_params d ps = serialise_params_loop d [] ps

-- 4.1.3, Serialising an Item

-- 1, 2: from the empty string on, the bare item
-- 3: the parameters
-- 4: output
abbrev pub serialise_item : Dialect → Item → Option (Seq ℕ)
serialise_item d i = and_then (serialise_bare d i.bare) (λ s.
    and_then (serialise_params d i.params) (λ p. Some (s ++ p)))

-- 4.1.1.1, Serialising an Inner List

-- 2: the rounds, with output as it is before each
abbrev pub serialise_items_loop : Dialect → Seq ℕ → Seq Item → Option (Seq ℕ)
serialise_items_loop d output [] = Some output
-- 2.1: the Item
-- 2.2: one SP if more remain
serialise_items_loop d output (i ∷ is) = and_then (serialise_item d i) (λ s.
    serialise_items_loop d (output ++ (s ++ if_more is (32 ∷ []))) is)

-- 1, 2: from "(" on, the Items
-- 3: ")"
-- 4: the parameters of the list
-- 5: output
abbrev pub serialise_inner : Dialect → Inner → Option (Seq ℕ)
serialise_inner d l = and_then (serialise_items_loop d (40 ∷ []) l.items) (λ s.
    and_then (serialise_params d l.params) (λ p. Some ((s ++ 41 ∷ []) ++ p)))

-- 4.1.1, Serialising a List

abbrev pub serialise_member : Dialect → Member → Option (Seq ℕ)
-- 2.1: an array by 4.1.1.1, as an Inner List
serialise_member d (member.Inner l) = serialise_inner d l
-- 2.2: anything else by 4.1.3, as an Item
serialise_member d (member.Item i) = serialise_item d i

-- 2: the rounds, with output as it is before each
abbrev pub serialise_list_loop : Dialect → Seq ℕ → Seq Member → Option (Seq ℕ)
-- 3: output
serialise_list_loop d output [] = Some output
-- 2.1, 2.2: the member
-- 2.3: if more remain, 2.3.1: ","; 2.3.2: one SP
serialise_list_loop d output (m ∷ ms) = and_then (serialise_member d m) (λ s.
    serialise_list_loop d (output ++ (s ++ if_more ms (44 ∷ 32 ∷ []))) ms)

-- 1: from the empty string on
abbrev pub serialise_list : Dialect → Seq Member → Option (Seq ℕ)
serialise_list d ms = serialise_list_loop d [] ms

-- 4.1.2, Serialising a Dictionary

abbrev pub serialise_behind : Dialect → Member → Option (Seq ℕ)
-- 2.3: an array is not Boolean true: 2.3.1: "="; 2.3.2: by 4.1.1.1, as an Inner List
serialise_behind d (member.Inner l) = and_then (serialise_inner d l) (λ s. Some (61 ∷ s))
-- 2.2: for Boolean true, 2.2.1: the parameters
-- 2.3: otherwise, 2.3.1: "="; 2.3.3: by 4.1.3, as an Item
serialise_behind d (member.Item i) = elim (is_true i.bare) [
  | true ↦ serialise_params d i.params
  | false ↦ and_then (serialise_item d i) (λ s. Some (61 ∷ s))
]

-- 2: the rounds, with output as it is before each
abbrev pub serialise_dictionary_loop : Dialect → Seq ℕ → Seq (Seq ℕ × Member) → Option (Seq ℕ)
-- 3: output
serialise_dictionary_loop d output [] = Some output
-- 2.1: the key
-- 2.2, 2.3: what comes after it
-- 2.4: if more remain, 2.4.1: ","; 2.4.2: one SP
serialise_dictionary_loop d output (p ∷ ps) = and_then (serialise_key p.0) (λ k.
    and_then (serialise_behind d p.1) (λ s.
    serialise_dictionary_loop d (output ++ (k ++ (s ++ if_more ps (44 ∷ 32 ∷ [])))) ps))

-- 1: from the empty string on
abbrev pub serialise_dictionary : Dialect → Seq (Seq ℕ × Member) → Option (Seq ℕ)
serialise_dictionary d ps = serialise_dictionary_loop d [] ps

-- 4.1, Serialising Structured Fields

-- what the algorithm does with a structure
pub data Outcome : Type 0 where
  -- 1: "do not serialize the field at all (i.e., omit both the field-name and field-value)"
  NotSerialised : Outcome
  -- 6: output_string converted into an array of bytes, using ASCII encoding
  Serialised : Seq ℕ → Outcome
  -- serialisation fails
  Fails : Outcome

-- 6: a text is a list of numbers here, which are the bytes of its ASCII
abbrev pub with_output : Option (Seq ℕ) → Outcome
with_output (Some output) = Serialised output
with_output None = Fails

-- 1: a List or a Dictionary that is empty is not serialised
abbrev pub if_any : {X : Type 0} → Seq X → Outcome → Outcome
if_any [] outcome = NotSerialised
if_any (x ∷ xs) outcome = outcome

-- 5: that anything else fails has no case here
abbrev pub serialise : Dialect → Field → Outcome
-- 1, 2: a List by 4.1.1
serialise d (field.List l) = if_any l.members (with_output (serialise_list d l.members))
-- 1, 3: a Dictionary by 4.1.2
serialise d (field.Dict m) = if_any m.members (with_output (serialise_dictionary d m.members))
-- 4: an Item by 4.1.3
serialise d (field.Item i) = with_output (serialise_item d i)

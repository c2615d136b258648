-- Parsing fields: RFC 9651 sections 4.2 to 4.2.3, and 4.2.3.2 and 4.2.3.3.
use Rattle.std.specs.List.{list_all}
use Rattle.std.specs.Prelude.{ℕ, zero, suc, true, false, ◌==◌, List as Seq, [], ◌∷◌, ◌++◌, ◌||◌, drop}
use Rattle.std.specs.Prelude.{length, Option, Some, None}
use Rattle.sf_value.specs.declared.dialect.Dialect.{Dialect}
use Rattle.sf_value.specs.declared.value.Bare.{Bare}
use Rattle.sf_value.specs.declared.value.Bare.TheVariants.{Boolean}
use Rattle.sf_value.specs.declared.value.Item.{Item}
use Rattle.sf_value.specs.declared.value.Inner.{Inner}
use Rattle.sf_value.specs.declared.value.Member.{Member}
use Rattle.sf_value.specs.declared.value.Member.TheVariants as member
use Rattle.sf_value.specs.declared.value.Field.{Field}
use Rattle.sf_value.specs.declared.value.Field.TheVariants as field
use Rattle.sf_value.specs.declared.value.Kind.{Kind}
use Rattle.sf_value.specs.declared.value.Kind.TheVariants as kind
use Rattle.sf_rfc.specs.Rfc9651.Words.{Parse, and_then, first_is, discard, set_key}
use Rattle.sf_rfc.specs.Rfc9651.Alphabets.{is_ascii, is_SP, is_OWS, can_start_key, can_be_in_key}
use Rattle.sf_rfc.specs.Rfc9651.ParsingBare.{parse_bare}

-- an ordered map
abbrev pub Map : Type 0 → Type 0
Map V = Seq (Seq ℕ × V)

-- 4.2.3.3, Parsing a Key

-- the loop of step 3, with output_string
abbrev pub key_loop : Seq ℕ → Parse (Seq ℕ)
-- 4: return output_string
key_loop output [] = Some (output, [])
-- 3.1: a first character not in lcalpha, DIGIT, "_", "-", "." or "*" returns output_string
-- 3.2: consume char; 3.3: append it
key_loop output (char ∷ t) = elim (can_be_in_key char) [
  | false ↦ Some (output, char ∷ t)
  | true ↦ key_loop (output ++ char ∷ []) t
]

-- 1: a first character that is no lcalpha or "*" fails; 2: output_string is empty; 3, 4
abbrev pub parse_key : Parse (Seq ℕ)
parse_key t = elim (first_is can_start_key t) [ false ↦ None | true ↦ key_loop [] t ]

-- 4.2.3.2, Parsing Parameters

-- 2.5: param_value is Boolean true; 2.6: at "=", 2.6.1: consume it; 2.6.2: parse a bare item
abbrev pub param_value : Dialect → Parse Bare
param_value d [] = Some (Boolean true, [])
param_value d (c ∷ t) = elim (c == 61) [
  | true ↦ parse_bare d t
  | false ↦ Some (Boolean true, c ∷ t)
]

-- the loop of step 2, in at most this many rounds
abbrev pub params_loop : Dialect → ℕ → Map Bare → Parse (Map Bare)
params_loop d zero params t = None
-- 3: return parameters
params_loop d (suc n) params [] = Some (params, [])
-- 2.1: a first character that is no ";" exits the loop; 2.2: consume ";"
-- 2.3: discard any leading SP; 2.4: param_key; 2.5, 2.6: param_value
-- 2.7: overwrite the value of a key that is there; 2.8: otherwise append
params_loop d (suc n) params (c ∷ t) = elim (c == 59) [
  | false ↦ Some (params, c ∷ t)
  | true ↦ and_then (parse_key (discard is_SP t)) (λ (k, u).
      and_then (param_value d u) (λ (x, r). params_loop d n (set_key params k x) r))
]

-- 1: parameters is empty; 2, 3
abbrev pub parse_params : Dialect → Parse (Map Bare)
parse_params d t = params_loop d (suc (length t)) [] t

-- 4.2.3, Parsing an Item

-- 1: bare_item; 2: parameters; 3: return the tuple
abbrev pub parse_item : Dialect → Parse Item
parse_item d t = and_then (parse_bare d t) (λ (x, u).
    and_then (parse_params d u) (λ (ps, r). Some (record { bare = x; params = ps }, r)))

-- 4.2.1.2, Parsing an Inner List

-- 3.2.2: parameters; 3.2.3: return the tuple (inner_list, parameters)
abbrev pub end_inner : Dialect → Seq Item → Parse Inner
end_inner d items t = and_then (parse_params d t) (λ (ps, r).
    Some (record { items = items; params = ps }, r))

-- the loop of step 3 with inner_list, in at most this many rounds
abbrev pub inner_loop : Dialect → ℕ → Seq Item → Parse Inner
inner_loop d zero items t = None
-- 4: the end was not found
inner_loop d (suc n) items [] = None
-- 3.1: discard any leading SP
-- 3.2: at ")", 3.2.1: consume it; 3.2.2, 3.2.3
-- 3.3: item; 3.4: append it; 3.5: a first character that is no SP or ")" fails
inner_loop d (suc n) items (c ∷ t) = elim (first_is (λ x. x == 41) (discard is_SP (c ∷ t))) [
  | true ↦ end_inner d items (drop 1 (discard is_SP (c ∷ t)))
  | false ↦ and_then (parse_item d (discard is_SP (c ∷ t))) (λ (i, u).
      elim (first_is (λ x. x == 32 || x == 41) u) [
        | false ↦ None
        | true ↦ inner_loop d n (items ++ i ∷ []) u
      ])
]

-- 1: a first character that is no "(" fails, otherwise it is consumed; 2: inner_list is empty; 3, 4
abbrev pub parse_inner : Dialect → Parse Inner
parse_inner d [] = None
parse_inner d (c ∷ t) = elim (c == 40) [
  | false ↦ None
  | true ↦ inner_loop d (suc (length t)) [] t
]

-- 4.2.1.1, Parsing an Item or Inner List

-- 1: at "(" an Inner List; 2: otherwise an Item
abbrev pub parse_member : Dialect → Parse Member
parse_member d t = elim (first_is (λ c. c == 40) t) [
  | true ↦ and_then (parse_inner d t) (λ (l, u). Some (member.Inner l, u))
  | false ↦ and_then (parse_item d t) (λ (i, u). Some (member.Item i, u))
]

-- 4.2.1, Parsing a List

-- the loop of step 2 with members, in at most this many rounds
abbrev pub list_loop : Dialect → ℕ → Seq Member → Parse (Seq Member)
list_loop d zero members t = None
-- 3: return members (at the first round there is none; at a later one 2.6 has failed before)
list_loop d (suc n) members [] = Some (members, [])
-- 2.1: append an Item or Inner List to members; 2.2: discard any leading OWS
-- 2.3: at the end of input_string return members
-- 2.4: consume a character, which is "," or fails; 2.5: discard any leading OWS
-- 2.6: a trailing comma fails
list_loop d (suc n) members (c ∷ t) = and_then (parse_member d (c ∷ t)) (λ (m, u).
    elim (discard is_OWS u) [
      | [] ↦ Some (members ++ m ∷ [], [])
      | x ∷ r ↦ elim (x == 44) [
        | false ↦ None
        | true ↦ elim (discard is_OWS r) [
          | [] ↦ None
          | y ∷ w ↦ list_loop d n (members ++ m ∷ []) (y ∷ w)
        ]
      ]
    ])

-- 1: members is empty; 2, 3
abbrev pub parse_list : Dialect → Parse (Seq Member)
parse_list d t = list_loop d (suc (length t)) [] t

-- 4.2.2, Parsing a Dictionary

-- 2.3.1: value is Boolean true; 2.3.2: parameters; 2.3.3: member is the tuple
abbrev pub flag_member : Dialect → Parse Member
flag_member d t = and_then (parse_params d t) (λ (ps, u).
    Some (member.Item (record { bare = Boolean true; params = ps }), u))

-- 2.2: at "=", 2.2.1: consume it; 2.2.2: member is an Item or Inner List; 2.3: otherwise a flag
abbrev pub entry_member : Dialect → Parse Member
entry_member d [] = flag_member d []
entry_member d (c ∷ t) = elim (c == 61) [
  | true ↦ parse_member d t
  | false ↦ flag_member d (c ∷ t)
]

-- the loop of step 2 with dictionary, in at most this many rounds
abbrev pub dictionary_loop : Dialect → ℕ → Map Member → Parse (Map Member)
dictionary_loop d zero dictionary t = None
-- 3: return dictionary (as for a List)
dictionary_loop d (suc n) dictionary [] = Some (dictionary, [])
-- 2.1: this_key; 2.2, 2.3: member
-- 2.4: overwrite the value of a key that is there; 2.5: otherwise append
-- 2.6: discard any leading OWS; 2.7: at the end of input_string return dictionary
-- 2.8: consume a character, which is "," or fails; 2.9: discard any leading OWS
-- 2.10: a trailing comma fails
dictionary_loop d (suc n) dictionary (c ∷ t) = and_then (parse_key (c ∷ t)) (λ (k, s).
    and_then (entry_member d s) (λ (m, u).
    elim (discard is_OWS u) [
      | [] ↦ Some (set_key dictionary k m, [])
      | x ∷ r ↦ elim (x == 44) [
        | false ↦ None
        | true ↦ elim (discard is_OWS r) [
          | [] ↦ None
          | y ∷ w ↦ dictionary_loop d n (set_key dictionary k m) (y ∷ w)
        ]
      ]
    ]))

-- 1: dictionary is empty; 2, 3
abbrev pub parse_dictionary : Dialect → Parse (Map Member)
parse_dictionary d t = dictionary_loop d (suc (length t)) [] t

-- 4.2, Parsing Structured Fields

-- the output by field_type
abbrev pub parse_type : Dialect → Kind → Parse Field
-- 3: "list"
parse_type d kind.List t = and_then (parse_list d t) (λ (ms, u).
    Some (field.List (record { members = ms }), u))
-- 4: "dictionary"
parse_type d kind.Dict t = and_then (parse_dictionary d t) (λ (ps, u).
    Some (field.Dict (record { members = ps }), u))
-- 5: "item"
parse_type d kind.Item t = and_then (parse_item d t) (λ (i, u). Some (field.Item i, u))

-- 6: discard any leading SP; 7: what is left then fails; 8: otherwise return output
abbrev pub parse_end : Field × Seq ℕ → Option Field
parse_end p = elim (discard is_SP p.1) [ [] ↦ Some p.0 | c ∷ t ↦ None ]

-- 1: bytes that are no ASCII string fail; 2: discard any leading SP; 3 to 5; 6 to 8
abbrev pub parse_field : Dialect → Kind → Seq ℕ → Option Field
parse_field d kind t = elim (list_all is_ascii t) [
  | false ↦ None
  | true ↦ and_then (parse_type d kind (discard is_SP t)) parse_end
]

-- the further field lines, each after a comma and SP
abbrev pub combine_more : Seq (Seq ℕ) → Seq ℕ
combine_more [] = []
combine_more (m ∷ ms) = 44 ∷ 32 ∷ (m ++ combine_more ms)

-- all field lines combined into one value (4.2, before the steps; RFC 9110 section 5.3)
abbrev pub combine : Seq (Seq ℕ) → Seq ℕ
combine [] = []
combine (l ∷ ls) = l ++ combine_more ls

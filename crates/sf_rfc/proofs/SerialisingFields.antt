-- Serialising bare items, parameters, Items, Inner Lists, Lists and Dictionaries.
use Rattle.std.proofs.Common.{◌≡◌, ℕ, true, false, List as Seq, [], ◌∷◌, ◌++◌, Option, Some}
use Rattle.std.proofs.Common.{None, refl, inl, inr, ◌⊎◌, ◌↔◌, sym, subst, ap, ◌∙◌, append_assoc, append-nil}
use Rattle.std.specs.Prelude.{IfOk, Result, Ok, Err}
use Rattle.sf_value.specs.declared.dialect.Dialect.{Dialect}
use Rattle.sf_value.specs.declared.dialect.Dialect.TheVariants.{Rfc8941, Rfc9651}
use Rattle.sf_value.specs.declared.value.Bare.{Bare}
use Rattle.sf_value.specs.declared.value.Bare.TheVariants.{Integer, Decimal, Text, Token, Blob}
use Rattle.sf_value.specs.declared.value.Bare.TheVariants.{Boolean, Date, Shown}
use Rattle.sf_value.specs.declared.value.Item.{Item}
use Rattle.sf_value.specs.declared.value.Inner.{Inner}
use Rattle.sf_value.specs.declared.value.Member.{Member}
use Rattle.sf_value.specs.declared.value.Member.TheVariants as member
use Rattle.sf_value.specs.declared.value.Field.{Field}
use Rattle.sf_value.specs.declared.value.Field.TheVariants as field
use Rattle.sf_value.specs.declared.value.Kind.{Kind}
use Rattle.sf_value.specs.declared.value.Kind.TheVariants as kind
use Rattle.sf_value.specs.Grammar.Fields.{kind_of}
use Rattle.sf_value.specs.Grammar.Words.{Each}
use Rattle.sf_value.specs.Grammar.Pairs.{Pairs}
use Rattle.sf_value.specs.Grammar.Tokens.{IsKey}
use Rattle.sf_value.specs.Grammar.Valid.{ValidBare, ValidParams, ValidItem, ValidInner, ValidMember}
use Rattle.sf_value.specs.Grammar.Valid.{Valid}
use Rattle.sf_value.specs.Grammar.Canonical.{canon_bare, canon_value, canon_params, canon_item}
use Rattle.sf_value.specs.Grammar.Canonical.{canon_items, canon_inner, canon_member, canon_flag}
use Rattle.sf_value.specs.Grammar.Canonical.{canon_behind, canon_entry, canon_series, canon}
use Rattle.sf_value.specs.Grammar.Dialects.{is_rfc9651}
use Rattle.sf_rfc.specs.Rfc9651.SerialisingBare.{serialise_date, serialise_shown, serialise_added}
use Rattle.sf_rfc.specs.Rfc9651.SerialisingBare.{serialise_bare}
use Rattle.sf_rfc.specs.Rfc9651.Serialising.{serialise_value, serialise_params_loop}
use Rattle.sf_rfc.specs.Rfc9651.Serialising.{serialise_params, serialise_item, serialise_items_loop}
use Rattle.sf_rfc.specs.Rfc9651.Serialising.{serialise_inner, serialise_member, serialise_list_loop}
use Rattle.sf_rfc.specs.Rfc9651.Serialising.{serialise_behind, serialise_dictionary_loop, serialise}
use Rattle.sf_rfc.specs.Rfc9651.Serialising.{serialise_list, serialise_dictionary, if_any}
use Rattle.sf_rfc.specs.Rfc9651.Serialising.{with_output, NotSerialised, Serialised}
use Rattle.sf_rfc.specs.SerialisingLaws.{HasNoMembers, IsOutput}
use Rattle.sf_rfc.proofs.SerialisingWords.{key_serialised, token_serialised, string_serialised}
use Rattle.sf_rfc.proofs.SerialisingNumbers.{integer_serialised, date_serialised}
use Rattle.sf_rfc.proofs.Rounding.{decimal_serialised}
use Rattle.sf_rfc.proofs.SerialisingBase64.{blob_serialised}
use Rattle.sf_rfc.proofs.SerialisingDisplay.{shown_serialised}

-- a Date or a Display String is serialised in RFC 9651
added_kept : (d : Dialect) (o : Option (Seq ℕ)) → is_rfc9651 d ≡ true → serialise_added d o ≡ o
added_kept Rfc8941 o h = absurd (let k : false ≡ true = h in cc)
added_kept Rfc9651 o h = refl

module _ (d : Dialect) where
  pub bare_serialised : (x : Bare) → ValidBare d x → serialise_bare d x ≡ Some (canon_bare x)
  bare_serialised (Integer z) h = integer_serialised z h
  bare_serialised (Decimal z) h = decimal_serialised z h
  bare_serialised (Text s) h = string_serialised s h
  bare_serialised (Token s) h = token_serialised s h
  bare_serialised (Blob s) h = blob_serialised s h
  bare_serialised (Boolean true) h = refl
  bare_serialised (Boolean false) h = refl
  bare_serialised (Date z) h = added_kept d (serialise_date z) h.0 ∙ date_serialised z h.1
  bare_serialised (Shown s) h =
      added_kept d (serialise_shown s) h.0 ∙ shown_serialised s h.1 h.2

  value_serialised : (x : Bare) → ValidBare d x → serialise_value d x ≡ Some (canon_value x)
  value_serialised (Boolean true) h = refl
  value_serialised (Boolean false) h = refl
  value_serialised x h = rw (bare_serialised x h) refl

  params_loop : (output : Seq ℕ) (ps : Pairs Bare) → Each (λ p. IsKey p.0 × ValidBare d p.1) ps
      → serialise_params_loop d output ps ≡ Some (output ++ canon_params ps)
  params_loop output [] h = ap Some (sym (append-nil output))
  params_loop output (p ∷ ps) h =
      let k = p.0 in
      let v = canon_value p.1 in
      rw (key_serialised p.0 h.0.0, value_serialised p.1 h.0.1)
      (params_loop (output ++ 59 ∷ (k ++ v)) ps h.1
      ∙ ap Some (append_assoc output (59 ∷ (k ++ v)) (canon_params ps)
      ∙ ap (λ t. output ++ 59 ∷ t) (append_assoc k v (canon_params ps))))

  params_serialised : (ps : Pairs Bare) → ValidParams d ps
      → serialise_params d ps ≡ Some (canon_params ps)
  params_serialised ps h = params_loop [] ps h.0

  item_serialised : (i : Item) → ValidItem d i → serialise_item d i ≡ Some (canon_item i)
  item_serialised i h = rw (bare_serialised i.bare h.0, params_serialised i.params h.1) refl

  items_loop : (output : Seq ℕ) (is : Seq Item) → Each (ValidItem d) is
      → serialise_items_loop d output is ≡ Some (output ++ canon_items is)
  items_loop output [] h = ap Some (sym (append-nil output))
  items_loop output (i ∷ []) h = rw (item_serialised i h.0) refl
  items_loop output (i ∷ j ∷ is) h =
      let s = canon_item i in
      rw (item_serialised i h.0)
      (items_loop (output ++ (s ++ 32 ∷ [])) (j ∷ is) h.1
      ∙ ap Some (append_assoc output (s ++ 32 ∷ []) (canon_items (j ∷ is))
      ∙ ap (λ t. output ++ t) (append_assoc s (32 ∷ []) (canon_items (j ∷ is)))))

  inner_serialised : (l : Inner) → ValidInner d l → serialise_inner d l ≡ Some (canon_inner l)
  inner_serialised l h =
      rw (items_loop (40 ∷ []) l.items h.0, params_serialised l.params h.1)
      (ap (λ t. Some (40 ∷ t))
      (append_assoc (canon_items l.items) (41 ∷ []) (canon_params l.params)))

  member_serialised : (m : Member) → ValidMember d m → serialise_member d m ≡ Some (canon_member m)
  member_serialised (member.Item i) h = item_serialised i h
  member_serialised (member.Inner l) h = inner_serialised l h

  list_loop : (output : Seq ℕ) (ms : Seq Member) → Each (ValidMember d) ms
      → serialise_list_loop d output ms ≡ Some (output ++ canon_series canon_member ms)
  list_loop output [] h = ap Some (sym (append-nil output))
  list_loop output (m ∷ []) h = rw (member_serialised m h.0) refl
  list_loop output (m ∷ n ∷ ms) h =
      let s = canon_member m in
      let suffix = canon_series canon_member (n ∷ ms) in
      rw (member_serialised m h.0)
      (list_loop (output ++ (s ++ 44 ∷ 32 ∷ [])) (n ∷ ms) h.1
      ∙ ap Some (append_assoc output (s ++ 44 ∷ 32 ∷ []) suffix
      ∙ ap (λ t. output ++ t) (append_assoc s (44 ∷ 32 ∷ []) suffix)))

  flag_serialised : (x : Bare) (ps : Pairs Bare) → ValidBare d x → ValidParams d ps
      → serialise_behind d (member.Item (record { bare = x; params = ps })) ≡ Some (canon_flag x ps)
  flag_serialised (Boolean true) ps h k = params_serialised ps k
  flag_serialised (Boolean false) ps h k = rw (params_serialised ps k) refl
  flag_serialised x ps h k = rw (bare_serialised x h, params_serialised ps k) refl

  after_serialised : (m : Member) → ValidMember d m → serialise_behind d m ≡ Some (canon_behind m)
  after_serialised (member.Item i) h = flag_serialised i.bare i.params h.0 h.1
  after_serialised (member.Inner l) h = rw (inner_serialised l h) refl

  dictionary_loop : (output : Seq ℕ) (ps : Pairs Member)
      → Each (λ p. IsKey p.0 × ValidMember d p.1) ps
      → serialise_dictionary_loop d output ps ≡ Some (output ++ canon_series canon_entry ps)
  dictionary_loop output [] h = ap Some (sym (append-nil output))
  dictionary_loop output (p ∷ []) h =
      rw (key_serialised p.0 h.0.0, after_serialised p.1 h.0.1)
      (ap (λ t. Some (output ++ t)) (sym (append_assoc p.0 (canon_behind p.1) [])))
  dictionary_loop output (p ∷ q ∷ ps) h =
      let k = p.0 in
      let s = canon_behind p.1 in
      let suffix = canon_series canon_entry (q ∷ ps) in
      rw (key_serialised p.0 h.0.0, after_serialised p.1 h.0.1)
      (dictionary_loop (output ++ (k ++ (s ++ 44 ∷ 32 ∷ []))) (q ∷ ps) h.1
      ∙ ap Some (append_assoc output (k ++ (s ++ 44 ∷ 32 ∷ [])) suffix
      ∙ ap (λ t. output ++ t) (append_assoc k (s ++ 44 ∷ 32 ∷ []) suffix
      ∙ ap (λ t. k ++ t) (append_assoc s (44 ∷ 32 ∷ []) suffix)
      ∙ sym (append_assoc k s (44 ∷ 32 ∷ suffix)))))

  list_field : (ms : Seq Member) → Each (ValidMember d) ms → (ms ≡ [] → ⊥)
      → if_any ms (with_output (serialise_list d ms)) ≡ Serialised (canon_series canon_member ms)
  list_field [] h some = absurd (some refl)
  list_field (m ∷ ms) h some = ap with_output (list_loop [] (m ∷ ms) h)

  dictionary_field : (ps : Pairs Member) → Each (λ p. IsKey p.0 × ValidMember d p.1) ps
      → (ps ≡ [] → ⊥)
      → if_any ps (with_output (serialise_dictionary d ps))
      ≡ Serialised (canon_series canon_entry ps)
  dictionary_field [] h some = absurd (some refl)
  dictionary_field (p ∷ ps) h some = ap with_output (dictionary_loop [] (p ∷ ps) h)

  -- a valid field with members serialises as its canonical text
  pub field_serialised : (kind : Kind) (v : Field) → Valid d kind v → (HasNoMembers v → ⊥)
      → serialise d v ≡ Serialised (canon v)
  field_serialised kind.Item (field.Item i) h some = ap with_output (item_serialised i h)
  field_serialised kind.List (field.List l) h some = list_field l.members h some
  field_serialised kind.Dict (field.Dict m) h some = dictionary_field m.members h.0 some
  field_serialised kind v h some = elim h [ ]

  -- and one without members is not serialised
  output_is_none : (o : Option (Seq ℕ)) (P : Type 0) → with_output o ≡ NotSerialised → P
  output_is_none None P e = absurd cc
  output_is_none (Some s) P e = absurd cc

  none_if_empty : {X : Type 0} (xs : Seq X) (o : Option (Seq ℕ))
      → (if_any xs (with_output o) ≡ NotSerialised) ↔ (xs ≡ [])
  none_if_empty [] o = ((λ e. refl), (λ e. refl))
  none_if_empty (x ∷ xs) o = ((λ e. output_is_none o _ e), (λ e. absurd cc))

  pub empty_not_serialised : (v : Field)
      → ((serialise d v ≡ NotSerialised) ↔ HasNoMembers v) × (HasNoMembers v → canon v ≡ [])
  empty_not_serialised (field.List l) =
      (none_if_empty l.members (serialise_list d l.members), (λ e. ap (canon_series canon_member) e))
  empty_not_serialised (field.Dict m) =
      (none_if_empty m.members (serialise_dictionary d m.members), (λ e. ap (canon_series canon_entry) e))
  empty_not_serialised (field.Item i) = (
    ((λ e. output_is_none (serialise_item d i) _ e), (λ h. absurd h)),
    (λ h. absurd h),
  )

  no_members : {X : Type 0} (xs : Seq X) → (xs ≡ []) ⊎ (xs ≡ [] → ⊥)
  no_members [] = inl refl
  no_members (x ∷ xs) = inr (λ e. absurd cc)

  has_no_members : (v : Field) → HasNoMembers v ⊎ (HasNoMembers v → ⊥)
  has_no_members (field.List l) = no_members l.members
  has_no_members (field.Dict m) = no_members m.members
  has_no_members (field.Item i) = inr (λ h. absurd h)

  -- a valid field has an outcome
  pub serialised_or_not : (kind : Kind) (v : Field) → Valid d kind v
      → ((serialise d v ≡ Serialised (canon v)) × (HasNoMembers v → ⊥))
      ⊎ ((serialise d v ≡ NotSerialised) × HasNoMembers v)
  serialised_or_not kind v h = elim (has_no_members v) [
    | inl k ↦ inr ((empty_not_serialised v).0.1 k, k)
    | inr k ↦ inl (field_serialised kind v h k, k)
  ]

-- the canonical text of a valid field is the output
pub output_is : (v : Field) (kind : Kind) (text : Seq ℕ) → Valid Rfc9651 kind v → text ≡ canon v
    → IsOutput (serialise Rfc9651 v) text
output_is v kind text h e = elim (serialised_or_not Rfc9651 kind v h) [
  | inl k ↦ subst (λ o. IsOutput o text) (sym k.0) e
  | inr k ↦ subst (λ o. IsOutput o text) (sym k.0) (e ∙ (empty_not_serialised Rfc9651 v).1 k.1)
]

pub outputs_are : {V E : Type 0} (v : Field) (r : Result V E) (items : V → Seq ℕ)
    → IfOk r (λ text. items text ≡ canon v) → IfOk r (λ text. Valid Rfc9651 (kind_of v) v)
    → IfOk r (λ text. IsOutput (serialise Rfc9651 v) (items text))
outputs_are v (Ok text) items e h = output_is v (kind_of v) (items text) h e
outputs_are v (Err x) items e h = h

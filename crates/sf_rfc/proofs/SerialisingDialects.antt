-- Serialising in the two dialects: a Date or a Display String fails in RFC 8941, and all else is the
-- same.
use Rattle.std.specs.List.{list_any}
use Rattle.std.proofs.Common.{◌≡◌, ℕ, Bool, true, false, ◌||◌, List as Seq, [], ◌∷◌, ◌++◌, Option}
use Rattle.std.proofs.Common.{Some, None, refl, sym, ap, ◌∙◌, inl, inr, ◌⊎◌, ◌↔◌, arith}
use Rattle.sf_value.specs.declared.dialect.Dialect.{Dialect}
use Rattle.sf_value.specs.declared.dialect.Dialect.TheVariants.{Rfc8941, Rfc9651}
use Rattle.sf_value.specs.declared.value.Bare.{Bare}
use Rattle.sf_value.specs.declared.value.Bare.TheVariants.{Integer, Decimal, Text, Token, Blob}
use Rattle.sf_value.specs.declared.value.Bare.TheVariants.{Boolean, Date, Shown}
use Rattle.sf_value.specs.declared.value.Item.{Item}
use Rattle.sf_value.specs.declared.value.Inner.{Inner}
use Rattle.sf_value.specs.declared.value.Member.{Member}
use Rattle.sf_value.specs.declared.value.Member.TheVariants as member
use Rattle.sf_value.specs.declared.value.Field.{Field}
use Rattle.sf_value.specs.declared.value.Field.TheVariants as field
use Rattle.sf_value.specs.Grammar.Canonical.{canon}
use Rattle.sf_rfc.specs.Rfc9651.Words.{and_then}
use Rattle.sf_rfc.specs.Rfc9651.SerialisingBare.{serialise_bare}
use Rattle.sf_rfc.specs.Rfc9651.Serialising.{is_true, if_more, serialise_key, serialise_value}
use Rattle.sf_rfc.specs.Rfc9651.Serialising.{serialise_params_loop, serialise_params}
use Rattle.sf_rfc.specs.Rfc9651.Serialising.{serialise_item, serialise_items_loop, serialise_inner}
use Rattle.sf_rfc.specs.Rfc9651.Serialising.{serialise_member, serialise_list_loop}
use Rattle.sf_rfc.specs.Rfc9651.Serialising.{serialise_behind, serialise_dictionary_loop}
use Rattle.sf_rfc.specs.Rfc9651.Serialising.{Outcome, NotSerialised, Serialised, Fails, if_any}
use Rattle.sf_rfc.specs.Rfc9651.Serialising.{with_output, serialise}
use Rattle.sf_rfc.specs.SerialisingLaws.{is_added, added_in_params, added_in_item, added_in_member}
use Rattle.sf_rfc.specs.SerialisingLaws.{has_added, HasNoMembers, DialectsDiffer, AddedFails}
use Rattle.sf_rfc.proofs.SerialisingFields.{serialised_or_not}

-- what fails in RFC 8941 and is the same otherwise, by whether a type was added
pub record Differs (V : Type 0) (added : Bool) (f : Dialect → Option V) : Type 0 where
  pub fails : added ≡ true → f Rfc8941 ≡ None
  pub same : added ≡ false → f Rfc8941 ≡ f Rfc9651

-- failing at the first step, and at the next
first_fails : {A B : Type 0} (o : Option A) (f : A → Option B) → o ≡ None → and_then o f ≡ None
first_fails o f e = ap (λ x. and_then x f) e

next_fails : {A B : Type 0} (o : Option A) (f : A → Option B) → ((a : A) → f a ≡ None)
    → and_then o f ≡ None
next_fails None f h = refl
next_fails (Some a) f h = h a

next_same : {A B : Type 0} (o : Option A) (f g : A → Option B) → ((a : A) → f a ≡ g a)
    → and_then o f ≡ and_then o g
next_same None f g h = refl
next_same (Some a) f g h = h a

-- one step and the next
steps : {A B : Type 0} (x y : Bool) (f : Dialect → Option A) (g : Dialect → A → Option B)
    → Differs A x f → ((a : A) → Differs B y (λ d. g d a))
    → Differs B (x || y) (λ d. and_then (f d) (g d))
steps true y f g h k = record {
  fails = λ e. first_fails (f Rfc8941) (g Rfc8941) (h.fails refl);
  same = λ e. absurd cc;
}
steps {A = A} {B = B} false y f g h k = record {
  fails = λ e. next_fails (f Rfc8941) (g Rfc8941) (λ a. (k a).fails e);
  same = λ e. ap (λ o. and_then o (g Rfc8941)) (h.same refl)
      ∙ next_same (f Rfc9651) (g Rfc8941) (g Rfc9651) (λ a. (k a).same e);
}

-- a step that is the same in both
always : {A : Type 0} (o : Option A) → Differs A false (λ d. o)
always o = record { fails = λ e. absurd cc; same = λ e. refl }

-- a last step that is the same in both
last_step : {A B : Type 0} (x : Bool) (f : Dialect → Option A) (g : A → Option B) → Differs A x f
    → Differs B x (λ d. and_then (f d) g)
last_step true f g h = record {
  fails = λ e. first_fails (f Rfc8941) g (h.fails refl);
  same = λ e. absurd cc;
}
last_step false f g h = record {
  fails = λ e. absurd cc;
  same = λ e. ap (λ o. and_then o g) (h.same refl);
}

bare_differs : (x : Bare) → Differs (Seq ℕ) (is_added x) (λ d. serialise_bare d x)
bare_differs (Date z) = record { fails = λ e. refl; same = λ e. absurd cc }
bare_differs (Shown s) = record { fails = λ e. refl; same = λ e. absurd cc }
bare_differs x = record { fails = λ e. absurd cc; same = λ e. refl }

value_differs : (x : Bare) → Differs (Seq ℕ) (is_added x) (λ d. serialise_value d x)
value_differs (Date z) = record { fails = λ e. refl; same = λ e. absurd cc }
value_differs (Shown s) = record { fails = λ e. refl; same = λ e. absurd cc }
value_differs x = record { fails = λ e. absurd cc; same = λ e. refl }

params_loop : (ps : Seq (Seq ℕ × Bare)) (output : Seq ℕ)
    → Differs (Seq ℕ) (added_in_params ps) (λ d. serialise_params_loop d output ps)
params_loop [] output = always (Some output)
params_loop (p ∷ ps) output =
    steps false (is_added p.1 || added_in_params ps) (λ d. serialise_key p.0)
    (λ d k. and_then (serialise_value d p.1) (λ v.
    serialise_params_loop d (output ++ 59 ∷ (k ++ v)) ps))
    (always (serialise_key p.0))
    (λ k. steps (is_added p.1) (added_in_params ps) (λ d. serialise_value d p.1)
    (λ d v. serialise_params_loop d (output ++ 59 ∷ (k ++ v)) ps) (value_differs p.1)
    (λ v. params_loop ps (output ++ 59 ∷ (k ++ v))))

params_differ : (ps : Seq (Seq ℕ × Bare))
    → Differs (Seq ℕ) (added_in_params ps) (λ d. serialise_params d ps)
params_differ ps = params_loop ps []

item_differs : (i : Item) → Differs (Seq ℕ) (added_in_item i) (λ d. serialise_item d i)
item_differs i =
    steps (is_added i.bare) (added_in_params i.params) (λ d. serialise_bare d i.bare)
    (λ d s. and_then (serialise_params d i.params) (λ p. Some (s ++ p))) (bare_differs i.bare)
    (λ s. last_step (added_in_params i.params) (λ d. serialise_params d i.params)
    (λ p. Some (s ++ p)) (params_differ i.params))

items_loop : (is : Seq Item) (output : Seq ℕ)
    → Differs (Seq ℕ) (list_any added_in_item is) (λ d. serialise_items_loop d output is)
items_loop [] output = always (Some output)
items_loop (i ∷ is) output =
    steps (added_in_item i) (list_any added_in_item is) (λ d. serialise_item d i)
    (λ d s. serialise_items_loop d (output ++ (s ++ if_more is (32 ∷ []))) is) (item_differs i)
    (λ s. items_loop is (output ++ (s ++ if_more is (32 ∷ []))))

inner_differs : (l : Inner)
    → Differs (Seq ℕ) (added_in_member (member.Inner l)) (λ d. serialise_inner d l)
inner_differs l =
    steps (list_any added_in_item l.items) (added_in_params l.params)
    (λ d. serialise_items_loop d (40 ∷ []) l.items)
    (λ d s. and_then (serialise_params d l.params) (λ p. Some ((s ++ 41 ∷ []) ++ p)))
    (items_loop l.items (40 ∷ []))
    (λ s. last_step (added_in_params l.params) (λ d. serialise_params d l.params)
    (λ p. Some ((s ++ 41 ∷ []) ++ p)) (params_differ l.params))

member_differs : (m : Member) → Differs (Seq ℕ) (added_in_member m) (λ d. serialise_member d m)
member_differs (member.Item i) = item_differs i
member_differs (member.Inner l) = inner_differs l

list_loop : (ms : Seq Member) (output : Seq ℕ)
    → Differs (Seq ℕ) (list_any added_in_member ms) (λ d. serialise_list_loop d output ms)
list_loop [] output = always (Some output)
list_loop (m ∷ ms) output =
    steps (added_in_member m) (list_any added_in_member ms) (λ d. serialise_member d m)
    (λ d s. serialise_list_loop d (output ++ (s ++ if_more ms (44 ∷ 32 ∷ []))) ms)
    (member_differs m) (λ s. list_loop ms (output ++ (s ++ if_more ms (44 ∷ 32 ∷ []))))

-- a value with parameters
abbrev flag : Bare → Seq (Seq ℕ × Bare) → Item
flag x ps = record { bare = x; params = ps }

after_equals : (x : Bare) (ps : Seq (Seq ℕ × Bare))
    → Differs (Seq ℕ) (is_added x || added_in_params ps)
    (λ d. and_then (serialise_item d (flag x ps)) (λ s. Some (61 ∷ s)))
after_equals x ps =
    last_step (is_added x || added_in_params ps) (λ d. serialise_item d (flag x ps))
    (λ s. Some (61 ∷ s)) (item_differs (flag x ps))

flag_differs : (x : Bare) (ps : Seq (Seq ℕ × Bare))
    → Differs (Seq ℕ) (is_added x || added_in_params ps)
    (λ d. serialise_behind d (member.Item (flag x ps)))
flag_differs (Boolean true) ps = params_differ ps
flag_differs (Boolean false) ps = after_equals (Boolean false) ps
flag_differs x ps = after_equals x ps

after_differs : (m : Member) → Differs (Seq ℕ) (added_in_member m) (λ d. serialise_behind d m)
after_differs (member.Item i) = flag_differs i.bare i.params
after_differs (member.Inner l) =
    last_step (added_in_member (member.Inner l)) (λ d. serialise_inner d l) (λ s. Some (61 ∷ s))
    (inner_differs l)

dictionary_loop : (ps : Seq (Seq ℕ × Member)) (output : Seq ℕ)
    → Differs (Seq ℕ) (list_any (λ p. added_in_member p.1) ps)
    (λ d. serialise_dictionary_loop d output ps)
dictionary_loop [] output = always (Some output)
dictionary_loop (p ∷ ps) output =
    steps false (added_in_member p.1 || list_any (λ q. added_in_member q.1) ps)
    (λ d. serialise_key p.0)
    (λ d k. and_then (serialise_behind d p.1) (λ s.
    serialise_dictionary_loop d (output ++ (k ++ (s ++ if_more ps (44 ∷ 32 ∷ [])))) ps))
    (always (serialise_key p.0))
    (λ k. steps (added_in_member p.1) (list_any (λ q. added_in_member q.1) ps)
    (λ d. serialise_behind d p.1)
    (λ d s. serialise_dictionary_loop d (output ++ (k ++ (s ++ if_more ps (44 ∷ 32 ∷ [])))) ps)
    (after_differs p.1)
    (λ s. dictionary_loop ps (output ++ (k ++ (s ++ if_more ps (44 ∷ 32 ∷ []))))))

-- the outcome of a list of members
outcome_differs : {X : Type 0} (xs : Seq X) (added : Seq X → Bool) (f : Dialect → Option (Seq ℕ))
    → added [] ≡ false → Differs (Seq ℕ) (added xs) f
    → (added xs ≡ true → if_any xs (with_output (f Rfc8941)) ≡ Fails)
    × (added xs ≡ false
    → if_any xs (with_output (f Rfc8941)) ≡ if_any xs (with_output (f Rfc9651)))
outcome_differs [] added f none h =
    ((λ e. absurd (let k : false ≡ true = sym none ∙ e in cc)), (λ e. refl))
outcome_differs (x ∷ xs) added f none h =
    ((λ e. ap with_output (h.fails e)), (λ e. ap with_output (h.same e)))

pub dialects_differ : DialectsDiffer
dialects_differ (field.List l) =
    outcome_differs l.members (λ ms. list_any added_in_member ms)
    (λ d. serialise_list_loop d [] l.members) refl (list_loop l.members [])
dialects_differ (field.Dict m) =
    outcome_differs m.members (λ ps. list_any (λ p. added_in_member p.1) ps)
    (λ d. serialise_dictionary_loop d [] m.members) refl (dictionary_loop m.members [])
dialects_differ (field.Item i) =
    let k = item_differs i in
    ((λ e. ap with_output (k.fails e)), (λ e. ap with_output (k.same e)))

-- a valid field of RFC 9651 doesn't fail there
never_fails : (P : Type 0) (o : Outcome) (t : Seq ℕ)
    → (o ≡ Serialised t) ⊎ (o ≡ NotSerialised) → o ≡ Fails → P
never_fails P o t (inl k) e = absurd (let h : Serialised t ≡ Fails = sym k ∙ e in cc)
never_fails P o t (inr k) e = absurd (let h : NotSerialised ≡ Fails = sym k ∙ e in cc)

pub added_fails : AddedFails
added_fails kind v h = (
  (λ e. go (has_added v) refl e),
  (λ e. (dialects_differ v).0 e),
)
  where
    go : (x : Bool) → has_added v ≡ x → serialise Rfc8941 v ≡ Fails → has_added v ≡ true
    go true i e = i
    go false i e = elim (serialised_or_not Rfc9651 kind v h) [
      | inl k ↦ never_fails _ (serialise Rfc9651 v) (canon v) (inl k.0)
          (sym ((dialects_differ v).1 i) ∙ e)
      | inr k ↦ never_fails _ (serialise Rfc9651 v) (canon v) (inr k.0)
          (sym ((dialects_differ v).1 i) ∙ e)
    ]

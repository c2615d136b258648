-- Dictionaries whose members were read from a text one after another.
use Rattle.std.proofs.Common.{◌≡◌, ◌≢◌, ℕ, pos, negsuc, Bool, true, false, List, [], ◌∷◌}
use Rattle.std.proofs.Common.{Option, Some, None, refl, sym, ap, ◌∙◌, subst, fold, codes}
use Rattle.std.specs.Prelude.{unwrap_or}
use Rattle.sf_value.specs.declared.dialect.Dialect.{Dialect}
use Rattle.sf_value.specs.declared.value.Bare.{Bare}
use Rattle.sf_value.specs.declared.value.Bare.TheVariants.{Integer}
use Rattle.sf_value.specs.declared.value.Dict.{Dict}
use Rattle.sf_value.specs.declared.value.Field.{Field}
use Rattle.sf_value.specs.declared.value.Field.TheVariants as field
use Rattle.sf_value.specs.declared.value.Kind.TheVariants as kind
use Rattle.sf_value.specs.declared.value.Member.{Member}
use Rattle.sf_value.specs.declared.value.Member.TheVariants as member
use Rattle.sf_value.specs.Grammar.Pairs.{Pairs, settle}
use Rattle.sf_value.specs.Grammar.Series.{SpellsWhole}
use Rattle.sf_value.specs.Grammar.Fields.{SpellsEntry, SpellsField, dict_of}
use Rattle.sf_parse.proofs.GrammarLaws.{one_value}
use Rattle.sf_view.specs.declared.cursor.DictCursor.{DictCursor}
use Rattle.sf_view.specs.declared.cursor.EntryView.{EntryView}
use Rattle.sf_view.specs.Cursors.{RemainsInDict, ReadsNextEntry, integer_in, boolean_in}
use Rattle.sf_view.specs.Overwriting.{overwritten_by}
use Rattle.sf_view.proofs.Overwriting.{overwritten-settle, overwritten_other}
use Rattle.std.specs.Str.{bytes_eq}
use Rattle.sf_value.proofs.Settling.{key_is}
use Rattle.sf_use.specs.declared.priority.Asked.{Asked}
use Rattle.sf_use.specs.declared.targeted.Policy.{Policy}
use Rattle.sf_use.specs.Priority.{params_of_dict, urgency, urgency_in, incremental, boolean}
use Rattle.sf_value.specs.Lookups.{as_boolean, as_integer}
use Rattle.sf_use.specs.Targeted.{policy, nothing, delta_seconds, whole, is_set, not_false}
use Rattle.sf_use.specs.TargetedChoice.{MayOffer}
use Rattle.sf_use.specs.Scanning.{IsScannedIn, urgency_by, seconds_by, sets_by, with_member}
use Rattle.sf_use.specs.Scanning.{with_directive}

-- a Dictionary of the pairs that a text spells
pub scanned : {A : Type 0} (d : Dialect) (P : Field → A → Type 0) (text : List ℕ) (a : A)
    (ps : Pairs Member) → SpellsWhole (SpellsEntry d) text ps → P (dict_of (settle ps)) a
    → IsScannedIn d P text a
scanned d P text a ps s h =
    let spelled : SpellsField d kind.Dict text (dict_of (settle ps)) = (ps, refl, s) in (
      dict_of (settle ps),
      record {
        spelled = spelled;
        only = λ w i. one_value d kind.Dict text w (dict_of (settle ps)) i spelled;
      },
      h,
    )

-- whatever members remain, the text spells some, and F of them is what f makes of the answer so far
-- and those that remain
pub record ReadSoFar {A : Type 0} (d : Dialect) (f : A → List ℕ × Member → A)
    (F : Pairs Member → A) (text : List ℕ) (c : DictCursor) (a : A) : Type 0 where
  pub dialect : c.dialect ≡ d
  pub reads : (ps : Pairs Member) → RemainsInDict c ps
      → (all : Pairs Member) × SpellsWhole (SpellsEntry d) text all × (fold f a ps ≡ F all)

module _ {A : Type 0} (d : Dialect) (f : A → List ℕ × Member → A) (F : Pairs Member → A) where
  pub read_all : (text : List ℕ) (c e : DictCursor) (a : A) (o : Option EntryView)
      → ReadSoFar d f F text c a → ReadsNextEntry c e o → o ≡ None → (P : Field → A → Type 0)
      → ((all : Pairs Member) → a ≡ F all → P (dict_of (settle all)) a) → IsScannedIn d P text a
  read_all text c e a o s n none P h =
      let left : RemainsInDict c [] = subst (ReadsNextEntry c e) none n in
      let all = s.reads [] left in
      scanned d P text a all.0 all.1 (h all.0 all.2)

-- the parts of what is asked for
params_parts : (a : Asked) (ps : Pairs Member)
    → fold with_member a ps
    ≡ record {
      urgency = overwritten_by urgency (codes "u") a.urgency ps;
      incremental = overwritten_by incremental (codes "i") a.incremental ps;
    }
params_parts a [] = refl
params_parts a (p ∷ ps) = params_parts (with_member a p) ps

abbrev pub params_of_pairs : Pairs Member → Asked
params_of_pairs ps = params_of_dict (record { members = settle ps })

pub all_params : (ps : Pairs Member)
    → fold with_member (record { urgency = None; incremental = None }) ps ≡ params_of_pairs ps
all_params ps =
    params_parts (record { urgency = None; incremental = None }) ps
    ∙ ap
    (λ u. record { urgency = u; incremental = overwritten_by incremental (codes "i") None ps })
    (overwritten-settle urgency (codes "u") ps)
    ∙ ap (λ i. record { urgency = (params_of_pairs ps).urgency; incremental = i })
    (overwritten-settle incremental (codes "i") ps)

-- a bare item by its Integer or its Boolean, as an urgency, seconds, a Boolean and a directive
by_type : (x : Bare) → (urgency_by (as_integer x) ≡ urgency_in x)
    × (seconds_by (as_integer x) ≡ whole x)
    × (as_boolean x ≡ boolean x)
    × (sets_by (as_boolean x) ≡ not_false x)
by_type (Integer (pos n)) = (refl, refl, refl, refl)
by_type (Integer (negsuc n)) = (refl, refl, refl, refl)
by_type x = (refl, refl, refl, refl)

-- the same of a member
pub urgency_is : (m : Member) → urgency_by (integer_in m) ≡ urgency (Some m)
urgency_is (member.Inner l) = refl
urgency_is (member.Item i) = (by_type i.bare).0

pub seconds_are : (m : Member) → seconds_by (integer_in m) ≡ delta_seconds (Some m)
seconds_are (member.Inner l) = refl
seconds_are (member.Item i) = (by_type i.bare).1

pub incremental_is : (m : Member) → boolean_in m ≡ incremental (Some m)
incremental_is (member.Inner l) = refl
incremental_is (member.Item i) = (by_type i.bare).2

pub sets_is : (m : Member) → sets_by (boolean_in m) ≡ is_set (Some m)
sets_is (member.Inner l) = refl
sets_is (member.Item i) = (by_type i.bare).3

-- the parts of a policy
policy_parts : (s : Policy) (ps : Pairs Member)
    → fold with_directive s ps
    ≡ record {
      max_age = overwritten_by delta_seconds (codes "max-age") s.max_age ps;
      s_maxage = overwritten_by delta_seconds (codes "s-maxage") s.s_maxage ps;
      must_revalidate = overwritten_by is_set (codes "must-revalidate") s.must_revalidate ps;
      no_store = overwritten_by is_set (codes "no-store") s.no_store ps;
      no_cache = overwritten_by is_set (codes "no-cache") s.no_cache ps;
      is_private = overwritten_by is_set (codes "private") s.is_private ps;
    }
policy_parts s [] = refl
policy_parts s (p ∷ ps) = policy_parts (with_directive s p) ps

abbrev pub settled_dict : Pairs Member → Dict
settled_dict ps = record { members = settle ps }

abbrev pub policy_by : Option ℕ → Option ℕ → Bool → Bool → Bool → Bool → Policy
policy_by a b c d e f = record {
  max_age = a;
  s_maxage = b;
  must_revalidate = c;
  no_store = d;
  no_cache = e;
  is_private = f;
}

policies : (a b : Option ℕ) (c d e f : Bool) (g h : Option ℕ) (i j k l : Bool) → a ≡ g → b ≡ h
    → c ≡ i → d ≡ j → e ≡ k → f ≡ l → policy_by a b c d e f ≡ policy_by g h i j k l
policies a b c d e f g h i j k l p q r s t u = cc

pub all_directives : (ps : Pairs Member)
    → fold with_directive (policy nothing) ps ≡ policy (settled_dict ps)
all_directives ps =
    policy_parts (policy nothing) ps
    ∙ policies _ _ _ _ _ _ _ _ _ _ _ _
    (overwritten-settle delta_seconds (codes "max-age") ps)
    (overwritten-settle delta_seconds (codes "s-maxage") ps)
    (overwritten-settle is_set (codes "must-revalidate") ps)
    (overwritten-settle is_set (codes "no-store") ps)
    (overwritten-settle is_set (codes "no-cache") ps)
    (overwritten-settle is_set (codes "private") ps)

-- the policy after one more member, of which there may have been none
abbrev pub with_first : Option Policy → List ℕ × Member → Option Policy
with_first s p = Some (with_directive (unwrap_or s (policy nothing)) p)

-- the policy of these members, if there is one
abbrev pub offer_of : Pairs Member → Option Policy
offer_of [] = None
offer_of (p ∷ ps) = Some (policy (settled_dict (p ∷ ps)))

with_some : (s : Policy) (ps : Pairs Member)
    → fold with_first (Some s) ps ≡ Some (fold with_directive s ps)
with_some s [] = refl
with_some s (p ∷ ps) = with_some (with_directive s p) ps

pub all_offered : (ps : Pairs Member) → fold with_first None ps ≡ offer_of ps
all_offered [] = refl
all_offered (p ∷ ps) =
    with_some (with_directive (policy nothing) p) ps ∙ ap Some (all_directives (p ∷ ps))

pub may_offer : (o : Option Policy) (ps : Pairs Member) → o ≡ offer_of ps
    → MayOffer (dict_of (settle ps)) o
may_offer o ps e = subst (MayOffer (dict_of (settle ps))) (sym e) (by ps)
  where
    by : (ps : Pairs Member) → MayOffer (dict_of (settle ps)) (offer_of ps)
    by [] = λ d same. ap (λ s. members_in s) (sym same)
      where
        members_in : Field → Pairs Member
        members_in (field.Dict d) = d.members
        members_in f = []
    by (p ∷ ps) = (settled_dict (p ∷ ps), refl, some (settle (p ∷ ps)) refl, refl)
      where
        some : (qs : Pairs Member) → qs ≡ settle (p ∷ ps) → qs ≢ []
        some qs e n = let z : [] ≡ settle (p ∷ ps) = sym n ∙ e in cc

pub read_none : {A : Type 0} (d : Dialect) (f : A → List ℕ × Member → A) (F : Pairs Member → A)
    (text : List ℕ) (c : DictCursor) (a : A) → c.dialect ≡ d
    → ((ps : Pairs Member) → RemainsInDict c ps → SpellsWhole (SpellsEntry d) text ps)
    → ((ps : Pairs Member) → fold f a ps ≡ F ps) → ReadSoFar d f F text c a
read_none d f F text c a same h e = record {
  dialect = same;
  reads = λ ps r. (ps, h ps r, e ps);
}

-- the answer for one of two equal keys is the answer for the other
pub at_key : {A : Type 0} (f : List ℕ → A) (k key : List ℕ) (a : A) → bytes_eq k key ≡ true
    → a ≡ f key → a ≡ f k
at_key f k key a same h = h ∙ sym (ap f (key_is k key same))

-- a member of another key changes nothing
pub other_param : (a : Asked) (k : List ℕ) (m : Member) → bytes_eq k (codes "u") ≡ false
    → bytes_eq k (codes "i") ≡ false → with_member a (k, m) ≡ a
other_param a k m u i =
    ap (λ y. record { urgency = y; incremental = (with_member a (k, m)).incremental })
    (overwritten_other urgency (codes "u") k a.urgency m u)
    ∙ ap (λ y. record a { incremental = y })
    (overwritten_other incremental (codes "i") k a.incremental m i)

pub other_directive : (s : Policy) (k : List ℕ) (m : Member)
    → bytes_eq k (codes "max-age") ≡ false → bytes_eq k (codes "s-maxage") ≡ false
    → bytes_eq k (codes "must-revalidate") ≡ false → bytes_eq k (codes "no-store") ≡ false
    → bytes_eq k (codes "no-cache") ≡ false → bytes_eq k (codes "private") ≡ false
    → with_directive s (k, m) ≡ s
other_directive s k m a b c d e f =
    policies _ _ _ _ _ _ _ _ _ _ _ _
    (overwritten_other delta_seconds (codes "max-age") k s.max_age m a)
    (overwritten_other delta_seconds (codes "s-maxage") k s.s_maxage m b)
    (overwritten_other is_set (codes "must-revalidate") k s.must_revalidate m c)
    (overwritten_other is_set (codes "no-store") k s.no_store m d)
    (overwritten_other is_set (codes "no-cache") k s.no_cache m e)
    (overwritten_other is_set (codes "private") k s.is_private m f)

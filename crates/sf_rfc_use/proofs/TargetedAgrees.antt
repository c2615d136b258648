-- The field that is chosen, and its policy, are those of RFC 9213.
use Rattle.std.proofs.Common.{◌≡◌, ℕ, zero, suc}
use Rattle.std.proofs.Common.{pos, negsuc, Bool, true, false, List as Seq}
use Rattle.std.proofs.Common.{[], ◌∷◌, ◌++◌, length, Option, Some, None, refl, sym, ap, ap₂, ◌∙◌}
use Rattle.std.proofs.Common.{subst, ◌⊎◌, inl, inr, Result, Ok, Err}
use Rattle.std.specs.Prelude.{All, codes, is_none, take, drop, slice_get, ◌||◌, ◌↔◌, IfOk}
use Rattle.std.specs.Option.{option_or}
use Rattle.sf_value.specs.declared.fault.OutOfMemory.{OutOfMemory as NoMemory}
use Rattle.sf_value.specs.declared.dialect.Dialect.{Dialect}
use Rattle.sf_value.specs.declared.value.Bare.{Bare}
use Rattle.sf_value.specs.declared.value.Bare.TheVariants.{Integer, Text, Boolean}
use Rattle.sf_value.specs.declared.value.Dict.{Dict}
use Rattle.sf_value.specs.declared.value.Member.{Member}
use Rattle.sf_value.specs.declared.value.Member.TheVariants as member
use Rattle.sf_value.specs.declared.value.Field.TheVariants as field
use Rattle.sf_value.specs.declared.value.Kind.TheVariants as kind
use Rattle.sf_value.specs.Grammar.Lines.{join}
use Rattle.sf_value.specs.Grammar.Pairs.{Pairs, value_at}
use Rattle.sf_field.specs.Headers.{Headers, lines_under}
use Rattle.sf_use.specs.declared.targeted.Policy.{Policy}
use Rattle.sf_use.specs.declared.targeted.Choice.{Choice}
use Rattle.sf_use.specs.declared.targeted.Choice.TheVariants as choice
use Rattle.sf_use.specs.declared.targeted_rules.RulesChoice.{RulesChoice}
use Rattle.sf_use.specs.declared.targeted_rules.RulesChoice.TheVariants as rules_choice
use Rattle.sf_use.specs.declared.caching.CacheKind.{CacheKind}
use Rattle.sf_use.specs.declared.caching.CacheRules.{CacheRules}
use Rattle.sf_use.specs.Targeted.{whole, not_false, is_set}
use Rattle.sf_use.specs.Targeted.{delta_seconds as seconds_used}
use Rattle.sf_use.specs.TargetedChoice.{UsableIn, IsOfferIn, IsChosenIn}
use Rattle.sf_use.specs.TargetedRules.{IsRulesChosenIn, is_invalid, is_true, permits, rules}
use Rattle.sf_use.specs.Caching.{decision}
use Rattle.sf_use.specs.CachingLaws.{IsValidated, reuse_of}
use Rattle.sf_use.proofs.Decisions as decisions
use Rattle.sf_use.specs.TargetedLaws.{IsFirstIn}
use Rattle.sf_use.proofs.Choosing.{chosen_as_canonical}
use Rattle.sf_use.proofs.Firsts.{chosen_is_first}
use Rattle.sf_rfc.specs.Rfc9651.Parsing.{parse_field}
use Rattle.sf_rfc.proofs.FieldLines.{combined}
use Rattle.sf_rfc.proofs.ParsingFields.{fields_agree}
use Rattle.sf_rfc.proofs.ParsingSteps.{some_is}
use Rattle.sf_rfc_use.specs.OrderedMaps.{value_of}
use Rattle.sf_rfc_use.specs.Rfc9213.{IsAvailable, IsIgnored}
use Rattle.sf_rfc_use.specs.Rfc9213.{Directive, NotThere}
use Rattle.sf_rfc_use.specs.Rfc9213.{Has, Violates, constrained, delta_seconds, always_true}
use Rattle.sf_rfc_use.specs.Rfc9213.{true_or_names, directives, consumed, in_effect}
use Rattle.sf_rfc_use.specs.Rfc9213.{unless_inoperative, violates}
use Rattle.sf_rfc_use.specs.TargetedLaws.{counts, PolicyAgrees}
use Rattle.sf_rfc_use.specs.TargetedLaws.{CountsAsInEffect, IsChoice, ChoiceAgrees}
use Rattle.sf_rfc_use.specs.TargetedLaws.{OthersDoNotMatter, LifetimeAgrees, InoperativeAgrees}
use Rattle.sf_rfc_use.specs.TargetedLaws.{RulesAgree, IsRulesChoice, RulesChoiceAgrees}
use Rattle.sf_rfc_use.proofs.LookUps.{found}

-- seconds
bare_seconds : (x : Bare) → whole x ≡ consumed (delta_seconds x)
bare_seconds (Integer (pos n)) = refl
bare_seconds (Integer (negsuc n)) = refl
bare_seconds x = refl

member_seconds : (m : Option Member) → seconds_used m ≡ consumed (constrained delta_seconds m)
member_seconds None = refl
member_seconds (Some (member.Item i)) = bare_seconds i.bare
member_seconds (Some (member.Inner l)) = refl

seconds_are : (k : Seq ℕ) (ms : Pairs Member)
    → seconds_used (value_at k ms) ≡ consumed (constrained delta_seconds (value_of k ms))
seconds_are k ms =
    ap seconds_used (sym (found k ms)) ∙ member_seconds (value_of k ms)

-- directives that are set
true_item : (x : Bare) (ps : Pairs Bare)
    → not_false x ≡ counts (always_true x) (Some (member.Item (record { bare = x; params = ps })))
true_item (Boolean true) ps = refl
true_item (Boolean false) ps = refl
true_item x ps = refl

names_item : (x : Bare) (ps : Pairs Bare)
    → not_false x ≡ counts (true_or_names x) (Some (member.Item (record { bare = x; params = ps })))
names_item (Boolean true) ps = refl
names_item (Boolean false) ps = refl
names_item (Text s) ps = refl
names_item x ps = refl

true_member : (m : Option Member) → is_set m ≡ counts (constrained always_true m) m
true_member None = refl
true_member (Some (member.Item i)) = true_item i.bare i.params
true_member (Some (member.Inner l)) = refl

names_member : (m : Option Member) → is_set m ≡ counts (constrained true_or_names m) m
names_member None = refl
names_member (Some (member.Item i)) = names_item i.bare i.params
names_member (Some (member.Inner l)) = refl

true_is : (k : Seq ℕ) (ms : Pairs Member)
    → is_set (value_at k ms) ≡ counts (constrained always_true (value_of k ms)) (value_of k ms)
true_is k ms = ap is_set (sym (found k ms)) ∙ true_member (value_of k ms)

names_are : (k : Seq ℕ) (ms : Pairs Member)
    → is_set (value_at k ms) ≡ counts (constrained true_or_names (value_of k ms)) (value_of k ms)
names_are k ms = ap is_set (sym (found k ms)) ∙ names_member (value_of k ms)

policy_as : (a a' s s' : Option ℕ) (m m' n n' c c' p p' : Bool) → a ≡ a' → s ≡ s' → m ≡ m' → n ≡ n'
    → c ≡ c' → p ≡ p'
    → ◌≡◌ {A = Policy}
    (record {
      max_age = a;
      s_maxage = s;
      must_revalidate = m;
      no_store = n;
      no_cache = c;
      is_private = p;
    })
    (record {
      max_age = a';
      s_maxage = s';
      must_revalidate = m';
      no_store = n';
      no_cache = c';
      is_private = p';
    })
policy_as a a' s s' m m' n n' c c' p p' e f g h i j = cc

pub policy_agrees : PolicyAgrees
policy_agrees ms =
    policy_as _ _ _ _ _ _ _ _ _ _ _ _ (seconds_are (codes "max-age") ms)
    (seconds_are (codes "s-maxage") ms) (true_is (codes "must-revalidate") ms)
    (true_is (codes "no-store") ms) (names_are (codes "no-cache") ms)
    (names_are (codes "private") ms)

-- rules
bare_invalid : (x : Bare) → is_none (whole x) ≡ violates (delta_seconds x)
bare_invalid (Integer (pos n)) = refl
bare_invalid (Integer (negsuc n)) = refl
bare_invalid x = refl

member_invalid : (m : Option Member) → is_invalid m ≡ violates (constrained delta_seconds m)
member_invalid None = refl
member_invalid (Some (member.Item i)) = bare_invalid i.bare
member_invalid (Some (member.Inner l)) = refl

pub invalid_is : (k : Seq ℕ) (ms : Pairs Member)
    → is_invalid (value_at k ms) ≡ violates (constrained delta_seconds (value_of k ms))
invalid_is k ms = ap is_invalid (sym (found k ms)) ∙ member_invalid (value_of k ms)

bare_permits : (x : Bare) → is_true x ≡ in_effect (always_true x)
bare_permits (Boolean true) = refl
bare_permits (Boolean false) = refl
bare_permits x = refl

member_permits : (m : Option Member) → permits m ≡ in_effect (constrained always_true m)
member_permits None = refl
member_permits (Some (member.Item i)) = bare_permits i.bare
member_permits (Some (member.Inner l)) = refl

permits_is : (k : Seq ℕ) (ms : Pairs Member)
    → permits (value_at k ms) ≡ in_effect (constrained always_true (value_of k ms))
permits_is k ms = ap permits (sym (found k ms)) ∙ member_permits (value_of k ms)

rules_as : (p p' : Policy) (m m' s s' r r' u u' b b' : Bool) → p ≡ p' → m ≡ m' → s ≡ s' → r ≡ r'
    → u ≡ u' → b ≡ b'
    → ◌≡◌ {A = CacheRules}
    (record {
      policy = p;
      invalid_max_age = m;
      invalid_s_maxage = s;
      proxy_revalidate = r;
      must_understand = u;
      is_public = b;
    })
    (record {
      policy = p';
      invalid_max_age = m';
      invalid_s_maxage = s';
      proxy_revalidate = r';
      must_understand = u';
      is_public = b';
    })
rules_as p p' m m' s s' r r' u u' b b' e f g h i j = cc

pub rules_agree : RulesAgree
rules_agree ms =
    rules_as _ _ _ _ _ _ _ _ _ _ _ _ (policy_agrees ms) (invalid_is (codes "max-age") ms)
    (invalid_is (codes "s-maxage") ms) (true_is (codes "proxy-revalidate") ms)
    (permits_is (codes "must-understand") ms) (permits_is (codes "public") ms)

pub counts_as_in_effect : CountsAsInEffect
counts_as_in_effect (Has x) m = ((λ n. refl), (λ e. absurd cc))
counts_as_in_effect NotThere m = ((λ n. refl), (λ e. absurd cc))
counts_as_in_effect Violates m = ((λ n. absurd (n refl)), (λ e. refl))

-- the lifetime
not_in_effect : (s : Directive (Option (Seq ℕ))) (m : Option Member) → counts s m ≡ false
    → in_effect s ≡ false
not_in_effect (Has x) m e = absurd cc
not_in_effect NotThere m e = refl
not_in_effect Violates m e = refl

operative : (a b : Bool) (age : Option ℕ) → a ≡ false → b ≡ false
    → unless_inoperative (a || b) age ≡ age
operative false false age e f = refl
operative false true age e f = absurd cc
operative true b age e f = absurd cc

pub lifetime_agrees : LifetimeAgrees
lifetime_agrees ms = (
  (λ n c.
      let no_store : in_effect (directives ms).no_store ≡ false =
      not_in_effect (directives ms).no_store (value_of (codes "no-store") ms)
      (sym (true_is (codes "no-store") ms) ∙ n) in
      let no_cache : in_effect (directives ms).no_cache ≡ false =
      not_in_effect (directives ms).no_cache (value_of (codes "no-cache") ms)
      (sym (names_are (codes "no-cache") ms) ∙ c) in
      seconds_are (codes "max-age") ms
      ∙ sym (operative _ _ (consumed (directives ms).max_age) no_store no_cache)),
  seconds_are (codes "max-age") ms,
  ap₂ option_or (seconds_are (codes "s-maxage") ms) (seconds_are (codes "max-age") ms),
)

-- max-age is inoperative
in_effect_counts : (s : Directive (Option (Seq ℕ))) (m : Option Member) → in_effect s ≡ true
    → counts s m ≡ true
in_effect_counts (Has x) m e = refl
in_effect_counts NotThere m e = absurd cc
in_effect_counts Violates m e = absurd cc

one_of : (a b : Bool) → (a || b) ≡ true → (a ≡ true) ⊎ (b ≡ true)
one_of true b e = inl refl
one_of false b e = inr e

abbrev with_max_age : CacheRules → Option ℕ → Bool → CacheRules
with_max_age r max_age invalid =
    record r { policy = record r.policy { max_age = max_age }; invalid_max_age = invalid }

same_not_stored : (r : CacheRules) (c : CacheKind) (other : Option ℕ) (age : ℕ)
    (max_age : Option ℕ) (invalid : Bool) → r.policy.no_store ≡ true
    → decision (with_max_age r max_age invalid) c other age ≡ decision r c other age
same_not_stored r c other age max_age invalid h = rw h refl

same_validated : (r : CacheRules) (c : CacheKind) (other : Option ℕ) (age : ℕ)
    (max_age : Option ℕ) (invalid : Bool) → r.policy.no_cache ≡ true
    → decision (with_max_age r max_age invalid) c other age ≡ decision r c other age
same_validated r c other age max_age invalid h = rw h refl

pub inoperative_agrees : InoperativeAgrees
inoperative_agrees ms e c other age max_age invalid =
    by (one_of (in_effect (directives ms).no_store) (in_effect (directives ms).no_cache) e)
  where
    by : (in_effect (directives ms).no_store ≡ true) ⊎ (in_effect (directives ms).no_cache ≡ true)
        → (decision (with_max_age (rules (record { members = ms })) max_age invalid) c other age
        ≡ decision (rules (record { members = ms })) c other age)
        × IsValidated (reuse_of (rules (record { members = ms })) c other age)
    by (inl f) =
        let r : CacheRules = rules (record { members = ms }) in
        let n : r.policy.no_store ≡ true =
        true_is (codes "no-store") ms
        ∙ in_effect_counts (directives ms).no_store (value_of (codes "no-store") ms) f in (
          same_not_stored r c other age max_age invalid n,
          subst IsValidated (sym (decisions.no_store_is_not_stored r c other age n)) tt,
        )
    by (inr f) =
        let r : CacheRules = rules (record { members = ms }) in
        let n : r.policy.no_cache ≡ true =
        names_are (codes "no-cache") ms
        ∙ in_effect_counts (directives ms).no_cache (value_of (codes "no-cache") ms) f in (
          same_validated r c other age max_age invalid n,
          decisions.no_cache_is_validated r c other age n,
        )

-- the place of a name in a list
split_at : {X : Type 0} (xs : Seq X) (i : ℕ) (x : X) → slice_get xs i ≡ Some x
    → (xs ≡ take i xs ++ x ∷ drop (suc i) xs) × (i ≡ length (take i xs))
split_at [] i x e = absurd cc
split_at (y ∷ xs) zero x e = (ap (λ z. z ∷ xs) (some_is y x e), refl)
split_at (y ∷ xs) (suc i) x e =
    let k = split_at xs i x e in (ap (λ z. y ∷ z) k.0, ap suc k.1)

placed : {X : Type 0} (before : Seq X) (x : X) (after : Seq X)
    → (slice_get (before ++ x ∷ after) (length before) ≡ Some x)
    × (take (length before) (before ++ x ∷ after) ≡ before)
placed [] x after = (refl, refl)
placed (y ∷ before) x after =
    let k = placed before x after in (k.0, ap (λ z. y ∷ z) k.1)

all_map : {X : Type 0} (P Q : X → Type 0) (xs : Seq X) → ((x : X) → P x → Q x) → All P xs → All Q xs
all_map P Q xs f h k d l = f _ (h k d l)

module _ (dialect : Dialect) where
  -- which fields can be used
  available : (response : Headers) (name : Seq ℕ) (d : Dict) → UsableIn dialect response name d
      → IsAvailable dialect response name d.members
  available response name d u = record {
    present = u.present;
    valid = ap (parse_field dialect kind.Dict) (combined (lines_under response name))
        ∙ (fields_agree dialect kind.Dict (join (lines_under response name)) (field.Dict d)).1 u.spelled;
    non_empty = u.filled;
  }

  usable : (response : Headers) (name : Seq ℕ) (d : Dict)
      → IsAvailable dialect response name d.members → UsableIn dialect response name d
  usable response name d u = record {
    present = u.present;
    spelled = (fields_agree dialect kind.Dict (join (lines_under response name)) (field.Dict d)).0
        (sym (ap (parse_field dialect kind.Dict) (combined (lines_under response name))) ∙ u.valid);
    filled = u.non_empty;
  }

  ignored : (response : Headers) (name : Seq ℕ) → IsOfferIn dialect response name None
      → IsIgnored dialect response name
  ignored response name none members a =
      none (record { members = members }) (usable response name (record { members = members }) a)

  no_offer : (response : Headers) (name : Seq ℕ) → IsIgnored dialect response name
      → IsOfferIn dialect response name None
  no_offer response name none d u = none d.members (available response name d u)

  first_chosen : (targets : Seq (Seq ℕ)) (response : Headers) (c : Choice)
      → IsFirstIn dialect targets response c → IsChoice dialect targets response c
  first_chosen targets response choice.Fallback h =
      all_map (λ n. IsOfferIn dialect response n None) (IsIgnored dialect response) targets
      (ignored response) h
  first_chosen targets response (choice.Field index p) (name, at, (d, u, is), before) =
      let k = split_at targets index name at in (
        name,
        d.members,
        record {
          before = take index targets;
          after = drop (suc index) targets;
          listed = k.0;
          first = all_map (λ n. IsOfferIn dialect response n None) (IsIgnored dialect response)
              (take index targets) (ignored response) before;
          available = available response name d u;
        },
        k.1,
        is ∙ policy_agrees d.members,
      )

  chosen_first : (targets : Seq (Seq ℕ)) (response : Headers) (c : Choice)
      → IsChoice dialect targets response c → IsFirstIn dialect targets response c
  chosen_first targets response choice.Fallback h =
      all_map (IsIgnored dialect response) (λ n. IsOfferIn dialect response n None) targets
      (no_offer response) h
  chosen_first targets response (choice.Field index p) (name, members, s, at, is) =
      let k = placed s.before name s.after in
      let d : Dict = record { members = members } in
      let e : slice_get targets index ≡ Some name =
      ap₂ slice_get s.listed at ∙ k.0 in
      let f : take index targets ≡ s.before = ap₂ take at s.listed ∙ k.1 in (
        name,
        e,
        (d, usable response name d s.available, is ∙ sym (policy_agrees members)),
        subst (λ ns. All (λ n. IsOfferIn dialect response n None) ns) (sym f)
            (all_map (IsIgnored dialect response) (λ n. IsOfferIn dialect response n None) s.before
            (no_offer response) s.first),
      )

  pub one_choice_agrees : (targets : Seq (Seq ℕ)) (response : Headers) (c : Choice)
      → IsChosenIn dialect targets response c ↔ IsChoice dialect targets response c
  one_choice_agrees targets response c = (
    λ h. first_chosen targets response c ((chosen_is_first dialect targets response c).0 h),
    λ h. (chosen_is_first dialect targets response c).1 (chosen_first targets response c h),
  )

  -- the same with all rules
  first_rules : (targets : Seq (Seq ℕ)) (response : Headers) (c : RulesChoice)
      → IsRulesChosenIn dialect targets response c → IsRulesChoice dialect targets response c
  first_rules targets response rules_choice.Fallback h =
      all_map (λ n. IsOfferIn dialect response n None) (IsIgnored dialect response) targets
      (ignored response) h
  first_rules targets response (rules_choice.Field index r) (name, at, (d, u, is), before) =
      let k = split_at targets index name at in (
        name,
        d.members,
        record {
          before = take index targets;
          after = drop (suc index) targets;
          listed = k.0;
          first = all_map (λ n. IsOfferIn dialect response n None) (IsIgnored dialect response)
              (take index targets) (ignored response) before;
          available = available response name d u;
        },
        k.1,
        is ∙ rules_agree d.members,
      )

  rules_first : (targets : Seq (Seq ℕ)) (response : Headers) (c : RulesChoice)
      → IsRulesChoice dialect targets response c → IsRulesChosenIn dialect targets response c
  rules_first targets response rules_choice.Fallback h =
      all_map (IsIgnored dialect response) (λ n. IsOfferIn dialect response n None) targets
      (no_offer response) h
  rules_first targets response (rules_choice.Field index r) (name, members, s, at, is) =
      let k = placed s.before name s.after in
      let d : Dict = record { members = members } in
      let e : slice_get targets index ≡ Some name =
      ap₂ slice_get s.listed at ∙ k.0 in
      let f : take index targets ≡ s.before = ap₂ take at s.listed ∙ k.1 in (
        name,
        e,
        (d, usable response name d s.available, is ∙ sym (rules_agree members)),
        subst (λ ns. All (λ n. IsOfferIn dialect response n None) ns) (sym f)
            (all_map (IsIgnored dialect response) (λ n. IsOfferIn dialect response n None)
            s.before (no_offer response) s.first),
      )

pub choice_agrees : ChoiceAgrees
choice_agrees d = one_choice_agrees d

pub rules_choice_agrees : RulesChoiceAgrees
rules_choice_agrees d targets response c =
    (first_rules d targets response c, rules_first d targets response c)

pub others_do_not_matter : OthersDoNotMatter
others_do_not_matter d targets these those same =
    chosen_as_canonical d targets these those
    (λ k e l. let s = same k e l in inl (record { present = s.0; text = ap join s.1 }))

-- the result of a call
pub result_agrees : (d : Dialect) (targets : Seq (Seq ℕ)) (response : Headers)
    (r : Result Choice NoMemory)
    → IfOk r (IsChosenIn d targets response) → IfOk r (IsChoice d targets response)
result_agrees d targets response (Ok c) h = (choice_agrees d targets response c).0 h
result_agrees d targets response (Err e) h = h

pub rules_result_agrees : (d : Dialect) (targets : Seq (Seq ℕ)) (response : Headers)
    (r : Result RulesChoice NoMemory)
    → IfOk r (IsRulesChosenIn d targets response) → IfOk r (IsRulesChoice d targets response)
rules_result_agrees d targets response (Ok c) h = (rules_choice_agrees d targets response c).0 h
rules_result_agrees d targets response (Err e) h = h

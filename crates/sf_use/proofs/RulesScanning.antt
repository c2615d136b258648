-- The rules of a Dictionary whose members were read from a text one after another.
use Rattle.std.proofs.Common.{◌≡◌, ◌≢◌, ℕ, Bool, false, List, [], ◌∷◌, Option, Some, None, refl, sym, ap}
use Rattle.std.proofs.Common.{◌∙◌, subst, fold, codes}
use Rattle.std.specs.Prelude.{unwrap_or, is_none}
use Rattle.sf_value.specs.Lookups.{as_boolean}
use Rattle.sf_value.specs.declared.value.Bare.{Bare}
use Rattle.sf_value.specs.declared.value.Bare.TheVariants.{Boolean}
use Rattle.sf_value.specs.declared.value.Dict.{Dict}
use Rattle.sf_value.specs.declared.value.Field.{Field}
use Rattle.sf_value.specs.declared.value.Field.TheVariants as field
use Rattle.sf_value.specs.declared.value.Member.{Member}
use Rattle.sf_value.specs.declared.value.Member.TheVariants as member
use Rattle.sf_value.specs.Grammar.Pairs.{Pairs, settle}
use Rattle.sf_value.specs.Grammar.Fields.{dict_of}
use Rattle.sf_view.specs.Cursors.{boolean_in}
use Rattle.sf_view.specs.Overwriting.{overwritten_by}
use Rattle.sf_view.proofs.Overwriting.{overwritten-settle}
use Rattle.sf_use.specs.declared.caching.CacheRules.{CacheRules}
use Rattle.sf_use.specs.declared.targeted.Policy.{Policy}
use Rattle.sf_use.specs.Scanning.{with_directive}
use Rattle.sf_use.specs.Targeted.{is_set, nothing, policy}
use Rattle.sf_use.specs.TargetedRules.{MayOfferRules, is_invalid, is_true, permits, rules}
use Rattle.sf_use.specs.TargetedRules.{with_rule}
use Rattle.sf_use.proofs.Scanning.{all_directives, settled_dict}

permitted_by : (x : Bare) → unwrap_or (as_boolean x) false ≡ is_true x
permitted_by (Boolean b) = refl
permitted_by x = refl

-- what a member that was read permits
pub permits_is : (m : Member) → unwrap_or (boolean_in m) false ≡ permits (Some m)
permits_is (member.Inner l) = refl
permits_is (member.Item i) = permitted_by i.bare

-- the parts of rules
rule_parts : (r : CacheRules) (ps : Pairs Member)
    → fold with_rule r ps
    ≡ record {
      policy = fold with_directive r.policy ps;
      invalid_max_age = overwritten_by is_invalid (codes "max-age") r.invalid_max_age ps;
      invalid_s_maxage = overwritten_by is_invalid (codes "s-maxage") r.invalid_s_maxage ps;
      proxy_revalidate = overwritten_by is_set (codes "proxy-revalidate") r.proxy_revalidate ps;
      must_understand = overwritten_by permits (codes "must-understand") r.must_understand ps;
      is_public = overwritten_by permits (codes "public") r.is_public ps;
    }
rule_parts r [] = refl
rule_parts r (p ∷ ps) = rule_parts (with_rule r p) ps

abbrev pub rules_by : Policy → Bool → Bool → Bool → Bool → Bool → CacheRules
rules_by p a b c d e = record {
  policy = p;
  invalid_max_age = a;
  invalid_s_maxage = b;
  proxy_revalidate = c;
  must_understand = d;
  is_public = e;
}

pub same_rules : (p q : Policy) (a b c d e f g h i j : Bool) → p ≡ q → a ≡ f → b ≡ g → c ≡ h
    → d ≡ i → e ≡ j → rules_by p a b c d e ≡ rules_by q f g h i j
same_rules p q a b c d e f g h i j s t u v w x = cc

all_rules : (ps : Pairs Member) → fold with_rule (rules nothing) ps ≡ rules (settled_dict ps)
all_rules ps =
    rule_parts (rules nothing) ps
    ∙ same_rules _ _ _ _ _ _ _ _ _ _ _ _ (all_directives ps)
    (overwritten-settle is_invalid (codes "max-age") ps)
    (overwritten-settle is_invalid (codes "s-maxage") ps)
    (overwritten-settle is_set (codes "proxy-revalidate") ps)
    (overwritten-settle permits (codes "must-understand") ps)
    (overwritten-settle permits (codes "public") ps)

-- the rules after one more member, of which there may have been none
abbrev pub with_first_rule : Option CacheRules → List ℕ × Member → Option CacheRules
with_first_rule r p = Some (with_rule (unwrap_or r (rules nothing)) p)

-- the rules of these members, if there is one
abbrev pub rules_of_members : Pairs Member → Option CacheRules
rules_of_members [] = None
rules_of_members (p ∷ ps) = Some (rules (settled_dict (p ∷ ps)))

with_some : (r : CacheRules) (ps : Pairs Member)
    → fold with_first_rule (Some r) ps ≡ Some (fold with_rule r ps)
with_some r [] = refl
with_some r (p ∷ ps) = with_some (with_rule r p) ps

pub all_rules_offered : (ps : Pairs Member) → fold with_first_rule None ps ≡ rules_of_members ps
all_rules_offered [] = refl
all_rules_offered (p ∷ ps) =
    with_some (with_rule (rules nothing) p) ps ∙ ap Some (all_rules (p ∷ ps))

pub may_offer_rules : (o : Option CacheRules) (ps : Pairs Member) → o ≡ rules_of_members ps
    → MayOfferRules (dict_of (settle ps)) o
may_offer_rules o ps e = subst (MayOfferRules (dict_of (settle ps))) (sym e) (by ps)
  where
    by : (ps : Pairs Member) → MayOfferRules (dict_of (settle ps)) (rules_of_members ps)
    by [] = λ d same. ap (λ s. members_in s) (sym same)
      where
        members_in : Field → Pairs Member
        members_in (field.Dict d) = d.members
        members_in f = []
    by (p ∷ ps) = (settled_dict (p ∷ ps), refl, some (settle (p ∷ ps)) refl, refl)
      where
        some : (qs : Pairs Member) → qs ≡ settle (p ∷ ps) → qs ≢ []
        some qs e n = let z : [] ≡ settle (p ∷ ps) = sym n ∙ e in cc

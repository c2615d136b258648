-- How each level goes on where its open part does.
use Rattle.std.specs.Option.{option_and_then, option_map}
use Rattle.std.proofs.Common.{◌≡◌, ℕ, true, List, [], ◌∷◌, ◌++◌, Option, Some, None, Result}
use Rattle.std.proofs.Common.{IfOk}
use Rattle.std.proofs.Common.{IsSome, refl, sym, ap, subst, ◌∙◌}
use Rattle.sf_value.specs.declared.dialect.Dialect.{Dialect}
use Rattle.sf_value.specs.declared.value.Bare.{Bare}
use Rattle.sf_value.specs.declared.value.Item.{Item}
use Rattle.sf_value.specs.Grammar.Words.{allow}
use Rattle.sf_value.specs.Grammar.Classes.{is_in_key, is_sp}
use Rattle.sf_value.specs.Grammar.Pairs.{Pairs, put}
use Rattle.sf_parse.specs.Machine.Language.{onward, run}
use Rattle.sf_parse.specs.Machine.Texts.{word_step}
use Rattle.sf_parse.specs.Machine.Bares.{BareState, bare_step, bare_finish}
use Rattle.sf_parse.specs.Machine.Params.{ParamsState, Opened, InParamKey, InValue, between_step}
use Rattle.sf_parse.specs.Machine.Params.{key_step}
use Rattle.sf_parse.specs.Machine.Params.{params_step}
use Rattle.sf_parse.specs.Machine.Items.{ItemState, InBare, InParams, item_step, item_finish}
use Rattle.sf_parse.specs.Machine.Inners.{BetweenItems, InItem, Closing, after_step, inner_step}
use Rattle.sf_parse.specs.Machine.Members.{MemberState, InOne, InMany, member_step}
use Rattle.sf_parse.specs.Machine.Entries.{InKey, InMemberValue, InFlag, after_key_step}
use Rattle.sf_parse.specs.Machine.Entries.{entry_step}
use Rattle.sf_parse.specs.Machine.States.{BeforeItem, InsideItem, AfterItem}
use Rattle.sf_parse.specs.ItemFieldView.{after_of}
use Rattle.sf_parse.specs.Machine.Fields.{step}
use Rattle.sf_parse.specs.Prefixes.{Goes, LongestPrefix}
use Rattle.sf_parse.specs.ItemView.{with_params}
use Rattle.sf_parse.specs.MemberView.{closing_of, IsInParams}
use Rattle.sf_parse.specs.EntryView.{flag_at, IsFlag}
use Rattle.sf_parse.proofs.Machine.Language.{and_then_cases, map_cases}
use Rattle.sf_parse.proofs.Prefixes.{part_above, goes_above}

pub space_in_params : (d : Dialect) (ps : Pairs Bare) (b : ℕ) → is_sp b ≡ true
    → params_step d (Opened ps) b ≡ Some (Opened ps)
space_in_params d ps b h = rw h refl

pub key_in_params : (d : Dialect) (ps : Pairs Bare) (s t : List ℕ) (b : ℕ)
    → word_step is_in_key s b ≡ Some t
    → params_step d (InParamKey ps s) b ≡ Some (InParamKey ps t)
key_in_params d ps s t b e = ap (λ o. onward (InParamKey ps) o (Some s) (λ k. key_step ps k b)) e

pub value_in_params : (d : Dialect) (ps : Pairs Bare) (k : List ℕ) (s t : BareState) (b : ℕ)
    → bare_step s b ≡ Some t → params_step d (InValue ps k s) b ≡ Some (InValue ps k t)
value_in_params d ps k s t b e =
    ap (λ o. onward (InValue ps k) o (bare_finish s) (λ x. between_step (put ps k x) b)) e

pub bare_in_item : (d : Dialect) (s t : BareState) (b : ℕ) → bare_step s b ≡ Some t
    → item_step d (InBare s) b ≡ Some (InBare t)
bare_in_item d s t b e =
    ap (λ o. onward InBare o (bare_finish s) (λ x. option_map (InParams x) (between_step [] b))) e

pub space_in_inner : (d : Dialect) (is : List Item) (b : ℕ) → is_sp b ≡ true
    → inner_step d (BetweenItems is) b ≡ Some (BetweenItems is)
space_in_inner d is b h = rw h refl

pub item_in_inner : (d : Dialect) (is : List Item) (s t : ItemState) (b : ℕ)
    → item_step d s b ≡ Some t → inner_step d (InItem is s) b ≡ Some (InItem is t)
item_in_inner d is s t b e =
    ap (λ o. onward (InItem is) o (item_finish s) (λ i. after_step (is ++ i ∷ []) b)) e

pub key_in_entry : (d : Dialect) (s t : List ℕ) (b : ℕ) → word_step is_in_key s b ≡ Some t
    → entry_step d (InKey s) b ≡ Some (InKey t)
key_in_entry d s t b e = ap (λ o. onward InKey o (Some s) (λ k. after_key_step k b)) e

pub item_in_field : (d : Dialect) (s t : ItemState) (b : ℕ) → item_step d s b ≡ Some t
    → step d (InsideItem s) b ≡ Some (InsideItem t)
item_in_field d s t b e =
    ap (λ o. onward InsideItem o (item_finish s) (λ i. allow (is_sp b) (AfterItem i))) e

-- the parameters after a whole bare item
pub params_part : {R E : Type 0} (d : Dialect) (o : Option Bare) (s : BareState) (p q : ParamsState)
    (chunk : List ℕ) (rest : R → List ℕ) (r : Result R E) → IsSome o
    → IfOk r (λ v. LongestPrefix (params_step d) p chunk (rest v) q)
    → IfOk r (λ v. Goes (item_step d) (with_params o s p) chunk (rest v) (with_params o s q))
params_part d (Some x) s p q chunk rest r h a =
    part_above (params_step d) (item_step d) (InParams x)
    (λ s t b e. ap (option_map (InParams x)) e) p q
    (InParams x p) chunk rest r refl a
params_part d None s p q chunk rest r h a = absurd cc

pub space_in_member : (d : Dialect) (is : List Item) (b : ℕ) → is_sp b ≡ true
    → member_step d (InMany (BetweenItems is)) b ≡ Some (InMany (BetweenItems is))
space_in_member d is b h = ap (option_map InMany) (space_in_inner d is b h)

pub item_in_member : (d : Dialect) (s t : ItemState) (b : ℕ) → item_step d s b ≡ Some t
    → member_step d (InOne s) b ≡ Some (InOne t)
item_in_member d s t b e = ap (option_map InOne) e

pub item_in_many : (d : Dialect) (is : List Item) (s t : ItemState) (b : ℕ)
    → item_step d s b ≡ Some t → member_step d (InMany (InItem is s)) b
    ≡ Some (InMany (InItem is t))
item_in_many d is s t b e = ap (option_map InMany) (item_in_inner d is s t b e)

-- an item in parameters stays in those of the same bare item
pub params_of_item : (d : Dialect) (x : Bare) (p : ParamsState) (t : ItemState) (xs : List ℕ)
    → run (item_step d) (InParams x p) xs ≡ Some t
    → (q : ParamsState) × (t ≡ InParams x q) × (run (params_step d) p xs ≡ Some q)
params_of_item d x p t [] e = (p, (let k : InParams x p ≡ t = cc in sym k), refl)
params_of_item d x p t (b ∷ xs) e =
    let c = and_then_cases (item_step d (InParams x p) b) (λ s. run (item_step d) s xs) t e in
    let k = map_cases (InParams x) (params_step d p b) c.0 c.1 in
    let more = params_of_item d x k.0 t xs
    (subst (λ s. run (item_step d) s xs ≡ Some t) k.2 c.2) in
    (more.0, more.1, ap (λ o. option_and_then (λ s. run (params_step d) s xs) o) k.1 ∙ more.2)

-- the parameters after the bracket of an inner list
closing_goes : (d : Dialect) (is : List Item) (x : Bare) (p : ParamsState) (t : ItemState)
    (chunk rest : List ℕ) → LongestPrefix (item_step d) (InParams x p) chunk rest t
    → Goes (member_step d) (InMany (Closing is p)) chunk rest (InMany (closing_of is t))
closing_goes d is x p t chunk rest a =
    let k = params_of_item d x p t a.goes.taken a.goes.leads in
    subst (λ s. Goes (member_step d) (InMany (Closing is p)) chunk rest (InMany (closing_of is s)))
    (sym k.1)
    (goes_above (params_step d) (member_step d) (λ q. InMany (Closing is q))
    (λ s t b e. ap (λ o. option_map InMany (option_map (Closing is) o)) e) p k.0 chunk rest
    (record { taken = a.goes.taken; split = a.goes.split; leads = k.2 }))

pub closing_part : (d : Dialect) (is : List Item) (s t : ItemState) (chunk rest : List ℕ)
    → IsInParams s → LongestPrefix (item_step d) s chunk rest t
    → Goes (member_step d) (InMany (closing_of is s)) chunk rest (InMany (closing_of is t))
closing_part d is (InBare s) t chunk rest h a = absurd h
closing_part d is (InParams x p) t chunk rest h a = closing_goes d is x p t chunk rest a

pub closing_kept : (d : Dialect) (s t : ItemState) (chunk rest : List ℕ) → IsInParams s
    → LongestPrefix (item_step d) s chunk rest t → IsInParams t
closing_kept d (InBare s) t chunk rest h a = absurd h
closing_kept d (InParams x p) t chunk rest h a =
    subst IsInParams (sym (params_of_item d x p t a.goes.taken a.goes.leads).1) tt

pub member_in_entry : (d : Dialect) (k : List ℕ) (s t : MemberState) (b : ℕ)
    → member_step d s b ≡ Some t → entry_step d (InMemberValue k s) b ≡ Some (InMemberValue k t)
member_in_entry d k s t b e = ap (option_map (InMemberValue k)) e

-- the parameters of a flag, which are read as those of an item of Boolean true
flag_goes : (d : Dialect) (k : List ℕ) (x : Bare) (p : ParamsState) (t : MemberState)
    (chunk rest : List ℕ) → Goes (member_step d) (InOne (InParams x p)) chunk rest t
    → (q : ParamsState) × (t ≡ InOne (InParams x q))
    × Goes (entry_step d) (InFlag k p) chunk rest (InFlag k q)
flag_goes d k x p t chunk rest a =
    let one = one_of_member d (InParams x p) t a.taken a.leads in
    let item = params_of_item d x p one.0 a.taken one.2 in (
      item.0,
      one.1 ∙ ap InOne item.1,
      goes_above (params_step d) (entry_step d) (InFlag k) (λ s t b e. ap (option_map (InFlag k)) e)
          p item.0
          chunk rest (record { taken = a.taken; split = a.split; leads = item.2 }),
    )
  where
    one_of_member : (d : Dialect) (s : ItemState) (t : MemberState) (xs : List ℕ)
        → run (member_step d) (InOne s) xs ≡ Some t
        → (u : ItemState) × (t ≡ InOne u) × (run (item_step d) s xs ≡ Some u)
    one_of_member d s t [] e = (s, (let k : InOne s ≡ t = cc in sym k), refl)
    one_of_member d s t (b ∷ xs) e =
        let c = and_then_cases (member_step d (InOne s) b) (λ s. run (member_step d) s xs) t e in
        let k = map_cases InOne (item_step d s b) c.0 c.1 in
        let more = one_of_member d k.0 t xs
        (subst (λ s. run (member_step d) s xs ≡ Some t) k.2 c.2) in
        (more.0, more.1, ap (λ o. option_and_then (λ s. run (item_step d) s xs) o) k.1 ∙ more.2)

pub flag_part : (d : Dialect) (k : List ℕ) (s t : MemberState) (chunk rest : List ℕ) → IsFlag s
    → Goes (member_step d) s chunk rest t
    → Goes (entry_step d) (flag_at k s) chunk rest (flag_at k t)
flag_part d k (InOne (InBare s)) t chunk rest h a = absurd h
flag_part d k (InOne (InParams x p)) t chunk rest h a =
    let w = flag_goes d k x p t chunk rest a in
    subst (λ s. Goes (entry_step d) (InFlag k p) chunk rest (flag_at k s)) (sym w.1) w.2
flag_part d k (InMany s) t chunk rest h a = absurd h

pub flag_kept : (d : Dialect) (k : List ℕ) (s t : MemberState) (chunk rest : List ℕ) → IsFlag s
    → Goes (member_step d) s chunk rest t → IsFlag t
flag_kept d k (InOne (InBare s)) t chunk rest h a = absurd h
flag_kept d k (InOne (InParams x p)) t chunk rest h a =
    subst IsFlag (sym (flag_goes d k x p t chunk rest a).1) h
flag_kept d k (InMany s) t chunk rest h a = absurd h

pub space_before : (d : Dialect) (b : ℕ) → is_sp b ≡ true → step d BeforeItem b ≡ Some BeforeItem
space_before d b h = rw h refl

-- spaces after an item
pub space_after : (d : Dialect) (o : Option Item) → IsSome o → (b : ℕ) → is_sp b ≡ true
    → step d (after_of o) b ≡ Some (after_of o)
space_after d (Some i) k b h = rw h refl
space_after d None k b h = absurd cc

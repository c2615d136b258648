-- Where the machine goes by a whole parameter or a whole Item and what follows it.
use Rattle.std.specs.Option.{option_map}
use Rattle.std.proofs.Common.{◌≡◌, ℕ, true, false, List, [], ◌∷◌, ◌++◌, Some}
use Rattle.std.proofs.Common.{refl, sym, ap, ◌∙◌, subst, inl, inr, append_assoc}
use Rattle.std.proofs.Common.{Bool, ◌==◌, eqb-true, arith}
use Rattle.sf_value.specs.declared.dialect.Dialect.{Dialect}
use Rattle.sf_value.specs.declared.value.Bare.{Bare}
use Rattle.sf_value.specs.declared.value.Bare.TheVariants.{Boolean}
use Rattle.sf_value.specs.declared.value.Item.{Item}
use Rattle.sf_value.specs.Grammar.Classes.{is_sp, is_key_start, is_in_key}
use Rattle.sf_value.specs.Grammar.Pairs.{Pairs, put}
use Rattle.sf_value.specs.Grammar.Tokens.{IsKey}
use Rattle.sf_value.specs.Grammar.BareItems.{SpellsBare}
use Rattle.sf_value.specs.Grammar.Parameters.{SpellsParam, SpellsValue}
use Rattle.sf_value.specs.Grammar.Items.{SpellsItem}
use Rattle.sf_parse.specs.Machine.Language.{Machine}
use Rattle.sf_parse.specs.Machine.Texts.{word_step}
use Rattle.sf_parse.specs.Machine.Bares.{bare_start, bare_step}
use Rattle.sf_parse.specs.Machine.Params.{Opened, InParamKey, EqualsParam, InValue}
use Rattle.sf_parse.specs.Machine.Params.{params_step}
use Rattle.sf_parse.specs.Machine.Items.{ItemState, GoodItem, ResidualItem, item_start, item_step}
use Rattle.sf_parse.specs.Machine.Items.{item_finish}
use Rattle.sf_parse.specs.Machine.Inners.{BetweenItems, InItem}
use Rattle.sf_parse.specs.Machine.Members.{InMany, member_step}
use Rattle.sf_parse.specs.Prefixes.{Goes}
use Rattle.sf_parse.specs.WholeParts.{ReadsAs, ReadsParam}
use Rattle.sf_value.specs.Runs.{Skips}
use Rattle.sf_parse.proofs.Machine.Language.{is_none}
use Rattle.sf_parse.proofs.Machine.Bares.{bare_starts, bare_apart}
use Rattle.sf_parse.proofs.Machine.Items.{item_reads, item_starts, item_lives, item_apart, no_item, item_not}
use Rattle.sf_parse.proofs.Prefixes.{goes_one, goes_more, goes_above}
use Rattle.sf_parse.proofs.ByteRuns.{stay_goes, word_goes}
use Rattle.sf_parse.proofs.OpenParts.{space_in_params, key_in_params, value_in_params}
use Rattle.sf_parse.proofs.OpenParts.{space_in_member, item_in_many}
use Rattle.sf_parse.proofs.WholeParts.{spells_run, bare_machine}

key_no_space : (b : ℕ) → is_key_start b ≡ true → is_sp b ≡ false
key_no_space b e = grind arith

module _ (d : Dialect) where
  pub key_goes : (ps : Pairs Bare) (key rest : List ℕ) → IsKey key
      → Goes (params_step d) (Opened ps) (key ++ rest) rest (InParamKey ps key)
  key_goes ps [] rest h = absurd h
  key_goes ps (b ∷ key) rest h =
      goes_more (params_step d) (Opened ps) (InParamKey ps (b ∷ [])) (InParamKey ps (b ∷ key))
      (b ∷ (key ++ rest)) (key ++ rest) rest
      (goes_one (params_step d) (Opened ps) (InParamKey ps (b ∷ [])) b (key ++ rest)
      (rw (key_no_space b h.0, h.0) refl))
      (goes_above (word_step is_in_key) (params_step d) (InParamKey ps) (key_in_params d ps)
      (b ∷ []) (b ∷ key) (key ++ rest) rest
      (word_goes is_in_key (b ∷ []) key rest (key ++ rest) (b ∷ key) refl h.1 refl))

  value_goes : (ps : Pairs Bare) (key text more : List ℕ) (x : Bare) → SpellsBare d text x
      → Goes (params_step d) (EqualsParam ps key) (text ++ 59 ∷ more) more
      (Opened (put ps key x))
  value_goes ps key text more x h =
      let w = spells_run bare_machine (SpellsBare d) (bare_start d) (bare_starts d) text x h in
      let all = w.more ++ 59 ∷ more in
      let stop = is_none (bare_step w.last 59) (λ t n. bare_apart w.last x 59 t w.ends n refl) in
      subst
      (λ y. Goes (params_step d) (EqualsParam ps key) (y ++ 59 ∷ more) more (Opened (put ps key x)))
      (sym w.split)
      (goes_more (params_step d) (EqualsParam ps key) (InValue ps key w.first)
      (Opened (put ps key x)) (w.byte ∷ all) all more
      (goes_one (params_step d) (EqualsParam ps key) (InValue ps key w.first) w.byte all
      (ap (option_map (InValue ps key)) w.starts))
      (goes_more (params_step d) (InValue ps key w.first) (InValue ps key w.last)
      (Opened (put ps key x)) all (59 ∷ more) more
      (goes_above bare_step (params_step d) (InValue ps key) (value_in_params d ps key) w.first
      w.last all (59 ∷ more) (record { taken = w.more; split = refl; leads = w.leads }))
      (goes_one (params_step d) (InValue ps key w.last) (Opened (put ps key x)) 59 more
      (rw (stop, w.ends) refl))))

  after_key : (ps : Pairs Bare) (key value more : List ℕ) (x : Bare) → SpellsValue d value x
      → Goes (params_step d) (InParamKey ps key) (value ++ 59 ∷ more) more
      (Opened (put ps key x))
  after_key ps key value more x (inl (e, f)) =
      subst (λ y. Goes (params_step d) (InParamKey ps key) (value ++ 59 ∷ more) more
      (Opened (put ps key y))) (sym e)
      (subst (λ v. Goes (params_step d) (InParamKey ps key) (v ++ 59 ∷ more) more
      (Opened (put ps key (Boolean true)))) (sym f)
      (goes_one (params_step d) (InParamKey ps key) (Opened (put ps key (Boolean true))) 59 more
      refl))
  after_key ps key value more x (inr (suffix, e, h)) =
      subst (λ v. Goes (params_step d) (InParamKey ps key) (v ++ 59 ∷ more) more
      (Opened (put ps key x))) (sym e)
      (goes_more (params_step d) (InParamKey ps key) (EqualsParam ps key) (Opened (put ps key x))
      (61 ∷ (suffix ++ 59 ∷ more)) (suffix ++ 59 ∷ more) more
      (goes_one (params_step d) (InParamKey ps key) (EqualsParam ps key) 61
      (suffix ++ 59 ∷ more) refl)
      (value_goes ps key suffix more x h))

  -- a parameter and the semicolon after it
  pub param_goes : (ps new : Pairs Bare) (text key rest more : List ℕ) (x : Bare)
      → ReadsParam d text key x rest → rest ≡ 59 ∷ more → new ≡ put ps key x
      → Goes (params_step d) (Opened ps) text more (Opened new)
  param_goes ps new text key rest more x p e f = by p.spelled
    where
      by : SpellsParam d (59 ∷ p.prefix) key x
          → Goes (params_step d) (Opened ps) text more (Opened new)
      by (gap, value, g, each, k, v) =
          let front : p.prefix ≡ gap ++ (key ++ value) = cc in
          let whole : text ≡ gap ++ (key ++ (value ++ 59 ∷ more)) =
          p.split ∙ ap (λ y. p.prefix ++ y) e ∙ ap (λ y. y ++ 59 ∷ more) front
          ∙ append_assoc gap (key ++ value) (59 ∷ more)
          ∙ ap (λ y. gap ++ y) (append_assoc key value (59 ∷ more)) in
          let named = key ++ (value ++ 59 ∷ more) in
          subst (λ y. Goes (params_step d) (Opened ps) text more (Opened y)) (sym f)
          (goes_more (params_step d) (Opened ps) (Opened ps) (Opened (put ps key x)) text named
          more
          (stay_goes (params_step d) is_sp (Opened ps) gap named text (space_in_params d ps) whole
          each)
          (goes_more (params_step d) (Opened ps) (InParamKey ps key) (Opened (put ps key x)) named
          (value ++ 59 ∷ more) more (key_goes ps key (value ++ 59 ∷ more) k)
          (after_key ps key value more x v)))

  -- an Item of an Inner List, and the space after it
  pub item_machine : Machine ItemState Item GoodItem (ResidualItem d) (item_step d) item_finish
  item_machine = record { reads = item_reads d; lives = item_lives d }

  pub begins_item : (is : List Item) (b : ℕ) (s : ItemState) → item_start d b ≡ Some s
      → member_step d (InMany (BetweenItems is)) b ≡ Some (InMany (InItem is s))
  begins_item is b s e = by (is_sp b) refl (b == 41) refl
    where
      by : (p : Bool) → is_sp b ≡ p → (q : Bool) → (b == 41) ≡ q
          → member_step d (InMany (BetweenItems is)) b ≡ Some (InMany (InItem is s))
      by true f q g = absurd (item_not d b 32 s (eqb-true b 32 f) (no_item d).0 e)
      by false f true g = absurd (item_not d b 41 s (eqb-true b 41 g) (no_item d).1 e)
      by false f false g = rw (f, g, e) refl

  pub item_goes : (is new : List Item) (text rest more inside : List ℕ) (i : Item)
      → ReadsAs (SpellsItem d) text i rest → rest ≡ 32 ∷ more → Skips is_sp more inside
      → new ≡ is ++ i ∷ []
      → Goes (member_step d) (InMany (BetweenItems is)) text inside (InMany (BetweenItems new))
  item_goes is new text rest more inside i r e b f =
      let w = spells_run item_machine (SpellsItem d) (item_start d) (item_starts d) r.prefix i
      r.spelled in
      let all = w.more ++ 32 ∷ more in
      let whole : text ≡ w.byte ∷ all =
      r.split ∙ ap (λ y. r.prefix ++ y) e ∙ ap (λ y. y ++ 32 ∷ more) w.split in
      let stop = is_none (item_step d w.last 32) (λ t n. item_apart d w.last i 32 t w.ends n refl)
      in
      let next = member_step d in
      let old = InMany (BetweenItems is) in
      let now = InMany (BetweenItems new) in
      goes_more next old now now text more inside
      (subst (λ y. Goes next old y more now) (sym whole)
      (goes_more next old (InMany (InItem is w.first)) now (w.byte ∷ all) all more
      (goes_one next old (InMany (InItem is w.first)) w.byte all
      (begins_item is w.byte w.first w.starts))
      (goes_more next (InMany (InItem is w.first)) (InMany (InItem is w.last)) now all (32 ∷ more)
      more
      (goes_above (item_step d) next (λ s. InMany (InItem is s)) (item_in_many d is) w.first w.last
      all (32 ∷ more) (record { taken = w.more; split = refl; leads = w.leads }))
      (goes_one next (InMany (InItem is w.last)) now 32 more
      (rw (stop, w.ends) (ap (λ y. Some (InMany (BetweenItems y))) (sym f)))))))
      (stay_goes next is_sp now b.prefix inside more (space_in_member d new) b.split b.each)

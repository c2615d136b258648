-- Items are read by their machine.
use Rattle.std.specs.Option.{option_map}
use Rattle.std.proofs.Common.{◌≡◌, ℕ, true, ◌==◌, List, [], Option, Some, None, ⊎_elim, refl, sym}
use Rattle.std.proofs.Common.{ap, ◌∙◌, subst, ◌↔◌, append-nil}
use Rattle.sf_value.specs.Grammar.BareItems.{SpellsBare}
use Rattle.sf_value.specs.Grammar.Items.{item, SpellsItem}
use Rattle.sf_value.specs.declared.dialect.Dialect.{Dialect}
use Rattle.sf_value.specs.declared.dialect.Dialect.TheVariants.{Rfc8941, Rfc9651}
use Rattle.sf_value.specs.declared.value.Bare.{Bare}
use Rattle.sf_value.specs.declared.value.Item.{Item}
use Rattle.sf_parse.specs.Machine.Language.{Then, Reads, Live, is_after}
use Rattle.sf_parse.specs.Machine.Bares.{BareState}
use Rattle.sf_parse.specs.Machine.Bares.{bare_step, bare_finish}
use Rattle.sf_parse.specs.Machine.Params.{between_step, params_step, params_finish}
use Rattle.sf_parse.specs.Machine.Items.{ItemState}
use Rattle.sf_parse.specs.Machine.Items.{InBare, InParams}
use Rattle.sf_parse.specs.Machine.Items.{ItemOf, ResidualItem, GoodItem, item_start, item_step}
use Rattle.sf_parse.specs.Machine.Items.{item_finish}
use Rattle.sf_parse.proofs.Machine.Language.{reads_iff, reads_mapped, reads_then, reads_first}
use Rattle.sf_parse.proofs.Machine.Language.{map_cases}
use Rattle.sf_parse.proofs.Machine.Language.{onward_cases, and_then_cases}
use Rattle.sf_value.proofs.Words.{allow_cases}
use Rattle.sf_parse.proofs.Machine.Bares.{same, bare_reads, bare_starts, bare_lives, bare_apart}
use Rattle.sf_parse.proofs.Machine.Params.{between_reads, params_reads, params_lives, params_apart}
use Rattle.sf_parse.proofs.Machine.Params.{between_apart, after_follows, semicolon_follows, no_raw}

-- no item begins with a space, a bracket or a tab
pub no_item : (d : Dialect)
    → (item_start d 32 ≡ None) × (item_start d 41 ≡ None) × (item_start d 40 ≡ None)
    × (item_start d 9 ≡ None)
no_item Rfc8941 = (refl, refl, refl, refl)
no_item Rfc9651 = (refl, refl, refl, refl)

module _ (d : Dialect) where
  pub item_not : (b c : ℕ) (t : ItemState) → b ≡ c → item_start d c ≡ None → item_start d b ≡ Some t
      → ⊥
  item_not b c t e n k = let k' = ap (item_start d) (sym e) ∙ k in cc

  abbrev pub ReadsItem : (List ℕ → Item → Type 0) → (ℕ → Option ItemState) → Option Item → Type 0
  ReadsItem = Reads ItemState Item GoodItem (ResidualItem d)

  item_of_reads : (x : Bare)
      → ReadsItem (ItemOf d x) (λ b. option_map (InParams x) (between_step [] b)) (Some (item x []))
  item_of_reads x = reads_mapped (InParams x) (item x) (λ s g. g) (λ s t v. same)
      (between_reads d [] refl)

  pub item_reads : (s : ItemState) → GoodItem s
      → ReadsItem (ResidualItem d s) (item_step d s) (item_finish s)
  item_reads (InBare s) g = reads_then InBare (λ s g. g) (λ s t v. same) (bare_reads s g)
      (λ x e. item_of_reads x) apart
    where
      apart : (x : Bare) (b : ℕ) (s' : BareState) (t : ItemState) → bare_finish s ≡ Some x
          → bare_step s b ≡ Some s' → option_map (InParams x) (between_step [] b) ≡ Some t → ⊥
      apart x b s' t e n m =
          let c = map_cases (InParams x) (between_step [] b) t m in
          bare_apart s x b s' e n (semicolon_follows b (allow_cases (b == 59) _ c.0 c.1).0)
  item_reads (InParams x s) g = reads_mapped (InParams x) (item x) (λ s g. g) (λ s t v. same)
      (params_reads d s g)

  item_both : (t : List ℕ) (v : Item) → Then (SpellsBare d) (ItemOf d) t v ↔ SpellsItem d t v
  item_both t v = (
    λ (x, prefix, suffix, e, h, (ps, k, i)). subst (λ y. SpellsItem d t y) (sym i) (
      prefix,
      suffix,
      e,
      h,
      k,
    ),
    λ (prefix, suffix, e, h, k). (v.bare, prefix, suffix, e, h, (v.params, k, refl)),
  )

  pub item_starts : ReadsItem (SpellsItem d) (item_start d) None
  item_starts = reads_iff item_both (reads_first InBare (λ s g. g) (λ s t v. same) (bare_starts d))

  pub item_lives : (s : ItemState) → GoodItem s → Live Item (ResidualItem d s)
  item_lives (InBare s) g =
      let l = bare_lives s g in
      record {
        text = l.text;
        value = item l.value [];
        whole = (
          l.value,
          l.text,
          [],
          sym (append-nil l.text),
          l.whole,
          ([], no_raw d [] refl, refl),
        );
      }
  item_lives (InParams x s) g = let l = params_lives d s g in
      record { text = l.text; value = item x l.value; whole = (l.value, l.whole, refl) }

  -- An item that may end doesn't go on with what may be after it.
  pub item_apart : (s : ItemState) (v : Item) (b : ℕ) (t : ItemState) → item_finish s ≡ Some v
      → item_step d s b ≡ Some t → is_after b ≡ true → ⊥
  item_apart (InBare s) v b t e n f =
      let c = and_then_cases (bare_finish s) (λ x. Some (item x [])) v e in
      ⊎_elim
      (λ o. bare_apart s c.0 b o.0 c.1 o.1 (after_follows b f))
      (λ o. let k = map_cases (InParams o.0) (between_step [] b) t o.3 in
      between_apart [] b k.0 k.1 f)
      (onward_cases InBare (bare_step s b) (bare_finish s)
      (λ x. option_map (InParams x) (between_step [] b)) t n)
  item_apart (InParams x s) v b t e n f =
      let c = map_cases (item x) (params_finish s) v e in
      let k = map_cases (InParams x) (params_step d s b) t n in
      params_apart d s c.0 b k.0 c.1 k.1 f

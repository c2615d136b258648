-- Settled, the values that are read are those of sf_value's grammar.
use Rattle.std.proofs.Common.{◌≡◌, ◌-◌, length, Bool, ℕ, List, [], ◌∷◌, ◌++◌, refl, ap, ap₂, ◌∙◌, ◌⊎◌, inl, inr}
use Rattle.sf_value.specs.Ascii.{equals}
use Rattle.sf_value.specs.declared.dialect.Dialect.{Dialect}
use Rattle.sf_value.specs.declared.value.Bare.{Bare}
use Rattle.sf_value.specs.declared.value.Item.{Item}
use Rattle.sf_value.specs.declared.value.Member.{Member}
use Rattle.sf_value.specs.declared.value.Member.TheVariants as member
use Rattle.sf_value.specs.declared.value.Field.{Field}
use Rattle.sf_value.specs.declared.value.Field.TheVariants as field
use Rattle.sf_value.specs.declared.value.Kind.TheVariants as kind
use Rattle.sf_value.specs.Grammar.Fields.{SpellsField, SpellsEntry, flag, list_of, dict_of}
use Rattle.sf_value.specs.Grammar.InnerLists.{SpellsItems, SpellsInner, SpellsMember, inner}
use Rattle.sf_value.specs.Grammar.Items.{SpellsItem, item}
use Rattle.sf_value.specs.Grammar.Pairs.{Pairs, settle}
use Rattle.sf_value.specs.Grammar.Parameters.{SpellsRaw, SpellsParams}
use Rattle.sf_value.specs.Grammar.Tokens.{IsKey}
use Rattle.sf_value.specs.Grammar.Series.{SpellsCommas, SpellsSeries, SpellsWhole}
use Rattle.sf_scan.specs.Entries.{SpellsRawEntry, SpellsRawDict, SpellsKeyed, raw_flag}
use Rattle.sf_scan.specs.InnerLists.{SpellsRawInner, SpellsItemsBy}
use Rattle.sf_scan.specs.ItemFields.{SpellsRawField}
use Rattle.sf_scan.specs.Items.{RawItem, SpellsRawItem}
use Rattle.sf_scan.specs.Members.{RawMember, SpellsRawMember}
use Rattle.sf_scan.specs.Series.{SpellsRawList}
use Rattle.sf_scan.specs.Settled.{Settles, each_of, item_of, inner_of, member_of, entry_of}
use Rattle.sf_scan.specs.Settled.{item_field_of, list_field_of, dict_field_of}
use Rattle.sf_scan.specs.Stops.{Stops}
use Rattle.sf_scan.proofs.Languages.{SameTexts}
use Rattle.sf_scan.proofs.Wholes.{place_in}
use Rattle.sf_value.specs.Grammar.Lines.{IsPlace}

-- the same texts
pub settles_texts : {V W : Type 0} (L : List ℕ → V → Type 0) (M : List ℕ → W → Type 0) (of : V → W)
    → Settles L M of → SameTexts L M of
settles_texts L M of s = record {
  up = s.up;
  down = λ t w h. let k = s.down t w h in (k.0, k.2);
}

-- series of members
module _ {V W : Type 0} (L : List ℕ → V → Type 0) (M : List ℕ → W → Type 0) (of : V → W)
    (s : Settles L M of) where
  commas_up : (t : List ℕ) (vs : List V) → SpellsCommas L t vs → SpellsCommas M t (each_of of vs)
  commas_up t [] h = h
  commas_up t (v ∷ vs) h =
      (h.0, h.1, h.2, h.3, h.4, h.5, h.6, s.up h.2 v h.7, commas_up h.3 vs h.8)

  commas_down : (t : List ℕ) (ws : List W) → SpellsCommas M t ws
      → (vs : List V) × (ws ≡ each_of of vs) × SpellsCommas L t vs
  commas_down t [] h = ([], refl, h)
  commas_down t (w ∷ ws) h =
      let a = s.down h.2 w h.7 in
      let r = commas_down h.3 ws h.8 in (
        a.0 ∷ r.0,
        ap₂ (λ x y. x ∷ y) a.1 r.1,
        (h.0, h.1, h.2, h.3, h.4, h.5, h.6, a.2, r.2),
      )

  whole_up : (t : List ℕ) (vs : List V) → SpellsWhole L t vs → SpellsWhole M t (each_of of vs)
  whole_up t [] h = h
  whole_up t (v ∷ vs) h =
      let b : SpellsSeries L h.1 (v ∷ vs) = h.5 in (
        h.0,
        h.1,
        h.2,
        h.3,
        h.4,
        (b.0, b.1, b.2, s.up b.0 v b.3, commas_up b.1 vs b.4),
        h.6,
      )

  whole_down : (t : List ℕ) (ws : List W) → SpellsWhole M t ws
      → (vs : List V) × (ws ≡ each_of of vs) × SpellsWhole L t vs
  whole_down t [] h = ([], refl, h)
  whole_down t (w ∷ ws) h =
      let b : SpellsSeries M h.1 (w ∷ ws) = h.5 in
      let a = s.down b.0 w b.3 in
      let r = commas_down b.1 ws b.4 in (
        a.0 ∷ r.0,
        ap₂ (λ x y. x ∷ y) a.1 r.1,
        (h.0, h.1, h.2, h.3, h.4, (b.0, b.1, b.2, a.2, r.2), h.6),
      )

module _ (d : Dialect) where
  -- parameters
  pub settles_params : Settles (SpellsRaw d) (SpellsParams d) settle
  settles_params = record {
    up = λ t raw h. (raw, refl, h);
    down = λ t ps h. h;
  }

  -- Items
  pub settles_item : Settles (SpellsRawItem d) (SpellsItem d) item_of
  settles_item = record {
    up = λ t v h. (h.0, h.1, h.2, h.3, settles_params.up h.1 v.1 h.4);
    down = λ t i h.
        let p = settles_params.down h.1 i.params h.4 in
        ((i.bare, p.0), ap (λ ps. item i.bare ps) p.1, (h.0, h.1, h.2, h.3, p.2));
  }

  items_up : (least : ℕ) (t : List ℕ) (vs : List RawItem)
      → SpellsItemsBy (SpellsRawItem d) least t vs → SpellsItems d least t (each_of item_of vs)
  items_up least t [] h = h
  items_up least t (v ∷ vs) h =
      (h.0, h.1, h.2, h.3, h.4, h.5, settles_item.up h.1 v h.6, items_up 1 h.2 vs h.7)

  items_down : (least : ℕ) (t : List ℕ) (is : List Item) → SpellsItems d least t is
      → (vs : List RawItem) × (is ≡ each_of item_of vs) × SpellsItemsBy (SpellsRawItem d) least t vs
  items_down least t [] h = ([], refl, h)
  items_down least t (i ∷ is) h =
      let a = settles_item.down h.1 i h.6 in
      let r = items_down 1 h.2 is h.7 in (
        a.0 ∷ r.0,
        ap₂ (λ x y. x ∷ y) a.1 r.1,
        (h.0, h.1, h.2, h.3, h.4, h.5, a.2, r.2),
      )

  -- Inner Lists
  pub settles_inner : Settles (SpellsRawInner d) (SpellsInner d) inner_of
  settles_inner = record {
    up = λ t v h. (h.0, h.1, h.2, items_up 0 h.0 v.0 h.3, settles_params.up h.1 v.1 h.4);
    down = λ t l h.
        let is = items_down 0 h.0 l.items h.3 in
        let p = settles_params.down h.1 l.params h.4 in (
          (is.0, p.0),
          ap₂ (λ x y. inner x y) is.1 p.1,
          (h.0, h.1, h.2, is.2, p.2),
        );
  }

  -- members
  pub settles_member : Settles (SpellsRawMember d) (SpellsMember d) member_of
  settles_member = record { up = λ t v h. up t v h; down = λ t m h. down t m h }
    where
      up : (t : List ℕ) (v : RawMember) → SpellsRawMember d t v → SpellsMember d t (member_of v)
      up t (inl i) h = settles_item.up t i h
      up t (inr l) h = settles_inner.up t l h

      down : (t : List ℕ) (m : Member) → SpellsMember d t m
          → (v : RawMember) × (m ≡ member_of v) × SpellsRawMember d t v
      down t (member.Item i) h =
          let k = settles_item.down t i h in (inl k.0, ap member.Item k.1, k.2)
      down t (member.Inner l) h =
          let k = settles_inner.down t l h in (inr k.0, ap member.Inner k.1, k.2)

  pub settles_entry : Settles (SpellsRawEntry d) (SpellsEntry d) entry_of
  settles_entry = record {
    up = λ t p h. up t p h.1 (h.2 ∙ ap (λ k. k ++ h.1) h.3.0) h.3.1 h.4;
    down = λ t p h. down t p h.0 h.1 h.2;
  }
    where
      up : (t : List ℕ) (p : List ℕ × RawMember) (suffix : List ℕ) → t ≡ p.0 ++ suffix
          → IsKey p.0 → SpellsKeyed d suffix p.1 → SpellsEntry d t (entry_of p)
      up t p suffix e w (inl h) =
          (h.0, w, inl (e ∙ ap (λ z. p.0 ++ z) h.1, settles_member.up h.0 p.1 h.2))
      up t p suffix e w (inr h) = (
        suffix,
        w,
        inr (settle h.0, ap member_of h.1, e, settles_params.up suffix h.0 h.2),
      )

      down : (t : List ℕ) (p : List ℕ × Member) (suffix : List ℕ) → IsKey p.0
          → ((t ≡ p.0 ++ equals ∷ suffix) × SpellsMember d suffix p.1)
          ⊎ ((ps : Pairs Bare) × (p.1 ≡ flag ps) × (t ≡ p.0 ++ suffix) × SpellsParams d suffix ps)
          → (v : List ℕ × RawMember) × (p ≡ entry_of v) × SpellsRawEntry d t v
      down t p suffix w (inl h) =
          let k = settles_member.down suffix p.1 h.1 in (
            (p.0, k.0),
            ap (λ m. (p.0, m)) k.1,
            (p.0, equals ∷ suffix, h.0, (refl, w), inl (suffix, refl, k.2)),
          )
      down t p suffix w (inr h) =
          let k = settles_params.down suffix h.0 h.3 in (
            (p.0, raw_flag k.0),
            ap (λ m. (p.0, m)) (h.1 ∙ ap flag k.1),
            (p.0, suffix, h.2, (refl, w), inr (k.0, refl, k.2)),
          )

  -- whole fields
  pub settles_item_field : Settles (SpellsRawField d) (SpellsField d kind.Item) item_field_of
  settles_item_field = record {
    up = λ t v h. (h.0, h.1, h.2, h.3, h.4, settles_item.up h.1 v h.5, h.6);
    down = λ t f h. down t f h;
  }
    where
      down : (t : List ℕ) (f : Field) → SpellsField d kind.Item t f
          → (v : RawItem) × (f ≡ item_field_of v) × SpellsRawField d t v
      down t (field.Item i) h =
          let k = settles_item.down h.1 i h.5 in
          (k.0, ap field.Item k.1, (h.0, h.1, h.2, h.3, h.4, k.2, h.6))
      down t (field.List l) h = absurd h
      down t (field.Dict m) h = absurd h

  pub settles_list : Settles (SpellsRawList d) (SpellsField d kind.List) list_field_of
  settles_list = record {
    up = λ t ms h. whole_up (SpellsRawMember d) (SpellsMember d) member_of settles_member t ms h;
    down = λ t f h. down t f h;
  }
    where
      down : (t : List ℕ) (f : Field) → SpellsField d kind.List t f
          → (ms : List RawMember) × (f ≡ list_field_of ms) × SpellsRawList d t ms
      down t (field.List l) h =
          let k = whole_down (SpellsRawMember d) (SpellsMember d) member_of settles_member t l.members h in
          (k.0, ap list_of k.1, k.2)
      down t (field.Item i) h = absurd h
      down t (field.Dict m) h = absurd h

  pub settles_dict : Settles (SpellsRawDict d) (SpellsField d kind.Dict) dict_field_of
  settles_dict = record {
    up = λ t ps h. (
      each_of entry_of ps,
      refl,
      whole_up (SpellsRawEntry d) (SpellsEntry d) entry_of settles_entry t ps h,
    );
    down = λ t f h. down t f h;
  }
    where
      down : (t : List ℕ) (f : Field) → SpellsField d kind.Dict t f
          → (ps : Pairs RawMember) × (f ≡ dict_field_of ps) × SpellsRawDict d t ps
      down t (field.Dict m) h =
          let k = whole_down (SpellsRawEntry d) (SpellsEntry d) entry_of settles_entry t h.0 h.2 in
          (k.0, ap dict_of (h.1 ∙ ap settle k.1), k.2)
      down t (field.Item i) h = absurd h
      down t (field.List l) h = absurd h

-- the length before a stop is the place of a refusal, as sf_value defines it
pub item_place : (d : Dialect) (next : ℕ → Bool) (text left : List ℕ)
    → Stops (SpellsRawField d) next text left → IsPlace d kind.Item text (length text - length left)
item_place d =
    place_in (SpellsRawField d) (SpellsField d kind.Item) item_field_of
    (settles_texts (SpellsRawField d) (SpellsField d kind.Item) item_field_of (settles_item_field d))

pub list_place : (d : Dialect) (next : ℕ → Bool) (text left : List ℕ)
    → Stops (SpellsRawList d) next text left → IsPlace d kind.List text (length text - length left)
list_place d =
    place_in (SpellsRawList d) (SpellsField d kind.List) list_field_of
    (settles_texts (SpellsRawList d) (SpellsField d kind.List) list_field_of (settles_list d))

pub dict_place : (d : Dialect) (next : ℕ → Bool) (text left : List ℕ)
    → Stops (SpellsRawDict d) next text left → IsPlace d kind.Dict text (length text - length left)
dict_place d =
    place_in (SpellsRawDict d) (SpellsField d kind.Dict) dict_field_of
    (settles_texts (SpellsRawDict d) (SpellsField d kind.Dict) dict_field_of (settles_dict d))

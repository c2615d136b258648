-- Every text of parameters, Items, Inner Lists and fields keeps to the ABNF, between white space;
-- and a canonical text with none.
use Rattle.std.proofs.Common.{◌≡◌, ℕ, suc, true, false, List as Seq, [], ◌∷◌, ◌++◌}
use Rattle.std.proofs.Common.{refl, sym, ap, ◌∙◌, subst, inl, inr, append_assoc, append-nil}
use Rattle.std.specs.Prelude.{codes, drop}
use Rattle.sf_value.specs.declared.dialect.Dialect.{Dialect}
use Rattle.sf_value.specs.declared.value.Bare.{Bare}
use Rattle.sf_value.specs.declared.value.Bare.TheVariants.{Integer, Decimal, Text, Token, Blob}
use Rattle.sf_value.specs.declared.value.Bare.TheVariants.{Boolean, Date, Shown}
use Rattle.sf_value.specs.declared.value.Item.{Item}
use Rattle.sf_value.specs.declared.value.Inner.{Inner}
use Rattle.sf_value.specs.declared.value.Member.{Member}
use Rattle.sf_value.specs.declared.value.Member.TheVariants as member
use Rattle.sf_value.specs.declared.value.Field.{Field}
use Rattle.sf_value.specs.declared.value.Field.TheVariants as field
use Rattle.sf_value.specs.declared.value.Kind.{Kind}
use Rattle.sf_value.specs.declared.value.Kind.TheVariants as kind
use Rattle.sf_value.specs.Grammar.Words.{Each}
use Rattle.sf_value.specs.Grammar.Classes.{is_in_key}
use Rattle.sf_value.specs.Grammar.Pairs.{Pairs, settle}
use Rattle.sf_value.specs.Grammar.Tokens.{IsKey}
use Rattle.sf_value.specs.Grammar.Parameters.{SpellsValue, SpellsRaw, SpellsParams}
use Rattle.sf_value.specs.Grammar.Items.{SpellsItem}
use Rattle.sf_value.specs.Grammar.InnerLists.{SpellsItems, SpellsInner, SpellsMember}
use Rattle.sf_value.specs.Grammar.Series.{SpellsCommas, SpellsWhole}
use Rattle.sf_value.specs.Grammar.Fields.{SpellsEntry, SpellsField}
use Rattle.sf_value.specs.Grammar.Valid.{ValidBare, ValidParams, ValidMember, Valid}
use Rattle.sf_value.specs.Grammar.Canonical.{canon_params, canon_item, canon_bare, canon_inner}
use Rattle.sf_value.specs.Grammar.Canonical.{canon_member, canon_flag, canon_behind, canon_entry}
use Rattle.sf_value.specs.Grammar.Canonical.{canon_commas, canon_series, canon}
use Rattle.sf_value.proofs.CanonicalTexts.{each_map, member_canon}
use Rattle.sf_rfc.specs.Rfc9651.AbnfNotation.{Rule, text, either, then, many, some, optional}
use Rattle.sf_rfc.specs.Rfc9651.AbnfNotation.{SP, OWS}
use Rattle.sf_rfc.specs.Rfc9651.Abnf.{bare_item, key, parameters, sf_item, inner_list, list_member}
use Rattle.sf_rfc.specs.Rfc9651.Abnf.{with_commas, dict_member, sf_dictionary}
use Rattle.sf_rfc.specs.AbnfLaws.{if_sent, field_rule, white_space_after}
use Rattle.sf_rfc.proofs.AbnfCharacters.{key_start, in_key, every_many, spaces, some_spaces}
use Rattle.sf_rfc.proofs.AbnfCharacters.{white_space}
use Rattle.sf_rfc.proofs.AbnfBareItems.{bare_keeps}

key_keeps : (k : Seq ℕ) → IsKey k → key k
key_keeps [] h = absurd h
key_keeps (c ∷ k) h = (c ∷ [], k, refl, key_start c h.0, every_many is_in_key _ in_key k h.1)

-- OWS "," OWS P
abbrev comma_then : Rule → Rule
comma_then R = then OWS (then (text (codes ",")) (then OWS R))

commas_keep : {X : Type 0} (P : Seq ℕ → X → Type 0) (R : Rule)
    → ((t : Seq ℕ) (x : X) → P t x → R t)
    → (t : Seq ℕ) (xs : Seq X) → SpellsCommas P t xs → many (comma_then R) t
commas_keep P R f t [] e = (0, e)
commas_keep P R f t (x ∷ xs) (before, behind, prefix, suffix, e, g, h, p, k) =
    let (n, r) = commas_keep P R f suffix xs k in (
      suc n,
      (
        before ++ 44 ∷ (behind ++ prefix),
        suffix,
        e ∙ ap (λ y. before ++ 44 ∷ y) (sym (append_assoc behind prefix suffix))
            ∙ sym (append_assoc before (44 ∷ (behind ++ prefix)) suffix),
        (
          before,
          44 ∷ (behind ++ prefix),
          refl,
          white_space before g,
          (
            44 ∷ [],
            behind ++ prefix,
            refl,
            refl,
            (behind, prefix, refl, white_space behind h, f prefix x p),
          ),
        ),
        r,
      ),
    )

-- t is a text of the rule between SP and white space
abbrev pub Between : Rule → Rule → Seq ℕ → Type 0
Between R W t =
    (gap body tail : Seq ℕ) × (t ≡ gap ++ (body ++ tail)) × many SP gap × R body × W tail

whole_keeps : {X : Type 0} (P : Seq ℕ → X → Type 0) (R : Rule)
    → ((t : Seq ℕ) (x : X) → P t x → R t)
    → (t : Seq ℕ) (xs : Seq X) → SpellsWhole P t xs → Between (if_sent xs (with_commas R)) OWS t
whole_keeps P R f t [] h = (t, [], [], sym (append-nil t), spaces t h, refl, (0, refl))
whole_keeps P R f t (x ∷ xs) (gap, body, tail, e, g, (prefix, suffix, k, p, s), w) = (
  gap,
  body,
  tail,
  e,
  spaces gap g,
  (prefix, suffix, k, f prefix x p, commas_keep P R f suffix xs s),
  white_space tail w,
)

commas_canon : {X : Type 0} (R : Rule) (f : X → Seq ℕ) (xs : Seq X) → Each (λ x. R (f x)) xs
    → many (comma_then R) (canon_commas f xs)
commas_canon R f [] h = (0, refl)
commas_canon R f (x ∷ xs) h =
    let (n, r) = commas_canon R f xs h.1 in (
      suc n,
      (
        44 ∷ 32 ∷ f x,
        canon_commas f xs,
        refl,
        (
          [],
          44 ∷ 32 ∷ f x,
          refl,
          (0, refl),
          (
            44 ∷ [],
            32 ∷ f x,
            refl,
            refl,
            (32 ∷ [], f x, refl, white_space (32 ∷ []) (refl, tt), h.0),
          ),
        ),
        r,
      ),
    )

series_canon : {X : Type 0} (R : Rule) (f : X → Seq ℕ) (xs : Seq X) → Each (λ x. R (f x)) xs
    → if_sent xs (with_commas R) (canon_series f xs)
series_canon R f [] h = refl
series_canon R f (x ∷ xs) h = (f x, canon_commas f xs, refl, h.0, commas_canon R f xs h.1)

-- members are sent, settled or not
settled_sent : {V : Type 0} (R : Rule) (t : Seq ℕ) (raw : Pairs V) → if_sent raw R t
    → if_sent (settle raw) R t
settled_sent R t [] h = h
settled_sent R t (p ∷ raw) h = h

module _ (d : Dialect) where
  value_keeps : (t : Seq ℕ) (x : Bare) → SpellsValue d t x
      → optional (then (text (codes "=")) (bare_item d)) t
  value_keeps t x (inl (e, f)) = inl f
  value_keeps t x (inr (suffix, e, h)) = inr (61 ∷ [], suffix, e, refl, bare_keeps d suffix x h)

  raw_keeps : (t : Seq ℕ) (raw : Pairs Bare) → SpellsRaw d t raw → parameters d t
  raw_keeps t [] e = (0, e)
  raw_keeps t (p ∷ raw) (prefix, suffix, e, (gap, value, f, g, w, v), k) =
      let (n, r) = raw_keeps suffix raw k in (
        suc n,
        (
          prefix,
          suffix,
          e,
          (
            59 ∷ [],
            gap ++ (p.0 ++ value),
            f,
            refl,
            (
              gap,
              p.0 ++ value,
              refl,
              spaces gap g,
              (p.0, value, refl, key_keeps p.0 w, value_keeps value p.1 v),
            ),
          ),
          r,
        ),
      )

  params_keep : (t : Seq ℕ) (ps : Pairs Bare) → SpellsParams d t ps → parameters d t
  params_keep t ps (raw, e, h) = raw_keeps t raw h

  item_keeps : (t : Seq ℕ) (i : Item) → SpellsItem d t i → sf_item d t
  item_keeps t i (prefix, suffix, e, h, k) =
      (prefix, suffix, e, bare_keeps d prefix i.bare h, params_keep suffix i.params k)

  -- the Items of an Inner List after the first, and SP
  more_keep : (t : Seq ℕ) (is : Seq Item) → SpellsItems d 1 t is
      → then (many (then (some SP) (sf_item d))) (many SP) t
  more_keep t [] h = ([], t, refl, (0, refl), spaces t h)
  more_keep t (i ∷ is) (gap, prefix, suffix, e, g, l, h, k) =
      let (before, behind, f, (n, r), s) = more_keep suffix is k in (
        (gap ++ prefix) ++ before,
        behind,
        e ∙ ap (λ y. gap ++ (prefix ++ y)) f ∙ sym (append_assoc gap prefix (before ++ behind))
            ∙ sym (append_assoc (gap ++ prefix) before behind),
        (
          suc n,
          (
            gap ++ prefix,
            before,
            refl,
            (gap, prefix, refl, some_spaces gap l g, item_keeps prefix i h),
            r,
          ),
        ),
        s,
      )

  inner_items : (body suffix : Seq ℕ) (is : Seq Item) → SpellsItems d 0 body is
      → parameters d suffix
      → then (many SP) (then (optional (then (sf_item d)
      (then (many (then (some SP) (sf_item d))) (many SP))))
      (then (text (codes ")")) (parameters d))) (body ++ 41 ∷ suffix)
  inner_items body suffix [] h k = (
    body,
    41 ∷ suffix,
    refl,
    spaces body h,
    ([], 41 ∷ suffix, refl, inl refl, (41 ∷ [], suffix, refl, refl, k)),
  )
  inner_items body suffix (i ∷ is) (gap, prefix, more, e, g, l, h, s) k = (
    gap,
    (prefix ++ more) ++ 41 ∷ suffix,
    ap (λ y. y ++ 41 ∷ suffix) e ∙ append_assoc gap (prefix ++ more) (41 ∷ suffix),
    spaces gap g,
    (
      prefix ++ more,
      41 ∷ suffix,
      refl,
      inr (prefix, more, refl, item_keeps prefix i h, more_keep more is s),
      (41 ∷ [], suffix, refl, refl, k),
    ),
  )

  inner_keeps : (t : Seq ℕ) (l : Inner) → SpellsInner d t l → inner_list d t
  inner_keeps t l (body, suffix, e, h, k) = (
    40 ∷ [],
    body ++ 41 ∷ suffix,
    e,
    refl,
    inner_items body suffix l.items h (params_keep suffix l.params k),
  )

  member_keeps : (t : Seq ℕ) (m : Member) → SpellsMember d t m → list_member d t
  member_keeps t (member.Item i) h = inl (item_keeps t i h)
  member_keeps t (member.Inner l) h = inr (inner_keeps t l h)

  entry_keeps : (t : Seq ℕ) (p : Seq ℕ × Member) → SpellsEntry d t p → dict_member d t
  entry_keeps t p (suffix, w, inl (e, h)) = (
    p.0,
    61 ∷ suffix,
    e,
    key_keeps p.0 w,
    inr (61 ∷ [], suffix, refl, refl, member_keeps suffix p.1 h),
  )
  entry_keeps t p (suffix, w, inr (ps, f, e, h)) =
      (p.0, suffix, e, key_keeps p.0 w, inl (params_keep suffix ps h))

  pub spelled_keeps : (kind : Kind) (t : Seq ℕ) (v : Field) → SpellsField d kind t v
      → Between (field_rule d v) (white_space_after v) t
  spelled_keeps kind.Item t (field.Item i) (gap, body, tail, e, g, h, w) =
      (gap, body, tail, e, spaces gap g, item_keeps body i h, spaces tail w)
  spelled_keeps kind.List t (field.List l) h =
      whole_keeps (SpellsMember d) (list_member d) member_keeps t l.members h
  spelled_keeps kind.Dict t (field.Dict m) (raw, e, h) =
      let (gap, body, tail, f, g, k, w) =
      whole_keeps (SpellsEntry d) (dict_member d) entry_keeps t raw h in (
        gap,
        body,
        tail,
        f,
        g,
        subst (λ ms. if_sent ms (sf_dictionary d) body) (sym e)
            (settled_sent (sf_dictionary d) body raw k),
        w,
      )
  spelled_keeps kind t v h = elim h [ ]

  -- canonical texts
  params_canon : (ps : Pairs Bare) → ValidParams d ps → parameters d (canon_params ps)
  params_canon ps h =
      let (prefix, suffix, e, b, k) =
      member_canon d (member.Item (record { bare = Boolean true; params = ps })) (tt, h) in
      let same : canon_params ps ≡ suffix = ap (λ y. drop 2 y) (e ∙ ap (λ y. y ++ suffix) b) in
      subst (parameters d) (sym same) (params_keep suffix ps k)

  -- "=" and an Item after a key
  value_canon : (x : Bare) (ps : Pairs Bare) → ValidBare d x → ValidParams d ps
      → then (text (codes "=")) (list_member d) (61 ∷ (canon_bare x ++ canon_params ps))
  value_canon x ps h g =
      let i : Item = record { bare = x; params = ps } in
      let k = member_canon d (member.Item i) (h, g) in
      (61 ∷ [], canon_item i, refl, refl, inl (item_keeps (canon_item i) i k))

  flag_canon : (x : Bare) (ps : Pairs Bare) → ValidBare d x → ValidParams d ps
      → either (parameters d) (then (text (codes "=")) (list_member d)) (canon_flag x ps)
  flag_canon (Boolean true) ps h g = inl (params_canon ps g)
  flag_canon (Boolean false) ps h g = inr (value_canon (Boolean false) ps h g)
  flag_canon (Integer n) ps h g = inr (value_canon (Integer n) ps h g)
  flag_canon (Decimal m) ps h g = inr (value_canon (Decimal m) ps h g)
  flag_canon (Text s) ps h g = inr (value_canon (Text s) ps h g)
  flag_canon (Token s) ps h g = inr (value_canon (Token s) ps h g)
  flag_canon (Blob s) ps h g = inr (value_canon (Blob s) ps h g)
  flag_canon (Date n) ps h g = inr (value_canon (Date n) ps h g)
  flag_canon (Shown s) ps h g = inr (value_canon (Shown s) ps h g)

  after_canon : (m : Member) → ValidMember d m
      → either (parameters d) (then (text (codes "=")) (list_member d)) (canon_behind m)
  after_canon (member.Item i) h = flag_canon i.bare i.params h.0 h.1
  after_canon (member.Inner l) h = inr (
    61 ∷ [],
    canon_inner l,
    refl,
    refl,
    inr (inner_keeps (canon_inner l) l (member_canon d (member.Inner l) h)),
  )

  pub canon_keeps : (kind : Kind) (v : Field) → Valid d kind v → field_rule d v (canon v)
  canon_keeps kind.Item (field.Item i) h =
      item_keeps (canon_item i) i (member_canon d (member.Item i) h)
  canon_keeps kind.List (field.List l) h =
      series_canon (list_member d) canon_member l.members
      (each_map (ValidMember d) (λ m. list_member d (canon_member m))
      (λ m k. member_keeps (canon_member m) m (member_canon d m k)) l.members h)
  canon_keeps kind.Dict (field.Dict m) h =
      series_canon (dict_member d) canon_entry m.members
      (each_map (λ p. IsKey p.0 × ValidMember d p.1) (λ p. dict_member d (canon_entry p))
      (λ p k. (p.0, canon_behind p.1, refl, key_keeps p.0 k.0, after_canon p.1 k.1)) m.members h.0)
  canon_keeps kind v h = elim h [ ]

-- What a text spells is valid.
use Rattle.std.proofs.Common.{◌≡◌, ℕ, zero, suc, ◌+◌, ◌-◌, ◌*◌, ◌^◌, ◌<◌, ◌≤◌, ℤ, nat_abs, Bool}
use Rattle.std.proofs.Common.{true, false, if◌then◌else◌, List, [], ◌∷◌, length, refl, sym, ap, ◌∙◌}
use Rattle.std.proofs.Common.{subst, inl, inr, arith, mul-le-mul_right}
use Rattle.std.proofs.Math.Nat.{pow-le-pow_right}
use Rattle.std.proofs.lemmas.Bool.{cond_both}
use Rattle.std.specs.Str.{bytes_eq}
use Rattle.sf_value.specs.declared.value.Member.TheVariants as member
use Rattle.sf_value.specs.declared.value.Field.TheVariants as field
use Rattle.sf_value.specs.declared.value.Kind.TheVariants as kind
use Rattle.sf_value.specs.Grammar.Words.{Every, Each}
use Rattle.sf_value.specs.Grammar.Classes.{is_digit, is_byte}
use Rattle.sf_value.specs.Grammar.Pairs.{Pairs, latest, without, settle}
use Rattle.sf_value.specs.Grammar.Numbers.{signed, value_from, SpellsInteger, SpellsDecimal}
use Rattle.sf_value.specs.Grammar.Tokens.{IsKey}
use Rattle.sf_value.specs.Grammar.DisplayStrings.{is_unencoded, EncodedBytes}
use Rattle.sf_value.specs.Grammar.BareItems.{SpellsBare}
use Rattle.sf_value.specs.Grammar.Parameters.{SpellsValue, SpellsRaw, SpellsParams}
use Rattle.sf_value.specs.Grammar.Items.{SpellsItem}
use Rattle.sf_value.specs.Grammar.InnerLists.{SpellsItems, SpellsMember}
use Rattle.sf_value.specs.Grammar.Series.{SpellsCommas, SpellsWhole}
use Rattle.sf_value.specs.Grammar.Fields.{SpellsEntry, SpellsField}
use Rattle.sf_value.specs.Grammar.Valid.{ValidBare, ValidParams, ValidItem, ValidMember}
use Rattle.sf_value.specs.Grammar.Valid.{ValidEntries, Valid}
use Rattle.sf_value.specs.declared.dialect.Dialect.{Dialect}
use Rattle.sf_value.specs.declared.value.Bare.{Bare}
use Rattle.sf_value.specs.declared.value.Bare.TheVariants.{Integer, Decimal, Text, Token, Blob}
use Rattle.sf_value.specs.declared.value.Bare.TheVariants.{Boolean, Date, Shown}
use Rattle.sf_value.specs.declared.value.Item.{Item}
use Rattle.sf_value.specs.declared.value.Member.{Member}
use Rattle.sf_value.specs.declared.value.Field.{Field}
use Rattle.sf_value.specs.declared.value.Kind.{Kind}
use Rattle.sf_value.proofs.Settling.{distinct-settle}

digit_small : (d : ℕ) → is_digit d ≡ true → d - 48 < 10
digit_small d e = grind arith

scaled : (v x a p : ℕ) → v < (x + 1) * p → (x + 1) * p ≤ (10 * a + 10) * p → v < (a + 1) * (10 * p)
scaled v x a p h k = omega arith

value_bound : (a : ℕ) (w : List ℕ) → Every is_digit w → value_from a w < (a + 1) * 10 ^ length w
value_bound a [] h = omega arith
value_bound a (d ∷ w) h =
    let k = digit_small d h.0 in
    let c : 10 * a + (d - 48) + 1 ≤ 10 * a + 10 = omega arith in
    let e : 10 ^ suc (length w) ≡ 10 * 10 ^ length w = omega arith in
    subst (λ y. value_from (10 * a + (d - 48)) w < (a + 1) * y) (sym e)
    (scaled _ (10 * a + (d - 48)) a (10 ^ length w) (value_bound (10 * a + (d - 48)) w h.1)
    (mul-le-mul_right (10 ^ length w) c))

pub digits_bound : (w : List ℕ) (k : ℕ) → Every is_digit w → length w ≤ k → value_from 0 w < 10 ^ k
digits_bound w k h l =
    let b = value_bound 0 w h in
    let p : 10 ^ length w ≤ 10 ^ k = pow-le-pow_right (omega arith) l in
    omega arith

pub signed_abs : (neg : Bool) (n : ℕ) → nat_abs (signed neg n) ≡ n
signed_abs neg n = grind arith

integer_valid : (n : ℤ) (t : List ℕ) → SpellsInteger t n → nat_abs n < 10 ^ 15
integer_valid n t (neg, w, e, d, i) = subst (λ y. y < 10 ^ 15) (sym (ap nat_abs i
    ∙ signed_abs neg (value_from 0 w))) (digits_bound w 15 d.each (let f = d.fits in omega arith))

pub scaled_bound : (v k : ℕ) → 1 ≤ k → k ≤ 3 → v < 10 ^ k → v * 10 ^ (3 - k) < 1000
scaled_bound v (suc zero) l h e = omega arith
scaled_bound v (suc (suc zero)) l h e = omega arith
scaled_bound v (suc (suc (suc zero))) l h e = omega arith
scaled_bound v k l h e = absurd (omega arith)

decimal_valid : (m : ℤ) (t : List ℕ) → SpellsDecimal t m → nat_abs m < 10 ^ 15
decimal_valid m t (neg, w, f, e, d, d', i) =
    let a = digits_bound w 12 d.each (let f = d.fits in omega arith) in
    let b = digits_bound f (length f) d'.each (omega arith) in
    let c = scaled_bound (value_from 0 f) (length f) (let g = d'.enough in
    omega arith) (let g = d'.fits in omega arith) b in
    subst (λ y. y < 10 ^ 15) (sym (ap nat_abs i
    ∙ signed_abs neg (value_from 0 w * 1000 + value_from 0 f * 10 ^ (3 - length f))))
    (omega arith)

unencoded_byte : (c : ℕ) → is_unencoded c ≡ true → is_byte c ≡ true
unencoded_byte c e = grind arith

visible_bytes : (s t : List ℕ) → EncodedBytes t s → Every is_byte s
visible_bytes [] t p = tt
visible_bytes (c ∷ s) t (suffix, inl (k, e), p) = (unencoded_byte c k, visible_bytes s suffix p)
visible_bytes (c ∷ s) t (suffix, inr (k, e), p) = (k, visible_bytes s suffix p)

-- settled entries hold pairs of the raw list
module _ {V : Type 0} (P : List ℕ → Type 0) (Q : V → Type 0) where
  abbrev Hold : Pairs V → Type 0
  Hold ps = Each (λ p. P p.0 × Q p.1) ps

  latest_valid : (k : List ℕ) (v : V) (ps : Pairs V) → Q v → Hold ps → Q (latest k v ps)
  latest_valid k v [] q h = q
  latest_valid k v (p ∷ ps) q h =
      latest_valid k (if bytes_eq k p.0 then p.1 else v) ps
      (cond_both (bytes_eq k p.0) p.1 v Q (λ _. h.0.1) (λ _. q)) h.1

  without_valid : (k : List ℕ) (ps : Pairs V) → Hold ps → Hold (without k ps)
  without_valid k [] h = tt
  without_valid k (p ∷ ps) h = go (bytes_eq k p.0) refl (without_valid k ps h.1)
    where
      go : (b : Bool) → bytes_eq k p.0 ≡ b → Hold (without k ps) → Hold (without k (p ∷ ps))
      go true e r = rw e r
      go false e r = rw e (h.0, r)

  settle_valid : (ps : Pairs V) → Hold ps → Hold (settle ps)
  settle_valid [] h = tt
  settle_valid (p ∷ ps) h = (
    (h.0.0, latest_valid p.0 p.1 ps h.0.1 h.1),
    without_valid p.0 (settle ps) (settle_valid ps h.1),
  )

commas_valid : {X : Type 0} (P : List ℕ → X → Type 0) (Q : X → Type 0)
    → ((x : X) (t : List ℕ) → P t x → Q x) → (xs : List X) (t : List ℕ) → SpellsCommas P t xs
    → Each Q xs
commas_valid P Q g [] t h = tt
commas_valid P Q g (x ∷ xs) t (before, behind, prefix, suffix, e, f, f2, s, c) = (
  g x prefix s,
  commas_valid P Q g xs suffix c,
)

whole_valid : {X : Type 0} (P : List ℕ → X → Type 0) (Q : X → Type 0)
    → ((x : X) (t : List ℕ) → P t x → Q x) → (xs : List X) (t : List ℕ) → SpellsWhole P t xs
    → Each Q xs
whole_valid P Q g [] t h = tt
whole_valid P Q g (x ∷ xs) t (gap, body, tail, e, f, (prefix, suffix, e1, s, c), w) = (
  g x prefix s,
  commas_valid P Q g xs suffix c,
)

module _ (d : Dialect) where
  bare_valid : (x : Bare) (t : List ℕ) → SpellsBare d t x → ValidBare d x
  bare_valid (Integer n) t h = integer_valid n t h
  bare_valid (Decimal m) t h = decimal_valid m t h
  bare_valid (Text s) t h = h.1
  bare_valid (Token s) t h = h.1
  bare_valid (Blob s) t (suffix, e, (low, b, lt, e1, f, p)) = f
  bare_valid (Boolean b) t h = tt
  bare_valid (Date n) t (on, (suffix, e, h)) = (on, integer_valid n suffix h)
  bare_valid (Shown s) t (on, (suffix, e, p, w)) = (on, w, visible_bytes s suffix p)

  value_valid : (x : Bare) (t : List ℕ) → SpellsValue d t x → ValidBare d x
  value_valid x t (inl (e, n)) = subst (ValidBare d) (sym e) tt
  value_valid x t (inr (suffix, e, h)) = bare_valid x suffix h

  raw_valid : (ps : Pairs Bare) (t : List ℕ) → SpellsRaw d t ps
      → Each (λ p. IsKey p.0 × ValidBare d p.1) ps
  raw_valid [] t h = tt
  raw_valid (p ∷ ps) t (
    prefix,
    suffix,
    e,
    (gap, value, e1, f, i, s),
    r,
  ) = ((i, value_valid p.1 value s), raw_valid ps suffix r)

  params_valid : (ps : Pairs Bare) (t : List ℕ) → SpellsParams d t ps → ValidParams d ps
  params_valid ps t (
    raw,
    e,
    h,
  ) = subst (ValidParams d) (sym e) (
    settle_valid IsKey (ValidBare d) raw (raw_valid raw t h),
    distinct-settle raw,
  )

  item_valid : (i : Item) (t : List ℕ) → SpellsItem d t i → ValidItem d i
  item_valid i t (prefix, suffix, e, h, k) =
      (bare_valid i.bare prefix h, params_valid i.params suffix k)

  items_valid : (least : ℕ) (is : List Item) (t : List ℕ) → SpellsItems d least t is
      → Each (ValidItem d) is
  items_valid least [] t h = tt
  items_valid least (i ∷ is) t (gap, prefix, suffix, e, f, z, s, r) = (
    item_valid i prefix s,
    items_valid 1 is suffix r,
  )

  member_valid : (m : Member) (t : List ℕ) → SpellsMember d t m → ValidMember d m
  member_valid (member.Item i) t h = item_valid i t h
  member_valid (member.Inner l) t (body, suffix, e, s, k) = (
    items_valid 0 l.items body s,
    params_valid l.params suffix k,
  )

  entry_valid : (p : List ℕ × Member) (t : List ℕ) → SpellsEntry d t p
      → IsKey p.0 × ValidMember d p.1
  entry_valid p t (suffix, w, inl (e, s)) = (w, member_valid p.1 suffix s)
  entry_valid p t (suffix, w, inr (ps, i, e, s)) = (
    w,
    subst (ValidMember d) (sym i) (tt, params_valid ps suffix s),
  )

  -- what a text spells is valid
  pub spelled_valid : (kind : Kind) (v : Field) (t : List ℕ) → SpellsField d kind t v
      → Valid d kind v
  spelled_valid kind.Item (field.Item i) t (gap, body, tail, e, f, s, w) = item_valid i body s
  spelled_valid kind.List (field.List l) t h =
      whole_valid (SpellsMember d) (ValidMember d) member_valid l.members t h
  spelled_valid kind.Dict (field.Dict m) t (raw, e, h) =
      subst (ValidEntries d) (sym e) (
        settle_valid IsKey (ValidMember d) raw
            (whole_valid (SpellsEntry d) (λ p. IsKey p.0 × ValidMember d p.1) entry_valid raw t h),
        distinct-settle raw,
      )
  spelled_valid kind v t h = elim h [ ]

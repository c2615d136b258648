-- The canonical text of a valid value spells it.
use Rattle.std.proofs.Common.{◌≡◌, ℕ, suc, ◌+◌, ◌-◌, ◌*◌, ◌/◌, ◌%◌, ◌^◌, ◌<◌, ◌≤◌, ℤ, pos, negsuc}
use Rattle.std.proofs.Common.{nat_abs, Bool, true, false, ◌==◌, List, [], ◌∷◌, ◌++◌, length}
use Rattle.std.proofs.Common.{replicate, decimal, refl, sym, ap, ap₂, ◌∙◌, inl, inr, append-nil}
use Rattle.std.proofs.Common.{append_assoc, arith, le_refl, length-append, eqb-true}
use Rattle.std.specs.Fmt.{signed_decimal}
use Rattle.std.proofs.lemmas.Fmt.{decimal_by_steps, length-decimal-le}
use Rattle.sf_value.specs.declared.value.Member.TheVariants as member
use Rattle.sf_value.specs.declared.value.Field.TheVariants as field
use Rattle.sf_value.specs.declared.value.Kind.TheVariants as kind
use Rattle.sf_value.specs.Grammar.Words.{Every, Each}
use Rattle.sf_value.proofs.Words.{every_push}
use Rattle.sf_value.specs.Grammar.Classes.{is_digit, is_byte}
use Rattle.sf_value.specs.Grammar.Pairs.{Pairs}
use Rattle.sf_value.specs.Grammar.Numbers.{signed, value_from, AreDigits, SpellsInteger}
use Rattle.sf_value.specs.Grammar.Numbers.{SpellsDecimal}
use Rattle.sf_value.specs.Grammar.Tokens.{IsKey}
use Rattle.sf_value.specs.Grammar.ByteSequences.{unpadded, spare, needed}
use Rattle.sf_value.specs.Grammar.DisplayStrings.{is_unencoded, EncodedBytes}
use Rattle.sf_value.specs.Grammar.BareItems.{SpellsBare}
use Rattle.sf_value.specs.Grammar.Parameters.{SpellsValue, SpellsRaw, SpellsParams}
use Rattle.sf_value.specs.Grammar.Items.{SpellsItem}
use Rattle.sf_value.specs.Grammar.InnerLists.{SpellsItems, SpellsInner, SpellsMember}
use Rattle.sf_value.specs.Grammar.Series.{SpellsCommas, SpellsWhole}
use Rattle.sf_value.specs.Grammar.Fields.{SpellsEntry, SpellsField}
use Rattle.sf_value.specs.Grammar.Valid.{ValidBare, ValidParams, ValidItem, ValidMember, Valid}
use Rattle.sf_value.specs.Grammar.Canonical.{is_negative, fraction, canon_decimal, canon_shown}
use Rattle.sf_value.specs.Grammar.Canonical.{canon_bare, canon_value, canon_params, canon_item}
use Rattle.sf_value.specs.Grammar.Canonical.{canon_more, canon_items, canon_inner, canon_member}
use Rattle.sf_value.specs.Grammar.Canonical.{canon_flag, canon_entry, canon_commas, canon_series}
use Rattle.sf_value.specs.Grammar.Canonical.{canon}
use Rattle.sf_value.specs.declared.dialect.Dialect.{Dialect}
use Rattle.sf_value.specs.declared.value.Bare.{Bare}
use Rattle.sf_value.specs.declared.value.Bare.TheVariants.{Integer, Decimal, Text, Token, Blob}
use Rattle.sf_value.specs.declared.value.Bare.TheVariants.{Boolean, Date, Shown}
use Rattle.sf_value.specs.declared.value.Item.{Item}
use Rattle.sf_value.specs.declared.value.Inner.{Inner}
use Rattle.sf_value.specs.declared.value.Member.{Member}
use Rattle.sf_value.specs.declared.value.Field.{Field}
use Rattle.sf_value.specs.declared.value.Kind.{Kind}
use Rattle.sf_value.proofs.Settling.{settle-distinct}

-- the digits of a number
record Numeral (n : ℕ) (w : List ℕ) : Type 0 where
  each : Every is_digit w
  value : value_from 0 w ≡ n
  some : 1 ≤ length w

digit_is : (d : ℕ) → d < 10 → is_digit (48 + d) ≡ true
digit_is d h = grind arith

value_push : (a : ℕ) (w : List ℕ) (d : ℕ)
    → value_from a (w ++ d ∷ []) ≡ 10 * value_from a w + (d - 48)
value_push a [] d = refl
value_push a (c ∷ w) d = value_push (10 * a + (c - 48)) w d

one_digit : (n : ℕ) → n < 10 → Numeral n ((48 + n) ∷ [])
one_digit n h = record { each = (digit_is n h, tt); value = omega arith; some = omega arith }

more_digits : (n : ℕ) (w : List ℕ) → 10 ≤ n → Numeral (n / 10) w
    → Numeral n (w ++ ((48 + n % 10) ∷ []))
more_digits n w h k = record {
  each = every_push is_digit w (48 + n % 10) k.each (digit_is (n % 10) (omega arith));
  value = value_push 0 w (48 + n % 10) ∙ ap (λ y. 10 * y + (48 + n % 10 - 48)) k.value
      ∙ (let e : 10 * (n / 10) + (48 + n % 10 - 48) ≡ n = omega arith in e);
  some = omega (arith, length-append w ((48 + n % 10) ∷ []));
}

numeral : (n : ℕ) → n < 2 ^ 64 → Numeral n (decimal n)
numeral = decimal_by_steps Numeral one_digit more_digits

digits : (n k : ℕ) → n < 10 ^ k → n < 2 ^ 64 → 1 ≤ k → AreDigits 1 k 0 (decimal n)
digits n k h s l =
    let d = numeral n s in
    record {
      each = d.each;
      enough = omega (arith, d.some);
      fits = omega (arith, length-decimal-le k n l h s);
    }

small : (n k : ℕ) → n < 10 ^ 15 → n < 2 ^ 64
small n k h = omega arith

canon_integer : (n : ℤ) → nat_abs n < 10 ^ 15 → SpellsInteger (signed_decimal n) n
canon_integer (pos n) h = let s = small n 0 h in
    (false, decimal n, refl, digits n 15 h s (omega arith), ap pos (sym (numeral n s).value))
canon_integer (negsuc n) h = let s = small (suc n) 0 h in (
  true,
  decimal (suc n),
  refl,
  digits (suc n) 15 h s (omega arith),
  ap (signed true) (sym (numeral (suc n) s).value),
)

-- the digits after the point
record Fraction (f : ℕ) (w : List ℕ) : Type 0 where
  digits : AreDigits 1 3 0 w
  value : value_from 0 w * 10 ^ (3 - length w) ≡ f

one_place : (f : ℕ) → f < 1000 → f % 100 ≡ 0 → Fraction f ((48 + f / 100) ∷ [])
one_place f h e = record {
  digits = record {
    each = (digit_is (f / 100) (omega arith), tt);
    enough = omega arith;
    fits = omega arith;
  };
  value = omega arith;
}

two_places : (f : ℕ) → f < 1000 → f % 10 ≡ 0 → Fraction f ((48 + f / 100) ∷ (48 + f / 10 % 10) ∷ [])
two_places f h e = record {
  digits = record {
    each = (digit_is (f / 100) (omega arith), (digit_is (f / 10 % 10) (omega arith), tt));
    enough = omega arith;
    fits = omega arith;
  };
  value = omega arith;
}

three_places : (f : ℕ) → f < 1000
    → Fraction f ((48 + f / 100) ∷ (48 + f / 10 % 10) ∷ (48 + f % 10) ∷ [])
three_places f h = record {
  digits = record {
    each = (
      digit_is (f / 100) (omega arith),
      (digit_is (f / 10 % 10) (omega arith), (digit_is (f % 10) (omega arith), tt)),
    );
    enough = omega arith;
    fits = omega arith;
  };
  value = omega arith;
}

fraction_is : (f : ℕ) → f < 1000 → Fraction f (fraction f)
fraction_is f h = go (f % 100 == 0) (f % 10 == 0) refl refl
  where
    go : (a b : Bool) → (f % 100 == 0) ≡ a → (f % 10 == 0) ≡ b → Fraction f (fraction f)
    go true b e d = rw e (one_place f h (eqb-true (f % 100) 0 e))
    go false true e d = rw (e, d) (two_places f h (eqb-true (f % 10) 0 d))
    go false false e d = rw (e, d) (three_places f h)

sign_mag : (m : ℤ) → m ≡ signed (is_negative m) (nat_abs m)
sign_mag m = grind arith

canon_dec : (m : ℤ) → nat_abs m < 10 ^ 15 → SpellsDecimal (canon_decimal m) m
canon_dec m h =
    let q = nat_abs m / 1000 in
    let f = nat_abs m % 1000 in
    let hq : q < 10 ^ 12 = omega arith in
    let hs : q < 2 ^ 64 = omega arith in
    let k = fraction_is f (omega arith) in
    let n = numeral q hs in
    let e : nat_abs m ≡ q * 1000 + f = omega arith in (
      is_negative m,
      decimal q,
      fraction f,
      refl,
      digits q 12 hq hs (omega arith),
      k.digits,
      sign_mag m
          ∙ ap (signed (is_negative m)) (e ∙ ap₂ (λ x y. x * 1000 + y) (sym n.value) (sym k.value)),
    )

shown_bytes : (s : List ℕ) → Every is_byte s → EncodedBytes (canon_shown s) s
shown_bytes [] h = refl
shown_bytes (c ∷ s) h = go (is_unencoded c) refl (shown_bytes s h.1)
  where
    go : (p : Bool) → is_unencoded c ≡ p → EncodedBytes (canon_shown s) s
        → EncodedBytes (canon_shown (c ∷ s)) (c ∷ s)
    go true e k = (canon_shown s, inl (e, rw e refl), k)
    go false e k = (canon_shown s, inr (h.0, rw e refl), k)

zero_spare : (s : List ℕ) → 0 < spare s
zero_spare (a ∷ b ∷ c ∷ s) = zero_spare s
zero_spare s = omega arith

commas_canon : {X : Type 0} (P : List ℕ → X → Type 0) (f : X → List ℕ) (xs : List X)
    → Each (λ x. P (f x) x) xs → SpellsCommas P (canon_commas f xs) xs
commas_canon P f [] h = refl
commas_canon P f (x ∷ xs) h = (
  [],
  32 ∷ [],
  f x,
  canon_commas f xs,
  refl,
  tt,
  (refl, tt),
  h.0,
  commas_canon P f xs h.1,
)

whole_canon : {X : Type 0} (P : List ℕ → X → Type 0) (f : X → List ℕ) (xs : List X)
    → Each (λ x. P (f x) x) xs → SpellsWhole P (canon_series f xs) xs
whole_canon P f [] h = tt
whole_canon P f (x ∷ xs) h = (
  [],
  canon_series f (x ∷ xs),
  [],
  sym (append-nil (canon_series f (x ∷ xs))),
  tt,
  (f x, canon_commas f xs, refl, h.0, commas_canon P f xs h.1),
  tt,
)

pub each_map : {X : Type 0} (P Q : X → Type 0) → ((x : X) → P x → Q x) → (xs : List X) → Each P xs
    → Each Q xs
each_map P Q g [] h = tt
each_map P Q g (x ∷ xs) h = (g x h.0, each_map P Q g xs h.1)

module _ (d : Dialect) where
  bare_canon : (x : Bare) → ValidBare d x → SpellsBare d (canon_bare x) x
  bare_canon (Integer n) h = canon_integer n h
  bare_canon (Decimal m) h = canon_dec m h
  bare_canon (Text s) h = (refl, h)
  bare_canon (Token s) h = (refl, h)
  bare_canon (Blob s) h = (
    unpadded 0 s ++ (replicate (needed s) 61 ++ 58 ∷ []),
    refl,
    (
      0,
      replicate (needed s) 61 ++ 58 ∷ [],
      zero_spare s,
      refl,
      h,
      (needed s, le_refl (needed s), refl),
    ),
  )
  bare_canon (Boolean b) h = refl
  bare_canon (Date n) h = (h.0, (signed_decimal n, refl, canon_integer n h.1))
  bare_canon (Shown s) h = (h.0, (canon_shown s, refl, shown_bytes s h.2, h.1))

  value_canon : (x : Bare) → ValidBare d x → SpellsValue d (canon_value x) x
  value_canon (Boolean true) h = inl (refl, refl)
  value_canon x h = inr (canon_bare x, refl, bare_canon x h)

  raw_canon : (ps : Pairs Bare) → Each (λ p. IsKey p.0 × ValidBare d p.1) ps
      → SpellsRaw d (canon_params ps) ps
  raw_canon [] h = refl
  raw_canon (p ∷ ps) h = (
    59 ∷ (p.0 ++ canon_value p.1),
    canon_params ps,
    ap (λ y. 59 ∷ y) (sym (append_assoc p.0 (canon_value p.1) (canon_params ps))),
    ([], canon_value p.1, refl, tt, h.0.0, value_canon p.1 h.0.1),
    raw_canon ps h.1,
  )

  params_canon : (ps : Pairs Bare) → ValidParams d ps → SpellsParams d (canon_params ps) ps
  params_canon ps h = (ps, sym (settle-distinct ps h.1), raw_canon ps h.0)

  item_canon : (i : Item) → ValidItem d i → SpellsItem d (canon_item i) i
  item_canon i h = (
    canon_bare i.bare,
    canon_params i.params,
    refl,
    bare_canon i.bare h.0,
    params_canon i.params h.1,
  )

  more_canon : (is : List Item) → Each (ValidItem d) is → SpellsItems d 1 (canon_more is) is
  more_canon [] h = tt
  more_canon (i ∷ is) h = (
    32 ∷ [],
    canon_item i,
    canon_more is,
    refl,
    (refl, tt),
    le_refl 1,
    item_canon i h.0,
    more_canon is h.1,
  )

  items_canon : (is : List Item) → Each (ValidItem d) is → SpellsItems d 0 (canon_items is) is
  items_canon [] h = tt
  items_canon (i ∷ is) h = (
    [],
    canon_item i,
    canon_more is,
    refl,
    tt,
    omega arith,
    item_canon i h.0,
    more_canon is h.1,
  )

  inner_canon : (l : Inner) → Each (ValidItem d) l.items → ValidParams d l.params
      → SpellsInner d (canon_inner l) l
  inner_canon l h k = (
    canon_items l.items,
    canon_params l.params,
    refl,
    items_canon l.items h,
    params_canon l.params k,
  )

  pub member_canon : (m : Member) → ValidMember d m → SpellsMember d (canon_member m) m
  member_canon (member.Item i) h = item_canon i h
  member_canon (member.Inner l) h = inner_canon l h.0 h.1

  -- a key with a value
  given_canon : (k : List ℕ) (x : Bare) (ps : Pairs Bare) → IsKey k → ValidBare d x
      → ValidParams d ps
      → SpellsEntry d (k ++ 61 ∷ (canon_bare x ++ canon_params ps))
      (k, member.Item (record { bare = x; params = ps }))
  given_canon k x ps w h g = (
    canon_bare x ++ canon_params ps,
    w,
    inl (refl, item_canon (record { bare = x; params = ps }) (h, g)),
  )

  flag_canon : (k : List ℕ) (x : Bare) (ps : Pairs Bare) → IsKey k → ValidBare d x
      → ValidParams d ps
      → SpellsEntry d (k ++ canon_flag x ps) (k, member.Item (record { bare = x; params = ps }))
  flag_canon k (Boolean true) ps w h g = (
    canon_params ps,
    w,
    inr (ps, refl, refl, params_canon ps g),
  )
  flag_canon k x ps w h g = given_canon k x ps w h g

  entry_canon : (k : List ℕ) (m : Member) → IsKey k → ValidMember d m
      → SpellsEntry d (canon_entry (k, m)) (k, m)
  entry_canon k (member.Item i) w h = flag_canon k i.bare i.params w h.0 h.1
  entry_canon k (member.Inner l) w h = (canon_inner l, w, inl (refl, inner_canon l h.0 h.1))

  -- the canonical text of a valid value spells it
  pub canon_spells : (kind : Kind) (v : Field) → Valid d kind v → SpellsField d kind (canon v) v
  canon_spells kind.Item (field.Item i) h =
      ([], canon_item i, [], sym (append-nil (canon_item i)), tt, item_canon i h, tt)
  canon_spells kind.List (field.List l) h =
      whole_canon (SpellsMember d) canon_member l.members
      (each_map (ValidMember d) (λ m. SpellsMember d (canon_member m) m) member_canon l.members h)
  canon_spells kind.Dict (field.Dict m) h = (
    m.members,
    sym (settle-distinct m.members h.1),
    whole_canon (SpellsEntry d) canon_entry m.members
        (each_map (λ p. IsKey p.0 × ValidMember d p.1) (λ p. SpellsEntry d (canon_entry p) p)
        (λ p k. entry_canon p.0 p.1 k.0 k.1) m.members h.0),
  )
  canon_spells kind v h = elim h [ ]

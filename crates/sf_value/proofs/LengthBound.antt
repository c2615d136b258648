-- A canonical text is at most eight fifths as long as any text of its value.
use Rattle.std.proofs.Common.{◌≡◌, ℕ, zero, suc, ◌+◌, ◌-◌, ◌*◌, ◌/◌, ◌%◌, ◌^◌, ◌≤◌, ℤ, nat_abs}
use Rattle.std.proofs.Common.{Bool, true, List, [], ◌∷◌, ◌++◌, length}
use Rattle.std.proofs.Common.{replicate, decimal, refl, sym, ap, ◌∙◌, subst, inl, inr}
use Rattle.std.proofs.Common.{arith, length-append, le_refl}
use Rattle.std.specs.Fmt.{signed_decimal}
use Rattle.std.proofs.lemmas.Bool.Decides.{nat_tests}
use Rattle.std.proofs.lemmas.Fmt.{length-decimal-le}
use Rattle.std.proofs.lemmas.List.{length-replicate}
use Rattle.sf_value.specs.declared.value.Member.TheVariants as member
use Rattle.sf_value.specs.declared.value.Field.TheVariants as field
use Rattle.sf_value.specs.declared.value.Kind.TheVariants as kind
use Rattle.sf_value.specs.Grammar.Pairs.{Pairs}
use Rattle.sf_value.specs.Grammar.Numbers.{signed, sign, value_from, AreDigits, SpellsInteger}
use Rattle.sf_value.specs.Grammar.Numbers.{SpellsDecimal}
use Rattle.sf_value.specs.Grammar.Tokens.{IsKey}
use Rattle.sf_value.specs.Grammar.ByteSequences.{unpadded, needed}
use Rattle.sf_value.specs.Grammar.DisplayStrings.{EncodedBytes}
use Rattle.sf_value.specs.Grammar.BareItems.{SpellsBare}
use Rattle.sf_value.specs.Grammar.Parameters.{SpellsValue, SpellsRaw, SpellsParams}
use Rattle.sf_value.specs.Grammar.Items.{SpellsItem}
use Rattle.sf_value.specs.Grammar.InnerLists.{SpellsItems, SpellsInner, SpellsMember}
use Rattle.sf_value.specs.Grammar.Series.{SpellsCommas, SpellsWhole}
use Rattle.sf_value.specs.Grammar.Fields.{SpellsEntry, SpellsField}
use Rattle.sf_value.specs.Grammar.Canonical.{is_negative, fraction, canon_decimal, canon_shown}
use Rattle.sf_value.specs.Grammar.Canonical.{canon_bare, canon_value, canon_params, canon_item}
use Rattle.sf_value.specs.Grammar.Canonical.{canon_more, canon_items, canon_inner, canon_member}
use Rattle.sf_value.specs.Grammar.Canonical.{canon_flag, canon_behind, canon_entry, canon_commas}
use Rattle.sf_value.specs.Grammar.Canonical.{canon_series, canon}
use Rattle.sf_value.specs.declared.dialect.Dialect.{Dialect}
use Rattle.sf_value.specs.declared.value.Bare.{Bare}
use Rattle.sf_value.specs.declared.value.Bare.TheVariants.{Integer, Decimal, Text, Token, Blob}
use Rattle.sf_value.specs.declared.value.Bare.TheVariants.{Boolean, Date, Shown}
use Rattle.sf_value.specs.declared.value.Item.{Item}
use Rattle.sf_value.specs.declared.value.Inner.{Inner}
use Rattle.sf_value.specs.declared.value.Member.{Member}
use Rattle.sf_value.specs.declared.value.Field.{Field}
use Rattle.sf_value.specs.declared.value.Kind.{Kind}
use Rattle.sf_value.proofs.SettledWeight.{total, settle_total}
use Rattle.sf_value.proofs.Validity.{digits_bound, scaled_bound, signed_abs}

lengths : (s t : List ℕ) → length (s ++ t) ≡ length s + length t
lengths = length-append

-- numbers: no longer than the text
decimal_short : (w : List ℕ) (high : ℕ) → high ≤ 15 → AreDigits 1 high 0 w
    → length (decimal (value_from 0 w)) ≤ length w
decimal_short w high h d =
    let b = digits_bound w (length w) d.each (le_refl (length w)) in
    let c = digits_bound w 15 d.each (let f = d.fits in omega arith) in
    length-decimal-le (length w) (value_from 0 w) (let f = d.enough in omega arith) b (omega arith)

signed_short : (neg : Bool) (n k : ℕ) → length (decimal n) ≤ k
    → length (signed_decimal (signed neg n)) ≤ length (sign neg) + k
signed_short neg n k h = grind arith

integer_short : (n : ℤ) (t : List ℕ) → SpellsInteger t n
    → (length (signed_decimal n) ≤ length t) × (1 ≤ length t)
integer_short n t (neg, w, e, d, i) =
    let s = signed_short neg (value_from 0 w) (length w) (decimal_short w 15 (le_refl 15) d) in
    let l : length t ≡ length (sign neg) + length w = ap length e ∙ length-append (sign neg) w in
    let j : length (signed_decimal n)
    ≡ length (signed_decimal (signed neg (value_from 0 w))) = ap
    (λ y. length (signed_decimal y)) i in
    let m = d.enough in
    (omega arith, omega arith)

sign_short : (neg : Bool) (n : ℕ) → length (sign (is_negative (signed neg n))) ≤ length (sign neg)
sign_short neg n = grind arith

fraction_one : (f : ℕ) → f % 100 ≡ 0 → length (fraction f) ≤ 1
fraction_one f e = grind (arith, nat_tests)

fraction_two : (f : ℕ) → f % 10 ≡ 0 → length (fraction f) ≤ 2
fraction_two f e = grind (arith, nat_tests)

fraction_three : (f : ℕ) → length (fraction f) ≤ 3
fraction_three f = grind arith

fraction_short : (v k : ℕ) → 1 ≤ k → k ≤ 3 → length (fraction (v * 10 ^ (3 - k))) ≤ k
fraction_short v (suc zero) l h = fraction_one (v * 100) (omega arith)
fraction_short v (suc (suc zero)) l h = fraction_two (v * 10) (omega arith)
fraction_short v (suc (suc (suc zero))) l h = fraction_three (v * 1)
fraction_short v k l h = absurd (omega arith)

decimal_text : (m : ℤ) (t : List ℕ) → SpellsDecimal t m
    → (length (canon_decimal m) ≤ length t) × (1 ≤ length t)
decimal_text m t (neg, w, f, e, d, d', i) =
    let whole = value_from 0 w in
    let part = value_from 0 f * 10 ^ (3 - length f) in
    let low = d'.enough in
    let high = d'.fits in
    let small = scaled_bound (value_from 0 f) (length f) (omega arith) (omega arith)
    (digits_bound f (length f) d'.each (le_refl (length f))) in
    let a : nat_abs m ≡ whole * 1000 + part = ap nat_abs i ∙ signed_abs neg (whole * 1000 + part) in
    let q : nat_abs m / 1000 ≡ whole = omega arith in
    let r : nat_abs m % 1000 ≡ part = omega arith in
    let s1 : length (sign (is_negative m)) ≤ length (sign neg) = subst
    (λ y. length (sign (is_negative y)) ≤ length (sign neg)) (sym i)
    (sign_short neg (whole * 1000 + part)) in
    let s2 : length (decimal (nat_abs m / 1000)) ≤ length w = subst
    (λ y. length (decimal y) ≤ length w) (sym q) (decimal_short w 12 (omega arith) d) in
    let s3 : length (fraction (nat_abs m % 1000)) ≤ length f = subst
    (λ y. length (fraction y) ≤ length f) (sym r)
    (fraction_short (value_from 0 f) (length f) (omega arith) (omega arith)) in
    parts (length t) (sign neg) w f (sign (is_negative m)) (decimal (nat_abs m / 1000))
    (fraction (nat_abs m % 1000)) (ap length e) s1 s2 s3
  where
    parts : (n : ℕ) (a b c x y z : List ℕ) → n ≡ length (a ++ (b ++ 46 ∷ c)) → length x ≤ length a
        → length y ≤ length b → length z ≤ length c → (length (x ++ (y ++ 46 ∷ z)) ≤ n) × (1 ≤ n)
    parts n a b c x y z e h k l = omega (arith, length-append {A = ℕ})

blob_count : (low : ℕ) (s : List ℕ) → 5 * needed s ≤ 3 * length (unpadded low s) + 4
blob_count low (a ∷ b ∷ c ∷ s) = omega (arith, blob_count low s)
blob_count low s = omega arith

-- pad bits don't change the length
unpadded_length : (low : ℕ) (s : List ℕ) → length (unpadded 0 s) ≡ length (unpadded low s)
unpadded_length low (a ∷ b ∷ c ∷ s) = omega (arith, unpadded_length low s)
unpadded_length low s = refl

blob_text : (n m low : ℕ) (s : List ℕ) → n ≡ needed s
    → 5 * length (58 ∷ (unpadded 0 s
    ++ (replicate n 61 ++ 58 ∷ []))) + 2 ≤ 8 * length (58 ∷ (unpadded low s
    ++ (replicate m 61 ++ 58 ∷ [])))
blob_text n m low s e =
    omega (arith, unpadded_length low s, blob_count low s, lengths, length-replicate {A = ℕ})

shown_text : (s t : List ℕ) → EncodedBytes t s → length (canon_shown s) ≤ length t
shown_text [] t p = omega (arith, ap length p)
shown_text (c ∷ s) t (suffix, inl (k, e), p) =
    rw k (omega (arith, shown_text s suffix p, ap length e))
shown_text (c ∷ s) t (suffix, inr (k, e), p) =
    let h = shown_text s suffix p in let l = ap length e in grind arith

param_weight : List ℕ × Bare → ℕ
param_weight p = 1 + length p.0 + length (canon_value p.1)

params_total : (ps : Pairs Bare) → length (canon_params ps) ≡ total param_weight ps
unfolding param_weight
params_total [] = refl
params_total (p ∷ ps) = omega (arith, params_total ps, lengths)

after_short : (m : Member) → length (canon_behind m) ≤ 1 + length (canon_member m)
after_short (member.Item i) = flag_short i.bare i.params
  where
    flag_short : (x : Bare) (ps : Pairs Bare)
        → length (canon_flag x ps) ≤ 1 + length (canon_bare x ++ canon_params ps)
    flag_short (Boolean true) ps = omega arith
    flag_short x ps = omega arith
after_short (member.Inner l) = omega arith

pub key_some : (k : List ℕ) → IsKey k → 1 ≤ length k
key_some [] w = absurd w
key_some (b ∷ k) w = omega arith

-- a series, with a comma and a space counted for each piece
module _ {X : Type 0} (P : List ℕ → X → Type 0) (f : X → List ℕ) (bound : (x : X) (t : List ℕ)
    → P t x → 5 * length (f x) + 2 ≤ 8 * length t) where
  abbrev sum_of : List X → ℕ
  sum_of [] = 0
  sum_of (x ∷ xs) = 2 + length (f x) + sum_of xs

  commas_sum : (xs : List X) → length (canon_commas f xs) ≡ sum_of xs
  commas_sum [] = refl
  commas_sum (x ∷ xs) = omega (arith, commas_sum xs, lengths)

  series_sum : (x : X) (xs : List X) → length (canon_series f (x ∷ xs)) + 2 ≡ sum_of (x ∷ xs)
  series_sum x xs = omega (arith, commas_sum xs, lengths)

  commas_text : (xs : List X) (t : List ℕ) → SpellsCommas P t xs → 5 * sum_of xs ≤ 8 * length t
  commas_text [] t h = omega arith
  commas_text (x ∷ xs) t (before, behind, prefix, suffix, e, g, g2, s, c) =
      omega (arith, bound x prefix s, commas_text xs suffix c, ap length e, lengths)

  whole_text : (xs : List X) (t : List ℕ) → SpellsWhole P t xs → 5 * sum_of xs ≤ 8 * length t + 8
  whole_text [] t h = omega arith
  whole_text (x ∷ xs) t (gap, body, tail, e, g, (prefix, suffix, e1, s, c), w) =
      omega (
        arith,
        bound x prefix s,
        commas_text xs suffix c,
        ap length e,
        ap length e1,
        lengths,
      )

  -- at most so many bytes
  series_text : (xs : List X) (t : List ℕ) → 5 * sum_of xs ≤ 8 * length t + 8
      → 5 * length (canon_series f xs) ≤ 8 * length t
  series_text [] t h = omega arith
  series_text (x ∷ xs) t h = omega (arith, series_sum x xs)

entry_weight : List ℕ × Member → ℕ
entry_weight p = 2 + length (canon_entry p)

module _ (d : Dialect) where
  bare_text : (x : Bare) (t : List ℕ) → SpellsBare d t x
      → 5 * length (canon_bare x) + 2 ≤ 8 * length t
  bare_text (Integer n) t h = omega (arith, integer_short n t h)
  bare_text (Decimal m) t h = omega (arith, decimal_text m t h)
  bare_text (Text s) t (e, v) = omega (arith, ap length e, lengths)
  bare_text (Token []) t (e, w) = absurd w
  bare_text (Token (c ∷ s)) t (e, w) = omega (arith, ap length e)
  bare_text (Blob s) t (suffix, e, (low, b2, lt, e2, f, (m, h, e3))) =
      omega (
        arith,
        blob_text (needed s) m low s refl,
        ap length e,
        ap length e2,
        ap length e3,
        lengths,
      )
  bare_text (Boolean b) t e = omega (arith, ap length e)
  bare_text (Date n) t (on, (suffix, e, h)) = omega (arith, integer_short n suffix h, ap length e)
  bare_text (Shown s) t (on, (suffix, e, p, w)) = omega (arith, shown_text s suffix p, ap length e)

  value_text : (x : Bare) (t : List ℕ) → SpellsValue d t x
      → 5 * length (canon_value x) ≤ 8 * length t
  value_text x t (inl (e, n)) = rw e (omega arith)
  value_text x t (inr (suffix, e, h)) =
      omega (arith, bare_text x suffix h, ap length e, at_most x)
    where
      at_most : (x : Bare) → length (canon_value x) ≤ 1 + length (canon_bare x)
      at_most (Boolean true) = omega arith
      at_most x = omega arith

  raw_text : (ps : Pairs Bare) (t : List ℕ) → SpellsRaw d t ps
      → 5 * total param_weight ps ≤ 8 * length t
  unfolding param_weight
  raw_text [] t h = omega arith
  raw_text (p ∷ ps) t (prefix, suffix, e, (gap, value, e1, f, i, s), r) =
      omega (
        arith,
        raw_text ps suffix r,
        value_text p.1 value s,
        ap length e,
        ap length e1,
        lengths,
      )

  params_text : (ps : Pairs Bare) (t : List ℕ) → SpellsParams d t ps
      → 5 * length (canon_params ps) ≤ 8 * length t
  params_text ps t (raw, e, h) =
      omega (
        arith,
        raw_text raw t h,
        settle_total param_weight raw,
        params_total ps,
        ap (total param_weight) e,
      )

  item_text : (i : Item) (t : List ℕ) → SpellsItem d t i
      → 5 * length (canon_item i) + 2 ≤ 8 * length t
  item_text i t (prefix, suffix, e, h, k) =
      omega (
        arith,
        bare_text i.bare prefix h,
        params_text i.params suffix k,
        ap length e,
        lengths,
      )

  more_text : (is : List Item) (t : List ℕ) → SpellsItems d 1 t is
      → 5 * length (canon_more is) ≤ 8 * length t
  more_text [] t h = omega arith
  more_text (i ∷ is) t (gap, prefix, suffix, e, f, z, s, r) =
      omega (arith, item_text i prefix s, more_text is suffix r, ap length e, lengths)

  items_text : (is : List Item) (t : List ℕ) → SpellsItems d 0 t is
      → 5 * length (canon_items is) ≤ 8 * length t
  items_text [] t h = omega arith
  items_text (i ∷ is) t (gap, prefix, suffix, e, f, z, s, r) =
      omega (arith, item_text i prefix s, more_text is suffix r, ap length e, lengths)

  inner_text : (l : Inner) (t : List ℕ) → SpellsInner d t l
      → 5 * length (canon_inner l) + 2 ≤ 8 * length t
  inner_text l t (body, suffix, e, s, k) =
      omega (
        arith,
        items_text l.items body s,
        params_text l.params suffix k,
        ap length e,
        lengths,
      )

  member_text : (m : Member) (t : List ℕ) → SpellsMember d t m
      → 5 * length (canon_member m) + 2 ≤ 8 * length t
  member_text (member.Item i) t h = item_text i t h
  member_text (member.Inner l) t h = inner_text l t h

  entry_text : (p : List ℕ × Member) (t : List ℕ) → SpellsEntry d t p
      → 5 * length (canon_entry p) + 2 ≤ 8 * length t
  entry_text p t (suffix, w, inl (e, s)) =
      omega (arith, member_text p.1 suffix s, after_short p.1, ap length e, lengths)
  entry_text p t (suffix, w, inr (ps, i, e, s)) =
      omega (
        arith,
        params_text ps suffix s,
        ap (λ m. length (canon_behind m)) i,
        ap length e,
        key_some p.0 w,
        lengths,
      )

  entries_total : (ps : Pairs Member)
      → sum_of (SpellsEntry d) canon_entry entry_text ps ≡ total entry_weight ps
  unfolding entry_weight
  entries_total [] = refl
  entries_total (p ∷ ps) = omega (arith, entries_total ps)

  -- at most eight fifths of the text
  pub canon_bound : (kind : Kind) (v : Field) (t : List ℕ) → SpellsField d kind t v
      → 5 * length (canon v) ≤ 8 * length t
  canon_bound kind.Item (field.Item i) t (gap, body, tail, e, f, s, w) =
      omega (arith, item_text i body s, ap length e, lengths)
  canon_bound kind.List (field.List l) t h =
      series_text (SpellsMember d) canon_member member_text l.members t
      (whole_text (SpellsMember d) canon_member member_text l.members t h)
  canon_bound kind.Dict (field.Dict m) t (raw, e, h) =
      series_text (SpellsEntry d) canon_entry entry_text m.members t
      (omega (
        arith,
        whole_text (SpellsEntry d) canon_entry entry_text raw t h,
        settle_total entry_weight raw,
        entries_total raw,
        entries_total m.members,
        ap (total entry_weight) e,
      ))
  canon_bound kind v t h = elim h [ ]

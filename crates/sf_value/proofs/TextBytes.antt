-- The bytes of a text that spells a field are visible, or tabs.
use Rattle.std.proofs.Common.{◌≡◌, ℕ, zero, suc, ◌+◌, ◌*◌, ◌/◌, ◌%◌, ◌<◌, ℤ, Bool, true, false}
use Rattle.std.proofs.Common.{◌==◌, ◌&&◌, ◌||◌, if◌then◌else◌, List, [], ◌∷◌, ◌++◌}
use Rattle.std.proofs.Common.{replicate, codes, refl, inl, inr, ⊎_elim, arith}
use Rattle.std.proofs.Common.{eqb-true}
use Rattle.std.proofs.lemmas.Bool.{or_cases}
use Rattle.std.specs.Cmp.{first_so, second_so}
use Rattle.sf_value.specs.declared.value.Member.TheVariants as member
use Rattle.sf_value.specs.declared.value.Field.TheVariants as field
use Rattle.sf_value.specs.declared.value.Kind.TheVariants as kind
use Rattle.sf_value.specs.declared.dialect.Dialect.{Dialect}
use Rattle.sf_value.specs.declared.value.Bare.{Bare}
use Rattle.sf_value.specs.declared.value.Bare.TheVariants.{Integer, Decimal, Text, Token, Blob}
use Rattle.sf_value.specs.declared.value.Bare.TheVariants.{Boolean, Date, Shown}
use Rattle.sf_value.specs.declared.value.Item.{Item}
use Rattle.sf_value.specs.declared.value.Member.{Member}
use Rattle.sf_value.specs.declared.value.Field.{Field}
use Rattle.sf_value.specs.declared.value.Kind.{Kind}
use Rattle.sf_value.specs.Grammar.Words.{Every, IsWord}
use Rattle.sf_value.specs.Grammar.Classes.{is_one_of, is_sp, is_ows, is_digit, is_alpha}
use Rattle.sf_value.specs.Grammar.Classes.{is_key_start, is_in_key, is_tchar, is_token_start}
use Rattle.sf_value.specs.Grammar.Classes.{is_in_token, is_visible, is_byte}
use Rattle.sf_value.specs.Grammar.Pairs.{Pairs}
use Rattle.sf_value.specs.Grammar.Numbers.{sign, SpellsInteger, SpellsDecimal}
use Rattle.sf_value.specs.Grammar.Strings.{is_escaped, escaped}
use Rattle.sf_value.specs.Grammar.Tokens.{IsKey}
use Rattle.sf_value.specs.Grammar.ByteSequences.{letter, unpadded, spare}
use Rattle.sf_value.specs.Grammar.DisplayStrings.{hex, EncodedBytes}
use Rattle.sf_value.specs.Grammar.BareItems.{SpellsBare}
use Rattle.sf_value.specs.Grammar.Parameters.{SpellsValue, SpellsRaw, SpellsParams}
use Rattle.sf_value.specs.Grammar.Items.{SpellsItem}
use Rattle.sf_value.specs.Grammar.InnerLists.{SpellsItems, SpellsMember}
use Rattle.sf_value.specs.Grammar.Series.{SpellsCommas, SpellsWhole}
use Rattle.sf_value.specs.Grammar.Fields.{SpellsEntry, SpellsField}
use Rattle.sf_value.proofs.Runs.{every_append}
use Rattle.sf_value.proofs.Tables.{each_below}
use Rattle.sf_value.proofs.Words.{every_map}

-- a visible byte, or a tab
abbrev pub is_text : ℕ → Bool
is_text b = is_visible b || b == 9

visible : (b : ℕ) → is_visible b ≡ true → is_text b ≡ true
visible b e = grind arith

of_sp : (b : ℕ) → is_sp b ≡ true → is_text b ≡ true
of_sp b e = grind arith

of_ows : (b : ℕ) → is_ows b ≡ true → is_text b ≡ true
of_ows b e = grind arith

of_digit : (b : ℕ) → is_digit b ≡ true → is_text b ≡ true
of_digit b e = grind arith

of_key_start : (b : ℕ) → is_key_start b ≡ true → is_text b ≡ true
of_key_start b e = grind arith

of_in_key : (b : ℕ) → is_in_key b ≡ true → is_text b ≡ true
of_in_key b e = grind arith

abbrev all_text : List ℕ → Bool
all_text [] = true
all_text (c ∷ cs) = is_text c && all_text cs

one_of : (cs : List ℕ) (b : ℕ) → all_text cs ≡ true → is_one_of cs b ≡ true → is_text b ≡ true
one_of [] b h e = absurd cc
one_of (c ∷ cs) b h e =
    ⊎_elim (λ k. rw (eqb-true b c k) (first_so (is_text c) (all_text cs) h))
    (λ k. one_of cs b (second_so (is_text c) (all_text cs) h) k)
    (or_cases (b == c) (is_one_of cs b) e)

of_tchar : (b : ℕ) → is_tchar b ≡ true → is_text b ≡ true
of_tchar b e =
    ⊎_elim (λ k. grind arith) (λ k. one_of (codes "!#$%&'*+-.^_`|~") b refl k)
    (or_cases (is_alpha b || is_digit b) (is_one_of (codes "!#$%&'*+-.^_`|~") b) e)

of_token_start : (b : ℕ) → is_token_start b ≡ true → is_text b ≡ true
of_token_start b e = grind arith

of_in_token : (b : ℕ) → is_in_token b ≡ true → is_text b ≡ true
of_in_token b e =
    ⊎_elim (λ k. ⊎_elim (of_tchar b) (λ x. grind arith) (or_cases (is_tchar b) (b == 58) k))
    (λ k. grind arith) (or_cases (is_tchar b || b == 58) (b == 47) e)

every_by : (p : ℕ → Bool) → ((b : ℕ) → p b ≡ true → is_text b ≡ true) → (t : List ℕ) → Every p t
    → Every is_text t
every_by p = every_map p is_text

word : (p q : ℕ → Bool) → ((b : ℕ) → p b ≡ true → is_text b ≡ true)
    → ((b : ℕ) → q b ≡ true → is_text b ≡ true) → (t : List ℕ) → IsWord p q t → Every is_text t
word p q f g [] h = absurd h
word p q f g (b ∷ t) h = (f b h.0, every_by q g t h.1)

cat : (s t : List ℕ) → Every is_text s → Every is_text t → Every is_text (s ++ t)
cat = every_append is_text

sign_text : (neg : Bool) → Every is_text (sign neg)
sign_text false = tt
sign_text true = (refl, tt)

digits_text : (w : List ℕ) → Every is_digit w → Every is_text w
digits_text w h = every_by is_digit of_digit w h

integer_text : (n : ℤ) (t : List ℕ) → SpellsInteger t n → Every is_text t
integer_text n t (neg, w, e, d, i) =
    rw e (cat (sign neg) w (sign_text neg) (digits_text w d.each))

decimal_text : (m : ℤ) (t : List ℕ) → SpellsDecimal t m → Every is_text t
decimal_text m t (neg, w, f, e, d, d', i) =
    rw e (cat (sign neg) (w ++ 46 ∷ f) (sign_text neg)
    (cat w (46 ∷ f) (digits_text w d.each) (refl, digits_text f d'.each)))

escaped_byte : (b : ℕ) (t : List ℕ) (x : Bool) → is_text b ≡ true → Every is_text t
    → Every is_text (if x then 92 ∷ b ∷ t else b ∷ t)
escaped_byte b t true e h = (refl, (e, h))
escaped_byte b t false e h = (e, h)

escaped_text : (s : List ℕ) → Every is_visible s → Every is_text (escaped s)
escaped_text [] h = tt
escaped_text (b ∷ s) h =
    escaped_byte b (escaped s) (is_escaped b) (visible b h.0) (escaped_text s h.1)

letter_text : (x : ℕ) → x < 64 → is_text (letter x) ≡ true
unfolding letter
letter_text x h = each_below 64 (λ y. is_text (letter y)) refl x h

byte : (b : ℕ) → is_byte b ≡ true → b < 256
byte b e = grind arith

unpadded_text : (low : ℕ) (s : List ℕ) → low < spare s → Every is_byte s
    → Every is_text (unpadded low s)
unpadded_text low [] l h = tt
unpadded_text low (a ∷ []) l h =
    let x = byte a h.0 in
    (letter_text (a / 4) (omega arith), (letter_text (a % 4 * 16 + low) (omega arith), tt))
unpadded_text low (a ∷ b ∷ []) l h =
    let x = byte a h.0 in
    let y = byte b h.1.0 in (
      letter_text (a / 4) (omega arith),
      (
        letter_text (a % 4 * 16 + b / 16) (omega arith),
        (letter_text (b % 16 * 4 + low) (omega arith), tt),
      ),
    )
unpadded_text low (a ∷ b ∷ c ∷ s) l h =
    let x = byte a h.0 in
    let y = byte b h.1.0 in
    let z = byte c h.1.1.0 in (
      letter_text (a / 4) (omega arith),
      (
        letter_text (a % 4 * 16 + b / 16) (omega arith),
        (
          letter_text (b % 16 * 4 + c / 64) (omega arith),
          (letter_text (c % 64) (omega arith), unpadded_text low s l h.1.1.1),
        ),
      ),
    )

pads_text : (n : ℕ) → Every is_text (replicate n 61 ++ 58 ∷ [])
pads_text zero = (refl, tt)
pads_text (suc n) = (refl, pads_text n)

hex_text : (x : ℕ) → x < 16 → is_text (hex x) ≡ true
hex_text x h = grind arith

shown_text : (s t : List ℕ) → EncodedBytes t s → Every is_text t
shown_text [] t e = rw e (refl, tt)
shown_text (c ∷ s) t (suffix, inl (k, e), p) =
    let h : is_visible c ≡ true = grind arith in rw e (visible c h, shown_text s suffix p)
shown_text (c ∷ s) t (suffix, inr (k, e), p) =
    let b = byte c k in
    rw e (
      refl,
      (
        hex_text (c / 16) (omega arith),
        (hex_text (c % 16) (omega arith), shown_text s suffix p),
      ),
    )

boolean_text : (b : Bool) → Every is_text (63 ∷ (if b then 49 else 48) ∷ [])
boolean_text true = (refl, (refl, tt))
boolean_text false = (refl, (refl, tt))

key_text : (k : List ℕ) → IsKey k → Every is_text k
key_text k h = word is_key_start is_in_key of_key_start of_in_key k h

commas_text : {X : Type 0} (P : List ℕ → X → Type 0)
    → ((x : X) (t : List ℕ) → P t x → Every is_text t) → (xs : List X) (t : List ℕ)
    → SpellsCommas P t xs → Every is_text t
commas_text P g [] t e = rw e tt
commas_text P g (x ∷ xs) t (before, behind, prefix, suffix, e, f, f2, s, c) =
    rw e (cat before (44 ∷ (behind ++ (prefix ++ suffix))) (every_by is_ows of_ows before f) (
      refl,
      cat behind (prefix ++ suffix) (every_by is_ows of_ows behind f2)
          (cat prefix suffix (g x prefix s) (commas_text P g xs suffix c)),
    ))

whole_text : {X : Type 0} (P : List ℕ → X → Type 0)
    → ((x : X) (t : List ℕ) → P t x → Every is_text t) → (xs : List X) (t : List ℕ)
    → SpellsWhole P t xs → Every is_text t
whole_text P g [] t h = every_by is_sp of_sp t h
whole_text P g (x ∷ xs) t (gap, body, tail, e, f, (prefix, suffix, e1, s, c), w) =
    rw e (cat gap (body ++ tail) (every_by is_sp of_sp gap f)
    (cat body tail (rw e1 (cat prefix suffix (g x prefix s) (commas_text P g xs suffix c)))
    (every_by is_ows of_ows tail w)))

module _ (d : Dialect) where
  bare_text : (x : Bare) (t : List ℕ) → SpellsBare d t x → Every is_text t
  bare_text (Integer n) t h = integer_text n t h
  bare_text (Decimal m) t h = decimal_text m t h
  bare_text (Text s) t h =
      rw h.0 (refl, cat (escaped s) (34 ∷ []) (escaped_text s h.1) (refl, tt))
  bare_text (Token s) t h =
      rw h.0 (word is_token_start is_in_token of_token_start of_in_token s h.1)
  bare_text (Blob s) t (suffix, e, (low, b, lt, e1, f, (m, n, e2))) =
      rw e (
        refl,
        rw e1 (cat (unpadded low s) b (unpadded_text low s lt f) (rw e2 (pads_text m))),
      )
  bare_text (Boolean b) t h = rw h (boolean_text b)
  bare_text (Date n) t (on, (suffix, e, h)) = rw e (refl, integer_text n suffix h)
  bare_text (Shown s) t (on, (suffix, e, p, w)) = rw e (refl, (refl, shown_text s suffix p))

  value_text : (x : Bare) (t : List ℕ) → SpellsValue d t x → Every is_text t
  value_text x t (inl (e, n)) = rw n tt
  value_text x t (inr (suffix, e, h)) = rw e (refl, bare_text x suffix h)

  raw_text : (ps : Pairs Bare) (t : List ℕ) → SpellsRaw d t ps → Every is_text t
  raw_text [] t e = rw e tt
  raw_text (p ∷ ps) t (prefix, suffix, e, (gap, value, e1, f, i, s), r) =
      rw e (cat prefix suffix
      (rw e1 (
        refl,
        cat gap (p.0 ++ value) (every_by is_sp of_sp gap f)
            (cat p.0 value (key_text p.0 i) (value_text p.1 value s)),
      ))
      (raw_text ps suffix r))

  params_text : (ps : Pairs Bare) (t : List ℕ) → SpellsParams d t ps → Every is_text t
  params_text ps t (raw, e, h) = raw_text raw t h

  item_text : (i : Item) (t : List ℕ) → SpellsItem d t i → Every is_text t
  item_text i t (prefix, suffix, e, h, k) =
      rw e (cat prefix suffix (bare_text i.bare prefix h) (params_text i.params suffix k))

  items_text : (least : ℕ) (is : List Item) (t : List ℕ) → SpellsItems d least t is
      → Every is_text t
  items_text least [] t h = every_by is_sp of_sp t h
  items_text least (i ∷ is) t (gap, prefix, suffix, e, f, z, s, r) =
      rw e (cat gap (prefix ++ suffix) (every_by is_sp of_sp gap f)
      (cat prefix suffix (item_text i prefix s) (items_text 1 is suffix r)))

  member_text : (m : Member) (t : List ℕ) → SpellsMember d t m → Every is_text t
  member_text (member.Item i) t h = item_text i t h
  member_text (member.Inner l) t (body, suffix, e, s, k) =
      rw e (
        refl,
        cat body (41 ∷ suffix) (items_text 0 l.items body s) (refl, params_text l.params suffix k),
      )

  entry_text : (p : List ℕ × Member) (t : List ℕ) → SpellsEntry d t p → Every is_text t
  entry_text p t (suffix, w, inl (e, s)) =
      rw e (cat p.0 (61 ∷ suffix) (key_text p.0 w) (refl, member_text p.1 suffix s))
  entry_text p t (suffix, w, inr (ps, i, e, s)) =
      rw e (cat p.0 suffix (key_text p.0 w) (params_text ps suffix s))

  -- each byte of a text that spells a field is visible, or a tab
  pub spelled_text : (kind : Kind) (v : Field) (t : List ℕ) → SpellsField d kind t v
      → Every is_text t
  spelled_text kind.Item (field.Item i) t (gap, body, tail, e, f, s, w) =
      rw e (cat gap (body ++ tail) (every_by is_sp of_sp gap f)
      (cat body tail (item_text i body s) (every_by is_sp of_sp tail w)))
  spelled_text kind.List (field.List l) t h =
      whole_text (SpellsMember d) member_text l.members t h
  spelled_text kind.Dict (field.Dict m) t (raw, e, h) =
      whole_text (SpellsEntry d) entry_text raw t h
  spelled_text kind v t h = elim h [ ]

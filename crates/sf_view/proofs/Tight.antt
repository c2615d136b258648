-- The text of a bare item neither begins nor ends with a space.
use Rattle.std.proofs.Common.{◌≡◌, ◌≢◌, ℕ, ◌-◌, Bool, true, false, List, [], ◌∷◌, ◌++◌, length}
use Rattle.std.proofs.Common.{refl, sym, ap, ◌∙◌, subst, arith, append_assoc, append-nil}
use Rattle.std.proofs.Common.{length-append, slice_index, replicate, inl, inr}
use Rattle.sf_value.specs.declared.dialect.Dialect.{Dialect}
use Rattle.sf_value.specs.declared.value.Bare.{Bare}
use Rattle.sf_value.specs.declared.value.Bare.TheVariants.{Integer, Decimal, Text, Token}
use Rattle.sf_value.specs.declared.value.Bare.TheVariants.{Blob, Boolean, Date, Shown}
use Rattle.sf_value.specs.declared.value.Field.TheVariants as field
use Rattle.sf_value.specs.declared.value.Kind.TheVariants as kind
use Rattle.sf_value.specs.Ascii.{quote, colon, equals, point}
use Rattle.sf_value.specs.Grammar.Words.{Every}
use Rattle.sf_value.specs.Grammar.Classes.{is_sp, is_digit, is_token_start, is_in_token}
use Rattle.sf_value.specs.Grammar.Numbers.{sign, AreDigits}
use Rattle.sf_value.specs.Grammar.Strings.{escaped}
use Rattle.sf_value.specs.Grammar.ByteSequences.{unpadded, Sextets}
use Rattle.sf_value.specs.Grammar.DisplayStrings.{EncodedBytes}
use Rattle.sf_value.specs.Grammar.Pairs.{Pairs, settle}
use Rattle.sf_value.specs.Grammar.BareItems.{SpellsBare}
use Rattle.sf_value.specs.Grammar.Parameters.{SpellsRaw}
use Rattle.sf_value.specs.Grammar.Items.{item}
use Rattle.sf_value.specs.Grammar.Fields.{SpellsField}
use Rattle.sf_view.specs.Building.{IsTight}

-- a first byte, and a last one, that is no space
abbrev Begins : List ℕ → Type 0
Begins t = (c : ℕ) × (u : List ℕ) × (t ≡ c ∷ u) × (c ≢ 32)

abbrev Ends : List ℕ → Type 0
Ends t = (u : List ℕ) × (c : ℕ) × (t ≡ u ++ c ∷ []) × (c ≢ 32)

ends_after : (s t : List ℕ) → Ends t → Ends (s ++ t)
ends_after s t (u, c, e, h) = (s ++ u, c, ap (λ y. s ++ y) e ∙ sym (append_assoc s u (c ∷ [])), h)

begins_before : (s t : List ℕ) → Begins s → Begins (s ++ t)
begins_before s t (c, u, e, h) = (c, u ++ t, ap (λ y. y ++ t) e, h)

every_ends : (p : ℕ → Bool) → ((c : ℕ) → p c ≡ true → c ≢ 32) → (b : ℕ) (w : List ℕ) → b ≢ 32
    → Every p w → Ends (b ∷ w)
every_ends p f b [] n h = ([], b, refl, n)
every_ends p f b (c ∷ w) n h = ends_after (b ∷ []) (c ∷ w) (every_ends p f c w (f c h.0) h.1)

digit_apart : (c : ℕ) → is_digit c ≡ true → c ≢ 32
digit_apart c h e = let k : is_digit 32 ≡ true = subst (λ y. is_digit y ≡ true) e h in absurd cc

token_apart : (c : ℕ) → is_in_token c ≡ true → c ≢ 32
token_apart c h e = let k : is_in_token 32 ≡ true = subst (λ y. is_in_token y ≡ true) e h in absurd cc

start_apart : (c : ℕ) → is_token_start c ≡ true → c ≢ 32
start_apart c h e =
    let k : is_token_start 32 ≡ true = subst (λ y. is_token_start y ≡ true) e h in absurd cc

digits_begin : (high : ℕ) (w : List ℕ) → AreDigits 1 high 0 w → Begins w
digits_begin high [] h = absurd (let k = h.enough in let l : ⊥ = omega arith in l)
digits_begin high (b ∷ w) h = (b, w, refl, digit_apart b h.each.0)

digits_end : (high : ℕ) (w : List ℕ) → AreDigits 1 high 0 w → Ends w
digits_end high [] h = absurd (let k = h.enough in let l : ⊥ = omega arith in l)
digits_end high (b ∷ w) h =
    every_ends is_digit digit_apart b w (digit_apart b h.each.0) h.each.1

signed_begins : (neg : Bool) (w : List ℕ) → Begins w → Begins (sign neg ++ w)
signed_begins false w h = h
signed_begins true w h = (45, w, refl, (λ e. absurd (let k : ⊥ = omega arith in k)))

integer_tight : (t : List ℕ) (neg : Bool) (w : List ℕ) → t ≡ sign neg ++ w → AreDigits 1 15 0 w
    → Begins t × Ends t
integer_tight t neg w e h = (
  subst Begins (sym e) (signed_begins neg w (digits_begin 15 w h)),
  subst Ends (sym e) (ends_after (sign neg) w (digits_end 15 w h)),
)

encoded_ends : (t s : List ℕ) → EncodedBytes t s → Ends t
encoded_ends t [] e = ([], 34, e, (λ e. absurd (let k : ⊥ = omega arith in k)))
encoded_ends t (c ∷ s) (u, inl (h, e), r) =
    subst Ends (sym e) (ends_after (c ∷ []) u (encoded_ends u s r))
encoded_ends t (c ∷ s) (u, inr (h, e), r) =
    subst Ends (sym e) (ends_after (_ ∷ _ ∷ _ ∷ []) u (encoded_ends u s r))

sextets_end : (t s : List ℕ) → Sextets t s → Ends t
sextets_end t s (low, suffix, l, e, b, (m, k, f)) =
    subst Ends (sym (e ∙ ap (λ y. unpadded low s ++ y) f))
    (ends_after (unpadded low s) (replicate m equals ++ colon ∷ [])
    (replicate m equals, 58, refl, (λ e. absurd (let k : ⊥ = omega arith in k))))

both : (d : Dialect) (t : List ℕ) (x : Bare) → SpellsBare d t x → Begins t × Ends t
both d t (Integer n) (neg, w, e, h, v) = integer_tight t neg w e h
both d t (Decimal m) (neg, w, f, e, h, g, v) = (
  subst Begins (sym e)
      (signed_begins neg (w ++ point ∷ f) (begins_before w (point ∷ f) (digits_begin 12 w h))),
  subst Ends (sym e)
      (ends_after (sign neg) (w ++ point ∷ f)
      (ends_after w (point ∷ f) (ends_after (point ∷ []) f (digits_end 3 f g)))),
)
both d t (Text s) (e, h) = (
  (34, _, e, (λ e. absurd (let k : ⊥ = omega arith in k))),
  subst Ends (sym e)
      (ends_after (quote ∷ escaped s) (quote ∷ [])
      ([], 34, refl, (λ e. absurd (let k : ⊥ = omega arith in k)))),
)
both d t (Token []) (e, h) = absurd h
both d t (Token (b ∷ s)) (e, h) = (
  (b, s, e, start_apart b h.0),
  subst Ends (sym e) (every_ends is_in_token token_apart b s (start_apart b h.0) h.1),
)
both d t (Blob s) (u, e, h) = (
  (58, u, e, (λ e. absurd (let k : ⊥ = omega arith in k))),
  subst Ends (sym e) (ends_after (colon ∷ []) u (sextets_end u s h)),
)
both d t (Boolean false) e = (
  (63, _, e, (λ e. absurd (let k : ⊥ = omega arith in k))),
  (63 ∷ [], 48, e, (λ e. absurd (let k : ⊥ = omega arith in k))),
)
both d t (Boolean true) e = (
  (63, _, e, (λ e. absurd (let k : ⊥ = omega arith in k))),
  (63 ∷ [], 49, e, (λ e. absurd (let k : ⊥ = omega arith in k))),
)
both d t (Date n) (r, (u, e, (neg, w, f, h, v))) = (
  (64, u, e, (λ e. absurd (let k : ⊥ = omega arith in k))),
  subst Ends (sym e) (ends_after (64 ∷ []) u (integer_tight u neg w f h).1),
)
both d t (Shown s) (r, (u, e, h, f)) = (
  (37, _, e, (λ e. absurd (let k : ⊥ = omega arith in k))),
  subst Ends (sym e) (ends_after (37 ∷ 34 ∷ []) u (encoded_ends u s h)),
)

last_place : (u : List ℕ) (c : ℕ) → slice_index (u ++ c ∷ []) (length u) ≡ c
last_place [] c = refl
last_place (b ∷ u) c = last_place u c

last_index : (t u : List ℕ) (c : ℕ) → t ≡ u ++ c ∷ [] → slice_index t (length t - 1) ≡ c
last_index t u c e =
    let l = length-append u (c ∷ []) in
    let le = ap length e in
    let at : length t - 1 ≡ length u = omega arith in
    ap (slice_index t) at ∙ ap (λ y. slice_index y (length u)) e ∙ last_place u c

pub bare_tight : (d : Dialect) (t : List ℕ) (x : Bare) → SpellsBare d t x → IsTight t
bare_tight d t x h = by (both d t x h)
  where
    by : Begins t × Ends t → IsTight t
    by ((c, u, e, n), (v, b, f, m)) = record {
      first = λ k. n (sym (ap (λ y. slice_index y 0) e) ∙ k);
      last = λ k. m (sym (last_index t v b f) ∙ k);
    }

-- spaces end with a space
spaces_end : (b : ℕ) (w : List ℕ) → Every is_sp (b ∷ w) → (u : List ℕ) × (b ∷ w ≡ u ++ 32 ∷ [])
spaces_end b [] h = ([], let e : b ≡ 32 = grind arith in ap (λ y. y ∷ []) e)
spaces_end b (c ∷ w) h =
    let r = spaces_end c w h.1 in
    (b ∷ r.0, ap (λ y. b ∷ y) r.1)

no_tail : (t body tail : List ℕ) → t ≡ body ++ tail → Every is_sp tail → IsTight t → t ≡ body
no_tail t body [] e h w = e ∙ append-nil body
no_tail t body (b ∷ tail) e h w =
    let s = spaces_end b tail h in
    absurd
    (w.last
    (last_index t (body ++ s.0) 32
    (e ∙ ap (λ y. body ++ y) s.1 ∙ sym (append_assoc body s.0 (32 ∷ [])))))

no_gap : (t gap more : List ℕ) → t ≡ gap ++ more → Every is_sp gap → IsTight t → t ≡ more
no_gap t [] more e h w = e
no_gap t (b ∷ gap) more e h w =
    let s : b ≡ 32 = (let k = h.0 in grind arith) in
    absurd (w.first (ap (λ y. slice_index y 0) e ∙ s))

no_params : (raw : Pairs Bare) → [] ≡ settle raw → raw ≡ []
no_params [] e = refl
no_params (p ∷ raw) e = absurd cc

-- a text without spaces around it that spells an Item without parameters spells its bare item
pub alone_spells : (d : Dialect) (t : List ℕ) (x : Bare)
    → SpellsField d kind.Item t (field.Item (item x [])) → IsTight t → SpellsBare d t x
alone_spells d t x (gap, body, tail, e, g, (prefix, suffix, f, b, (raw, s, r)), q) w =
    let nothing : suffix ≡ [] = subst (λ y. SpellsRaw d suffix y) (no_params raw s) r in
    let is : t ≡ prefix =
    no_tail t body tail (no_gap t gap (body ++ tail) e g w) q w
    ∙ f
    ∙ ap (λ y. prefix ++ y) nothing
    ∙ append-nil prefix in
    subst (λ y. SpellsBare d y x) (sym is) b

-- a bare item is an Item without parameters
pub bare_alone : (d : Dialect) (t : List ℕ) (x : Bare) → SpellsBare d t x
    → SpellsField d kind.Item t (field.Item (item x []))
bare_alone d t x b =
    ([], t, [], sym (append-nil t), tt, (t, [], sym (append-nil t), b, ([], refl, refl)), tt)

-- The table of UTF-8 and the UTF-8 of std are one.
use Rattle.std.proofs.Common.{◌≡◌, ℕ, zero, suc, ◌+◌, ◌-◌, ◌*◌, ◌/◌, ◌<◌, ◌≤◌, true}
use Rattle.std.proofs.Common.{List, [], ◌∷◌, ◌++◌, Some, refl, sym, ap₂, ◌∙◌, subst, inl}
use Rattle.std.proofs.Common.{inr, ⊎_elim, ◌⊎◌, arith, IsUtf8, length, length-append, le_refl}
use Rattle.std.proofs.lemmas.Bool.{and_parts}
use lib.Utf8.{encode, encodes, scalar, scalars, next}
use Rattle.sf_value.specs.Grammar.Words.{allow}
use Rattle.sf_value.specs.Grammar.Utf8.{Utf8, Start, Within, followed_by, within, rows, look_up}
use Rattle.sf_value.specs.Grammar.Utf8.{WellFormed}
use Rattle.sf_value.proofs.Words.{allow_cases, option_or_cases}

pub ranged : (low high b : ℕ) → within low high b ≡ true → (low ≤ b) × (b ≤ high)
ranged low high b e = (grind arith, grind arith)

pub in_range : (low high b : ℕ) → low ≤ b → b ≤ high → within low high b ≡ true
in_range low high b l h = grind arith

-- what holds of each row holds of what is looked up
abbrev pub EachRow : (ℕ → Utf8 → Type 0) → List (ℕ × ℕ × Utf8) → Type 0
EachRow P [] = Unit {0}
EachRow P (r ∷ rs) = ((b : ℕ) → r.0 ≤ b → b ≤ r.1 → P b r.2) × EachRow P rs

pub looked_up : (P : ℕ → Utf8 → Type 0) (rs : List (ℕ × ℕ × Utf8)) → EachRow P rs
    → (b : ℕ) (x : Utf8) → look_up rs b ≡ Some x → P b x
looked_up P [] h b x e = absurd cc
looked_up P (r ∷ rs) h b x e = ⊎_elim
    (λ k. let c = allow_cases (within r.0 r.1 b) r.2 x k in let l = ranged r.0 r.1 b c.0 in
    subst (P b) (sym c.1) (h.0 b l.0 l.1))
    (λ k. looked_up P rs h.1 b x k.1)
    (option_or_cases (allow (within r.0 r.1 b) r.2) (look_up rs b) x e)

-- the rows by their ranges
row_two : (b : ℕ) → 194 ≤ b → b ≤ 223 → look_up rows b ≡ Some (Within 0 128 191)
row_two b l h = grind arith

row_e0 : (b : ℕ) → 224 ≤ b → b ≤ 224 → look_up rows b ≡ Some (Within 1 160 191)
row_e0 b l h = grind arith

row_low : (b : ℕ) → 225 ≤ b → b ≤ 236 → look_up rows b ≡ Some (Within 1 128 191)
row_low b l h = grind arith

row_f1 : (b : ℕ) → 241 ≤ b → b ≤ 243 → look_up rows b ≡ Some (Within 2 128 191)
row_f1 b l h = grind arith

encode_one : (c : ℕ) → c < 128 → encode c ≡ c ∷ []
unfolding encode
encode_one c h = grind arith

encode_two : (c : ℕ) → 128 ≤ c → c < 2048 → encode c ≡ (192 + c / 64) ∷ next c ∷ []
unfolding encode
encode_two c l h = grind arith

encode_three : (c : ℕ) → 2048 ≤ c → c < 65536
    → encode c ≡ (224 + c / 4096) ∷ next (c / 64) ∷ next c ∷ []
unfolding encode
encode_three c l h = grind arith

encode_four : (c : ℕ) → 65536 ≤ c
    → encode c ≡ (240 + c / 262144) ∷ next (c / 4096) ∷ next (c / 64) ∷ next c ∷ []
unfolding encode
encode_four c l = grind arith

row_ed : (b : ℕ) → 237 ≤ b → b ≤ 237 → look_up rows b ≡ Some (Within 1 128 159)
row_ed b l h = grind arith

row_high : (b : ℕ) → 238 ≤ b → b ≤ 239 → look_up rows b ≡ Some (Within 1 128 191)
row_high b l h = grind arith

row_f0 : (b : ℕ) → 240 ≤ b → b ≤ 240 → look_up rows b ≡ Some (Within 2 144 191)
row_f0 b l h = grind arith

row_f4 : (b : ℕ) → 244 ≤ b → b ≤ 244 → look_up rows b ≡ Some (Within 2 128 143)
row_f4 b l h = grind arith

row_one : (b : ℕ) → b ≤ 127 → look_up rows b ≡ Some Start
row_one b h = grind arith

-- a byte in the range
next_byte : (n low high b : ℕ) (s : List ℕ) → low ≤ b → b ≤ high → WellFormed (followed_by n) s
    → WellFormed (Within n low high) (b ∷ s)
next_byte n low high b s l h w = (followed_by n, rw (in_range low high b l h) refl, w)

-- a character of three bytes, and one of four
first_of_three : (b low high x y : ℕ) (s : List ℕ) → look_up rows b ≡ Some (Within 1 low high)
    → low ≤ next x → next x ≤ high → WellFormed Start s
    → WellFormed Start (b ∷ next x ∷ next y ∷ s)
first_of_three b low high x y s e l h w = (
  Within 1 low high,
  e,
  next_byte 1 low high (next x) (next y ∷ s) l h
      (next_byte 0 128 191 (next y) s (omega arith) (omega arith) w),
)

first_of_four : (b low high x y z : ℕ) (s : List ℕ) → look_up rows b ≡ Some (Within 2 low high)
    → low ≤ next x → next x ≤ high → WellFormed Start s
    → WellFormed Start (b ∷ next x ∷ next y ∷ next z ∷ s)
first_of_four b low high x y z s e l h w = (
  Within 2 low high,
  e,
  next_byte 2 low high (next x) (next y ∷ next z ∷ s) l h
      (next_byte 1 128 191 (next y) (next z ∷ s) (omega arith) (omega arith)
      (next_byte 0 128 191 (next z) s (omega arith) (omega arith) w)),
)

Split : ℕ → Type 0
Split c = (c < 128) ⊎ (((128 ≤ c) × (c < 2048)) ⊎ (((2048 ≤ c) × (c < 65536)) ⊎ (65536 ≤ c)))

split : (c : ℕ) → Split c
unfolding Split
split c = grind arith

Split3 : ℕ → Type 0
Split3 c = (c < 4096) ⊎ (((4096 ≤ c) × (c < 53248)) ⊎ (((53248 ≤ c) × (c < 55296)) ⊎ (57344 ≤ c)))

split3 : (c : ℕ) → scalar c ≡ true → Split3 c
unfolding Split3
split3 c e = grind arith

Split4 : ℕ → Type 0
Split4 c = (c < 262144) ⊎ (((262144 ≤ c) × (c < 1048576)) ⊎ ((1048576 ≤ c) × (c < 1114112)))

split4 : (c : ℕ) → 65536 ≤ c → scalar c ≡ true → Split4 c
unfolding Split4
split4 c l e = grind arith

three_from : (c : ℕ) (s : List ℕ) → 2048 ≤ c → c < 65536 → scalar c ≡ true → WellFormed Start s
    → WellFormed Start ((224 + c / 4096) ∷ next (c / 64) ∷ next c ∷ s)
unfolding Split3
three_from c s l h e w = ⊎_elim
    (λ k. first_of_three (224 + c / 4096) 160 191 (c / 64) c s
    (row_e0 (224 + c / 4096) (omega arith) (omega arith)) (omega arith) (omega arith) w)
    (⊎_elim
    (λ k. first_of_three (224 + c / 4096) 128 191 (c / 64) c s
    (row_low (224 + c / 4096) (omega arith) (omega arith)) (omega arith) (omega arith) w)
    (⊎_elim
    (λ k. first_of_three (224 + c / 4096) 128 159 (c / 64) c s
    (row_ed (224 + c / 4096) (omega arith) (omega arith)) (omega arith) (omega arith) w)
    (λ k. first_of_three (224 + c / 4096) 128 191 (c / 64) c s
    (row_high (224 + c / 4096) (omega arith) (omega arith)) (omega arith) (omega arith) w)))
    (split3 c e)

four_from : (c : ℕ) (s : List ℕ) → 65536 ≤ c → scalar c ≡ true → WellFormed Start s
    → WellFormed Start ((240 + c / 262144) ∷ next (c / 4096) ∷ next (c / 64) ∷ next c ∷ s)
unfolding Split4
four_from c s l e w = ⊎_elim
    (λ k. first_of_four (240 + c / 262144) 144 191 (c / 4096) (c / 64) c s
    (row_f0 (240 + c / 262144) (omega arith) (omega arith)) (omega arith) (omega arith) w)
    (⊎_elim
    (λ k. first_of_four (240 + c / 262144) 128 191 (c / 4096) (c / 64) c s
    (row_f1 (240 + c / 262144) (omega arith) (omega arith)) (omega arith) (omega arith) w)
    (λ k. first_of_four (240 + c / 262144) 128 143 (c / 4096) (c / 64) c s
    (row_f4 (240 + c / 262144) (omega arith) (omega arith)) (omega arith) (omega arith) w))
    (split4 c l e)

char_from : (c : ℕ) (s : List ℕ) → scalar c ≡ true → WellFormed Start s
    → WellFormed Start (encode c ++ s)
unfolding Split
char_from c s e w = ⊎_elim
    (λ k. of (c ∷ []) (encode_one c k) (Start, row_one c (omega arith), w))
    (⊎_elim (λ k. of _ (encode_two c k.0 k.1) (
      Within 0 128 191,
      row_two (192 + c / 64) (omega arith) (omega arith),
      next_byte 0 128 191 (next c) s (omega arith) (omega arith) w,
    ))
    (⊎_elim (λ k. of _ (encode_three c k.0 k.1) (three_from c s k.0 k.1 e w))
    (λ k. of _ (encode_four c k) (four_from c s k e w))))
    (split c)
  where
    of : (t : List ℕ) → encode c ≡ t → WellFormed Start (t ++ s) → WellFormed Start (encode c ++ s)
    of t i h = subst (λ y. WellFormed Start (y ++ s)) (sym i) h

chars_from : (cs : List ℕ) → scalars cs ≡ true → WellFormed Start (encodes cs)
chars_from [] e = tt
chars_from (c ∷ cs) e = let k = and_parts (scalar c) (scalars cs) e in
    char_from c (encodes cs) k.0 (chars_from cs k.1)

-- what std calls UTF-8 is in the table
pub from_utf8 : (s : List ℕ) → IsUtf8 s → WellFormed Start s
from_utf8 s (cs, (e, i)) = subst (WellFormed Start) i (chars_from cs e)

-- what the table says of a first byte of three, and of one of four
abbrev Three : ℕ → ℕ → ℕ → Type 0
Three b low high =
    (224 ≤ b) × (b ≤ 239) × (128 ≤ low) × (high ≤ 191) × (b ≡ 224 → 160 ≤ low)
    × (b ≡ 237 → high ≤ 159)

abbrev Four : ℕ → ℕ → ℕ → Type 0
Four b low high =
    (240 ≤ b) × (b ≤ 244) × (128 ≤ low) × (high ≤ 191) × (b ≡ 240 → 144 ≤ low)
    × (b ≡ 244 → high ≤ 143)

Shape : ℕ → Utf8 → Type 0
Shape b y =
    ((b ≤ 127) × (y ≡ Start))
    ⊎ (((194 ≤ b) × (b ≤ 223) × (y ≡ Within 0 128 191))
    ⊎ (((low high : ℕ) × (y ≡ Within 1 low high) × Three b low high)
    ⊎ ((low high : ℕ) × (y ≡ Within 2 low high) × Four b low high)))

shapes : EachRow Shape rows
unfolding Shape
shapes = (
  (λ b l h. inl (h, refl)),
  (
    (λ b l h. inr (inl (l, h, refl))),
    (
      (λ b l h. inr (inr (inl (160, 191, refl, omega arith)))),
      (
        (λ b l h. inr (inr (inl (128, 191, refl, omega arith)))),
        (
          (λ b l h. inr (inr (inl (128, 159, refl, omega arith)))),
          (
            (λ b l h. inr (inr (inl (128, 191, refl, omega arith)))),
            (
              (λ b l h. inr (inr (inr (144, 191, refl, omega arith)))),
              (
                (λ b l h. inr (inr (inr (128, 191, refl, omega arith)))),
                ((λ b l h. inr (inr (inr (128, 143, refl, omega arith)))), tt),
              ),
            ),
          ),
        ),
      ),
    ),
  ),
)

more_chars : (c : ℕ) (t s : List ℕ) → scalar c ≡ true → encode c ≡ t → IsUtf8 s → IsUtf8 (t ++ s)
more_chars c t s e i (cs, (k, j)) = (c ∷ cs, (rw e k, ap₂ (λ x y. x ++ y) i j))

small_scalar : (c : ℕ) → c < 55296 → scalar c ≡ true
small_scalar c h = grind arith

large_scalar : (c : ℕ) → 57344 ≤ c → c < 1114112 → scalar c ≡ true
large_scalar c l h = grind arith

-- the value of a character of two, three and four bytes
of_two : (b c : ℕ) → 194 ≤ b → b ≤ 223 → 128 ≤ c → c ≤ 191
    → (x : ℕ) × (scalar x ≡ true) × (encode x ≡ b ∷ c ∷ [])
of_two b c l h l' h' =
    let x = (b - 192) * 64 + (c - 128) in
    let e1 : 192 + x / 64 ≡ b = omega arith in
    let e2 : next x ≡ c = omega arith in (
      x,
      small_scalar x (omega arith),
      encode_two x (omega arith) (omega arith)
          ∙ ap₂ (λ p q. p ∷ q ∷ []) e1 e2,
    )

of_three : (b c d : ℕ) → 224 ≤ b → b ≤ 239 → 128 ≤ c → c ≤ 191 → 128 ≤ d → d ≤ 191
    → (b ≡ 224 → 160 ≤ c) → (b ≡ 237 → c ≤ 159)
    → (x : ℕ) × (scalar x ≡ true) × (encode x ≡ b ∷ c ∷ d ∷ [])
of_three b c d l h l' h' l2 h2 low high =
    let lo : (160 ≤ c) ⊎ (225 ≤ b) = grind arith in
    let x = (b - 224) * 4096 + (c - 128) * 64 + (d - 128) in
    let e1 : 224 + x / 4096 ≡ b = omega arith in
    let e2 : next (x / 64) ≡ c = omega arith in
    let e3 : next x ≡ d = omega arith in
    let s : (x < 55296) ⊎ (57344 ≤ x) = grind arith in
    let top : x < 65536 = omega arith in (
      x,
      ⊎_elim (λ k. small_scalar x k) (λ k. large_scalar x k (omega arith)) s,
      encode_three x (omega arith) top
          ∙ ap₂ (λ p q. p ∷ q) e1 (ap₂ (λ p q. p ∷ q ∷ []) e2 e3),
    )

of_four : (b c d f : ℕ) → 240 ≤ b → b ≤ 244 → 128 ≤ c → c ≤ 191 → 128 ≤ d → d ≤ 191 → 128 ≤ f
    → f ≤ 191 → (b ≡ 240 → 144 ≤ c) → (b ≡ 244 → c ≤ 143)
    → (x : ℕ) × (scalar x ≡ true) × (encode x ≡ b ∷ c ∷ d ∷ f ∷ [])
of_four b c d f l h l' h' l2 h2 l3 h3 low high =
    let lo : (144 ≤ c) ⊎ (241 ≤ b) = grind arith in
    let hi : (c ≤ 143) ⊎ (b ≤ 243) = grind arith in
    let x = (b - 240) * 262144 + (c - 128) * 4096 + (d - 128) * 64 + (f - 128) in
    let e1 : 240 + x / 262144 ≡ b = omega arith in
    let e2 : next (x / 4096) ≡ c = omega arith in
    let e3 : next (x / 64) ≡ d = omega arith in
    let e4 : next x ≡ f = omega arith in
    let bottom : 65536 ≤ x = omega arith in
    let top : x < 1114112 = omega arith in (
      x,
      large_scalar x (omega arith) top,
      encode_four x bottom
          ∙ ap₂ (λ p q. p ∷ q) e1 (ap₂ (λ p q. p ∷ q) e2 (ap₂ (λ p q. p ∷ q ∷ []) e3 e4)),
    )

shorter : (t s : List ℕ) (n : ℕ) → length (t ++ s) ≤ suc n → 1 ≤ length t → length s ≤ n
shorter t s n h k = omega (arith, length-append t s)

-- the byte is in its range, and well-formed text follows
after_one : (low high c : ℕ) (s : List ℕ) (n : ℕ) → WellFormed (Within n low high) (c ∷ s)
    → (low ≤ c) × (c ≤ high) × WellFormed (followed_by n) s
after_one low high c s n (y, e, w) = let k = allow_cases (within low high c) (followed_by n) y e in
    let r = ranged low high c k.0 in (r.0, r.1, subst (λ z. WellFormed z s) k.1 w)

by_length : (n : ℕ) (s : List ℕ) → length s ≤ n → WellFormed Start s → IsUtf8 s
unfolding Shape
by_length n [] h w = ([], (refl, refl))
by_length zero (b ∷ s) h w = absurd (omega arith)
by_length (suc n) (b ∷ s) h (
  y,
  e,
  w,
) = go s h w (λ t k v. by_length n t k v) (looked_up Shape rows shapes b y e)
  where
    Rec : Type 0
    Rec = (t : List ℕ) → length t ≤ n → WellFormed Start t → IsUtf8 t

    two : (s : List ℕ) → length (b ∷ s) ≤ suc n → 194 ≤ b → b ≤ 223 → WellFormed (Within 0 128 191) s
        → Rec → IsUtf8 (b ∷ s)
    two [] h l u w rec = absurd w
    two (c ∷ s) h l u w rec =
        let k = after_one 128 191 c s 0 w in
        let x = of_two b c l u k.0 k.1 in
        more_chars x.0 (b ∷ c ∷ []) s x.1 x.2 (rec s (shorter (b ∷ c ∷ []) s n h (omega arith)) k.2)

    three : (s : List ℕ) (low high : ℕ) → length (b ∷ s) ≤ suc n → Three b low high
        → WellFormed (Within 1 low high) s → Rec → IsUtf8 (b ∷ s)
    three [] low high h t w rec = absurd w
    three (c ∷ []) low high h t w rec = absurd ((after_one low high c [] 1 w).2)
    three (c ∷ d ∷ s) low high h t w rec =
        let k = after_one low high c (d ∷ s) 1 w in
        let j = after_one 128 191 d s 0 k.2 in
        let x = of_three b c d t.0 t.1 (omega arith) (omega arith) j.0 j.1
        (λ e. omega (arith, t.4 e)) (λ e. omega (arith, t.5 e)) in
        more_chars x.0 (b ∷ c ∷ d ∷ []) s x.1 x.2
        (rec s (shorter (b ∷ c ∷ d ∷ []) s n h (omega arith)) j.2)

    four : (s : List ℕ) (low high : ℕ) → length (b ∷ s) ≤ suc n → Four b low high
        → WellFormed (Within 2 low high) s → Rec → IsUtf8 (b ∷ s)
    four [] low high h t w rec = absurd w
    four (c ∷ []) low high h t w rec = absurd ((after_one low high c [] 2 w).2)
    four (c ∷ d ∷ []) low high h t w rec = absurd
        ((after_one 128 191 d [] 1 (after_one low high c (d ∷ []) 2 w).2).2)
    four (c ∷ d ∷ f ∷ s) low high h t w rec =
        let k = after_one low high c (d ∷ f ∷ s) 2 w in
        let j = after_one 128 191 d (f ∷ s) 1 k.2 in
        let i = after_one 128 191 f s 0 j.2 in
        let x = of_four b c d f t.0 t.1 (omega arith) (omega arith) j.0 j.1 i.0 i.1
        (λ e. omega (arith, t.4 e)) (λ e. omega (arith, t.5 e)) in
        more_chars x.0 (b ∷ c ∷ d ∷ f ∷ []) s x.1 x.2
        (rec s (shorter (b ∷ c ∷ d ∷ f ∷ []) s n h (omega arith)) i.2)

    go : (s : List ℕ) → length (b ∷ s) ≤ suc n → WellFormed y s → Rec → Shape b y → IsUtf8 (b ∷ s)
    go s h w rec = ⊎_elim
        (λ k. more_chars b (b ∷ []) s (small_scalar b (omega arith)) (encode_one b (omega arith))
        (rec s (shorter (b ∷ []) s n h (omega arith)) (subst (λ z. WellFormed z s) k.1 w)))
        (⊎_elim (λ k. two s h k.0 k.1 (subst (λ z. WellFormed z s) k.2 w) rec)
        (⊎_elim (λ k. three s k.0 k.1 h k.3 (subst (λ z. WellFormed z s) k.2 w) rec)
        (λ k. four s k.0 k.1 h k.3 (subst (λ z. WellFormed z s) k.2 w) rec)))

-- what is in the table is std's UTF-8
pub to_utf8 : (s : List ℕ) → WellFormed Start s → IsUtf8 s
to_utf8 s w = by_length (length s) s (le_refl (length s)) w

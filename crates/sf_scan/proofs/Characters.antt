-- The places of the scanner in UTF-8 are the states of the grammar; and its bytes by their digits.
use Rattle.std.specs.Option.{option_map, option_or}
use Rattle.std.proofs.Common.{◌≡◌, ℕ, ◌+◌, ◌*◌, ◌/◌, ◌%◌, ◌<◌, ◌≤◌, Bool, true, false, not, ◌||◌}
use Rattle.std.proofs.Common.{List, [], ◌∷◌, Option, Some, None, is_some, refl, sym, ap, ◌∙◌, subst}
use Rattle.std.proofs.Common.{arith}
use Rattle.sf_value.specs.Grammar.Classes.{is_visible}
use Rattle.sf_value.specs.Grammar.Utf8.{Utf8, Start, Within, within, rows, look_up, utf8_step}
use Rattle.sf_value.specs.Grammar.Utf8.{WellFormed}
use Rattle.sf_value.specs.Grammar.Words.{allow}
use Rattle.sf_value.proofs.Tables.{all_below, each_below}
use Rattle.sf_scan.specs.Characters.{utf8_of, char_step, find_place, first_places, can_begin}
use Rattle.sf_scan.specs.Characters.{low_digits, is_low}
use Rattle.sf_scan.specs.declared.char_place.CharPlace.{CharPlace}
use Rattle.sf_scan.specs.declared.char_place.CharPlace.TheVariants as chars
use Rattle.sf_scan.specs.declared.char_place.LowDigits.{LowDigits}
use Rattle.sf_scan.specs.declared.char_place.LowDigits.TheVariants as low

-- one row
allowed : (c : Bool) (x : CharPlace) → option_map utf8_of (allow c x) ≡ allow c (utf8_of x)
allowed true x = refl
allowed false x = refl

row : (c : Bool) (x : CharPlace) (o : Option CharPlace) (r : Option Utf8) → option_map utf8_of o ≡ r
    → option_map utf8_of (option_or (allow c x) o) ≡ option_or (allow c (utf8_of x)) r
row true x o r e = refl
row false x o r e = e

first_steps : (b : ℕ) → option_map utf8_of (find_place first_places b) ≡ look_up rows b
first_steps b =
    row (within 0 127 b) chars.Start _ _
    (row (within 194 223 b) chars.Last _ _
    (row (within 224 224 b) chars.AfterE0 _ _
    (row (within 225 236 b) chars.LastTwo _ _
    (row (within 237 237 b) chars.AfterEd _ _
    (row (within 238 239 b) chars.LastTwo _ _
    (row (within 240 240 b) chars.AfterF0 _ _
    (row (within 241 243 b) chars.LastThree _ _
    (row (within 244 244 b) chars.AfterF4 None None refl))))))))

-- a step is that of the grammar
pub steps : (c : CharPlace) (b : ℕ) → option_map utf8_of (char_step c b) ≡ utf8_step (utf8_of c) b
steps chars.Start b = first_steps b
steps chars.Last b = allowed (within 128 191 b) chars.Start
steps chars.LastTwo b = allowed (within 128 191 b) chars.Last
steps chars.LastThree b = allowed (within 128 191 b) chars.LastTwo
steps chars.AfterE0 b = allowed (within 160 191 b) chars.Last
steps chars.AfterEd b = allowed (within 128 159 b) chars.Last
steps chars.AfterF0 b = allowed (within 144 191 b) chars.LastTwo
steps chars.AfterF4 b = allowed (within 128 143 b) chars.LastTwo

pub step_on : (c e : CharPlace) (b : ℕ) → char_step c b ≡ Some e
    → utf8_step (utf8_of c) b ≡ Some (utf8_of e)
step_on c e b k = sym (steps c b) ∙ ap (option_map utf8_of) k

pub step_back : (c : CharPlace) (b : ℕ) (y : Utf8) → utf8_step (utf8_of c) b ≡ Some y
    → (e : CharPlace) × (char_step c b ≡ Some e) × (utf8_of e ≡ y)
step_back c b y k = by (char_step c b) refl (steps c b ∙ k)
  where
    by : (o : Option CharPlace) → char_step c b ≡ o → option_map utf8_of o ≡ Some y
        → (e : CharPlace) × (char_step c b ≡ Some e) × (utf8_of e ≡ y)
    by (Some e) i h = (e, i, cc h)
    by None i h = absurd cc

-- well-formed texts
pub formed_next : (x : Utf8) (b : ℕ) (s : List ℕ) → WellFormed x (b ∷ s)
    → (y : Utf8) × (utf8_step x b ≡ Some y) × WellFormed y s
formed_next Start b s w = w
formed_next (Within n low high) b s w = w

pub formed_more : (x y : Utf8) (b : ℕ) (s : List ℕ) → utf8_step x b ≡ Some y → WellFormed y s
    → WellFormed x (b ∷ s)
formed_more Start y b s e w = (y, e, w)
formed_more (Within n low high) y b s e w = (y, e, w)

pub formed_end : (c : CharPlace) → WellFormed (utf8_of c) [] → c ≡ chars.Start
formed_end chars.Start w = refl
formed_end chars.Last w = absurd w
formed_end chars.LastTwo w = absurd w
formed_end chars.LastThree w = absurd w
formed_end chars.AfterE0 w = absurd w
formed_end chars.AfterEd w = absurd w
formed_end chars.AfterF0 w = absurd w
formed_end chars.AfterF4 w = absurd w

-- a byte that may stand for itself is a character
pub visible_step : (b : ℕ) → is_visible b ≡ true → char_step chars.Start b ≡ Some chars.Start
visible_step b h = rw (small b h) refl
  where
    small : (b : ℕ) → is_visible b ≡ true → within 0 127 b ≡ true
    small b h = grind arith

outside : (low high b : ℕ) → 128 ≤ low → is_visible b ≡ true → within low high b ≡ false
outside low high b l h = grind arith

not_visible : (low high : ℕ) (x e : CharPlace) (b : ℕ) → 128 ≤ low → is_visible b ≡ true
    → allow (within low high b) x ≡ Some e → ⊥
not_visible low high x e b l h k =
    let n : allow false x ≡ Some e = subst (λ c. allow c x ≡ Some e) (outside low high b l h) k in
    absurd cc

pub visible_start : (c e : CharPlace) (b : ℕ) → is_visible b ≡ true → char_step c b ≡ Some e
    → (c ≡ chars.Start) × (e ≡ chars.Start)
visible_start chars.Start e b h k =
    let s : Some chars.Start ≡ Some e = sym (visible_step b h) ∙ k in
    let t : chars.Start ≡ e = cc in (refl, sym t)
visible_start chars.Last e b h k = absurd (not_visible 128 191 chars.Start e b (omega arith) h k)
visible_start chars.LastTwo e b h k = absurd (not_visible 128 191 chars.Last e b (omega arith) h k)
visible_start chars.LastThree e b h k = absurd (not_visible 128 191 chars.LastTwo e b (omega arith) h k)
visible_start chars.AfterE0 e b h k = absurd (not_visible 160 191 chars.Last e b (omega arith) h k)
visible_start chars.AfterEd e b h k = absurd (not_visible 128 159 chars.Last e b (omega arith) h k)
visible_start chars.AfterF0 e b h k = absurd (not_visible 144 191 chars.LastTwo e b (omega arith) h k)
visible_start chars.AfterF4 e b h k = absurd (not_visible 128 143 chars.LastTwo e b (omega arith) h k)

-- the digits of the bytes that may come, by their table
same : Bool → Bool → Bool
same true c = c
same false c = not c

abbrev begins_table : CharPlace → Bool
begins_table c = all_below 256 (λ b. not (is_some (char_step c b)) || can_begin c (b / 16))

begins_all : (c : CharPlace) → begins_table c ≡ true
begins_all chars.Start = refl
begins_all chars.Last = refl
begins_all chars.LastTwo = refl
begins_all chars.LastThree = refl
begins_all chars.AfterE0 = refl
begins_all chars.AfterEd = refl
begins_all chars.AfterF0 = refl
begins_all chars.AfterF4 = refl

pub step_begins : (c e : CharPlace) (b : ℕ) → b < 256 → char_step c b ≡ Some e
    → can_begin c (b / 16) ≡ true
step_begins c e b l k =
    let h = each_below 256 (λ b. not (is_some (char_step c b)) || can_begin c (b / 16))
    (begins_all c) b l in
    subst (λ o. (not (is_some o) || can_begin c (b / 16)) ≡ true) k h

pub pair_begins : (c e : CharPlace) (h l : ℕ) → h < 16 → l < 16
    → char_step c (h * 16 + l) ≡ Some e → can_begin c h ≡ true
pair_begins c e h l i j k = first (h * 16 + l) (omega arith) (step_begins c e (h * 16 + l) (omega arith) k)
  where
    first : (b : ℕ) → b / 16 ≡ h → can_begin c (b / 16) ≡ true → can_begin c h ≡ true
    first b e m = subst (λ n. can_begin c n ≡ true) e m

-- for the byte b with the digits h and l
abbrev agrees : CharPlace → ℕ → ℕ → ℕ → Bool
agrees c b h l = not (can_begin c h) || same (is_some (char_step c b)) (is_low (low_digits c h) l)

low_all : (c : CharPlace) → all_below 256 (λ b. agrees c b (b / 16) (b % 16)) ≡ true
unfolding same
low_all chars.Start = refl
low_all chars.Last = refl
low_all chars.LastTwo = refl
low_all chars.LastThree = refl
low_all chars.AfterE0 = refl
low_all chars.AfterEd = refl
low_all chars.AfterF0 = refl
low_all chars.AfterF4 = refl

same_is : (c e : Bool) → same c e ≡ true → c ≡ e
unfolding same
same_is true e h = sym h
same_is false true h = absurd cc
same_is false false h = refl

pub low_same : (c : CharPlace) (h l : ℕ) → h < 16 → l < 16 → can_begin c h ≡ true
    → is_some (char_step c (h * 16 + l)) ≡ is_low (low_digits c h) l
low_same c h l i j k =
    same_is _ _ (rest (h * 16 + l) (omega arith) (omega arith)
    (each_below 256 (λ b. agrees c b (b / 16) (b % 16)) (low_all c) (h * 16 + l) (omega arith)))
  where
    rest : (b : ℕ) → b / 16 ≡ h → b % 16 ≡ l → agrees c b (b / 16) (b % 16) ≡ true
        → same (is_some (char_step c b)) (is_low (low_digits c h) l) ≡ true
    rest b e f n =
        let m = subst (λ x. agrees c b h x ≡ true) f (subst (λ x. agrees c b x (b % 16) ≡ true) e n) in
        subst (λ x. (not x || same (is_some (char_step c b)) (is_low (low_digits c h) l)) ≡ true) k
        m

pub is_low_two : (x : LowDigits) → is_low x 2 ≡ true
is_low_two low.Any = refl
is_low_two low.FromTwo = refl
is_low_two low.UpToFour = refl

-- What a bare item can continue with, and whether it may end, by the places of sf_scan.
use Rattle.std.specs.Option.{option_map, option_or, option_and_then}
use Rattle.std.proofs.Common.{◌≡◌, ℕ, zero, suc, ◌+◌, ◌*◌, ◌<◌, Bool, true, ◌==◌, ◌||◌, ◌&&◌}
use Rattle.std.proofs.Common.{nat_lt, nat_le, List, [], ◌∷◌, ◌++◌, Option, Some, None, is_some}
use Rattle.std.proofs.Common.{refl, sym, ap, ap₂, ◌∙◌, arith}
use Rattle.sf_value.specs.Digits.{unhex}
use Rattle.sf_value.specs.declared.dialect.Dialect.{Dialect}
use Rattle.sf_value.specs.declared.dialect.Dialect.TheVariants.{Rfc8941, Rfc9651}
use Rattle.sf_value.specs.Grammar.Classes.{is_digit, is_in_token}
use Rattle.sf_value.specs.Grammar.Utf8.{utf8_step}
use Rattle.sf_value.specs.Grammar.Words.{allow}
use Rattle.sf_value.proofs.DigitValues.{read_hex}
use Rattle.sf_scan.specs.Blobs.{in_blob}
use Rattle.sf_scan.specs.Characters.{utf8_of, char_step, can_begin, low_digits, is_low}
use Rattle.sf_scan.specs.DisplayStrings.{passes, in_between, is_first_digit}
use Rattle.sf_scan.specs.Places.{is_bare_start}
use Rattle.sf_scan.specs.declared.char_place.CharPlace.{CharPlace}
use Rattle.sf_scan.specs.declared.char_place.CharPlace.TheVariants as chars_is
use Rattle.sf_scan.specs.declared.place.BarePlace.{BarePlace}
use Rattle.sf_scan.specs.declared.place.BarePlace.TheVariants as place
use Rattle.sf_scan.proofs.Characters.{steps, low_same}
use Rattle.sf_parse.specs.BarePlaces.{IsPlace, number_place, date_place, boolean_place, text_place}
use Rattle.sf_parse.specs.BarePlaces.{group_place, padded_place, blob_place, shown_place}
use Rattle.sf_parse.specs.MemberEnds.{some_map}
use Rattle.sf_parse.specs.Views.{text_of, held_of, blob_of, shown_of, FitsPhase}
use Rattle.sf_parse.specs.Machine.Bares.{bare_start}
use Rattle.sf_parse.specs.Machine.Blobs.{Group, pad_step, blob_step, blob_finish}
use Rattle.sf_parse.specs.Machine.Numbers.{NumberState, Whole, Fraction, number_step, number_finish}
use Rattle.sf_parse.specs.Machine.Numbers.{DateState, Digits, Sign, date_step, date_finish}
use Rattle.sf_parse.specs.Machine.Showns.{Unencoded, Percent, Hex, shown_step, shown_finish}
use Rattle.sf_parse.specs.Machine.Texts.{text_step, text_finish, word_step}
use Rattle.sf_parse.specs.Machine.Texts.{boolean_step, boolean_finish}
use Rattle.sf_parse.specs.declared.blob.Held.{Held}
use Rattle.sf_parse.specs.declared.blob.Held.TheVariants as held
use Rattle.sf_parse.specs.declared.blob.BlobPhase.{BlobPhase}
use Rattle.sf_parse.specs.declared.blob.BlobPhase.TheVariants as blob_phase
use Rattle.sf_parse.specs.declared.boolean.BooleanState.{BooleanState}
use Rattle.sf_parse.specs.declared.boolean.BooleanState.TheVariants.{QuestionMark, WithValue}
use Rattle.sf_parse.specs.declared.display_string.ShownPhase.{ShownPhase}
use Rattle.sf_parse.specs.declared.display_string.ShownPhase.TheVariants as shown_phase
use Rattle.sf_parse.specs.declared.text.TextPhase.{TextPhase}
use Rattle.sf_parse.specs.declared.text.TextPhase.TheVariants as text_phase
use Rattle.sf_parse.proofs.Marks.{some_allow, some_or, is_same, each_same}

-- the place of a machine within another, and of one whose value is mapped
pub within : {S T V : Type 0} (f : S → T) (p : BarePlace) (o : ℕ → Option S) (v : Option V)
    → IsPlace p o v → IsPlace p (λ b. option_map f (o b)) v
within f p o v h = record { bytes = λ d b l. some_map f (o b) ∙ h.bytes d b l; ends = h.ends }

pub mapped : {S T V W : Type 0} (f : S → T) (g : V → W) (p : BarePlace) (o : ℕ → Option S)
    (v : Option V) → IsPlace p o v → IsPlace p (λ b. option_map f (o b)) (option_map g v)
mapped f g p o v h = record {
  bytes = λ d b l. some_map f (o b) ∙ h.bytes d b l;
  ends = some_map g v ∙ h.ends;
}

-- the first bytes
pub starts : (d : Dialect) → is_same (λ b. is_some (bare_start d b)) (is_bare_start d) ≡ true
starts Rfc8941 = refl
starts Rfc9651 = refl

-- numbers
either : {S : Type 0} (p q : Bool) (x y : S) → is_some (option_or (allow p x) (allow q y)) ≡ (p || q)
either p q x y = some_or (allow p x) (allow q y) ∙ ap₂ (λ a b. a || b) (some_allow p x) (some_allow q y)

swap : (p q : Bool) → (p && q) ≡ (q && p)
swap p q = grind arith

turned : (p q r s t : Bool) → (p && q || r && (s && t)) ≡ (q && p || s && (t && r))
turned p q r s t = grind arith

pub number_is : (s : NumberState) → IsPlace (number_place s) (number_step s) (number_finish s)
number_is (Whole neg n a) = record {
  bytes =
      λ d b l. either (is_digit b && nat_lt n 15) (b == 46 && (nat_le 1 n && nat_le n 12)) _ _
      ∙ turned (is_digit b) (nat_lt n 15) (b == 46) (nat_le 1 n) (nat_le n 12);
  ends = some_allow (nat_le 1 n) _;
}
number_is (Fraction neg whole n a) = record {
  bytes = λ d b l. some_allow (is_digit b && nat_lt n 3) _ ∙ swap (is_digit b) (nat_lt n 3);
  ends = some_allow (nat_le 1 n) _;
}

pub date_is : (s : DateState) → IsPlace (date_place s) (date_step s) (date_finish s)
date_is (Digits neg n a) = record {
  bytes = λ d b l. some_allow (is_digit b && nat_lt n 15) _ ∙ swap (is_digit b) (nat_lt n 15);
  ends = some_allow (nat_le 1 n) _;
}
date_is Sign = record { bytes = λ d. each_same _ _ refl; ends = refl }

pub boolean_is : (s : BooleanState) → IsPlace (boolean_place s) (boolean_step s) (boolean_finish s)
boolean_is QuestionMark = record { bytes = λ d. each_same _ _ refl; ends = refl }
boolean_is (WithValue c) = record { bytes = λ d b l. refl; ends = refl }

-- Strings and Tokens
pub text_is : (p : TextPhase) (bytes : List ℕ)
    → IsPlace (text_place p) (text_step (text_of p bytes)) (text_finish (text_of p bytes))
text_is text_phase.Inside bytes = record { bytes = λ d. each_same _ _ refl; ends = refl }
text_is text_phase.Escaped bytes = record { bytes = λ d. each_same _ _ refl; ends = refl }
text_is text_phase.Closed bytes = record { bytes = λ d b l. refl; ends = refl }

pub token_is : (bytes : List ℕ) → IsPlace place.InToken (word_step is_in_token bytes) (Some bytes)
token_is bytes = record { bytes = λ d b l. some_allow (is_in_token b) _; ends = refl }

-- Byte Sequences
group : (bytes : List ℕ) (h : Held)
    → is_same (λ b. is_some (blob_step (Group bytes (held_of h)) b)) (in_blob (group_place h)) ≡ true
group bytes held.H0 = refl
group bytes (held.H1 x) = refl
group bytes (held.H2 x y) = refl
group bytes (held.H3 x y z) = refl

one_more : (p q : Bool) (n : ℕ) → (p || (q && nat_lt 0 (suc n))) ≡ (p || q)
one_more p q n = grind arith

padded : (bytes : List ℕ) (n b : ℕ) → b < 128
    → is_some (pad_step bytes n b) ≡ in_blob (padded_place n) b
padded bytes zero = each_same _ _ refl
padded bytes (suc n) =
    λ b l. either (b == 58) (b == 61 && nat_lt 0 (suc n)) _ _ ∙ one_more (b == 58) (b == 61) n

pub blob_is : (p : BlobPhase) (bytes : List ℕ)
    → IsPlace (blob_place p) (blob_step (blob_of p bytes)) (blob_finish (blob_of p bytes))
blob_is (blob_phase.Group h) bytes = record {
  bytes = λ d. each_same _ _ (group bytes h);
  ends = refl;
}
blob_is (blob_phase.Padded more) bytes = record { bytes = λ d. padded bytes more; ends = refl }
blob_is blob_phase.Ended bytes = record { bytes = λ d b l. refl; ends = refl }

-- Display Strings: between the quotes, and the digits of an escape
between : (bytes : List ℕ) (c : CharPlace)
    → is_same (λ b. is_some (shown_step (Unencoded bytes (utf8_of c)) b)) (in_between c) ≡ true
between bytes chars_is.Start = refl
between bytes chars_is.Last = refl
between bytes chars_is.LastTwo = refl
between bytes chars_is.LastThree = refl
between bytes chars_is.AfterE0 = refl
between bytes chars_is.AfterEd = refl
between bytes chars_is.AfterF0 = refl
between bytes chars_is.AfterF4 = refl

first_digit : (bytes : List ℕ) (c : CharPlace)
    → is_same (λ b. is_some (shown_step (Percent bytes (utf8_of c)) b)) (is_first_digit c) ≡ true
first_digit bytes chars_is.Start = refl
first_digit bytes chars_is.Last = refl
first_digit bytes chars_is.LastTwo = refl
first_digit bytes chars_is.LastThree = refl
first_digit bytes chars_is.AfterE0 = refl
first_digit bytes chars_is.AfterEd = refl
first_digit bytes chars_is.AfterF0 = refl
first_digit bytes chars_is.AfterF4 = refl

second_digit : (bytes : List ℕ) (c : CharPlace) (h b : ℕ) → h < 16 → can_begin c h ≡ true
    → is_some (shown_step (Hex bytes (utf8_of c) h) b) ≡ passes (is_low (low_digits c h)) (unhex b)
second_digit bytes c h b i k = by (unhex b) refl
  where
    by : (o : Option ℕ) → unhex b ≡ o
        → is_some (option_and_then (λ l. option_map (Unencoded (bytes ++ (h * 16 + l) ∷ []))
        (utf8_step (utf8_of c) (h * 16 + l))) o) ≡ passes (is_low (low_digits c h)) o
    by (Some l) e =
        some_map (Unencoded (bytes ++ (h * 16 + l) ∷ [])) (utf8_step (utf8_of c) (h * 16 + l))
        ∙ ap (λ x. is_some x) (sym (steps c (h * 16 + l)))
        ∙ some_map utf8_of (char_step c (h * 16 + l)) ∙ low_same c h l i (read_hex b l e).1 k
    by None e = refl

pub shown_is : (p : ShownPhase) (bytes : List ℕ) (c : CharPlace) → FitsPhase p bytes c
    → IsPlace (shown_place p c) (shown_step (shown_of p bytes c)) (shown_finish (shown_of p bytes c))
shown_is shown_phase.Quote bytes c f = record { bytes = λ d. each_same _ _ refl; ends = refl }
shown_is shown_phase.Unencoded bytes c f = record {
  bytes = λ d. each_same _ _ (between bytes c);
  ends = refl;
}
shown_is shown_phase.Percent bytes c f = record {
  bytes = λ d. each_same _ _ (first_digit bytes c);
  ends = refl;
}
shown_is (shown_phase.Hex h) bytes c f = record {
  bytes = λ d b l. second_digit bytes c h b f.0 f.1;
  ends = refl;
}
shown_is shown_phase.Done bytes c f = record { bytes = λ d b l. refl; ends = refl }

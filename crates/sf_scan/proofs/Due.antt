-- At each place where a field may stop some byte may come: the bits of a refusal are never all 0.
use Rattle.std.proofs.Common.{◌≡◌, ℕ, zero, suc, ◌<◌, Bool, true, false, nat_lt, nat_le, cond}
use Rattle.std.proofs.Common.{◌&&◌, ◌||◌, ◌==◌, refl, arith}
use Rattle.std.specs.Int.{bit_at}
use Rattle.std.proofs.lemmas.Bool.{and_parts}
use Rattle.std.proofs.lemmas.Nat.Bits.{bit_at-zero}
use Rattle.sf_value.specs.Ascii.{space, quote, percent, asterisk, comma, digit_zero, colon}
use Rattle.sf_value.specs.Ascii.{semicolon, equals}
use Rattle.sf_value.specs.Grammar.Classes.{is_sp, is_ows}
use Rattle.sf_value.specs.declared.dialect.Dialect.{Dialect}
use Rattle.sf_scan.specs.Blobs.{in_blob}
use Rattle.sf_scan.specs.DisplayStrings.{in_between, is_first_digit, is_second_digit, in_shown}
use Rattle.sf_scan.specs.Entries.{in_entry, ends_entry, in_dict}
use Rattle.sf_scan.specs.InnerLists.{in_inner}
use Rattle.sf_scan.specs.ItemFields.{in_field}
use Rattle.sf_scan.specs.Items.{in_item, ends_item}
use Rattle.sf_scan.specs.Members.{in_member, ends_member}
use Rattle.sf_scan.specs.NumberPlaces.{in_number, ends_number}
use Rattle.sf_scan.specs.Places.{in_bare, ends_bare, in_params}
use Rattle.sf_scan.specs.Series.{in_series, in_list}
use Rattle.sf_scan.specs.Sets.{Marks}
use Rattle.sf_scan.specs.declared.blob_place.BlobPlace.{BlobPlace}
use Rattle.sf_scan.specs.declared.blob_place.BlobPlace.TheVariants as blob
use Rattle.sf_scan.specs.declared.char_place.CharPlace.{CharPlace}
use Rattle.sf_scan.specs.declared.char_place.CharPlace.TheVariants as chars
use Rattle.sf_scan.specs.declared.char_place.LowDigits.{LowDigits}
use Rattle.sf_scan.specs.declared.char_place.LowDigits.TheVariants as low
use Rattle.sf_scan.specs.declared.entry.EntryPlace.{EntryPlace}
use Rattle.sf_scan.specs.declared.entry.EntryPlace.TheVariants as entry
use Rattle.sf_scan.specs.declared.field.FieldPlace.{FieldPlace}
use Rattle.sf_scan.specs.declared.field.FieldPlace.TheVariants as field
use Rattle.sf_scan.specs.declared.inner.InnerPlace.{InnerPlace}
use Rattle.sf_scan.specs.declared.inner.InnerPlace.TheVariants as inner
use Rattle.sf_scan.specs.declared.item.ItemPlace.{ItemPlace}
use Rattle.sf_scan.specs.declared.item.ItemPlace.TheVariants as item
use Rattle.sf_scan.specs.declared.member.MemberPlace.{MemberPlace}
use Rattle.sf_scan.specs.declared.member.MemberPlace.TheVariants as member
use Rattle.sf_scan.specs.declared.number_place.NumberPlace.{NumberPlace}
use Rattle.sf_scan.specs.declared.number_place.NumberPlace.TheVariants as number
use Rattle.sf_scan.specs.declared.place.BarePlace.{BarePlace}
use Rattle.sf_scan.specs.declared.place.BarePlace.TheVariants as bare
use Rattle.sf_scan.specs.declared.place.ParamPlace.{ParamPlace}
use Rattle.sf_scan.specs.declared.place.ParamPlace.TheVariants as param
use Rattle.sf_scan.specs.declared.series.SeriesPlace.{SeriesPlace}
use Rattle.sf_scan.specs.declared.series.SeriesPlace.TheVariants as series
use Rattle.sf_scan.specs.declared.shown_place.ShownPlace.{ShownPlace}
use Rattle.sf_scan.specs.declared.shown_place.ShownPlace.TheVariants as shown
use Rattle.sf_scan.proofs.Sequences.{or_left, or_right}

-- some byte below 128 passes the test
abbrev pub Due : (ℕ → Bool) → Type 0
Due next = (b : ℕ) × ((nat_lt b 128 && next b) ≡ true)

pub due_bits : (bits : ℕ) (next : ℕ → Bool) → Marks bits next → Due next → 0 < bits
due_bits zero next m h =
    let e : bit_at 0 h.0 ≡ cond (nat_lt h.0 128 && next h.0) 1 0 = m h.0 in
    let f = rw h.1 at e in
    let z = bit_at-zero h.0 in
    absurd (omega arith)
due_bits (suc n) next m h = omega arith

both : (x y : Bool) → x ≡ true → y ≡ true → (x && y) ≡ true
both x y h k = rw (h, k) refl

due_left : (p q : ℕ → Bool) → Due p → Due (λ b. p b || q b)
due_left p q h =
    let k = and_parts (nat_lt h.0 128) (p h.0) h.1 in
    (h.0, both (nat_lt h.0 128) (p h.0 || q h.0) k.0 (or_left (p h.0) (q h.0) k.1))

due_right : (p q : ℕ → Bool) → Due q → Due (λ b. p b || q b)
due_right p q h =
    let k = and_parts (nat_lt h.0 128) (q h.0) h.1 in
    (h.0, both (nat_lt h.0 128) (p h.0 || q h.0) k.0 (or_right (p h.0) (q h.0) k.1))

-- where a construct may end, a byte that may follow it; else one that may come in it
due_after : (c : Bool) (p q : ℕ → Bool) → (c ≡ false → Due p) → Due q → Due (λ b. p b || (c && q b))
due_after true p q h k = due_right p q k
due_after false p q h k = due_left p (λ b. false) (h refl)

due_blob : (p : BlobPlace) → Due (in_blob p)
due_blob blob.Whole = (colon, refl)
due_blob blob.One = (digit_zero, refl)
due_blob blob.Two = (colon, refl)
due_blob blob.Three = (colon, refl)
due_blob blob.Pad = (colon, refl)
due_blob blob.Padded = (colon, refl)

due_between : (c : CharPlace) → Due (in_between c)
due_between chars.Start = (percent, refl)
due_between chars.Last = (percent, refl)
due_between chars.LastTwo = (percent, refl)
due_between chars.LastThree = (percent, refl)
due_between chars.AfterE0 = (percent, refl)
due_between chars.AfterEd = (percent, refl)
due_between chars.AfterF0 = (percent, refl)
due_between chars.AfterF4 = (percent, refl)

-- the first digit of an escape: b'8', b'9' or b'a' within a character
due_first : (c : CharPlace) → Due (is_first_digit c)
due_first chars.Start = (digit_zero, refl)
due_first chars.Last = (56, refl)
due_first chars.LastTwo = (56, refl)
due_first chars.LastThree = (56, refl)
due_first chars.AfterE0 = (97, refl)
due_first chars.AfterEd = (56, refl)
due_first chars.AfterF0 = (57, refl)
due_first chars.AfterF4 = (56, refl)

-- its second digit: b'2'
due_second : (l : LowDigits) → Due (is_second_digit l)
due_second low.Any = (50, refl)
due_second low.FromTwo = (50, refl)
due_second low.UpToFour = (50, refl)

due_shown : (p : ShownPlace) → Due (in_shown p)
due_shown shown.Quote = (quote, refl)
due_shown (shown.Between c) = due_between c
due_shown (shown.Percent c) = due_first c
due_shown (shown.Digit l) = due_second l

positive : (n : ℕ) → nat_le 1 (suc n) ≡ false → ⊥
positive n e = grind arith

due_number : (p : NumberPlace) → ends_number p ≡ false → Due (in_number p)
due_number (number.Whole zero) e = (digit_zero, refl)
due_number (number.Whole (suc n)) e = absurd (positive n e)
due_number (number.Fraction zero) e = (digit_zero, refl)
due_number (number.Fraction (suc n)) e = absurd (positive n e)
due_number number.At e = (digit_zero, refl)
due_number (number.DateDigits zero) e = (digit_zero, refl)
due_number (number.DateDigits (suc n)) e = absurd (positive n e)

-- in a bare item that may not end there
due_bare : (d : Dialect) (p : BarePlace) → ends_bare p ≡ false → Due (in_bare d p)
due_bare d bare.Start e = (quote, refl)
due_bare d bare.QuestionMark e = (digit_zero, refl)
due_bare d bare.InToken e = absurd cc
due_bare d bare.InString e = (quote, refl)
due_bare d bare.Backslash e = (quote, refl)
due_bare d (bare.Blob p) e = due_blob p
due_bare d (bare.Shown p) e = due_shown p
due_bare d (bare.Number p) e = due_number p e
due_bare d bare.Complete e = absurd cc

-- above bare items something may always follow
due_params : (d : Dialect) (p : ParamPlace) → Due (in_params d p)
due_params d param.Before = (semicolon, refl)
due_params d param.Semicolon = (space, refl)
due_params d param.InKey = (equals, refl)
due_params d (param.InValue p) =
    due_after (ends_bare p) (in_bare d p) (λ b. b == semicolon) (due_bare d p) (semicolon, refl)

due_item : (d : Dialect) (p : ItemPlace) → Due (in_item d p)
due_item d (item.InBare p) =
    due_after (ends_bare p) (in_bare d p) (λ b. b == semicolon) (due_bare d p) (semicolon, refl)
due_item d (item.InParams p) = due_params d p

due_inner : (d : Dialect) (p : InnerPlace) → Due (in_inner d p)
due_inner d inner.Open = (quote, refl)
due_inner d (inner.InItem p) = due_left (in_item d p) _ (due_item d p)
due_inner d (inner.InParams p) = due_params d p

due_member : (d : Dialect) (p : MemberPlace) → Due (in_member d p)
due_member d member.Start = (quote, refl)
due_member d (member.InItem p) = due_item d p
due_member d (member.InInner p) = due_inner d p

due_entry : (d : Dialect) (p : EntryPlace) → Due (in_entry d p)
due_entry d entry.Start = (asterisk, refl)
due_entry d entry.InKey = (equals, refl)
due_entry d (entry.InValue p) = due_member d p
due_entry d (entry.InParams p) = due_params d p

-- whole fields
pub due_field : (d : Dialect) (p : FieldPlace) → Due (in_field d p)
due_field d field.Start = (quote, refl)
due_field d (field.InItem p) =
    due_left (in_item d p) (λ b. ends_item p && is_sp b) (due_item d p)
due_field d field.Spaces = (space, refl)

due_series : {P : Type 0} (start : P) (next : P → ℕ → Bool) (ends : P → Bool)
    → ((p : P) → Due (next p)) → (p : SeriesPlace P) → Due (in_series start next ends p)
due_series start next ends due series.Start = due_left (next start) is_sp (due start)
due_series start next ends due (series.InMember p) =
    due_left (next p) (λ b. ends p && (is_ows b || b == comma)) (due p)
due_series start next ends due series.Spaces = (comma, refl)
due_series start next ends due series.Comma = due_left (next start) is_ows (due start)

pub due_list : (d : Dialect) (p : SeriesPlace MemberPlace) → Due (in_list d p)
due_list d = due_series member.Start (in_member d) ends_member (due_member d)

pub due_dict : (d : Dialect) (p : SeriesPlace EntryPlace) → Due (in_dict d p)
due_dict d = due_series entry.Start (in_entry d) ends_entry (due_entry d)

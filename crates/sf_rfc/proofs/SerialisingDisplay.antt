-- Serialising Display Strings.
use Rattle.std.proofs.Common.{◌≡◌, ℕ, ◌/◌, ◌%◌, ◌<◌, Bool, true, false, ◌||◌, ◌==◌, List}
use Rattle.std.proofs.Common.{[], ◌∷◌, ◌++◌, Some, get_or, refl, ap, ◌∙◌, arith}
use Rattle.std.specs.Prelude.{codes, map}
use Rattle.std.specs.List.{range_with_len}
use Rattle.std.proofs.lemmas.List.FromFn.{get_or-map-range_with_len}
use Rattle.std.proofs.lemmas.Bool.Decides.{nat_tests}
use Rattle.sf_value.specs.Grammar.Words.{Every}
use Rattle.sf_value.specs.Grammar.Classes.{is_byte}
use Rattle.sf_value.specs.Grammar.Utf8.{WellFormed, Start}
use Rattle.sf_value.specs.Grammar.DisplayStrings.{hex, is_unencoded}
use Rattle.sf_value.specs.Grammar.Canonical.{canon_shown}
use Rattle.sf_parse.proofs.Quads.{byte_small}
use Rattle.sf_rfc.specs.Rfc9651.Alphabets.{is_unprintable}
use Rattle.sf_rfc.specs.Rfc9651.SerialisingBare.{hex_character, display_bytes}
use Rattle.sf_rfc.specs.Rfc9651.SerialisingBare.{serialise_shown}
use Rattle.sf_rfc.proofs.Utf8Codings.{formed_decoded}

hex_digits : codes "0123456789abcdef" ≡ map hex (range_with_len 0 16)
hex_digits = refl

same_hex : (x : ℕ) → x < 16 → hex_character x ≡ hex x
unfolding hex_character
same_hex x h =
    ap (λ l. get_or l x 0) hex_digits ∙ get_or-map-range_with_len hex 0 16 x x 0 h (omega arith)

plain_kept : (c : ℕ) → is_unencoded c ≡ true → (c == 37 || (c == 34 || is_unprintable c)) ≡ false
plain_kept c e = grind (arith, nat_tests)

other_escaped : (c : ℕ) → is_unencoded c ≡ false → (c == 37 || (c == 34 || is_unprintable c)) ≡ true
other_escaped c e = grind (arith, nat_tests)

bytes_shown : (s : List ℕ) → Every is_byte s → display_bytes s ++ 34 ∷ [] ≡ canon_shown s
bytes_shown [] h = refl
bytes_shown (c ∷ s) h = go (is_unencoded c) refl (bytes_shown s h.1)
  where
    go : (x : Bool) → is_unencoded c ≡ x → display_bytes s ++ 34 ∷ [] ≡ canon_shown s
        → display_bytes (c ∷ s) ++ 34 ∷ [] ≡ canon_shown (c ∷ s)
    go true e k = rw (plain_kept c e, display_bytes, e) (ap (λ t. c ∷ t) k)
    go false e k =
        let small : c < 256 = byte_small c h.0 in
        rw (
          other_escaped c e,
          display_bytes,
          e,
          same_hex (c / 16) (omega arith),
          same_hex (c % 16) (omega arith),
        ) (ap (λ t. 37 ∷ hex (c / 16) ∷ hex (c % 16) ∷ t) k)

pub shown_serialised : (s : List ℕ) → WellFormed Start s → Every is_byte s
    → serialise_shown s ≡ Some (37 ∷ 34 ∷ canon_shown s)
shown_serialised s w h =
    let (sequence, i, j) = formed_decoded s w in
    rw (j, i) (ap (λ t. Some (37 ∷ 34 ∷ t)) (bytes_shown s h))

-- What the algorithms of RFC 9651 leave free: texts that parse and are not canonical, each with its
-- kind, its value and its canonical text, and with the step that accepts it. And texts that keep to
-- the ABNF and don't parse.
use Rattle.std.proofs.Common.{◌≡◌, ℕ, pos, negsuc, true, List as Seq, [], ◌∷◌, ◌++◌}
use Rattle.std.proofs.Common.{Some, None, refl, sym, ◌/◌, ◌%◌, ◌<◌, inl, inr, replicate}
use Rattle.std.proofs.Common.{append-nil, arith}
use Rattle.std.specs.Prelude.{codes, map}
use Rattle.sf_value.specs.declared.dialect.Dialect.TheVariants.{Rfc9651}
use Rattle.sf_value.specs.declared.value.Bare.TheVariants.{Integer, Decimal}
use Rattle.sf_value.specs.declared.value.Bare.TheVariants.{Blob, Boolean, Date, Shown}
use Rattle.sf_value.specs.declared.value.Kind.TheVariants as kind
use Rattle.sf_value.specs.Grammar.Words.{Every, Each}
use Rattle.sf_value.specs.Grammar.DisplayStrings.{hex}
use Rattle.sf_rfc.specs.Rfc9651.ParsingBare.{hex_value}
use Rattle.sf_rfc.specs.Rfc9651.Parsing.{parse_field}
use Rattle.sf_rfc.specs.Rfc9651.Base64.{value_of, character_of}
use Rattle.sf_rfc.specs.Rfc9651.SerialisingBare.{hex_character}
use Rattle.sf_rfc.specs.Rfc9651.Serialising.{Outcome, NotSerialised, Serialised, serialise}
use Rattle.sf_rfc.proofs.Examples.{Example, quoted, with, one, inner, an_item, a_list, a_dict, int}
use Rattle.sf_rfc.proofs.Examples.{word}
use Rattle.sf_rfc.specs.Rfc9651.Abnf.{sf_item}
use Rattle.sf_rfc.proofs.AbnfCharacters.{is_base64, base64_char, in_base64, every_many}
use Rattle.sf_rfc.proofs.AbnfBareItems.{pads, encoded}

abbrev freedoms : Seq Example
freedoms =
    -- Outside of the ABNF, as `abnf_is_trimmed` says. 4.2 step 2: SP before a field; step 6: SP
    -- after it
    (kind.Item, codes "  5", an_item (int 5) [], codes "5")
    ∷ (kind.Item, codes "5  ", an_item (int 5) [], codes "5")
    -- 4.2.1 step 2.2, 4.2.2 step 2.6: OWS, HTAB too, after the last member
    ∷ (
      kind.List,
      codes "a " ++ 9 ∷ [],
      a_list (one (word (codes "a")) [] ∷ []),
      codes "a",
    )
    ∷ (
      kind.Dict,
      codes "a=1" ++ 9 ∷ codes " ",
      a_dict ((codes "a", one (int 1) []) ∷ []),
      codes "a=1",
    )
    -- 4.2.1 step 3, 4.2.2 step 3: no member, which is not sent
    ∷ (kind.List, [], a_list [], [])
    ∷ (kind.List, codes "  ", a_list [], [])
    ∷ (kind.Dict, [], a_dict [], [])
    -- Within the ABNF. 4.2.1 steps 2.2 and 2.5: OWS round a comma
    ∷ (
      kind.List,
      codes "a" ++ (9 ∷ codes " , " ++ 9 ∷ codes "b,c"),
      a_list (one (word (codes "a")) [] ∷ one (word (codes "b")) []
          ∷ one (word (codes "c")) [] ∷ []),
      codes "a, b, c",
    )
    -- 4.2.1.2 step 3.1: SP round the Items of an Inner List
    ∷ (
      kind.List,
      codes "(  1   2 )",
      a_list (inner (with (int 1) [] ∷ with (int 2) [] ∷ []) [] ∷ []),
      codes "(1 2)",
    )
    -- 4.2.3.2 step 2.3: SP after a semicolon; step 2.6: Boolean true in full
    ∷ (
      kind.Item,
      codes "5;  a;b=?1",
      an_item (int 5) ((codes "a", Boolean true) ∷ (codes "b", Boolean true) ∷ []),
      codes "5;a;b",
    )
    -- 4.2.2 step 2.2: Boolean true in full
    ∷ (
      kind.Dict,
      codes "a=?1;b, c",
      a_dict ((codes "a", one (Boolean true) ((codes "b", Boolean true) ∷ []))
          ∷ (codes "c", one (Boolean true) []) ∷ []),
      codes "a;b, c",
    )
    -- 4.2.3.2 step 2.7, 4.2.2 step 2.4: a key again, whose last value is in its first place
    ∷ (
      kind.Item,
      codes "5;a=1;b=2;a=3",
      an_item (int 5) ((codes "a", int 3) ∷ (codes "b", int 2) ∷ []),
      codes "5;a=3;b=2",
    )
    ∷ (
      kind.Dict,
      codes "a=1, b=2, a=3;x",
      a_dict ((codes "a", one (int 3) ((codes "x", Boolean true) ∷ []))
          ∷ (codes "b", one (int 2) []) ∷ []),
      codes "a=3;x, b=2",
    )
    -- 3.3.1, 3.3.2, 3.3.7: leading zeros, zeros after a fraction, a sign on zero
    ∷ (kind.Item, codes "0002", an_item (int 2) [], codes "2")
    ∷ (kind.Item, codes "-01", an_item (Integer (negsuc 0)) [], codes "-1")
    ∷ (kind.Item, codes "-0", an_item (int 0) [], codes "0")
    ∷ (kind.Item, codes "0002.5", an_item (Decimal (pos 2500)) [], codes "2.5")
    ∷ (kind.Item, codes "-01.334", an_item (Decimal (negsuc 1333)) [], codes "-1.334")
    ∷ (kind.Item, codes "5.230", an_item (Decimal (pos 5230)) [], codes "5.23")
    ∷ (kind.Item, codes "-0.40", an_item (Decimal (negsuc 399)) [], codes "-0.4")
    ∷ (kind.Item, codes "-0.0", an_item (Decimal (pos 0)) [], codes "0.0")
    ∷ (kind.Item, codes "@-00", an_item (Date (pos 0)) [], codes "@0")
    -- 4.2.7 step 7: no "=", one of two, and pad bits that are not zero, with "=" and without
    ∷ (kind.Item, codes ":Zg:", an_item (Blob (codes "f")) [], codes ":Zg==:")
    ∷ (kind.Item, codes ":Zg=:", an_item (Blob (codes "f")) [], codes ":Zg==:")
    ∷ (kind.Item, codes ":Zm8:", an_item (Blob (codes "fo")) [], codes ":Zm8=:")
    ∷ (kind.Item, codes ":Zh==:", an_item (Blob (codes "f")) [], codes ":Zg==:")
    ∷ (kind.Item, codes ":Zm9:", an_item (Blob (codes "fo")) [], codes ":Zm8=:")
    -- 4.2.10 step 4.3: bytes in hex that need not be
    ∷ (
      kind.Item,
      37 ∷ quoted (codes "%61b%20"),
      an_item (Shown (codes "ab ")) [],
      37 ∷ quoted (codes "ab "),
    )
    ∷ []

-- each text parses as its value
parsed : map (λ e. parse_field Rfc9651 e.0 e.1) freedoms ≡ map (λ e. Some e.2) freedoms
unfolding value_of hex_value
parsed = refl

-- what is serialised as a text; one without members is not, and its canonical text is empty
abbrev outcome_of : Seq ℕ → Outcome
outcome_of [] = NotSerialised
outcome_of (c ∷ t) = Serialised (c ∷ t)

-- each value serialises as its canonical text
serialised : map (λ e. serialise Rfc9651 e.2) freedoms ≡ map (λ e. outcome_of e.3) freedoms
unfolding character_of hex_character
serialised = refl

-- texts that keep to the ABNF and fail: 4.2.7 step 7, for a lone character of base64, too many "="
-- and "=" alone; 4.2.10 step 4.4.1, for bytes that are no UTF-8
abbrev unparsed : Seq (Seq ℕ)
unparsed =
    codes ":Z:" ∷ codes ":Zg===:" ∷ codes ":Zm9v=:" ∷ codes ":=:" ∷ (37 ∷ quoted (codes "%ff"))
    ∷ (37 ∷ quoted (codes "%c3")) ∷ []

failed : map (parse_field Rfc9651 kind.Item) unparsed ≡ map (λ t. None) unparsed
unfolding value_of hex_value
failed = refl

-- characters of base64 and so many "=" between colons
binary_item : (w : Seq ℕ) (m : ℕ) → Every is_base64 w
    → sf_item Rfc9651 (58 ∷ ((w ++ replicate m 61) ++ 58 ∷ []))
binary_item w m h = (
  58 ∷ ((w ++ replicate m 61) ++ 58 ∷ []),
  [],
  sym (append-nil (58 ∷ ((w ++ replicate m 61) ++ 58 ∷ []))),
  inr (inr (inr (inr (inl (
    58 ∷ [],
    (w ++ replicate m 61) ++ 58 ∷ [],
    refl,
    refl,
    (
      w ++ replicate m 61,
      58 ∷ [],
      refl,
      (w, replicate m 61, refl, every_many is_base64 base64_char in_base64 w h, (m, pads m)),
      refl,
    ),
  ))))),
  (0, refl),
)

-- a Display String of one byte in hex
shown_item : (c : ℕ) → c < 256
    → sf_item Rfc9651 (37 ∷ quoted (37 ∷ hex (c / 16) ∷ hex (c % 16) ∷ []))
shown_item c h = (
  37 ∷ quoted (37 ∷ hex (c / 16) ∷ hex (c % 16) ∷ []),
  [],
  refl,
  inr (inr (inr (inr (inr (inr (inr (
    37 ∷ [],
    quoted (37 ∷ hex (c / 16) ∷ hex (c % 16) ∷ []),
    refl,
    refl,
    (
      34 ∷ [],
      37 ∷ hex (c / 16) ∷ hex (c % 16) ∷ 34 ∷ [],
      refl,
      refl,
      (
        37 ∷ hex (c / 16) ∷ hex (c % 16) ∷ [],
        34 ∷ [],
        refl,
        (1, (37 ∷ hex (c / 16) ∷ hex (c % 16) ∷ [], [], refl, inr (inr (encoded c h)), refl)),
        refl,
      ),
    ),
  ))))))),
  (0, refl),
)

kept : Each (sf_item Rfc9651) unparsed
kept = (
  binary_item (codes "Z") 0 (refl, tt),
  (
    binary_item (codes "Zg") 3 (refl, (refl, tt)),
    (
      binary_item (codes "Zm9v") 1 (refl, (refl, (refl, (refl, tt)))),
      (
        binary_item [] 1 tt,
        (shown_item 255 (omega arith), (shown_item 195 (omega arith), tt)),
      ),
    ),
  ),
)

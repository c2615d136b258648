-- Examples of RFC 9651 (section 3), computed by its algorithms (section 4). What is on the
-- right of each equation was written by hand.
use Rattle.std.proofs.Common.{◌≡◌, ℕ, pos, negsuc, true, false, List as Seq, [], ◌∷◌, ◌++◌, Option}
use Rattle.std.proofs.Common.{Some, None, refl}
use Rattle.std.specs.Prelude.{codes, map}
use Rattle.sf_value.specs.declared.dialect.Dialect.TheVariants.{Rfc8941, Rfc9651}
use Rattle.sf_value.specs.declared.value.Bare.{Bare}
use Rattle.sf_value.specs.declared.value.Bare.TheVariants.{Integer, Decimal, Text, Token}
use Rattle.sf_value.specs.declared.value.Bare.TheVariants.{Blob, Boolean, Date, Shown}
use Rattle.sf_value.specs.declared.value.Item.{Item}
use Rattle.sf_value.specs.declared.value.Member.{Member}
use Rattle.sf_value.specs.declared.value.Member.TheVariants as member
use Rattle.sf_value.specs.declared.value.Field.{Field}
use Rattle.sf_value.specs.declared.value.Field.TheVariants as field
use Rattle.sf_value.specs.declared.value.Kind.TheVariants as kind
use Rattle.sf_rfc.specs.Rfc9651.ParsingBare.{hex_value}
use Rattle.sf_rfc.specs.Rfc9651.Parsing.{Map, parse_key, parse_field, combine}
use Rattle.sf_rfc.specs.Rfc9651.Base64.{value_of, character_of}
use Rattle.sf_rfc.specs.Rfc9651.Utf8Coding.{utf8_encode, utf8_decode}
use Rattle.sf_rfc.specs.Rfc9651.SerialisingBare.{serialise_bare, serialise_decimal, hex_character}
use Rattle.sf_rfc.specs.Rfc9651.SerialisingBare.{decimal_number}
use Rattle.sf_rfc.specs.Rfc9651.Serialising.{NotSerialised, Serialised, Fails, serialise}

abbrev quoted : Seq ℕ → Seq ℕ
quoted s = 34 ∷ (s ++ 34 ∷ [])

abbrev with : Bare → Map Bare → Item
with x ps = record { bare = x; params = ps }

abbrev one : Bare → Member
one x = member.Item (with x [])

abbrev many : Seq Item → Map Bare → Member
many is ps = member.Inner (record { items = is; params = ps })

abbrev an_item : Bare → Map Bare → Field
an_item x ps = field.Item (with x ps)

abbrev a_list : Seq Member → Field
a_list ms = field.List (record { members = ms })

abbrev a_dict : Map Member → Field
a_dict ps = field.Dict (record { members = ps })

abbrev int : ℕ → Bare
int n = Integer (pos n)

abbrev item_read : Seq ℕ → Option Field
item_read t = parse_field Rfc9651 kind.Item t

abbrev list_read : Seq ℕ → Option Field
list_read t = parse_field Rfc9651 kind.List t

abbrev dict_read : Seq ℕ → Option Field
dict_read t = parse_field Rfc9651 kind.Dict t

key : parse_key (codes "a-b=1") ≡ Some (codes "a-b", codes "=1")
key = refl

-- 3.3.1, and the bounds of 4.2.4
integers : map item_read
    (codes "42" ∷ codes "-0" ∷ codes "007" ∷ codes "-999999999999999" ∷ codes "1000000000000000"
    ∷ codes "-" ∷ codes "--1" ∷ codes "" ∷ [])
    ≡ Some (an_item (int 42) []) ∷ Some (an_item (int 0) []) ∷ Some (an_item (int 7) [])
    ∷ Some (an_item (Integer (negsuc 999999999999998)) []) ∷ None ∷ None ∷ None ∷ None ∷ []
integers = refl

-- 3.3.2
decimals : map item_read
    (codes "4.5" ∷ codes "-0.125" ∷ codes "1.05" ∷ codes "999999999999.999"
    ∷ codes "1000000000000.0" ∷ codes "1." ∷ codes "1.2345" ∷ codes ".1" ∷ codes "1.1.1" ∷ [])
    ≡ Some (an_item (Decimal (pos 4500)) []) ∷ Some (an_item (Decimal (negsuc 124)) [])
    ∷ Some (an_item (Decimal (pos 1050)) [])
    ∷ Some (an_item (Decimal (pos 999999999999999)) []) ∷ None ∷ None ∷ None ∷ None ∷ None ∷ []
decimals = refl

-- 3.3.3
strings : map item_read
    (quoted (codes "hello world") ∷ (34 ∷ 92 ∷ 34 ∷ 92 ∷ 92 ∷ 34 ∷ []) ∷ (34 ∷ 92 ∷ 97 ∷ 34 ∷ [])
    ∷ quoted (127 ∷ []) ∷ (34 ∷ []) ∷ (34 ∷ 92 ∷ []) ∷ [])
    ≡ Some (an_item (Text (codes "hello world")) []) ∷ Some (an_item (Text (34 ∷ 92 ∷ [])) [])
    ∷ None ∷ None ∷ None ∷ None ∷ []
strings = refl

-- 3.3.4
tokens : map item_read (codes "foo123/456" ∷ codes "*a:b" ∷ codes "a,b" ∷ [])
    ≡ Some (an_item (Token (codes "foo123/456")) []) ∷ Some (an_item (Token (codes "*a:b")) [])
    ∷ None ∷ []
tokens = refl

-- 3.3.5; without "=", with pad bits; "=" within, one too many, a lone character, a stranger
byte_sequences : map item_read
    (codes ":cHJldGVuZCB0aGlzIGlzIGJpbmFyeSBjb250ZW50Lg==:" ∷ codes ":iQ:" ∷ codes ":iZ=:"
    ∷ codes ":i=Q:" ∷ codes ":aGVs=:" ∷ codes ":a:" ∷ codes ":a_b:" ∷ codes ":iQ==" ∷ [])
    ≡ Some (an_item (Blob (codes "pretend this is binary content.")) [])
    ∷ Some (an_item (Blob (137 ∷ [])) []) ∷ Some (an_item (Blob (137 ∷ [])) [])
    ∷ None ∷ None ∷ None ∷ None ∷ None ∷ []
unfolding value_of
byte_sequences = refl

-- 3.3.6, 3.3.7
booleans : map item_read (codes "?1" ∷ codes "?0" ∷ codes "?2" ∷ codes "?" ∷ [])
    ≡ Some (an_item (Boolean true) []) ∷ Some (an_item (Boolean false) []) ∷ None ∷ None ∷ []
booleans = refl

dates : map item_read (codes "@1659578233" ∷ codes "@-1" ∷ codes "@1.5" ∷ codes "@" ∷ [])
    ≡ Some (an_item (Date (pos 1659578233)) []) ∷ Some (an_item (Date (negsuc 0)) [])
    ∷ None ∷ None ∷ []
dates = refl

-- 3.3.8; upper-case hex, half a character of UTF-8, a lone "%"
display_strings : map item_read
    ((37 ∷ quoted (codes "This is intended for display to %c3%bcsers."))
    ∷ (37 ∷ quoted (codes "%C3%BC")) ∷ (37 ∷ quoted (codes "%c3")) ∷ (37 ∷ quoted (codes "%")) ∷ [])
    ≡ Some (an_item (Shown (codes "This is intended for display to "
    ++ 195 ∷ 188 ∷ codes "sers.")) [])
    ∷ None ∷ None ∷ None ∷ []
unfolding hex_value
display_strings = refl

-- neither type is of RFC 8941
older : map (parse_field Rfc8941 kind.Item)
    (codes "@1" ∷ (37 ∷ quoted (codes "a")) ∷ codes "1" ∷ [])
    ≡ None ∷ None ∷ Some (an_item (int 1) []) ∷ []
older = refl

-- 3.3; SP before and after, no HTAB
items : map item_read
    (codes "5" ∷ codes "5; foo=bar" ∷ codes "  5  " ∷ (9 ∷ codes "5") ∷ codes "5 ;a" ∷ [])
    ≡ Some (an_item (int 5) [])
    ∷ Some (an_item (int 5) ((codes "foo", Token (codes "bar")) ∷ []))
    ∷ Some (an_item (int 5) []) ∷ None ∷ None ∷ []
items = refl

-- 3.1
lists : map list_read
    (codes "sugar, tea, rum" ∷ codes "" ∷ codes "  " ∷ codes "a," ∷ codes ",a" ∷ codes "a b"
    ∷ (codes "a" ++ 9 ∷ 44 ∷ 9 ∷ codes "b") ∷ [])
    ≡ Some (a_list (one (Token (codes "sugar")) ∷ one (Token (codes "tea"))
    ∷ one (Token (codes "rum")) ∷ []))
    ∷ Some (a_list []) ∷ Some (a_list []) ∷ None ∷ None ∷ None
    ∷ Some (a_list (one (Token (codes "a")) ∷ one (Token (codes "b")) ∷ [])) ∷ []
lists = refl

-- 3.1.1
inner_lists : map list_read
    ((40 ∷ (quoted (codes "foo") ++ 32 ∷ (quoted (codes "bar") ++ codes "), (")
    ++ (quoted (codes "baz") ++ codes "), ()")))
    ∷ (40 ∷ (quoted (codes "foo") ++ codes "; a=1;b=2);lvl=5"))
    ∷ codes "( 1  2 )" ∷ codes "(1" ∷ codes "(1;a(2))" ∷ [])
    ≡ Some (a_list (many (with (Text (codes "foo")) [] ∷ with (Text (codes "bar")) [] ∷ []) []
    ∷ many (with (Text (codes "baz")) [] ∷ []) [] ∷ many [] [] ∷ []))
    ∷ Some (a_list (many (with (Text (codes "foo"))
    ((codes "a", int 1) ∷ (codes "b", int 2) ∷ []) ∷ []) ((codes "lvl", int 5) ∷ []) ∷ []))
    ∷ Some (a_list (many (with (int 1) [] ∷ with (int 2) [] ∷ []) [] ∷ [])) ∷ None ∷ None ∷ []
inner_lists = refl

-- 3.1.2
parameters : list_read
    (codes "abc;a=1;b=2; cde_456, (ghi;jk=4 l);q=" ++ (quoted (codes "9") ++ codes ";r=w"))
    ≡ Some (a_list (member.Item (with (Token (codes "abc"))
    ((codes "a", int 1) ∷ (codes "b", int 2) ∷ (codes "cde_456", Boolean true) ∷ []))
    ∷ many (with (Token (codes "ghi")) ((codes "jk", int 4) ∷ []) ∷ with (Token (codes "l")) [] ∷ [])
    ((codes "q", Text (codes "9")) ∷ (codes "r", Token (codes "w")) ∷ []) ∷ []))
parameters = refl

-- 3.2; the last value in the first place
dictionaries : map dict_read
    ((codes "en=" ++ (quoted (codes "Applepie") ++ codes ", da=:w4ZibGV0w6ZydGU=:"))
    ∷ codes "a=?0, b, c; foo=bar" ∷ codes "rating=1.5, feelings=(joy sadness)"
    ∷ codes "a=1, b=2;x, a" ∷ codes "a=1," ∷ codes "A=1" ∷ codes "1a=1" ∷ codes "a= 1" ∷ [])
    ≡ Some (a_dict ((codes "en", one (Text (codes "Applepie")))
    ∷ (codes "da", one (Blob (195 ∷ 134 ∷ (codes "blet" ++ 195 ∷ 166 ∷ codes "rte")))) ∷ []))
    ∷ Some (a_dict ((codes "a", one (Boolean false)) ∷ (codes "b", one (Boolean true))
    ∷ (codes "c", member.Item (with (Boolean true) ((codes "foo", Token (codes "bar")) ∷ [])))
    ∷ []))
    ∷ Some (a_dict ((codes "rating", one (Decimal (pos 1500)))
    ∷ (
      codes "feelings",
      many (with (Token (codes "joy")) [] ∷ with (Token (codes "sadness")) []
          ∷ []) [],
    ) ∷ []))
    ∷ Some (a_dict ((codes "a", one (Boolean true))
    ∷ (codes "b", member.Item (with (int 2) ((codes "x", Boolean true) ∷ []))) ∷ []))
    ∷ None ∷ None ∷ None ∷ None ∷ []
unfolding value_of
dictionaries = refl

-- 4.2 before its steps
combining : combine (codes "a=1" ∷ codes "b" ∷ [] ∷ []) ≡ codes "a=1, b, "
combining = refl

-- 4.1.4 to 4.1.11
bare_items : map (serialise_bare Rfc9651)
    (int 42 ∷ Integer (negsuc 6) ∷ int 1000000000000000 ∷ Decimal (pos 4500) ∷ Decimal (negsuc 49)
    ∷ Decimal (pos 1000) ∷ Text (34 ∷ 97 ∷ []) ∷ Text (10 ∷ []) ∷ Token (codes "a/b")
    ∷ Token (codes "1") ∷ Token [] ∷ Boolean true ∷ Date (pos 1659578233) ∷ Blob (137 ∷ [])
    ∷ Blob (codes "foob") ∷ Blob [] ∷ Shown (195 ∷ 188 ∷ 37 ∷ []) ∷ Shown (195 ∷ []) ∷ [])
    ≡ Some (codes "42") ∷ Some (codes "-7") ∷ None ∷ Some (codes "4.5") ∷ Some (codes "-0.05")
    ∷ Some (codes "1.0") ∷ Some (34 ∷ 92 ∷ 34 ∷ 97 ∷ 34 ∷ []) ∷ None ∷ Some (codes "a/b")
    ∷ None ∷ None ∷ Some (codes "?1") ∷ Some (codes "@1659578233") ∷ Some (codes ":iQ==:")
    ∷ Some (codes ":Zm9vYg==:") ∷ Some (codes "::")
    ∷ Some (37 ∷ quoted (codes "%c3%bc%25")) ∷ None ∷ []
unfolding character_of hex_character
bare_items = refl

-- neither type is of RFC 8941
older_items : map (serialise_bare Rfc8941) (Date (pos 1) ∷ Shown (codes "a") ∷ int 1 ∷ [])
    ≡ None ∷ None ∷ Some (codes "1") ∷ []
older_items = refl

-- 4.1.5, step 2: to the nearest, and at a tie to the even digit; a number that is rounded to zero
-- has no sign; step 3: after rounding
rounding : map serialise_decimal
    (decimal_number (pos 12345) 4 ∷ decimal_number (pos 12335) 4 ∷ decimal_number (pos 123451) 5
    ∷ decimal_number (pos 5) 4 ∷ decimal_number (pos 15) 4 ∷ decimal_number (negsuc 24) 4
    ∷ decimal_number (negsuc 4) 4 ∷ decimal_number (pos 25) 1 ∷ decimal_number (pos 7) 0
    ∷ record { numerator = negsuc 1; denominator = 3 }
    ∷ decimal_number (pos 9999999999999994) 4 ∷ decimal_number (pos 9999999999999995) 4
    ∷ record { numerator = pos 1; denominator = 0 } ∷ [])
    ≡ Some (codes "1.234") ∷ Some (codes "1.234") ∷ Some (codes "1.235")
    ∷ Some (codes "0.0") ∷ Some (codes "0.002") ∷ Some (codes "-0.002")
    ∷ Some (codes "0.0") ∷ Some (codes "2.5") ∷ Some (codes "7.0")
    ∷ Some (codes "-0.667")
    ∷ Some (codes "999999999999.999") ∷ None
    ∷ None ∷ []
rounding = refl

-- RFC 3629 section 7, and what section 3 warns of: an overlong U+0000, a surrogate pair
characters : map utf8_decode
    ((65 ∷ 226 ∷ 137 ∷ 162 ∷ 206 ∷ 145 ∷ 46 ∷ []) ∷ (239 ∷ 187 ∷ 191 ∷ 240 ∷ 163 ∷ 142 ∷ 180 ∷ [])
    ∷ (192 ∷ 128 ∷ []) ∷ (237 ∷ 161 ∷ 140 ∷ 237 ∷ 190 ∷ 180 ∷ []) ∷ (195 ∷ []) ∷ (128 ∷ []) ∷ [])
    ≡ Some (65 ∷ 8802 ∷ 913 ∷ 46 ∷ []) ∷ Some (65279 ∷ 144308 ∷ []) ∷ None ∷ None ∷ None ∷ None ∷ []
characters = refl

octets : map utf8_encode
    ((65 ∷ 8802 ∷ 913 ∷ 46 ∷ []) ∷ (65279 ∷ 144308 ∷ []) ∷ (55296 ∷ []) ∷ (1114112 ∷ []) ∷ [])
    ≡ Some (65 ∷ 226 ∷ 137 ∷ 162 ∷ 206 ∷ 145 ∷ 46 ∷ [])
    ∷ Some (239 ∷ 187 ∷ 191 ∷ 240 ∷ 163 ∷ 142 ∷ 180 ∷ []) ∷ None ∷ None ∷ []
octets = refl

-- 4.1 to 4.1.3
fields : map (serialise Rfc9651)
    (a_list [] ∷ a_dict [] ∷ a_list (one (Token (codes "sugar")) ∷ one (Token (codes "tea")) ∷ [])
    ∷ a_list (many (with (int 1) ((codes "a", Boolean true) ∷ []) ∷ with (int 2) [] ∷ [])
    ((codes "q", int 5) ∷ []) ∷ many [] [] ∷ [])
    ∷ a_dict ((codes "a", one (Boolean false)) ∷ (codes "b", one (Boolean true))
    ∷ (codes "c", member.Item (with (Boolean true) ((codes "foo", Token (codes "bar")) ∷ [])))
    ∷ (codes "d", many [] []) ∷ [])
    ∷ an_item (int 5) ((codes "foo", Token (codes "bar")) ∷ []) ∷ a_dict ((codes "A", one (int 1)) ∷ [])
    ∷ [])
    ≡ NotSerialised ∷ NotSerialised ∷ Serialised (codes "sugar, tea")
    ∷ Serialised (codes "(1;a 2);q=5, ()") ∷ Serialised (codes "a=?0, b, c;foo=bar, d=()")
    ∷ Serialised (codes "5;foo=bar") ∷ Fails ∷ []
fields = refl

-- a Date as a parameter fails in RFC 8941
older_fields : map (serialise Rfc8941)
    (a_list [] ∷ an_item (int 5) ((codes "at", Date (pos 1)) ∷ []) ∷ an_item (int 5) [] ∷ [])
    ≡ NotSerialised ∷ Fails ∷ Serialised (codes "5") ∷ []
older_fields = refl

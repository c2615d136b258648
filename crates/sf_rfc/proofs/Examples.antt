-- The examples of RFC 9651, section 3, in the RFC's order: each with its kind, its text in the RFC,
-- its value, and its canonical text. All were written by hand; the algorithms of section 4 compute
-- the value from the text, and the canonical text from the value.
use Rattle.std.proofs.Common.{◌≡◌, ℕ, pos, true, false, List as Seq, [], ◌∷◌, ◌++◌, Some}
use Rattle.std.proofs.Common.{refl}
use Rattle.std.specs.Prelude.{codes, map}
use Rattle.sf_value.specs.declared.dialect.Dialect.TheVariants.{Rfc9651}
use Rattle.sf_value.specs.declared.value.Bare.{Bare}
use Rattle.sf_value.specs.declared.value.Bare.TheVariants.{Integer, Decimal, Text, Token}
use Rattle.sf_value.specs.declared.value.Bare.TheVariants.{Blob, Boolean, Date, Shown}
use Rattle.sf_value.specs.declared.value.Item.{Item}
use Rattle.sf_value.specs.declared.value.Member.{Member}
use Rattle.sf_value.specs.declared.value.Member.TheVariants as member
use Rattle.sf_value.specs.declared.value.Field.{Field}
use Rattle.sf_value.specs.declared.value.Field.TheVariants as field
use Rattle.sf_value.specs.declared.value.Kind.{Kind}
use Rattle.sf_value.specs.declared.value.Kind.TheVariants as kind
use Rattle.sf_rfc.specs.Rfc9651.ParsingBare.{hex_value}
use Rattle.sf_rfc.specs.Rfc9651.Parsing.{Map, parse_field, combine}
use Rattle.sf_rfc.specs.Rfc9651.Base64.{value_of, character_of}
use Rattle.sf_rfc.specs.Rfc9651.SerialisingBare.{hex_character}
use Rattle.sf_rfc.specs.Rfc9651.Serialising.{Serialised, serialise}

-- a text between quotes
abbrev pub quoted : Seq ℕ → Seq ℕ
quoted s = 34 ∷ (s ++ 34 ∷ [])

-- an Item
abbrev pub with : Bare → Map Bare → Item
with x ps = record { bare = x; params = ps }

-- a member that is an Item, and one that is an Inner List
abbrev pub one : Bare → Map Bare → Member
one x ps = member.Item (with x ps)

abbrev pub inner : Seq Item → Map Bare → Member
inner is ps = member.Inner (record { items = is; params = ps })

-- fields
abbrev pub an_item : Bare → Map Bare → Field
an_item x ps = field.Item (with x ps)

abbrev pub a_list : Seq Member → Field
a_list ms = field.List (record { members = ms })

abbrev pub a_dict : Map Member → Field
a_dict ps = field.Dict (record { members = ps })

-- bare items
abbrev pub int : ℕ → Bare
int n = Integer (pos n)

abbrev pub word : Seq ℕ → Bare
word s = Token s

-- a kind, a text, the value and its canonical text
abbrev pub Example : Type 0
Example = Kind × Seq ℕ × Field × Seq ℕ

abbrev examples : Seq Example
examples =
    -- 3.1
    (
      kind.List,
      codes "sugar, tea, rum",
      a_list (one (word (codes "sugar")) [] ∷ one (word (codes "tea")) []
          ∷ one (word (codes "rum")) [] ∷ []),
      codes "sugar, tea, rum",
    )
    -- 3.1.1
    ∷ (
      kind.List,
      codes "(" ++ (quoted (codes "foo") ++ codes " " ++ quoted (codes "bar") ++ codes "), ("
          ++ quoted (codes "baz") ++ codes "), (" ++ quoted (codes "bat") ++ codes " "
          ++ quoted (codes "one") ++ codes "), ()"),
      a_list (inner (with (Text (codes "foo")) [] ∷ with (Text (codes "bar")) [] ∷ []) []
          ∷ inner (with (Text (codes "baz")) [] ∷ []) []
          ∷ inner (with (Text (codes "bat")) [] ∷ with (Text (codes "one")) [] ∷ []) []
          ∷ inner [] [] ∷ []),
      codes "(" ++ (quoted (codes "foo") ++ codes " " ++ quoted (codes "bar") ++ codes "), ("
          ++ quoted (codes "baz") ++ codes "), (" ++ quoted (codes "bat") ++ codes " "
          ++ quoted (codes "one") ++ codes "), ()"),
    )
    ∷ (
      kind.List,
      codes "(" ++ (quoted (codes "foo") ++ codes "; a=1;b=2);lvl=5, ("
          ++ quoted (codes "bar") ++ codes " " ++ quoted (codes "baz") ++ codes ");lvl=1"),
      a_list (inner (with (Text (codes "foo")) ((codes "a", int 1) ∷ (codes "b", int 2) ∷ []) ∷ [])
          ((codes "lvl", int 5) ∷ [])
          ∷ inner (with (Text (codes "bar")) [] ∷ with (Text (codes "baz")) [] ∷ [])
          ((codes "lvl", int 1) ∷ []) ∷ []),
      codes "(" ++ (quoted (codes "foo") ++ codes ";a=1;b=2);lvl=5, ("
          ++ quoted (codes "bar") ++ codes " " ++ quoted (codes "baz") ++ codes ");lvl=1"),
    )
    -- 3.1.2
    ∷ (
      kind.List,
      codes "abc;a=1;b=2; cde_456, (ghi;jk=4 l);q=" ++ (quoted (codes "9") ++ codes ";r=w"),
      a_list (one (word (codes "abc"))
          ((codes "a", int 1) ∷ (codes "b", int 2) ∷ (codes "cde_456", Boolean true) ∷ [])
          ∷ inner (with (word (codes "ghi")) ((codes "jk", int 4) ∷ [])
          ∷ with (word (codes "l")) [] ∷ [])
          ((codes "q", Text (codes "9")) ∷ (codes "r", word (codes "w")) ∷ []) ∷ []),
      codes "abc;a=1;b=2;cde_456, (ghi;jk=4 l);q=" ++ (quoted (codes "9") ++ codes ";r=w"),
    )
    ∷ (
      kind.Item,
      codes "1; a; b=?0",
      an_item (int 1) ((codes "a", Boolean true) ∷ (codes "b", Boolean false) ∷ []),
      codes "1;a;b=?0",
    )
    -- 3.2
    ∷ (
      kind.Dict,
      codes "en=" ++ (quoted (codes "Applepie") ++ codes ", da=:w4ZibGV0w6ZydGU=:"),
      a_dict ((codes "en", one (Text (codes "Applepie")) [])
          ∷ (codes "da", one (Blob (195 ∷ 134 ∷ (codes "blet" ++ 195 ∷ 166 ∷ codes "rte"))) [])
          ∷ []),
      codes "en=" ++ (quoted (codes "Applepie") ++ codes ", da=:w4ZibGV0w6ZydGU=:"),
    )
    ∷ (
      kind.Dict,
      codes "a=?0, b, c; foo=bar",
      a_dict ((codes "a", one (Boolean false) []) ∷ (codes "b", one (Boolean true) [])
          ∷ (codes "c", one (Boolean true) ((codes "foo", word (codes "bar")) ∷ [])) ∷ []),
      codes "a=?0, b, c;foo=bar",
    )
    ∷ (
      kind.Dict,
      codes "rating=1.5, feelings=(joy sadness)",
      a_dict ((codes "rating", one (Decimal (pos 1500)) [])
          ∷ (
            codes "feelings",
            inner (with (word (codes "joy")) [] ∷ with (word (codes "sadness")) [] ∷ []) [],
          ) ∷ []),
      codes "rating=1.5, feelings=(joy sadness)",
    )
    ∷ (
      kind.Dict,
      codes "a=(1 2), b=3, c=4;aa=bb, d=(5 6);valid",
      a_dict ((codes "a", inner (with (int 1) [] ∷ with (int 2) [] ∷ []) [])
          ∷ (codes "b", one (int 3) [])
          ∷ (codes "c", one (int 4) ((codes "aa", word (codes "bb")) ∷ []))
          ∷ (
            codes "d",
            inner (with (int 5) [] ∷ with (int 6) [] ∷ []) ((codes "valid", Boolean true) ∷ []),
          ) ∷ []),
      codes "a=(1 2), b=3, c=4;aa=bb, d=(5 6);valid",
    )
    ∷ (
      kind.Dict,
      codes "foo=1, bar=2",
      a_dict ((codes "foo", one (int 1) []) ∷ (codes "bar", one (int 2) []) ∷ []),
      codes "foo=1, bar=2",
    )
    -- 3.3
    ∷ (kind.Item, codes "5", an_item (int 5) [], codes "5")
    ∷ (
      kind.Item,
      codes "5; foo=bar",
      an_item (int 5) ((codes "foo", word (codes "bar")) ∷ []),
      codes "5;foo=bar",
    )
    -- 3.3.1 to 3.3.8
    ∷ (kind.Item, codes "42", an_item (int 42) [], codes "42")
    ∷ (kind.Item, codes "4.5", an_item (Decimal (pos 4500)) [], codes "4.5")
    ∷ (
      kind.Item,
      quoted (codes "hello world"),
      an_item (Text (codes "hello world")) [],
      quoted (codes "hello world"),
    )
    ∷ (kind.Item, codes "foo123/456", an_item (word (codes "foo123/456")) [], codes "foo123/456")
    ∷ (
      kind.Item,
      codes ":cHJldGVuZCB0aGlzIGlzIGJpbmFyeSBjb250ZW50Lg==:",
      an_item (Blob (codes "pretend this is binary content.")) [],
      codes ":cHJldGVuZCB0aGlzIGlzIGJpbmFyeSBjb250ZW50Lg==:",
    )
    ∷ (kind.Item, codes "?1", an_item (Boolean true) [], codes "?1")
    ∷ (kind.Item, codes "@1659578233", an_item (Date (pos 1659578233)) [], codes "@1659578233")
    ∷ (
      kind.Item,
      37 ∷ quoted (codes "This is intended for display to %c3%bcsers."),
      an_item (Shown (codes "This is intended for display to " ++ 195 ∷ 188 ∷ codes "sers.")) [],
      37 ∷ quoted (codes "This is intended for display to %c3%bcsers."),
    )
    ∷ []

-- each text parses as its value
parsed : map (λ e. parse_field Rfc9651 e.0 e.1) examples ≡ map (λ e. Some e.2) examples
unfolding value_of hex_value
parsed = refl

-- each value serialises as its canonical text
serialised : map (λ e. serialise Rfc9651 e.2) examples ≡ map (λ e. Serialised e.3) examples
unfolding character_of hex_character
serialised = refl

-- 3.1 and 3.2: members split across field lines are those of one line
split : combine (codes "sugar, tea" ∷ codes "rum" ∷ [])
    ∷ combine (codes "foo=1" ∷ codes "bar=2" ∷ []) ∷ []
    ≡ codes "sugar, tea, rum" ∷ codes "foo=1, bar=2" ∷ []
split = refl

-- Worked values and texts, computed by the definitions. What is on the right of each equation was
-- written by hand, from the RFCs.
use Rattle.std.proofs.Common.{◌≡◌, ℕ, pos, negsuc, true, false, List, [], ◌∷◌, ◌++◌, Option}
use Rattle.std.proofs.Common.{Some, None, refl}
use Rattle.std.specs.Prelude.{codes, map}
use Rattle.std.specs.Fmt.{digits}
use Rattle.sf_value.specs.declared.value.Bare.{Bare}
use Rattle.sf_value.specs.declared.value.Bare.TheVariants.{Integer, Decimal, Text, Token}
use Rattle.sf_value.specs.declared.value.Bare.TheVariants.{Blob, Boolean, Date, Shown}
use Rattle.sf_value.specs.declared.value.Member.{Member}
use Rattle.sf_value.specs.declared.value.Member.TheVariants as member
use Rattle.sf_value.specs.Grammar.Pairs.{settle, value_at}
use Rattle.sf_value.specs.Grammar.Items.{item}
use Rattle.sf_value.specs.Grammar.InnerLists.{inner}
use Rattle.sf_value.specs.Grammar.ByteSequences.{letter, unpadded, spare, needed}
use Rattle.sf_value.specs.Grammar.Utf8.{Utf8, Start, Within, utf8_step}
use Rattle.sf_value.specs.Grammar.Fields.{list_of, dict_of}
use Rattle.sf_value.specs.Grammar.Canonical.{canon, canon_bare, canon_item}
use Rattle.sf_value.specs.Grammar.Lines.{join}

-- members with no parameters
abbrev bare_member : Bare → Member
bare_member x = member.Item (item x [])

-- numbers have no needless zero, and no sign on zero
numbers : map canon_bare
    (Integer (pos 0) ∷ Date (pos 0) ∷ Decimal (pos 0) ∷ Integer (negsuc 6) ∷ Decimal (pos 1500)
    ∷ Decimal (negsuc 499) ∷ Decimal (pos 1050) ∷ Decimal (negsuc 999999999999998) ∷ [])
    ≡ codes "0" ∷ codes "@0" ∷ codes "0.0" ∷ codes "-7" ∷ codes "1.5"
    ∷ codes "-0.5" ∷ codes "1.05" ∷ codes "-999999999999.999" ∷ []
unfolding digits
numbers = refl

-- a String escapes quotes and backslashes, a Display String what is not plain
texts : map canon_bare
    (Text (codes "a" ++ 34 ∷ codes "b" ++ 92 ∷ []) ∷ Token (codes "a/b:c") ∷ Boolean true
    ∷ Shown (102 ∷ 195 ∷ 188 ∷ []) ∷ Shown (37 ∷ 34 ∷ 10 ∷ []) ∷ Shown (127 ∷ 0 ∷ []) ∷ [])
    ≡ (34 ∷ 97 ∷ 92 ∷ 34 ∷ 98 ∷ 92 ∷ 92 ∷ 34 ∷ []) ∷ codes "a/b:c" ∷ codes "?1"
    ∷ (37 ∷ 34 ∷ codes "f%c3%bc" ++ 34 ∷ []) ∷ (37 ∷ 34 ∷ codes "%25%22%0a" ++ 34 ∷ [])
    ∷ (37 ∷ 34 ∷ codes "%7f%00" ++ 34 ∷ []) ∷ []
texts = refl

-- base64 is padded (RFC 4648 section 10 has the test vectors)
blobs : map canon_bare
    (Blob [] ∷ Blob (codes "f") ∷ Blob (codes "fo") ∷ Blob (codes "foo") ∷ Blob (codes "foob")
    ∷ Blob (137 ∷ []) ∷ [])
    ≡ codes "::" ∷ codes ":Zg==:" ∷ codes ":Zm8=:" ∷ codes ":Zm9v:" ∷ codes ":Zm9vYg==:"
    ∷ codes ":iQ==:" ∷ []
unfolding letter
blobs = refl

-- the pad bits of a last group: 1001 are 9 of 16, and Z is Q with them
pad_bits : spare (137 ∷ []) ∷ needed (137 ∷ []) ∷ unpadded 9 (137 ∷ []) ≡ 16 ∷ 2 ∷ codes "iZ"
unfolding letter
pad_bits = refl

-- a later parameter takes the place of an earlier one
params : canon_item (item (Decimal (pos 1500))
    (settle ((codes "q", Boolean true) ∷ (codes "q", Boolean false)
    ∷ (codes "r", Integer (pos 1)) ∷ [])))
    ≡ codes "1.5;q=?0;r=1"
unfolding digits
params = refl

-- and a later member too; a flag is its key and its parameters
dictionary : canon (dict_of (settle
    ((codes "a", bare_member (Integer (pos 1)))
    ∷ (codes "b", member.Item (item (Boolean true) ((codes "x", Boolean true) ∷ [])))
    ∷ (
      codes "a",
      member.Inner (inner (item (Integer (pos 1)) [] ∷ item (Integer (pos 2)) [] ∷ [])
          ((codes "y", Blob (codes "a")) ∷ [])),
    ) ∷ [])))
    ≡ codes "a=(1 2);y=:YQ==:, b;x"
unfolding digits letter
dictionary = refl

flag : canon (dict_of
    ((codes "a", member.Item (item (Boolean true) ((codes "b", Boolean true) ∷ [])))
    ∷ (codes "c", bare_member (Boolean false)) ∷ []))
    ≡ codes "a;b, c=?0"
flag = refl

lists : map (λ ms. canon (list_of ms))
    ([] ∷ (member.Inner (inner [] []) ∷ [])
    ∷ (bare_member (Blob (codes "a")) ∷ bare_member (Blob (codes "a")) ∷ []) ∷ [])
    ≡ [] ∷ codes "()" ∷ codes ":YQ==:, :YQ==:" ∷ []
unfolding letter
lists = refl

-- first places, last values
settling : settle {V = ℕ} ((codes "a", 1) ∷ (codes "b", 2) ∷ (codes "a", 3) ∷ (codes "c", 4)
    ∷ (codes "b", 5) ∷ [])
    ≡ (codes "a", 3) ∷ (codes "b", 5) ∷ (codes "c", 4) ∷ []
settling = refl

looking_up : map (λ k. value_at {V = ℕ} k ((codes "a", 3) ∷ (codes "b", 2) ∷ []))
    (codes "b" ∷ codes "c" ∷ codes "A" ∷ [])
    ≡ Some 2 ∷ None ∷ None ∷ []
looking_up = refl

-- lines are joined with a comma and a space
joining : map join
    ([] ∷ (codes "a" ∷ []) ∷ (codes "a" ∷ [] ∷ []) ∷ (codes "a" ∷ codes "b" ∷ codes "c" ∷ [])
    ∷ [])
    ≡ [] ∷ codes "a" ∷ codes "a, " ∷ codes "a, b, c" ∷ []
joining = refl

-- what the table makes of bytes
abbrev utf8_run : Utf8 → List ℕ → Option Utf8
utf8_run x [] = Some x
utf8_run x (b ∷ s) = elim (utf8_step x b) [ None ↦ None | Some y ↦ utf8_run y s ]

-- the first and the last character of each length, and those round the surrogates
characters : map (utf8_run Start)
    ((0 ∷ 127 ∷ []) ∷ (194 ∷ 128 ∷ 223 ∷ 191 ∷ []) ∷ (224 ∷ 160 ∷ 128 ∷ 239 ∷ 191 ∷ 191 ∷ [])
    ∷ (240 ∷ 144 ∷ 128 ∷ 128 ∷ 244 ∷ 143 ∷ 191 ∷ 191 ∷ [])
    ∷ (237 ∷ 159 ∷ 191 ∷ 238 ∷ 128 ∷ 128 ∷ [])
    ∷ [])
    ≡ Some Start ∷ Some Start ∷ Some Start ∷ Some Start ∷ Some Start ∷ []
characters = refl

-- half a character; and overlong ones, surrogates, what is past the last, a lone later byte
no_characters : map (utf8_run Start)
    ((195 ∷ []) ∷ (195 ∷ 40 ∷ []) ∷ (192 ∷ []) ∷ (193 ∷ []) ∷ (224 ∷ 159 ∷ []) ∷ (237 ∷ 160 ∷ [])
    ∷ (240 ∷ 143 ∷ []) ∷ (244 ∷ 144 ∷ []) ∷ (245 ∷ []) ∷ (128 ∷ []) ∷ [])
    ≡ Some (Within 0 128 191) ∷ None ∷ None ∷ None ∷ None ∷ None ∷ None ∷ None ∷ None ∷ None ∷ []
no_characters = refl

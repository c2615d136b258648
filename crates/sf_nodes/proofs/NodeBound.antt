-- A valid value has at most half as many nodes as its canonical text with one byte more has bytes,
-- and at most as many bytes as its canonical text.
use Rattle.std.proofs.Common.{◌≡◌, ℕ, ◌+◌, ◌*◌, ◌≤◌, true, false, List as Seq, [], ◌∷◌, ◌++◌}
use Rattle.std.proofs.Common.{length, arith, length-append, ◌<◌, ◌^◌, ℤ, pos}
use Rattle.std.proofs.Common.{negsuc, nat_abs}
use Rattle.std.specs.Fmt.{signed_decimal}
use Rattle.std.proofs.lemmas.Fmt.{decimal_nonempty}
use Rattle.sf_value.specs.declared.dialect.Dialect.{Dialect}
use Rattle.sf_value.specs.declared.value.Bare.{Bare}
use Rattle.sf_value.specs.declared.value.Bare.TheVariants.{Integer, Decimal, Text, Token}
use Rattle.sf_value.specs.declared.value.Bare.TheVariants.{Blob, Boolean, Shown}
use Rattle.sf_value.specs.declared.value.Item.{Item}
use Rattle.sf_value.specs.declared.value.Member.{Member}
use Rattle.sf_value.specs.declared.value.Member.TheVariants as member
use Rattle.sf_value.specs.declared.value.Field.{Field}
use Rattle.sf_value.specs.declared.value.Field.TheVariants as field
use Rattle.sf_value.specs.declared.value.Kind.{Kind}
use Rattle.sf_value.specs.declared.value.Kind.TheVariants as kind
use Rattle.sf_value.specs.Grammar.Words.{Each}
use Rattle.sf_value.specs.Grammar.Pairs.{Pairs}
use Rattle.sf_value.specs.Grammar.Tokens.{IsKey, IsToken}
use Rattle.sf_value.specs.Grammar.Valid.{ValidBare, ValidItem, ValidMember, Valid}
use Rattle.sf_value.specs.Grammar.Strings.{escaped}
use Rattle.sf_value.specs.Grammar.ByteSequences.{unpadded}
use Rattle.sf_value.specs.Grammar.Canonical.{canon_bare, canon_value, canon_params, canon_item}
use Rattle.sf_value.specs.Grammar.Canonical.{canon_more, canon_items, canon_member}
use Rattle.sf_value.specs.Grammar.Canonical.{canon_flag, canon_entry, canon_commas}
use Rattle.sf_value.specs.Grammar.Canonical.{canon_series, canon, canon_shown}
use Rattle.sf_value.proofs.LengthBound.{key_some}
use Rattle.sf_view.specs.View.{text_of}
use Rattle.sf_nodes.specs.NodeCounts.{item_nodes, items_nodes, member_nodes, members_nodes}
use Rattle.sf_nodes.specs.NodeCounts.{entries_nodes, field_nodes, params_bytes, item_bytes}
use Rattle.sf_nodes.specs.NodeCounts.{items_bytes, member_bytes, members_bytes, entries_bytes}
use Rattle.sf_nodes.specs.NodeCounts.{field_bytes}

lengths : (s t : Seq ℕ) → length (s ++ t) ≡ length s + length t
lengths = length-append

-- the bytes of a String are no more than those of its text
escaped_long : (s : Seq ℕ) → length s ≤ length (escaped s)
escaped_long [] = omega arith
escaped_long (b ∷ s) = let h = escaped_long s in grind arith

blob_long : (s : Seq ℕ) → length s ≤ length (unpadded 0 s)
blob_long (a ∷ b ∷ c ∷ s) = omega (arith, blob_long s)
blob_long s = omega arith

shown_long : (s : Seq ℕ) → length s ≤ length (canon_shown s)
shown_long [] = omega arith
shown_long (c ∷ s) = let h = shown_long s in grind arith

text_long : (x : Bare) → length (text_of x) ≤ length (canon_bare x)
text_long (Text s) = omega (arith, escaped_long s, lengths)
text_long (Blob s) = omega (arith, blob_long s, lengths)
text_long (Shown s) = omega (arith, shown_long s)
text_long x = omega arith

value_long : (x : Bare) → length (text_of x) ≤ length (canon_value x)
value_long (Boolean true) = omega arith
value_long (Boolean false) = omega arith
value_long x = omega (arith, text_long x)

-- a Token has a byte, and so has the text of a bare item
token_long : (s : Seq ℕ) → IsToken s → 1 ≤ length s
token_long [] h = absurd h
token_long (b ∷ s) h = omega arith

integer_long : (n : ℤ) → nat_abs n < 10 ^ 15 → 1 ≤ length (signed_decimal n)
integer_long (pos n) h = omega (arith, decimal_nonempty n (omega arith))
integer_long (negsuc n) h = omega arith

bare_long : (d : Dialect) (x : Bare) → ValidBare d x → 1 ≤ length (canon_bare x)
bare_long d (Integer n) h = integer_long n h
bare_long d (Decimal m) h = omega (arith, lengths)
bare_long d (Token s) h = token_long s h
bare_long d x h = omega arith

-- valid parameters, whether or not a key is twice
abbrev AreParams : Dialect → Pairs Bare → Type 0
AreParams d = Each (λ p. IsKey p.0 × ValidBare d p.1)

-- and valid members with keys
abbrev AreEntries : Dialect → Pairs Member → Type 0
AreEntries d = Each (λ p. IsKey p.0 × ValidMember d p.1)

-- at most half so many nodes, and at most so many bytes
record Small (count length twice bytes : ℕ) : Type 0 where
  parts : 2 * count ≤ twice
  size : length ≤ bytes

params_small : (d : Dialect) (ps : Pairs Bare) → AreParams d ps
    → Small (length ps) (params_bytes ps) (length (canon_params ps)) (length (canon_params ps))
params_small d [] valid = omega arith
params_small d (p ∷ ps) valid =
    omega (
      arith,
      params_small d ps valid.1,
      key_some p.0 valid.0.0,
      value_long p.1,
      lengths,
    )

item_small : (d : Dialect) (i : Item) → ValidItem d i
    → Small (item_nodes i) (item_bytes i) (1 + length (canon_item i)) (length (canon_item i))
item_small d i valid =
    omega (
      arith,
      params_small d i.params valid.1.0,
      bare_long d i.bare valid.0,
      text_long i.bare,
      lengths,
    )

more_small : (d : Dialect) (is : Seq Item) → Each (ValidItem d) is
    → Small (items_nodes is) (items_bytes is) (length (canon_more is)) (length (canon_more is))
more_small d [] valid = omega arith
more_small d (i ∷ is) valid =
    omega (arith, item_small d i valid.0, more_small d is valid.1, lengths)

items_small : (d : Dialect) (is : Seq Item) → Each (ValidItem d) is
    → Small (items_nodes is) (items_bytes is) (1 + length (canon_items is))
    (length (canon_items is))
items_small d [] valid = omega arith
items_small d (i ∷ is) valid =
    omega (arith, item_small d i valid.0, more_small d is valid.1, lengths)

member_small : (d : Dialect) (m : Member) → ValidMember d m
    → Small (member_nodes m) (member_bytes m) (1 + length (canon_member m))
    (length (canon_member m))
member_small d (member.Item i) valid = item_small d i valid
member_small d (member.Inner l) valid =
    omega (arith, items_small d l.items valid.0, params_small d l.params valid.1.0, lengths)

-- after a key of a Dictionary
flag_long : (x : Bare) (ps : Pairs Bare)
    → length (canon_params ps) + length (text_of x) ≤ length (canon_flag x ps)
flag_long (Boolean true) ps = omega arith
flag_long (Boolean false) ps = omega arith
flag_long x ps = omega (arith, text_long x, length-append (canon_bare x) (canon_params ps))

entry_small : (d : Dialect) (key : Seq ℕ) (m : Member) → IsKey key → ValidMember d m
    → Small (member_nodes m) (length key + member_bytes m) (1 + length (canon_entry (key, m)))
    (length (canon_entry (key, m)))
entry_small d key (member.Item i) named valid =
    omega (
      arith,
      params_small d i.params valid.1.0,
      key_some key named,
      flag_long i.bare i.params,
      lengths,
    )
entry_small d key (member.Inner l) named valid =
    omega (arith, member_small d (member.Inner l) valid, lengths)

members_after : (d : Dialect) (ms : Seq Member) → Each (ValidMember d) ms
    → Small (members_nodes ms) (members_bytes ms) (length (canon_commas canon_member ms))
    (length (canon_commas canon_member ms))
members_after d [] valid = omega arith
members_after d (m ∷ ms) valid =
    omega (arith, member_small d m valid.0, members_after d ms valid.1, lengths)

members_small : (d : Dialect) (ms : Seq Member) → Each (ValidMember d) ms
    → Small (members_nodes ms) (members_bytes ms) (1 + length (canon_series canon_member ms))
    (length (canon_series canon_member ms))
members_small d [] valid = omega arith
members_small d (m ∷ ms) valid =
    omega (arith, member_small d m valid.0, members_after d ms valid.1, lengths)

entries_after : (d : Dialect) (ps : Pairs Member) → AreEntries d ps
    → Small (entries_nodes ps) (entries_bytes ps) (length (canon_commas canon_entry ps))
    (length (canon_commas canon_entry ps))
entries_after d [] valid = omega arith
entries_after d (p ∷ ps) valid =
    omega (
      arith,
      entry_small d p.0 p.1 valid.0.0 valid.0.1,
      entries_after d ps valid.1,
      lengths,
    )

entries_small : (d : Dialect) (ps : Pairs Member) → AreEntries d ps
    → Small (entries_nodes ps) (entries_bytes ps) (1 + length (canon_series canon_entry ps))
    (length (canon_series canon_entry ps))
entries_small d [] valid = omega arith
entries_small d (p ∷ ps) valid =
    omega (
      arith,
      entry_small d p.0 p.1 valid.0.0 valid.0.1,
      entries_after d ps valid.1,
      lengths,
    )

field_small : (d : Dialect) (k : Kind) (v : Field) → Valid d k v
    → Small (field_nodes v) (field_bytes v) (1 + length (canon v)) (length (canon v))
field_small d kind.Item (field.Item i) valid = item_small d i valid
field_small d kind.List (field.List l) valid = members_small d l.members valid
field_small d kind.Dict (field.Dict m) valid = entries_small d m.members valid.0
field_small d k v valid = absurd valid

-- by the bound of the canonical text
pub nodes_bound : (d : Dialect) (k : Kind) (v : Field) (n : ℕ) → Valid d k v
    → 5 * length (canon v) ≤ 8 * n → 10 * field_nodes v ≤ 8 * n + 5
nodes_bound d k v n valid h = omega (arith, (field_small d k v valid).parts)

pub bytes_bound : (d : Dialect) (k : Kind) (v : Field) (n : ℕ) → Valid d k v
    → 5 * length (canon v) ≤ 8 * n → 5 * field_bytes v ≤ 8 * n
bytes_bound d k v n valid h = omega (arith, (field_small d k v valid).size)

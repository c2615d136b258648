-- The texts of whole fields.
use Rattle.std.specs.Prelude.{◌≡◌, ℕ, true, List as Seq, ◌∷◌, ◌++◌, ◌⊎◌}
use Rattle.sf_value.specs.declared.dialect.Dialect.{Dialect}
use Rattle.sf_value.specs.declared.value.Bare.{Bare}
use Rattle.sf_value.specs.declared.value.Bare.TheVariants.{Boolean}
use Rattle.sf_value.specs.declared.value.Member.{Member}
use Rattle.sf_value.specs.declared.value.Member.TheVariants as member
use Rattle.sf_value.specs.declared.value.Field.{Field}
use Rattle.sf_value.specs.declared.value.Field.TheVariants as field
use Rattle.sf_value.specs.declared.value.Kind.{Kind}
use Rattle.sf_value.specs.declared.value.Kind.TheVariants as kind
use Rattle.sf_value.specs.Ascii.{equals}
use Rattle.sf_value.specs.Grammar.Words.{Every}
use Rattle.sf_value.specs.Grammar.Classes.{is_sp}
use Rattle.sf_value.specs.Grammar.Pairs.{Pairs, settle}
use Rattle.sf_value.specs.Grammar.Tokens.{IsKey}
use Rattle.sf_value.specs.Grammar.Parameters.{SpellsParams}
use Rattle.sf_value.specs.Grammar.Items.{item, SpellsItem}
use Rattle.sf_value.specs.Grammar.InnerLists.{SpellsMember}
use Rattle.sf_value.specs.Grammar.Series.{SpellsWhole}

-- the kind of a field is that of its variant
abbrev pub kind_of : Field → Kind
kind_of (field.Item i) = kind.Item
kind_of (field.List l) = kind.List
kind_of (field.Dict m) = kind.Dict

-- an Item of Boolean true
abbrev pub flag : Pairs Bare → Member
flag ps = member.Item (item (Boolean true) ps)

-- a member of a Dictionary (3.2, 4.2.2): its key, = and its text; or, for an Item of Boolean true,
-- its key and parameters alone
abbrev pub SpellsEntry : Dialect → Seq ℕ → Seq ℕ × Member → Type 0
SpellsEntry d t p =
    (suffix : Seq ℕ)
    × IsKey p.0
    × (((t ≡ p.0 ++ equals ∷ suffix) × SpellsMember d suffix p.1)
    ⊎ ((ps : Pairs Bare) × (p.1 ≡ flag ps) × (t ≡ p.0 ++ suffix) × SpellsParams d suffix ps))

-- a List by its members, as a field
abbrev pub list_of : Seq Member → Field
list_of ms = field.List (record { members = ms })

-- a Dictionary by its entries, as a field
abbrev pub dict_of : Pairs Member → Field
dict_of ps = field.Dict (record { members = ps })

-- a field of a kind (4.2): SP, an Item, SP; or a List or a Dictionary with its spaces. The claims
-- on parsing are about this relation.
abbrev pub SpellsField : Dialect → Kind → Seq ℕ → Field → Type 0
SpellsField d kind.Item t (field.Item i) =
    (gap body tail : Seq ℕ)
    × (t ≡ gap ++ (body ++ tail))
    × Every is_sp gap
    × SpellsItem d body i
    × Every is_sp tail
SpellsField d kind.List t (field.List l) = SpellsWhole (SpellsMember d) t l.members
SpellsField d kind.Dict t (field.Dict m) =
    (raw : Pairs Member) × (m.members ≡ settle raw) × SpellsWhole (SpellsEntry d) t raw
SpellsField d k t v = ⊥

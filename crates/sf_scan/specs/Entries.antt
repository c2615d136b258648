-- Members of Dictionaries, and whole Dictionaries, as sf_value's grammar defines them, with repeated
-- keys.
use Rattle.std.specs.Prelude.{◌≡◌, ℕ, Bool, true, false, List, ◌∷◌, ◌==◌, ◌||◌, ◌⊎◌}
use Rattle.std.proofs.Common.{inl}
use Rattle.sf_value.specs.declared.dialect.Dialect.{Dialect}
use Rattle.sf_value.specs.declared.value.Bare.{Bare}
use Rattle.sf_value.specs.declared.value.Bare.TheVariants.{Boolean}
use Rattle.sf_value.specs.Ascii.{equals, semicolon}
use Rattle.sf_value.specs.Grammar.Classes.{is_key_start, is_in_key}
use Rattle.sf_value.specs.Grammar.Pairs.{Pairs}
use Rattle.sf_value.specs.Grammar.Series.{SpellsWhole}
use Rattle.sf_value.specs.Grammar.Tokens.{IsKey}
use Rattle.sf_scan.specs.Languages.{Then}
use Rattle.sf_scan.specs.Members.{RawMember, SpellsRawMember, made_member, in_member, ends_member}
use Rattle.sf_value.specs.Grammar.Parameters.{SpellsRaw}
use Rattle.sf_scan.specs.Places.{in_params, ends_params}
use Rattle.sf_scan.specs.Series.{in_series, ends_series}
use Rattle.sf_scan.specs.declared.entry.EntryPlace.{EntryPlace}
use Rattle.sf_scan.specs.declared.entry.EntryPlace.TheVariants as place
use Rattle.sf_scan.specs.declared.series.SeriesPlace.{SeriesPlace}

-- a key is its own text
abbrev pub SpellsKey : List ℕ → List ℕ → Type 0
SpellsKey t k = (t ≡ k) × IsKey k

-- an Item of Boolean true
abbrev pub raw_flag : Pairs Bare → RawMember
raw_flag ps = inl (Boolean true, ps)

-- after the key: = and the text of the member; or, for an Item of Boolean true, parameters alone
abbrev pub SpellsKeyed : Dialect → List ℕ → RawMember → Type 0
SpellsKeyed d t v =
    ((suffix : List ℕ) × (t ≡ equals ∷ suffix) × SpellsRawMember d suffix v)
    ⊎ ((ps : Pairs Bare) × (v ≡ raw_flag ps) × SpellsRaw d t ps)

-- a member of a Dictionary: its key, and the rest
abbrev pub SpellsRawEntry : Dialect → List ℕ → List ℕ × RawMember → Type 0
SpellsRawEntry d = Then SpellsKey (SpellsKeyed d)

-- a Dictionary: SP, members with commas between them, OWS
abbrev pub SpellsRawDict : Dialect → List ℕ → Pairs RawMember → Type 0
SpellsRawDict d = SpellsWhole (SpellsRawEntry d)

-- what is made of a member
abbrev pub made_entry : {M : Type 0} → (M → Bare → M) → (M → List ℕ → Bare → M) → (M → M)
    → (M → M) → (M → List ℕ → M) → M → List ℕ × RawMember → M
made_entry bare with opened closed named m p =
    made_member bare with opened closed (named m p.0) p.1

-- the bytes that may come at a place in a member of a Dictionary, as part of it
abbrev pub in_entry : Dialect → EntryPlace → ℕ → Bool
in_entry d place.Start b = is_key_start b
in_entry d place.InKey b = is_in_key b || (b == equals || b == semicolon)
in_entry d (place.InValue p) b = in_member d p b
in_entry d (place.InParams p) b = in_params d p b

-- whether the member may end there
abbrev pub ends_entry : EntryPlace → Bool
ends_entry place.Start = false
ends_entry place.InKey = true
ends_entry (place.InValue p) = ends_member p
ends_entry (place.InParams p) = ends_params p

-- the same in a Dictionary
abbrev pub in_dict : Dialect → SeriesPlace EntryPlace → ℕ → Bool
in_dict d = in_series place.Start (in_entry d) ends_entry

abbrev pub ends_dict : SeriesPlace EntryPlace → Bool
ends_dict = ends_series ends_entry

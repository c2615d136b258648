-- The machine that reads members of Dictionaries.
use Rattle.std.specs.Option.{option_map, option_or}
use Rattle.std.specs.Prelude.{ℕ, ◌==◌, List, [], Option, Some, None}
use Rattle.sf_value.specs.Ascii.{equals}
use Rattle.sf_value.specs.declared.dialect.Dialect.{Dialect}
use Rattle.sf_value.specs.declared.value.Bare.{Bare}
use Rattle.sf_value.specs.declared.value.Member.{Member}
use Rattle.sf_value.specs.Grammar.Words.{allow}
use Rattle.sf_value.specs.Grammar.Classes.{is_key_start, is_in_key}
use Rattle.sf_value.specs.Grammar.Pairs.{Pairs}
use Rattle.sf_value.specs.Grammar.InnerLists.{SpellsMember}
use Rattle.sf_value.specs.Grammar.Fields.{flag}
use Rattle.sf_parse.specs.Machine.Language.{Then, MapValues, Either, After, onward}
use Rattle.sf_parse.specs.Machine.Texts.{ResidualWord, word_start, word_step}
use Rattle.sf_parse.specs.Machine.Params.{ParamsState, MoreParams, ResidualParams, GoodParams}
use Rattle.sf_parse.specs.Machine.Params.{between_step, params_step, params_finish}
use Rattle.sf_parse.specs.Machine.Members.{ResidualMember, GoodMember, member_start, member_step}
use Rattle.sf_parse.specs.Machine.Members.{member_finish}
use Rattle.sf_parse.specs.Machine.Members.{MemberState}

pub data EntryState : Type 0 where
  InKey : (key : List ℕ) → EntryState
  -- after an equals sign
  Equals : (key : List ℕ) → EntryState
  InMemberValue : (key : List ℕ) (state : MemberState) → EntryState
  -- in the parameters of Boolean true
  InFlag : (key : List ℕ) (state : ParamsState) → EntryState

abbrev pub with_key : List ℕ → Member → List ℕ × Member
with_key k m = (k, m)

abbrev pub flag_of : List ℕ → Pairs Bare → List ℕ × Member
flag_of k ps = (k, flag ps)

abbrev pub BehindKey : Dialect → List ℕ → List ℕ → List ℕ × Member → Type 0
BehindKey d k = Either (After equals (MapValues (with_key k) (SpellsMember d)))
    (MapValues (flag_of k) (MoreParams d []))

abbrev pub ResidualEntry : Dialect → EntryState → List ℕ → List ℕ × Member → Type 0
ResidualEntry d (InKey k) = Then (ResidualWord is_in_key k) (BehindKey d)
ResidualEntry d (Equals k) = MapValues (with_key k) (SpellsMember d)
ResidualEntry d (InMemberValue k s) = MapValues (with_key k) (ResidualMember d s)
ResidualEntry d (InFlag k s) = MapValues (flag_of k) (ResidualParams d s)

abbrev pub GoodEntry : EntryState → Type 0
GoodEntry (InKey k) = Unit {0}
GoodEntry (Equals k) = Unit {0}
GoodEntry (InMemberValue k s) = GoodMember s
GoodEntry (InFlag k s) = GoodParams s

abbrev pub entry_start : ℕ → Option EntryState
entry_start b = option_map InKey (word_start is_key_start b)

abbrev pub after_key_step : List ℕ → ℕ → Option EntryState
after_key_step k b = option_or (allow (b == equals) (Equals k))
    (option_map (InFlag k) (between_step [] b))

abbrev pub entry_step : Dialect → EntryState → ℕ → Option EntryState
entry_step d (InKey k) b = onward InKey (word_step is_in_key k b) (Some k)
    (λ k. after_key_step k b)
entry_step d (Equals k) b = option_map (InMemberValue k) (member_start d b)
entry_step d (InMemberValue k s) b = option_map (InMemberValue k) (member_step d s b)
entry_step d (InFlag k s) b = option_map (InFlag k) (params_step d s b)

abbrev pub entry_finish : EntryState → Option (List ℕ × Member)
entry_finish (InKey k) = Some (flag_of k [])
entry_finish (Equals k) = None
entry_finish (InMemberValue k s) = option_map (with_key k) (member_finish s)
entry_finish (InFlag k s) = option_map (flag_of k) (params_finish s)

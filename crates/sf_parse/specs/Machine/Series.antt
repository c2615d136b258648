-- The machine that reads members with commas between them.
use Rattle.std.specs.Option.{option_and_then, option_map, option_or}
use Rattle.std.specs.Prelude.{◌≡◌, ℕ, ◌==◌, List, ◌++◌, Option, Some, None}
use Rattle.sf_value.specs.Ascii.{comma}
use Rattle.sf_value.specs.Grammar.Words.{Every, allow}
use Rattle.sf_value.specs.Grammar.Classes.{is_sp, is_ows}
use Rattle.sf_value.specs.Grammar.Series.{SpellsCommas}
use Rattle.sf_parse.specs.Machine.Language.{Then, Either, Past, Nothing, onward}

-- S is the state in a member, V the value of the members so far
pub data SeriesState (S V : Type 0) : Type 0 where
  Begin : SeriesState S V
  InMember : (given : V) (state : S) → SeriesState S V
  -- after a member
  Gap : (given : V) → SeriesState S V
  -- after a comma
  Comma : (given : V) → SeriesState S V

-- What differs between a List and a Dictionary: the members, and how a member is added to the
-- value.
pub record Series (S X V : Type 0) : Type 1 where
  pub Spells : List ℕ → X → Type 0
  pub Residual : S → List ℕ → X → Type 0
  pub Good : S → Type 0
  pub Settled : V → Type 0
  pub start : ℕ → Option S
  pub step : S → ℕ → Option S
  pub finish : S → Option X
  pub none : V
  pub add : V → X → V
  pub all : V → List X → V

-- further members
abbrev pub MoreMembers : {S X V : Type 0} → Series S X V → V → List ℕ → V → Type 0
MoreMembers {X = X} k given u v = (xs : List X) × (body tail : List ℕ) × (u ≡ body ++ tail)
    × SpellsCommas k.Spells body xs × Every is_ows tail × (v ≡ k.all given xs)

-- a member and further ones
abbrev pub AddMembers : {S X V : Type 0} → Series S X V → V → List ℕ → V → Type 0
AddMembers k given = Then k.Spells (λ x. MoreMembers k (k.add given x))

abbrev pub ResidualSeries : {S X V : Type 0} → Series S X V → SeriesState S V → List ℕ → V → Type 0
ResidualSeries k Begin = Past is_sp (Either (AddMembers k k.none) (Nothing k.none))
ResidualSeries k (InMember given s) = Then (k.Residual s) (λ x. MoreMembers k (k.add given x))
ResidualSeries k (Gap given) = MoreMembers k given
ResidualSeries k (Comma given) = Past is_ows (AddMembers k given)

abbrev pub GoodSeries : {S V : Type 0} → (S → Type 0) → (V → Type 0) → SeriesState S V → Type 0
GoodSeries Good Settled Begin = Unit {0}
GoodSeries Good Settled (InMember given s) = Settled given × Good s
GoodSeries Good Settled (Gap given) = Settled given
GoodSeries Good Settled (Comma given) = Settled given

-- after a member: a comma, or white space before it
abbrev pub gap_step : {S V : Type 0} → V → ℕ → Option (SeriesState S V)
gap_step given b = option_or (allow (is_ows b) (Gap given)) (allow (b == comma) (Comma given))

abbrev pub series_step : {S X V : Type 0} → Series S X V → SeriesState S V → ℕ
    → Option (SeriesState S V)
series_step k Begin b = option_or (allow (is_sp b) Begin) (option_map (InMember k.none) (k.start b))
series_step k (InMember given s) b = onward (InMember given) (k.step s b) (k.finish s)
    (λ x. gap_step (k.add given x) b)
series_step k (Gap given) b = gap_step given b
series_step k (Comma given) b = option_or (allow (is_ows b) (Comma given))
    (option_map (InMember given) (k.start b))

abbrev pub series_finish : {S X V : Type 0} → (S → Option X) → V → (V → X → V) → SeriesState S V
    → Option V
series_finish end none add Begin = Some none
series_finish end none add (InMember given s) = option_and_then (λ x. Some (add given x)) (end s)
series_finish end none add (Gap given) = Some given
series_finish end none add (Comma given) = None

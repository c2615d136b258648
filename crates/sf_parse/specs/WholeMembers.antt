-- Whole members that are added to a value: their machine, and what taking them returns.
use Rattle.std.specs.Prelude.{◌≡◌, ℕ, Bool, true, false, List, [], ◌∷◌, ◌++◌, Option, Some, None}
use Rattle.std.specs.Prelude.{◌⊎◌, ◌≢◌, ⊤}
use Rattle.sf_value.specs.Ascii.{comma, open_bracket}
use Rattle.sf_value.specs.declared.dialect.Dialect.{Dialect}
use Rattle.sf_value.specs.declared.value.Bare.{Bare}
use Rattle.sf_value.specs.declared.value.Inner.{Inner}
use Rattle.sf_value.specs.declared.value.Member.{Member}
use Rattle.sf_value.specs.declared.value.Member.TheVariants as member
use Rattle.sf_value.specs.Grammar.InnerLists.{SpellsInner}
use Rattle.sf_value.specs.Grammar.Pairs.{Pairs}
use Rattle.sf_value.specs.Grammar.Parameters.{SpellsParams}
use Rattle.sf_parse.specs.Leaves.{IsLeaf}
use Rattle.sf_parse.specs.WholeParts.{ReadsAs, BeginsMember, found_member}
use Rattle.sf_parse.specs.declared.whole_parts.Begun.{Begun}
use Rattle.sf_parse.specs.declared.whole_parts.Begun.TheVariants as begun
use Rattle.sf_value.specs.Grammar.Classes.{is_ows}
use Rattle.sf_value.specs.Grammar.Words.{Every}
use Rattle.sf_parse.specs.Machine.Language.{run, is_after}
use Rattle.sf_parse.specs.Machine.Series.{SeriesState}
use Rattle.sf_parse.specs.Prefixes.{Goes}
use Rattle.sf_parse.specs.SeriesView.{series_of}
use Rattle.sf_parse.specs.declared.series.SeriesPhase.{SeriesPhase}
use Rattle.sf_parse.specs.declared.series.SeriesPhase.TheVariants as phase

-- the bytes before the rest of the text are those of a member, which may end there and is added as
-- x, and which no byte that may be after a member goes on
pub record IsWholeMember {S X V : Type 0} (first : ℕ → Option S) (next : S → ℕ → Option S)
    (added : S → V → Option V) (with : V → X → V) (text : List ℕ) (x : X) (rest : List ℕ)
    : Type 0 where
  pub byte : ℕ
  pub more : List ℕ
  pub begun : S
  pub whole : S
  pub split : text ≡ byte ∷ (more ++ rest)
  pub no_space : is_ows byte ≡ false
  pub starts : first byte ≡ Some begun
  pub leads : run next begun more ≡ Some whole
  pub adds : (given : V) → added whole given ≡ Some (with given x)
  pub apart : (b : ℕ) → is_after b ≡ true → next whole b ≡ None

-- a member begins so: with its parameters, or with the rest of the Inner List, it is whole
abbrev pub IsBegun : {S V : Type 0} → (List ℕ → Type 0) → (ℕ → Option S) → (S → ℕ → Option S)
    → (S → V → Option V) → (V → List ℕ × Member → V) → Dialect → List ℕ → Begun → Type 0
IsBegun is_key first next added with d text (begun.Item found after) =
    is_key found.key.now × IsLeaf found.leaf
    × ((params : Pairs Bare) (rest : List ℕ) → ReadsAs (SpellsParams d) after.now params rest
    → IsWholeMember first next added with text (found_member found params) rest)
IsBegun is_key first next added with d text (begun.Inner key inside) =
    is_key key.now × BeginsMember text
    × ((inner : Inner) (rest : List ℕ)
    → ReadsAs (SpellsInner d) (open_bracket ∷ inside.now) inner rest
    → IsWholeMember first next added with text (key.now, member.Inner inner) rest)

-- between a member and the rest are white space and a comma, with white space after it; or white
-- space alone, of which there may be none if nothing is left of a whole text
abbrev pub IsAfterMember : Bool → List ℕ → SeriesPhase → List ℕ → Type 0
IsAfterMember is_whole text phase.Begin rest = ⊥
IsAfterMember is_whole text phase.InMember rest = ⊥
IsAfterMember is_whole text phase.Gap rest =
    (white : List ℕ) × (text ≡ white ++ rest) × Every is_ows white
    × ((white ≢ []) ⊎ ((rest ≡ []) × (is_whole ≡ true)))
IsAfterMember is_whole text phase.Comma rest =
    (white space : List ℕ) × (text ≡ white ++ comma ∷ (space ++ rest)) × Every is_ows white
    × Every is_ows space

-- a member may begin; before the first one nothing was given
abbrev pub MayBegin : {V : Type 0} → V → SeriesPhase → V → Type 0
MayBegin none phase.Begin given = given ≡ none
MayBegin none phase.InMember given = ⊥
MayBegin none phase.Gap given = ⊥
MayBegin none phase.Comma given = ⊤

-- no member is open; before the first one nothing was given
abbrev pub NoneOpen : {V : Type 0} → V → SeriesPhase → V → Type 0
NoneOpen none phase.Begin given = given ≡ none
NoneOpen none phase.InMember given = ⊥
NoneOpen none phase.Gap given = ⊤
NoneOpen none phase.Comma given = ⊤

-- members may end, where none is open
abbrev pub MayEnd : SeriesPhase → Type 0
MayEnd phase.Begin = ⊤
MayEnd phase.InMember = ⊥
MayEnd phase.Gap = ⊤
MayEnd phase.Comma = ⊥

-- the bytes before the rest of the chunk lead from the old state to the one of the new phase and
-- value; or the chunk is a whole text, of which nothing is left, and they lead to a state whose
-- members have that value
pub record TakesMembers {S V : Type 0} (next : SeriesState S V → ℕ → Option (SeriesState S V))
    (end : SeriesState S V → Option V) (is_whole : Bool) (old : SeriesState S V)
    (chunk rest : List ℕ) (p : SeriesPhase) (given : V) (s : S) : Type 0 where
  pub state : SeriesState S V
  pub goes : Goes next old chunk rest state
  pub reached : (state ≡ series_of p given s)
      ⊎ ((is_whole ≡ true) × (rest ≡ []) × (p ≡ phase.Gap) × (end state ≡ Some given))

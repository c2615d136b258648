-- The state of the machine for what is read of members with commas between them, and the machine as
-- a reader that adds a member to the value at its end.
use Rattle.std.specs.Option.{option_map, option_or}
use Rattle.std.specs.Prelude.{◌≡◌, ℕ, Bool, true, false, Option, Some, None, ⊤}
use Rattle.sf_value.specs.Grammar.Words.{allow}
use Rattle.sf_value.specs.Grammar.Classes.{is_sp, is_ows}
use Rattle.sf_parse.specs.Machine.Language.{onward}
use Rattle.sf_parse.specs.Machine.Series.{SeriesState, Begin, InMember, Gap, Comma, gap_step}
use Rattle.sf_parse.specs.declared.series.SeriesPhase.{SeriesPhase}
use Rattle.sf_parse.specs.declared.series.SeriesPhase.TheVariants as phase

-- the phase says whether a member is open
abbrev pub series_of : {S V : Type 0} → SeriesPhase → V → S → SeriesState S V
series_of phase.Begin given s = Begin
series_of phase.InMember given s = InMember given s
series_of phase.Gap given s = Gap given
series_of phase.Comma given s = Comma given

-- the state after one more byte. first b: the state in a member that begins with b; added s v: v
-- with the member of s, if it may end
abbrev pub series_next : {S V : Type 0} → (ℕ → Option S) → (S → ℕ → Option S)
    → (S → V → Option V) → V → SeriesState S V → ℕ → Option (SeriesState S V)
series_next first next added none Begin b = option_or (allow (is_sp b) Begin)
    (option_map (InMember none) (first b))
series_next first next added none (InMember given s) b = onward (InMember given) (next s b)
    (added s given) (λ more. gap_step more b)
series_next first next added none (Gap given) b = gap_step given b
series_next first next added none (Comma given) b = option_or (allow (is_ows b) (Comma given))
    (option_map (InMember given) (first b))

-- the value of the members, if they may end
abbrev pub series_end : {S V : Type 0} → (S → V → Option V) → V → SeriesState S V → Option V
series_end added none Begin = Some none
series_end added none (InMember given s) = added s given
series_end added none (Gap given) = Some given
series_end added none (Comma given) = None

-- if a member is open, it can't continue with this byte
abbrev pub series_stuck : {S V : Type 0} → (S → ℕ → Option S) → SeriesState S V → ℕ → Type 0
series_stuck next Begin b = ⊤
series_stuck next (InMember given s) b = next s b ≡ None
series_stuck next (Gap given) b = ⊤
series_stuck next (Comma given) b = ⊤

-- a member ended and was added, or may not end and nothing changed
abbrev pub Ends : {V : Type 0} → Bool → Option V → V → V → Type 0
Ends true added old new = added ≡ Some new
Ends false added old new = (added ≡ None) × (new ≡ old)

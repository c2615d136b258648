-- The state of the machine for what is read of a Dictionary's member.
use Rattle.std.specs.Prelude.{◌≡◌, ℕ, true, List, None, ⊤}
use Rattle.sf_value.specs.declared.dialect.Dialect.{Dialect}
use Rattle.sf_value.specs.declared.value.Bare.TheVariants as bare
use Rattle.sf_value.specs.Grammar.Tokens.{IsKey}
use Rattle.sf_parse.specs.Machine.Params.{params_step}
use Rattle.sf_parse.specs.Machine.Items.{InBare, InParams}
use Rattle.sf_parse.specs.Machine.Members.{MemberState, InOne, InMany, member_step}
use Rattle.sf_parse.specs.Machine.Entries.{EntryState, InKey, Equals, InMemberValue, InFlag}
use Rattle.sf_parse.specs.declared.entry.EntryPhase.{EntryPhase}
use Rattle.sf_parse.specs.declared.entry.EntryPhase.TheVariants as phase

-- the parameters of a flag are read as those of an item of Boolean true
abbrev pub flag_at : List ℕ → MemberState → EntryState
flag_at k (InOne (InBare s)) = InKey k
flag_at k (InOne (InParams x s)) = InFlag k s
flag_at k (InMany s) = InKey k

-- the phase says whether the key or the member is open
abbrev pub entry_of : EntryPhase → List ℕ → MemberState → EntryState
entry_of phase.InKey k m = InKey k
entry_of phase.Equals k m = Equals k
entry_of phase.InMemberValue k m = InMemberValue k m
entry_of phase.InFlag k m = flag_at k m

-- the parameters of Boolean true are open
abbrev pub IsFlag : MemberState → Type 0
IsFlag (InOne (InBare s)) = ⊥
IsFlag (InOne (InParams x s)) = x ≡ bare.Boolean true
IsFlag (InMany s) = ⊥

-- in the phase of a flag its parameters are open
abbrev pub FitsFlag : EntryPhase → MemberState → Type 0
FitsFlag phase.InKey m = ⊤
FitsFlag phase.Equals m = ⊤
FitsFlag phase.InMemberValue m = ⊤
FitsFlag phase.InFlag m = IsFlag m

-- the key is well-formed, and a flag is Boolean true
abbrev pub FitsEntry : EntryPhase → List ℕ → MemberState → Type 0
FitsEntry p k m = IsKey k × FitsFlag p m

-- if a value or the parameters of a flag are open, they can't continue with this byte
abbrev pub entry_stuck : Dialect → EntryState → ℕ → Type 0
entry_stuck d (InKey k) b = ⊤
entry_stuck d (Equals k) b = ⊤
entry_stuck d (InMemberValue k s) b = member_step d s b ≡ None
entry_stuck d (InFlag k s) b = params_step d s b ≡ None

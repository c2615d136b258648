-- What a parser keeps, which bytes it took, and what it refuses.
use Rattle.std.specs.Prelude.{◌≡◌, ℕ, ◌+◌, ◌<◌, ◌≤◌, ◌↔◌, Bool, true, false, List, ◌∷◌, ◌++◌}
use Rattle.std.specs.Prelude.{length, take, Option, Some, None, Result, Ok, Err, ⊤}
use Rattle.sf_value.specs.Ascii.{comma, space}
use Rattle.sf_value.specs.declared.dialect.Dialect.{Dialect}
use Rattle.sf_value.specs.declared.value.Field.{Field}
use Rattle.sf_value.specs.declared.value.Kind.{Kind}
use Rattle.sf_value.specs.Grammar.Fields.{SpellsField}
use Rattle.sf_value.specs.Grammar.Lines.{Viable}
use Rattle.sf_value.specs.Grammar.Refusals.{IsSyntax}
use Rattle.sf_parse.specs.declared.refusal.Refusal.{Refusal}
use Rattle.sf_parse.specs.declared.refusal.Refusal.TheVariants.{OutOfMemory, Syntax, TooLong}
use Rattle.sf_parse.specs.declared.refusal.Refusal.TheVariants.{ReadFault}
use Rattle.sf_scan.specs.Sets.{Marks}
use Rattle.sf_parse.specs.Machine.States.{State}
use Rattle.sf_parse.specs.Machine.Fields.{Residual, Good}

-- what contracts see of a parser
pub record Progress : Type 0 where
  pub dialect : Dialect
  pub kind : Kind
  pub max : ℕ
  pub state : State
  pub count : ℕ
  pub refusal : Option Refusal
  -- a field line was fed to it
  pub after_line : Bool

-- the parser took the text s and refused nothing: its count is the length of s, and what completes
-- its state completes s
pub record HasTaken (p : Progress) (s : List ℕ) : Type 0 where
  pub count : p.count ≡ length s
  pub completes : (u : List ℕ) (v : Field) → Residual p.dialect p.state u v
      ↔ SpellsField p.dialect p.kind (s ++ u) v
  pub unrefused : p.refusal ≡ None

-- the place of a parser that refused
abbrev pub StandsAt : Refusal → ℕ → ℕ → Type 0
StandsAt OutOfMemory count max = ⊤
StandsAt (Syntax place found expected may_end) count max = count ≡ place
StandsAt (TooLong limit) count max = (limit ≡ max) × (count ≡ max)
StandsAt (ReadFault place) count max = ⊥

-- the refusal of a byte, or of the end, at a place in a state that takes these bytes
pub record Refuses (takes : ℕ → Bool) (ends : Bool) (place : ℕ) (found : Option ℕ) (e : Refusal)
    : Type 0 where
  pub expected : ℕ
  pub marks : Marks expected takes
  pub syntax : e ≡ Syntax place found expected ends

-- the invariant of every parser
abbrev pub Sound : Option Refusal → State → ℕ → ℕ → Type 0
Sound None state count max = Good state × (count ≤ max)
Sound (Some e) state count max = StandsAt e count max

-- the text spells this value, and no other
pub record IsOnly (d : Dialect) (kind : Kind) (t : List ℕ) (v : Field) : Type 0 where
  pub spelled : SpellsField d kind t v
  pub only : (w : Field) → SpellsField d kind t w → w ≡ v

-- why a text is refused before its end: at a byte below the limit, or at the limit
abbrev pub RefusedFor : Dialect → Kind → ℕ → List ℕ → Refusal → Type 0
RefusedFor d kind max t OutOfMemory = ⊤
RefusedFor d kind max t (Syntax place None expected may_end) = ⊥
RefusedFor d kind max t (Syntax place (Some b) expected may_end) =
    (place < max) × IsSyntax d kind t place (Some b) expected may_end
RefusedFor d kind max t (TooLong limit) =
    (limit ≡ max) × (max < length t) × Viable d kind (take max t)
RefusedFor d kind max t (ReadFault place) = ⊥

-- the dialect, the kind and the limit are unchanged
pub record SameSettings (old new : Progress) : Type 0 where
  pub dialect : new.dialect ≡ old.dialect
  pub kind : new.kind ≡ old.kind
  pub max : new.max ≡ old.max

-- the result of feeding the bytes x after a text s that was taken
abbrev pub FeedAnswer : Progress → Progress → Result (Unit {0}) Refusal → List ℕ → Type 0
FeedAnswer old new (Ok u) x =
    (new.refusal ≡ old.refusal)
    × ((s : List ℕ) → HasTaken old s
    → (length (s ++ x) ≤ old.max) × Viable old.dialect old.kind (s ++ x) × HasTaken new (s ++ x))
FeedAnswer old new (Err e) x =
    (new.refusal ≡ Some e)
    × ((s : List ℕ) → HasTaken old s → (more : List ℕ)
    → RefusedFor old.dialect old.kind old.max ((s ++ x) ++ more) e)

-- the bytes x were fed; a refusal remains, whatever comes after them
pub record Feeds (old new : Progress) (result : Result (Unit {0}) Refusal) (x : List ℕ) : Type 0 where
  pub settings : SameSettings old new
  pub counted : new.count ≤ old.count + length x
  pub answer : FeedAnswer old new result x

-- a field line in the joined text: after another line a comma and a space come first
abbrev pub in_line : Bool → List ℕ → List ℕ
in_line true line = comma ∷ space ∷ line
in_line false line = line

-- the result at the end of the text s
abbrev pub Finishes : Dialect → Kind → List ℕ → Result Field Refusal → Type 0
Finishes d kind s (Ok v) = IsOnly d kind s v
Finishes d kind s (Err OutOfMemory) = ⊤
Finishes d kind s (Err (Syntax place None expected may_end)) =
    (place ≡ length s) × (may_end ≡ false) × IsSyntax d kind s place None expected may_end
Finishes d kind s (Err (Syntax place (Some b) expected may_end)) = ⊥
Finishes d kind s (Err (TooLong limit)) = ⊥
Finishes d kind s (Err (ReadFault place)) = ⊥

-- the result of parsing the whole text t
abbrev pub Parses : Dialect → Kind → List ℕ → Result Field Refusal → Type 0
Parses d kind t (Ok v) = IsOnly d kind t v
Parses d kind t (Err OutOfMemory) = ⊤
Parses d kind t (Err (Syntax place None expected may_end)) =
    (may_end ≡ false) × IsSyntax d kind t place None expected may_end
Parses d kind t (Err (Syntax place (Some b) expected may_end)) =
    IsSyntax d kind t place (Some b) expected may_end
Parses d kind t (Err (TooLong limit)) = ⊥
Parses d kind t (Err (ReadFault place)) = ⊥

-- out of memory only if the text t spells a value: a malformed text needs no memory to be refused
abbrev pub NeedsValue : {A : Type 0} → Dialect → Kind → List ℕ → Result A Refusal → Type 0
NeedsValue d kind t (Ok v) = ⊤
NeedsValue d kind t (Err OutOfMemory) = (v : Field) × IsOnly d kind t v
NeedsValue d kind t (Err (Syntax place found expected may_end)) = ⊤
NeedsValue d kind t (Err (TooLong limit)) = ⊤
NeedsValue d kind t (Err (ReadFault place)) = ⊤

-- P holds for the field of the result, and for a refusal as it is
abbrev pub Makes : {A : Type 0} → (A → Field) → (Result Field Refusal → Type 0)
    → Result A Refusal → Type 0
Makes make P (Ok v) = P (Ok (make v))
Makes make P (Err e) = P (Err e)

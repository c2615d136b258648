-- What normalising a text and comparing two returns.
use Rattle.std.specs.Prelude.{◌≡◌, ℕ, ◌*◌, ◌<◌, ◌≤◌, ◌↔◌, Bool, true, List, ◌++◌, length, drop}
use Rattle.sf_value.specs.declared.dialect.Dialect.{Dialect}
use Rattle.sf_value.specs.declared.value.Field.{Field}
use Rattle.sf_value.specs.declared.value.Kind.{Kind}
use Rattle.sf_value.specs.Grammar.Canonical.{canon}
use Rattle.sf_parse.specs.Parsers.{IsOnly}
use Rattle.sf_c.specs.declared.refusal.SyntaxRefusal.{SyntaxRefusal}
use Rattle.sf_c.specs.declared.status.Status.{Status}
use Rattle.sf_c.specs.declared.status.Status.TheVariants.{Answered, Refused, SecondRefused, Short}
use Rattle.sf_c.specs.declared.status.Status.TheVariants.{OutOfMemory}
use Rattle.sf_c.specs.Refusals.{SaysRefusal, flag_number}

-- what normalising may write to
pub record TextOutput : Type 0 where
  pub buffer : List ℕ
  pub required : ℕ
  pub refusal : SyntaxRefusal

-- the text is at the start of the buffer, and the rest is unchanged
abbrev pub IsAtStart : List ℕ → List ℕ → List ℕ → Type 0
IsAtStart text old new = new ≡ text ++ drop (length text) old

-- the canonical text of the value that the text t spells, which is at most eight fifths as long as
-- t, is put into a buffer that is long enough; everything else is unchanged
abbrev pub Normalises : TextOutput → TextOutput → List ℕ → Dialect → Kind → Status → Type 0
Normalises old new t d k Answered =
    (v : Field)
    × IsOnly d k t v
    × (new.required ≡ length (canon v))
    × (5 * new.required ≤ 8 * length t)
    × (new.required ≤ length old.buffer)
    × IsAtStart (canon v) old.buffer new.buffer
    × (new.refusal ≡ old.refusal)
Normalises old new t d k Short =
    (v : Field)
    × IsOnly d k t v
    × (new.required ≡ length (canon v))
    × (5 * new.required ≤ 8 * length t)
    × (length old.buffer < new.required)
    × (new.buffer ≡ old.buffer)
    × (new.refusal ≡ old.refusal)
Normalises old new t d k Refused =
    SaysRefusal d k t new.refusal × (new.buffer ≡ old.buffer) × (new.required ≡ old.required)
Normalises old new t d k OutOfMemory = new ≡ old
Normalises old new t d k status = ⊥

-- what comparing may write to
pub record EqualOutput : Type 0 where
  pub equal : ℕ
  pub refusal : SyntaxRefusal

-- each of the two texts spells one value, and 1 means that they are equal, 0 that they are not; or
-- the struct has the refusal of the first that spells none. Everything else is unchanged
abbrev pub Equals : EqualOutput → EqualOutput → List ℕ → List ℕ → Dialect → Kind → Status → Type 0
Equals old new s t d k Answered =
    (v w : Field) × (b : Bool)
    × IsOnly d k s v
    × IsOnly d k t w
    × (new.equal ≡ flag_number b)
    × ((b ≡ true) ↔ (v ≡ w))
    × (new.refusal ≡ old.refusal)
Equals old new s t d k Refused = SaysRefusal d k s new.refusal × (new.equal ≡ old.equal)
Equals old new s t d k SecondRefused =
    ((v : Field) × IsOnly d k s v) × SaysRefusal d k t new.refusal × (new.equal ≡ old.equal)
Equals old new s t d k OutOfMemory = new ≡ old
Equals old new s t d k status = ⊥

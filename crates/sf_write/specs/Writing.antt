-- What several calls of a sink write together.
use Rattle.std.specs.Prelude.{◌≡◌, ℕ, ◌+◌, ◌-◌, ◌^◌, ◌<◌, List, ◌++◌, length, take, Result, Ok, Err}
use Rattle.std.specs.Prelude.{IfOk, IfErr}
use Rattle.std.specs.Fmt.{WritesInCalls}
use Rattle.std.specs.Io.KnownBytes.{Appends}
use Rattle.sf_value.specs.Devices.{SinkState, RefusesOnce, capped}
use Rattle.sf_write.specs.declared.sending.WriteFault.{WriteFault}

-- calls took these bytes, and none failed; a count of bytes rose from before to after
pub record SendsText (old new : SinkState) (before after : ℕ) (text : List ℕ) : Type 0 where
  pub taken : Appends old.taken new.taken text
  pub failures : new.failures ≡ old.failures
  pub count : after ≡ capped (before + length text)

-- calls took a prefix of the text, but not all of it, and then one failed
pub record SendsPrefix (old new : SinkState) (before after : ℕ) (text : List ℕ) : Type 0 where
  pub prefix : List ℕ
  pub suffix : List ℕ
  pub mid : SinkState
  pub split : text ≡ prefix ++ suffix
  pub short : 0 < length suffix
  pub sends : SendsText old mid before after prefix
  pub failed : RefusesOnce mid new

-- the text was written, or a prefix of it and then a call failed; a count of bytes rose from before
abbrev pub Writes : SinkState → SinkState → ℕ → Result ℕ WriteFault → List ℕ → Type 0
Writes old new before (Ok after) text = SendsText old new before after text
Writes old new before (Err fault) text = SendsPrefix old new before fault.written text

-- the text is put after earlier ones: it is written if none of these failed, and their count is
-- continued; after a fault nothing is written, and the fault is returned. If all was written, calls
-- of send took it
pub record Follows {S : Type 0} (state : S → SinkState) (gives : S → List ℕ → S → Type 0)
    (old new : S) (before after : Result ℕ WriteFault) (text : List ℕ) : Type 0 where
  pub goes_on : IfOk before (λ n. n < 2 ^ 64 → Writes (state old) (state new) n after text)
  pub stays : IfErr before (λ _. (state new ≡ state old) × (after ≡ before))
  pub calls : IfOk after (λ _. WritesInCalls gives old text new)

-- all of the text was written and no call failed; n is its length, or 2^64 - 1 if it is longer
pub record WritesAll (old new : SinkState) (n : ℕ) (text : List ℕ) : Type 0 where
  pub taken : Appends old.taken new.taken text
  pub failures : new.failures ≡ old.failures
  pub count : n ≡ capped (length text)

-- one call failed, and exactly the first written bytes of the text were written, fewer than it has;
-- if the count is saturated, nothing is claimed of which bytes were written
pub record WritesFirst (old new : SinkState) (written : ℕ) (text : List ℕ) : Type 0 where
  pub taken : written < 2 ^ 64 - 1 → Appends old.taken new.taken (take written text)
  pub short : written < length text
  pub failures : new.failures ≡ capped (old.failures + 1)

-- the result of writing a text from its beginning
abbrev pub WritesText : SinkState → SinkState → Result ℕ WriteFault → List ℕ → Type 0
WritesText old new (Ok n) text = WritesAll old new n text
WritesText old new (Err fault) text = WritesFirst old new fault.written text

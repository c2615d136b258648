-- What a run of the command reads, answers and writes.
use Rattle.std.specs.Prelude.{◌≡◌, ℕ, ◌+◌, ◌<◌, ◌≤◌, ◌⊎◌, Bool, false, List, ◌++◌}
use Rattle.std.specs.Prelude.{length, Option, None, Ok, Err, codes, ⊤}
use Rattle.sf_value.specs.declared.dialect.Dialect.{Dialect}
use Rattle.sf_value.specs.declared.dialect.Dialect.TheVariants.{Rfc9651}
use Rattle.sf_value.specs.declared.value.Field.{Field}
use Rattle.sf_value.specs.declared.value.Kind.{Kind}
use Rattle.sf_value.specs.declared.value.Kind.TheVariants as kind
use Rattle.sf_value.specs.Devices.{SourceState, SinkState, Gives, GivesAndEnds}
use Rattle.sf_value.specs.Devices.{GivesAndFails}
use Rattle.sf_value.specs.Grammar.Canonical.{canon}
use Rattle.sf_value.specs.Grammar.Lines.{join}
use Rattle.sf_write.specs.Writing.{SendsText, SendsPrefix}
use Rattle.sf_parse.specs.declared.refusal.Refusal.{Refusal}
use Rattle.sf_parse.specs.declared.refusal.Refusal.TheVariants.{OutOfMemory, Syntax, TooLong}
use Rattle.sf_parse.specs.declared.refusal.Refusal.TheVariants.{ReadFault}
use Rattle.sf_parse.specs.AllocationFree.{TakesNoMemory}
use Rattle.sf_parse.specs.Parsers.{IsOnly}
use Rattle.sf_value.specs.Grammar.Refusals.{IsSyntax}
use Rattle.sf_field.specs.Headers.{Headers}
use Rattle.sf_field.specs.declared.asking.AskFault.{AskFault}
use Rattle.sf_field.specs.declared.asking.AskFault.TheVariants as ask
use Rattle.sf_field.specs.declared.consumer.UseFault.TheVariants as use_fault
use Rattle.sf_use.specs.declared.cache_status.hop.Hop.{Hop}
use Rattle.sf_use.specs.CacheStatus.Hops.{hops}
use Rattle.sf_use.specs.declared.targeted.Choice.{Choice}
use Rattle.sf_use.specs.TargetedChoice.{IsChosen}
use Rattle.sf_use.specs.Priority.{params_of_field, priority_with_defaults}
use Rattle.sf_tool.specs.declared.answering.View.{View}
use Rattle.sf_tool.specs.declared.answering.View.TheVariants.{Tree, Verdict, Canonical}
use Rattle.sf_tool.specs.declared.fields.InputFault.{InputFault}
use Rattle.sf_tool.specs.declared.fields.InputFault.TheVariants as input_fault
use Rattle.sf_tool.specs.declared.request.Request.{Request}
use Rattle.sf_tool.specs.declared.request.Request.TheVariants.{Show, Check, Normalise}
use Rattle.sf_tool.specs.declared.request.Request.TheVariants.{CacheStatus, Targeted, Decide}
use Rattle.sf_tool.specs.declared.request.Request.TheVariants.{Priority}
use Rattle.sf_tool.specs.declared.status.Status.{Status}
use Rattle.sf_tool.specs.declared.status.Status.TheVariants.{Accepted, Refused, Usage, Stopped}
use Rattle.sf_tool.specs.Lines.{lines_of}
use Rattle.sf_tool.specs.Texts.{refusal_line, too_long_line}
use Rattle.sf_tool.specs.Tree.{tree}
use Rattle.sf_tool.specs.PathLines.{path_lines, not_a_cache_line}
use Rattle.sf_tool.specs.Fields.{AreFields, IsFirstRefused, MayAllocateAt}
use Rattle.sf_tool.specs.ChoiceLines.{choice_lines, refused_line}
use Rattle.sf_tool.specs.PriorityLine.{priority_line}
use Rattle.sf_tool.specs.Deciding.{IsDecisionText, with_cache_control}
use Rattle.sf_tool.specs.Explaining.{ExplainsWith, ExplainsBy, Explains, too_long_words}

-- the length in bytes of the longest input that is read
abbrev pub input_limit : ℕ
input_limit = 1048576

-- the field lines of an input, joined
abbrev pub joined : List ℕ → List ℕ
joined input = join (lines_of input)

-- the text t spells no value, and this line has the place of its refusal and what is expected there
pub record Refuses (d : Dialect) (kind : Kind) (t line : List ℕ) : Type 0 where
  pub place : ℕ
  pub found : Option ℕ
  pub expected : ℕ
  pub may_end : Bool
  pub syntax : IsSyntax d kind t place found expected may_end
  -- if the text ended there, that was not allowed
  pub unended : found ≡ None → may_end ≡ false
  pub line_is : line ≡ refusal_line place found expected may_end

-- what is printed for the one value that t spells; or the line of a refusal
abbrev pub Responds : Dialect → Kind → (Field → List ℕ) → List ℕ → List ℕ → Status → Type 0
Responds d kind print t text Accepted = (v : Field) × IsOnly d kind t v × (text ≡ print v)
Responds d kind print t text Refused = Refuses d kind t text
Responds d kind print t text Usage = ⊥
Responds d kind print t text Stopped = ⊥

-- what `check` prints for any value
abbrev pub accepted_line : Field → List ℕ
accepted_line v = codes "accepted\n"

-- what `normalise` prints: the canonical text, and a line feed
abbrev pub canonical_line : Field → List ℕ
canonical_line v = canon v ++ codes "\n"

-- what a command prints for a value
abbrev pub view_text : View → Field → List ℕ
view_text Tree v = tree v
view_text Verdict v = accepted_line v
view_text Canonical v = canonical_line v

-- the request for this view of the value
abbrev pub view_request : View → Dialect → Kind → Request
view_request Tree d kind = Show d kind
view_request Verdict d kind = Check d kind
view_request Canonical d kind = Normalise d kind

-- what `priority` prints: the parameters of the Dictionary, with the defaults filled in
abbrev pub priority_of : Field → List ℕ
priority_of v = priority_line (priority_with_defaults (params_of_field v))

-- the hops of the List that t spells, and which served; or the line of a refusal, or of a member
-- that names no cache
abbrev pub ReportsPath : List ℕ → List ℕ → Status → Type 0
ReportsPath t text Accepted =
    (v : Field) × IsOnly Rfc9651 kind.List t v
    × (path : List Hop) × (hops v ≡ Ok path) × (text ≡ path_lines path)
ReportsPath t text Refused =
    Refuses Rfc9651 kind.List t text
    ⊎ ((v : Field) × IsOnly Rfc9651 kind.List t v
    × (index : ℕ) × (hops v ≡ Err index) × (text ≡ not_a_cache_line index))
ReportsPath t text Usage = ⊥
ReportsPath t text Stopped = ⊥

-- the choice among the fields of these names that are in the input; or the line of a refusal for
-- the first line that is refused
abbrev pub ReportsChoice : List (List ℕ) → List ℕ → List ℕ → Status → Type 0
ReportsChoice names input text Accepted =
    (headers : Headers) × AreFields names input headers
    × (c : Choice) × IsChosen names headers c × (text ≡ choice_lines names c)
ReportsChoice names input text Refused =
    (number : ℕ) × IsFirstRefused names input number × (text ≡ refused_line number)
ReportsChoice names input text Usage = ⊥
ReportsChoice names input text Stopped = ⊥

-- what a cache decides by the fields of these names and Cache-Control that are in the input; or the
-- line of a refusal for the first line that is refused
abbrev pub ReportsDecision : List (List ℕ) → ℕ → List ℕ → List ℕ → Status → Type 0
ReportsDecision names age input text Accepted =
    (headers : Headers) × AreFields (with_cache_control names) input headers
    × IsDecisionText names age headers text
ReportsDecision names age input text Refused =
    (number : ℕ) × IsFirstRefused (with_cache_control names) input number
    × (text ≡ refused_line number)
ReportsDecision names age input text Usage = ⊥
ReportsDecision names age input text Stopped = ⊥

-- the text and the status for an input within the limit
abbrev pub Answers : Request → List ℕ → List ℕ → Status → Type 0
Answers (Show d kind) input text status = Responds d kind tree (joined input) text status
Answers (Check d kind) input text status = Responds d kind accepted_line (joined input) text status
Answers (Normalise d kind) input text status =
    Responds d kind canonical_line (joined input) text status
Answers CacheStatus input text status = ReportsPath (joined input) text status
Answers (Targeted names) input text status = ReportsChoice names.items input text status
Answers (Decide names age) input text status = ReportsDecision names.items age input text status
Answers Priority input text status = Responds Rfc9651 kind.Dict priority_of (joined input) text
    status

-- all of the text for an input was written, and this is its status
pub record WritesAnswer (request : Request) (input : List ℕ) (old new : SinkState) (status : Status)
    : Type 0 where
  pub text : List ℕ
  pub after : ℕ
  pub answers : Answers request input text status
  pub sends : SendsText old new 0 after text

-- a write failed, and before it a prefix of the text for an input was written
pub record WritesAnswerPrefix (request : Request) (input : List ℕ) (old new : SinkState) : Type 0 where
  pub text : List ℕ
  pub status : Status
  pub after : ℕ
  pub answers : Answers request input text status
  pub sends : SendsPrefix old new 0 after text

-- an answer to the request may allocate: for lines whose joined text is not allocation-free; for
-- the first listed fields of an input, before a line that is refused
abbrev pub MayAllocate : Request → List ℕ → Type 0
MayAllocate (Show d kind) input = ¬ (TakesNoMemory kind (joined input))
MayAllocate (Check d kind) input = ¬ (TakesNoMemory kind (joined input))
MayAllocate (Normalise d kind) input = ¬ (TakesNoMemory kind (joined input))
MayAllocate CacheStatus input = ⊤
MayAllocate (Targeted names) input = (n : ℕ) × MayAllocateAt names.items input n
MayAllocate (Decide names age) input = ⊤
MayAllocate Priority input = ⊤

-- this is the result for an input; or an allocation failed, for an answer that may allocate, and
-- the sink is unchanged: nothing was written, and no write failed; or a write failed
abbrev pub Reports : Request → List ℕ → SinkState → SinkState → Status → Type 0
Reports request input old new Accepted = WritesAnswer request input old new Accepted
Reports request input old new Refused = WritesAnswer request input old new Refused
Reports request input old new Usage = ⊥
Reports request input old new Stopped =
    (MayAllocate request input × (new ≡ old)) ⊎ WritesAnswerPrefix request input old new

-- this text was to be written, with a status if all of it was written; otherwise a write failed
-- after a prefix of it
abbrev pub ReportsText : List ℕ → Status → SinkState → SinkState → Status → Type 0
ReportsText text status old new Accepted =
    (Accepted ≡ status) × ((after : ℕ) × SendsText old new 0 after text)
ReportsText text status old new Refused =
    (Refused ≡ status) × ((after : ℕ) × SendsText old new 0 after text)
ReportsText text status old new Usage = ⊥
ReportsText text status old new Stopped = (after : ℕ) × SendsPrefix old new 0 after text

-- the input is all that the source gave up to its end, which was read once, within the limit
abbrev pub IsWhole : SourceState → SourceState → List ℕ → Type 0
IsWhole old new input = GivesAndEnds old new input × (length input ≤ input_limit)

-- the source gave one byte more than the limit, and no further one was read
abbrev pub IsTooLong : SourceState → SourceState → Type 0
IsTooLong old new = (bytes : List ℕ) × Gives old new bytes × (length bytes ≡ input_limit + 1)

-- bytes within the limit were read: an allocation for some of them failed, or a read failed and was
-- the last
pub record ReadsInPart (old new : SourceState) : Type 0 where
  pub bytes : List ℕ
  pub within : length bytes ≤ input_limit
  pub given : (Gives old new bytes × (0 < length bytes)) ⊎ GivesAndFails old new bytes

-- the whole input was read and then answered; or it was too long, which was reported, whatever
-- memory there was; or it was not all read, and nothing was written. If the error stream is a
-- terminal, a refusal is explained on it; otherwise nothing is written there
abbrev pub Runs : Request → Bool → SourceState → SourceState → SinkState → SinkState → SinkState
    → SinkState → Status → Type 0
Runs request is_terminal source source' sink sink' errors errors' status =
    ((input : List ℕ) × IsWhole source source' input × Reports request input sink sink' status
    × ExplainsWith is_terminal status (Explains request input) errors errors')
    ⊎ ((IsTooLong source source' × ReportsText (too_long_line input_limit) Refused sink sink' status
    × ExplainsBy is_terminal status (too_long_words input_limit) errors errors')
    ⊎ (ReadsInPart source source' × (sink' ≡ sink) × (errors' ≡ errors) × (status ≡ Stopped)))

-- a refusal was answered: its line was to be written, or an allocation failed
abbrev pub ReportsRefusal : Refusal → SinkState → SinkState → Status → Type 0
ReportsRefusal (Syntax place found expected may_end) old new result =
    ReportsText (refusal_line place found expected may_end) Refused old new result
ReportsRefusal OutOfMemory old new result = (result ≡ Stopped) × (new ≡ old)
ReportsRefusal (TooLong limit) old new result = ⊥
ReportsRefusal (ReadFault place) old new result = ⊥

-- a refusal for the text or as out of memory
abbrev pub IsOfText : Refusal → Type 0
IsOfText OutOfMemory = ⊤
IsOfText (Syntax place found expected may_end) = ⊤
IsOfText (TooLong limit) = ⊥
IsOfText (ReadFault place) = ⊥

-- a fault of a consumer that is printed: its refusal is for the text
abbrev pub IsAskOfText : AskFault → Type 0
IsAskOfText (ask.Field refusal) = IsOfText refusal
IsAskOfText (ask.Answer fault) = ⊤

-- a fault of a consumer was answered: the line of the refusal, or of the member that names no
-- cache, was to be written, or an allocation failed
abbrev pub ReportsAskFault : AskFault → SinkState → SinkState → Status → Type 0
ReportsAskFault (ask.Field refusal) old new result = ReportsRefusal refusal old new result
ReportsAskFault (ask.Answer (use_fault.NotACache index)) old new result =
    ReportsText (not_a_cache_line index) Refused old new result
ReportsAskFault (ask.Answer use_fault.OutOfMemory) old new result =
    (result ≡ Stopped) × (new ≡ old)

-- a refused line was answered: its number was to be written, or an allocation failed
abbrev pub ReportsInputFault : InputFault → SinkState → SinkState → Status → Type 0
ReportsInputFault (input_fault.Line number) old new result =
    ReportsText (refused_line number) Refused old new result
ReportsInputFault input_fault.OutOfMemory old new result = (result ≡ Stopped) × (new ≡ old)

-- What an input was answered (`Reports`), from the text that was to be written.
use Rattle.std.proofs.Common.{◌≡◌, ℕ, ◌*◌, ◌≤◌, ◌⊎◌, inl, inr, Bool, false, List}
use Rattle.std.proofs.Common.{length, Option, Some, None, Result, Err}
use Rattle.std.proofs.Common.{refl, sym, subst, arith}
use Rattle.sf_value.specs.declared.dialect.Dialect.{Dialect}
use Rattle.sf_value.specs.declared.dialect.Dialect.TheVariants.{Rfc9651}
use Rattle.sf_value.specs.declared.value.Field.{Field}
use Rattle.sf_value.specs.declared.value.Kind.{Kind}
use Rattle.sf_value.specs.Devices.{SinkState}
use Rattle.sf_value.specs.Grammar.Lines.{join}
use Rattle.sf_parse.specs.declared.refusal.Refusal.{Refusal}
use Rattle.sf_parse.specs.declared.refusal.Refusal.TheVariants.{OutOfMemory, Syntax, TooLong}
use Rattle.sf_parse.specs.declared.refusal.Refusal.TheVariants.{ReadFault}
use Rattle.sf_parse.specs.AllocationFree.{TakesNoMemory}
use Rattle.sf_parse.specs.AllocationFreeParsers.{NotForMemory}
use Rattle.sf_parse.specs.Parsers.{IsOnly}
use Rattle.sf_value.specs.Grammar.Refusals.{IsSyntax}
use Rattle.sf_write.specs.Writing.{SendsText}
use Rattle.sf_field.specs.Asking.{Asks, Means}
use Rattle.sf_field.specs.Lines.{ParsesLines}
use Rattle.sf_field.specs.declared.asking.AskFault.{AskFault}
use Rattle.sf_field.specs.declared.asking.AskFault.TheVariants as ask
use Rattle.sf_field.specs.declared.consumer.UseFault.TheVariants as use_fault
use Rattle.std.specs.declared.vec.Vec.{Vec}
use Rattle.std.specs.declared.alloc.Global.{Global}
use Rattle.sf_tool.specs.declared.answering.View.{View}
use Rattle.sf_tool.specs.declared.answering.View.TheVariants.{Tree}
use Rattle.sf_tool.specs.declared.fields.InputFault.{InputFault}
use Rattle.sf_tool.specs.declared.fields.InputFault.TheVariants as input_fault
use Rattle.sf_tool.specs.declared.request.Request.{Request}
use Rattle.sf_tool.specs.declared.request.Request.TheVariants.{Targeted, Decide}
use Rattle.sf_tool.specs.declared.status.Status.{Status}
use Rattle.sf_tool.specs.declared.status.Status.TheVariants.{Accepted, Refused, Usage, Stopped}
use Rattle.sf_tool.specs.Lines.{lines_of}
use Rattle.sf_tool.specs.Texts.{refusal_line}
use Rattle.sf_tool.specs.ChoiceLines.{refused_line}
use Rattle.sf_tool.specs.Deciding.{with_cache_control}
use Rattle.sf_tool.specs.Fields.{IsFaultOf}
use Rattle.sf_tool.specs.PathLines.{not_a_cache_line}
use Rattle.sf_tool.specs.Run.{joined, input_limit, view_request, view_text}
use Rattle.sf_tool.specs.Run.{MayAllocate, Refuses, Responds, Answers, Reports, ReportsText}
use Rattle.sf_tool.specs.Run.{ReportsRefusal, ReportsAskFault, ReportsInputFault, IsOfText}
use Rattle.sf_tool.specs.Run.{IsAskOfText}
use Rattle.sf_tool.specs.Scanning.{ReportsOnly}

-- the text of an input was to be written
pub reports_text : (request : Request) (input text : List ℕ) (status : Status) (old new : SinkState)
    (result : Status) → Answers request input text status → ReportsText text status old new result
    → Reports request input old new result
reports_text request input text status old new Accepted o t = record {
  text = text;
  after = t.1.0;
  answers = let P : Status → Type 0 = λ s. Answers request input text s in subst P (sym t.0) o;
  sends = t.1.1;
}
reports_text request input text status old new Refused o t = record {
  text = text;
  after = t.1.0;
  answers = let P : Status → Type 0 = λ s. Answers request input text s in subst P (sym t.0) o;
  sends = t.1.1;
}
reports_text request input text status old new Usage o t = absurd t
reports_text request input text status old new Stopped o t = inr (record {
  text = text;
  status = status;
  after = t.0;
  answers = o;
  sends = t.1;
})

-- all of a text went out
pub reports_all : (old new : SinkState) (n : ℕ) (text : List ℕ) (status : Status)
    → status ≡ Accepted ⊎ status ≡ Refused → SendsText old new 0 n text
    → ReportsText text status old new status
reports_all old new n text status (inl e) sends = rw e (refl, (n, sends))
reports_all old new n text status (inr e) sends = rw e (refl, (n, sends))

-- what a request answers where it tells this of a value
abbrev pub RespondsTo : Request → Dialect → Kind → (Field → List ℕ) → List ℕ → Type 0
RespondsTo request d kind print input =
    (text : List ℕ) (status : Status) → Responds d kind print (joined input) text status
    → Answers request input text status

-- what the line of a refusal tells
refuses : (d : Dialect) (kind : Kind) (lines : List (List ℕ)) (place : ℕ) (found : Option ℕ)
    (expected : ℕ) (may_end : Bool)
    → ParsesLines d kind lines (Err (Syntax place found expected may_end))
    → IsSyntax d kind (join lines) place found expected may_end × (found ≡ None → may_end ≡ false)
refuses d kind lines place None expected may_end p = (p.0.1, λ e. p.0.0)
refuses d kind lines place (Some b) expected may_end p = (p.0, λ e. cc)

stopped : (request : Request) (input : List ℕ) (old new : SinkState) (result : Status)
    → MayAllocate request input → result ≡ Stopped → new ≡ old
    → Reports request input old new result
stopped request input old new result takes e same =
    let P : Status → Type 0 = λ s. Reports request input old new s in
    subst P (sym e) (inl (takes, same))

-- the lines are refused, and the request answers that with the line of the refusal
pub reports_refused : (request : Request) (d : Dialect) (kind : Kind) (input : List ℕ) (e : Refusal)
    (old new : SinkState) (result : Status)
    → ((line : List ℕ) → Refuses d kind (joined input) line → Answers request input line Refused)
    → (e ≡ OutOfMemory → MayAllocate request input) → ParsesLines d kind (lines_of input) (Err e)
    → ReportsRefusal e old new result → Reports request input old new result
reports_refused request d kind input OutOfMemory old new result given takes p t =
    stopped request input old new result (takes refl) t.0 t.1
reports_refused request d kind input (Syntax place found expected may_end) old new result given
    takes p t =
    let known = refuses d kind (lines_of input) place found expected may_end p in
    let line = refusal_line place found expected may_end in
    reports_text request input line Refused old new result
    (given line (record {
      place = place;
      found = found;
      expected = expected;
      may_end = may_end;
      syntax = known.0;
      unended = known.1;
      line_is = refl;
    })) t
reports_refused request d kind input e old new result given takes p t = absurd t

-- a view of the value of the lines, or their refusal

responds : (view : View) (d : Dialect) (kind : Kind) (input : List ℕ)
    → RespondsTo (view_request view d kind) d kind (view_text view) input
responds Tree d kind input text status r = r
responds view d kind input text status r = r

-- a view of the only value of the joined lines was to be written
pub reports_only : (view : View) (d : Dialect) (kind : Kind) (input t : List ℕ) (old new : SinkState)
    (result : Status) → t ≡ joined input → ReportsOnly (view_text view) d kind t old new result
    → Reports (view_request view d kind) input old new result
reports_only view d kind input t old new result e (v, only, r) =
    reports_text (view_request view d kind) input (view_text view v) Accepted old new result
    (responds view d kind input (view_text view v) Accepted
    (v, subst (λ s. IsOnly d kind s v) e only, refl)) r

for-memory : (view : View) (d : Dialect) (kind : Kind) (input : List ℕ) (e : Refusal)
    → (TakesNoMemory kind (joined input) → NotForMemory (Err e)) → e ≡ OutOfMemory
    → MayAllocate (view_request view d kind) input
for-memory Tree d kind input OutOfMemory free is = free
for-memory view d kind input OutOfMemory free is = free
for-memory view d kind input e free is = absurd cc

pub reports_refusal : (view : View) (d : Dialect) (kind : Kind) (input : List ℕ) (e : Refusal)
    (old new : SinkState) (result : Status) → ParsesLines d kind (lines_of input) (Err e)
    → (TakesNoMemory kind (joined input) → NotForMemory (Err e))
    → ReportsRefusal e old new result → Reports (view_request view d kind) input old new result
reports_refusal view d kind input e old new result parses free =
    reports_refused (view_request view d kind) d kind input e old new result
    (λ line r. responds view d kind input line Refused r) (for-memory view d kind input e free)
    parses

-- lines of an input within the limit are never too long
pub is_of_text : (d : Dialect) (kind : Kind) (input : List ℕ) (lines : List (List ℕ))
    (e : Refusal) → length (join lines) ≤ 3 * length input → length input ≤ input_limit
    → ParsesLines d kind lines (Err e) → IsOfText e
is_of_text d kind input lines OutOfMemory small short p = tt
is_of_text d kind input lines (Syntax place found expected may_end) small short p = tt
is_of_text d kind input lines (TooLong limit) small short p =
    let at = p.0 in
    let over = p.1 in
    absurd (omega arith)
is_of_text d kind input lines (ReadFault place) small short p = absurd p.0

-- what is fed to a consumer is refused for its text alone
pub is_ask_of_text : {A : Type 0} (kind : Kind) (meaning : Field → Result A ℕ) (input : List ℕ)
    (e : AskFault) → length (join (lines_of input)) ≤ 3 * length input → length input ≤ input_limit
    → Asks kind meaning (lines_of input) (Err e) → IsAskOfText e
is_ask_of_text kind meaning input (ask.Field refusal) small short p =
    is_of_text Rfc9651 kind input (lines_of input) refusal small short p
is_ask_of_text kind meaning input (ask.Answer fault) small short p = tt

-- a line of the input is refused
pub reports_input_fault : (names : Vec (List ℕ) Global) (input : List ℕ) (fault : InputFault)
    (old new : SinkState) (result : Status)
    → IsFaultOf names.items input fault → ReportsInputFault fault old new result
    → Reports (Targeted names) input old new result
reports_input_fault names input (input_fault.Line number) old new result refused t =
    reports_text (Targeted names) input (refused_line number) Refused old new result
    (number, refused, refl) t
reports_input_fault names input input_fault.OutOfMemory old new result takes t =
    stopped (Targeted names) input old new result takes t.0 t.1

-- the same of a request that reads Cache-Control, too
pub reports_decided_fault : (names : Vec (List ℕ) Global) (age : ℕ) (input : List ℕ)
    (fault : InputFault) (old new : SinkState) (result : Status)
    → IsFaultOf (with_cache_control names.items) input fault
    → ReportsInputFault fault old new result → Reports (Decide names age) input old new result
reports_decided_fault names age input (input_fault.Line number) old new result refused t =
    reports_text (Decide names age) input (refused_line number) Refused old new result
    (number, refused, refl) t
reports_decided_fault names age input input_fault.OutOfMemory old new result takes t =
    stopped (Decide names age) input old new result tt t.0 t.1

-- a consumer has no answer
pub reports_ask_fault : {A : Type 0} (request : Request) (kind : Kind)
    (meaning : Field → Result A ℕ) (input : List ℕ) (fault : AskFault) (old new : SinkState)
    (result : Status)
    → MayAllocate request input
    → ((line : List ℕ) → Refuses Rfc9651 kind (joined input) line
    → Answers request input line Refused)
    → ((index : ℕ) → Means kind meaning (lines_of input) (Err index)
    → Answers request input (not_a_cache_line index) Refused)
    → Asks kind meaning (lines_of input) (Err fault) → ReportsAskFault fault old new result
    → Reports request input old new result
reports_ask_fault request kind meaning input (ask.Field refusal) old new result takes refused
    nameless asks t =
    reports_refused request Rfc9651 kind input refusal old new result refused (λ e. takes) asks t
reports_ask_fault request kind meaning input (ask.Answer (use_fault.NotACache index)) old new result
    takes refused nameless asks t =
    reports_text request input (not_a_cache_line index) Refused old new result
    (nameless index asks) t
reports_ask_fault request kind meaning input (ask.Answer use_fault.OutOfMemory) old new result takes
    refused nameless asks t =
    stopped request input old new result takes t.0 t.1

use Rattle.std.proofs.Common.{◌≡◌, ℕ, ◌+◌, ◌<◌, ◌≤◌, ◌^◌, List, [], ◌∷◌, map, ap, subst, ◌∙◌}
use Rattle.std.proofs.Common.{drop, get_or, length, take, arith}
use Rattle.std.proofs.Math.Seq.{take-length}
use Rattle.std.specs.Borrow.{Bor}
use Rattle.std.proofs.lemmas.List.{drop_more, get_or-map, length-map}
use Rattle.sf_field.specs.Headers.{Headers}
use Rattle.sf_tool.specs.declared.fields.LineFault.{LineFault}
use Rattle.sf_tool.specs.Fields.{NoneIsRefused, Targets, headers_of}
use Rattle.sf_tool.specs.OneLine.{IsLineFault, ExceedsCapacity}
use Rattle.sf_tool.proofs.MapCapacity.{IsListedMap-empty, IsListedMap-adds, many-names}
use Rattle.sf_tool.proofs.LineByLine.{ReadsOn, reads_on-start, reads_on-adds, reads_on-refused}
use Rattle.sf_tool.proofs.LineByLine.{reads_on-memory}
use Rattle.sf_tool.proofs.fields.read_field_lines.Goals as goal

abbrev text : Bor (List ℕ) → List ℕ
text line = line.now

abbrev empty : Bor (List ℕ)
empty = record { ref_ptr = (0, 0); now = [] }

-- the lines from the n-th on begin with it
reads-here : (targets : Targets) (lines : List (Bor (List ℕ))) (n : ℕ) (headers : Headers)
    → n < length lines → ReadsOn targets (map text lines) (drop n (map text lines)) n headers
    → ReadsOn targets (map text lines)
    (text (get_or lines n empty) ∷ drop (n + 1) (map text lines)) n headers
reads-here targets lines n headers lt reads =
    let size = length-map lines text in
    let split : drop n (map text lines)
    ≡ text (get_or lines n empty) ∷ drop (n + 1) (map text lines) =
    drop_more (map text lines) n [] (omega arith)
    ∙ ap (λ l. l ∷ drop (n + 1) (map text lines)) (get_or-map text lines n empty [] lt) in
    subst (λ ls. ReadsOn targets (map text lines) ls n headers) split reads

pub loop-number-init : goal.loop-number-init
loop-number-init c =
    rw c.with_hasher-headers.ensures (record {
      listed = IsListedMap-empty c.args.targets.now;
      reads = reads_on-start c.args.targets.now (map text c.args.lines.now);
    })

pub returns-in-Err-Refused : goal.returns-in-Err-Refused
returns-in-Err-Refused c =
    let targets = c.args.targets.now in
    let lines = c.args.lines.now in
    let n = c.loop-number.number in
    let headers = c.loop-number.headers in
    let line = text (get_or lines n empty) in
    let small : n + 1 < 2 ^ 64 = omega (arith, c.requires, c.loop-number-test.true) in
    let P : LineFault → Type 0 = λ fault. IsLineFault targets line headers fault in
    let refused = subst P c.in-Err-Refused.field-0-is c.in-Err-Refused.ensures in
    let many : ExceedsCapacity targets line headers → 24576 ≤ length targets =
    λ room. many-names targets headers n _ small c.loop-number.invariant.listed room.1 in
    reads_on-refused targets (map text lines) _ line n headers
    (reads-here targets lines n headers c.loop-number-test.true c.loop-number.invariant.reads)
    many refused

pub returns-in-Err-OutOfMemory : goal.returns-in-Err-OutOfMemory
returns-in-Err-OutOfMemory c =
    let targets = c.args.targets.now in
    let lines = c.args.lines.now in
    let n = c.loop-number.number in
    let headers = c.loop-number.headers in
    let line = text (get_or lines n empty) in
    let P : LineFault → Type 0 = λ fault. IsLineFault targets line headers fault in
    let taken = subst P c.in-Err-OutOfMemory.field-0-is c.in-Err-OutOfMemory.ensures in (
      n,
      reads_on-memory targets (map text lines) _ line n headers
          (reads-here targets lines n headers c.loop-number-test.true
          c.loop-number.invariant.reads) taken,
    )

pub loop-number-preserved : goal.loop-number-preserved
loop-number-preserved c =
    let targets = c.args.targets.now in
    let lines = c.args.lines.now in
    let n = c.loop-number.number in
    let headers = c.loop-number.headers in
    let line = text (get_or lines n empty) in
    let taken = c.in-Ok.ensures in
    record {
      listed = IsListedMap-adds targets line headers c.take_line.new.headers n
          c.loop-number.invariant.listed taken;
      reads = reads_on-adds targets (map text lines) _ line n headers c.take_line.new.headers
          (reads-here targets lines n headers c.loop-number-test.true
          c.loop-number.invariant.reads) taken;
    }

pub returns : goal.returns
returns c =
    let targets = c.args.targets.now in
    let all = map text c.args.lines.now in
    let size = length-map c.args.lines.now text in
    let reads = c.loop-number.invariant.reads in
    let end : c.loop-number.number ≡ length all = omega arith in (
      subst (NoneIsRefused targets all) end reads.taken,
      reads.held
          ∙ ap (λ k. headers_of targets (take k all)) end
          ∙ ap (headers_of targets) (take-length all),
    )

use Rattle.std.proofs.Common.{◌≡◌, ℕ, ◌+◌, ◌<◌, ◌≤◌, ◌^◌, List, ◌∷◌, map, ap, sym, subst, ◌∙◌}
use Rattle.std.proofs.Common.{length, arith}
use Rattle.std.specs.Str.Lines.{lines}
use Rattle.sf_tool.specs.declared.fields.LineFault.{LineFault}
use Rattle.sf_tool.specs.OneLine.{IsLineFault, ExceedsCapacity}
use Rattle.sf_tool.specs.Lines.{trim, lines_of}
use Rattle.sf_tool.proofs.MapCapacity.{IsListedMap-empty, IsListedMap-adds, many-names}
use Rattle.sf_tool.proofs.LineByLine.{ReadsOn, reads_on-start, reads_on-adds, reads_on-refused}
use Rattle.sf_tool.proofs.LineByLine.{reads_on-memory}
use Rattle.sf_tool.proofs.fields.read_fields.Goals as goal

-- the lines from the first on
cut : (input line more trimmed : List ℕ) → lines input ≡ line ∷ lines more → trimmed ≡ trim line
    → lines_of input ≡ trimmed ∷ lines_of more
cut input line more trimmed e t = ap (map trim) e ∙ ap (λ l. l ∷ lines_of more) (sym t)

pub loop-line-init : goal.loop-line-init
loop-line-init c =
    rw c.with_hasher-headers.ensures (record {
      number_fits = omega arith;
      listed = IsListedMap-empty c.args.targets.now;
      reads = reads_on-start c.args.targets.now (lines_of c.args.input.now);
    })

pub returns-in-Err-Refused : goal.returns-in-Err-Refused
returns-in-Err-Refused c =
    let e = cut c.loop-line.rest.now c.in-Some.line.now c.in-Some.more.now c.trimmed.result.now
    c.in-Some.ensures.lines c.trimmed.ensures in
    let targets = c.args.targets.now in
    let number = c.loop-line.number in
    let headers = c.loop-line.headers in
    let small : number + 1 < 2 ^ 64 =
    omega (arith, c.in-Some.ensures.shorter, c.loop-line.invariant.number_fits) in
    let P : LineFault → Type 0 = λ fault. IsLineFault targets c.trimmed.result.now headers fault in
    let refused = subst P c.in-Err-Refused.field-0-is c.in-Err-Refused.ensures in
    let reads =
    subst (λ ls. ReadsOn targets (lines_of c.args.input.now) ls number headers) e
    c.loop-line.invariant.reads in
    let many : ExceedsCapacity targets c.trimmed.result.now headers → 24576 ≤ length targets =
    λ room. many-names targets headers number _ small c.loop-line.invariant.listed room.1 in
    reads_on-refused targets (lines_of c.args.input.now) _ c.trimmed.result.now number headers reads
    many refused

pub returns-in-Err-OutOfMemory : goal.returns-in-Err-OutOfMemory
returns-in-Err-OutOfMemory c =
    let e = cut c.loop-line.rest.now c.in-Some.line.now c.in-Some.more.now c.trimmed.result.now
    c.in-Some.ensures.lines c.trimmed.ensures in
    let targets = c.args.targets.now in
    let number = c.loop-line.number in
    let headers = c.loop-line.headers in
    let P : LineFault → Type 0 = λ fault. IsLineFault targets c.trimmed.result.now headers fault in
    let taken = subst P c.in-Err-OutOfMemory.field-0-is c.in-Err-OutOfMemory.ensures in
    let reads =
    subst (λ ls. ReadsOn targets (lines_of c.args.input.now) ls number headers) e
    c.loop-line.invariant.reads in (
      number,
      reads_on-memory targets (lines_of c.args.input.now) _ c.trimmed.result.now number headers reads
          taken,
    )

pub loop-line-preserved : goal.loop-line-preserved
loop-line-preserved c =
    let e = cut c.loop-line.rest.now c.in-Some.line.now c.in-Some.more.now c.trimmed.result.now
    c.in-Some.ensures.lines c.trimmed.ensures in
    let taken = c.in-Ok.ensures in
    let targets = c.args.targets.now in
    let number = c.loop-line.number in
    let headers = c.loop-line.headers in
    let reads =
    subst (λ ls. ReadsOn targets (lines_of c.args.input.now) ls number headers) e
    c.loop-line.invariant.reads in
    record {
      number_fits = omega (
        arith,
        c.in-Some.ensures.shorter,
        c.loop-line.invariant.number_fits,
      );
      listed = IsListedMap-adds targets c.trimmed.result.now headers
          c.take_line.new.headers number c.loop-line.invariant.listed taken;
      reads = reads_on-adds targets (lines_of c.args.input.now) _ c.trimmed.result.now number
          headers c.take_line.new.headers reads taken;
    }

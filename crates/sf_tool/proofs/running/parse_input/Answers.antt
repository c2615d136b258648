use Rattle.std.proofs.Common.{◌≡◌, ◌*◌, ◌≤◌, length, arith, subst}
use Rattle.sf_value.specs.Grammar.Lines.{join}
use Rattle.sf_parse.specs.Parsers.{Parses}
use Rattle.sf_field.specs.Lines.{ParsesLines}
use Rattle.sf_tool.specs.Lines.{lines_of}
use Rattle.sf_tool.specs.Run.{joined, input_limit}
use Rattle.sf_tool.proofs.AcceptedLines.{counted}
use Rattle.sf_tool.proofs.InputLines.{of_text, length-joined}
use Rattle.sf_tool.proofs.running.parse_input.Goals as goal

pub returns-in-Some-parse_scanned-clause-parses : goal.returns-in-Some-parse_scanned-clause-parses
returns-in-Some-parse_scanned-clause-parses c =
    let input = c.args.input.now in
    let same : c.in-Some.text.now ≡ joined input = rw c.in-Some.is at c.requires.declined in
    let short : length (join (lines_of input)) ≤ 3 * input_limit =
    omega (arith, length-joined input, c.requires.short) in
    counted c.args.dialect c.args.kind (lines_of input) c.in-Some-parse_scanned.parsed short
    (subst (λ t. Parses c.args.dialect c.args.kind t c.in-Some-parse_scanned.parsed) same
    c.in-Some-parse_scanned.ensures.parses)

pub returns-in-Some-parse_scanned-clause-of_text : goal.returns-in-Some-parse_scanned-clause-of_text
returns-in-Some-parse_scanned-clause-of_text c =
    of_text c.args.dialect c.args.kind c.args.input.now c.in-Some-parse_scanned.parsed
    c.requires.short (returns-in-Some-parse_scanned-clause-parses c)

pub returns-clause-of_text : goal.returns-clause-of_text
returns-clause-of_text c =
    of_text c.args.dialect c.args.kind c.args.input.now c.parse_from.result c.requires.short
    (subst (λ ls. ParsesLines c.args.dialect c.args.kind ls c.parse_from.result) c.new.ensures
    c.parse_from.ensures.parses)

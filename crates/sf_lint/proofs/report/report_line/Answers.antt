use Rattle.std.proofs.Common.{◌≡◌, ℕ, ◌+◌, List, [], IfOk, map, get_or, codes, ap, sym, ◌∙◌, subst}
use Rattle.std.specs.Borrow.{Bor}
use Rattle.std.proofs.lemmas.List.{get_or-map}
use Rattle.sf_lint.specs.Head.{line_of, start_end}
use Rattle.sf_tool.specs.Marks.{name_end}
use Rattle.sf_lint.specs.Report.{ReportsBadLine, ReportsLine}
use Rattle.sf_lint.specs.declared.head.Line.{Line}
use Rattle.sf_lint.specs.declared.head.Line.TheVariants.{BadStart, Nameless}
use Rattle.sf_lint.proofs.report.report_line.Goals as goal

abbrev text : Bor (List ℕ) → List ℕ
text line = line.now

abbrev empty : Bor (List ℕ)
empty = record { ref_ptr = (0, 0); now = [] }

-- what holds of a line and a place of it also holds of both as they are given otherwise
given_as : (R : List ℕ → ℕ → Type 0) (place : List ℕ → ℕ) (there here : List ℕ) (k : ℕ)
    → there ≡ here → k ≡ place here → R here k → R there (place there)
given_as R place there here k same is r =
    subst (λ line. R line (place line)) (sym same) (subst (R here) is r)

pub returns-in-BadStart-clause-reported : goal.returns-in-BadStart-clause-reported
returns-in-BadStart-clause-reported c =
    let s = c.args.settings.now in
    let n = c.args.n in
    let xs = map text c.args.lines.now in
    let reported = c.report_bad_line-in-BadStart.result in
    let at = get_or-map text c.args.lines.now n empty [] c.requires.0 in
    let is : line_of (get_or xs n []) ≡ BadStart =
    ap line_of at ∙ sym c.in_ok-read_line.ensures ∙ c.in-BadStart.is in
    let P : Line → Type 0 = λ line. IfOk reported
    (λ t. ReportsLine s xs n line t.text.items t.refused t.others) in
    let R : List ℕ → ℕ → Type 0 = λ line place. IfOk reported
    (λ t. ReportsBadLine s (n + 1) (codes "a CR or NUL in a start line") place line t.text.items
    t.refused t.others) in
    subst P (sym is)
    (given_as R start_end _ _ _ at c.start_end.ensures c.report_bad_line-in-BadStart.ensures)

pub returns-in-Nameless-clause-reported : goal.returns-in-Nameless-clause-reported
returns-in-Nameless-clause-reported c =
    let s = c.args.settings.now in
    let n = c.args.n in
    let xs = map text c.args.lines.now in
    let reported = c.report_bad_line-in-Nameless.result in
    let at = get_or-map text c.args.lines.now n empty [] c.requires.0 in
    let is : line_of (get_or xs n []) ≡ Nameless =
    ap line_of at ∙ sym c.in_ok-read_line.ensures ∙ c.in-Nameless.is in
    let P : Line → Type 0 = λ line. IfOk reported
    (λ t. ReportsLine s xs n line t.text.items t.refused t.others) in
    let R : List ℕ → ℕ → Type 0 = λ line place. IfOk reported
    (λ t. ReportsBadLine s (n + 1) (codes "not a field line") place line t.text.items t.refused
    t.others) in
    subst P (sym is)
    (given_as R name_end _ _ _ at c.name_end.ensures c.report_bad_line-in-Nameless.ensures)

use Rattle.std.proofs.Common.{◌≡◌, ℕ, ◌++◌, List, map, length, ap, sym, subst, ◌∙◌}
use Rattle.std.specs.Borrow.{Bor}
use Rattle.std.specs.Str.Lines.{lines}
use Rattle.std.proofs.lemmas.List.{length-map}
use Rattle.sf_lint.specs.Heads.{ReportsLinesWith}
use Rattle.sf_lint.specs.Report.{shown}
use Rattle.sf_lint.proofs.WithDecisions.{reports-all}
use Rattle.sf_lint.proofs.report.report.Goals as goal

abbrev text : Bor (List ℕ) → List ℕ
text line = line.now

pub returns : goal.returns
returns c =
    let s = c.args.settings.now in
    let reported = c.in_ok-reported.reported in
    let all : map text c.as_slice.result.now ≡ lines c.args.input.now =
    ap (map text) c.as_slice.ensures.value ∙ c.in_ok-lines.ensures in
    let size : length c.as_slice.result.now ≡ length (lines c.args.input.now) =
    sym (length-map c.as_slice.result.now text) ∙ ap length all in
    let caches = c.args.caches.now in
    let P : ℕ → Type 0 = λ n. ReportsLinesWith caches s (map text c.as_slice.result.now) n
    reported.text.items reported.refused reported.others in
    let Q : List (List ℕ) → Type 0 = λ ls. ReportsLinesWith caches s ls
    (length (lines c.args.input.now)) reported.text.items reported.refused reported.others in
    let reports = subst Q all (subst P size c.in_ok-reported.ensures) in
    let line = c.as_slice-2.ensures.value ∙ c.shown-line.ensures
    ∙ ap (shown s) c.in_ok-others_line.ensures in
    reports-all caches s c.args.input.now reported.text.items _ reported.refused reported.others
    reports
    (c.in_ok-extend_from_slice.ensures.items ∙ ap (λ (l : List ℕ). reported.text.items ++ l) line)

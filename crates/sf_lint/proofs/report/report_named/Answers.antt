use Rattle.std.proofs.Common.{◌≡◌, ℕ, ◌+◌, ◌-◌, List, Some, map, length, take, drop, sym, subst, ap}
use Rattle.std.proofs.Common.{◌∙◌, inl, inr, arith}
use Rattle.std.specs.Borrow.{Bor}
use Rattle.std.specs.List.{before_first}
use Rattle.std.proofs.lemmas.Bool.{false≢true}
use Rattle.std.proofs.lemmas.Grind.{common_steps}
use Rattle.std.proofs.lemmas.List.{drop-map}
use Rattle.std.proofs.lemmas.Result.{IfOk-weaker}
use Rattle.sf_lint.specs.Head.{IsRepeated, is_start, message_from}
use Rattle.sf_lint.specs.Report.{ReportsField}
use Rattle.sf_lint.specs.Settings.{type_of}
use Rattle.sf_lint.proofs.report.report_named.Goals as goal

abbrev text : Bor (List ℕ) → List ℕ
text line = line.now

pub returns-then-is_repeated-clause-reported : goal.returns-then-is_repeated-clause-reported
returns-then-is_repeated-clause-reported c =
    let type : type_of c.args.settings.now c.args.name.now ≡ Some c.in-Some.field_type =
    sym c.type_of.ensures ∙ c.in-Some.is in
    let P : List ℕ → Type 0 = λ name. IsRepeated name (map text c.args.lines.now) c.args.n in
    let repeated = subst P c.as_bytes.ensures.value
    (c.is_repeated.ensures.0 c.if-is_repeated.true) in
    rw type (inl (repeated, c.nothing.ensures))

pub returns-clause-reported : goal.returns-clause-reported
returns-clause-reported c =
    let type : type_of c.args.settings.now c.args.name.now ≡ Some c.in-Some.field_type =
    sym c.type_of.ensures ∙ c.in-Some.is in
    let lines = c.args.lines.now in
    let n = c.args.n in
    let P : List ℕ → Type 0 = λ name. IsRepeated name (map text lines) n in
    let unrepeated : ¬ (IsRepeated c.args.name.now (map text lines) n) =
    λ r. false≢true (sym c.if-is_repeated.false
    ∙ c.is_repeated.ensures.1 (subst P (sym c.as_bytes.ensures.value) r)) in
    let rest : take (length lines - n) (drop n lines) ≡ drop n lines =
    grind (arith, common_steps) in
    let message : map text c.message_in-message.result.now ≡ message_from (map text lines) n =
    c.message_in-message.ensures
    ∙ ap (before_first is_start) (ap (map text) rest ∙ sym (drop-map text n lines)) in
    rw type
    (IfOk-weaker c.report_field.result _ _
    (λ reported h.
    let Q : List ℕ → Type 0 = λ name. ReportsField c.args.settings.now c.in-Some.field_type name
    (n + 1) (map text c.message_in-message.result.now) reported.text.items reported.refused
    reported.others in
    let R : List (List ℕ) → Type 0 = λ message. ReportsField c.args.settings.now
    c.in-Some.field_type c.args.name.now (n + 1) message reported.text.items reported.refused
    reported.others in
    inr (unrepeated, subst R message (subst Q c.as_str.ensures.value h)))
    c.report_field.ensures.reported)

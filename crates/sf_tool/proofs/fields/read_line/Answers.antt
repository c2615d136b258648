use Rattle.std.proofs.Common.{◌≡◌, List, ℕ, true, false, rules, subst, ◌∙◌, ap}
use Rattle.std.specs.Prelude.{Result, Ok, Err, IsErr, MatchResult}
use Rattle.http_header.specs.FieldValue.{IsFieldValue, plain_value}
use Rattle.http_header.specs.Token.{lowercase}
use Rattle.sf_tool.specs.Lines.{trim}
use Rattle.sf_tool.specs.Fields.{is_header_name, is_listed, name_of, value_of, word_of, IsTaken}
use Rattle.sf_tool.specs.OneLine.{IsLine}
use Rattle.sf_tool.proofs.Names.{refused-without_colon, refused-without_name, dropped-unlisted}
use Rattle.sf_tool.proofs.Names.{taken-listed, refused-value}
use Rattle.sf_tool.proofs.fields.read_line.Goals.{After-trimmed}
use Rattle.sf_tool.proofs.fields.read_line.Goals as goal

failed : {X Y : Type 0} (r : Result X Y) (P : X → Type 0) (Q : Type 0) → IsErr r → Q
    → MatchResult r P (λ _. Q)
failed (Ok x) P Q e q = absurd cc
failed (Err y) P Q e q = q

passed : (c : After-trimmed) → c.trimmed.result.now ≡ value_of c.args.line.now
passed c = c.trimmed.ensures ∙ ap trim c.in-Some.ensures.2

word : (c : After-trimmed) → is_header_name (word_of c.args.line.now) ≡ true
word c = rw c.in-Some.ensures.1 at c.in-Some-header_name.ensures.0

listed : (c : After-trimmed) → is_listed c.args.targets.now (name_of c.args.line.now) ≡ true
listed c =
    let Q : List ℕ → Type 0 = λ word. is_listed c.args.targets.now (lowercase word) ≡ true in
    subst Q c.in-Some.ensures.1 (search rules)

-- the line of a value that a field can have
taken : (c : After-trimmed) → ¬ (¬ (IsFieldValue c.trimmed.result.now))
    → IsTaken c.args.targets.now c.args.line.now
taken c value =
    let R : List ℕ → Type 0 = λ value. ¬ (¬ (IsFieldValue value)) in
    taken-listed c.args.targets.now c.args.line.now c.in-Some.ensures.0 (word c) (listed c)
    (subst R (passed c) value)

pub returns-in_default : goal.returns-in_default
returns-in_default c =
    refused-without_colon c.args.targets.now c.args.line.now (search rules) c.in_default.ensures

pub returns-in_default-header_name : goal.returns-in_default-header_name
returns-in_default-header_name c =
    let P : List ℕ → Type 0 = λ word. is_header_name word ≡ false in
    refused-without_name c.args.targets.now c.args.line.now c.in-Some.ensures.0
    (subst P c.in-Some.ensures.1 c.in_default-header_name.ensures)

pub returns-then-not-is_listed : goal.returns-then-not-is_listed
returns-then-not-is_listed c =
    let P : List ℕ → Type 0 = λ word. is_header_name word ≡ true in
    let Q : List ℕ → Type 0 = λ word. is_listed c.args.targets.now (lowercase word) ≡ false in
    let word = c.in-Some.ensures.1 in
    dropped-unlisted c.args.targets.now c.args.line.now c.in-Some.ensures.0
    (subst P word c.in-Some-header_name.ensures.0) (subst Q word (search rules))

pub returns-in_err-name-in-Ok : goal.returns-in_err-name-in-Ok
returns-in_err-name-in-Ok c =
    failed c.from_residual.result (IsLine c.args.targets.now c.args.line.now) _
    c.from_residual.ensures.0
    (taken (goal.at.returns-in_err-name-in-Ok c).After-trimmed
    (λ bad. let e = c.in-Ok.ensures.invalid.1 bad in cc))

pub returns-in-Ok : goal.returns-in-Ok
returns-in-Ok c =
    let at = (goal.at.returns-in-Ok c).After-trimmed in
    let named = rw c.in_ok-name-in-Ok.was at c.in-Some-header_name.ensures.1 in (
      taken at (λ bad. let e = c.in-Ok.ensures.invalid.1 bad in cc),
      named ∙ ap lowercase c.in-Some.ensures.1,
      c.in-Ok.ensures.ok ∙ ap plain_value (passed at),
    )

pub returns-in-Err-Invalid : goal.returns-in-Err-Invalid
returns-in-Err-Invalid c =
    let at = (goal.at.returns-in-Err-Invalid c).After-trimmed in
    let R : List ℕ → Type 0 = λ value. ¬ (IsFieldValue value) in
    refused-value c.args.targets.now c.args.line.now c.in-Some.ensures.0 (word at) (listed at)
    (subst R (passed at) (c.in-Err-Invalid.ensures.invalid.0 (search rules)))

pub returns : goal.returns
returns c =
    taken (goal.at.returns c).After-trimmed
    (λ bad. let e = c.in-Err-OutOfMemory.ensures.invalid.1 bad in cc)

use Rattle.std.proofs.Common.{◌≡◌, ℕ, ◌+◌, Bool, true, List, IfOk, sym, subst, ◌∙◌, map}
use Rattle.std.specs.Borrow.{Bor}
use Rattle.sf_lint.specs.Heads.{DecidesHead, DecidesIf, ends_head, lines_between}
use Rattle.sf_lint.proofs.HeadBounds.{between-map}
use Rattle.sf_lint.proofs.heads.decisions_after.Goals as goal

abbrev text : Bor (List ℕ) → List ℕ
text line = line.now

pub returns : goal.returns
returns c =
    let caches = c.args.caches.now in
    let xs = map text c.args.lines.now in
    let n = c.args.n in
    let begin = c.head_begin-begin.result in
    let ends : ends_head xs n ≡ true = sym c.ends_head.ensures ∙ c.if-not-ends_head.false in
    let P : List (List ℕ) → Type 0 = λ head. IfOk c.head_decisions.result
    (λ t. DecidesHead caches begin head t.items) in
    let Q : ℕ → Type 0 = λ begin. IfOk c.head_decisions.result
    (λ t. DecidesHead caches begin (lines_between begin (n + 1) xs) t.items) in
    let R : Bool → Type 0 = λ b. IfOk c.head_decisions.result
    (λ t. DecidesIf caches xs n b t.items) in
    subst R (sym ends)
    (subst Q c.head_begin-begin.ensures.value
    (subst P (between-map c.args.lines.now begin (n + 1)) c.head_decisions.ensures))

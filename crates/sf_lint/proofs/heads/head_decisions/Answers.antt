use Rattle.std.proofs.Common.{◌≡◌, ℕ, ◌+◌, true, List, None, IfOk, sym, subst, ◌∙◌, map}
use Rattle.std.specs.Borrow.{Bor}
use Rattle.std.proofs.lemmas.Result.{IfOk-weaker}
use Rattle.sf_lint.specs.Deciding.{IsHeadText}
use Rattle.sf_lint.specs.Heads.{DecidesHead, has_text}
use Rattle.sf_lint.proofs.HeadBounds.{decides-lines}
use Rattle.sf_lint.proofs.heads.head_decisions.Goals as goal

abbrev text : Bor (List ℕ) → List ℕ
text line = line.now

pub returns : goal.returns
returns c =
    let caches = c.args.caches.now in
    let begin = c.args.begin in
    let split = c.in-Some.ensures.cases.0 in
    let status = sym c.is_status_line.ensures ∙ c.if-is_status_line.false in
    let start = sym c.is_start.ensures ∙ c.if-is_start.false in
    let some = subst (λ (head : List (Bor (List ℕ))). has_text (map text head) ≡ true) split
    (sym c.has_text.ensures ∙ c.if-not-has_text.false) in
    subst (λ (head : List (Bor (List ℕ))). IfOk c.head_text-2.result
    (λ t. DecidesHead caches begin (map text head) t.items)) (sym split)
    (IfOk-weaker c.head_text-2.result _ _
    (λ t h. decides-lines caches begin c.in-Some.first.now.now (map text c.in-Some.rest.now) t.items
    status start some
    (subst (λ (head : List (Bor (List ℕ))). IsHeadText caches None (begin + 1) (map text head)
    t.items) split h))
    c.head_text-2.ensures)

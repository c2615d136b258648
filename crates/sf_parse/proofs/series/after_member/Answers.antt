use Rattle.std.proofs.Common.{ap, ◌∙◌, ◌∷◌, ◌++◌, inl, inr}
use Rattle.sf_parse.proofs.series.after_member.Goals as goal

pub returns-then-not-ends : goal.returns-then-not-ends
returns-then-not-ends c = (
  c.few_prefix.result.0.now,
  c.few_prefix.ensures.whole,
  c.few_prefix.ensures.every,
  inl (c.ends.ensures.some c.if-not-ends.true),
)

pub returns-in_default : goal.returns-in_default
returns-in_default c = (
  c.few_prefix.result.0.now,
  c.few_prefix.ensures.whole,
  c.few_prefix.ensures.every,
  inr (c.ends-else-not-is_whole.ensures.all c.if-not-ends-2.false, c.if-not-is_whole.false),
)

pub returns : goal.returns
returns c = (
  c.few_prefix.result.0.now,
  c.few_prefix-2.result.0.now,
  c.few_prefix.ensures.whole
      ∙ ap (λ y. c.few_prefix.result.0.now ++ y)
      (c.in-Some.ensures ∙ ap (λ y. 44 ∷ y) c.few_prefix-2.ensures.whole),
  c.few_prefix.ensures.every,
  c.few_prefix-2.ensures.every,
)

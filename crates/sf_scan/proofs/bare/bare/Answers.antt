use Rattle.std.proofs.Common.{refl, ap, sym, ◌∙◌, ◌∷◌, ◌++◌, []}
use Rattle.sf_value.specs.Ascii.{quote, question_mark}
use Rattle.sf_value.specs.Grammar.BareItems.{SpellsBare}
use Rattle.sf_scan.specs.declared.leaf.Leaf.TheVariants as leaf
use Rattle.sf_scan.proofs.Bares.{bare_refused, past_refused, past_leaf, no_byte, no_start}
use Rattle.sf_scan.proofs.CodedStarts.{no_coded_start}
use Rattle.sf_scan.proofs.Numbers.{minus_scans, digit_scans, no_number_start}
use Rattle.sf_scan.proofs.Taken.{text_taken, token_taken, token_fits, leaf_taken}
use Rattle.sf_scan.proofs.bare.bare.Goals as goal

pub returns-in_default : goal.returns-in_default
returns-in_default g c =
    let d = c.args.dialect in bare_refused d _ (no_byte d _ c.in_default.ensures) refl

pub returns-in-Some-strip_byte : goal.returns-in-Some-strip_byte
returns-in-Some-strip_byte g c =
    let r = c.long_prefix.ensures in
    text_taken (g.T.Take.makes c.args.take) _ _ _ (leaf.Text c.long_prefix.result.0) _ _ r.every
    (c.in-Some.ensures ∙ ap (λ x. x ∷ c.in-Some.more.now) c.if-first-eq34.true
    ∙ ap (λ t. quote ∷ t) (r.whole ∙ ap (λ t. c.long_prefix.result.0.now ++ t) c.in-Some-strip_byte.ensures))
    refl refl c.text.ensures

pub returns-then-is_ascii_digit : goal.returns-then-is_ascii_digit
returns-then-is_ascii_digit g c =
    c.numbered.ensures _ _
    (digit_scans c.args.dialect _ _ _ _ c.in-Some.ensures (sym c.if-is_ascii_digit.ensures.value)
    (c.number.ensures c.args.dialect))

pub returns-then-first-eq45 : goal.returns-then-first-eq45
returns-then-first-eq45 g c =
    c.numbered-then-first-eq45.ensures _ _
    (minus_scans c.args.dialect _ _ _
    (c.in-Some.ensures ∙ ap (λ x. x ∷ c.in-Some.more.now) c.if-first-eq45.true)
    (c.number-then-first-eq45.ensures c.args.dialect))

pub returns-in-Ok : goal.returns-in-Ok
returns-in-Ok g c =
    let d = c.args.dialect in
    record {
      leaf = leaf.Boolean c.in-Ok.value;
      read = past_leaf d (SpellsBare d) (question_mark ∷ []) _ _ _ _
          (c.in-Some.ensures ∙ ap (λ x. x ∷ c.in-Some.more.now) c.if-first-eq63.true)
          (c.in-Ok.ensures d);
      made_of = c.boolean-in-Ok.ensures _;
    }

pub returns-in-Err : goal.returns-in-Err
returns-in-Err g c =
    let d = c.args.dialect in
    past_refused d (SpellsBare d) (question_mark ∷ []) _ _ _
    (c.in-Some.ensures ∙ ap (λ x. x ∷ c.in-Some.more.now) c.if-first-eq63.true) (c.in-Err.ensures d)

pub token-requires-then-can_start_token : goal.token-requires-then-can_start_token
token-requires-then-can_start_token g c κs = (
  (refl, tt),
  (
    c.token.result.0.left.now,
    token_fits _ (g.T.Take.fits c.args.take) _ _ _ c.token.result.0
        (c.token.ensures c.args.dialect) refl c.requires,
  ),
)

pub returns-then-can_start_token : goal.returns-then-can_start_token
returns-then-can_start_token g c =
    token_taken (g.T.Take.makes c.args.take) _ _ _ (leaf.Token c.token.result.1) _ _
    (c.token.ensures c.args.dialect) refl c.token-then-can_start_token.ensures

pub returns-then-not-can_start_date : goal.returns-then-not-can_start_date
returns-then-not-can_start_date g c =
    let d = c.args.dialect in
    bare_refused d _ (no_start d _ _ _ c.in-Some.ensures c.if-first-eq34.false c.if-first-eq63.false
    (sym c.can_start_token.ensures ∙ c.if-can_start_token.false)
    (no_number_start d _ (sym c.is_ascii_digit.ensures.value ∙ c.if-is_ascii_digit.false)
    c.if-first-eq45.false (sym c.can_start_date.ensures ∙ c.if-not-can_start_date.true))
    (no_coded_start d _ c.if-first-ne58.true c.if-first-ne37.true)) refl

pub returns-in-Ok-other : goal.returns-in-Ok-other
returns-in-Ok-other g c =
    leaf_taken (g.T.Take.makes c.args.take) _ _ _ c.in-Ok-other.leaf _ _ c.in-Ok-other.ensures
    c.split_at.ensures.front c.leaf.ensures

use Rattle.std.proofs.Common.{sym, subst}
use Rattle.sf_value.specs.Grammar.DisplayStrings.{EncodedBytes}
use Rattle.sf_write.proofs.Following.{then}
use Rattle.sf_view.proofs.Writes.{no_first, same_rest}
use Rattle.sf_view.proofs.writing.put_shown_text.Goals as goal

pub returns-in_default : goal.returns-in_default
returns-in_default g c = λ t (suffix, e, s, w). absurd (no_first _ _ _ c.in_default.ensures.none e)

pub returns-in_default-first_of : goal.returns-in_default-first_of
returns-in_default-first_of g c = λ t (suffix, e, s, w).
    let quoted = same_rest _ _ _ _ _ c.in-Some.ensures.some e in
    absurd (no_first _ _ _ c.in_default-first_of.ensures.none quoted)

pub returns : goal.returns
returns g c = λ t (suffix, e, s, w).
    let quoted = same_rest _ _ _ _ _ c.in-Some.ensures.some e in
    let same = same_rest _ _ _ _ _ c.in-Some-first_of.ensures.some quoted in
    then c.put-sent.ensures
    (c.put_encoded.ensures t (subst (λ y. EncodedBytes y t) (sym same) s))

use Rattle.std.proofs.Common.{sym, subst}
use Rattle.sf_value.specs.Grammar.ByteSequences.{Sextets}
use Rattle.sf_write.proofs.Following.{then}
use Rattle.sf_view.proofs.Writes.{no_first, same_rest}
use Rattle.sf_view.proofs.writing.put_base64_text.Goals as goal

pub returns-in_default : goal.returns-in_default
returns-in_default g c = λ t (suffix, e, s). absurd (no_first _ _ _ c.in_default.ensures.none e)

pub returns : goal.returns
returns g c = λ t (suffix, e, s).
    let same = same_rest _ _ _ _ _ c.in-Some.ensures.some e in
    then c.put-sent.ensures (c.put_groups.ensures t (subst (λ y. Sextets y t) (sym same) s))

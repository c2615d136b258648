use Rattle.std.proofs.Common.{ap, refl}
use Rattle.sf_value.specs.declared.dialect.Dialect.TheVariants.{Rfc9651}
use Rattle.sf_value.specs.Grammar.Canonical.{canon_params}
use Rattle.sf_value.specs.Grammar.Valid.{ValidBare}
use Rattle.sf_write.proofs.Following.{then, remains_less, remains_none}
use Rattle.sf_write.proofs.ValidParts.{awaits_less, awaits_none, entries_valid}
use Rattle.sf_write.proofs.params.put_each_param.Goals as goal

pub loop-key-preserved : goal.loop-key-preserved
loop-key-preserved g c =
    let key = remains_less c.loop-key.invariant.text (ap canon_params c.in-Some.ensures.steps)
    (then c.put-sent.ensures c.put-sent-in-loop-key.ensures) in
    record {
      text = remains_less key refl c.put_value-sent.ensures.text;
      valid = awaits_less c.loop-key.invariant.valid c.in-Some.ensures.steps
          c.put_value-sent.ensures.valid;
    }

pub returns-clause-text : goal.returns-clause-text
returns-clause-text g c =
    remains_none c.loop-key.invariant.text (ap canon_params c.in-None.ensures.steps.0)

pub returns-clause-valid : goal.returns-clause-valid
returns-clause-valid g c =
    entries_valid (ValidBare Rfc9651) _ c.len.ensures.entries
    (awaits_none c.loop-key.invariant.valid c.in-None.ensures.steps.0)

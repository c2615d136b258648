use Rattle.std.proofs.Common.{◌≡◌, ◌∷◌, ap}
use Rattle.sf_value.specs.declared.dialect.Dialect.TheVariants.{Rfc9651}
use Rattle.sf_value.specs.Grammar.Canonical.{canon_entry, canon_commas, canon_series}
use Rattle.sf_value.specs.Grammar.Valid.{ValidMember}
use Rattle.sf_write.proofs.Following.{then, remains_all, remains_less, remains_none}
use Rattle.sf_write.proofs.ValidParts.{awaits_all, awaits_less, awaits_none, entries_valid}
use Rattle.sf_write.proofs.dicts.put_entries.Goals as goal

pub loop-key-init : goal.loop-key-init
loop-key-init g c =
    let entries : c.args.entries.now
    ≡ (c.in-Some.key.now, c.in-Some.member.now) ∷ c.into_iter-key-iterator.result =
    cc (
      c.iter-others.ensures.rest,
      c.in-Some.ensures.steps,
      c.into_iter-key-iterator.ensures.into_iter_gives,
    ) in
    record {
      text = remains_less remains_all (ap (canon_series canon_entry) entries)
          c.put_entry-sent.ensures.text;
      valid = awaits_less awaits_all entries c.put_entry-sent.ensures.valid;
    }

pub loop-key-preserved : goal.loop-key-preserved
loop-key-preserved g c =
    let entry = c.put_entry-sent-in-loop-key.ensures in
    record {
      text = remains_less c.loop-key.invariant.text
          (ap (canon_commas canon_entry) c.in-Some-2.ensures.steps)
          (then c.put-sent.ensures entry.text);
      valid = awaits_less c.loop-key.invariant.valid c.in-Some-2.ensures.steps entry.valid;
    }

pub returns-clause-text : goal.returns-clause-text
returns-clause-text g c =
    remains_none c.loop-key.invariant.text
    (ap (canon_commas canon_entry) c.in-None.ensures.steps.0)

pub returns-clause-valid : goal.returns-clause-valid
returns-clause-valid g c =
    entries_valid (ValidMember Rfc9651) _ c.len.ensures.entries
    (awaits_none c.loop-key.invariant.valid c.in-None.ensures.steps.0)

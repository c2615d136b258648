use Rattle.std.proofs.Common.{refl, [], ap, ◌∙◌}
use Rattle.sf_value.specs.declared.value.Bare.TheVariants.{Boolean}
use Rattle.std.proofs.Common.{true}
use Rattle.sf_scan.specs.Members.{made_member}
use Rattle.sf_scan.specs.Makers.{made_of}
use Rattle.sf_scan.specs.Entries.{raw_flag}
use Rattle.sf_scan.proofs.Following.{bare_apart}
use Rattle.sf_scan.proofs.Entries.{entry_refused, value_lifts, params_lifts, key_alone}
use Rattle.sf_scan.proofs.Members.{member_element}
use Rattle.sf_scan.proofs.entry.EntryPlaceElement.read.Goals as goal

pub returns-in_default-clause-scans : goal.returns-in_default-clause-scans
returns-in_default-clause-scans g c =
    let d = c.args.dialect in
    record {
      refuses = entry_refused d (bare_apart d) (member_element d)
          _ c.in_default.ensures;
      open_still = refl;
    }

pub returns-in-Ok-clause-scans : goal.returns-in-Ok-clause-scans
returns-in-Ok-clause-scans g c =
    let d = c.args.dialect in
    let k = c.in-Some.ensures in
    let m = c.in-Ok.ensures.scans in
    record {
      value = (c.in-Some.key.now, m.value);
      reads = (value_lifts d (bare_apart d) (member_element d) _ _
          _ k.0 k.1 k.2 _ c.in-Some-strip_byte.ensures).reads _ _ _ m.reads;
      made = m.made
          ∙ ap (λ z. made_member g.M.Builder.bare g.M.Maker.with g.M.Builder.opened
          g.M.Builder.closed z m.value) c.in_default-key.ensures;
      ended = m.ended;
    }

pub returns-in-Err-Refused-clause-scans : goal.returns-in-Err-Refused-clause-scans
returns-in-Err-Refused-clause-scans g c =
    let d = c.args.dialect in
    let k = c.in-Some.ensures in
    let m = rw c.in-Err-Refused.field-0-is at c.in-Err-Refused.ensures.scans in
    record {
      refuses = (value_lifts d (bare_apart d) (member_element d)
          _ _ _ k.0 k.1 k.2 _ c.in-Some-strip_byte.ensures).refuses _ _ m.refuses;
      open_still = m.open_still;
    }

pub returns-in_default-strip_byte-2-clause-scans : goal.returns-in_default-strip_byte-2-clause-scans
returns-in_default-strip_byte-2-clause-scans g c =
    let d = c.args.dialect in
    let k = c.in-Some.ensures in
    record {
      value = (c.in-Some.key.now, raw_flag []);
      reads = key_alone d (bare_apart d) (member_element d) _ _ _
          k.0 k.1 k.2 c.in_default-strip_byte.ensures c.in_default-strip_byte-2.ensures;
      made = c.in_default-bare_item.ensures
          ∙ ap (λ z. g.M.Builder.bare z (Boolean true)) c.in_default-key.ensures;
      ended = refl;
    }

pub returns-in-Ok-params-clause-scans : goal.returns-in-Ok-params-clause-scans
returns-in-Ok-params-clause-scans g c =
    let d = c.args.dialect in
    let k = c.in-Some.ensures in
    let m = c.in-Ok-params.ensures in
    record {
      value = (c.in-Some.key.now, raw_flag m.raw);
      reads = (params_lifts d (bare_apart d) (member_element d) _
          _ _ k.0 k.1 k.2 _ c.in-Some-strip_byte-2.ensures).reads _ _ _ m.reads;
      made = m.made
          ∙ ap (λ z. made_of g.M.Maker.with z m.raw)
          (c.in_default-bare_item.ensures ∙ ap (λ z. g.M.Builder.bare z (Boolean true)) c.in_default-key.ensures);
      ended = m.ends;
    }

pub returns-in-Err-Refused-params-clause-scans : goal.returns-in-Err-Refused-params-clause-scans
returns-in-Err-Refused-params-clause-scans g c =
    let d = c.args.dialect in
    let k = c.in-Some.ensures in
    let m = rw c.in-Err-Refused-params.field-0-is at c.in-Err-Refused-params.ensures in
    record {
      refuses = (params_lifts d (bare_apart d) (member_element d)
          _ _ _ k.0 k.1 k.2 _ c.in-Some-strip_byte-2.ensures).refuses _ _ m.refuses;
      open_still = m.open_still;
    }

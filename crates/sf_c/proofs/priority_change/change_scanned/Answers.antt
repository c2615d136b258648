use Rattle.std.proofs.Common.{refl}
use Rattle.sf_c.specs.Normal.{TextOutput}
use Rattle.sf_c.proofs.ChangedMembers.{puts_change, viewed_dict}
use Rattle.sf_c.proofs.priority_change.change_scanned.Goals as goal

pub put_parts-requires : goal.put_parts-requires
put_parts-requires c =
    let h = viewed_dict c.args.text.now c.in-Ok.view c.in-Ok.ensures.accepts in
    (_, (h.dict, h.describes, h.valid.1, refl))

pub returns-in-Ok : goal.returns-in-Ok
returns-in-Ok c =
    let h = viewed_dict c.args.text.now c.in-Ok.view c.in-Ok.ensures.accepts in
    let old : TextOutput = record {
      buffer = c.args.buffer.now;
      required = c.args.required.now;
      refusal = c.args.refusal.now;
    } in
    let new : TextOutput = record {
      buffer = c.put_parts.new.buffer;
      required = c.put_parts.new.required;
      refusal = c.args.refusal.now;
    } in
    let asked = c.asked-asked.ensures in
    puts_change old new c.args.text.now c.args.priority.now c.in-Ok.view c.put_parts.result h
    (rw asked at c.put_parts.ensures.writes _ (h.dict, h.describes, h.valid.1, refl)) refl

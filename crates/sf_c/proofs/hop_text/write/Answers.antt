use Rattle.std.proofs.Common.{refl, subst}
use Rattle.sf_c.specs.GivenHops.{GivesHop}
use Rattle.sf_c.specs.HopParts.{Decides}
use Rattle.sf_c.specs.TextBuffers.{TextBuffer}
use Rattle.sf_c.proofs.WrittenHops.{no_hop_given, puts_hop}
use Rattle.sf_c.proofs.hop_text.write.Goals as goal

pub put_parts-requires : goal.put_parts-requires
put_parts-requires c =
    let given = subst (Decides (GivesHop c.args.bytes.now c.args.hop.now)) c.if-is_hop.true
    c.is_hop.ensures in
    (_, (given.0, given.1, refl))

pub returns-then-is_hop : goal.returns-then-is_hop
returns-then-is_hop c =
    let old : TextBuffer = record { buffer = c.args.buffer.now; required = c.args.required.now } in
    let new : TextBuffer = record {
      buffer = c.put_parts.new.buffer;
      required = c.put_parts.new.required;
    } in
    record {
      writes =
          puts_hop old new c.args.bytes.now c.args.hop.now c.put_parts.result
          (subst (Decides (GivesHop c.args.bytes.now c.args.hop.now)) c.if-is_hop.true
          c.is_hop.ensures) (λ h g. c.put_parts.ensures.writes _ (h, g, refl));
      long = λ e h g. c.put_parts.ensures.long e _ (h, g, refl);
    }

pub returns : goal.returns
returns c = record {
  writes = (
    no_hop_given c.args.bytes.now c.args.hop.now c.is_hop.result c.is_hop.ensures
        c.if-is_hop.false,
    refl,
  );
  long = λ e. absurd cc;
}

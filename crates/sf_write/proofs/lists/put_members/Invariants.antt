use Rattle.std.proofs.Common.{drop}
use Rattle.sf_value.specs.declared.dialect.Dialect.TheVariants.{Rfc9651}
use Rattle.sf_value.specs.Grammar.Canonical.{canon_member, canon_commas, canon_series}
use Rattle.sf_value.specs.Grammar.Valid.{ValidMember}
use Rattle.sf_write.proofs.Following.{Remains}
use Rattle.sf_write.proofs.ValidParts.{Awaits}
use Rattle.sf_write.proofs.lists.put_members.Given as goal

abbrev pub invariant-loop-member : goal.invariant-loop-member
invariant-loop-member g l = record {
  text : Remains g.W.Sink.state g.W.Sink.send_gives l.fn.out l.out l.fn.before l.sent
      (canon_series canon_member l.members)
      (canon_commas canon_member (drop l.member-index l.others));
  valid : Awaits (ValidMember Rfc9651) l.members (drop l.member-index l.others);
}

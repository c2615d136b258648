use Rattle.std.proofs.Common.{sym, ap, ◌∙◌}
use Rattle.sf_use.specs.CacheStatus.Hops.{member_hop}
use Rattle.sf_use.proofs.CacheStatusLemmas.Gathered.{none_given, one_given}
use Rattle.sf_use.proofs.cache_status.reading.read_hops.Goals.{in-Some+in_ok-push-in-Some, in-None}
use Rattle.sf_use.proofs.cache_status.reading.read_hops.Goals as goal

pub loop-member-preserved : goal.loop-member-preserved
loop-member-preserved c =
    elim c.match-branch-2.branch [
      | in-Some+in_ok-push-in-Some w ↦
          one_given member_hop c.args.members.now c.loop-member.member-index c.member-item.result
          w.in-Some.hop c.loop-member.hops.items c.match-branch-2.hops.items c.loop-member-test.true
          c.member-item.is c.loop-member.invariant (sym w.in-Some.is ∙ c.in_ok-hop.ensures)
          (ap (λ v. v.items) w.hops-is ∙ w.in_ok-push-in-Some.ensures.items)
      | in-None w ↦
          ap (λ v. v.items) w.hops-is
          ∙ none_given member_hop c.args.members.now c.loop-member.member-index c.member-item.result
          c.loop-member.hops.items c.loop-member-test.true c.member-item.is c.loop-member.invariant
          (sym w.in-None.is ∙ c.in_ok-hop.ensures)
    ]

use Rattle.std.proofs.Common.{length}
use Rattle.sf_value.specs.declared.dialect.Dialect.{Dialect}
use Rattle.sf_value.specs.declared.value.Bare.{Bare}
use Rattle.sf_value.specs.declared.value.Member.{Member}
use Rattle.sf_value.specs.Grammar.Pairs.{Pairs}
use Rattle.sf_view.specs.declared.node_types.Role.{Role}
use Rattle.sf_view.specs.View.{DescribesMember, DescribesEntries, DescribesParams}
use Rattle.sf_view.proofs.Hops.{DescribesParam, Left}
use Rattle.sf_view.proofs.lookup.entry.Given as goal

abbrev pub invariant-loop-name : goal.invariant-loop-name
invariant-loop-name l = record {
  members : (d : Dialect) (ps : Pairs Member) → DescribesEntries d l.source l.nodes ps
      → Left (DescribesMember d l.source) l.key ps l.rest;
  params : (d : Dialect) (r : Role) (ps : Pairs Bare) → DescribesParams d l.source r l.nodes ps
      → Left (DescribesParam d l.source r) l.key ps l.rest;
}

abbrev pub decreases-loop-name : goal.decreases-loop-name
decreases-loop-name l = length l.rest

use Rattle.std.proofs.Common.{◌≡◌, ◌∙◌, None, refl, subst}
use Rattle.sf_use.specs.CacheStatus.Views.{ReadsNextHop}
use Rattle.sf_c.proofs.ScannedPaths.{none_read, path_scanned, room_left}
use Rattle.sf_c.proofs.hop_scan.scan_hops.Goals as goal

pub loop-hop-init : goal.loop-hop-init
loop-hop-init c = record {
  same_hops = refl;
  same_bytes = refl;
  so_far = none_read _ _ _ _ _ c.new_in-cursor.ensures;
}

pub with-requires : goal.with-requires
with-requires c = record {
  within = room_left _ _ _ _ _ c.loop-hop.read c.loop-hop.invariant.so_far;
}

pub loop-hop-preserved : goal.loop-hop-preserved
loop-hop-preserved c =
    let i = c.loop-hop.invariant in
    record {
      same_hops = c.in_ok-read.ensures.same_hops ∙ i.same_hops;
      same_bytes = c.in_ok-read.ensures.same_bytes ∙ i.same_bytes;
      so_far =
          c.in_ok-read.ensures.read c.args.dialect c.args.text.now c.loop-hop.cursor
          c.next.new.self i.so_far
          (subst (ReadsNextHop c.loop-hop.cursor c.next.new.self) c.in-Some.is
          c.in_ok-hop.ensures.next);
    }

pub returns-clause-read : goal.returns-clause-read
returns-clause-read c =
    let is = c.in_default.is in
    let none : c.in_ok-hop.field-0 ≡ None = cc in
    path_scanned _ _ _ _ _ _ _ _ c.loop-hop.invariant.so_far c.in_ok-hop.ensures.next none

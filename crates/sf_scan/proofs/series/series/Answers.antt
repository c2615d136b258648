use Rattle.std.proofs.Common.{refl, ◌==◌, ◌||◌, []}
use Rattle.sf_value.specs.Ascii.{comma}
use Rattle.sf_value.specs.Grammar.Classes.{is_ows}
use Rattle.sf_value.specs.Grammar.Series.{SpellsWhole}
use Rattle.sf_scan.proofs.Items.{open_test, closed_test}
use Rattle.sf_scan.proofs.Sequences.{all_left, some_left, unread, reads_as, refuses_as}
use Rattle.sf_scan.proofs.Separated.{first_has, first_none, first_refused, ends_there, ends_behind}
use Rattle.sf_scan.proofs.Separated.{empty_run, some_run, lacks_behind}
use Rattle.sf_scan.proofs.Separated.{more_has, due_broken, due_refused, lacks_more, less_after}
use Rattle.sf_scan.proofs.series.series.Goals as goal

pub loop-more-init : goal.loop-more-init
loop-more-init g c =
    let d = c.args.dialect in
    let r = c.few_prefix.ensures in
    let m = c.in-Ok.ensures.scans in
    record {
      has = first_has (g.E.Element.spells d) _ c.requires g.E.Element.made _ _ _ _
          r.whole r.every _ m.value _ _ m.reads m.made;
      ended = m.ended;
    }

pub returns-then-stop-start : goal.returns-then-stop-start
returns-then-stop-start g c =
    let d = c.args.dialect in
    let r = c.few_prefix.ensures in
    let m = rw c.in-Err-Refused.field-0-is at c.in-Err-Refused.ensures.scans in
    record {
      value = [];
      reads = first_none (g.E.Element.spells d) _ c.requires g.E.Element.made _
          c.args.maker.now _ _ r.whole r.every (unread (g.E.Element.spells d) _ _ _ _ m.refuses (rw c.in-Err-Refused.field-0-is at c.if-stop-start.true)
          c.requires.start) r.longest;
      made = (rw c.in-Err-Refused.field-0-is at c.in-Err-Refused.ensures.kept) (all_left _ m.refuses.stops.prefix _ m.refuses.stops.split
          (rw c.in-Err-Refused.field-0-is at c.if-stop-start.true));
      ended = refl;
    }

pub returns-in-Err-Refused : goal.returns-in-Err-Refused
returns-in-Err-Refused g c =
    let d = c.args.dialect in
    let r = c.few_prefix.ensures in
    let m = rw c.in-Err-Refused.field-0-is at c.in-Err-Refused.ensures.scans in
    let p = c.in-Err-Refused.stop.place in
    rw c.in-Err-Refused.field-0-is (record {
      refuses = refuses_as (SpellsWhole (g.E.Element.spells d)) (g.E.ElementPlace.next d p) _ _ _
          (λ b. open_test (g.E.ElementPlace.next d p b) (g.E.ElementPlace.ends p) (is_ows b || b == comma) m.open_still)
          (first_refused (g.E.Element.spells d) _ c.requires g.E.Element.made _
          c.args.maker.now _ _ r.whole r.every _ _ m.refuses
          (some_left _ m.refuses.stops.prefix _ m.refuses.stops.split (rw c.in-Err-Refused.field-0-is at c.if-stop-start.false)));
      open_still = m.open_still;
    })

pub returns-then-is_empty : goal.returns-then-is_empty
returns-then-is_empty g c =
    let d = c.args.dialect in
    let i = c.loop-more.invariant in
    let r = c.few_prefix-in-loop-more.ensures in
    let p = c.loop-more.end.place in
    record {
      value = i.has.into (i.has.member, []);
      reads = reads_as (SpellsWhole (g.E.Element.spells d)) (λ b. g.E.ElementPlace.next d p b || (is_ows b || b == comma))
          _ _ _ _
          (λ b. closed_test (g.E.ElementPlace.next d p b) (g.E.ElementPlace.ends p) (is_ows b || b == comma) i.ended)
          (ends_there (g.E.Element.spells d) _ c.requires g.E.Element.made _ _ _ _
          _ i.has
          (lacks_behind _ _ _ r.whole (empty_run _ _ c.is_empty.ensures c.if-is_empty.true)
          (lacks_more _ r.longest c.in_default.ensures)));
      made = i.has.made [];
      ended = i.ended;
    }

pub returns-in_default : goal.returns-in_default
returns-in_default g c =
    let d = c.args.dialect in
    let i = c.loop-more.invariant in
    let r = c.few_prefix-in-loop-more.ensures in
    record {
      value = i.has.into (i.has.member, []);
      reads = ends_behind (g.E.Element.spells d) _ c.requires g.E.Element.made _ _ _ _
          _ i.has _ _ r.whole r.every (some_run _ _ c.is_empty.ensures c.if-is_empty.false)
          (lacks_more _ r.longest c.in_default.ensures);
      made = i.has.made [];
      ended = refl;
    }

pub returns-then-stop-due : goal.returns-then-stop-due
returns-then-stop-due g c =
    let d = c.args.dialect in
    let i = c.loop-more.invariant in
    let r = c.few_prefix-in-loop-more.ensures in
    let s = c.few_prefix-in-loop-more-2.ensures in
    let m = rw c.in-Err-Refused-read.field-0-is at c.in-Err-Refused-read.ensures.scans in
    record {
      refuses = due_refused (g.E.Element.spells d) _ c.requires g.E.Element.made _ _ _ _
          _ i.has _ _ r.whole r.every _ _ _ c.in-Some.ensures s.whole s.every
          (unread (g.E.Element.spells d) _ _ _ _ m.refuses (rw c.in-Err-Refused-read.field-0-is at c.if-stop-due.true)
          c.requires.start) s.longest;
      open_still = refl;
    }

pub returns-in-Err-Refused-read : goal.returns-in-Err-Refused-read
returns-in-Err-Refused-read g c =
    let d = c.args.dialect in
    let i = c.loop-more.invariant in
    let r = c.few_prefix-in-loop-more.ensures in
    let s = c.few_prefix-in-loop-more-2.ensures in
    let m = rw c.in-Err-Refused-read.field-0-is at c.in-Err-Refused-read.ensures.scans in
    let p = c.in-Err-Refused-read.stop.place in
    rw c.in-Err-Refused-read.field-0-is (record {
      refuses = refuses_as (SpellsWhole (g.E.Element.spells d)) (g.E.ElementPlace.next d p) _ _ _
          (λ b. open_test (g.E.ElementPlace.next d p b) (g.E.ElementPlace.ends p) (is_ows b || b == comma) m.open_still)
          (due_broken (g.E.Element.spells d) _ c.requires g.E.Element.made _ _ _ _
          _ i.has _ _ r.whole r.every _ _ _ c.in-Some.ensures s.whole s.every _ _ m.refuses
          (some_left _ m.refuses.stops.prefix _ m.refuses.stops.split (rw c.in-Err-Refused-read.field-0-is at c.if-stop-due.false)));
      open_still = m.open_still;
    })

pub loop-more-smaller : goal.loop-more-smaller
loop-more-smaller g c =
    let r = c.few_prefix-in-loop-more.ensures in
    let s = c.few_prefix-in-loop-more-2.ensures in
    let m = c.in-Ok-read.ensures.scans in
    less_after _ _ _ _ _ _ m.reads.stops.prefix _ r.whole c.in-Some.ensures s.whole
    m.reads.stops.split

pub loop-more-preserved : goal.loop-more-preserved
loop-more-preserved g c =
    let d = c.args.dialect in
    let i = c.loop-more.invariant in
    let r = c.few_prefix-in-loop-more.ensures in
    let s = c.few_prefix-in-loop-more-2.ensures in
    let m = c.in-Ok-read.ensures.scans in
    record {
      has = more_has (g.E.Element.spells d) _ c.requires g.E.Element.made _ _ _ _
          _ i.has _ _ r.whole r.every _ _ _ c.in-Some.ensures s.whole s.every _ m.value _ _ m.reads
          m.made;
      ended = m.ended;
    }

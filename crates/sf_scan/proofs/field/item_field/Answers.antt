use Rattle.std.proofs.Common.{refl, ap, sym, ◌∙◌, ◌++◌, subst, ◌||◌}
use Rattle.sf_value.specs.Grammar.Classes.{is_sp}
use Rattle.sf_scan.specs.ItemFields.{SpellsRawField}
use Rattle.sf_scan.specs.Items.{SpellsRawItem, in_item, ends_item}
use Rattle.sf_scan.specs.Places.{in_bare}
use Rattle.sf_value.specs.Runs.{Lacks}
use Rattle.sf_scan.specs.declared.place.BarePlace.TheVariants.{Start}
use Rattle.sf_scan.proofs.Following.{bare_apart}
use Rattle.sf_scan.proofs.Items.{open_test, closed_test}
use Rattle.sf_scan.proofs.Sequences.{some_left, unread, reads_as, refuses_as}
use Rattle.sf_scan.proofs.Separated.{empty_run, some_run}
use Rattle.sf_scan.proofs.Spaced.{field_broken, field_refused, field_ends, field_spaces}
use Rattle.sf_scan.proofs.Starts.{item_apart, item_begun, item_start, bare_begun, bare_start}
use Rattle.sf_scan.proofs.field.item_field.Goals as goal

pub returns-then-stop-start : goal.returns-then-stop-start
returns-then-stop-start g c =
    let d = c.args.dialect in
    let r = c.few_prefix.ensures in
    let m = rw c.in-Err-Refused.field-0-is at c.in-Err-Refused.ensures.scans in
    let s = item_start d (bare_apart d) (bare_begun d) (in_bare d Start) (bare_start d) in
    record {
      refuses = field_refused (SpellsRawItem d) (item_apart d (bare_apart d))
          (item_begun d (bare_apart d) (bare_begun d)) _ _ _ r.whole r.every
          (in_bare d Start) s
          (unread (SpellsRawItem d) _ _ _ _ m.refuses c.if-stop-start.true s) r.longest;
      open_still = refl;
    }

pub returns-in-Err-Refused : goal.returns-in-Err-Refused
returns-in-Err-Refused g c =
    let d = c.args.dialect in
    let r = c.few_prefix.ensures in
    let m = rw c.in-Err-Refused.field-0-is at c.in-Err-Refused.ensures.scans in
    let p = c.in-Err-Refused.stop.place in
    record {
      refuses = refuses_as (SpellsRawField d) (in_item d p) _ _ _
          (λ b. open_test (in_item d p b) (ends_item p) (is_sp b) m.open_still)
          (field_broken (SpellsRawItem d) (item_apart d (bare_apart d))
          (item_begun d (bare_apart d) (bare_begun d)) _ _ _ r.whole r.every _ _ m.refuses
          (some_left _ m.refuses.stops.prefix _ m.refuses.stops.split c.if-stop-start.false));
      open_still = m.open_still;
    }

pub returns-then-is_empty : goal.returns-then-is_empty
returns-then-is_empty g c =
    let d = c.args.dialect in
    let r = c.few_prefix.ensures in
    let s = c.few_prefix-2.ensures in
    let m = c.in-Ok.ensures.scans in
    let p = c.in-Ok.end.place in
    let z = empty_run _ _ c.is_empty.ensures c.if-is_empty.true in
    record {
      value = m.value;
      reads = reads_as (SpellsRawField d) (λ b. in_item d p b || is_sp b) _ _ _ _
          (λ b. closed_test (in_item d p b) (ends_item p) (is_sp b) m.ended)
          (field_ends (SpellsRawItem d) (item_apart d (bare_apart d))
          (item_begun d (bare_apart d) (bare_begun d)) _ _ _ r.whole r.every _ _ _ m.reads
          (subst (Lacks is_sp) (sym (s.whole ∙ ap (λ q. q ++ c.few_prefix-2.result.1.now) z))
          s.longest));
      made = m.made;
      ended = m.ended;
    }

pub returns : goal.returns
returns g c =
    let d = c.args.dialect in
    let r = c.few_prefix.ensures in
    let s = c.few_prefix-2.ensures in
    let m = c.in-Ok.ensures.scans in
    record {
      value = m.value;
      reads = field_spaces (SpellsRawItem d) (item_apart d (bare_apart d))
          (item_begun d (bare_apart d) (bare_begun d)) _ _ _ r.whole r.every _ _ _ m.reads
          _ _ s.whole s.every (some_run _ _ c.is_empty.ensures c.if-is_empty.false) s.longest;
      made = m.made;
      ended = refl;
    }

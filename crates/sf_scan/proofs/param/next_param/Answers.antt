use Rattle.std.proofs.Common.{true, refl, ◌++◌, ◌∷◌, []}
use Rattle.sf_value.specs.Ascii.{question_mark, digit_one}
use Rattle.sf_scan.specs.declared.leaf.Leaf.TheVariants as leaf
use Rattle.sf_scan.proofs.Bares.{some_bare}
use Rattle.sf_scan.proofs.Pairs.{unnamed, before_value, reads_key, reads_value, refuses_value}
use Rattle.sf_scan.proofs.param.next_param.Goals as goal

pub bare-requires : goal.bare-requires
bare-requires g c =
    let gap = c.few_prefix.result.0.now in
    let named = c.few_prefix.result.1.now in
    let k = c.in-Some.ensures in
    λ lifetimes. (
      (refl, tt),
      c.requires (gap ++ c.in-Some.key.now) c.in-Some-strip_byte.value.now
          (before_value c.args.text.now gap named c.in-Some.key.now c.in-Some.after.now
          c.in-Some-strip_byte.value.now c.few_prefix.ensures.whole k.0
          c.in-Some-strip_byte.ensures),
    )

pub returns-in_default : goal.returns-in_default
returns-in_default g c =
    let r = c.few_prefix.ensures in
    record {
      refuses = unnamed c.args.dialect _ _ _ r.whole r.every r.longest c.in_default.ensures;
      open_still = refl;
    }

pub returns-in_default-strip_byte : goal.returns-in_default-strip_byte
returns-in_default-strip_byte g c =
    let r = c.few_prefix.ensures in
    let k = c.in-Some.ensures in
    let d = c.args.dialect in
    record {
      leaf = leaf.Boolean true;
      reads = reads_key d (some_bare d) _ _ _ _ _ r.whole r.every k.0 k.1 k.2
          c.in_default-strip_byte.ensures;
      ends = refl;
      value = question_mark ∷ digit_one ∷ [];
      spelled = refl;
      made_of = c.boolean.ensures _;
    }

pub returns-in-Ok : goal.returns-in-Ok
returns-in-Ok g c =
    let r = c.few_prefix.ensures in
    let k = c.in-Some.ensures in
    let m = c.in-Ok.ensures in
    record {
      leaf = m.leaf;
      reads = reads_value c.args.dialect _ _ _ _ _ _ _ _ _ r.whole r.every k.0 k.1
          c.in-Some-strip_byte.ensures m.read.reads;
      ends = m.read.ends;
      value = m.read.reads.stops.prefix;
      spelled = m.read.reads.spelled;
      made_of = m.made_of;
    }

pub returns-in-Err : goal.returns-in-Err
returns-in-Err g c =
    let r = c.few_prefix.ensures in
    let k = c.in-Some.ensures in
    let b = c.in-Err.ensures in
    record {
      refuses = refuses_value c.args.dialect _ _ _ _ _ _ _ _ r.whole r.every k.0 k.1
          c.in-Some-strip_byte.ensures b.refuses;
      open_still = b.open_still;
    }

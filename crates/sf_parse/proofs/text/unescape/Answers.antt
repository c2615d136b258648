use Rattle.std.proofs.Common.{ap, refl}
use Rattle.sf_scan.specs.Leaves.{unescaped}
use Rattle.sf_parse.proofs.Decoding.{unescaped_more, one_more, none_left, front_fits}
use Rattle.sf_parse.proofs.Prefixes.{never}
use Rattle.sf_parse.proofs.text.unescape.Goals as goal

pub returns-in_default-clause-bytes : goal.returns-in_default-clause-bytes
returns-in_default-clause-bytes c =
    none_left _ _ _ (ap unescaped c.in_default.ensures.bytes)
    (unescaped_more c.args.text.now _ _ _ _ _ c.long_prefix.ensures.whole c.long_prefix.ensures.every
    c.in_ok-extend.ensures.bytes c.loop-bytes.invariant)

pub loop-bytes-preserved : goal.loop-bytes-preserved
loop-bytes-preserved c =
    one_more _ _ _ _ _ _ c.in-Some.ensures.bytes c.in_ok-push.ensures.bytes
    (unescaped_more c.args.text.now _ _ _ _ _ c.long_prefix.ensures.whole c.long_prefix.ensures.every
    c.in_ok-extend.ensures.bytes c.loop-bytes.invariant)

pub returns-in_err-extend-clause-in_place : goal.returns-in_err-extend-clause-in_place
returns-in_err-extend-clause-in_place c = λ few.
    never (c.in_err-extend.ensures.in_place
    (front_fits _ _ _ few
    (unescaped_more c.args.text.now _ _ _ _ _ c.long_prefix.ensures.whole
    c.long_prefix.ensures.every refl c.loop-bytes.invariant)))

pub returns-in_err-push-clause-in_place : goal.returns-in_err-push-clause-in_place
returns-in_err-push-clause-in_place c = λ few.
    never (c.in_err-push.ensures.in_place
    (front_fits _ _ _ few
    (one_more _ _ _ _ _ _ c.in-Some.ensures.bytes refl
    (unescaped_more c.args.text.now _ _ _ _ _ c.long_prefix.ensures.whole
    c.long_prefix.ensures.every c.in_ok-extend.ensures.bytes c.loop-bytes.invariant))))

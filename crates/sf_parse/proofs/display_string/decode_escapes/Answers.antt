use Rattle.std.proofs.Common.{ap, ◌∙◌}
use Rattle.sf_scan.specs.DisplayStrings.{shown_bytes}
use Rattle.sf_parse.proofs.Decoding.{shown_more, block_taken, none_left}
use Rattle.sf_parse.proofs.display_string.decode_escapes.Goals as goal

pub returns-in_default : goal.returns-in_default
returns-in_default c =
    none_left _ _ _ (ap shown_bytes c.in_default.ensures.bytes)
    (shown_more c.args.text.now _ _ _ _ _ c.long_prefix.ensures.whole c.long_prefix.ensures.every
    c.in_ok-extend.ensures.bytes c.loop-bytes.invariant)

pub loop-bytes-preserved : goal.loop-bytes-preserved
loop-bytes-preserved c =
    block_taken _ _ _ _ _ _ (c.in-Some.ensures.bytes ∙ c.decode_run-count.ensures.bytes)
    c.in_ok-extend-2.ensures.bytes
    (shown_more c.args.text.now _ _ _ _ _ c.long_prefix.ensures.whole c.long_prefix.ensures.every
    c.in_ok-extend.ensures.bytes c.loop-bytes.invariant)

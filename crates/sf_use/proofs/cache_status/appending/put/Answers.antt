use Rattle.std.proofs.Common.{◌≡◌}
use Rattle.sf_value.specs.declared.fault.TextFault.TheVariants.{OutOfMemory}
use Rattle.sf_value.specs.Grammar.Classes.{is_key_start, is_in_key}
use Rattle.sf_value.proofs.Faults.{refused_word}
use Rattle.sf_use.proofs.cache_status.appending.put.Goals as goal

pub unreachable-requires-in-Err-BadByte : goal.unreachable-requires-in-Err-BadByte
unreachable-requires-in-Err-BadByte c =
    let memory : c.in-Err-BadByte.field-0 ≡ OutOfMemory =
    refused_word is_key_start is_in_key c.args.key.now c.in-Err-BadByte.field-0 c.requires
    c.in-Err-BadByte.ensures.exact in
    cc

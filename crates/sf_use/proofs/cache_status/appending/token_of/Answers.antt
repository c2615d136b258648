use Rattle.std.proofs.Common.{◌≡◌, sym, subst}
use Rattle.sf_value.specs.declared.fault.TextFault.TheVariants.{OutOfMemory}
use Rattle.sf_value.specs.Grammar.Classes.{is_token_start, is_in_token}
use Rattle.sf_value.specs.Grammar.Tokens.{IsToken}
use Rattle.sf_value.proofs.Faults.{refused_word}
use Rattle.sf_use.proofs.cache_status.appending.token_of.Goals as goal

pub unreachable-requires-in-Err-BadByte : goal.unreachable-requires-in-Err-BadByte
unreachable-requires-in-Err-BadByte c =
    let token : IsToken c.as_bytes.result.now =
    subst IsToken (sym c.as_bytes.ensures.bytes) c.as_bytes.ensures.token in
    let memory : c.in-Err-BadByte.field-0 ≡ OutOfMemory =
    refused_word is_token_start is_in_token c.as_bytes.result.now
    c.in-Err-BadByte.field-0 token c.in-Err-BadByte.ensures.exact in
    cc

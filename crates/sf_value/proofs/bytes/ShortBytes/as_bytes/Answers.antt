use Rattle.std.proofs.Common.{ℕ, ◌<◌, rules, subst, ◌∙◌}
use Rattle.std.specs.Prelude.{slice_index}
use Rattle.sf_value.specs.Grammar.Words.{Every}
use Rattle.sf_value.specs.Grammar.Classes.{is_byte}
use Rattle.sf_value.proofs.ByteLists.{every_byte}
use Rattle.sf_value.proofs.bytes.ShortBytes.as_bytes.Goals as goal

pub returns-clause-byte : goal.returns-clause-byte
returns-clause-byte c =
    let fits : (k : ℕ) → slice_index c.as_slice-bytes.result.now k < 256 = search rules in
    subst (Every is_byte) (c.as_slice-bytes.ensures ∙ c.self.view_is)
    (every_byte c.as_slice-bytes.result.now fits)

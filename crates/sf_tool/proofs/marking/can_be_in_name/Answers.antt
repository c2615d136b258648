use Rattle.std.proofs.Common.{◌∙◌}
use Rattle.sf_tool.proofs.Names.{is_tchar-is}
use Rattle.sf_tool.proofs.marking.can_be_in_name.Goals as goal

pub returns : goal.returns
returns c = c.is_token_char.ensures ∙ is_tchar-is c.args.byte

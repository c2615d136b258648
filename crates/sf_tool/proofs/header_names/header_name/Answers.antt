use Rattle.std.proofs.Common.{rules}
use Rattle.sf_tool.proofs.Names.{name-sure, not-name}
use Rattle.sf_tool.proofs.header_names.header_name.Goals as goal

pub returns-in-Ok : goal.returns-in-Ok
returns-in-Ok c = (
  name-sure c.args.word.now (λ bad. let e = c.in-Ok.ensures.invalid.1 bad in cc),
  c.in-Ok.ensures.ok,
)

pub returns-in-Err-Invalid : goal.returns-in-Err-Invalid
returns-in-Err-Invalid c =
    not-name c.args.word.now (c.in-Err-Invalid.ensures.invalid.0 (search rules))

pub returns-in-Err-OutOfMemory : goal.returns-in-Err-OutOfMemory
returns-in-Err-OutOfMemory c = (
  name-sure c.args.word.now (λ bad. let e = c.in-Err-OutOfMemory.ensures.invalid.1 bad in cc),
  tt,
)

use Rattle.sf_use.specs.declared.cache_status.hop.Forward.TheVariants.{Bypass, Method, UriMiss}
use Rattle.sf_use.specs.declared.cache_status.hop.Forward.TheVariants.{VaryMiss, Miss, Request}
use Rattle.sf_use.specs.declared.cache_status.hop.Forward.TheVariants.{Stale, Partial}
use Rattle.sf_c.proofs.DecidedHops.{other_decided}
use Rattle.sf_c.proofs.hop_parts.is_why.Goals as goal

pub returns-in-1 : goal.returns-in-1
returns-in-1 c = (Bypass, c.in-1.is)

pub returns-in-2 : goal.returns-in-2
returns-in-2 c = (Method, c.in-2.is)

pub returns-in-3 : goal.returns-in-3
returns-in-3 c = (UriMiss, c.in-3.is)

pub returns-in-4 : goal.returns-in-4
returns-in-4 c = (VaryMiss, c.in-4.is)

pub returns-in-5 : goal.returns-in-5
returns-in-5 c = (Miss, c.in-5.is)

pub returns-in-6 : goal.returns-in-6
returns-in-6 c = (Request, c.in-6.is)

pub returns-in-7 : goal.returns-in-7
returns-in-7 c = (Stale, c.in-7.is)

pub returns-in-8 : goal.returns-in-8
returns-in-8 c = (Partial, c.in-8.is)

pub returns-in-9 : goal.returns-in-9
returns-in-9 c =
    other_decided c.args.bytes.now c.args.hop.now c.is_token.result c.in-9.is c.is_token.ensures

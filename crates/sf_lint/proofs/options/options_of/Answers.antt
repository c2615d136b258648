use Rattle.clap.specs.Words.{found_of, rows_of}
use Rattle.sf_lint.proofs.CacheWords.{caches-fault, settings-fault}
use Rattle.sf_lint.proofs.options.options_of.Goals as goal

pub returns-in_err-settings : goal.returns-in_err-settings
returns-in_err-settings c =
    settings-fault (rows_of (found_of c.args.given.now)) c.in_err-settings.field-0.0
    c.in_err-settings.ensures c.from_residual.result c.from_residual.ensures.1

pub returns-in_err-caches : goal.returns-in_err-caches
returns-in_err-caches c =
    caches-fault (rows_of (found_of c.args.given.now)) c.in_err-caches.field-0.0
    c.in_err-caches.ensures c.from_residual-in_err-caches.result
    c.from_residual-in_err-caches.ensures.1

pub returns : goal.returns
returns c = (c.in_ok-settings.ensures, c.in_ok-caches.ensures)

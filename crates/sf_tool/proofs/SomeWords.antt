-- What some words of the command line ask for, computed from the definitions.
use Rattle.std.proofs.Common.{List, [], ◌∷◌, refl, codes}
use Rattle.std.specs.Prelude.{unwrap_or}
use Rattle.clap.specs.Simple.{subcommand_of}
use Rattle.clap.specs.Walk.{Row, Text}
use Rattle.clap.proofs.OnLiterals.{clap_on_literals}
use Rattle.sf_value.specs.declared.dialect.Dialect.TheVariants.{Rfc8941, Rfc9651}
use Rattle.sf_value.specs.declared.value.Kind.TheVariants as kind
use Rattle.sf_tool.specs.declared.request.Request.{Request}
use Rattle.sf_tool.specs.declared.request.Request.TheVariants.{Show, Check}
use Rattle.sf_tool.specs.CommandLine.{command_line, IsRequestOf}

abbrev found_in : List Text → Text × List Row
found_in words = unwrap_or (subcommand_of command_line words) ([], [])

abbrev pub check_dict : List Text
check_dict = codes "sf" ∷ codes "check" ∷ codes "--kind" ∷ codes "dict" ∷ []

-- the dialect is that of RFC 9651 where none is named
pub check_dict-asks : IsRequestOf check_dict (Check Rfc9651 kind.Dict)
unfolding clap_on_literals
check_dict-asks = (refl, (found_in check_dict, refl, (refl, (refl, refl))))

abbrev pub show_item : List Text
show_item =
    codes "sf" ∷ codes "show" ∷ codes "--dialect=rfc8941" ∷ codes "--kind" ∷ codes "item" ∷ []

pub show_item-asks : IsRequestOf show_item (Show Rfc8941 kind.Item)
unfolding clap_on_literals
show_item-asks = (refl, (found_in show_item, refl, (refl, (refl, refl))))

-- no command, and a command without its kind
pub nothing-asks : (request : Request) → ¬ (IsRequestOf (codes "sf" ∷ []) request)
unfolding clap_on_literals
nothing-asks request asks = let fault = asks.0 in cc

pub check-asks : (request : Request)
    → ¬ (IsRequestOf (codes "sf" ∷ codes "check" ∷ []) request)
unfolding clap_on_literals
check-asks request asks = let fault = asks.0 in cc

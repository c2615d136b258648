-- The error messages of faults.
use Rattle.std.specs.Prelude.{ℕ, List, ◌++◌, codes, decimal}
use Rattle.sf_parse.specs.RefusalTexts.{refusal_text}
use Rattle.sf_field.specs.declared.consumer.UseFault.{UseFault}
use Rattle.sf_field.specs.declared.consumer.UseFault.TheVariants.{NotACache, OutOfMemory}
use Rattle.sf_field.specs.declared.header_update.SetFault.{SetFault}
use Rattle.sf_field.specs.declared.header_update.SetFault.TheVariants.{Full}
use Rattle.sf_field.specs.declared.header_update.SetFault.TheVariants as set_fault
use Rattle.sf_field.specs.declared.asking.AskFault.{AskFault}
use Rattle.sf_field.specs.declared.asking.AskFault.TheVariants.{Field, Answer}

-- the error message of a consumer's fault
abbrev pub use_fault_text : UseFault → List ℕ
use_fault_text (NotACache index) = codes "member " ++ decimal index ++ codes " names no cache"
use_fault_text OutOfMemory = codes "out of memory"

-- the error message of a refusal, or of a consumer's fault
abbrev pub ask_fault_text : AskFault → List ℕ
ask_fault_text (Field refusal) = refusal_text refusal
ask_fault_text (Answer fault) = use_fault_text fault

abbrev pub set_fault_text : SetFault → List ℕ
set_fault_text Full = codes "no room for a further name"
set_fault_text set_fault.OutOfMemory = codes "out of memory"

-- The results of the command: exit codes, and the line on standard error.
use Rattle.std.specs.Prelude.{ℕ, List, Option, Some, None, codes}
use Rattle.sf_tool.specs.declared.request.RequestFault.{RequestFault}
use Rattle.sf_tool.specs.declared.request.RequestFault.TheVariants as fault
use Rattle.sf_tool.specs.declared.status.Status.{Status}
use Rattle.sf_tool.specs.declared.status.Status.TheVariants.{Accepted, Refused, Usage, Stopped}

abbrev pub code_of : Status → ℕ
code_of Accepted = 0
code_of Refused = 1
code_of Usage = 2
code_of Stopped = 3

-- the status if the arguments make no request, or could not be parsed
abbrev pub status_of : RequestFault → Status
status_of fault.Usage = Usage
status_of fault.OutOfMemory = Stopped

abbrev pub usage_line : List ℕ
usage_line = codes "sf: usage: sf show, check or normalise --kind item, list or dict [--dialect rfc8941 or rfc9651]; sf cache-status; sf targeted [--fallback cache-control [--age SECONDS]] NAME..; sf priority"

abbrev pub stopped_line : List ℕ
stopped_line = codes "sf: out of memory or a device failed"

-- the line on standard error: none if the input was answered
abbrev pub line_of : Status → Option (List ℕ)
line_of Accepted = None
line_of Refused = None
line_of Usage = Some usage_line
line_of Stopped = Some stopped_line

-- the line on standard error for arguments that make no request
abbrev pub fault_line : RequestFault → List ℕ
fault_line fault.Usage = usage_line
fault_line fault.OutOfMemory = stopped_line

-- The code of each reason why there is no next line: `cut` says when it is given, but for want of memory, which has
-- none.
use Rattle.std.specs.Prelude.{ℕ, List, codes}
use Rattle.byte_streams.specs.declared.fault.LineFault.{LineFault}
use Rattle.byte_streams.specs.declared.fault.LineFault.TheVariants.{ReadFailed, TooManyReads, Truncated, LineTooLong, NoMemory}

abbrev pub line_fault_code : LineFault → List ℕ
line_fault_code ReadFailed = codes "E1"
line_fault_code TooManyReads = codes "E2"
line_fault_code Truncated = codes "E3"
line_fault_code LineTooLong = codes "E4"
line_fault_code NoMemory = codes "no memory"

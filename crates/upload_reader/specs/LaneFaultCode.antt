-- The code of each fault that ends a lane, with that of the fault in it. `E1` to `E4` are the codes of a line's own
-- faults (`cut`). `E5` to `E8` come with what the line says (`line_said`), `E9` (`session_fault`) and `E10`
-- (`message_fault`) with its place among the messages.
use Rattle.std.specs.Prelude.{ℕ, List, ◌++◌, codes}
use Rattle.byte_streams.specs.LineFaultCode.{line_fault_code}
use Rattle.byte_streams.specs.declared.fault.LineFault.TheVariants as line
use Rattle.page_tree.specs.Fault.{page_fault_code}
use Rattle.xpath_child.specs.Fault.{path_fault_code}
use Rattle.upload_reader.specs.Session.{session_fault_code}
use Rattle.upload_reader.specs.declared.lane_fault.LaneFault.{LaneFault}
use Rattle.upload_reader.specs.declared.lane_fault.LaneFault.TheVariants.{ReadFailed, TooManyReads, Truncated, LineTooLong, NotJson, BadMessage, BadPage, BadTarget, BadSession, LaneFull}

abbrev pub lane_fault_code : LaneFault → List ℕ
lane_fault_code ReadFailed = line_fault_code line.ReadFailed
lane_fault_code TooManyReads = line_fault_code line.TooManyReads
lane_fault_code Truncated = line_fault_code line.Truncated
lane_fault_code LineTooLong = line_fault_code line.LineTooLong
lane_fault_code NotJson = codes "E5"
lane_fault_code BadMessage = codes "E6"
lane_fault_code (BadPage fault) = codes "E7." ++ page_fault_code fault
lane_fault_code (BadTarget fault) = codes "E8." ++ path_fault_code fault.kind
lane_fault_code (BadSession fault) = codes "E9." ++ session_fault_code fault
lane_fault_code LaneFull = codes "E10"

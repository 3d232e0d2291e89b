-- How a run's status is shown to whoever started the program: this project's own rule.
use Rattle.std.specs.Prelude.{ℕ, List, Option, Some, None, Result, Ok, Err, codes}
use Rattle.warp_run.specs.declared.reporting.fault.ReportFault.{ReportFault}
use Rattle.warp_run.specs.declared.reporting.fault.ReportFault.TheVariants as report_fault
use Rattle.warp_run.specs.declared.status.Status.{Status}
use Rattle.warp_run.specs.declared.status.Status.TheVariants.{Done, BadSite, BadHello, OutOfMemory, InputOutput}

abbrev pub exit_code : Status → ℕ
exit_code Done = 0
exit_code BadSite = 3
exit_code BadHello = 4
exit_code OutOfMemory = 5
exit_code InputOutput = 6

-- the line on standard error
abbrev pub error_line : Status → Option (List ℕ)
error_line Done = None
error_line BadSite = Some (codes "bad site")
error_line BadHello = Some (codes "bad hello")
error_line OutOfMemory = Some (codes "no memory")
error_line InputOutput = Some (codes "input or output failed")

-- how a run ends that had this text to write
abbrev pub written_status : Status → Result (Unit {0}) ReportFault → Status
written_status status (Ok done) = status
written_status status (Err report_fault.WriteFailed) = InputOutput
written_status status (Err report_fault.NoMemory) = OutOfMemory

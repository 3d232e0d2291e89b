-- What is told of a file where a call of the system failed: this project's own rule.
use Rattle.std.specs.Prelude.{ℤ, pos, Bool, false, ◌||◌, nat_eq, if◌then◌else◌, Option, Some}
use Rattle.std.specs.IoError.{error_kind, raw_os_error}
use Rattle.std.specs.declared.io.Error.{Error}
use Rattle.std.specs.declared.io.ErrorKind.{ErrorKind}
use Rattle.std.specs.declared.io.ErrorKind.TheVariants as error
use Rattle.upload_files.specs.declared.growing_file.FileFault.{FileFault}
use Rattle.upload_files.specs.declared.growing_file.FileFault.TheVariants.{Full, Crowded, Failed}

-- As many files are open as this process lets be (24, EMFILE of Linux), or the system (23, ENFILE).
abbrev pub is_crowding : Option ℤ → Bool
is_crowding (Some (pos code)) = nat_eq code 24 || nat_eq code 23
is_crowding code = false

-- There is no room on the disk, in a quota, or in one file.
abbrev pub fault_by_kind : ErrorKind → FileFault
fault_by_kind error.StorageFull = Full
fault_by_kind error.QuotaExceeded = Full
fault_by_kind error.FileTooLarge = Full
fault_by_kind kind = Failed

abbrev pub file_fault : Error → FileFault
file_fault fault = if is_crowding (raw_os_error fault) then Crowded else fault_by_kind (error_kind fault)

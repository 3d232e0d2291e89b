-- What the program says where the server doesn't begin, or ends: this project's own rule.
use Rattle.std.specs.Prelude.{ℕ, List, codes}
use Rattle.std.specs.IoError.{error_kind}
use Rattle.std.specs.declared.io.ErrorKind.{ErrorKind}
use Rattle.std.specs.declared.io.ErrorKind.TheVariants as error
use Rattle.collect_server.specs.declared.disk_folder.FolderFault.{FolderFault}
use Rattle.collect_server.specs.declared.disk_folder.FolderFault.TheVariants as folder
use Rattle.collect_server.specs.declared.serve_fault.ServeFault.{ServeFault}
use Rattle.collect_server.specs.declared.serve_fault.ServeFault.TheVariants.{Folder, NoMemory, Failed}

-- Want of memory is told as that, wherever it comes from.
abbrev pub fault_by : ErrorKind → ServeFault → ServeFault
fault_by error.OutOfMemory fault = NoMemory
fault_by kind fault = fault

abbrev pub fault_of_folder : FolderFault → ServeFault
fault_of_folder folder.InUse = Folder folder.InUse
fault_of_folder (folder.Failed fault) = fault_by (error_kind fault) (Folder (folder.Failed fault))

abbrev pub serve_exit_code : ServeFault → ℕ
serve_exit_code NoMemory = 5
serve_exit_code (Folder fault) = 6
serve_exit_code (Failed fault) = 6

-- the line on standard error
abbrev pub serve_error_line : ServeFault → List ℕ
serve_error_line NoMemory = codes "no memory"
serve_error_line (Folder folder.InUse) = codes "another server has the folder"
serve_error_line (Folder (folder.Failed fault)) = codes "the folder can't be used"
serve_error_line (Failed fault) = codes "the port can't be used"

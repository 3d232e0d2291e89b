-- What the program says where the page isn't served, or no longer: this project's own rule.
use Rattle.std.specs.Prelude.{ℕ, List, Option, Some, None, codes}
use Rattle.std.specs.declared.io.ErrorKind.{ErrorKind}
use Rattle.std.specs.declared.io.ErrorKind.TheVariants as error
use Rattle.site_file.specs.declared.file.NoSiteFile.TheVariants as unread
use Rattle.site_file.specs.declared.wrong.FileWrong.{FileWrong}
use Rattle.site_opening.specs.declared.opening.NoSite.{NoSite}
use Rattle.site_opening.specs.declared.opening.NoSite.TheVariants.{Unread, Unsynced}
use Rattle.review_server.specs.declared.fault.ReviewFault.{ReviewFault}
use Rattle.review_server.specs.declared.fault.ReviewFault.TheVariants.{BadSite, NoMemory, InUse, SiteFailed, PortFailed}

-- Want of memory is told as that, wherever it comes from.
abbrev pub failed_by : ErrorKind → ReviewFault → ReviewFault
failed_by error.OutOfMemory fault = NoMemory
failed_by kind fault = fault

abbrev pub fault_of_site : NoSite → ReviewFault
fault_of_site (Unread (unread.Wrong wrong)) = BadSite wrong
fault_of_site (Unread unread.ReadFailed) = SiteFailed
fault_of_site (Unread unread.NoMemory) = NoMemory
fault_of_site (Unsynced fault) = SiteFailed

abbrev pub review_exit_code : ReviewFault → ℕ
review_exit_code (BadSite wrong) = 3
review_exit_code NoMemory = 5
review_exit_code fault = 6

-- the line on standard error
abbrev pub review_error_line : ReviewFault → List ℕ
review_error_line (BadSite wrong) = codes "bad site"
review_error_line NoMemory = codes "no memory"
review_error_line InUse = codes "another program has the site's file"
review_error_line SiteFailed = codes "the site's file can't be used"
review_error_line PortFailed = codes "the port can't be used"

-- what is wrong with the site's file
abbrev pub wrong_of : ReviewFault → Option FileWrong
wrong_of (BadSite wrong) = Some wrong
wrong_of fault = None

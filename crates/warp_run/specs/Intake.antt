-- What reading the site line and the lane behind it gives.
use Rattle.std.specs.Prelude.{◌≡◌, ℕ, ◌+◌, List, length, Option, Some, None, Ok}
use Rattle.byte_streams.specs.Cutting.{ending_of}
use Rattle.byte_streams.specs.Reading.{Reading, input}
use Rattle.byte_streams.specs.declared.fault.LineFault.{LineFault}
use Rattle.byte_streams.specs.declared.fault.LineFault.TheVariants as line_fault
use Rattle.upload_reader.specs.Upload.{UploadState, Begins}
use Rattle.upload_reader.specs.declared.hello_fault.HelloFault.{HelloFault}
use Rattle.upload_reader.specs.declared.hello_fault.HelloFault.TheVariants as hello_fault
use Rattle.site_line.specs.Site.{Site as PlainSite, IsSiteLine}
use Rattle.site_line.specs.Reading.{AnswersAs}
use Rattle.site_line.specs.declared.site.Site.{Site}
use Rattle.site_line.specs.declared.fault.SiteFault.{SiteFault}
use Rattle.site_line.specs.declared.fault.SiteFault.TheVariants as site_fault
use Rattle.warp_run.specs.Run.{site_line, HasBadSite, HasFailedRead, ReadWhileUndecided}
use Rattle.warp_run.specs.declared.status.Status.{Status}
use Rattle.warp_run.specs.declared.status.Status.TheVariants.{BadSite, BadHello, OutOfMemory, InputOutput}

module _ {R : Type 0} where
  -- the last line is the site line, and this is the site that it says
  pub record IsBehindSite (lines : Reading R) (site : Site) : Type 0 where
    pub plain : PlainSite
    pub cut_is : site_line (input lines) (ending_of lines.answers) ≡ Some (Ok lines.line)
    pub site_is : IsSiteLine lines.line plain
    pub stands : AnswersAs site plain
    pub place : lines.place ≡ length lines.line + 1
    pub fault : lines.fault ≡ None

  -- the upload begins behind the line of that site, and each read was needed
  pub record IsOpened (site : Site) (upload : UploadState R) : Type 0 where
    pub at : Reading R
    pub needed : ReadWhileUndecided at.answers
    pub behind : IsBehindSite at site
    pub begins : Begins at upload

-- why there is no site; where memory is refused nothing is said
abbrev pub SaysNoSite : Status → List ℕ → Option LineFault → Type 0
SaysNoSite BadSite input ending = HasBadSite input ending
SaysNoSite InputOutput input ending = HasFailedRead input ending
SaysNoSite OutOfMemory input ending = Unit {0}
SaysNoSite other input ending = ⊥

-- ---- what a fault of a line, of a site or of a hello means here

abbrev pub no_site : LineFault → Status
no_site line_fault.ReadFailed = InputOutput
no_site line_fault.NoMemory = OutOfMemory
no_site other = BadSite

abbrev pub bad_site : SiteFault → Status
bad_site site_fault.NoMemory = OutOfMemory
bad_site other = BadSite

abbrev pub no_hello : HelloFault → Status
no_hello hello_fault.NoMemory = OutOfMemory
no_hello other = BadHello

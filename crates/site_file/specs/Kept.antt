-- What clauses see of a site that was read from a file, which file it answers as, and why there is none.
use Rattle.std.specs.Prelude.{◌≡◌, ℕ, List, [], Option, Some, None}
use Rattle.byte_streams.specs.Reading.{Reading}
use Rattle.byte_streams.specs.declared.fault.LineFault.{LineFault}
use Rattle.byte_streams.specs.declared.fault.LineFault.TheVariants as line
use Rattle.own_pages.specs.OwnPages.{own_page_at}
use Rattle.own_pages.specs.declared.pages.OwnPages.{OwnPages}
use Rattle.site_line.specs.Reading.{AnswersAs}
use Rattle.site_line.specs.declared.site.Site.{Site}
use Rattle.site_file.specs.SiteFile.{FileSite, HasWrong, own_page}
use Rattle.site_file.specs.declared.file.NoSiteFile.{NoSiteFile}
use Rattle.site_file.specs.declared.file.NoSiteFile.TheVariants.{Wrong, ReadFailed, NoMemory}
use Rattle.site_file.specs.declared.file.SiteFile.{SiteFile}

abbrev pub file_site : SiteFile → Site
file_site file = file.site

abbrev pub file_own : SiteFile → OwnPages
file_own file = file.own

-- it answers as that file's site does
pub record AnswersAsFile (file : SiteFile) (plain : FileSite) : Type 0 where
  pub site : AnswersAs (file_site file) plain.site
  pub own : (client : List ℕ) (visit : ℕ)
      → own_page_at (file_own file) client visit ≡ own_page plain.own client visit

-- nothing was read of these lines yet
pub record IsUnread {R : Type 0} (lines : Reading R) : Type 0 where
  pub answers : lines.answers ≡ []
  pub place : lines.place ≡ 0
  pub going : lines.fault ≡ None

-- what was read says no site for that reason; where memory is refused nothing is said
abbrev pub SaysNoFile : List ℕ → Option LineFault → NoSiteFile → Type 0
SaysNoFile input ending (Wrong wrong) = HasWrong input ending wrong
SaysNoFile input ending ReadFailed = ending ≡ Some line.ReadFailed
SaysNoFile input ending NoMemory = Unit {0}

-- A site that was read from a file which is written on: this project's own rule.
use Rattle.std.specs.Prelude.{◌≡◌, ℕ, List, length, Bool, false, Some}
use Rattle.byte_streams.specs.declared.fault.LineFault.TheVariants.{Truncated}
use Rattle.site_file.specs.SiteFile.{FileSite, IsSiteFile}
use Rattle.site_file.specs.Kept.{AnswersAsFile}
use Rattle.site_opening.specs.declared.opening.SiteInFile.{SiteInFile}

-- `seen` is what a file gives to read, `durable` how many of these bytes stay whatever happens, and `lost` tells that
-- nothing is known of it.
module _ {F : Type 0} (seen : F → List ℕ) (durable : F → ℕ) (lost : F → Bool) where
  -- The file has just these bytes, which say that site, and all of them stay.
  pub record IsSiteInFile (opened : SiteInFile F) : Type 0 where
    pub first : FileSite
    pub bytes : List ℕ
    pub says : IsSiteFile bytes (Some Truncated) first
    pub answers : AnswersAsFile opened.site first
    pub has : seen opened.file ≡ bytes
    pub whole : opened.whole ≡ length bytes
    pub stays : durable opened.file ≡ length bytes
    pub sound : lost opened.file ≡ false

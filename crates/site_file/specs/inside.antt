-- What the readers of a site file answer, want of memory left aside, and what stands behind a line more.
use Rattle.std.specs.Prelude.{◌≡◌, ℕ, List, [], ◌∷◌, ◌++◌, length, Bool, false, None, Result, Ok, Err}
use Rattle.std.specs.List.{AllByRecursion}
use Rattle.byte_streams.specs.Cutting.{ending_of}
use Rattle.byte_streams.specs.Reading.{Reading, ReadsWhile, input}
use Rattle.byte_streams.specs.declared.fault.LineFault.{LineFault}
use Rattle.byte_streams.specs.declared.fault.LineFault.TheVariants as line
use Rattle.upload_reader.specs.inside.Passed.{PassedBetween}
use Rattle.own_pages.specs.OwnPages.{own_page_at}
use Rattle.site_line.specs.Site.{Site as PlainSite, IsSiteLine}
use Rattle.site_line.specs.Reading.{ArePartsOfSite}
use Rattle.site_line.specs.declared.parts.SiteParts.{SiteParts}
use Rattle.site_file.specs.Addition.{Addition, addition_in}
use Rattle.site_file.specs.Kept.{SaysNoFile}
use Rattle.site_file.specs.SiteFile.{FileSite, with_additions, own_page, max_file_line, IsShort, SaysFile, IsSiteFile, FileIsUndecided, site_value_in, wrong_behind, none_behind}
use Rattle.site_file.specs.declared.file.NoSiteFile.{NoSiteFile}
use Rattle.site_file.specs.declared.file.NoSiteFile.TheVariants as none
use Rattle.site_file.specs.declared.growing.Growing.{Growing}
use Rattle.site_file.specs.declared.wrong.FileWrongKind.TheVariants.{NoLine, Says}
use Rattle.site_file.specs.declared.wrong.LineWrong.{LineWrong}
use Rattle.site_file.specs.declared.wrong.NoAddition.{NoAddition}
use Rattle.site_file.specs.declared.wrong.NoAddition.TheVariants.{Wrong, NoMemory}

abbrev pub GivesMember : {X Y : Type 0} → (X → Y) → Result X NoAddition → Result Y LineWrong → Type 0
GivesMember view (Ok x) said = said ≡ Ok (view x)
GivesMember view (Err (Wrong why)) said = said ≡ Err why
GivesMember view (Err NoMemory) said = Unit {0}

-- what a first line says, or what is wrong with it
abbrev pub SaysFirst : List ℕ → Result SiteParts NoAddition → Type 0
SaysFirst line (Ok parts) = (plain : PlainSite) × IsSiteLine line plain × ArePartsOfSite parts plain
SaysFirst line (Err (Wrong why)) = site_value_in line ≡ Err why
SaysFirst line (Err NoMemory) = Unit {0}

-- what is kept so far is what that site is made of
pub record StandsSoFar (growing : Growing) (file : FileSite) : Type 0 where
  pub parts : ArePartsOfSite growing.parts file.site
  pub own : (client : List ℕ) (visit : ℕ) → own_page_at growing.own client visit ≡ own_page file.own client visit

-- whatever site it was made of, it is then made of that with one line more
abbrev pub AddsToSite : Addition → Growing → Growing → Type 0
AddsToSite add old new = (site : PlainSite) (adds : List Addition)
    → StandsSoFar old (with_additions site adds) → StandsSoFar new (with_additions site (adds ++ add ∷ []))

-- a line was added that says something, or it is wrong
abbrev pub AddsWhatIsSaid : Result Addition LineWrong → Growing → Growing → Result (Unit {0}) NoAddition → Type 0
AddsWhatIsSaid said old new (Ok done) = (add : Addition) × (said ≡ Ok add) × AddsToSite add old new
AddsWhatIsSaid said old new (Err (Wrong why)) = said ≡ Err why
AddsWhatIsSaid said old new (Err NoMemory) = Unit {0}

-- ---- the file, line by line

-- So many lines were taken, and what is kept answers as what they say.
pub record HasTaken {R : Type 0} (lines : Reading R) (count : ℕ) (growing : Growing) : Type 0 where
  pub going : lines.fault ≡ None
  pub front : List (List ℕ)
  pub count_is : length front ≡ count
  pub behind : PassedBetween max_file_line wrong_behind none_behind (input lines) 0 lines.place front
  pub short : AllByRecursion IsShort front
  pub file : FileSite
  pub says : SaysFile front file
  pub stands : StandsSoFar growing file

-- why there is no line of that number, and why it adds nothing
abbrev pub no_file_line : ℕ → LineFault → NoSiteFile
no_file_line number line.NoMemory = none.NoMemory
no_file_line number line.ReadFailed = none.ReadFailed
no_file_line number fault = none.Wrong (record { line = number; kind = NoLine fault })

abbrev pub nothing_added : ℕ → NoAddition → NoSiteFile
nothing_added number (Wrong why) = none.Wrong (record { line = number; kind = Says why })
nothing_added number NoMemory = none.NoMemory

-- the line of that number was taken, or it is wrong
abbrev pub TakesFileLine : ℕ → List ℕ → Growing → Growing → Result (Unit {0}) NoSiteFile → Type 0
TakesFileLine number line old new (Ok done) = (add : Addition) × (addition_in line ≡ Ok add) × AddsToSite add old new
TakesFileLine number line old new (Err (none.Wrong wrong)) =
    (why : LineWrong) × (addition_in line ≡ Err why) × (wrong ≡ record { line = number; kind = Says why })
TakesFileLine number line old new (Err none.ReadFailed) = ⊥
TakesFileLine number line old new (Err none.NoMemory) = Unit {0}

-- What is kept, where the file ends and nothing is behind its last line; else there is no line of that number.
abbrev pub kept_at_end : ℕ → LineFault → Bool → Growing → Result Growing NoSiteFile
kept_at_end number line.Truncated false growing = Ok growing
kept_at_end number fault has_rest growing = Err (no_file_line number fault)

abbrev pub TakenWhole : {R : Type 0} → Reading R → Result Growing NoSiteFile → Type 0
TakenWhole lines (Ok growing) =
    (file : FileSite) × IsSiteFile (input lines) (ending_of lines.answers) file × StandsSoFar growing file
TakenWhole lines (Err why) = SaysNoFile (input lines) (ending_of lines.answers) why

-- all further lines were taken, or one of them is wrong, or a read failed
pub record TakesRest {R : Type 0} (old new : Reading R) (result : Result Growing NoSiteFile) : Type 0 where
  pub reads : ReadsWhile FileIsUndecided old new
  pub taken : TakenWhole new result

-- What a site file says, the law of its site, and its first faulty line: this project's own rules.
use Rattle.std.specs.Prelude.{◌≡◌, ◌≢◌, ℕ, ◌+◌, ◌≤◌, ◌==◌, ◌&&◌, List, [], ◌∷◌, ◌++◌, length, map, fold, flat_map, bytes_eq, if◌then◌else◌, Option, Some, None, is_some, option_map, Result, Ok, ◌⊎◌}
use Rattle.std.specs.List.{AllByRecursion}
use Rattle.std.specs.Option.{option_or}
use Rattle.std.specs.Result.{result_err}
use Rattle.serde_json.specs.Data.{Data}
use Rattle.serde_json.specs.Find.{as_object}
use Rattle.byte_streams.specs.Answers.{Answer, bytes_of}
use Rattle.byte_streams.specs.CompleteLines.{complete_lines, unended_line}
use Rattle.byte_streams.specs.declared.fault.LineFault.{LineFault}
use Rattle.byte_streams.specs.declared.fault.LineFault.TheVariants.{ReadFailed, Truncated}
use Rattle.upload_reader.specs.Front.{AreLinesTaken}
use Rattle.page_tree.specs.Tree.{Tree}
use Rattle.page_tree.specs.FirstFault.{unless, ok_unless, ◌>>=◌}
use Rattle.xpath_child.specs.Path.{Step}
use Rattle.conflict_desk.specs.declared.decision.Decision.{Decision}
use Rattle.site_line.specs.Site.{Entry, Site, IsSiteLine, page_of}
use Rattle.site_line.specs.Refused.{refused_member}
use Rattle.site_file.specs.Addition.{Addition, at_address, of_visit, more_patched, more_watched, decided, value_in, addition_in}
use Rattle.site_file.specs.declared.wrong.FileWrong.{FileWrong}
use Rattle.site_file.specs.declared.wrong.LineWrong.{LineWrong}
use Rattle.site_file.specs.declared.wrong.LineWrong.TheVariants.{NotOne, First}
use Rattle.site_file.specs.declared.wrong.FileWrongKind.{FileWrongKind}
use Rattle.site_file.specs.declared.wrong.FileWrongKind.TheVariants.{NoLine, Says}

-- ---- what lines add

-- a page of a visit alone
pub record VisitPage : Type 0 where
  pub client : List ℕ
  pub visit : ℕ
  pub page : Tree

-- The site as one line would say it that had all that the lines add, and beside it the pages of single visits.
pub record FileSite : Type 0 where
  pub site : Site
  pub own : List VisitPage

abbrev pub patched_by : Addition → List (List ℕ)
patched_by (more_patched addresses) = addresses
patched_by other = []

abbrev pub pages_by : Addition → List Entry
pages_by (at_address address page) = (address, page) ∷ []
pages_by other = []

abbrev pub watched_by : Addition → List (List Step)
watched_by (more_watched paths) = paths
watched_by other = []

abbrev pub decisions_by : Addition → List Decision
decisions_by (decided decision) = decision ∷ []
decisions_by other = []

abbrev pub own_by : Addition → List VisitPage
own_by (of_visit client visit page) = record { client = client; visit = visit; page = page } ∷ []
own_by other = []

-- behind what the first line says, each kind in the order of its lines
abbrev pub with_additions : Site → List Addition → FileSite
with_additions first adds = record {
  site = record first {
    patched = first.patched ++ flat_map patched_by adds;
    pages = first.pages ++ flat_map pages_by adds;
    watched = first.watched ++ flat_map watched_by adds;
    decisions = first.decisions ++ flat_map decisions_by adds;
  };
  own = flat_map own_by adds;
}

-- ---- its law

-- the last one of that visit
abbrev pub own_page : List VisitPage → List ℕ → ℕ → Option Tree
own_page own client visit =
    fold (λ page one. if bytes_eq one.client client && (one.visit == visit) then Some one.page else page) None own

-- the visit's own page, where it has one; else the last one at just its address
abbrev pub file_page : FileSite → List ℕ → ℕ → List ℕ → Option Tree
file_page file client visit address = option_or (own_page file.own client visit) (page_of file.site address)

-- ---- the file

-- how many bytes a line may have, without its line end
abbrev pub max_file_line : ℕ
max_file_line = 1048576

abbrev pub IsShort : List ℕ → Type 0
IsShort line = length line ≤ max_file_line

-- the first line is a site line, and each further one adds something
abbrev pub SaysFile : List (List ℕ) → FileSite → Type 0
SaysFile [] file = ⊥
SaysFile (first ∷ lines) file = (site : Site) × (adds : List Addition) × IsSiteLine first site
    × (map addition_in lines ≡ map Ok adds) × (file ≡ with_additions site adds)

-- The whole file says that site: its lines, behind the last of which it ends.
pub record IsSiteFile (bytes : List ℕ) (ending : Option LineFault) (file : FileSite) : Type 0 where
  pub short : AllByRecursion IsShort (complete_lines bytes)
  pub says : SaysFile (complete_lines bytes) file
  pub nothing_behind : unended_line bytes ≡ []
  pub ends : ending ≡ Some Truncated

-- ---- its first faulty line

-- why a value is no site
abbrev pub site_wrong : Data → Option LineWrong
site_wrong d = unless (is_some (as_object d)) NotOne (option_map First (refused_member d))

-- the value that the first line is, which is a site
abbrev pub site_value_in : List ℕ → Result Data LineWrong
site_value_in line = value_in line >>= λ d. ok_unless (site_wrong d) d

-- what is wrong with a line behind these by what it says
abbrev pub wrong_behind : List (List ℕ) → List ℕ → Option FileWrongKind
wrong_behind [] line = option_map Says (result_err (site_value_in line))
wrong_behind (first ∷ lines) line = option_map Says (result_err (addition_in line))

-- there is none behind these
abbrev pub none_behind : List (List ℕ) → LineFault → Option FileWrongKind
none_behind before fault = Some (NoLine fault)

-- these lines are taken, and how that ends; none where the file may go on
abbrev pub EndsBehind : List ℕ → Option LineFault → List (List ℕ) → Option FileWrongKind → Type 0
EndsBehind bytes ending front end = AreLinesTaken max_file_line wrong_behind none_behind bytes ending front end

-- nothing is wrong so far, and more may come
abbrev pub FileIsUndecided : List Answer → Type 0
FileIsUndecided answers = (front : List (List ℕ)) × EndsBehind (bytes_of answers) None front None

-- Behind lines none of which is wrong stands one that is, by what it says or as it is too long (`E4`); or there is
-- none, as more reads would be needed (`E2`), or the file ends in it, or before its first line (`E3`).
pub record HasWrong (bytes : List ℕ) (ending : Option LineFault) (wrong : FileWrong) : Type 0 where
  pub front : List (List ℕ)
  pub first : EndsBehind bytes ending front (Some wrong.kind)
  pub line_is : wrong.line ≡ length front + 1
  -- a failed read is no fault of the file, nor is it that it ends behind a line
  pub was_read : wrong.kind ≢ NoLine ReadFailed
  pub unended : wrong.kind ≡ NoLine Truncated → (front ≡ []) ⊎ (unended_line bytes ≢ [])

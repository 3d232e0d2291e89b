-- The sentence that tells the first faulty line of a site file: this project's own format.
use Rattle.std.specs.Prelude.{ℕ, List, ◌++◌, codes, decimal}
use Rattle.byte_streams.specs.LineFaultCode.{line_fault_code}
use Rattle.byte_streams.specs.declared.fault.LineFault.{LineFault}
use Rattle.byte_streams.specs.declared.fault.LineFault.TheVariants as line
use Rattle.page_tree.specs.Fault.{page_fault_code}
use Rattle.page_tree.specs.declared.fault.PageFault.{PageFault}
use Rattle.page_tree.specs.declared.fault.PageFault.TheVariants as page
use Rattle.xpath_child.specs.Fault.{path_fault_code}
use Rattle.xpath_child.specs.declared.fault.PathFaultKind.{PathFaultKind}
use Rattle.xpath_child.specs.declared.fault.PathFaultKind.TheVariants as path
use Rattle.upload_reader.specs.Hello.{hello_fault_code}
use Rattle.upload_reader.specs.declared.hello_fault.HelloFault.TheVariants as hello
use Rattle.site_line.specs.Fault.{site_fault_code}
use Rattle.site_line.specs.Refused.{site_member_word}
use Rattle.site_line.specs.declared.fault.SiteFault.TheVariants as site
use Rattle.site_file.specs.declared.wrong.FileWrong.{FileWrong}
use Rattle.site_file.specs.declared.wrong.LineWrong.{LineWrong}
use Rattle.site_file.specs.declared.wrong.LineWrong.TheVariants.{NotJson, NotOne, First, In}
use Rattle.site_file.specs.declared.wrong.FileWrongKind.{FileWrongKind}
use Rattle.site_file.specs.declared.wrong.FileWrongKind.TheVariants.{NoLine, Says}
use Rattle.site_file.specs.declared.wrong.MemberWrong.{MemberWrong}
use Rattle.site_file.specs.declared.wrong.MemberWrong.TheVariants.{Form, BadClient, BadPage, BadPath}
use Rattle.site_file.specs.declared.wrong.LineMember.{LineMember}
use Rattle.site_file.specs.declared.wrong.LineMember.TheVariants as at

-- ---- what a code means, in a few words

abbrev pub line_fault_words : LineFault → List ℕ
line_fault_words line.TooManyReads = codes " too many reads"
line_fault_words line.Truncated = codes " no line end"
line_fault_words line.LineTooLong = codes " longer than 1048576 bytes"
line_fault_words line.ReadFailed = codes " a read failed"
line_fault_words line.NoMemory = codes ""

abbrev pub page_fault_words : PageFault → List ℕ
page_fault_words page.NotAnElement = codes " no element"
page_fault_words page.BadName = codes " no name of an element"
page_fault_words page.BadAttribute = codes " attributes of another form"
page_fault_words page.BadChildren = codes " children of another form"
page_fault_words page.TooDeep = codes " more than 48 levels"
page_fault_words page.TooMany = codes " more than 4096 nodes"
page_fault_words page.NoMemory = codes ""

abbrev pub path_fault_words : PathFaultKind → List ℕ
path_fault_words path.NotAbsolute = codes " no / in front"
path_fault_words path.EmptyStep = codes " an empty step"
path_fault_words path.BadName = codes " no name of an element"
path_fault_words path.BadIndex = codes " no index"
path_fault_words path.TooManySteps = codes " more than 48 steps"
path_fault_words path.NoMemory = codes ""

-- ---- the sentence

abbrev pub line_member_word : LineMember → List ℕ
line_member_word at.Path = codes "path"
line_member_word at.Client = codes "client"
line_member_word at.Visit = codes "visit"
line_member_word at.Page = codes "page"
line_member_word at.Patched = codes "patched"
line_member_word at.Watch = codes "watch"
line_member_word at.Decide = codes "decide"

abbrev pub member_wrong_words : MemberWrong → List ℕ
member_wrong_words Form = site_fault_code site.BadMember ++ codes " missing or of another form"
member_wrong_words BadClient = hello_fault_code hello.BadClient ++ codes " no name of a client"
member_wrong_words (BadPage fault) = page_fault_code fault ++ page_fault_words fault
member_wrong_words (BadPath kind) = path_fault_code kind ++ path_fault_words kind

abbrev pub line_wrong_words : LineWrong → List ℕ
line_wrong_words NotJson = site_fault_code site.NotJson ++ codes " no JSON"
line_wrong_words NotOne = site_fault_code site.BadMember ++ codes " none of a site file's lines"
line_wrong_words (First which) =
    site_member_word which ++ (codes ": " ++ (site_fault_code site.BadMember ++ codes " of another form"))
line_wrong_words (In which why) = line_member_word which ++ (codes ": " ++ member_wrong_words why)

abbrev pub wrong_kind_words : FileWrongKind → List ℕ
wrong_kind_words (NoLine fault) = line_fault_code fault ++ line_fault_words fault
wrong_kind_words (Says wrong) = line_wrong_words wrong

-- behind its number
abbrev pub file_wrong_words : FileWrong → List ℕ
file_wrong_words wrong = decimal wrong.line ++ (codes ": " ++ wrong_kind_words wrong.kind)

-- behind the file's name as it was given
abbrev pub file_sentence : List ℕ → FileWrong → List ℕ
file_sentence name wrong = name ++ (codes ":" ++ file_wrong_words wrong)

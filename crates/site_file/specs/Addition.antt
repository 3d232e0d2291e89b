-- What a line behind the first of a site file adds: this project's own format, in JSON (RFC 8259). Unknown members are
-- ignored, but not those that the first line has.
use Rattle.std.specs.Prelude.{ℕ, List, [], ◌∷◌, Bool, true, false, ◌&&◌, ◌||◌, not, if◌then◌else◌, Option, Some, None, is_some, option_and_then, Result, Ok, Err, codes}
use Rattle.std.specs.Option.{ok_or}
use Rattle.std.specs.Result.{result_map_both}
use Rattle.std.specs.Str.{is_utf8}
use Rattle.serde_json.specs.Data.{Data, Items, no_items, item}
use Rattle.serde_json.specs.Read.{read}
use Rattle.serde_json.specs.Find.{get, as_str, as_array, as_object}
use Rattle.page_tree.specs.Tree.{Tree}
use Rattle.page_tree.specs.Fault.{page_or_fault}
use Rattle.page_tree.specs.FirstFault.{◌>>=◌}
use Rattle.xpath_child.specs.Path.{Step}
use Rattle.xpath_child.specs.Fault.{path_in}
use Rattle.upload_reader.specs.Client.{is_client}
use Rattle.upload_reader.specs.Member.{number_in}
use Rattle.conflict_desk.specs.declared.decision.Decision.{Decision}
use Rattle.site_line.specs.Decision.{decision_in}
use Rattle.site_file.specs.declared.wrong.LineWrong.{LineWrong}
use Rattle.site_file.specs.declared.wrong.LineWrong.TheVariants.{NotJson, NotOne, In}
use Rattle.site_file.specs.declared.wrong.MemberWrong.TheVariants.{Form, BadClient, BadPage, BadPath}
use Rattle.site_file.specs.declared.wrong.LineMember.{LineMember}
use Rattle.site_file.specs.declared.wrong.LineMember.TheVariants as at

-- A page at an address, or of a client's visit alone; addresses that were patched, paths that are watched, a decision.
pub data Addition : Type 0 where
  at_address : List ℕ → Tree → Addition
  of_visit : List ℕ → ℕ → Tree → Addition
  more_patched : List (List ℕ) → Addition
  more_watched : List (List Step) → Addition
  decided : Decision → Addition

-- ---- members

-- it is there, whatever it is
abbrev pub has_named : List ℕ → Data → Bool
has_named name d = is_some (get name d)

-- Read so; `Z2` where it is absent or of another form.
abbrev pub member_given : {A : Type 0} → LineMember → (Data → Option A) → List ℕ → Data → Result A LineWrong
member_given which reads name d = ok_or (option_and_then reads (get name d)) (In which Form)

-- what each item is by that reader, or the first fault
abbrev pub items_given : {A : Type 0} → (Data → Result A LineWrong) → Items → Result (List A) LineWrong
items_given reads no_items = Ok []
items_given reads (item d ds) = reads d >>= λ x. items_given reads ds >>= λ rest. Ok (x ∷ rest)

-- ---- pages

abbrev pub page_given : Data → Result Tree LineWrong
page_given d = member_given at.Page Some (codes "page") d >>= λ value.
    result_map_both (λ page. page) (λ fault. In at.Page (BadPage fault)) (page_or_fault value)

-- `U1` where no client can have the name
abbrev pub client_given : Data → Result (List ℕ) LineWrong
client_given d = member_given at.Client as_str (codes "client") d >>= λ text.
    if is_client text then Ok text else Err (In at.Client BadClient)

abbrev pub own_page_given : Data → Result Addition LineWrong
own_page_given d = client_given d >>= λ client. member_given at.Visit (number_in 1) (codes "visit") d >>= λ visit.
    page_given d >>= λ page. Ok (of_visit client visit page)

-- With one of `client` and `visit` the page is of a visit, and both must be there; the path is then a text, and not
-- looked at.
unfoldable pub page_line : Data → Result Addition LineWrong
page_line d = member_given at.Path as_str (codes "path") d >>= λ address.
    if has_named (codes "client") d || has_named (codes "visit") d then own_page_given d
    else (page_given d >>= λ page. Ok (at_address address page))

-- ---- the others

abbrev pub address_item : Data → Result (List ℕ) LineWrong
address_item d = ok_or (as_str d) (In at.Patched Form)

abbrev pub path_item : Data → Result (List Step) LineWrong
path_item d = ok_or (as_str d) (In at.Watch Form) >>= λ text.
    result_map_both (λ path. path) (λ fault. In at.Watch (BadPath fault.kind)) (path_in text)

unfoldable pub patched_line : Data → Result Addition LineWrong
patched_line d = member_given at.Patched as_array (codes "patched") d >>= items_given address_item >>= λ texts.
    Ok (more_patched texts)

unfoldable pub watch_line : Data → Result Addition LineWrong
watch_line d = member_given at.Watch as_array (codes "watch") d >>= items_given path_item >>= λ paths.
    Ok (more_watched paths)

unfoldable pub decide_line : Data → Result Addition LineWrong
decide_line d = member_given at.Decide decision_in (codes "decide") d >>= λ decision. Ok (decided decision)

-- ---- a line

-- by whether it has `page`, `patched`, `watch` and `decide`: just one of them, else it is none of a site file's lines
unfoldable pub addition_by : Bool → Bool → Bool → Bool → Data → Result Addition LineWrong
addition_by true false false false d = page_line d
addition_by false true false false d = patched_line d
addition_by false false true false d = watch_line d
addition_by false false false true d = decide_line d
addition_by page patched watch decide d = Err NotOne

-- what only the first line may say
abbrev pub has_first_member : Data → Bool
has_first_member d =
    has_named (codes "pages") d || has_named (codes "same") d
    || has_named (codes "quota") d || has_named (codes "workers") d

unfoldable pub addition_of : Data → Result Addition LineWrong
addition_of d = if is_some (as_object d) && not (has_first_member d)
    then addition_by (has_named (codes "page") d) (has_named (codes "patched") d) (has_named (codes "watch") d)
    (has_named (codes "decide") d) d
    else Err NotOne

-- the value of which a line is the JSON text, in UTF-8; else `Z1`
unfoldable pub value_in : List ℕ → Result Data LineWrong
value_in line = ok_or (if is_utf8 line then read line else None) NotJson

abbrev pub addition_in : List ℕ → Result Addition LineWrong
addition_in line = value_in line >>= addition_of

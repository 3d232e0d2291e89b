-- Why one event can't be replayed: from the page that it was made on, the page that stands there now, the event, and
-- where it acts there (this project's own rules). Each rule has the code that reports show for it.
use Rattle.std.specs.Prelude.{ℕ, List, Bool, true, false, not, ◌&&◌, ◌==◌, if◌then◌else◌, Option, Some, None, is_some, option_and_then, codes}
use Rattle.std.specs.Option.{option_map_or}
use Rattle.std.specs.Str.{bytes_eq}
use Rattle.page_tree.specs.Tree.{Tree}
use Rattle.page_tree.specs.Look.{attribute_at}
use Rattle.page_tree.specs.Control.{control_at, start_text_at}
use Rattle.page_tree.specs.Under.{is_under}
use Rattle.page_tree.specs.declared.control.Control.{Control}
use Rattle.page_tree.specs.declared.control.Control.TheVariants as control
use Rattle.xpath_child.specs.Path.{Step}
use Rattle.xpath_child.specs.Targets.{target_in, only_place}
use Rattle.upload_reader.specs.declared.message.Event.{Event}
use Rattle.upload_reader.specs.declared.message.Event.TheVariants.{Input, Click, Submit}
use Rattle.visit_replay.specs.Aim.{Aim, acts, nowhere, lost}
use Rattle.visit_replay.specs.declared.outcome.ConflictKind.{ConflictKind}
use Rattle.visit_replay.specs.declared.outcome.ConflictKind.TheVariants.{NoPage, NoTarget, ManyTargets, NotAField, BaseChanged, NotALink, NotAForm, LogCut, Ui, Moved, Changed}

-- K2, K3 and K11 say why it isn't known where an event acts (`Aim`), K4 to K7 why it can't act there: their rules stand
-- below. K1, K8 and K9 are of a whole visit (`Outcome`), and K10 is of a visit behind another (`Following`)
abbrev pub conflict_code : ConflictKind → List ℕ
conflict_code NoPage = codes "K1"
conflict_code NoTarget = codes "K2"
conflict_code ManyTargets = codes "K3"
conflict_code NotAField = codes "K4"
conflict_code BaseChanged = codes "K5"
conflict_code NotALink = codes "K6"
conflict_code NotAForm = codes "K7"
conflict_code LogCut = codes "K8"
conflict_code Ui = codes "K9"
conflict_code Moved = codes "K10"
conflict_code Changed = codes "K11"

-- "disabled" means that the node itself has the attribute, whatever its value
abbrev pub is_disabled : List ℕ → Tree → Bool
is_disabled place page = is_some (attribute_at place (codes "disabled") page)

-- ---- inputs: into a text control that isn't disabled (K4), over an unchanged start text (K5)

-- K4, K5
unfoldable pub input_conflict : Control → Bool → Bool → Option ConflictKind
input_conflict control.Text disabled unchanged =
    if disabled then Some NotAField else (if unchanged then None else Some BaseChanged)
input_conflict _ disabled unchanged = Some NotAField

-- whether the path selected, on the old page, one text control that started as the one at the place does now; else K5.
-- A start text that is absent is the same as no other.
abbrev pub is_unchanged : Tree → Tree → List Step → List ℕ → Bool
is_unchanged old new path place =
    let was = option_and_then (λ there. start_text_at there old) (only_place (target_in path old)) in
    option_map_or (λ before. option_map_or (bytes_eq before) (start_text_at place new) false) was false

-- ---- clicks: on no radio button and no disabled checkbox (K4); one that made a request, on a link (K6)

abbrev pub off_link : ℕ → Option ConflictKind
off_link req = if req == 0 then None else Some NotALink

-- K4, K6
unfoldable pub click_conflict : Control → Bool → ℕ → Option ConflictKind
click_conflict control.Radio disabled req = Some NotAField
click_conflict control.Check disabled req = if disabled then Some NotAField else off_link req
click_conflict control.Link disabled req = None
click_conflict _ disabled req = off_link req

-- ---- submits: of a form, and by a button of it where one was pressed (K7)

unfoldable pub is_enabled_submit : Control → Bool → Bool
is_enabled_submit control.Submit disabled = not disabled
is_enabled_submit _ disabled = false

abbrev pub is_button_of : Tree → List ℕ → List ℕ → Bool
is_button_of new form place = is_under form place && is_enabled_submit (control_at place new) (is_disabled place new)

-- none was pressed, or the one that was found is an enabled one under the form; else K7
abbrev pub has_button : Tree → List ℕ → Option (List Step) → Option (List ℕ) → Bool
has_button new form None button = true
has_button new form (Some path) button = option_map_or (is_button_of new form) button false

-- K7 where it is no form, or the button none of it
unfoldable pub submit_conflict : Control → Bool → Option ConflictKind
submit_conflict control.Form button = if button then None else Some NotAForm
submit_conflict _ button = Some NotAForm

-- ---- any event

abbrev pub conflict_at : Tree → Tree → Event → List ℕ → Option (List ℕ) → Option ConflictKind
conflict_at old new (Input at target value) place button =
    input_conflict (control_at place new) (is_disabled place new) (is_unchanged old new target place)
conflict_at old new (Click at target req) place button =
    click_conflict (control_at place new) (is_disabled place new) req
conflict_at old new (Submit at target by req) place button =
    submit_conflict (control_at place new) (has_button new place by button)

-- where it isn't lost (K2, K3, K11), and acts somewhere
abbrev pub conflict_by : Aim → (List ℕ → Option (List ℕ) → Option ConflictKind) → Option ConflictKind
conflict_by (acts place button) found = found place button
conflict_by nowhere found = None
conflict_by (lost kind) found = Some kind

abbrev pub conflict : (Event → Aim) → Tree → Tree → Event → Option ConflictKind
conflict aim old new event = conflict_by (aim event) (conflict_at old new event)

abbrev pub is_bad : (Event → Aim) → Tree → Tree → Event → Bool
is_bad aim old new event = is_some (conflict aim old new event)

-- Where an event acts on the page that stands there now: where its path leads, or, if the site's law says so, where the
-- element stands that it was made on (this project's own rule).
use Rattle.std.specs.Prelude.{ℕ, List, [], ◌∷◌, ◌++◌, map, filter, take, length, ◌-◌, Bool, true, false, not, ◌&&◌, ◌==◌, if◌then◌else◌, Option, Some, None, option_map, option_and_then, slice_get, Result, Ok, Err, codes}
use Rattle.std.specs.List.{last_or, list_any, position, range_with_len}
use Rattle.std.specs.Option.{option_map_or}
use Rattle.std.specs.Str.{bytes_eq}
use Rattle.page_tree.specs.Tree.{Tree, element, words}
use Rattle.page_tree.specs.Look.{node_at, name_at, child_count_at, attribute_at}
use Rattle.page_tree.specs.Control.{control_at, start_checked_at}
use Rattle.page_tree.specs.Under.{is_under}
use Rattle.page_tree.specs.declared.control.Control.{Control}
use Rattle.page_tree.specs.declared.control.Control.TheVariants as control
use Rattle.page_looks.specs.Outline.{is_one_of, type_of}
use Rattle.page_looks.specs.Counterpart.{same_place, still_sends, alike_at, as_good_place, is_sent_alike}
use Rattle.xpath_child.specs.Path.{Step}
use Rattle.xpath_child.specs.Targets.{target_in, only_place}
use Rattle.xpath_child.specs.declared.path.Target.{Target}
use Rattle.xpath_child.specs.declared.path.Target.TheVariants.{Missing, One, Several}
use Rattle.upload_reader.specs.declared.message.Event.{Event}
use Rattle.upload_reader.specs.declared.message.Event.TheVariants.{Input, Click, Submit}
use Rattle.visit_replay.specs.declared.outcome.ConflictKind.{ConflictKind}
use Rattle.visit_replay.specs.declared.outcome.ConflictKind.TheVariants.{NoTarget, ManyTargets, NotAForm, Changed}

pub data Aim : Type 0 where
  -- on the target there, by a button where one was pressed and found
  acts : List ℕ → Option (List ℕ) → Aim
  -- it needs no element, and does nothing
  nowhere : Aim
  -- there is none, or none alone, or it has changed
  lost : ConflictKind → Aim

-- the place of its target
abbrev pub place_of_aim : Aim → Option (List ℕ)
place_of_aim (acts place button) = Some place
place_of_aim other = None

-- that of the button that was pressed
abbrev pub button_of_aim : Aim → Option (List ℕ)
button_of_aim (acts place button) = button
button_of_aim other = None

-- the place that a path leads to (K2: none, K3: several)
abbrev pub on_target : Target → (List ℕ → Aim) → Aim
on_target Missing found = lost NoTarget
on_target (One place) found = found place
on_target Several found = lost ManyTargets

-- ---- by its path

abbrev pub path_of : Event → List Step
path_of (Input at target value) = target
path_of (Click at target req) = target
path_of (Submit at target by req) = target

-- the path of the button that was pressed
abbrev pub by_of : Event → Option (List Step)
by_of (Submit at target by req) = by
by_of other = None

-- the place of that button, where one was pressed and its path selects one place
abbrev pub button_by_path : Tree → Option (List Step) → Option (List ℕ)
button_by_path page by = option_and_then (λ path. only_place (target_in path page)) by

abbrev pub by_path : Tree → Event → Aim
by_path new event =
    on_target (target_in (path_of event) new) (λ place. acts place (button_by_path new (by_of event)))

-- ---- by its element: which path tells it, and whether it needs one

-- a submit goes by the button that was pressed
abbrev pub goes_by : Event → List Step
goes_by (Submit at target (Some by) req) = by
goes_by event = path_of event

-- a click on it does something by itself: it is a link, a checkbox, a radio button, or a button of any kind
abbrev pub is_active : Control → Option (List ℕ) → Bool
is_active control.Text name = false
is_active control.Form name = false
is_active control.Other name = option_map_or (is_one_of (codes "button" ∷ codes "input" ∷ [])) name false
is_active _ name = true

abbrev pub needs_none : Tree → Event → List ℕ → Bool
needs_none old (Click at target req) place = req == 0 && not (is_active (control_at place old) (name_at place old))
needs_none old other place = false

abbrev pub is_link : Control → Bool
is_link control.Link = true
is_link _ = false

-- it is a click on a link that made a request
abbrev pub asks_by_link : Tree → Event → List ℕ → Bool
asks_by_link old (Click at target req) place = not (req == 0) && is_link (control_at place old)
asks_by_link old other place = false

-- ---- by its element: the counterpart

abbrev pub found_or : {X : Type 0} → ConflictKind → Option X → Result X ConflictKind
found_or kind (Some one) = Ok one
found_or kind None = Err kind

-- several may look so (K3), or none (K2)
abbrev pub none_or_many : {X : Type 0} → List X → ConflictKind
none_or_many [] = NoTarget
none_or_many (one ∷ rest) = ManyTargets

-- The same element, whose nearest anchor must still send the same (K11). Without an anchor a link that was asked is as
-- good as each other of its look, if all send the same.
abbrev pub by_look : List (List ℕ) → Tree → Tree → Bool → List ℕ → Result (List ℕ) ConflictKind
by_look fresh old new asks p =
    option_map_or (λ q. if still_sends fresh old new p then Ok q else Err Changed) (same_place old new p)
    (found_or (none_or_many (alike_at old new p)) (if asks then as_good_place fresh old new p else None))

abbrev pub is_hidden_input : Tree → Bool
is_hidden_input (element name attributes children) =
    bytes_eq name (codes "input") && bytes_eq (type_of attributes) (codes "hidden")
is_hidden_input (words text) = false

abbrev pub is_hidden_at : Tree → List ℕ → Bool
is_hidden_at t place = option_map_or is_hidden_input (node_at place t) false

abbrev pub is_same_name : Option (List ℕ) → Option (List ℕ) → Bool
is_same_name (Some name) (Some other) = bytes_eq name other
is_same_name None None = true
is_same_name name other = false

-- the hidden inputs of that name among the children of a node, by their places
abbrev pub is_hidden_named : Option (List ℕ) → Tree → List ℕ → Bool
is_hidden_named name t q = is_hidden_at t q && is_same_name (attribute_at q (codes "name") t) name

abbrev pub hidden_named : Option (List ℕ) → List ℕ → Tree → List (List ℕ)
hidden_named name parent t =
    filter (is_hidden_named name t) (map (λ i. parent ++ i ∷ []) (range_with_len 0 (child_count_at parent t)))

-- the k-th of the one list, where the k-th of the other is the one that is asked for and they are as many
abbrev pub twin_in : {X : Type 0} → (X → Bool) → List X → List X → Result X ConflictKind
twin_in is_it olds news = found_or (none_or_many news)
    (if length olds == length news then option_and_then (slice_get news) (position is_it olds) else None)

abbrev pub above : List ℕ → List ℕ
above p = take (length p - 1) p

-- the one under q that stands there as p stands under its parent
abbrev pub hidden_twin : Tree → Tree → List ℕ → List ℕ → Result (List ℕ) ConflictKind
hidden_twin old new p q = let name = attribute_at p (codes "name") old in
    twin_in (bytes_eq p) (hidden_named name (above p) old) (hidden_named name q new)

abbrev pub and_then : Result (List ℕ) ConflictKind → (List ℕ → Result (List ℕ) ConflictKind)
    → Result (List ℕ) ConflictKind
and_then (Ok place) next = next place
and_then (Err kind) next = Err kind

-- a hidden input goes by its parent, since it isn't seen
abbrev pub counterpart : List (List ℕ) → Tree → Tree → Bool → List ℕ → Result (List ℕ) ConflictKind
counterpart fresh old new asks p = if is_hidden_at old p
    then and_then (by_look fresh old new false (above p)) (hidden_twin old new p) else by_look fresh old new asks p

-- ---- by its element: whether it has changed (K11), and its form (K7)

abbrev pub is_form : Control → Bool
is_form control.Form = true
is_form _ = false

-- the nearest form around the node there
abbrev pub form_around : Tree → List ℕ → Option (List ℕ)
form_around t place = last_or None
    (filter (λ at. is_form (control_at at t)) (map (λ n. take n place) (range_with_len 0 (length place))))

-- neither stands in a form, or both do, in forms that send the same
abbrev pub are_forms_alike : List (List ℕ) → Tree → Tree → Option (List ℕ) → Option (List ℕ) → Bool
are_forms_alike fresh old new (Some f) (Some g) = is_sent_alike fresh old new f g
are_forms_alike fresh old new None None = true
are_forms_alike fresh old new f g = false

abbrev pub is_check : Control → Bool
is_check control.Check = true
is_check _ = false

-- of a field or a checkbox: it sends what it sent, and so does the form around it
abbrev pub is_kept : List (List ℕ) → Tree → Tree → List ℕ → List ℕ → Bool
is_kept fresh old new p q = is_sent_alike fresh old new p q
    && are_forms_alike fresh old new (form_around old p) (form_around new q)

abbrev pub is_one_state : Bool → Bool → Bool
is_one_state was is = if was then is else not is

-- a checkbox starts as it did
abbrev pub is_clicked_alike : List (List ℕ) → Tree → Tree → List ℕ → List ℕ → Bool
is_clicked_alike fresh old new p q = if is_check (control_at p old)
    then is_kept fresh old new p q && is_one_state (start_checked_at p old) (start_checked_at q new)
    else is_sent_alike fresh old new p q

abbrev pub unless_changed : Bool → Aim → Aim
unless_changed alike aim = if alike then aim else lost Changed

-- of the two buttons and the forms around them
abbrev pub pressed_in : List (List ℕ) → Tree → Tree → List ℕ → List ℕ → Option (List ℕ) → Aim
pressed_in fresh old new p q None = lost NotAForm
pressed_in fresh old new p q (Some g) = unless_changed (is_kept fresh old new p q) (acts g (Some q))

abbrev pub settled : List (List ℕ) → Tree → Tree → Event → List ℕ → List ℕ → Aim
settled fresh old new (Input at target value) p q = unless_changed (is_kept fresh old new p q) (acts q None)
settled fresh old new (Click at target req) p q = unless_changed (is_clicked_alike fresh old new p q) (acts q None)
settled fresh old new (Submit at target None req) p q = unless_changed (is_sent_alike fresh old new p q) (acts q None)
settled fresh old new (Submit at target (Some by) req) p q = pressed_in fresh old new p q (form_around new q)

-- the event's target is the form around the button that was pressed
abbrev pub is_in_its_form : Tree → Event → List ℕ → Bool
is_in_its_form old (Submit at target (Some by) req) p = option_map_or
    (λ f. option_map_or (bytes_eq f) (only_place (target_in target old)) false) (form_around old p) false
is_in_its_form old other p = true

abbrev pub on_found : Result (List ℕ) ConflictKind → (List ℕ → Aim) → Aim
on_found (Ok place) next = next place
on_found (Err kind) next = lost kind

abbrev pub from_place : List (List ℕ) → Tree → Tree → Event → List ℕ → Aim
from_place fresh old new event p =
    if not (is_in_its_form old event p) then lost NotAForm else
    (if needs_none old event p then nowhere else
    on_found (counterpart fresh old new (asks_by_link old event p) p) (settled fresh old new event p))

abbrev pub by_element : List (List ℕ) → Tree → Tree → Event → Aim
by_element fresh old new event = on_target (target_in (goes_by event) old) (from_place fresh old new event)

-- ---- as the site's law says: none, or these names are fresh

abbrev pub aim_of : Option (List (List ℕ)) → Tree → Tree → Event → Aim
aim_of None old new event = by_path new event
aim_of (Some fresh) old new event = by_element fresh old new event

-- ---- a submit whose form sends a touched field that it didn't send, or the other way round (K11)

-- an input, or a click on a checkbox
abbrev pub touches : Tree → Event → List ℕ → Bool
touches old (Input at target value) p = true
touches old (Click at target req) p = is_check (control_at p old)
touches old (Submit at target by req) p = false

-- of two fields and two forms: one field stands under its form, the other doesn't
abbrev pub is_under_one : List ℕ → List ℕ → List ℕ → List ℕ → Bool
is_under_one f g p q = not (is_one_state (is_under f p) (is_under g q))

-- where the event's path led on the recorded page, and where it acts now
abbrev pub both_places : (Event → Aim) → Tree → Event → Option (List ℕ × List ℕ)
both_places aim old event = option_and_then (λ p. option_map (λ q. (p, q)) (place_of_aim (aim event)))
    (only_place (target_in (path_of event) old))

abbrev pub strays : (Event → Aim) → Tree → List ℕ → List ℕ → Event → Bool
strays aim old f g event = option_map_or (λ at. touches old event at.0 && is_under_one f g at.0 at.1)
    (both_places aim old event) false

abbrev pub is_submit : Event → Bool
is_submit (Submit at target by req) = true
is_submit other = false

-- an event before the submit touched a field that strays; by their paths none does
abbrev pub has_strayed : Option (List (List ℕ)) → Tree → Tree → List Event → Event → Bool
has_strayed None old new before event = false
has_strayed (Some fresh) old new before event = let aim = by_element fresh old new in is_submit event
    && option_map_or (λ forms. list_any (strays aim old forms.0 forms.1) before) (both_places aim old event) false

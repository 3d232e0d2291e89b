-- What a visit asked for, event by event.
use Rattle.std.proofs.Common.{◌≡◌, ◌<◌, ℕ, zero, suc, ◌+◌, ◌≤◌, length, get_or, subst, List, [], ◌∷◌, ◌++◌, Bool, true, false, not, take, ◌==◌, if◌then◌else◌, is_some, slice_get, codes, Option, Some, None, IfSome, option_map, option_and_then, refl, sym, ap, ap₂, ◌∙◌, append-nil, arith}
use Rattle.std.specs.List.{find, filter_map, range_with_len, cons_option}
use Rattle.std.specs.Option.{option_or}
use Rattle.std.specs.Str.{bytes_eq}
use Rattle.std.proofs.lemmas.List.Elements.{filter_map-append}
use Rattle.std.proofs.lemmas.List.Folds.{find-append}
use Rattle.std.proofs.lemmas.Option.{slice_get-get_or}
use Rattle.page_tree.specs.Tree.{Tree}
use Rattle.page_tree.specs.Number.{place_numbered}
use Rattle.page_looks.specs.Counterpart.{PagePair}
use Rattle.page_looks.specs.Sending.{without_fresh}
use Rattle.page_looks.proofs.CounterpartLaws.{bytes_one, bytes_same}
use Rattle.xpath_child.specs.Path.{Step}
use Rattle.xpath_child.specs.Targets.{target_in, only_place}
use Rattle.xpath_child.specs.declared.path.Target.{Target}
use Rattle.xpath_child.specs.declared.path.Target.TheVariants.{Missing, One, Several}
use Rattle.upload_reader.specs.Session.{request_of}
use Rattle.upload_reader.specs.declared.message.Event.{Event}
use Rattle.upload_reader.specs.declared.message.Event.TheVariants.{Input, Click, Submit}
use Rattle.client_log.specs.declared.visit.Visit.{Visit}
use Rattle.visit_replay.specs.Aim.{Aim, acts, on_target, path_of, by_of, button_by_path, by_path, by_element, place_of_aim, button_of_aim}
use Rattle.visit_replay.specs.Difference.{was_asked, asks_now, passing_over}
use Rattle.visit_replay.specs.Form.{form_request}
use Rattle.visit_replay.specs.Requests.{link_request, request_at, event_request}
use Rattle.visit_replay.specs.declared.requests.Request.{Request}
use Rattle.visit_replay.specs.inside.Differing.{IsTargetOf, Selects}
use Rattle.visit_replay.specs.inside.OneEvent.{places_numbered}
use Rattle.visit_replay.proofs.FirstOfNumber.{next_if, find_one, stays, comes}
use Rattle.visit_replay.proofs.Stepping.{range_more}

-- ---- where its path leads

place_led : (page : Tree) (event : Event) → place_of_aim (by_path page event) ≡ only_place (target_in (path_of event) page)
place_led page event = go (target_in (path_of event) page)
  where
    go : (t : Target) → place_of_aim (on_target t (λ place. acts place (button_by_path page (by_of event)))) ≡ only_place t
    go Missing = refl
    go (One p) = refl
    go Several = refl

pub leads_to : (page : Tree) (event : Event) (node : Option ℕ) → Selects page (path_of event) node → IsTargetOf page event node
leads_to page event None selects = place_led page event ∙ sym selects.1
leads_to page event (Some n) selects = (selects.0, place_led page event ∙ sym selects.1)

pub selected_one : (page : Tree) (path : List Step) (number : ℕ) → Selects page path (Some number) → target_in path page ≡ One (place_numbered number page)
selected_one page path number selects = go (target_in path page) selects.1
  where
    go : (t : Target) → Some (place_numbered number page) ≡ only_place t → t ≡ One (place_numbered number page)
    go Missing is = cc
    go (One p) is = let same : place_numbered number page ≡ p = cc in ap One (sym same)
    go Several is = cc

pub aims_there : (page : Tree) (event : Event) (target : ℕ) (button : Option ℕ) → IsTargetOf page event (Some target) → places_numbered button page ≡ button_by_path page (by_of event)
    → by_path page event ≡ acts (place_numbered target page) (places_numbered button page)
aims_there page event target button leads pressed = go (target_in (path_of event) page) leads.1
  where
    go : (t : Target) → place_of_aim (on_target t (λ place. acts place (button_by_path page (by_of event)))) ≡ Some (place_numbered target page)
        → on_target t (λ place. acts place (button_by_path page (by_of event))) ≡ acts (place_numbered target page) (places_numbered button page)
    go Missing is = cc
    go (One p) is = let same : p ≡ place_numbered target page = cc in ap₂ acts same (sym pressed)
    go Several is = cc

-- ---- there, where the event acts

pub stands_in : (visit : Visit) (events : List Event) (k : ℕ) (event : Event) → events ≡ visit.events → k < length events → event ≡ get_or events k event → slice_get visit.events k ≡ Some event
stands_in visit events k event are below is = subst (λ them. slice_get them k ≡ Some event) are (slice_get-get_or events k event below ∙ ap Some (sym is))

pub asked_nothing : (visit : Visit) (k : ℕ) (event : Event) → slice_get visit.events k ≡ Some event → place_of_aim (by_path visit.page event) ≡ None → was_asked visit k ≡ None
asked_nothing visit k event at none =
    ap (option_and_then (event_request (by_path visit.page) visit.address visit.page (take k visit.events))) at
    ∙ ap (option_and_then (request_at (by_path visit.page) visit.address visit.page (take k visit.events) event (button_of_aim (by_path visit.page event)))) none

none_of : {A B : Type 0} (f : A → Option B) (o : Option A) → ((a : A) → f a ≡ None) → option_and_then f o ≡ None
none_of f None all = refl
none_of f (Some a) all = all a

none_at : (aim : Event → Aim) (address : List ℕ) (new : Tree) (earlier : List Event) (event : Event) (button : Option (List ℕ)) (place : List ℕ)
    → request_of event ≡ 0 → request_at aim address new earlier event button place ≡ None
none_at aim address new earlier (Input at target value) button place none = refl
none_at aim address new earlier (Click at target req) button place none = ap (λ n. if n == 0 then None else link_request n place new) none
none_at aim address new earlier (Submit at target by req) button place none =
    ap (λ n. if n == 0 then None else Some (form_request aim address new earlier button place n)) none

-- where its path leads to one node
pub asked_where : (visit : Visit) (k : ℕ) (event : Event) (number : ℕ) (button : Option ℕ) → slice_get visit.events k ≡ Some event
    → by_path visit.page event ≡ acts (place_numbered number visit.page) (places_numbered button visit.page)
    → request_at (by_path visit.page) visit.address visit.page (take k visit.events) event (places_numbered button visit.page) (place_numbered number visit.page) ≡ was_asked visit k
asked_where visit k event number button at is =
    let aim = by_path visit.page in
    sym (ap (option_and_then (event_request aim visit.address visit.page (take k visit.events))) at
    ∙ ap (λ a. option_and_then (request_at aim visit.address visit.page (take k visit.events) event (button_of_aim a)) (place_of_aim a)) is)

-- the same of what it asks for now, where what has changed is passed over
abbrev asks_by : List (List ℕ) → Visit → Tree → ℕ → Event → Aim → Option Request
asks_by fresh visit new k event aim =
    option_and_then (request_at (by_element fresh visit.page new) visit.address new (take k visit.events) event (button_of_aim aim)) (place_of_aim aim)

pub asks_where : (fresh : List (List ℕ)) (visit : Visit) (new : Tree) (k : ℕ) (event : Event) (number : ℕ) (button : Option ℕ) → slice_get visit.events k ≡ Some event
    → passing_over visit.page new event ≡ acts (place_numbered number new) (places_numbered button new)
    → request_at (by_element fresh visit.page new) visit.address new (take k visit.events) event (places_numbered button new) (place_numbered number new) ≡ asks_now fresh visit new k
asks_where fresh visit new k event number button at is =
    sym (ap (option_and_then (λ e. asks_by fresh visit new k e (passing_over visit.page new e))) at ∙ ap (asks_by fresh visit new k event) is)

pub asks_nowhere : (fresh : List (List ℕ)) (visit : Visit) (new : Tree) (k : ℕ) (event : Event) → slice_get visit.events k ≡ Some event → place_of_aim (passing_over visit.page new event) ≡ None
    → None ≡ asks_now fresh visit new k
asks_nowhere fresh visit new k event at none =
    sym (ap (option_and_then (λ e. asks_by fresh visit new k e (passing_over visit.page new e))) at
    ∙ ap (option_and_then (request_at (by_element fresh visit.page new) visit.address new (take k visit.events) event (button_of_aim (passing_over visit.page new event)))) none)

-- an event without a request asks for nothing there
pub asks_nothing : (fresh : List (List ℕ)) (visit : Visit) (new : Tree) (k : ℕ) (event : Event) → slice_get visit.events k ≡ Some event → request_of event ≡ 0 → None ≡ asks_now fresh visit new k
asks_nothing fresh visit new k event at none =
    let aim = passing_over visit.page new event in
    sym (ap (option_and_then (λ e. asks_by fresh visit new k e (passing_over visit.page new e))) at
    ∙ none_of (request_at (by_element fresh visit.page new) visit.address new (take k visit.events) event (button_of_aim aim)) (place_of_aim aim)
    (λ place. none_at (by_element fresh visit.page new) visit.address new (take k visit.events) event (button_of_aim aim) place none))

-- a recorded page beside one whose looks were made
abbrev pub beside_looks : Tree → Tree × List (List ℕ) → PagePair
beside_looks old looks = record { old = old; new = looks.0; fresh = looks.1 }

-- ---- by its number

numbered_more : (visit : Visit) (k number : ℕ)
    → find (λ r. r.number == number) (filter_map (was_asked visit) (range_with_len 0 (k + 1)))
    ≡ find (λ r. r.number == number) (filter_map (was_asked visit) (range_with_len 0 k) ++ cons_option (was_asked visit k) [])
numbered_more visit k number =
    let next : k + 1 ≡ suc k = omega arith in
    ap (find (λ r. r.number == number)) (rw next (ap (filter_map (was_asked visit)) (range_more 0 k k (omega arith)) ∙ filter_map-append (was_asked visit) (range_with_len 0 k) (k ∷ [])))

pub numbered_none : (visit : Visit) (k number : ℕ) → was_asked visit k ≡ None
    → find (λ r. r.number == number) (filter_map (was_asked visit) (range_with_len 0 (k + 1)))
    ≡ find (λ r. r.number == number) (filter_map (was_asked visit) (range_with_len 0 k))
numbered_none visit k number none =
    numbered_more visit k number ∙ ap (λ o. find (λ r. r.number == number) (filter_map (was_asked visit) (range_with_len 0 k) ++ cons_option o [])) none
    ∙ ap (find (λ r. r.number == number)) (append-nil (filter_map (was_asked visit) (range_with_len 0 k)))

numbered_next : (visit : Visit) (k number : ℕ) (request : Request) → was_asked visit k ≡ Some request
    → find (λ r. r.number == number) (filter_map (was_asked visit) (range_with_len 0 (k + 1)))
    ≡ option_or (find (λ r. r.number == number) (filter_map (was_asked visit) (range_with_len 0 k))) (next_if (request.number == number) request)
numbered_next visit k number request is =
    let p : Request → Bool = λ r. r.number == number in
    let xs = filter_map (was_asked visit) (range_with_len 0 k) in
    numbered_more visit k number ∙ ap (λ o. find p (xs ++ cons_option o [])) is ∙ find-append p xs (request ∷ [])
    ∙ ap (option_or (find p xs)) (find_one p request (request.number == number) refl)

module _ {Y : Type 0} (g : Request → Y) (visit : Visit) (k number : ℕ) (request : Request) (is : was_asked visit k ≡ Some request) (kept : ℕ → Option Y)
    (are : kept number ≡ option_map g (find (λ r. r.number == number) (filter_map (was_asked visit) (range_with_len 0 k)))) where
  abbrev before : Option Request
  before = find (λ r. r.number == number) (filter_map (was_asked visit) (range_with_len 0 k))

  pub numbered_stays : is_some (kept request.number) ≡ true → kept number ≡ option_map g (find (λ r. r.number == number) (filter_map (was_asked visit) (range_with_len 0 (k + 1))))
  numbered_stays there = stays g before request kept request.number number are there ∙ ap (option_map g) (sym (numbered_next visit k number request is))

  pub numbered_comes : (y : Y) (new : Option Y) → is_some (kept request.number) ≡ false → (request.number ≡ number → y ≡ g request)
      → new ≡ (if request.number == number then Some y else kept number)
      → new ≡ option_map g (find (λ r. r.number == number) (filter_map (was_asked visit) (range_with_len 0 (k + 1))))
  numbered_comes y new none value updated =
      comes g before request kept request.number number are y new none value updated ∙ ap (option_map g) (sym (numbered_next visit k number request is))

-- ---- what has no request asks for nothing

pub none_asked : (visit : Visit) (k : ℕ) → IfSome (slice_get visit.events k) (λ event. request_of event ≡ 0) → was_asked visit k ≡ None
none_asked visit k none = go (slice_get visit.events k) none
  where
    aim : Event → Aim
    aim = by_path visit.page

    go : (o : Option Event) → IfSome o (λ event. request_of event ≡ 0)
        → option_and_then (event_request aim visit.address visit.page (take k visit.events)) o ≡ None
    go None none = refl
    go (Some event) none =
        none_of (request_at aim visit.address visit.page (take k visit.events) event (button_of_aim (aim event))) (place_of_aim (aim event))
        (λ place. none_at aim visit.address visit.page (take k visit.events) event (button_of_aim (aim event)) place none)

-- so what stands behind the last request adds nothing
pub numbered_rest : (visit : Visit) (end more number : ℕ) → ((k : ℕ) → end ≤ k → IfSome (slice_get visit.events k) (λ event. request_of event ≡ 0))
    → find (λ r. r.number == number) (filter_map (was_asked visit) (range_with_len 0 (end + more)))
    ≡ find (λ r. r.number == number) (filter_map (was_asked visit) (range_with_len 0 end))
numbered_rest visit end zero number none = let all : end + 0 ≡ end = omega arith in ap (λ n. find (λ r. r.number == number) (filter_map (was_asked visit) (range_with_len 0 n))) all
numbered_rest visit end (suc more) number none =
    let next : end + suc more ≡ (end + more) + 1 = omega arith in
    ap (λ n. find (λ r. r.number == number) (filter_map (was_asked visit) (range_with_len 0 n))) next
    ∙ numbered_none visit (end + more) number (none_asked visit (end + more) (none (end + more) (omega arith)))
    ∙ numbered_rest visit end more number none

-- ---- two texts

pub equal_counts : (fresh : List (List ℕ)) (was is : List ℕ) → bytes_eq was is ≡ true → not (bytes_eq (without_fresh fresh was) (without_fresh fresh is)) ≡ false
equal_counts fresh was is equal =
    ap not (bytes_same (without_fresh fresh was) (without_fresh fresh is) (ap (without_fresh fresh) (bytes_one was is equal)))

pub equal_sent : (fresh : List (List ℕ)) (was is : List ℕ) → bytes_eq was is ≡ true
    → not (bytes_eq (without_fresh fresh (codes "?" ++ was)) (without_fresh fresh (codes "?" ++ is))) ≡ false
equal_sent fresh was is equal =
    ap not (bytes_same (without_fresh fresh (codes "?" ++ was)) (without_fresh fresh (codes "?" ++ is)) (ap (λ sent. without_fresh fresh (codes "?" ++ sent)) (bytes_one was is equal)))

-- A trail that takes in one event more.
use Rattle.std.proofs.Common.{◌≡◌, ℕ, zero, suc, ◌+◌, ◌-◌, ◌<◌, ◌≤◌, ◌==◌, List, [], ◌∷◌, ◌++◌, length, take, drop, get_or, slice_get, Bool, true, false, not, if◌then◌else◌, Option, Some, None, is_some, unwrap_or, option_and_then, refl, sym, ◌∙◌, ap, ap₂, append_assoc, append-nil, length-append, ⊎_elim, arith}
use Rattle.std.specs.List.{cons_option, filter_map, range_with_len}
use Rattle.std.proofs.lemmas.Bool.{cases_lt}
use Rattle.std.proofs.lemmas.List.Sums.{fold-append}
use Rattle.std.proofs.Math.ListN.{drop_of_length-le}
use Rattle.form_urlencoded.specs.Form.{extend_pairs}
use Rattle.page_tree.specs.Tree.{Tree}
use Rattle.page_tree.specs.Control.{start_text_at, start_checked_at}
use Rattle.page_tree.specs.Number.{place_numbered}
use Rattle.page_tree.specs.Under.{places_under}
use Rattle.upload_reader.specs.declared.message.Event.{Event}
use Rattle.upload_reader.specs.declared.message.Event.TheVariants.{Input, Click, Submit}
use Rattle.client_log.specs.declared.visit.Visit.{Visit}
use Rattle.visit_replay.specs.Aim.{Aim, acts, place_of_aim, button_of_aim}
use Rattle.visit_replay.specs.Field.{is_there, text_after, is_on_after, value_before, is_on_before}
use Rattle.visit_replay.specs.Form.{sent_to, sent_pair, is_post, action_of, pairs_held}
use Rattle.visit_replay.specs.Requests.{load_request, request_at, event_request, requests_before}
use Rattle.visit_replay.specs.inside.Deed.{Deed}
use Rattle.visit_replay.specs.inside.Deeds.{deed_of, text_done, text_behind, is_on_done, is_on_behind, deed_request, requests_from, requests_on}
use Rattle.visit_replay.specs.inside.OneEvent.{places_numbered}
use Rattle.visit_replay.specs.inside.Told.{last_asked}
use Rattle.visit_replay.specs.inside.Trails.{IsTrailOf, asked_at, asked_from}
use Rattle.visit_replay.specs.declared.trail.Trail.{Trail}
use Rattle.visit_replay.proofs.Overlay.{value_nowhere, on_nowhere}
use Rattle.visit_replay.proofs.Places.{taken_here, take_suc, last_at, some_there, some_same, none_is_some}
use Rattle.visit_replay.proofs.Stepping.{requests_more}

-- ---- one deed more

pub text_more : (page : Tree) (deeds : List Deed) (deed : Deed) (place : List ℕ) → text_behind page (deeds ++ deed ∷ []) place ≡ text_done page place (text_behind page deeds place) deed
text_more page deeds deed place = fold-append (text_done page place) (unwrap_or (start_text_at place page) []) deeds (deed ∷ [])

pub is_on_more : (page : Tree) (deeds : List Deed) (deed : Deed) (place : List ℕ) → is_on_behind page (deeds ++ deed ∷ []) place ≡ is_on_done page place (is_on_behind page deeds place) deed
is_on_more page deeds deed place = fold-append (is_on_done page place) (start_checked_at place page) deeds (deed ∷ [])

option_first : {X : Type 0} (o : Option X) (xs ys : List X) → cons_option o (xs ++ ys) ≡ cons_option o xs ++ ys
option_first None xs ys = refl
option_first (Some x) xs ys = refl

pub asked_more : (address : List ℕ) (page : Tree) (before deeds : List Deed) (deed : Deed)
    → requests_from address page before (deeds ++ deed ∷ []) ≡ requests_from address page before deeds ++ cons_option (deed_request address page (before ++ deeds) deed) []
asked_more address page before [] deed = ap (λ b. cons_option (deed_request address page b deed) []) (sym (append-nil before))
asked_more address page before (one ∷ deeds) deed =
    let o = deed_request address page before one in
    ap (cons_option o) (asked_more address page (before ++ one ∷ []) deeds deed)
    ∙ option_first o (requests_from address page (before ++ one ∷ []) deeds) (cons_option (deed_request address page ((before ++ one ∷ []) ++ deeds) deed) [])
    ∙ ap (λ b. requests_from address page before (one ∷ deeds) ++ cons_option (deed_request address page b deed) []) (append_assoc before (one ∷ []) deeds)

-- ---- it does what the event does

either : {X : Type 0} (b : Bool) (x : X) → x ≡ (if b then x else x)
either true x = refl
either false x = refl

module _ (aim : Event → Aim) (page : Tree) (number : ℕ) (button : Option ℕ) where
  pub same_text : (event : Event) → aim event ≡ acts (place_numbered number page) (places_numbered button page) → (place text : List ℕ)
      → text_done page place text (deed_of event number button) ≡ text_after aim place text event
  same_text (Input at path value) is place text = ap (λ a. if is_there place (place_of_aim a) then value else text) (sym is)
  same_text (Click at path req) is place text = either (is_there place (place_of_aim (aim (Click at path req)))) text
  same_text (Submit at path by req) is place text = either (is_there place (place_of_aim (aim (Submit at path by req)))) text

  pub same_state : (event : Event) → aim event ≡ acts (place_numbered number page) (places_numbered button page) → (place : List ℕ) (on : Bool)
      → is_on_done page place on (deed_of event number button) ≡ is_on_after aim place on event
  same_state (Input at path value) is place on = either (is_there place (place_of_aim (aim (Input at path value)))) on
  same_state (Click at path req) is place on = ap (λ a. if is_there place (place_of_aim a) then not on else on) (sym is)
  same_state (Submit at path by req) is place on = either (is_there place (place_of_aim (aim (Submit at path by req)))) on

same_filtered : {X Y : Type 0} (f g : X → Option Y) → ((x : X) → f x ≡ g x) → (xs : List X) → filter_map f xs ≡ filter_map g xs
same_filtered f g same [] = refl
same_filtered f g same (x ∷ xs) = ap (λ o. cons_option o (filter_map f xs)) (same x) ∙ ap (cons_option (g x)) (same_filtered f g same xs)

-- what is sent hangs on what is held, and on nothing else
pub same_held : (text other : List ℕ → List ℕ) (on was : List ℕ → Bool) (page : Tree) (by : Option (List ℕ)) (form : List ℕ) → ((place : List ℕ) → text place ≡ other place) → ((place : List ℕ) → on place ≡ was place)
    → pairs_held text on page by form ≡ pairs_held other was page by form
same_held text other on was page by form texts states =
    same_filtered (λ place. sent_pair (text place) (on place) (is_there place by) page place) (λ place. sent_pair (other place) (was place) (is_there place by) page place)
    (λ place. ap (λ t. sent_pair t (on place) (is_there place by) page place) (texts place) ∙ ap (λ o. sent_pair (other place) o (is_there place by) page place) (states place)) (places_under form page)

module _ (aim : Event → Aim) (address : List ℕ) (page : Tree) (before : List Event) (deeds : List Deed) (number : ℕ) (button : Option ℕ)
    (texts : (place : List ℕ) → text_behind page deeds place ≡ value_before aim page before place) (states : (place : List ℕ) → is_on_behind page deeds place ≡ is_on_before aim page before place) where
  -- and asks for what the event asks for there
  pub same_made : (event : Event) → deed_request address page deeds (deed_of event number button)
      ≡ request_at aim address page before event (places_numbered button page) (place_numbered number page)
  same_made (Input at path value) = refl
  same_made (Click at path req) = refl
  same_made (Submit at path by req) =
      let form = place_numbered number page in
      ap (λ pairs. if req == 0 then None else Some (sent_to (is_post form page) req (action_of address form page) (extend_pairs [] pairs)))
      (same_held (text_behind page deeds) (value_before aim page before) (is_on_behind page deeds) (is_on_before aim page before) page (places_numbered button page) form texts states)

  pub same_asked : (event : Event) → aim event ≡ acts (place_numbered number page) (places_numbered button page)
      → deed_request address page deeds (deed_of event number button) ≡ event_request aim address page before event
  same_asked event is =
      same_made event ∙ sym (ap (λ a. option_and_then (request_at aim address page before event (button_of_aim a)) (place_of_aim a)) is)

-- ---- a trail

module _ (aim : Event → Aim) (visit : Visit) (new : Tree) (i : ℕ) (event : Event) (below : i < length visit.events) (at : event ≡ get_or visit.events i event) where
  -- of one that acts on that node
  pub trail_more : (number : ℕ) (button : Option ℕ) (old trail : Trail) → IsTrailOf aim visit new i old → aim event ≡ acts (place_numbered number new) (places_numbered button new)
      → trail.deeds.items ≡ old.deeds.items ++ deed_of event number button ∷ [] → trail.address ≡ old.address → trail.page ≡ old.page → IsTrailOf aim visit new (i + 1) trail
  trail_more number button old trail so_far is deeds address page =
      let before = take i visit.events in
      let deed = deed_of event number button in
      let here : take (i + 1) visit.events ≡ before ++ event ∷ [] = taken_here visit.events i event below at in
      record {
        address = address ∙ so_far.address;
        page = page ∙ so_far.page;
        texts = λ place. ap (λ ds. text_behind new ds place) deeds ∙ text_more new old.deeds.items deed place ∙ ap (λ t. text_done new place t deed) (so_far.texts place)
            ∙ same_text aim new number button event is place (value_before aim new before place)
            ∙ sym (fold-append (text_after aim place) (unwrap_or (start_text_at place new) []) before (event ∷ [])) ∙ ap (λ es. value_before aim new es place) (sym here);
        checks = λ place. ap (λ ds. is_on_behind new ds place) deeds ∙ is_on_more new old.deeds.items deed place ∙ ap (λ o. is_on_done new place o deed) (so_far.checks place)
            ∙ same_state aim new number button event is place (is_on_before aim new before place)
            ∙ sym (fold-append (is_on_after aim place) (start_checked_at place new) before (event ∷ [])) ∙ ap (λ es. is_on_before aim new es place) (sym here);
        requests = ap (requests_on visit.address new) deeds ∙ ap (λ rest. load_request visit.address ∷ rest) (asked_more visit.address new [] old.deeds.items deed)
            ∙ ap (λ o. requests_on visit.address new old.deeds.items ++ cons_option o []) (same_asked aim visit.address new before old.deeds.items number button so_far.texts so_far.checks event is)
            ∙ ap (λ made. made ++ cons_option (event_request aim visit.address new before event) []) so_far.requests
            ∙ sym (requests_more aim visit.address new visit.events i event below at);
      }

  -- of one that acts nowhere
  pub trail_stays : (trail : Trail) → IsTrailOf aim visit new i trail → place_of_aim (aim event) ≡ None → IsTrailOf aim visit new (i + 1) trail
  trail_stays trail so_far none =
      let before = take i visit.events in
      let here : take (i + 1) visit.events ≡ before ++ event ∷ [] = taken_here visit.events i event below at in
      let nothing : event_request aim visit.address new before event ≡ None = ap (λ o. option_and_then (request_at aim visit.address new before event (button_of_aim (aim event))) o) none in
      record {
        address = so_far.address;
        page = so_far.page;
        texts = λ place. so_far.texts place ∙ sym (value_nowhere aim new event none before place) ∙ ap (λ es. value_before aim new es place) (sym here);
        checks = λ place. so_far.checks place ∙ sym (on_nowhere aim new event none before place) ∙ ap (λ es. is_on_before aim new es place) (sym here);
        requests = so_far.requests ∙ sym (requests_more aim visit.address new visit.events i event below at
            ∙ ap (λ o. requests_before aim visit.address new visit.events i ++ cons_option o []) nothing ∙ append-nil (requests_before aim visit.address new visit.events i));
      }

-- behind the load
pub trail_begins : (aim : Event → Aim) (visit : Visit) (new : Tree) (trail : Trail) → trail.address ≡ visit.address → trail.page ≡ new → trail.deeds.items ≡ [] → IsTrailOf aim visit new 0 trail
trail_begins aim visit new trail address page none = record {
  address = address;
  page = page;
  texts = λ place. ap (λ ds. text_behind new ds place) none;
  checks = λ place. ap (λ ds. is_on_behind new ds place) none;
  requests = ap (requests_on visit.address new) none;
}

-- its requests are those of the events that it is of
pub trail_makes : (aim : Event → Aim) (visit : Visit) (new : Tree) (n : ℕ) (trail : Trail) → IsTrailOf aim visit new n trail
    → requests_on trail.address trail.page trail.deeds.items ≡ requests_before aim visit.address new visit.events n
trail_makes aim visit new n trail of =
    ap (λ a. requests_on a trail.page trail.deeds.items) of.address ∙ ap (λ p. requests_on visit.address p trail.deeds.items) of.page ∙ of.requests

-- ---- what the last deed asks for

pub last_made : (aim : Event → Aim) (visit : Visit) (new : Tree) (k : ℕ) (event : Event) (number : ℕ) (button : Option ℕ) (old trail : Trail) → IsTrailOf aim visit new k old
    → trail.deeds.items ≡ old.deeds.items ++ deed_of event number button ∷ [] → trail.address ≡ old.address → trail.page ≡ old.page
    → last_asked trail ≡ request_at aim visit.address new (take k visit.events) event (places_numbered button new) (place_numbered number new)
last_made aim visit new k event number button old trail of deeds address page =
    let xs = old.deeds.items in
    let deed = deed_of event number button in
    let last : length (xs ++ deed ∷ []) - 1 ≡ length xs = omega (arith, length-append xs (deed ∷ [])) in
    ap (λ ds. option_and_then (deed_request trail.address trail.page (take (length ds - 1) ds)) (slice_get ds (length ds - 1))) deeds
    ∙ ap (λ n. option_and_then (deed_request trail.address trail.page (take n (xs ++ deed ∷ []))) (slice_get (xs ++ deed ∷ []) n)) last
    ∙ ap (option_and_then (deed_request trail.address trail.page (take (length xs) (xs ++ deed ∷ [])))) (last_at xs deed)
    ∙ ap (λ before. deed_request trail.address trail.page before deed) (take-append_front xs (deed ∷ []))
    ∙ ap₂ (λ a p. deed_request a p xs deed) (address ∙ of.address) (page ∙ of.page)
    ∙ same_made aim visit.address new (take k visit.events) xs number button of.texts of.checks event
  where
    take-append_front : {A : Type 0} (xs ys : List A) → take (length xs) (xs ++ ys) ≡ xs
    take-append_front [] ys = refl
    take-append_front (x ∷ xs) ys = ap (λ zs. x ∷ zs) (take-append_front xs ys)

-- ---- what is asked for from a place on

dropped_here : {A : Type 0} (xs : List A) (k : ℕ) (x : A) → slice_get xs k ≡ Some x → drop k xs ≡ x ∷ drop (suc k) xs
dropped_here [] k x at = none_is_some x _ at
dropped_here (y ∷ xs) zero x at = ap (λ z. z ∷ xs) (some_same y x at)
dropped_here (y ∷ xs) (suc k) x at = dropped_here xs k x at

pub asked_step : (trail : Trail) (place : ℕ) → place < length trail.deeds.items → asked_from trail place ≡ cons_option (asked_at trail place) (asked_from trail (place + 1))
asked_step trail place below =
    let items = trail.deeds.items in
    let found = some_there items place below in
    let next : place + 1 ≡ suc place = omega arith in
    ap (requests_from trail.address trail.page (take place items)) (dropped_here items place found.0 found.1)
    ∙ ap (λ before. cons_option (deed_request trail.address trail.page (take place items) found.0) (requests_from trail.address trail.page before (drop (suc place) items)))
    (sym (take_suc items place found.0 found.1))
    ∙ ap (λ o. cons_option o (asked_from trail (suc place))) (sym (ap (option_and_then (deed_request trail.address trail.page (take place items))) found.1))
    ∙ ap (λ n. cons_option (asked_at trail place) (asked_from trail n)) (sym next)

pub asked_past : (trail : Trail) (place : ℕ) → length trail.deeds.items ≤ place → asked_from trail place ≡ []
asked_past trail place past = ap (requests_from trail.address trail.page (take place trail.deeds.items)) (drop_of_length-le trail.deeds.items past)

pub nothing_here : (trail : Trail) (place : ℕ) → place < length trail.deeds.items → is_some (asked_at trail place) ≡ false
    → (asked_at trail place ≡ None) × (asked_from trail place ≡ asked_from trail (place + 1))
nothing_here trail place below is =
    let none = is_none (asked_at trail place) is in
    (none, asked_step trail place below ∙ ap (λ o. cons_option o (asked_from trail (place + 1))) none)
  where
    is_none : {A : Type 0} (o : Option A) → is_some o ≡ false → o ≡ None
    is_none None is = refl
    is_none (Some a) is = cc

-- as far as a walk from that place has come
pub none_more : (trail : Trail) (from place : ℕ) → place < length trail.deeds.items → is_some (asked_at trail place) ≡ false
    → asked_from trail from ≡ asked_from trail place → ((k : ℕ) → from ≤ k → k < place → asked_at trail k ≡ None)
    → (asked_from trail from ≡ asked_from trail (place + 1)) × ((k : ℕ) → from ≤ k → k < place + 1 → asked_at trail k ≡ None)
none_more trail from place below is rest none =
    let here = nothing_here trail place below is in
    (rest ∙ here.1, λ k later less. ⊎_elim (λ before. none k later before) (λ past. let same : k ≡ place = omega (arith, less, past) in rw same here.0) (cases_lt k place))

asked_places : (trail : Trail) (n place : ℕ) → place + n ≡ length trail.deeds.items → asked_from trail place ≡ filter_map (asked_at trail) (range_with_len place n)
asked_places trail zero place all = asked_past trail place (omega (arith, all))
asked_places trail (suc n) place all =
    asked_step trail place (omega (arith, all)) ∙ ap (cons_option (asked_at trail place)) (asked_places trail n (place + 1) (omega (arith, all)))

pub all_asked : (trail : Trail) → asked_from trail 0 ≡ filter_map (asked_at trail) (range_with_len 0 (length trail.deeds.items))
all_asked trail = asked_places trail (length trail.deeds.items) 0 (omega arith)

-- What requests were, by the trail of a visit on its own page.
use Rattle.std.proofs.Common.{◌≡◌, ℕ, ◌+◌, ◌-◌, ◌<◌, ◌≤◌, ◌==◌, ◌&&◌, List, [], ◌∷◌, ◌++◌, All, length, drop, map, Bool, true, false, not, cond, if◌then◌else◌, Option, Some, None, IfSome, option_map, option_and_then, slice_get, take, codes, is_some, refl, sym, ap, ◌∙◌, append_assoc, append-nil, arith}
use Rattle.std.specs.Borrow.{Bor}
use Rattle.std.specs.Str.{bytes_eq}
use Rattle.std.proofs.lemmas.List.Elements.{All-append, All-cons, All-head, All-nil, All-tail}
use Rattle.std.proofs.lemmas.List.{map-append}
use Rattle.page_looks.specs.Sending.{without_fresh}
use Rattle.page_looks.proofs.CounterpartLaws.{bytes_same}
use Rattle.std.specs.List.{find, filter_map, range_with_len, cons_option}
use Rattle.page_tree.specs.Tree.{Tree}
use Rattle.upload_reader.specs.Session.{request_of}
use Rattle.upload_reader.specs.declared.message.Event.{Event}
use Rattle.upload_reader.specs.declared.message.Event.TheVariants.{Input, Click, Submit}
use Rattle.client_log.specs.declared.visit.Visit.{Visit}
use Rattle.visit_replay.specs.Aim.{Aim, by_path, place_of_aim, button_of_aim}
use Rattle.visit_replay.specs.Difference.{are_alike, was_asked, was_other}
use Rattle.visit_replay.specs.Form.{form_request, is_post, action_of, encoded_pairs}
use Rattle.visit_replay.specs.Requests.{load_request, link_request, request_at, event_request}
use Rattle.visit_replay.specs.declared.requests.Method.TheVariants.{Get}
use Rattle.visit_replay.specs.declared.requests.Request.{Request}
use Rattle.visit_replay.specs.declared.trail.Trail.{Trail}
use Rattle.visit_replay.specs.inside.Deeds.{requests_from}
use Rattle.visit_replay.specs.inside.Differing.{other_by}
use Rattle.visit_replay.specs.declared.told.ToldRequest.TheVariants.{Link}
use Rattle.visit_replay.specs.inside.Marks.{AreMarks}
use Rattle.visit_replay.specs.inside.Tellings.{told_request}
use Rattle.visit_replay.specs.inside.Told.{told_marked}
use Rattle.visit_replay.specs.inside.Trails.{IsTrailOf, asked_at, asked_from}
use Rattle.visit_replay.proofs.Asking.{numbered_rest}
use Rattle.visit_replay.proofs.FreshValues.{sent_number}
use Rattle.visit_replay.proofs.TrailLaws.{asked_step}

-- ---- 0 is the number of no request but the load

link_number : (number : ℕ) (o : Option (List ℕ)) (r : Request) → option_map (λ address. record { number = number; method = Get; address = address; pairs = [] }) o ≡ Some r → r.number ≡ number
link_number number None r is = let apart : None ≡ Some r = is in cc
link_number number (Some address) r is =
    let same : ◌≡◌ {A = Option Request} (Some (record { number = number; method = Get; address = address; pairs = [] })) (Some r) = is in
    ap (λ (o : Option Request). option_number o number) (sym same)
  where
    option_number : Option Request → ℕ → ℕ
    option_number None n = n
    option_number (Some r) n = r.number

counts : (req : ℕ) (b : Bool) (o : Option Request) (r : Request) → (req == 0) ≡ b → (o ≡ Some r → r.number ≡ req) → (if b then None else o) ≡ Some r → (r.number == 0) ≡ false
counts req true o r zero number is = let apart : None ≡ Some r = is in cc
counts req false o r zero number is = ap (λ n. n == 0) (number is) ∙ zero

at_number : (aim : Event → Aim) (address : List ℕ) (new : Tree) (before : List Event) (event : Event) (button : Option (List ℕ)) (place : List ℕ) (r : Request)
    → request_at aim address new before event button place ≡ Some r → (r.number == 0) ≡ false
at_number aim address new before (Input at target value) button place r is = let apart : None ≡ Some r = is in cc
at_number aim address new before (Click at target req) button place r is = counts req (req == 0) (link_request req place new) r refl (link_number req _ r) is
at_number aim address new before (Submit at target by req) button place r is =
    counts req (req == 0) (Some (form_request aim address new before button place req)) r refl
    (λ made. let same : form_request aim address new before button place req ≡ r = cc in
    ap (λ (q : Request). q.number) (sym same) ∙ sent_number (is_post place new) req (action_of address place new) (encoded_pairs aim new before button place)) is

asked_number : (visit : Visit) (k : ℕ) (r : Request) → was_asked visit k ≡ Some r → (r.number == 0) ≡ false
asked_number visit k r is = of_event (slice_get visit.events k) is
  where
    aim : Event → Aim
    aim = by_path visit.page

    at_place : (event : Event) (o : Option (List ℕ)) → option_and_then (request_at aim visit.address visit.page (take k visit.events) event (button_of_aim (aim event))) o ≡ Some r → (r.number == 0) ≡ false
    at_place event None is = let apart : None ≡ Some r = is in cc
    at_place event (Some place) is = at_number aim visit.address visit.page (take k visit.events) event (button_of_aim (aim event)) place r is

    of_event : (o : Option Event) → option_and_then (event_request aim visit.address visit.page (take k visit.events)) o ≡ Some r → (r.number == 0) ≡ false
    of_event None is = let apart : None ≡ Some r = is in cc
    of_event (Some event) is = at_place event (place_of_aim (aim event)) is

none_zero : (visit : Visit) (ks : List ℕ) → find (λ r. r.number == 0) (filter_map (was_asked visit) ks) ≡ None
none_zero visit [] = refl
none_zero visit (k ∷ ks) = go (was_asked visit k) refl (none_zero visit ks)
  where
    go : (o : Option Request) → was_asked visit k ≡ o → find (λ r. r.number == 0) (filter_map (was_asked visit) ks) ≡ None
        → find (λ r. r.number == 0) (cons_option o (filter_map (was_asked visit) ks)) ≡ None
    go None is rest = rest
    go (Some r) is rest = ap (λ b. cond b (Some r) (find (λ r. r.number == 0) (filter_map (was_asked visit) ks))) (asked_number visit k r is) ∙ rest

-- so the load was no other
pub load_stays : (fresh : List (List ℕ)) (visit : Visit) (address : List ℕ) → was_other fresh visit (load_request address) ≡ None
load_stays fresh visit address =
    ap (option_and_then (λ was. if are_alike fresh was (load_request address) then None else Some was)) (none_zero visit (range_with_len 0 (length visit.events)))

-- ---- by a trail up to the last event with a request

module _ (fresh : List (List ℕ)) (visit : Visit) (end : ℕ) (own : Trail) (of : IsTrailOf (by_path visit.page) visit visit.page end own)
    (few : end ≤ length visit.events) (none : (k : ℕ) → end ≤ k → IfSome (slice_get visit.events k) (λ event. request_of event ≡ 0)) where
  own_asked : asked_from own 0 ≡ filter_map (was_asked visit) (range_with_len 0 end)
  own_asked =
      ap (λ a. requests_from a own.page [] own.deeds.items) of.address ∙ ap (λ p. requests_from visit.address p [] own.deeds.items) of.page ∙ ap (drop 1) of.requests

  pub same_other : (is : Request) → other_by fresh own is ≡ was_other fresh visit is
  same_other is =
      let p : Request → Bool = λ r. r.number == is.number in
      let whole : end + (length visit.events - end) ≡ length visit.events = omega (arith, few) in
      ap (option_and_then (λ was. if are_alike fresh was is then None else Some was))
      (ap (find p) own_asked ∙ sym (numbered_rest visit end (length visit.events - end) is.number none)
      ∙ ap (λ n. find p (filter_map (was_asked visit) (range_with_len 0 n))) whole)

  -- of the load and those behind it
  pub all_other : (address : List ℕ) (requests : List Request) → None ∷ map (other_by fresh own) requests ≡ map (was_other fresh visit) (load_request address ∷ requests)
  all_other address requests =
      ap (λ rest. None ∷ rest) (each requests) ∙ ap (λ first. first ∷ map (was_other fresh visit) requests) (sym (load_stays fresh visit address))
    where
      each : (requests : List Request) → map (other_by fresh own) requests ≡ map (was_other fresh visit) requests
      each [] = refl
      each (is ∷ rest) = ap (λ first. first ∷ map (other_by fresh own) rest) (same_other is) ∙ ap (λ others. was_other fresh visit is ∷ others) (each rest)

-- ---- of one request more

module _ (fresh : List (List ℕ)) (own trail : Trail) (from place : ℕ) (marks : List (Option ℕ)) (all : List (Option Request)) (skipped : asked_from trail from ≡ asked_from trail place)
    (below : place < length trail.deeds.items) (so_far : map (told_marked (Some own)) marks ++ map (other_by fresh own) (asked_from trail from) ≡ all) where
  abbrev left : ℕ → List (Option Request)
  left n = map (other_by fresh own) (asked_from trail n)

  here : (o : Option Request) → asked_at trail place ≡ o → map (told_marked (Some own)) marks ++ map (other_by fresh own) (cons_option o (asked_from trail (place + 1))) ≡ all
  here o is =
      ap (λ asked. map (told_marked (Some own)) marks ++ map (other_by fresh own) asked)
      (ap (λ a. cons_option a (asked_from trail (place + 1))) (sym is) ∙ sym (asked_step trail place below) ∙ sym skipped) ∙ so_far

  pub mark_more : (now : Request) (mark : Option ℕ) → asked_at trail place ≡ Some now → told_marked (Some own) mark ≡ other_by fresh own now
      → map (told_marked (Some own)) (marks ++ mark ∷ []) ++ left (place + 1) ≡ all
  mark_more now mark is marked =
      ap (λ them. them ++ left (place + 1)) (map-append (told_marked (Some own)) marks (mark ∷ []))
      ∙ append_assoc (map (told_marked (Some own)) marks) (told_marked (Some own) mark ∷ []) (left (place + 1))
      ∙ ap (λ m. map (told_marked (Some own)) marks ++ (m ∷ left (place + 1))) marked ∙ here (Some now) is

  pub mark_none : asked_at trail place ≡ None → map (told_marked (Some own)) marks ++ left (place + 1) ≡ all
  mark_none is = here None is

-- what the deed there asks for, where it asks for something
pub asks_some : (o : Option Request) → is_some o ≡ true → (now : Request) × (o ≡ Some now)
asks_some None some = absurd cc
asks_some (Some now) some = (now, refl)

pub more_marks : (own : Trail) (marks : List (Option ℕ)) (mark : Option ℕ) → AreMarks own marks → IfSome mark (λ place. place < length own.deeds.items) → AreMarks own (marks ++ mark ∷ [])
more_marks own marks mark are is =
    let p : Option ℕ → Type 0 = λ m. IfSome m (λ place. place < length own.deeds.items) in
    All-append p marks (mark ∷ []) are (All-cons p mark [] is (All-nil p))

-- a list of marks that is whole
pub marks_end : (fresh : List (List ℕ)) (own trail : Trail) (from : ℕ) (marks : List (Option ℕ)) (all : List (Option Request)) → asked_from trail from ≡ []
    → map (told_marked (Some own)) marks ++ map (other_by fresh own) (asked_from trail from) ≡ all → map (told_marked (Some own)) marks ≡ all
marks_end fresh own trail from marks all none so_far =
    sym (append-nil (map (told_marked (Some own)) marks)) ∙ ap (λ asked. map (told_marked (Some own)) marks ++ map (other_by fresh own) asked) (sym none) ∙ so_far

-- where nothing is marked the trail tells nothing
pub none_marked : (own : Trail) (marks : List (Option ℕ)) → All (λ mark. mark ≡ None) marks → map (told_marked None) marks ≡ map (told_marked (Some own)) marks
none_marked own [] none = refl
none_marked own (mark ∷ marks) none =
    ap (λ m. m ∷ map (told_marked None) marks) (sym (ap (told_marked (Some own)) (All-head (λ m. m ≡ None) mark marks none)))
    ∙ ap (λ rest. told_marked (Some own) mark ∷ rest) (none_marked own marks (All-tail (λ m. m ≡ None) mark marks none))

-- ---- of links

pub links_alike : (fresh : List (List ℕ)) (n m : ℕ) (was is : Bor (List ℕ)) (apart : Bool) → apart ≡ not (bytes_eq (without_fresh fresh was.now) (without_fresh fresh is.now))
    → not apart ≡ are_alike fresh (told_request (Link n was)) (told_request (Link m is))
links_alike fresh n m was is apart so =
    ap not so ∙ twice (bytes_eq (without_fresh fresh was.now) (without_fresh fresh is.now))
    ∙ ap (λ b. bytes_eq (without_fresh fresh was.now) (without_fresh fresh is.now) && b) (sym (bytes_same (without_fresh fresh (codes "?" ++ [])) (without_fresh fresh (codes "?" ++ [])) refl))
  where
    twice : (b : Bool) → not (not b) ≡ (b && true)
    twice true = refl
    twice false = refl

-- A walk over events, as far as it has come.
use Rattle.std.proofs.Common.{◌≡◌, ℕ, zero, suc, true, false, cond, if◌then◌else◌, ◌+◌, ◌<◌, List, [], ◌∷◌, ◌++◌, length, take, get_or, Bool, Option, Some, None, is_some, option_map, option_and_then, slice_get, Result, Ok, Err, OnOk, refl, sym, ◌∙◌, ap, arith}
use Rattle.std.specs.List.{filter_map, find, range_with_len, cons_option}
use Rattle.std.specs.Option.{option_map_or}
use Rattle.std.proofs.lemmas.List.Elements.{filter_map-append}
use Rattle.std.proofs.lemmas.Option.{slice_get-get_or}
use Rattle.page_tree.specs.Tree.{Tree}
use Rattle.page_looks.specs.Counterpart.{PagePair}
use Rattle.upload_reader.specs.declared.message.Event.{Event}
use Rattle.visit_replay.specs.declared.requests.Request.{Request}
use Rattle.visit_replay.specs.declared.outcome.ConflictKind.{ConflictKind}
use Rattle.visit_replay.specs.declared.outcome.ConflictKind.TheVariants.{Changed}
use Rattle.visit_replay.specs.Aim.{Aim, aim_of, has_strayed}
use Rattle.visit_replay.specs.Conflict.{conflict}
use Rattle.visit_replay.specs.Requests.{event_request, nth_request, requests_before, load_request}
use Rattle.client_log.specs.declared.visit.Visit.{Visit}
use Rattle.visit_replay.specs.RepairedSite.{RepairedSite}
use Rattle.visit_replay.specs.declared.outcome.Outcome.{Outcome}
use Rattle.visit_replay.specs.declared.outcome.Outcome.TheVariants.{Untouched}
use Rattle.visit_replay.specs.Outcome.{is_affected, conflict_of, first_conflict, at_end, at_event, on_page, outcome}

-- what holds in any case
pub on_any : {T E P : Type 0} (r : Result T E) → P → OnOk r P
on_any (Ok x) holds = holds
on_any (Err e) holds = tt

-- ---- requests

pub range_more : (a n j : ℕ) → a + n ≡ j → range_with_len a (suc n) ≡ range_with_len a n ++ j ∷ []
range_more a zero j is = let same : a ≡ j = omega arith in ap (λ k. k ∷ []) same
range_more a (suc n) j is = ap (λ rest. a ∷ rest) (range_more (a + 1) n j (omega arith))

-- of one event more
pub requests_more : (aim : Event → Aim) (address : List ℕ) (new : Tree) (events : List Event) (i : ℕ) (event : Event) → i < length events → event ≡ get_or events i event
    → requests_before aim address new events (i + 1) ≡ requests_before aim address new events i ++ cons_option (event_request aim address new (take i events) event) []
requests_more aim address new events i event below is =
    let h : ℕ → Option Request = nth_request aim address new events in
    let next : i + 1 ≡ suc i = omega arith in
    let here : h i ≡ event_request aim address new (take i events) event = ap (option_and_then (event_request aim address new (take i events))) (slice_get-get_or events i event below ∙ ap Some (sym is)) in
    rw next (ap (λ rest. load_request address ∷ rest) (ap (filter_map h) (range_more 0 i i (omega arith)) ∙ filter_map-append h (range_with_len 0 i) (i ∷ [])
    ∙ ap (λ o. filter_map h (range_with_len 0 i) ++ cons_option o []) here))

-- ---- the first that can't be replayed

pub first_in_range : (p : ℕ → Bool) (at n j : ℕ) → j < n → ((k : ℕ) → k < j → p (at + k) ≡ false) → p (at + j) ≡ true → find p (range_with_len at n) ≡ Some (at + j)
first_in_range p at zero j below none is = absurd (omega (arith, below))
first_in_range p at (suc n) zero below none is = let here : at + 0 ≡ at = omega arith in
    ap (λ b. cond b (Some at) (find p (range_with_len (at + 1) n))) (ap p (sym here) ∙ is) ∙ ap Some (sym here)
first_in_range p at (suc n) (suc j) below none is =
    let here : at + 0 ≡ at = omega arith in
    let there : at + suc j ≡ (at + 1) + j = omega arith in
    ap (λ b. cond b (Some at) (find p (range_with_len (at + 1) n))) (ap p (sym here) ∙ none 0 (omega arith))
    ∙ first_in_range p (at + 1) n j (omega (arith, below)) (λ k less. let next : (at + 1) + k ≡ at + suc k = omega arith in ap p next ∙ none (suc k) (omega (arith, less))) (ap p (sym there) ∙ is)
    ∙ ap Some (sym there)

none_in_range : (p : ℕ → Bool) (at n : ℕ) → ((k : ℕ) → k < n → p (at + k) ≡ false) → find p (range_with_len at n) ≡ None
none_in_range p at zero none = refl
none_in_range p at (suc n) none =
    let here : at + 0 ≡ at = omega arith in
    ap (λ b. cond b (Some at) (find p (range_with_len (at + 1) n))) (ap p (sym here) ∙ none 0 (omega arith))
    ∙ none_in_range p (at + 1) n (λ k less. let next : (at + 1) + k ≡ at + suc k = omega arith in ap p next ∙ none (suc k) (omega (arith, less)))

module _ (same : Option (List (List ℕ))) (old new : Tree) (events : List Event) where
  pub stopped : (i : ℕ) (kind : ConflictKind) → ((k : ℕ) → k < i → conflict_of same old new events k ≡ None) → i < length events → Some kind ≡ conflict_of same old new events i → first_conflict same old new events ≡ Some (i, kind)
  stopped i kind good below bad =
      let reason = conflict_of same old new events in
      let here : 0 + i ≡ i = omega arith in
      ap (option_and_then (λ k. option_map {U = ℕ × ConflictKind} (λ found. (k, found)) (reason k)))
      (first_in_range (λ k. is_some (reason k)) 0 (length events) i below (λ k less. let there : 0 + k ≡ k = omega arith in ap (λ n. is_some (reason n)) there ∙ ap is_some (good k less))
      (ap (λ n. is_some (reason n)) here ∙ ap is_some (sym bad)) ∙ ap Some here)
      ∙ ap (option_map {U = ℕ × ConflictKind} (λ found. (i, found))) (sym bad)

  -- none can't
  pub passed : ((k : ℕ) → k < length events → conflict_of same old new events k ≡ None) → first_conflict same old new events ≡ None
  passed good =
      let reason = conflict_of same old new events in
      ap (option_and_then (λ k. option_map {U = ℕ × ConflictKind} (λ found. (k, found)) (reason k)))
      (none_in_range (λ k. is_some (reason k)) 0 (length events) (λ k less. let there : 0 + k ≡ k = omega arith in ap (λ n. is_some (reason n)) there ∙ ap is_some (good k less)))

-- of the event with k events before it
pub judged_here : (same : Option (List (List ℕ))) (old new : Tree) (events : List Event) (k : ℕ) (event : Event) (strayed : Bool) (found : Option ConflictKind) → slice_get events k ≡ Some event
    → has_strayed same old new (take k events) event ≡ strayed → conflict (aim_of same old new) old new event ≡ found → conflict_of same old new events k ≡ (if strayed then Some Changed else found)
judged_here same old new events k event strayed found at first then_judged =
    ap (option_and_then (λ e. if has_strayed same old new (take k events) e then Some Changed else conflict (aim_of same old new) old new e)) at
    ∙ ap (λ b. if b then Some Changed else conflict (aim_of same old new) old new event) first ∙ ap (λ o. if strayed then Some Changed else o) then_judged

pub strayed_here : (same : Option (List (List ℕ))) (old new : Tree) (events : List Event) (k : ℕ) (event : Event) → slice_get events k ≡ Some event
    → has_strayed same old new (take k events) event ≡ true → conflict_of same old new events k ≡ Some Changed
strayed_here same old new events k event at strayed = judged_here same old new events k event true (conflict (aim_of same old new) old new event) at strayed refl

-- ---- the outcome

-- behind the last event
pub at_last : (same : Option (List (List ℕ))) (visit : Visit) (new : Tree) (told : Tree → Bool) (answer : Outcome)
    → ((k : ℕ) → k < length visit.events → conflict_of same visit.page new visit.events k ≡ None)
    → answer ≡ at_end (aim_of same visit.page new) visit new (told new) → answer ≡ on_page same visit told (Some new)
at_last same visit new told answer good is =
    let aim = aim_of same visit.page new in
    is ∙ sym (ap (λ first. option_map_or (at_event aim visit new) first (at_end aim visit new (told new))) (passed same visit.page new visit.events good))

pub outcome_is : (site : RepairedSite) (visit : Visit) (new : Tree) (answer : Outcome) → is_affected site.patch visit.address ≡ true → site.page_of visit.address ≡ Some new
    → answer ≡ on_page site.same visit (site.signals visit.address visit.page) (Some new) → answer ≡ outcome site visit
outcome_is site visit new answer affected there is =
    is ∙ ap (on_page site.same visit (site.signals visit.address visit.page)) (sym there)
    ∙ sym (ap (λ b. if b then on_page site.same visit (site.signals visit.address visit.page) (site.page_of visit.address) else Untouched) affected)

-- ---- where looks were made

-- of the page of those looks, beside the recorded one
pub beside_is : (beside : PagePair) (visit : Visit) (new page : Tree) (fresh : List (List ℕ)) (told : Tree → Bool) (answer : Outcome) → beside ≡ record { old = visit.page; new = page; fresh = fresh } → new ≡ page
    → answer ≡ on_page (Some beside.fresh) visit told (Some new) → answer ≡ on_page (Some fresh) visit told (Some page)
beside_is beside visit new page fresh told answer pair there is =
    is ∙ ap (λ b. on_page (Some b.fresh) visit told (Some new)) pair ∙ ap (λ t. on_page (Some fresh) visit told (Some t)) there

-- of looks that were made of that page, with the names that the site's law has
pub found_by : (looks : Tree × List (List ℕ)) (visit : Visit) (page : Tree) (fresh : List (List ℕ)) (law : Option (List (List ℕ))) (told : Tree → Bool) (answer : Outcome) → looks ≡ (page, fresh) → Some fresh ≡ law
    → answer ≡ on_page (Some looks.1) visit told (Some looks.0) → answer ≡ on_page law visit told (Some page)
found_by looks visit page fresh law told answer made named is =
    is ∙ ap (λ l. on_page (Some l.1) visit told (Some l.0)) made ∙ ap (λ names. on_page names visit told (Some page)) named

-- An event of a visit that is done asks for what it asked for.
use Rattle.std.proofs.Common.{◌≡◌, ◌≢◌, ◌<◌, ℕ, zero, suc, ◌+◌, ◌==◌, length, take, List, [], ◌∷◌, Bool, true, false, not, ◌&&◌, cond, if◌then◌else◌, is_some, unwrap_or, codes, Option, Some, None, option_map, option_and_then, slice_get, Result, Ok, Err, ◌⊎◌, inl, inr, refl, sym, ap, ap₂, ◌∙◌, arith}
use Rattle.std.specs.List.{find, list_any, range_with_len}
use Rattle.std.specs.Option.{option_map_or}
use Rattle.std.specs.Str.{bytes_eq, str_eq_ignore_ascii_case}
use Rattle.std.proofs.lemmas.Bool.Decides.{eqb_tells}
use Rattle.page_tree.specs.Tree.{Attribute, Tree}
use Rattle.page_tree.specs.Look.{node_at, attribute_at, attributes_of, children_of, value_of}
use Rattle.page_tree.specs.Control.{control_at, control_of, start_text_at}
use Rattle.page_tree.specs.declared.control.Control.{Control}
use Rattle.page_tree.specs.declared.control.Control.TheVariants as control
use Rattle.page_looks.specs.Sending.{without_fresh, sent, untouched_pairs, unseen_in}
use Rattle.page_looks.specs.Counterpart.{sent_at, is_sent_alike}
use Rattle.page_looks.proofs.CounterpartLaws.{attributes_one, bytes_one}
use Rattle.xpath_child.specs.Path.{Step}
use Rattle.xpath_child.specs.Targets.{target_in, only_place}
use Rattle.xpath_child.specs.declared.path.Target.{Target}
use Rattle.xpath_child.specs.declared.path.Target.TheVariants.{Missing, One, Several}
use Rattle.upload_reader.specs.declared.message.Event.{Event}
use Rattle.upload_reader.specs.declared.message.Event.TheVariants.{Input, Click, Submit}
use Rattle.client_log.specs.declared.visit.Visit.{Visit}
use Rattle.visit_replay.specs.declared.outcome.ConflictKind.{ConflictKind}
use Rattle.visit_replay.specs.declared.outcome.ConflictKind.TheVariants.{NotAForm, Changed}
use Rattle.visit_replay.specs.declared.outcome.Outcome.{Outcome}
use Rattle.visit_replay.specs.declared.outcome.Outcome.TheVariants.{Done, Untouched}
use Rattle.visit_replay.specs.declared.requests.Request.{Request}
use Rattle.visit_replay.specs.Aim.{Aim, acts, nowhere, lost, aim_of, on_target, by_path, by_element, button_by_path, goes_by, path_of, by_of, on_found, counterpart, asks_by_link, needs_none, is_in_its_form, from_place, settled, unless_changed, is_kept, is_clicked_alike, is_check, pressed_in, form_around, are_forms_alike, is_one_state, place_of_aim, is_submit, strays, has_strayed}
use Rattle.page_tree.specs.Control.{start_checked_at}
use Rattle.visit_replay.specs.Conflict.{conflict, conflict_at, conflict_by, input_conflict, is_unchanged, click_conflict, off_link, submit_conflict, has_button, is_disabled}
use Rattle.visit_replay.specs.Form.{unless_empty}
use Rattle.visit_replay.specs.Outcome.{outcome, is_affected, conflict_of, first_conflict, on_page, at_event, at_end}
use Rattle.visit_replay.specs.RepairedSite.{RepairedSite}
use Rattle.visit_replay.specs.SameRequests.{AreLinksAlike, AreFormsAlike, ArePressedAlike, AsksAlike, AllAskAlike}
use Rattle.visit_replay.proofs.Straying.{submit_strays}
use Rattle.visit_replay.proofs.SentKinds.{apart, first_name, link_sends, link_first, address_told, form_sends, form_first, form_told}

-- ---- no event of a done visit is bad

found_holds : {X : Type 0} (p : X → Bool) (xs : List X) (x : X) → find p xs ≡ Some x → p x ≡ true
found_holds p [] x is = cc
found_holds p (y ∷ ys) x is = go (p y) refl is (found_holds p ys x)
  where
    go : (b : Bool) → p y ≡ b → cond b (Some y) (find p ys) ≡ Some x → (find p ys ≡ Some x → p x ≡ true) → p x ≡ true
    go true holds is later = let one : y ≡ x = cc in ap p (sym one) ∙ holds
    go false holds is later = later is

none_found : (p : ℕ → Bool) (at n j : ℕ) → find p (range_with_len at n) ≡ None → j < n → p (at + j) ≡ false
none_found p at zero j none below = absurd (omega (arith, below))
none_found p at (suc n) j none below = go (p at) refl none (none_found p (at + 1) n) j below
  where
    go : (b : Bool) → p at ≡ b → cond b (Some at) (find p (range_with_len (at + 1) n)) ≡ None → ((i : ℕ) → find p (range_with_len (at + 1) n) ≡ None → i < n → p ((at + 1) + i) ≡ false)
        → (i : ℕ) → i < suc n → p (at + i) ≡ false
    go true is none later i below = cc
    go false is none later zero below = let here : at + 0 ≡ at = omega arith in ap p here ∙ is
    go false is none later (suc i) below = let next : at + suc i ≡ (at + 1) + i = omega arith in ap p next ∙ later i none (omega (arith, below))

in_list : {X : Type 0} (xs : List X) (k : ℕ) (x : X) → slice_get xs k ≡ Some x → k < length xs
in_list [] k x at = cc
in_list (y ∷ ys) zero x at = omega arith
in_list (y ∷ ys) (suc k) x at = omega (arith, in_list ys k x at)

is_none : {X : Type 0} (o : Option X) → is_some o ≡ false → o ≡ None
is_none None is = refl
is_none (Some x) is = cc

module _ (same : Option (List (List ℕ))) (old new : Tree) (events : List Event) where
  first_good : first_conflict same old new events ≡ None → (k : ℕ) (event : Event) → slice_get events k ≡ Some event → conflict_of same old new events k ≡ None
  first_good none k event at = go (find bad (range_with_len 0 (length events))) refl none
    where
      reason : ℕ → Option ConflictKind
      reason = conflict_of same old new events

      bad : ℕ → Bool
      bad j = is_some (reason j)

      kind_none : (o : Option ConflictKind) (j : ℕ) → option_map {U = ℕ × ConflictKind} (λ kind. (j, kind)) o ≡ None → o ≡ None
      kind_none None j is = refl
      kind_none (Some kind) j is = cc

      go : (o : Option ℕ) → find bad (range_with_len 0 (length events)) ≡ o → option_and_then (λ j. option_map {U = ℕ × ConflictKind} (λ kind. (j, kind)) (reason j)) o ≡ None → reason k ≡ None
      go None is none =
          let here : k ≡ 0 + k = omega arith in
          is_none (reason k) (ap bad here ∙ none_found bad 0 (length events) k is (in_list events k event at))
      go (Some j) is none =
          let both : false ≡ true = sym (ap is_some (kind_none (reason j) j none)) ∙ found_holds bad (range_with_len 0 (length events)) j is in
          cc

-- an event that isn't bad: its form has the touched fields that it had, and it can act there
judged_good : (strayed : Bool) (found : Option ConflictKind) → (if strayed then Some Changed else found) ≡ None → (strayed ≡ false) × (found ≡ None)
judged_good true found is = cc
judged_good false found is = (refl, is)

abbrev by_affected : Bool → Outcome → Outcome
by_affected affected own = if affected then own else Untouched

was_affected : (b : Bool) (own : Outcome) (requests : List Request) → by_affected b own ≡ Done requests → own ≡ Done requests
was_affected true own requests is = is
was_affected false own requests is = cc

no_first : (aim : Event → Aim) (visit : Visit) (new : Tree) (requests : List Request) (end : Outcome) (o : Option (ℕ × ConflictKind)) → option_map_or (at_event aim visit new) o end ≡ Done requests → o ≡ None
no_first aim visit new requests end None is = refl
no_first aim visit new requests end (Some bad) is = cc

abbrev IsGood : List (List ℕ) → Tree → Tree → List Event → Event → Type 0
IsGood fresh old new before event = (has_strayed (Some fresh) old new before event ≡ false) × (conflict (by_element fresh old new) old new event ≡ None)

pub done_good : (site : RepairedSite) (fresh : List (List ℕ)) (visit : Visit) (requests : List Request) (new : Tree) → site.same ≡ Some fresh → outcome site visit ≡ Done requests
    → site.page_of visit.address ≡ Some new → (k : ℕ) (event : Event) → slice_get visit.events k ≡ Some event → IsGood fresh visit.page new (take k visit.events) event
done_good site fresh visit requests new same done there k event at =
    let signalled = site.signals visit.address visit.page in
    let own : on_page site.same visit signalled (site.page_of visit.address) ≡ Done requests =
    was_affected (is_affected site.patch visit.address) (on_page site.same visit signalled (site.page_of visit.address)) requests done in
    let here : on_page (Some fresh) visit signalled (Some new) ≡ Done requests =
    ap₂ (λ (names : Option (List (List ℕ))) (page : Option Tree). on_page names visit signalled page) (sym same) (sym there) ∙ own in
    let aim : Event → Aim = aim_of (Some fresh) visit.page new in
    let good : conflict_of (Some fresh) visit.page new visit.events k ≡ None =
    first_good (Some fresh) visit.page new visit.events (no_first aim visit new requests (at_end aim visit new (signalled new)) (first_conflict (Some fresh) visit.page new visit.events) here) k event at in
    judged_good (has_strayed (Some fresh) visit.page new (take k visit.events) event) (conflict aim visit.page new event)
    (sym (ap (option_and_then (λ e. if has_strayed (Some fresh) visit.page new (take k visit.events) e then Some Changed else conflict aim visit.page new e)) at) ∙ good)

-- ---- where an event acts by its element

pub record ActsBy (fresh : List (List ℕ)) (old new : Tree) (event : Event) (aim : Aim) : Type 0 where
  pub place : List ℕ
  pub found : List ℕ
  pub selected : target_in (goes_by event) old ≡ One place
  pub in_form : is_in_its_form old event place ≡ true
  pub settles : settled fresh old new event place found ≡ aim

pub acts_by : (fresh : List (List ℕ)) (old new : Tree) (event : Event) (q : List ℕ) (pressed : Option (List ℕ)) → by_element fresh old new event ≡ acts q pressed → ActsBy fresh old new event (acts q pressed)
acts_by fresh old new event q pressed = go (target_in (goes_by event) old) refl
  where
    go : (t : Target) → target_in (goes_by event) old ≡ t → on_target t (from_place fresh old new event) ≡ acts q pressed → ActsBy fresh old new event (acts q pressed)
    go Missing is aims = cc
    go Several is aims = cc
    go (One p) is aims = formed (is_in_its_form old event p) refl aims
      where
        last : (r : Result (List ℕ) ConflictKind) → is_in_its_form old event p ≡ true → on_found r (settled fresh old new event p) ≡ acts q pressed → ActsBy fresh old new event (acts q pressed)
        last (Err kind) own aims = cc
        last (Ok r) own aims = record { place = p; found = r; selected = is; in_form = own; settles = aims }

        wanted : (b : Bool) → is_in_its_form old event p ≡ true
            → (if b then nowhere else on_found (counterpart fresh old new (asks_by_link old event p) p) (settled fresh old new event p)) ≡ acts q pressed → ActsBy fresh old new event (acts q pressed)
        wanted true own aims = cc
        wanted false own aims = last (counterpart fresh old new (asks_by_link old event p) p) own aims

        formed : (b : Bool) → is_in_its_form old event p ≡ b
            → (if not b then lost NotAForm else (if needs_none old event p then nowhere else on_found (counterpart fresh old new (asks_by_link old event p) p) (settled fresh old new event p))) ≡ acts q pressed
            → ActsBy fresh old new event (acts q pressed)
        formed false own aims = cc
        formed true own aims = wanted (needs_none old event p) own aims

unless : (alike : Bool) (aim : Aim) (q : List ℕ) (pressed : Option (List ℕ)) → unless_changed alike aim ≡ acts q pressed → (alike ≡ true) × (aim ≡ acts q pressed)
unless true aim q pressed is = (refl, is)
unless false aim q pressed is = cc

one_place : (q r : List ℕ) (by pressed : Option (List ℕ)) → acts q by ≡ acts r pressed → (q ≡ r) × (by ≡ pressed)
one_place q r by pressed is = (cc, cc)

-- ---- what the two send themselves

sent_one : (fresh : List (List ℕ)) (old new : Tree) (p q : List ℕ) → is_sent_alike fresh old new p q ≡ true → sent_at fresh old p ≡ sent_at fresh new q
sent_one fresh old new p q is = attributes_one (sent_at fresh old p) (sent_at fresh new q) is

first_true : (a b : Bool) → (a && b) ≡ true → a ≡ true
first_true true b is = refl
first_true false b is = cc

second_true : (a b : Bool) → (a && b) ≡ true → b ≡ true
second_true true b is = is
second_true false b is = cc

-- there is a node that sends so
sender : (fresh : List (List ℕ)) (o : Option Tree) (mark : List ℕ) → [] ≢ mark → first_name (option_map_or (sent fresh) o []) ≡ mark → (u : Tree) × (o ≡ Some u)
sender fresh None mark some is = absurd (some is)
sender fresh (Some u) mark some is = (u, refl)

kind_node : (o : Option Tree) (kind : Control) → kind ≢ control.Other → option_map_or control_of o control.Other ≡ kind → (u : Tree) × ((o ≡ Some u) × (control_of u ≡ kind))
kind_node None kind other is = absurd (other (sym is))
kind_node (Some u) kind other is = (u, (refl, is))

-- what a form sends, by its node
abbrev posts_by : Option Tree → Bool
posts_by o = option_map_or (λ method. str_eq_ignore_ascii_case method (codes "post")) (option_and_then (λ n. value_of (codes "method") (attributes_of n)) o) false

abbrev action_in : List (List ℕ) → Option Tree → List ℕ
action_in fresh o = without_fresh fresh (unwrap_or (option_and_then (λ n. value_of (codes "action") (attributes_of n)) o) [])

abbrev unseen_of : List (List ℕ) → Option Tree → List Attribute
unseen_of fresh o = option_map_or (λ node. untouched_pairs fresh (unseen_in false (children_of node))) o []

module _ (fresh : List (List ℕ)) (old new : Tree) (p q : List ℕ) (alike : is_sent_alike fresh old new p q ≡ true) where
  same_sent : sent_at fresh old p ≡ sent_at fresh new q
  same_sent = sent_one fresh old new p q alike

  pub links_alike : control_at q new ≡ control.Link → AreLinksAlike fresh old new p q
  links_alike link =
      let (u, (there, kind)) = kind_node (node_at q new) control.Link (λ is. cc) link in
      let now : sent_at fresh new q ≡ sent fresh u = ap (λ o. option_map_or (sent fresh) o []) there in
      let first = link_first fresh u kind in
      let (v, here) = sender fresh (node_at p old) (codes "href") (apart [] (codes "href") refl) (ap first_name (same_sent ∙ now) ∙ first) in
      let was : sent_at fresh old p ≡ sent fresh v = ap (λ o. option_map_or (sent fresh) o []) here in
      let both : sent fresh v ≡ sent fresh u = sym was ∙ same_sent ∙ now in
      ap (λ o. option_map (without_fresh fresh) (option_and_then (λ n. value_of (codes "href") (attributes_of n)) o)) here
      ∙ address_told fresh (attributes_of v) (attributes_of u) (sym (link_sends fresh v (ap first_name both ∙ first)) ∙ both ∙ link_sends fresh u first)
      ∙ ap (λ o. option_map (without_fresh fresh) (option_and_then (λ n. value_of (codes "href") (attributes_of n)) o)) (sym there)

  action_is : (o : Option (List ℕ)) → unwrap_or (unless_empty o) [] ≡ unwrap_or o []
  action_is None = refl
  action_is (Some []) = refl
  action_is (Some (c ∷ text)) = refl

  pub forms_alike : control_at q new ≡ control.Form → AreFormsAlike fresh old new p q
  forms_alike form =
      let (u, (there, kind)) = kind_node (node_at q new) control.Form (λ is. cc) form in
      let now : sent_at fresh new q ≡ sent fresh u = ap (λ o. option_map_or (sent fresh) o []) there in
      let first = form_first fresh u kind in
      let (v, here) = sender fresh (node_at p old) (codes "method") (apart [] (codes "method") refl) (ap first_name (same_sent ∙ now) ∙ first) in
      let was : sent_at fresh old p ≡ sent fresh v = ap (λ o. option_map_or (sent fresh) o []) here in
      let both : sent fresh v ≡ sent fresh u = sym was ∙ same_sent ∙ now in
      let told = form_told fresh (attributes_of v) (attributes_of u) (children_of v) (children_of u)
      (sym (form_sends fresh v (ap first_name both ∙ first)) ∙ both ∙ form_sends fresh u first) in
      record {
        method = ap posts_by here ∙ told.0 ∙ ap posts_by (sym there);
        address =
            ap (without_fresh fresh) (action_is (attribute_at p (codes "action") old)) ∙ ap (action_in fresh) here ∙ told.1 ∙ ap (action_in fresh) (sym there)
            ∙ ap (without_fresh fresh) (sym (action_is (attribute_at q (codes "action") new)));
        unseen = ap (unseen_of fresh) here ∙ told.2 ∙ ap (unseen_of fresh) (sym there);
      }

-- ---- no conflict where it acts

module _ (old new : Tree) (event : Event) (aim : Event → Aim) where
  free_at : (q : List ℕ) (pressed : Option (List ℕ)) → aim event ≡ acts q pressed → conflict aim old new event ≡ None → conflict_at old new event q pressed ≡ None
  free_at q pressed aims free = ap (λ a. conflict_by a (conflict_at old new event)) (sym aims) ∙ free

input_free : (c : Control) (disabled unchanged : Bool) → input_conflict c disabled unchanged ≡ None → unchanged ≡ true
unfolding input_conflict
input_free control.Text true unchanged free = cc
input_free control.Text false true free = refl
input_free control.Text false false free = cc
input_free control.Check disabled unchanged free = cc
input_free control.Radio disabled unchanged free = cc
input_free control.Submit disabled unchanged free = cc
input_free control.Link disabled unchanged free = cc
input_free control.Form disabled unchanged free = cc
input_free control.Other disabled unchanged free = cc

both_texts : (was now : Option (List ℕ)) → option_map_or (λ before. option_map_or (bytes_eq before) now false) was false ≡ true → was ≡ now
both_texts None now is = cc
both_texts (Some before) None is = cc
both_texts (Some before) (Some text) is = ap Some (bytes_one before text is)

off_free : (req : ℕ) → req ≢ 0 → off_link req ≢ None
off_free req some = go (eqb_tells req 0)
  where
    go : (((req == 0) ≡ true) × (req ≡ 0)) ⊎ (((req == 0) ≡ false) × (req ≢ 0)) → off_link req ≢ None
    go (inl same) = absurd (some same.1)
    go (inr other) = rw other.0 (λ is. cc)

click_free : (c : Control) (disabled : Bool) (req : ℕ) → req ≢ 0 → click_conflict c disabled req ≡ None → c ≡ control.Link
unfolding click_conflict
click_free control.Radio disabled req some free = cc
click_free control.Check true req some free = cc
click_free control.Check false req some free = absurd (off_free req some free)
click_free control.Link disabled req some free = refl
click_free control.Text disabled req some free = absurd (off_free req some free)
click_free control.Submit disabled req some free = absurd (off_free req some free)
click_free control.Form disabled req some free = absurd (off_free req some free)
click_free control.Other disabled req some free = absurd (off_free req some free)

submit_free : (c : Control) (button : Bool) → submit_conflict c button ≡ None → c ≡ control.Form
unfolding submit_conflict
submit_free control.Form button free = refl
submit_free control.Text button free = cc
submit_free control.Check button free = cc
submit_free control.Radio button free = cc
submit_free control.Submit button free = cc
submit_free control.Link button free = cc
submit_free control.Other button free = cc

-- ---- each kind of event

-- the path selects the place where it acts by its path
path_one : (old : Tree) (event : Event) (t : Target) (p r : List ℕ) (by : Option (List ℕ)) → target_in (path_of event) old ≡ t → t ≡ One r → by_path old event ≡ acts p by
    → (r ≡ p) × (button_by_path old (by_of event) ≡ by)
path_one old event t p r by is one aims =
    let here : acts r (button_by_path old (by_of event)) ≡ acts p by = ap (λ u. on_target u (λ place. acts place (button_by_path old (by_of event)))) (sym (is ∙ one)) ∙ aims in
    one_place r p (button_by_path old (by_of event)) by here

path_selects : (old : Tree) (event : Event) (p : List ℕ) (by : Option (List ℕ)) → by_path old event ≡ acts p by → target_in (path_of event) old ≡ One p
path_selects old event p by = go (target_in (path_of event) old) refl
  where
    go : (t : Target) → target_in (path_of event) old ≡ t → on_target t (λ place. acts place (button_by_path old (by_of event))) ≡ acts p by → target_in (path_of event) old ≡ One p
    go Missing is aims = cc
    go Several is aims = cc
    go (One r) is aims = is ∙ ap One (one_place r p (button_by_path old (by_of event)) by aims).0

clicked_sent : (fresh : List (List ℕ)) (old new : Tree) (p q : List ℕ) → is_clicked_alike fresh old new p q ≡ true → is_sent_alike fresh old new p q ≡ true
clicked_sent fresh old new p q = go (is_check (control_at p old))
  where
    go : (b : Bool) → (if b then is_kept fresh old new p q && is_one_state (start_checked_at p old) (start_checked_at q new) else is_sent_alike fresh old new p q) ≡ true → is_sent_alike fresh old new p q ≡ true
    go true is = first_true _ _ (first_true _ _ is)
    go false is = is

module _ (fresh : List (List ℕ)) (old new : Tree) (p q : List ℕ) (by pressed : Option (List ℕ)) where
  input_alike : (at : ℕ) (target : List Step) (value : List ℕ) → by_path old (Input at target value) ≡ acts p by → by_element fresh old new (Input at target value) ≡ acts q pressed
      → conflict_at old new (Input at target value) q pressed ≡ None → (is_kept fresh old new p q ≡ true) × (start_text_at p old ≡ start_text_at q new)
  input_alike at target value was now free =
      let event = Input at target value in
      let a = acts_by fresh old new event q pressed now in
      let selects = path_selects old event p by was in
      let same : a.place ≡ p = cc (sym a.selected ∙ selects) in
      let (kept, aims) = unless (is_kept fresh old new a.place a.found) (acts a.found None) q pressed a.settles in
      let found = (one_place a.found q None pressed aims).0 in
      let unchanged : is_unchanged old new target q ≡ true = input_free (control_at q new) (is_disabled q new) (is_unchanged old new target q) free in (
        ap₂ (λ (r s : List ℕ). is_kept fresh old new r s) (sym same) (sym found) ∙ kept,
        both_texts (start_text_at p old) (start_text_at q new)
            (ap (λ t. option_map_or (λ before. option_map_or (bytes_eq before) (start_text_at q new) false) (option_and_then (λ there. start_text_at there old) (only_place t)) false) (sym selects) ∙ unchanged),
      )

  click_alike : (at : ℕ) (target : List Step) (req : ℕ) → by_path old (Click at target req) ≡ acts p by → by_element fresh old new (Click at target req) ≡ acts q pressed
      → conflict_at old new (Click at target req) q pressed ≡ None → (is_clicked_alike fresh old new p q ≡ true) × (req ≢ 0 → AreLinksAlike fresh old new p q)
  click_alike at target req was now free =
      let event = Click at target req in
      let a = acts_by fresh old new event q pressed now in
      let same : a.place ≡ p = cc (sym a.selected ∙ path_selects old event p by was) in
      let (kept, aims) = unless (is_clicked_alike fresh old new a.place a.found) (acts a.found None) q pressed a.settles in
      let found = (one_place a.found q None pressed aims).0 in
      let clicked : is_clicked_alike fresh old new p q ≡ true = ap₂ (λ (r s : List ℕ). is_clicked_alike fresh old new r s) (sym same) (sym found) ∙ kept in (
        clicked,
        λ some. links_alike fresh old new p q (clicked_sent fresh old new p q clicked) (click_free (control_at q new) (is_disabled q new) req some free),
      )

  pressed_both : (b c f g : Option (List ℕ)) → b ≡ c → f ≡ g → ArePressedAlike fresh old new b f → ArePressedAlike fresh old new c g
  pressed_both b c f g same also alike = rw (← same, ← also) alike

  submit_alike : (at : ℕ) (target : List Step) (req : ℕ) → by_path old (Submit at target None req) ≡ acts p by → by_element fresh old new (Submit at target None req) ≡ acts q pressed
      → conflict_at old new (Submit at target None req) q pressed ≡ None → AreFormsAlike fresh old new p q × ArePressedAlike fresh old new by pressed
  submit_alike at target req was now free =
      let event = Submit at target None req in
      let a = acts_by fresh old new event q pressed now in
      let selects = path_selects old event p by was in
      let same : a.place ≡ p = cc (sym a.selected ∙ selects) in
      let none = (path_one old event (One p) p p by selects refl was).1 in
      let (kept, aims) = unless (is_sent_alike fresh old new a.place a.found) (acts a.found None) q pressed a.settles in
      let (found, unpressed) = one_place a.found q None pressed aims in
      let sent : is_sent_alike fresh old new p q ≡ true = ap₂ (λ (r s : List ℕ). is_sent_alike fresh old new r s) (sym same) (sym found) ∙ kept in (
        forms_alike fresh old new p q sent (submit_free (control_at q new) (has_button new q None pressed) free),
        pressed_both None by None pressed none unpressed tt,
      )

  -- what is around the button that was pressed
  in_form : (f : Option (List ℕ)) (t : Target) → t ≡ One p → option_map_or (λ form. option_map_or (bytes_eq form) (only_place t) false) f false ≡ true → f ≡ Some p
  in_form None t one is = cc
  in_form (Some form) t one is = ap Some (bytes_one form p (ap (λ u. option_map_or (bytes_eq form) (only_place u) false) (sym one) ∙ is))

  pressed_alike : (button found : List ℕ) (g : Option (List ℕ)) → form_around old button ≡ Some p → form_around new found ≡ g → pressed_in fresh old new button found g ≡ acts q pressed
      → (is_sent_alike fresh old new p q ≡ true) × ((is_sent_alike fresh old new button found ≡ true) × (Some found ≡ pressed))
  pressed_alike button found None around over aims = cc
  pressed_alike button found (Some g) around over aims =
      let (kept, acts_there) = unless (is_kept fresh old new button found) (acts g (Some found)) q pressed aims in
      let (place, by_it) = one_place g q (Some found) pressed acts_there in
      let forms : are_forms_alike fresh old new (form_around old button) (form_around new found) ≡ true = second_true (is_sent_alike fresh old new button found) _ kept in (
        ap (λ r. is_sent_alike fresh old new p r) (sym place) ∙ ap₂ (λ (f h : Option (List ℕ)). are_forms_alike fresh old new f h) (sym around) (sym over) ∙ forms,
        (first_true (is_sent_alike fresh old new button found) _ kept, by_it),
      )

  press_alike : (at : ℕ) (target path : List Step) (req : ℕ) → by_path old (Submit at target (Some path) req) ≡ acts p by → by_element fresh old new (Submit at target (Some path) req) ≡ acts q pressed
      → conflict_at old new (Submit at target (Some path) req) q pressed ≡ None → AreFormsAlike fresh old new p q × ArePressedAlike fresh old new by pressed
  press_alike at target path req was now free =
      let event = Submit at target (Some path) req in
      let a = acts_by fresh old new event q pressed now in
      let selects = path_selects old event p by was in
      let around : form_around old a.place ≡ Some p = in_form (form_around old a.place) (target_in target old) selects a.in_form in
      let (forms, (buttons, by_it)) = pressed_alike a.place a.found (form_around new a.found) around refl a.settles in
      let button : Some a.place ≡ by = sym (ap only_place a.selected) ∙ (path_one old event (One p) p p by selects refl was).1 in (
        forms_alike fresh old new p q forms (submit_free (control_at q new) (has_button new q (Some path) pressed) free),
        pressed_both (Some a.place) by (Some a.found) pressed button by_it buttons,
      )

-- no touched field stands under one of the two forms alone
stays_alike : (fresh : List (List ℕ)) (old new : Tree) (before : List Event) (event : Event) (p q : List ℕ) (by pressed : Option (List ℕ)) → is_submit event ≡ true → by_path old event ≡ acts p by
    → by_element fresh old new event ≡ acts q pressed → has_strayed (Some fresh) old new before event ≡ false → list_any (strays (by_element fresh old new) old p q) before ≡ false
stays_alike fresh old new before event p q by pressed submit was now none =
    sym (submit_strays fresh old new before event p q submit (ap only_place (path_selects old event p by was)) (ap place_of_aim now)) ∙ none

event_alike : (fresh : List (List ℕ)) (old new : Tree) (before : List Event) (event : Event) (was now : Aim) → by_path old event ≡ was → by_element fresh old new event ≡ now
    → IsGood fresh old new before event → AsksAlike fresh old new before event was now
event_alike fresh old new before (Input at target value) (acts p by) (acts q pressed) was now free =
    input_alike fresh old new p q by pressed at target value was now (free_at old new (Input at target value) (by_element fresh old new) q pressed now free.1)
event_alike fresh old new before (Click at target req) (acts p by) (acts q pressed) was now free =
    click_alike fresh old new p q by pressed at target req was now (free_at old new (Click at target req) (by_element fresh old new) q pressed now free.1)
event_alike fresh old new before (Submit at target None req) (acts p by) (acts q pressed) was now free =
    let both = submit_alike fresh old new p q by pressed at target req was now (free_at old new (Submit at target None req) (by_element fresh old new) q pressed now free.1) in
    (both.0, (both.1, stays_alike fresh old new before (Submit at target None req) p q by pressed refl was now free.0))
event_alike fresh old new before (Submit at target (Some path) req) (acts p by) (acts q pressed) was now free =
    let both = press_alike fresh old new p q by pressed at target path req was now (free_at old new (Submit at target (Some path) req) (by_element fresh old new) q pressed now free.1) in
    (both.0, (both.1, stays_alike fresh old new before (Submit at target (Some path) req) p q by pressed refl was now free.0))
event_alike fresh old new before (Input at target value) (acts p by) nowhere was now free = tt
event_alike fresh old new before (Input at target value) (acts p by) (lost kind) was now free = tt
event_alike fresh old new before (Input at target value) nowhere now was is free = tt
event_alike fresh old new before (Input at target value) (lost kind) now was is free = tt
event_alike fresh old new before (Click at target req) (acts p by) nowhere was now free = tt
event_alike fresh old new before (Click at target req) (acts p by) (lost kind) was now free = tt
event_alike fresh old new before (Click at target req) nowhere now was is free = tt
event_alike fresh old new before (Click at target req) (lost kind) now was is free = tt
event_alike fresh old new before (Submit at target by req) (acts p button) nowhere was now free = tt
event_alike fresh old new before (Submit at target by req) (acts p button) (lost kind) was now free = tt
event_alike fresh old new before (Submit at target by req) nowhere now was is free = tt
event_alike fresh old new before (Submit at target by req) (lost kind) now was is free = tt

pub all_ask_alike : (site : RepairedSite) (fresh : List (List ℕ)) (visit : Visit) (requests : List Request) (new : Tree) → AllAskAlike site fresh visit requests new
all_ask_alike site fresh visit requests new same done there k event at =
    event_alike fresh visit.page new (take k visit.events) event (by_path visit.page event) (by_element fresh visit.page new event) refl refl (done_good site fresh visit requests new same done there k event at)

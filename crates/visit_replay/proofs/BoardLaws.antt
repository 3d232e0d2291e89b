-- A page as the first deeds of a trail filled it in, and what its forms send there.
use Rattle.std.proofs.Common.{IfSome, ◌≡◌, ℕ, suc, ◌+◌, ◌<◌, Bool, List, [], ◌∷◌, ◌++◌, All, length, take, get_or, slice_get, Option, Some, option_and_then, refl, sym, ◌∙◌, ap, subst, arith}
use Rattle.std.proofs.lemmas.Option.{slice_get-get_or}
use Rattle.page_tree.specs.Tree.{Tree}
use Rattle.page_tree.specs.Number.{place_numbered}
use Rattle.form_urlencoded.specs.Form.{extend_pairs}
use Rattle.visit_replay.specs.Form.{action_of, is_post, pairs_held, sent_to}
use Rattle.visit_replay.specs.inside.OneEvent.{IsWithin, places_numbered}
use Rattle.visit_replay.specs.inside.Deed.{Deed}
use Rattle.visit_replay.specs.inside.Deeds.{IsDeedOn, deed_request, form_asked, text_done, text_behind, is_on_done, is_on_behind}
use Rattle.visit_replay.specs.inside.KeptFields.{Hold}
use Rattle.visit_replay.specs.inside.Boards.{IsWide, known_page}
use Rattle.visit_replay.specs.inside.Senders.{AreRight, SendUnder, sent_all}
use Rattle.visit_replay.specs.inside.Trails.{asked_at}
use Rattle.visit_replay.specs.declared.board.Board.{Board}
use Rattle.visit_replay.specs.declared.fields.Fields.{Fields}
use Rattle.visit_replay.specs.declared.forms.Filled.{Filled}
use Rattle.visit_replay.specs.declared.senders.Sender.{Sender}
use Rattle.visit_replay.specs.declared.trail.Trail.{Trail}
use Rattle.visit_replay.proofs.Overlay.{same_hold}
use Rattle.visit_replay.proofs.Places.{take_suc, some_same}
use Rattle.visit_replay.proofs.TrailLaws.{text_more, is_on_more}

-- ---- nodes are known

-- of that page
pub known_right : (board : Board) (page : Tree) → IsWide board → known_page board ≡ Some page → AreRight board.names.now page board.senders
known_right board page wide is = subst (λ o. IfSome o (λ page. AreRight board.names.now page board.senders)) is wide.known

-- ---- deeds were taken in

-- one more of these
pub hold_more : (page : Tree) (deeds : List Deed) (i : ℕ) (deed : Deed) (fields : Fields) → slice_get deeds i ≡ Some deed
    → Hold fields page (λ place. text_done page place (text_behind page (take i deeds) place) deed) (λ place. is_on_done page place (is_on_behind page (take i deeds) place) deed)
    → Hold fields page (text_behind page (take (i + 1) deeds)) (is_on_behind page (take (i + 1) deeds))
hold_more page deeds i deed fields at held =
    let next : i + 1 ≡ suc i = omega arith in
    let more : take (i + 1) deeds ≡ take i deeds ++ deed ∷ [] = ap (λ n. take n deeds) next ∙ take_suc deeds i deed at in
    same_hold fields page (λ place. text_done page place (text_behind page (take i deeds) place) deed) (text_behind page (take (i + 1) deeds))
    (λ place. is_on_done page place (is_on_behind page (take i deeds) place) deed) (is_on_behind page (take (i + 1) deeds))
    (λ place. ap (λ ds. text_behind page ds place) more ∙ text_more page (take i deeds) deed place)
    (λ place. ap (λ ds. is_on_behind page ds place) more ∙ is_on_more page (take i deeds) deed place) held

-- each is of nodes of the page
pub deed_on : (page : Tree) (deeds : List Deed) (place : ℕ) (deed : Deed) → All (IsDeedOn page) deeds → place < length deeds → slice_get deeds place ≡ Some deed → IsDeedOn page deed
deed_on page deeds place deed are below at =
    subst (IsDeedOn page) (some_same (get_or deeds place deed) deed (sym (slice_get-get_or deeds place deed below) ∙ at)) (are place deed below)

-- what the deed at that place asks for
pub asked_by : (trail : Trail) (place : ℕ) (deed : Deed) → slice_get trail.deeds.items place ≡ Some deed
    → asked_at trail place ≡ deed_request trail.address trail.page (take place trail.deeds.items) deed
asked_by trail place deed at = ap (option_and_then (deed_request trail.address trail.page (take place trail.deeds.items))) at

-- ---- what a form sends

-- what it sends where the page is filled in by deeds
pub form_sends : (address : List ℕ) (page : Tree) (before : List Deed) (names : List (List ℕ)) (form req : ℕ) (button : Option ℕ) (them : List Sender) (filled : Filled) (fields : Fields) (post : Bool) (action : List ℕ)
    → SendUnder names page form them → filled.page.now ≡ page → filled.fields.now ≡ fields → filled.button ≡ button → IsWithin button page
    → Hold fields page (text_behind page before) (is_on_behind page before) → post ≡ is_post (place_numbered form page) page → action ≡ action_of address (place_numbered form page) page
    → sent_to post req action (extend_pairs [] (sent_all filled them)) ≡ form_asked address page before form button req
form_sends address page before names form req button them filled fields post action under on held_by pressed within held posts acts =
    let Sends : Tree → Fields → Option ℕ → Type 0 = λ p f b. SendUnder names p form them → IsWithin b p → Hold f p (text_behind p before) (is_on_behind p before)
    → sent_all filled them ≡ pairs_held (text_behind p before) (is_on_behind p before) p (places_numbered b p) (place_numbered form p) in
    let here : Sends filled.page.now filled.fields.now filled.button = λ u i h. u.pairs filled refl i (text_behind filled.page.now before) (is_on_behind filled.page.now before) h in
    let paged : Sends page filled.fields.now filled.button = subst (λ p. Sends p filled.fields.now filled.button) on here in
    let kept : Sends page fields filled.button = subst (λ f. Sends page f filled.button) held_by paged in
    let all : Sends page fields button = subst (λ b. Sends page fields b) pressed kept in
    ap (λ p. sent_to p req action (extend_pairs [] (sent_all filled them))) posts
    ∙ ap (λ a. sent_to (is_post (place_numbered form page) page) req a (extend_pairs [] (sent_all filled them))) acts
    ∙ ap (λ pairs. sent_to (is_post (place_numbered form page) page) req (action_of address (place_numbered form page) page) (extend_pairs [] pairs)) (all under within held)

-- What fields hold after a text is typed, a checkbox is turned, or an event is taken in.
use Rattle.std.proofs.Common.{◌≡◌, ◌≢◌, ℕ, ◌<◌, List, [], ◌∷◌, ◌++◌, length, Bool, true, false, not, ◌==◌, if◌then◌else◌, get_or, Option, Some, None, unwrap_or, option_map, inl, inr, refl, sym, ◌∙◌, ap, arith}
use Rattle.std.specs.Borrow.{Bor}
use Rattle.std.specs.Str.{bytes_eq}
use Rattle.std.proofs.lemmas.Bool.Decides.{eqb_tells}
use Rattle.std.proofs.lemmas.List.Sums.{fold-append}
use Rattle.page_tree.specs.Tree.{Tree}
use Rattle.page_tree.specs.Limits.{nodes}
use Rattle.page_tree.specs.Number.{place_numbered}
use Rattle.page_tree.specs.Control.{control_at, start_text_at, start_checked_at}
use Rattle.page_tree.specs.declared.control.Control.TheVariants as control
use Rattle.upload_reader.specs.declared.message.Event.{Event}
use Rattle.upload_reader.specs.declared.message.Event.TheVariants.{Input, Click, Submit}
use Rattle.xpath_child.specs.Path.{Step}
use Rattle.visit_replay.specs.Aim.{Aim, place_of_aim}
use Rattle.visit_replay.specs.Field.{is_there, text_by, text_after, is_on_by, is_on_after, value_before, is_on_before}
use Rattle.visit_replay.specs.inside.KeptFields.{HasRoom, Hold, Keeps, TakesIn, turned_now, is_on_now}
use Rattle.visit_replay.specs.inside.Deeds.{text_behind, is_on_behind}
use Rattle.visit_replay.specs.inside.OneEvent.{IsNodeOf}
use Rattle.visit_replay.specs.declared.fields.Fields.{Fields}
use Rattle.visit_replay.proofs.Numbered.{same_place}

either : {X : Type 0} (b : Bool) (x : X) → x ≡ (if b then x else x)
either true x = refl
either false x = refl

-- ---- whatever they stand for

-- what is the same at each place
pub same_hold : (fields : Fields) (page : Tree) (text text' : List ℕ → List ℕ) (on on' : List ℕ → Bool) → ((place : List ℕ) → text' place ≡ text place) → ((place : List ℕ) → on' place ≡ on place)
    → Hold fields page text on → Hold fields page text' on'
same_hold fields page text text' on on' texts states held = record {
  room = held.room;
  texts = λ number there. held.texts number there ∙ sym (texts (place_numbered number page));
  checks = λ number there checkbox. held.checks number there checkbox ∙ sym (states (place_numbered number page));
}

-- before any deed
pub hold_first : (fields : Fields) (page : Tree) → HasRoom fields page → ((number : ℕ) → number < nodes page → get_or fields.texts.items number None ≡ None) → ((number : ℕ) → number < nodes page → turned_now fields number ≡ false)
    → Hold fields page (text_behind page []) (is_on_behind page [])
hold_first fields page room none off = record {
  room = room;
  texts = λ number there. ap (λ o. unwrap_or (option_map (λ t. t.now) o) (unwrap_or (start_text_at (place_numbered number page) page) [])) (none number there);
  checks = λ number there checkbox. ap (λ t. let start = start_checked_at (place_numbered number page) page in if t then not start else start) (off number there);
}

written_now : (b : Bool) (text : Bor (List ℕ)) (o : Option (Bor (List ℕ))) (start : List ℕ)
    → unwrap_or (option_map (λ t. t.now) (if b then Some text else o)) start ≡ (if b then text.now else unwrap_or (option_map (λ t. t.now) o) start)
written_now true text o start = refl
written_now false text o start = refl

-- a text was typed into that one
pub hold_typed : (old fields : Fields) (page : Tree) (text : List ℕ → List ℕ) (on : List ℕ → Bool) (number : ℕ) (word : Bor (List ℕ)) → number < nodes page
    → ((other : ℕ) → other < length old.texts.items → get_or fields.texts.items other None ≡ (if number == other then Some word else get_or old.texts.items other None))
    → length fields.texts.items ≡ length old.texts.items → fields.turned ≡ old.turned → Hold old page text on
    → Hold fields page (λ place. if bytes_eq (place_numbered number page) place then word.now else text place) on
hold_typed old fields page text on number word there texts long turned held = record {
  room = record { texts = omega (arith, long, held.room.texts); turned = rw turned held.room.turned };
  texts = λ other few.
      let start = unwrap_or (start_text_at (place_numbered other page) page) [] in
      ap (λ o. unwrap_or (option_map (λ t. t.now) o) start) (texts other (omega (arith, few, held.room.texts)))
      ∙ written_now (number == other) word (get_or old.texts.items other None) start
      ∙ ap (λ rest. if number == other then word.now else rest) (held.texts other few)
      ∙ ap (λ b. if b then word.now else text (place_numbered other page)) (sym (same_place number other page there few));
  checks = λ other few checkbox.
      ap (λ t. let start = start_checked_at (place_numbered other page) page in if get_or t.items other false then not start else start) turned
      ∙ held.checks other few checkbox;
}

-- a checkbox with that number was turned, each other one is as it was
turned_back : (t b start : Bool) → (if (if b then not t else t) then not start else start) ≡ (if b then not (if t then not start else start) else (if t then not start else start))
turned_back true true true = refl
turned_back true true false = refl
turned_back true false start = refl
turned_back false true start = refl
turned_back false false start = refl

turned_at : (old fields : Fields) (new : Tree) (number other : ℕ) → turned_now fields other ≡ (if number == other then not (turned_now old other) else turned_now old other)
    → is_on_now fields new other ≡ (if number == other then not (is_on_now old new other) else is_on_now old new other)
turned_at old fields new number other turned =
    let start = start_checked_at (place_numbered other new) new in
    ap (λ t. if t then not start else start) turned ∙ turned_back (turned_now old other) (number == other) start

pub hold_turned : (old fields : Fields) (page : Tree) (text : List ℕ → List ℕ) (on : List ℕ → Bool) (number : ℕ) → number < nodes page
    → ((other : ℕ) → other < length old.turned.items → turned_now fields other ≡ (if number == other then not (turned_now old other) else turned_now old other))
    → length fields.turned.items ≡ length old.turned.items → fields.texts ≡ old.texts → Hold old page text on
    → Hold fields page text (λ place. if bytes_eq (place_numbered number page) place then not (on place) else on place)
hold_turned old fields page text on number there turned long texts held = record {
  room = record { texts = rw texts held.room.texts; turned = omega (arith, long, held.room.turned) };
  texts = λ other few.
      let start = unwrap_or (start_text_at (place_numbered other page) page) [] in
      ap (λ t. unwrap_or (option_map (λ t. t.now) (get_or t.items other None)) start) texts ∙ held.texts other few;
  checks = λ other few checkbox.
      let place = place_numbered other page in
      turned_at old fields page number other (turned other (omega (arith, few, held.room.turned)))
      ∙ ap (λ o. if number == other then not o else o) (held.checks other few checkbox)
      ∙ ap (λ b. if b then not (on place) else on place) (sym (same_place number other page there few));
}

-- what is no checkbox may be clicked
pub hold_passed : (fields : Fields) (page : Tree) (text : List ℕ → List ℕ) (on : List ℕ → Bool) (number : ℕ) → number < nodes page → control_at (place_numbered number page) page ≢ control.Check
    → Hold fields page text on → Hold fields page text (λ place. if bytes_eq (place_numbered number page) place then not (on place) else on place)
hold_passed fields page text on number there none held = record {
  room = held.room;
  texts = held.texts;
  checks = λ other few checkbox. elim (eqb_tells number other) [
    | inl same ↦ absurd (none (ap (λ n. control_at (place_numbered n page) page) same.1 ∙ checkbox))
    | inr apart ↦ held.checks other few checkbox ∙ ap (λ b. if b then not (on (place_numbered other page)) else on (place_numbered other page)) (sym (same_place number other page there few ∙ apart.0))
  ];
}

-- ---- behind one event more

module _ (aim : Event → Aim) (new : Tree) (event : Event) where
  value_more : (before : List Event) (place : List ℕ) → value_before aim new (before ++ event ∷ []) place ≡ text_after aim place (value_before aim new before place) event
  value_more before place = fold-append (text_after aim place) (unwrap_or (start_text_at place new) []) before (event ∷ [])

  on_more : (before : List Event) (place : List ℕ) → is_on_before aim new (before ++ event ∷ []) place ≡ is_on_after aim place (is_on_before aim new before place) event
  on_more before place = fold-append (is_on_after aim place) (start_checked_at place new) before (event ∷ [])

  -- one that writes nothing, and one that turns nothing
  pub value_stays : ((text : List ℕ) → text_by event text ≡ text) → (before : List Event) (place : List ℕ) → value_before aim new (before ++ event ∷ []) place ≡ value_before aim new before place
  value_stays none before place =
      let text = value_before aim new before place in
      value_more before place ∙ ap (λ t. if is_there place (place_of_aim (aim event)) then t else text) (none text) ∙ sym (either (is_there place (place_of_aim (aim event))) text)

  pub on_stays : ((on : Bool) → is_on_by event on ≡ on) → (before : List Event) (place : List ℕ) → is_on_before aim new (before ++ event ∷ []) place ≡ is_on_before aim new before place
  on_stays none before place =
      let on = is_on_before aim new before place in
      on_more before place ∙ ap (λ o. if is_there place (place_of_aim (aim event)) then o else on) (none on) ∙ sym (either (is_there place (place_of_aim (aim event))) on)

  -- one that acts on that node
  pub value_there : (number : ℕ) → place_of_aim (aim event) ≡ Some (place_numbered number new) → (before : List Event) (place : List ℕ)
      → value_before aim new (before ++ event ∷ []) place ≡ (if bytes_eq (place_numbered number new) place then text_by event (value_before aim new before place) else value_before aim new before place)
  value_there number there before place =
      let text = value_before aim new before place in
      value_more before place ∙ ap (λ o. if is_there place o then text_by event text else text) there

  pub on_there : (number : ℕ) → place_of_aim (aim event) ≡ Some (place_numbered number new) → (before : List Event) (place : List ℕ)
      → is_on_before aim new (before ++ event ∷ []) place ≡ (if bytes_eq (place_numbered number new) place then is_on_by event (is_on_before aim new before place) else is_on_before aim new before place)
  on_there number there before place =
      let on = is_on_before aim new before place in
      on_more before place ∙ ap (λ o. if is_there place o then is_on_by event on else on) there

  -- one that acts nowhere
  pub value_nowhere : place_of_aim (aim event) ≡ None → (before : List Event) (place : List ℕ) → value_before aim new (before ++ event ∷ []) place ≡ value_before aim new before place
  value_nowhere none before place =
      let text = value_before aim new before place in value_more before place ∙ ap (λ o. if is_there place o then text_by event text else text) none

  pub on_nowhere : place_of_aim (aim event) ≡ None → (before : List Event) (place : List ℕ) → is_on_before aim new (before ++ event ∷ []) place ≡ is_on_before aim new before place
  on_nowhere none before place =
      let on = is_on_before aim new before place in on_more before place ∙ ap (λ o. if is_there place o then is_on_by event on else on) none

pub kept_input : {at : ℕ} {path : List Step} {value : List ℕ} (aim : Event → Aim) (old fields : Fields) (new : Tree) (event : Event) (number : ℕ) (word : Bor (List ℕ)) → event ≡ Input at path value → word.now ≡ value
    → IsNodeOf (aim event) new number
    → ((other : ℕ) → other < length old.texts.items → get_or fields.texts.items other None ≡ (if number == other then Some word else get_or old.texts.items other None))
    → length fields.texts.items ≡ length old.texts.items → fields.turned ≡ old.turned → TakesIn aim new event old fields
kept_input {at} {path} {value} aim old fields new event number word is same target texts long turned before kept =
    let text = value_before aim new before in
    let on = is_on_before aim new before in
    same_hold fields new (λ place. if bytes_eq (place_numbered number new) place then word.now else text place) (value_before aim new (before ++ event ∷ [])) on (is_on_before aim new (before ++ event ∷ []))
    (λ place. value_there aim new event number target.1 before place
    ∙ ap (λ t. if bytes_eq (place_numbered number new) place then t else text place) (ap (λ e. text_by e (text place)) is ∙ sym same))
    (on_stays aim new event (λ o. ap (λ e. is_on_by e o) is) before)
    (hold_typed old fields new text on number word target.0 texts long turned kept)

pub kept_click : {at req : ℕ} {path : List Step} (aim : Event → Aim) (old fields : Fields) (new : Tree) (event : Event) (number : ℕ) → event ≡ Click at path req → IsNodeOf (aim event) new number
    → ((before : List Event) → Keeps aim old new before → Hold fields new (value_before aim new before) (λ place. if bytes_eq (place_numbered number new) place then not (is_on_before aim new before place) else is_on_before aim new before place))
    → TakesIn aim new event old fields
kept_click {at} {req} {path} aim old fields new event number is target turned before kept =
    let text = value_before aim new before in
    let on = is_on_before aim new before in
    same_hold fields new text (value_before aim new (before ++ event ∷ [])) (λ place. if bytes_eq (place_numbered number new) place then not (on place) else on place) (is_on_before aim new (before ++ event ∷ []))
    (value_stays aim new event (λ t. ap (λ e. text_by e t) is) before)
    (λ place. on_there aim new event number target.1 before place ∙ ap (λ o. if bytes_eq (place_numbered number new) place then o else on place) (ap (λ e. is_on_by e (on place)) is))
    (turned before kept)

-- a submit writes and turns nothing, nor does an event that acts nowhere
pub kept_else : (aim : Event → Aim) (fields : Fields) (new : Tree) (event : Event) → place_of_aim (aim event) ≡ None → TakesIn aim new event fields fields
kept_else aim fields new event none before kept =
    same_hold fields new (value_before aim new before) (value_before aim new (before ++ event ∷ [])) (is_on_before aim new before) (is_on_before aim new (before ++ event ∷ []))
    (value_nowhere aim new event none before) (on_nowhere aim new event none before) kept

pub kept_submit : {at req : ℕ} {path : List Step} {by : Option (List Step)} (aim : Event → Aim) (fields : Fields) (new : Tree) (event : Event) → event ≡ Submit at path by req
    → TakesIn aim new event fields fields
kept_submit {at} {req} {path} {by} aim fields new event is before kept =
    same_hold fields new (value_before aim new before) (value_before aim new (before ++ event ∷ [])) (is_on_before aim new before) (is_on_before aim new (before ++ event ∷ []))
    (value_stays aim new event (λ t. ap (λ e. text_by e t) is) before) (on_stays aim new event (λ o. ap (λ e. is_on_by e o) is) before) kept

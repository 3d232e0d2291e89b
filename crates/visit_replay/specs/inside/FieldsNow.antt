-- What a form sends, by the fields as they are kept and without the events that changed them. Nodes go by their
-- numbers.
use Rattle.std.specs.Prelude.{◌≡◌, ℕ, ◌-◌, List, [], ◌∷◌, Bool, false, ◌==◌, if◌then◌else◌, Option, Some, None, filter, not}
use Rattle.std.specs.List.{filter_map, flat_map, range_with_len}
use Rattle.std.specs.Option.{option_map_or}
use Rattle.page_tree.specs.Number.{place_numbered}
use Rattle.page_tree.specs.Started.{texts_below}
use Rattle.upload_reader.specs.declared.message.Event.{Event}
use Rattle.form_urlencoded.specs.Form.{extend_pairs, serialize_pair}
use Rattle.form_urlencoded.specs.Target.{Target}
use Rattle.page_looks.specs.Outline.{is_one_of}
use Rattle.page_looks.specs.Sending.{pair_name}
use Rattle.visit_replay.specs.Aim.{Aim}
use Rattle.visit_replay.specs.Form.{Pair, sent_pair, pairs_held}
use Rattle.visit_replay.specs.Moved.{are_apart}
use Rattle.visit_replay.specs.Requests.{request_at}
use Rattle.visit_replay.specs.inside.KeptFields.{Keeps, Hold, text_now, is_on_now}
use Rattle.visit_replay.specs.inside.OneEvent.{places_numbered}
use Rattle.visit_replay.specs.declared.forms.Filled.{Filled}
use Rattle.visit_replay.specs.declared.forms.SentPair.{SentPair}
use Rattle.visit_replay.specs.declared.forms.SentValue.{SentValue}
use Rattle.visit_replay.specs.declared.forms.SentValue.TheVariants.{Text, Children}

-- a value, whether it stands in one text or in those of a `textarea`'s children
abbrev pub value_sent : SentValue → List ℕ
value_sent (Text text) = text.now
value_sent (Children page number) = flat_map (λ w. w) (texts_below page.now number)

abbrev pub pair_of : SentPair → Pair
pair_of sent = (sent.name.now, value_sent sent.value)

-- the pair that the node with that number sends
abbrev pub pair_now : Filled → ℕ → Option Pair
pair_now filled number =
    let new = filled.page.now in let fields = filled.fields.now in
    sent_pair (text_now fields new number) (is_on_now fields new number)
    (option_map_or (λ pressed. pressed == number) filled.button false) new (place_numbered number new)

-- of the nodes from one number up to another
abbrev pub pairs_now : Filled → ℕ → ℕ → List Pair
pairs_now filled start end = filter_map (pair_now filled) (range_with_len start (end - start))

-- the text of pairs with these behind it
abbrev pub with_pairs : Target → List Pair → Target
with_pairs target pairs = record target { form = extend_pairs target.form pairs }

-- ---- behind events that its fields stand for

-- it is so of the pairs that the form with that number sends, whatever the fields hold
abbrev pub OfSent : Filled → ℕ → (List Pair → Type 0) → Type 0
OfSent filled form IsSo = let new = filled.page.now in
    (text : List ℕ → List ℕ) (on : List ℕ → Bool) → Hold filled.fields.now new text on
    → IsSo (pairs_held text on new (places_numbered filled.button new) (place_numbered form new))

-- it has one of these names
abbrev pub is_of_one : List (List ℕ) → Pair → Bool
is_of_one names pair = is_one_of names (pair_name (serialize_pair pair))

-- all pairs, or those alone that count
abbrev pub told : Bool → List (List ℕ) → List Pair → List Pair
told counted names pairs = if counted then filter (λ pair. not (is_of_one names pair)) pairs else pairs

-- whether that goes to another address than this
abbrev pub LeadsElsewhere : Option (List (List ℕ)) → List ℕ → Filled → Event → ℕ → List ℕ → Bool → Type 0
LeadsElsewhere same address filled event target now answer = let new = filled.page.now in
    (aim : Event → Aim) (before : List Event) → Keeps aim filled.fields.now new before → answer ≡ are_apart same
    (request_at aim address new before event (places_numbered filled.button new) (place_numbered target new)) (Some now)

-- ---- compared with an address

-- what is left of a text behind that front; none where it begins otherwise
abbrev pub left_behind : List ℕ → List ℕ → Option (List ℕ)
left_behind [] text = Some text
left_behind (b ∷ front) [] = None
left_behind (b ∷ front) (c ∷ text) = if b == c then left_behind front text else None

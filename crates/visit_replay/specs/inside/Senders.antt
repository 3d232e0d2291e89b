-- The nodes under a form that may send something, as the code keeps them.
use Rattle.std.specs.Prelude.{ℕ, ◌≡◌, ◌<◌, ◌≤◌, length, get_or, slice_get, vec_capacity, List, [], ◌++◌, All, Bool, true, Some, None, IfSome, unwrap_or, codes}
use Rattle.std.specs.BTreeMap.{get}
use Rattle.std.specs.List.{cons_option, filter_map}
use Rattle.std.specs.Ordering.{nat_cmp}
use Rattle.page_tree.specs.Tree.{Tree}
use Rattle.page_tree.specs.Limits.{nodes}
use Rattle.page_tree.specs.Control.{control_at, start_text_at, start_checked_at}
use Rattle.page_tree.specs.Started.{text_started}
use Rattle.page_tree.specs.Number.{place_numbered}
use Rattle.page_tree.specs.declared.control.Control.{Control}
use Rattle.page_tree.specs.declared.control.Control.TheVariants as control
use Rattle.visit_replay.specs.Form.{Pair, sent_name, value_or}
use Rattle.visit_replay.specs.inside.FieldsNow.{OfSent, is_of_one, pair_now}
use Rattle.visit_replay.specs.inside.OneEvent.{IsWithin}
use Rattle.visit_replay.specs.declared.forms.Filled.{Filled}
use Rattle.visit_replay.specs.declared.known_forms.KnownForms.{KnownForms}
use Rattle.visit_replay.specs.declared.senders.Sender.{Sender}
use Rattle.visit_replay.specs.declared.page_senders.PageSenders.{PageSenders}
use Rattle.visit_replay.specs.declared.page_senders.Known.{Known}
use Rattle.visit_replay.specs.declared.page_senders.Known.TheVariants.{Nothing, Silent, At}
use Rattle.visit_replay.specs.declared.senders.MaySend.{MaySend}
use Rattle.visit_replay.specs.declared.senders.MaySend.TheVariants.{Text, IfOn, Always, IfPressed}

-- what kind of control sends so
abbrev pub kind_sending : MaySend → Control
kind_sending (Text start) = control.Text
kind_sending (IfOn value starts_on) = control.Check
kind_sending (Always value) = control.Radio
kind_sending (IfPressed value) = control.Submit

-- the text that it starts with, or its value
abbrev pub words_kept : Tree → ℕ → MaySend → List ℕ
words_kept page number (Text start) = text_started page number start
words_kept page number (IfOn value starts_on) = value.now
words_kept page number (Always value) = value.now
words_kept page number (IfPressed value) = value.now

-- the same as it stands there
abbrev pub words_there : Tree → List ℕ → MaySend → List ℕ
words_there page place (Text start) = unwrap_or (start_text_at place page) []
words_there page place (IfPressed value) = value_or [] place page
words_there page place other = value_or (codes "on") place page

-- whether it starts on, where that counts
abbrev pub state_kept : Tree → List ℕ → MaySend → Bool
state_kept page place (IfOn value starts_on) = starts_on
state_kept page place (Always value) = true
state_kept page place other = start_checked_at place page

-- a node of that kind, with the text, value and state that it starts with
abbrev pub SendsThere : Tree → ℕ → MaySend → Type 0
SendsThere page number sends = let place = place_numbered number page in
    (control_at place page ≡ kind_sending sends) × (words_kept page number sends ≡ words_there page place sends)
    × (state_kept page place sends ≡ start_checked_at place page)

-- the name that it has, and what it sends
pub record IsSender (page : Tree) (sender : Sender) : Type 0 where
  pub name : sent_name (place_numbered sender.number page) page ≡ Some sender.name.now
  pub sends : SendsThere page sender.number sender.sends

-- it is known whether that is one of these names
abbrev pub SaysFresh : List (List ℕ) → Sender → Type 0
SaysFresh names sender = (value : List ℕ) → sender.is_fresh ≡ is_of_one names (sender.name.now, value)

-- the same, where only those count whose names aren't
abbrev pub SaysCounted : Bool → List (List ℕ) → Sender → Type 0
SaysCounted counted names sender = counted ≡ true → SaysFresh names sender

-- what these send
abbrev pub sent_all : Filled → List Sender → List Pair
sent_all filled senders = filter_map (λ sender. pair_now filled sender.number) senders

-- nothing else under that form sends anything, however the page is filled in
pub record SendUnder (names : List (List ℕ)) (page : Tree) (form : ℕ) (them : List Sender) : Type 0 where
  pub each : All (IsSender page) them
  pub marked : All (SaysFresh names) them
  pub pairs : (filled : Filled) → filled.page.now ≡ page → IsWithin filled.button page
      → OfSent filled form (λ pairs. sent_all filled them ≡ pairs)

-- the node with that number may send something, and is that one
abbrev pub IsSenderAt : List (List ℕ) → Tree → ℕ → Sender → Type 0
IsSenderAt names page number sender = (sender.number ≡ number) × IsSender page sender × SaysFresh names sender

-- it sends nothing, however the page is filled in
abbrev pub IsSilent : Tree → ℕ → Type 0
IsSilent page number = (filled : Filled) → filled.page.now ≡ page → pair_now filled number ≡ None

-- what is known of it is so, where these were found
abbrev pub IsSoOf : List (List ℕ) → Tree → List Sender → ℕ → Known → Type 0
IsSoOf names page found number Nothing = Unit {0}
IsSoOf names page found number Silent = IsSilent page number
IsSoOf names page found number (At place) =
    (place < length found) × IfSome (slice_get found place) (IsSenderAt names page number)

-- what is known of each node is so
abbrev pub KnowsNodes : List (List ℕ) → Tree → PageSenders → Type 0
KnowsNodes names page them =
    (number : ℕ) → number < nodes page
    → IsSoOf names page them.found.items number (get_or them.known.items number Nothing)

-- and those under the form that was listed last are listed
pub record AreRight (names : List (List ℕ)) (page : Tree) (them : PageSenders) : Type 0 where
  pub known : KnowsNodes names page them
  pub under : IfSome them.form (λ form. SendUnder names page form them.all.items)

-- the node with that number stands behind the others, if it may send something
pub record AddsNode (names : List (List ℕ)) (page : Tree) (number : ℕ) (old new : List Sender) : Type 0 where
  pub more : List Sender
  pub items : new ≡ old ++ more
  pub one : length more ≤ 1
  pub each : All (IsSender page) more
  pub marked : All (SaysFresh names) more
  pub sends : (filled : Filled) → filled.page.now ≡ page
      → sent_all filled more ≡ cons_option (pair_now filled number) []

-- there is room for those of a page of so many nodes
pub record HasPlaces (count : ℕ) (them : PageSenders) : Type 0 where
  pub all : count ≤ vec_capacity them.all
  pub known : count ≤ length them.known.items

abbrev pub KnowsForms : Tree → KnownForms → Type 0
KnowsForms page known =
    (known.page.now ≡ page) × ((form : ℕ) → IfSome (get nat_cmp known.forms form)
    (λ them. SendUnder known.names.now page form them.all.items))

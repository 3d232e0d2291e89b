-- A visit's own requests, and what was looked up on pages, as the code keeps them while it goes through the events.
use Rattle.std.specs.Prelude.{ℕ, ◌≡◌, ◌==◌, ◌<◌, length, List, All, not, if◌then◌else◌, Option, Some, None, IfSome, map, option_and_then, option_map, slice_get}
use Rattle.std.specs.BTreeMap.{get}
use Rattle.std.specs.List.{find, filter}
use Rattle.std.specs.Ordering.{nat_cmp}
use Rattle.std.specs.Str.{bytes_eq}
use Rattle.page_looks.specs.Counterpart.{PagePair}
use Rattle.page_looks.specs.Sending.{without_fresh}
use Rattle.page_tree.specs.Tree.{Tree}
use Rattle.page_tree.specs.Number.{place_numbered}
use Rattle.upload_reader.specs.declared.message.Event.{Event}
use Rattle.xpath_child.specs.Path.{Step}
use Rattle.xpath_child.specs.Targets.{target_in, only_place}
use Rattle.visit_replay.specs.Aim.{place_of_aim, by_path, hidden_named, is_same_name}
use Rattle.visit_replay.specs.Difference.{are_alike}
use Rattle.visit_replay.specs.declared.comparisons.Comparison.{Comparison}
use Rattle.visit_replay.specs.declared.comparisons.Comparisons.{Comparisons}
use Rattle.visit_replay.specs.declared.known_inputs.KnownInputs.{KnownInputs}
use Rattle.visit_replay.specs.declared.known_paths.KnownPath.{KnownPath}
use Rattle.visit_replay.specs.declared.lookups.Lookups.{Lookups}
use Rattle.visit_replay.specs.declared.named_inputs.NamedInputs.{NamedInputs}
use Rattle.visit_replay.specs.declared.requests.Request.{Request}
use Rattle.visit_replay.specs.declared.trail.Trail.{Trail}
use Rattle.visit_replay.specs.inside.Trails.{asked_from}
use Rattle.visit_replay.specs.declared.own_lookups.OwnLookups.{OwnLookups}
use Rattle.visit_replay.specs.inside.OneEvent.{IsNodeOf, IsWithin, places_numbered}
use Rattle.visit_replay.specs.inside.Senders.{KnowsForms}

-- the first of a trail's requests with that number
abbrev pub asked_as : Trail → ℕ → Option Request
asked_as own number = find (λ r. r.number == number) (asked_from own 0)

-- what a request was by that trail, where it is another now
abbrev pub other_by : List (List ℕ) → Trail → Request → Option Request
other_by fresh own is =
    option_and_then (λ was. if are_alike fresh was is then None else Some was) (asked_as own is.number)

-- the number of the only node that the event's path leads to, if there is one
abbrev pub IsTargetOf : Tree → Event → Option ℕ → Type 0
IsTargetOf page event None = place_of_aim (by_path page event) ≡ None
IsTargetOf page event (Some number) = IsNodeOf (by_path page event) page number

-- the same of a path
abbrev pub Selects : Tree → List Step → Option ℕ → Type 0
Selects page path node = IsWithin node page × (places_numbered node page ≡ only_place (target_in path page))

abbrev pub KnowsPaths : Tree → List KnownPath → Type 0
KnowsPaths page paths = All (λ known. Selects page known.path.now known.node) paths

-- it is the one of these at that place
abbrev pub IsAt : List KnownPath → List Step → ℕ → Type 0
IsAt paths path place = (place < length paths) × IfSome (slice_get paths place) (λ known. known.path.now ≡ path)

-- the numbers of the hidden inputs of that name
abbrev pub numbers_named : NamedInputs → Option (List ℕ) → List ℕ
numbers_named all name = map (λ input. input.number)
    (filter (λ input. is_same_name (option_map (λ n. n.now) input.name) name) all.inputs.items)

-- these are the ones among the children of the node there
abbrev pub AreHiddenUnder : Tree → List ℕ → NamedInputs → Type 0
AreHiddenUnder page at all = (name : Option (List ℕ)) →
    map (λ n. place_numbered n page) (numbers_named all name) ≡ hidden_named name at page

abbrev pub KnowsInputs : Tree → KnownInputs → Type 0
KnowsInputs page known = (known.page.now ≡ page)
    × ((parent : ℕ) → IfSome (get nat_cmp known.parents parent) (AreHiddenUnder page (place_numbered parent page)))

-- all of it, on the recorded page and on the repaired one
abbrev pub AreLookedUp : Tree → Tree → Lookups → Type 0
AreLookedUp old new lookups = KnowsPaths old lookups.paths.paths.items
    × KnowsInputs old lookups.recorded × KnowsInputs new lookups.repaired

-- what was looked up on the page that a visit was made on, where these names are fresh
abbrev pub KnowsOwn : List (List ℕ) → Tree → OwnLookups → Type 0
KnowsOwn names page own =
    KnowsPaths page own.paths.paths.items × KnowsForms page own.forms × (own.forms.names.now ≡ names)

-- what was found of texts that were compared
abbrev pub AreCompared : List (List ℕ) → List Comparison → Type 0
AreCompared fresh all =
    All (λ one. one.apart ≡ not (bytes_eq (without_fresh fresh one.was) (without_fresh fresh one.is))) all

-- the same where events find their places by their elements
abbrev pub KnowsTexts : Option (List (List ℕ)) → Comparisons → Type 0
KnowsTexts same compared = IfSome same (λ fresh. AreCompared fresh compared.all.items)

-- that page was set beside a recorded one last
abbrev pub IsLastBeside : Tree × List (List ℕ) → Option PagePair → Type 0
IsLastBeside looks last = IfSome last (λ both. (both.new ≡ looks.0) × (both.fresh ≡ looks.1))

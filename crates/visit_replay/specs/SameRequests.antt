-- What is proved of a visit that is done by its elements: event by event it asks for what its recorded page would have
-- asked for, but for the values of fresh names, start texts, and fields that nobody touched. (That the same bytes mean
-- the same is no law.)
use Rattle.std.specs.Prelude.{◌≡◌, ◌≢◌, ℕ, List, [], take, slice_get, true, false, Option, Some, None, option_map, codes}
use Rattle.std.specs.List.{list_any}
use Rattle.std.specs.Option.{option_map_or}
use Rattle.page_tree.specs.Tree.{Attribute, Tree}
use Rattle.page_tree.specs.Look.{node_at, children_of, attribute_at}
use Rattle.page_tree.specs.Control.{start_text_at}
use Rattle.page_looks.specs.Sending.{without_fresh, untouched_pairs, unseen_in}
use Rattle.page_looks.specs.Counterpart.{is_sent_alike}
use Rattle.upload_reader.specs.declared.message.Event.{Event}
use Rattle.upload_reader.specs.declared.message.Event.TheVariants.{Input, Click, Submit}
use Rattle.client_log.specs.declared.visit.Visit.{Visit}
use Rattle.visit_replay.specs.Aim.{Aim, acts, by_path, by_element, is_kept, is_clicked_alike, strays}
use Rattle.visit_replay.specs.Form.{is_post, action_of}
use Rattle.visit_replay.specs.Outcome.{outcome}
use Rattle.visit_replay.specs.RepairedSite.{RepairedSite}
use Rattle.visit_replay.specs.declared.requests.Request.{Request}
use Rattle.visit_replay.specs.declared.outcome.Outcome.TheVariants.{Done}

-- what the form there sends that no user sees, if nobody touches it
abbrev pub unseen_pairs : List (List ℕ) → Tree → List ℕ → List Attribute
unseen_pairs fresh t form =
    option_map_or (λ node. untouched_pairs fresh (unseen_in false (children_of node))) (node_at form t) []

module _ (fresh : List (List ℕ)) (old new : Tree) where
  -- links ask for the same address
  abbrev pub AreLinksAlike : List ℕ → List ℕ → Type 0
  AreLinksAlike p q = option_map (without_fresh fresh) (attribute_at p (codes "href") old)
      ≡ option_map (without_fresh fresh) (attribute_at q (codes "href") new)

  -- forms post or not, go to the same address as it is written, and send the same where no user sees it
  pub record AreFormsAlike (p q : List ℕ) : Type 0 where
    pub method : is_post p old ≡ is_post q new
    pub address : without_fresh fresh (action_of [] p old) ≡ without_fresh fresh (action_of [] q new)
    pub unseen : unseen_pairs fresh old p ≡ unseen_pairs fresh new q

  -- no button was pressed, or buttons of one name and value
  abbrev pub ArePressedAlike : Option (List ℕ) → Option (List ℕ) → Type 0
  ArePressedAlike None None = Unit {0}
  ArePressedAlike (Some p) (Some q) = is_sent_alike fresh old new p q ≡ true
  ArePressedAlike by pressed = ⊥

  -- An input went into a field of the same name and start text, a click turned a checkbox of the same name, value and
  -- start state, each in forms that send the same. No field that one of these events before a submit touched stands
  -- under one of its two forms alone.
  abbrev pub AsksAlike : List Event → Event → Aim → Aim → Type 0
  AsksAlike before (Input at target value) (acts p by) (acts q pressed) =
      (is_kept fresh old new p q ≡ true) × (start_text_at p old ≡ start_text_at q new)
  AsksAlike before (Click at target req) (acts p by) (acts q pressed) =
      (is_clicked_alike fresh old new p q ≡ true) × (req ≢ 0 → AreLinksAlike p q)
  AsksAlike before (Submit at target by req) (acts p button) (acts q pressed) =
      AreFormsAlike p q × (ArePressedAlike button pressed
      × (list_any (strays (by_element fresh old new) old p q) before ≡ false))
  AsksAlike before event was now = Unit {0}

-- of each event of a visit that is done
abbrev pub AllAskAlike : RepairedSite → List (List ℕ) → Visit → List Request → Tree → Type 0
AllAskAlike site fresh visit requests new = site.same ≡ Some fresh → outcome site visit ≡ Done requests
    → site.page_of visit.address ≡ Some new → (k : ℕ) (event : Event) → slice_get visit.events k ≡ Some event
    → AsksAlike fresh visit.page new (take k visit.events) event (by_path visit.page event)
    (by_element fresh visit.page new event)

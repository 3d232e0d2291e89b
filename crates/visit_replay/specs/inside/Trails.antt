-- The trail of a visit: which events it is of, and what the deeds of it ask for.
use Rattle.std.specs.Prelude.{ℕ, ◌≡◌, List, take, drop, Option, option_and_then, slice_get}
use Rattle.page_tree.specs.Tree.{Tree}
use Rattle.upload_reader.specs.declared.message.Event.{Event}
use Rattle.client_log.specs.declared.visit.Visit.{Visit}
use Rattle.visit_replay.specs.Aim.{Aim}
use Rattle.visit_replay.specs.Field.{value_before, is_on_before}
use Rattle.visit_replay.specs.Requests.{requests_before}
use Rattle.visit_replay.specs.inside.Deeds.{deed_request, requests_from, requests_on, text_behind, is_on_behind}
use Rattle.visit_replay.specs.declared.requests.Request.{Request}
use Rattle.visit_replay.specs.declared.trail.Trail.{Trail}

-- by the one at that place
abbrev pub asked_at : Trail → ℕ → Option Request
asked_at trail place = option_and_then (deed_request trail.address trail.page (take place trail.deeds.items))
    (slice_get trail.deeds.items place)

-- by those from that place on
abbrev pub asked_from : Trail → ℕ → List Request
asked_from trail place =
    requests_from trail.address trail.page (take place trail.deeds.items) (drop place trail.deeds.items)

-- ---- which events it is of

-- the fields hold what the first n events left at each place, and these are the requests so far
pub record IsTrailOf (aim : Event → Aim) (visit : Visit) (new : Tree) (n : ℕ) (trail : Trail) : Type 0 where
  pub address : trail.address ≡ visit.address
  pub page : trail.page ≡ new
  pub texts : (place : List ℕ)
      → text_behind new trail.deeds.items place ≡ value_before aim new (take n visit.events) place
  pub checks : (place : List ℕ)
      → is_on_behind new trail.deeds.items place ≡ is_on_before aim new (take n visit.events) place
  pub requests : requests_on visit.address new trail.deeds.items ≡ requests_before aim visit.address new visit.events n

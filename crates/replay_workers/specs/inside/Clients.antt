-- The visits of all clients as one list, and what they give, given back by client.
use Rattle.std.specs.Prelude.{ℕ, List, [], ◌∷◌, length, map, zip, take, drop, Option, option_map, option_and_then, slice_get}
use Rattle.std.specs.List.{flat_map}
use Rattle.std.specs.Borrow.{Bor}
use Rattle.page_tree.specs.Tree.{Tree}
use Rattle.client_log.specs.declared.visit.Visit.{Visit}
use Rattle.visit_replay.specs.Following.{Replayed, behind_parents}
use Rattle.visit_replay.specs.declared.outcome.Outcome.{Outcome}

-- a page of a visit's own, if it has one
abbrev pub plain_page : Option (Bor Tree) → Option Tree
plain_page page = option_map (λ own. own.now) page

-- that of the visit of that number
abbrev pub page_at : List (Option Tree) → ℕ → Option Tree
page_at pages number = option_and_then (λ page. page) (slice_get pages number)

-- those of a client's visits
abbrev pub own_pages_of : (List ℕ → ℕ → Option Tree) → List ℕ → List Visit → List (Option Tree)
own_pages_of own_page client visits = map (λ visit. own_page client visit.number) visits

-- client after client
abbrev pub visits_of_all : List (Bor (List Visit)) → List Visit
visits_of_all clients = flat_map (λ visits. visits.now) clients

-- each visit with what it gives by itself, client by client: the first that all give are those of the first client's
abbrev pub parts_of_all : List (Bor (List Visit)) → List Outcome → List (List Replayed)
parts_of_all [] own = []
parts_of_all (visits ∷ clients) own =
    zip visits.now (take (length visits.now) own) ∷ parts_of_all clients (drop (length visits.now) own)

module _ (same : Option (List (List ℕ))) where
  -- what visits give behind their parents, by what each gives by itself
  abbrev pub followed : List Replayed → List Outcome
  followed visits = map (λ one. one.1) (behind_parents same visits)

  -- the same client by client
  abbrev pub follow_all : List (Bor (List Visit)) → List Outcome → List (List Outcome)
  follow_all clients own = map followed (parts_of_all clients own)

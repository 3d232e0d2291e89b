-- What connections and the service do in a round: this project's own rule.
use Rattle.std.specs.Prelude.{◌≡◌, ◌⊎◌, ◌<◌, ℕ, List, [], ◌∷◌, ◌++◌, length, take, drop, Bool, true, false, Option, Some, None, ⊤}
use Rattle.http.specs.declared.request.Request.{Request}
use Rattle.http_server.specs.Connection.{history}
use Rattle.http_server.specs.Exchange.{Calls}
use Rattle.http_server.specs.History.{output, new_history}
use Rattle.http_server.specs.declared.response.Response.{Response}
use Rattle.http_rounds.specs.declared.peer.Peer.{Peer}
use Rattle.http_rounds.specs.declared.round_server.RoundServer.{RoundServer}

-- ---- one place

-- Its connection is the one before, if that isn't over, or a new one.
abbrev pub PlaceBegins : Option Peer → Option Peer → Type 0
PlaceBegins (Some old) (Some new) =
    ((old.over ≡ false) × (new.connection ≡ old.connection)) ⊎ (history new.connection ≡ new_history)
PlaceBegins None (Some new) = history new.connection ≡ new_history
PlaceBegins old None = ⊤

-- The connection there is kept, or a new one comes.
abbrev pub PlaceKeeps : Option Peer → Option Peer → Type 0
PlaceKeeps (Some old) (Some new) = (new.connection ≡ old.connection) ⊎ (history new.connection ≡ new_history)
PlaceKeeps None (Some new) = history new.connection ≡ new_history
PlaceKeeps old None = ⊤

-- It reads, and the service answers what came. Nothing is sent.
module _ {S : Type 0} (answers : S → Request (List ℕ) → Response → S → Type 0) where
  abbrev pub PlaceAnswers : S → Option Peer → Option Peer → S → Type 0
  PlaceAnswers called (Some old) (Some new) next =
      Calls answers called next (history old.connection).calls (history new.connection).calls
      × ((history new.connection).sent ≡ (history old.connection).sent)
      × ((more : List ℕ) × ((history new.connection).received ≡ (history old.connection).received ++ more))
  PlaceAnswers called None None next = next ≡ called
  PlaceAnswers called old new next = ⊥

-- What waits to be sent is sent, or some of it, where the round stands. Else nothing is, and it is over.
pub record SendsOut (stands : Bool) (old new : Peer) : Type 0 where
  pub calls : (history new.connection).calls ≡ (history old.connection).calls
  pub received : (history new.connection).received ≡ (history old.connection).received
  pub same : output (history new.connection) ≡ output (history old.connection)
  pub sent : (more : List ℕ) × ((history new.connection).sent ≡ (history old.connection).sent ++ more)
  pub only : stands ≡ false → 0 < length (history old.connection).pending
      → (new.connection ≡ old.connection) × (new.over ≡ true)

abbrev pub PlaceSends : Bool → Option Peer → Option Peer → Type 0
PlaceSends stands (Some old) (Some new) = SendsOut stands old new
PlaceSends stands None None = ⊤
PlaceSends stands old new = ⊥

-- ---- all places

abbrev pub AreAt : {X : Type 0} → (X → X → Type 0) → List X → List X → Type 0
AreAt R [] [] = ⊤
AreAt R (old ∷ olds) (new ∷ news) = R old new × AreAt R olds news
AreAt R olds news = ⊥

-- one after another is answered
abbrev pub AreAnswered : {S : Type 0} → (S → Request (List ℕ) → Response → S → Type 0)
    → S → List (Option Peer) → List (Option Peer) → S → Type 0
AreAnswered answers called [] [] next = next ≡ called
AreAnswered {S} answers called (old ∷ olds) (new ∷ news) next =
    (then : S) × PlaceAnswers answers called old new then × AreAnswered answers then olds news next
AreAnswered answers called olds news next = ⊥

-- the same from some place on, and then those before it
abbrev pub AreAnsweredFrom : {S : Type 0} → (S → Request (List ℕ) → Response → S → Type 0) → ℕ
    → S → List (Option Peer) → List (Option Peer) → S → Type 0
AreAnsweredFrom {S} answers first called olds news next = (between : S)
    × AreAnswered answers called (drop first olds) (drop first news) between
    × AreAnswered answers between (take first olds) (take first news) next

-- ---- a server

abbrev pub service_of : {S : Type 0} → RoundServer S → S
service_of server = server.service

-- its places for connections
abbrev pub places_of : {S : Type 0} → RoundServer S → List (Option Peer)
places_of server = server.peers.places.items

-- ---- a round

-- Connections begin, what comes is answered, there is one settle, and what stands is sent.
pub record IsServingRound {S : Type 0} (answers : S → Request (List ℕ) → Response → S → Type 0)
    (settles : S → Bool → S → Type 0) (old : S) (peers : List (Option Peer)) (new : S) (after : List (Option Peer))
    : Type 0 where
  pub begun : List (Option Peer)
  pub begin : AreAt PlaceBegins peers begun
  pub read : List (Option Peer)
  pub called : S
  pub first : ℕ
  pub answered : AreAnsweredFrom answers first old begun read called
  pub stands : Bool
  pub settled : settles called stands new
  pub sent : AreAt (PlaceSends stands) read after

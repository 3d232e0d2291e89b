-- What the server has in its rounds, and what was told in them: this project's own rule.
use Rattle.std.specs.Prelude.{ℕ, List, Bool, Option}
use Rattle.upload_folder.specs.Told.{AreToldStill, ClientLines}
use Rattle.collect_http.specs.Answering.{CollectorStandsFor}
use Rattle.collect_http.specs.declared.collector.Collector.{Collector}
use Rattle.http_rounds.specs.Rounds.{places_of, service_of}
use Rattle.http_rounds.specs.declared.peer.Peer.{Peer}
use Rattle.collect_server.specs.declared.serving.Serving.{Serving}

-- its collector
abbrev pub collector_of : {F D : Type 0} → Serving F D → Collector F D
collector_of serving = (service_of serving.server).collector

-- its connections, place by place
abbrev pub connections_of : {F D : Type 0} → Serving F D → List (Option Peer)
connections_of serving = places_of serving.server

-- Each client's file is that of a store of which the same lines are told, and stay.
module _ {F D : Type 0} (seen : F → List ℕ) (durable : F → ℕ) (lost : F → Bool)
    (lies : D → List ℕ → Option (List ℕ × ℕ)) (known : D → Bool) where
  abbrev pub StandsTold : (List ℕ → ClientLines) → Collector F D → Type 0
  StandsTold kept collector = (now : List ℕ → ClientLines)
      × CollectorStandsFor seen durable lost lies known collector now × AreToldStill kept now

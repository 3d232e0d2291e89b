-- A round of the server is a round of its collector, and what was told stays through it.
use Rattle.std.proofs.Common.{ℕ, List, Bool, Option, refl}
use Rattle.http.specs.declared.request.Request.{Request}
use Rattle.http_server.specs.declared.response.Response.{Response}
use Rattle.upload_folder.specs.Told.{ClientLines}
use Rattle.collect_http.specs.Answering.{Answers, CollectorStandsFor, HasFew, RoundSettles}
use Rattle.collect_http.specs.declared.collector.Collector.{Collector}
use Rattle.collect_http.proofs.StillTold.{answer_told}
use Rattle.http_rounds.specs.Rounds.{IsServingRound}
use Rattle.http_rounds.specs.declared.peer.Peer.{Peer}
use Rattle.http_rounds.proofs.RoundLaws.{round_along, round_holds}
use Rattle.collect_server.specs.Rounds.{StandsTold}
use Rattle.collect_server.specs.declared.round_collector.RoundCollector.{RoundCollector}

module _ {F D : Type 0} (seen : F → List ℕ) (durable : F → ℕ) (lost : F → Bool) (lies : D → List ℕ → Option (List ℕ × ℕ)) (known : D → Bool) where
  abbrev AnswersSeen : RoundCollector F D → Request (List ℕ) → Response → RoundCollector F D → Type 0
  AnswersSeen old request response new = Answers seen durable lost lies known old.collector request response new.collector

  abbrev SettlesSeen : RoundCollector F D → Bool → RoundCollector F D → Type 0
  SettlesSeen old stands new = RoundSettles seen durable lost lies known old.collector stands new.collector

  abbrev IsRound : Collector F D → List (Option Peer) → Collector F D → List (Option Peer) → Type 0
  IsRound = IsServingRound (Answers seen durable lost lies known) (RoundSettles seen durable lost lies known)

  pub collector_round : (old new : RoundCollector F D) (peers after : List (Option Peer)) → IsServingRound AnswersSeen SettlesSeen old peers new after → IsRound old.collector peers new.collector after
  collector_round = round_along (λ s. s.collector) AnswersSeen (Answers seen durable lost lies known) (λ old request response new is. is)
      SettlesSeen (RoundSettles seen durable lost lies known) (λ old stands new is. is)

  pub round_told : (kept : List ℕ → ClientLines) (old new : Collector F D) (peers after : List (Option Peer)) → IsRound old peers new after
      → CollectorStandsFor seen durable lost lies known old kept → StandsTold seen durable lost lies known kept new
  round_told kept old new peers after round before =
      round_holds (Answers seen durable lost lies known) (StandsTold seen durable lost lies known kept) (answer_told seen durable lost lies known kept)
      (RoundSettles seen durable lost lies known) (λ called stands ended ends told. (told.0, ends.keeps told.0 told.1, told.2)) old new peers after round (kept, before, λ name. refl)

  pub round_few : (old new : Collector F D) (peers after : List (Option Peer)) → IsRound old peers new after → HasFew old → HasFew new
  round_few = round_holds (Answers seen durable lost lies known) HasFew (λ old request response new is. is.round.few) (RoundSettles seen durable lost lies known) (λ called stands ended ends. ends.few)

-- What is gathered of a lane alone that isn't asked to stop.
use Rattle.std.proofs.Common.{◌≡◌, ℕ, List, [], ◌∷◌, false, is_some, Option, Some, None, inl, inr, refl, sym, ap, ◌∙◌, true≢false, subst, bytes_eq}
use Rattle.std.specs.Prelude.{IsSome, ◌⊎◌}
use Rattle.std.proofs.Math.Bool.{and-true}
use Rattle.upload_reader.specs.declared.ending.Ending.{Ending}
use Rattle.client_log.specs.Client.{OfClient}
use Rattle.indexmap.specs.IndexMap.{insert_entry}
use Rattle.upload_reader.specs.Upload.{UploadState}
use Rattle.lanes_in_turn.specs.Taking.{never, refused_by, IsGatheredAlone, new_lane, Stops, TakesLane}
use Rattle.lanes_in_turn.specs.Round.{new_log, resumed_upload}
use Rattle.lanes_in_turn.specs.declared.gathered.Gathered.{Gathered}
use Rattle.lanes_in_turn.specs.declared.gathered.LaneResult.{LaneResult}
use Rattle.lanes_in_turn.specs.declared.gathered.Stop.{Stop}
use Rattle.lanes_in_turn.specs.declared.gathered.Stop.TheVariants as stops

-- the lane has its end, or a message couldn't be recorded
abbrev pub HasEnded : Option Ending → Stop → Type 0
HasEnded end stop = ((stop ≡ stops.None) × IsSome end) ⊎ ((stop ≡ stops.Memory) × (end ≡ None))

no_end : (end : Option Ending) → is_some end ≡ false → end ≡ None
no_end None is = refl
no_end (Some e) is = absurd (true≢false is)

ended_by : {R : Type 0} (lane : List ℕ × LaneResult R) (stop : Stop) → Stops never (lane ∷ []) stop → HasEnded lane.1.end stop
ended_by lane stops.None so = inl (refl, sym (and-true (is_some lane.1.end)) ∙ so.ended)
ended_by lane stops.Asked so = absurd (true≢false (so.asked refl))
ended_by lane stops.Memory so = inr (refl, no_end lane.1.end (sym (and-true (is_some lane.1.end)) ∙ so.ended))

module _ {R : Type 0} (upload : UploadState R) (quota : ℕ) (client copied : List ℕ) (log : OfClient) (fresh : LaneResult R) where
  -- its lane as it began
  fresh_is : client ≡ upload.client → copied ≡ client → log ≡ new_log quota copied → fresh ≡ new_lane log (resumed_upload upload None)
      → ◌≡◌ {A = List ℕ × LaneResult R} (client, fresh) (upload.client, new_lane (new_log quota upload.client) (resumed_upload upload None))
  fresh_is client_is copied_is log_is is = rw (is, log_is, copied_is, client_is) refl

  pub gathered_alone : (lane : List ℕ × LaneResult R) (gathered : Gathered R) → client ≡ upload.client → copied ≡ client → log ≡ new_log quota copied
      → fresh ≡ new_lane log (resumed_upload upload None) → TakesLane (refused_by gathered.stop) (client, fresh) lane → Stops never (lane ∷ []) gathered.stop → gathered.clients.entries ≡ insert_entry bytes_eq [] lane.0 lane.1
      → IsGatheredAlone upload quota gathered
  gathered_alone lane gathered client_is copied_is log_is is takes so entries = record {
    lane = lane.1;
    entries_are = entries ∙ ap (λ name. (name, lane.1) ∷ []) (takes.client ∙ client_is);
    is_taken = (subst (λ first. TakesLane (refused_by gathered.stop) first lane) (fresh_is client_is copied_is log_is is) takes).is_taken (resumed_upload upload None) refl;
    ahead = takes.ahead;
    ends = ended_by lane gathered.stop so;
  }

-- What serving writes is what the server promises of rounds.
use Rattle.std.proofs.Common.{◌≡◌, ◌≢◌, ℕ, List, [], ◌∷◌, Bool, true, false, if◌then◌else◌, Result, Ok, Err, ◌⊎◌, inl, inr, refl, sym, subst}
use Rattle.std.specs.List.{AllByRecursion, list_any}
use Rattle.indexmap.specs.IndexMap.{values}
use Rattle.byte_streams.specs.Writing.{CallWrites, Takes}
use Rattle.upload_reader.specs.Upload.{UploadState}
use Rattle.upload_reader.specs.declared.hello_fault.HelloFault.{HelloFault}
use Rattle.upload_reader.specs.declared.hello_fault.HelloFault.TheVariants as hello
use Rattle.site_line.specs.Reading.{site_quota}
use Rattle.site_line.specs.declared.site.Site.{Site}
use Rattle.conflict_desk.specs.Laws.{AllLeaveInOrder}
use Rattle.lanes_in_turn.specs.declared.gathered.Gathered.{Gathered}
use Rattle.lanes_in_turn.specs.declared.gathered.LaneResult.{LaneResult}
use Rattle.lanes_in_turn.specs.declared.gathered.Stop.{Stop}
use Rattle.lanes_in_turn.specs.declared.gathered.Stop.TheVariants as stops
use Rattle.warp_run.specs.Conclusion.{site_settled}
use Rattle.warp_run.specs.Report.{report_text, WritesReport}
use Rattle.warp_server.specs.Rounds.{GathersRounds}
use Rattle.warp_run.specs.Shortage.{gave_up, status_by, status_of}
use Rattle.warp_server.specs.program.Callers.{Sayings, CameBadly, RoundFails, MakesRounds, MakesAll, HasServed, Serves}
use Rattle.warp_run.specs.Status.{written_status}
use Rattle.warp_run.specs.Intake.{no_hello}
use Rattle.warp_run.specs.declared.reporting.fault.ReportFault.{ReportFault}
use Rattle.warp_run.specs.declared.reporting.fault.ReportFault.TheVariants as report_fault
use Rattle.warp_run.specs.declared.status.Status.{Status}
use Rattle.warp_run.specs.declared.status.Status.TheVariants.{Done, OutOfMemory}
use Rattle.warp_server.proofs.HeadlineLaws.{replayed}
use Rattle.warp_server.proofs.RoundSteps.{new_sessions}
use Rattle.warp_server.proofs.RoundsLaws.{rounds_have, uploads_known}

pub hello_fails : {C R : Type 0} (says : Sayings C R) (lanes : ℕ) (callers now : C) (fault : HelloFault) → (fault ≢ hello.NoMemory → CameBadly says lanes callers now)
    → RoundFails says lanes callers now (no_hello fault)
hello_fails says lanes callers now hello.NoMemory came = tt
hello_fails says lanes callers now fault came = inl (came (λ e. cc))

done_or_short : (short : Bool) → ((if short then OutOfMemory else Done) ≡ Done) ⊎ ((if short then OutOfMemory else Done) ≡ OutOfMemory)
done_or_short true = inr refl
done_or_short false = inl refl

pub status_cases : {R : Type 0} (stop : Stop) (lanes : List (LaneResult R)) → (status_by stop lanes ≡ Done) ⊎ (status_by stop lanes ≡ OutOfMemory)
status_cases stops.Memory lanes = inr refl
status_cases other lanes = done_or_short (list_any (λ lane. gave_up lane.end) lanes)

module _ {C R : Type 0} (says : Sayings C R) (site : Site) (lanes rounds : ℕ) (callers : C) where
  made_gathers : (made : List (List (UploadState R))) (gathered : Gathered R) (now : C) → MakesRounds says site lanes rounds callers made gathered now
      → GathersRounds (site_quota site) made gathered
  made_gathers [] gathered now (none, stop, same) = (none, stop)
  made_gathers (uploads ∷ before) gathered now (earlier, between, rest, round) = (earlier, made_gathers before earlier between rest, round.gathers)

  made_new : (made : List (List (UploadState R))) (gathered : Gathered R) (now : C) → MakesRounds says site lanes rounds callers made gathered now
      → AllByRecursion (AllByRecursion (λ upload. upload.lane.earlier ≡ [])) made
  made_new [] gathered now makes = tt
  made_new (uploads ∷ before) gathered now (earlier, between, rest, round) = (new_sessions uploads round.came.greeted, made_new before earlier between rest)

  module _ (now : C) (gathered : Gathered R) (all : MakesAll says site lanes rounds callers gathered now) (leave : AllLeaveInOrder (site_settled site gathered).desk)
      (call : CallWrites) where
    has_served : (status : Status) → status_of gathered ≡ status → HasServed says site lanes rounds callers now status (report_text (site_settled site gathered))
    has_served status is =
        let gathers = made_gathers all.made gathered now all.makes in record {
          gathered = gathered;
          all = all;
          status_is = is;
          headline = record {
            gathers = gathers;
            clients = uploads_known (site_quota site) all.made gathered gathers;
            has = rounds_have (site_quota site) all.made gathered (made_new all.made gathered now all.makes) gathers;
            replayed = replayed site gathered;
            leave = leave;
          };
          text_is = refl;
        }

    serves_whole : (status_of gathered ≡ Done) ⊎ (status_of gathered ≡ OutOfMemory) → Takes call (report_text (site_settled site gathered)) 0
        → Serves says site lanes rounds callers now call (status_of gathered)
    serves_whole (inl is) takes = subst (Serves says site lanes rounds callers now call) (sym is) (_, has_served Done is, takes)
    serves_whole (inr is) takes = subst (Serves says site lanes rounds callers now call) (sym is) (inr (_, has_served OutOfMemory is, takes))

    pub serves : (report : Result (Unit {0}) ReportFault) → WritesReport call (report_text (site_settled site gathered)) report
        → Serves says site lanes rounds callers now call (written_status (status_of gathered) report)
    serves (Ok done) takes = serves_whole (status_cases gathered.stop (values gathered.clients)) takes
    serves (Err report_fault.WriteFailed) takes = inr (status_of gathered, _, has_served (status_of gathered) refl, takes)
    serves (Err report_fault.NoMemory) nothing = inl nothing

-- What a run does, by what was read and written.
use Rattle.std.proofs.Common.{◌≡◌, ℕ, List, [], ◌∷◌, ◌++◌, length, map, take, drop, Bool, if◌then◌else◌, true≢false, Option, Some, None, refl, sym, ap, ap₂, subst, ◌∙◌, inl, inr, ◌⊎◌}
use Rattle.std.specs.Prelude.{IfSome, Result, Ok, Err}
use Rattle.std.specs.List.{list_any, zip}
use Rattle.std.proofs.lemmas.List.{length-take-le, take-append-drop}
use Rattle.std.proofs.Math.Seq.{take-length}
use Rattle.indexmap.specs.IndexMap.{values}
use Rattle.byte_streams.specs.Answers.{Answer}
use Rattle.byte_streams.specs.Cutting.{ending_of, StopsAtEnd}
use Rattle.byte_streams.specs.Reading.{ReadsWhile, input}
use Rattle.byte_streams.specs.Writing.{CallWrites}
use Rattle.byte_streams.specs.declared.fault.LineFault.{LineFault}
use Rattle.upload_reader.specs.Stream.{Costed, Stream, StreamStart, IsStreamOf, BeginsWith}
use Rattle.upload_reader.specs.Upload.{UploadState}
use Rattle.upload_reader.specs.declared.ending.Ending.{Ending}
use Rattle.upload_reader.specs.declared.ending.Ending.TheVariants.{Over, GaveUp}
use Rattle.upload_reader.specs.declared.lane_fault.LaneEnd.{LaneEnd}
use Rattle.page_tree.specs.Tree.{Tree}
use Rattle.xpath_child.specs.Path.{Step}
use Rattle.client_log.specs.Log.{kept_log}
use Rattle.client_log.specs.declared.visit.Visit.{Visit}
use Rattle.site_hooks.specs.Table.{is_changed}
use Rattle.visit_replay.specs.Difference.{difference}
use Rattle.visit_replay.specs.Form.{bare}
use Rattle.visit_replay.specs.Outcome.{outcome, on_page}
use Rattle.visit_replay.specs.declared.outcome.Outcome.{Outcome}
use Rattle.visit_replay.specs.declared.outcome.Outcome.TheVariants.{Untouched}
use Rattle.visit_replay.specs.Following.{Replayed, behind_parents, outcomes}
use Rattle.visit_replay.specs.RepairedSite.{RepairedSite}
use Rattle.conflict_desk.specs.declared.docket.Case.{Case}
use Rattle.site_line.specs.Site.{Site as PlainSite}
use Rattle.site_line.specs.Reading.{AnswersAs, site_quota, site_decisions}
use Rattle.site_line.specs.declared.site.Site.{Site}
use Rattle.lanes_in_turn.specs.Lane.{EndsWith, NotOver}
use Rattle.lanes_in_turn.specs.Round.{resumed_upload}
use Rattle.lanes_in_turn.specs.declared.gathered.Gathered.{Gathered}
use Rattle.lanes_in_turn.specs.declared.gathered.LaneResult.{LaneResult}
use Rattle.lanes_in_turn.specs.declared.gathered.Stop.{Stop}
use Rattle.lanes_in_turn.specs.declared.gathered.Stop.TheVariants as stops
use Rattle.lanes_in_turn.proofs.LaneSteps.{shorter_front}
use Rattle.warp_run.specs.Conclusion.{repaired_site, site_settled}
use Rattle.warp_run.specs.Repair.{as_case, summary_of, docket_for, new_repaired}
use Rattle.warp_run.specs.Settle.{after_decisions}
use Rattle.warp_run.specs.declared.repaired.Repaired.{Repaired}
use Rattle.warp_run.specs.Report.{report_text, WritesReport}
use Rattle.warp_run.specs.declared.reporting.fault.ReportFault.{ReportFault}
use Rattle.warp_run.specs.declared.reporting.fault.ReportFault.TheVariants as report_fault
use Rattle.warp_run.specs.Run.{plain_repaired, repaired_by, Opening, LaneSays, IsReportOf, HasReport, HasShortReport, ReadWhileUndecided, Reads, Writes, WritesPart, Meets}
use Rattle.warp_run.specs.Shortage.{status_by, status_of}
use Rattle.warp_run.specs.Status.{written_status}
use Rattle.warp_run.specs.Intake.{IsOpened}
use Rattle.warp_run.specs.inside.{HasOnlyUpload}
use Rattle.warp_run.specs.declared.status.Status.{Status}
use Rattle.warp_run.specs.declared.status.Status.TheVariants.{Done, OutOfMemory}
use Rattle.warp_run.proofs.NeededLaws.{goes_nowhere, opening, start_is, lane_needed}
use Rattle.warp_run.proofs.IntakeLaws.{given_back}
use Rattle.lanes_in_turn.specs.Taking.{IsGatheredAlone}
use Rattle.lanes_in_turn.proofs.EndLaws.{HasEnded}

-- ---- a site that stands for another gives the same outcomes

abbrev outcome_by : Bool → Option Tree → List (List Step) → Option (List (List ℕ)) → Visit → Outcome
outcome_by affected page watched same visit = if affected then on_page same visit (λ new. list_any (is_changed visit.page new) watched) page else Untouched

same_by : (affected affected' : Bool) (page page' : Option Tree) (watched watched' : List (List Step)) (same same' : Option (List (List ℕ))) (visit : Visit) → affected ≡ affected' → page ≡ page' → watched ≡ watched' → same ≡ same'
    → outcome_by affected page watched same visit ≡ outcome_by affected' page' watched' same' visit
same_by affected affected' page page' watched watched' same same' visit a p w s = rw (a, p, w, s) refl

same_outcome : (site : Site) (plain : PlainSite) (visit : Visit) → AnswersAs site plain
    → outcome (repaired_site site) visit ≡ outcome (plain_repaired plain) visit
same_outcome site plain visit stands = same_by _ _ _ _ _ _ _ _ visit (stands.patched (bare visit.address)) (stands.pages visit.address) stands.watched stands.same

abbrev with_own : RepairedSite → Visit → Replayed
with_own site visit = (visit, outcome site visit)

same_own : (site : Site) (plain : PlainSite) (visits : List Visit) → AnswersAs site plain
    → map (with_own (repaired_site site)) visits ≡ map (with_own (plain_repaired plain)) visits
same_own site plain [] stands = refl
same_own site plain (visit ∷ visits) stands = rw (same_outcome site plain visit stands, same_own site plain visits stands) refl

same_outcomes : (site : Site) (plain : PlainSite) (visits : List Visit) → AnswersAs site plain
    → outcomes (repaired_site site) visits ≡ outcomes (plain_repaired plain) visits
same_outcomes site plain visits stands =
    ap (λ same. map (λ one. one.1) (behind_parents same (map (with_own (repaired_site site)) visits))) stands.same
    ∙ ap (λ own. map (λ one. one.1) (behind_parents plain.same own)) (same_own site plain visits stands)

abbrev case_on : Option (List (List ℕ)) → Option Tree → Visit × Outcome → Case
case_on same page one = record { visit = one.0.number; parent = one.0.parent; outcome = one.1; difference = difference same one.0 page one.1 }

same_told : (site : Site) (plain : PlainSite) (ones : List (Visit × Outcome)) → AnswersAs site plain
    → map (as_case (λ visit. (repaired_site site).page_of visit.address) (repaired_site site).same) ones ≡ map (as_case (λ visit. (plain_repaired plain).page_of visit.address) (plain_repaired plain).same) ones
same_told site plain [] stands = refl
same_told site plain (one ∷ ones) stands =
    ap₂ (λ (case : Case) (cases : List Case). case ∷ cases)
    (ap₂ (λ (same : Option (List (List ℕ))) (page : Option Tree). case_on same page one) stands.same (stands.pages one.0.address)) (same_told site plain ones stands)

same_cases : (site : Site) (plain : PlainSite) (visits : List Visit) → AnswersAs site plain
    → map (as_case (λ visit. (repaired_site site).page_of visit.address) (repaired_site site).same) (zip visits (outcomes (repaired_site site) visits))
    ≡ map (as_case (λ visit. (plain_repaired plain).page_of visit.address) (plain_repaired plain).same) (zip visits (outcomes (plain_repaired plain) visits))
same_cases site plain visits stands =
    ap (λ outs. map (as_case (λ visit. (repaired_site site).page_of visit.address) (repaired_site site).same) (zip visits outs)) (same_outcomes site plain visits stands)
    ∙ same_told site plain (zip visits (outcomes (plain_repaired plain) visits)) stands

-- ---- what is made of what was taken is that of the input

-- what the code makes of these entries
abbrev made_of : {R : Type 0} → Site → Stop → List (List ℕ × LaneResult R) → Repaired
made_of site stop entries = after_decisions (site_decisions site) (new_repaired stop (map summary_of entries) (map (docket_for (repaired_site site)) entries))

same_repaired : {R : Type 0} (site : Site) (plain : PlainSite) (lane : LaneResult R) (client : List ℕ) (stop : Stop) (messages : List Costed) (end : Option Ending)
    → AnswersAs site plain → lane.taken ≡ length messages → lane.log.log ≡ kept_log (site_quota site) messages → lane.end ≡ end
    → made_of site stop ((client, lane) ∷ []) ≡ repaired_by plain stop client messages end
same_repaired site plain lane client stop messages end stands takens logs ends =
    let log : lane.log.log ≡ kept_log plain.quota messages = rw (← stands.quota) logs in
    let cases = same_cases site plain lane.log.log.visits stands in
    rw (cases, stands.decisions, takens, log, ends) refl

module _ {R : Type 0} (site : Site) (upload : UploadState R) (opened : IsOpened site upload) (gathered : Gathered R) (whole : IsGatheredAlone upload (site_quota site) gathered) where
  abbrev lane : LaneResult R
  lane = whole.lane

  abbrev now : UploadState R
  now = whole.is_taken.now

  abbrev read : List ℕ
  read = input now.lines

  abbrev ending : Option LineFault
  ending = ending_of now.lines.answers

  abbrev messages : List Costed
  messages = take lane.taken now.given

  abbrev text : List ℕ
  text = report_text (site_settled site gathered)

  abbrev begun : Opening read ending (Ok upload.client)
  begun = opening opened.at site opened.behind upload opened.begins now.lines.answers whole.is_taken.own.reads.more ending whole.is_taken.own.reads.answers

  -- a lane with nothing said before it is that of a new client
  same_upload : resumed_upload upload None ≡ upload
  same_upload =
      let early : upload.lane.earlier ≡ [] = ap {A = StreamStart} (λ l. l.earlier) opened.begins.lane in
      ap (λ earlier. record upload { lane = record upload.lane { earlier = earlier } }) (sym early)

  repaired_is : (stop : Stop) (end : Option Ending) → gathered.stop ≡ stop → lane.end ≡ end
      → site_settled site gathered ≡ repaired_by opened.behind.plain stop upload.client messages end
  repaired_is stop end stops ends =
      ap (made_of site gathered.stop) whole.entries_are ∙ ap (λ s. made_of site s ((upload.client, lane) ∷ [])) stops
      ∙ same_repaired site opened.behind.plain lane upload.client stop messages end opened.behind.stands
      (sym (length-take-le lane.taken now.given whole.is_taken.some)) (whole.is_taken.goes_on.log_is [] refl) ends

  abbrev reported : (stop : Stop) (end : Option Ending) → gathered.stop ≡ stop → lane.end ≡ end → IsReportOf read ending stop messages end text
  reported stop end stops ends = record { client = upload.client; opening = begun; text_is = ap report_text (repaired_is stop end stops ends) }

  -- what the lane says of itself it says behind the opening
  said : (bytes : List ℕ) (last : Option LineFault) (stream : Stream) → IsStreamOf now.lane (drop now.start bytes) last stream → LaneSays begun bytes last stream
  said bytes last stream says =
      let lane_is = whole.is_taken.own.lane ∙ ap (λ u. u.lane) same_upload ∙ opened.begins.lane in
      let start = start_is opened.at site opened.behind upload opened.begins now.lines.answers whole.is_taken.own.reads.more ending whole.is_taken.own.reads.answers in
      subst (λ place. IsStreamOf (record { earlier = []; lines = upload.lane.lines; fault = None }) (drop place bytes) last stream)
      (whole.is_taken.own.start ∙ start) (subst (λ l. IsStreamOf l (drop now.start bytes) last stream) lane_is says)

  short : (stop : Stop) (end : Option Ending) → gathered.stop ≡ stop → lane.end ≡ end
      → ((stop ≡ stops.None) × (end ≡ Some GaveUp)) ⊎ ((stop ≡ stops.Memory) × (end ≡ None)) → HasShortReport read ending text
  short stop end stops ends is_short = record {
    messages = messages;
    stop = stop;
    end = end;
    is_short = is_short;
    report = reported stop end stops ends;
    first = λ more last.
        let (stream, says, front) = whole.is_taken.first more last in
        (stream, said (read ++ more) last stream says, shorter_front messages (drop lane.taken now.given) stream.messages (subst (λ all. BeginsWith all stream.messages) (sym (take-append-drop lane.taken now.given)) front));
  }

  over : (end : LaneEnd) → gathered.stop ≡ stops.None → lane.end ≡ Some (Over end) → EndsWith now lane.taken (Over end) → HasReport read ending text
  over end stop is ends = record {
    messages = messages;
    end = end;
    report = reported stops.None (Some (Over end)) stop is;
    all =
        let whole_given : now.given ≡ messages = sym (ap (λ n. take n now.given) ends.all ∙ take-length now.given) in
        subst (λ given. LaneSays begun read ending (record { messages = given; end = Some end })) whole_given
        (said read ending (record { messages = now.given; end = Some end }) (ends.over read ending (goes_nowhere read ending)));
  }

  -- a whole report or a short one goes with the status
  abbrev HasText : Type 0
  HasText = ((status_of gathered ≡ Done) × HasReport read ending text) ⊎ ((status_of gathered ≡ OutOfMemory) × HasShortReport read ending text)

  -- how a run ends whose only lane has that end
  abbrev status_with : Option Ending → Status
  status_with end = status_by stops.None (record lane { end = end } ∷ [])

  status_is : gathered.stop ≡ stops.None → status_of gathered ≡ status_with lane.end
  status_is stop =
      ap (λ s. status_by s (values gathered.clients)) stop ∙ ap (λ entries. status_by stops.None (map (λ entry. entry.1) entries)) whole.entries_are

  text_by : (end : Option Ending) → lane.end ≡ end → IfSome end (EndsWith now lane.taken) → HasEnded end gathered.stop → HasText
  text_by None is ends (inl (stop, some)) = absurd (true≢false (sym some))
  text_by (Some (Over end)) is ends (inl (stop, some)) = inl (status_is stop ∙ ap status_with is, over end stop is ends)
  text_by (Some GaveUp) is ends (inl (stop, some)) = inr (status_is stop ∙ ap status_with is, short stops.None (Some GaveUp) stop is (inl (refl, refl)))
  text_by end is ends (inr (stop, none)) =
      inr (ap (λ s. status_by s (values gathered.clients)) stop, short stops.Memory None stop (is ∙ none) (inr (refl, refl)))

  -- ---- what was written

  module _ (was_read : List Answer → Type 0) (told : was_read now.lines.answers) (ends : StopsAtEnd now.lines.answers) (writes : CallWrites) where
    given : (P : List ℕ → Option LineFault → Type 0) → P read ending → Reads was_read ReadWhileUndecided P
    given = given_back was_read now.lines told
        (lane_needed opened.at site opened.behind upload opened.begins now.lines opened.needed (subst (λ u. ReadsWhile (NotOver u) upload.lines now.lines) same_upload whole.is_taken.own.reads)) ends

    met_by : (report : Result (Unit {0}) ReportFault) → WritesReport writes text report → HasText → Meets was_read writes (written_status (status_of gathered) report)
    met_by (Ok done) takes (inl (is, has)) = subst (Meets was_read writes) (sym is) (given (Writes writes HasReport) (text, has, takes))
    met_by (Ok done) takes (inr (is, has)) = subst (Meets was_read writes) (sym is) (inr (given (Writes writes HasShortReport) (text, has, takes)))
    met_by (Err report_fault.WriteFailed) takes (inl (is, has)) = inr (given (WritesPart writes) (text, inl has, takes))
    met_by (Err report_fault.WriteFailed) takes (inr (is, has)) = inr (given (WritesPart writes) (text, inr has, takes))
    met_by (Err report_fault.NoMemory) nothing has = inl nothing

    pub met : (report : Result (Unit {0}) ReportFault) → WritesReport writes text report → Meets was_read writes (written_status (status_of gathered) report)
    met report wrote = met_by report wrote (text_by lane.end refl whole.is_taken.ends whole.ends)

-- the only lane of the clients is the last one
pub last_only : {X : Type 0} (x y : X) (front : List X) → x ∷ [] ≡ front ++ y ∷ [] → x ≡ y
last_only x y [] is = cc
last_only x y (z ∷ []) is = cc
last_only x y (z ∷ w ∷ front) is = cc

module _ {R : Type 0} (upload : UploadState R) (quota : ℕ) (gathered : Gathered R) where
  abbrev pub has_only : IsGatheredAlone upload quota gathered → HasOnlyUpload gathered
  has_only whole = record {
    entry = (upload.client, whole.lane);
    now = whole.is_taken.now;
    entries_are = whole.entries_are;
    upload_is = whole.is_taken.upload_is;
  }

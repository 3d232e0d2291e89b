use Rattle.std.proofs.Common.{length, slice_get, ap, sym, ◌∙◌, refl}
use Rattle.std.specs.List.{flat_map}
use Rattle.std.proofs.lemmas.Option.{slice_get_read}
use Rattle.warp_run.specs.Report.{visit_text}
use Rattle.warp_run.proofs.BufferLaws.{adds_as, adds_nothing, ◌>>◌}
use Rattle.warp_run.proofs.ReportLaws.{text_here, texts_end}
use Rattle.warp_run.proofs.reporting.add_visits.Goals as goal

pub add_visit-requires : goal.add_visit-requires
add_visit-requires g c =
    let cases = c.cases-case-items.result.now in
    ap (λ them. slice_get them c.loop-place.place) (sym c.cases-case-items.ensures.cases)
    ∙ slice_get_read cases (length cases) c.loop-place.place c.case-item.result refl c.loop-place-test.true c.case-item.is

pub loop-place-preserved : goal.loop-place-preserved
loop-place-preserved g c w b put =
    c.loop-place.invariant w b
    (adds_as (c.add_visit.ensures >> put)
    (text_here (visit_text c.args.docket.now) c.cases-case-items.result.now c.loop-place.place c.case-item.result c.loop-place-test.true c.case-item.is))

pub returns : goal.returns
returns g c =
    adds_as
    (c.loop-place.invariant c.loop-place.writer c.loop-place.buffer
    (adds_as (adds_nothing g.W.Sink.puts g.W.Write.contents c.loop-place.writer c.loop-place.buffer)
    (texts_end (visit_text c.args.docket.now) c.cases-case-items.result.now c.loop-place.place c.loop-place-test.false)))
    (ap (flat_map (visit_text c.args.docket.now)) c.cases-case-items.ensures.cases)

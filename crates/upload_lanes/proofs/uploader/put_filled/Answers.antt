use Rattle.std.proofs.Common.{◌+◌, ◌≤◌, [], None, append-nil, length, refl, subst, sym}
use Rattle.std.specs.Option.{option_to_list}
use Rattle.std.specs.Prelude.{MatchBool}
use Rattle.crossbeam_queue.specs.Passes.{view}
use Rattle.upload_lanes.proofs.UploaderLaws.{alone, few_put, put_all, put_last, put_nothing}
use Rattle.upload_lanes.specs.inside.Sent.{bodies, parts, spread, IsPutting, HasPut}
use Rattle.upload_lanes.specs.declared.sent.Sent.TheVariants.{Last}
use Rattle.upload_lanes.proofs.uploader.put_filled.Goals as goal

pub send-requires-clause-few : goal.send-requires-clause-few
send-requires-clause-few g c = few_put c.args.size (view c.args.putter.now).put (parts c.args.parcel) c.args.upload.now c.requires.putting

pub returns-then-not-send-clause-put : goal.returns-then-not-send-clause-put
returns-then-not-send-clause-put g c =
    let filled = c.fill-ending.ensures in
    let upload = c.fill-ending.new.upload in
    put_nothing c.args.size c.args.upload.now (view c.args.putter.now) (view c.send.new.putter) (parts c.args.parcel) c.requires.putting c.fill-ending.new.parcel upload
    (filled.held (bodies (spread (view c.args.putter.now).put)) c.requires.putting.all)
    (subst (λ ending. length (parts c.fill-ending.new.parcel) + length (option_to_list ending) ≤ c.args.size) (sym filled.ending) filled.fits) filled.gives.few c.if-not-send.ensures.sent

pub end_lane-requires-clause-few : goal.end_lane-requires-clause-few
end_lane-requires-clause-few g c =
    let filled = c.fill-ending.ensures in
    let upload = c.fill-ending.new.upload in
    few_put c.args.size (view c.send.new.putter).put [] (record upload { ending = None })
    (put_all c.args.size c.args.upload.now (view c.args.putter.now) (view c.send.new.putter) (parts c.args.parcel) c.requires.putting c.fill-ending.new.parcel upload
    (filled.held (bodies (spread (view c.args.putter.now).put)) c.requires.putting.all)
    (subst (λ ending. length (parts c.fill-ending.new.parcel) + length (option_to_list ending) ≤ c.args.size) (sym filled.ending) filled.fits) filled.gives.few
    (record upload { ending = None }) refl refl c.if-not-send.ensures.sent)

pub returns-in-None-clause-put : goal.returns-in-None-clause-put
returns-in-None-clause-put g c =
    let filled = c.fill-ending.ensures in
    let upload = c.fill-ending.new.upload in
    put_all c.args.size c.args.upload.now (view c.args.putter.now) (view c.send.new.putter) (parts c.args.parcel) c.requires.putting c.fill-ending.new.parcel upload
    (filled.held (bodies (spread (view c.args.putter.now).put)) c.requires.putting.all)
    (subst (λ ending. length (parts c.fill-ending.new.parcel) + length (option_to_list ending) ≤ c.args.size) (sym filled.ending) filled.fits) filled.gives.few
    upload refl c.in-None.ensures.ending c.if-not-send.ensures.sent

pub returns-in-Some-clause-put : goal.returns-in-Some-clause-put
returns-in-Some-clause-put g c =
    let filled = c.fill-ending.ensures in
    let upload = c.fill-ending.new.upload in
    let putting = put_all c.args.size c.args.upload.now (view c.args.putter.now) (view c.send.new.putter) (parts c.args.parcel) c.requires.putting c.fill-ending.new.parcel upload
    (filled.held (bodies (spread (view c.args.putter.now).put)) c.requires.putting.all)
    (subst (λ ending. length (parts c.fill-ending.new.parcel) + length (option_to_list ending) ≤ c.args.size) (sym filled.ending) filled.fits) filled.gives.few
    (record upload { ending = None }) refl refl c.if-not-send.ensures.sent in
    subst (λ more. MatchBool more (IsPutting c.args.size (view c.end_lane.new.putter).put [] upload) (HasPut c.args.size (view c.end_lane.new.putter).put upload)) (sym c.end_lane.ensures.over)
    (put_last c.args.size c.requires.size (record upload { ending = None }) (view c.send.new.putter) (view c.end_lane.new.putter) putting upload c.in-Some.ending
    (sym (append-nil upload.given)) c.in-Some.ensures.ending c.of-last.result (alone c.of-last.result (Last c.in-Some.ending) c.of-last.ensures.first c.of-last.ensures.alone)
    c.end_lane.ensures.sent.0 c.end_lane.ensures.sent.1)

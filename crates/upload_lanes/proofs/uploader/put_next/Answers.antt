use Rattle.std.proofs.Common.{[], ap, subst, sym, ◌∙◌}
use Rattle.std.specs.Prelude.{MatchBool}
use Rattle.crossbeam_queue.specs.Passes.{view}
use Rattle.upload_reader.specs.declared.ending.Ending.TheVariants as ending
use Rattle.upload_reader.specs.declared.next.Next.TheVariants as next
use Rattle.upload_lanes.proofs.UploaderLaws.{alone, few_put, one_held, put_last, read_next}
use Rattle.upload_lanes.specs.inside.Sent.{IsPutting, HasPut}
use Rattle.upload_lanes.specs.declared.sent.Sent.TheVariants.{One, Last}
use Rattle.upload_lanes.proofs.uploader.put_next.Goals as goal

pub put_filled-requires-clause-putting : goal.put_filled-requires-clause-putting
put_filled-requires-clause-putting g c κs within =
    one_held c.args.size (view c.args.putter.now).put c.args.upload.now c.next.new.self (c.in-Got.message, c.in-Got.cost) c.of-parcel.result c.requires.putting
    (ap (λ upload. upload.given) c.in-Got.ensures.given) (ap (λ upload. upload.ending) c.in-Got.ensures.given) c.next.ensures.few
    (alone c.of-parcel.result (One (c.in-Got.message, c.in-Got.cost)) (c.of-parcel.ensures.first ∙ ap One c.new.ensures) c.of-parcel.ensures.alone)

pub returns-in-Got-clause-read : goal.returns-in-Got-clause-read
returns-in-Got-clause-read g c = λ begun before.
    c.put_filled.ensures.gives.read begun
    (read_next begun c.args.upload.now c.next.new.self (next.Got c.in-Got.message c.in-Got.cost) c.in-Got.ensures.given c.next.ensures.reads c.next.ensures.first c.next.ensures.few tt c.in-Got.ensures.lawful before)

pub end_lane-requires-clause-few : goal.end_lane-requires-clause-few
end_lane-requires-clause-few g c = few_put c.args.size (view c.args.putter.now).put [] c.args.upload.now c.requires.putting

pub returns-in-Over-clause-read : goal.returns-in-Over-clause-read
returns-in-Over-clause-read g c = λ begun before.
    read_next begun c.args.upload.now c.next.new.self (next.Over c.in-Over.end) c.in-Over.ensures.given c.next.ensures.reads c.next.ensures.first c.next.ensures.few c.in-Over.ensures.over tt before

pub returns-in-Over-clause-put : goal.returns-in-Over-clause-put
returns-in-Over-clause-put g c =
    subst (λ more. MatchBool more (IsPutting c.args.size (view c.end_lane.new.putter).put [] c.next.new.self) (HasPut c.args.size (view c.end_lane.new.putter).put c.next.new.self)) (sym c.end_lane.ensures.over)
    (put_last c.args.size c.requires.size c.args.upload.now (view c.args.putter.now) (view c.end_lane.new.putter) c.requires.putting c.next.new.self (ending.Over c.in-Over.end)
    (ap (λ upload. upload.given) c.in-Over.ensures.given) (ap (λ upload. upload.ending) c.in-Over.ensures.given) c.of-last.result
    (alone c.of-last.result (Last (ending.Over c.in-Over.end)) c.of-last.ensures.first c.of-last.ensures.alone) c.end_lane.ensures.sent.0 c.end_lane.ensures.sent.1)

pub end_lane-requires-in-GaveUp-clause-few : goal.end_lane-requires-in-GaveUp-clause-few
end_lane-requires-in-GaveUp-clause-few g c = few_put c.args.size (view c.args.putter.now).put [] c.args.upload.now c.requires.putting

pub returns-in-GaveUp-clause-read : goal.returns-in-GaveUp-clause-read
returns-in-GaveUp-clause-read g c = λ begun before.
    read_next begun c.args.upload.now c.next.new.self next.GaveUp c.in-GaveUp.ensures.given c.next.ensures.reads c.next.ensures.first c.next.ensures.few tt tt before

pub returns-in-GaveUp-clause-put : goal.returns-in-GaveUp-clause-put
returns-in-GaveUp-clause-put g c =
    subst (λ more. MatchBool more (IsPutting c.args.size (view c.end_lane-in-GaveUp.new.putter).put [] c.next.new.self) (HasPut c.args.size (view c.end_lane-in-GaveUp.new.putter).put c.next.new.self)) (sym c.end_lane-in-GaveUp.ensures.over)
    (put_last c.args.size c.requires.size c.args.upload.now (view c.args.putter.now) (view c.end_lane-in-GaveUp.new.putter) c.requires.putting c.next.new.self ending.GaveUp
    (ap (λ upload. upload.given) c.in-GaveUp.ensures.given) (ap (λ upload. upload.ending) c.in-GaveUp.ensures.given) c.of-last-in-GaveUp.result
    (alone c.of-last-in-GaveUp.result (Last ending.GaveUp) c.of-last-in-GaveUp.ensures.first c.of-last-in-GaveUp.ensures.alone) c.end_lane-in-GaveUp.ensures.sent.0 c.end_lane-in-GaveUp.ensures.sent.1)

use Rattle.upload_reader.specs.declared.next.Next.TheVariants as next
use Rattle.upload_lanes.proofs.UploaderLaws.{gives_read}
use Rattle.upload_lanes.proofs.uploader.add_next.Goals as goal

pub returns-in-Got-clause-gives : goal.returns-in-Got-clause-gives
returns-in-Got-clause-gives g c =
    gives_read c.args.upload.now c.next.new.self (next.Got c.in-Got.message c.in-Got.cost) c.in-Got.ensures.given c.next.ensures.reads c.requires.there c.next.ensures.first c.next.ensures.few tt c.in-Got.ensures.lawful

pub returns-in-Over-clause-gives : goal.returns-in-Over-clause-gives
returns-in-Over-clause-gives g c =
    gives_read c.args.upload.now c.next.new.self (next.Over c.in-Over.end) c.in-Over.ensures.given c.next.ensures.reads c.requires.there c.next.ensures.first c.next.ensures.few c.in-Over.ensures.over tt

pub returns-in-GaveUp-clause-gives : goal.returns-in-GaveUp-clause-gives
returns-in-GaveUp-clause-gives g c =
    gives_read c.args.upload.now c.next.new.self next.GaveUp c.in-GaveUp.ensures.given c.next.ensures.reads c.requires.there c.next.ensures.first c.next.ensures.few tt tt

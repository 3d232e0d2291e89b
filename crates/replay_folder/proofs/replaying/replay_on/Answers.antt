use Rattle.std.proofs.Common.{inl}
use Rattle.byte_streams.specs.Reading.{WasRead}
use Rattle.replay_folder.proofs.FolderLaws.{replays_on}
use Rattle.replay_folder.proofs.replaying.replay_on.Goals as goal

pub returns-in-Err : goal.returns-in-Err
returns-in-Err g c = inl c.in-Err.ensures.nothing

pub returns-in-Ok : goal.returns-in-Ok
returns-in-Ok g c =
    rw c.written_status.ensures
    (replays_on (g.O.OpensUploads.opened c.args.opener.now) (g.O.OpensUploads.listed c.args.opener.now) (WasRead g.F.Source.answers g.F.Read.remaining) c.args.site.now c.args.uploads _ c.in-Ok.both.0 c.in-Ok.both.1
    c.in-Ok.ensures.reported)

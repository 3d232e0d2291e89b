use Rattle.std.proofs.Common.{◌≡◌, None, length}
use Rattle.upload_lanes.specs.inside.Sent.{parts, IsHeld, GivesRead}
use Rattle.upload_lanes.proofs.uploader.fill.Given as goal

abbrev pub invariant-loop-held : goal.invariant-loop-held
invariant-loop-held g l =
    (length (parts l.parcel) ≡ l.held)
    × (l.upload.ending ≡ None)
    × GivesRead l.initial.upload l.upload
    × IsHeld l.initial.parcel l.initial.upload l.parcel l.upload

use Rattle.std.proofs.Common.{◌≡◌, ◌∷◌, sym, subst, rules}
use Rattle.std.specs.List.{FoldsTo}
use Rattle.byte_streams.specs.Reading.{WasRead}
use Rattle.warp_server.specs.program.Callers.{sayings, GivesBack}
use Rattle.warp_server.proofs.program.rounds.give_back.Goals as goal

pub loop-upload-preserved : goal.loop-upload-preserved
loop-upload-preserved g c =
    let are : c.loop-upload.upload-iterator.rest.items ≡ c.in-Some.upload ∷ c.next.new.self.rest.items = search rules in
    λ now rest. c.loop-upload.invariant now
    (subst (λ uploads. FoldsTo (GivesBack (sayings (WasRead g.R.Source.answers g.R.Read.remaining) g.C.Callers.brings g.C.Callers.brings_none g.C.Callers.takes_back)) c.loop-upload.callers uploads now) (sym are)
    (c.take_back.new.self, (c.into_reader.result, (c.into_reader.ensures.read, c.into_reader.ensures.ends), c.take_back.ensures), rest))

use Rattle.std.proofs.Common.{refl, ◌∙◌}
use Rattle.std.proofs.lemmas.Result.{IfOk-weaker}
use Rattle.byte_streams.specs.Reading.{WasRead}
use Rattle.replay_folder.specs.Ends.{unopened}
use Rattle.replay_folder.proofs.NamesLaws.{path_greets}
use Rattle.replay_folder.proofs.greeting.greet_path.Goals as goal

pub returns-in-Ok : goal.returns-in-Ok
returns-in-Ok g c =
    IfOk-weaker c.greet_source.result _ _
    (path_greets (WasRead g.F.Source.answers g.F.Read.remaining) (g.O.OpensUploads.opened c.args.opener.now) c.args.path.now c.in-Ok.file c.in-Ok.ensures) c.greet_source.ensures

pub returns-in_default : goal.returns-in_default
returns-in_default g c = (unopened, refl, refl, refl, (c.in-Err.error, c.in-Err.ensures, λ is. c.in_default.not-OutOfMemory (c.kind.ensures ∙ is)))
